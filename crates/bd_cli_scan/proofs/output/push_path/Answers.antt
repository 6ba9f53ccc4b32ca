use Rattle.std.proofs.Common.{rules, ◌≡◌, IsUtf8, map, subst, sym}
use Rattle.std.specs.{List.join_with_byte, Prelude.string_bytes}
use Rattle.bd_extjson_text.specs.Text.{quoted}
use Rattle.bd_cli_scan.proofs.OutputLemmas.{path_utf8}
use Rattle.bd_cli_scan.proofs.output.push_path.Goals as goal

pub unreachable-requires : goal.unreachable-requires
unreachable-requires c =
    let is : c.deref.result.now ≡ quoted (join_with_byte 46 (map string_bytes c.args.path.now)) = search rules in
    c.in-Err.ensures.cases.0 (subst IsUtf8 (sym is) (path_utf8 c.args.path.now))
