use Rattle.std.proofs.Common.{rules, ◌≡◌}
use Rattle.bd_value.specs.View.{kind_of}
use Rattle.bd_bson_view.specs.Spelling.{type_byte}
use Rattle.bd_bson_write.specs.TreeBytes.{bytes_of}
use Rattle.bd_extjson_text.specs.Text.{text}
use Rattle.bd_wide_pack.proofs.CanonicalLineLemmas.{kind_line}
use Rattle.bd_wide_pack.proofs.canonical_line.append_leaf.Goals as goal

pub returns-in_ok-kind-in_default : goal.returns-in_ok-kind-in_default
returns-in_ok-kind-in_default c =
    let g = c.in_ok-kind-in_default.ensures in
    let type : c.type_byte.result ≡ type_byte (kind_of g.0) = search rules in
    let line = kind_line g.0 c.type_byte.result g.2 type in
    (line.0, text g.0, bytes_of g.0, g.1, line.1, g.4)
