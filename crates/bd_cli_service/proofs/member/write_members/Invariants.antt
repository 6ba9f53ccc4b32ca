use Rattle.std.proofs.Common.{◌≡◌, ◌++◌, ◌∷◌, map, drop}
use Rattle.std.specs.Prelude.{codes}
use Rattle.std.specs.Io.{StartsWith}
use Rattle.bd_value.specs.Tree.{boolean, doc, fields_of, leaf}
use Rattle.bd_extjson_text.specs.Text.{text}
use Rattle.bd_cli_service.specs.inside.Reply.{member_pair}
use Rattle.bd_cli_service.proofs.MemberLemmas.{rest_of_object}
use Rattle.bd_cli_service.proofs.member.write_members.Given as goal

-- the text so far, and the rest of it
abbrev pub invariant-loop-name : goal.invariant-loop-name
invariant-loop-name l = record {
  whole : l.out.items ++ rest_of_object (map member_pair (drop l.name-index l.members))
      ≡ l.fn.out.items ++ text (doc (fields_of ((codes "ok", leaf (boolean l.ok)) ∷ map member_pair l.members)));
  prefix : StartsWith l.out.items l.fn.out.items;
}
