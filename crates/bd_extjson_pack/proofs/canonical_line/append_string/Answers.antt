use Rattle.std.proofs.Common.{rules, ◌∙◌, ◌++◌, ◌∷◌, [], ◌+◌, ◌≡◌, length, length-append, ℕ, List}
use Rattle.std.proofs.lemmas.Option.{MatchOption-at_some as of_some}
use Rattle.bd_bson_view.specs.Spelling.{number}
use Rattle.bd_extjson_pack.proofs.CanonicalLemmas.{string_read_whole}
use Rattle.bd_extjson_pack.proofs.BodyLemmas as bodies
use Rattle.bd_extjson_pack.proofs.canonical_line.append_string.Goals as goal

pub end_string-requires : goal.end_string-requires
end_string-requires c =
    let read = c.in_ok-rest.ensures in
    let size = bodies.body_size c.in_ok-start.start c.args.out.now.items (read.0 ++ 0 ∷ []) c.append_contents.new.out.items c.in_ok-start.ensures.offset
    (rw c.in_ok-start.ensures.begun at read.3) in
    search rules

pub returns : goal.returns
returns c =
    let read = c.in_ok-rest.ensures in
    let s = read.0 in
    let inside = of_some _ _ _ c.in_ok-inside.ensures.ok_part c.after_word.ensures in
    let size : length (s ++ 0 ∷ []) ≡ length s + 1 = length-append s (0 ∷ []) in
    let put = c.in_ok-end_string.ensures ∙ bodies.ended (λ (body : List ℕ). number (length body) ++ body) c.in_ok-start.start c.args.out.now.items (s ++ 0 ∷ []) c.append_contents.new.out.items
    c.in_ok-start.ensures.offset (rw c.in_ok-start.ensures.begun at read.3) in
    (s, read.1, string_read_whole c.args.text.now c.in_ok-inside.inside.now c.in_ok-rest.rest.now s inside read.2, rw size at put)
