use Rattle.std.proofs.Common.{◌≡◌, ◌++◌, ◌∙◌, ℕ, ap, rules}
use Rattle.std.proofs.lemmas.Int.{ints}
use Rattle.std.specs.Int.{w64, cast_unsigned}
use Rattle.bd_bson_view.specs.Spelling.{long}
use Rattle.bd_wide_pack.proofs.MixLemmas.{whole_put}
use Rattle.bd_wide_pack.proofs.step.put_whole.Goals as goal

pub returns : goal.returns
returns c =
    let fits = c.ranges.z in
    let n : c.cast_unsigned.result ≡ cast_unsigned w64 c.args.z = search (rules, ints) in
    whole_put c.args.z c.args.name.now _ _ _ c.in_ok-put_name.ensures (c.in_ok-append_long.ensures.ok ∙ ap (λ (k : ℕ). c.put_name.new.out.items ++ long k) n)
