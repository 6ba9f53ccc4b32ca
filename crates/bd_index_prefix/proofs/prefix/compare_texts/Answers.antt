use Rattle.std.proofs.Common.{◌≡◌, ◌∙◌, ap₂, arith, refl, sym, ℕ, List, Bool, true, false, Ordering, IfSome, is_some}
use Rattle.std.specs.{Bool.then_some, Cmp.Lexicographic.slice_cmp, Ordering.nat_cmp, Ordering.ordering_then, declared.cmp.Ordering.TheVariants.Equal}
use Rattle.std.proofs.{Math.Dec.ltb, lemmas.Bool.ltb-true}
use Rattle.bd_value.specs.Order.{bytes_cmp}
use Rattle.bd_index_prefix.specs.Prefix.{prefix_of_text}
use Rattle.bd_index_prefix.proofs.PrefixLemmas.{prefixes_decide, others_decide, tied_decide}
use Rattle.bd_index_prefix.proofs.prefix.compare_texts.Goals as goal

decides : (b : Bool) (P : Ordering → Type 0) → (b ≡ true → P Equal) → IfSome (then_some b Equal) P
decides true P h = h refl
decides false P h = tt

is_decided : (b : Bool) → is_some (then_some b Equal) ≡ b
is_decided b = grind arith

pub returns-in-Equal : goal.returns-in-Equal
returns-in-Equal c =
    let a = c.args.a in
    let b = c.args.b in
    let order : Equal ≡ ordering_then (slice_cmp nat_cmp a.bytes b.bytes) (nat_cmp a.length b.length) =
    sym c.in-Equal.is ∙ c.then.ensures ∙ ap₂ ordering_then c.cmp.ensures c.cmp-2.ensures in
    rw c.then_some.ensures (record {
      order = decides (ltb a.length 16) (λ o. (s t : List ℕ) → a ≡ prefix_of_text s → b ≡ prefix_of_text t → o ≡ bytes_cmp s t) (λ few. prefixes_decide a b Equal order (λ e. ltb-true a.length 16 few));
      decides = is_decided (ltb a.length 16) ∙ tied_decide a b order;
    })

pub returns-in_default : goal.returns-in_default
returns-in_default c =
    let a = c.args.a in
    let b = c.args.b in
    let order : c.then.result ≡ ordering_then (slice_cmp nat_cmp a.bytes b.bytes) (nat_cmp a.length b.length) =
    c.then.ensures ∙ ap₂ ordering_then c.cmp.ensures c.cmp-2.ensures in
    record {
      order = prefixes_decide a b c.then.result order (λ e. absurd (c.in_default.not-Equal e));
      decides = others_decide a b c.then.result order c.in_default.not-Equal;
    }
