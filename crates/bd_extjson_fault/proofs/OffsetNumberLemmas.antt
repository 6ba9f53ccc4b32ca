-- Where a number stops.
use Rattle.std.proofs.Common.{◌≡◌, ◌==◌, ◌∙◌, ◌++◌, sym, refl, ◌||◌, if◌then◌else◌, ℕ, Bool, true, false, List, [], ◌∷◌, drop, ap, Ok, Err}
use Rattle.bd_extjson_fault.specs.declared.skip.StopKind.TheVariants.{Syntax}
use Rattle.bd_extjson_fault.specs.JsonSyntax.{Beyond, ◌>>=◌, begins, beyond_all, beyond_if, is_decimal, beyond_digits, beyond_natural, beyond_fraction, beyond_exponent, beyond_number}
use Rattle.bd_extjson_fault.proofs.OffsetLemmas.{begins_same, begins_fits, Fits, fits_beyond, Gives, Decided, Passed, lift, here, at_end, Errs, Oks, then_errs, then_oks, run_of, run_ends}

-- an optional byte before an item
pub if_errs : (is : ℕ → Bool) (item : List ℕ → Beyond) → Errs item → Errs (λ x. item (beyond_if is x))
if_errs is item fails text stop e = go text (begins is text) refl e
  where
    go : (t : List ℕ) (x : Bool) → begins is t ≡ x → item (beyond_if is t) ≡ Err stop → Decided (Gives (λ x. item (beyond_if is x))) t stop
    go [] true at e = absurd cc
    go (b ∷ t) true at e = lift (Gives item) (Gives (λ x. item (beyond_if is x))) (b ∷ t) (b ∷ []) t stop refl
        (λ other s same h. rw at h) (fails t stop (rw at at e))
    go t false at e = lift (Gives item) (Gives (λ x. item (beyond_if is x))) t [] t stop refl
        (λ other s same h. rw (begins_same is other t same ∙ at) h) (fails t stop (rw at at e))

pub if_oks : (is : ℕ → Bool) (item : List ℕ → Beyond) → is 93 ≡ false → is 125 ≡ false → Oks item → Oks (λ x. item (beyond_if is x))
if_oks is item bracket brace passes text rest e = go text (begins is text) refl e
  where
    go : (t : List ℕ) (x : Bool) → begins is t ≡ x → item (beyond_if is t) ≡ Ok rest
        → Passed (Gives (λ x. item (beyond_if is x))) (λ x. x) (Fits rest) t rest
    go [] true at e = absurd cc
    go (b ∷ t) true at e =
        let p = passes t rest (rw at at e) in
        record { taken = b ∷ p.taken; split = ap (λ x. b ∷ x) p.split; passes = λ other fits. rw at (p.passes other fits) }
    go t false at e =
        let p = passes t rest (rw at at e) in
        record {
          taken = p.taken;
          split = p.split;
          passes = λ other fits. rw (begins_fits is t (p.taken ++ other) bracket brace (fits_beyond t p.taken rest other p.split fits) at) (p.passes other fits);
        }

digits_errs : Errs beyond_digits
unfolding beyond_digits
digits_errs [] stop e = at_end (Gives beyond_digits) Syntax [] stop e
digits_errs (b ∷ text) stop e = go (is_decimal b) refl e
  where
    go : (x : Bool) → is_decimal b ≡ x → beyond_digits (b ∷ text) ≡ Err stop → Decided (Gives beyond_digits) (b ∷ text) stop
    go true is e = let f = rw is at e in absurd cc
    go false is e = here (Gives beyond_digits) Syntax b text stop (rw is at e) (λ other. rw is refl)

digits_oks : Oks beyond_digits
unfolding beyond_digits beyond_all
digits_oks [] rest e = absurd cc
digits_oks (b ∷ text) rest e = go (is_decimal b) refl e
  where
    go : (x : Bool) → is_decimal b ≡ x → beyond_digits (b ∷ text) ≡ Ok rest → Passed (Gives beyond_digits) (λ x. x) (Fits rest) (b ∷ text) rest
    go true is e =
        let r = run_of is_decimal text in
        let f : ◌≡◌ {A = Beyond} (Ok (beyond_all is_decimal text)) (Ok rest) = rw is at e in
        let same : beyond_all is_decimal text ≡ rest = cc in
        record {
          taken = b ∷ r.taken;
          split = ap (λ x. b ∷ x) (r.split ∙ ap (λ x. r.taken ++ x) same);
          passes = λ other fits.
              let none : begins is_decimal other ≡ false = begins_fits is_decimal rest other refl refl fits (ap (begins is_decimal) (sym same) ∙ run_ends is_decimal text) in
              rw (is, r.passes other none) refl;
        }
    go false is e = let f = rw is at e in absurd cc

natural_errs : Errs beyond_natural
unfolding beyond_natural
natural_errs text stop e = go (begins (λ b. b == 48) text) refl e
  where
    go : (x : Bool) → begins (λ b. b == 48) text ≡ x → beyond_natural text ≡ Err stop → Decided (Gives beyond_natural) text stop
    go true is e = let f = rw is at e in absurd cc
    go false is e = lift (Gives beyond_digits) (Gives beyond_natural) text [] text stop refl
        (λ other s same h. rw (begins_same (λ b. b == 48) other text same ∙ is) h) (digits_errs text stop (rw is at e))

natural_oks : Oks beyond_natural
unfolding beyond_natural
natural_oks text rest e = go text (begins (λ b. b == 48) text) refl e
  where
    go : (t : List ℕ) (x : Bool) → begins (λ b. b == 48) t ≡ x → beyond_natural t ≡ Ok rest → Passed (Gives beyond_natural) (λ x. x) (Fits rest) t rest
    go [] true is e = absurd cc
    go (b ∷ t) true is e =
        let f : ◌≡◌ {A = Beyond} (Ok t) (Ok rest) = rw is at e in
        let same : t ≡ rest = cc in
        record { taken = b ∷ []; split = ap (λ x. b ∷ x) same; passes = λ other fits. rw is refl }
    go t false is e =
        let p = digits_oks t rest (rw is at e) in
        record {
          taken = p.taken;
          split = p.split;
          passes = λ other fits.
              rw (begins_fits (λ b. b == 48) t (p.taken ++ other) refl refl (fits_beyond t p.taken rest other p.split fits) is) (p.passes other fits);
        }

-- an item after a byte, if that byte comes first
optional_errs : (is : ℕ → Bool) (item : List ℕ → Beyond) → Errs item → Errs (λ x. if begins is x then item (drop 1 x) else Ok x)
optional_errs is item fails [] stop e = absurd cc
optional_errs is item fails (b ∷ text) stop e = go (is b) refl e
  where
    go : (x : Bool) → is b ≡ x → (if is b then item text else Ok (b ∷ text)) ≡ Err stop
        → Decided (Gives (λ x. if begins is x then item (drop 1 x) else Ok x)) (b ∷ text) stop
    go true at e = lift (Gives item) (Gives (λ x. if begins is x then item (drop 1 x) else Ok x)) (b ∷ text) (b ∷ []) text stop refl
        (λ other s same h. rw at h) (fails text stop (rw at at e))
    go false at e = let f = rw at at e in absurd cc

optional_oks : (is : ℕ → Bool) (item : List ℕ → Beyond) → is 93 ≡ false → is 125 ≡ false → Oks item → Oks (λ x. if begins is x then item (drop 1 x) else Ok x)
optional_oks is item bracket brace passes text rest e = go text (begins is text) refl e
  where
    go : (t : List ℕ) (x : Bool) → begins is t ≡ x → (if begins is t then item (drop 1 t) else Ok t) ≡ Ok rest
        → Passed (Gives (λ x. if begins is x then item (drop 1 x) else Ok x)) (λ x. x) (Fits rest) t rest
    go [] true at e = absurd cc
    go (b ∷ t) true at e =
        let p = passes t rest (rw at at e) in
        record { taken = b ∷ p.taken; split = ap (λ x. b ∷ x) p.split; passes = λ other fits. rw at (p.passes other fits) }
    go t false at e =
        let f : ◌≡◌ {A = Beyond} (Ok t) (Ok rest) = rw at at e in
        let same : t ≡ rest = cc in
        record { taken = []; split = same; passes = λ other fits. rw (begins_fits is rest other bracket brace fits (ap (begins is) (sym same) ∙ at)) refl }

fraction_errs : Errs beyond_fraction
unfolding beyond_fraction
fraction_errs = optional_errs (λ b. b == 46) beyond_digits digits_errs

pub fraction_oks : Oks beyond_fraction
unfolding beyond_fraction
fraction_oks = optional_oks (λ b. b == 46) beyond_digits refl refl digits_oks

abbrev pub after_sign : List ℕ → Beyond
after_sign text = beyond_digits (beyond_if (λ b. b == 43 || b == 45) text)

exponent_errs : Errs beyond_exponent
unfolding beyond_exponent
exponent_errs = optional_errs (λ b. b == 101 || b == 69) after_sign (if_errs (λ b. b == 43 || b == 45) beyond_digits digits_errs)

exponent_oks : Oks beyond_exponent
unfolding beyond_exponent
exponent_oks = optional_oks (λ b. b == 101 || b == 69) after_sign refl refl (if_oks (λ b. b == 43 || b == 45) beyond_digits refl refl digits_oks)

-- a number up to its fraction
abbrev pub whole_part : List ℕ → Beyond
whole_part text = beyond_natural (beyond_if (λ b. b == 45) text)

whole_errs : Errs whole_part
whole_errs = if_errs (λ b. b == 45) beyond_natural natural_errs

pub whole_oks : Oks whole_part
whole_oks = if_oks (λ b. b == 45) beyond_natural refl refl natural_oks

pub number_errs : Errs beyond_number
unfolding beyond_number
number_errs = then_errs (λ x. whole_part x >>= beyond_fraction) beyond_exponent (then_errs whole_part beyond_fraction whole_errs whole_oks fraction_errs)
    (then_oks whole_part beyond_fraction whole_oks fraction_oks) exponent_errs

pub number_oks : Oks beyond_number
unfolding beyond_number
number_oks = then_oks (λ x. whole_part x >>= beyond_fraction) beyond_exponent (then_oks whole_part beyond_fraction whole_oks fraction_oks) exponent_oks
