-- Where a text stops to be JSON.
use Rattle.std.proofs.Common.{◌≡◌, ◌-◌, ◌+◌, ◌∙◌, ◌++◌, ◌⊎◌, sym, refl, inl, inr, ℕ, suc, true, false, List, [], ◌∷◌, length, take, drop, ap, Ok, Err, IsUtf8, append_assoc, length-append, take-append-drop, arith}
use Rattle.std.proofs.lemmas.Str.{IsUtf8-append}
use Rattle.std.proofs.Math.Seq.{take-append-add, take-append_seam, drop-append_seam}
use Rattle.bd_extjson_fault.specs.declared.json_fault.JsonFault.{JsonFault}
use Rattle.bd_extjson_fault.specs.declared.skip.Stop.{Stop}
use Rattle.bd_extjson_fault.specs.declared.skip.StopKind.{StopKind}
use Rattle.bd_extjson_fault.specs.FaultOffset.{StopsInside, StaysWithMore, CannotContinue, begins_surrogate, SplitsSurrogate, BeginsJson, CouldUntilThere}
use Rattle.bd_extjson_fault.specs.JsonSyntax.{Beyond, beyond_text}
use Rattle.bd_extjson_fault.specs.TextFault.{text_fault, kind_of_stop}
use Rattle.bd_extjson_fault.proofs.OffsetLemmas.{Gives, Decided, Settled, stop_at}
use Rattle.bd_extjson_fault.proofs.OffsetValueLemmas.{text_errs, text_ok}
use Rattle.bd_extjson_fault.proofs.GoOnLemmas.{plain}
use Rattle.bd_extjson_fault.proofs.GoOnValueLemmas.{Begins, text_begins}
use Rattle.bd_extjson_fault.proofs.WholeLemmas.{before_utf8, plain_utf8}
use Rattle.bd_extjson_fault.proofs.TextFaultLemmas.{of_no_json}

abbrev fault_of : StopKind → ℕ → JsonFault
fault_of kind at = record { kind = kind_of_stop kind; at = at }

-- the fault is at the first byte of the rest of the text
fault_there : (text before rest : List ℕ) (kind : StopKind) → IsUtf8 text → text ≡ before ++ rest → beyond_text text ≡ Err (stop_at kind rest)
    → text_fault text ≡ fault_of kind (length before)
fault_there text before rest kind utf8 split e =
    let size : length text ≡ length (before ++ rest) = ap length split in
    let at : length text - length rest ≡ length before = omega (arith, size, length-append before rest) in
    of_no_json text (stop_at kind rest) utf8 e ∙ ap (fault_of kind) at

abbrev HasStop : List ℕ → Type 0
HasStop text = (stop : Stop) × (beyond_text text ≡ Err stop) × Settled (Gives beyond_text) text stop

stop_of : (text : List ℕ) → StopsInside text → HasStop text
stop_of text inside = go (beyond_text text) refl
  where
    settled : (stop : Stop) → beyond_text text ≡ Err stop → Decided (Gives beyond_text) text stop → Settled (Gives beyond_text) text stop
    settled stop is (inl end) =
        let at : (text_fault text).at ≡ length text - stop.remaining = ap (λ f. f.at) (of_no_json text stop inside.0 is) in
        absurd (omega (arith, at, end, inside.2))
    settled stop is (inr d) = d

    go : (answer : Beyond) → beyond_text text ≡ answer → HasStop text
    go (Ok rest) is = absurd (inside.1 (inside.0, is ∙ ap Ok (text_ok text rest is)))
    go (Err stop) is = (stop, is, settled stop is (text_errs text stop is))

pub stays_with_more : (text : List ℕ) → StaysWithMore text
stays_with_more text inside more utf8 =
    let s = stop_of text inside in
    let d = s.2 in
    let split : text ++ more ≡ d.before ++ (d.first ∷ (d.more ++ (d.rest ++ more))) =
    ap (λ x. x ++ more) d.split ∙ append_assoc d.before (d.first ∷ (d.more ++ d.rest)) more ∙ ap (λ x. d.before ++ (d.first ∷ x)) (append_assoc d.more d.rest more) in
    fault_there (text ++ more) d.before (d.first ∷ (d.more ++ (d.rest ++ more))) d.kind utf8 split (ap beyond_text split ∙ d.stays (d.rest ++ more))
    ∙ sym (fault_there text d.before (d.first ∷ (d.more ++ d.rest)) d.kind inside.0 d.split (s.1 ∙ ap Err d.reported))

-- a text with the same bytes up to and with the first one of the rest
same_bytes : (text other before rest : List ℕ) (first : ℕ) → text ≡ before ++ (first ∷ rest) → take (suc (length before)) other ≡ take (suc (length before)) text
    → other ≡ before ++ (first ∷ drop (suc (length before)) other)
same_bytes text other before rest first split same =
    let next : suc (length before) ≡ length before + 1 = omega arith in
    let prefix : take (suc (length before)) other ≡ before ++ (first ∷ []) =
    same ∙ ap (λ x. take (suc (length before)) x) split ∙ ap (λ n. take n (before ++ (first ∷ rest))) next ∙ take-append-add before (first ∷ rest) 1 in
    sym (take-append-drop (suc (length before)) other) ∙ ap (λ x. x ++ drop (suc (length before)) other) prefix
    ∙ append_assoc before (first ∷ []) (drop (suc (length before)) other)

pub cannot_continue : (text : List ℕ) → CannotContinue text
cannot_continue text inside plain other utf8 same = go d.short
  where
    s : HasStop text
    s = stop_of text inside

    d : Settled (Gives beyond_text) text s.0
    d = s.2

    fault_is : text_fault text ≡ fault_of d.kind (length d.before)
    fault_is = fault_there text d.before (d.first ∷ (d.more ++ d.rest)) d.kind inside.0 d.split (s.1 ∙ ap Err d.reported)

    at : (text_fault text).at ≡ length d.before
    at = ap (λ f. f.at) fault_is

    go : (d.more ≡ []) ⊎ (begins_surrogate (d.first ∷ (d.more ++ d.rest)) ≡ true) → text_fault other ≡ text_fault text
    go (inl none) =
        let tail = drop (suc (length d.before)) other in
        let split : other ≡ d.before ++ (d.first ∷ tail) = same_bytes text other d.before (d.more ++ d.rest) d.first d.split (rw at at same) in
        let stays : beyond_text (d.before ++ (d.first ∷ ([] ++ tail))) ≡ Err (stop_at d.kind (d.first ∷ ([] ++ tail))) = rw none at (d.stays tail) in
        fault_there other d.before (d.first ∷ tail) d.kind utf8 split (ap beyond_text split ∙ stays) ∙ sym fault_is
    go (inr surrogate) =
        let from : drop (text_fault text).at text ≡ d.first ∷ (d.more ++ d.rest) =
        ap (λ n. drop n text) at ∙ ap (λ x. drop (length d.before) x) d.split ∙ drop-append_seam d.before (d.first ∷ (d.more ++ d.rest)) in
        let not : begins_surrogate (d.first ∷ (d.more ++ d.rest)) ≡ false = ap begins_surrogate (sym from) ∙ plain in
        absurd cc

-- ---- until there it could

before_fault : (text : List ℕ) (stop : Stop) → IsUtf8 text → beyond_text text ≡ Err stop → Begins text stop
    → SplitsSurrogate (take (text_fault text).at text) ⊎ BeginsJson (take (text_fault text).at text)
before_fault text stop utf8 e b = rw prefix (go b.goes)
  where
    size : length text ≡ length (b.before ++ b.rest)
    size = ap length b.split

    at : (text_fault text).at ≡ length b.before
    at = ap (λ f. f.at) (of_no_json text stop utf8 e) ∙ omega (arith, size, b.remaining, length-append b.before b.rest)

    prefix : take (text_fault text).at text ≡ b.before
    prefix = ap (λ n. take n text) at ∙ ap (λ x. take (length b.before) x) b.split ∙ take-append_seam b.before b.rest

    whole : IsUtf8 b.before
    whole = before_utf8 text b.before b.rest stop utf8 e b.split b.remaining

    go : SplitsSurrogate b.before ⊎ ((added : List ℕ) × (plain added ≡ true) × (beyond_text (b.before ++ added) ≡ Ok [])) → SplitsSurrogate b.before ⊎ BeginsJson b.before
    go (inl splits) = inl splits
    go (inr g) = inr (g.0, (IsUtf8-append b.before g.0 whole (plain_utf8 g.0 g.1), g.2))

pub could_until_there : (text : List ℕ) → CouldUntilThere text
could_until_there text utf8 no_json = go (beyond_text text) refl
  where
    go : (answer : Beyond) → beyond_text text ≡ answer → SplitsSurrogate (take (text_fault text).at text) ⊎ BeginsJson (take (text_fault text).at text)
    go (Ok rest) is = absurd (no_json (utf8, is ∙ ap Ok (text_ok text rest is)))
    go (Err stop) is = before_fault text stop utf8 is (text_begins text stop is)
