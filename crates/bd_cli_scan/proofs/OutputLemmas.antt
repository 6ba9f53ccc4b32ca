-- Lemmas on what a run writes.
use Rattle.std.proofs.Common.{subst, ◌≡◌, ℕ, List, [], ◌∷◌, ◌++◌, refl, sym, ap, ◌∙◌, append_assoc, arith, ap₂, map, IsUtf8, String}
use Rattle.std.proofs.lemmas.{Bool.Decides.nat_tests, Str.IsUtf8-append, Str.IsUtf8-nil, Str.IsUtf8-string_bytes}
use Rattle.std.specs.Prelude.{OnErr, OnOk, Result, Ok, Err, string_bytes}
use Rattle.std.specs.List.{join_with_byte}
use Rattle.bd_value.specs.Tree.{Doc, doc, fields_of}
use Rattle.bd_io_device.specs.Devices.{WriteFailsWithin, Over, TakesText, Writer, between}
use Rattle.bd_io_device.proofs.DevicesLemmas.{write_fails_first, write_fails_second, takes_both}
use Rattle.json.proofs.Printed.Utf8.{IsUtf8-are_ascii, IsUtf8-quoted}
use Rattle.bd_extjson_text.specs.Text.{escape_byte, escaped, quoted, text}
use Rattle.bd_cli_scan.specs.{declared.output.OutputFault.OutputFault}
use Rattle.bd_cli_scan.specs.declared.output.OutputFault.TheVariants.{NoMemory, Unwritten}
use Rattle.bd_cli_scan.specs.Output.{lines}
use Rattle.bd_cli_scan.specs.inside.Output.{WritesSome, WritesText}
use Rattle.json.specs.Print as printed

-- the lines of two lists of documents are those of both joined
pub lines-append : (ds es : List Doc) → lines (ds ++ es) ≡ lines ds ++ lines es
lines-append [] es = refl
lines-append (d ∷ ds) es = ap (λ x. text (doc (fields_of d)) ++ 10 ∷ x) (lines-append ds es) ∙ sym (append_assoc (text (doc (fields_of d))) (10 ∷ lines ds) (lines es))

-- ---- one text after the other

-- a fact also holds if there is an error
pub on_err : {A E : Type 0} (r : Result A E) (P : Type 0) → P → OnErr r P
on_err (Ok x) P h = _
on_err (Err e) P h = h

-- if P holds on an error, and Q follows from P, then Q holds on it
pub on_err_map : {A E : Type 0} (r : Result A E) (P Q : Type 0) → OnErr r P → (P → Q) → OnErr r Q
on_err_map (Ok x) P Q h f = _
on_err_map (Err e) P Q h f = f h

-- the result of writing the second of two texts
pub second_err : {A E : Type 0} (r : Result A E) (old mid new : Writer) (first second : List ℕ) → TakesText (between old mid) first
    → OnErr r (WriteFailsWithin (between mid new) second) → OnErr r (WriteFailsWithin (between old new) (first ++ second))
second_err (Ok x) old mid new first second a h = _
second_err (Err e) old mid new first second a h = write_fails_second old mid new first second a h

-- a text that was taken first and one that a success says was taken then are both taken
pub second_ok : {A E : Type 0} (r : Result A E) (old mid new : Writer) (first second : List ℕ) → TakesText (between old mid) first
    → OnOk r (TakesText (between mid new) second) → OnOk r (TakesText (between old new) (first ++ second))
second_ok (Ok x) old mid new first second a h = takes_both old mid new first second a h
second_ok (Err e) old mid new first second a h = _

pub ruleset taking = (takes_both, write_fails_first, write_fails_second)

-- a text was written, or writing it was stopped
pub wrote_some : {A : Type 0} (Is : List ℕ → Type 0) (text : List ℕ) (out : Over Writer) (r : Result A OutputFault) → Is text → WritesText text out r → WritesSome Is out r
wrote_some Is text out (Ok x) is wrote = (text, is, wrote)
wrote_some Is text out (Err NoMemory) is same = same
wrote_some Is text out (Err Unwritten) is failed_write = (text, is, failed_write)

-- ---- a path is UTF-8

same_byte : (x : ℕ) → escape_byte x ≡ printed.escape_byte x
unfolding escape_byte printed.escape_byte
same_byte x = grind (arith, nat_tests)

same_escapes : (s : List ℕ) → escaped s ≡ printed.escape s
same_escapes [] = refl
same_escapes (x ∷ s) = ap₂ (λ (a b : List ℕ). a ++ b) (same_byte x) (same_escapes s)

joined_utf8 : {Z : Type 0} (names : List (String Z)) → IsUtf8 (join_with_byte 46 (map string_bytes names))
joined_utf8 [] = IsUtf8-nil
joined_utf8 (n ∷ []) = IsUtf8-string_bytes n
joined_utf8 (n ∷ m ∷ ns) =
    IsUtf8-append (string_bytes n) _ (IsUtf8-string_bytes n) (IsUtf8-append (46 ∷ []) _ (IsUtf8-are_ascii (46 ∷ []) refl) (joined_utf8 (m ∷ ns)))

pub path_utf8 : {Z : Type 0} (names : List (String Z)) → IsUtf8 (quoted (join_with_byte 46 (map string_bytes names)))
unfolding quoted
path_utf8 names =
    let path = join_with_byte 46 (map string_bytes names) in
    subst IsUtf8 (ap (λ (l : List ℕ). 34 ∷ (l ++ 34 ∷ [])) (sym (same_escapes path))) (IsUtf8-quoted path (joined_utf8 names))
