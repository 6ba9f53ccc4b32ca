-- What a vector contained before is still a prefix of it, even if memory ran out in the middle.
use Rattle.std.proofs.Common.{◌≡◌, ℕ, List, ◌++◌, length, take, drop, append_assoc, sym, ap, ◌∙◌}
use Rattle.std.specs.Io.{StartsWith}
use Rattle.std.proofs.Math.Seq.{take-append_seam, take-length}
use Rattle.std.proofs.lemmas.List.{take-append-drop}

pub seam : (a b : List ℕ) → take (length a) (a ++ b) ≡ a
seam a b = take-append_seam a b

pub whole : (a : List ℕ) → take (length a) a ≡ a
whole a = take-length a

pub parts : (n : ℕ) (a : List ℕ) → take n a ++ drop n a ≡ a
parts n a = take-append-drop n a

pub regroup : (a b c : List ℕ) → (a ++ b) ++ c ≡ a ++ (b ++ c)
regroup a b c = append_assoc a b c

pub ruleset prefixes = (seam, whole, parts, regroup)

-- a prefix stays one if more is appended
pub prefix_more : (a b x c : List ℕ) → StartsWith b a → c ≡ b ++ x → StartsWith c a
prefix_more a b x c prefix is =
    let d = drop (length a) b in
    let splits : c ≡ a ++ (d ++ x) = is ∙ ap (λ (l : List ℕ). l ++ x) (sym (take-append-drop (length a) b) ∙ ap (λ (l : List ℕ). l ++ d) prefix) ∙ append_assoc a d x in
    ap (λ (l : List ℕ). take (length a) l) splits ∙ take-append_seam a (d ++ x)

-- a prefix of a prefix is a prefix of the whole
pub prefix_then : (a b c : List ℕ) → StartsWith b a → StartsWith c b → StartsWith c a
prefix_then a b c prefix more = prefix_more a b (drop (length b) c) c prefix (sym (take-append-drop (length b) c) ∙ ap (λ (l : List ℕ). l ++ drop (length b) c) more)

-- what bytes were before more was appended is a prefix of them
pub prefix_all : (a x : List ℕ) {c : List ℕ} → c ≡ a ++ x → StartsWith c a
prefix_all a x {c} is = ap (λ (l : List ℕ). take (length a) l) is ∙ take-append_seam a x
