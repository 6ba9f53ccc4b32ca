-- A sort with its directions as int32 numbers, pair by pair.
use Rattle.std.proofs.Common.{◌≡◌, ℕ, List, [], ◌∷◌, ◌++◌, sym, ap, ap₂, ◌∙◌, append_assoc, ◌≤◌, ◌&&◌, Bool, true, false, cond, Option, Some, None, Result, Ok, Err, length, refl, inl}
use Rattle.std.proofs.Common.{inr, ◌<◌, true≢false}
use Rattle.bd_value.specs.Tree as trees
use Rattle.bd_value.specs.Tree.{Doc, Tree, leaf, doc, fields_of, pairs_of-fields_of, AreParts}
use Rattle.bd_value.specs.Limits.{greatest_count}
use Rattle.bd_query_filter.specs.{Filter.Filter, FilterOf.filter_of}
use Rattle.bd_cursor_request.specs.Refused.{Reason, plain, then_part}
use Rattle.bd_cursor_request.specs.inside.Request.{rest_part}
use Rattle.bd_cursor_request.specs.Request.{direction_number, request_of, request_with, sort_written, direction_of, are_distinct, pair_names, sort_of, sort_pairs, sort_with}
use Rattle.bd_cursor_request.specs.declared.results.Refused.TheVariants.{BadSort, NoMemory, Range}
use Rattle.bd_cursor_request.specs.{inside.Refused.IsRefusedAs, declared.results.Refused.Refused}
use Rattle.std.specs.{Prelude.nat_le, Prelude.is_some, Prelude.if◌then◌else◌, Option.ok_or, Result.is_ok}
use Rattle.std.proofs.lemmas.Bool.{le-leb, lt-leb}
use Rattle.bd_path.specs.{Sort.SortPath, Reach.Names, declared.sort.Dir.Dir, declared.path.PathFault.PathFault}

abbrev with_pair : Doc → List ℕ → Tree → Doc
with_pair prefix name t = prefix ++ (name, t) ∷ []

-- one more pair is written
pub written_on : (prefix remaining after whole pushed : Doc) (name copy : List ℕ) (t v : Tree) → prefix ++ sort_written remaining ≡ whole → remaining ≡ (name, t) ∷ after
    → pushed ≡ prefix ++ (copy, v) ∷ [] → copy ≡ name → v ≡ leaf (trees.int32 (direction_number (direction_of t))) → pushed ++ sort_written after ≡ whole
written_on prefix remaining after whole pushed name copy t v so_far is push same number =
    ap (λ (d : Doc). d ++ sort_written after) (push ∙ ap₂ (with_pair prefix) same number)
    ∙ append_assoc prefix ((name, leaf (trees.int32 (direction_number (direction_of t)))) ∷ []) (sort_written after)
    ∙ ap (λ (d : Doc). prefix ++ sort_written d) (sym is) ∙ so_far

-- the paths read so far, and the remaining ones
abbrev pub joined : List SortPath → Option (List SortPath) → Option (List SortPath)
joined prefix (Some ss) = Some (prefix ++ ss)
joined prefix None = None

-- a document of these pairs
pub parts_are : (d ps : Doc) → AreParts (doc (fields_of d)) ps → ps ≡ d
parts_are d ps are = are ∙ pairs_of-fields_of d

pub a_name_twice : (d : Doc) → are_distinct (pair_names d) ≡ false → sort_of d ≡ None
a_name_twice d is = go (nat_le (length d) 4) (are_distinct (pair_names d)) is
  where
    go : (a b : Bool) → b ≡ false → cond (a && b) (sort_pairs d) None ≡ None
    go true true e = absurd cc
    go true false e = refl
    go false b e = refl

pub few_and_distinct : (d : Doc) → length d ≤ 4 → are_distinct (pair_names d) ≡ true → sort_of d ≡ sort_pairs d
few_and_distinct d le is = rw (le-leb (length d) 4 le, is) refl

-- whether pairs are a sort, by the first pair and the others
pub is_sort_with : (path : Result Names PathFault) (dir : Option Dir) (others : Option (List SortPath))
    → is_some (sort_with path dir others) ≡ is_ok path && (is_some dir && is_some others)
is_sort_with (Ok path) (Some dir) (Some ss) = refl
is_sort_with (Ok path) (Some dir) None = refl
is_sort_with (Ok path) None others = refl
is_sort_with (Err fault) dir others = refl

-- a sort is the paths in its pairs
pub sort_there : (d : Doc) → is_some (sort_of d) ≡ true → sort_of d ≡ sort_pairs d
sort_there d some = go (nat_le (length d) 4 && are_distinct (pair_names d)) some
  where
    go : (b : Bool) → is_some (cond b (sort_pairs d) None) ≡ true → cond b (sort_pairs d) None ≡ sort_pairs d
    go true e = refl
    go false e = absurd cc

-- and is not refused as none
pub never_bad : (d : Doc) → is_some (sort_of d) ≡ true → (r : Refused) → IsRefusedAs r BadSort (sort_pairs d ≡ None) → r ≡ NoMemory
never_bad d some r (inl is) = is
never_bad d some r (inr (is, none)) = absurd (true≢false (sym some ∙ ap is_some (sort_there d some ∙ none)))

-- ---- what is checked after the filter

abbrev fits : ℕ → ℕ → Bool
fits skip limit = nat_le skip greatest_count && nat_le limit greatest_count

pub no_sort_part : (sort : Doc) (skip limit : ℕ) → is_some (sort_of sort) ≡ false → rest_part sort skip limit ≡ Err (plain BadSort)
no_sort_part sort skip limit = go (sort_of sort)
  where
    go : (part : Option (List SortPath)) → is_some part ≡ false
        → then_part (ok_or part (plain BadSort)) (λ ss. if fits skip limit then Ok ss else Err (plain Range)) ≡ Err (plain BadSort)
    go None e = refl
    go (Some ss) e = absurd cc

counts_part : (sort : Doc) (skip limit : ℕ) → is_some (sort_of sort) ≡ true → fits skip limit ≡ false → rest_part sort skip limit ≡ Err (plain Range)
counts_part sort skip limit some many = go (sort_of sort) (fits skip limit) some many
  where
    go : (part : Option (List SortPath)) (b : Bool) → is_some part ≡ true → b ≡ false
        → then_part (ok_or part (plain BadSort)) (λ ss. if b then Ok ss else Err (plain Range)) ≡ Err (plain Range)
    go None b e f = absurd cc
    go (Some ss) true e f = absurd cc
    go (Some ss) false e f = refl

pub skip_part : (sort : Doc) (skip limit : ℕ) → is_some (sort_of sort) ≡ true → greatest_count < skip → rest_part sort skip limit ≡ Err (plain Range)
skip_part sort skip limit some many = counts_part sort skip limit some (rw (lt-leb skip greatest_count many) refl)

pub limit_part : (sort : Doc) (skip limit : ℕ) → is_some (sort_of sort) ≡ true → greatest_count < limit → rest_part sort skip limit ≡ Err (plain Range)
limit_part sort skip limit some many = counts_part sort skip limit some (rw (lt-leb limit greatest_count many) (and-false (nat_le skip greatest_count)))
  where
    and-false : (b : Bool) → (b && false) ≡ false
    and-false true = refl
    and-false false = refl

-- after a filter that is taken, a refusal of the rest refuses the request
pub rest_refuses : (filter sort : Doc) (skip limit : ℕ) (f : Filter) (why : Reason) → filter_of filter ≡ Ok f → rest_part sort skip limit ≡ Err why
    → request_of filter sort skip limit ≡ Err why
rest_refuses filter sort skip limit f why is refused = rw is (go (sort_of sort) (fits skip limit) refused)
  where
    go : (part : Option (List SortPath)) (b : Bool) → then_part (ok_or part (plain BadSort)) (λ ss. if b then Ok ss else Err (plain Range)) ≡ Err why
        → then_part (ok_or part (plain BadSort)) (λ ss. if b then Ok (request_with filter sort skip limit f ss) else Err (plain Range)) ≡ Err why
    go None b e = let same : plain BadSort ≡ why = cc in ap (λ (w : Reason). Err w) same
    go (Some ss) true e = absurd cc
    go (Some ss) false e = let same : plain Range ≡ why = cc in ap (λ (w : Reason). Err w) same
