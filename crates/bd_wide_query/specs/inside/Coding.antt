-- What a part of the reading of the two documents of a query gives: used only in proofs.
use Rattle.std.specs.Prelude.{◌≡◌, ◌⊎◌, ℕ, ℤ, true, false, List, [], ◌∷◌, drop, Option, MatchOption, IsUtf8, map, Vec}
use Rattle.std.specs.declared.alloc.Global.{Global}
use Rattle.bd_value.specs.Tree.{Tree, Items, items_of, Fields, fields_of, Doc}
use Rattle.bd_value.specs.Fits.{Fits, FieldsFit, ItemsFit}
use Rattle.bd_value.specs.View.{tree_of, pairs}
use Rattle.bd_value.specs.declared.document.{Document.Document, Value.Value}
use Rattle.bd_wide_number.specs.declared.number.Number.{Number}
use Rattle.bd_wide_rank.specs.{Rank.code, Worth.worth_of}
use Rattle.bd_wide_order.specs.Renumber.{Codes}
use Rattle.bd_wide_copy.specs.declared.longs.Longs.{Longs}
use Rattle.bd_wide_query.specs.Tagged.{count, fields_count, items_count, tagged, tagged_fields, tagged_items, tagged_number}
use Rattle.bd_wide_query.specs.inside.Role.{at_role, items_at, pairs_at}
use Rattle.bd_wide_query.specs.declared.role.{Role.Role, Pairs.Pairs}

-- at every path the code of the number with a tag, among the worths of a table
abbrev pub codes_of_tags : List ℤ → Codes
codes_of_tags table path = record { becomes = λ z. code table (worth_of (tagged_number z)); occurs = λ z. true; narrow = false }

-- The value with codes, if it is a value of BSON, and the numbers after it.
abbrev pub GivesValue : List ℤ → Longs → Role → List Number → Tree → Tree → List Number → Option Value → Type 0
GivesValue table longs role numbers whole text after o =
    MatchOption o (Fits (at_role longs (codes_of_tags table) role (tagged numbers whole text)) → ⊥)
    (λ v. (tree_of v ≡ at_role longs (codes_of_tags table) role (tagged numbers whole text)) × (after ≡ drop (count whole text) numbers))

-- The pairs with codes, if they are of BSON, and the numbers after them.
abbrev pub GivesPairs : List ℤ → Longs → Pairs → List Number → Fields → Fields → List Number → Option Document → Type 0
GivesPairs table longs kind numbers wholes texts after o =
    MatchOption o (FieldsFit IsUtf8 (pairs_at longs (codes_of_tags table) kind (tagged_fields numbers wholes texts)) → ⊥)
    (λ d. (fields_of (pairs d) ≡ pairs_at longs (codes_of_tags table) kind (tagged_fields numbers wholes texts))
    × (after ≡ drop (fields_count wholes texts) numbers))

-- The elements with codes, if they are of BSON, and the numbers after them.
abbrev pub GivesItems : List ℤ → Longs → Role → List Number → Items → Items → List Number → Option (Vec Value Global) → Type 0
GivesItems table longs role numbers wholes texts after o =
    MatchOption o (ItemsFit IsUtf8 (items_at longs (codes_of_tags table) role (tagged_items numbers wholes texts)) → ⊥)
    (λ vs. (items_of (map tree_of vs.items) ≡ items_at longs (codes_of_tags table) role (tagged_items numbers wholes texts))
    × (after ≡ drop (items_count wholes texts) numbers))

-- The first of the parts, and those after it; or, if there are none, the value itself, and none.
abbrev pub IsBeside : Tree → Doc → Tree → Doc → Type 0
IsBeside whole texts text after = ((name : List ℕ) × (texts ≡ (name, text) ∷ after)) ⊎ ((texts ≡ []) × (text ≡ whole) × (after ≡ []))

-- The value has tags where the other has them.
abbrev pub HasSameTags : Tree → Tree → Tree → Type 0
HasSameTags whole text other = ((numbers : List Number) → tagged numbers whole other ≡ tagged numbers whole text) × (count whole other ≡ count whole text)
