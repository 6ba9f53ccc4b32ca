-- Why a document is not a filter: which rule a pair or a member breaks,
-- and its path of names and positions from the top.
use Rattle.std.specs.Prelude.{◌≡◌, ℕ, List, [], ◌∷◌, Result, Err, map, string_bytes, codes}
use Rattle.bd_query_filter.specs.declared.fault.{FilterFault.FilterFault, FilterFaultKind.FilterFaultKind}
use Rattle.bd_query_filter.specs.declared.fault.FilterFaultKind.TheVariants as kinds

-- why a document is not a filter: the rule that is broken,
-- and the path of names and array positions from the top to the pair or member that breaks it
pub record Refusal : Type 0 where
  pub kind : FilterFaultKind
  pub place : List (List ℕ)

-- a refusal by this rule of the pair or member itself: names are put before its path on the way up
abbrev pub refuse : {A : Type 0} → FilterFaultKind → Result A Refusal
refuse kind = Err (record { kind = kind; place = [] })

-- the same refusal with a name put before its path, as the document around it reports it
abbrev pub deeper : List ℕ → Refusal → Refusal
deeper name r = record { kind = r.kind; place = name ∷ r.place }

-- the number of a filter fault in a reply
abbrev pub filter_fault_number : FilterFaultKind → ℕ
filter_fault_number kinds.UnknownOperator = 1
filter_fault_number kinds.NotInProfile = 2
filter_fault_number kinds.BadOperand = 3
filter_fault_number kinds.MixedOperators = 4
filter_fault_number kinds.Path = 5
filter_fault_number kinds.TooDeep = 6
filter_fault_number kinds.NoMemory = 7

-- the message of a filter fault
unfoldable pub filter_fault_words : FilterFaultKind → List ℕ
filter_fault_words kinds.UnknownOperator = codes "unknown operator"
filter_fault_words kinds.NotInProfile = codes "not in the profile"
filter_fault_words kinds.BadOperand = codes "bad operand"
filter_fault_words kinds.MixedOperators = codes "operators and fields mixed"
filter_fault_words kinds.Path = codes "bad path"
filter_fault_words kinds.TooDeep = codes "too deep"
filter_fault_words kinds.NoMemory = codes "no memory"

-- the refusal that a `FilterFault` in memory reports
abbrev pub refusal_of : FilterFault → Refusal
refusal_of f = record { kind = f.kind; place = map string_bytes f.place.items }

-- The fault in memory says that memory ran out, and has the empty path.
abbrev pub IsOutOfMemory : FilterFault → Type 0
IsOutOfMemory f = (f.kind ≡ kinds.NoMemory) × (f.place.items ≡ [])
