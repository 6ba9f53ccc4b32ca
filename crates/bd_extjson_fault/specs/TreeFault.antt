-- The faults of a text that is JSON, as Extended JSON v2 and the profile of this project: what is wrong with each part,
-- and which of them is the first from left to right.
use Rattle.std.specs.Prelude.{ℕ, zero, suc, ◌-◌, List, [], ◌∷◌, map, length, take, drop, Bool, true, false, not, nat_lt}
use Rattle.std.specs.Prelude.{◌==◌, ◌&&◌, ◌||◌, if◌then◌else◌, Option, Some, None, option_map, option_and_then, unwrap_or}
use Rattle.std.specs.Prelude.{Result, Ok, Err, codes}
use Rattle.std.specs.{Option.option_or, Option.is_some, Option.is_none, Option.option_map_or, Str.is_utf8}
use Rattle.json.specs.{Find.as_str, Find.as_number, Find.as_object, Json.Json, Json.value, Lex.tokens}
use Rattle.json.specs.Json as kit
use Rattle.bd_value.specs.{Fits.has_zero, Limits.most_brackets}
use Rattle.bd_extjson_wrapper.specs.WholeNumber.{are_digits, unsigned, whole_64}
use Rattle.bd_extjson_wrapper.specs.Wrapper.{wrapper_of, is_code_name, is_scope_name, only, pair, single}
use Rattle.bd_extjson_wrapper.specs.declared.wrapper.Wrapper.{Wrapper}
use Rattle.bd_extjson_wrapper.specs.declared.wrapper.Wrapper.TheVariants as wrappers
use Rattle.bd_extjson_fault.specs.JsonSyntax.{Beyond, ◌>>=◌, beyond_object, beyond_member, begins, beyond_white, beyond_word, beyond_string, beyond_name, beyond_number}
use Rattle.bd_extjson_fault.specs.JsonSyntax.{beyond_next, beyond_value, opens_object, opens_array}
use Rattle.bd_extjson_fault.specs.declared.skip.Stop.{Stop}
use Rattle.bd_extjson_fault.specs.declared.tree_fault.TreeFault.{TreeFault}
use Rattle.bd_extjson_fault.specs.declared.tree_fault.TreeFaultKind.{TreeFaultKind}
use Rattle.bd_extjson_fault.specs.declared.tree_fault.TreeFaultKind.TheVariants as kinds

-- a fault at the first byte of the rest of the text
abbrev pub fault_at : List ℕ → TreeFaultKind → Option TreeFault
fault_at text kind = Some (record { kind = kind; remaining = length text })

-- the bytes of a text before this rest of it
abbrev pub bytes_before : List ℕ → List ℕ → List ℕ
bytes_before rest text = take (length text - length rest) text

-- the JSON value that bytes begin with, by the grammar of the kit, which decodes escapes
unfoldable pub json_in : List ℕ → Option Json
json_in bytes = if is_utf8 bytes then option_map (λ p. p.0) (value most_brackets (tokens bytes)) else None

-- ---- numbers outside wrappers

-- A number with a fraction or an exponent is not in the profile; a whole one must fit 64 bits.
unfoldable pub number_fault : List ℕ → Option TreeFaultKind
number_fault digits = if are_digits (unsigned digits)
    then (if is_some (whole_64 digits) then None else Some kinds.NumberRange) else Some kinds.NotInProfile

-- the fault of the number that the text begins with, if any
abbrev pub number_between : List ℕ → Beyond → Option TreeFault
number_between text (Ok rest) = option_and_then (fault_at text) (number_fault (bytes_before rest text))
number_between text (Err stop) = None

-- the fault of a number that the text begins with; no other value without brackets has one
abbrev pub scalar_fault : List ℕ → Option TreeFault
scalar_fault text = number_between text (beyond_number text)

-- ---- names

-- the name in quotation marks, without its escapes; empty if these bytes are not a string
abbrev pub unquoted : List ℕ → List ℕ
unquoted quoted = unwrap_or (option_and_then as_str (json_in quoted)) []

-- the bytes that were skipped, or none if there was a fault
abbrev pub quoted_between : List ℕ → Beyond → List ℕ
quoted_between text (Ok rest) = bytes_before rest text
quoted_between text (Err stop) = []

-- the name at the start of the text, in its quotation marks
unfoldable pub quoted_name : List ℕ → List ℕ
quoted_name text = quoted_between (beyond_white text) (beyond_word (codes "\"") (beyond_white text) >>= beyond_string)

-- the wrapper of the first name, after the brace of an object
abbrev pub if_named : Beyond → List ℕ → Option Wrapper
if_named (Ok rest) name = wrapper_of name
if_named (Err stop) name = None

-- the wrapper of the first name of an object, if it is one; the text begins after the brace
unfoldable pub first_wrapper : List ℕ → Option Wrapper
first_wrapper inside = if_named (beyond_name inside) (unquoted (quoted_name inside))

-- ---- objects of one wrapper

-- these are recognised but not supported
abbrev pub is_outside_profile : Wrapper → Json → Bool
is_outside_profile wrappers.NumberDouble part = true
is_outside_profile wrappers.NumberDecimal part = true
is_outside_profile wrappers.Uuid part = true
is_outside_profile wrappers.Date part = is_some (as_str part)
is_outside_profile wrappers.Binary part = is_some (as_str part)
is_outside_profile w part = false

-- whether there is a text of digits, with or without a minus sign
abbrev pub is_whole : Option (List ℕ) → Bool
is_whole None = false
is_whole (Some s) = are_digits (unsigned s)

-- a part has the form that its wrapper needs, whatever the size of its numbers and the contents of its texts
abbrev pub is_formed : Wrapper → Json → Bool
is_formed wrappers.NumberInt part = is_whole (as_str part)
is_formed wrappers.NumberLong part = is_whole (as_str part)
is_formed wrappers.Date part = is_whole (option_and_then as_str (only (codes "$numberLong") part))
is_formed wrappers.Timestamp part =
    option_map_or (λ p. is_whole (as_number p.0) && is_whole (as_number p.1)) (pair (codes "t") (codes "i") part) false
is_formed wrappers.RegularExpression part =
    option_map_or (λ p. is_some (as_str p.0) && is_some (as_str p.1)) (pair (codes "pattern") (codes "options") part) false
is_formed w part = false

-- why a part means no value of its wrapper
abbrev pub refusal_of_form : Wrapper → TreeFaultKind
refusal_of_form wrappers.RegularExpression = kinds.NulInName
refusal_of_form w = kinds.NumberRange

-- the fault of a part that is not a value of its wrapper
abbrev pub refusal : Wrapper → Json → TreeFaultKind
refusal w part = if is_formed w part then refusal_of_form w else kinds.BadWrapper

-- the fault of the only part of a wrapper, if the part is not a value of it
abbrev pub single_fault : Wrapper → Json → Option TreeFaultKind
single_fault w part = if is_some (single w part) then None else Some (refusal w part)

-- there is at least one member
abbrev pub has_members : kit.Members → Bool
has_members kit.no_members = false
has_members (kit.member name part more) = true

-- the members of a wrapper's object: one, with the value that the wrapper needs
abbrev pub members_fault : Wrapper → kit.Members → Option TreeFaultKind
members_fault w kit.no_members = Some kinds.BadWrapper
members_fault w (kit.member name part more) = if is_outside_profile w part then Some kinds.NotInProfile
    else (if has_members more then Some kinds.BadWrapper else single_fault w part)

-- the fault of an object of this wrapper, read as JSON
abbrev pub wrapper_fault : Wrapper → Option Json → Option TreeFaultKind
wrapper_fault w j = option_map_or (members_fault w) (option_and_then as_object j) (Some kinds.BadWrapper)

-- ---- values, with n levels of brackets and m of documents and arrays remaining

-- the first fault of a text
abbrev pub Finds : Type 0
Finds = List ℕ → Option TreeFault

-- the first fault of the parts, each of which begins one of these texts
unfoldable pub first_in : Finds → List (List ℕ) → Option TreeFault
first_in fault [] = None
first_in fault (text ∷ texts) = option_or (fault text) (first_in fault texts)

-- the parts that follow a part, after a comma
abbrev pub parts_after : (List ℕ → List (List ℕ)) → Result (Bool × List ℕ) Stop → List (List ℕ)
parts_after more (Ok next) = if next.0 then more next.1 else []
parts_after more (Err stop) = []

-- The texts that begin with a part, up to the closing byte. The number bounds the steps.
unfoldable pub parts_from : (ℕ → Bool) → (List ℕ → Beyond) → ℕ → List ℕ → List (List ℕ)
parts_from closes part zero text = []
parts_from closes part (suc n) text = text ∷ parts_after (parts_from closes part n) (part text >>= beyond_next closes)

-- the same for the contents of brackets
unfoldable pub parts_in : (ℕ → Bool) → (List ℕ → Beyond) → List ℕ → List (List ℕ)
parts_in closes part text = if begins closes (beyond_white text) then [] else parts_from closes part (suc (length text)) text

-- an array after its bracket; the first text begins with the bracket
unfoldable pub array_fault : (List ℕ → Beyond) → (ℕ → Finds) → ℕ → List ℕ → List ℕ → Option TreeFault
array_fault value fault zero here inside = fault_at here kinds.TooDeep
array_fault value fault (suc depth_left) here inside = first_in (fault depth_left) (parts_in (λ b. b == 93) value inside)

-- the text after a name and its colon
abbrev pub rest_of : Beyond → List ℕ
rest_of (Ok rest) = rest
rest_of (Err stop) = []

-- a zero in a name is a fault at the quotation mark of the name
abbrev pub zero_fault : List ℕ → List ℕ → Option TreeFault
zero_fault quoted from = if has_zero (unquoted quoted) then fault_at from kinds.NulInName else None

-- the fault of the name of a member
unfoldable pub name_fault : List ℕ → Option TreeFault
name_fault text = zero_fault (quoted_name text) (beyond_white text)

-- a member of a document: its name, then its value
abbrev pub member_fault : Finds → Finds
member_fault fault text = option_or (name_fault text) (fault (rest_of (beyond_name text)))

-- the texts that begin with a member of an object; the text begins after the brace
abbrev pub members_in : (List ℕ → Beyond) → List ℕ → List (List ℕ)
members_in value inside = parts_in (λ b. b == 125) (beyond_member value) inside

-- the first fault of a document, whose brace the first of the two texts begins with
unfoldable pub document_fault : (List ℕ → Beyond) → (ℕ → Finds) → ℕ → List ℕ → List ℕ → Option TreeFault
document_fault value fault zero here inside = fault_at here kinds.TooDeep
document_fault value fault (suc depth_left) here inside = first_in (member_fault (fault depth_left)) (members_in value inside)

-- a string comes next
abbrev pub is_string : List ℕ → Bool
is_string text = begins (λ b. b == 34) (beyond_white text)

-- an object that is not a wrapper
abbrev pub opens_document : List ℕ → Bool
opens_document text = opens_object (beyond_white text) && is_none (first_wrapper (drop 1 (beyond_white text)))

-- Code with scope, of the two values: first the depth of the scope, which takes two levels, then its fault, and last
-- whether it is a document.
abbrev pub scope_fault : (ℕ → Finds) → ℕ → List ℕ → List ℕ → List ℕ → Option TreeFault
scope_fault fault depth_left here code scope = if not (is_string code) then fault_at here kinds.BadWrapper
    else (if nat_lt depth_left 2 then fault_at here kinds.TooDeep
    else option_or (fault (depth_left - 1) scope) (if opens_document scope then None else fault_at here kinds.BadWrapper))

-- a member of an object: the wrapper of its name, and the text after the colon
abbrev pub Part : Type 0
Part = Option Wrapper × List ℕ

-- the member that a text begins with
abbrev pub part_of : List ℕ → Part
part_of text = (wrapper_of (unquoted (quoted_name text)), rest_of (beyond_name text))

-- the members of an object whose first name is `$code` or `$scope`: the first alone, or both in either order
abbrev pub code_fault : (ℕ → Finds) → ℕ → List ℕ → List Part → Option TreeFault
code_fault fault depth_left here (a ∷ []) = if is_code_name a.0 && is_string a.1 then None else fault_at here kinds.BadWrapper
code_fault fault depth_left here (a ∷ b ∷ []) = if is_code_name a.0 && is_scope_name b.0 then scope_fault fault depth_left here a.1 b.1
    else (if is_scope_name a.0 && is_code_name b.0 then scope_fault fault depth_left here b.1 a.1 else fault_at here kinds.BadWrapper)
code_fault fault depth_left here parts = fault_at here kinds.BadWrapper

-- an object of another wrapper, whose bytes go up to the rest
abbrev pub object_fault_of : Wrapper → List ℕ → Beyond → Option TreeFault
object_fault_of w here (Ok rest) = option_and_then (fault_at here) (wrapper_fault w (json_in (bytes_before rest here)))
object_fault_of w here (Err stop) = None

-- an object, whose first name makes it a wrapper or a document
abbrev pub object_fault_by : Option Wrapper → (List ℕ → Beyond) → (ℕ → Finds) → ℕ → List ℕ → List ℕ → Option TreeFault
object_fault_by None value fault depth_left here inside = document_fault value fault depth_left here inside
object_fault_by (Some w) value fault depth_left here inside = if is_code_name (Some w) || is_scope_name (Some w)
    then code_fault fault depth_left here (map part_of (members_in value inside))
    else object_fault_of w here (beyond_object value inside)

-- the first fault of an object, whose brace the first of the two texts begins with
abbrev pub object_fault : (List ℕ → Beyond) → (ℕ → Finds) → ℕ → List ℕ → List ℕ → Option TreeFault
object_fault value fault depth_left here inside = object_fault_by (first_wrapper inside) value fault depth_left here inside

-- the text after white space
abbrev pub nested_fault : (List ℕ → Beyond) → (ℕ → Finds) → ℕ → List ℕ → Option TreeFault
nested_fault value fault depth_left here = if opens_object here then object_fault value fault depth_left here (drop 1 here)
    else (if opens_array here then array_fault value fault depth_left here (drop 1 here) else scalar_fault here)

-- The first fault of a value, with n levels of brackets and m of documents and arrays remaining (Extended JSON v2).
unfoldable pub value_fault : ℕ → ℕ → List ℕ → Option TreeFault
value_fault zero depth_left text = scalar_fault (beyond_white text)
value_fault (suc level) depth_left text = nested_fault (beyond_value level) (value_fault level) depth_left (beyond_white text)
