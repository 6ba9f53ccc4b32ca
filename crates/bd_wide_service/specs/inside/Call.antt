-- How a call by value is made with codes, over the copy of a dump.
use Rattle.std.specs.Prelude.{◌≡◌, ℤ, List, ℕ, map, string_bytes}
use Rattle.bd_value.specs.Tree.{Doc}
use Rattle.bd_bson_dump.specs.Collection.{bytes_of as bytes_of_dump, documents}
use Rattle.bd_bson_dump.specs.declared.collection.Dump.{Dump}
use Rattle.bd_cursor_request.specs.Request.{Request}
use Rattle.bd_cli_command.specs.Command.{FindCommand}
use Rattle.bd_cli_service.specs.Reply.{ReportedRefusal, reported_refusal}
use Rattle.bd_wide_number.specs.declared.number.Number.{Number}
use Rattle.bd_wide_order.specs.{Query.renumber_request, Ranks.table_codes}
use Rattle.bd_wide_service.specs.Call.{ByValue, IsSearch, copies, types_refusal}
use Rattle.bd_wide_service.specs.declared.call.WideCallFault.{WideCallFault}
use Rattle.bd_wide_service.specs.declared.call.WideCallFault.TheVariants as faults

-- The table and the dump in memory are those of a dump by value.
pub record IsOver {bytes : List ℕ} (v : ByValue bytes) (table : List ℤ) (copy : Dump) : Type 0 where
  pub table_is : v.table ≡ table
  pub bytes_are : bytes_of_dump copy ≡ v.copy
  pub documents_are : documents copy ≡ copies v

-- The fault is a refusal with this property, or memory ran out.
abbrev pub RefusesWide : (ReportedRefusal → Type 0) → WideCallFault → Type 0
RefusesWide IsRefusal faults.NoMemory = Unit {0}
RefusesWide IsRefusal (faults.Refused why) = IsRefusal (reported_refusal why)
RefusesWide IsRefusal (faults.Types place) = IsRefusal (types_refusal (map string_bytes place.items))

-- The request is that of a search with codes: ranks among the numbers of a table.
abbrev pub SearchesBy : List ℤ → List Number → Doc → FindCommand → Request → Type 0
SearchesBy table numbers wholes f view =
    (r : Request) × IsSearch table numbers wholes f r × (view ≡ renumber_request (table_codes table) r.text r)
