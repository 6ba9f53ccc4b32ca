-- What the options of `find` request, or why they are refused.
use Rattle.std.specs.Prelude.{Result}
use Rattle.bd_cursor_request.specs.Refused.{Reason, error_as}
use Rattle.bd_cli_find.specs.declared.options.SearchFault.{SearchFault}
use Rattle.bd_cli_find.specs.Options.{ReportsSearchFault, refused_text}

-- The fault reports the reason for which the part is refused, or that memory ran out.
abbrev pub ReportsReason : {Given : Type 0} → Result Given Reason → SearchFault → Type 0
ReportsReason part fault = ReportsSearchFault (error_as refused_text part) fault
