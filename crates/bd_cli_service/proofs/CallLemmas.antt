-- A line read as a call, and why it is none.
use Rattle.std.proofs.Common.{◌≡◌, ℕ, List, Result, Ok, refl, Option, Some, None}
use Rattle.bd_value.specs.Tree.{Doc}
use Rattle.bd_cli_command.specs.{Command.Command, CommandOf.command_of}
use Rattle.bd_cursor_request.specs.Refused.{error_as, then_part}
use Rattle.bd_cli_service.specs.Reply.{ReportedRefusal, command_refusal}
use Rattle.bd_cli_service.specs.{Talk.call_in, Talk.call_of, Talk.document_call, Talk.line_document, declared.call.CallFault.CallFault}
use Rattle.bd_cli_service.specs.ServiceView.{RefusesPart}
use Rattle.bd_cli_service.specs.declared.call.CallFault.TheVariants as faults

-- what needs a part that is refused is refused for its reason
part_refused : {A B : Type 0} (part : Result A ReportedRefusal) (next : A → Result B ReportedRefusal) (fault : CallFault)
    → RefusesPart part fault → RefusesPart (then_part part next) fault
part_refused part next faults.NoMemory is = tt
part_refused part next (faults.Refused why) is = rw is refl

module _ (bytes : List ℕ) (ds : List Doc) (line : List ℕ) where
  pub document_refused : (fault : CallFault) → RefusesPart (line_document line) fault → RefusesPart (call_in bytes ds line) fault
  document_refused = part_refused (line_document line) (document_call bytes ds)

  pub command_refused : (d : Doc) (fault : CallFault) → line_document line ≡ Ok d → RefusesPart (error_as command_refusal (command_of d)) fault
      → RefusesPart (call_in bytes ds line) fault
  command_refused d fault reads refused = rw reads (part_refused (error_as command_refusal (command_of d)) (call_of bytes ds) fault refused)

  pub call_refused : (d : Doc) (command : Command) (fault : CallFault) → line_document line ≡ Ok d → command_of d ≡ Ok command
      → RefusesPart (call_of bytes ds command) fault → RefusesPart (call_in bytes ds line) fault
  call_refused d command fault reads is refused = rw (reads, is) refused

pub none_read : {A : Type 0} (o : Option A) → ((x : A) → o ≡ Some x → ⊥) → o ≡ None
none_read None never = refl
none_read (Some x) never = absurd (never x refl)
