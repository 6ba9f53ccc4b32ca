-- What the options of `find` request.
use Rattle.std.proofs.Common.{◌≡◌, ◌≢◌, ◌⊎◌, ◌++◌, ℕ, List, Result, Ok, codes, refl, inl, inr, subst}
use Rattle.bd_value.specs.Tree.{Doc}
use Rattle.bd_io_device.specs.Devices.{Over, Writer}
use Rattle.bd_cursor_request.specs.{Refused.IsRefusedPart, Refused.Reason, Refused.bad_filter, Refused.plain, Refused.reason_of, Refused.refused_words, Refused.then_part, declared.results.Refused.Refused}
use Rattle.bd_query_filter.specs.{Fault.refusal_of, declared.fault.FilterFault.FilterFault}
use Rattle.bd_cli_args.specs.FindOptions.{FindOptions}
use Rattle.bd_cli_scan.specs.{Run.ReportsMessage, Output.error_line, Output.no_memory, declared.output.Status.Status, declared.output.Status.TheVariants.Failed}
use Rattle.bd_cli_find.specs.Options.{ReportsRefusal, ReportsSearchFault, document_in, search_of, refusal_text, refused_option, refused_text, requested_by, requested_with}
use Rattle.bd_cli_find.specs.inside.Options.{ReportsReason}
use Rattle.bd_cli_find.specs.declared.options.SearchFault.{SearchFault}
use Rattle.bd_cli_find.specs.declared.options.SearchFault.TheVariants as faults
use Rattle.bd_cursor_request.specs.declared.results.Refused.TheVariants as reasons

-- if a part is refused for a reason, the reason is reported
pub reason_reported : {Given : Type 0} (part : Result Given Reason) (refused : Refused) → refused ≢ reasons.NoMemory → IsRefusedPart part refused
    → ReportsReason part (faults.Refused refused)
reason_reported part refused other (inl out_of_memory) = absurd (other out_of_memory)
reason_reported part refused other (inr is) = rw is refl

-- the line of a filter's fault, and that of another refusal
pub filter_reported : (program : List ℕ) (err : Over Writer) (refused : Refused) (fault : FilterFault) (text : List ℕ) (status : Status) → refused ≡ reasons.BadFilter fault
    → text ≡ refusal_text (refusal_of fault) → ReportsMessage err (error_line program text) Failed status → ReportsRefusal program err (reason_of refused) status
filter_reported program err refused fault text status is same reported = rw is (inl (subst (λ (x : List ℕ). ReportsMessage err (error_line program x) Failed status) same reported))

pub plain_reported : (program : List ℕ) (err : Over Writer) (refused : Refused) (status : Status) → ((x : FilterFault) → refused ≡ reasons.BadFilter x → ⊥)
    → ReportsMessage err (error_line program (refused_option refused ++ refused_words refused)) Failed status → ReportsRefusal program err (reason_of refused) status
plain_reported program err (reasons.BadFilter fault) status other reported = absurd (other fault refl)
plain_reported program err refused status other reported = reported

-- the line of a refusal is written, or that of out of memory
pub explain_refusal : (program : List ℕ) (err : Over Writer) (reason : Reason) (status : Status) → ReportsRefusal program err reason status
    → ReportsMessage err (error_line program (refused_text reason)) Failed status ⊎ ReportsMessage err (error_line program no_memory) Failed status
explain_refusal program err (plain refused) status reported = inl reported
explain_refusal program err (bad_filter r) status reported = reported

-- what needs a part that is refused is refused with its message
pub part_refused : {Given Wanted : Type 0} (part : Result Given (List ℕ)) (next : Given → Result Wanted (List ℕ)) (fault : SearchFault)
    → ReportsSearchFault part fault → ReportsSearchFault (then_part part next) fault
part_refused part next faults.NoMemory is = tt
part_refused part next (faults.Refused r) is = rw is refl
part_refused part next (faults.Message m) is = rw is refl

module _ (options : FindOptions) where
  pub query_refused : (fault : SearchFault) → ReportsSearchFault (document_in (codes "query") options.query) fault → ReportsSearchFault (requested_by options) fault
  query_refused = part_refused (document_in (codes "query") options.query) (requested_with options)

  pub rest_refused : (query : Doc) (fault : SearchFault) → document_in (codes "query") options.query ≡ Ok query
      → ReportsSearchFault (requested_with options query) fault → ReportsSearchFault (requested_by options) fault
  rest_refused query fault q none = rw q none

  module _ (query : Doc) where
    pub sort_refused : (fault : SearchFault) → ReportsSearchFault (document_in (codes "sort") options.sort) fault → ReportsSearchFault (requested_with options query) fault
    sort_refused = part_refused (document_in (codes "sort") options.sort) (search_of options query)

    pub search_refused : (sort : Doc) (fault : SearchFault) → document_in (codes "sort") options.sort ≡ Ok sort
        → ReportsSearchFault (search_of options query sort) fault → ReportsSearchFault (requested_with options query) fault
    search_refused sort fault s none = rw s none
