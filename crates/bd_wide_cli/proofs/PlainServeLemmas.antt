-- What `serve` of both programs prints for the same words.
use Rattle.std.proofs.Common.{◌≡◌, ℕ, List, [], ◌∷◌, false, Option, Some, None, Ok, Err, refl, sym, ap, ◌∙◌, subst, inl, inr, append-nil}
use Rattle.std.proofs.lemmas.List.Elements.{All-head, All-tail}
use Rattle.std.specs.List.{All}
use Rattle.bd_value.specs.Tree.{Doc, int64}
use Rattle.bd_io_device.specs.Devices.{Over, Reader}
use Rattle.bd_io_device.specs.declared.reading.ReadFault.{ReadFault}
use Rattle.bd_io_lines.specs.{Lines.commands_of, Serving.RepliesInTurn}
use Rattle.bd_bson_check.specs.{Dump.IsDumpScan, Fault.Fault, Fault.fault_view, FirstFault.ReportsNoNumber}
use Rattle.bd_cursor_model.specs.{Laws.new_state, Session.State}
use Rattle.bd_cli_scan.specs.{Output.Transcript, Output.fault_text, Output.refusal_output}
use Rattle.bd_cli_service.specs.Talk.{RepliesInText}
use Rattle.bd_cli.specs.Serve.{RepliesUpTo, serve_run}
use Rattle.bd_wide_copy.specs.{Classes.no_longs, Copy.number_as, Dump.coded_documents}
use Rattle.bd_wide_copy.proofs.ClassLemmas.{joined_widened}
use Rattle.bd_wide_rank.specs.Worth.{worth}
use Rattle.bd_wide_service.specs.Places.{RepliesAs, RepliesWithPlaces, absent, placed_line}
use Rattle.bd_wide_service.specs.Serve.{ServeCase, case_run}
use Rattle.bd_wide_service.specs.Serve as cases
use Rattle.bd_wide_cli.specs.Plain.{AskForDocuments, GivesNoNumber}
use Rattle.bd_wide_cli.proofs.JoinedLemmas.{fault_is, none_sound}

-- ---- replies

module _ (Replies : State → List ℕ → List ℕ → State → Type 0) where
  -- commands without the field have the replies of the session
  in_turn : (s : State) (commands : List (List ℕ)) (text : List ℕ) (t : State) → All (λ command. placed_line command ≡ absent) commands
      → RepliesInTurn (RepliesWithPlaces Replies) s commands text t → RepliesInTurn Replies s commands text t
  in_turn s [] text t none are = are
  in_turn s (command ∷ commands) text t none (reply, mid, rest, replies, more, is) =
      let here = All-head (λ c. placed_line c ≡ absent) command commands none in
      (reply, mid, rest, subst (RepliesAs Replies s command reply mid) here replies, in_turn mid commands rest t (All-tail (λ c. placed_line c ≡ absent) command commands none) more, is)

  module _ {C : Type 0} (state : C → Reader) (gives : C → Option (List ℕ) → C → Type 0) (old new : C) (plain : AskForDocuments (state old) (state new)) where
    up_to : (text : List ℕ) (unread : Option ReadFault) → RepliesUpTo state gives old new (RepliesWithPlaces Replies) new_state text unread → RepliesUpTo state gives old new Replies new_state text unread
    up_to text None (t, all) = (
      t,
      record {
        remaining = all.remaining;
        given = all.given;
        short = all.short;
        reads = all.reads;
        replied = in_turn new_state (commands_of all.given) text t (plain all.given [] (rw append-nil all.reads.gave) (inl refl)) all.replied;
      },
    )
    up_to text (Some fault) (few, (t, before)) = (
      few,
      (
        t,
        record {
          whole = before.whole;
          rest = before.rest;
          ends = before.ends;
          short = before.short;
          stops = before.stops;
          cause = before.cause;
          in_time = before.in_time;
          replied = in_turn new_state (commands_of before.whole) text t (plain before.whole before.rest before.stops.gave (inr before.ends)) before.replied;
        },
      ),
    )

-- ---- the runs

module _ {C : Type 0} (state : C → Reader) (gives : C → Option (List ℕ) → C → Type 0) (old new : C) (file : Over Reader) (scans : GivesNoNumber file)
    (plain : AskForDocuments (state old) (state new)) where
  pub served_alike : (output : Transcript) (c : ServeCase false file) → (case_run state gives old new c).IsOutput output → (serve_run state gives old new file).IsOutput output
  served_alike output (cases.unread fault reads) (is, unchanged) = inl (Err fault, reads, is, unchanged)
  served_alike output (cases.faulty bytes fault reads first) (is, unchanged) =
      let s = scans bytes reads in
      let found = fault_is bytes s.0 s.1 fault s.2 s.3 first in
      let scan = subst (λ (end : Option Fault). IsDumpScan s.0 end bytes) found.0 s.2 in
      inl (Ok bytes, reads, (s.0, fault_view fault, scan, is ∙ ap (λ (n : ℕ). refusal_output (fault_text n (fault_view fault))) (sym found.1)), unchanged)
  served_alike output (cases.plain bytes ds reads not_requested dump) (text, unread, replies, is) =
      inr (bytes, ds, (reads, dump.0), (text, unread, up_to (RepliesInText bytes ds) state gives old new plain text unread replies, is))
  served_alike output (cases.by_value bytes reads values v) is = go (scans bytes reads)
    where
      go : (ds : List Doc) × (end : Option Fault) × IsDumpScan ds end bytes × ReportsNoNumber end → (serve_run state gives old new file).IsOutput output
      go (ds, None, scan, none) = absurd (values refl ds (scan, reads.2))
      go (ds, Some f, scan, none) = absurd (none_sound worth bytes ds (coded_documents (number_as int64) v.ds) f scan none (joined_widened no_longs worth v.ds bytes v.has.are))
