-- The replies of a session are those of what it represents; so the replies of a session in memory are those of the machine.
use Rattle.std.proofs.Common.{◌≡◌, ℕ, List, [], ◌∷◌, ◌++◌, Option, ap, ap₂, ◌∙◌, inl, inr, subst, sym}
use Rattle.bd_value.specs.Tree.{Doc}
use Rattle.bd_cursor_model.specs.Session.{State}
use Rattle.bd_bson_dump.specs.{Collection.bytes_of, Collection.documents, declared.collection.Dump.Dump}
use Rattle.bd_io_device.specs.Devices.{Reader}
use Rattle.bd_io_device.specs.declared.reading.{Limits.Limits, ReadFault.ReadFault}
use Rattle.bd_io_lines.specs.Serving.{IsNextReply, LacksReply, RepliesInTurn, RunsOutAt, ServesAll, ServesBefore, StopsUnread}
use Rattle.bd_cli_service.specs.Reply.{LineReply}
use Rattle.bd_cli_service.specs.ServiceView.{RepliesTo, service_dump, service_state}
use Rattle.bd_cli_service.specs.Talk.{RepliesInText, Talks, reply_lines}
use Rattle.bd_cli_service.specs.declared.service.Service.{Service}

-- A session S represents one of T by `view`, and `Inv` is true of it after each reply. `represents` is what its crate proves of a reply.
module _ {S T : Type 0} (view : S → T) (Inv : S → Type 0)
    (Replies : S → List ℕ → List ℕ → S → Type 0) (Represented : T → List ℕ → List ℕ → T → Type 0)
    (represents : (s t : S) (line text : List ℕ) → Inv s → Replies s line text t → Represented (view s) line text (view t) × Inv t) where
  pub replied : (s : S) (lines : List (List ℕ)) (text : List ℕ) (t : S) → Inv s → RepliesInTurn Replies s lines text t
      → RepliesInTurn Represented (view s) lines text (view t) × Inv t
  replied s [] text t fact (same, none) = ((ap view same, none), subst Inv (sym same) fact)
  replied s (line ∷ lines) text t fact (reply, mid, rest, r, more, is) =
      let first = represents s mid line reply fact r in
      let later = replied mid lines rest t first.1 more in
      ((reply, view mid, rest, first.0, later.0, is), later.1)

  module _ {R : Type 0} (state : R → Reader) (gives : R → Option (List ℕ) → R → Type 0) (limits : Limits) (old new : R) (s : S) (fact : Inv s) where
    -- served to the end
    pub served : (text : List ℕ) (t : S) → ServesAll state gives Replies limits old new s text t
        → ServesAll state gives Represented limits old new (view s) text (view t)
    served text t all = record {
      remaining = all.remaining;
      given = all.given;
      short = all.short;
      reads = all.reads;
      replied = (replied s _ text t fact all.replied).0;
    }

    -- served up to a failed read
    pub served_unread : (text : List ℕ) (t : S) (fault : ReadFault) → StopsUnread state gives Replies limits old new s text t fault
        → StopsUnread state gives Represented limits old new (view s) text (view t) fault
    served_unread text t fault u = record {
      whole = u.whole;
      rest = u.rest;
      ends = u.ends;
      short = u.short;
      stops = u.stops;
      cause = u.cause;
      in_time = u.in_time;
      replied = (replied s _ text t fact u.replied).0;
    }

    before : (command text : List ℕ) (t : S) → ServesBefore state gives Replies limits old new s command text t
        → ServesBefore state gives Represented limits old new (view s) command text (view t) × Inv t
    before command text t b = let r = replied s _ text t fact b.replied in (
      record {
        whole = b.whole;
        rest = b.rest;
        after = b.after;
        remaining = b.remaining;
        ended = b.ended;
        ends = b.ends;
        short = b.short;
        reads = b.reads;
        in_time = b.in_time;
        line = b.line;
        is_command = b.is_command;
        replied = r.0;
      },
      r.1,
    )

    -- the next reply
    pub served_next : (text piece : List ℕ) (t : S) → IsNextReply state gives Replies limits old new s text piece t
        → IsNextReply state gives Represented limits old new (view s) text piece (view t)
    served_next text piece t (command, reply, mid, b, r, is) =
        let earlier = before command text mid b in
        (command, reply, view mid, earlier.0, (represents mid t command reply earlier.1 r).0, is)

    -- a reply that was not made
    pub served_lacking : (Stays : S → S → Type 0) (Same : T → T → Type 0) → ((mid t : S) → Inv mid → Stays mid t → Same (view mid) (view t))
        → (text : List ℕ) (t : S) → LacksReply state gives Replies limits old new Stays s text t
        → LacksReply state gives Represented limits old new Same (view s) text (view t)
    served_lacking Stays Same stays text t (command, mid, b, out_of_memory) =
        let earlier = before command text mid b in
        (command, view mid, earlier.0, runs_out mid command earlier.1 out_of_memory)
      where
        runs_out : (mid : S) (command : List ℕ) → Inv mid → RunsOutAt Stays Replies mid command t → RunsOutAt Same Represented (view mid) command (view t)
        runs_out mid command kept (inl same) = inl (stays mid t kept same)
        runs_out mid command kept (inr (reply, r)) = inr (reply, (represents mid t command reply kept r).0)

-- ---- a session in memory

-- it keeps its dump, and its replies are those of the machine over it
pub machine_replies : (dump : Dump) (s t : Service) (line text : List ℕ) → service_dump s ≡ dump → RepliesTo s line text t
    → RepliesInText (bytes_of dump) (documents dump) (service_state s) line text (service_state t) × (service_dump t ≡ dump)
machine_replies dump s t line text is r = (
  subst (λ (d : Dump). RepliesInText (bytes_of d) (documents d) (service_state s) line text (service_state t)) is (r.reply, r.answers, r.written),
  r.unchanged ∙ is,
)

-- ---- a talk

pub talk_of : (bytes : List ℕ) (ds : List Doc) (s : State) (lines : List (List ℕ)) (text : List ℕ) (t : State)
    → RepliesInTurn (RepliesInText bytes ds) s lines text t → (rs : List LineReply) × Talks bytes ds s lines rs t × (text ≡ reply_lines rs)
talk_of bytes ds s [] text t (same, none) = ([], same, none)
talk_of bytes ds s (line ∷ lines) text t (reply, mid, rest, (r, answers, written), more, is) =
    let later = talk_of bytes ds mid lines rest t more in
    (r ∷ later.0, (mid, answers, later.1), is ∙ ap₂ (λ (x y : List ℕ). x ++ 10 ∷ y) written later.2)
