-- A write, a send and a release leave all other handles as they are.
use Rattle.std.specs.Prelude.{◌≡◌, ◌≢◌, ℕ, Bool, true, false, not, if◌then◌else◌, ◌==◌, List, [], ◌∷◌, map, Option, Some, None, find, refl}
use Rattle.std.specs.List.{list_any}
use Rattle.std.specs.Option.{option_map_or}
use Rattle.std.proofs.Common.{sym, subst, ap, ◌∙◌, true≢false, eqb-true}
use Rattle.iox_model.specs.declared.call.Call.TheVariants.{Write, Send, Release}
use Rattle.iox_model.specs.declared.kind.Kind.TheVariants.{ActiveRequest, PendingResponse}
use Rattle.iox_model.specs.declared.kind.Role.TheVariants.{Client, Server}
use Rattle.iox_model.specs.declared.reply.Refusal.TheVariants.{ExceedsMaxActiveRequests, UnableToDeliver, UnknownNumber, WrongLength}
use Rattle.iox_model.specs.declared.way.Way.{Way}
use Rattle.iox_model.specs.Begins.{begins_at, start, writes, written}
use Rattle.iox_model.specs.Commands.{Call, Refusal, Reply, number_of}
use Rattle.iox_model.specs.Counts.{called, changed, dropped, gives_up, sent_handle, with_fixed, with_handle, without_handle}
use Rattle.iox_model.specs.Doings.{refused, Sending, Outcome, Tells, Sends, FailsToSend, Fills, Drops, DropsPort, Doing, Ended, Asking, Emptying, Looking, Opening, Delivering, Evicted, Closing, Returning, Leaving}
use Rattle.iox_model.specs.Ends.{is_nothing, port_dropped, sent_loan, settled}
use Rattle.iox_model.specs.Expiries.{disconnected, is_last_gone, released}
use Rattle.iox_model.specs.Handles.{Subject, TheHandle, ThePort, handle_at, is_received, is_request_loan, same_kind, subject, way_of}
use Rattle.iox_model.specs.Loans.{Choice}
use Rattle.iox_model.specs.Maps.{has_number, put_at, without_way}
use Rattle.iox_model.specs.Messages.{names, request_way}
use Rattle.iox_model.specs.Moments.{moved, Moment, Deliver, Evict, GiveBack, GetBack, SeesFull, SeesRoom, SeesNoneBack, Open, Close, Look}
use Rattle.iox_model.specs.Names.{misnamed}
use Rattle.iox_model.specs.Peers.{forgot_port, others}
use Rattle.iox_model.specs.Releases.{closing, releases_handle, returning, states_of}
use Rattle.iox_model.specs.Requests.{emptying, is_active_spent, is_over, looking, opening, sending_of, sends_request, targets, to_open}
use Rattle.iox_model.specs.Responses.{sends, sends_response}
use Rattle.iox_model.specs.States.{Fixed, Handle, State}
use Rattle.iox_model.specs.Transitions.{ends, next}
use Rattle.iox_model.specs.WholeCalls.{IsDone, IsWholeCall, MayCome, UnlessRefused, left_by, moved_by, spent}
use Rattle.iox_laws.proofs.WeaveLaws.MapLemmas.{either}
use Rattle.iox_laws.proofs.WeaveLaws.WholeLemmas.{moved_by-fixed, some-is}
use Rattle.iox_laws.proofs.WeaveLedger.Truths.{by_cases, none-some}
use Rattle.iox_hub_laws.specs.Keeping.{IsOther}
use Rattle.iceoryx2_ports.specs.Keeping.{spends}

-- ---- lists of handles

abbrev of_number : ℕ → List Handle → Option Handle
of_number m hs = find (λ (k : Handle). k.number == m) hs

other_number : (h k : Handle) (m : ℕ) → (k.number == h.number) ≡ true → m ≢ h.number → (k.number == m) ≡ false
other_number h k m same other =
    by_cases (k.number == m) (λ e. absurd (other (sym (eqb-true k.number m e) ∙ eqb-true k.number h.number same))) (λ e. e)

not_this : (h : Handle) (m : ℕ) → m ≢ h.number → (h.number == m) ≡ false
not_this h m other = by_cases (h.number == m) (λ e. absurd (other (sym (eqb-true h.number m e)))) (λ e. e)

passed_over : (k : Handle) (hs : List Handle) (m : ℕ) → (k.number == m) ≡ false → of_number m (k ∷ hs) ≡ of_number m hs
passed_over k hs m e = ap (λ (b : Bool). if b then Some k else of_number m hs) e

replaced : (h : Handle) (m : ℕ) → m ≢ h.number → (hs : List Handle) → of_number m (with_handle h hs) ≡ of_number m hs
replaced h m other [] = refl
replaced h m other (k ∷ hs) =
    either (λ (ks : List Handle). of_number m ks ≡ of_number m (k ∷ hs)) (k.number == h.number) (h ∷ hs) (k ∷ with_handle h hs)
    (λ same. passed_over h hs m (not_this h m other) ∙ sym (passed_over k hs m (other_number h k m same other)))
    (λ unlike. ap (λ (o : Option Handle). if k.number == m then Some k else o) (replaced h m other hs))

taken_out : (h : Handle) (m : ℕ) → m ≢ h.number → (hs : List Handle) → of_number m (without_handle h hs) ≡ of_number m hs
taken_out h m other [] = refl
taken_out h m other (k ∷ hs) =
    by_cases (k.number == h.number)
    (λ same.
    ap (λ (b : Bool). of_number m (if not b then k ∷ without_handle h hs else without_handle h hs)) same
    ∙ taken_out h m other hs ∙ sym (passed_over k hs m (other_number h k m same other)))
    (λ unlike.
    ap (λ (b : Bool). of_number m (if not b then k ∷ without_handle h hs else without_handle h hs)) unlike
    ∙ ap (λ (o : Option Handle). if k.number == m then Some k else o) (taken_out h m other hs))

-- ---- ends

-- the handle is the node's of that number
abbrev pub IsAt : ℕ → ℕ → Handle → Type 0
IsAt node n h = (h.node ≡ node) × (h.number ≡ n)

module _ (node n : ℕ) where
  -- the end is about the node's handle of that number
  abbrev IsAbout : Outcome → Type 0
  IsAbout (Tells reply) = Unit {0}
  IsAbout (Fills h) = IsAt node n h
  IsAbout (Sends h copied count) = IsAt node n h × (copied ≡ false)
  IsAbout (FailsToSend h copied refusal) = IsAt node n h × (copied ≡ false)
  IsAbout (Drops h) = IsAt node n h
  IsAbout (DropsPort port) = Unit {0}
  IsAbout o = ⊥

  -- so is what is left to do
  abbrev Concerns : Doing → Type 0
  Concerns (Ended o) = IsAbout o
  Concerns (Asking x) = IsAt node n x.loan × (x.copied ≡ false)
  Concerns (Emptying x left) = IsAt node n x.loan × (x.copied ≡ false)
  Concerns (Looking x left full) = IsAt node n x.loan × (x.copied ≡ false)
  Concerns (Opening x left full) = IsAt node n x.loan × (x.copied ≡ false)
  Concerns (Delivering x last left count) = IsAt node n x.loan × (x.copied ≡ false)
  Concerns (Evicted x w left count) = IsAt node n x.loan × (x.copied ≡ false)
  Concerns (Closing h left) = IsAt node n h
  Concerns (Returning h) = IsAt node n h
  Concerns (Leaving h) = IsAt node n h
  Concerns d = ⊥

  either_concerns : (b : Bool) (d e : Doing) → Concerns d → Concerns e → Concerns (if b then d else e)
  either_concerns b d e p q = either Concerns b d e (λ u. p) (λ u. q)

  opening_concerns : (x : Sending) (left full : List Way) → IsAt node n x.loan × (x.copied ≡ false) → Concerns (opening x left full)
  opening_concerns x [] full p = p
  opening_concerns x (w ∷ left) full p = p

  looking_concerns : (x : Sending) (left full : List Way) → IsAt node n x.loan × (x.copied ≡ false) → Concerns (looking x left full)
  looking_concerns x [] full p =
      either_concerns (list_any x.fails full) (Ended (FailsToSend x.loan x.copied UnableToDeliver)) (opening x (to_open x) full) p
      (opening_concerns x (to_open x) full p)
  looking_concerns x (w ∷ left) full p = p

  emptying_concerns : (x : Sending) (left : List Way) → IsAt node n x.loan × (x.copied ≡ false) → Concerns (emptying x left)
  emptying_concerns x [] p =
      either_concerns x.overflow (opening x (to_open x) []) (looking x (targets x) []) (opening_concerns x (to_open x) [] p)
      (looking_concerns x (targets x) [] p)
  emptying_concerns x (w ∷ left) p = p

  closing_concerns : (h : Handle) (left : List Way) → IsAt node n h → Concerns (closing h left)
  closing_concerns h [] p = p
  closing_concerns h (w ∷ left) p = p

  next_concerns : (s : State) (i : ℕ) (d : Doing) (m : Moment) → Concerns d → (next s i d m).condition → Concerns (next s i d m).after
  next_concerns s i (Asking x) (Look w shown) p c =
      either_concerns (names shown x.loan.request) (emptying x (targets x)) (Ended (Sends x.loan x.copied 0)) (emptying_concerns x (targets x) p) p
  next_concerns s i (Emptying x left) (GetBack w k) p c = p
  next_concerns s i (Emptying x left) (SeesNoneBack w) p c = emptying_concerns x (without_way w left) p
  next_concerns s i (Looking x left full) (SeesFull w) p c = looking_concerns x (without_way w left) (w ∷ full) p
  next_concerns s i (Looking x left full) (SeesRoom w) p c = looking_concerns x (without_way w left) full p
  next_concerns s i (Opening x left full) (Open w id) p c = opening_concerns x (without_way w left) full p
  next_concerns s i (Delivering x last left count) (Deliver w m) p c = p
  next_concerns s i (Delivering x last left count) (Evict w) p c = p
  next_concerns s i (Evicted x v left count) (GetBack w k) p c = p
  next_concerns s i (Closing h left) (Close w id) p c = closing_concerns h (without_way w left) p
  next_concerns s i (Returning h) (GiveBack w k) p c =
      either_concerns (same_kind h.kind ActiveRequest) (Leaving h) (Ended (Drops h)) p p
  next_concerns s i (Leaving h) (Look w shown) p c = p
  next_concerns s i (Leaving h) (Close w id) p c = p
  next_concerns s i (Asking x) m p c = absurd c
  next_concerns s i (Emptying x left) m p c = absurd c
  next_concerns s i (Looking x left full) m p c = absurd c
  next_concerns s i (Opening x left full) m p c = absurd c
  next_concerns s i (Delivering x last left count) m p c = absurd c
  next_concerns s i (Evicted x v left count) m p c = absurd c
  next_concerns s i (Closing h left) m p c = absurd c
  next_concerns s i (Returning h) m p c = absurd c
  next_concerns s i (Leaving h) m p c = absurd c
  next_concerns s i (Ended o) m p c = absurd c
  next_concerns s i d m p c = absurd p

  by_concerns : (s : State) (i : ℕ) (d : Doing) (ms : List Moment) → Concerns d → MayCome s i d ms → Concerns (left_by s i d ms)
  by_concerns s i d [] p may = p
  by_concerns s i d (m ∷ ms) p may = by_concerns (moved s m) i (next s i d m).after ms (next_concerns s i d m p may.1) may.2

  -- ---- the begin

  sends_concerns : (f : Fixed) (h : Handle) → IsAt node n h → Concerns (sends f h false)
  sends_concerns f h p =
      let x : Sending = sending_of f h false (others f h.node Server) in
      let ways : List Way = map (request_way h.port) (others f h.node Server) in
      either_concerns (is_request_loan h.kind) (sends_request f h false (others f h.node Server)) (sends_response f h false)
      (either_concerns (is_active_spent f h) (Ended (FailsToSend h false ExceedsMaxActiveRequests)) (emptying x ways) (p, refl)
      (emptying_concerns x ways (p, refl)))
      (either_concerns (has_number h.client (others f h.node Client)) (Asking (sending_of f h false (h.client ∷ []))) (Ended (Sends h false 0)) (p, refl) (p, refl))

  releases_concern : (f : Fixed) (h : Handle) → IsAt node n h → Concerns (releases_handle f h)
  releases_concern f h p =
      either_concerns (is_received h.kind) (returning f h) (if same_kind h.kind PendingResponse then closing h (states_of f h) else Ended (Drops h))
      (either_concerns (forgot_port f h.node (way_of h).sender) (Ended (Drops h)) (Returning h) p p)
      (either_concerns (same_kind h.kind PendingResponse) (closing h (states_of f h)) (Ended (Drops h)) (closing_concerns h (states_of f h) p) p)

  writes_concern : (h : Handle) (k : Option ℕ) (words : List ℕ) → IsAt node n h → Concerns (writes h k words)
  writes_concern h None words p = tt
  writes_concern h (Some k) words p = either_concerns (k == h.message.elements) (Ended (Fills (written h words))) (refused WrongLength) p tt

  at_concerns : (s : State) (c : Choice) (call : Call) (x : Option Subject) → spends call ≡ true → ((h : Handle) → x ≡ Some (TheHandle h) → IsAt node n h)
      → Concerns (option_map_or (begins_at s c call) x (refused UnknownNumber))
  at_concerns s c call None e at = tt
  at_concerns s c (Write m x) (Some (ThePort p)) e at = tt
  at_concerns s c (Send m) (Some (ThePort p)) e at = tt
  at_concerns s c (Release m) (Some (ThePort p)) e at = tt
  at_concerns s c (Write m x) (Some (TheHandle h)) e at = writes_concern h x.elements x.words (at h refl)
  at_concerns s c (Send m) (Some (TheHandle h)) e at = sends_concerns s.fixed h (at h refl)
  at_concerns s c (Release m) (Some (TheHandle h)) e at = releases_concern s.fixed h (at h refl)
  at_concerns s c call x e at = absurd (true≢false (sym e))

  -- ---- the end

  ended_concerns : (s : State) (d : Doing) (o : Outcome) → Concerns d → ends s d ≡ Some o → IsAbout o
  ended_concerns s (Ended a) o p e = subst IsAbout (some-is a o e) p
  ended_concerns s (Delivering x last [] count) o p e =
      by_cases (is_over s last)
      (λ over. none-some o (sym (ap (λ (b : Bool). if b then None else Some (Sends x.loan x.copied count)) over) ∙ e))
      (λ done.
      let is : Some (Sends x.loan x.copied count) ≡ Some o = sym (ap (λ (b : Bool). if b then None else Some (Sends x.loan x.copied count)) done) ∙ e in
      subst IsAbout (some-is (Sends x.loan x.copied count) o is) p)
  ended_concerns s (Delivering x last (w ∷ left) count) o p e = none-some o e
  ended_concerns s d o p e = none-some o e

  module _ (a m : ℕ) (aside : IsOther node n a m) where
    -- the node's other handle is as it was
    abbrev SameThere : Fixed → Fixed → Type 0
    SameThere f g = handle_at g a m ≡ handle_at f a m

    other_than : (h : Handle) → IsAt node n h → (a == h.node) ≡ true → m ≢ h.number
    other_than h at same e = aside (eqb-true a h.node same ∙ at.0) (e ∙ at.1)

    put_there : (f : Fixed) (h : Handle) (hs : List Handle) → ((a == h.node) ≡ true → of_number m hs ≡ of_number m (f.handles h.node))
        → of_number m (put_at f.handles h.node hs a) ≡ of_number m (f.handles a)
    put_there f h hs same =
        either (λ (ks : List Handle). of_number m ks ≡ of_number m (f.handles a)) (a == h.node) hs (f.handles a)
        (λ e. same e ∙ ap (λ (b : ℕ). of_number m (f.handles b)) (sym (eqb-true a h.node e))) (λ e. refl)

    pub changed_there : (f : Fixed) (h : Handle) → IsAt node n h → SameThere f (changed f h)
    changed_there f h at = put_there f h (with_handle h (f.handles h.node)) (λ e. replaced h m (other_than h at e) (f.handles h.node))

    dropped_there : (f : Fixed) (h : Handle) → IsAt node n h → SameThere f (dropped f h)
    dropped_there f h at = put_there f h (without_handle h (f.handles h.node)) (λ e. taken_out h m (other_than h at e) (f.handles h.node))

    released_there : (s : State) (port : ℕ) → SameThere s.fixed (released s port).fixed
    released_there s port =
        either (λ (t : State). SameThere s.fixed t.fixed) (is_last_gone s.fixed port) (disconnected s port) s (λ u. refl) (λ u. refl)

    given_there : (f : Fixed) (h : Handle) → SameThere f (gives_up f h)
    given_there f h = either (SameThere f) (is_received h.kind) _ f (λ u. refl) (λ u. refl)

    sent_there : (s : State) (h : Handle) (count : ℕ) → IsAt node n h → SameThere s.fixed (sent_loan s h count).fixed
    sent_there s h count at =
        either (λ (t : State). SameThere s.fixed t.fixed) (is_request_loan h.kind) (with_fixed s (changed s.fixed (sent_handle h count)))
        (released (with_fixed s (dropped s.fixed h)) h.port)
        (λ u. changed_there s.fixed (sent_handle h count) at)
        (λ u. released_there (with_fixed s (dropped s.fixed h)) h.port ∙ dropped_there s.fixed h at)

    settled_there : (s : State) (i : ℕ) (payload : List ℕ) (o : Outcome) → IsAbout o → SameThere s.fixed (settled s i payload o).fixed
    settled_there s i payload (Tells reply) p =
        either (λ (t : State). SameThere s.fixed t.fixed) (is_nothing reply) (with_fixed s (called s.fixed)) s (λ u. refl) (λ u. refl)
    settled_there s i payload (Fills h) p = changed_there s.fixed h p
    settled_there s i payload (Sends h true count) p = absurd (true≢false p.1)
    settled_there s i payload (Sends h false count) p = sent_there s h count p.0
    settled_there s i payload (FailsToSend h true refusal) p = absurd (true≢false p.1)
    settled_there s i payload (FailsToSend h false refusal) p =
        released_there (with_fixed s (dropped s.fixed h)) h.port ∙ dropped_there s.fixed h p.0
    settled_there s i payload (Drops h) p =
        released_there (with_fixed s (gives_up (dropped s.fixed h) h)) h.port ∙ given_there (dropped s.fixed h) h ∙ dropped_there s.fixed h p
    settled_there s i payload (DropsPort port) p = released_there (with_fixed s (record (s.fixed) { ports = map (port_dropped port) s.fixed.ports })) port
    settled_there s i payload o p = absurd p

    -- ---- the whole call

    module _ (s t : State) (call : Call) (reply : Reply) (e : spends call ≡ true)
        (at : (h : Handle) → subject s.fixed node (number_of call) ≡ Some (TheHandle h) → IsAt node n h) where
      done_there : IsDone s node call reply t → SameThere s.fixed t.fixed
      done_there done =
          let d : Doing = start s node done.0 call in
          let u : State = moved_by s done.2 in
          let o : IsAbout done.4 =
          ended_concerns u (left_by s node d done.2) done.4
          (by_concerns s node d done.2 (at_concerns s done.0 call (subject s.fixed node (number_of call)) e at) done.3) done.5 in
          subst (λ (v : State). SameThere s.fixed v.fixed) (sym done.9)
          (subst (λ (f : Fixed). SameThere f (settled u node done.6 done.4).fixed) (moved_by-fixed s done.2) (settled_there u node done.6 done.4 o))

      unless_there : (q : Option Refusal) (P : Type 0) → (P → SameThere s.fixed t.fixed) → UnlessRefused q s reply t P → SameThere s.fixed t.fixed
      unless_there (Some r) P f p = ap (λ (v : State). handle_at v.fixed a m) p.1
      unless_there None P f p = f p

      -- Such a call leaves each other handle as it is.
      pub whole_there : IsWholeCall s node call reply t → SameThere s.fixed t.fixed
      whole_there =
          unless_there (misnamed s.fixed node call) (UnlessRefused (spent s.fixed call) s reply t (IsDone s node call reply t))
          (unless_there (spent s.fixed call) (IsDone s node call reply t) done_there)
