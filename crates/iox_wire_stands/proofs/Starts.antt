-- How a call starts: its desks, the message of its first place, and what it has opened there.
use Rattle.std.specs.Prelude.{◌⊎◌}
use Rattle.std.proofs.Common.{◌≡◌, ◌∙◌, ℕ, Bool, true, false, if◌then◌else◌, ◌==◌, List, [], ◌∷◌, Option, Some, None, refl, sym, subst, inl, inr, eqb-true, true≢false}
use Rattle.iox_model.specs.declared.call.Call.TheVariants as calls
use Rattle.iox_model.specs.declared.call.WireCall.TheVariants as wire_calls
use Rattle.iox_model.specs.declared.kind.Kind.TheVariants.{PendingResponse}
use Rattle.iox_model.specs.declared.way.RequestState.{RequestState}
use Rattle.iox_model.specs.declared.way.Way.{Way}
use Rattle.iox_model.specs.Commands.{Call, WireCall, number_of}
use Rattle.iox_model.specs.Handles.{is_received, same_kind}
use Rattle.iox_model.specs.Loans.{lending_ways}
use Rattle.iox_model.specs.Peers.{forgot_port, port_at}
use Rattle.iox_model.specs.Receives.{is_at_limit}
use Rattle.iox_model.specs.Settings.{is_count}
use Rattle.iox_model.specs.States.{Port}
use Rattle.iox_laws.proofs.WeaveLedger.Lists.{find-among}
use Rattle.iox_steps.specs.declared.push.Push.TheVariants as push
use Rattle.iox_steps.specs.declared.side.Pushing.TheVariants as pushing
use Rattle.iox_wire_moments.specs.MomentsOf.{Pools}
use Rattle.iox_wire_locals.specs.declared.local.CallRefusal.{CallRefusal}
use Rattle.iox_wire_locals.specs.declared.local.CallRefusal.TheVariants.{UnknownNumber, WrongKind, WrongLength}
use Rattle.iox_wire_locals.specs.declared.local.Ending.TheVariants as endings
use Rattle.iox_wire_locals.specs.declared.local.Local.{Local}
use Rattle.iox_wire_locals.specs.declared.local.Local.TheVariants.{LendStores, Reads, ReceiveAsks, ReleaseReturns}
use Rattle.iox_wire_locals.specs.declared.local.Visit.{Visit}
use Rattle.iox_wire_locals.specs.declared.seat.Seat.{Seat}
use Rattle.iox_wire_locals.specs.declared.table.Entry.{Entry}
use Rattle.iox_wire_locals.specs.declared.table.NewLoan.{NewLoan}
use Rattle.iox_wire_locals.specs.Begins as begins
use Rattle.iox_wire_locals.specs.Courses as courses
use Rattle.iox_wire_locals.specs.Desks.{at_desk, picks}
use Rattle.iox_wire_locals.specs.Known.{free_slots, known}
use Rattle.iox_wire_locals.specs.Lendings as lendings
use Rattle.iox_wire_locals.specs.NewLoans.{loan_in}
use Rattle.iox_wire_locals.specs.ReceiveCourses as receives
use Rattle.iox_wire_locals.specs.Tables.{Setting, entry_at, way_in, words_to_read}
use Rattle.iox_wire_laws.specs.WireShows.OwnedCalls.{TellsLane}
use Rattle.iox_wire_laws.specs.WireOwners.SentStates.{HasOpened}
use Rattle.iox_wire_laws.proofs.WireOwners.OpenedSends as opened_sends
use Rattle.iox_wire_laws.specs.WireHolding.SlotsKnown.{HasEntry}
use Rattle.iox_wire_stands.specs.Following.{CallMessage, Dropped, NoMessage, OfEntry, Sent, message_at}
use Rattle.iox_wire_stands.proofs.Follows.{Has, sends}

-- the message with which a call starts: none, or that of one of its entries
abbrev pub Starting : Setting → Seat → CallMessage → Type 0
Starting p x NoMessage = Unit {0}
Starting p x (OfEntry e) = HasEntry x e
Starting p x (Sent e copied) = (copied ≡ false) × HasEntry x e
Starting p x (Dropped e) =
    HasEntry x e × (is_received e.kind ≡ true → forgot_port (known p x) x.node (way_in e).sender ≡ true)
Starting p x other = ⊥

-- the desks stay, and the call starts with such a message
pub record Starts (p : Setting) (shown : Way → RequestState) (x y : Seat) : Type 0 where
  pub desks : y.desks ≡ x.desks
  pub message : Starting p x (message_at y.local)
  pub opened : HasOpened shown y.local
  pub tells : (held : Pools) → TellsLane held y.local

-- or its loan takes a slot at once
pub record Takes (x y : Seat) : Type 0 where
  pub loan : NewLoan
  pub slot : ℕ
  pub free : List ℕ
  pub there : free_slots x loan.port ≡ slot ∷ free
  pub desks : y.desks ≡ (at_desk x loan.port (picks loan slot free)).desks
  pub place : y.local ≡ LendStores loan slot 0

module _ (p : Setting) (shown : Way → RequestState) (x : Seat) where
  abbrev S : Seat → Type 0
  S y = Starts p shown x y

  abbrev K : Seat → Type 0
  K y = Starts p shown x y ⊎ Takes x y

  either : (P : Seat → Type 0) (b : Bool) (y z : Seat) → P y → P z → P (if b then y else z)
  either P true y z here there = here
  either P false y z here there = there

  refuses : (r : CallRefusal) → S (courses.ended x (endings.Refuses r))
  refuses r = record { desks = refl; message = tt; opened = tt; tells = λ held. tt }

  -- ---- loans

  takes_slot : (o : NewLoan) (free : List ℕ) → free_slots x o.port ≡ free → K (courses.takes_slot x o free)
  takes_slot o [] is = inl (record { desks = refl; message = tt; opened = tt; tells = λ held. tt })
  takes_slot o (slot ∷ free) is = inr (record { loan = o; slot = slot; free = free; there = is; desks = refl; place = refl })

  loaning : (o : NewLoan) (left : List Way) → K (courses.loaning x o left)
  loaning o [] = takes_slot o (free_slots x o.port) refl
  loaning o (w ∷ left) = inl (record { desks = refl; message = tt; opened = tt; tells = λ held. tt })

  lends : (r : Option CallRefusal) (o : NewLoan) → K (lendings.lends p x r o)
  lends (Some r) o = inl (refuses r)
  lends None o = loaning o (lending_ways (known p x) (loan_in p o))

  lends_request : (q : Port) (k : ℕ) (payload : List ℕ) (copies : Bool) → K (lendings.lends_request p x q k payload copies)
  lends_request q k payload copies =
      either K (is_count p.limits.request k) (lendings.lends p x (lendings.request_refusal p x q k) (lendings.new_request p x q k payload copies))
      (courses.ended x (endings.Refuses WrongLength))
      (lends (lendings.request_refusal p x q k) (lendings.new_request p x q k payload copies)) (inl (refuses WrongLength))

  lends_response : (e : Entry) (k : ℕ) (payload : List ℕ) (copies : Bool) → K (lendings.lends_response p x e k payload copies)
  lends_response e k payload copies =
      either K (is_count p.limits.response k)
      (lendings.lends p x (lendings.response_refusal p x e (p.port e.port) k) (lendings.new_response p x e k payload copies))
      (courses.ended x (endings.Refuses WrongLength))
      (lends (lendings.response_refusal p x e (p.port e.port) k) (lendings.new_response p x e k payload copies)) (inl (refuses WrongLength))

  copies_request : (q : Port) (k : Option ℕ) (words : List ℕ) → K (lendings.copies_request p x q k words)
  copies_request q None words = inl (refuses WrongLength)
  copies_request q (Some k) words = lends_request q k words true

  copies_response : (e : Entry) (k : Option ℕ) (words : List ℕ) → K (lendings.copies_response p x e k words)
  copies_response e None words = inl (refuses WrongLength)
  copies_response e (Some k) words = lends_response e k words true

  -- ---- receives and looks

  visiting : (v : Visit) (left : List Way) (waiting : Bool) → S (receives.visiting p x v left waiting)
  visiting v [] true = record { desks = refl; message = tt; opened = tt; tells = λ held. tt }
  visiting v [] false = record { desks = refl; message = tt; opened = tt; tells = λ held. tt }
  visiting v (w ∷ left) waiting =
      either S (is_at_limit (known p x) w) _ _ (record { desks = refl; message = tt; opened = tt; tells = λ held. tt })
      (record { desks = refl; message = tt; opened = tt; tells = λ held. tt })

  seeking : (left : List Way) → S (receives.seeking x left)
  seeking [] = record { desks = refl; message = tt; opened = tt; tells = λ held. tt }
  seeking (w ∷ left) = record { desks = refl; message = tt; opened = tt; tells = λ held. tt }

  -- ---- calls of an entry

  module _ (e : Entry) (has : HasEntry x e) where
    writing : (words : List ℕ) → S (begins.writing x e words)
    writing [] = record { desks = refl; message = has; opened = tt; tells = λ held. tt }
    writing (word ∷ words) = record { desks = refl; message = has; opened = tt; tells = λ held. tt }

    writes : (k : Option ℕ) (words : List ℕ) → S (begins.writes x e k words)
    writes None words = refuses WrongLength
    writes (Some k) words =
        either S (k == e.elements) (begins.writing x e words) (courses.ended x (endings.Refuses WrongLength)) (writing words) (refuses WrongLength)

    sent : S (courses.sends p x e false)
    sent =
        let at : Has x (Sent e false) (courses.sends p x e false) = sends p x e false in
        record {
          desks = at.desks;
          message = subst (Starting p x) (sym at.names) (refl, has);
          opened = (opened_sends.sends p shown x e false).opened;
          tells = λ held. sent_tells held (courses.sends p x e false).local at.names;
        }
      where
        sent_tells : (held : Pools) (local : Local) → message_at local ≡ Sent e false → TellsLane held local
        sent_tells held (ReceiveAsks v w slot header left waiting) is = absurd (cc)
        sent_tells held local is = tt

    reads : S (begins.reads p x e)
    reads =
        either S (words_to_read p e == 0) (courses.ended x (endings.Words [])) (courses.placed x (Reads e []))
        (record { desks = refl; message = tt; opened = tt; tells = λ held. tt })
        (record { desks = refl; message = has; opened = tt; tells = λ held. tt })

    closing : is_received e.kind ≡ false → (left : List Way) → S (receives.closing x e left)
    closing own [] = record { desks = refl; message = (has, λ is. absurd (true≢false (sym is ∙ own))); opened = tt; tells = λ held. tt }
    closing own (w ∷ left) = record { desks = refl; message = has; opened = tt; tells = λ held. tt }

    dropping : is_received e.kind ≡ false → S (courses.ended x (endings.Drops e))
    dropping own = record { desks = refl; message = (has, λ is. absurd (true≢false (sym is ∙ own))); opened = tt; tells = λ held. tt }

    returning : S (receives.returning p x e)
    returning = by_case (forgot_port (known p x) x.node (way_in e).sender) refl
      where
        by_case : (b : Bool) → forgot_port (known p x) x.node (way_in e).sender ≡ b
            → S (if b then courses.ended x (endings.Drops e) else courses.placed x (ReleaseReturns e (pushing.Pushes (push.LoadsWrite e.slot))))
        by_case true is = record { desks = refl; message = (has, λ received. is); opened = tt; tells = λ held. tt }
        by_case false is = record { desks = refl; message = has; opened = tt; tells = λ held. tt }

    releasing : S (receives.releasing p x e)
    releasing = by_kind (is_received e.kind) refl
      where
        by_kind : (b : Bool) → is_received e.kind ≡ b
            → S (if b then receives.returning p x e
            else (if same_kind e.kind PendingResponse then receives.closing x e (receives.states_for p x e) else courses.ended x (endings.Drops e)))
        by_kind true is = returning
        by_kind false is =
            either S (same_kind e.kind PendingResponse) (receives.closing x e (receives.states_for p x e)) (courses.ended x (endings.Drops e))
            (closing is (receives.states_for p x e)) (dropping is)

    checking : (hinted : Bool) (left : List Way) → S (receives.checking x e hinted left)
    checking hinted [] = record { desks = refl; message = tt; opened = tt; tells = λ held. tt }
    checking hinted (w ∷ left) = record { desks = refl; message = has; opened = tt; tells = λ held. tt }

    hinting : (left : List Way) → S (receives.hinting x e left)
    hinting [] = record { desks = refl; message = tt; opened = tt; tells = λ held. tt }
    hinting (w ∷ left) = record { desks = refl; message = has; opened = tt; tells = λ held. tt }

    at_entry : (call : Call) → K (begins.begins_at_entry p x call e)
    at_entry (calls.Loan n k) = lends_response e k [] false
    at_entry (calls.Write n y) = inl (writes y.elements y.words)
    at_entry (calls.Send n) = inl sent
    at_entry (calls.SendCopy n y) = copies_response e y.elements y.words
    at_entry (calls.Receive n) = inl (visiting (begins.pending_visit e) (begins.ways_for p x e) false)
    at_entry (calls.Read n) = inl reads
    at_entry (calls.Release n) = inl releasing
    at_entry (calls.IsConnected n) = inl (checking false (receives.states_for p x e))
    at_entry (calls.SetHint n) = inl (hinting (receives.states_for p x e))
    at_entry (calls.HasHint n) = inl (checking true (receives.states_for p x e))
    at_entry (calls.HasResponse n) = inl (seeking (begins.ways_for p x e))
    at_entry call = inl (refuses WrongKind)

  at_port : (call : Call) (q : Port) → K (begins.begins_at_port p x call q)
  at_port (calls.Loan n k) q = lends_request q k [] false
  at_port (calls.SendCopy n y) q = copies_request q y.elements y.words
  at_port (calls.Receive n) q = inl (visiting (begins.server_visit q) _ false)
  at_port (calls.HasRequests n) q = inl (seeking _)
  at_port call q = inl (refuses WrongKind)

  found : (k : ℕ) (e : Entry) → entry_at k x.table ≡ Some e → HasEntry x e
  found k e is =
      let at : e.number ≡ k = eqb-true e.number k (find-among (λ (q : Entry). q.number == k) e x.table is).1 in
      subst (λ i. entry_at i x.table ≡ Some e) (sym at) is

  begins_at : (call : Call) (q : Option Port) (k : ℕ) (e : Option Entry) → entry_at k x.table ≡ e → K (begins.begins_at p x call q e)
  begins_at call (Some q) k e is = at_port call q
  begins_at call None k (Some e) is = at_entry e (found k e is) call
  begins_at call None k None is = inl (refuses UnknownNumber)

  pub starts : (call : WireCall) → K (begins.begin p x call)
  starts (wire_calls.Port call) =
      begins_at call (port_at (known p x) (number_of call)) (number_of call) (entry_at (number_of call) x.table) refl
  starts (wire_calls.Forget dead) = inl (record { desks = refl; message = tt; opened = tt; tells = λ held. tt })
