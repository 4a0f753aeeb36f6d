-- Which places may follow: a header is whole, or a loan has its slot, only after the places before.
use Rattle.std.specs.Prelude.{◌++◌}
use Rattle.std.proofs.Common.{◌≡◌, ℕ, Bool, true, false, ◌==◌, List, [], ◌∷◌, Some, refl, sym, subst, ◌∙◌, true≢false, length}
use Rattle.iox_model.specs.declared.way.RequestState.{RequestState}
use Rattle.iox_model.specs.declared.way.Way.{Way}
use Rattle.iox_model.specs.Messages.{names}
use Rattle.iox_model.specs.Peers.{forgot_port}
use Rattle.iox_model.specs.Receives.{is_at_limit}
use Rattle.iox_model.specs.Settings.{is_client}
use Rattle.iox_model.specs.States.{Fixed, State}
use Rattle.iox_laws.proofs.WeaveLaws.MapLemmas.{either}
use Rattle.iox_laws.proofs.WeaveLaws.WholeLemmas.{some-is}
use Rattle.iox_laws.proofs.WeaveLedger.Truths.{none-some}
use Rattle.iox_steps.specs.declared.side.Popping.{Popping}
use Rattle.iox_steps.specs.declared.side.Pushing.{Pushing}
use Rattle.iox_steps.specs.declared.side.QueueEvent.{QueueEvent}
use Rattle.iox_steps.specs.declared.side.QueueEvent.TheVariants.{HandOut, Publish, SeesEmpty}
use Rattle.iox_word_map.specs.WordMaps.{MessageQueue, ReturningQueue}
use Rattle.iox_wire_steps.specs.MomentsOf.{Pools}
use Rattle.iox_wire_steps.specs.Ending.{Ending}
use Rattle.iox_wire_steps.specs.Ending.TheVariants as endings
use Rattle.iox_wire_steps.specs.Local.{Local}
use Rattle.iox_wire_steps.specs.Local.TheVariants.{Ends, LendEmpties, LendStores, ReceiveAsks, ReceiveLoads, ReceivePops, ReceiveReturns, SendEnds}
use Rattle.iox_wire_steps.specs.Visit.{Visit}
use Rattle.iox_wire_steps.specs.Seat.{Seat}
use Rattle.iox_wire_steps.specs.Courses as courses
use Rattle.iox_wire_steps.specs.Known.{known}
use Rattle.iox_wire_steps.specs.Locals.{state_told}
use Rattle.iox_wire_steps.specs.NewLoans.{entry_in, lane_in, received_length, request_in}
use Rattle.iox_wire_steps.specs.ReceiveCourses as receives
use Rattle.iox_wire_steps.specs.ReceiveFindings as found
use Rattle.iox_wire_steps.specs.Steps.{accessed, advance, ending_at, pop_finds, pop_place, push_finds, push_place}
use Rattle.iox_wire_steps.specs.Tables.{Setting}
use Rattle.iox_wire_steps.specs.OwnedCalls.{AsksOn, TellsLane}
use Rattle.iox_wire_steps.specs.OwnedWords.{Owns}
use Rattle.iox_wire_steps.specs.Holding.{held_at, held_from}
use Rattle.iox_wire_steps.specs.Following.{CallMessage, Dropped, NodeContinues, IsLending, Leaving, Lent, NoMessage, Sent, Taken, TakesOn, drops, keeps, lets_go, message_at, picks_slot, puts_aside, sends_loan, takes}
use Rattle.iox_wire_steps.specs.FollowingLaws.{TakesNext}
use Rattle.iox_wire_steps.proofs.Follows.{accesses_follow}
use Rattle.iox_wire_calls.specs.EndsTold.{HeaderIsTold}
use Rattle.iox_wire_calls.specs.StepsTold.{HeaderTells, MessageIsTold}

-- ---- places that follow

-- no header was loaded whole
abbrev pub IsPlain : Local → Type 0
IsPlain (ReceiveAsks v w slot header left waiting) = ⊥
IsPlain (Ends (endings.Receives v w slot header)) = ⊥
IsPlain local = Unit {0}

abbrev NotTaken : CallMessage → Type 0
NotTaken (Taken w slot) = ⊥
NotTaken other = Unit {0}

plain_by : (local : Local) (message : CallMessage) → message_at local ≡ message → NotTaken message → IsPlain local
plain_by (ReceiveAsks v w slot header left waiting) m is none = subst NotTaken (sym is) none
plain_by (Ends (endings.Receives v w slot header)) m is none = subst NotTaken (sym is) none
plain_by local m is none = tt

-- the place takes or holds what a receive took
abbrev IsReceive : Local → Type 0
IsReceive (ReceivePops v w more place left waiting) = Unit {0}
IsReceive (ReceiveLoads v w slot header left waiting) = Unit {0}
IsReceive (ReceiveAsks v w slot header left waiting) = Unit {0}
IsReceive (ReceiveReturns v w slot place left waiting) = Unit {0}
IsReceive (Ends (endings.Receives v w slot header)) = Unit {0}
IsReceive local = ⊥

module _ (p : Setting) (x : Seat) (seen : ℕ) where
  abbrev y : Seat
  y = advance p (accessed x) x.local seen

  not_taking : (local : Local) (w : Way) (slot : ℕ) → (IsReceive local → ⊥) → TakesOn p local seen w slot → ⊥
  not_taking (ReceivePops v u more place left waiting) w slot none on = none tt
  not_taking local w slot none on = on

  kept_plain : (local : Local) → (IsReceive local → ⊥) → NotTaken (message_at local)
  kept_plain (ReceiveLoads v w slot header left waiting) none = none tt
  kept_plain (ReceiveAsks v w slot header left waiting) none = none tt
  kept_plain (ReceiveReturns v w slot place left waiting) none = none tt
  kept_plain (Ends (endings.Receives v w slot header)) none = none tt
  kept_plain (Ends (endings.Lends o slot)) none = tt
  kept_plain (Ends (endings.Fills e words)) none = tt
  kept_plain (Ends (endings.Sends e copied count)) none = tt
  kept_plain (Ends (endings.FailsToSend e copied r)) none = tt
  kept_plain (Ends (endings.Drops e)) none = tt
  kept_plain (Ends ending) none = tt
  kept_plain local none = tt

  -- no such place follows any other
  others_plain : (IsReceive x.local → ⊥) → NodeContinues p (accessed x) x.local seen (advance p (accessed x) x.local seen) → IsPlain (advance p (accessed x) x.local seen).local
  others_plain none (keeps desks message) = plain_by y.local (message_at x.local) message (kept_plain x.local none)
  others_plain none (lets_go desks still message may) = plain_by y.local NoMessage message tt
  others_plain none (takes w slot desks still message on) = absurd (not_taking x.local w slot none on)
  others_plain none (puts_aside e desks still returns message) = plain_by y.local (Leaving e) message tt
  others_plain none (drops e desks still of message) = plain_by y.local (Dropped e) message tt
  others_plain none (picks_slot o slot free desks still place before there lends) = subst IsPlain (sym place) tt
  others_plain none (sends_loan o slot desks still before copies message) = plain_by y.local (Sent (entry_in o slot) true) message tt

  -- nor a pop or a return
  visited : (z : Seat) (v : Visit) (left : List Way) (waiting : Bool) → IsPlain (receives.visiting p z v left waiting).local
  visited z v [] true = tt
  visited z v [] false = tt
  visited z v (w ∷ left) waiting = either (λ (q : Seat). IsPlain q.local) (is_at_limit (known p z) w) _ _ (λ is. tt) (λ is. tt)

  popped : (v : Visit) (w : Way) (more : Bool) (left : List Way) (waiting : Bool) (place : Popping) (event : QueueEvent)
      → IsPlain (found.receive_popped p (accessed x) v w more left waiting place event).local
  popped v w more left waiting place (HandOut slot) = tt
  popped v w more left waiting place SeesEmpty = visited (accessed x) v left waiting
  popped v w more left waiting place event = tt

  returned : (v : Visit) (w : Way) (slot : ℕ) (left : List Way) (waiting : Bool) (place : Pushing) (event : QueueEvent)
      → IsPlain (found.receive_returned (accessed x) v w slot left waiting place event).local
  returned v w slot left waiting place (Publish given) = tt
  returned v w slot left waiting place event = tt

  -- ---- what follows from what was loaded

  module _ (held : Pools) where
    abbrev Led : Pools → Local → Type 0
    Led pools local = TellsLane pools local × ((ending : Ending) → ending_at local ≡ Some ending → HeaderIsTold p pools ending)

    plain_end : (pools : Pools) (k : Ending) → IsPlain (Ends k) → HeaderIsTold p pools k
    plain_end pools (endings.Receives v w slot header) plain = absurd plain
    plain_end pools k plain = tt

    plain_ends : (pools : Pools) (local : Local) (ending : Ending) → IsPlain local → ending_at local ≡ Some ending → HeaderIsTold p pools ending
    plain_ends pools (Ends k) ending plain is = subst (HeaderIsTold p pools) (some-is k ending is) (plain_end pools k plain)
    plain_ends pools (SendEnds d last count) ending plain is = subst (HeaderIsTold p pools) (some-is _ ending is) tt
    plain_ends pools local ending plain is = none-some ending is

    plain_led : (pools : Pools) (local : Local) → IsPlain local → Led pools local
    plain_led pools (ReceiveAsks v w slot header left waiting) plain = absurd plain
    plain_led pools local plain = (tt, λ ending. plain_ends pools local ending plain)

    module _ (v : Visit) (w : Way) (slot : ℕ) (left : List Way) (waiting : Bool) where
      abbrev L : Seat → Type 0
      L z = Led (held_at p held z.local) z.local

      -- a message that is received
      received : (z : Seat) (header : List ℕ)
          → (is_client v.role ≡ false → (lane_in v w header ≡ (held w.sender slot).lane) × (request_in v header ≡ (held w.sender slot).request) × AsksOn p v w header)
          → L (courses.ended z (endings.Receives v w slot header))
      received z header tells = (tt, λ ending is. subst (HeaderIsTold p held) (some-is _ ending is) tells)

      stale : (z : Seat) → L (receives.stale p z v w slot left waiting)
      stale z =
          either L (forgot_port (known p z) z.node w.sender) (receives.again z v w left waiting) (receives.gives_back z v w slot left waiting)
          (λ is. (tt, λ ending. none-some ending)) (λ is. (tt, λ ending. none-some ending))

      took : (z : Seat) (header : List ℕ) → HeaderTells p held v w slot header → L (receives.took p z v w slot header left waiting)
      took z header tells =
          either L (is_client v.role) (receives.took_response p z v w slot header left waiting) (receives.took_request p z v w slot header left waiting)
          (λ client. either L (request_in v header == v.request) (courses.ended z (endings.Receives v w slot header)) (receives.stale p z v w slot left waiting)
          (λ is. received z header (λ server. absurd (true≢false (sym client ∙ server)))) (λ is. stale z))
          (λ server. either L p.limits.fire_and_forget (courses.ended z (endings.Receives v w slot header)) (courses.placed z (ReceiveAsks v w slot header left waiting))
          (λ is. received z header (λ again. ((tells.1 server).0, tells.0, (tells.1 server).1))) (λ is. ((tells.1 server).0, λ ending. none-some ending)))

      loaded : (z : Seat) (header : List ℕ) → ((length header == received_length v) ≡ true → HeaderTells p held v w slot header)
          → L (found.receive_loaded p z v w slot header left waiting)
      loaded z header tells =
          either L (length header == received_length v) (receives.took p z v w slot header left waiting) (courses.placed z (ReceiveLoads v w slot header left waiting))
          (λ whole. took z header (tells whole)) (λ more. (tt, λ ending. none-some ending))

      judged : (z : Seat) (header : List ℕ) (shown : RequestState)
          → (is_client v.role ≡ false → (lane_in v w header ≡ (held w.sender slot).lane) × (request_in v header ≡ (held w.sender slot).request) × AsksOn p v w header)
          → L (receives.judged z v w slot header left waiting shown)
      judged z header shown tells =
          either L (names shown (request_in v header)) (courses.ended z (endings.Receives v w slot header)) (receives.gives_back z v w slot left waiting)
          (λ is. received z header tells) (λ is. (tt, λ ending. none-some ending))

    -- what the header tells that was loaded, at the next place and at its end
    abbrev LedFrom : Local → Type 0
    LedFrom local = Led (held_from p held local (advance p (accessed x) local seen).local) (advance p (accessed x) local seen).local

    module _ (node : ℕ) (f : Fixed) (shown : Way → RequestState) (s : State) where
      by_place : (local : Local) → x.local ≡ local → Owns p node f shown local → TellsLane held local → MessageIsTold p held s x seen local → LedFrom x.local
      by_place (ReceivePops v w more place left waiting) is owns tells told =
          subst LedFrom (sym is)
          (plain_led (held_from p held (ReceivePops v w more place left waiting) (advance p (accessed x) (ReceivePops v w more place left waiting) seen).local)
          (advance p (accessed x) (ReceivePops v w more place left waiting) seen).local
          (popped v w more left waiting (pop_place p (MessageQueue w) place seen) (pop_finds p (MessageQueue w) place seen)))
      by_place (ReceiveReturns v w slot place left waiting) is owns tells told =
          subst LedFrom (sym is)
          (plain_led (held_from p held (ReceiveReturns v w slot place left waiting) (advance p (accessed x) (ReceiveReturns v w slot place left waiting) seen).local)
          (advance p (accessed x) (ReceiveReturns v w slot place left waiting) seen).local
          (returned v w slot left waiting (push_place p (ReturningQueue w) place seen) (push_finds p (ReturningQueue w) place seen)))
      by_place (ReceiveLoads v w slot header left waiting) is owns tells told =
          subst LedFrom (sym is) (loaded v w slot left waiting (accessed x) (header ++ seen ∷ []) told)
      by_place (ReceiveAsks v w slot header left waiting) is owns tells told =
          subst LedFrom (sym is) (judged v w slot left waiting (accessed x) header (state_told seen) (λ server. (tells, told, owns.1)))
      by_place (Ends ending) is owns tells told =
          subst LedFrom (sym is)
          (subst (λ l. Led (held_at p held l) l) (sym is) (tt, λ k same. subst (HeaderIsTold p held) (some-is ending k same) told))
      by_place local is owns tells told =
          plain_led (held_from p held x.local (advance p (accessed x) x.local seen).local) (advance p (accessed x) x.local seen).local
          (others_plain (λ receive. subst IsReceive is receive) (accesses_follow p (accessed x) seen))

      pub led : Owns p node f shown x.local → TellsLane held x.local → MessageIsTold p held s x seen x.local → LedFrom x.local
      led owns tells told = by_place x.local refl owns tells told

  -- ---- a loan that takes a slot

  module _ (held : Pools) (s : State) where
    abbrev T : CallMessage → Local → Type 0
    T before local = TakesNext p held s before local

    abbrev NotLent : CallMessage → Type 0
    NotLent (Lent o slot) = ⊥
    NotLent other = Unit {0}

    no_loan : (local : Local) (m : CallMessage) → message_at local ≡ m → NotLent m → T NoMessage local
    no_loan (LendStores o slot next) m is none = absurd (subst NotLent (sym is) none)
    no_loan local m is none = tt

    any_message : (m : CallMessage) (local : Local) → (m ≡ NoMessage → T NoMessage local) → T m local
    any_message NoMessage local next = next refl
    any_message m local next = tt

    lending : (local : Local) → x.local ≡ local → IsLending local → MessageIsTold p held s x seen local → T NoMessage (advance p (accessed x) x.local seen).local
    lending (LendEmpties o w place left) is lends told = subst (λ l. T NoMessage (advance p (accessed x) l seen).local) (sym is) told
    lending local is lends told = absurd lends

    by_follows : MessageIsTold p held s x seen x.local → NodeContinues p (accessed x) x.local seen (advance p (accessed x) x.local seen)
        → T (message_at x.local) (advance p (accessed x) x.local seen).local
    by_follows told (keeps desks message) = any_message (message_at x.local) y.local (λ none. no_loan y.local NoMessage (message ∙ none) tt)
    by_follows told (lets_go desks still message may) = any_message (message_at x.local) y.local (λ none. no_loan y.local NoMessage message tt)
    by_follows told (takes w slot desks still message on) = any_message (message_at x.local) y.local (λ none. no_loan y.local (Taken w slot) message tt)
    by_follows told (puts_aside e desks still returns message) = any_message (message_at x.local) y.local (λ none. no_loan y.local (Leaving e) message tt)
    by_follows told (drops e desks still of message) = any_message (message_at x.local) y.local (λ none. no_loan y.local (Dropped e) message tt)
    by_follows told (picks_slot o slot free desks still place before there lends) =
        any_message (message_at x.local) y.local (λ none. lending x.local refl lends told)
    by_follows told (sends_loan o slot desks still before copies message) =
        any_message (message_at x.local) y.local (λ none. no_loan y.local (Sent (entry_in o slot) true) message tt)

    pub takes_next : MessageIsTold p held s x seen x.local → TakesNext p held s (message_at x.local) (advance p (accessed x) x.local seen).local
    takes_next told = by_follows told (accesses_follow p (accessed x) seen)
