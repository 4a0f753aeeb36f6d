-- What ends of sends and receives are told.
use Rattle.std.proofs.Common.{◌≡◌, ℕ, Bool, true, false, if◌then◌else◌, List, Some, sym, subst, ◌∙◌, true≢false}
use Rattle.iox_model.specs.declared.way.Way.{Way}
use Rattle.iox_model.specs.States.{State}
use Rattle.iox_model.specs.Settings.{is_client}
use Rattle.iox_model.specs.WholeCalls.{MayHold}
use Rattle.iox_laws.proofs.WeaveLaws.WholeLemmas.{some-is}
use Rattle.iox_laws.proofs.WeaveLedger.Truths.{none-some}
use Rattle.iox_wire_moments.specs.MomentsOf.{Pools}
use Rattle.iox_wire_locals.specs.declared.local.Ending.{Ending}
use Rattle.iox_wire_locals.specs.declared.local.Ending.TheVariants as endings
use Rattle.iox_wire_locals.specs.declared.local.Local.TheVariants.{ReceiveAsks}
use Rattle.iox_wire_locals.specs.declared.local.Visit.{Visit}
use Rattle.iox_wire_locals.specs.declared.seat.Seat.{Seat}
use Rattle.iox_wire_locals.specs.Courses.{ended}
use Rattle.iox_wire_locals.specs.Doings.{outcome_of}
use Rattle.iox_wire_locals.specs.ReceiveCourses.{gives_back}
use Rattle.iox_wire_locals.specs.StateMoments.{moment_at}
use Rattle.iox_wire_locals.specs.StepLaws.{ReliesOn}
use Rattle.iox_wire_locals.specs.Steps.{accessed, advance, ending_at}
use Rattle.iox_wire_locals.specs.Tables.{Setting}
use Rattle.iox_wire_laws.specs.WireShows.OwnedCalls.{TellsLane, state_after}
use Rattle.iox_wire_laws.specs.WireOwners.SentStates.{HasOpened}
use Rattle.iox_wire_laws.proofs.WireOwners.SentStates.{sent_requests_have_states}
use Rattle.iox_wire_laws.specs.WireRegions.OwnedWords.{Owns}
use Rattle.iox_wire_laws.specs.WireHolding.Holding.{held_at, held_from}
use Rattle.iox_wire_stands.specs.NodeLaws.{ToldWhatIsSo}
use Rattle.iox_wire_stands.specs.Nodes.{NodeStands}
use Rattle.iox_wire_steps.specs.Over.{EndIsTold}
use Rattle.iox_wire_steps.specs.Told.{AskedRequestsAreTold, SentRequestsAreTold}

pub sent_requests_are_told : SentRequestsAreTold
sent_requests_are_told p held s x d last count stands is to low =
    λ request. (low, sent_requests_have_states p x s.request_state d last count (subst (HasOpened s.request_state) is stands.opened) request to)

module _ (p : Setting) (held : Pools) (s : State) (x : Seat) (seen : ℕ) (payload : List ℕ) (v : Visit) (w : Way) (slot : ℕ) (header : List ℕ) (left : List Way)
    (waiting : Bool) (stands : NodeStands p held s x) (is : x.local ≡ ReceiveAsks v w slot header left waiting) (role : is_client v.role ≡ false) (told : ToldWhatIsSo p held s x seen) where
  abbrev Ended : Pools → State → Seat → Type 0
  Ended new t y =
      (ending : Ending) → ending_at y.local ≡ Some ending → EndIsTold p new t y ending × MayHold t.fixed (outcome_of p new x.node ending) payload

  judged_so : (t : State) (b : Bool) → Ended (held_at p held (if b then ended (accessed x) (endings.Receives v w slot header) else gives_back (accessed x) v w slot left waiting).local) t
      (if b then ended (accessed x) (endings.Receives v w slot header) else gives_back (accessed x) v w slot left waiting)
  judged_so t true ending at =
      subst (λ k. EndIsTold p held t (ended (accessed x) (endings.Receives v w slot header)) k × MayHold t.fixed (outcome_of p held x.node k) payload) (some-is _ ending at) (
        (
          λ client. absurd (true≢false (sym client ∙ role)),
          λ server. (
            subst (TellsLane held) is stands.tells,
            subst (λ l. ReliesOn p (accessed x) s held l seen) is told.relies,
            (subst (Owns p x.node s.fixed s.request_state) is stands.owns.owns).1,
          ),
        ),
        tt,
      )
  judged_so t false ending at = none-some ending at

  ended_told : Ended (held_from p held x.local (advance p (accessed x) x.local seen).local) (state_after s (moment_at p held x.local seen)) (advance p (accessed x) x.local seen)
  ended_told =
      subst (λ l. Ended (held_from p held l (advance p (accessed x) l seen).local) (state_after s (moment_at p held l seen)) (advance p (accessed x) l seen)) (sym is)
      (judged_so (state_after s (moment_at p held (ReceiveAsks v w slot header left waiting) seen)) _)

pub asked_requests_are_told : AskedRequestsAreTold
asked_requests_are_told p held s x seen payload v w slot header left waiting stands is role told = record {
  access = λ going. told;
  ended = ended_told p held s x seen payload v w slot header left waiting stands is role told;
}
