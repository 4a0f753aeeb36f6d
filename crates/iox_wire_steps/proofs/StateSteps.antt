-- Steps at request states are told all that they rely on: nothing.
use Rattle.std.proofs.Common.{◌≡◌, ℕ, Bool, true, false, if◌then◌else◌, ◌==◌, List, [], ◌∷◌, Some, refl, sym, subst}
use Rattle.iox_model.specs.declared.kind.Kind.TheVariants.{PendingResponse}
use Rattle.iox_model.specs.declared.way.Way.{Way}
use Rattle.iox_model.specs.Handles.{same_kind}
use Rattle.iox_model.specs.States.{State}
use Rattle.iox_model.specs.WholeCalls.{MayHold}
use Rattle.iox_laws.proofs.WeaveLaws.WholeLemmas.{some-is}
use Rattle.iox_laws.proofs.WeaveLedger.Truths.{none-some}
use Rattle.iox_wire_moments.specs.MomentsOf.{Pools}
use Rattle.iox_wire_locals.specs.declared.local.Ending.{Ending}
use Rattle.iox_wire_locals.specs.declared.local.Ending.TheVariants as endings
use Rattle.iox_wire_locals.specs.declared.local.Local.{Local}
use Rattle.iox_wire_locals.specs.declared.local.Local.TheVariants.{Checks, Ends, HintExchanges, Hints, ReceiveAsks, ReceivePops, ReceiveReturns, ReleaseCloses, ReleaseExchanges, ReleaseLooks, ReleaseReturns, SendEnds}
use Rattle.iox_wire_locals.specs.declared.seat.Seat.{Seat}
use Rattle.iox_wire_locals.specs.declared.table.Entry.{Entry}
use Rattle.iox_wire_locals.specs.Courses.{ended, placed}
use Rattle.iox_wire_locals.specs.Doings.{outcome_of}
use Rattle.iox_wire_locals.specs.ReceiveCourses.{checking, closing, hinting}
use Rattle.iox_wire_locals.specs.ReceiveFindings.{checked, hint_looked, release_exchanged, release_looked}
use Rattle.iox_wire_locals.specs.StateMoments.{moment_at}
use Rattle.iox_wire_locals.specs.StepLaws.{ReliesOn}
use Rattle.iox_wire_locals.specs.Steps.{accessed, advance, ending_at}
use Rattle.iox_wire_locals.specs.Tables.{Setting}
use Rattle.iox_wire_laws.specs.WireShows.OwnedCalls.{TellsLane, WordsTell, state_after}
use Rattle.iox_wire_laws.specs.WireOwners.SentStates.{OpensElsewhere}
use Rattle.iox_wire_laws.specs.WireHolding.Aside.{shown, shown_at}
use Rattle.iox_wire_laws.specs.WireHolding.Holding.{held_after}
use Rattle.iox_wire_laws.specs.WireHolding.SlotsKnown.{HasEntry}
use Rattle.iox_wire_stands.specs.Following.{message_at}
use Rattle.iox_wire_stands.specs.FollowingLaws.{TakesNext}
use Rattle.iox_wire_steps.specs.Over.{EndIsTold}
use Rattle.iox_wire_steps.specs.StateSteps.{IsAtState, StateStepsKeep}
use Rattle.iox_wire_steps.specs.WholeSteps.{StepIsTold}
use Rattle.iox_wire_steps.proofs.StepsWhole.{whole_steps_keep}

-- ---- where such a step leads

-- another request state, a return or the pop behind it, or an end that answers or drops
abbrev pub Follows : Local → Type 0
Follows (Ends (endings.Drops e)) = Unit {0}
Follows (Ends (endings.Answers told)) = Unit {0}
Follows (Ends endings.Done) = Unit {0}
Follows (Ends ending) = ⊥
Follows (ReleaseReturns e place) = Unit {0}
Follows (ReceiveReturns v w slot place left waiting) = Unit {0}
Follows (ReceivePops v w more place left waiting) = Unit {0}
Follows local = IsAtState local

module _ (p : Setting) (x : Seat) (e : Entry) where
  abbrev F : Seat → Type 0
  F y = Follows y.local

  either : (b : Bool) (y z : Seat) → F y → F z → F (if b then y else z)
  either true y z one two = one
  either false y z one two = two

  closed_on : (left : List Way) → F (closing x e left)
  closed_on [] = tt
  closed_on (w ∷ left) = tt

  checked_on : (hinted : Bool) (left : List Way) → F (checking x e hinted left)
  checked_on hinted [] = tt
  checked_on hinted (w ∷ left) = tt

  hinted_on : (left : List Way) → F (hinting x e left)
  hinted_on [] = tt
  hinted_on (w ∷ left) = tt

  looked_on : (seen : ℕ) → F (release_looked x e seen)
  looked_on seen = either _ (placed x (ReleaseExchanges e seen)) (ended x (endings.Drops e)) tt tt

  exchanged_on : (old seen : ℕ) → F (release_exchanged x e old seen)
  exchanged_on old seen = either (seen == old) (ended x (endings.Drops e)) (release_looked x e seen) tt (looked_on seen)

  asked_on : (hinted : Bool) (left : List Way) (seen : ℕ) → F (checked p x e hinted left seen)
  asked_on hinted left seen = either _ (ended x (endings.Answers true)) (checking x e hinted left) tt (checked_on hinted left)

  hint_on : (w : Way) (left : List Way) (seen : ℕ) → F (hint_looked x e w left seen)
  hint_on w left seen = either _ (placed x (HintExchanges e w left)) (hinting x e left) tt (hinted_on left)

leads_on : (p : Setting) (x : Seat) (local : Local) (seen : ℕ) → IsAtState local → Follows (advance p x local seen).local
leads_on p x (ReleaseCloses e w left) seen at = closed_on p x e left
leads_on p x (ReleaseLooks e) seen at = looked_on p x e seen
leads_on p x (ReleaseExchanges e old) seen at = exchanged_on p x e old seen
leads_on p x (Checks e hinted w left) seen at = asked_on p x e hinted left seen
leads_on p x (Hints e w left) seen at = hint_on p x e w left seen
leads_on p x (HintExchanges e w left) seen at = hinted_on p x e left
leads_on p x local seen at = absurd at

-- ---- nothing is asked

pub no_lane : (held : Pools) (local : Local) → Follows local → TellsLane held local
no_lane held (ReceiveAsks v w slot header left waiting) follows = absurd follows
no_lane held local follows = tt

ended_told : (p : Setting) (held : Pools) (s : State) (y : Seat) (node : ℕ) (payload : List ℕ) (ending : Ending) → Follows (Ends ending)
    → EndIsTold p held s y ending × MayHold s.fixed (outcome_of p held node ending) payload
ended_told p held s y node payload (endings.Drops e) follows = (tt, tt)
ended_told p held s y node payload (endings.Answers told) follows = (tt, tt)
ended_told p held s y node payload endings.Done follows = (tt, tt)
ended_told p held s y node payload ending follows = absurd follows

pub end_told : (p : Setting) (held : Pools) (s : State) (y : Seat) (node : ℕ) (payload : List ℕ) (local : Local) (ending : Ending) → Follows local
    → ending_at local ≡ Some ending → EndIsTold p held s y ending × MayHold s.fixed (outcome_of p held node ending) payload
end_told p held s y node payload (Ends k) ending follows is =
    subst (λ j. EndIsTold p held s y j × MayHold s.fixed (outcome_of p held node j) payload) (some-is k ending is)
    (ended_told p held s y node payload k follows)
end_told p held s y node payload (SendEnds d last count) ending follows is = absurd follows
end_told p held s y node payload local ending follows is = none-some ending is

-- the access itself relies on nothing
module _ (p : Setting) (held : Pools) (s : State) (x : Seat) (seen : ℕ) where
  abbrev Told : Local → Type 0
  Told local =
      ReliesOn p (accessed x) s held local seen × WordsTell p local seen × TakesNext p held s (message_at local) (advance p (accessed x) x.local seen).local
      × ((e : Entry) → HasEntry x e → same_kind e.kind PendingResponse ≡ true → OpensElsewhere local e)

  relies : (local : Local) → IsAtState local → Told local
  relies (ReleaseCloses e w left) at = (tt, tt, tt, λ k has pending. tt)
  relies (ReleaseLooks e) at = (tt, tt, tt, λ k has pending. tt)
  relies (ReleaseExchanges e old) at = (tt, tt, tt, λ k has pending. tt)
  relies (Checks e hinted w left) at = (tt, tt, tt, λ k has pending. tt)
  relies (Hints e w left) at = (tt, tt, tt, λ k has pending. tt)
  relies (HintExchanges e w left) at = (tt, tt, tt, λ k has pending. tt)
  relies local at = absurd at

  step_told : (payload : List ℕ) → IsAtState x.local → StepIsTold p held s x seen payload
  step_told payload at =
      let follows = leads_on p (accessed x) x.local seen at in
      let told = relies x.local at in record {
        access = λ going. record {
          relies = told.0;
          words = told.1;
          lane = no_lane (held_after p x seen held) (advance p (accessed x) x.local seen).local follows;
          next = told.2;
          elsewhere = told.3;
        };
        ended = λ ending is.
            end_told p (held_after p x seen held) (state_after s (moment_at p held x.local seen)) (advance p (accessed x) x.local seen) x.node payload
            (advance p (accessed x) x.local seen).local ending follows is;
      }

-- a node as it is shown is at the same state
shown_too : (p : Setting) (x : Seat) (local : Local) → x.local ≡ local → IsAtState local → IsAtState (shown_at p x local).local
shown_too p x (ReleaseLooks e) is at = tt
shown_too p x (ReleaseExchanges e old) is at = tt
shown_too p x local is at = subst IsAtState (sym is) at

pub state_steps_keep : StateStepsKeep
state_steps_keep p words words' players r n payload stands living at made len =
    let kept =
    whole_steps_keep p words words' players r n payload stands living
    (step_told p stands.held r.last.state (shown p (players n).seat) _ payload (shown_too p (players n).seat (players n).seat.local refl at)) made len in
    (kept.0, kept.1, kept.2)
