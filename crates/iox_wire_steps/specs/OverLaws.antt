-- What the end of a call keeps of its own node.
use Rattle.std.specs.Prelude.{◌≡◌, ◌⊎◌, ℕ, true, false, List, Some, None, map}
use Rattle.iox_model.specs.declared.kind.Kind.TheVariants.{PendingResponse}
use Rattle.iox_model.specs.Handles.{same_kind}
use Rattle.iox_model.specs.Joins.{not_living}
use Rattle.iox_model.specs.Maps.{has_number}
use Rattle.iox_model.specs.States.{State}
use Rattle.iox_model.specs.Weaves.{World}
use Rattle.iox_wire_words.specs.Fits.{WireContents}
use Rattle.iox_wire_moments.specs.MomentsOf.{Pools}
use Rattle.iox_wire_locals.specs.declared.local.Ending.{Ending}
use Rattle.iox_wire_locals.specs.declared.seat.Seat.{Seat}
use Rattle.iox_wire_locals.specs.declared.table.Entry.{Entry}
use Rattle.iox_wire_locals.specs.Known.{loans_at}
use Rattle.iox_wire_locals.specs.Steps.{closed, ending_at}
use Rattle.iox_wire_locals.specs.Tables.{Setting}
use Rattle.iox_wire_laws.specs.WireKeeping.Shows.{ShowsWorld}
use Rattle.iox_wire_laws.specs.WireOwners.Releases.{HasOwnStates, ReleasesOwnHandle}
use Rattle.iox_wire_laws.specs.WireRegions.OwnedBegins.{LayoutFits}
use Rattle.iox_wire_laws.specs.WireHolding.FarSlots.{IsInPool}
use Rattle.iox_wire_laws.specs.WireHolding.Holding.{held_ended}
use Rattle.iox_wire_laws.specs.WireHolding.SlotsKnown.{EntryFits, HasEntry, IsPortOfSeat, SlotsKnown}
use Rattle.iox_wire_stands.specs.EndLaws.{IsAdded, IsSentLoan}
use Rattle.iox_wire_stands.specs.Nodes.{NodeStands}
use Rattle.iox_wire_stands.specs.Stands.{AreNumbered, OwnersAre}
use Rattle.iox_wire_steps.specs.Over.{EndIsTold, CallIsOver, state_ended}

-- ---- from a standing node

-- What is so of a standing node whose call has no access left is what its end needs.
abbrev pub StandingNodesEnd : Type 0
StandingNodesEnd =
    (p : Setting) (held : Pools) (s : State) (x : Seat) (ending : Ending)
    → ending_at x.local ≡ Some ending → NodeStands p held s x → CallIsOver p held s x ending

-- ---- each end

-- It is so at each call of a living node in a shown world that is over but for its end.
abbrev pub AtEachEnd : (Setting → Pools → State → Seat → Ending → Type 0) → Type 0
AtEachEnd P =
    (p : Setting) (held : Pools) (word : ℕ → ℕ) (c : WireContents) (seats : ℕ → Seat) (w : World)
    (n : ℕ) (ending : Ending)
    → ShowsWorld p held word c seats w → not_living w.state n ≡ None
    → LayoutFits p w.state.fixed → OwnersAre p w.state.fixed → AreNumbered p
    → CallIsOver p held w.state (seats n) ending → P p held w.state (seats n) ending

-- The entry that the end adds fits, and is in its pool. Its number is new, or that of the sent
-- loan.
abbrev pub AddedEntriesFit : Type 0
AddedEntriesFit = AtEachEnd (λ p held s x ending.
    (e : Entry) → IsAdded p x ending e
    → EntryFits p e × IsInPool p e.sender e.slot
    × (IsSentLoan ending ⊎ (has_number e.number (map (λ k. k.number) x.table) ≡ false)))

-- The node counts as many loans of its ports as the machine.
abbrev pub EndsKeepLoans : Type 0
EndsKeepLoans = AtEachEnd (λ p held s x ending.
    (payload : List ℕ) (port : ℕ) → IsPortOfSeat p x port
    → (state_ended p held s x payload ending).fixed.loans port
    ≡ loans_at (closed p x (Some ending)) port)

-- Its slots stay known, also as it forgets a node: nothing is outstanding there any more.
abbrev pub EndsKeepSlots : Type 0
EndsKeepSlots = AtEachEnd (λ p held s x ending.
    (payload : List ℕ)
    → SlotsKnown p (held_ended held payload ending) (state_ended p held s x payload ending)
    (closed p x (Some ending)))

-- What its entries received or asked for is of its ports.
abbrev pub EndsKeepReleased : Type 0
EndsKeepReleased = AtEachEnd (λ p held s x ending.
    (payload : List ℕ) (e : Entry)
    → EndIsTold p held s x ending → HasEntry (closed p x (Some ending)) e
    → ReleasesOwnHandle (state_ended p held s x payload ending).fixed x.node e)

-- The states of its pending responses name no other request.
abbrev pub EndsKeepStates : Type 0
EndsKeepStates = AtEachEnd (λ p held s x ending.
    (payload : List ℕ) (e : Entry)
    → EndIsTold p held s x ending → HasEntry (closed p x (Some ending)) e
    → same_kind e.kind PendingResponse ≡ true
    → HasOwnStates p (closed p x (Some ending))
    (state_ended p held s x payload ending).request_state e)

-- So all is so of the node after the end of its call.
abbrev pub EndsKeepNodes : Type 0
EndsKeepNodes = AtEachEnd (λ p held s x ending.
    (payload : List ℕ)
    → EndIsTold p held s x ending
    → NodeStands p (held_ended held payload ending) (state_ended p held s x payload ending)
    (closed p x (Some ending)))
