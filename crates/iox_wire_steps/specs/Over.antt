-- A call that is over but for its end: what is so of its node, and what its end is told.
use Rattle.std.specs.Prelude.{◌≡◌, ◌⊎◌, ◌<◌, ℕ, true, false, List, Some, map}
use Rattle.iox_model.specs.declared.kind.Kind.TheVariants.{PendingResponse}
use Rattle.iox_model.specs.declared.way.Way.{Way}
use Rattle.iox_model.specs.Ends as ends
use Rattle.iox_model.specs.Handles.{filled_kind, is_request_loan, same_kind}
use Rattle.iox_model.specs.Maps.{AreDistinct}
use Rattle.iox_model.specs.Peers.{lanes_of}
use Rattle.iox_model.specs.Settings.{is_client}
use Rattle.iox_model.specs.States.{Fixed, State}
use Rattle.iox_word_map.specs.WordMaps.{IsWay}
use Rattle.iox_wire_moments.specs.MomentsOf.{Pools}
use Rattle.iox_wire_locals.specs.declared.local.Ending.{Ending}
use Rattle.iox_wire_locals.specs.declared.local.Ending.TheVariants as endings
use Rattle.iox_wire_locals.specs.declared.seat.Seat.{Seat}
use Rattle.iox_wire_locals.specs.declared.table.Entry.{Entry}
use Rattle.iox_wire_locals.specs.Doings.{outcome_of}
use Rattle.iox_wire_locals.specs.Known.{loans_at}
use Rattle.iox_wire_locals.specs.NewLoans.{lane_in, request_in}
use Rattle.iox_wire_locals.specs.Steps.{ending_at}
use Rattle.iox_wire_locals.specs.Tables.{Setting, sent_entry}
use Rattle.iox_wire_laws.specs.WireKeeping.Shows.{EndKnows}
use Rattle.iox_wire_laws.specs.WireShows.OwnedCalls.{AsksOn, ReceivesOn}
use Rattle.iox_wire_laws.specs.WireOwners.Borrowed.{BorrowedFits, HasCount}
use Rattle.iox_wire_laws.specs.WireOwners.Releases.{HasOwnStates, ReleasesOwnHandle}
use Rattle.iox_wire_laws.specs.WireHolding.FarSlots.{EndsInPool, IsInPool}
use Rattle.iox_wire_laws.specs.WireHolding.SlotsKnown.{EntryFits, HasEntry, IsPortOfSeat, SlotsKnown}
use Rattle.iox_wire_pools.specs.Uses.{AllUsesAreCounted}
use Rattle.iox_wire_stands.specs.Nodes.{HasOwnDesks}

-- ---- the node

-- the loan that was written or sent, or what was released, is an entry of the node, unless the same
-- call made it; what was taken came on a way to its port
abbrev pub EndsWith : Setting → Fixed → Seat → Ending → Type 0
EndsWith p f x (endings.Fills e words) = HasEntry x e
EndsWith p f x (endings.Sends e false count) = HasEntry x e
EndsWith p f x (endings.FailsToSend e false r) = HasEntry x e
EndsWith p f x (endings.Receives v w slot header) = ReceivesOn p x.node f w
EndsWith p f x (endings.Drops e) = HasEntry x e
EndsWith p f x ending = Unit {0}

-- the entry is the one that is released
abbrev pub IsDropped : Ending → Entry → Type 0
IsDropped (endings.Drops k) e = k ≡ e
IsDropped ending e = ⊥

-- What is so of a living node whose call has no access left: all that is so of a node, but that
-- what it releases may be still in its pool, or be put aside.
pub record CallIsOver (p : Setting) (held : Pools) (s : State) (x : Seat) (ending : Ending)
    : Type 0 where
  pub at_end : ending_at x.local ≡ Some ending
  -- of its last delivery nothing is left to evict
  pub last : EndKnows p x s x.local
  pub message : EndsWith p s.fixed x ending
  pub takes : EndsInPool p ending
  pub entries : (e : Entry) → HasEntry x e → EntryFits p e
  pub in_pools : (e : Entry) → HasEntry x e → IsInPool p e.sender e.slot ⊎ IsDropped ending e
  pub slots : SlotsKnown p held s x
  pub at_desks : HasOwnDesks p x
  pub uses : AllUsesAreCounted p x
  pub loans : (port : ℕ) → IsPortOfSeat p x port → s.fixed.loans port ≡ loans_at x port
  pub borrowed : BorrowedFits p x s.fixed
  pub counted : (y : Way) → IsWay p.layout.sizes y → p.layout.owner y.receiver ≡ x.node
      → HasCount x y
  pub numbers : AreDistinct (map (λ e. e.number) x.table)
  pub released : (e : Entry) → HasEntry x e → ReleasesOwnHandle s.fixed x.node e
  pub states : (e : Entry) → HasEntry x e → same_kind e.kind PendingResponse ≡ true
      → HasOwnStates p x s.request_state e

-- ---- the end

-- What the end of a call is told: a loan that was written is a filled one; a response that was
-- received names the request of its pending response, and the header of a request told what it is; a
-- request that was sent is on a lane of its client, where no other request is open.
abbrev pub EndIsTold : Setting → Pools → State → Seat → Ending → Type 0
EndIsTold p held s x (endings.Fills e words) = filled_kind e.kind ≡ e.kind
EndIsTold p held s x (endings.Sends e copied count) =
    is_request_loan e.kind ≡ true
    → (e.lane < lanes_of s.fixed e.port) × HasOwnStates p x s.request_state (sent_entry e count)
EndIsTold p held s x (endings.Receives v w slot header) =
    (is_client v.role ≡ true → request_in v header ≡ v.request)
    × (is_client v.role ≡ false
    → (lane_in v w header ≡ (held w.sender slot).lane)
    × (request_in v header ≡ (held w.sender slot).request) × AsksOn p v w header)
EndIsTold p held s x ending = Unit {0}

-- the state after the end of such a call
abbrev pub state_ended : Setting → Pools → State → Seat → List ℕ → Ending → State
state_ended p held s x payload ending =
    ends.settled s x.node payload (outcome_of p held x.node ending)
