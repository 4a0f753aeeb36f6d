-- What a send opened names its request, or is closed: from its first open until it is released.
use Rattle.std.specs.Prelude.{◌≡◌, ℕ, ◌==◌, true, false, List, [], ◌∷◌, Option}
use Rattle.iox_model.specs.declared.kind.Kind.TheVariants.{PendingResponse}
use Rattle.iox_model.specs.declared.kind.Role.TheVariants.{Server}
use Rattle.iox_model.specs.declared.way.RequestState.{RequestState}
use Rattle.iox_model.specs.declared.way.Way.{Way}
use Rattle.iox_model.specs.Handles.{is_request_loan, same_kind}
use Rattle.iox_model.specs.Maps.{has_way}
use Rattle.iox_model.specs.Peers.{others}
use Rattle.iox_model.specs.States.{State}
use Rattle.iox_model.specs.Weaves.{World, Beat, IsBeat}
use Rattle.iox_laws.specs.WeaveLaws.Laws.{node_of_beat}
use Rattle.iox_laws.specs.WeaveWorlds.Worlds.{IsReachable}
use Rattle.iox_wire_moments.specs.MomentsOf.{Pools}
use Rattle.iox_wire_locals.specs.declared.local.Delivery.{Delivery}
use Rattle.iox_wire_locals.specs.declared.local.Local.{Local}
use Rattle.iox_wire_locals.specs.declared.local.Local.TheVariants.{SendOpens, SendPushes, SendEvicts, SendGetsBack, SendEnds}
use Rattle.iox_wire_locals.specs.declared.seat.Seat.{Seat}
use Rattle.iox_wire_locals.specs.declared.table.Entry.{Entry}
use Rattle.iox_wire_locals.specs.Known.{known}
use Rattle.iox_wire_locals.specs.StateMoments.{moment_at}
use Rattle.iox_wire_locals.specs.StepLaws.{ReliesOn}
use Rattle.iox_wire_locals.specs.Steps.{advance, accessed}
use Rattle.iox_wire_locals.specs.Tables.{Setting, sent_entry}
use Rattle.iox_wire_laws.specs.WireKeeping.Readiness.{ShowsDoing}
use Rattle.iox_wire_laws.specs.WireShows.OwnedCalls.{states_to, state_after}
use Rattle.iox_wire_laws.specs.WireOwners.Releases.{HasOwnStates}
use Rattle.iox_wire_laws.specs.WireOwners.RequestStates.{NamesNoOther}

-- the states of a send but those left to open name no other request
abbrev pub StatesAreOpened : (Way → RequestState) → Delivery → List Way → Type 0
StatesAreOpened shown d left =
    (y : Way) → has_way y (states_to d) ≡ true → has_way y left ≡ false
    → NamesNoOther (shown y) d.loan.request

-- what a send has opened at its place: once it delivers, all its states
abbrev pub HasOpened : (Way → RequestState) → Local → Type 0
HasOpened shown (SendOpens d w left full) = StatesAreOpened shown d (w ∷ left)
HasOpened shown (SendPushes d last w place left count) = StatesAreOpened shown d []
HasOpened shown (SendEvicts d w place left count) = StatesAreOpened shown d []
HasOpened shown (SendGetsBack d w place left count) = StatesAreOpened shown d []
HasOpened shown (SendEnds d last count) = StatesAreOpened shown d []
HasOpened shown local = Unit {0}

-- After an access the send has opened what its next place says.
abbrev pub AccessesLeaveOpened : Type 0
AccessesLeaveOpened =
    (p : Setting) (held : Pools) (s : State) (x : Seat) (seen : ℕ)
    → ReliesOn p (accessed x) s held x.local seen → HasOpened s.request_state x.local
    → HasOpened (state_after s (moment_at p held x.local seen)).request_state
    (advance p (accessed x) x.local seen).local

-- A beat of another node leaves what a send has opened.
abbrev pub OthersLeaveOpened : Type 0
OthersLeaveOpened =
    (p : Setting) (held : Pools) (w u : World) (b : Beat) (x : Seat)
    → IsReachable w → IsBeat w b u → (x.node == node_of_beat b) ≡ false → ShowsDoing p held w x
    → HasOpened w.state.request_state x.local → HasOpened u.state.request_state x.local

-- So as the send of a request to all servers that its node did not forget ends, the states of its
-- pending response name no other request.
abbrev pub SentRequestsHaveStates : Type 0
SentRequestsHaveStates =
    (p : Setting) (x : Seat) (shown : Way → RequestState) (d : Delivery) (last : Option Way)
    (count : ℕ)
    → HasOpened shown (SendEnds d last count) → is_request_loan d.loan.kind ≡ true
    → d.to ≡ others (known p x) x.node Server
    → HasOwnStates p x shown (sent_entry d.loan count)

-- ---- other requests

-- the place opens no request state on the lane of that pending response
abbrev pub OpensElsewhere : Local → Entry → Type 0
OpensElsewhere (SendOpens d w left full) e = w.receiver ≡ e.port → w.lane ≡ e.lane → ⊥
OpensElsewhere local e = Unit {0}

-- An own access, too, leaves the states of a pending response whose lane no other request takes.
abbrev pub AccessesLeaveStates : Type 0
AccessesLeaveStates =
    (p : Setting) (held : Pools) (s : State) (x : Seat) (seen : ℕ) (e : Entry)
    → same_kind e.kind PendingResponse ≡ true → OpensElsewhere x.local e
    → HasOwnStates p x s.request_state e
    → HasOwnStates p (advance p (accessed x) x.local seen)
    (state_after s (moment_at p held x.local seen)).request_state e
