-- What a call owns, its place may access.
use Rattle.std.specs.Prelude.{length}
use Rattle.std.proofs.Common.{Some, None, Option, true, false, refl}
use Rattle.iox_model.specs.declared.way.Way.{Way}
use Rattle.iox_model.specs.States.{State}
use Rattle.iox_wire_moments.specs.MomentsOf.{Pools}
use Rattle.iox_wire_locals.specs.declared.local.Local.{Local}
use Rattle.iox_wire_locals.specs.declared.local.Local.TheVariants.{Idle, Ends, LendEmpties, LendStores, Writes, SendAsks, SendEmpties, SendLooks, SendOpens, SendPushes, SendEvicts, SendGetsBack, SendEnds, ReceiveLooks, ReceivePops, ReceiveLoads, ReceiveAsks, ReceiveReturns, Reads, ReleaseCloses, ReleaseReturns, ReleaseLooks, ReleaseExchanges, Checks, Hints, HintExchanges, Seeks}
use Rattle.iox_wire_locals.specs.declared.seat.Seat.{Seat}
use Rattle.iox_wire_locals.specs.Locals.{program_of}
use Rattle.iox_wire_locals.specs.Tables.{Setting}
use Rattle.iox_wire_words.specs.Fits.{MayRun}
use Rattle.iox_wire_laws.specs.WireKeeping.Shows.{CountsWay, PlaceKnows, IsBehind}
use Rattle.iox_wire_laws.specs.WireShows.Ids.{NamesSmall}
use Rattle.iox_wire_laws.specs.WireShows.OwnedCalls.{OwnsCall, OwnsLast, IsLeft, TellsLane, OwnedCallsOwnPlaces}

module _ (p : Setting) (held : Pools) (s : State) (x : Seat) where
  abbrev Parts : Local → Type 0
  Parts local = MayRun p.layout x.node (program_of p local) × CountsWay s (program_of p local) × PlaceKnows p x s held local × NamesSmall local

  behind : (w : Way) (last : Option Way) → OwnsLast p x.node s.fixed last → IsLeft p x.node s.fixed last w → IsBehind p x s w last
  behind w None owns left = tt
  behind w (Some v) owns left = (owns.way, owns.mine, owns.counted, left)

  parts : (local : Local) → OwnsCall p x.node s.fixed s.request_state local → TellsLane held local → Parts local
  parts Idle owns tells = (tt, tt, tt, tt)
  parts (Ends ending) owns tells = (tt, tt, tt, tt)
  parts (SendEnds d last count) owns tells = (tt, tt, tt, tt)
  parts (SendAsks d) owns tells = (owns.1, tt, tt, tt)
  parts (SendEmpties d w place left) owns tells = ((owns.1.0.0.way, owns.1.0.0.mine), owns.1.0.0.counted, tt, tt)
  parts (SendLooks d w place left full) owns tells = ((owns.1.0.0.way, owns.1.0.0.mine), owns.1.0.0.counted, tt, tt)
  parts (SendOpens d w left full) owns tells = (owns.1.0.0, tt, tt, owns.1.0.1)
  parts (SendPushes d last w place left count) owns tells =
      ((owns.0.0.0.way, owns.0.0.0.mine), owns.0.0.0.counted, (owns.2, owns.0.0.1, behind w last owns.3 owns.4.0), tt)
  parts (SendEvicts d w place left count) owns tells = ((owns.0.0.0.way, owns.0.0.0.mine), owns.0.0.0.counted, tt, tt)
  parts (SendGetsBack d w place left count) owns tells = ((owns.0.0.0.way, owns.0.0.0.mine), owns.0.0.0.counted, tt, tt)
  parts (ReleaseCloses e w left) owns tells = (owns.0.0, tt, owns.0.1, tt)
  parts (ReleaseReturns e place) owns tells = ((owns.0.way, owns.0.mine), owns.0.counted, (owns.2, owns.1), tt)
  parts (ReleaseLooks e) owns tells = (owns, tt, tt, tt)
  parts (ReleaseExchanges e old) owns tells = (owns.0, tt, owns.1, tt)
  parts (Checks e hinted w left) owns tells = (owns.0, tt, tt, tt)
  parts (Hints e w left) owns tells = (owns.1.0, tt, tt, tt)
  parts (HintExchanges e w left) owns tells = (owns.1.0, tt, owns.0, owns.0)
  parts (Seeks w place left) owns tells = ((owns.0.way, owns.0.mine), owns.0.counted, tt, tt)
  parts (ReceiveLooks v w place left waiting) owns tells = ((owns.0.0.way, owns.0.0.mine), owns.0.0.counted, owns.1, tt)
  parts (ReceivePops v w false place left waiting) owns tells = ((owns.0.0.way, owns.0.0.mine), owns.0.0.counted, owns.1 refl, tt)
  parts (ReceivePops v w true place left waiting) owns tells = ((owns.0.0.way, owns.0.0.mine), owns.0.0.counted, tt, tt)
  parts (ReceiveLoads v w slot header left waiting) owns tells = ((owns.1.0, owns.1.1 (length header) owns.2), tt, tt, tt)
  parts (ReceiveAsks v w slot header left waiting) owns tells = (owns.1, tt, tells, tt)
  parts (ReceiveReturns v w slot place left waiting) owns tells = ((owns.0.0.way, owns.0.0.mine), owns.0.0.counted, owns.1, tt)
  parts (LendEmpties o w place left) owns tells = absurd owns
  parts (LendStores o slot next) owns tells = absurd owns
  parts (Writes e words next) owns tells = absurd owns
  parts (Reads e words) owns tells = absurd owns

pub owned_calls_own_places : OwnedCallsOwnPlaces
owned_calls_own_places p held s x owns tells =
    let a : Parts p held s x x.local = parts p held s x x.local owns tells in (record { may_run = a.0; counted = a.1; knows = a.2 }, a.3)
