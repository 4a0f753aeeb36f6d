-- Which access a node makes next: it follows only from its place in the call.
use Rattle.std.specs.Prelude.{ℕ, ◌+◌, ◌-◌, ◌^◌, true, false, if◌then◌else◌, ◌==◌, nat_lt, length, slice_index}
use Rattle.iox_model.specs.declared.way.RequestState.{RequestState}
use Rattle.iox_model.specs.declared.way.RequestState.TheVariants.{Closed, Named}
use Rattle.iox_model.specs.Messages.{response_way}
use Rattle.iox_wire_moments.specs.WordMaps.{MessageQueue, ReturningQueue}
use Rattle.iox_wire_moments.specs.Programs.{Program, Rests, Pushes, Pops, LoadsState, StoresState, ExchangesState, LoadsWord, StoresWord}
use Rattle.iox_wire_locals.specs.declared.local.Local.{Local}
use Rattle.iox_wire_locals.specs.declared.local.Local.TheVariants.{Idle, Ends, LendEmpties, LendStores, Writes, SendAsks, SendEmpties, SendLooks, SendOpens, SendPushes, SendEvicts, SendGetsBack, SendEnds, ReceiveLooks, ReceivePops, ReceiveLoads, ReceiveAsks, ReceiveReturns, Reads, ReleaseCloses, ReleaseReturns, ReleaseLooks, ReleaseExchanges, Checks, Hints, HintExchanges, Seeks}
use Rattle.iox_wire_locals.specs.Stored.{header_length}
use Rattle.iox_wire_locals.specs.Tables.{Setting, region_word, words_before_payload, way_in, state_in}
use Rattle.iox_wire_locals.specs.NewLoans.{loan_words, lane_in}

-- the word of a request state: 0 if it is closed, else above the id, and far above it with a hint
abbrev pub state_word : RequestState → ℕ
state_word Closed = 0
state_word (Named id false) = id + 1
state_word (Named id true) = id + 1 + 2 ^ 63

-- the request state that a word tells
abbrev pub state_told : ℕ → RequestState
state_told word =
    if word == 0 then Closed
    else (if nat_lt (2 ^ 63) word then Named (word - (2 ^ 63 + 1)) true else Named (word - 1) false)

-- what a node runs at the words, at each place of a call
abbrev pub program_of : Setting → Local → Program
program_of p Idle = Rests
program_of p (Ends ending) = Rests
program_of p (SendEnds d last count) = Rests
-- what was given back is popped
program_of p (LendEmpties o w place left) = Pops (ReturningQueue w) place
program_of p (SendEmpties d w place left) = Pops (ReturningQueue w) place
-- words of an own message are stored
program_of p (LendStores o slot next) =
    StoresWord o.port (region_word p o.port slot next) (slice_index (loan_words p o) next)
program_of p (Writes loan words next) =
    StoresWord loan.port
    (region_word p loan.port loan.slot (words_before_payload p loan.port + next))
    (slice_index words next)
-- a send asks, looks, opens, and pushes
program_of p (SendAsks d) = LoadsState (state_in d.loan)
program_of p (SendLooks d w place left full) = Pushes (MessageQueue w) place
program_of p (SendOpens d w left full) = StoresState w (state_word (Named d.loan.request false))
program_of p (SendPushes d last w place left count) = Pushes (MessageQueue w) place
program_of p (SendEvicts d w place left count) = Pushes (MessageQueue w) place
program_of p (SendGetsBack d w place left count) = Pushes (MessageQueue w) place
-- a receive looks or pops, loads a header, asks, and gives back
program_of p (ReceiveLooks v w place left waiting) = Pops (MessageQueue w) place
program_of p (ReceivePops v w again place left waiting) = Pops (MessageQueue w) place
program_of p (ReceiveLoads v w slot header left waiting) =
    LoadsWord w.sender (region_word p w.sender slot (length header))
program_of p (ReceiveAsks v w slot header left waiting) =
    LoadsState (response_way w.sender (lane_in v w header) w.receiver)
program_of p (ReceiveReturns v w slot place left waiting) = Pushes (ReturningQueue w) place
-- a read loads what stands behind the header
program_of p (Reads e words) =
    LoadsWord e.sender
    (region_word p e.sender e.slot (header_length (p.port e.sender).role + length words))
-- a release closes, or gives back and then closes
program_of p (ReleaseCloses e w left) = StoresState w (state_word Closed)
program_of p (ReleaseReturns e place) = Pushes (ReturningQueue (way_in e)) place
program_of p (ReleaseLooks e) = LoadsState (state_in e)
program_of p (ReleaseExchanges e old) = ExchangesState (state_in e) old (state_word Closed)
-- questions and hints
program_of p (Checks e hinted w left) = LoadsState w
program_of p (Hints e w left) = LoadsState w
program_of p (HintExchanges e w left) =
    ExchangesState w (state_word (Named e.request false)) (state_word (Named e.request true))
program_of p (Seeks w place left) = Pops (MessageQueue w) place
