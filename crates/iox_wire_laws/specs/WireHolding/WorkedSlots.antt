-- The worked wire: as it opens its slots are known, and a client lends a slot again while the
-- server's release still has its entry.
use Rattle.std.specs.Prelude.{◌≡◌, ℕ, ◌+◌, ◌^◌, Bool, true, false, [], ◌∷◌, map}
use Rattle.iox_model.specs.declared.call.Call.TheVariants as calls
use Rattle.iox_model.specs.States.{State}
use Rattle.iox_wire_moments.specs.MomentsOf.{Pools}
use Rattle.iox_wire_locals.specs.declared.local.Local.{Local}
use Rattle.iox_wire_locals.specs.declared.local.Local.TheVariants.{ReleaseLooks}
use Rattle.iox_wire_locals.specs.Known.{known}
use Rattle.iox_wire_locals.specs.WorkedCalls.{Both, client_does, fresh, received, server_does}
use Rattle.iox_wire_locals.specs.WorkedWires.{ones}
use Rattle.iox_wire_laws.specs.WireHolding.SlotsKnown.{NamesStand, SlotsKnown}

-- ---- slots that are known

-- each slot holds a message with a serial of its own, far beyond those of any loans
abbrev pub held_of_ones : Pools
held_of_ones port slot = record {
  sender = port;
  serial = 2 ^ 64 + slot;
  node_id = (ones.port port).node_id;
  port_id = (ones.port port).id;
  lane = 0;
  request = 0;
  elements = 0;
  user = [];
  payload = [];
}

-- a state of the worked wire in which nothing was delivered
abbrev pub unsent_state : State → State
unsent_state s = record s { fixed = known ones fresh.client; delivered = λ y k. false }

-- As the wire opens, the client's slots are known, and so is what it names.
abbrev pub WorkedSlotsAreKnown : Type 0
WorkedSlotsAreKnown =
    (s : State) → SlotsKnown ones held_of_ones (unsent_state s) fresh.client
    × NamesStand ones (known ones fresh.client) fresh.client

-- ---- a slot that is lent again

-- the server received the request, and the client released its pending response
abbrev pub let_go : Both
let_go = client_does ones (calls.Release 2) 2 received

-- the server's release gave the request back, and is about to look at its request state
abbrev pub given_back : Both
given_back = server_does ones (calls.Release 2) 4 let_go

-- the client lends a request and releases the loan
abbrev pub lends_and_drops : ℕ → Both → Both
lends_and_drops number y =
    client_does ones (calls.Release number) 2 (client_does ones (calls.Loan 0 1) 16 y)

-- it does so three times, and lends once more: it takes the first slot again
abbrev pub lent_again : Both
lent_again =
    client_does ones (calls.Loan 0 1) 16
    (lends_and_drops 5 (lends_and_drops 4 (lends_and_drops 3 given_back)))

-- whether a release has given its message back, and looks at its request state
abbrev pub looks : Local → Bool
looks (ReleaseLooks e) = true
looks local = false

-- The server's entry and the client's name the same slot of port 0, for two requests.
abbrev pub SlotsAreLentDuringReleases : Type 0
SlotsAreLentDuringReleases =
    (looks lent_again.server.local ≡ true)
    × (map (λ e. e.sender) lent_again.server.table ≡ 0 ∷ [])
    × (map (λ e. e.slot) lent_again.server.table ≡ 0 ∷ [])
    × (map (λ e. e.request) lent_again.server.table ≡ 0 ∷ [])
    × (map (λ e. e.sender) lent_again.client.table ≡ 0 ∷ [])
    × (map (λ e. e.slot) lent_again.client.table ≡ 0 ∷ [])
    × (map (λ e. e.request) lent_again.client.table ≡ 4 ∷ [])
