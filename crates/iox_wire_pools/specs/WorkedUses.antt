-- The worked wire: its client counts uses as it opens, and while a request is out; a slot without a
-- use that was given back would be free twice.
use Rattle.std.specs.Prelude.{◌≡◌, ℕ, ◌==◌, List, [], ◌∷◌, map, find}
use Rattle.std.specs.Option.{option_map_or}
use Rattle.iox_model.specs.Messages.{request_way}
use Rattle.iox_wire_locals.specs.declared.seat.Seat.{Seat}
use Rattle.iox_wire_locals.specs.Desks.{at_desk, gets_back}
use Rattle.iox_wire_locals.specs.Known.{free_slots}
use Rattle.iox_wire_locals.specs.WorkedCalls.{fresh, received}
use Rattle.iox_wire_locals.specs.WorkedWires.{ones}
use Rattle.iox_wire_laws.specs.WireHolding.WorkedSlots.{lent_again}
use Rattle.iox_wire_pools.specs.Uses.{AllUsesAreCounted, uses_of}

-- As the wire opens, the client counts uses.
abbrev pub WorkedUsesAreCounted : Type 0
WorkedUsesAreCounted = AllUsesAreCounted ones fresh.client

-- what the desk of the client counts, and the uses of its four slots
abbrev pub told_uses : Seat → List ℕ
told_uses x = option_map_or (λ d. d.uses) (find (λ d. d.port == 0) x.desks) []

-- how often each of its four slots is in use
abbrev pub four_uses : Seat → List ℕ
four_uses x = map (uses_of x 0) (0 ∷ 1 ∷ 2 ∷ 3 ∷ [])

-- A request that is out is in use twice: by its pending response, and on its way. Once the server
-- gave it back and the client got it back, its slot is lent again.
abbrev pub RequestsAreUsedTwice : Type 0
RequestsAreUsedTwice =
    (four_uses received.client ≡ 2 ∷ 0 ∷ 0 ∷ 0 ∷ [])
    × (told_uses received.client ≡ four_uses received.client)
    × (four_uses lent_again.client ≡ 1 ∷ 0 ∷ 0 ∷ 0 ∷ [])
    × (told_uses lent_again.client ≡ four_uses lent_again.client)

-- Were a slot got back that is not in use, it would be free twice.
abbrev pub UnusedSlotsAreFreedTwice : Type 0
UnusedSlotsAreFreedTwice =
    (uses_of fresh.client 0 0 ≡ 0)
    × (free_slots (at_desk fresh.client 0 (gets_back (request_way 0 1) 0)) 0
    ≡ 0 ∷ 1 ∷ 2 ∷ 3 ∷ 0 ∷ [])
