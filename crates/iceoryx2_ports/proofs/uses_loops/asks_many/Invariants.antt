use Rattle.std.specs.Prelude.{◌≤◌, ◌∷◌, []}
use Rattle.iox_hub_laws.specs.Waiting.{AllCarry, server_of}
use Rattle.iceoryx2_ports.proofs.uses_loops.asks_many.Given as goal

-- nothing else waits, and no more were sent than turns were taken
abbrev pub invariant-loop-turn : goal.invariant-loop-turn
invariant-loop-turn l = record {
  all : AllCarry l.hub (server_of l.server.number) (l.value ∷ []);
  most : l.sent ≤ l.turn;
}
