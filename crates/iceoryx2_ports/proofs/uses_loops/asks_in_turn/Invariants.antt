use Rattle.std.specs.Prelude.{◌≡◌}
use Rattle.iox_hub_laws.specs.Waiting.{server_of}
use Rattle.iceoryx2_ports.specs.Idling.{IsIdle}
use Rattle.iceoryx2_ports.proofs.uses_loops.asks_in_turn.Given as goal

-- the server is idle, and in each turn one request was sent and taken
abbrev pub invariant-loop-turn : goal.invariant-loop-turn
invariant-loop-turn l = record {
  idle : IsIdle l.hub (server_of l.server.number);
  sent : l.sent ≡ l.turn;
  taken : l.taken ≡ l.turn;
}
