use Rattle.std.specs.Prelude.{◌≤◌, ◌∷◌, []}
use Rattle.iox_model.specs.declared.kind.Kind.TheVariants as kinds
use Rattle.iox_hub_laws.specs.Hubs.{HasValue}
use Rattle.iox_hub_laws.specs.Waiting.{AllCarry, client_in}
use Rattle.iceoryx2_ports.proofs.uses_loops.answers_many.Given as goal

-- both are there, nothing else waits, and no more were sent than turns were taken
abbrev pub invariant-loop-turn : goal.invariant-loop-turn
invariant-loop-turn l = record {
  request : HasValue l.hub l.request.node l.request.number kinds.ActiveRequest;
  pending : HasValue l.hub l.pending.node l.pending.number kinds.PendingResponse;
  all : AllCarry l.hub (client_in l.hub l.pending.node l.pending.number) (l.value ∷ []);
  most : l.sent ≤ l.turn;
}
