use Rattle.std.specs.Prelude.{◌≡◌, ◌≤◌, ◌∷◌, ℕ, IfSome, []}
use Rattle.iox_hub_laws.specs.Waiting.{AllCarry, client_in}
use Rattle.iceoryx2_ports.proofs.uses_loops.hears_while_connected.Given as goal

-- if all that waited carried one value, all that waits does, and so did what was read last
abbrev pub invariant-loop-turn : goal.invariant-loop-turn
invariant-loop-turn l = record {
  all :
      (value : ℕ) → AllCarry l.fn.hub (client_in l.fn.hub l.pending.node l.pending.number) (value ∷ [])
      → AllCarry l.hub (client_in l.hub l.pending.node l.pending.number) (value ∷ []);
  read :
      (value : ℕ) → AllCarry l.fn.hub (client_in l.fn.hub l.pending.node l.pending.number) (value ∷ [])
      → IfSome l.last (λ last. last ≡ value);
  most : l.taken ≤ l.turn;
}
