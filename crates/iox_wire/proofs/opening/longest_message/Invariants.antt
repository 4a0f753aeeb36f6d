use Rattle.std.specs.List.{fold}
use Rattle.std.specs.Prelude.{max}
use Rattle.std.proofs.Common.{◌≡◌, take}
use Rattle.iox_wire_weaves.specs.PlanPort.{PlanPort}
use Rattle.iox_wire.proofs.opening.longest_message.Given as goal

-- the most words of the ports so far
abbrev pub invariant-loop-port : goal.invariant-loop-port
invariant-loop-port l = record {
  most : l.most ≡ fold (λ most (port : PlanPort). max most port.slot_words) 0 (take l.port-index l.plan.ports.items);
}
