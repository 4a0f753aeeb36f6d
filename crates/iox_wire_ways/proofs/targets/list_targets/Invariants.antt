use Rattle.std.specs.Prelude.{vec_len}
use Rattle.std.proofs.Common.{◌≡◌, ◌≤◌, ◌<◌, length, vec_capacity}
use Rattle.iox_model.specs.declared.kind.Role.TheVariants.{Server}
use Rattle.iox_wire_copies.specs.Target.{Target}
use Rattle.iox_wire_ways.specs.RequestTargets.{KeepsTerms, target_of, target_terms}
use Rattle.iox_wire_ways.specs.Visits.{is_other}
use Rattle.iox_wire_ways.proofs.ListLemmas.{made_before}
use Rattle.iox_wire_ways.proofs.targets.list_targets.Given as goal

-- the servers among the ports so far
abbrev pub invariant-loop-index : goal.invariant-loop-index
invariant-loop-index l = record {
  targets : l.targets.items ≡ made_before Target l.map (is_other Server l.seat.seat.forgot) (target_of l.map l.client) l.index;
  told : 0 < length l.targets.items → l.told ≡ target_terms l.map l.lane l.terms;
  rest : KeepsTerms l.terms l.told;
  few : vec_len l.targets ≤ l.index;
  list : vec_capacity l.targets ≡ vec_capacity l.fn.targets;
  below : l.index ≤ l.index-end;
  size : l.index-end ≡ length l.map.ports.items;
}
