use Rattle.std.proofs.Common.{ap, ◌∙◌, arith}
use Rattle.iox_tables.specs.HubStates.Tables.{numbers_of}
use Rattle.iox_hub_ports.specs.InPlace.{roles_of}
use Rattle.iox_hub_ports.proofs.Keeping.{states_keep, states_keep_roles}
use Rattle.iox_hub_ports.specs.Ports.{if_role, state_ways, with_state_from}
use Rattle.iox_hub_ports.proofs.Walking.{each_state, ends, set_size, turns}
use Rattle.iox_hub_ports.proofs.walks.on_each_state.Goals as goal

pub loop-i-preserved : goal.loop-i-preserved
loop-i-preserved g c = record {
  walks = turns (if_role c.args.role (λ p. with_state_from (g.S.StateStep.changed c.args.step.now) p c.args.receiver c.args.lane))
      c.args.ports.now.items c.loop-i.ports.items c.loop-i.i c.index_mut.result.now c.on_state_if.new.port
      c.loop-i.invariant.walks (omega (arith, c.loop-i-test.true, c.loop-i.invariant.size)) c.index_mut.ensures.value
      c.on_state_if.ensures;
  size = set_size c.loop-i.ports.items c.loop-i.i c.on_state_if.new.port ∙ c.loop-i.invariant.size;
  capacity = c.loop-i.invariant.capacity;
}

pub returns-clause-changed : goal.returns-clause-changed
returns-clause-changed g c =
    ends (if_role c.args.role (λ p. with_state_from (g.S.StateStep.changed c.args.step.now) p c.args.receiver c.args.lane))
    c.args.ports.now.items c.loop-i.ports.items c.loop-i.i c.loop-i.invariant.walks
    (omega (arith, c.loop-i-test.false, c.loop-i.invariant.size))
    ∙ each_state (g.S.StateStep.changed c.args.step.now) c.args.receiver c.args.lane c.args.role c.args.ports.now.items c.requires.apart

pub returns-clause-numbers : goal.returns-clause-numbers
returns-clause-numbers g c =
    ap numbers_of (returns-clause-changed g c)
    ∙ states_keep (g.S.StateStep.changed c.args.step.now) c.args.ports.now.items (state_ways c.args.receiver c.args.lane c.args.role c.args.ports.now.items)

pub returns-clause-roles : goal.returns-clause-roles
returns-clause-roles g c =
    ap roles_of (returns-clause-changed g c)
    ∙ states_keep_roles (g.S.StateStep.changed c.args.step.now) c.args.ports.now.items (state_ways c.args.receiver c.args.lane c.args.role c.args.ports.now.items)
