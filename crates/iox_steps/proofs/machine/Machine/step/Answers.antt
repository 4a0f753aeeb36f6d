-- An access keeps what the parties' words say, by the law of its party.
use Rattle.std.proofs.Common.{◌<◌, length, arith, subst, set}
use Rattle.iox_steps.specs.MachineStates.{MachineState, Stepped}
use Rattle.iox_steps.proofs.MachineStateLemmas.{step_of}
use Rattle.iox_steps.proofs.Schedules.{stepped_keeps}
use Rattle.iox_steps.proofs.machine.Machine.step.Goals as goal

pub step-answer-requires-clause-within : goal.step-answer-requires-clause-within
step-answer-requires-clause-within g c =
    let within : c.args.party < length c.self.inside.parties.items = omega (arith, c.len.ensures, c.self.inside.parties.ok.0, c.if-party-len.false) in
    g.met.P.MachineParty.stays_in _ _ _ c.self.invariant (within, c.index_mut.ensures.value)

pub invariant_of-self-2 : goal.invariant_of-self-2
invariant_of-self-2 g c =
    let within : c.args.party < length c.self.inside.parties.items = omega (arith, c.len.ensures, c.self.inside.parties.ok.0, c.if-party-len.false) in
    let old : MachineState _ _ = record { words = c.self.inside.words.items; parties = c.self.inside.parties.items; events = c.self.inside.events.items } in
    stepped_keeps g.P.Party.asks g.P.Party.leads g.P.MachineParty.happens g.P.MachineParty.at_rest g.P.MachineParty.begins g.P.MachineParty.Invariant g.met.P.MachineParty.keeps
    old c.args.party c.step-answer.result _ c.self.invariant
    (step_of g.P.Party.asks g.P.Party.leads g.P.MachineParty.happens g.P.MachineParty.at_rest g.P.MachineParty.begins
    old c.args.party c.index.result.now c.index_mut.result.now c.step-answer.new.self c.step-answer.result
    c.step-answer.new.words.items c.is_at_rest.result c.reserve.new.self.items c.step-answer.new.events.items
    within c.index.ensures c.index_mut.ensures.value c.is_at_rest.ensures c.if-is_at_rest.false
    c.step-answer.ensures.words c.step-answer.ensures.led c.reserve.ensures.items
    c.step-answer.ensures.told)

pub returns-clause-stepped : goal.returns-clause-stepped
returns-clause-stepped g c =
    let within : c.args.party < length c.self.inside.parties.items = omega (arith, c.len.ensures, c.self.inside.parties.ok.0, c.if-party-len.false) in
    let old : MachineState _ _ = record { words = c.self.inside.words.items; parties = c.self.inside.parties.items; events = c.self.inside.events.items } in
    let new : MachineState _ _ = record {
      words = c.step-answer.new.words.items;
      parties = set c.self.inside.parties.items c.args.party c.step-answer.new.self;
      events = c.step-answer.new.events.items;
    } in
    subst
    (λ (w : MachineState _ _). Stepped g.P.Party.asks g.P.Party.leads g.P.MachineParty.happens g.P.MachineParty.at_rest g.P.MachineParty.begins
    w c.args.party c.step-answer.result new) c.self.view_is
    (step_of g.P.Party.asks g.P.Party.leads g.P.MachineParty.happens g.P.MachineParty.at_rest g.P.MachineParty.begins
    old c.args.party c.index.result.now c.index_mut.result.now c.step-answer.new.self c.step-answer.result
    c.step-answer.new.words.items c.is_at_rest.result c.reserve.new.self.items c.step-answer.new.events.items
    within c.index.ensures c.index_mut.ensures.value c.is_at_rest.ensures c.if-is_at_rest.false
    c.step-answer.ensures.words c.step-answer.ensures.led c.reserve.ensures.items
    c.step-answer.ensures.told)
