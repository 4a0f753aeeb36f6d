-- A begun call keeps what the parties' words say, by the law of its party.
use Rattle.std.proofs.Common.{◌<◌, length, arith}
use Rattle.iox_steps.proofs.MachineStateLemmas.{begin_keeps}
use Rattle.iox_steps.proofs.machine.Machine.begin.Goals as goal

pub invariant_of-self : goal.invariant_of-self
invariant_of-self g c =
    let within : c.args.party < length c.self.inside.parties.items = omega (arith, c.len.ensures, c.self.inside.parties.ok.0, c.if-party-len.false) in
    begin_keeps g.P.Party.asks g.P.Party.leads g.P.MachineParty.happens g.P.MachineParty.at_rest g.P.MachineParty.begins g.P.MachineParty.Invariant g.met.P.MachineParty.starts
    _ c.args.party c.args.call _ _ c.begin.result
    within c.index_mut.ensures.value c.begin.ensures.begun c.begin.ensures.unchanged c.self.invariant
