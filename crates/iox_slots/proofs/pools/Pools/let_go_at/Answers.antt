use Rattle.std.proofs.Common.{arith}
use Rattle.iox_slots.proofs.FreeListLemmas.{none_taken}
use Rattle.iox_slots.proofs.pools.Pools.let_go_at.Goals as goal

pub returns-clause-had : goal.returns-clause-had
returns-clause-had c =
    rw (← c.self.view_is)
    (none_taken c.self.inside.places.items c.args.place c.args.slot (omega (arith, c.if-place-len.false, c.len.ensures, c.self.inside.places.ok.0)))
