use Rattle.std.proofs.Common.{◌∙◌, arith, true}
use Rattle.iox_tables.specs.Lanes.{is_full}
use Rattle.iox_hub_ports.proofs.Seats.{told_at, told_past}
use Rattle.iox_hub_ports.proofs.Sound.{sound_at, sound_past}
use Rattle.iox_hub_ports.proofs.ports.Ports.is_full_at.Goals as goal

pub returns-then-at-len-clause-full : goal.returns-then-at-len-clause-full
returns-then-at-len-clause-full c =
    rw (← c.self.view_is)
    (c.is_full.ensures.full ∙ told_at c.self.inside.ports.items c.args.at c.args.sender c.args.lane c.index.result.now is_full true
    c.self.invariant.apart (omega (arith, c.if-at-len.true, c.len.ensures)) c.index.ensures)

pub returns-clause-full : goal.returns-clause-full
returns-clause-full c =
    rw (← c.self.view_is)
    (told_past c.self.inside.ports.items c.args.at c.args.sender c.args.lane is_full true (omega (arith, c.if-at-len.false, c.len.ensures)))

pub returns-then-at-len-clause-sound : goal.returns-then-at-len-clause-sound
returns-then-at-len-clause-sound c =
    rw (← c.self.view_is)
    (sound_at c.self.inside.ports.items c.args.at c.args.sender c.args.lane c.index.result.now
    c.self.invariant.apart (omega (arith, c.if-at-len.true, c.len.ensures)) c.index.ensures c.is_full.ensures.sound)

pub returns-clause-sound : goal.returns-clause-sound
returns-clause-sound c =
    rw (← c.self.view_is)
    (sound_past c.self.inside.ports.items c.args.at c.args.sender c.args.lane (omega (arith, c.if-at-len.false, c.len.ensures)))
