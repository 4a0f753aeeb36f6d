use Rattle.std.proofs.Common.{◌≡◌, ℕ, ◌+◌, ap, arith}
use Rattle.iox_control.specs.declared.received.Received.TheVariants.{Handle}
use Rattle.iox_control.specs.Controls.{ControlState}
use Rattle.iox_control.proofs.control.Control.receive_visited.Goals as goal

pub got-requires-clause-room : goal.got-requires-clause-room
got-requires-clause-room c = c.requires.room _ c.in-Got.pool c.in-Got.slot c.in-Got.is

pub got-requires-clause-taken : goal.got-requires-clause-taken
got-requires-clause-taken c = c.requires.taken _ c.in-Got.pool c.in-Got.slot c.in-Got.is

pub got-requires-clause-fits : goal.got-requires-clause-fits
got-requires-clause-fits c = c.requires.fits _ c.in-Got.pool c.in-Got.slot c.in-Got.is

pub returns-in-Got-clause-last : goal.returns-in-Got-clause-last
returns-in-Got-clause-last c =
    let number = c.got.ensures.number in
    let next : c.got.new.self.tables.next_number ≡ c.args.self.now.tables.next_number + 1
    = ap (λ (d : ControlState). d.tables.next_number) c.got.ensures.got in
    ap (λ (n : ℕ). Handle n) (omega (arith, number, next))
