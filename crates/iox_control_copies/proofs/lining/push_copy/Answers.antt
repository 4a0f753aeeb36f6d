use Rattle.std.specs.Prelude.{◌≡◌, Some}
use Rattle.std.proofs.Common.{subst, sym}
use Rattle.iox_hub_ports.specs.InPlace.{AllApart}
use Rattle.iox_hub_ports.specs.Ports.{place_in}
use Rattle.iox_control.specs.Controls.{ControlState}
use Rattle.iox_control_copies.proofs.Pushed.{pushed_so}
use Rattle.iox_control_copies.proofs.Seated.{apart_lent, place_lent}
use Rattle.iox_control_copies.proofs.lining.push_copy.Goals as goal

pub push_out-requires-clause-there : goal.push_out-requires-clause-there
push_out-requires-clause-there c =
    subst (λ (d : ControlState). place_in d.tables.ports c.args.lender.now.client ≡ Some c.args.to.place) (sym c.count_loan_in.ensures)
    (place_lent c.args.control.now.tables.ports c.args.lender.now.port.number c.args.lender.now.client c.args.to.place c.requires.there)

pub push_out-requires-clause-apart : goal.push_out-requires-clause-apart
push_out-requires-clause-apart c =
    subst (λ (d : ControlState). AllApart d.tables.ports) (sym c.count_loan_in.ensures)
    (apart_lent c.args.control.now.tables.ports c.args.lender.now.port.number c.args.at c.requires.place c.requires.apart)

pub returns : goal.returns
returns c p is =
    pushed_so c.args.lender.now c.args.slot c.args.control.now _ _ _ _ c.count_loan_in.ensures c.push_out.ensures c.count_call.ensures c.count_call-2.ensures p is
