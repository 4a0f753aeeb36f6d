use Rattle.std.specs.Prelude.{◌≡◌, Some, is_some, true}
use Rattle.std.proofs.Common.{ap, false, subst, sym}
use Rattle.iox_hub_ports.specs.InPlace.{AllApart, in_place}
use Rattle.iox_hub_ports.specs.Known.{is_from}
use Rattle.iox_hub_ports.specs.Ports.{place_in}
use Rattle.iox_control.specs.Controls.{ControlState}
use Rattle.iox_control_responses.proofs.HandedOver.{handed_alone}
use Rattle.iox_control_responses.proofs.handing.hand_over_alone.Goals as goal

pub remove_known-requires-clause-there : goal.remove_known-requires-clause-there
remove_known-requires-clause-there c = ap is_some c.requires.loan.named.there

pub remove_known-requires-clause-kind : goal.remove_known-requires-clause-kind
remove_known-requires-clause-kind c = c.requires.kind

pub push_on-requires-clause-there : goal.push_on-requires-clause-there
push_on-requires-clause-there c =
    subst (λ (d : ControlState). place_in d.tables.ports c.args.way.receiver ≡ Some c.args.to.place) (sym c.remove_known.ensures) c.requires.there

pub push_on-requires-clause-apart : goal.push_on-requires-clause-apart
push_on-requires-clause-apart c = subst (λ (d : ControlState). AllApart d.tables.ports) (sym c.remove_known.ensures) c.requires.apart

pub push_on-requires-clause-from : goal.push_on-requires-clause-from
push_on-requires-clause-from c =
    subst (λ (d : ControlState). in_place (is_from c.args.to.rank c.args.way.sender) false d.tables.ports c.args.to.place ≡ true)
    (sym c.remove_known.ensures) c.requires.from

pub returns : goal.returns
returns c =
    handed_alone c.args.control.now c.remove_known.new.self c.push_on.new.self c.count_call.new.self c.args.node c.args.number c.args.way c.args.entry.pool c.args.entry.slot
    c.requires.none c.remove_known.ensures c.push_on.ensures.pushed c.count_call.ensures
