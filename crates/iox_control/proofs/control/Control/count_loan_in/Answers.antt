use Rattle.std.specs.Prelude.{◌≡◌, ◌<◌, ◌-◌, ◌^◌, ℕ, Some}
use Rattle.std.specs.Option.{option_map_or}
use Rattle.std.proofs.Common.{ap, subst, sym, ◌∙◌}
use Rattle.iox_hub_ports.specs.HubStates.Tables.{PortState, port_in}
use Rattle.iox_hub_ports.specs.InPlace.{with_place}
use Rattle.iox_hub_ports.specs.Ports.{place_in, with_loan_counted}
use Rattle.iox_hub_ports.proofs.InPlace.{asked_by_number, changed_by_number}
use Rattle.iox_control.specs.Controls.{ControlState, with_ports}
use Rattle.iox_control.proofs.InPlaceLemmas.{place_within, with_those_ports}
use Rattle.iox_control.proofs.control.Control.count_loan_in.Goals as goal

pub count_loan_in-requires-clause-there : goal.count_loan_in-requires-clause-there
count_loan_in-requires-clause-there c =
    place_within c.self.inside.ports.ports c.args._port c.args.at
    (subst (λ (d : ControlState). place_in d.tables.ports c.args._port ≡ Some c.args.at) (sym c.self.view_is) c.requires.there)

pub count_loan_in-requires-clause-loans : goal.count_loan_in-requires-clause-loans
count_loan_in-requires-clause-loans c =
    subst (λ (n : ℕ). n < 2 ^ 64 - 1)
    (sym (asked_by_number c.self.inside.ports.ports c.args._port c.args.at (λ (p : PortState). p.loans) 0
    (subst (λ (d : ControlState). place_in d.tables.ports c.args._port ≡ Some c.args.at) (sym c.self.view_is) c.requires.there)))
    (subst (λ (d : ControlState). option_map_or (λ (p : PortState). p.loans) (port_in d.tables.ports c.args._port) 0 < 2 ^ 64 - 1) (sym c.self.view_is) c.requires.loans)

pub returns : goal.returns
returns c =
    with_those_ports (λ ps. with_place with_loan_counted ps c.args.at) c.self.inside.handles c.args.self.now c.self.view_is c.count_loan_in.ensures
    ∙ ap (with_ports c.args.self.now) (changed_by_number c.args.self.now.tables.ports c.args._port c.args.at with_loan_counted c.requires.there)
