use Rattle.std.specs.Prelude.{◌≡◌, Some}
use Rattle.std.proofs.Common.{subst, sym, ◌∙◌}
use Rattle.iox_hub_ports.specs.InPlace.{AllApart}
use Rattle.iox_hub_ports.specs.Ports.{place_in}
use Rattle.iox_hub_ports.proofs.Hinted.{first_in_place}
use Rattle.iox_control.specs.Controls.{ControlState}
use Rattle.iox_control.proofs.InPlaceLemmas.{place_within, state_told_in}
use Rattle.iox_control.proofs.control.Control.state_in.Goals as goal

pub state_in-requires-clause-there : goal.state_in-requires-clause-there
state_in-requires-clause-there c =
    place_within c.self.inside.ports.ports c.args.way.sender c.args.at
    (subst (λ (d : ControlState). place_in d.tables.ports c.args.way.sender ≡ Some c.args.at) (sym c.self.view_is) c.requires.there)

pub state_in-requires-clause-once : goal.state_in-requires-clause-once
state_in-requires-clause-once c =
    first_in_place c.self.inside.ports.ports c.args.at c.args.hint
    (subst (λ (d : ControlState). AllApart d.tables.ports) (sym c.self.view_is) c.requires.apart)

pub returns-clause-state : goal.returns-clause-state
returns-clause-state c =
    rw (← c.self.view_is)
    (c.state_in.ensures.state
    ∙ state_told_in c.self.inside.ports.ports c.args.way c.args.at
    (subst (λ (d : ControlState). place_in d.tables.ports c.args.way.sender ≡ Some c.args.at) (sym c.self.view_is) c.requires.there))
