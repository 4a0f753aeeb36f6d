use Rattle.std.specs.Prelude.{◌<◌, length}
use Rattle.std.proofs.Common.{subst, sym}
use Rattle.iox_hub_ports.specs.InPlace.{AllApart}
use Rattle.iox_hub_ports.proofs.Hinted.{first_in_place}
use Rattle.iox_control.specs.Controls.{ControlState}
use Rattle.iox_control.proofs.InPlaceLemmas.{got_apart}
use Rattle.iox_control.proofs.control.Control.get_next_in.Goals as goal

pub get_next_in-requires-clause-there : goal.get_next_in-requires-clause-there
get_next_in-requires-clause-there c = subst (λ (d : ControlState). c.args.at < length d.tables.ports) (sym c.self.view_is) c.requires.there

pub get_next_in-requires-clause-once : goal.get_next_in-requires-clause-once
get_next_in-requires-clause-once c =
    first_in_place c.self.inside.ports.ports c.args.at c.args.hint
    (subst (λ (d : ControlState). AllApart d.tables.ports) (sym c.self.view_is) c.requires.apart)

pub returns-clause-apart : goal.returns-clause-apart
returns-clause-apart c =
    got_apart c.get_next_in.result c.self.inside.ports c.get_next_in.new.self c.args.at c.args.sender c.len.ensures.apart
    (subst (λ (d : ControlState). AllApart d.tables.ports) (sym c.self.view_is) c.requires.apart)
    c.get_next_in.ensures.got_back c.get_next_in.ensures.unchanged
