use Rattle.std.proofs.Common.{sym, ◌∙◌}
use Rattle.iox_hub.proofs.HeadersShown.{id_is_shown, is_never_missing}
use Rattle.iox_hub.proofs.hub.Hub.port_id.Goals as goal

pub unreachable-requires : goal.unreachable-requires
unreachable-requires g c =
    is_never_missing c.self.invariant c.args.self.now c.self.view_is c.args.node c.args.number c.requires.has _ c.ports.ensures.ports
    (sym c.find.ensures ∙ c.in_default.is)

pub returns-clause-shown : goal.returns-clause-shown
returns-clause-shown g c =
    id_is_shown c.self.invariant c.args.self.now c.self.view_is c.args.node c.args.number c.requires.has
