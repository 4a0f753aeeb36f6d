use Rattle.std.specs.Prelude.{◌<◌, length}
use Rattle.std.proofs.Common.{subst, sym}
use Rattle.iox_hub_ports.proofs.Finding.{is_within, place_is_at}
use Rattle.iox_control_releasing.proofs.handle.give_up.Goals as goal

pub rank-hint-requires : goal.rank-hint-requires
rank-hint-requires c =
    subst (λ ps. c.args.at < length ps) (sym c.ports.ensures.ports)
    (is_within c.args.control.now.tables.ports c.args.entry.port c.args.at (place_is_at c.args.control.now.tables.ports c.args.entry.port c.args.at c.requires.there))
