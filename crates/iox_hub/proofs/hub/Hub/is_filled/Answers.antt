use Rattle.iox_control.specs.Entries.{handle_state}
use Rattle.iox_hub.proofs.FillingCalls.{slot_within}
use Rattle.iox_hub.proofs.hub.Hub.is_filled.Goals as goal

pub is_filled_in-requires : goal.is_filled_in-requires
is_filled_in-requires g c =
    slot_within c.self.invariant c.args.node c.args.number (handle_state c.in-Some.entry) c.in-Some.ensures
