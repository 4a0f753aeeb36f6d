use Rattle.iox_hub.proofs.HeadersShown.{header_is_shown}
use Rattle.iox_hub.proofs.hub.Hub.message_header.Goals as goal

pub returns-clause-shown : goal.returns-clause-shown
returns-clause-shown g c =
    header_is_shown c.self.invariant c.args.self.now c.self.view_is c.args.node c.args.number _ c.handle-entry.ensures
