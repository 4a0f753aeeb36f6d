use Rattle.std.specs.Prelude.{false, true}
use Rattle.iox_hub.proofs.AllCarried.{some_place}
use Rattle.iox_hub.proofs.Reading.{has_slot}
use Rattle.iox_hub.proofs.filled.is_filled_in.Goals as goal

pub are_requests-requires : goal.are_requests-requires
are_requests-requires g c = some_place c.args.words.now.pools c.args.pool c.args.slot c.requires

pub is_full_in-requires : goal.is_full_in-requires
is_full_in-requires g c = has_slot c.args.words.now.pools c.args.pool c.args.slot true _ c.requests_in.ensures c.requires

pub is_full_in-requires-2 : goal.is_full_in-requires-2
is_full_in-requires-2 g c = has_slot c.args.words.now.pools c.args.pool c.args.slot false _ c.responses_in.ensures c.requires
