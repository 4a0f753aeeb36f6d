use Rattle.std.proofs.Common.{arith}
use Rattle.iox_hub.proofs.AllCarried.{responses_low}
use Rattle.iox_hub.proofs.growing.spare_of_responses.Goals as goal

pub index_mut-responses-requires : goal.index_mut-responses-requires
index_mut-responses-requires g c =
    let low = responses_low c.words.inside.roles.items c.words.inside.requests.items c.words.inside.responses.items _ c.args.words.now c.words.view_is
    c.args.pool 0 c.requires.there c.requires.responses in
    omega (arith, low, c.words.inside.responses.ok.0)
