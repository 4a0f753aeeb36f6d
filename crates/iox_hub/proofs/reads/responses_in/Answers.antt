use Rattle.std.proofs.Common.{arith}
use Rattle.iox_hub.proofs.AllCarried.{responses_found, responses_low}
use Rattle.iox_hub.proofs.reads.responses_in.Goals as goal

pub index-requires : goal.index-requires
index-requires g c =
    let low = responses_low c.words.inside.roles.items c.words.inside.requests.items c.words.inside.responses.items _ c.args.words.now c.words.view_is
    c.args.pool 0 c.requires.there c.requires.responses in
    omega (arith, low, c.words.inside.responses.ok.0)

pub returns : goal.returns
returns g c =
    responses_found c.words.inside.roles.items c.words.inside.requests.items c.words.inside.responses.items _ c.args.words.now c.words.view_is
    c.args.pool 0 c.requires.there c.requires.responses
    c.index.result.now c.index.ensures
