use Rattle.std.proofs.Common.{arith}
use Rattle.iox_hub.proofs.AllCarried.{requests_found, requests_low}
use Rattle.iox_hub.proofs.reads.requests_in.Goals as goal

pub index-requires : goal.index-requires
index-requires g c =
    let low = requests_low c.words.inside.roles.items c.words.inside.requests.items c.words.inside.responses.items _ c.args.words.now c.words.view_is
    c.args.pool c.requires.requests in
    omega (arith, low, c.words.inside.requests.ok.0)

pub returns : goal.returns
returns g c =
    requests_found c.words.inside.roles.items c.words.inside.requests.items c.words.inside.responses.items _ c.args.words.now c.words.view_is
    c.args.pool c.requires.requests
    c.index.result.now c.index.ensures
