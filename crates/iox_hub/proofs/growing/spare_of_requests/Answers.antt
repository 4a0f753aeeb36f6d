use Rattle.std.proofs.Common.{arith}
use Rattle.iox_hub.proofs.AllCarried.{requests_low}
use Rattle.iox_hub.proofs.growing.spare_of_requests.Goals as goal

pub index_mut-requests-requires : goal.index_mut-requests-requires
index_mut-requests-requires g c =
    let low = requests_low c.words.inside.roles.items c.words.inside.requests.items c.words.inside.responses.items _ c.args.words.now c.words.view_is
    c.args.pool c.requires.requests in
    omega (arith, low, c.words.inside.requests.ok.0)
