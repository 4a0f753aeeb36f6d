use Rattle.std.specs.Prelude.{true}
use Rattle.std.proofs.Common.{arith}
use Rattle.iox_store.specs.Stored.{with_user}
use Rattle.iox_hub.proofs.AllCarried.{request_now, requests_found, requests_low}
use Rattle.iox_hub.proofs.Reading.{has_slot}
use Rattle.iox_hub.proofs.filled.set_request_header_in.Goals as goal

pub index_mut-requests-requires : goal.index_mut-requests-requires
index_mut-requests-requires g c =
    let low = requests_low c.words.inside.roles.items c.words.inside.requests.items c.words.inside.responses.items _ c.args.words.now c.words.view_is
    c.args.pool c.requires.requests in
    omega (arith, low, c.words.inside.requests.ok.0)

pub set_user_header-requires : goal.set_user_header-requires
set_user_header-requires g c =
    has_slot c.args.words.now.pools c.args.pool c.args.slot true _
    (requests_found c.words.inside.roles.items c.words.inside.requests.items c.words.inside.responses.items _ c.args.words.now c.words.view_is
    c.args.pool c.requires.requests
    c.index_mut-requests.result.now c.index_mut-requests.ensures.value)
    c.requires.there

pub returns : goal.returns
returns g c =
    request_now c.words.inside.roles.items c.words.inside.requests.items c.words.inside.responses.items _ c.args.words.now c.words.view_is
    c.args.pool c.requires.requests
    c.index_mut-requests.result.now c.index_mut-requests.ensures.value c.args.slot _
    (λ s. with_user s (g.QH.Words.words c.args.user)) c.set_user_header.ensures
