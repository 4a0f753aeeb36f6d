use Rattle.std.specs.Prelude.{false}
use Rattle.std.proofs.Common.{arith}
use Rattle.iox_store.specs.Stored.{with_user}
use Rattle.iox_hub.proofs.AllCarried.{response_now, responses_found, responses_low}
use Rattle.iox_hub.proofs.Reading.{has_slot}
use Rattle.iox_hub.proofs.filled.set_response_header_in.Goals as goal

pub index_mut-responses-requires : goal.index_mut-responses-requires
index_mut-responses-requires g c =
    let low = responses_low c.words.inside.roles.items c.words.inside.requests.items c.words.inside.responses.items _ c.args.words.now c.words.view_is
    c.args.pool c.args.slot c.requires.there c.requires.responses in
    omega (arith, low, c.words.inside.responses.ok.0)

pub set_user_header-requires : goal.set_user_header-requires
set_user_header-requires g c =
    has_slot c.args.words.now.pools c.args.pool c.args.slot false _
    (responses_found c.words.inside.roles.items c.words.inside.requests.items c.words.inside.responses.items _ c.args.words.now c.words.view_is
    c.args.pool c.args.slot c.requires.there c.requires.responses
    c.index_mut-responses.result.now c.index_mut-responses.ensures.value)
    c.requires.there

pub returns : goal.returns
returns g c =
    response_now c.words.inside.roles.items c.words.inside.requests.items c.words.inside.responses.items _ c.args.words.now c.words.view_is
    c.args.pool c.args.slot c.requires.there c.requires.responses
    c.index_mut-responses.result.now c.index_mut-responses.ensures.value _
    (λ s. with_user s (g.PH.Words.words c.args.user)) c.set_user_header.ensures
