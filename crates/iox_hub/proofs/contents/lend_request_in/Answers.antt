use Rattle.std.specs.Prelude.{true}
use Rattle.std.proofs.Common.{arith}
use Rattle.iox_hub.specs.Lending.{first_stored}
use Rattle.iox_hub.specs.Shapes.{shape_of}
use Rattle.iox_hub.proofs.AllCarried.{request_now, requests_found, requests_low, room_found}
use Rattle.iox_hub.proofs.Reading.{has_slot}
use Rattle.iox_hub.proofs.contents.lend_request_in.Goals as goal

pub index_mut-requests-requires : goal.index_mut-requests-requires
index_mut-requests-requires g c =
    let low = requests_low c.words.inside.roles.items c.words.inside.requests.items c.words.inside.responses.items _ c.args.words.now c.words.view_is
    c.args.pool c.requires.requests in
    omega (arith, low, c.words.inside.requests.ok.0)

pub lend_in-requires-clause-there : goal.lend_in-requires-clause-there
lend_in-requires-clause-there g c =
    has_slot c.args.words.now.pools c.args.pool c.args.slot true _
    (requests_found c.words.inside.roles.items c.words.inside.requests.items c.words.inside.responses.items _ c.args.words.now c.words.view_is
    c.args.pool c.requires.requests
    c.index_mut-requests.result.now c.index_mut-requests.ensures.value)
    c.requires.there

pub lend_in-requires-clause-room : goal.lend_in-requires-clause-room
lend_in-requires-clause-room g c =
    room_found c.args.words.now.pools c.args.pool _ c.args.spare true _
    (requests_found c.words.inside.roles.items c.words.inside.requests.items c.words.inside.responses.items _ c.args.words.now c.words.view_is
    c.args.pool c.requires.requests
    c.index_mut-requests.result.now c.index_mut-requests.ensures.value)
    c.requires.room

pub returns : goal.returns
returns g c many =
    request_now c.words.inside.roles.items c.words.inside.requests.items c.words.inside.responses.items _ c.args.words.now c.words.view_is
    c.args.pool c.requires.requests
    c.index_mut-requests.result.now c.index_mut-requests.ensures.value c.args.slot _
    (λ s. first_stored (shape_of many g.QE.Words.WORDS g.QE.Words.words g.QH.Words.words c.args.shape.now) c.args.uninit c.args.elements s) (c.lend_in.ensures many)
