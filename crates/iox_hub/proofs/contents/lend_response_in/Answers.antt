use Rattle.std.specs.Prelude.{false}
use Rattle.std.proofs.Common.{arith}
use Rattle.iox_hub.specs.Lending.{first_stored}
use Rattle.iox_hub.specs.Shapes.{shape_of}
use Rattle.iox_hub.proofs.AllCarried.{response_now, responses_found, responses_low, room_found}
use Rattle.iox_hub.proofs.Reading.{has_slot}
use Rattle.iox_hub.proofs.contents.lend_response_in.Goals as goal

pub index_mut-responses-requires : goal.index_mut-responses-requires
index_mut-responses-requires g c =
    let low = responses_low c.words.inside.roles.items c.words.inside.requests.items c.words.inside.responses.items _ c.args.words.now c.words.view_is
    c.args.pool c.args.slot c.requires.there c.requires.responses in
    omega (arith, low, c.words.inside.responses.ok.0)

pub lend_in-requires-clause-there : goal.lend_in-requires-clause-there
lend_in-requires-clause-there g c =
    has_slot c.args.words.now.pools c.args.pool c.args.slot false _
    (responses_found c.words.inside.roles.items c.words.inside.requests.items c.words.inside.responses.items _ c.args.words.now c.words.view_is
    c.args.pool c.args.slot c.requires.there c.requires.responses
    c.index_mut-responses.result.now c.index_mut-responses.ensures.value)
    c.requires.there

pub lend_in-requires-clause-room : goal.lend_in-requires-clause-room
lend_in-requires-clause-room g c =
    room_found c.args.words.now.pools c.args.pool _ c.args.spare false _
    (responses_found c.words.inside.roles.items c.words.inside.requests.items c.words.inside.responses.items _ c.args.words.now c.words.view_is
    c.args.pool c.args.slot c.requires.there c.requires.responses
    c.index_mut-responses.result.now c.index_mut-responses.ensures.value)
    c.requires.room

pub returns : goal.returns
returns g c many =
    response_now c.words.inside.roles.items c.words.inside.requests.items c.words.inside.responses.items _ c.args.words.now c.words.view_is
    c.args.pool c.args.slot c.requires.there c.requires.responses
    c.index_mut-responses.result.now c.index_mut-responses.ensures.value _
    (λ s. first_stored (shape_of many g.PE.Words.WORDS g.PE.Words.words g.PH.Words.words c.args.shape.now) c.args.uninit c.args.elements s) (c.lend_in.ensures many)
