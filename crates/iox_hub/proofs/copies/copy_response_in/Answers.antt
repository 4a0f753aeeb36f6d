use Rattle.std.specs.Prelude.{false, flat_map, length}
use Rattle.std.proofs.Common.{ap, arith, ◌∙◌}
use Rattle.iox_hub.specs.Copying.{copied_stored}
use Rattle.iox_hub.specs.Lending.{with_message}
use Rattle.iox_hub.specs.Words.{stored_in}
use Rattle.iox_hub.proofs.AllCarried.{response_now, responses_found, responses_low, room_found}
use Rattle.iox_hub.proofs.Reading.{has_slot}
use Rattle.iox_hub.proofs.copies.copy_response_in.Goals as goal

pub index_mut-responses-requires : goal.index_mut-responses-requires
index_mut-responses-requires g c =
    let low = responses_low c.words.inside.roles.items c.words.inside.requests.items c.words.inside.responses.items _ c.args.words.now c.words.view_is
    c.args.place.pool c.args.place.slot c.requires.there c.requires.responses in
    omega (arith, low, c.words.inside.responses.ok.0)

pub copy_in-requires-clause-there : goal.copy_in-requires-clause-there
copy_in-requires-clause-there g c =
    has_slot c.args.words.now.pools c.args.place.pool c.args.place.slot false _
    (responses_found c.words.inside.roles.items c.words.inside.requests.items c.words.inside.responses.items _ c.args.words.now c.words.view_is
    c.args.place.pool c.args.place.slot c.requires.there c.requires.responses
    c.index_mut-responses.result.now c.index_mut-responses.ensures.value)
    c.requires.there

pub copy_in-requires-clause-room : goal.copy_in-requires-clause-room
copy_in-requires-clause-room g c =
    room_found c.args.words.now.pools c.args.place.pool _ c.args.spare false _
    (responses_found c.words.inside.roles.items c.words.inside.requests.items c.words.inside.responses.items _ c.args.words.now c.words.view_is
    c.args.place.pool c.args.place.slot c.requires.there c.requires.responses
    c.index_mut-responses.result.now c.index_mut-responses.ensures.value)
    c.requires.room

pub returns : goal.returns
returns g c =
    response_now c.words.inside.roles.items c.words.inside.requests.items c.words.inside.responses.items _ c.args.words.now c.words.view_is
    c.args.place.pool c.args.place.slot c.requires.there c.requires.responses
    c.index_mut-responses.result.now c.index_mut-responses.ensures.value _
    (copied_stored (g.PH.Words.words c.user_header.result) (length c.args.values.now) (flat_map g.PE.Words.words c.args.values.now)) c.copy_in.ensures
    ∙ ap
    (λ u. with_message c.args.words.now.pools c.args.place.pool c.args.place.slot
    (copied_stored (g.PH.Words.words u) (length c.args.values.now) (flat_map g.PE.Words.words c.args.values.now) (stored_in c.args.words.now.pools c.args.place.pool c.args.place.slot)))
    c.user_header.ensures
