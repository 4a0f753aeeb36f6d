use Rattle.std.specs.Prelude.{true, flat_map, length}
use Rattle.std.proofs.Common.{ap, arith, ◌∙◌}
use Rattle.iox_hub.specs.Copying.{copied_stored}
use Rattle.iox_hub.specs.Lending.{with_message}
use Rattle.iox_hub.specs.Words.{stored_in}
use Rattle.iox_hub.proofs.AllCarried.{request_now, requests_found, requests_low, room_found}
use Rattle.iox_hub.proofs.Reading.{has_slot}
use Rattle.iox_hub.proofs.copies.copy_request_in.Goals as goal

pub index_mut-requests-requires : goal.index_mut-requests-requires
index_mut-requests-requires g c =
    let low = requests_low c.words.inside.roles.items c.words.inside.requests.items c.words.inside.responses.items _ c.args.words.now c.words.view_is
    c.args.place.pool c.requires.requests in
    omega (arith, low, c.words.inside.requests.ok.0)

pub copy_in-requires-clause-there : goal.copy_in-requires-clause-there
copy_in-requires-clause-there g c =
    has_slot c.args.words.now.pools c.args.place.pool c.args.place.slot true _
    (requests_found c.words.inside.roles.items c.words.inside.requests.items c.words.inside.responses.items _ c.args.words.now c.words.view_is
    c.args.place.pool c.requires.requests
    c.index_mut-requests.result.now c.index_mut-requests.ensures.value)
    c.requires.there

pub copy_in-requires-clause-room : goal.copy_in-requires-clause-room
copy_in-requires-clause-room g c =
    room_found c.args.words.now.pools c.args.place.pool _ c.args.spare true _
    (requests_found c.words.inside.roles.items c.words.inside.requests.items c.words.inside.responses.items _ c.args.words.now c.words.view_is
    c.args.place.pool c.requires.requests
    c.index_mut-requests.result.now c.index_mut-requests.ensures.value)
    c.requires.room

pub returns : goal.returns
returns g c =
    request_now c.words.inside.roles.items c.words.inside.requests.items c.words.inside.responses.items _ c.args.words.now c.words.view_is
    c.args.place.pool c.requires.requests
    c.index_mut-requests.result.now c.index_mut-requests.ensures.value c.args.place.slot _
    (copied_stored (g.QH.Words.words c.user_header.result) (length c.args.values.now) (flat_map g.QE.Words.words c.args.values.now)) c.copy_in.ensures
    ∙ ap
    (λ u. with_message c.args.words.now.pools c.args.place.pool c.args.place.slot
    (copied_stored (g.QH.Words.words u) (length c.args.values.now) (flat_map g.QE.Words.words c.args.values.now) (stored_in c.args.words.now.pools c.args.place.pool c.args.place.slot)))
    c.user_header.ensures
