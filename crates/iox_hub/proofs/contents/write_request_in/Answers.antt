use Rattle.std.specs.Prelude.{true, flat_map}
use Rattle.std.proofs.Common.{ap, arith, ◌∙◌}
use Rattle.iox_store.specs.Stored.{StoredMessage, filled_with}
use Rattle.iox_hub.proofs.AllCarried.{request_now, requests_found, requests_low}
use Rattle.iox_hub.proofs.Reading.{has_slot, stored_is}
use Rattle.iox_hub.proofs.contents.write_request_in.Goals as goal

pub index_mut-requests-requires : goal.index_mut-requests-requires
index_mut-requests-requires g c =
    let low = requests_low c.words.inside.roles.items c.words.inside.requests.items c.words.inside.responses.items _ c.args.words.now c.words.view_is
    c.args.pool c.requires.requests in
    omega (arith, low, c.words.inside.requests.ok.0)

pub write_from_slice-requires-clause-there : goal.write_from_slice-requires-clause-there
write_from_slice-requires-clause-there g c =
    has_slot c.args.words.now.pools c.args.pool c.args.slot true _
    (requests_found c.words.inside.roles.items c.words.inside.requests.items c.words.inside.responses.items _ c.args.words.now c.words.view_is
    c.args.pool c.requires.requests
    c.index_mut-requests.result.now c.index_mut-requests.ensures.value)
    c.requires.there

pub write_from_slice-requires-clause-equal : goal.write_from_slice-requires-clause-equal
write_from_slice-requires-clause-equal g c =
    c.requires.equal
    ∙ ap (λ (s : StoredMessage). s.elements) (stored_is c.args.words.now.pools c.args.pool c.args.slot true _
    (requests_found c.words.inside.roles.items c.words.inside.requests.items c.words.inside.responses.items _ c.args.words.now c.words.view_is
    c.args.pool c.requires.requests
    c.index_mut-requests.result.now c.index_mut-requests.ensures.value))

pub returns : goal.returns
returns g c =
    request_now c.words.inside.roles.items c.words.inside.requests.items c.words.inside.responses.items _ c.args.words.now c.words.view_is
    c.args.pool c.requires.requests
    c.index_mut-requests.result.now c.index_mut-requests.ensures.value c.args.slot _
    (λ s. filled_with s (flat_map g.QE.Words.words c.args.values.now)) c.write_from_slice.ensures
