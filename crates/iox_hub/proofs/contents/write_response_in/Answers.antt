use Rattle.std.specs.Prelude.{false, flat_map}
use Rattle.std.proofs.Common.{ap, arith, ◌∙◌}
use Rattle.iox_store.specs.Stored.{StoredMessage, filled_with}
use Rattle.iox_hub.proofs.AllCarried.{response_now, responses_found, responses_low}
use Rattle.iox_hub.proofs.Reading.{has_slot, stored_is}
use Rattle.iox_hub.proofs.contents.write_response_in.Goals as goal

pub index_mut-responses-requires : goal.index_mut-responses-requires
index_mut-responses-requires g c =
    let low = responses_low c.words.inside.roles.items c.words.inside.requests.items c.words.inside.responses.items _ c.args.words.now c.words.view_is
    c.args.pool c.args.slot c.requires.there c.requires.responses in
    omega (arith, low, c.words.inside.responses.ok.0)

pub write_from_slice-requires-clause-there : goal.write_from_slice-requires-clause-there
write_from_slice-requires-clause-there g c =
    has_slot c.args.words.now.pools c.args.pool c.args.slot false _
    (responses_found c.words.inside.roles.items c.words.inside.requests.items c.words.inside.responses.items _ c.args.words.now c.words.view_is
    c.args.pool c.args.slot c.requires.there c.requires.responses
    c.index_mut-responses.result.now c.index_mut-responses.ensures.value)
    c.requires.there

pub write_from_slice-requires-clause-equal : goal.write_from_slice-requires-clause-equal
write_from_slice-requires-clause-equal g c =
    c.requires.equal
    ∙ ap (λ (s : StoredMessage). s.elements) (stored_is c.args.words.now.pools c.args.pool c.args.slot false _
    (responses_found c.words.inside.roles.items c.words.inside.requests.items c.words.inside.responses.items _ c.args.words.now c.words.view_is
    c.args.pool c.args.slot c.requires.there c.requires.responses
    c.index_mut-responses.result.now c.index_mut-responses.ensures.value))

pub returns : goal.returns
returns g c =
    response_now c.words.inside.roles.items c.words.inside.requests.items c.words.inside.responses.items _ c.args.words.now c.words.view_is
    c.args.pool c.args.slot c.requires.there c.requires.responses
    c.index_mut-responses.result.now c.index_mut-responses.ensures.value _
    (λ s. filled_with s (flat_map g.PE.Words.words c.args.values.now)) c.write_from_slice.ensures
