use Rattle.std.specs.Prelude.{false}
use Rattle.std.proofs.Common.{ap, append-nil, arith, sym, ◌∙◌}
use Rattle.iox_store.specs.Stored.{StoredMessage, filled_with}
use Rattle.iox_hub.specs.Lending.{with_message}
use Rattle.iox_hub.specs.Words.{stored_in}
use Rattle.iox_hub.proofs.AllCarried.{response_now, responses_found, responses_low}
use Rattle.iox_hub.proofs.Reading.{has_slot, stored_is}
use Rattle.iox_hub.proofs.contents.write_one_response_in.Goals as goal

pub index_mut-responses-requires : goal.index_mut-responses-requires
index_mut-responses-requires g c =
    let low = responses_low c.words.inside.roles.items c.words.inside.requests.items c.words.inside.responses.items _ c.args.words.now c.words.view_is
    c.args.pool c.args.slot c.requires.there c.requires.responses in
    omega (arith, low, c.words.inside.responses.ok.0)

pub write_payload-requires-clause-there : goal.write_payload-requires-clause-there
write_payload-requires-clause-there g c =
    has_slot c.args.words.now.pools c.args.pool c.args.slot false _
    (responses_found c.words.inside.roles.items c.words.inside.requests.items c.words.inside.responses.items _ c.args.words.now c.words.view_is
    c.args.pool c.args.slot c.requires.there c.requires.responses
    c.index_mut-responses.result.now c.index_mut-responses.ensures.value)
    c.requires.there

pub write_payload-requires-clause-one : goal.write_payload-requires-clause-one
write_payload-requires-clause-one g c =
    ap (λ (s : StoredMessage). s.elements) (sym (stored_is c.args.words.now.pools c.args.pool c.args.slot false _
    (responses_found c.words.inside.roles.items c.words.inside.requests.items c.words.inside.responses.items _ c.args.words.now c.words.view_is
    c.args.pool c.args.slot c.requires.there c.requires.responses
    c.index_mut-responses.result.now c.index_mut-responses.ensures.value)))
    ∙ c.requires.one

pub returns : goal.returns
returns g c =
    response_now c.words.inside.roles.items c.words.inside.requests.items c.words.inside.responses.items _ c.args.words.now c.words.view_is
    c.args.pool c.args.slot c.requires.there c.requires.responses
    c.index_mut-responses.result.now c.index_mut-responses.ensures.value _
    (λ s. filled_with s (g.PE.Words.words c.args.value)) c.write_payload.ensures
    ∙ ap
    (λ ws. with_message c.args.words.now.pools c.args.pool c.args.slot (filled_with (stored_in c.args.words.now.pools c.args.pool c.args.slot) ws))
    (sym (append-nil (g.PE.Words.words c.args.value)))
