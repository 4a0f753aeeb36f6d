use Rattle.std.specs.Prelude.{true}
use Rattle.std.proofs.Common.{ap, append-nil, arith, sym, ◌∙◌}
use Rattle.iox_store.specs.Stored.{StoredMessage, filled_with}
use Rattle.iox_hub.specs.Lending.{with_message}
use Rattle.iox_hub.specs.Words.{stored_in}
use Rattle.iox_hub.proofs.AllCarried.{request_now, requests_found, requests_low}
use Rattle.iox_hub.proofs.Reading.{has_slot, stored_is}
use Rattle.iox_hub.proofs.contents.write_one_request_in.Goals as goal

pub index_mut-requests-requires : goal.index_mut-requests-requires
index_mut-requests-requires g c =
    let low = requests_low c.words.inside.roles.items c.words.inside.requests.items c.words.inside.responses.items _ c.args.words.now c.words.view_is
    c.args.pool c.requires.requests in
    omega (arith, low, c.words.inside.requests.ok.0)

pub write_payload-requires-clause-there : goal.write_payload-requires-clause-there
write_payload-requires-clause-there g c =
    has_slot c.args.words.now.pools c.args.pool c.args.slot true _
    (requests_found c.words.inside.roles.items c.words.inside.requests.items c.words.inside.responses.items _ c.args.words.now c.words.view_is
    c.args.pool c.requires.requests
    c.index_mut-requests.result.now c.index_mut-requests.ensures.value)
    c.requires.there

pub write_payload-requires-clause-one : goal.write_payload-requires-clause-one
write_payload-requires-clause-one g c =
    ap (λ (s : StoredMessage). s.elements) (sym (stored_is c.args.words.now.pools c.args.pool c.args.slot true _
    (requests_found c.words.inside.roles.items c.words.inside.requests.items c.words.inside.responses.items _ c.args.words.now c.words.view_is
    c.args.pool c.requires.requests
    c.index_mut-requests.result.now c.index_mut-requests.ensures.value)))
    ∙ c.requires.one

pub returns : goal.returns
returns g c =
    request_now c.words.inside.roles.items c.words.inside.requests.items c.words.inside.responses.items _ c.args.words.now c.words.view_is
    c.args.pool c.requires.requests
    c.index_mut-requests.result.now c.index_mut-requests.ensures.value c.args.slot _
    (λ s. filled_with s (g.QE.Words.words c.args.value)) c.write_payload.ensures
    ∙ ap
    (λ ws. with_message c.args.words.now.pools c.args.pool c.args.slot (filled_with (stored_in c.args.words.now.pools c.args.pool c.args.slot) ws))
    (sym (append-nil (g.QE.Words.words c.args.value)))
