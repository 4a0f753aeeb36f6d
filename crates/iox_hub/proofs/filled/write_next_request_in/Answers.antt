use Rattle.std.specs.Prelude.{true, ◌<◌}
use Rattle.std.proofs.Common.{arith, subst}
use Rattle.iox_store.specs.Stored.{StoredMessage, written_next}
use Rattle.iox_hub.proofs.AllCarried.{request_now, requests_found, requests_low}
use Rattle.iox_hub.proofs.Reading.{has_slot, stored_is}
use Rattle.iox_hub.proofs.filled.write_next_request_in.Goals as goal

pub index_mut-requests-requires : goal.index_mut-requests-requires
index_mut-requests-requires g c =
    let low = requests_low c.words.inside.roles.items c.words.inside.requests.items c.words.inside.responses.items _ c.args.words.now c.words.view_is
    c.args.pool c.requires.requests in
    omega (arith, low, c.words.inside.requests.ok.0)

pub write_next-requires-clause-there : goal.write_next-requires-clause-there
write_next-requires-clause-there g c =
    has_slot c.args.words.now.pools c.args.pool c.args.slot true _
    (requests_found c.words.inside.roles.items c.words.inside.requests.items c.words.inside.responses.items _ c.args.words.now c.words.view_is
    c.args.pool c.requires.requests
    c.index_mut-requests.result.now c.index_mut-requests.ensures.value)
    c.requires.there

pub write_next-requires-clause-room : goal.write_next-requires-clause-room
write_next-requires-clause-room g c =
    subst (λ (s : StoredMessage). s.filled < s.elements) (stored_is c.args.words.now.pools c.args.pool c.args.slot true _
    (requests_found c.words.inside.roles.items c.words.inside.requests.items c.words.inside.responses.items _ c.args.words.now c.words.view_is
    c.args.pool c.requires.requests
    c.index_mut-requests.result.now c.index_mut-requests.ensures.value))
    c.requires.room

pub returns : goal.returns
returns g c =
    request_now c.words.inside.roles.items c.words.inside.requests.items c.words.inside.responses.items _ c.args.words.now c.words.view_is
    c.args.pool c.requires.requests
    c.index_mut-requests.result.now c.index_mut-requests.ensures.value c.args.slot _
    (λ s. written_next s (g.QE.Words.words c.args.value)) c.write_next.ensures
