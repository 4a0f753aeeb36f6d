use Rattle.std.specs.Prelude.{false, ◌<◌}
use Rattle.std.proofs.Common.{arith, subst}
use Rattle.iox_store.specs.Stored.{StoredMessage, written_next}
use Rattle.iox_hub.proofs.AllCarried.{response_now, responses_found, responses_low}
use Rattle.iox_hub.proofs.Reading.{has_slot, stored_is}
use Rattle.iox_hub.proofs.filled.write_next_response_in.Goals as goal

pub index_mut-responses-requires : goal.index_mut-responses-requires
index_mut-responses-requires g c =
    let low = responses_low c.words.inside.roles.items c.words.inside.requests.items c.words.inside.responses.items _ c.args.words.now c.words.view_is
    c.args.pool c.args.slot c.requires.there c.requires.responses in
    omega (arith, low, c.words.inside.responses.ok.0)

pub write_next-requires-clause-there : goal.write_next-requires-clause-there
write_next-requires-clause-there g c =
    has_slot c.args.words.now.pools c.args.pool c.args.slot false _
    (responses_found c.words.inside.roles.items c.words.inside.requests.items c.words.inside.responses.items _ c.args.words.now c.words.view_is
    c.args.pool c.args.slot c.requires.there c.requires.responses
    c.index_mut-responses.result.now c.index_mut-responses.ensures.value)
    c.requires.there

pub write_next-requires-clause-room : goal.write_next-requires-clause-room
write_next-requires-clause-room g c =
    subst (λ (s : StoredMessage). s.filled < s.elements) (stored_is c.args.words.now.pools c.args.pool c.args.slot false _
    (responses_found c.words.inside.roles.items c.words.inside.requests.items c.words.inside.responses.items _ c.args.words.now c.words.view_is
    c.args.pool c.args.slot c.requires.there c.requires.responses
    c.index_mut-responses.result.now c.index_mut-responses.ensures.value))
    c.requires.room

pub returns : goal.returns
returns g c =
    response_now c.words.inside.roles.items c.words.inside.requests.items c.words.inside.responses.items _ c.args.words.now c.words.view_is
    c.args.pool c.args.slot c.requires.there c.requires.responses
    c.index_mut-responses.result.now c.index_mut-responses.ensures.value _
    (λ s. written_next s (g.PE.Words.words c.args.value)) c.write_next.ensures
