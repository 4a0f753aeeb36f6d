use Rattle.std.specs.Prelude.{true}
use Rattle.std.proofs.Common.{arith}
use Rattle.iox_store.specs.Stored.{stored_at}
use Rattle.iox_hub.proofs.AllCarried.{request_now, requests_found, requests_low}
use Rattle.iox_hub.proofs.FillingPut.{put_by_answers, put_only}
use Rattle.iox_hub.proofs.Reading.{has_slot}
use Rattle.iox_hub.proofs.filled.write_request_from_fn_in.Goals as goal

pub index_mut-requests-requires : goal.index_mut-requests-requires
index_mut-requests-requires g c =
    let low = requests_low c.words.inside.roles.items c.words.inside.requests.items c.words.inside.responses.items _ c.args.words.now c.words.view_is
    c.args.pool c.requires.requests in
    omega (arith, low, c.words.inside.requests.ok.0)

pub write_from_fn-requires-clause-there : goal.write_from_fn-requires-clause-there
write_from_fn-requires-clause-there g c =
    has_slot c.args.words.now.pools c.args.pool c.args.slot true _
    (requests_found c.words.inside.roles.items c.words.inside.requests.items c.words.inside.responses.items _ c.args.words.now c.words.view_is
    c.args.pool c.requires.requests
    c.index_mut-requests.result.now c.index_mut-requests.ensures.value)
    c.requires.there

pub returns-clause-only : goal.returns-clause-only
returns-clause-only g c =
    put_only c.args.words.now.pools _ c.args.pool c.args.slot _
    (request_now c.words.inside.roles.items c.words.inside.requests.items c.words.inside.responses.items _ c.args.words.now c.words.view_is
    c.args.pool c.requires.requests
    c.index_mut-requests.result.now c.index_mut-requests.ensures.value c.args.slot _
    (λ s. stored_at c.write_from_fn.new.self c.args.slot) c.write_from_fn.ensures.only)
    c.requires.there

pub returns-clause-filled : goal.returns-clause-filled
returns-clause-filled g c =
    put_by_answers c.args.words.now.pools _ c.args.pool c.args.slot _
    (request_now c.words.inside.roles.items c.words.inside.requests.items c.words.inside.responses.items _ c.args.words.now c.words.view_is
    c.args.pool c.requires.requests
    c.index_mut-requests.result.now c.index_mut-requests.ensures.value c.args.slot _
    (λ s. stored_at c.write_from_fn.new.self c.args.slot) c.write_from_fn.ensures.only)
    c.requires.there _ _ c.args.f true _
    (requests_found c.words.inside.roles.items c.words.inside.requests.items c.words.inside.responses.items _ c.args.words.now c.words.view_is
    c.args.pool c.requires.requests
    c.index_mut-requests.result.now c.index_mut-requests.ensures.value)
    c.write_from_fn.ensures.filled
