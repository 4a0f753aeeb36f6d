use Rattle.std.specs.Prelude.{Some, false, slice_set}
use Rattle.std.proofs.Common.{◌∙◌, ap, arith}
use Rattle.iox_hub.specs.Words.{PoolsCarried}
use Rattle.iox_hub.proofs.AllCarried.{length_same, server_set}
use Rattle.iox_hub.proofs.all_words.AllWords.set_responses.Goals as goal

pub index_mut-requires : goal.index_mut-requires
index_mut-requires g c =
    let same = length_same c.self.inside.roles.items c.self.inside.requests.items c.self.inside.responses.items _ c.args.self.now c.self.view_is c.self.invariant.0 c.self.invariant.1 in
    omega (arith, same, c.requires, c.self.inside.roles.ok.0)

pub index_mut-requires-2 : goal.index_mut-requires-2
index_mut-requires-2 g c =
    let same = length_same c.self.inside.roles.items c.self.inside.requests.items c.self.inside.responses.items _ c.args.self.now c.self.view_is c.self.invariant.0 c.self.invariant.1 in
    omega (arith, same, c.requires, c.self.invariant.1, c.self.inside.responses.ok.0)

pub returns : goal.returns
returns g c =
    server_set c.self.inside.roles.items c.self.inside.requests.items c.self.inside.responses.items c.args.place c.args.responses
    ∙ ap (λ (w : PoolsCarried). slice_set w.pools c.args.place (Some (record { requests = false; contents = c.args.responses }))) c.self.view_is
