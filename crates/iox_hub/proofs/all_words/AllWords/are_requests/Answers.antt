use Rattle.std.proofs.Common.{arith}
use Rattle.iox_hub.proofs.AllCarried.{length_same, told_by}
use Rattle.iox_hub.proofs.all_words.AllWords.are_requests.Goals as goal

pub index-requires : goal.index-requires
index-requires g c =
    let same = length_same c.self.inside.roles.items c.self.inside.requests.items c.self.inside.responses.items _ c.args.self.now c.self.view_is c.self.invariant.0 c.self.invariant.1 in
    omega (arith, same, c.requires, c.self.inside.roles.ok.0)

pub returns : goal.returns
returns g c =
    let same = length_same c.self.inside.roles.items c.self.inside.requests.items c.self.inside.responses.items _ c.args.self.now c.self.view_is c.self.invariant.0 c.self.invariant.1 in
    told_by c.self.inside.roles.items c.self.inside.requests.items c.self.inside.responses.items _ c.args.self.now c.self.view_is c.self.invariant.0 c.self.invariant.1 c.args.place c.index.result.now
    (omega (arith, same, c.requires)) c.index.ensures c.of_client.result c.of_client.ensures
