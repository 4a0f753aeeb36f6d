use Rattle.std.proofs.Common.{ap, arith}
use Rattle.iox_hub.specs.Words.{PoolsCarried}
use Rattle.iox_hub.proofs.AllCarried.{length_same, pushed}
use Rattle.iox_hub.proofs.all_words.AllWords.push_none.Goals as goal

pub push_reserved-requires : goal.push_reserved-requires
push_reserved-requires g c =
    let same = length_same c.self.inside.roles.items c.self.inside.requests.items c.self.inside.responses.items _ c.args.self.now c.self.view_is c.self.invariant.0 c.self.invariant.1 in
    let room = ap (λ (w : PoolsCarried). w.room) c.self.view_is in
    omega (arith, same, room, c.requires, c.self.inside.roles.ok.0)

pub push_reserved-requires-2 : goal.push_reserved-requires-2
push_reserved-requires-2 g c =
    let same = length_same c.self.inside.roles.items c.self.inside.requests.items c.self.inside.responses.items _ c.args.self.now c.self.view_is c.self.invariant.0 c.self.invariant.1 in
    let room = ap (λ (w : PoolsCarried). w.room) c.self.view_is in
    omega (arith, same, room, c.requires, c.self.invariant.0, c.self.inside.requests.ok.0)

pub push_reserved-requires-3 : goal.push_reserved-requires-3
push_reserved-requires-3 g c =
    let same = length_same c.self.inside.roles.items c.self.inside.requests.items c.self.inside.responses.items _ c.args.self.now c.self.view_is c.self.invariant.0 c.self.invariant.1 in
    let room = ap (λ (w : PoolsCarried). w.room) c.self.view_is in
    omega (arith, same, room, c.requires, c.self.invariant.1, c.self.inside.responses.ok.0)

pub returns-clause-pools : goal.returns-clause-pools
returns-clause-pools g c =
    pushed c.self.inside.roles.items c.self.inside.requests.items c.self.inside.responses.items _ c.args.self.now c.self.view_is c.self.invariant.0 c.self.invariant.1 _ _ _ _ _
    c.push_reserved.ensures.items c.push_reserved-2.ensures.items c.push_reserved-3.ensures.items
