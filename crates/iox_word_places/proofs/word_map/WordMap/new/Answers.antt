use Rattle.std.proofs.Common.{◌≡◌, ◌+◌, ◌<◌, [], ◌∷◌, ◌++◌, ap, length, get_or, ◌∙◌, arith}
use Rattle.iox_word_places.specs.declared.plan.PlanPort.{PlanPort}
use Rattle.iox_word_places.specs.declared.word_map.PortPlaces.{PortPlaces}
use Rattle.iox_word_places.specs.MapFields.{places_before, places_behind}
use Rattle.iox_word_places.proofs.NewLemmas.{told_fits, next_places, next_fits, read_is, one_more, no_port}
use Rattle.iox_word_places.proofs.word_map.WordMap.new.Goals as goal

pub behind-next-requires-clause-region : goal.behind-next-requires-clause-region
behind-next-requires-clause-region c =
    let low : c.loop-port.port-index < length c.args.plan.ports.items = omega (arith, c.loop-port-test.true, c.deref-port-items.ensures.len) in
    (next_fits c.args.plan c.requires (told_fits c.in-Some.total _ c.in-Some.ensures) c.loop-port.port-index _ low
    (read_is PlanPort c.deref-port-items.result.now c.args.plan.ports.items c.loop-port.port-index _ c.deref-port-items.ensures.value low)
    c.servers-servers.result c.servers-servers.ensures c.loop-port.next c.loop-port.invariant.0).region

pub behind-next-requires-clause-clients : goal.behind-next-requires-clause-clients
behind-next-requires-clause-clients c =
    let low : c.loop-port.port-index < length c.args.plan.ports.items = omega (arith, c.loop-port-test.true, c.deref-port-items.ensures.len) in
    (next_fits c.args.plan c.requires (told_fits c.in-Some.total _ c.in-Some.ensures) c.loop-port.port-index _ low
    (read_is PlanPort c.deref-port-items.result.now c.args.plan.ports.items c.loop-port.port-index _ c.deref-port-items.ensures.value low)
    c.servers-servers.result c.servers-servers.ensures c.loop-port.next c.loop-port.invariant.0).clients

pub behind-next-requires-clause-servers : goal.behind-next-requires-clause-servers
behind-next-requires-clause-servers c =
    let low : c.loop-port.port-index < length c.args.plan.ports.items = omega (arith, c.loop-port-test.true, c.deref-port-items.ensures.len) in
    (next_fits c.args.plan c.requires (told_fits c.in-Some.total _ c.in-Some.ensures) c.loop-port.port-index _ low
    (read_is PlanPort c.deref-port-items.result.now c.args.plan.ports.items c.loop-port.port-index _ c.deref-port-items.ensures.value low)
    c.servers-servers.result c.servers-servers.ensures c.loop-port.next c.loop-port.invariant.0).counted

pub loop-port-preserved : goal.loop-port-preserved
loop-port-preserved c =
    let low : c.loop-port.port-index < length c.args.plan.ports.items = omega (arith, c.loop-port-test.true, c.deref-port-items.ensures.len) in
    let p : PlanPort = get_or c.deref-port-items.result.now c.loop-port.port-index no_port in
    let next : places_behind c.args.plan.limits c.servers-servers.result p (places_before c.args.plan c.loop-port.port-index)
    ≡ places_before c.args.plan (c.loop-port.port-index + 1) =
    next_places c.args.plan c.loop-port.port-index p low
    (read_is PlanPort c.deref-port-items.result.now c.args.plan.ports.items c.loop-port.port-index no_port c.deref-port-items.ensures.value low)
    c.servers-servers.result c.servers-servers.ensures in
    let pushed : c.push.new.self.items ≡ c.loop-port.places.items ++ c.loop-port.next ∷ [] = c.in_ok-push.ensures.items in
    let size : length c.push.new.self.items ≡ c.loop-port.port-index + 1 = omega (arith, c.in_ok-push.ensures.len, c.loop-port.invariant.1) in (
      c.behind-next.ensures ∙ ap (λ b. places_behind c.args.plan.limits c.servers-servers.result p b) c.loop-port.invariant.0 ∙ next,
      size,
      λ i d under. ap (λ xs. get_or xs i d) pushed
          ∙ one_more PortPlaces (places_before c.args.plan) c.loop-port.places.items c.loop-port.next c.loop-port.port-index
          c.loop-port.invariant.1 c.loop-port.invariant.2 c.loop-port.invariant.0 i d under,
    )
