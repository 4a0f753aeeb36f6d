use Rattle.std.proofs.Common.{◌≡◌, ◌<◌, ◌∙◌, ap, arith, inl, length, refl, subst}
use Rattle.iox_queues.specs.BoundedQueues.{with_pushed}
use Rattle.iox_queues.specs.Rings.{AreWithin, queue_at}
use Rattle.iox_queues.proofs.QueueLemmas.{queue_at-push, queue_at-starts}
use Rattle.iox_queues.proofs.ring.Ring.push.Goals as goal
use Rattle.iox_queues.proofs.ring.Ring.push.Goals.{else-places-via-then-places+else-not-find_free, else-places-via-else-places}

pub returns-clause-pushed : goal.returns-clause-pushed
returns-clause-pushed g c =
    let q = c.self.inside in
    let cells = q.cells.items in
    let p = c.else-places.places in
    let found : AreWithin (length cells) p × (p.free < p.free_end) × (queue_at cells p ≡ queue_at cells q.places) =
    elim c.else-places.branch [
      | else-places-via-then-places+else-not-find_free w ↦
          let capacity : w.len.result ≡ length cells = w.len.ensures ∙ q.cells.ok.0 in
          let new = w.find_free.new.self in
          let ensures = w.if-not-find_free.ensures in
          rw w.places-is (
            subst (λ n. AreWithin n new) capacity ensures.within,
            ensures.found,
            queue_at-starts cells q.places new c.self.invariant (inl ensures.starts) ensures.count ensures.pushed,
          )
      | else-places-via-else-places w ↦ rw w.places-is (c.self.invariant, omega (arith, w.if-places.false), refl)
    ] in
    rw (← c.self.view_is) (
    queue_at-push cells p found.0 c.args.value found.1
    ∙ ap (λ queue. with_pushed queue c.args.value) found.2)
