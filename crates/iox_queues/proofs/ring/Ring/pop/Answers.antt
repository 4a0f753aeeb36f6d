use Rattle.std.proofs.Common.{◌≡◌, ◌<◌, ◌∙◌, ap, arith, length, refl, subst}
use Rattle.iox_queues.specs.BoundedQueues.{without_first}
use Rattle.iox_queues.specs.Rings.{AreWithin, StartsAsBefore, queue_at}
use Rattle.iox_queues.proofs.QueueLemmas.{queue_at-pop, queue_at-starts}
use Rattle.iox_queues.proofs.ring.Ring.pop.Goals as goal
use Rattle.iox_queues.proofs.ring.Ring.pop.Goals.{else-places-via-then-places+else-not-find_filled, else-places-via-else-places}

pub returns-clause-left : goal.returns-clause-left
returns-clause-left g c =
    let q = c.self.inside in
    let cells = q.cells.items in
    let p = c.else-places.places in
    let found : AreWithin (length cells) p × (p.oldest < p.filled_end) × (queue_at cells p ≡ queue_at cells q.places) =
    elim c.else-places.branch [
      | else-places-via-then-places+else-not-find_filled w ↦
          let capacity : w.len.result ≡ length cells = w.len.ensures ∙ q.cells.ok.0 in
          let new = w.find_filled.new.self in
          let ensures = w.if-not-find_filled.ensures in
          rw w.places-is (
            subst (λ n. AreWithin n new) capacity ensures.within,
            ensures.found,
            queue_at-starts cells q.places new c.self.invariant
                (subst (λ n. StartsAsBefore n q.places new) capacity ensures.starts) ensures.count ensures.pushed,
          )
      | else-places-via-else-places w ↦ rw w.places-is (c.self.invariant, omega (arith, w.if-places.false), refl)
    ] in
    rw (← c.self.view_is) (queue_at-pop cells p found.0 found.1 ∙ ap without_first found.2)
