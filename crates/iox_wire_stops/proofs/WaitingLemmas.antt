-- The queues of sources.
use Rattle.std.proofs.Common.{◌≡◌, ℕ, List, [], ◌∷◌, map, refl, ap, sym, subst}
use Rattle.iox_model.specs.declared.way.Way.{Way}
use Rattle.iox_steps.specs.declared.site.QueueKind.{QueueKind}
use Rattle.iox_wire_ways.specs.Tables.{Setting}
use Rattle.iox_wire_ways.specs.ReceiveTerms.{ReceiveTerms}
use Rattle.iox_wire_ways.specs.Source.{Source}
use Rattle.iox_wire_ways.specs.Sources.{AreSources, AreWithin}
use Rattle.iox_wire_ways.specs.Sources as sources
use Rattle.iox_wire_ways.specs.Stop.{Stop}
use Rattle.iox_wire_ways.specs.Aims.{AreQueues, QueuesInMemory}
use Rattle.iox_wire_ways.specs.Seats.{ways_of}
use Rattle.iox_wire_stops.specs.Waiting.{stop_of}

pub same_ways : (ss : List Source) → ways_of (map stop_of ss) ≡ sources.ways_of ss
same_ways [] = refl
same_ways (s ∷ ss) = ap (λ (ws : List Way). s.way ∷ ws) (same_ways ss)

pub are_queues : (p : Setting) (t : ReceiveTerms) (header : ℕ) (ss : List Source) → AreSources p t header ss → AreQueues p t.kind t.capacity (map stop_of ss)
are_queues p t header [] are = tt
are_queues p t header (s ∷ ss) are = (are.0.messages, are_queues p t header ss are.1)

pub in_memory : (t : ReceiveTerms) (header : ℕ) (ss : List Source) → AreWithin t header ss → QueuesInMemory t.kind t.capacity (map stop_of ss)
in_memory t header [] are = tt
in_memory t header (s ∷ ss) are = (are.0.messages, in_memory t header ss are.1)

-- ---- with what was known about them

module _ (t : ReceiveTerms) (header : ℕ) (ss : List Source) (stops : List Stop) (kind : QueueKind) (capacity : ℕ)
    (k : kind ≡ t.kind) (c : capacity ≡ t.capacity) (all : stops ≡ map stop_of ss) where
  pub are_told : (p : Setting) → AreSources p t header ss → AreQueues p kind capacity stops
  are_told p are =
      subst (λ (q : QueueKind). AreQueues p q capacity stops) (sym k)
      (subst (λ (n : ℕ). AreQueues p t.kind n stops) (sym c)
      (subst (AreQueues p t.kind t.capacity) (sym all) (are_queues p t header ss are)))

  pub told_in_memory : AreWithin t header ss → QueuesInMemory kind capacity stops
  told_in_memory are =
      subst (λ (q : QueueKind). QueuesInMemory q capacity stops) (sym k)
      (subst (λ (n : ℕ). QueuesInMemory t.kind n stops) (sym c)
      (subst (QueuesInMemory t.kind t.capacity) (sym all) (in_memory t header ss are)))
