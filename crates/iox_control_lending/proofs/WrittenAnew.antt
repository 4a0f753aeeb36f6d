-- A message that one has, and that is written anew in its slot: it is as if that was let go, and then taken.
use Rattle.std.specs.Prelude.{◌≡◌, ℕ, List, [], Option, Some, None, option_map, slice_get, slice_set, refl}
use Rattle.std.specs.Option.{option_map_or}
use Rattle.std.proofs.Common.{sym, ap, ◌∙◌, arith}
use Rattle.iox_tables.specs.HubStates.Tables.{PoolState, SlotState, no_slot, slot_at}
use Rattle.iox_tables.specs.HubLoans.Slots.{put_slot, put_slot_of}
use Rattle.iox_tables.proofs.HubLoans.Placed.{set_there}
use Rattle.iox_hub_ports.proofs.Pushes.{set_set}
use Rattle.iox_slots.specs.Pools.{with_slot}
use Rattle.iox_slots.specs.Slots.{let_go, slot_in, taken, with_slot_of, written}

module _ (serial lane request elements k : ℕ) where
  -- the message is written to a slot
  abbrev write : SlotState → SlotState
  write = written serial lane request elements

  -- the message that one has
  abbrev new_slot : SlotState
  new_slot = taken serial lane request elements

  -- in one pool
  in_pool : (p : PoolState) (s : SlotState) → slice_get p.slots k ≡ Some s → s.holders ≡ 1
      → with_slot_of write p k ≡ put_slot_of k new_slot (with_slot_of let_go p k)
  in_pool p s at one =
      ap (λ (o : Option SlotState). option_map_or (λ x. record p { slots = slice_set p.slots k (write x) }) o p) at
      ∙ ap (λ (n : ℕ). record p { slots = slice_set p.slots k (record new_slot { holders = n }) }) one
      ∙ ap (λ (ss : List SlotState). record p { slots = ss }) (sym (set_set p.slots k (let_go s) new_slot))
      ∙ ap (put_slot_of k new_slot) (sym (ap (λ (o : Option SlotState). option_map_or (λ x. record p { slots = slice_set p.slots k (let_go x) }) o p) at))

  module _ (pools : List (Option PoolState)) (place : ℕ) where
    of_pool : (p : PoolState) (s : SlotState) → slice_get pools place ≡ Some (Some p) → slice_get p.slots k ≡ Some s → s.holders ≡ 1
        → with_slot write pools place k ≡ put_slot (with_slot let_go pools place k) place k new_slot
    of_pool p s at got one =
        let q : PoolState = with_slot_of let_go p k in
        let now : List (Option PoolState) = slice_set pools place (Some q) in
        ap (λ (o : Option (Option PoolState)). option_map_or (λ r. slice_set pools place (option_map (λ (x : PoolState). with_slot_of write x k) r)) o pools) at
        ∙ ap (λ (r : PoolState). slice_set pools place (Some r)) (in_pool p s got one)
        ∙ sym (set_set pools place (Some q) (Some (put_slot_of k new_slot q)))
        ∙ sym (ap (λ (o : Option (Option PoolState)). option_map_or (λ (x : PoolState). slice_set now place (Some (put_slot_of k new_slot x))) (option_map_or (λ (r : Option PoolState). r) o None) now)
        (set_there pools place (Some p) (Some q) at))
        ∙ sym (ap (λ (ps : List (Option PoolState)). put_slot ps place k new_slot)
        (ap (λ (o : Option (Option PoolState)). option_map_or (λ r. slice_set pools place (option_map (λ (x : PoolState). with_slot_of let_go x k) r)) o pools) at))

    by_slot : (p : PoolState) (o : Option SlotState) → slice_get pools place ≡ Some (Some p) → slice_get p.slots k ≡ o
        → (option_map_or (λ s. s) o no_slot).holders ≡ 1
        → with_slot write pools place k ≡ put_slot (with_slot let_go pools place k) place k new_slot
    by_slot p (Some s) at got one = of_pool p s at got one
    by_slot p None at got one = absurd (omega (arith, one))

    by_pool : (o : Option (Option PoolState)) → slice_get pools place ≡ o
        → (slot_in (option_map_or (λ (p : PoolState). p.slots) (option_map_or (λ (q : Option PoolState). q) o None) []) k).holders ≡ 1
        → with_slot write pools place k ≡ put_slot (with_slot let_go pools place k) place k new_slot
    by_pool None at one = absurd (omega (arith, one))
    by_pool (Some None) at one = absurd (omega (arith, one))
    by_pool (Some (Some p)) at one = by_slot p (slice_get p.slots k) at refl one

    -- in all pools
    pub written_anew : (slot_at pools place k).holders ≡ 1 → with_slot write pools place k ≡ put_slot (with_slot let_go pools place k) place k new_slot
    written_anew one = by_pool (slice_get pools place) refl one
