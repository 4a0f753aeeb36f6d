-- Slots from which one node's entries are taken, one slot after another.
use Rattle.std.proofs.Common.{◌≡◌, ◌≢◌, ◌+◌, ◌<◌, ◌≤◌, ℕ, List, Option, None, length, get_or, map, set, refl, ap, sym, ◌∙◌, arith, below_more, get_or-set_other, get_or-set_same}
use Rattle.std.proofs.lemmas.List.{ext_get_or, get_or-map, length-map}
use Rattle.iox_types.specs.declared.identifiers.system_id.UniqueSystemId.{UniqueSystemId}
use Rattle.iox_registry.specs.declared.registered.Registered.{Registered}
use Rattle.iox_registry.specs.Standing.{kept_without, kept_without_node}

module _ {D : Type 0} (node : D → UniqueSystemId) (id : UniqueSystemId) (old : List (Option (Registered D))) where
  -- the slots before this one are as they are to be
  abbrev pub Below : List (Option (Registered D)) → ℕ → Type 0
  Below slots i = (k : ℕ) → k < i → get_or slots k None ≡ kept_without_node node id (get_or old k None)

  -- those from it on are as they were
  abbrev pub Above : List (Option (Registered D)) → ℕ → Type 0
  Above slots i = (k : ℕ) → i ≤ k → get_or slots k None ≡ get_or old k None

  module _ (slots : List (Option (Registered D))) (i : ℕ) (below : Below slots i) (above : Above slots i)
      (slot : Option (Registered D)) where
    pub Below-more : i < length slots → slot ≡ kept_without_node node id (get_or slots i None)
        → Below (set slots i slot) (i + 1)
    Below-more within is = below_more _ _
        (λ k h. let other : k ≢ i = omega arith in get_or-set_other slots i k slot None other ∙ below k h)
        (get_or-set_same slots i slot None within ∙ is ∙ ap (kept_without_node node id) (above i (omega arith)))

    pub Above-more : Above (set slots i slot) (i + 1)
    Above-more k h =
        let other : k ≢ i = omega arith in
        get_or-set_other slots i k slot None other ∙ above k (omega arith)

  pub kept_without-end : (slots : List (Option (Registered D))) (i : ℕ) → length slots ≡ length old → length old ≤ i
      → Below slots i → slots ≡ kept_without node id old
  kept_without-end slots i size past below =
      ext_get_or None slots (kept_without node id old) (size ∙ sym (length-map old (kept_without_node node id)))
      (λ k h. below k (omega arith) ∙ sym (get_or-map (kept_without_node node id) old k None None (omega arith)))
