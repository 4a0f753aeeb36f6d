-- How a register stands on its container: new, with one more, with fewer.
use Rattle.std.proofs.Common.{◌≡◌, ◌≢◌, ◌+◌, ◌<◌, ◌≤◌, ◌↔◌, ◌⊎◌, ℕ, zero, suc, Bool, true, false, List, [], ◌∷◌, Option, Some, None, cond, length, get_or, map, replicate, set, refl, ap, sym, subst, ◌∙◌, inl, inr, arith, get_or-set_other, get_or-set_same}
use Rattle.std.specs.Option.{option_map}
use Rattle.std.proofs.lemmas.Bool.{cases_eq, cases_lt}
use Rattle.std.proofs.lemmas.List.{get_or-map, get_or_past, get_or-replicate, length-replicate, map-set, set_past}
use Rattle.iox_types.specs.declared.identifiers.system_id.UniqueSystemId.{UniqueSystemId}
use Rattle.iox_container.specs.Containers.{Contents, entry_for, new_contents}
use Rattle.iox_registry.specs.declared.registered.Registered.{Registered}
use Rattle.iox_registry.specs.Registers.{same_id}
use Rattle.iox_registry.specs.Standing.{IsOwnerFor, IsStanding, entry_of_kept, kept_in, kept_without, kept_without_node}

module _ {D : Type 0} where
  pub none_is_some : (kept : Registered D) → ◌≡◌ {A = Option (Registered D)} None (Some kept) → ⊥
  none_is_some kept same = cc

  -- what stands in a slot that is added
  abbrev pub added : D → ℕ → ℕ → Registered D
  added details owner ticket = record { details = details; owner = owner; ticket = ticket }

  pub one_of : (a b : Registered D) → ◌≡◌ {A = Option (Registered D)} (Some a) (Some b) → a ≡ b
  one_of a b same = cc

  none_new : (room i : ℕ) (kept : Registered D) → kept_in (replicate room None) i ≡ Some kept → ⊥
  none_new room i kept has = elim (cases_lt i room) [
    | inl within ↦ none_is_some kept (sym (get_or-replicate room i None None within) ∙ has)
    | inr past ↦
        let size = length-replicate {A = Option (Registered D)} room None in
        none_is_some kept (sym (get_or_past (replicate room None) i None (omega arith)) ∙ has)
  ]

  -- what a slot has where one was emptied, it had
  pub had-emptied : (slots : List (Option (Registered D))) (index i : ℕ) (kept : Registered D)
      → kept_in (set slots index None) i ≡ Some kept → kept_in slots i ≡ Some kept
  had-emptied slots index i kept has = elim (cases_eq i index) [
    | inl same ↦ elim (cases_lt index (length slots)) [
      | inl within ↦ absurd (none_is_some kept (
          sym (get_or-set_same slots index None None within)
          ∙ ap (λ k. get_or (set slots index None) k None) (sym same) ∙ has))
      | inr past ↦ ap (λ all. get_or all i None) (sym (set_past slots index None past)) ∙ has
    ]
    | inr other ↦ sym (get_or-set_other slots index i None None other) ∙ has
  ]

  -- what a slot has without a node, it had
  pub had-without : (node : D → UniqueSystemId) (id : UniqueSystemId) (slots : List (Option (Registered D))) (i : ℕ)
      (kept : Registered D) → kept_in (kept_without node id slots) i ≡ Some kept → kept_in slots i ≡ Some kept
  had-without node id [] i kept has = has
  had-without node id (slot ∷ slots) zero kept has = of_slot slot has
    where
      of_cond : (b : Bool) (a : Registered D) → cond b None (Some a) ≡ Some kept → Some a ≡ Some kept
      of_cond true a is = absurd (none_is_some kept is)
      of_cond false a is = is

      of_slot : (slot : Option (Registered D)) → kept_without_node node id slot ≡ Some kept → slot ≡ Some kept
      of_slot None is = is
      of_slot (Some a) is = of_cond (same_id (node a.details) id) a is
  had-without node id (slot ∷ slots) (suc i) kept has = had-without node id slots i kept has

  module _ (node : D → UniqueSystemId) where
    pub IsStanding-new : (service room : ℕ)
        → IsStanding node (new_contents service room) service 0 (replicate room None)
    IsStanding-new service room = record {
      id = refl;
      tickets = refl;
      entries = all_free room;
      owners = λ i j a b at_i at_j. absurd (none_new room i a at_i);
      earlier = λ i a at_i. absurd (none_new room i a at_i);
    }
      where
        all_free : (count : ℕ) → replicate count None ≡ map (option_map (entry_of_kept {D = D})) (replicate count None)
        all_free zero = refl
        all_free (suc count) = ap (λ rest. None ∷ rest) (all_free count)

    module _ (container : Contents (Unit {0})) (service next : ℕ) (slots : List (Option (Registered D)))
        (st : IsStanding node container service next slots) where
      pub IsStanding-fewer : (fewer : Contents (Unit {0})) (left : List (Option (Registered D)))
          → fewer.id ≡ container.id → fewer.next_ticket ≡ container.next_ticket
          → fewer.slots ≡ map (option_map entry_of_kept) left
          → ((i : ℕ) (a : Registered D) → kept_in left i ≡ Some a → kept_in slots i ≡ Some a)
          → IsStanding node fewer service next left
      IsStanding-fewer fewer left id tickets entries had = record {
        id = id ∙ st.id;
        tickets = tickets ∙ st.tickets;
        entries = entries;
        owners = λ i j a b at_i at_j. st.owners i j a b (had i a at_i) (had j b at_j);
        earlier = λ i a at_i. st.earlier i a (had i a at_i);
      }

      module _ (details : D) (owner : ℕ) (is : IsOwnerFor node slots (node details) next owner) where
        -- one has this owner exactly if it is of the same node
        owner_tells : (i : ℕ) (a : Registered D) → kept_in slots i ≡ Some a
            → (owner ≡ a.owner) ↔ (node details ≡ node a.details)
        owner_tells i a at = elim is [
          | inl has ↦
              let tells = st.owners has.0 i has.1 a has.2 at in
              (λ same. sym has.3 ∙ tells.0 (has.4 ∙ same), λ same. sym has.4 ∙ tells.1 (has.3 ∙ same))
          | inr new ↦
              let below = st.earlier i a at in
              (λ same. let fresh = new.1 in absurd (differs owner next a.owner fresh same below), λ same. absurd (new.0 i a at (sym same)))
        ]
          where
            differs : (o n k : ℕ) → o ≡ n → o ≡ k → k < n → ⊥
            differs o n k fresh same below = omega arith

        owner_small : owner < next + 1
        owner_small = elim is [
          | inl has ↦ small (st.earlier has.0 has.1 has.2) has.4
          | inr new ↦ let fresh = new.1 in omega arith
        ]
          where
            small : {k : ℕ} → k < next → k ≡ owner → owner < next + 1
            small below same = omega arith

        module _ (index : ℕ) (within : index < length slots) where
          at_set : (i : ℕ) (a : Registered D) → kept_in (set slots index (Some (added details owner next))) i ≡ Some a
              → (added details owner next ≡ a) ⊎ (kept_in slots i ≡ Some a)
          at_set i a has = elim (cases_eq i index) [
            | inl same ↦ inl (one_of _ a (
                sym (get_or-set_same slots index (Some (added details owner next)) None within)
                ∙ ap (λ k. get_or (set slots index (Some (added details owner next))) k None) (sym same) ∙ has))
            | inr other ↦ inr (sym (get_or-set_other slots index i (Some (added details owner next)) None other) ∙ has)
          ]

          both : (i j : ℕ) (a b : Registered D)
              → (added details owner next ≡ a) ⊎ (kept_in slots i ≡ Some a)
              → (added details owner next ≡ b) ⊎ (kept_in slots j ≡ Some b)
              → (a.owner ≡ b.owner) ↔ (node a.details ≡ node b.details)
          both i j a b (inl x) (inl y) =
              (λ same. ap (λ r. node r.details) (sym x ∙ y), λ same. ap (λ r. r.owner) (sym x ∙ y))
          both i j a b (inl x) (inr y) =
              subst (λ (r : Registered D). (r.owner ≡ b.owner) ↔ (node r.details ≡ node b.details)) x (owner_tells j b y)
          both i j a b (inr x) (inl y) =
              let tells = owner_tells i a x in
              subst (λ (r : Registered D). (a.owner ≡ r.owner) ↔ (node a.details ≡ node r.details)) y
              (λ same. sym (tells.0 (sym same)), λ same. sym (tells.1 (sym same)))
          both i j a b (inr x) (inr y) = st.owners i j a b x y

          pub IsStanding-add : (more : Contents (Unit {0}))
              → more.id ≡ container.id → more.next_ticket ≡ container.next_ticket + 1
              → more.slots ≡ set container.slots index (Some (entry_for tt owner next))
              → IsStanding node more service (next + 1) (set slots index (Some (added details owner next)))
          IsStanding-add more id tickets entries = record {
            id = id ∙ st.id;
            tickets = tickets ∙ ap (λ n. n + 1) st.tickets;
            entries = entries
                ∙ ap (λ all. set all index (Some (entry_for tt owner next))) st.entries
                ∙ sym (map-set (option_map entry_of_kept) slots index (Some (added details owner next)));
            owners = λ i j a b at_i at_j. both i j a b (at_set i a at_i) (at_set j b at_j);
            earlier = λ i a at_i. elim (at_set i a at_i) [
              | inl new ↦ subst (λ (r : Registered D). r.owner < next + 1) new owner_small
              | inr old ↦ let below = st.earlier i a old in omega arith
            ];
          }
