-- What a removal from the container is to the register.
use Rattle.std.proofs.Common.{◌≡◌, ◌==◌, ◌&&◌, ◌+◌, ◌<◌, ◌≤◌, ℕ, Bool, true, false, List, Option, Some, None, IsSome, is_some, cond, length, get_or, map, set, refl, ap, sym, subst, ◌∙◌, arith}
use Rattle.std.specs.Prelude.{nat_lt, if◌then◌else◌}
use Rattle.std.specs.Option.{option_map}
use Rattle.std.proofs.lemmas.Bool.{eq-eqb, lt-ltb}
use Rattle.std.proofs.lemmas.List.{map-set}
use Rattle.iox_types.specs.declared.identifiers.system_id.UniqueSystemId.{UniqueSystemId}
use Rattle.iox_sets.specs.declared.mpmc.unique_index_set_enums.ReleaseState.{ReleaseState}
use Rattle.iox_sets.specs.IndexSets.{is_locked, state_after}
use Rattle.iox_sets.specs.declared.mpmc.unique_index_set_enums.ReleaseMode.{ReleaseMode}
use Rattle.iox_container.specs.declared.mpmc.container.container_handle.ContainerHandle.{ContainerHandle}
use Rattle.iox_container.specs.Containers as container
use Rattle.iox_container.specs.Containers.{Contents, count, entry_of}
use Rattle.iox_container.specs.Leaving.{Frees}
use Rattle.iox_registry.specs.declared.registered.Registered.{Registered}
use Rattle.iox_registry.specs.declared.roles.Role.{Role}
use Rattle.iox_registry.specs.declared.roles.Role.TheVariants.{Node}
use Rattle.iox_registry.specs.Registers.{HandleView, Registrations, Removes, details_in, details_of, is_own, listed, locked_after, same_role, under_ticket}
use Rattle.iox_registry.specs.Standing.{IsStanding, entry_of_kept, handle_in, kept_in, mode_of, register_in, shown, shown_slots}
use Rattle.iox_registry.proofs.CountLemmas.{count-standing, listed-less}
use Rattle.iox_registry.proofs.RecoveryLemmas.{locked-by}
use Rattle.iox_registry.proofs.RegisterLemmas.{get_or-told, left-is, own_since}
use Rattle.iox_registry.proofs.StandingLemmas.{IsStanding-fewer, had-emptied}

module _ {D : Type 0} (node : D → UniqueSystemId) (role : Role) (contents : Contents (Unit {0}))
    (service next : ℕ) (slots : List (Option (Registered D))) (st : IsStanding node contents service next slots)
    (entry : ContainerHandle) (own : entry.container_id ≡ service) where
  -- the container has an entry exactly where the register has details
  pub same-told : is_some (entry_of contents entry)
      ≡ is_some (details_of (register_in service role slots contents.locked next) (handle_in service role entry.ticket entry))
  same-told =
      of_bools (entry.container_id == contents.id)
      (is_own (register_in service role slots contents.locked next) (handle_in service role entry.ticket entry))
      (eq-eqb _ _ (own ∙ sym st.id))
      (own_since (register_in service role slots contents.locked next) (handle_in service role entry.ticket entry) refl refl)
      (ap (λ all. get_or all entry.index None) st.entries ∙ get_or-told entry_of_kept slots entry.index)
      (get_or-told shown slots entry.index)
    where
      of_slot : (slot : Option (Registered D)) (t : ℕ)
          → is_some (container.under_ticket t (option_map entry_of_kept slot)) ≡ is_some (under_ticket t (option_map shown slot))
      of_slot None t = refl
      of_slot (Some kept) t = of_bool (kept.ticket == t)
        where
          of_bool : (b : Bool) → is_some (cond b (Some (entry_of_kept kept)) None) ≡ is_some (cond b (Some kept.details) None)
          of_bool true = refl
          of_bool false = refl

      of_bools : (a b : Bool) → a ≡ true → b ≡ true → {x : Option _} {y : Option _}
          → x ≡ option_map entry_of_kept (get_or slots entry.index None) → y ≡ option_map shown (get_or slots entry.index None)
          → is_some (cond a (container.under_ticket entry.ticket x) None) ≡ is_some (cond b (under_ticket entry.ticket y) None)
      of_bools a b one two at_x at_y = rw (one, two, at_x, at_y) (of_slot (get_or slots entry.index None) entry.ticket)

  module _ (fewer : Contents (Unit {0})) (state : ReleaseState) (mode : ReleaseMode) (decides : mode ≡ mode_of role)
      (frees : Frees entry.index mode contents state fewer)
      (had : IsSome (entry_of contents entry)) where
    pub standing : IsStanding node fewer service next (set slots entry.index None)
    standing =
        IsStanding-fewer node contents service next slots st fewer (set slots entry.index None)
        (ap (λ c. c.id) frees.left) (ap (λ c. c.next_ticket) frees.left)
        (ap (λ c. c.slots) frees.left ∙ ap (λ all. set all entry.index None) st.entries
        ∙ sym (map-set (option_map entry_of_kept) slots entry.index None))
        (had-emptied slots entry.index)

    told : IsSome (details_of (register_in service role slots contents.locked next) (handle_in service role entry.ticket entry))
    told = sym same-told ∙ had

    -- the slot had something
    kept-there : (kept : Registered D) × (get_or slots entry.index None ≡ Some kept)
    kept-there = some_of (get_or slots entry.index None) refl
      where
        some_of : (slot : Option (Registered D)) → get_or slots entry.index None ≡ slot
            → (kept : Registered D) × (get_or slots entry.index None ≡ Some kept)
        some_of (Some kept) at = (kept, at)
        some_of None at = absurd (none_told (
            sym (ap is_some (nothing (is_own (register_in service role slots contents.locked next) (handle_in service role entry.ticket entry))
            (get_or-told shown slots entry.index ∙ ap (option_map shown) at))) ∙ told))
          where
            none_told : is_some {T = D} None ≡ true → ⊥
            none_told is = cc

            nothing : (b : Bool) {slot : Option _} → slot ≡ None → cond b (under_ticket {D = D} entry.ticket slot) None ≡ None
            nothing true at_none = ap (under_ticket entry.ticket) at_none
            nothing false at_none = refl

    locked-is : fewer.locked ≡ locked_after (register_in service role slots contents.locked next) (shown_slots (set slots entry.index None))
    locked-is =
        let less = listed-less slots entry.index kept-there.0 kept-there.1 in
        ap (λ c. c.locked) frees.left ∙ ap is_locked (frees.state ∙ ap (λ m. state_after m (count fewer)) decides)
        ∙ locked-by role (count fewer)
        ∙ ap (λ n. same_role role Node && (n == 0)) (count-standing node fewer service next _ standing)
        ∙ sym (chosen _ _ _ (lt-ltb _ _ (smaller less)))
      where
        smaller : {n m : ℕ} → n + 1 ≡ m → n < m
        smaller is = omega arith

        chosen : (b x y : Bool) → b ≡ true → cond b x y ≡ x
        chosen b x y yes_is = rw yes_is refl

    pub removes : Removes (handle_in service role entry.ticket entry) (register_in service role slots contents.locked next)
        (register_in service role (set slots entry.index None) fewer.locked next)
    removes = record {
      had = told;
      left = left-is (register_in service role slots contents.locked next) _ _ fewer.locked locked-is
          (map-set (option_map shown) slots entry.index None);
    }
