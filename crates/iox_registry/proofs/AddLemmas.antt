-- What an addition to the container is to the register.
use Rattle.std.proofs.Common.{◌≡◌, ◌==◌, ◌+◌, ◌<◌, ◌≤◌, ℕ, Bool, true, false, List, Option, Some, None, Ok, Err, Result, IfOk, IfErr, length, get_or, map, set, refl, ap, sym, subst, ◌∙◌, arith, length-set}
use Rattle.std.specs.Option.{option_map}
use Rattle.std.specs.Result.{IsOk}
use Rattle.std.proofs.lemmas.List.{length-map, map-set}
use Rattle.iox_types.specs.declared.identifiers.system_id.UniqueSystemId.{UniqueSystemId}
use Rattle.iox_container.specs.declared.mpmc.container.container_handle.ContainerHandle.{ContainerHandle}
use Rattle.iox_container.specs.declared.mpmc.container.entries.Entry.{Entry}
use Rattle.iox_container.specs.Containers as container
use Rattle.iox_container.specs.Containers.{Contents, count, entry_for, indices}
use Rattle.iox_registry.specs.declared.registered.Registered.{Registered}
use Rattle.iox_registry.specs.declared.roles.Role.{Role}
use Rattle.iox_registry.specs.Registers.{Adds, add_refusal, registration_of}
use Rattle.iox_registry.specs.Standing.{IsOwnerFor, IsStanding, entry_of_kept, handle_in, kept_in, register_in, shown, shown_slots}
use Rattle.iox_registry.proofs.CountLemmas.{count-standing, lowest_is_free, room-open}
use Rattle.iox_registry.proofs.RegisterLemmas.{get_or-told, open_parts}
use Rattle.iox_registry.proofs.StandingLemmas.{IsStanding-add, added}

-- what is said of a success is so
pub at_ok : {A E : Type 0} (result : Result A E) (value : A) (said : A → Type 0) → result ≡ Ok value → IfOk result said
    → said value
at_ok result value said is held = subst (λ r. IfOk r said) is held

-- where nothing is refused, it succeeds
pub ok_since : {A E : Type 0} (result : Result A E) (refusal : Option E) → IfErr result (λ e. refusal ≡ Some e)
    → refusal ≡ None → IsOk result
ok_since (Ok value) refusal refused none = refl
ok_since {E} (Err e) refusal refused none = absurd (not_some (sym none ∙ refused))
  where
    not_some : ◌≡◌ {A = Option E} None (Some e) → ⊥
    not_some same = cc

module _ {D : Type 0} (node : D → UniqueSystemId) (role : Role) (contents : Contents (Unit {0}))
    (service next : ℕ) (slots : List (Option (Registered D))) (st : IsStanding node contents service next slots)
    (allowed : add_refusal (register_in service role slots contents.locked next) ≡ None) where
  -- the container refuses nothing
  pub container-open : container.add_refusal contents ≡ None
  container-open =
      let parts = open_parts (register_in service role slots contents.locked next) allowed in
      let size = ap length st.entries ∙ length-map slots (option_map entry_of_kept) in
      room-open contents parts.0
      (ap (λ n. n == container.max_ticket) st.tickets ∙ parts.1)
      (counts (count-standing node contents service next slots st)
      (size ∙ sym (length-map slots (option_map shown))) parts.2)
      (length-map contents.slots (option_map (λ entry. entry.owner)))
    where
      counts : {a b c d : ℕ} → a ≡ c → b ≡ d → (c == d) ≡ false → (a == b) ≡ false
      counts one two not = rw (one, two) not

  module _ (details : D) (owner : ℕ) (handle : ContainerHandle) (more : Contents (Unit {0}))
      (is : IsOwnerFor node slots (node details) next owner)
      (adds : container.Adds tt owner contents handle more) (within : handle.index < length more.slots) where
    pub index-within : handle.index < length slots
    index-within =
        let size = ap length st.entries ∙ length-map slots (option_map entry_of_kept) in
        let kept = ap (λ c. length c.slots) adds.left ∙ length-kept in
        below within (kept ∙ size)
      where
        length-kept : length (set contents.slots handle.index (Some (entry_for tt owner handle.ticket))) ≡ length contents.slots
        length-kept = length-set contents.slots handle.index (Some (entry_for tt owner handle.ticket))

        below : {i n m : ℕ} → i < n → n ≡ m → i < m
        below lt same = omega arith

    slot-free : get_or slots handle.index None ≡ None
    slot-free =
        let lowest = lowest_is_free (map (option_map (λ (entry : Entry (Unit {0})). entry.owner)) contents.slots) 0 handle.index adds.lowest in
        at (lowest.0) lowest.1 lowest.2
      where
        none_of : (slot : Option (Registered D))
            → option_map (λ (entry : Entry (Unit {0})). entry.owner) (option_map entry_of_kept slot) ≡ None → slot ≡ None
        none_of None none = refl
        none_of (Some kept) none = cc

        at : (j : ℕ) → handle.index ≡ 0 + j
            → get_or (map (option_map (λ (entry : Entry (Unit {0})). entry.owner)) contents.slots) j None ≡ None
            → get_or slots handle.index None ≡ None
        at j place free =
            let same : handle.index ≡ j = omega arith in
            none_of (get_or slots handle.index None) (
            sym (
            ap (λ k. get_or (map (option_map (λ (entry : Entry (Unit {0})). entry.owner)) contents.slots) k None) (sym same)
            ∙ get_or-told (λ (entry : Entry (Unit {0})). entry.owner) contents.slots handle.index
            ∙ ap (λ (all : List (Option (Entry (Unit {0})))). option_map (λ entry. entry.owner) (get_or all handle.index None)) st.entries
            ∙ ap (option_map (λ entry. entry.owner)) (get_or-told entry_of_kept slots handle.index))
            ∙ free)

    pub standing : IsStanding node more service (next + 1) (set slots handle.index (Some (added details owner next)))
    standing =
        IsStanding-add node contents service next slots st details owner is handle.index index-within more
        (ap (λ c. c.id) adds.left) (ap (λ c. c.next_ticket) adds.left)
        (ap (λ c. c.slots) adds.left
        ∙ ap (λ t. set contents.slots handle.index (Some (entry_for tt owner t))) (adds.fresh ∙ st.tickets))

    pub adds-register : Adds details (register_in service role slots contents.locked next)
        (handle_in service role next handle)
        (register_in service role (set slots handle.index (Some (added details owner next))) more.locked (next + 1))
    adds-register = record {
      allowed = allowed;
      service = refl;
      role = refl;
      within = shorter index-within (sym (length-map slots (option_map shown)));
      free = get_or-told shown slots handle.index ∙ ap (option_map shown) slot-free;
      fresh = refl;
      left = left-is _ _ _ _
          (map-set (option_map shown) slots handle.index (Some (added details owner next))) (ap (λ c. c.locked) adds.left);
    }
      where
        shorter : {i n m : ℕ} → i < n → n ≡ m → i < m
        shorter lt same = omega arith

        left-is : (a b : List _) (x y : Bool) → a ≡ b → x ≡ y
            → record (register_in service role slots contents.locked next) { slots = a; locked = x; used_tickets = next + 1 }
            ≡ record (register_in service role slots contents.locked next) { slots = b; locked = y; used_tickets = next + 1 }
        left-is a b x y one two = rw (one, two) refl
