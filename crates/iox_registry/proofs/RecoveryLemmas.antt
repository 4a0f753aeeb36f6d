-- What a recovery of the container's owner takes is what a node had, and when the register is locked by it.
use Rattle.std.proofs.Common.{◌≡◌, ◌==◌, ◌&&◌, ◌+◌, ◌<◌, ◌≤◌, ◌↔◌, ℕ, zero, suc, Bool, true, false, List, [], ◌∷◌, ◌++◌, if◌then◌else◌, Option, Some, None, cond, filter, length, get_or, map, set, refl, ap, sym, subst, ◌∙◌, inl, inr, arith, append_assoc}
use Rattle.std.specs.Prelude.{nat_lt}
use Rattle.std.specs.Option.{option_map}
use Rattle.std.proofs.lemmas.Bool.{cases_Bool, eq-eqb, eqb-true, false_from_ne_true, le-ltb, ne_eqb}
use Rattle.std.proofs.lemmas.List.{length_push, set_at}
use Rattle.iox_types.specs.declared.identifiers.system_id.UniqueSystemId.{UniqueSystemId}
use Rattle.iox_sets.specs.declared.mpmc.unique_index_set_enums.ReleaseMode.TheVariants.{LockIfLastIndex, Default}
use Rattle.iox_sets.specs.declared.mpmc.unique_index_set_enums.ReleaseState.TheVariants.{Locked, Unlocked}
use Rattle.iox_sets.specs.Calls.{Accepts}
use Rattle.iox_sets.specs.IndexSets.{is_locked, state_after}
use Rattle.iox_sets.specs.OwnedIndices.{OwnedIndices, held_count, state_after_recovery}
use Rattle.iox_container.specs.declared.mpmc.container.container_handle.ContainerHandle.{ContainerHandle}
use Rattle.iox_container.specs.declared.mpmc.container.entries.Entry.{Entry}
use Rattle.iox_container.specs.Containers.{Contents, entries_from}
use Rattle.iox_container.specs.Leaving.{without}
use Rattle.iox_registry.specs.declared.registered.Registered.{Registered}
use Rattle.iox_registry.specs.declared.roles.Role.{Role}
use Rattle.iox_registry.specs.declared.roles.Role.TheVariants.{Node}
use Rattle.iox_registry.specs.Registers.{Registration, Registrations, details_in, left_with, listed, locked_after, recovered, same_id, same_role, without_node}
use Rattle.iox_registry.specs.Standing.{HasNoOwner, HasOwner, IsStanding, entry_of_kept, kept_in, kept_without, kept_without_node, mode_of, shown, shown_slots}
use Rattle.iox_registry.proofs.IdLemmas.{same_id-is, same_id-of, same_id-not}

-- a closure that says yes to all accepts all
pub accepts-all : {F A : Type 0} (step : F → A → Bool → F → Type 0)
    → ((b : F) (i : A) (a : Bool) (n : F) → step b i a n → a ≡ true)
    → (f : F) (items accepted : List A) → Accepts step f items accepted → accepted ≡ items
accepts-all step agrees f [] accepted is = is
accepts-all step agrees f (item ∷ items) accepted (answer, after, rest, asked, more, made) =
    rw (made, agrees f item answer after asked, accepts-all step agrees after items rest more) refl

-- what a slot has without an owner's entry
abbrev pub entry_without : {T : Type 0} → ℕ → Option (Entry T) → Option (Entry T)
entry_without owner None = None
entry_without owner (Some entry) = if entry.owner == owner then None else Some entry

module _ {T : Type 0} (owner id : ℕ) where
  taken : ℕ → List (Option (Entry T)) → List (ContainerHandle × Entry T)
  taken n rest = filter (λ item. item.1.owner == owner) (entries_from id n rest)

  -- the entries of an owner from a slot on are taken
  without-from : (rest before : List (Option (Entry T))) (n : ℕ) → length before ≡ n
      → without (filter (λ item. item.1.owner == owner) (entries_from id n rest)) (before ++ rest)
      ≡ before ++ map (entry_without owner) rest
  without-from [] before n size = refl
  without-from (None ∷ rest) before n size =
      let more : length (before ++ None ∷ []) ≡ n + 1 = length_push before None ∙ ap (λ k. k + 1) size in
      ap (without (filter (λ item. item.1.owner == owner) (entries_from id (n + 1) rest))) (sym (append_assoc before (None ∷ []) rest))
      ∙ without-from rest (before ++ None ∷ []) (n + 1) more
      ∙ append_assoc before (None ∷ []) (map (entry_without owner) rest)
  without-from (Some entry ∷ rest) before n size = elim (cases_Bool (entry.owner == owner)) [
    | inl own ↦
        let more : length (before ++ None ∷ []) ≡ n + 1 = length_push before None ∙ ap (λ k. k + 1) size in
        rw own (
        ap (without (filter (λ item. item.1.owner == owner) (entries_from id (n + 1) rest)))
        (set_at before (Some entry) rest None n size ∙ sym (append_assoc before (None ∷ []) rest))
        ∙ without-from rest (before ++ None ∷ []) (n + 1) more
        ∙ append_assoc before (None ∷ []) (map (entry_without owner) rest))
    | inr other ↦
        let more : length (before ++ Some entry ∷ []) ≡ n + 1 = length_push before (Some entry) ∙ ap (λ k. k + 1) size in
        rw other (
        ap (without (filter (λ item. item.1.owner == owner) (entries_from id (n + 1) rest)))
        (sym (append_assoc before (Some entry ∷ []) rest))
        ∙ without-from rest (before ++ Some entry ∷ []) (n + 1) more
        ∙ append_assoc before (Some entry ∷ []) (map (entry_without owner) rest))
  ]

  pub without-all : (slots : List (Option (Entry T)))
      → without (filter (λ item. item.1.owner == owner) (entries_from id 0 slots)) slots ≡ map (entry_without owner) slots
  without-all slots = without-from slots [] 0 refl

module _ {D : Type 0} (node : D → UniqueSystemId) (id : UniqueSystemId) where
  -- the container's entries without the owner are those of the slots without the node
  pub entries-without : (owner : ℕ) (slots : List (Option (Registered D)))
      → ((i : ℕ) (a : Registered D) → kept_in slots i ≡ Some a → (a.owner == owner) ≡ same_id (node a.details) id)
      → map (entry_without owner) (map (option_map entry_of_kept) slots)
      ≡ map (option_map entry_of_kept) (kept_without node id slots)
  entries-without owner [] tells = refl
  entries-without owner (None ∷ slots) tells =
      ap (λ rest. None ∷ rest) (entries-without owner slots (λ i a at. tells (suc i) a at))
  entries-without owner (Some kept ∷ slots) tells =
      rw (tells 0 kept refl, entries-without owner slots (λ i a at. tells (suc i) a at)) (
      of_bool (same_id (node kept.details) id))
    where
      of_bool : (b : Bool)
          → cond b None (Some (entry_of_kept kept)) ∷ map (option_map entry_of_kept) (kept_without node id slots)
          ≡ option_map entry_of_kept (cond b None (Some kept)) ∷ map (option_map entry_of_kept) (kept_without node id slots)
      of_bool true = refl
      of_bool false = refl

  -- callers see the slots without the node
  pub shown-without : (slots : List (Option (Registered D)))
      → shown_slots (kept_without node id slots) ≡ map (without_node node id) (shown_slots slots)
  shown-without [] = refl
  shown-without (None ∷ slots) = ap (λ rest. None ∷ rest) (shown-without slots)
  shown-without (Some kept ∷ slots) =
      rw (shown-without slots) (of_bool (same_id (node kept.details) id))
    where
      of_bool : (b : Bool)
          → option_map shown (cond b None (Some kept)) ∷ map (without_node node id) (shown_slots slots)
          ≡ cond b None (Some (shown kept)) ∷ map (without_node node id) (shown_slots slots)
      of_bool true = refl
      of_bool false = refl

  -- where nothing is of the node, nothing goes
  pub none-without : (slots : List (Option (Registered D))) → HasNoOwner node slots id
      → map (without_node node id) (shown_slots slots) ≡ shown_slots slots
  none-without [] none = refl
  none-without (None ∷ slots) none = ap (λ rest. None ∷ rest) (none-without slots (λ i a at. none (suc i) a at))
  none-without (Some kept ∷ slots) none =
      rw (same_id-not (node kept.details) id (none 0 kept refl), none-without slots (λ i a at. none (suc i) a at)) refl

  -- the owner tells the node's
  pub owner-tells : (container : Contents (Unit {0})) (service next : ℕ) (slots : List (Option (Registered D))) (owner : ℕ)
      → IsStanding node container service next slots → HasOwner node slots id owner
      → (i : ℕ) (a : Registered D) → kept_in slots i ≡ Some a → (a.owner == owner) ≡ same_id (node a.details) id
  owner-tells container service next slots owner st has i a at =
      let tells = st.owners i has.0 a has.1 at has.2 in
      elim (cases_Bool (same_id (node a.details) id)) [
        | inl same ↦ eq-eqb a.owner owner (tells.1 (same_id-is _ _ same ∙ sym has.3) ∙ has.4) ∙ sym same
        | inr differ ↦ false_from_ne_true _ (λ one. differs differ (same_id-of _ _ (tells.0 (eqb-true _ _ one ∙ sym has.4) ∙ has.3))) ∙ sym differ
      ]
    where
      differs : {b : Bool} → b ≡ false → b ≡ true → ⊥
      differs no_more yes_more = cc

-- a recovery that takes nothing leaves all as it was
pub recovered-none : {D : Type 0} (node : D → UniqueSystemId) (id : UniqueSystemId) (old : Registrations D)
    → map (without_node node id) old.slots ≡ old.slots → recovered node id old ≡ old
recovered-none node id old same = rw (same, le-ltb (length (listed old)) (length (listed old)) (omega arith)) refl

-- whether the container is locked as its slots are emptied
pub locked-by : (role : Role) (held : ℕ)
    → is_locked (state_after (mode_of role) held) ≡ (same_role role Node && (held == 0))
locked-by role held = of_bool (same_role role Node) held
  where
    of_bool : (b : Bool) (k : ℕ) → is_locked (state_after (cond b LockIfLastIndex Default) k) ≡ (b && (k == 0))
    of_bool true zero = refl
    of_bool true (suc k) = sym (ne_eqb (suc k) 0 (λ same. omega arith))
    of_bool false k = refl

pub locked-by-recovery : (role : Role) (old : OwnedIndices) (held : ℕ)
    → is_locked (state_after_recovery (mode_of role) old held)
    ≡ (if nat_lt held (held_count old) then same_role role Node && (held == 0) else old.locked)
locked-by-recovery role old held = of_bool (nat_lt held (held_count old)) old.locked
  where
    of_bool : (fewer locked : Bool)
        → is_locked (cond fewer (state_after (mode_of role) held) (cond locked Locked Unlocked))
        ≡ cond fewer (same_role role Node && (held == 0)) locked
    of_bool true locked = locked-by role held
    of_bool false true = refl
    of_bool false false = refl
