-- What a recovery of the container's owner is to the register.
use Rattle.std.proofs.Common.{◌≡◌, ◌==◌, ◌&&◌, ℕ, Bool, true, List, Option, length, map, refl, ap, sym, ◌∙◌}
use Rattle.std.specs.Prelude.{nat_lt, if◌then◌else◌}
use Rattle.std.specs.Option.{option_map}
use Rattle.iox_types.specs.declared.identifiers.system_id.UniqueSystemId.{UniqueSystemId}
use Rattle.iox_sets.specs.IndexSets.{is_locked}
use Rattle.iox_sets.specs.OwnedIndices.{state_after_recovery}
use Rattle.iox_sets.specs.declared.mpmc.unique_index_set_enums.ReleaseMode.{ReleaseMode}
use Rattle.iox_sets.specs.declared.mpmc.unique_index_set_enums.ReleaseState.{ReleaseState}
use Rattle.iox_container.specs.Containers.{Contents, count, indices}
use Rattle.iox_container.specs.Leaving.{Recovers, without}
use Rattle.iox_registry.specs.declared.registered.Registered.{Registered}
use Rattle.iox_registry.specs.declared.roles.Role.{Role}
use Rattle.iox_registry.specs.declared.roles.Role.TheVariants.{Node}
use Rattle.iox_registry.specs.Registers.{details_in, locked_after, recovered, same_role}
use Rattle.iox_registry.specs.Standing.{HasOwner, IsStanding, entry_of_kept, kept_without, mode_of, register_in, shown_slots}
use Rattle.iox_registry.proofs.CountLemmas.{count-standing}
use Rattle.iox_registry.proofs.RecoveryLemmas.{accepts-all, entries-without, entry_without, locked-by-recovery, owner-tells, shown-without, without-all}
use Rattle.iox_registry.proofs.RegisterLemmas.{left-is}
use Rattle.iox_registry.proofs.StandingLemmas.{IsStanding-fewer, had-without}

module _ {D : Type 0} (node : D → UniqueSystemId) (role : Role) (contents : Contents (Unit {0}))
    (service next : ℕ) (slots : List (Option (Registered D))) (st : IsStanding node contents service next slots)
    (id : UniqueSystemId) (owner : ℕ) (has : HasOwner node slots id owner)
    (fewer : Contents (Unit {0})) (state : ReleaseState)
    {F : Type 0} (step : F → Unit {0} → Bool → F → Type 0) (f : F)
    (agrees : (before : F) (value : Unit {0}) (answer : Bool) (after : F) → step before value answer after → answer ≡ true)
    (mode : ReleaseMode) (decides : mode ≡ mode_of role) (takes : Recovers step f owner mode contents state fewer) where
  slots-are : fewer.slots ≡ map (option_map entry_of_kept) (kept_without node id slots)
  slots-are =
      ap (λ c. c.slots) takes.left
      ∙ ap (λ items. without items contents.slots)
      (accepts-all _ (λ before item answer after. agrees before item.1.value answer after) f _ _ takes.asked)
      ∙ without-all owner contents.id contents.slots
      ∙ ap (map (entry_without owner)) st.entries
      ∙ entries-without node id owner slots (owner-tells node id contents service next slots owner st has)

  pub standing : IsStanding node fewer service next (kept_without node id slots)
  standing =
      IsStanding-fewer node contents service next slots st fewer (kept_without node id slots)
      (ap (λ c. c.id) takes.left) (ap (λ c. c.next_ticket) takes.left) slots-are (had-without node id slots)

  locked-is : fewer.locked ≡ locked_after (register_in service role slots contents.locked next) (shown_slots (kept_without node id slots))
  locked-is =
      ap (λ c. c.locked) takes.left ∙ ap is_locked (takes.state ∙ ap (λ m. state_after_recovery m (indices contents) (count fewer)) decides)
      ∙ locked-by-recovery role (indices contents) (count fewer)
      ∙ counted _ _ _ _ (count-standing node fewer service next _ standing) (count-standing node contents service next slots st)
    where
      counted : (h k a b : ℕ) → h ≡ a → k ≡ b
          → (if nat_lt h k then same_role role Node && (h == 0) else contents.locked)
          ≡ (if nat_lt a b then same_role role Node && (a == 0) else contents.locked)
      counted h k a b one two = rw (one, two) refl

  pub recovers : register_in service role (kept_without node id slots) fewer.locked next
      ≡ recovered node id (register_in service role slots contents.locked next)
  recovers =
      left-is (register_in service role slots contents.locked next) _ _ fewer.locked locked-is (shown-without node id slots)
