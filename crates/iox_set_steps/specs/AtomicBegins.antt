-- The law of the begins of parties at a value.
use Rattle.std.specs.Prelude.{List, Ok}
use Rattle.std.proofs.Common.{◌≡◌, ℕ, true, false, get_or, set, refl, ap, sym, ◌∙◌, inl, inr, arith, length-set, get_or-set_same, get_or-set_other}
use Rattle.std.proofs.lemmas.Bool.{cases_eq}
use Rattle.iox_steps.specs.MachineStates.{IsParty, with_party}
use Rattle.iox_set_steps.specs.declared.unrestricted_atomic.AtomicCall.{AtomicCall}
use Rattle.iox_set_steps.specs.declared.unrestricted_atomic.AtomicCall.TheVariants.{Store, Load}
use Rattle.iox_set_steps.specs.declared.unrestricted_atomic.party.AtomicParty.{AtomicParty}
use Rattle.iox_set_steps.specs.AtomicPlays.{AtomicMachineState, AtomicsBegin, may_call, atomic_start, AtomicsKnow, is_storing, IsAtValue, AtomicsHold}

-- what `AtomicsKnow` says holds of the first access of each call
start_knows : (size base : ℕ) (words : List ℕ) (call : AtomicCall size) → AtomicsKnow size base words (atomic_start call)
start_knows size base words (Store list) = tt
start_knows size base words Load = tt

-- a party that may not store begins no store
start_stores : {size : ℕ} (party : AtomicParty size) (call : AtomicCall size) → may_call party call ≡ true → party.stores ≡ false
    → is_storing (atomic_start call) ≡ false
start_stores party (Store list) may loads = absurd (cc)
start_stores party Load may loads = refl

module _ (size : ℕ) (machine : AtomicMachineState size) (number : ℕ) (call : AtomicCall size) (party after : AtomicParty size) (holds : AtomicsHold size machine)
    (is : IsParty machine number party) (begins : AtomicsBegin party call (Ok after)) where
  -- the party that began its call is at the value
  begun : IsAtValue size holds.base machine.words number after
  begun = let at = holds.parties number party is in record {
    here = begins.2 ∙ at.here;
    role = begins.3 ∙ at.role;
    stores = λ loads. ap is_storing begins.4 ∙ start_stores party call begins.0 (sym begins.3 ∙ loads);
    knows = rw (begins.4) (start_knows size holds.base machine.words call);
  }

  -- each party is at the value once this one began its call
  pub all_begun : (other : ℕ) (that : AtomicParty size) → IsParty (with_party machine number after) other that → IsAtValue size holds.base machine.words other that
  all_begun other that known = elim (cases_eq other number) [
    | inl same ↦ (let one : that ≡ after = known.1 ∙ ap (λ n. get_or (set machine.parties number after) n that) same
        ∙ get_or-set_same machine.parties number after that is.0 in
        rw (same, one) begun)
    | inr apart ↦ holds.parties other that (
      omega (arith, known.0, length-set machine.parties number after),
      known.1 ∙ get_or-set_other machine.parties number other after that apart,
    )
  ]

  -- the invariant holds once this party began its call
  unfoldable pub started : AtomicsHold size (with_party machine number after)
  started = record {
    base = holds.base;
    first = holds.first;
    run = holds.run;
    room = holds.room;
    memory = holds.memory;
    version = holds.version;
    parties = all_begun;
  }

-- each begin of a call keeps the invariant
unfoldable pub atomics_start : (size : ℕ) (machine : AtomicMachineState size) (number : ℕ) (call : AtomicCall size) (party after : AtomicParty size)
    → AtomicsHold size machine → IsParty machine number party → AtomicsBegin party call (Ok after)
    → AtomicsHold size (with_party machine number after)
atomics_start size machine number call party after holds is begins = started size machine number call party after holds is begins
