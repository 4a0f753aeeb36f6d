-- The laws of the accesses of parties at a value.
use Rattle.std.specs.Prelude.{List}
use Rattle.std.proofs.Common.{◌≡◌, ◌≢◌, ℕ, false, length, get_or, set, refl, ap, sym, ◌∙◌, inl, inr, arith, eqb}
use Rattle.std.proofs.Common.{ltb, length-set, get_or-set_same, get_or-set_other}
use Rattle.std.proofs.lemmas.Bool.{cases_eq, cases_Bool, eqb-true, ne_eqb}
use Rattle.iox_steps.specs.declared.access.Progress.{Progress}
use Rattle.iox_steps.specs.Accesses.{words_after, IsWithin}
use Rattle.iox_steps.specs.MachineStates.{IsParty, with_party, seen_in, after_access}
use Rattle.iox_steps.proofs.AccessLemmas.{length-words_after}
use Rattle.iox_set_steps.specs.declared.unrestricted_atomic.AtomicReply.{AtomicReply}
use Rattle.iox_set_steps.specs.declared.unrestricted_atomic.AtomicProgram.{AtomicProgram}
use Rattle.iox_set_steps.specs.declared.unrestricted_atomic.AtomicProgram.TheVariants.{AtRest, LoadsToStore, StoresWord, Raises, LoadsToLoad, LoadsWord}
use Rattle.iox_set_steps.specs.declared.unrestricted_atomic.AtomicProgram.TheVariants.{LoadsAgain}
use Rattle.iox_set_steps.specs.declared.unrestricted_atomic.party.AtomicParty.{AtomicParty}
use Rattle.iox_set_steps.specs.AtomicPrograms.{index_behind, atomic_access, atomic_next, program_of}
use Rattle.iox_set_steps.specs.AtomicPlays.{AtomicMachineState, atomics_ask, atomics_happen, atomics_rest, AtomicsLead, is_storing, IsAtValue, AtomicsHold}
use Rattle.iox_set_steps.specs.AtomicLemmas.{run_more}
use Rattle.iox_set_steps.specs.AtomicKnowledge.{Advances, atomic_access_within, survives}
use Rattle.iox_set_steps.specs.AtomicEvents.{Makes, atomic_makes}

-- the access of each party names a word that exists
pub atomics_stay_in : (size : ℕ) (machine : AtomicMachineState size) (number : ℕ) (party : AtomicParty size) → AtomicsHold size machine → IsParty machine number party
    → IsWithin 0 (length machine.words) (atomics_ask size party)
atomics_stay_in size machine number party holds is =
    let at = holds.parties number party is in
    rw (at.here) (atomic_access_within size holds.base machine.words holds.room holds.memory holds.version party.program at.knows)

-- an access of a party that is in no store leaves the words unchanged
words_stay : (size base : ℕ) (words : List ℕ) (program : AtomicProgram size) → is_storing program ≡ false
    → words_after (atomic_access size base program) words ≡ words
words_stay size base words AtRest other = refl
words_stay size base words (LoadsToStore list) other = refl
words_stay size base words (StoresWord list version index) other = absurd (cc)
words_stay size base words (Raises list version) other = absurd (cc)
words_stay size base words LoadsToLoad other = refl
words_stay size base words (LoadsWord version list index) other = refl
words_stay size base words (LoadsAgain version list) other = refl

-- what held of another party still holds
other_knows : (size base : ℕ) (words : List ℕ) (number other : ℕ) (party that : AtomicParty size) → IsAtValue size base words number party
    → IsAtValue size base words other that → other ≢ number
    → Advances size base words (words_after (atomic_access size base party.program) words)
    → IsAtValue size base (words_after (atomic_access size base party.program) words) other that
other_knows size base words number other party that at known apart follows = record {
  here = known.here;
  role = known.role;
  stores = known.stores;
  knows = elim (cases_Bool party.stores) [
    | inr loads ↦ rw (words_stay size base words party.program (at.stores loads)) known.knows
    | inl stores ↦ (let zero : number ≡ 0 = eqb-true number 0 (sym at.role ∙ stores) in
        let loads : that.stores ≡ false = known.role ∙ ne_eqb other 0 (λ same. apart (same ∙ sym zero)) in
        survives size base words _ follows that.program (known.stores loads) known.knows)
  ];
}

-- a program that is in no store goes to none
next_stores : (size : ℕ) (program : AtomicProgram size) (seen : ℕ) → is_storing program ≡ false
    → is_storing (program_of (atomic_next size program seen)) ≡ false
next_stores size AtRest seen other = refl
next_stores size (LoadsToStore list) seen other = absurd (cc)
next_stores size (StoresWord list version index) seen other = absurd (cc)
next_stores size (Raises list version) seen other = absurd (cc)
next_stores size LoadsToLoad seen other = elim (cases_Bool (ltb 0 size)) [ inl some ↦ rw some refl | inr none ↦ rw none refl ]
next_stores size (LoadsWord version list index) seen other =
    elim (cases_Bool (ltb (index_behind index) size)) [ inl some ↦ rw some refl | inr none ↦ rw none refl ]
next_stores size (LoadsAgain version list) seen other = elim (cases_Bool (eqb seen version)) [
  | inl stands ↦ rw stands refl
  | inr moved ↦ rw moved (elim (cases_Bool (ltb 0 size)) [ inl some ↦ rw some refl | inr none ↦ rw none refl ])
]

module _ (size : ℕ) (machine : AtomicMachineState size) (number : ℕ) (party after : AtomicParty size) (answer : Progress (AtomicReply size))
    (holds : AtomicsHold size machine) (is : IsParty machine number party)
    (leads : AtomicsLead size party (seen_in machine (atomics_ask size party)) answer after) where
  -- the party is at the value
  at : IsAtValue size holds.base machine.words number party
  at = holds.parties number party is

  -- what the access makes of the words and of the party
  pub makes : Makes size holds.base machine.words party.program (words_after (atomics_ask size party) machine.words) (seen_in machine (atomics_ask size party))
  makes = rw (at.here) (atomic_makes size holds.base machine.words holds.room holds.memory holds.version party.program at.knows)

  -- the party is at the value after its access
  own : IsAtValue size holds.base (words_after (atomics_ask size party) machine.words) number after
  own = record {
    here = leads.0 ∙ at.here;
    role = leads.1 ∙ at.role;
    stores = λ loads. ap is_storing leads.2 ∙ next_stores size party.program _ (at.stores (sym leads.1 ∙ loads));
    knows = rw (leads.2) (makes.knows);
  }

  -- each other party is at the value after the access
  others : (other : ℕ) (that : AtomicParty size) → other ≢ number → IsParty machine other that
      → IsAtValue size holds.base (words_after (atomics_ask size party) machine.words) other that
  others other that apart known =
      let follows = makes.follows in
      rw (at.here) (other_knows size holds.base machine.words number other party that at (holds.parties other that known) apart (rw (at.here) at follows))

  -- each party is at the value after the access
  pub all : (other : ℕ) (that : AtomicParty size) → IsParty (with_party machine number after) other that
      → IsAtValue size holds.base (words_after (atomics_ask size party) machine.words) other that
  all other that known = elim (cases_eq other number) [
    | inl same ↦ (let one : that ≡ after = known.1 ∙ ap (λ n. get_or (set machine.parties number after) n that) same
        ∙ get_or-set_same machine.parties number after that is.0 in rw (same, one) own)
    | inr apart ↦ others other that apart (
      omega (arith, known.0, length-set machine.parties number after),
      known.1 ∙ get_or-set_other machine.parties number other after that apart,
    )
  ]

  -- the invariant holds after the access
  unfoldable pub kept : AtomicsHold size (after_access machine number (atomics_ask size party) after
      (atomics_happen party (seen_in machine (atomics_ask size party))))
  kept = record {
    base = holds.base;
    first = holds.first;
    run = run_more size holds.first machine.events _ _ _ holds.run makes.leads;
    room = simp length-words_after (holds.room);
    memory = simp length-words_after (holds.memory);
    version = makes.version;
    parties = all;
  }

-- each access of a party whose call is under way keeps the invariant
unfoldable pub atomics_keep : (size : ℕ) (machine : AtomicMachineState size) (number : ℕ) (party after : AtomicParty size) (answer : Progress (AtomicReply size))
    → AtomicsHold size machine → IsParty machine number party → atomics_rest party ≡ false
    → AtomicsLead size party (seen_in machine (atomics_ask size party)) answer after
    → AtomicsHold size (after_access machine number (atomics_ask size party) after (atomics_happen party (seen_in machine (atomics_ask size party))))
atomics_keep size machine number party after answer holds is awake leads = kept size machine number party after answer holds is leads
