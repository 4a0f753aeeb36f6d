-- A step of a machine of a value is one event of the value; only party 0 begins to store; and what is new holds.
use Rattle.std.proofs.Common.{ℕ, ◌+◌, ◌<◌, ◌≤◌, ◌^◌, List, [], Option, length, get_or, refl, sym, subst, ◌∙◌, inl, inr, Result, Ok, Err, IfOk, OnOk}
use Rattle.std.proofs.lemmas.Bool.{cases_eq, eqb-true, eq-eqb, ne_eqb}
use Rattle.iox_steps.specs.declared.access.Progress.{Progress}
use Rattle.iox_steps.specs.declared.error.MachineError.{MachineError}
use Rattle.iox_steps.specs.Accesses.{place_of}
use Rattle.iox_steps.specs.MachineStates.{IsParty, with_party, seen_in, after_access}
use Rattle.std.specs.Prelude.{None}
use Rattle.std.proofs.Common.{◌≡◌}
use Rattle.iox_steps.specs.Answers.{OnProgress}
use Rattle.iox_steps.specs.declared.access.Next.{Next}
use Rattle.iox_steps.specs.declared.access.Next.TheVariants.{Goes, Ends}
use Rattle.iox_steps.specs.declared.machine.Entry.{Entry}
use Rattle.iox_set_steps.specs.declared.unrestricted_atomic.AtomicEvent.{AtomicEvent}
use Rattle.iox_set_steps.specs.AtomicCalls.{AtomicTurn, IsDoing, Says, Tells}
use Rattle.iox_set_steps.specs.AtomicBegins.{atomics_start}
use Rattle.iox_set_steps.proofs.HoldLemmas.{all_played, party_put, party_stays, same_party}
use Rattle.iox_set_steps.proofs.AtomicTellLemmas.{atomic_tells, start_doing}
use Rattle.iox_steps.proofs.AccessLemmas.{reads_after, word_after-other, length-words_after}
use Rattle.iox_set_steps.specs.declared.unrestricted_atomic.AtomicCall.{AtomicCall}
use Rattle.iox_set_steps.specs.declared.unrestricted_atomic.AtomicCall.TheVariants.{Store, Load}
use Rattle.iox_set_steps.specs.declared.unrestricted_atomic.AtomicReply.{AtomicReply}
use Rattle.iox_set_steps.specs.declared.unrestricted_atomic.AtomicProgram.{AtomicProgram}
use Rattle.iox_set_steps.specs.declared.unrestricted_atomic.AtomicProgram.TheVariants.{AtRest, LoadsToStore, StoresWord, Raises, LoadsToLoad, LoadsWord, LoadsAgain}
use Rattle.iox_set_steps.specs.declared.unrestricted_atomic.party.AtomicParty.{AtomicParty}
use Rattle.iox_set_steps.specs.Values.{version_now, value_now}
use Rattle.iox_set_steps.specs.AtomicPrograms.{last_version, atomic_next, atomic_event, program_of, progress_of}
use Rattle.iox_set_steps.specs.AtomicPlays.{AtomicMachineState, AtomicAnswers, atomics_ask, atomics_happen, atomics_rest, AtomicsLead, AtomicsBegin, IsAtValue, AtomicsHold}
use Rattle.iox_set_steps.specs.AtomicEvents.{atomic_makes}
use Rattle.iox_set_steps.specs.AtomicLaws.{atomics_stay_in, atomics_keep}
use Rattle.iox_set_steps.specs.AtomicMachines.{AllAtomicsEntered, AtomicsStepped, AtomicsBegun, BeginsAtomicCall, IsInAtomicCall, MayCall, IsNewParty, AreNewParties, IsAtomicEvent, PlayAtomics, atomic_party_at, atomics_answer, atomics_begun, atomics_stepped}
use Rattle.std.proofs.lemmas.List.{get_or_default}
use Rattle.std.proofs.Common.{Bool, ap}
use Rattle.iox_set_steps.specs.AtomicPlays.{atomic_start}

-- each reply says what its access did or saw
pub atomic_answers : (size : ℕ) (program : AtomicProgram size) (seen : ℕ) → AtomicAnswers (progress_of (atomic_next size program seen)) (atomic_event program seen)
atomic_answers size AtRest seen = tt
atomic_answers size (LoadsToStore list) seen = elim (cases_eq seen last_version) [ inl last ↦ rw (eq-eqb _ _ last) tt | inr more ↦ rw (ne_eqb _ _ more) tt ]
atomic_answers size (StoresWord list version index) seen = tt
atomic_answers size (Raises list version) seen = tt
atomic_answers size LoadsToLoad seen = tt
atomic_answers size (LoadsWord version list index) seen = tt
atomic_answers size (LoadsAgain version list) seen = elim (cases_eq seen version) [ inl stands ↦ rw (eq-eqb _ _ stands) refl | inr moved ↦ rw (ne_eqb _ _ moved) tt ]

module _ (size : ℕ) (old : AtomicMachineState size) (holds : AtomicsHold size old) where
  -- the call of a party continues, or ends in a reply that tells of it
  call_goes : (base : ℕ) (new : AtomicMachineState size) (number : ℕ) (call : AtomicCall size) (turn : AtomicTurn size) (next : Next (AtomicProgram size)
      (AtomicReply size)) (answer : Progress (AtomicReply size)) (after : AtomicParty size)
      → IsParty new number after → after.program ≡ program_of next → answer ≡ progress_of next → Tells size base call turn next
      → OnProgress answer ((turn.event ≡ None) × IsInAtomicCall size new number call) (Says size base call turn)
  call_goes base new number call turn (Goes program) answer after is at says tells = rw (says) (
    tells.0,
    record {
      party = after;
      is_party = is;
      doing = rw
          (at) tells.1;
    },
  )
  call_goes base new number call turn (Ends reply) answer after is at says tells = rw (says) tells

  module _ (number : ℕ) (party after : AtomicParty size) (answer : Progress (AtomicReply size)) (is : IsParty old number party)
      (leads : AtomicsLead size party (seen_in old (atomics_ask size party)) answer after) where
    abbrev event : Option (AtomicEvent size)
    event = atomics_happen party (seen_in old (atomics_ask size party))

    abbrev left : AtomicMachineState size
    left = after_access old number (atomics_ask size party) after event

    pub tells : (call : AtomicCall size) → IsInAtomicCall size old number call
        → Tells size holds.base call (record { found = old.words; event = event }) (atomic_next size party.program (seen_in old (atomics_ask size party)))
    tells call is_in =
        let same = same_party old number party is_in.party is is_in.is_party in
        let doing = subst (λ (p : AtomicParty size). IsDoing call p.program) same is_in.doing in
        rw ((holds.parties number party is).here) (atomic_tells size holds.base old.words call party.program doing)

    event_at : IsAtomicEvent size old number answer left
    event_at =
        let at = holds.parties number party is in
        let makes = atomic_makes size holds.base old.words holds.room holds.memory holds.version party.program at.knows in
        record {
          base = holds.base;
          event = event;
          parties = λ other that is. (holds.parties other that is).here;
          told = refl;
          leads = rw (at.here) (makes.leads);
          answers = rw (leads.3) (atomic_answers size party.program _);
          call = λ call is_in. call_goes holds.base left number call (record { found = old.words; event = event }) _ answer after
              (party_put old left number after refl is.0) leads.2 leads.3 (tells call is_in);
          others = λ other call apart was. record { party = was.party; is_party = party_stays old left number after refl other was.party apart was.is_party; doing = was.doing };
          length_stays = length-words_after (atomics_ask size party) old.words;
          one_word = (
            place_of (atomics_ask size party),
            λ other apart. reads_after (atomics_ask size party) old.words (atomics_stay_in size old number party holds is) other
                ∙ word_after-other (atomics_ask size party) (λ place. get_or old.words place 0) other apart,
          );
        }

  pub event_of : (number : ℕ) (answer : Progress (AtomicReply size)) (new : AtomicMachineState size) → AtomicsStepped size old number answer new
      → IsAtomicEvent size old number answer new
  event_of number answer new step =
      subst (IsAtomicEvent size old number answer) (sym step.leads_to) (event_at number step.party step.after answer step.is_party step.leads_on)

  -- a begin begins its call
  begin_at : (number : ℕ) (call : AtomicCall size) (party after : AtomicParty size) → IsParty old number party → AtomicsBegin party call (Ok after)
      → BeginsAtomicCall size old number call (with_party old number after)
  begin_at number call party after is begins = record {
    words = refl;
    events = refl;
    begun = record {
      party = after;
      is_party = party_put old (with_party old number after) number after refl is.0;
      doing = rw (begins.4)
          (start_doing size 0 call);
    };
    others = λ other that apart was. record {
      party = was.party;
      is_party = party_stays old
          (with_party old number after) number after refl other was.party apart was.is_party;
      doing = was.doing;
    };
  }

  pub begin_of : (number : ℕ) (call : AtomicCall size) (new : AtomicMachineState size) → AtomicsBegun size old number call new
      → BeginsAtomicCall size old number call new
  begin_of number call new begun =
      subst (BeginsAtomicCall size old number call) (sym begun.leads_to) (begin_at number call begun.party begun.after begun.is_party begun.begins_with)

  -- whatever the step or the begin answers
  pub events_of : (number : ℕ) (new : AtomicMachineState size) (result : Result (Progress (AtomicReply size)) MachineError)
      → IfOk result (λ answer. AtomicsStepped size old number answer new)
      → IfOk result (λ answer. IsAtomicEvent size old number answer new)
  events_of number new (Ok answer) step = event_of number answer new step
  events_of number new (Err error) step = tt

  pub begins_of : {A : Type 0} → (number : ℕ) (call : AtomicCall size) (new : AtomicMachineState size) (result : Result A MachineError)
      → OnOk result (AtomicsBegun size old number call new)
      → OnOk result (BeginsAtomicCall size old number call new)
  begins_of number call new (Ok answer) begun = begin_of number call new begun
  begins_of number call new (Err error) begun = tt

-- and a schedule is played entry by entry
pub atomics_play : (size : ℕ) (old : AtomicMachineState size) (entries : List (Entry (AtomicCall size))) (new : AtomicMachineState size) → AtomicsHold size old
    → AllAtomicsEntered size old entries new → PlayAtomics size old entries new
atomics_play size = all_played (atomics_ask size) (AtomicsLead size) atomics_happen atomics_rest AtomicsBegin (AtomicsHold size) (atomics_keep size)
    (atomics_start size) (λ (machine : AtomicMachineState size). machine) (BeginsAtomicCall size) (IsAtomicEvent size)
    (λ old number call new holds begun. begin_of size old holds number call new begun)
    (λ old number answer new holds step. event_of size old holds number answer new step)

-- to its end, where it comes to that
pub atomics_play_whole : {A : Type 0}
    → (size : ℕ) (old : AtomicMachineState size) (entries : List (Entry (AtomicCall size))) (new : AtomicMachineState size) (result : Result A MachineError)
    → AtomicsHold size old
    → OnOk result (AllAtomicsEntered size old entries new) → OnOk result (PlayAtomics size old entries new)
atomics_play_whole size old entries new (Ok answer) holds entered = atomics_play size old entries new holds entered
atomics_play_whole size old entries new (Err error) holds entered = tt

storer_of : (size : ℕ) (old new : AtomicMachineState size) (number : ℕ) (call : AtomicCall size) → AtomicsHold size old → AtomicsBegun size old number call new → MayCall number call
storer_of size old new number (Store list) holds begun = eqb-true number 0 (sym (holds.parties number begun.party begun.is_party).role ∙ begun.begins_with.0)
storer_of size old new number Load holds begun = tt

-- only party 0 begins to store
pub storers_of : {A : Type 0} → (size : ℕ) (old new : AtomicMachineState size) (number : ℕ) (call : AtomicCall size) (result : Result A MachineError) → AtomicsHold size old → OnOk result (AtomicsBegun size old number call new) → OnOk result (MayCall number call)
storers_of size old new number call (Ok answer) holds begun = storer_of size old new number call holds begun
storers_of size old new number call (Err error) holds begun = tt

new_party_at : (size base : ℕ) (words : List ℕ) (number : ℕ) (party : AtomicParty size) → IsNewParty base number party → IsAtValue size base words number party
new_party_at size base words number party new = record { here = new.0; role = new.1; stores = λ loads. rw (new.2) refl; knows = rw (new.2) tt }

-- a value that stands in words, and parties at rest
pub new_atomic_holds : (size : ℕ) (words : List ℕ) (base count : ℕ) (parties : List (AtomicParty size)) → base + 1 + size + size ≤ length words → length words < 2 ^ 64 → version_now base words < 2 ^ 64
    → AreNewParties base count parties → AtomicsHold size (record { words = words; parties = parties; events = [] })
new_atomic_holds size words base count parties room memory small new = record {
  base = base;
  first = value_now size base words;
  run = λ index inside. refl;
  room = room;
  memory = memory;
  version = small;
  parties = λ number party is. new_party_at size base words number party (new.1 number party is.0 is.1);
}

-- a party is its base, its role and its program
party_is : {size : ℕ} (party : AtomicParty size) (base : ℕ) (stores : Bool) (program : AtomicProgram size) → party.base ≡ base → party.stores ≡ stores
    → party.program ≡ program
    → party ≡ record { base = base; stores = stores; program = program }
party_is party base stores program here role at = rw (← here, ← role, ← at) refl

module _ (size : ℕ) (old new : AtomicMachineState size) (number : ℕ) where
  at_is : (party : AtomicParty size) → IsParty old number party → atomic_party_at old number ≡ party
  at_is party is = get_or_default old.parties number _ party is.0 ∙ sym is.1

  step_is : (answer : Progress (AtomicReply size)) (step : AtomicsStepped size old number answer new)
      → (new ≡ atomics_stepped old number) × (answer ≡ atomics_answer old number)
  step_is answer step =
      let after = party_is step.after step.party.base step.party.stores (program_of (atomic_next size step.party.program (seen_in old
      (atomics_ask size step.party)))) step.leads_on.0 step.leads_on.1 step.leads_on.2 in (
        rw (at_is step.party step.is_party)
            (step.leads_to ∙ ap (λ p. after_access old number (atomics_ask size step.party) p (atomics_happen step.party (seen_in old
            (atomics_ask size step.party)))) after),
        rw (at_is step.party step.is_party) step.leads_on.3,
      )

  begin_is : (call : AtomicCall size) (begun : AtomicsBegun size old number call new) → new ≡ atomics_begun old number call
  begin_is call begun =
      let after = party_is begun.after begun.party.base begun.party.stores (atomic_start call) begun.begins_with.2 begun.begins_with.3 begun.begins_with.4 in
      rw (at_is begun.party begun.is_party) (begun.leads_to ∙ ap (with_party old number) after)

  pub steps_are : (result : Result (Progress (AtomicReply size)) MachineError) → IfOk result (λ answer. AtomicsStepped size old number answer new)
      → OnOk result (new ≡ atomics_stepped old number)
  steps_are (Ok answer) step = (step_is answer step).0
  steps_are (Err error) step = tt

  pub answers_are : (result : Result (Progress (AtomicReply size)) MachineError) → IfOk result (λ answer. AtomicsStepped size old number answer new)
      → IfOk result (λ answer. answer ≡ atomics_answer old number)
  answers_are (Ok answer) step = (step_is answer step).1
  answers_are (Err error) step = tt

  pub begins_are : {A : Type 0} → (call : AtomicCall size) (result : Result A MachineError) → OnOk result (AtomicsBegun size old number call new)
      → OnOk result (new ≡ atomics_begun old number call)
  begins_are call (Ok answer) begun = begin_is call begun
  begins_are call (Err error) begun = tt
