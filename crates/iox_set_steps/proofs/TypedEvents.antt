-- A step and a begin of a machine of a value of a type: what they make of the value, and what keeps it one.
use Rattle.std.specs.Prelude.{true, false, List, [], Option, Some, None, Result, Ok, Err, OnErr, OnOk}
use Rattle.std.specs.Option.{option_map, option_to_list}
use Rattle.std.proofs.Common.{◌≡◌, ℕ, ◌+◌, ◌^◌, ◌<◌, ◌++◌, ◌⊎◌, length, map, get_or, set, refl, ap, sym, subst, ◌∙◌, inl, inr, arith, length-set, get_or-set_same, get_or-set_other}
use Rattle.std.proofs.lemmas.Bool.{cases_eq}
use Rattle.std.proofs.lemmas.List.{map-append}
use Rattle.iox_steps.specs.declared.access.Progress.{Progress}
use Rattle.iox_steps.specs.declared.access.Progress.TheVariants.{Going, Done}
use Rattle.iox_steps.specs.declared.error.MachineError.{MachineError}
use Rattle.iox_steps.specs.MachineStates.{IsParty, seen_in}
use Rattle.iox_words.specs.WordLists.{AreWords}
use Rattle.iox_set_steps.specs.declared.unrestricted_atomic.AtomicReply.{AtomicReply}
use Rattle.iox_set_steps.specs.declared.unrestricted_atomic.AtomicReply.TheVariants as reply
use Rattle.iox_set_steps.specs.declared.unrestricted_atomic.AtomicEvent.{AtomicEvent}
use Rattle.iox_set_steps.specs.declared.unrestricted_atomic.AtomicEvent.TheVariants as event
use Rattle.iox_set_steps.specs.declared.unrestricted_atomic.party.AtomicParty.{AtomicParty}
use Rattle.iox_set_steps.specs.declared.unrestricted_atomic.value.ValueCall.{ValueCall}
use Rattle.iox_set_steps.specs.declared.unrestricted_atomic.value.ValueCall.TheVariants.{Store, Load}
use Rattle.iox_set_steps.specs.Values.{value_now, LeadsOn}
use Rattle.iox_set_steps.specs.AtomicPlays.{AtomicMachineState, AtomicAnswers, atomics_ask, atomics_happen, IsAtValue, AtomicsHold}
use Rattle.iox_set_steps.specs.AtomicEvents.{atomic_makes}
use Rattle.iox_set_steps.specs.AtomicMachines.{AtomicsStepped, AtomicsBegun, IsNewAtomic}
use Rattle.iox_set_steps.specs.TypedValues.{BeginsValueCall, IsCallOf, IsInValueCall, SaysOfValue, TypedAnswers, TypedRun, IsTypedEvent, answer_words, call_words}
use Rattle.iox_set_steps.specs.TypedWords.{AreLaid, AreOfType, IsNewValue, answer_of, event_of, or_else, shown, stored_by, words_now}
use Rattle.iox_set_steps.proofs.AtomicEventLemmas.{atomic_answers, begin_of, tells}
use Rattle.iox_set_steps.proofs.HoldLemmas.{party_put, party_stays}
use Rattle.iox_steps.specs.Answers.{OnProgress}
use Rattle.iox_steps.specs.declared.access.Next.{Next}
use Rattle.iox_steps.specs.declared.access.Next.TheVariants.{Goes, Ends}
use Rattle.iox_set_steps.specs.declared.unrestricted_atomic.AtomicProgram.{AtomicProgram}
use Rattle.iox_set_steps.specs.AtomicPrograms.{atomic_next, program_of, progress_of}
use Rattle.iox_set_steps.specs.AtomicCalls.{IsDoing, Tells}
use Rattle.iox_set_steps.proofs.TypedLemmas.{given, list_of, loaded_event, same_words, stored_event, stored_next}

-- a party after one was exchanged: it, or another as it was
party_after : {P : Type 0} (parties : List P) (number : ℕ) (after : P) (other : ℕ) (that : P) → number < length parties
    → other < length (set parties number after) → that ≡ get_or (set parties number after) other that
    → ((other ≡ number) × (that ≡ after)) ⊎ ((other < length parties) × (that ≡ get_or parties other that))
party_after parties number after other that within below is = elim (cases_eq other number) [
  | inl same ↦ inl (same, is ∙ ap (λ n. get_or (set parties number after) n that) same ∙ get_or-set_same parties number after that within)
  | inr apart ↦ inr (omega (arith, below, length-set parties number after), is ∙ get_or-set_other parties number other after that apart)
]

module _ {T : Type 0} (count : ℕ) (is_value : T → Type 0) (words : T → List ℕ) (are : List ℕ → Type 0) (of : List ℕ → Option T)
    (laws : AreWords count is_value words are of) (other : T) (size base : ℕ) where
  -- words of the type are those of the value that they give
  words_back : (list : List ℕ) → are list → words (or_else (of list) other) ≡ list
  words_back list is = let found = given (of list) (laws.forth list) is in rw (found.1.0) (found.1.1.2)

  -- what happened, with one event more
  told_more : (events : List (AtomicEvent size)) (event : Option (AtomicEvent size))
      → map (event_of of other) (events ++ option_to_list event) ≡ map (event_of of other) events ++ option_to_list (option_map (event_of of other) event)
  told_more events None = map-append (event_of of other) events []
  told_more events (Some event) = map-append (event_of of other) events _

  -- each reply says what its access did or saw
  typed_answers : (answer : Progress (AtomicReply size)) (event : Option (AtomicEvent size)) → AtomicAnswers answer event
      → TypedAnswers (answer_of of other answer) (option_map (event_of of other) event)
  typed_answers Going None says = tt
  typed_answers Going (Some event) says = absurd says
  typed_answers (Done (reply.Stored true)) None says = absurd says
  typed_answers (Done (reply.Stored true)) (Some (event.Stored list)) says = tt
  typed_answers (Done (reply.Stored true)) (Some (event.Loaded list)) says = absurd says
  typed_answers (Done (reply.Stored false)) None says = tt
  typed_answers (Done (reply.Stored false)) (Some event) says = absurd says
  typed_answers (Done (reply.Loaded list)) None says = absurd says
  typed_answers (Done (reply.Loaded list)) (Some (event.Stored told)) says = absurd says
  typed_answers (Done (reply.Loaded list)) (Some (event.Loaded told)) says = ap (λ l. or_else (of l) other) says

  module _ (old new : AtomicMachineState size) (number : ℕ) (answer : Progress (AtomicReply size)) (holds : AtomicsHold size old)
      (typed : AreOfType count are base old) (step : AtomicsStepped size old number answer new) where
    at : IsAtValue size holds.base old.words number step.party
    at = holds.parties number step.party step.is_party

    happened : Option (AtomicEvent size)
    happened = atomics_happen step.party (seen_in old (atomics_ask size step.party))

    base_is : holds.base ≡ base
    base_is = sym at.here ∙ typed.here number step.party step.is_party

    leads : LeadsOn size (value_now size base old.words) happened (value_now size base new.words)
    unfolding happened at
    leads =
        let makes = atomic_makes size holds.base old.words holds.room holds.memory holds.version step.party.program at.knows in
        subst (λ b. LeadsOn size (value_now size b old.words) happened (value_now size b new.words)) base_is
        (subst (λ (w : AtomicMachineState size). LeadsOn size (value_now size holds.base old.words) happened (value_now size holds.base w.words)) (sym step.leads_to)
        (rw (at.here) (makes.leads)))

    is_stored : (list : List ℕ) → happened ≡ Some (event.Stored list) → are list
    unfolding happened
    is_stored list is = typed.stores number step.party list step.is_party (stored_event size step.party.program _ list is)

    is_whole : (list : List ℕ) → are list → length list ≡ size
    is_whole list is = laws.counted list is ∙ typed.sized

    is_loaded : (list : List ℕ) → happened ≡ Some (event.Loaded list) → length list ≡ size
    unfolding happened
    is_loaded list is = loaded_event size holds.base old.words step.party.program _ list at.knows is

    -- the words of what is stored are the current ones then, and those of what is loaded were
    record Led (event : Option (AtomicEvent size)) : Type 0 where
      run : TypedRun (or_else (of (words_now size base old.words)) other) (option_to_list (option_map (event_of of other) event)) (or_else (of (words_now size base new.words)) other)
      current : are (words_now size base new.words)

    led : (event : Option (AtomicEvent size)) → happened ≡ event → LeadsOn size (value_now size base old.words) event (value_now size base new.words) → Led event
    led None is on =
        let same = same_words size (value_now size base new.words) (value_now size base old.words) on in
        record { run = ap (λ l. or_else (of l) other) same; current = subst are (sym same) typed.current }
    led (Some (event.Stored list)) is on =
        let stored = is_stored list is in
        let same = list_of size (value_now size base new.words) list (is_whole list stored) (λ k below. sym (on k below)) in
        record { run = ap (λ l. or_else (of l) other) (sym same); current = subst are same stored }
    led (Some (event.Loaded list)) is on =
        let same = same_words size (value_now size base new.words) (value_now size base old.words) on.1 in
        let got = list_of size (value_now size base old.words) list (is_loaded list is) on.0 in
        record {
          run = (ap (λ l. or_else (of l) other) got, ap (λ l. or_else (of l) other) same);
          current = subst are (sym same) typed.current;
        }

    answers : AtomicAnswers answer happened
    unfolding happened
    answers = rw (step.leads_on.3) (atomic_answers size step.party.program _)

    -- a load hands out the value that is current
    got : (list : List ℕ) → happened ≡ Some (event.Loaded list) → or_else (of list) other ≡ or_else (of (words_now size base old.words)) other
    got list is =
        let on = subst (λ e. LeadsOn size (value_now size base old.words) e (value_now size base new.words)) is leads in
        ap (λ l. or_else (of l) other) (list_of size (value_now size base old.words) list (is_loaded list is) on.0)

    -- the call of the party continues, or ends in a reply that tells of it
    goes : (call : ValueCall T) (what : Option (AtomicEvent size)) (next : Next (AtomicProgram size) (AtomicReply size)) (answer : Progress
        (AtomicReply size)) → IsCallOf is_value call
        → Tells size base (call_words words call) (record { found = old.words; event = what }) next → answer ≡ progress_of next
        → ((list : List ℕ) → what ≡ Some (event.Loaded list) → or_else (of list) other ≡ or_else (of (words_now size base old.words)) other)
        → (IsDoing (call_words words call) (program_of next) → IsInValueCall words is_value (shown of other base new) number call)
        → OnProgress (answer_of of other answer) ((option_map (event_of of other) what ≡ None) × IsInValueCall words is_value
        (shown of other base new) number call)
        (SaysOfValue (shown of other base old) call (option_map (event_of of other) what))
    goes call what (Goes program) answer known says_so says is_got on = rw (says) (rw (says_so.0) refl, on says_so.1)
    goes (Store value) what (Ends (reply.Stored true)) answer known says_so says is_got on = rw (says, says_so, laws.back value known) refl
    goes (Store value) what (Ends (reply.Stored false)) answer known says_so says is_got on = rw (says) (rw (says_so.0) refl, says_so.1)
    goes (Store value) what (Ends (reply.Loaded list)) answer known says_so says is_got on = absurd says_so
    goes Load what (Ends (reply.Loaded list)) answer known says_so says is_got on = rw (says) (rw (says_so) refl, is_got list says_so)
    goes Load what (Ends (reply.Stored true)) answer known says_so says is_got on = absurd says_so
    goes Load what (Ends (reply.Stored false)) answer known says_so says is_got on = absurd says_so

    call_of : (call : ValueCall T) → IsInValueCall words is_value (shown of other base old) number call
        → OnProgress (answer_of of other answer) ((option_map (event_of of other) happened ≡ None) × IsInValueCall words is_value
        (shown of other base new) number call)
        (SaysOfValue (shown of other base old) call (option_map (event_of of other) happened))
    unfolding happened
    call_of call is_in = goes call happened (atomic_next size step.party.program (seen_in old (atomics_ask size step.party))) answer is_in.known
        (subst (λ b. Tells size b (call_words words call) (record { found = old.words; event = happened }) (atomic_next size step.party.program (seen_in old
        (atomics_ask size step.party)))) base_is
        (tells size old holds number step.party step.after answer step.is_party step.leads_on (call_words words call) is_in.is_in))
        step.leads_on.3 got
        (λ doing. record {
          known = is_in.known;
          is_in = record {
            party = step.after;
            is_party = party_put old new number step.after (ap (λ (w : AtomicMachineState size). w.parties) step.leads_to) step.is_party.0;
            doing = rw (step.leads_on.2) doing;
          };
        })

    pub typed_event : IsTypedEvent words is_value (shown of other base old) number (answer_of of other answer) (shown of other base new)
    unfolding happened
    typed_event = record {
      event = option_map (event_of of other) happened;
      here = refl;
      call = call_of;
      others = λ another call apart was. record {
        known = was.known;
        is_in = record {
          party = was.is_in.party;
          is_party = party_stays old new number step.after (ap (λ
              (w : AtomicMachineState size). w.parties) step.leads_to) another was.is_in.party apart was.is_in.is_party;
          doing = was.is_in.doing;
        };
      };
      told = ap (λ (w : AtomicMachineState size). map (event_of of other) w.events) step.leads_to ∙ told_more old.events happened;
      run = (led happened refl leads).run;
      answers = typed_answers answer happened answers;
    }

    -- the answer has the words that were loaded
    words_answered : (answer : Progress (AtomicReply size)) (event : Option (AtomicEvent size)) → happened ≡ event → AtomicAnswers answer event
        → LeadsOn size (value_now size base old.words) event (value_now size base new.words) → answer_words words (answer_of of other answer) ≡ answer
    words_answered Going event is says on = refl
    words_answered (Done (reply.Stored done)) event is says on = refl
    words_answered (Done (reply.Loaded list)) None is says on = absurd says
    words_answered (Done (reply.Loaded list)) (Some (event.Stored told)) is says on = absurd says
    words_answered (Done (reply.Loaded list)) (Some (event.Loaded told)) is says on =
        let got = list_of size (value_now size base old.words) told (is_loaded told is) on.0 in
        ap (λ l. Done (reply.Loaded l)) (words_back list (subst are (sym got ∙ says) typed.current))

    pub typed_stepped : AtomicsStepped size old number (answer_words words (answer_of of other answer)) new
    typed_stepped = subst (λ a. AtomicsStepped size old number a new) (sym (words_answered answer happened refl answers leads)) step

    party_now : (other_number : ℕ) (that : AtomicParty size) → IsParty new other_number that
        → ((other_number ≡ number) × (that ≡ step.after)) ⊎ IsParty old other_number that
    party_now other_number that is =
        let is_new = subst (λ (w : AtomicMachineState size). IsParty w other_number that) step.leads_to is in
        elim (party_after old.parties number step.after other_number that step.is_party.0 is_new.0 is_new.1) [ inl this ↦ inl (this.0, this.1) | inr was ↦ inr (was.0, was.1) ]

    pub typed_kept : AreOfType count are base new
    typed_kept = record {
      sized = typed.sized;
      small = typed.small;
      current = (led happened refl leads).current;
      here = λ n that is. elim (party_now n that is) [
        | inl this ↦ ap (λ (p : AtomicParty size). p.base) this.1 ∙ step.leads_on.0 ∙ typed.here number step.party step.is_party
        | inr was ↦ typed.here n that was
      ];
      stores = λ n that list is to_store. elim (party_now n that is) [
        | inl this ↦ (let next = sym (ap (λ (p : AtomicParty size). stored_by p.program) this.1 ∙ ap stored_by step.leads_on.2) ∙ to_store in
            typed.stores number step.party list step.is_party (stored_next size step.party.program _ list next))
        | inr was ↦ typed.stores n that list was to_store
      ];
    }

  module _ (old new : AtomicMachineState size) (number : ℕ) (call : ValueCall T) (known : IsCallOf is_value call)
      (typed : AreOfType count are base old) (begun : AtomicsBegun size old number (call_words words call) new) where
    begun_party : (other_number : ℕ) (that : AtomicParty size) → IsParty new other_number that
        → ((other_number ≡ number) × (that ≡ begun.after)) ⊎ IsParty old other_number that
    begun_party other_number that is =
        let is_new = subst (λ (w : AtomicMachineState size). IsParty w other_number that) begun.leads_to is in
        elim (party_after old.parties number begun.after other_number that begun.is_party.0 is_new.0 is_new.1) [ inl this ↦ inl (this.0, this.1) | inr was ↦ inr (was.0, was.1) ]

    started_of : (call : ValueCall T) → IsCallOf is_value call → (list : List ℕ) → stored_by (Rattle.iox_set_steps.specs.AtomicPlays.atomic_start {size = size} (call_words words call)) ≡ Some list → are list
    started_of (Store value) known list is = (let same : words value ≡ list = cc in subst are same (laws.meets value known))
    started_of Load known list is = absurd (cc)

    begun_kept : AreOfType count are base new
    begun_kept = record {
      sized = typed.sized;
      small = typed.small;
      current = rw (begun.leads_to) typed.current;
      here = λ n that is. elim (begun_party n that is) [
        | inl this ↦ ap (λ (p : AtomicParty size). p.base) this.1 ∙ begun.begins_with.2 ∙ typed.here number begun.party begun.is_party
        | inr was ↦ typed.here n that was
      ];
      stores = λ n that list is to_store. elim (begun_party n that is) [
        | inl this ↦ started_of call known list (sym (ap (λ (p : AtomicParty size). stored_by p.program) this.1 ∙ ap stored_by begun.begins_with.4) ∙ to_store)
        | inr was ↦ typed.stores n that list was to_store
      ];
    }

  -- a begin begins its call
  begins_at : (old new : AtomicMachineState size) (number : ℕ) (call : ValueCall T) → AtomicsHold size old → IsCallOf is_value call
      → AtomicsBegun size old number (call_words words call) new
      → BeginsValueCall words is_value (shown of other base old) number call (shown of other base new)
  begins_at old new number call holds known begun = let begins = begin_of size old holds number (call_words words call) new begun in record {
    here = refl;
    value = ap (λ w. or_else (of (words_now size base w)) other) begins.words;
    events = ap (map (event_of of other)) begins.events;
    begun = record { known = known; is_in = begins.begun };
    others = λ another that apart was. record { known = was.known; is_in = begins.others another (call_words words that) apart was.is_in };
  }

  -- whatever it answers
  pub begins_typed : {A : Type 0} → (old new : AtomicMachineState size) (number : ℕ) (call : ValueCall T) (result : Result A MachineError) → AtomicsHold size old
      → IsCallOf is_value call
      → OnOk result (AtomicsBegun size old number (call_words words call) new)
      → OnOk result (BeginsValueCall words is_value (shown of other base old) number call (shown of other base new))
  begins_typed old new number call (Ok answer) holds known begun = begins_at old new number call holds known begun
  begins_typed old new number call (Err error) holds known begun = tt

  -- whatever a begin answers
  module _ {A : Type 0} (old new : AtomicMachineState size) (number : ℕ) (call : ValueCall T) where
    -- the value that is current, and those to be stored, are still of the type
    pub begin_kept : (result : Result A MachineError) → IsCallOf is_value call → AreOfType count are base old
        → OnOk result (AtomicsBegun size old number (call_words words call) new) → OnErr result (new ≡ old) → AreOfType count are base new
    begin_kept (Ok answer) known typed begun same = begun_kept old new number call known typed begun
    begin_kept (Err error) known typed begun same = subst (AreOfType count are base) (sym same) typed

  -- what is laid as words is the value that is current
  laid_now : (list old new : List ℕ) → length list ≡ size → AreLaid size base list old new → words_now size base new ≡ list
  laid_now list old new whole laid =
      sym (list_of size (value_now size base new) list whole (λ k below.
      let at : base + 1 + 0 + k ≡ base + 1 + k = omega arith in
      sym (rw (laid.version) (ap (λ place. get_or new place 0) at ∙ laid.value k below))))

  module _ (value : T) (known : is_value value) (sized : count ≡ size) (old new : List ℕ) (laid : AreLaid size base (words value) old new) where
    current : words_now size base new ≡ words value
    current = laid_now (words value) old new (laws.counted (words value) (laws.meets value known) ∙ sized) laid

    new_value : or_else (of (words_now size base new)) other ≡ value
    new_value = rw (current, laws.back value known) refl

    pub new_of_type : (parties : ℕ) (machine : AtomicMachineState size) → size < 2 ^ 56 → IsNewAtomic new base parties machine → AreOfType count are base machine
    new_of_type parties machine small is_new = record {
      sized = sized;
      small = small;
      current = rw (is_new.0, current) (laws.meets value known);
      here = λ number party is. (is_new.2.1 number party is.0 is.1).0;
      stores = λ number party list is to_store. absurd (let none = sym (ap stored_by (is_new.2.1 number party is.0 is.1).2) ∙ to_store in cc);
    }

    pub new_machine : (parties : ℕ) (machine : AtomicMachineState size) → IsNewAtomic new base parties machine
        → IsNewValue words value base parties old (shown of other base machine)
    new_machine parties machine is_new = record {
      is = rw (is_new.0) new_value;
      none = rw (is_new.1) refl;
      laid = rw (is_new.0) laid;
      parties = is_new.2;
    }
