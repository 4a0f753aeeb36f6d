-- A step of a machine of parties at a site is one event there, and a schedule is played entry by entry.
use Rattle.std.proofs.Common.{◌≡◌, ℕ, get_or, List, [], ◌∷◌, Option, refl, ap, sym, subst, ◌∙◌, Result, Ok, Err, IfOk, OnOk, OnErr}
use Rattle.std.proofs.lemmas.List.{get_or_default}
use Rattle.iox_steps.specs.declared.access.Next.{Next}
use Rattle.iox_steps.specs.declared.access.Next.TheVariants.{Goes, Ends}
use Rattle.iox_steps.specs.declared.access.Progress.{Progress}
use Rattle.iox_steps.specs.declared.error.MachineError.{MachineError}
use Rattle.iox_steps.specs.declared.machine.Entry.{Entry}
use Rattle.std.specs.Option.{option_to_list}
use Rattle.iox_steps.specs.Accesses.{place_of, words_after}
use Rattle.iox_steps.specs.MachineStates.{MachineState, IsParty, with_party, seen_in, after_access}
use Rattle.iox_steps.specs.Answers.{OnProgress}
use Rattle.iox_steps.proofs.AccessLemmas.{reads_after, word_after-other, length-words_after}
use Rattle.iox_set_steps.specs.Turns.{Turn}
use Rattle.iox_set_steps.specs.Kinds.{Kind, Calls, Tells, goes_to, progress_by, asks, happens, party_rests, next_of, Leads, Begins, MakesUp, IsAt, HoldsAt}
use Rattle.iox_set_steps.specs.Sites.{StayAtSites}
use Rattle.iox_set_steps.specs.SitedLaws.{Laws, seen_of_program, have_of, knows_of, stay_in_at, keep_at, start_at}
use Rattle.iox_set_steps.specs.SitedMachines.{Sited, KindStepped, KindBegun, AllKindEntered, IsInCall, IsEvent, BeginsCall, PlaySited, party_at, sited_answer, sited_begun, sited_stepped}
use Rattle.iox_set_steps.proofs.HoldLemmas.{stepped_holds, begun_holds, all_entered_hold, all_played, party_put, party_stays, same_party}
use Rattle.iox_set_steps.proofs.SiteLemmas.{all_entered_stay}
use Rattle.iox_set_steps.proofs.SitedTellLemmas.{Telling}

-- What holds after each step, each begin and each schedule.
module _ {S G P C R E : Type 0} (kind : Kind S G P C R E) (laws : Laws kind) (site : S) where
  pub stepped_hold : (old : MachineState P E) (number : ℕ) (answer : Progress R) (new : MachineState P E) → HoldsAt kind site old
      → KindStepped kind old number answer new → HoldsAt kind site new
  stepped_hold = stepped_holds (asks kind) (Leads kind) (happens kind) (party_rests kind) (Begins kind) (HoldsAt kind site)
      (keep_at kind laws site) (start_at kind laws site)

  pub begun_hold : (old : MachineState P E) (number : ℕ) (call : C) (new : MachineState P E) → HoldsAt kind site old → KindBegun kind old number call new
      → HoldsAt kind site new
  begun_hold = begun_holds (asks kind) (Leads kind) (happens kind) (party_rests kind) (Begins kind) (HoldsAt kind site)
      (keep_at kind laws site) (start_at kind laws site)

  pub entered_hold : (old : MachineState P E) (entries : List (Entry C)) (new : MachineState P E) → HoldsAt kind site old → AllKindEntered kind old entries new
      → HoldsAt kind site new
  entered_hold = all_entered_hold (asks kind) (Leads kind) (happens kind) (party_rests kind) (Begins kind) (HoldsAt kind site)
      (keep_at kind laws site) (start_at kind laws site)

  -- whatever they answer
  pub hold_after_step : (old new : MachineState P E) (number : ℕ) (result : Result (Progress R) MachineError) → HoldsAt kind site old
      → IfOk result (λ answer. KindStepped kind old number answer new)
      → OnErr result (new ≡ old) → HoldsAt kind site new
  hold_after_step old new number (Ok answer) holds step same = stepped_hold old number answer new holds step
  hold_after_step old new number (Err error) holds step same = subst (HoldsAt kind site) (sym same) holds

  pub hold_after_begin : {A : Type 0} → (old new : MachineState P E) (number : ℕ) (call : C) (result : Result A MachineError)
      → HoldsAt kind site old → OnOk result (KindBegun kind old number call new)
      → OnErr result (new ≡ old) → HoldsAt kind site new
  hold_after_begin old new number call (Ok answer) holds begun same = begun_hold old number call new holds begun
  hold_after_begin old new number call (Err error) holds begun same = subst (HoldsAt kind site) (sym same) holds

-- and no party leaves its site
pub sites_stay : {S G P C R E : Type 0} (kind : Kind S G P C R E) (old : MachineState P E) (entries : List (Entry C)) (new : MachineState P E)
    → AllKindEntered kind old entries new → StayAtSites kind.site_of old new
sites_stay kind = all_entered_stay (asks kind) (Leads kind) (happens kind) (party_rests kind) (Begins kind) kind.site_of
    (λ party seen answer after leads. leads.0) (λ party call after begins. begins.1)

module _ {S G P C R E : Type 0} (kind : Kind S G P C R E) (laws : Laws kind) (calls : Calls S G C R E) (telling : Telling kind calls) (site : S) where
  abbrev at_site : MachineState P E → Sited S P E
  at_site machine = record { site = site; machine = machine }

  -- the call of a party continues, or ends in a reply that tells of it
  call_goes : (new : MachineState P E) (number : ℕ) (call : C) (earlier : List (Turn E)) (turn : Turn E) (next : Next G R)
      (answer : Progress R) (after : P)
      → IsParty new number after → kind.site_of after ≡ site → kind.program_of after ≡ goes_to kind.at_rest next → answer ≡ progress_by next
      → Tells calls site call earlier turn next
      → OnProgress answer (calls.GoesOn site call turn × IsInCall kind calls (at_site new) number call (turn ∷ earlier)) (calls.Says site call earlier turn)
  call_goes new number call earlier turn (Goes program) answer after is stands at says tells =
      rw (says) (tells.0, record { party = after; is_party = is; here = stands; doing = subst (calls.IsDoing site call (turn ∷ earlier)) (sym at) tells.1 })
  call_goes new number call earlier turn (Ends reply) answer after is stands at says tells = rw (says) tells

  -- a party of another number is in the call that it was in
  others_stay : (old new : MachineState P E) (number : ℕ) (after : P) → new.parties ≡ (with_party old number after).parties
      → (other : ℕ) (call : C) (earlier : List (Turn E)) → (other ≡ number → ⊥)
      → IsInCall kind calls (at_site old) other call earlier → IsInCall kind calls (at_site new) other call earlier
  others_stay old new number after put other call earlier apart was = record {
    party = was.party;
    is_party = party_stays old new number after put other was.party apart was.is_party;
    here = was.here;
    doing = was.doing;
  }

  module _ (old : MachineState P E) (holds : HoldsAt kind site old) where
    module _ (number : ℕ) (party after : P) (answer : Progress R) (is : IsParty old number party)
        (leads : Leads kind party (seen_in old (asks kind party)) answer after) where
      known : IsAt kind site party
      known = knows_of kind laws site old number party holds is

      abbrev event : Option E
      event = happens kind party (seen_in old (asks kind party))

      abbrev left : MachineState P E
      left = after_access old number (asks kind party) after event

      tells : (call : C) (earlier : List (Turn E)) → IsInCall kind calls (at_site old) number call earlier
          → Tells calls site call earlier (record { found = old.words; event = event }) (next_of kind party (seen_in old (asks kind party)))
      tells call earlier is_in =
          let same = same_party old number party is_in.party is is_in.is_party in
          let doing = subst (λ (p : P). calls.IsDoing site call earlier (kind.program_of p)) same is_in.doing in
          let program = kind.program_of party in
          subst (λ s. let seen = seen_of_program kind s program old.words in
          Tells calls site call earlier (record { found = old.words; event = kind.event program seen }) (kind.next s program seen))
          (sym known.0)
          (telling.tells site old.words (have_of kind laws site old holds) call earlier program known.1 doing)

      event_at : IsEvent kind calls (at_site old) number answer (at_site left)
      event_at = record {
        event = event;
        here = refl;
        told = refl;
        amounts = λ id. let program = kind.program_of party in
            subst (λ s. MakesUp kind id (kind.now site old.words id)
            (option_to_list (kind.event program (seen_of_program kind s program old.words)))
            (kind.now site (words_after (kind.access s program) old.words) id)) (sym known.0)
            (laws.makes_up site old.words program id (have_of kind laws site old holds) known.1);
        answers = subst (λ (a : Progress R). kind.Answers a event) (sym leads.2)
            (laws.answers (kind.site_of party) (kind.program_of party) (seen_in old (asks kind party))
            (subst (λ s. kind.Knows s (kind.program_of party)) (sym known.0) known.1));
        call = λ call earlier is_in. call_goes left number call earlier (record { found = old.words; event = event })
            _ answer after (party_put old left number after refl is.0) (leads.0 ∙ known.0) leads.1 leads.2 (tells call earlier is_in);
        others = others_stay old left number after refl;
        length_stays = length-words_after (asks kind party) old.words;
        one_word = (
          place_of (asks kind party),
          λ other apart. reads_after (asks kind party) old.words (stay_in_at kind laws site old number party holds is) other
              ∙ word_after-other (asks kind party) (λ place. get_or old.words place 0) other apart,
        );
      }

    event_of : (number : ℕ) (answer : Progress R) (new : MachineState P E) → KindStepped kind old number answer new
        → IsEvent kind calls (at_site old) number answer (at_site new)
    event_of number answer new step =
        subst (λ (w : MachineState P E). IsEvent kind calls (at_site old) number answer (at_site w)) (sym step.leads_to)
        (event_at number step.party step.after answer step.is_party step.leads_on)

    -- a begin begins its call
    begin_at : (number : ℕ) (call : C) (party after : P) → IsParty old number party → Begins kind party call (Ok after)
        → BeginsCall kind calls (at_site old) number call (at_site (with_party old number after))
    begin_at number call party after is begins = let known = knows_of kind laws site old number party holds is in record {
      here = refl;
      words = refl;
      events = refl;
      begun = record {
        party = after;
        is_party = party_put old (with_party old number after) number after refl is.0;
        here = begins.1 ∙ known.0;
        doing = subst (calls.IsDoing site call []) (sym begins.2)
            (subst (λ s. calls.IsDoing site call [] (kind.start s call)) (sym known.0) (telling.start_doing site call));
      };
      others = others_stay old (with_party old number after) number after refl;
    }

    begin_of : (number : ℕ) (call : C) (new : MachineState P E) → KindBegun kind old number call new
        → BeginsCall kind calls (at_site old) number call (at_site new)
    begin_of number call new begun =
        subst (λ (w : MachineState P E). BeginsCall kind calls (at_site old) number call (at_site w)) (sym begun.leads_to)
        (begin_at number call begun.party begun.after begun.is_party begun.begins_with)

    -- whatever the step or the begin answers
    pub events_of : (number : ℕ) (new : MachineState P E) (result : Result (Progress R) MachineError)
        → IfOk result (λ answer. KindStepped kind old number answer new)
        → IfOk result (λ answer. IsEvent kind calls (at_site old) number answer (at_site new))
    events_of number new (Ok answer) step = event_of number answer new step
    events_of number new (Err error) step = tt

    pub begins_of : {A : Type 0} → (number : ℕ) (call : C) (new : MachineState P E) (result : Result A MachineError)
        → OnOk result (KindBegun kind old number call new)
        → OnOk result (BeginsCall kind calls (at_site old) number call (at_site new))
    begins_of number call new (Ok answer) begun = begin_of number call new begun
    begins_of number call new (Err error) begun = tt

  -- and a schedule is played entry by entry
  pub sited_play : (old : MachineState P E) (entries : List (Entry C)) (new : MachineState P E) → HoldsAt kind site old → AllKindEntered kind old entries new
      → PlaySited kind calls (at_site old) entries (at_site new)
  sited_play = all_played (asks kind) (Leads kind) (happens kind) (party_rests kind) (Begins kind) (HoldsAt kind site)
      (keep_at kind laws site) (start_at kind laws site) at_site (BeginsCall kind calls) (IsEvent kind calls)
      (λ old number call new holds begun. begin_of old holds number call new begun)
      (λ old number answer new holds step. event_of old holds number answer new step)

  -- to its end, where it comes to that
  pub sited_play_whole : {A : Type 0} → (old : MachineState P E) (entries : List (Entry C)) (new : MachineState P E) (result : Result A MachineError)
      → HoldsAt kind site old
      → OnOk result (AllKindEntered kind old entries new) → OnOk result (PlaySited kind calls (at_site old) entries (at_site new))
  sited_play_whole old entries new (Ok answer) holds entered = sited_play old entries new holds entered
  sited_play_whole old entries new (Err error) holds entered = tt

-- What a step and a begin compute.
module _ {S G P C R E : Type 0} (kind : Kind S G P C R E) (laws : Laws kind) (site : S) (old new : MachineState P E) (number : ℕ)
    (holds : HoldsAt kind site old) where
  abbrev at : MachineState P E → Sited S P E
  at machine = record { site = site; machine = machine }

  abbrev before : Sited S P E
  before = at old

  abbrev now : Sited S P E
  now = at new

  -- a party is its site and its program
  party_is : (party : P) (program : G) → kind.site_of party ≡ site → kind.program_of party ≡ program → party ≡ kind.party_of site program
  party_is party program stands goes =
      laws.is_whole party ∙ ap (λ s. kind.party_of s (kind.program_of party)) stands ∙ ap (kind.party_of site) goes

  at_is : (party : P) → IsParty old number party → party_at kind before number ≡ party
  at_is party is = get_or_default old.parties number _ party is.0 ∙ sym is.1

  -- what a step computes, where the party of the number is this one
  abbrev stepped_by : P → Sited S P E
  stepped_by party = let seen = seen_in old (asks kind party) in at (after_access old number (asks kind party)
      (kind.party_of site (goes_to kind.at_rest (kind.next site (kind.program_of party) seen))) (happens kind party seen))

  step_is : (answer : Progress R) → KindStepped kind old number answer new
      → (now ≡ sited_stepped kind before number) × (answer ≡ sited_answer kind before number)
  step_is answer step =
      let party = step.party in
      let seen = seen_in old (asks kind party) in
      let stands = (knows_of kind laws site old number party holds step.is_party).0 in
      let after = party_is step.after (goes_to kind.at_rest (kind.next site (kind.program_of party) seen)) (step.leads_on.0 ∙ stands)
      (step.leads_on.1 ∙ ap (λ s. goes_to kind.at_rest (kind.next s (kind.program_of party) seen)) stands) in (
        subst (λ (p : P). now ≡ stepped_by p) (sym (at_is party step.is_party))
            (ap at step.leads_to
            ∙ ap (λ p. at (after_access old number (asks kind party) p (happens kind party seen))) after),
        subst (λ (p : P). answer ≡ progress_by (kind.next site (kind.program_of p) (seen_in old (asks kind p))))
            (sym (at_is party step.is_party))
            (step.leads_on.2 ∙ ap (λ s. progress_by (kind.next s (kind.program_of party) seen)) stands),
      )

  begin_is : (call : C) → KindBegun kind old number call new → now ≡ sited_begun kind before number call
  begin_is call begun =
      let stands = (knows_of kind laws site old number begun.party holds begun.is_party).0 in
      let after = party_is begun.after (kind.start site call) (begun.begins_with.1 ∙ stands)
      (begun.begins_with.2 ∙ ap (λ s. kind.start s call) stands) in
      ap at begun.leads_to
      ∙ ap (λ p. at (with_party old number p)) after

  pub steps_are : (result : Result (Progress R) MachineError) → IfOk result (λ answer. KindStepped kind old number answer new)
      → OnOk result (now ≡ sited_stepped kind before number)
  steps_are (Ok answer) step = (step_is answer step).0
  steps_are (Err error) step = tt

  pub answers_are : (result : Result (Progress R) MachineError) → IfOk result (λ answer. KindStepped kind old number answer new)
      → IfOk result (λ answer. answer ≡ sited_answer kind before number)
  answers_are (Ok answer) step = (step_is answer step).1
  answers_are (Err error) step = tt

  pub begins_are : {A : Type 0} → (call : C) (result : Result A MachineError) → OnOk result (KindBegun kind old number call new)
      → OnOk result (now ≡ sited_begun kind before number call)
  begins_are call (Ok answer) begun = begin_is call begun
  begins_are call (Err error) begun = tt
