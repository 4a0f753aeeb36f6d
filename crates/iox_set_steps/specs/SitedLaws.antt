-- The laws of parties at a site, from what each access of their kind keeps.
use Rattle.std.specs.Prelude.{List, Ok, All}
use Rattle.std.specs.Option.{option_to_list}
use Rattle.std.proofs.Common.{◌≡◌, ℕ, true, false, ◌+◌, ◌<◌, ◌≤◌, ◌^◌, ◌++◌, length, lit≤, get_or, sym, ◌∙◌, subst, inl, inr, arith}
use Rattle.std.proofs.lemmas.Bool.{cases_lt}
use Rattle.std.proofs.lemmas.List.{get_or_past}
use Rattle.std.proofs.lemmas.List.Sums.{sum_by-append}
use Rattle.std.proofs.lemmas.List.Elements.{All-get_or, All-set}
use Rattle.iox_steps.specs.declared.access.Next.TheVariants.{Goes}
use Rattle.iox_steps.specs.declared.access.Progress.{Progress}
use Rattle.iox_steps.specs.Accesses.{seen_by, words_after, IsWithin}
use Rattle.iox_steps.specs.MachineStates.{MachineState, IsParty, with_party, seen_in, after_access}
use Rattle.iox_steps.proofs.AccessLemmas.{length-words_after}
use Rattle.iox_set_steps.specs.Kinds.{Kind, goes_to, progress_by, asks, happens, party_rests, Leads, Begins, all_brought, all_taken, MakesUp, IsAt, HoldsAt, Hold, HaveSite}

-- each of these words is below 2 ^ 64, and 0 stands for those past the end
pub word_below : (words : List ℕ) (place : ℕ) → All (λ word. word < 2 ^ 64) words → get_or words place 0 < 2 ^ 64
word_below words place bounded = elim (cases_lt place (length words)) [
  | inl inside ↦ All-get_or (λ word. word < 2 ^ 64) words place 0 inside bounded
  | inr past ↦ rw (get_or_past words place 0 past) (lit≤ tt)
]

module _ {S G P C R E : Type 0} (kind : Kind S G P C R E) where
  -- what the next access of a program sees in these words
  abbrev pub seen_of_program : S → G → List ℕ → ℕ
  seen_of_program site program words = seen_by (kind.access site program) (λ place. get_or words place 0)

  -- What each access and each start of a kind has to keep.
  pub record Laws : Type 0 where
    -- a party is its site and its program, and is at rest where its program is
    pub is_whole : (party : P) → party ≡ kind.party_of (kind.site_of party) (kind.program_of party)
    pub rests : kind.rests kind.at_rest ≡ true
    pub stays_at_rest : (site : S) (seen : ℕ) → kind.next site kind.at_rest seen ≡ Goes kind.at_rest
    -- an access names a word that exists, its event says what it did, and its party's next program
    -- is sound
    pub within : (site : S) (words : List ℕ) (program : G) → HaveSite kind site words → kind.Knows site program
        → IsWithin 0 (length words) (kind.access site program)
    pub makes_up : (site : S) (words : List ℕ) (program : G) (id : ℕ) → HaveSite kind site words → kind.Knows site program
        → MakesUp kind id (kind.now site words id) (option_to_list (kind.event program (seen_of_program site program words)))
        (kind.now site (words_after (kind.access site program) words) id)
    pub words_stay : (site : S) (words : List ℕ) (program : G) → HaveSite kind site words
        → All (λ word. word < 2 ^ 64) (words_after (kind.access site program) words)
    pub next_knows : (site : S) (words : List ℕ) (program : G) → HaveSite kind site words → kind.Knows site program
        → kind.Knows site (goes_to kind.at_rest (kind.next site program (seen_of_program site program words)))
    -- nothing is brought past the capacity
    pub none_past : (site : S) (id : ℕ) (program : G) (seen : ℕ) → kind.Knows site program → kind.capacity site ≤ id
        → all_brought kind id (option_to_list (kind.event program seen)) ≡ 0
    -- the first access of each call is sound
    pub start_knows : (site : S) (call : C) → kind.Knows site (kind.start site call)
    -- each answer agrees with the event of its access
    pub answers : (site : S) (program : G) (seen : ℕ) → kind.Knows site program
        → kind.Answers (progress_by (kind.next site program seen)) (kind.event program seen)

module _ {S G P C R E : Type 0} (kind : Kind S G P C R E) (laws : Laws kind) where
  -- what holds of the words of such a machine
  pub have_of : (site : S) (machine : MachineState P E) → HoldsAt kind site machine → HaveSite kind site machine.words
  have_of site machine holds = record { room = holds.room; memory = holds.memory; small = holds.words }

  -- each party of such a machine is at the site, and what its program relies on holds
  pub knows_of : (site : S) (machine : MachineState P E) (number : ℕ) (party : P) → HoldsAt kind site machine → IsParty machine number party
      → IsAt kind site party
  knows_of site machine number party holds is =
      subst (IsAt kind site) (sym is.1) (All-get_or (IsAt kind site) machine.parties number party is.0 holds.parties)

  -- the access of each party names a word that exists
  pub stay_in_at : (site : S) (machine : MachineState P E) (number : ℕ) (party : P) → HoldsAt kind site machine → IsParty machine number party
      → IsWithin 0 (length machine.words) (asks kind party)
  stay_in_at site machine number party holds is =
      let known = knows_of site machine number party holds is in
      subst (λ s. IsWithin 0 (length machine.words) (kind.access s (kind.program_of party))) (sym known.0)
      (laws.within site machine.words (kind.program_of party) (have_of site machine holds) known.1)

  -- the access of each party names a word that exists
  pub stay_in : (machine : MachineState P E) (number : ℕ) (party : P) → Hold kind machine → IsParty machine number party
      → IsWithin 0 (length machine.words) (asks kind party)
  stay_in machine number party holds is = stay_in_at holds.0 machine number party holds.1 is

  -- after an access as much was brought as was taken out and is there now
  conserved_more : (site : S) (words : List ℕ) (events : List E) (id : ℕ) (program : G) → HaveSite kind site words
      → kind.Knows site program → all_brought kind id events ≡ all_taken kind id events + kind.now site words id
      → let more = option_to_list (kind.event program (seen_of_program kind site program words)) in
      all_brought kind id (events ++ more)
      ≡ all_taken kind id (events ++ more) + kind.now site (words_after (kind.access site program) words) id
  conserved_more site words events id program have knows conserved =
      let more = option_to_list (kind.event program (seen_of_program kind site program words)) in
      let up = laws.makes_up site words program id have knows in
      omega (arith, sum_by-append (kind.brought id) events more, sum_by-append (kind.taken id) events more)

  -- after an access still nothing was brought to a number past the capacity
  inside_more : (site : S) (events : List E) (id : ℕ) (program : G) (seen : ℕ) → kind.Knows site program → kind.capacity site ≤ id
      → all_brought kind id events ≡ 0 → all_brought kind id (events ++ option_to_list (kind.event program seen)) ≡ 0
  inside_more site events id program seen knows past none =
      let more = laws.none_past site id program seen knows past in
      sum_by-append (kind.brought id) events (option_to_list (kind.event program seen)) ∙ omega arith

  -- each access of a party whose call is under way keeps what holds at the site
  pub keep_at : (site : S) (machine : MachineState P E) (number : ℕ) (party after : P) (answer : Progress R) → HoldsAt kind site machine
      → IsParty machine number party → party_rests kind party ≡ false
      → Leads kind party (seen_in machine (asks kind party)) answer after
      → HoldsAt kind site (after_access machine number (asks kind party) after (happens kind party (seen_in machine (asks kind party))))
  keep_at site machine number party after answer holds is awake leads =
      let known = knows_of site machine number party holds is in
      let have = have_of site machine holds in
      let program = kind.program_of party in
      record {
        conserved = λ id. subst (λ s. let more = option_to_list (kind.event program (seen_of_program kind s program machine.words)) in
            all_brought kind id (machine.events ++ more)
            ≡ all_taken kind id (machine.events ++ more) + kind.now site (words_after (kind.access s program) machine.words) id) (sym known.0)
            (conserved_more site machine.words machine.events id program have known.1 (holds.conserved id));
        inside = λ id past. inside_more site machine.events id program (seen_in machine (asks kind party)) known.1 past (holds.inside id past);
        room = simp length-words_after (holds.room);
        memory = simp length-words_after (holds.memory);
        words = subst (λ s. All (λ word. word < 2 ^ 64) (words_after (kind.access s program) machine.words)) (sym known.0)
            (laws.words_stay site machine.words program have);
        parties = All-set (IsAt kind site) machine.parties number after (
          leads.0 ∙ known.0,
          subst (kind.Knows site) (sym leads.1)
              (subst (λ s. kind.Knows site (goes_to kind.at_rest (kind.next s program (seen_of_program kind s program machine.words))))
              (sym known.0) (laws.next_knows site machine.words program have known.1)),
        ) holds.parties;
      }

  -- each access of a party whose call is under way keeps the invariant
  pub keep : (machine : MachineState P E) (number : ℕ) (party after : P) (answer : Progress R) → Hold kind machine
      → IsParty machine number party → party_rests kind party ≡ false
      → Leads kind party (seen_in machine (asks kind party)) answer after
      → Hold kind (after_access machine number (asks kind party) after (happens kind party (seen_in machine (asks kind party))))
  keep machine number party after answer holds is awake leads =
      (holds.0, keep_at holds.0 machine number party after answer holds.1 is awake leads)

  -- each begin of a call keeps what holds at the site
  pub start_at : (site : S) (machine : MachineState P E) (number : ℕ) (call : C) (party after : P) → HoldsAt kind site machine
      → IsParty machine number party → Begins kind party call (Ok after)
      → HoldsAt kind site (with_party machine number after)
  start_at site machine number call party after holds is begins =
      let known = knows_of site machine number party holds is in
      record {
        conserved = holds.conserved;
        inside = holds.inside;
        room = holds.room;
        memory = holds.memory;
        words = holds.words;
        parties = All-set (IsAt kind site) machine.parties number after
            (begins.1 ∙ known.0, rw (begins.2, known.0) (laws.start_knows site call)) holds.parties;
      }

  -- each begin of a call keeps the invariant
  pub start : (machine : MachineState P E) (number : ℕ) (call : C) (party after : P) → Hold kind machine → IsParty machine number party
      → Begins kind party call (Ok after)
      → Hold kind (with_party machine number after)
  start machine number call party after holds is begins =
      (holds.0, start_at holds.0 machine number call party after holds.1 is begins)
