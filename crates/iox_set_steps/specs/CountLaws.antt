-- The laws of parties at counts.
use Rattle.std.specs.Prelude.{Ok, None}
use Rattle.std.specs.Option.{option_to_list}
use Rattle.std.proofs.Common.{◌≡◌, ℕ, ◌+◌, ◌-◌, ◌≤◌, ◌^◌, false, length, min, ltb, refl, inl, inr, arith}
use Rattle.std.proofs.lemmas.Bool.{cases_eq, cases_lt, cases_Bool, lt-ltb, le-ltb, eq-eqb, ne_eqb}
use Rattle.iox_steps.specs.declared.access.Progress.{Progress}
use Rattle.iox_steps.specs.Accesses.{IsWithin}
use Rattle.iox_steps.specs.MachineStates.{IsParty, with_party, seen_in, after_access}
use Rattle.iox_set_steps.specs.declared.counting_bit_set.CountSite.{CountSite}
use Rattle.iox_set_steps.specs.declared.counting_bit_set.CountCall.{CountCall}
use Rattle.iox_set_steps.specs.declared.counting_bit_set.CountCall.TheVariants as call
use Rattle.iox_set_steps.specs.declared.counting_bit_set.CountReply.{CountReply}
use Rattle.iox_set_steps.specs.declared.counting_bit_set.CountProgram.{CountProgram}
use Rattle.iox_set_steps.specs.declared.counting_bit_set.CountProgram.TheVariants.{AtRest, Replies, Loads, Exchanges, Takes}
use Rattle.iox_set_steps.specs.declared.counting_bit_set.party.CountParty.{CountParty}
use Rattle.iox_set_steps.specs.Counts.{max_count, times_added}
use Rattle.iox_set_steps.specs.CountPrograms.{count_event, count_next, count_start, adds_to, taken_behind, progress_of}
use Rattle.iox_set_steps.specs.CountPlays.{CountMachineState, CountAnswers, count_kind, counts_ask, counts_happen, counts_rest, CountsLead, CountsBegin, CountsKnow, CountsHold}
use Rattle.iox_set_steps.specs.CountEvents.{count_access_within, count_makes_up, count_words_stay, count_next_knows}
use Rattle.iox_set_steps.specs.SitedLaws.{Laws, stay_in, keep, start}

-- no access adds to a count past the capacity
none_past : (site : CountSite) (id : ℕ) (program : CountProgram) (seen : ℕ) → CountsKnow site program → site.capacity ≤ id
    → times_added id (option_to_list (count_event program seen)) ≡ 0
none_past site id AtRest seen knows past = refl
none_past site id (Replies reply) seen knows past = refl
none_past site id (Loads bit) seen knows past = refl
none_past site id (Exchanges bit count) seen knows past = elim (cases_eq seen count) [
  | inl hit ↦ rw (eq-eqb _ _ hit, ne_eqb id bit (omega arith)) refl
  | inr miss ↦ rw (ne_eqb _ _ miss) refl
]
none_past site id (Takes bit) seen knows past = elim (cases_eq seen 0) [
  | inl none ↦ rw (eq-eqb _ _ none) refl
  | inr some ↦ rw (ne_eqb _ _ some) refl
]

-- the first access of each call names a bit of the site
pub start_knows : (site : CountSite) (call : CountCall) → CountsKnow site (count_start site call)
start_knows site (call.Set id) = elim (cases_lt id site.capacity) [ inl below ↦ rw (lt-ltb _ _ below) below | inr past ↦ rw (le-ltb _ _ past) tt ]
start_knows site call.ResetAll = elim (cases_eq site.capacity 0) [ inl none ↦ rw (eq-eqb _ _ none) tt | inr some ↦ rw (ne_eqb _ _ some) (omega arith) ]

-- the answer after a count was seen agrees with an access that did nothing
add_answers : (id seen : ℕ) → CountAnswers (progress_of (adds_to id seen)) None
add_answers id seen = elim (cases_eq seen max_count) [ inl full ↦ rw (eq-eqb seen max_count full) tt | inr room ↦ rw (ne_eqb seen max_count room) tt ]

-- the answer after a count was taken out agrees with the event
take_answers : (site : CountSite) (id seen : ℕ) → CountAnswers (progress_of (taken_behind site id)) (count_event (Takes id) seen)
take_answers site id seen = elim (cases_eq seen 0) [
  | inl none ↦ rw (eq-eqb _ _ none) (elim (cases_Bool (ltb (min (id + 1) (2 ^ 64 - 1)) site.capacity)) [ inl more ↦ rw more tt | inr last ↦ rw last tt ])
  | inr some ↦ rw (ne_eqb _ _ some) (elim (cases_Bool (ltb (min (id + 1) (2 ^ 64 - 1)) site.capacity)) [ inl more ↦ rw more (omega arith) | inr last ↦ rw last (omega arith) ])
]

-- each answer agrees with the event of its access
count_answers : (site : CountSite) (program : CountProgram) (seen : ℕ) → CountsKnow site program → CountAnswers (progress_of (count_next site program seen)) (count_event program seen)
count_answers site AtRest seen knows = tt
count_answers site (Replies reply) seen knows = knows
count_answers site (Loads id) seen knows = add_answers id seen
count_answers site (Exchanges id count) seen knows = elim (cases_eq seen count) [ inl hit ↦ rw (eq-eqb _ _ hit) tt | inr miss ↦ rw (ne_eqb _ _ miss) (add_answers id seen) ]
count_answers site (Takes id) seen knows = take_answers site id seen

-- parties at counts keep the laws of parties at a site
pub count_laws : Laws count_kind
count_laws = record {
  is_whole = λ party. refl;
  rests = refl;
  stays_at_rest = λ site seen. refl;
  within = λ site words program have knows. count_access_within site words have.room have.memory program knows;
  makes_up = λ site words program id have knows. count_makes_up site words have.room have.memory program knows id;
  words_stay = λ site words program have. count_words_stay site words have.room have.memory program have.small;
  next_knows = λ site words program have knows. count_next_knows site words have.room have.memory program have.small knows;
  none_past = none_past;
  start_knows = start_knows;
  answers = count_answers;
}

-- the access of each party names a word that exists
pub counts_stay_in : (machine : CountMachineState) (number : ℕ) (party : CountParty) → CountsHold machine → IsParty machine number party
    → IsWithin 0 (length machine.words) (counts_ask party)
counts_stay_in = stay_in count_kind count_laws

-- each access of a party whose call is under way keeps the invariant
pub counts_keep : (machine : CountMachineState) (number : ℕ) (party after : CountParty) (answer : Progress CountReply) → CountsHold machine
    → IsParty machine number party → counts_rest party ≡ false
    → CountsLead party (seen_in machine (counts_ask party)) answer after
    → CountsHold (after_access machine number (counts_ask party) after (counts_happen party (seen_in machine (counts_ask party))))
counts_keep = keep count_kind count_laws

-- each begin of a call keeps the invariant
pub counts_start : (machine : CountMachineState) (number : ℕ) (call : CountCall) (party after : CountParty) → CountsHold machine
    → IsParty machine number party → CountsBegin party call (Ok after)
    → CountsHold (with_party machine number after)
counts_start = start count_kind count_laws
