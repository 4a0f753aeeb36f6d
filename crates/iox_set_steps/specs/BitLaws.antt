-- The laws of parties at bits.
use Rattle.std.specs.Prelude.{Ok}
use Rattle.std.specs.Option.{option_to_list}
use Rattle.std.specs.Int.{bit_at}
use Rattle.std.proofs.Common.{◌≡◌, ℕ, ◌+◌, ◌-◌, ◌%◌, ◌≤◌, ◌^◌, false, length, min, ltb, refl, inl, inr, arith}
use Rattle.std.proofs.lemmas.Bool.{cases_eq, cases_lt, cases_Bool, lt-ltb, le-ltb, eq-eqb, ne_eqb}
use Rattle.iox_steps.specs.declared.access.Progress.{Progress}
use Rattle.iox_steps.specs.Accesses.{IsWithin}
use Rattle.iox_steps.specs.MachineStates.{IsParty, with_party, seen_in, after_access}
use Rattle.iox_set_steps.specs.declared.bit_set.BitSite.{BitSite}
use Rattle.iox_set_steps.specs.declared.bit_set.BitCall.{BitCall}
use Rattle.iox_set_steps.specs.declared.bit_set.BitCall.TheVariants as call
use Rattle.iox_set_steps.specs.declared.bit_set.BitReply.{BitReply}
use Rattle.iox_set_steps.specs.declared.bit_set.BitProgram.{BitProgram}
use Rattle.iox_set_steps.specs.declared.bit_set.BitProgram.TheVariants.{AtRest, Replies, Sets, Looks, Clears, ClearsAll}
use Rattle.iox_set_steps.specs.declared.bit_set.party.BitParty.{BitParty}
use Rattle.iox_set_steps.specs.Bits.{bit_words, times_set}
use Rattle.iox_set_steps.specs.BitPrograms.{bit_event, bit_next, bit_start, progress_of}
use Rattle.iox_set_steps.specs.BitPlays.{BitMachineState, BitAnswers, bit_kind, bits_ask, bits_happen, bits_rest, BitsLead, BitsBegin, BitsKnow, BitsHold}
use Rattle.iox_set_steps.specs.BitEvents.{bit_access_within, bit_makes_up, bit_words_stay, bit_next_knows}
use Rattle.iox_set_steps.specs.SitedLaws.{Laws, stay_in, keep, start}

-- no access sets a bit past the capacity
none_past : (site : BitSite) (id : ℕ) (program : BitProgram) (seen : ℕ) → BitsKnow site program → site.capacity ≤ id
    → times_set id (option_to_list (bit_event program seen)) ≡ 0
none_past site id AtRest seen knows past = refl
none_past site id (Replies reply) seen knows past = refl
none_past site id (Sets bit) seen knows past = elim (cases_eq (bit_at seen (bit % 64)) 1) [
  | inl one ↦ rw (eq-eqb _ _ one) refl
  | inr none ↦ rw (ne_eqb _ _ none, ne_eqb id bit (omega arith)) refl
]
none_past site id (Looks word) seen knows past = refl
none_past site id (Clears bit) seen knows past = elim (cases_eq (bit_at seen (bit % 64)) 1) [
  | inl one ↦ rw (eq-eqb _ _ one) refl
  | inr none ↦ rw (ne_eqb _ _ none) refl
]
none_past site id (ClearsAll word) seen knows past = elim (cases_eq seen 0) [
  | inl none ↦ rw (eq-eqb _ _ none) refl
  | inr some ↦ rw (ne_eqb _ _ some) refl
]

-- the first access of each call names a bit or a word of the site
pub start_knows : (site : BitSite) (call : BitCall) → BitsKnow site (bit_start site call)
start_knows site (call.Set id) = elim (cases_lt id site.capacity) [ inl below ↦ rw (lt-ltb _ _ below) below | inr past ↦ rw (le-ltb _ _ past) tt ]
start_knows site call.ResetNext = elim (cases_eq site.capacity 0) [ inl none ↦ rw (eq-eqb _ _ none) tt | inr some ↦ rw (ne_eqb _ _ some) (omega arith) ]
start_knows site call.ResetAll = elim (cases_eq site.capacity 0) [ inl none ↦ rw (eq-eqb _ _ none) tt | inr some ↦ rw (ne_eqb _ _ some) (omega arith) ]

-- each answer agrees with the event of its access
bit_answers : (site : BitSite) (program : BitProgram) (seen : ℕ) → BitsKnow site program → BitAnswers (progress_of (bit_next site program seen)) (bit_event program seen)
bit_answers site AtRest seen knows = tt
bit_answers site (Replies reply) seen knows = knows
bit_answers site (Sets bit) seen knows = elim (cases_eq (bit_at seen (bit % 64)) 1) [ inl one ↦ rw (eq-eqb _ _ one) tt | inr none ↦ rw (ne_eqb _ _ none) tt ]
bit_answers site (Looks word) seen knows = elim (cases_eq seen 0) [
  | inl none ↦ rw (eq-eqb _ _ none) (elim (cases_Bool (ltb (min (word + 1) (2 ^ 64 - 1)) (bit_words site.capacity))) [ inl more ↦ rw more tt | inr last ↦ rw last tt ])
  | inr some ↦ rw (ne_eqb _ _ some) tt
]
bit_answers site (Clears bit) seen knows = elim (cases_eq (bit_at seen (bit % 64)) 1) [ inl one ↦ rw (eq-eqb _ _ one) refl | inr none ↦ rw (ne_eqb _ _ none) tt ]
bit_answers site (ClearsAll word) seen knows = elim (cases_eq seen 0) [
  | inl none ↦ rw (eq-eqb _ _ none) (elim (cases_Bool (ltb (min (word + 1) (2 ^ 64 - 1)) (bit_words site.capacity))) [ inl more ↦ rw more tt | inr last ↦ rw last tt ])
  | inr some ↦ rw (ne_eqb _ _ some) (elim (cases_Bool (ltb (min (word + 1) (2 ^ 64 - 1)) (bit_words site.capacity))) [ inl more ↦ rw more tt | inr last ↦ rw last tt ])
]

-- parties at bits keep the laws of parties at a site
pub bit_laws : Laws bit_kind
bit_laws = record {
  is_whole = λ party. refl;
  rests = refl;
  stays_at_rest = λ site seen. refl;
  within = λ site words program have knows. bit_access_within site words have.room have.memory program knows;
  makes_up = λ site words program id have knows. bit_makes_up site words have.room have.memory program knows id;
  words_stay = λ site words program have. bit_words_stay site words have.room have.memory program have.small;
  next_knows = λ site words program have knows. bit_next_knows site words have.room have.memory program have.small knows;
  none_past = none_past;
  start_knows = start_knows;
  answers = bit_answers;
}

-- the access of each party names a word that exists
pub bits_stay_in : (machine : BitMachineState) (number : ℕ) (party : BitParty) → BitsHold machine → IsParty machine number party
    → IsWithin 0 (length machine.words) (bits_ask party)
bits_stay_in = stay_in bit_kind bit_laws

-- each access of a party whose call is under way keeps the invariant
pub bits_keep : (machine : BitMachineState) (number : ℕ) (party after : BitParty) (answer : Progress BitReply) → BitsHold machine
    → IsParty machine number party → bits_rest party ≡ false
    → BitsLead party (seen_in machine (bits_ask party)) answer after
    → BitsHold (after_access machine number (bits_ask party) after (bits_happen party (seen_in machine (bits_ask party))))
bits_keep = keep bit_kind bit_laws

-- each begin of a call keeps the invariant
pub bits_start : (machine : BitMachineState) (number : ℕ) (call : BitCall) (party after : BitParty) → BitsHold machine
    → IsParty machine number party → BitsBegin party call (Ok after)
    → BitsHold (with_party machine number after)
bits_start = start bit_kind bit_laws
