-- Parties at bits in a step machine, and what holds of it at all times.
use Rattle.std.specs.Prelude.{◌≡◌, ℕ, Bool, true, false, ◌+◌, ◌/◌, ◌<◌, Option, Some, None, Result}
use Rattle.iox_steps.specs.declared.access.Access.{Access}
use Rattle.iox_steps.specs.declared.access.Progress.{Progress}
use Rattle.iox_steps.specs.declared.access.Progress.TheVariants.{Going, Done}
use Rattle.iox_steps.specs.declared.error.MachineError.{MachineError}
use Rattle.iox_steps.specs.MachineStates.{MachineState}
use Rattle.iox_set_steps.specs.declared.bit_set.BitSite.{BitSite}
use Rattle.iox_set_steps.specs.declared.bit_set.BitCall.{BitCall}
use Rattle.iox_set_steps.specs.declared.bit_set.BitReply.{BitReply}
use Rattle.iox_set_steps.specs.declared.bit_set.BitReply.TheVariants.{ResetNext, ResetAll}
use Rattle.iox_set_steps.specs.declared.bit_set.BitReply.TheVariants as reply
use Rattle.iox_set_steps.specs.declared.bit_set.BitEvent.{BitEvent}
use Rattle.iox_set_steps.specs.declared.bit_set.BitEvent.TheVariants as event
use Rattle.iox_set_steps.specs.declared.bit_set.BitProgram.{BitProgram}
use Rattle.iox_set_steps.specs.declared.bit_set.BitProgram.TheVariants.{AtRest, Replies, Sets, Looks, Clears, ClearsAll}
use Rattle.iox_set_steps.specs.declared.bit_set.party.BitParty.{BitParty}
use Rattle.iox_set_steps.specs.Bits.{bit_words, bit_now, set_by, cleared_by}
use Rattle.iox_set_steps.specs.BitPrograms.{bit_access, bit_next, bit_event, bit_start}
use Rattle.iox_set_steps.specs.Kinds.{Kind, asks, happens, party_rests, Leads, Begins, HoldsAt, Hold}

-- a step machine of bits: words, parties, and the events so far
abbrev pub BitMachineState : Type 0
BitMachineState = MachineState BitParty BitEvent

-- is no call under way?
abbrev pub rests : BitProgram → Bool
rests AtRest = true
rests program = false

-- whether an answer agrees with the event of its access
abbrev pub BitAnswers : Progress BitReply → Option BitEvent → Type 0
-- a `set` answers true exactly where it changed its bit
BitAnswers (Done (reply.Set true)) (Some (event.Set id)) = Unit {0}
BitAnswers (Done (reply.Set false)) None = Unit {0}
-- a bit is answered exactly where it is cleared
BitAnswers (Done (ResetNext (Some id))) (Some (event.Cleared other)) = other ≡ id
BitAnswers (Done (ResetNext None)) None = Unit {0}
-- all bits of a word are handed out at once
BitAnswers (Done ResetAll) (Some (event.ClearedAll word bits)) = Unit {0}
BitAnswers (Done ResetAll) None = Unit {0}
BitAnswers Going (Some (event.ClearedAll word bits)) = Unit {0}
BitAnswers Going None = Unit {0}
BitAnswers answer event = ⊥

-- the bit or the word that a program names next is one of the site
abbrev pub BitsKnow : BitSite → BitProgram → Type 0
BitsKnow site AtRest = Unit {0}
BitsKnow site (Replies reply) = BitAnswers (Done reply) None
BitsKnow site (Sets id) = id < site.capacity
BitsKnow site (Looks word) = word < bit_words site.capacity
BitsKnow site (Clears id) = id / 64 < bit_words site.capacity
BitsKnow site (ClearsAll word) = word < bit_words site.capacity

-- the kind of parties at bits: a `set` that changes a bit brings one there, and who clears it takes
-- it out
abbrev pub bit_kind : Kind BitSite BitProgram BitParty BitCall BitReply BitEvent
bit_kind = record {
  site_of = λ (party : BitParty). party.site;
  program_of = λ (party : BitParty). party.program;
  party_of = λ (site : BitSite) (program : BitProgram). record { site = site; program = program };
  access = bit_access;
  next = bit_next;
  event = bit_event;
  start = bit_start;
  at_rest = AtRest;
  rests = rests;
  capacity = λ (site : BitSite). site.capacity;
  behind = λ (site : BitSite). site.base + bit_words site.capacity;
  now = bit_now;
  brought = set_by;
  taken = cleared_by;
  Knows = BitsKnow;
  Answers = BitAnswers;
}

-- the access that the party makes next
abbrev pub bits_ask : BitParty → Access
bits_ask = asks bit_kind

-- the event of the party's access that found this word, if there is one
abbrev pub bits_happen : BitParty → ℕ → Option BitEvent
bits_happen = happens bit_kind

-- is the party at rest?
abbrev pub bits_rest : BitParty → Bool
bits_rest = party_rests bit_kind

-- the party continues like this after an access that found this word, with this answer
abbrev pub BitsLead : BitParty → ℕ → Progress BitReply → BitParty → Type 0
BitsLead = Leads bit_kind

-- the begin of a call: the party after it, or the refusal of a party whose call is under way
abbrev pub BitsBegin : BitParty → BitCall → Result BitParty MachineError → Type 0
BitsBegin = Begins bit_kind

-- what holds of the bits at this site after any calls of the parties
abbrev pub BitsHoldAt : BitSite → BitMachineState → Type 0
BitsHoldAt = HoldsAt bit_kind

-- the machine is one of bits at a site, as it is after any calls
abbrev pub BitsHold : BitMachineState → Type 0
BitsHold = Hold bit_kind
