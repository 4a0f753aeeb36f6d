-- Parties at counts in a step machine, and what holds of it at all times.
use Rattle.std.specs.Prelude.{ℕ, Bool, true, false, ◌+◌, ◌<◌, Option, Some, None, Result}
use Rattle.iox_steps.specs.declared.access.Access.{Access}
use Rattle.iox_steps.specs.declared.access.Progress.{Progress}
use Rattle.iox_steps.specs.declared.access.Progress.TheVariants.{Going, Done}
use Rattle.iox_steps.specs.declared.error.MachineError.{MachineError}
use Rattle.iox_steps.specs.MachineStates.{MachineState}
use Rattle.iox_set_steps.specs.declared.counting_bit_set.CountSite.{CountSite}
use Rattle.iox_set_steps.specs.declared.counting_bit_set.CountCall.{CountCall}
use Rattle.iox_set_steps.specs.declared.counting_bit_set.CountReply.{CountReply}
use Rattle.iox_set_steps.specs.declared.counting_bit_set.CountReply.TheVariants.{Set, ResetAll}
use Rattle.iox_set_steps.specs.declared.counting_bit_set.CountEvent.{CountEvent}
use Rattle.iox_set_steps.specs.declared.counting_bit_set.CountEvent.TheVariants.{Added, Taken}
use Rattle.iox_set_steps.specs.declared.counting_bit_set.CountProgram.{CountProgram}
use Rattle.iox_set_steps.specs.declared.counting_bit_set.CountProgram.TheVariants.{AtRest, Replies, Loads, Exchanges, Takes}
use Rattle.iox_set_steps.specs.declared.counting_bit_set.party.CountParty.{CountParty}
use Rattle.iox_set_steps.specs.Counts.{max_count, count_now, added_by, taken_by}
use Rattle.iox_set_steps.specs.CountPrograms.{count_access, count_next, count_event, count_start}
use Rattle.iox_set_steps.specs.Kinds.{Kind, asks, happens, party_rests, Leads, Begins, HoldsAt, Hold}

-- a step machine of counts: words, parties, and the events so far
abbrev pub CountMachineState : Type 0
CountMachineState = MachineState CountParty CountEvent

-- is no call under way?
abbrev pub rests : CountProgram → Bool
rests AtRest = true
rests program = false

-- whether an answer agrees with the event of its access
abbrev pub CountAnswers : Progress CountReply → Option CountEvent → Type 0
-- a `set` answers true exactly where it added one
CountAnswers (Done (Set true)) (Some (Added id)) = Unit {0}
CountAnswers (Done (Set false)) None = Unit {0}
-- counts are handed out one by one
CountAnswers (Done ResetAll) (Some (Taken id count)) = 0 < count
CountAnswers (Done ResetAll) None = Unit {0}
CountAnswers Going (Some (Taken id count)) = 0 < count
CountAnswers Going None = Unit {0}
CountAnswers answer event = ⊥

-- the bit that a program names next is one of the site, and the count that it adds to is not the
-- greatest
abbrev pub CountsKnow : CountSite → CountProgram → Type 0
CountsKnow site AtRest = Unit {0}
CountsKnow site (Replies reply) = CountAnswers (Done reply) None
CountsKnow site (Loads id) = id < site.capacity
CountsKnow site (Exchanges id count) = (id < site.capacity) × (count < max_count)
CountsKnow site (Takes id) = id < site.capacity

-- the kind of parties at counts: what is added is brought there, and what is handed out is taken
-- out
abbrev pub count_kind : Kind CountSite CountProgram CountParty CountCall CountReply CountEvent
count_kind = record {
  site_of = λ (party : CountParty). party.site;
  program_of = λ (party : CountParty). party.program;
  party_of = λ (site : CountSite) (program : CountProgram). record { site = site; program = program };
  access = count_access;
  next = count_next;
  event = count_event;
  start = count_start;
  at_rest = AtRest;
  rests = rests;
  capacity = λ (site : CountSite). site.capacity;
  behind = λ (site : CountSite). site.base + site.capacity;
  now = count_now;
  brought = added_by;
  taken = taken_by;
  Knows = CountsKnow;
  Answers = CountAnswers;
}

-- the access that the party makes next
abbrev pub counts_ask : CountParty → Access
counts_ask = asks count_kind

-- the event of the party's access that found this word, if there is one
abbrev pub counts_happen : CountParty → ℕ → Option CountEvent
counts_happen = happens count_kind

-- is the party at rest?
abbrev pub counts_rest : CountParty → Bool
counts_rest = party_rests count_kind

-- the party continues like this after an access that found this word, with this answer
abbrev pub CountsLead : CountParty → ℕ → Progress CountReply → CountParty → Type 0
CountsLead = Leads count_kind

-- the begin of a call: the party after it, or the refusal of a party whose call is under way
abbrev pub CountsBegin : CountParty → CountCall → Result CountParty MachineError → Type 0
CountsBegin = Begins count_kind

-- what holds of the counts at this site after any calls of the parties
abbrev pub CountsHoldAt : CountSite → CountMachineState → Type 0
CountsHoldAt = HoldsAt count_kind

-- the machine is one of counts at a site, as it is after any calls
abbrev pub CountsHold : CountMachineState → Type 0
CountsHold = Hold count_kind
