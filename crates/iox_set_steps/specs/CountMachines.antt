-- What a step machine of counts promises, step by step and for every schedule.
use Rattle.std.specs.Prelude.{◌≡◌, ℕ, ◌+◌, ◌<◌, List, slice_index}
use Rattle.iox_steps.specs.declared.access.Progress.{Progress}
use Rattle.iox_steps.specs.declared.error.MachineError.{MachineError}
use Rattle.iox_steps.specs.declared.machine.Entry.{Entry}
use Rattle.iox_set_steps.specs.declared.counting_bit_set.CountSite.{CountSite}
use Rattle.iox_set_steps.specs.declared.counting_bit_set.CountCall.{CountCall}
use Rattle.iox_set_steps.specs.declared.counting_bit_set.CountReply.{CountReply}
use Rattle.iox_set_steps.specs.declared.counting_bit_set.CountEvent.{CountEvent}
use Rattle.iox_set_steps.specs.declared.counting_bit_set.party.CountParty.{CountParty}
use Rattle.iox_set_steps.specs.CountPlays.{CountMachineState, count_kind}
use Rattle.iox_set_steps.specs.CountCalls.{CountTurn, count_calls}
use Rattle.iox_set_steps.specs.SitedMachines.{Sited, KindStepped, IsKindStepRefused, KindBegun, IsKindBeginRefused, AllKindEntered, KindStopsAtStep}
use Rattle.iox_set_steps.specs.SitedMachines.{AreNew, IsInCall, IsEvent, BeginsCall, PlaySited, sited_begun, sited_answer, sited_stepped, new_sited}

-- one access of the party of this number, whose call is under way, with its answer
abbrev pub CountsStepped : CountMachineState → ℕ → Progress CountReply → CountMachineState → Type 0
CountsStepped = KindStepped count_kind

-- why a step is refused
abbrev pub IsCountStepRefused : CountMachineState → ℕ → MachineError → Type 0
IsCountStepRefused = IsKindStepRefused count_kind

-- the party of this number began the call, and nothing else changed
abbrev pub CountsBegun : CountMachineState → ℕ → CountCall → CountMachineState → Type 0
CountsBegun = KindBegun count_kind

-- why a begin is refused: there is no such party, or the party refuses the call
abbrev pub IsCountBeginRefused : CountMachineState → ℕ → CountCall → MachineError → Type 0
IsCountBeginRefused = IsKindBeginRefused count_kind

-- all entries lead from one machine to the other, one after another
abbrev pub AllCountsEntered : CountMachineState → List (Entry CountCall) → CountMachineState → Type 0
AllCountsEntered = AllKindEntered count_kind

-- a schedule that found no memory stopped before a step of a party whose call is under way
abbrev pub CountsStopAtStep : CountMachineState → List (Entry CountCall) → CountMachineState → Type 0
CountsStopAtStep = KindStopsAtStep count_kind

-- the site at which the party is
abbrev pub count_site_of : CountParty → CountSite
count_site_of party = party.site

-- each count is 0
abbrev pub AreZero : CountSite → List ℕ → Type 0
AreZero site words = (id : ℕ) → id < site.capacity → slice_index words (site.base + id) ≡ 0

-- a step machine of counts at one site, as its callers see it
abbrev pub SitedCounts : Type 0
SitedCounts = Sited CountSite CountParty CountEvent

-- a new machine: these words, `count` parties at rest at this site, and no event
abbrev pub AreNewCounts : List ℕ → CountSite → ℕ → SitedCounts → Type 0
AreNewCounts = AreNew count_kind

-- the party of this number is in this call, which made these accesses so far, the last first
abbrev pub IsInCountCall : SitedCounts → ℕ → CountCall → List CountTurn → Type 0
IsInCountCall = IsInCall count_kind count_calls

-- one access of the party of this number, with its event and its answer
abbrev pub IsCountEvent : SitedCounts → ℕ → Progress CountReply → SitedCounts → Type 0
IsCountEvent = IsEvent count_kind count_calls

-- the party of this number began the call, and made no access yet
abbrev pub BeginsCountCall : SitedCounts → ℕ → CountCall → SitedCounts → Type 0
BeginsCountCall = BeginsCall count_kind count_calls

-- what a schedule came to: each entry begins a call, is one event, or changes nothing
abbrev pub PlayCounts : SitedCounts → List (Entry CountCall) → SitedCounts → Type 0
PlayCounts = PlaySited count_kind count_calls

-- the machine once the party of this number began the call
abbrev pub counts_begun : SitedCounts → ℕ → CountCall → SitedCounts
counts_begun = sited_begun count_kind

-- what the next access of the party of this number answers
abbrev pub counts_answer : SitedCounts → ℕ → Progress CountReply
counts_answer = sited_answer count_kind

-- the machine once the party of this number made its next access
abbrev pub counts_stepped : SitedCounts → ℕ → SitedCounts
counts_stepped = sited_stepped count_kind

-- a new machine: these words, `count` parties at rest at this site, and no event
abbrev pub new_counts : List ℕ → CountSite → ℕ → SitedCounts
new_counts = new_sited count_kind
