-- What a step machine of bits promises, step by step and for every schedule.
use Rattle.std.specs.Prelude.{◌≡◌, ℕ, ◌+◌, ◌<◌, List, slice_index}
use Rattle.iox_steps.specs.declared.access.Progress.{Progress}
use Rattle.iox_steps.specs.declared.error.MachineError.{MachineError}
use Rattle.iox_steps.specs.declared.machine.Entry.{Entry}
use Rattle.iox_set_steps.specs.declared.bit_set.BitSite.{BitSite}
use Rattle.iox_set_steps.specs.declared.bit_set.BitCall.{BitCall}
use Rattle.iox_set_steps.specs.declared.bit_set.BitReply.{BitReply}
use Rattle.iox_set_steps.specs.declared.bit_set.BitEvent.{BitEvent}
use Rattle.iox_set_steps.specs.declared.bit_set.party.BitParty.{BitParty}
use Rattle.iox_set_steps.specs.Bits.{bit_words}
use Rattle.iox_set_steps.specs.BitPlays.{BitMachineState, bit_kind}
use Rattle.iox_set_steps.specs.BitCalls.{BitTurn, bit_calls}
use Rattle.iox_set_steps.specs.SitedMachines.{Sited, KindStepped, IsKindStepRefused, KindBegun, IsKindBeginRefused, AllKindEntered, KindStopsAtStep}
use Rattle.iox_set_steps.specs.SitedMachines.{AreNew, IsInCall, IsEvent, BeginsCall, PlaySited, sited_begun, sited_answer, sited_stepped, new_sited}

-- one access of the party of this number, whose call is under way, with its answer
abbrev pub BitsStepped : BitMachineState → ℕ → Progress BitReply → BitMachineState → Type 0
BitsStepped = KindStepped bit_kind

-- why a step is refused
abbrev pub IsBitStepRefused : BitMachineState → ℕ → MachineError → Type 0
IsBitStepRefused = IsKindStepRefused bit_kind

-- the party of this number began the call, and nothing else changed
abbrev pub BitsBegun : BitMachineState → ℕ → BitCall → BitMachineState → Type 0
BitsBegun = KindBegun bit_kind

-- why a begin is refused: there is no such party, or the party refuses the call
abbrev pub IsBitBeginRefused : BitMachineState → ℕ → BitCall → MachineError → Type 0
IsBitBeginRefused = IsKindBeginRefused bit_kind

-- all entries lead from one machine to the other, one after another
abbrev pub AllBitsEntered : BitMachineState → List (Entry BitCall) → BitMachineState → Type 0
AllBitsEntered = AllKindEntered bit_kind

-- a schedule that found no memory stopped before a step of a party whose call is under way
abbrev pub BitsStopAtStep : BitMachineState → List (Entry BitCall) → BitMachineState → Type 0
BitsStopAtStep = KindStopsAtStep bit_kind

-- the site at which the party is
abbrev pub site_of : BitParty → BitSite
site_of party = party.site

-- no bit is set
abbrev pub AreClear : BitSite → List ℕ → Type 0
AreClear site words = (word : ℕ) → word < bit_words site.capacity → slice_index words (site.base + word) ≡ 0

-- a step machine of bits at one site, as its callers see it
abbrev pub SitedBits : Type 0
SitedBits = Sited BitSite BitParty BitEvent

-- a new machine: these words, `count` parties at rest at this site, and no event
abbrev pub AreNewBits : List ℕ → BitSite → ℕ → SitedBits → Type 0
AreNewBits = AreNew bit_kind

-- the party of this number is in this call, which made these accesses so far, the last first
abbrev pub IsInBitCall : SitedBits → ℕ → BitCall → List BitTurn → Type 0
IsInBitCall = IsInCall bit_kind bit_calls

-- one access of the party of this number, with its event and its answer
abbrev pub IsBitEvent : SitedBits → ℕ → Progress BitReply → SitedBits → Type 0
IsBitEvent = IsEvent bit_kind bit_calls

-- the party of this number began the call, and made no access yet
abbrev pub BeginsBitCall : SitedBits → ℕ → BitCall → SitedBits → Type 0
BeginsBitCall = BeginsCall bit_kind bit_calls

-- what a schedule came to: each entry begins a call, is one event, or changes nothing
abbrev pub PlayBits : SitedBits → List (Entry BitCall) → SitedBits → Type 0
PlayBits = PlaySited bit_kind bit_calls

-- the machine once the party of this number began the call
abbrev pub bits_begun : SitedBits → ℕ → BitCall → SitedBits
bits_begun = sited_begun bit_kind

-- what the next access of the party of this number answers
abbrev pub bits_answer : SitedBits → ℕ → Progress BitReply
bits_answer = sited_answer bit_kind

-- the machine once the party of this number made its next access
abbrev pub bits_stepped : SitedBits → ℕ → SitedBits
bits_stepped = sited_stepped bit_kind

-- a new machine: these words, `count` parties at rest at this site, and no event
abbrev pub new_bits : List ℕ → BitSite → ℕ → SitedBits
new_bits = new_sited bit_kind
