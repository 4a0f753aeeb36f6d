-- The two parties of a queue in a step machine, and what holds of it at all times.
use Rattle.std.specs.Prelude.{◌≡◌, ℕ, ◌+◌, Bool, true, false, List, [], ◌∷◌, Option, Result, MatchResult, slice_index}
use Rattle.iox_steps.specs.declared.access.Access.{Access}
use Rattle.iox_steps.specs.declared.access.Progress.{Progress}
use Rattle.iox_steps.specs.declared.error.MachineError.{MachineError}
use Rattle.iox_steps.specs.declared.error.MachineError.TheVariants.{UnknownParty, Busy}
use Rattle.iox_steps.specs.declared.site.Site.{Site}
use Rattle.iox_steps.specs.declared.push.Push.TheVariants as push
use Rattle.iox_steps.specs.declared.push.FullLook.TheVariants as full_look
use Rattle.iox_steps.specs.declared.pop.Pop.TheVariants as pop
use Rattle.iox_steps.specs.declared.pop.EmptyLook.TheVariants as empty_look
use Rattle.iox_steps.specs.declared.side.Pushing.TheVariants as pushing
use Rattle.iox_steps.specs.declared.side.Popping.TheVariants as popping
use Rattle.iox_steps.specs.declared.side.QueueEvent.{QueueEvent}
use Rattle.iox_steps.specs.declared.side.QueueReply.{QueueReply}
use Rattle.iox_queue_steps.specs.declared.queue.Side.{Side}
use Rattle.iox_queue_steps.specs.declared.queue.Side.TheVariants.{Pusher, Popper}
use Rattle.iox_queue_steps.specs.declared.queue.Call.{Call}
use Rattle.iox_queue_steps.specs.declared.queue.Call.TheVariants.{Push, IsFull, Pop, IsEmpty}
use Rattle.iox_steps.specs.Sides.{pushing_access, pushing_after, pushing_progress, pushing_event, popping_access, popping_after, popping_progress, popping_event}
use Rattle.iox_steps.specs.EventLists.{told}
use Rattle.iox_steps.specs.AfterCalls.{AfterCalls}
use Rattle.iox_steps.specs.MachineStates.{MachineState}

-- a party: the site of its queue, which of the two it is, and where it is in its call
pub record PartyView : Type 0 where
  pub site : Site
  pub side : Side

-- the access that a side makes next
abbrev pub side_access : Site → Side → Access
side_access site (Pusher pushes) = pushing_access site pushes
side_access site (Popper pops) = popping_access site pops

-- the side after an access that found `seen`
abbrev pub side_after : Site → Side → ℕ → Side
side_after site (Pusher pushes) seen = Pusher (pushing_after site pushes seen)
side_after site (Popper pops) seen = Popper (popping_after site pops seen)

-- whether the side's call continues after an access that found `seen`, and else its reply
abbrev pub side_progress : Site → Side → ℕ → Progress QueueReply
side_progress site (Pusher pushes) seen = pushing_progress site pushes seen
side_progress site (Popper pops) seen = popping_progress site pops seen

-- what an access of the side, which found `seen`, does to the queue or sees there
abbrev pub side_event : Site → Side → ℕ → QueueEvent
side_event site (Pusher pushes) seen = pushing_event site pushes seen
side_event site (Popper pops) seen = popping_event site pops seen

-- is the side at rest?
abbrev pub rests : Side → Bool
rests (Pusher pushing.AtRest) = true
rests (Popper popping.AtRest) = true
rests side = false

-- the access that the party makes next
abbrev pub queue_asks : PartyView → Access
queue_asks party = side_access party.site party.side

-- the event that is written down of an access that found `seen`, if there is one
abbrev pub queue_happens : PartyView → ℕ → Option QueueEvent
queue_happens party seen = told (side_event party.site party.side seen)

-- is the party at rest?
abbrev pub queue_rests : PartyView → Bool
queue_rests party = rests party.side

-- the party continues like this after an access that found this word, with this answer
abbrev pub QueueLeads : PartyView → ℕ → Progress QueueReply → PartyView → Type 0
QueueLeads party seen answer after = (after.site ≡ party.site)
    × (after.side ≡ side_after party.site party.side seen)
    × (answer ≡ side_progress party.site party.side seen)

-- a party at rest began a call of its side
abbrev pub IsBegun : Side → Call → Side → Type 0
IsBegun (Pusher pushes) (Push value) after = (pushes ≡ pushing.AtRest)
    × (after ≡ Pusher (pushing.Pushes (push.LoadsWrite value)))
IsBegun (Pusher pushes) IsFull after = (pushes ≡ pushing.AtRest)
    × (after ≡ Pusher (pushing.Looks full_look.LoadsWrite))
IsBegun (Popper pops) Pop after = (pops ≡ popping.AtRest) × (after ≡ Popper (popping.Pops pop.LoadsRead))
IsBegun (Popper pops) IsEmpty after = (pops ≡ popping.AtRest)
    × (after ≡ Popper (popping.Looks empty_look.LoadsRead))
IsBegun side call after = ⊥

-- why a call is not begun: first `UnknownParty`, if it is the other side's; then `Busy`, if a call
-- is under way
abbrev pub IsNotBegun : Side → Call → MachineError → Type 0
IsNotBegun (Pusher pushes) (Push value) error = (error ≡ Busy) × (rests (Pusher pushes) ≡ false)
IsNotBegun (Pusher pushes) IsFull error = (error ≡ Busy) × (rests (Pusher pushes) ≡ false)
IsNotBegun (Popper pops) Pop error = (error ≡ Busy) × (rests (Popper pops) ≡ false)
IsNotBegun (Popper pops) IsEmpty error = (error ≡ Busy) × (rests (Popper pops) ≡ false)
IsNotBegun side call error = error ≡ UnknownParty

-- the begin of a call by a party: the party after it, or the refusal
abbrev pub QueueBegins : PartyView → Call → Result PartyView MachineError → Type 0
QueueBegins party call result = MatchResult result (λ after. (after.site ≡ party.site) × IsBegun party.side call after.side) (λ error. IsNotBegun party.side call error)

-- words and both sides, the pushing one first, as they are after any calls with these events
abbrev pub BothAfterCalls : Site → List ℕ → Side → Side → List QueueEvent → Type 0
BothAfterCalls site words (Pusher pushes) (Popper pops) events = AfterCalls site words pushes pops events
BothAfterCalls site words a b events = ⊥

-- party 0 pushes and looks at fullness, party 1 pops and looks at emptiness, both at one queue
abbrev pub PartiesAfterCalls : List ℕ → List PartyView → List QueueEvent → Type 0
PartiesAfterCalls words (a ∷ b ∷ []) events = (b.site ≡ a.site) × BothAfterCalls a.site words a.side b.side events
PartiesAfterCalls words parties events = ⊥

-- what holds of a queue's step machine at all times
abbrev pub QueueInvariant : MachineState PartyView QueueEvent → Type 0
QueueInvariant machine = PartiesAfterCalls machine.words machine.parties machine.events

-- the two positions of the queue at this site are equal, so that nothing waits
abbrev pub IsEmptyAt : Site → List ℕ → Type 0
IsEmptyAt site words = slice_index words site.base ≡ slice_index words (site.base + 1)

-- the two parties of the queue at this site, both at rest
abbrev pub at_rest_at : Site → List PartyView
at_rest_at site = record { site = site; side = Pusher pushing.AtRest }
    ∷ record { site = site; side = Popper popping.AtRest } ∷ []

-- a new machine: these words, both parties at rest at this queue, and no event
abbrev pub new_machine : List ℕ → Site → MachineState PartyView QueueEvent
new_machine words site = record { words = words; parties = at_rest_at site; events = [] }
