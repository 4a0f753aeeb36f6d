-- What entries of a schedule make of a queue's machine, as functions, and where its queue stands.
use Rattle.std.specs.Prelude.{ℕ, List, Option, Some, None}
use Rattle.std.specs.List.{slice_get}
use Rattle.std.specs.Option.{option_map}
use Rattle.iox_steps.specs.declared.access.Progress.{Progress}
use Rattle.iox_steps.specs.declared.access.Progress.TheVariants.{Going}
use Rattle.iox_steps.specs.declared.machine.Entry.{Entry}
use Rattle.iox_steps.specs.declared.push.Push.TheVariants as push
use Rattle.iox_steps.specs.declared.push.FullLook.TheVariants as full_look
use Rattle.iox_steps.specs.declared.pop.Pop.TheVariants as pop
use Rattle.iox_steps.specs.declared.pop.EmptyLook.TheVariants as empty_look
use Rattle.iox_steps.specs.declared.side.Pushing.TheVariants as pushing
use Rattle.iox_steps.specs.declared.side.Popping.TheVariants as popping
use Rattle.iox_steps.specs.declared.side.QueueReply.{QueueReply}
use Rattle.iox_steps.specs.declared.site.QueueKind.TheVariants.{Index}
use Rattle.iox_steps.specs.declared.site.Site.{Site}
use Rattle.iox_steps.specs.Contents.{values}
use Rattle.iox_steps.specs.MachineStates.{seen_in}
use Rattle.iox_steps.specs.Entries.{of_party, entered, all_entered}
use Rattle.iox_queue_steps.specs.declared.queue.Side.{Side}
use Rattle.iox_queue_steps.specs.declared.queue.Side.TheVariants.{Pusher, Popper}
use Rattle.iox_queue_steps.specs.declared.queue.Call.{Call}
use Rattle.iox_queue_steps.specs.declared.queue.Call.TheVariants.{Push, IsFull, Pop, IsEmpty}
use Rattle.iox_queue_steps.specs.Queues.{PartyView, side_after, side_progress, queue_asks, queue_happens, queue_rests}
use Rattle.iox_queue_steps.specs.Machines.{QueueMachineState}

-- where the queue stands: the site of party 0; a machine always has two parties
abbrev pub site_of : QueueMachineState → Site
site_of machine = of_party (record { kind = Index; base = 0; capacity = 0 }) (λ party. party.site)
    (slice_get machine.parties 0)

-- the values that wait, as the words hold them
abbrev pub waiting_of : QueueMachineState → List ℕ
waiting_of machine = values (site_of machine) machine.words

-- where a party is after an access that found this word
abbrev pub queue_goes : PartyView → ℕ → PartyView
queue_goes party seen = record { site = party.site; side = side_after party.site party.side seen }

-- the side once it began the call: a party at rest begins the calls of its side, and no others
abbrev pub side_begun : Side → Call → Option Side
side_begun (Pusher pushing.AtRest) (Push value) =
    Some (Pusher (pushing.Pushes (push.LoadsWrite value)))
side_begun (Pusher pushing.AtRest) IsFull = Some (Pusher (pushing.Looks full_look.LoadsWrite))
side_begun (Popper popping.AtRest) Pop = Some (Popper (popping.Pops pop.LoadsRead))
side_begun (Popper popping.AtRest) IsEmpty = Some (Popper (popping.Looks empty_look.LoadsRead))
side_begun side call = None

-- the party once it began the call, if it may
abbrev pub queue_begun : PartyView → Call → Option PartyView
queue_begun party call =
    option_map (λ side. record { site = party.site; side = side }) (side_begun party.side call)

-- the machine after one entry of a schedule
abbrev pub queue_entered : QueueMachineState → Entry Call → QueueMachineState
queue_entered = entered queue_asks queue_goes queue_happens queue_rests queue_begun

-- the machine after all entries of a schedule
abbrev pub queue_after : QueueMachineState → List (Entry Call) → QueueMachineState
queue_after = all_entered queue_asks queue_goes queue_happens queue_rests queue_begun

-- what the next access of the party of this number answers, and `Going` where there is no such
-- party
abbrev pub queue_answer : QueueMachineState → ℕ → Progress QueueReply
queue_answer machine number =
    of_party Going (λ party. side_progress party.site party.side (seen_in machine (queue_asks party)))
    (slice_get machine.parties number)
