-- Entries of a schedule have one end each at a queue's machine, the queue stays where it stands, and what left comes before what is waiting.
use Rattle.std.proofs.Common.{◌≡◌, ◌∙◌, ℕ, zero, suc, List, [], ◌∷◌, ◌++◌, ◌≤◌, length, refl, sym, ap, ap₂, subst, Some, None, Result, Ok, Err, OnOk, true≢false, slice_index_or, slice_set}
use Rattle.std.proofs.lemmas.List.{map-id}
use Rattle.iox_steps.specs.declared.access.Progress.{Progress}
use Rattle.iox_steps.specs.declared.error.MachineError.{MachineError}
use Rattle.iox_steps.specs.declared.machine.Entry.{Entry}
use Rattle.iox_steps.specs.declared.site.Site.{Site}
use Rattle.iox_steps.specs.declared.side.Pushing.TheVariants as pushing
use Rattle.iox_steps.specs.declared.side.Popping.TheVariants as popping
use Rattle.iox_steps.specs.declared.side.QueueEvent.{QueueEvent}
use Rattle.iox_steps.specs.declared.side.QueueReply.{QueueReply}
use Rattle.std.specs.Option.{option_to_list}
use Rattle.iox_steps.specs.Accesses.{words_after}
use Rattle.iox_steps.specs.Contents.{values}
use Rattle.iox_steps.specs.Entries.{seen_as}
use Rattle.iox_steps.specs.EventLists.{published, departed}
use Rattle.iox_steps.specs.Sites.{cells}
use Rattle.iox_steps.specs.MachineStates.{seen_in}
use Rattle.iox_steps.proofs.ContentLemmas.{waiting_are_values}
use Rattle.iox_steps.proofs.EntryLemmas.{all_enter}
use Rattle.iox_steps.proofs.Schedules.{all_entered_keeps}
use Rattle.iox_queue_steps.specs.declared.queue.Side.{Side}
use Rattle.iox_queue_steps.specs.declared.queue.Side.TheVariants.{Pusher, Popper}
use Rattle.iox_queue_steps.specs.declared.queue.Call.{Call}
use Rattle.iox_queue_steps.specs.declared.queue.Call.TheVariants.{Push, IsFull, Pop, IsEmpty}
use Rattle.iox_queue_steps.specs.Queues.{PartyView, queue_asks, queue_happens, queue_rests, QueueLeads, QueueBegins, IsBegun, IsNotBegun, BothAfterCalls, PartiesAfterCalls, QueueInvariant}
use Rattle.iox_queue_steps.specs.Machines.{QueueMachineState, QueueStepped, QueueBegun, AllQueueEntered}
use Rattle.iox_queue_steps.specs.Entries.{site_of, waiting_of, queue_goes, side_begun, queue_begun, queue_after}

-- a party has one way on
queue_led : (party after : PartyView) (seen : ℕ) (answer : Progress QueueReply) → QueueLeads party seen answer after → after ≡ queue_goes party seen
queue_led party after seen answer leads = ap₂ (λ (site : Site) (side : Side). record { site = site; side = side }) leads.0 leads.1

side_began : (side after : Side) (call : Call) → IsBegun side call after → side_begun side call ≡ Some after
side_began (Pusher pushes) after (Push value) begun = rw (begun.0, begun.1) refl
side_began (Pusher pushes) after IsFull begun = rw (begun.0, begun.1) refl
side_began (Popper pops) after Pop begun = rw (begun.0, begun.1) refl
side_began (Popper pops) after IsEmpty begun = rw (begun.0, begun.1) refl
side_began (Pusher pushes) after Pop begun = absurd begun
side_began (Pusher pushes) after IsEmpty begun = absurd begun
side_began (Popper pops) after (Push value) begun = absurd begun
side_began (Popper pops) after IsFull begun = absurd begun

side_refused : (side : Side) (call : Call) (error : MachineError) → IsNotBegun side call error → side_begun side call ≡ None
side_refused (Pusher pushing.AtRest) (Push value) error busy = absurd (true≢false busy.1)
side_refused (Pusher pushing.AtRest) IsFull error busy = absurd (true≢false busy.1)
side_refused (Pusher pushing.AtRest) Pop error busy = refl
side_refused (Pusher pushing.AtRest) IsEmpty error busy = refl
side_refused (Pusher (pushing.Pushes place)) call error busy = refl
side_refused (Pusher (pushing.Looks place)) call error busy = refl
side_refused (Popper popping.AtRest) Pop error busy = absurd (true≢false busy.1)
side_refused (Popper popping.AtRest) IsEmpty error busy = absurd (true≢false busy.1)
side_refused (Popper popping.AtRest) (Push value) error busy = refl
side_refused (Popper popping.AtRest) IsFull error busy = refl
side_refused (Popper (popping.Pops place)) call error busy = refl
side_refused (Popper (popping.Looks place)) call error busy = refl

queue_began : (party after : PartyView) (call : Call) → QueueBegins party call (Ok after) → queue_begun party call ≡ Some after
queue_began party after call begun = rw (side_began party.side after.side call begun.1, begun.0) refl

queue_refused : (party : PartyView) (call : Call) (error : MachineError) → QueueBegins party call (Err error) → queue_begun party call ≡ None
queue_refused party call error begun = rw (side_refused party.side call error begun) refl

-- a machine seen as it is
seen_as_is : (machine : QueueMachineState) → seen_as (λ party. party) machine ≡ machine
seen_as_is machine = rw (map-id machine.parties) refl

queue_schedule_enters : (old : QueueMachineState) (entries : List (Entry Call)) (new : QueueMachineState) → AllQueueEntered old entries new → new ≡ queue_after old entries
queue_schedule_enters old entries new all =
    let is = all_enter (λ party. party) queue_asks queue_goes queue_happens queue_rests queue_begun QueueLeads QueueBegins
    queue_led queue_began queue_refused old entries new all in
    subst (λ (w : QueueMachineState). new ≡ queue_after w entries) (seen_as_is old) (sym (seen_as_is new) ∙ is)

pub queue_schedule_ends : {A B : Type 0} (old : QueueMachineState) (entries : List (Entry Call)) (new : QueueMachineState) (result : Result A B)
    → OnOk result (AllQueueEntered old entries new) → OnOk result (new ≡ queue_after old entries)
queue_schedule_ends old entries new (Ok done) all = queue_schedule_enters old entries new all
queue_schedule_ends old entries new (Err error) all = tt

-- the queue stays where it stands
same_site : (parties : List PartyView) (number : ℕ) (party after : PartyView) (words words' : List ℕ) (events events' : List QueueEvent)
    → party ≡ slice_index_or parties number party → after.site ≡ party.site
    → site_of (record { words = words'; parties = slice_set parties number after; events = events' })
    ≡ site_of (record { words = words; parties = parties; events = events })
same_site [] number party after words words' events events' is same = refl
same_site (first ∷ others) zero party after words words' events events' is same = same ∙ ap (λ (p : PartyView). p.site) is
same_site (first ∷ others) (suc number) party after words words' events events' is same = refl

pub begin_stands : (old : QueueMachineState) (number : ℕ) (call : Call) (new : QueueMachineState) → QueueBegun old number call new → site_of new ≡ site_of old
begin_stands old number call new begun =
    rw begun.leads_to (same_site old.parties number begun.party begun.after old.words old.words old.events old.events begun.is_party.1 begun.begins_with.0)

pub step_stands : (old : QueueMachineState) (number : ℕ) (answer : Progress QueueReply) (new : QueueMachineState) → QueueStepped old number answer new → site_of new ≡ site_of old
step_stands old number answer new step =
    ap site_of step.leads_to
    ∙ same_site old.parties number step.party step.after old.words
    (words_after (queue_asks step.party) old.words) old.events
    (old.events ++ option_to_list (queue_happens step.party (seen_in old (queue_asks step.party)))) step.is_party.1 step.leads_on.0

pub schedule_stands : (old : QueueMachineState) (entries : List (Entry Call)) (new : QueueMachineState) → AllQueueEntered old entries new → site_of new ≡ site_of old
schedule_stands old entries new all =
    all_entered_keeps queue_asks QueueLeads queue_happens queue_rests QueueBegins (λ (w : QueueMachineState). site_of w ≡ site_of old)
    (λ was number call now same begun. begin_stands was number call now begun ∙ same)
    (λ was number answer now same step. step_stands was number answer now step ∙ same)
    old entries new refl all

-- what left, and then what is waiting, is what was published
sides_order : (site : Site) (words : List ℕ) (a b : Side) (events : List QueueEvent) → BothAfterCalls site words a b events
    → (published events ≡ departed [] events ++ values site words) × (length (values site words) ≤ cells site)
sides_order site words (Pusher pushes) (Popper pops) events played =
    let are = waiting_are_values site words played.waiting played.fits.ring in
    (played.order ∙ ap (λ (l : List ℕ). departed [] events ++ l) are, subst (λ (l : List ℕ). length l ≤ cells site) are played.fits.ring.bounded)
sides_order site words (Pusher pushes) (Pusher other) events played = absurd played
sides_order site words (Popper pops) b events played = absurd played

parties_order : (words : List ℕ) (parties : List PartyView) (events : List QueueEvent) → PartiesAfterCalls words parties events
    → let machine : QueueMachineState = record { words = words; parties = parties; events = events } in
    (published events ≡ departed [] events ++ waiting_of machine) × (length (waiting_of machine) ≤ cells (site_of machine))
parties_order words (a ∷ b ∷ []) events played = sides_order a.site words a.side b.side events played.1
parties_order words [] events played = absurd played
parties_order words (a ∷ []) events played = absurd played
parties_order words (a ∷ b ∷ c ∷ others) events played = absurd played

pub queue_order : (machine : QueueMachineState) → QueueInvariant machine
    → (published machine.events ≡ departed [] machine.events ++ waiting_of machine) × (length (waiting_of machine) ≤ cells (site_of machine))
queue_order machine holds = parties_order machine.words machine.parties machine.events holds
