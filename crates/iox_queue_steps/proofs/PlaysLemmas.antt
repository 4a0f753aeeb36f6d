-- What a schedule did to a queue: a begin is no event, a step is one, and plays follow one another.
use Rattle.std.proofs.Common.{◌≡◌, ℕ, zero, suc, ◌<◌, ◌++◌, List, [], ◌∷◌, length, slice_index, slice_index_or, slice_set, refl, sym, subst, ap, ◌∙◌, arith, append_assoc, append-nil}
use Rattle.std.specs.Option.{option_to_list}
use Rattle.iox_steps.specs.declared.access.Progress.{Progress}
use Rattle.iox_steps.specs.declared.machine.Entry.{Entry}
use Rattle.iox_steps.specs.declared.site.Site.{Site}
use Rattle.iox_steps.specs.declared.push.Push.TheVariants as push
use Rattle.iox_steps.specs.declared.push.FullLook.TheVariants as full_look
use Rattle.iox_steps.specs.declared.pop.Pop.TheVariants as pop
use Rattle.iox_steps.specs.declared.pop.EmptyLook.TheVariants as empty_look
use Rattle.iox_steps.specs.declared.side.Pushing.TheVariants as pushing
use Rattle.iox_steps.specs.declared.side.Popping.TheVariants as popping
use Rattle.iox_steps.specs.declared.side.QueueEvent.{QueueEvent}
use Rattle.iox_steps.specs.declared.side.QueueReply.{QueueReply}
use Rattle.iox_steps.specs.Accesses.{KeepsOutside}
use Rattle.iox_steps.specs.Sites.{size}
use Rattle.iox_steps.specs.Fits.{Fits}
use Rattle.iox_steps.specs.EventLists.{QueueState, state_after, Follows, told}
use Rattle.iox_steps.proofs.Begins.{pushing_begins, popping_begins}
use Rattle.iox_steps.proofs.RunLemmas.{run_told, in_order}
use Rattle.iox_steps.proofs.Schedules.{begun_keeps, stepped_keeps, all_entered_keeps}
use Rattle.iox_queue_steps.specs.declared.queue.Side.{Side}
use Rattle.iox_queue_steps.specs.declared.queue.Side.TheVariants.{Pusher, Popper}
use Rattle.iox_queue_steps.specs.declared.queue.Call.{Call}
use Rattle.iox_queue_steps.specs.declared.queue.Call.TheVariants.{Push, IsFull, Pop, IsEmpty}
use Rattle.iox_queue_steps.specs.Queues.{PartyView, queue_asks, queue_happens, queue_rests, QueueLeads, QueueBegins, IsBegun, BothAfterCalls, PartiesAfterCalls, QueueInvariant}
use Rattle.iox_queue_steps.specs.QueueLaws.{queue_keeps}
use Rattle.iox_queue_steps.specs.BeginLaws.{queue_starts}
use Rattle.iox_queue_steps.specs.Machines.{QueueMachineState, QueueStepped, QueueBegun, AllQueueEntered, SidesShow, PartiesShow, IsEvent, IsInterleaving}
use Rattle.iox_queue_steps.proofs.QueueStateLemmas.{one_site, one_state_shown}
use Rattle.iox_queue_steps.proofs.EventLemmas.{event_of}

-- words and events as they were, and parties that show the state that was shown
record Still (words : List ℕ) (parties parties' : List PartyView) : Type 0 where
  site : Site
  state : QueueState
  shown : PartiesShow site words parties state
  leads_to : PartiesShow site words parties' state

still_plays : (words : List ℕ) (events : List QueueEvent) (parties parties' : List PartyView) → Still words parties parties'
    → IsInterleaving (record { words = words; parties = parties; events = events }) (record { words = words; parties = parties'; events = events })
still_plays words events parties parties' still = record {
  site = still.site;
  before = still.state;
  happened = [];
  after = still.state;
  shown = still.shown;
  run = refl;
  leads_to = still.leads_to;
  events = sym (append-nil events);
  order = append-nil still.state.waiting;
  outside = (refl, λ place out. refl);
}

-- the state of a queue that was played on
record Shown (site : Site) (words : List ℕ) (a b : Side) : Type 0 where
  state : QueueState
  shown : SidesShow site words a b state

sides_shown : (site : Site) (words : List ℕ) (a b : Side) (events : List QueueEvent) → BothAfterCalls site words a b events → Shown site words a b
sides_shown site words (Pusher pushes) (Popper pops) events played = record {
  state = record { write = slice_index words site.base; waiting = played.waiting; hand = played.hand };
  shown = (refl, played.fits);
}
sides_shown site words (Pusher pushes) (Pusher other) events played = absurd played
sides_shown site words (Popper pops) b events played = absurd played

stays : (words : List ℕ) (parties : List PartyView) (events : List QueueEvent) → PartiesAfterCalls words parties events → Still words parties parties
stays words (a ∷ b ∷ []) events played =
    let is = sides_shown a.site words a.side b.side events played.1 in
    record { site = a.site; state = is.state; shown = (refl, played.0, is.shown); leads_to = (refl, played.0, is.shown) }
stays words [] events played = absurd played
stays words (a ∷ []) events played = absurd played
stays words (a ∷ b ∷ c ∷ others) events played = absurd played

-- a begin
first_begins : (site : Site) (words : List ℕ) (a b after : Side) (call : Call) (state : QueueState)
    → SidesShow site words a b state → IsBegun a call after → SidesShow site words after b state
first_begins site words (Pusher pushes) (Popper pops) after (Push value) state shown begun =
    let rested = subst (λ p. Fits site (λ place. slice_index words place) state.waiting state.hand p pops) begun.0 shown.1 in
    subst (λ side. SidesShow site words side (Popper pops) state) (sym begun.1)
    (shown.0, pushing_begins site _ state.waiting state.hand (pushing.Pushes (push.LoadsWrite value)) pops rested)
first_begins site words (Pusher pushes) (Popper pops) after IsFull state shown begun =
    let rested = subst (λ p. Fits site (λ place. slice_index words place) state.waiting state.hand p pops) begun.0 shown.1 in
    subst (λ side. SidesShow site words side (Popper pops) state) (sym begun.1)
    (shown.0, pushing_begins site _ state.waiting state.hand (pushing.Looks full_look.LoadsWrite) pops rested)
first_begins site words (Pusher pushes) (Popper pops) after Pop state shown begun = absurd begun
first_begins site words (Pusher pushes) (Popper pops) after IsEmpty state shown begun = absurd begun
first_begins site words (Pusher pushes) (Pusher other) after call state shown begun = absurd shown
first_begins site words (Popper pops) b after call state shown begun = absurd shown

second_begins : (site : Site) (words : List ℕ) (a b after : Side) (call : Call) (state : QueueState)
    → SidesShow site words a b state → IsBegun b call after → SidesShow site words a after state
second_begins site words (Pusher pushes) (Popper pops) after Pop state shown begun =
    let rested = subst (λ p. Fits site (λ place. slice_index words place) state.waiting state.hand pushes p) begun.0 shown.1 in
    subst (λ side. SidesShow site words (Pusher pushes) side state) (sym begun.1)
    (shown.0, popping_begins site _ state.waiting state.hand pushes (popping.Pops pop.LoadsRead) rested)
second_begins site words (Pusher pushes) (Popper pops) after IsEmpty state shown begun =
    let rested = subst (λ p. Fits site (λ place. slice_index words place) state.waiting state.hand pushes p) begun.0 shown.1 in
    subst (λ side. SidesShow site words (Pusher pushes) side state) (sym begun.1)
    (shown.0, popping_begins site _ state.waiting state.hand pushes (popping.Looks empty_look.LoadsRead) rested)
second_begins site words (Pusher pushes) (Popper pops) after (Push value) state shown begun = absurd begun
second_begins site words (Pusher pushes) (Popper pops) after IsFull state shown begun = absurd begun
second_begins site words (Pusher pushes) (Pusher other) after call state shown begun = absurd shown
second_begins site words (Popper pops) b after call state shown begun = absurd shown

-- what a begin of this party, which leaves it as `after`, is to parties that are these afterwards
abbrev Starts : List ℕ → List PartyView → List PartyView → Call → PartyView → PartyView → Type 0
Starts words parties parties' call after party = after.site ≡ party.site → IsBegun party.side call after.side → Still words parties parties'

starts : (words : List ℕ) (parties : List PartyView) (events : List QueueEvent) (number : ℕ) (call : Call) (party after : PartyView)
    → PartiesAfterCalls words parties events → number < length parties → party ≡ slice_index_or parties number party
    → Starts words parties (slice_set parties number after) call after party
starts words (a ∷ b ∷ []) events zero call party after played below is =
    subst (Starts words (a ∷ b ∷ []) (after ∷ b ∷ []) call after) (sym is) (λ same begun.
    let was = sides_shown a.site words a.side b.side events played.1 in
    record {
      site = a.site;
      state = was.state;
      shown = (refl, played.0, was.shown);
      leads_to = (same, played.0, first_begins a.site words a.side b.side after.side call was.state was.shown begun);
    })
starts words (a ∷ b ∷ []) events (suc zero) call party after played below is =
    subst (Starts words (a ∷ b ∷ []) (a ∷ after ∷ []) call after) (sym is) (λ same begun.
    let was = sides_shown a.site words a.side b.side events played.1 in
    record {
      site = a.site;
      state = was.state;
      shown = (refl, played.0, was.shown);
      leads_to = (refl, same ∙ played.0, second_begins a.site words a.side b.side after.side call was.state was.shown begun);
    })
starts words (a ∷ b ∷ []) events (suc (suc number)) call party after played below is = absurd (omega arith)
starts words [] events number call party after played below is = absurd played
starts words (a ∷ []) events number call party after played below is = absurd played
starts words (a ∷ b ∷ c ∷ others) events number call party after played below is = absurd played

plays_nothing : (machine : QueueMachineState) → QueueInvariant machine → IsInterleaving machine machine
plays_nothing machine holds = still_plays machine.words machine.events machine.parties machine.parties (stays machine.words machine.parties machine.events holds)

begin_plays : (old new : QueueMachineState) (number : ℕ) (call : Call) → QueueInvariant old → QueueBegun old number call new → IsInterleaving old new
begin_plays old new number call holds begun =
    let still = starts old.words old.parties old.events number call begun.party begun.after
    holds begun.is_party.0 begun.is_party.1 begun.begins_with.0 begun.begins_with.1 in
    subst (λ (w : QueueMachineState). IsInterleaving old w) (sym begun.leads_to)
    (still_plays old.words old.events old.parties (slice_set old.parties number begun.after) still)

-- a step
event_plays : (old new : QueueMachineState) (number : ℕ) (answer : Progress QueueReply) → IsEvent old number answer new → IsInterleaving old new
event_plays old new number answer is =
    let run = run_told is.site is.state [] is.state is.event refl is.is_true in
    record {
      site = is.site;
      before = is.state;
      happened = option_to_list (told is.event);
      after = state_after is.event is.state;
      shown = is.shown;
      run = run;
      leads_to = is.leads_to;
      events = is.events;
      order = in_order is.site _ _ _ run;
      outside = is.outside;
    }

step_plays : (old new : QueueMachineState) (number : ℕ) (answer : Progress QueueReply) → QueueInvariant old → QueueStepped old number answer new → IsInterleaving old new
step_plays old new number answer holds step = event_plays old new number answer (event_of old new number answer holds step)

-- one after the other
run_on : (site : Site) (before : QueueState) (happened : List QueueEvent) (mid : QueueState) (more : List QueueEvent) (after : QueueState)
    → Follows site before happened mid → Follows site mid more after → Follows site before (happened ++ more) after
run_on site before [] mid more after run further = subst (λ state. Follows site state more after) run further
run_on site before (first ∷ happened) mid more after run further = (run.0, run_on site (state_after first before) happened mid more after run.1 further)

outside_after : (site : Site) (old mid new : List ℕ) → KeepsOutside site.base (size site) old mid
    → KeepsOutside site.base (size site) mid new → KeepsOutside site.base (size site) old new
outside_after site old mid new first second = (second.0 ∙ first.0, λ place out. second.1 place out ∙ first.1 place out)

-- the second from where the first ended
plays_after : (old mid new : QueueMachineState) → IsInterleaving old mid → IsInterleaving mid new → IsInterleaving old new
plays_after old mid new first second =
    let site : second.site ≡ first.site =
    one_site first.site second.site mid.words mid.parties first.after second.before first.leads_to second.shown in
    let shown = subst (λ at. PartiesShow at mid.words mid.parties second.before) site second.shown in
    let state : second.before ≡ first.after =
    one_state_shown first.site mid.words mid.parties first.after second.before first.leads_to shown in
    let there = subst (λ at. Follows at second.before second.happened second.after) site second.run in
    let further = subst (λ from. Follows first.site from second.happened second.after) state there in
    let run = run_on first.site first.before first.happened first.after second.happened second.after first.run further in
    let outside = subst (λ at. KeepsOutside at.base (size at) mid.words new.words) site second.outside in
    record {
      site = first.site;
      before = first.before;
      happened = first.happened ++ second.happened;
      after = second.after;
      shown = first.shown;
      run = run;
      leads_to = subst (λ at. PartiesShow at new.words new.parties second.after) site second.leads_to;
      events = second.events ∙ ap (λ events. events ++ second.happened) first.events ∙ append_assoc old.events first.happened second.happened;
      order = in_order first.site _ _ _ run;
      outside = outside_after first.site old.words mid.words new.words first.outside outside;
    }

-- from the machine at first to this one
abbrev PlaysFrom : QueueMachineState → QueueMachineState → Type 0
PlaysFrom first now = QueueInvariant now × IsInterleaving first now

begin_plays_on : (first old : QueueMachineState) (number : ℕ) (call : Call) (new : QueueMachineState)
    → PlaysFrom first old → QueueBegun old number call new → PlaysFrom first new
begin_plays_on first old number call new so_far begun = (
  begun_keeps queue_asks QueueLeads queue_happens queue_rests QueueBegins QueueInvariant queue_starts old number call new so_far.0 begun,
  plays_after first old new so_far.1 (begin_plays old new number call so_far.0 begun),
)

step_plays_on : (first old : QueueMachineState) (number : ℕ) (answer : Progress QueueReply) (new : QueueMachineState)
    → PlaysFrom first old → QueueStepped old number answer new → PlaysFrom first new
step_plays_on first old number answer new so_far step = (
  stepped_keeps queue_asks QueueLeads queue_happens queue_rests QueueBegins QueueInvariant queue_keeps old number answer new so_far.0 step,
  plays_after first old new so_far.1 (step_plays old new number answer so_far.0 step),
)

pub schedule_plays : (old new : QueueMachineState) (entries : List (Entry Call)) → QueueInvariant old → AllQueueEntered old entries new → IsInterleaving old new
schedule_plays old new entries holds played =
    let so_far = all_entered_keeps queue_asks QueueLeads queue_happens queue_rests QueueBegins (PlaysFrom old)
    (begin_plays_on old) (step_plays_on old) old entries new (holds, plays_nothing old holds) played in
    so_far.1
