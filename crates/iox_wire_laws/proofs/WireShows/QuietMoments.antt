-- No access brings the id of a request but where a send opens a state and where a hint is given.
use Rattle.std.specs.Prelude.{not, ◌&&◌}
use Rattle.std.proofs.Common.{ℕ, Bool, true, false, if◌then◌else◌, ◌==◌, Option, Some, None}
use Rattle.iox_model.specs.declared.way.Way.{Way}
use Rattle.iox_model.specs.Maps.{or_else}
use Rattle.iox_model.specs.Messages.{names, names_with_hint}
use Rattle.iox_model.specs.Moments.{Moment, Open, Close, Hint, Look}
use Rattle.iox_steps.specs.declared.side.Pushing.TheVariants as pushing
use Rattle.iox_steps.specs.declared.side.Popping.TheVariants as popping
use Rattle.iox_steps.specs.declared.side.QueueEvent.{QueueEvent}
use Rattle.iox_steps.specs.declared.side.QueueEvent.TheVariants as events
use Rattle.iox_steps.specs.Pops.{pop_event, empty_look_event}
use Rattle.iox_steps.specs.Pushes.{push_event, full_look_event}
use Rattle.iox_word_map.specs.WordMaps.{MessageQueue, ReturningQueue}
use Rattle.iox_wire_words.specs.Programs.{WireLayout, Program, Pushes, Pops, site_of}
use Rattle.iox_wire_moments.specs.MomentsOf.{Pools, moment_of, push_moment, full_look_moment, pop_moment, empty_look_moment, give_back_moment, get_back_moment}
use Rattle.iox_wire_locals.specs.declared.local.Local.{Local}
use Rattle.iox_wire_locals.specs.declared.local.Local.TheVariants.{LendEmpties, SendAsks, SendEmpties, SendLooks, SendOpens, SendPushes, SendEvicts, SendGetsBack, ReceiveLooks, ReceivePops, ReceiveAsks, ReceiveReturns, ReleaseCloses, ReleaseReturns, ReleaseLooks, ReleaseExchanges, Checks, Hints, HintExchanges, Seeks}
use Rattle.iox_wire_locals.specs.Locals.{program_of, state_told}
use Rattle.iox_wire_locals.specs.StateMoments.{moment_at}
use Rattle.iox_wire_locals.specs.Tables.{Setting}

-- the moment, if there is one, neither opens a state nor hints
abbrev pub BringsNoId : Option Moment → Type 0
BringsNoId (Some (Open z id)) = ⊥
BringsNoId (Some (Hint z id)) = ⊥
BringsNoId o = Unit {0}

-- the place neither opens a state nor hints
abbrev pub IsQuiet : Local → Type 0
IsQuiet (SendOpens d w left full) = ⊥
IsQuiet (HintExchanges e w left) = ⊥
IsQuiet local = Unit {0}

-- ---- moments of queues bring none

pushed : (held : Pools) (y : Way) (e : QueueEvent) → BringsNoId (or_else (push_moment held y e) None)
pushed held y (events.Publish slot) = tt
pushed held y events.Evict = tt
pushed held y (events.Learn slot) = tt
pushed held y e = tt

seen_full : (y : Way) (e : QueueEvent) → BringsNoId (or_else (full_look_moment y e) None)
seen_full y events.SeesFull = tt
seen_full y events.SeesRoom = tt
seen_full y e = tt

popped : (held : Pools) (y : Way) (e : QueueEvent) → BringsNoId (or_else (pop_moment held y e) None)
popped held y (events.HandOut slot) = tt
popped held y events.SeesEmpty = tt
popped held y e = tt

seen_empty : (y : Way) (e : QueueEvent) → BringsNoId (or_else (empty_look_moment y e) None)
seen_empty y events.SeesEmpty = tt
seen_empty y events.SeesWaiting = tt
seen_empty y e = tt

given : (held : Pools) (y : Way) (e : QueueEvent) → BringsNoId (or_else (give_back_moment held y e) None)
given held y (events.Publish slot) = tt
given held y e = tt

got : (held : Pools) (y : Way) (e : QueueEvent) → BringsNoId (or_else (get_back_moment held y e) None)
got held y (events.HandOut slot) = tt
got held y events.SeesEmpty = tt
got held y e = tt

of_queue : (l : WireLayout) (held : Pools) (program : Program) (seen : ℕ) → BringsNoId (or_else (moment_of l held program seen) None)
of_queue l held (Pushes (MessageQueue y) (pushing.Pushes place)) seen = pushed held y (push_event (site_of l (MessageQueue y)) place seen)
of_queue l held (Pushes (MessageQueue y) (pushing.Looks place)) seen = seen_full y (full_look_event (site_of l (MessageQueue y)) place seen)
of_queue l held (Pops (MessageQueue y) (popping.Pops place)) seen = popped held y (pop_event (site_of l (MessageQueue y)) place seen)
of_queue l held (Pops (MessageQueue y) (popping.Looks place)) seen = seen_empty y (empty_look_event (site_of l (MessageQueue y)) place seen)
of_queue l held (Pushes (ReturningQueue y) (pushing.Pushes place)) seen = given held y (push_event (site_of l (ReturningQueue y)) place seen)
of_queue l held (Pops (ReturningQueue y) (popping.Pops place)) seen = got held y (pop_event (site_of l (ReturningQueue y)) place seen)
of_queue l held program seen = tt

-- ---- place by place

either : (b : Bool) (k l : Option Moment) → BringsNoId k → BringsNoId l → BringsNoId (if b then k else l)
either true k l a b = a
either false k l a b = b

module _ (p : Setting) (held : Pools) where
  leaving : (y : Way) (id seen : ℕ) → BringsNoId (if names (state_told seen) id then Some (Look y (state_told seen)) else Some (Close y id))
  leaving y id seen = either (names (state_told seen) id) (Some (Look y (state_told seen))) (Some (Close y id)) tt tt

  pub brings_no_id : (local : Local) (seen : ℕ) → IsQuiet local → BringsNoId (moment_at p held local seen)
  brings_no_id (SendAsks d) seen free = tt
  brings_no_id (SendOpens d w left full) seen free = absurd free
  brings_no_id (ReceiveAsks v w slot header left waiting) seen free = tt
  brings_no_id (ReleaseCloses e w left) seen free = tt
  brings_no_id (ReleaseLooks e) seen free = leaving _ e.request seen
  brings_no_id (ReleaseExchanges e old) seen free = either (seen == old) _ _ tt (leaving _ e.request seen)
  brings_no_id (Checks e hinted w left) seen free = tt
  brings_no_id (Hints e w left) seen free =
      either (names (state_told seen) e.request && not (names_with_hint (state_told seen) e.request)) _ _ tt tt
  brings_no_id (HintExchanges e w left) seen free = absurd free
  brings_no_id (LendEmpties o w place left) seen free = of_queue p.layout held (program_of p (LendEmpties o w place left)) seen
  brings_no_id (SendEmpties d w place left) seen free = of_queue p.layout held (program_of p (SendEmpties d w place left)) seen
  brings_no_id (SendLooks d w place left full) seen free = of_queue p.layout held (program_of p (SendLooks d w place left full)) seen
  brings_no_id (SendPushes d last w place left count) seen free = of_queue p.layout held (program_of p (SendPushes d last w place left count)) seen
  brings_no_id (SendEvicts d w place left count) seen free = of_queue p.layout held (program_of p (SendEvicts d w place left count)) seen
  brings_no_id (SendGetsBack d w place left count) seen free = of_queue p.layout held (program_of p (SendGetsBack d w place left count)) seen
  brings_no_id (ReceiveLooks v w place left waiting) seen free = of_queue p.layout held (program_of p (ReceiveLooks v w place left waiting)) seen
  brings_no_id (ReceivePops v w more place left waiting) seen free = of_queue p.layout held (program_of p (ReceivePops v w more place left waiting)) seen
  brings_no_id (ReceiveReturns v w slot place left waiting) seen free =
      of_queue p.layout held (program_of p (ReceiveReturns v w slot place left waiting)) seen
  brings_no_id (ReleaseReturns e place) seen free = of_queue p.layout held (program_of p (ReleaseReturns e place)) seen
  brings_no_id (Seeks w place left) seen free = of_queue p.layout held (program_of p (Seeks w place left)) seen
  brings_no_id local seen free = tt
