-- An access changes a desk as its moment changes the machine's record, place by place.
use Rattle.std.specs.Prelude.{not, ◌&&◌}
use Rattle.std.proofs.Common.{ℕ, Bool, true, false, if◌then◌else◌, ◌==◌, Some, None, refl}
use Rattle.iox_model.specs.declared.way.RequestState.TheVariants.{Named}
use Rattle.iox_model.specs.declared.way.Way.{Way}
use Rattle.iox_model.specs.Maps.{or_else}
use Rattle.iox_model.specs.Messages.{names, names_with_hint}
use Rattle.iox_model.specs.Moments.{Close, Hint}
use Rattle.iox_model.specs.States.{State}
use Rattle.iox_steps.specs.declared.push.Push.TheVariants as push
use Rattle.iox_steps.specs.declared.side.Popping.TheVariants as popping
use Rattle.iox_steps.specs.declared.side.Pushing.TheVariants as pushing
use Rattle.iox_steps.specs.declared.side.QueueEvent.{QueueEvent}
use Rattle.iox_steps.specs.declared.side.QueueEvent.TheVariants.{Evict, HandOut, Learn, Publish, Quiet, SeesEmpty, SeesEnd, SeesFull, SeesRoom, SeesWaiting}
use Rattle.iox_steps.specs.Pops.{empty_look_event, pop_event}
use Rattle.iox_steps.specs.Pushes.{full_look_event, push_event, room_event}
use Rattle.iox_steps.specs.Sites.{is_full, last_position}
use Rattle.iox_word_map.specs.WordMaps.{MessageQueue, ReturningQueue}
use Rattle.iox_wire_words.specs.Programs.{site_of}
use Rattle.iox_wire_moments.specs.MomentsOf.{Pools, empty_look_moment, full_look_moment, get_back_moment, give_back_moment, pop_moment, push_moment}
use Rattle.iox_wire_locals.specs.declared.local.Local.{Local}
use Rattle.iox_wire_locals.specs.declared.local.Local.TheVariants.{Checks, Ends, HintExchanges, Hints, Idle, LendEmpties, LendStores, Reads, ReceiveAsks, ReceiveLoads, ReceiveLooks, ReceivePops, ReceiveReturns, ReleaseCloses, ReleaseExchanges, ReleaseLooks, ReleaseReturns, Seeks, SendAsks, SendEmpties, SendEnds, SendEvicts, SendGetsBack, SendLooks, SendOpens, SendPushes, Writes}
use Rattle.iox_wire_locals.specs.declared.seat.Seat.{Seat}
use Rattle.iox_wire_locals.specs.declared.table.Entry.{Entry}
use Rattle.iox_wire_locals.specs.Locals.{state_told, state_word}
use Rattle.iox_wire_locals.specs.StateMoments.{leaving_moment, looked, moment_at}
use Rattle.iox_wire_locals.specs.StepLaws.{ReliesOn}
use Rattle.iox_wire_locals.specs.Tables.{Setting, state_in, way_in}
use Rattle.iox_wire_stands.specs.Following.{desk_change, popped_back, delivers_published}
use Rattle.iox_wire_stands.specs.FollowingLaws.{DesksFollowMoments, IsMomentOf, LeavesAll}

module _ (held : Pools) (port : ℕ) (w : Way) where
  -- a pop from a returning queue
  gets_back : (event : QueueEvent) → IsMomentOf held (popped_back port w event) (or_else (get_back_moment held w event) None)
  gets_back (HandOut slot) = refl
  gets_back SeesEmpty = tt
  gets_back event = tt

  -- a push that delivers learns nothing
  abbrev IsNoLearn : QueueEvent → Type 0
  IsNoLearn (Learn slot) = ⊥
  IsNoLearn event = Unit {0}

  delivers : (event : QueueEvent) → IsNoLearn event → IsMomentOf held (delivers_published port w event) (or_else (push_moment held w event) None)
  delivers (Publish slot) other = refl
  delivers (Learn slot) other = absurd other
  delivers Evict other = tt
  delivers event other = tt

  no_learn : (b : Bool) (event other : QueueEvent) → IsNoLearn event → IsNoLearn other → IsNoLearn (if b then event else other)
  no_learn true event other here there = here
  no_learn false event other here there = there

-- looks and takes
module _ (held : Pools) (w : Way) where
  full : (event : QueueEvent) → LeavesAll (or_else (full_look_moment w event) None)
  full SeesFull = tt
  full SeesRoom = tt
  full event = tt

  empty : (event : QueueEvent) → LeavesAll (or_else (empty_look_moment w event) None)
  empty SeesEmpty = tt
  empty SeesWaiting = tt
  empty event = tt

  pops : (event : QueueEvent) → LeavesAll (or_else (pop_moment held w event) None)
  pops (HandOut slot) = tt
  pops SeesEmpty = tt
  pops event = tt

  gives_back : (event : QueueEvent) → LeavesAll (or_else (give_back_moment held w event) None)
  gives_back (Publish slot) = tt
  gives_back event = tt

  evicts : (b : Bool) → LeavesAll (or_else (push_moment held w (if b then Evict else Quiet)) None)
  evicts true = tt
  evicts false = tt

-- request states
leaves : (b : Bool) (e : Entry) (seen : ℕ) → LeavesAll (if b then looked (state_in e) seen else Some (Close (state_in e) e.request))
leaves true e seen = tt
leaves false e seen = tt

exchanges : (b : Bool) (e : Entry) (seen : ℕ) → LeavesAll (if b then Some (Close (state_in e) e.request) else leaving_moment e seen)
exchanges true e seen = tt
exchanges false e seen = leaves (names (state_told seen) e.request) e seen

hints : (b : Bool) (w : Way) (seen : ℕ) → LeavesAll (if b then None else looked w seen)
hints true w seen = tt
hints false w seen = tt

gives_hint : (b : Bool) (w : Way) (id seen : ℕ) → LeavesAll (if b then Some (Hint w id) else looked w seen)
gives_hint true w id seen = tt
gives_hint false w id seen = tt

module _ (p : Setting) (held : Pools) (s : State) (x : Seat) (seen : ℕ) where
  pub follows : (local : Local) → ReliesOn p x s held local seen → IsMomentOf held (desk_change p local seen) (moment_at p held local seen)
  follows Idle relies = absurd relies
  follows (Ends ending) relies = absurd relies
  follows (SendEnds d last count) relies = absurd relies
  follows (LendEmpties o w (popping.Pops place) left) relies = gets_back held o.port w (pop_event (site_of p.layout (ReturningQueue w)) place seen)
  follows (LendEmpties o w (popping.Looks place) left) relies = absurd relies
  follows (LendEmpties o w popping.AtRest left) relies = absurd relies
  follows (LendStores o slot next) relies = tt
  follows (Writes e words next) relies = tt
  follows (SendAsks d) relies = tt
  follows (SendEmpties d w (popping.Pops place) left) relies = gets_back held d.loan.port w (pop_event (site_of p.layout (ReturningQueue w)) place seen)
  follows (SendEmpties d w (popping.Looks place) left) relies = absurd relies
  follows (SendEmpties d w popping.AtRest left) relies = absurd relies
  follows (SendLooks d w (pushing.Looks place) left all) relies = full held w (full_look_event (site_of p.layout (MessageQueue w)) place seen)
  follows (SendLooks d w (pushing.Pushes place) left all) relies = absurd relies
  follows (SendLooks d w pushing.AtRest left all) relies = absurd relies
  follows (SendOpens d w left all) relies = tt
  follows (SendPushes d last w (pushing.Pushes (push.LoadsWrite value)) left count) relies = tt
  follows (SendPushes d last w (pushing.Pushes (push.LoadsRead value write)) left count) relies =
      delivers held d.loan.port w (push_event (site_of p.layout (MessageQueue w)) (push.LoadsRead value write) seen)
      (no_learn held d.loan.port w (write == last_position) SeesEnd (room_event (site_of p.layout (MessageQueue w)) seen write) tt
      (no_learn held d.loan.port w (is_full (site_of p.layout (MessageQueue w)) seen write) SeesFull SeesRoom tt tt))
  follows (SendPushes d last w (pushing.Pushes (push.StoresCell value cell next all)) left count) relies = tt
  follows (SendPushes d last w (pushing.Pushes (push.StoresWrite value next all)) left count) relies = refl
  follows (SendPushes d last w (pushing.Pushes (push.Evicts read)) left count) relies = absurd relies
  follows (SendPushes d last w (pushing.Pushes (push.TakesOld cell)) left count) relies = absurd relies
  follows (SendPushes d last w (pushing.Looks place) left count) relies = absurd relies
  follows (SendPushes d last w pushing.AtRest left count) relies = absurd relies
  follows (SendEvicts d w (pushing.Pushes (push.Evicts read)) left count) relies = evicts held w (seen == read)
  follows (SendEvicts d w (pushing.Pushes (push.LoadsWrite value)) left count) relies = absurd relies
  follows (SendEvicts d w (pushing.Pushes (push.LoadsRead value write)) left count) relies = absurd relies
  follows (SendEvicts d w (pushing.Pushes (push.StoresCell value cell next all)) left count) relies = absurd relies
  follows (SendEvicts d w (pushing.Pushes (push.StoresWrite value next all)) left count) relies = absurd relies
  follows (SendEvicts d w (pushing.Pushes (push.TakesOld cell)) left count) relies = absurd relies
  follows (SendEvicts d w (pushing.Looks place) left count) relies = absurd relies
  follows (SendEvicts d w pushing.AtRest left count) relies = absurd relies
  follows (SendGetsBack d w (pushing.Pushes (push.TakesOld cell)) left count) relies = refl
  follows (SendGetsBack d w (pushing.Pushes (push.LoadsWrite value)) left count) relies = absurd relies
  follows (SendGetsBack d w (pushing.Pushes (push.LoadsRead value write)) left count) relies = absurd relies
  follows (SendGetsBack d w (pushing.Pushes (push.StoresCell value cell next all)) left count) relies = absurd relies
  follows (SendGetsBack d w (pushing.Pushes (push.StoresWrite value next all)) left count) relies = absurd relies
  follows (SendGetsBack d w (pushing.Pushes (push.Evicts read)) left count) relies = absurd relies
  follows (SendGetsBack d w (pushing.Looks place) left count) relies = absurd relies
  follows (SendGetsBack d w pushing.AtRest left count) relies = absurd relies
  follows (ReceiveLooks v w (popping.Looks place) left waiting) relies = empty held w (empty_look_event (site_of p.layout (MessageQueue w)) place seen)
  follows (ReceiveLooks v w (popping.Pops place) left waiting) relies = absurd relies
  follows (ReceiveLooks v w popping.AtRest left waiting) relies = absurd relies
  follows (ReceivePops v w more (popping.Pops place) left waiting) relies = pops held w (pop_event (site_of p.layout (MessageQueue w)) place seen)
  follows (ReceivePops v w more (popping.Looks place) left waiting) relies = absurd relies
  follows (ReceivePops v w more popping.AtRest left waiting) relies = absurd relies
  follows (ReceiveLoads v w slot header left waiting) relies = tt
  follows (ReceiveAsks v w slot header left waiting) relies = tt
  follows (ReceiveReturns v w slot (pushing.Pushes place) left waiting) relies = gives_back held w (push_event (site_of p.layout (ReturningQueue w)) place seen)
  follows (ReceiveReturns v w slot (pushing.Looks place) left waiting) relies = absurd relies
  follows (ReceiveReturns v w slot pushing.AtRest left waiting) relies = absurd relies
  follows (Reads e words) relies = tt
  follows (ReleaseCloses e w left) relies = tt
  follows (ReleaseReturns e (pushing.Pushes place)) relies =
      gives_back held (way_in e) (push_event (site_of p.layout (ReturningQueue (way_in e))) place seen)
  follows (ReleaseReturns e (pushing.Looks place)) relies = absurd relies
  follows (ReleaseReturns e pushing.AtRest) relies = absurd relies
  follows (ReleaseLooks e) relies = leaves (names (state_told seen) e.request) e seen
  follows (ReleaseExchanges e old) relies = exchanges (seen == old) e seen
  follows (Checks e hinted w left) relies = tt
  follows (Hints e w left) relies = hints (names (state_told seen) e.request && not (names_with_hint (state_told seen) e.request)) w seen
  follows (HintExchanges e w left) relies = gives_hint (seen == state_word (Named e.request false)) w e.request seen
  follows (Seeks w (popping.Looks place) left) relies = empty held w (empty_look_event (site_of p.layout (MessageQueue w)) place seen)
  follows (Seeks w (popping.Pops place) left) relies = absurd relies
  follows (Seeks w popping.AtRest left) relies = absurd relies

pub desks_follow_moments : DesksFollowMoments
desks_follow_moments p held s x local seen relies = follows p held s x seen local relies
