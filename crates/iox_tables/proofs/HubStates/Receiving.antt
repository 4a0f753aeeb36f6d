-- Receives are the machine's.
use Rattle.std.specs.Prelude.{◌≡◌, ℕ, ◌+◌, ◌<◌, ◌^◌, Bool, true, false, if◌then◌else◌, ◌==◌, List, [], ◌∷◌, ◌++◌, nat_le, Option, Some, None, slice_get, refl}
use Rattle.std.specs.Option.{option_map_or}
use Rattle.std.proofs.Common.{sym, ap, ap₂, ◌∙◌, arith, eqb-true}
use Rattle.iox_model.specs.declared.way.Way.{Way}
use Rattle.iox_model.specs.declared.way.RequestState.{RequestState}
use Rattle.iox_model.specs.declared.kind.Role.{Role}
use Rattle.iox_model.specs.declared.kind.Role.TheVariants.{Client, Server}
use Rattle.iox_model.specs.declared.call.Call.TheVariants.{Receive}
use Rattle.iox_model.specs.declared.reply.Refusal.TheVariants.{CallsSpent}
use Rattle.iox_model.specs.Commands.{Refusal, Reply}
use Rattle.iox_model.specs.Counts.{borrows, called, received_handle, with_fixed}
use Rattle.iox_model.specs.Doings.{Receiver}
use Rattle.iox_model.specs.Ends.{settled}
use Rattle.iox_model.specs.Handles.{subject}
use Rattle.iox_model.specs.Maps.{put_at, refused_if, AreDistinct}
use Rattle.iox_model.specs.Names.{misnamed}
use Rattle.iox_model.specs.States as m
use Rattle.iox_model.specs.WholeCalls.{replied, spent}
use Rattle.iox_laws.specs.CallFunctions.Answers.{answered, unless}
use Rattle.iox_laws.specs.CallFunctions.Searches as calls
use Rattle.iox_lanes.specs.declared.wanted.Wanted.{Wanted}
use Rattle.iox_lanes.specs.declared.incoming.Visits.{Visits}
use Rattle.iox_lanes.specs.declared.incoming.Visits.TheVariants.{Got, AtLimit, Nothing}
use Rattle.iox_lanes.specs.Pipes.{PipeState}
use Rattle.iox_lanes.specs.Visited.{all_visited}
use Rattle.iox_tables.specs.HubStates.Tables.{HubTables, HandleState, PortState, labels_of, pipes_of, pipes_to, port_in, senders_of}
use Rattle.iox_tables.specs.HubStates.Ways.{OnWays, lane_by, lane_on, state_by, state_on, states_from}
use Rattle.iox_tables.specs.HubStates.Shown.{MessagesByPlace, borrowed_in, shown}
use Rattle.iox_tables.specs.HubStates.States.{Given, fixed_of, handle_of, handles_in, message_of, state_shown}
use Rattle.iox_tables.specs.HubStates.Receives.{got_handle, got_reply, outcome_of, visited_port, visits_at, way_to, ways_to, with_got, with_visited}
use Rattle.iox_tables.proofs.HubStates.Borrows.{borrowed_by, borrows_are, both_left, same_left, states_left}
use Rattle.iox_tables.proofs.HubStates.Fixing.{Leaves, fixed_left, handle_added, pipes_put}
use Rattle.iox_tables.proofs.HubStates.Pipes.{lanes, put_at_same}
use Rattle.iox_tables.proofs.HubStates.Visits.{AllFit, visited_is}

module _ (x : Given) (t : HubTables) (n lane request : ℕ) (role : Role) (wanted : Wanted) (port : PortState) (there : port_in t.ports n ≡ Some port) where
  abbrev pub f : m.Fixed
  f = fixed_of x t

  abbrev pub message : MessagesByPlace
  message = message_of x t.pools

  abbrev pub base : ℕ → List PipeState
  base = pipes_to t.ports

  abbrev pub r : Receiver
  r = record { port = n; role = role; lane = lane; request = request }

  abbrev after : List PipeState
  after = all_visited wanted (labels_of t.pools) lane (base n)

  abbrev left : m.State
  left = shown x.members f message (lanes base n lane after) (state_on t.ports)

  abbrev pub nobody : (k : ℕ) → f.forgot k ≡ []
  nobody k = refl

  -- what visits leave of a port
  visits_leave : Leaves (visited_port wanted (labels_of t.pools) lane)
  visits_leave = record {
    number = λ p. refl;
    port = λ y p. refl;
    loans = λ p. refl;
    expired = λ p. same_left wanted (labels_of t.pools) lane p.expired.pipes;
  }

  pub pipes_are : pipes_of port ≡ base n
  pipes_are = ap (λ o. option_map_or pipes_of o []) (sym there)

  pipes_left : pipes_to (with_visited t n lane wanted).ports ≡ put_at base n after
  pipes_left =
      pipes_put (visited_port wanted (labels_of t.pools) lane) visits_leave t.ports n port there
      ∙ ap (put_at base n) (both_left wanted (labels_of t.pools) lane port ∙ ap (all_visited wanted (labels_of t.pools) lane) pipes_are)

  states_after : state_on (with_visited t n lane wanted).ports ≡ state_on t.ports
  states_after = ap state_by pipes_left ∙ (λ i w. step w (w.sender == n) refl i)
    where
      step : (w : Way) (b : Bool) → (w.sender == n) ≡ b
          → slice_get (states_from (if b then after else base w.sender) w.receiver) w.lane ≡ slice_get (states_from (base w.sender) w.receiver) w.lane
      step w true e = ap (λ ss. slice_get ss w.lane)
          (states_left wanted (labels_of t.pools) lane (base n) w.receiver ∙ ap (λ k. states_from (base k) w.receiver) (sym (eqb-true w.sender n e)))
      step w false e = refl

  -- ---- the visits

  pub visits_are : (states : OnWays RequestState) → states ≡ state_on t.ports
      → AllFit x.members f message states base r wanted (labels_of t.pools) nobody (base n) → AreDistinct (senders_of (base n))
      → calls.visited (state_shown x t) r (ways_to r (base n)) false ≡ (outcome_of message r (visits_at t n lane wanted), left)
  visits_are states same fit apart =
      ap (λ (g : OnWays _). calls.visited (shown x.members f message g (state_on t.ports)) r (ways_to r (base n)) false) (ap lane_by (sym (put_at_same base n)))
      ∙ ap (λ ss. calls.visited (shown x.members f message (lanes base n lane (base n)) ss) r (ways_to r (base n)) false) (sym same)
      ∙ visited_is x.members f message states base r wanted (labels_of t.pools) nobody [] (base n) false fit apart
      ∙ ap (λ ss. (outcome_of message r (visits_at t n lane wanted), shown x.members f message (lanes base n lane after) ss)) same

  -- ---- the end of the call

  borrowed_is : AreDistinct (senders_of (base n)) → borrowed_in (lane_on (with_visited t n lane wanted).ports) ≡ borrowed_by n lane (visits_at t n lane wanted) f.borrowed
  borrowed_is apart =
      ap (λ pipes. borrowed_in (lane_by pipes)) pipes_left
      ∙ borrows_are base n lane wanted (labels_of t.pools) [] (base n) false apart
      ∙ ap (λ pipes. borrowed_by n lane (visits_at t n lane wanted) (borrowed_in (lane_by pipes))) (put_at_same base n)

  -- the state that the tables show once the visits are made
  pub left_is : AreDistinct (senders_of (base n))
      → state_shown x (with_visited t n lane wanted) ≡ with_fixed left (record f { borrowed = borrowed_by n lane (visits_at t n lane wanted) f.borrowed })
  left_is apart = λ i. shown x.members
      ((fixed_left (visited_port wanted (labels_of t.pools) lane) visits_leave x t n ∙ ap (λ g. record f { borrowed = g }) (borrowed_is apart)) i)
      message (lane_by (pipes_left i)) (states_after i)

  pub fixed_is : AreDistinct (senders_of (base n))
      → fixed_of x (with_visited t n lane wanted) ≡ record f { borrowed = borrowed_by n lane (visits_at t n lane wanted) f.borrowed }
  fixed_is apart = fixed_left (visited_port wanted (labels_of t.pools) lane) visits_leave x t n ∙ ap (λ g. record f { borrowed = g }) (borrowed_is apart)

  handle_is : (role : Role) (node pool k : ℕ)
      → handle_of x message (got_handle t node role n pool k) ≡ received_handle f node (record { port = n; role = role; lane = lane; request = request }) (message pool k)
  handle_is Client node pool k = refl
  handle_is Server node pool k = refl

  -- the end of the call
  pub settled_is : (node : ℕ) → AreDistinct (senders_of (base n)) → (v : Visits) → v ≡ visits_at t n lane wanted
      → settled left node [] (outcome_of message r v) ≡ state_shown x (with_got (with_visited t n lane wanted) node role n v)
  settled_is node apart AtLimit is =
      sym (left_is apart ∙ ap (λ u. with_fixed left (record f { borrowed = borrowed_by n lane u f.borrowed })) (sym is))
  settled_is node apart Nothing is =
      sym (ap (λ (s : m.State). with_fixed s (called s.fixed)) (left_is apart ∙ ap (λ u. with_fixed left (record f { borrowed = borrowed_by n lane u f.borrowed })) (sym is)))
  settled_is node apart (Got sender pool k) is =
      let more : HandleState = got_handle t node role n pool k in
      let old : state_shown x (with_visited t n lane wanted) ≡ with_fixed left (borrows f (way_to r sender))
      = left_is apart ∙ ap (λ u. with_fixed left (record f { borrowed = borrowed_by n lane u f.borrowed })) (sym is) in
      sym (ap (λ (s : m.State). with_fixed s (record (s.fixed) { handles = handles_in x message (t.handles ++ more ∷ []); next_number = t.next_number + 1; calls = t.calls + 1 })) old
      ∙ (λ i. with_fixed left (record (borrows f (way_to r sender)) {
        handles = (handle_added x message more t.handles ∙ ap (λ h. put_at f.handles node (f.handles node ++ h ∷ [])) (handle_is role node pool k)) i;
        next_number = t.next_number + 1;
        calls = t.calls + 1;
      })))

  reply_is : (node : ℕ) (v : Visits) → replied f node (outcome_of message r v) ≡ got_reply t v
  reply_is node (Got sender pool k) = refl
  reply_is node AtLimit = refl
  reply_is node Nothing = refl

  -- The call, of what the number names.
  pub received_is : (node number : ℕ) → t.calls < 2 ^ 56 → misnamed f node (Receive number) ≡ None
      → calls.received_from (state_shown x t) (subject f node number) ≡ calls.visited (state_shown x t) r (ways_to r (base n)) false
      → AllFit x.members f message (state_on t.ports) base r wanted (labels_of t.pools) nobody (base n) → AreDistinct (senders_of (base n))
      → calls.received (state_shown x t) node number
      ≡ (got_reply t (visits_at t n lane wanted), state_shown x (with_got (with_visited t n lane wanted) node role n (visits_at t n lane wanted)))
  received_is node number below named from fit apart =
      ap₂ (λ (o q : Option Refusal). unless o (state_shown x t) (unless q (state_shown x t) (answered (state_shown x t) node (calls.received_from (state_shown x t) (subject f node number))))) named unspent
      ∙ ap (answered (state_shown x t) node) (from ∙ visits_are (state_on t.ports) refl fit apart)
      ∙ ap₂ (λ (a : Reply) (b : m.State). (a, b)) (reply_is node (visits_at t n lane wanted)) (settled_is node apart (visits_at t n lane wanted) refl)
    where
      spent_at : (k : ℕ) → k < 2 ^ 56 → nat_le (2 ^ 56) k ≡ false
      spent_at k h = grind (arith, h)

      unspent : spent f (Receive number) ≡ None
      unspent = ap (λ c. refused_if c CallsSpent) (spent_at t.calls below)
