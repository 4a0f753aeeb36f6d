-- No way has more than it may, and few ports that are gone are kept.
use Rattle.std.specs.Prelude.{◌≡◌, ◌⊎◌, ℕ, ◌≤◌, Bool, true, false, ◌||◌, ◌++◌, Option, Some, None, [], length, is_some, slice_get, refl}
use Rattle.std.specs.Option.{option_map_or}
use Rattle.std.proofs.Common.{sym, ap, subst, ◌∙◌, inl, inr, arith}
use Rattle.std.proofs.lemmas.List.{length-map}
use Rattle.std.proofs.lemmas.Option.{none-some}
use Rattle.iox_model.specs.declared.kind.Role.{Role}
use Rattle.iox_model.specs.declared.kind.Role.TheVariants.{Client, Server}
use Rattle.iox_model.specs.declared.way.Way.{Way}
use Rattle.iox_model.specs.Maps.{has_number}
use Rattle.iox_model.specs.Runs.{IsReachableState}
use Rattle.iox_model.specs.Settings.{buffer_of, other_role}
use Rattle.iox_lanes.specs.Lanes.{LaneState}
use Rattle.iox_lanes.specs.Pipes.{PipeState}
use Rattle.iox_laws.proofs.RunLaws.Bounded.{queues_of_the_gone_rest_within}
use Rattle.iox_laws.proofs.WeaveLedger.Lists.{number-among}
use Rattle.iox_laws.specs.RunLaws.Resting.{buffer_to}
use Rattle.iox_tables.specs.HubStates.Tables.{HubTables, PortState, pipe_from, pipes_of, port_in, senders_of}
use Rattle.iox_tables.specs.HubStates.Shown.{waiting_in}
use Rattle.iox_tables.specs.HubStates.States.{Given, expired_in, fixed_of, limits_of, message_of, state_shown}
use Rattle.iox_tables.specs.HubStates.Steps.{is_there}
use Rattle.iox_tables.specs.HubStates.Ways.{lane_on, lanes_from}
use Rattle.iox_tables.specs.HubStates.Wirings.{buffer_from, numbers_of_role, role_in}
use Rattle.iox_tables.specs.HubBooks.Handles.{IsOfPort}
use Rattle.iox_tables.specs.HubBooks.Hubs.{AreInOrder}
use Rattle.iox_tables.specs.HubKeeping.Connected.{KeepsNone}
use Rattle.iox_tables.proofs.HubBooks.Frames.{map_append}
use Rattle.iox_tables.proofs.HubBooks.Sendable.{of_role}
use Rattle.iox_tables.proofs.HubBooks.Used.{handle_is}
use Rattle.iox_tables.proofs.HubBooks.Ways.{between}
use Rattle.iox_tables.proofs.HubKeeping.Absent.{sender_there}
use Rattle.iox_tables.proofs.HubMaking.Firsts.{has_first}
use Rattle.iox_tables.proofs.HubStates.Emptied.{has-append}
use Rattle.iox_tables.proofs.HubStates.Fixing.{role_is}
use Rattle.iox_hub_laws.specs.Gone.{IsBetweenPorts, IsToPort, KeepsFewGone, KeepsNoGone}
use Rattle.iox_hub_laws.specs.Limits.{BuffersHold}

module _ (t : HubTables) (order : AreInOrder t) where
  -- who sends to a port is connected, or the port keeps it
  from_port : (n s : ℕ) (p : PortState) → port_in t.ports n ≡ Some p → has_number s (senders_of (pipes_of p)) ≡ true
      → (is_there t.ports s ≡ true) ⊎ (has_number s (expired_in t.ports n) ≡ true)
  from_port n s p port has =
      either (has_number s (senders_of p.expired.pipes)) refl
      (sym (ap (has_number s) (map_append (λ (q : PipeState). q.sender) p.expired.pipes p.incoming.pipes) ∙ has-append s (senders_of p.expired.pipes) (senders_of p.incoming.pipes)) ∙ has)
    where
      either : (b : Bool) → has_number s (senders_of p.expired.pipes) ≡ b → (b || has_number s (senders_of p.incoming.pipes)) ≡ true
          → (is_there t.ports s ≡ true) ⊎ (has_number s (expired_in t.ports n) ≡ true)
      either true kept e = inr (ap (λ (o : Option PortState). has_number s (option_map_or (λ x. senders_of x.expired.pipes) o [])) port ∙ kept)
      either false kept e =
          let named : has_number s (numbers_of_role (other_role p.role) t.ports) ≡ true = ap (has_number s) (sym (order.wired.each n p port).senders) ∙ e in
          inl (ap (λ (o : Option PortState). is_some o) (of_role t order (other_role p.role) s (number-among s _ named)).1)

  lane_to : (w : Way) (l : LaneState) → lane_on t.ports w ≡ Some l → IsToPort t w
  lane_to w l there = at_port (port_in t.ports w.receiver) refl there
    where
      at_pipe : (p : PortState) → port_in t.ports w.receiver ≡ Some p → (o : Option PipeState) → pipe_from (pipes_of p) w.sender ≡ o
          → slice_get (option_map_or (λ (q : PipeState). q.lanes) o []) w.lane ≡ Some l → IsToPort t w
      at_pipe p port None pipe is = absurd (none-some l is)
      at_pipe p port (Some q) pipe is = record {
        receiver = ap (λ (o : Option PortState). is_some o) port;
        sender = from_port w.receiver w.sender p port
            (has_first (λ (x : PipeState). x.sender) (pipes_of p) w.sender ∙ ap (λ (o : Option PipeState). is_some o) pipe);
      }

      at_port : (o : Option PortState) → port_in t.ports w.receiver ≡ o → slice_get (lanes_from (option_map_or pipes_of o []) w.sender) w.lane ≡ Some l → IsToPort t w
      at_port None port is = absurd (none-some l is)
      at_port (Some p) port is = at_pipe p port (pipe_from (pipes_of p) w.sender) refl is

  pub keeps_few_gone : KeepsFewGone t
  keeps_few_gone = record {
    lanes = lane_to;
    few = λ n p at.
        let kept = order.wired.kept n p at in
        let few = kept.few in
        let room = kept.room in
        let same = ap (λ (o : Option PortState). length (option_map_or (λ x. senders_of x.expired.pipes) o [])) at ∙ length-map p.expired.pipes (λ (q : PipeState). q.sender) in
        omega (arith, few, room, same);
    handles = λ node n h named. let p = handle_is (IsOfPort t) t.handles node n h order.ports named in ap is_some p.there;
  }

  -- where nothing is kept
  module _ (none : KeepsNone t.settings) where
    lane_between : (w : Way) (l : LaneState) → lane_on t.ports w ≡ Some l → IsBetweenPorts t w
    lane_between w l there = let p = between t order w l there (sender_there t order none w l there) in record { sender = ap is_some p.from; receiver = ap is_some p.to }

    pub keeps_no_gone : KeepsNoGone t
    keeps_no_gone = record { lanes = lane_between; handles = keeps_few_gone.handles }

  module _ (x : Given) (reached : IsReachableState (state_shown x t)) where
    pub buffers_hold : BuffersHold t
    buffers_hold w l there =
        subst (λ n. length l.waiting ≤ n)
        (ap (λ role. buffer_of (limits_of x t) (other_role role)) (role_is x t w.receiver) ∙ room_of (other_role (role_in t.ports w.receiver)))
        (subst (λ n. n ≤ buffer_to (fixed_of x t) w)
        (ap (λ o. length (option_map_or (waiting_in (message_of x t.pools)) o [])) there ∙ length-map l.waiting (message_of x t.pools l.pool))
        (queues_of_the_gone_rest_within (state_shown x t) w reached))
      where
        room_of : (role : Role) → buffer_of (limits_of x t) role ≡ buffer_from t.settings role
        room_of Client = refl
        room_of Server = refl
