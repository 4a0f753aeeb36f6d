-- A hub is one from its start on, and stays one as ports come and go.
use Rattle.std.specs.Prelude.{◌≡◌, ℕ, Bool, true, if◌then◌else◌, List, [], Option, Some, None, is_some, refl}
use Rattle.std.specs.Option.{option_map, option_map_or}
use Rattle.std.proofs.Common.{sym, ap, ap₂, subst, ◌∙◌}
use Rattle.iox_laws.proofs.WeaveLaws.MapLemmas.{eqb-refl}
use Rattle.iox_tables.specs.HubStates.Steps.{is_there}
use Rattle.iox_tables.proofs.HubMaking.Unholding.{port_is, unheld}
use Rattle.iox_model.specs.declared.call.Call.TheVariants.{Release}
use Rattle.iox_model.specs.declared.reply.Reply.TheVariants.{Done}
use Rattle.iox_model.specs.Commands.{Reply}
use Rattle.iox_model.specs.Runs.{IsReachableState}
use Rattle.iox_model.specs.States as m
use Rattle.iox_laws.specs.CallFunctions.Releases.{released_by}
use Rattle.iox_tables.specs.HubStates.Tables.{HubTables, PoolState, PortState, SlotState, pool_at, port_in}
use Rattle.iox_tables.specs.HubStates.Ends.{DifferInHolders}
use Rattle.iox_tables.specs.HubStates.Releases.{with_value_released}
use Rattle.iox_tables.specs.HubStates.States.{no_id, node_id_of, port_id_of, state_shown}
use Rattle.iox_tables.proofs.HubStates.Holding.{holders_are_not_shown}
use Rattle.iox_tables.specs.HubBooks.Hubs.{AreInOrder, TablesAreReached}
use Rattle.iox_tables.specs.HubBooks.Keeps.{bare_pool, bare_pools}
use Rattle.iox_tables.specs.HubBooks.Reached.{IsCallReached}
use Rattle.iox_tables.proofs.HubBooks.Reaching.{each_call_is_reached}
use Rattle.iox_tables.proofs.HubBooks.Structures.{pool_bare, same_owner, same_serial, same_slot}
use Rattle.iox_tables.specs.HubMaking.Disconnections.{is_unused, with_disconnected}
use Rattle.iox_tables.specs.HubMaking.NewPorts.{given_made, port_made}
use Rattle.iox_tables.proofs.HubMaking.Ending.{ports_end}
use Rattle.iox_tables.proofs.HubMaking.Pooling.{free_pools_may_go}
use Rattle.iox_tables.proofs.HubMaking.Reaching.{makings_are_reached, starts_are_reached}
use Rattle.iox_tables.specs.HubKeeping.Hubs.{HubsDropPools, HubsReleasePorts, HubsStart, HubsTakePorts, LeavesTables, PortIsReleased}
use Rattle.iox_tables.proofs.HubKeeping.GonePools.{pools_may_go}
use Rattle.iox_tables.proofs.HubKeeping.LeftHandles.{disconnections_keep_order}
use Rattle.iox_tables.proofs.HubKeeping.NewHandles.{makings_keep_order}
use Rattle.iox_tables.proofs.HubKeeping.Ordered.{may_go, names_apart, nobody_has, order_is_ready_for_ports}
use Rattle.iox_tables.proofs.HubKeeping.Starting.{starts_are_in_order}
use Rattle.iox_tables.proofs.HubKeeping.Unholding.{values_keep_order}
use Rattle.iox_tables.proofs.HubBooks.Rooms.{differ_in_holders}

pub hubs_start : HubsStart
hubs_start x settings first = record { hub = record { tables = starts_are_in_order settings; given = x; reached = starts_are_reached x settings first }; given = refl }

pub hubs_take_ports : HubsTakePorts
hubs_take_ports t hub node role id o memory place words pools allowed pool =
    let new : PortState = port_made hub.given t node role id o place in
    record {
      hub = record {
        tables = makings_keep_order t new pools hub.tables (record { number = refl; place = pool.free; none = refl }) pool.put;
        given = given_made hub.given words t.next_number o.handler;
        reached =
            makings_are_reached hub.given t node role id o memory place words pools hub.reached allowed (order_is_ready_for_ports t hub.tables).takes
            (nobody_has t hub.tables place pool.free) pool.words_stay;
      };
      given = refl;
    }

pub hubs_drop_pools : HubsDropPools
hubs_drop_pools t hub place free = record {
  hub = record {
    tables = pools_may_go t place hub.tables free;
    given = hub.given;
    reached = subst IsReachableState (free_pools_may_go hub.given t place (nobody_has t hub.tables place free)) hub.reached;
  };
  given = refl;
}

-- ---- a port is released

module _ (t : HubTables) (hub : TablesAreReached t) (node n : ℕ) (p : PortState) (there : port_in t.ports n ≡ Some p) (on_node : p.node ≡ node) (held : p.held ≡ true) where
  abbrev v : HubTables
  v = with_value_released t n

  -- the reply, and what it leaves
  abbrev left_with : m.State → Reply × m.State
  left_with s = (Done, s)

  abbrev shown_if : Bool → Reply × m.State
  shown_if b = left_with (state_shown hub.given (if b then with_disconnected v n else v))

  ended : released_by (state_shown hub.given t) node n ≡ shown_if (is_unused v n)
  ended = ports_end hub.given t node n p there on_node held (names_apart t hub.tables) (may_go t hub.tables n (ap (λ (o : Option PortState). is_some o) there))

  reached_by : (u : HubTables) → released_by (state_shown hub.given t) node n ≡ left_with (state_shown hub.given u) → IsCallReached hub.given t node (Release n) Done hub.given u
  reached_by u e =
      each_call_is_reached hub.given t node (Release n) Done hub.given u
      (record { reached = hub.reached; choice = record { lane = 0; memory = true }; payload = []; may_choose = (refl, refl); may_hold = tt; called = e })

  still : is_there v.ports n ≡ true
  still =
      ap (λ (o : Option PortState). is_some o) (port_is t n n)
      ∙ ap₂ (λ (b : Bool) o. is_some (if b then option_map unheld o else o)) (eqb-refl n) there

  in_order : AreInOrder v
  in_order = values_keep_order t n hub.tables

  released : (u : HubTables) → AreInOrder u → released_by (state_shown hub.given t) node n ≡ left_with (state_shown hub.given u) → LeavesTables hub.given t node n u
  released u order e =
      let r = reached_by u e in record {
        call = r.whole;
        hub = record { hub = record { tables = order; given = hub.given; reached = r.reached }; given = refl };
      }

  pub port_is_released : PortIsReleased hub.given t node n
  port_is_released = record {
    stays = λ e. released v in_order (ended ∙ ap shown_if e);
    goes = λ pools e fewer.
        released (record (with_disconnected v n) { pools = pools }) (disconnections_keep_order v n pools in_order still e fewer)
        (ended ∙ ap shown_if e ∙ ap left_with (holders_are_not_shown hub.given (with_disconnected v n) pools (differ_in_holders t.pools pools fewer.same)));
  }

pub hubs_release_ports : HubsReleasePorts
hubs_release_ports t hub node n p there on_node held = port_is_released t hub node n p there on_node held
