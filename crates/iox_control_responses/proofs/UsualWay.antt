-- A response that is sent on its usual way, as the only message of its pool that somebody has: nothing is got back, nothing
-- is pushed out, and its server stays.
use Rattle.std.specs.Prelude.{◌≡◌, ℕ, ◌<◌, ◌^◌, Bool, true, false, not, ◌&&◌, if◌then◌else◌, [], ◌∷◌, Option, Some, None, slice_get, refl}
use Rattle.std.specs.Option.{option_map, option_map_or}
use Rattle.std.proofs.Common.{sym, ap, subst, ◌∙◌}
use Rattle.std.proofs.lemmas.Bool.{false≢true}
use Rattle.std.proofs.lemmas.Option.{same_Some}
use Rattle.iox_handles.specs.declared.entry.Entry.{Entry}
use Rattle.iox_model.specs.declared.call.Call.TheVariants.{Send}
use Rattle.iox_model.specs.declared.kind.Kind.TheVariants.{ResponseMut}
use Rattle.iox_model.specs.declared.way.Way.{Way}
use Rattle.iox_model.specs.WholeCalls.{IsWholeCall}
use Rattle.iox_lanes.specs.Lanes.{IsSound, LaneState, is_full}
use Rattle.iox_tables.specs.HubStates.Tables.{HandleState, HubTables, PortState, port_in}
use Rattle.iox_tables.specs.HubStates.Ways.{lane_on}
use Rattle.iox_tables.specs.HubStates.Changes.{emptied_lane, with_lanes}
use Rattle.iox_tables.specs.HubStates.Releases.{way_to_client}
use Rattle.iox_tables.specs.HubStates.States.{Given, state_shown}
use Rattle.iox_tables.specs.HubStates.Wirings.{handle_in}
use Rattle.iox_tables.specs.HubBooks.Hubs.{AreInOrder}
use Rattle.iox_tables.specs.HubBooks.Keeps.{bare_pools, delivers}
use Rattle.iox_tables.specs.HubLoans.Questions.{is_named_by_client}
use Rattle.iox_tables.specs.HubMaking.Disconnections.{with_disconnected, with_released}
use Rattle.iox_hub_ports.specs.Ports.{info_of, on_way, pushed_out}
use Rattle.iox_control.specs.Controls.{ControlState, IsControl, with_tables}
use Rattle.iox_control.specs.Entries.{handle_state}
use Rattle.iox_control_releasing.specs.Goings.{StaysTidy}
use Rattle.iox_control_releasing.proofs.Lefts.{told_held}
use Rattle.iox_control_retrieving.proofs.Infos.{infos_of, lanes_infos, same_info}
use Rattle.iox_control_retrieving.proofs.OneLoan.{none_on_way, nothing_waits}
use Rattle.iox_control_retrieving.specs.Alone.{HasOneLoan, has_one_out}
use Rattle.iox_control_retrieving.specs.Retrieving.{GetsBack}
use Rattle.iox_control_responses.specs.declared.responded.Responded.TheVariants.{Done}
use Rattle.iox_control_responses.specs.Responses.{IsFailure, IsResponse, is_shut, reply_of_send, with_handed_over, with_response_ended, with_response_offered, with_response_sent, with_way_emptied}
use Rattle.iox_control_responses.proofs.Offered.{IsOffered, in_line_keeps, is_in_line, left_for, of_pool, only_loan, whole_for}
use Rattle.iox_control_responses.proofs.Sent.{released_left}
use Rattle.iox_control_responses.proofs.Tidy.{offered_tidies}

-- ---- its server stays

sent_infos : (t : HubTables) (h : HandleState) → infos_of (with_response_sent t h).ports ≡ infos_of t.ports
sent_infos t h = step (is_named_by_client t h false)
  where
    emptied : infos_of (with_way_emptied t h).ports ≡ infos_of t.ports
    emptied = lanes_infos emptied_lane t.ports (way_to_client t h ∷ [])

    offered : (b : Bool)
        → infos_of (if b then with_way_emptied t h else with_lanes (delivers t.settings.response_overflow h.slot) (with_way_emptied t h) (way_to_client t h ∷ [])).ports ≡ infos_of t.ports
    offered true = emptied
    offered false = lanes_infos (delivers t.settings.response_overflow h.slot) (with_way_emptied t h).ports (way_to_client t h ∷ []) ∙ emptied

    step : (b : Bool) → infos_of (if b then with_response_offered t h else t).ports ≡ infos_of t.ports
    step true = offered (is_shut t h)
    step false = refl

-- a server whose own value is there does not go with its response
server_stays : (t u : HubTables) (node n : ℕ) (h : HandleState) (fails : Bool) (port : ℕ) → AreInOrder u
    → u ≡ record (with_response_ended t node n h fails) { pools = u.pools } → option_map_or (λ p. p.held) (port_in t.ports port) false ≡ true → with_released u port ≡ u
server_stays t u node n h fails port order is held = step (port_in t.ports port) refl held
  where
    infos : infos_of u.ports ≡ infos_of t.ports
    infos = ap (λ (x : HubTables). infos_of x.ports) is ∙ sent_infos t h

    step : (o : Option PortState) → port_in t.ports port ≡ o → option_map_or (λ p. p.held) o false ≡ true → with_released u port ≡ u
    step (Some p) at held =
        ap (λ (b : Bool). if b then with_disconnected u port else u)
        (sym (told_held u port order (info_of p)
        (sym (same_info u.ports t.ports port infos ∙ ap (option_map info_of) at)) held))
    step None at held = absurd (false≢true held)

-- ---- the send

module _ (c : ControlState) (node n : ℕ) (order : IsControl c) (few : c.tables.calls < 2 ^ 56) (response : IsResponse c.tables node n)
    (e : Entry) (found : Some (handle_state e) ≡ handle_in c.tables.handles node n) (fails : Bool) (over : not c.tables.settings.response_overflow ≡ false)
    (one : has_one_out c.tables.pools e.pool ≡ true) (v : Way) (its_way : v ≡ way_to_client c.tables (handle_state e))
    (sound : (l : LaneState) → lane_on c.tables.ports v ≡ Some l → IsSound l)
  where
    not_shut : false ≡ (on_way is_full true c.tables.ports v && not c.tables.settings.response_overflow)
    not_shut = step (on_way is_full true c.tables.ports v) (not c.tables.settings.response_overflow) over
      where
        step : (full plain : Bool) → plain ≡ false → false ≡ (full && plain)
        step true plain is = sym is
        step false plain is = refl

    its_loan : HasOneLoan c.tables e.pool
    its_loan = only_loan c node n order few response order.buffers.responses e found fails v its_way false not_shut sound one

    of_its_pool : (l : LaneState) → lane_on c.tables.ports v ≡ Some l → l.pool ≡ e.pool
    of_its_pool = of_pool c node n order few response order.buffers.responses e found fails v its_way false not_shut sound

    none_waits : on_way pushed_out None c.tables.ports v ≡ None
    none_waits = step (lane_on c.tables.ports v) refl
      where
        out : (l : LaneState) → l.waiting ≡ [] → (full : Bool) → (if full then slice_get l.waiting 0 else None) ≡ None
        out l none true = ap (λ ks. slice_get ks 0) none
        out l none false = refl

        step : (o : Option LaneState) → lane_on c.tables.ports v ≡ o → option_map_or pushed_out o None ≡ None
        step (Some l) at = out l (nothing_waits c.tables order.order e.pool its_loan v l at (of_its_pool l at)) (is_full l)
        step None at = refl

    module _ (awaits : is_named_by_client c.tables (handle_state e) false ≡ true) (d : ControlState) (same : d ≡ c) where
      order_then : IsControl d
      order_then = subst IsControl (sym same) order

      bare_then : bare_pools c.tables.pools ≡ bare_pools d.tables.pools
      bare_then = ap (λ (x : ControlState). bare_pools x.tables.pools) (sym same)

      got : GetsBack c (v ∷ []) c
      got = none_on_way c v e.pool order its_loan of_its_pool

      left_then : d ≡ with_tables c (record (with_lanes emptied_lane c.tables (v ∷ [])) { pools = d.tables.pools })
      left_then = subst (λ (x : ControlState). x ≡ with_tables c (record (with_lanes emptied_lane c.tables (v ∷ [])) { pools = x.tables.pools })) (sym same) got.left

      pub none_out : on_way pushed_out None d.tables.ports v ≡ None
      none_out = ap (λ (x : ControlState). on_way pushed_out None x.tables.ports v) same ∙ none_waits

      pub kind_there : (k : HandleState) → handle_in d.tables.handles node n ≡ Some k → k.kind ≡ ResponseMut
      kind_there k there =
          ap (λ (h : HandleState). h.kind)
          (sym (same_Some response.handle k (sym response.named.there ∙ ap (λ (x : ControlState). handle_in x.tables.handles node n) (sym same) ∙ there)))
          ∙ response.kind

      -- ---- what it comes to

      module _ (new : ControlState) (is : new ≡ with_handed_over d node n v e.pool e.slot) where
        is_sent : IsOffered c node n order few response order.buffers.responses e found fails v its_way false not_shut sound Done new.tables
        is_sent = is_in_line c node n order few response order.buffers.responses e found fails v its_way false not_shut sound awaits d order_then left_then bare_then refl new is

        left_is : (k : HandleState) → handle_in c.tables.handles node n ≡ Some k → new.tables ≡ record (with_response_ended c.tables node n k fails) { pools = new.tables.pools }
        left_is = left_for c node n order few response order.buffers.responses e found fails v its_way false not_shut sound Done new.tables is_sent

        pub pools_are : bare_pools c.tables.pools ≡ bare_pools new.tables.pools
        pools_are = is_sent.same

        pub in_order : IsControl new
        in_order = in_line_keeps c node n order few response order.buffers.responses e found fails v its_way false not_shut sound awaits d order_then left_then bare_then refl new is

        pub tidies : StaysTidy c.tables new.tables
        tidies = offered_tidies c.tables new.tables node n (handle_state e) fails order.order in_order.order response found (left_is (handle_state e) (sym found)) pools_are

        module _ (held : option_map_or (λ p. p.held) (port_in c.tables.ports e.port) false ≡ true) where
          stays : with_released new.tables e.port ≡ new.tables
          stays = server_stays c.tables new.tables node n (handle_state e) fails e.port in_order.order (left_is (handle_state e) (sym found)) held

          pub left_so : (k : HandleState) → handle_in c.tables.handles node n ≡ Some k
              → new.tables ≡ record (with_released (with_response_ended c.tables node n k fails) k.port) { pools = new.tables.pools }
          left_so k there =
              released_left c.tables node n e found k there new.tables new.tables fails (left_is k there)
              (ap (λ (u : HubTables). record u { pools = new.tables.pools }) (sym stays))

          pub is_whole : (x : Given) → IsFailure x c.tables (handle_state e) fails → IsWholeCall (state_shown x c.tables) node (Send n) (reply_of_send Done) (state_shown x new.tables)
          is_whole x failure =
              whole_for c node n order few response order.buffers.responses e found fails v its_way false not_shut sound Done new.tables is_sent
              (handle_state e) (sym found) x (λ off. failure) new.tables (ap (state_shown x) stays)
