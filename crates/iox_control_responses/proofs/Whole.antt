-- The send of a response is the machine's.
use Rattle.std.specs.Prelude.{◌≡◌, ℕ, ◌^◌, ◌≤◌, ◌<◌, Bool, true, false, not, ◌||◌, if◌then◌else◌, nat_lt, List, [], ◌∷◌, map, length, Option, Some, None, refl}
use Rattle.std.specs.List.{list_any}
use Rattle.std.specs.Option.{option_map, option_map_or}
use Rattle.std.proofs.Common.{sym, ap, ap₂, subst, ◌∙◌, arith}
use Rattle.iox_model.specs.declared.call.Call.TheVariants.{Send}
use Rattle.iox_model.specs.declared.kind.Kind.TheVariants.{ResponseMut}
use Rattle.iox_model.specs.declared.kind.Role.TheVariants.{Client, Server}
use Rattle.iox_model.specs.declared.reply.Refusal.TheVariants.{UnableToDeliver}
use Rattle.iox_model.specs.declared.reply.Reply.TheVariants as replies
use Rattle.iox_model.specs.declared.way.RequestState.TheVariants.{Named}
use Rattle.iox_model.specs.declared.way.Way.{Way}
use Rattle.iox_model.specs.Commands.{Reply}
use Rattle.iox_model.specs.Doings.{Sending}
use Rattle.iox_model.specs.Handles.{is_request_loan, is_response_loan}
use Rattle.iox_model.specs.Maps.{AreDistinctWays, not_in}
use Rattle.iox_model.specs.Messages.{request_way, response_way}
use Rattle.iox_model.specs.Moments.{is_overfull}
use Rattle.iox_model.specs.Peers.{buffer_on, others}
use Rattle.iox_model.specs.Requests.{fails_at, targets, to_open}
use Rattle.iox_model.specs.States as m
use Rattle.iox_model.specs.WholeCalls.{IsWholeCall}
use Rattle.iox_laws.proofs.WeaveLaws.MapLemmas.{same_way-refl}
use Rattle.iox_laws.specs.CallFunctions.LoanSends.{MaySend, loan_sent_by, sending_ways}
use Rattle.iox_laws.specs.CallFunctions.Overflows.{NotOver}
use Rattle.iox_laws.specs.CallFunctions.Responses.{is_awaited}
use Rattle.iox_laws.proofs.CallFunctions.LoanSending.{each_loan_send_is_whole}
use Rattle.iox_lanes.specs.Lanes.{LaneState, delivered, is_full}
use Rattle.iox_tables.specs.HubStates.Tables.{HandleState, HubTables, PortState}
use Rattle.iox_tables.specs.HubStates.Ways.{lane_on}
use Rattle.iox_tables.specs.HubStates.Changes.{emptied_lane, with_lanes, with_states, OnEach}
use Rattle.iox_tables.specs.HubStates.Ends.{with_call, with_dropped}
use Rattle.iox_tables.specs.HubStates.Releases.{handle_shown, lane_of, way_to_client}
use Rattle.iox_tables.specs.HubStates.Sendings.{IsResponseToSend, response_sending}
use Rattle.iox_tables.specs.HubStates.Sends.{MaySendFrom}
use Rattle.iox_tables.specs.HubStates.Shown.{waiting_in}
use Rattle.iox_tables.specs.HubStates.States.{Given, fixed_of, message_of, state_shown}
use Rattle.iox_tables.specs.HubStates.Steps.{IsOpenToNew, full_in}
use Rattle.iox_tables.specs.HubStates.Wirings.{IsHandle, buffer_from, role_in}
use Rattle.iox_tables.proofs.HubStates.Fixing.{buffer_is}
use Rattle.iox_tables.proofs.HubStates.Keys.{at_is, lane_turned}
use Rattle.iox_tables.proofs.HubStates.Naming.{each_handle_is_named}
use Rattle.iox_tables.specs.HubBooks.Handles.{IsOfPort, role_for}
use Rattle.iox_tables.specs.HubBooks.Hubs.{AreInOrder}
use Rattle.iox_tables.specs.HubBooks.Keeps.{delivers}
use Rattle.iox_tables.proofs.HubBooks.Frames.{length_map}
use Rattle.iox_tables.proofs.HubBooks.Sendable.{responses_may_be_sent}
use Rattle.iox_tables.proofs.HubBooks.Used.{handle_is}
use Rattle.iox_tables.proofs.HubKeeping.Ordered.{handle_may_go}
use Rattle.iox_tables.specs.HubLoans.Questions.{is_named_by_client}
use Rattle.iox_tables.proofs.HubLoans.Asked.{awaited_are_named}
use Rattle.iox_tables.specs.HubMaking.Disconnections.{with_released}
use Rattle.iox_tables.specs.HubMaking.WholeReleases.{answering, response_left}
use Rattle.iox_tables.proofs.HubMaking.Ending.{response_sends_end, response_sends_over_end, unawaited_end}
use Rattle.iox_hub_ports.specs.Ports.{on_way}
use Rattle.iox_control.proofs.WholeLemmas.{handle_or, is_whole_of, not_over}
use Rattle.iox_control_responses.specs.Responses.{with_way_emptied}

module _ (t : HubTables) (order : AreInOrder t) (node n : ℕ) (h : HandleState) (named : IsHandle t node n h) (kind : h.kind ≡ ResponseMut)
    (few : t.calls < 2 ^ 56) (x : Given)
  where
    abbrev w : Way
    w = way_to_client t h

    abbrev s : m.State
    s = state_shown x t

    abbrev shown : m.Handle
    shown = handle_shown x t h

    of_port : IsOfPort t h
    of_port = handle_is (IsOfPort t) t.handles node n h order.ports named.there

    its_role : role_in t.ports h.port ≡ of_port.port.role
    its_role = ap (λ (o : Option PortState). option_map_or (λ p. p.role) o Client) of_port.there

    to_send : IsResponseToSend t node n h
    to_send = record { named = named; kind = kind; server = its_role ∙ of_port.role ∙ ap role_for kind; calls = few }

    -- as many responses may wait as the service says
    pub server_buffer : buffer_from t.settings (role_in t.ports h.port) ≡ t.settings.response_buffer
    server_buffer = ap (buffer_from t.settings) (its_role ∙ of_port.role ∙ ap role_for kind)

    -- ---- it may be sent

    module _ (sound : (l : LaneState) → lane_on t.ports w ≡ Some l → length l.waiting ≤ l.buffer) where
      within : is_overfull s w ≡ false
      within = step (lane_on t.ports w) refl
        where
          step : (o : Option LaneState) → lane_on t.ports w ≡ o → nat_lt (buffer_on (fixed_of x t) w) (length (option_map_or (waiting_in (message_of x t.pools)) o [])) ≡ false
          step None at = not_over _ 0 (omega arith)
          step (Some l) at =
              let many : length (waiting_in (message_of x t.pools) l) ≡ length l.waiting = length_map (message_of x t.pools l.pool) l.waiting in
              let low = sound l at in
              let buffer : buffer_on (fixed_of x t) w ≡ l.buffer
              = buffer_is x t w ∙ ap (buffer_from t.settings) its_role ∙ sym (order.lanes w l of_port.port at of_port.there).buffer in
              not_over _ _ (omega (arith, many, low, buffer))

      one_way : sending_ways (fixed_of x t) shown ≡ w ∷ []
      one_way = ap (λ (b : Bool). if b then map (request_way h.port) (others (fixed_of x t) h.node Server) else w ∷ []) (ap is_request_loan kind)

      may_send : MaySend s shown
      may_send = record {
        apart = subst AreDistinctWays (sym one_way) (refl, tt);
        within = λ on. subst (NotOver s) (sym one_way) (within, tt);
      }

      pub is_whole : (reply : Reply) (s' : m.State) → loan_sent_by s node n ≡ (reply, s') → IsWholeCall s node (Send n) reply s'
      is_whole reply s' is =
          is_whole_of s node (Send n) _ reply s'
          (each_loan_send_is_whole s node n (λ v. refl)
          (λ k e. subst (MaySend s) (ap (handle_or shown) (sym (each_handle_is_named x t node n h named).names ∙ e)) may_send))
          is

    -- ---- what the machine does

    abbrev left : HubTables → HubTables
    left u = with_released (with_dropped u node n) h.port

    pub to_nobody : is_named_by_client t h false ≡ false → loan_sent_by s node n ≡ (replies.Done, state_shown x (with_call (left t)))
    to_nobody e = unawaited_end x t node n h to_send (awaited_are_named x t h ∙ e) (handle_may_go t order node n h named)

    module _ (awaits : is_named_by_client t h false ≡ true) where
      abbrev y : Sending
      y = response_sending x t h

      abbrev em : HubTables
      em = with_way_emptied t h

      awaited : is_awaited s shown ≡ true
      awaited = awaited_are_named x t h ∙ awaits

      may_from : MaySendFrom x t y h.pool h.slot
      may_from = responses_may_be_sent x t node n h order named (ap is_response_loan kind) awaited

      one_target : targets y ≡ w ∷ []
      one_target =
          ap (λ (b : Bool). if b then map (request_way h.port) y.to else map (λ client. response_way client y.loan.lane h.port) y.to) (ap is_request_loan kind)

      none_opened : to_open y ≡ []
      none_opened = ap (λ (b : Bool). if b then map (response_way h.port (lane_of t h)) y.to else []) (ap is_request_loan kind)

      -- its lane is there
      pub the_lane : (l : LaneState) × (lane_on t.ports w ≡ Some l) × IsOpenToNew x t h.pool h.slot w l
      the_lane = (subst (OnEach (IsOpenToNew x t h.pool h.slot) (lane_on t.ports)) one_target may_from.lanes).0

      -- ---- with overflow

      pub goes_over : t.settings.response_overflow ≡ true
          → loan_sent_by s node n ≡ (replies.Done, state_shown x (with_call (left (with_lanes (delivers true h.slot) em (w ∷ [])))))
      goes_over over =
          response_sends_over_end x t node n h to_send awaited over may_from (handle_may_go t order node n h named)
          ∙ ap₂
          (λ (ws opens : List Way). (
            replies.Done,
            state_shown x (with_call (left (with_lanes (delivers true h.slot)
                (with_states (λ r. Named y.loan.request false) (with_lanes emptied_lane t ws) opens) ws))),
          ))
          one_target none_opened

      -- ---- without overflow

      abbrev is_full_there : Bool
      is_full_there = option_map_or is_full (lane_on em.ports w) true

      full_same : is_full_there ≡ on_way is_full true t.ports w
      full_same =
          ap (λ o. option_map_or is_full o true)
          (ap (λ on. on w) (lane_turned emptied_lane t.ports w) ∙ at_is emptied_lane (lane_on t.ports) w w
          ∙ ap (λ (b : Bool). if b then option_map emptied_lane (lane_on t.ports w) else lane_on t.ports w) (same_way-refl w))
          ∙ step (lane_on t.ports w)
        where
          step : (o : Option LaneState) → option_map_or is_full (option_map emptied_lane o) true ≡ option_map_or is_full o true
          step (Some l) = refl
          step None = refl

      -- what is left, by the ways that are full
      abbrev sent_by : List Way → List Way → List Way → HubTables
      sent_by full ws opens =
          if list_any y.fails full then with_lanes emptied_lane t ws
          else with_lanes (λ l. delivered l h.slot) (with_states (λ r. Named y.loan.request false) (with_lanes emptied_lane t ws) opens) (not_in full ws)

      abbrev count_by : List Way → List Way → Option ℕ
      count_by full ws = if list_any y.fails full then None else Some (length (not_in full ws))

      abbrev ends : List Way → List Way → List Way → Reply × m.State
      ends full ws opens = answering x (response_left (sent_by full ws opens) node n h (count_by full ws))

      goes : t.settings.response_overflow ≡ false → loan_sent_by s node n ≡ ends (if is_full_there then w ∷ [] else []) (w ∷ []) []
      goes off =
          response_sends_end x t node n h to_send awaited off may_from (handle_may_go t order node n h named)
          ∙ ap₂ (λ (ws opens : List Way). ends (full_in (lane_on (with_lanes emptied_lane t ws).ports) ws []) ws opens) one_target none_opened

      -- where the client is full
      at_full : on_way is_full true t.ports w ≡ true → t.settings.response_overflow ≡ false → loan_sent_by s node n ≡ ends (w ∷ []) (w ∷ []) []
      at_full full off = goes off ∙ ap (λ (b : Bool). ends (if b then w ∷ [] else []) (w ∷ []) []) (full_same ∙ full)

      abbrev end_where : Bool → List Way → Reply × m.State
      end_where b ws =
          answering x (response_left (if b then em else with_lanes (λ l. delivered l h.slot) em ws) node n h (if b then None else Some (length ws)))

      pub is_lost : on_way is_full true t.ports w ≡ true → t.settings.response_overflow ≡ false → fails_at (fixed_of x t) w ≡ true
          → loan_sent_by s node n ≡ (replies.Refused UnableToDeliver, state_shown x (left em))
      is_lost full off fails = at_full full off ∙ ap (λ (b : Bool). end_where (b || false) (not_in (w ∷ []) (w ∷ []))) fails

      pub is_skipped : on_way is_full true t.ports w ≡ true → t.settings.response_overflow ≡ false → fails_at (fixed_of x t) w ≡ false
          → loan_sent_by s node n ≡ (replies.Done, state_shown x (with_call (left em)))
      is_skipped full off fails =
          at_full full off
          ∙ ap₂ (λ (b c : Bool). end_where (b || false) (if not (c || false) then w ∷ [] else [])) fails (same_way-refl w)

      pub goes_in_line : on_way is_full true t.ports w ≡ false → t.settings.response_overflow ≡ false
          → loan_sent_by s node n ≡ (replies.Done, state_shown x (with_call (left (with_lanes (delivers false h.slot) em (w ∷ [])))))
      goes_in_line free off = goes off ∙ ap (λ (b : Bool). ends (if b then w ∷ [] else []) (w ∷ []) []) (full_same ∙ free)
