-- The send of a request is the machine's.
use Rattle.std.specs.Prelude.{◌≡◌, ℕ, ◌^◌, ◌≤◌, ◌<◌, Bool, true, false, ◌||◌, if◌then◌else◌, nat_lt, List, [], ◌∷◌, map, length, Option, Some, None, refl}
use Rattle.std.specs.List.{list_any}
use Rattle.std.specs.Option.{option_map_or}
use Rattle.std.proofs.Common.{sym, ap, ap₂, subst, ◌∙◌, arith, true≢false}
use Rattle.iox_tables.proofs.HubBooks.Frames.{length_map}
use Rattle.std.proofs.lemmas.Option.{same_Some}
use Rattle.iox_model.specs.declared.call.Call.TheVariants.{Send}
use Rattle.iox_model.specs.declared.kind.Kind.TheVariants.{RequestMut}
use Rattle.iox_model.specs.declared.kind.Role.TheVariants.{Server}
use Rattle.iox_model.specs.declared.reply.Refusal.TheVariants.{ExceedsMaxActiveRequests, UnableToDeliver, UnknownNumber}
use Rattle.iox_model.specs.declared.reply.Reply.TheVariants as replies
use Rattle.iox_model.specs.declared.way.Way.{Way}
use Rattle.iox_model.specs.Begins.{begins_at}
use Rattle.iox_model.specs.Commands.{Reply}
use Rattle.iox_model.specs.Doings.{Doing, Ended, FailsToSend, Outcome, refused}
use Rattle.iox_model.specs.Handles.{Subject, TheHandle, is_request_loan, own_state, subject}
use Rattle.iox_model.specs.Maps.{AreDistinctWays, not_in}
use Rattle.iox_model.specs.Messages.{request_way, response_way}
use Rattle.iox_model.specs.Peers.{buffer_on, others, role_at}
use Rattle.iox_model.specs.Requests.{emptying, fails_at, is_active_spent, sending_of, sends_request, targets, to_open}
use Rattle.iox_model.specs.Responses.{sends_response}
use Rattle.iox_model.specs.Settings.{overflow_of}
use Rattle.iox_model.specs.States as m
use Rattle.iox_model.specs.WholeCalls.{IsWholeCall}
use Rattle.iox_laws.proofs.WeaveLaws.MapLemmas.{others_are_all}
use Rattle.iox_laws.specs.CallFunctions.Answers.{of_handle}
use Rattle.iox_laws.specs.CallFunctions.LoanSends.{MaySend, loan_sent_by, requested, sending_ways, sent_of}
use Rattle.iox_laws.specs.CallFunctions.Overflows.{NotOver, sent_over}
use Rattle.iox_laws.specs.CallFunctions.Responses.{responded}
use Rattle.iox_laws.specs.CallFunctions.Sends.{sent}
use Rattle.iox_laws.proofs.CallFunctions.Leads.{Leads, NoPayload, ample, at_end, is_whole, one_of}
use Rattle.iox_laws.proofs.CallFunctions.LoanSending.{each_loan_send_is_whole}
use Rattle.iox_lanes.specs.Lanes.{LaneState}
use Rattle.iox_tables.specs.HubStates.Tables.{HandleState, HubTables}
use Rattle.iox_tables.specs.HubStates.Ways.{OnWays, lane_on}
use Rattle.iox_tables.specs.HubStates.Changes.{emptied_lane, with_lanes, OnEach}
use Rattle.iox_tables.specs.HubStates.Ends.{with_call, with_changed, with_dropped}
use Rattle.iox_tables.specs.HubStates.Releases.{handle_shown, lane_of, pending_states, request_of}
use Rattle.iox_tables.specs.HubStates.Sendings.{IsRequestToSend, pending_of, request_sending}
use Rattle.iox_tables.specs.HubStates.Sends.{MaySendFrom, with_opened}
use Rattle.iox_tables.specs.HubStates.Shown.{waiting_in}
use Rattle.iox_tables.specs.HubStates.States.{Given, fixed_of, message_of, state_shown}
use Rattle.iox_tables.specs.HubStates.Steps.{IsOpenToNew, full_in}
use Rattle.iox_tables.specs.HubStates.Wirings.{IsHandle, numbers_of_role}
use Rattle.iox_tables.proofs.HubStates.Fixing.{buffer_is, role_is, roles_are}
use Rattle.iox_tables.proofs.HubStates.Naming.{each_handle_is_named}
use Rattle.iox_tables.specs.HubBooks.Handles.{IsOfPort}
use Rattle.iox_tables.specs.HubBooks.Hubs.{AreInOrder}
use Rattle.iox_tables.specs.HubBooks.Keeps.{delivers}
use Rattle.iox_tables.proofs.HubBooks.Held.{each_handle_from}
use Rattle.iox_tables.proofs.HubBooks.Sendable.{requests_may_be_sent}
use Rattle.iox_tables.proofs.HubKeeping.Ordered.{handle_may_go}
use Rattle.iox_tables.specs.HubLoans.Counts.{AreOnNodes, IsOnNode, has_all_active}
use Rattle.iox_tables.proofs.HubLoans.Counting.{each_count_is_the_same}
use Rattle.iox_tables.specs.HubMaking.Disconnections.{with_released}
use Rattle.iox_tables.specs.HubMaking.WholeReleases.{answering, request_left}
use Rattle.iox_tables.proofs.HubMaking.Ending.{request_sends_end, request_sends_over_end, spent_requests_end}
use Rattle.iox_control.proofs.WholeLemmas.{handle_or, is_whole_of, not_over}
use Rattle.iox_control_requests.specs.Deliveries.{ways_that_get}
use Rattle.iox_control_requests.specs.Requests.{is_failing, ways_of, with_request_sent, with_requests_back}
use Rattle.iox_control_requests.specs.Servers.{request_ways}
use Rattle.iox_control_requests.proofs.Opened.{all_listed, by_servers}
use Rattle.iox_control_requests.proofs.Ready.{its_client}
use Rattle.iox_control_requests.proofs.Walks.{servers_stay}

-- two tests that agree on a client's ways find the same among the full ones
pub any_same : (f g : Way → Bool) (client : ℕ) (on : OnWays LaneState) → ((w : Way) → w.sender ≡ client → f w ≡ g w) → (ns : List ℕ) (acc : List Way)
    → list_any f acc ≡ list_any g acc
    → list_any f (full_in on (map (request_way client) ns) acc) ≡ list_any g (full_in on (map (request_way client) ns) acc)
any_same f g client on same [] acc before = before
any_same f g client on same (n ∷ ns) acc before =
    any_same f g client on same ns _ (step _)
  where
    step : (b : Bool) → list_any f (if b then request_way client n ∷ acc else acc) ≡ list_any g (if b then request_way client n ∷ acc else acc)
    step true = ap₂ (λ (a c : Bool). a || c) (same (request_way client n) refl) before
    step false = before

module _ (t : HubTables) (order : AreInOrder t) (node n : ℕ) (h : HandleState) (named : IsHandle t node n h) (kind : h.kind ≡ RequestMut)
    (few : t.calls < 2 ^ 56) (x : Given)
  where
    abbrev s : m.State
    s = state_shown x t

    abbrev shown : m.Handle
    shown = handle_shown x t h

    abbrev back : HubTables
    back = with_requests_back t h

    abbrev servers : List ℕ
    servers = numbers_of_role Server t.ports

    loan : is_request_loan h.kind ≡ true
    loan = ap is_request_loan kind

    to_send : IsRequestToSend t node n h
    to_send = record { named = named; kind = kind; client = (its_client t node n h order named loan).2; calls = few }

    nodes : AreOnNodes t
    nodes = each_handle_from (IsOfPort t) (IsOnNode t) (λ k is. record { port = is.port; there = is.there; node = is.on_node }) t.handles order.ports

    spent_is : is_active_spent (fixed_of x t) shown ≡ has_all_active t h.port
    spent_is = (each_count_is_the_same x t nodes).active h

    -- ---- it may be sent

    servers_are : others (fixed_of x t) h.node Server ≡ servers
    servers_are = others_are_all (fixed_of x t) h.node Server refl ∙ roles_are x t.ports Server

    may_from : MaySendFrom x t (request_sending x t h) h.pool h.slot
    may_from = requests_may_be_sent x t node n h order named loan

    all_targets : targets (request_sending x t h) ≡ request_ways h.port t.ports
    all_targets =
        ap (λ (b : Bool). if b then map (request_way h.port) servers else map (λ client. response_way client (lane_of t h) h.port) servers) loan

    all_open : to_open (request_sending x t h) ≡ pending_states t h
    all_open = ap (λ (b : Bool). if b then map (response_way h.port (lane_of t h)) servers else []) loan

    its_ways : sending_ways (fixed_of x t) shown ≡ request_ways h.port t.ports
    its_ways =
        ap (λ (b : Bool). if b then map (request_way h.port) (others (fixed_of x t) h.node Server) else own_state shown ∷ []) loan
        ∙ ap (map (request_way h.port)) servers_are

    ways_apart : AreDistinctWays (request_ways h.port t.ports)
    ways_apart = subst AreDistinctWays all_targets may_from.apart

    each_not_over : (ns : List ℕ) → OnEach (λ w l. length l.waiting ≤ l.buffer) (lane_on t.ports) (map (request_way h.port) ns)
        → OnEach (IsOpenToNew x t h.pool h.slot) (lane_on t.ports) (map (request_way h.port) ns) → NotOver s (map (request_way h.port) ns)
    each_not_over [] waits opens = tt
    each_not_over (k ∷ ks) waits opens = (one (request_way h.port k) waits.0 opens.0, each_not_over ks waits.1 opens.1)
      where
        one : (w : Way) → (l : LaneState) × (lane_on t.ports w ≡ Some l) × (length l.waiting ≤ l.buffer)
            → (l : LaneState) × (lane_on t.ports w ≡ Some l) × IsOpenToNew x t h.pool h.slot w l
            → nat_lt (buffer_on (fixed_of x t) w) (length (option_map_or (waiting_in (message_of x t.pools)) (lane_on t.ports w) [])) ≡ false
        one w waits opens =
            let l : LaneState = waits.0 in
            let same : opens.0 ≡ l = same_Some opens.0 l (sym opens.1 ∙ waits.1) in
            let many : length (waiting_in (message_of x t.pools) l) ≡ length l.waiting = length_map (message_of x t.pools l.pool) l.waiting in
            let low : length l.waiting ≤ l.buffer = waits.2 in
            let buffer : buffer_on (fixed_of x t) w ≡ l.buffer = buffer_is x t w ∙ sym opens.2.open_to.buffer ∙ ap (λ (i : LaneState). i.buffer) same in
            ap (λ o. nat_lt (buffer_on (fixed_of x t) w) (length (option_map_or (waiting_in (message_of x t.pools)) o []))) waits.1
            ∙ not_over _ _ (omega (arith, many, low, buffer))

    may_send : ((t.settings.request_overflow ≡ true) → OnEach (λ w l. length l.waiting ≤ l.buffer) (lane_on t.ports) (request_ways h.port t.ports)) → MaySend s shown
    may_send waits = record {
      apart = subst AreDistinctWays (sym its_ways) ways_apart;
      within = λ on.
          subst (NotOver s) (sym its_ways)
          (each_not_over servers (waits (sym overflow_is ∙ on)) (subst (OnEach (IsOpenToNew x t h.pool h.slot) (lane_on t.ports)) all_targets may_from.lanes));
    }
      where
        overflow_is : overflow_of s.fixed.limits (role_at s.fixed h.port) ≡ t.settings.request_overflow
        overflow_is = ap (overflow_of s.fixed.limits) (role_is x t h.port ∙ to_send.client)

    its_subject : subject s.fixed node n ≡ Some (TheHandle shown)
    its_subject = (each_handle_is_named x t node n h named).names

    -- it is a whole call where no lane has one too many
    pub is_whole_sent : ((t.settings.request_overflow ≡ true) → OnEach (λ w l. length l.waiting ≤ l.buffer) (lane_on t.ports) (request_ways h.port t.ports))
        → (reply : Reply) (s' : m.State) → loan_sent_by s node n ≡ (reply, s') → IsWholeCall s node (Send n) reply s'
    is_whole_sent waits reply s' is =
        is_whole_of s node (Send n) _ reply s'
        (each_loan_send_is_whole s node n (λ v. refl) (λ k e. subst (MaySend s) (ap (handle_or shown) (sym its_subject ∙ e)) (may_send waits)))
        is

    -- ---- a client that may send no more

    module _ (spent : has_all_active t h.port ≡ true) where
      fails_so : Outcome
      fails_so = FailsToSend shown false ExceedsMaxActiveRequests

      ends_so : (P : Outcome → Type 0) (sp ov : Bool) (d : Doing) (v u : Outcome × m.State) → sp ≡ true
          → P (FailsToSend shown false ExceedsMaxActiveRequests)
          → Leads P s node (if sp then Ended (FailsToSend shown false ExceedsMaxActiveRequests) else d)
          (if ov then (if sp then (FailsToSend shown false ExceedsMaxActiveRequests, s) else v) else (if sp then (FailsToSend shown false ExceedsMaxActiveRequests, s) else u))
      ends_so P true true d v u e p = at_end P s node (FailsToSend shown false ExceedsMaxActiveRequests) p
      ends_so P true false d v u e p = at_end P s node (FailsToSend shown false ExceedsMaxActiveRequests) p
      ends_so P false ov d v u e p = absurd (true≢false (sym e))

      abbrev to : List ℕ
      to = others s.fixed h.node Server

      leads : Leads (NoPayload s.fixed) s node (begins_at s ample (Send n) (TheHandle shown)) (sent_of s shown false)
      leads =
          one_of (NoPayload s.fixed) s node (is_request_loan h.kind) (sends_request s.fixed shown false to) (sends_response s.fixed shown false)
          (requested s shown false) (responded s shown false)
          (λ e.
          ends_so (NoPayload s.fixed) (is_active_spent s.fixed shown) (overflow_of s.fixed.limits (role_at s.fixed h.port))
          (emptying (sending_of s.fixed shown false to) (map (request_way h.port) to))
          (sent_over s (sending_of s.fixed shown false to)) (sent s (sending_of s.fixed shown false to)) (spent_is ∙ spent) tt)
          (λ e. absurd (true≢false (sym loan ∙ e)))

      spent_is_whole : IsWholeCall s node (Send n) (loan_sent_by s node n).0 (loan_sent_by s node n).1
      spent_is_whole =
          is_whole s node (Send n) ample (of_handle s (subject s.fixed node n) (λ k. sent_of s k false)) (refl, refl)
          (subst
          (λ (o : Option Subject). Leads (NoPayload s.fixed) s node (option_map_or (begins_at s ample (Send n)) o (refused UnknownNumber)) (of_handle s o (λ k. sent_of s k false)))
          (sym its_subject) leads)

      spent_ends : loan_sent_by s node n ≡ (replies.Refused ExceedsMaxActiveRequests, state_shown x (with_released (with_dropped t node n) h.port))
      spent_ends = spent_requests_end x t node n h to_send (spent_is ∙ spent) (handle_may_go t order node n h named)

      pub is_refused : IsWholeCall s node (Send n) (replies.Refused ExceedsMaxActiveRequests) (state_shown x (with_released (with_dropped t node n) h.port))
      is_refused = is_whole_of s node (Send n) _ _ _ spent_is_whole spent_ends

    -- ---- one that may

    module _ (free : has_all_active t h.port ≡ false) where
      same_servers : numbers_of_role Server back.ports ≡ servers
      same_servers =
          by_servers back.ports ∙ ap all_listed (servers_stay emptied_lane t.ports (request_ways h.port t.ports)) ∙ sym (by_servers t.ports)

      abbrev get : Bool → List ℕ → List Way
      get b ns = ways_that_get b back.ports (map (request_way h.port) ns)

      -- what is left once it is sent to these servers
      abbrev sent_to_all : Bool → List ℕ → Reply × m.State
      sent_to_all b ns = (
        replies.Sent (length (get b ns)),
        state_shown x (with_call
            (with_changed
            (with_lanes (delivers b h.slot) (with_opened back (request_of t h) (map (response_way h.port (lane_of t h)) ns)) (get b ns))
            (pending_of h (length (get b ns))))),
      )

      to_these : (b : Bool) → sent_to_all b servers ≡ (replies.Sent (length (ways_of back h b)), state_shown x (with_request_sent back h b))
      to_these b = ap (sent_to_all b) (sym same_servers)

      over_so : t.settings.request_overflow ≡ true → loan_sent_by s node n ≡ sent_to_all true servers
      over_so on =
          request_sends_over_end x t node n h to_send (spent_is ∙ free) on may_from
          ∙ ap₂
          (λ (ws opens : List Way). (
            replies.Sent (length ws),
            state_shown x (with_call
                (with_changed (with_lanes (delivers true h.slot) (with_opened (with_lanes emptied_lane t ws) (request_of t h) opens) ws) (pending_of h (length ws)))),
          ))
          all_targets all_open

      pub goes_over : t.settings.request_overflow ≡ true
          → loan_sent_by s node n ≡ (replies.Sent (length (ways_of back h true)), state_shown x (with_request_sent back h true))
      goes_over on = over_so on ∙ to_these true

      -- ---- without overflow

      abbrev full : List Way → List Way
      full ws = full_in (lane_on (with_lanes emptied_lane t ws).ports) ws []

      -- what is left, where it fails or does not
      abbrev ends : Bool → List Way → List Way → Reply × m.State
      ends b ws opens =
          answering x
          (request_left
          (if b then with_lanes emptied_lane t ws
          else with_lanes (delivers false h.slot) (with_opened (with_lanes emptied_lane t ws) (request_of t h) opens) (not_in (full ws) ws))
          node n h (if b then None else Some (length (not_in (full ws) ws))))

      module _ (off : t.settings.request_overflow ≡ false) (fails : Way → Bool) (same : (w : Way) → w.sender ≡ h.port → fails_at (fixed_of x t) w ≡ fails w) where
        failing_is : list_any (fails_at (fixed_of x t)) (full (request_ways h.port t.ports)) ≡ is_failing fails false back.ports h.port
        failing_is =
            any_same (fails_at (fixed_of x t)) fails h.port (lane_on back.ports) same servers [] refl
            ∙ ap (λ ns. list_any fails (full_in (lane_on back.ports) (map (request_way h.port) ns) [])) (sym same_servers)

        plain_so : loan_sent_by s node n ≡ ends (is_failing fails false back.ports h.port) (request_ways h.port t.ports) (pending_states t h)
        plain_so =
            request_sends_end x t node n h to_send (spent_is ∙ free) off may_from (handle_may_go t order node n h named)
            ∙ ap₂ (λ (ws opens : List Way). ends (list_any (fails_at (fixed_of x t)) (full ws)) ws opens) all_targets all_open
            ∙ ap (λ (b : Bool). ends b (request_ways h.port t.ports) (pending_states t h)) failing_is

        pub is_lost : is_failing fails false back.ports h.port ≡ true
            → loan_sent_by s node n ≡ (replies.Refused UnableToDeliver, state_shown x (with_released (with_dropped back node n) h.port))
        is_lost e = plain_so ∙ ap (λ (b : Bool). ends b (request_ways h.port t.ports) (pending_states t h)) e

        pub goes_plain : is_failing fails false back.ports h.port ≡ false
            → loan_sent_by s node n ≡ (replies.Sent (length (ways_of back h false)), state_shown x (with_request_sent back h false))
        goes_plain e = plain_so ∙ ap (λ (b : Bool). ends b (request_ways h.port t.ports) (pending_states t h)) e ∙ to_these false
