-- Receives, hints, sends and releases keep other values.
use Rattle.std.specs.Prelude.{◌≡◌, ◌≢◌, ℕ, Bool, true, false, if◌then◌else◌, [], ◌∷◌, length, map, Some, IsSome, refl, ⊤}
use Rattle.std.proofs.Common.{sym, ap, ap₂, subst, ◌∙◌, true≢false}
use Rattle.std.proofs.lemmas.Option.{same_Some}
use Rattle.iox_lanes.specs.declared.incoming.Visits.{Visits}
use Rattle.iox_lanes.specs.declared.incoming.Visits.TheVariants.{Got, AtLimit, Nothing}
use Rattle.iox_lanes.specs.declared.wanted.Label.{Label}
use Rattle.iox_lanes.specs.declared.wanted.Wanted.{Wanted}
use Rattle.iox_lanes.specs.declared.wanted.Wanted.TheVariants.{Of}
use Rattle.iox_lanes.specs.Lanes.{released}
use Rattle.iox_model.specs.declared.kind.Kind.{Kind}
use Rattle.iox_model.specs.declared.kind.Kind.TheVariants as kinds
use Rattle.iox_model.specs.declared.kind.Role.{Role}
use Rattle.iox_model.specs.declared.kind.Role.TheVariants.{Client, Server}
use Rattle.iox_model.specs.declared.way.RequestState.TheVariants.{Named}
use Rattle.iox_model.specs.declared.reply.Reply.TheVariants as replies
use Rattle.iox_model.specs.Commands.{Reply}
use Rattle.iox_model.specs.Messages.{closed_for, hinted_for}
use Rattle.iox_tables.specs.HubStates.Tables.{HandleState, HubTables, PortState, labels_of, port_in}
use Rattle.iox_tables.specs.HubStates.Changes.{emptied_lane, with_lanes}
use Rattle.iox_tables.specs.HubStates.Ends.{dropped_handles, with_dropped}
use Rattle.iox_tables.specs.HubStates.Receives.{got_handle, got_reply, visited_port, visits_at, wanted_by_server, with_got, with_request, with_response, with_visited}
use Rattle.iox_tables.specs.HubStates.Releases.{pending_states, request_of, with_given_back, with_value_released, way_to_client}
use Rattle.iox_tables.specs.HubStates.Sendings.{pending_of}
use Rattle.iox_tables.specs.HubStates.Sends.{with_opened}
use Rattle.iox_tables.specs.HubStates.Wirings.{IsPending, handle_in}
use Rattle.iox_tables.specs.HubLoans.Questions.{is_named_by_client, kind_in}
use Rattle.iox_tables.specs.HubMaking.Disconnections.{with_released}
use Rattle.iox_tables.specs.HubBooks.Handles.{way_in}
use Rattle.iox_tables.specs.HubBooks.Hubs.{AreInOrder}
use Rattle.iox_tables.specs.HubBooks.Keeps.{delivers}
use Rattle.iox_control.specs.Controls.{ControlState, IsButHolders, IsControl, with_hint, with_tables}
use Rattle.iox_control.specs.declared.received.Received.{Received}
use Rattle.iox_control.specs.declared.received.Received.TheVariants as received
use Rattle.iox_control.specs.Replies.{reply_of_receive}
use Rattle.iox_control_releasing.specs.Endings.{given_up_as, with_ended}
use Rattle.iox_control_releasing.specs.Named.{IsHeldPort}
use Rattle.iox_control_request_copies.specs.Requested.{Requested}
use Rattle.iox_control_request_copies.specs.Requested.TheVariants.{To, ExceedsMaxActiveRequests, UnableToDeliver}
use Rattle.iox_control_request_copies.specs.Requests.{ways_of, with_request_sent, with_requests_back}
use Rattle.iox_control_request_copies.specs.Sendings.{with_lost_released, with_request_ended}
use Rattle.iox_control_request_copies.specs.Servers.{request_ways}
use Rattle.iox_control_request_copies.specs.Responses.{is_shut, with_response_ended, with_response_sent, with_way_emptied}
use Rattle.iox_hub.specs.Hubs.{HubState, IsHub, with_control}
use Rattle.iox_hub.specs.Keeping.{IsNew, IsOther, Keeps, KeepsAll, KeepsOthers}
use Rattle.iox_hub.specs.Sending.{with_words_left}
use Rattle.iox_hub.proofs.Keeping.{PortStays, RowStays, keeps_then, value_stays, words_left_keep}
use Rattle.iox_hub.proofs.KeepingHandles.{named_is_not_next, next_is_nothing, other_added, other_changed, other_dropped}
use Rattle.iox_hub.proofs.KeepingPorts.{AreOwnedAs, IsStillIn, Owned, lanes_owned, owned, port_owned, states_owned, still_as, still_released, still_twice, still_unheld}
use Rattle.iox_hub.proofs.ReleasingFits.{given_up_handles, released_handles}
use Rattle.iox_hub.proofs.SendingFits.{response_handles}
use Rattle.iox_hub.proofs.SendingNames.{found_node}

-- then words go of pools that are gone
pub left_keeps : (P : ℕ → ℕ → Type 0) (h mid new : HubState) → AreInOrder mid.control.tables → (place : ℕ) → new ≡ with_words_left mid place → Keeps P h mid → Keeps P h new
left_keeps P h mid new order place is first = keeps_then P h mid new first (subst (λ (d : HubState). KeepsAll mid d) (sym is) (words_left_keep mid order place))

-- ---- rows

got_rows : (t t1 t' : HubTables) → AreInOrder t → (node port : ℕ) (role : Role) (v : Visits) → t1.handles ≡ t.handles → t1.next_number ≡ t.next_number
    → t'.handles ≡ (with_got t1 node role port v).handles → (a m : ℕ) → IsSome (kind_in t a m) → RowStays t t' a m
got_rows t t1 t' order node port role (Got s pool k) same next handles a m some =
    ap (λ hs. handle_in hs a m) handles
    ∙ other_added (got_handle t1 node role port pool k) a m (λ e. named_is_not_next t order a m some (e ∙ next)) t1.handles
    ∙ ap (λ hs. handle_in hs a m) same
got_rows t t1 t' order node port role AtLimit same next handles a m some = ap (λ hs. handle_in hs a m) (handles ∙ same)
got_rows t t1 t' order node port role Nothing same next handles a m some = ap (λ hs. handle_in hs a m) (handles ∙ same)

got_ports : (t : HubTables) (node port : ℕ) (role : Role) (v : Visits) → (with_got t node role port v).ports ≡ t.ports
got_ports t node port role (Got s pool k) = refl
got_ports t node port role AtLimit = refl
got_ports t node port role Nothing = refl

-- ---- numbers

abbrev is_handle : Reply → Bool
is_handle (replies.Handle n) = true
is_handle r = false

abbrev number_in : Reply → ℕ
number_in (replies.Handle n) = n
number_in r = 0

-- what a receive gave was nothing before
pub got_is_new : {h : HubState} → IsHub h → (node : ℕ) (v : Visits) (r : Received) → reply_of_receive r ≡ got_reply h.control.tables v → IsNew h node r
got_is_new {h} hub node (Got s pool k) (received.Handle n) e = next_is_nothing h.control.tables hub.control.order node n (ap number_in e)
got_is_new {h} hub node AtLimit (received.Handle n) e = absurd (true≢false (ap is_handle e))
got_is_new {h} hub node Nothing (received.Handle n) e = absurd (true≢false (ap is_handle e))
got_is_new {h} hub node v received.Nothing e = tt
got_is_new {h} hub node v received.AtLimit e = tt

-- ---- ports

given_up_owned : (kind : Kind) (t : HubTables) (h : HandleState) → AreOwnedAs t.ports (given_up_as kind t h).ports
given_up_owned kinds.PendingResponse t h = states_owned (λ r. closed_for r (request_of t h)) t.ports (pending_states t h)
given_up_owned kinds.ActiveRequest t h =
    states_owned (λ r. closed_for r (request_of t h)) (with_given_back t (way_in t.pools h) h).ports (way_to_client t h ∷ [])
    ∙ lanes_owned (λ l. released l h.slot) t.ports (way_in t.pools h ∷ [])
given_up_owned kinds.Response t h = lanes_owned (λ l. released l h.slot) t.ports (way_in t.pools h ∷ [])
given_up_owned kinds.Client t h = refl
given_up_owned kinds.Server t h = refl
given_up_owned kinds.RequestMutUninit t h = refl
given_up_owned kinds.RequestMut t h = refl
given_up_owned kinds.ResponseMutUninit t h = refl
given_up_owned kinds.ResponseMut t h = refl

response_owned : (t : HubTables) (h : HandleState) → AreOwnedAs t.ports (with_response_sent t h).ports
response_owned t h = step (is_named_by_client t h false) (is_shut t h)
  where
    emptied : AreOwnedAs t.ports (with_way_emptied t h).ports
    emptied = lanes_owned emptied_lane t.ports (way_to_client t h ∷ [])

    step : (b c : Bool)
        → AreOwnedAs t.ports
        (if b then (if c then with_way_emptied t h else with_lanes (delivers t.settings.response_overflow h.slot) (with_way_emptied t h) (way_to_client t h ∷ [])) else t).ports
    step true true = emptied
    step true false = lanes_owned (delivers t.settings.response_overflow h.slot) (with_way_emptied t h).ports (way_to_client t h ∷ []) ∙ emptied
    step false c = refl

back_owned : (t : HubTables) (h : HandleState) → AreOwnedAs t.ports (with_requests_back t h).ports
back_owned t h = lanes_owned emptied_lane t.ports (request_ways h.port t.ports)

pub sent_owned : (t : HubTables) (h : HandleState) (overflow : Bool) → AreOwnedAs t.ports (with_request_sent t h overflow).ports
sent_owned t h overflow =
    lanes_owned (delivers overflow h.slot) (with_opened t (request_of t h) (pending_states t h)).ports (ways_of t h overflow)
    ∙ states_owned (λ r. Named (request_of t h) false) t.ports (pending_states t h)

-- ---- calls that change no words

module _ {h : HubState} (hub : IsHub h) (c : ControlState) (order : IsControl c) where
  abbrev t : HubTables
  t = h.control.tables

  abbrev u : HubTables
  u = c.tables

  pub rows_keep : (P : ℕ → ℕ → Type 0) → ((a m : ℕ) → P a m → PortStays t u a m) → ((a m : ℕ) → P a m → IsSome (kind_in t a m) → RowStays t u a m)
      → Keeps P h (with_control h c)
  rows_keep P ports rows a m p some = value_stays h (with_control h c) order.order a m (ports a m p) (rows a m p some) (λ k at. refl) some

  pub owned_stay : AreOwnedAs t.ports u.ports → (a m : ℕ) → PortStays t u a m
  owned_stay same a m p at held on = still_as t.ports u.ports same m p at

  -- ---- receives and hints

  pub request_keeps : (node server : ℕ) → IsButHolders (with_request t node server) u → KeepsAll h (with_control h c)
  request_keeps node server is =
      let wanted : Wanted = wanted_by_server t.settings.fire_and_forget in
      let visited : HubTables = with_visited t server 0 wanted in
      let v : Visits = visits_at t server 0 wanted in
      rows_keep (λ a m. ⊤)
      (λ a m all. owned_stay
      (ap (map owned) (ap (λ (z : HubTables). z.ports) is.same ∙ got_ports visited node server Server v)
      ∙ port_owned (visited_port wanted (labels_of t.pools) 0) (λ p. refl) t.ports server) a m)
      (λ a m all. got_rows t visited u hub.control.order node server Server v refl refl (ap (λ (z : HubTables). z.handles) is.same) a m)

  pub response_keeps : (node n : ℕ) → (pending : IsPending t node n) → ((k : HandleState) → handle_in t.handles node n ≡ Some k → IsButHolders (with_response t node k) u)
      → KeepsAll h (with_control h c)
  response_keeps node n pending left =
      let k : HandleState = pending.handle in
      let l : Label = labels_of t.pools k.pool k.slot in
      let visited : HubTables = with_visited t k.port l.lane (Of l.request) in
      let v : Visits = visits_at t k.port l.lane (Of l.request) in
      let is : IsButHolders (with_response t node k) u = left k pending.named.there in
      rows_keep (λ a m. ⊤)
      (λ a m all. owned_stay
      (ap (map owned) (ap (λ (z : HubTables). z.ports) is.same ∙ got_ports visited node k.port Client v)
      ∙ port_owned (visited_port (Of l.request) (labels_of t.pools) l.lane) (λ p. refl) t.ports k.port) a m)
      (λ a m all. got_rows t visited u hub.control.order node k.port Client v refl refl (ap (λ (z : HubTables). z.handles) is.same) a m)

  pub hint_keeps : (k : HandleState) → c ≡ with_tables h.control (with_hint t k) → KeepsAll h (with_control h c)
  hint_keeps k is =
      rows_keep (λ a m. ⊤)
      (λ a m all. owned_stay
      (ap (λ (d : ControlState). map owned d.tables.ports) is ∙ states_owned (λ r. hinted_for r (request_of t k)) t.ports (pending_states t k)) a m)
      (λ a m all some. ap (λ (d : ControlState). handle_in d.tables.handles a m) is)

  -- ---- a handle goes, and then its port, if nothing of it is left

  module _ (node n : ℕ) where
    gone_keeps : (z : HubTables) (port : ℕ) → u ≡ record (with_released z port) { pools = u.pools } → AreOwnedAs t.ports z.ports → z.handles ≡ dropped_handles node n t.handles
        → KeepsOthers h node n (with_control h c)
    gone_keeps z port is same handles =
        rows_keep (IsOther node n) ports
        (λ a m other some.
        ap (λ hs. handle_in hs a m) (ap (λ (x : HubTables). x.handles) is ∙ released_handles z port ∙ handles) ∙ other_dropped node n a m other t.handles)
      where
        ports : (a m : ℕ) → IsOther node n a m → PortStays t u a m
        ports a m other p at held on =
            let first : IsStillIn z.ports m p = still_as t.ports z.ports same m p at in
            subst (λ (x : HubTables). IsStillIn x.ports m p) (sym is)
            (still_twice z.ports (with_released z port).ports m p first (still_released z port m first.0 first.1 (ap (λ (w : Owned). w.held) first.2 ∙ held)))

    pub response_sent_keeps : (k : HandleState) (fails : Bool) → u ≡ record (with_released (with_response_ended t node n k fails) k.port) { pools = u.pools }
        → KeepsOthers h node n (with_control h c)
    response_sent_keeps k fails is =
        gone_keeps (with_response_ended t node n k fails) k.port is (response_owned t k) (ap (dropped_handles node n) (response_handles t k))

    pub request_sent_keeps : (k : HandleState) → handle_in t.handles node n ≡ Some k → (r : Requested)
        → u ≡ record (with_lost_released r (with_request_ended t node n k r) k.port) { pools = u.pools } → KeepsOthers h node n (with_control h c)
    request_sent_keeps k there (To count) is =
        let back : HubTables = with_requests_back t k in
        let overflow : Bool = t.settings.request_overflow in
        let new : HandleState = pending_of k (length (ways_of back k overflow)) in
        let key = found_node t.handles node n k there in
        rows_keep (IsOther node n)
        (λ a m other. owned_stay (ap (λ (x : HubTables). map owned x.ports) is ∙ sent_owned back k overflow ∙ back_owned t k) a m)
        (λ a m other some. ap (λ (x : HubTables). handle_in x.handles a m) is ∙ other_changed node n a m other new key.0 key.1 t.handles)
    request_sent_keeps k there ExceedsMaxActiveRequests is = gone_keeps (with_dropped t node n) k.port is refl refl
    request_sent_keeps k there UnableToDeliver is = gone_keeps (with_dropped (with_requests_back t k) node n) k.port is (back_owned t k) refl

    pub released_keeps : (k : HandleState) → handle_in t.handles node n ≡ Some k → u ≡ record (with_released (with_ended t k) k.port) { pools = u.pools }
        → KeepsOthers h node n (with_control h c)
    released_keeps k there is =
        let key = found_node t.handles node n k there in
        gone_keeps (with_ended t k) k.port is (given_up_owned k.kind t k)
        (ap (dropped_handles k.node k.number) (given_up_handles k.kind t k) ∙ ap₂ (λ i j. dropped_handles i j t.handles) key.0 key.1)

    pub port_released_keeps : IsHeldPort t node n → u ≡ record (with_released (with_value_released t n) n) { pools = u.pools } → KeepsOthers h node n (with_control h c)
    port_released_keeps own is =
        rows_keep (IsOther node n) ports
        (λ a m other some. ap (λ hs. handle_in hs a m) (ap (λ (x : HubTables). x.handles) is ∙ released_handles (with_value_released t n) n))
      where
        ports : (a m : ℕ) → IsOther node n a m → PortStays t u a m
        ports a m other p at held on =
            let apart : m ≢ n =
            λ e. other (sym on ∙ ap (λ (q : PortState). q.node) (same_Some p own.port (sym at ∙ ap (port_in t.ports) e ∙ own.there)) ∙ own.on_node) e in
            let first : IsStillIn (with_value_released t n).ports m p = still_unheld t n m p apart at in
            subst (λ (x : HubTables). IsStillIn x.ports m p) (sym is)
            (still_twice (with_value_released t n).ports (with_released (with_value_released t n) n).ports m p first
            (still_released (with_value_released t n) n m first.0 first.1 (ap (λ (w : Owned). w.held) first.2 ∙ held)))
