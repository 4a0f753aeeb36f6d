-- What releases and sends ask of a hub's tables follows from what nodes have, and what they leave is a hub.
use Rattle.std.specs.Prelude.{◌≡◌, ℕ, Bool, true, false, ◌&&◌, if◌then◌else◌, ◌==◌, List, length, Option, Some, None, refl}
use Rattle.std.specs.Option.{option_map}
use Rattle.std.proofs.Common.{sym, ap, ap₂, subst, ◌∙◌, true≢false, eq-eqb}
use Rattle.std.proofs.lemmas.Option.{none-some, same_Some}
use Rattle.iox_model.specs.declared.kind.Kind.{Kind}
use Rattle.iox_model.specs.declared.kind.Kind.TheVariants as kinds
use Rattle.iox_model.specs.declared.call.Call.TheVariants.{IsConnected}
use Rattle.iox_model.specs.Commands.{Call, Reply, Use}
use Rattle.iox_model.specs.Names.{is_port, suits}
use Rattle.iox_model.specs.Runs.{OfHub}
use Rattle.iox_model.specs.WholeCalls.{IsWholeCall}
use Rattle.iox_laws.proofs.WeaveWorlds.Inductions.{step_is_reached}
use Rattle.iox_tables.specs.HubStates.Tables.{HandleState, HubTables, PortState, port_in}
use Rattle.iox_tables.specs.HubStates.Ends.{dropped_handles, with_dropped}
use Rattle.iox_tables.specs.HubStates.Releases.{with_value_released}
use Rattle.iox_tables.specs.HubStates.Sendings.{pending_of}
use Rattle.iox_tables.proofs.HubStates.Keys.{first_changed}
use Rattle.iox_tables.specs.HubStates.States.{Given}
use Rattle.iox_tables.specs.HubStates.Wirings.{IsHandle, handle_in}
use Rattle.iox_tables.specs.HubLoans.Questions.{kind_by, kind_in, kind_of_role}
use Rattle.iox_tables.specs.HubMaking.Disconnections.{cut_from, is_unused, with_disconnected, with_released}
use Rattle.iox_tables.proofs.HubMaking.Disconnecting.{port_left}
use Rattle.iox_hub_ports.specs.declared.info.PortInfo.{PortInfo}
use Rattle.iox_hub_ports.specs.Ports.{info_in, info_of}
use Rattle.iox_tables.specs.HubBooks.Handles.{IsOfPort}
use Rattle.iox_tables.specs.HubBooks.Hubs.{AreInOrder}
use Rattle.iox_tables.proofs.HubBooks.Used.{handle_is}
use Rattle.iox_control.specs.Controls.{ControlState, IsControl}
use Rattle.iox_control_releasing.specs.Endings.{given_up_as, with_ended}
use Rattle.iox_control_releasing.specs.Named.{IsHeldPort, IsNamed}
use Rattle.iox_control_request_copies.specs.Requested.{Requested}
use Rattle.iox_control_request_copies.specs.Requested.TheVariants.{To, ExceedsMaxActiveRequests, UnableToDeliver}
use Rattle.iox_control_request_copies.specs.Requests.{ways_of, with_requests_back}
use Rattle.iox_control_request_copies.specs.Sendings.{IsRequest, with_lost_released, with_request_ended}
use Rattle.iox_control_request_copies.specs.Responses.{IsResponse, with_response_ended, with_response_sent}
use Rattle.iox_hub.specs.Fits.{WordsFit}
use Rattle.iox_hub.specs.Hubs.{HasValue, HubState, IsHub, given_by, many_in, state_of_hub, with_control}
use Rattle.iox_hub.specs.Reads.{HasOf}
use Rattle.iox_hub.specs.Sending.{HasNothing, HasSent, is_handle}
use Rattle.iox_hub.proofs.Named.{found_is_handle}
use Rattle.iox_hub.proofs.ReleasingFits.{AreLeft, given_up_alike, left_alike, left_released, left_twice, released_handles}
use Rattle.iox_hub.proofs.SendingFits.{back_alike, response_alike}
use Rattle.iox_hub.proofs.SendingNames.{IsOfKind, found_node, handle_of_kind, names_changed, names_nothing, not_port, port_of_kind, what_passes}

-- ---- what a call asks of the tables

module _ {h : HubState} (hub : IsHub h) (now : HubState) (same : h ≡ now) (node n : ℕ) where
  of_kind : (kind : Kind) → is_port kind ≡ false → HasValue now node n kind → IsOfKind h.control.tables node n kind
  of_kind kind other has = handle_of_kind h.control.tables hub.control.order node n kind other (subst (λ (d : HubState). HasValue d node n kind) (sym same) has)

  pub named_of_hub : HasOf is_handle now node n → IsNamed h.control.tables node n
  named_of_hub has =
      let p = what_passes is_handle _ has in
      let of = of_kind p.kind (not_port (is_port p.kind) p.passes) p.is in record { handle = of.handle; named = of.named }

  pub held_port_of_hub : HasOf is_port now node n → IsHeldPort h.control.tables node n
  held_port_of_hub has =
      let p = what_passes is_port _ has in
      port_of_kind h.control.tables hub.control.order node n p.kind p.passes (subst (λ (d : HubState). HasValue d node n p.kind) (sym same) p.is)

  pub response_of_hub : HasValue now node n kinds.ResponseMut → IsResponse h.control.tables node n
  response_of_hub has = let of = of_kind kinds.ResponseMut refl has in record { handle = of.handle; named = of.named; kind = of.is }

  pub request_of_hub : HasValue now node n kinds.RequestMut → IsRequest h.control.tables node n
  request_of_hub has = let of = of_kind kinds.RequestMut refl has in record { handle = of.handle; named = of.named; kind = of.is }

  pub active_of_hub : HasValue now node n kinds.ActiveRequest → (g : HandleState) × IsHandle h.control.tables node n g × (g.kind ≡ kinds.ActiveRequest)
  active_of_hub has = let of = of_kind kinds.ActiveRequest refl has in (of.handle, of.named, of.is)

  pub either_of_hub : HasOf (suits false (IsConnected n)) now node n
      → (g : HandleState) × IsHandle h.control.tables node n g × (suits false (IsConnected n) g.kind ≡ true)
  either_of_hub has =
      let p = what_passes (suits false (IsConnected n)) _ has in
      let of = of_kind p.kind (no_ports p.kind p.passes) p.is in (of.handle, of.named, ap (suits false (IsConnected n)) of.is ∙ p.passes)
    where
      no_ports : (kind : Kind) → suits false (IsConnected n) kind ≡ true → is_port kind ≡ false
      no_ports kinds.PendingResponse e = refl
      no_ports kinds.ActiveRequest e = refl
      no_ports kinds.Client e = absurd (true≢false (sym e))
      no_ports kinds.Server e = absurd (true≢false (sym e))
      no_ports kinds.RequestMutUninit e = refl
      no_ports kinds.RequestMut e = refl
      no_ports kinds.ResponseMutUninit e = refl
      no_ports kinds.ResponseMut e = refl
      no_ports kinds.Response e = refl

-- ---- the port of a handle

module _ (t : HubTables) (order : AreInOrder t) (node n : ℕ) (h : HandleState) (there : Some h ≡ handle_in t.handles node n) where
  -- it is connected
  pub port_is_there : (ports : List PortState) → ports ≡ t.ports → (r : Option PortInfo) → r ≡ info_in ports h.port → r ≡ None → ⊥
  port_is_there ports same r found none =
      let of : IsOfPort t h = handle_is (IsOfPort t) t.handles node n h order.ports (sym there) in
      none-some (info_of of.port) (sym none ∙ found ∙ ap (λ ps. info_in ps h.port) same ∙ ap (option_map info_of) of.there)

-- a port's own value is of a connected port
pub held_is_there : (t : HubTables) (node n : ℕ) → IsHeldPort t node n → (ports : List PortState) → ports ≡ t.ports → (r : Option PortInfo) → r ≡ info_in ports n → r ≡ None → ⊥
held_is_there t node n held ports same r found none =
    none-some (info_of held.port) (sym none ∙ found ∙ ap (λ ps. info_in ps n) same ∙ ap (option_map info_of) held.there)

-- ---- whole calls

-- the same call leads to another hub that shows the same
pub whole_then : {h : HubState} → IsHub h → (c : ControlState) (new : HubState) (node : ℕ) (call : Call) (reply : Reply) (x : Given)
    → IsWholeCall (state_of_hub x h) node call reply (state_of_hub x (with_control h c)) → state_of_hub x (with_control h c) ≡ state_of_hub x new
    → IsWholeCall (state_of_hub x h) node call reply (state_of_hub x new)
whole_then {h} hub c new node call reply x whole same = subst (λ s. IsWholeCall (state_of_hub x h) node call reply s) same whole

-- so a hub continues, if the call is one of the hub
pub hub_goes_on_as : (h : HubState) (c : ControlState) (node : ℕ) (call : Call) (reply : Reply) → IsHub h → IsControl c → WordsFit (many_in h) h.words c.tables
    → ((x : Given) → IsWholeCall (state_of_hub x h) node call reply (state_of_hub x (with_control h c))) → IsHub (with_control h c)
hub_goes_on_as h c node call reply hub order fit whole =
    let (x, reached) = hub.reached in record {
      control = order;
      words = fit;
      reached = (x, step_is_reached (state_of_hub x h) (state_of_hub x (with_control h c)) (OfHub node (Use call) reply) reached (whole x));
    }

-- what such a hub gives beside its tables
abbrev pub given_of : {h : HubState} → IsHub h → Given → Given
given_of {h} hub x = given_by x h

-- the handle that is found is the one that is loaned
pub loan_is_request : (t : HubTables) (node n : ℕ) (h : HandleState) → IsRequest t node n → Some h ≡ handle_in t.handles node n → h.kind ≡ kinds.RequestMut
loan_is_request t node n h is found = ap (λ (k : HandleState). k.kind) (same_Some h is.handle (found ∙ is.named.there)) ∙ is.kind

-- ---- what the node has then

module _ (t t' : HubTables) (node n : ℕ) (h : HandleState) (named : IsHandle t node n h) (kind : h.kind ≡ kinds.RequestMut) (order : AreInOrder t') where
  pub sent_is_pending : (d : HubState) → d.control.tables ≡ t' → (r : Requested) → t' ≡ record (with_lost_released r (with_request_ended t node n h r) h.port) { pools = t'.pools }
      → HasSent d node n r
  sent_is_pending d same (To count) is =
      let back : HubTables = with_requests_back t h in
      subst (λ (z : HubTables). kind_in z node n ≡ Some kinds.PendingResponse) (sym same)
      (names_changed t t' node n h named order (pending_of h (length (ways_of back h t.settings.request_overflow))) refl refl (ap (λ (z : HubTables). z.handles) is))
  sent_is_pending d same ExceedsMaxActiveRequests is =
      subst (λ (z : HubTables). kind_in z node n ≡ None) (sym same)
      (names_nothing t t' node n h named
      (subst (λ (z : HubTables). AreLeft t.ports z.ports) (sym is) (left_released (with_dropped t node n) h.port))
      t.handles (ap (λ (z : HubTables). z.handles) is ∙ released_handles (with_dropped t node n) h.port))
  sent_is_pending d same UnableToDeliver is =
      let back : HubTables = with_requests_back t h in
      subst (λ (z : HubTables). kind_in z node n ≡ None) (sym same)
      (names_nothing t t' node n h named
      (subst (λ (z : HubTables). AreLeft t.ports z.ports) (sym is)
      (left_twice t.ports back.ports (with_released (with_dropped back node n) h.port).ports (left_alike t.ports back.ports (back_alike t h)) (left_released (with_dropped back node n) h.port)))
      t.handles (ap (λ (z : HubTables). z.handles) is ∙ released_handles (with_dropped back node n) h.port))

module _ (t t' : HubTables) (node n : ℕ) (h : HandleState) (named : IsHandle t node n h) (d : HubState) (same : d.control.tables ≡ t') where
  -- a handle that is released is gone
  pub released_is_gone : t' ≡ record (with_released (with_ended t h) h.port) { pools = t'.pools } → HasNothing d node n
  released_is_gone is =
      let up : HubTables = given_up_as h.kind t h in
      let key = found_node t.handles node n h named.there in
      subst (λ (z : HubTables). kind_in z node n ≡ None) (sym same)
      (names_nothing t t' node n h named
      (subst (λ (z : HubTables). AreLeft t.ports z.ports) (sym is)
      (left_twice t.ports up.ports (with_released (with_ended t h) h.port).ports (left_alike t.ports up.ports (given_up_alike h.kind t h)) (left_released (with_ended t h) h.port)))
      up.handles
      (ap (λ (z : HubTables). z.handles) is ∙ released_handles (with_ended t h) h.port ∙ ap₂ (λ a b. dropped_handles a b up.handles) key.0 key.1))

  -- so is a response that is sent
  pub response_is_gone : (fails : Bool) → t' ≡ record (with_released (with_response_ended t node n h fails) h.port) { pools = t'.pools } → HasNothing d node n
  response_is_gone fails is =
      let sent : HubTables = with_response_sent t h in
      let u : HubTables = with_response_ended t node n h fails in
      subst (λ (z : HubTables). kind_in z node n ≡ None) (sym same)
      (names_nothing t t' node n h named
      (subst (λ (z : HubTables). AreLeft t.ports z.ports) (sym is)
      (left_twice t.ports sent.ports (with_released u h.port).ports (left_alike t.ports sent.ports (response_alike t h)) (left_released u h.port)))
      sent.handles (ap (λ (z : HubTables). z.handles) is ∙ released_handles u h.port))

-- ---- a port whose own value is released

-- no port of that number has its own value, and no handle has that number
pub names_released : (t' : HubTables) (node n : ℕ) → ((p : PortState) → port_in t'.ports n ≡ Some p → p.held ≡ false) → handle_in t'.handles node n ≡ None → kind_in t' node n ≡ None
names_released t' node n held none = step (port_in t'.ports n) refl
  where
    step : (o : Option PortState) → port_in t'.ports n ≡ o → kind_by node o (handle_in t'.handles node n) ≡ None
    step (Some p) at = ap (λ (b : Bool). if b && (p.node == node) then Some (kind_of_role p.role) else None) (held p at)
    step None at = ap (kind_by node None) none

module _ (t t' : HubTables) (node n : ℕ) (order : AreInOrder t) (held : IsHeldPort t node n) where
  abbrev unheld : HubTables
  unheld = with_value_released t n

  unheld_port : (p : PortState) → port_in unheld.ports n ≡ Some p → p.held ≡ false
  unheld_port p at =
      let new : PortState = record (held.port) { held = false } in
      let found : port_in unheld.ports n ≡ Some new
      = first_changed (λ (q : PortState). q.number) (λ q. record q { held = false }) (λ q. refl) t.ports n n
      ∙ ap (λ (b : Bool). if b then option_map (λ (q : PortState). record q { held = false }) (port_in t.ports n) else port_in t.ports n) (eq-eqb n n refl)
      ∙ ap (option_map (λ (q : PortState). record q { held = false })) held.there in
      ap (λ (q : PortState). q.held) (sym (same_Some new p (sym found ∙ at)))

  left_unheld : (p : PortState) → port_in (with_released unheld n).ports n ≡ Some p → p.held ≡ false
  left_unheld p at = step (is_unused unheld n) at
    where
      step : (b : Bool) → port_in (if b then with_disconnected unheld n else unheld).ports n ≡ Some p → p.held ≡ false
      step false e = unheld_port p e
      step true e =
          absurd (none-some p
          (sym (port_left n unheld.ports n ∙ ap (λ (b : Bool). if b then None else option_map (cut_from n) (port_in unheld.ports n)) (eq-eqb n n refl)) ∙ e))

  no_handle : handle_in t.handles node n ≡ None
  no_handle = step (handle_in t.handles node n) refl
    where
      step : (o : Option HandleState) → handle_in t.handles node n ≡ o → o ≡ None
      step None at = refl
      step (Some h) at = absurd (none-some held.port (sym (found_is_handle t order node n h at).no_port ∙ held.there))

  -- its number names nothing then
  pub port_is_gone : (d : HubState) → d.control.tables ≡ t' → t' ≡ record (with_released unheld n) { pools = t'.pools } → HasNothing d node n
  port_is_gone d same is =
      subst (λ (z : HubTables). kind_in z node n ≡ None) (sym (same ∙ is))
      (names_released (record (with_released unheld n) { pools = t'.pools }) node n left_unheld (ap (λ hs. handle_in hs node n) (released_handles unheld n) ∙ no_handle))
