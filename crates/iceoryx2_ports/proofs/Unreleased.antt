-- A release leaves each other request open, where its client and the server are there still.
use Rattle.std.specs.Prelude.{◌≡◌, ℕ, Bool, true, false, ◌&&◌, ◌==◌, if◌then◌else◌, List, [], ◌∷◌, filter, map, Option, None, Some, is_some, option_map, refl}
use Rattle.std.specs.Option.{option_map_or}
use Rattle.std.proofs.Common.{sym, ap, ap₂, subst, ◌∙◌, eq-eqb, eqb-true, true≢false}
use Rattle.std.proofs.lemmas.Option.{none-some}
use Rattle.iox_model.specs.declared.call.Call.TheVariants.{Release}
use Rattle.iox_model.specs.declared.kind.Kind.{Kind}
use Rattle.iox_model.specs.declared.kind.Kind.TheVariants as kinds
use Rattle.iox_model.specs.declared.kind.Kind.TheVariants.{ActiveRequest, PendingResponse}
use Rattle.iox_model.specs.declared.kind.Role.TheVariants.{Client, Server}
use Rattle.iox_model.specs.declared.way.Way.{Way}
use Rattle.iox_model.specs.Commands.{Reply}
use Rattle.iox_model.specs.Doings.{Receiver}
use Rattle.iox_model.specs.Expiries.{released}
use Rattle.iox_model.specs.Handles.{Subject, TheHandle, ThePort, handle_at, kind_code, kind_of, node_of, port_or_handle, same_kind, subject}
use Rattle.iox_model.specs.Handles as handles
use Rattle.iox_model.specs.Maps.{has_number, has_way, same_way}
use Rattle.iox_model.specs.Messages.{names, response_way}
use Rattle.iox_model.specs.Names.{is_port}
use Rattle.iox_model.specs.Peers.{others, port_at}
use Rattle.iox_model.specs.States.{Handle, Port}
use Rattle.iox_model.specs.Transitions.{ends}
use Rattle.iox_model.specs.WholeCalls.{IsWholeCall}
use Rattle.iox_laws.proofs.WeaveLaws.MapLemmas.{same_way-true}
use Rattle.iox_laws.proofs.WeaveLedger.Truths.{both_true, by_cases, false_if, or-rest}
use Rattle.iox_tables.specs.HubLoans.Questions.{kind_in}
use Rattle.iox_tables.specs.HubStates.States.{Given, message_of}
use Rattle.iox_tables.specs.HubStates.Steps.{is_there}
use Rattle.iox_tables.specs.HubStates.Tables.{HandleState, HubTables, PortState}
use Rattle.iox_tables.specs.HubStates.Wirings.{IsPending, IsServer, numbers_of_role}
use Rattle.iox_tables.proofs.HubLoans.Asked.{each_value_is_there}
use Rattle.iox_tables.proofs.HubStates.Fixing.{find_handle}
use Rattle.iox_tables.proofs.HubStates.Steps.{connected_is}
use Rattle.iox_hub_laws.specs.Hubs.{HasValue, HubState, IsHub, given_by, nothing_given, state_of_hub}
use Rattle.iox_hub_laws.specs.Keeping.{IsOther}
use Rattle.iox_hub_laws.specs.Sending.{HasNothing}
use Rattle.iox_hub_laws.proofs.Named.{pending_is, server_is}
use Rattle.iox_hub_laws.specs.Shown.{handle_of, shown}
use Rattle.iox_hub_laws.specs.Waiting.{client_in, client_of, server_of}
use Rattle.iox_hub_laws.proofs.KindLemmas.{same_kinds}
use Rattle.iox_hub_laws.proofs.Values.{IsHandleOf, value_is_handle}
use Rattle.iceoryx2_ports.specs.Asking.{is_open_at}
use Rattle.iceoryx2_ports.specs.Idling.{client_on}
use Rattle.iceoryx2_ports.specs.Opens.{IsOfRequest, LeavesOpen}
use Rattle.iceoryx2_ports.specs.Responses.{answerer_in, asker_in, is_open}
use Rattle.iceoryx2_ports.proofs.Asking.{answerer_shown, asker_shown, client_shown, open_shown}
use Rattle.iceoryx2_ports.proofs.Aside.{named_at}
use Rattle.iceoryx2_ports.proofs.Others.{whole_there}
use Rattle.iceoryx2_ports.proofs.Requested.{port_is_there}
use Rattle.iceoryx2_ports.proofs.Sparing.{Spares, right_true, whole_spares}

-- ---- what a number names

-- what is named as a handle is the node's handle
handle_named : (p : Option Port) (q : Option Handle) (h : Handle) → port_or_handle p q ≡ Some (TheHandle h) → q ≡ Some h
handle_named (Some p) q h e = absurd (a_port p.held e)
  where
    is_port : Option Subject → Bool
    is_port (Some (TheHandle k)) = false
    is_port s = true

    a_port : (b : Bool) → (if b then Some (ThePort p) else None) ≡ Some (TheHandle h) → ⊥
    a_port true e = true≢false (ap is_port e)
    a_port false e = true≢false (ap is_port e)
handle_named None (Some k) h e = ap handle_or e
  where
    handle_or : Option Subject → Option Handle
    handle_or (Some (TheHandle j)) = Some j
    handle_or s = None
handle_named None None h e = absurd (none-some (TheHandle h) e)

-- a way to a client on a lane
state_way : (client lane : ℕ) (ns : List ℕ) (v : Way) → has_way v (map (response_way client lane) ns) ≡ true → (v.receiver ≡ client) × (v.lane ≡ lane)
state_way client lane [] v e = absurd (true≢false (sym e))
state_way client lane (n ∷ ns) v e =
    by_cases (same_way v (response_way client lane n))
    (λ same.
    let is : v ≡ response_way client lane n = same_way-true v (response_way client lane n) same in
    (ap (λ (w : Way). w.receiver) is, ap (λ (w : Way). w.lane) is))
    (λ other. state_way client lane ns v (or-rest (same_way v (response_way client lane n)) (has_way v (map (response_way client lane) ns)) e other))

-- ---- of a hub

module _ (old new : HubState) (after : IsHub new) (node n : ℕ) (kind : Kind) (has : HasValue old node n kind) (reply : Reply)
    (whole : (x : Given) → IsWholeCall (state_of_hub x old) node (Release n) reply (state_of_hub x new)) where
  abbrev t : HubTables
  t = old.control.tables

  abbrev u : HubTables
  u = new.control.tables

  abbrev y : Given
  y = given_by (nothing_given old) old

  module _ (h : Handle) (named : subject (shown old).fixed node n ≡ Some (TheHandle h)) where
    at : handle_at (shown old).fixed node n ≡ Some h
    at = handle_named (port_at (shown old).fixed n) (handle_at (shown old).fixed node n) h named

    told : handles.has (shown old).fixed node n kind ≡ true
    told =
        (each_value_is_there y t node n kind).has_it
        ∙ ap (λ (o : Option Kind). option_map_or (λ k. same_kind k kind) o false) has ∙ eq-eqb (kind_code kind) (kind_code kind) refl

    kind_is : h.kind ≡ kind
    kind_is =
        same_kinds h.kind kind
        (right_true (h.node == node) (same_kind h.kind kind)
        (sym (ap (λ (o : Option Subject). option_map_or (λ (x : Subject). (node_of x == node) && same_kind (kind_of x) kind) o false) named) ∙ told))

    module _ (port lane request server : ℕ) (other : IsOfRequest old node n kind (client_on port lane request) server → ⊥) where
      abbrev its : Way
      its = response_way port lane server

      of_kind : (k : Kind) → same_kind h.kind k ≡ true → IsOfRequest old node n k (client_on port lane request) server → ⊥
      of_kind k same is =
          other (subst (λ (j : Kind). IsOfRequest old node n j (client_on port lane request) server) (sym (same_kinds h.kind k same) ∙ kind_is) is)

      spares : Spares its request (shown old).fixed h
      spares = (
        λ active is.
            false_if (h.request == request)
            (λ same.
            of_kind ActiveRequest active (
              asker_shown old node n h at
                  ∙ ap (λ (c : ℕ). client_on c h.lane h.request) (sym (ap (λ (w : Way). w.receiver) is))
                  ∙ ap₂ (λ (l q : ℕ). client_on port l q) (sym (ap (λ (w : Way). w.lane) is)) (eqb-true h.request request same),
              answerer_shown old node n h at ∙ sym (ap (λ (w : Way). w.sender) is),
            )),
        λ pending v on is.
            let state : (v.receiver ≡ h.port) × (v.lane ≡ h.lane)
            = state_way h.port h.lane (others (shown old).fixed h.node Server) v
            (subst (λ (ws : List Way). has_way v ws ≡ true)
            (ap (λ (b : Bool). if b then map (response_way h.port h.lane) (others (shown old).fixed h.node Server)
            else map (λ (client : ℕ). response_way client h.lane h.port) (filter (λ (client : ℕ). client == h.client) (others (shown old).fixed h.node Client))) pending)
            on) in
            false_if (h.request == request)
            (λ same.
            of_kind PendingResponse pending
            (client_shown old node n h at
            ∙ ap (λ (c : ℕ). client_on c h.lane h.request) (sym (ap (λ (w : Way). w.receiver) is ∙ state.0))
            ∙ ap₂ (λ (l q : ℕ). client_on port l q) (sym (ap (λ (w : Way). w.lane) is ∙ state.1)) (eqb-true h.request request same))),
      )

  -- both ends are there, so it is named as before
  still_named : (port lane request server : ℕ) → (IsOfRequest old node n kind (client_on port lane request) server → ⊥)
      → is_there u.ports port ≡ true → is_there u.ports server ≡ true
      → names ((shown new).request_state (response_way port lane server)) request ≡ names ((shown old).request_state (response_way port lane server)) request
  still_named port lane request server other client served =
      whole_spares (response_way port lane server) request (shown old) (shown new) node n reply (λ h named. spares h named port lane request server other)
      (connected_is (given_by (nothing_given new) new) u.ports server ∙ served, connected_is (given_by (nothing_given new) new) u.ports port ∙ client)
      (whole (nothing_given old))

  stays_open : (waiter m owner server : ℕ) → HasValue new waiter m PendingResponse → HasValue new owner server kinds.Server
      → (IsOfRequest old node n kind (client_in new waiter m) server → ⊥) → is_open_at old (client_in new waiter m) server ≡ true
      → is_open_at new (client_in new waiter m) server ≡ true
  stays_open waiter m owner server awaits serves =
      subst
      (λ (x : Receiver). (IsOfRequest old node n kind x server → ⊥) → is_open_at old x server ≡ true → is_open_at new x server ≡ true)
      (sym (ap (λ (o : Option HandleState). option_map_or (client_of u) o (server_of m)) pending.named.there))
      (λ other opened.
      both_true (has_number x.port (numbers_of_role Client u.ports)) (names ((shown new).request_state (response_way x.port x.lane server)) x.request)
      (port_is_there u.ports x.port pending.port pending.there pending.client)
      (still_named x.port x.lane x.request server other (ap (λ (o : Option PortState). is_some o) pending.there)
      (ap (λ (o : Option PortState). is_some o) served.there)
      ∙ right_true (has_number x.port (numbers_of_role Client t.ports)) (names ((shown old).request_state (response_way x.port x.lane server)) x.request) opened))
    where
      pending : IsPending u waiter m
      pending = pending_is u after.control.order waiter m awaits

      served : IsServer u owner server
      served = server_is u after.control.order owner server serves

      x : Receiver
      x = client_of u pending.handle

  module _ (gone : HasNothing new node n) where
    -- a handle that is there is as it was
    module _ (a m : ℕ) (of : Kind) (no_port : is_port of ≡ false) (is : HasValue new a m of) where
      apart : IsOther node n a m
      apart same equal = none-some of (sym gone ∙ sym (ap₂ (λ (b j : ℕ). kind_in u b j) same equal) ∙ is)

      there : IsHandleOf u a m of
      there = value_is_handle u a m of no_port is

      abbrev g : Handle
      g = handle_of new there.handle

      now : handle_at (shown new).fixed a m ≡ Some g
      now =
          find_handle (given_by (nothing_given new) new) (message_of (given_by (nothing_given new) new) u.pools) u.handles a m
          ∙ ap (option_map (handle_of new)) there.named.there

      before : handle_at (shown old).fixed a m ≡ Some g
      before =
          sym (whole_there node n a m apart (shown old) (shown new) (Release n) reply refl (named_at (nothing_given old) old node n) (whole (nothing_given old)))
          ∙ now

      same_client : client_in new a m ≡ client_in old a m
      same_client = client_shown new a m g now ∙ sym (client_shown old a m g before)

      same_asker : asker_in new a m ≡ asker_in old a m
      same_asker = asker_shown new a m g now ∙ sym (asker_shown old a m g before)

      same_answerer : answerer_in new a m ≡ answerer_in old a m
      same_answerer = answerer_shown new a m g now ∙ sym (answerer_shown old a m g before)

      open_there : (h : HubState) → handle_at (shown h).fixed a m ≡ Some g → is_open h a m ≡ is_open_at h (asker_in old a m) (answerer_in old a m)
      open_there h at =
          open_shown h a m g at
          ∙ sym (ap₂ (λ (x : Receiver) (s : ℕ). is_open_at h x s) (asker_shown old a m g before) (answerer_shown old a m g before))

      open_before : is_open old a m ≡ is_open_at old (asker_in old a m) (answerer_in old a m)
      open_before = open_there old before

      open_now : is_open new a m ≡ is_open_at new (asker_in old a m) (answerer_in old a m)
      open_now = open_there new now

    stays_there : (waiter m owner server : ℕ) (x : Receiver) → HasValue new waiter m PendingResponse → HasValue new owner server kinds.Server
        → client_in old waiter m ≡ x → (IsOfRequest old node n kind x server → ⊥) → is_open_at old x server ≡ true → is_open_at new x server ≡ true
    stays_there waiter m owner server x awaits serves asks =
        subst (λ (y : Receiver). (IsOfRequest old node n kind y server → ⊥) → is_open_at old y server ≡ true → is_open_at new y server ≡ true)
        (same_client waiter m PendingResponse refl awaits ∙ asks) (stays_open waiter m owner server awaits serves)

    pub release_leaves_open : LeavesOpen old node n kind new
    release_leaves_open = record {
      opened = λ waiter m owner server awaits serves other opened.
          ap (λ (x : Receiver). is_open_at new x server) (same_client waiter m PendingResponse refl awaits)
          ∙ stays_there waiter m owner server (client_in old waiter m) awaits serves refl other opened;
      client = λ a m is. same_client a m PendingResponse refl is;
      asker = λ a m is. same_asker a m ActiveRequest refl is;
      answerer = λ a m is. same_answerer a m ActiveRequest refl is;
      active = λ a m waiter i owner is awaits asks serves other opened.
          open_now a m ActiveRequest refl is
          ∙ stays_there waiter i owner (answerer_in old a m) (asker_in old a m) awaits serves asks other
          (sym (open_before a m ActiveRequest refl is) ∙ opened);
    }

-- where nothing is released
pub nothing_leaves_open : (h : HubState) (node n : ℕ) (kind : Kind) → LeavesOpen h node n kind h
nothing_leaves_open h node n kind = record {
  opened = λ waiter m owner server awaits serves other opened. opened;
  client = λ a m is. refl;
  asker = λ a m is. refl;
  answerer = λ a m is. refl;
  active = λ a m waiter i owner is awaits asks serves other opened. opened;
}
