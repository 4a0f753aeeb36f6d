-- The client of a response waits for it if it is connected and still names the request.
use Rattle.std.specs.Prelude.{◌≡◌, Bool, true, false, ◌&&◌, Option, Some, None, refl}
use Rattle.std.specs.Option.{option_map}
use Rattle.std.proofs.Common.{sym, ap, ◌∙◌, true≢false}
use Rattle.std.proofs.lemmas.Option.{none-some, same_Some}
use Rattle.iox_handles.specs.declared.entry.Entry.{Entry}
use Rattle.iox_lanes.specs.declared.wanted.Label.{Label}
use Rattle.iox_model.specs.declared.kind.Role.TheVariants.{Client, Server}
use Rattle.iox_model.specs.declared.way.RequestState.{RequestState}
use Rattle.iox_model.specs.Messages.{names, response_way}
use Rattle.iox_model.specs.Settings.{is_client}
use Rattle.iox_laws.proofs.WeaveLedger.Lists.{number-among}
use Rattle.iox_tables.specs.HubStates.Tables.{HandleState, HubTables, PortState, labels_of, port_in}
use Rattle.iox_tables.specs.HubStates.Wirings.{numbers_of_role}
use Rattle.iox_tables.specs.HubBooks.Hubs.{AreInOrder}
use Rattle.iox_tables.proofs.HubBooks.Frames.{some_map}
use Rattle.iox_tables.proofs.HubBooks.Sendable.{of_role}
use Rattle.iox_tables.proofs.HubKeeping.NewPorts.{in_role, same_self}
use Rattle.iox_tables.specs.HubLoans.Questions.{has_client, is_named_by_client, names_request, state_of}
use Rattle.iox_hub_ports.specs.declared.info.PortInfo.{PortInfo}
use Rattle.iox_hub_ports.specs.Ports.{info_in, info_of, state_of_way}
use Rattle.iox_control.specs.Entries.{handle_state}

module _ (t : HubTables) (order : AreInOrder t) (e : Entry) (i : Option PortInfo) (found : i ≡ info_in t.ports e.client) where
  abbrev h : HandleState
  h = handle_state e

  abbrev named : Bool
  named = names_request false (labels_of t.pools e.pool e.slot).request (state_of t (response_way e.client (labels_of t.pools e.pool e.slot).lane e.port))

  -- where it is no client, nobody waits
  off : has_client t h ≡ false → false ≡ is_named_by_client t h false
  off none = sym (ap (λ b. b && named) none)

  -- it is a client where its number is among theirs
  a_client : has_client t h ≡ true → (p : PortState) × (port_in t.ports e.client ≡ Some p) × (p.role ≡ Client)
  a_client is = of_role t order Client e.client (number-among e.client (numbers_of_role Client t.ports) is)

  by_case : (has_client t h ≡ true → ⊥) → has_client t h ≡ false
  by_case not = step (has_client t h) refl
    where
      step : (b : Bool) → has_client t h ≡ b → has_client t h ≡ false
      step true is = absurd (not is)
      step false is = is

  pub not_connected : i ≡ None → false ≡ is_named_by_client t h false
  not_connected none = off (by_case (λ is.
      let p = a_client is in
      none-some (info_of p.0) (sym none ∙ found ∙ ap (option_map info_of) p.1)))

  the_port : (info : PortInfo) → i ≡ Some info → (p : PortState) × (port_in t.ports e.client ≡ Some p) × (info_of p ≡ info)
  the_port info some = some_map info_of (port_in t.ports e.client) info (sym found ∙ some)

  pub no_client : (info : PortInfo) → i ≡ Some info → info.role ≡ Server → false ≡ is_named_by_client t h false
  no_client info some server = off (by_case (λ is.
      let p = a_client is in
      let q = the_port info some in
      true≢false
      (ap is_client
      (sym p.2 ∙ ap (λ (x : PortState). x.role) (same_Some p.0 q.0 (sym p.1 ∙ q.1)) ∙ ap (λ (x : PortInfo). x.role) q.2 ∙ server))))

  pub a_named_client : (info : PortInfo) (l : Label) (r : RequestState) (told : Bool) → i ≡ Some info → info.role ≡ Client
      → l ≡ labels_of t.pools e.pool e.slot → r ≡ state_of_way t.ports (response_way e.client l.lane e.port) → told ≡ names r l.request
      → told ≡ is_named_by_client t h false
  a_named_client info l r told some client label state is =
      is
      ∙ ap (λ s. names s l.request) state
      ∙ ap (λ (m : Label). names (state_of_way t.ports (response_way e.client m.lane e.port)) m.request) label
      ∙ sym (ap (λ b. b && named) among)
    where
      among : has_client t h ≡ true
      among =
          let q = the_port info some in
          in_role t.ports e.client q.0 Client q.1 (same_self q.0.role Client (ap (λ (x : PortInfo). x.role) q.2 ∙ client))
