-- A lender, by what is known about its port.
use Rattle.std.specs.Prelude.{◌≡◌, ℕ, ◌%◌, ◌^◌, List, None, Option, Some, refl}
use Rattle.std.specs.Option.{option_map}
use Rattle.std.proofs.Common.{ap, subst, sym, true≢false, ◌∙◌}
use Rattle.std.proofs.lemmas.Option.{none-some, same_Some}
use Rattle.iox_handles.specs.declared.entry.Entry.{Entry}
use Rattle.iox_model.specs.declared.kind.Role.{Role}
use Rattle.iox_model.specs.declared.kind.Role.TheVariants.{Client, Server}
use Rattle.iox_model.specs.Settings.{is_client}
use Rattle.iox_lanes.specs.declared.wanted.Label.{Label}
use Rattle.iox_tables.specs.HubStates.Tables.{HandleState, HubTables, PortState, labels_of, port_in}
use Rattle.iox_tables.specs.HubStates.Wirings.{handle_in}
use Rattle.iox_hub_ports.specs.declared.info.PortInfo.{PortInfo}
use Rattle.iox_hub_ports.specs.Ports.{info_in, info_of}
use Rattle.iox_tables.specs.HubBooks.Hubs.{AreInOrder}
use Rattle.iox_tables.specs.HubLoans.Lenders.{Lender, lender_of_request, lender_of_response}
use Rattle.iox_tables.proofs.HubLending.Owning.{number_is}
use Rattle.iox_control.specs.Controls.{ControlState}
use Rattle.iox_control.specs.Entries.{handle_state}
use Rattle.iox_control_lending.specs.declared.asked.Asked.{Asked}
use Rattle.iox_control_lending.specs.declared.asked.Lending.{Lending}
use Rattle.iox_control_lending.specs.declared.asked.Lent.{Lent}
use Rattle.iox_control_lending.specs.Lends.{IsPortOf, Lends, lender_of}

module _ (t : HubTables) (n : ℕ) (info : PortInfo) (p : PortState) (order : AreInOrder t) (there : port_in t.ports n ≡ Some p) (found : Some info ≡ info_in t.ports n) where
  pub info_is : info ≡ info_of p
  info_is = same_Some info (info_of p) (found ∙ ap (option_map info_of) there)

  pub there_by : port_in t.ports info.number ≡ Some p
  there_by = ap (λ (i : PortInfo). port_in t.ports i.number) info_is ∙ ap (port_in t.ports) (number_is t order n p there) ∙ there

  pub port_found : (client lane request : ℕ) → IsPortOf t (record { port = info; client = client; lane = lane; request = request })
  port_found client lane request = record { port = p; there = there_by; info = info_is }

-- a port of that role, by what is known about it
pub role_is : (ports : List PortState) (n : ℕ) (info : PortInfo) (role : Role) → Some info ≡ info_in ports n
    → ((p : PortState) → port_in ports n ≡ Some p → p.role ≡ role) → info.role ≡ role
role_is ports n info role found of = step (port_in ports n) refl found
  where
    step : (o : Option PortState) → port_in ports n ≡ o → Some info ≡ option_map info_of o → info.role ≡ role
    step None at said = absurd (none-some info (sym said))
    step (Some p) at said = ap (λ (i : PortInfo). i.role) (same_Some info (info_of p) said) ∙ of p at

pub not_client : (r : Role) → r ≡ Server → r ≡ Client → ⊥
not_client r server client = true≢false (sym (ap is_client client) ∙ ap is_client server)

-- what a client's loan is for
abbrev pub request_of_port : PortInfo → Lending
request_of_port info = record { port = info; client = info.number; lane = 0; request = info.loans % 2 ^ 62 }

-- what is so of a client that lends, by what is known about it, is so of it
pub request_so : (P : Lender → Type 0) (t : HubTables) (n : ℕ) (info : PortInfo) → AreInOrder t → Some info ≡ info_in t.ports n
    → ((p : PortState) → port_in t.ports info.number ≡ Some p → P (lender_of p (request_of_port info)))
    → (p : PortState) → port_in t.ports n ≡ Some p → P (lender_of_request p 0)
request_so P t n info order found is p at =
    subst P
    (ap (λ (i : PortInfo). lender_of p (request_of_port i)) (info_is t n info p order at found))
    (is p (there_by t n info p order at found))

pub request_lent : (c new : ControlState) (n : ℕ) (info : PortInfo) (a : Asked) (result : Lent) → AreInOrder c.tables → Some info ≡ info_in c.tables.ports n
    → ((p : PortState) → port_in c.tables.ports info.number ≡ Some p → Lends c (lender_of p (request_of_port info)) a result new)
    → (p : PortState) → port_in c.tables.ports n ≡ Some p → Lends c (lender_of_request p 0) a result new
request_lent c new n info a result order found lends = request_so (λ y. Lends c y a result new) c.tables n info order found lends

-- what the loan of an active request is for
abbrev pub response_of_entry : Entry → PortInfo → Label → Lending
response_of_entry e info label = record { port = info; client = e.client; lane = label.lane; request = label.request }

module _ (t : HubTables) (node n : ℕ) (e : Entry) (found : Some (handle_state e) ≡ handle_in t.handles node n) (h : HandleState) (there : handle_in t.handles node n ≡ Some h) where
  same_entry : handle_state e ≡ h
  same_entry = same_Some (handle_state e) h (found ∙ there)

  pub port_at : (p : PortState) → port_in t.ports h.port ≡ Some p → port_in t.ports e.port ≡ Some p
  port_at p at = ap (λ (k : HandleState). port_in t.ports k.port) same_entry ∙ at

  pub lender_is : (p : PortState) (info : PortInfo) (label : Label) → label ≡ labels_of t.pools e.pool e.slot
      → lender_of p (response_of_entry e info label) ≡ lender_of_response t h p
  lender_is p info label is =
      ap (λ (m : Label). lender_of p (response_of_entry e info m)) is
      ∙ ap (λ (k : HandleState). lender_of_response t k p) same_entry

-- what is so of a server that lends, by what is known about it, is so of it
pub response_so : (P : Lender → Type 0) (t : HubTables) (node n : ℕ) (e : Entry) (info : PortInfo) (label : Label) → AreInOrder t
    → Some (handle_state e) ≡ handle_in t.handles node n → Some info ≡ info_in t.ports e.port → label ≡ labels_of t.pools e.pool e.slot
    → ((p : PortState) → port_in t.ports info.number ≡ Some p → P (lender_of p (response_of_entry e info label)))
    → (h : HandleState) (p : PortState) → handle_in t.handles node n ≡ Some h → port_in t.ports h.port ≡ Some p
    → P (lender_of_response t h p)
response_so P t node n e info label order entry found at is h p there port =
    subst P (lender_is t node n e entry h there p info label at)
    (is p (there_by t e.port info p order (port_at t node n e entry h there p port) found))

pub response_lent : (c new : ControlState) (node n : ℕ) (e : Entry) (info : PortInfo) (label : Label) (a : Asked) (result : Lent) → AreInOrder c.tables
    → Some (handle_state e) ≡ handle_in c.tables.handles node n → Some info ≡ info_in c.tables.ports e.port → label ≡ labels_of c.tables.pools e.pool e.slot
    → ((p : PortState) → port_in c.tables.ports info.number ≡ Some p → Lends c (lender_of p (response_of_entry e info label)) a result new)
    → (h : HandleState) (p : PortState) → handle_in c.tables.handles node n ≡ Some h → port_in c.tables.ports h.port ≡ Some p
    → Lends c (lender_of_response c.tables h p) a result new
response_lent c new node n e info label a result order entry found at lends =
    response_so (λ y. Lends c y a result new) c.tables node n e info label order entry found at lends
