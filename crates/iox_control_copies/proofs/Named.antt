-- The copy of an active request's response is that of its lender.
use Rattle.std.specs.Prelude.{◌≡◌, ℕ, Bool, false, ◌&&◌, Some}
use Rattle.std.proofs.Common.{sym, ap, ap₂, subst, ◌∙◌}
use Rattle.iox_handles.specs.declared.entry.Entry.{Entry}
use Rattle.iox_lanes.specs.declared.wanted.Label.{Label}
use Rattle.iox_lanes.specs.Lanes.{IsSound, LaneState}
use Rattle.iox_tables.specs.HubStates.Ways.{lane_on}
use Rattle.iox_model.specs.declared.kind.Role.TheVariants.{Client, Server}
use Rattle.iox_model.specs.Maps.{has_number}
use Rattle.iox_model.specs.Messages.{response_way}
use Rattle.iox_tables.specs.HubStates.Tables.{HandleState, HubTables, PortState, labels_of, port_in}
use Rattle.iox_tables.specs.HubStates.Wirings.{handle_in, numbers_of_role}
use Rattle.iox_hub_ports.specs.declared.info.PortInfo.{PortInfo}
use Rattle.iox_hub_ports.specs.Ports.{info_in, info_of, place_in}
use Rattle.iox_tables.specs.HubBooks.Hubs.{AreInOrder}
use Rattle.iox_tables.proofs.HubLending.Owning.{number_is}
use Rattle.iox_tables.specs.HubLoans.CopySends.{is_lender_awaited}
use Rattle.iox_tables.specs.HubLoans.Lenders.{lender_of_response}
use Rattle.iox_tables.specs.HubLoans.Questions.{is_named_by_client, names_request, state_of}
use Rattle.iox_control.specs.Controls.{ControlState}
use Rattle.iox_control.specs.Entries.{handle_state}
use Rattle.iox_control_lending.specs.declared.asked.Asked.{Asked}
use Rattle.iox_control_lending.specs.Lends.{lender_of}
use Rattle.iox_control_lending.proofs.PortLemmas.{info_is, lender_is, port_at, response_of_entry, there_by}
use Rattle.iox_control_copies.specs.declared.answered.Answered.{Answered}
use Rattle.iox_control_copies.specs.Answers.{CopyComesTo, way_of}

module _ (t : HubTables) (order : AreInOrder t) (e : Entry) (info : PortInfo) (port : PortState) (there : port_in t.ports e.port ≡ Some port) (found : Some info ≡ info_in t.ports e.port) where
  pub awaited_for : (label : Label) (awaited : Bool) → label ≡ labels_of t.pools e.pool e.slot → awaited ≡ is_named_by_client t (handle_state e) false
      → (p : PortState) → info ≡ info_of p → awaited ≡ is_lender_awaited t (lender_of p (response_of_entry e info label))
  awaited_for label awaited is told p of =
      told
      ∙ ap₂ (λ (l : Label) (n : ℕ). has_number e.client (numbers_of_role Client t.ports) && names_request false l.request (state_of t (response_way e.client l.lane n))) (sym is)
      (sym (number_is t order e.port port there) ∙ ap (λ (i : PortInfo). i.number) (sym (info_is t e.port info port order there found) ∙ of))

  pub place_for : (at : ℕ) → place_in t.ports e.port ≡ Some at → place_in t.ports info.number ≡ Some at
  place_for at first =
      ap (place_in t.ports) (ap (λ (i : PortInfo). i.number) (info_is t e.port info port order there found) ∙ number_is t order e.port port there) ∙ first

  pub role_for : port.role ≡ Server → info.role ≡ Server
  role_for server = ap (λ (i : PortInfo). i.role) (info_is t e.port info port order there found) ∙ server

pub response_answered : (c new : ControlState) (node n : ℕ) (e : Entry) (info : PortInfo) (label : Label) (a : Asked) (fails : Bool) (result : Answered) → AreInOrder c.tables
    → Some (handle_state e) ≡ handle_in c.tables.handles node n → Some info ≡ info_in c.tables.ports e.port → label ≡ labels_of c.tables.pools e.pool e.slot
    → ((p : PortState) → port_in c.tables.ports info.number ≡ Some p → CopyComesTo c (lender_of p (response_of_entry e info label)) a fails result new)
    → (h : HandleState) (p : PortState) → handle_in c.tables.handles node n ≡ Some h → port_in c.tables.ports h.port ≡ Some p
    → CopyComesTo c (lender_of_response c.tables h p) a fails result new
response_answered c new node n e info label a fails result order entry found at answers h p there port =
    subst (λ y. CopyComesTo c y a fails result new) (lender_is c.tables node n e entry h there p info label at)
    (answers p (there_by c.tables e.port info p order (port_at c.tables node n e entry h there p port) found))

pub response_sound : (t : HubTables) (node n : ℕ) (e : Entry) (info : PortInfo) (label : Label) → AreInOrder t
    → Some (handle_state e) ≡ handle_in t.handles node n → Some info ≡ info_in t.ports e.port → label ≡ labels_of t.pools e.pool e.slot
    → ((p : PortState) → port_in t.ports info.number ≡ Some p → (l : LaneState) → lane_on t.ports (way_of (lender_of p (response_of_entry e info label))) ≡ Some l → IsSound l)
    → (h : HandleState) (p : PortState) → handle_in t.handles node n ≡ Some h → port_in t.ports h.port ≡ Some p
    → (l : LaneState) → lane_on t.ports (way_of (lender_of_response t h p)) ≡ Some l → IsSound l
response_sound t node n e info label order entry found at sound h p there port =
    subst (λ y. (l : LaneState) → lane_on t.ports (way_of y) ≡ Some l → IsSound l) (lender_is t node n e entry h there p info label at)
    (sound p (there_by t e.port info p order (port_at t node n e entry h there p port) found))
