-- A copy whose loan is counted and which is put last in line, one change after another.
use Rattle.std.specs.Prelude.{◌≡◌, ℕ, [], ◌∷◌}
use Rattle.std.proofs.Common.{ap, ◌∙◌}
use Rattle.iox_model.specs.declared.way.Way.{Way}
use Rattle.iox_tables.specs.HubStates.Tables.{PortState}
use Rattle.iox_tables.specs.HubStates.Changes.{with_lanes}
use Rattle.iox_tables.specs.HubStates.Ends.{with_call, with_loan}
use Rattle.iox_hub_ports.specs.declared.info.PortInfo.{PortInfo}
use Rattle.iox_hub_ports.specs.Ports.{info_of, pushed}
use Rattle.iox_control.specs.Controls.{ControlState, with_tables}
use Rattle.iox_control_lending.specs.declared.asked.Lending.{Lending}
use Rattle.iox_control_lending.specs.Lends.{lender_of}
use Rattle.iox_control_responses.specs.Responses.{pools_after_push}
use Rattle.iox_control_copies.specs.Answers.{with_copy_pushed}

module _ (l : Lending) (slot : ℕ) where
  abbrev way : PortInfo → Way
  way i = record { sender = i.number; receiver = l.client; lane = l.lane }

  abbrev lend : PortInfo → ControlState → ControlState
  lend i c = with_tables c (with_loan c.tables i.number)

  abbrev push : PortInfo → ControlState → ControlState
  push i c = with_tables c (record (with_lanes (λ m. pushed m slot) c.tables (way i ∷ [])) { pools = pools_after_push c.tables (way i) i.pool })

  abbrev call : ControlState → ControlState
  call c = with_tables c (with_call c.tables)

  pub pushed_so : (c c1 c2 c3 c4 : ControlState) → c1 ≡ lend l.port c → c2 ≡ push l.port c1 → c3 ≡ call c2 → c4 ≡ call c3
      → (p : PortState) → l.port ≡ info_of p → c4 ≡ with_copy_pushed c (lender_of p l) slot
  pushed_so c c1 c2 c3 c4 e1 e2 e3 e4 p is =
      e4
      ∙ ap call e3
      ∙ ap (λ d. call (call d)) e2
      ∙ ap (λ d. call (call (push l.port d))) e1
      ∙ ap (λ i. call (call (push i (lend i c)))) is
