-- A loan, once all that was given back to its port is got back.
use Rattle.std.specs.Prelude.{◌≡◌, ℕ, ◌<◌, ◌%◌, ◌^◌, true, Some, None}
use Rattle.std.specs.List.{list_all}
use Rattle.std.specs.Option.{option_map}
use Rattle.std.proofs.Common.{sym, ap, subst, ◌∙◌}
use Rattle.std.proofs.lemmas.Option.{same_Some}
use Rattle.iox_tables.specs.HubStates.Tables.{HubTables, PortState, port_in, slots_of}
use Rattle.iox_tables.specs.HubStates.Changes.{emptied_lane}
use Rattle.iox_tables.specs.HubLoans.Lenders.{ways_by}
use Rattle.iox_tables.proofs.HubStates.Placing.{places_are_of_numbers}
use Rattle.iox_hub_ports.specs.declared.info.PortInfo.{PortInfo}
use Rattle.iox_hub_ports.specs.Ports.{info_at, info_of, place_in}
use Rattle.iox_control.proofs.InPlaceLemmas.{lanes_keep_place}
use Rattle.iox_tables.specs.HubLending.Emptying.{AreGotBack, with_back}
use Rattle.iox_tables.specs.HubLending.Keeping.{has_holder}
use Rattle.iox_tables.proofs.HubLending.Back.{getting_back_keeps_order}
use Rattle.iox_control.specs.Controls.{ControlState, IsControl, with_tables}
use Rattle.iox_control_lending.specs.declared.asked.Asked.{Asked}
use Rattle.iox_control_lending.specs.declared.asked.Lending.{Lending}
use Rattle.iox_control_lending.specs.declared.asked.Loaned.{Loaned}
use Rattle.iox_control_lending.specs.declared.asked.Lent.TheVariants as lents
use Rattle.iox_control_lending.specs.Lends.{IsGotBack, LoanIsMade, IsPortOf, IsLoanRefusal, Lends, lender_of}
use Rattle.iox_control_lending.proofs.MadeLemmas.{made_keeps}

-- what is said of the port in its place is what was known of it
pub read_anew : (t : HubTables) (l : Lending) (of : IsPortOf t l) (at : ℕ) (info : PortInfo) → place_in t.ports l.port.number ≡ Some at → Some info ≡ info_at t.ports at
    → info ≡ l.port
read_anew t l of at info there said =
    same_Some info (info_of of.port)
    (said ∙ ap (option_map info_of) ((places_are_of_numbers t.ports l.port.number at there).port ∙ of.there))
    ∙ sym of.info

-- then the lender is the same, where its port is read anew
module _ (l : Lending) (info : PortInfo) (same : info ≡ l.port) where
  -- its port, of which number and role are kept
  abbrev anew : PortInfo → PortInfo
  anew i = record i { number = l.port.number; role = l.port.role }

  pub same_server : record { port = record info { number = l.port.number; role = l.port.role }; client = l.client; lane = l.lane; request = l.request } ≡ l
  same_server = ap (λ i. record l { port = anew i }) same

  pub same_client : l.request ≡ l.port.loans % 2 ^ 62
      → record { port = record info { number = l.port.number; role = l.port.role }; client = l.client; lane = l.lane; request = info.loans % 2 ^ 62 } ≡ l
  same_client next = ap (λ (i : PortInfo). record l { port = anew i; request = i.loans % 2 ^ 62 }) same ∙ ap (λ n. record l { request = n }) (sym next)

module _ (c d : ControlState) (l : Lending) (of : IsPortOf c.tables l) (order : IsControl c)
    (left : (p : PortState) → port_in c.tables.ports l.port.number ≡ Some p → d ≡ with_tables c (with_back c.tables p d.tables.pools))
    (back : (p : PortState) → port_in c.tables.ports l.port.number ≡ Some p → AreGotBack c.tables p d.tables.pools) where
  got_back : IsGotBack c of.port d
  got_back = record { left = left of.port of.there; back = back of.port of.there }

  there_now : port_in d.tables.ports l.port.number ≡ Some of.port
  there_now =
      ap (λ (e : ControlState). port_in e.tables.ports l.port.number) (left of.port of.there)
      ∙ (getting_back_keeps_order c.tables l.port.number of.port d.tables.pools order.order of.there (back of.port of.there)).1

  -- the port is still there
  pub port_back : IsPortOf d.tables l
  port_back = record { port = of.port; there = there_now; info = of.info }

  -- and in its place
  pub place_back : (at : ℕ) → place_in c.tables.ports l.port.number ≡ Some at → place_in d.tables.ports l.port.number ≡ Some at
  place_back at there =
      ap (λ (e : ControlState). place_in e.tables.ports l.port.number) (left of.port of.there)
      ∙ lanes_keep_place emptied_lane c.tables.ports (ways_by of.port.role c.tables of.port.number) l.port.number ∙ there

  pub few_back : c.tables.calls < 2 ^ 56 → d.tables.calls < 2 ^ 56
  few_back few = subst (λ m. m < 2 ^ 56) (sym (ap (λ (e : ControlState). e.tables.calls) (left of.port of.there))) few

  module _ (a : Asked) (new : ControlState) (told : (p : PortState) → l.port ≡ info_of p → IsLoanRefusal c.tables (lender_of p l) a None) where
    pub loan_left : (loan : Loaned) → ((p : PortState) → port_in d.tables.ports l.port.number ≡ Some p → LoanIsMade d (lender_of p l) a loan new)
        → (p : PortState) → port_in c.tables.ports l.port.number ≡ Some p → Lends c (lender_of p l) a (lents.Handle loan) new
    loan_left loan made p at =
        subst (λ q. Lends c (lender_of q l) a (lents.Handle loan) new) (same_Some of.port p (sym of.there ∙ at))
        (record { passes = told of.port of.info; between = d; back = got_back; made = made of.port there_now })

    pub loan_keeps : (loan : Loaned) → ((p : PortState) → port_in d.tables.ports l.port.number ≡ Some p → LoanIsMade d (lender_of p l) a loan new)
        → IsControl d → c.tables.calls < 2 ^ 56 → IsControl new
    loan_keeps loan made ordered few =
        made_keeps d ordered (lender_of of.port l) a loan new
        (ap (λ n. port_in d.tables.ports n) (sym (ap (λ (i : PortInfo). i.number) of.info)) ∙ there_now) (few_back few) (made of.port there_now)

    pub dry_left : new ≡ d → list_all has_holder (slots_of d.tables.pools l.port.pool) ≡ true
        → (p : PortState) → port_in c.tables.ports l.port.number ≡ Some p → Lends c (lender_of p l) a lents.OutOfMemory new
    dry_left same full p at =
        subst (λ q. Lends c (lender_of q l) a lents.OutOfMemory new) (same_Some of.port p (sym of.there ∙ at))
        (subst (λ (e : ControlState). Lends c (lender_of of.port l) a lents.OutOfMemory e) (sym same) (record {
          passes = told of.port of.info;
          back = got_back;
          full = ap (λ pool. list_all has_holder (slots_of d.tables.pools pool)) (sym (ap (λ (i : PortInfo). i.pool) of.info)) ∙ full;
        }))
