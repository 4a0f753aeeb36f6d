-- A request that is lost as it is copied.
use Rattle.std.specs.Prelude.{◌≡◌, ℕ, ◌-◌, ◌<◌, ◌^◌, true, Some, None}
use Rattle.std.specs.Option.{option_map_or}
use Rattle.std.proofs.Common.{sym, ap, subst, ◌∙◌}
use Rattle.std.proofs.lemmas.Option.{same_Some}
use Rattle.iox_tables.specs.HubStates.Tables.{PortState, port_in}
use Rattle.iox_tables.specs.HubStates.Ends.{with_call, with_loan}
use Rattle.iox_tables.specs.HubLending.Emptying.{AreGotBack, with_back}
use Rattle.iox_tables.proofs.HubLending.Back.{getting_back_keeps_order}
use Rattle.iox_tables.proofs.HubLending.Owning.{slot_count}
use Rattle.iox_tables.specs.HubLoans.Lenders.{lender_of_request}
use Rattle.iox_hub_ports.specs.declared.info.PortInfo.{PortInfo}
use Rattle.iox_hub_ports.specs.Ports.{info_in, info_of}
use Rattle.iox_slots.specs.Pools.{free_count}
use Rattle.iox_control.specs.Controls.{ControlState, IsControl, with_tables}
use Rattle.iox_control_copies.specs.Asked.{Asked}
use Rattle.iox_control_copies.specs.Lends.{FindsDry, IsGotBack, IsPortOf, IsLoanRefusal, lender_of}
use Rattle.iox_control_copies.proofs.LendLemmas.{few_back}
use Rattle.iox_control_copies.proofs.PortLemmas.{info_is, request_of_port, there_by}
use Rattle.iox_control_copies.proofs.SlotLemmas.{all_have_holders}
use Rattle.iox_control_copies.proofs.Kept.{loans_below, lost_keeps}
use Rattle.iox_control_request_copies.specs.Copies.{IsLost}
use Rattle.iox_slots.proofs.FreeSlots.{free_slot}

-- the port is found
pub port_there : (c : ControlState) (n : ℕ) (info : PortInfo) → IsControl c → (its : (p : PortState) × (port_in c.tables.ports n ≡ Some p)) → Some info ≡ info_in c.tables.ports n
    → (p : PortState) × (port_in c.tables.ports info.number ≡ Some p)
port_there c n info order its found = (its.0, there_by c.tables n info its.0 order.order its.1 found)

module _ (c d : ControlState) (n : ℕ) (info : PortInfo) (a : Asked) (order : IsControl c) (its : (p : PortState) × (port_in c.tables.ports n ≡ Some p)) (found : Some info ≡ info_in c.tables.ports n)
    (left : (p : PortState) → port_in c.tables.ports info.number ≡ Some p → d ≡ with_tables c (with_back c.tables p d.tables.pools))
    (back : (p : PortState) → port_in c.tables.ports info.number ≡ Some p → AreGotBack c.tables p d.tables.pools)
    (told : (p : PortState) → info ≡ info_of p → IsLoanRefusal c.tables (lender_of p (request_of_port info)) a None)
  where
    abbrev p : PortState
    p = its.0

    is : info ≡ info_of p
    is = info_is c.tables n info p order.order its.1 found

    abbrev of : IsPortOf c.tables (request_of_port info)
    of = record { port = p; there = there_by c.tables n info p order.order its.1 found; info = is }

    passes : IsLoanRefusal c.tables (lender_of_request p 0) a None
    passes = subst (λ y. IsLoanRefusal c.tables y a None) (ap (λ (i : PortInfo). lender_of p (request_of_port i)) is) (told p is)

    got_back : IsGotBack c p d
    got_back = record { left = left p of.there; back = back p of.there }

    there_now : port_in d.tables.ports info.number ≡ Some p
    there_now =
        ap (λ (e : ControlState). port_in e.tables.ports info.number) (left p of.there)
        ∙ (getting_back_keeps_order c.tables info.number p d.tables.pools order.order of.there (back p of.there)).1

    pub dry_left : free_count d.tables.pools info.pool ≡ 0 → (q : PortState) → port_in c.tables.ports n ≡ Some q → FindsDry c (lender_of_request q 0) a d
    dry_left none q at =
        subst (λ r. FindsDry c (lender_of_request r 0) a d) (same_Some p q (sym its.1 ∙ at))
        (record {
          passes = passes;
          back = got_back;
          full = all_have_holders d.tables.pools p.pool (ap (λ (i : PortInfo). free_count d.tables.pools i.pool) (sym is) ∙ none);
        })

    module _ (ordered : IsControl d) (few : c.tables.calls < 2 ^ 56) where
      few_now : d.tables.calls < 2 ^ 56
      few_now = few_back c d (request_of_port info) of order left back few

      pub loan_fits : option_map_or (λ (q : PortState). q.loans) (port_in d.tables.ports info.number) 0 < 2 ^ 64 - 1
      loan_fits = loans_below d ordered few_now info.number p there_now

      module _ (e new : ControlState) (first : e ≡ with_tables d (with_loan d.tables info.number)) (second : new ≡ with_tables e (with_call e.tables)) where
        counted : new ≡ with_tables d (with_call (with_loan d.tables p.number))
        counted =
            second ∙ ap (λ (f : ControlState). with_tables f (with_call f.tables)) first
            ∙ ap (λ (i : PortInfo). with_tables d (with_call (with_loan d.tables i.number))) is

        pub lost_in_order : IsControl new
        lost_in_order = subst IsControl (sym counted) (lost_keeps d ordered few_now p.number true)

        pub lost_left : 0 < free_count d.tables.pools info.pool → (q : PortState) → port_in c.tables.ports n ≡ Some q → IsLost c q a new
        lost_left some q at =
            let f = free_slot d.tables.pools p.pool (subst (λ (i : PortInfo). 0 < free_count d.tables.pools i.pool) is some) in
            subst (λ r. IsLost c r a new) (same_Some p q (sym its.1 ∙ at))
            (record {
              passes = passes;
              between = d;
              back = got_back;
              slot = f.0;
              free = record {
                there = ap (λ (i : PortInfo). port_in c.tables.ports i.number) (sym is) ∙ of.there;
                within = subst (λ k. f.0 < k) (slot_count d.tables ordered.order info.number p there_now) f.1;
                free = f.2;
              };
              left = counted;
            })
