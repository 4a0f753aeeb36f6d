-- Loans as whole calls over tables that are in order.
use Rattle.std.specs.Prelude.{◌≡◌, ℕ, List, Option, Some}
use Rattle.std.proofs.Common.{sym, ap, ◌∙◌, inl, inr}
use Rattle.iox_model.specs.declared.reply.Refusal.TheVariants.{OutOfMemory}
use Rattle.iox_model.specs.declared.reply.Reply.TheVariants.{Handle, Refused}
use Rattle.iox_model.specs.Loans.{Choice}
use Rattle.iox_model.specs.States as m
use Rattle.iox_tables.specs.HubStates.Tables.{HubTables, PoolState, port_in}
use Rattle.iox_tables.specs.HubStates.States.{Given}
use Rattle.iox_tables.proofs.HubBooks.Used.{once_on}
use Rattle.iox_tables.specs.HubLoans.Lenders.{IsLender, Lender}
use Rattle.iox_tables.specs.HubLoans.Loans.{loaned_contents}
use Rattle.iox_tables.specs.HubLoans.Slots.{with_contents}
use Rattle.iox_tables.proofs.HubLoans.Loaning.{loans_are_made, loans_find_dry_pools}
use Rattle.iox_tables.specs.HubLending.Emptying.{with_back}
use Rattle.iox_tables.specs.HubLending.WholeLoans.{FreeSlotsAreLent, FullPoolsRefuse, IsLending}
use Rattle.iox_tables.proofs.HubLending.Back.{back_in_order, dry_pools_have_holders, port_stays}
use Rattle.iox_tables.proofs.HubLending.Bared.{holders_may_come_back_first}
use Rattle.iox_tables.proofs.HubLending.Chosen.{free_slots_may_take_loans}
use Rattle.iox_tables.proofs.HubLending.Lent.{loans_keep_order}
use Rattle.iox_tables.proofs.HubLending.Owning.{handles_are_on_nodes, number_is}

-- the lender's port is connected
lender_there : (t : HubTables) (node n lane : ℕ) (y : Lender) → IsLender t node n lane y → (j : ℕ) × (port_in t.ports j ≡ Some y.port)
lender_there t node n lane y (inl a) = (n, a.0.there ∙ ap (λ (z : Lender). Some z.port) (sym a.1))
lender_there t node n lane y (inr a) = (a.0.handle.port, a.0.there ∙ ap (λ (z : Lender). Some z.port) (sym a.1))

-- it is connected by its own number
own_number : (x : Given) (t : HubTables) (node n k : ℕ) (c : Choice) (y : Lender) (pools : List (Option PoolState)) → IsLending x t node n k c y pools
    → port_in t.ports y.port.number ≡ Some y.port
own_number x t node n k c y pools is =
    let found : (j : ℕ) × (port_in t.ports j ≡ Some y.port) = lender_there t node n c.lane y is.lender in
    ap (port_in t.ports) (number_is t is.order found.0 y.port found.1) ∙ found.1

pub full_pools_refuse : FullPoolsRefuse
full_pools_refuse x t node n k uninit c payload y pools is full = (
  loans_find_dry_pools x t node n k uninit c payload y is.lender (handles_are_on_nodes t is.order) is.passes is.memory (λ w l at. once_on t is.order x w l at)
      (dry_pools_have_holders x t y.port.number y.port pools is.order is.messages there is.back ∙ full)
      ∙ ap (λ (s : m.State). (Refused OutOfMemory, s)) (holders_may_come_back_first x t y.port pools y uninit k 0 is.back.same).0,
  (back_in_order t is.order y.port.number y.port there pools is.back, is.messages),
)
  where
    there : port_in t.ports y.port.number ≡ Some y.port
    there = own_number x t node n k c y pools is

pub free_slots_are_lent : FreeSlotsAreLent
free_slots_are_lent x t node n k slot uninit c payload y pools is within free lane none = (
  loans_are_made x t node n k uninit c payload y slot is.lender (handles_are_on_nodes t is.order) is.passes is.memory
      (free_slots_may_take_loans x t y.port.number slot y.port pools is.order is.back (record { there = there; within = within; free = free })) none
      ∙ ap (λ (s : m.State). (Handle t.next_number, s))
      (holders_may_come_back_first (with_contents x y.port.pool slot (loaned_contents x t y payload)) t y.port pools y uninit k slot is.back.same).1,
  loans_keep_order (with_back t y.port pools) y uninit k slot (back_in_order t is.order y.port.number y.port there pools is.back) is.messages
      (record { there = port_stays t is.order y.port.number y.port there; within = within; free = free; lane = lane }),
)
  where
    there : port_in t.ports y.port.number ≡ Some y.port
    there = own_number x t node n k c y pools is
