-- Where some slot of a port's pool is free, it may be lent.
use Rattle.std.specs.Prelude.{◌≡◌, ℕ, ◌<◌, Some}
use Rattle.std.proofs.Common.{sym, ap, subst, ◌∙◌, true≢false}
use Rattle.iox_model.specs.declared.kind.Role.TheVariants.{Server}
use Rattle.iox_model.specs.Settings.{is_client}
use Rattle.iox_tables.specs.HubStates.Tables.{HubTables, port_in, slot_at}
use Rattle.iox_tables.specs.HubBooks.Hubs.{AreInOrder}
use Rattle.iox_tables.specs.HubLending.Lending.{MayLend}
use Rattle.iox_tables.proofs.HubLending.Owning.{slot_count}
use Rattle.iox_tables.specs.HubLoans.Lenders.{Lender}
use Rattle.iox_slots.specs.Pools.{free_count}
use Rattle.iox_slots.proofs.FreeSlots.{free_slot}

module _ (t : HubTables) (order : AreInOrder t) (y : Lender) (there : port_in t.ports y.port.number ≡ Some y.port) (server : y.port.role ≡ Server) where
  pub may_lend : (slot : ℕ) → slot < y.port.size → (slot_at t.pools y.port.pool slot).holders ≡ 0 → MayLend t y slot
  may_lend slot within free = record {
    there = there;
    within = within;
    free = free;
    lane = λ client. absurd (true≢false (ap is_client (sym client ∙ server)));
  }

  pub some_slot : 0 < free_count t.pools y.port.pool → (slot : ℕ) × MayLend t y slot
  some_slot some =
      let f = free_slot t.pools y.port.pool some in
      (f.0, may_lend f.0 (subst (λ n. f.0 < n) (slot_count t order y.port.number y.port there) f.1) f.2)
