use Rattle.std.proofs.Common.{◌≡◌, is_some, length, subst, sym, ap, arith, false, true, ℕ, ◌∙◌}
use Rattle.iox_tables.specs.HubStates.Tables.{pool_at, slots_of}
use Rattle.iox_slots.specs.Lanes.{is_lane_held, own_lane}
use Rattle.iox_slots.specs.Pools.{has_slot}
use Rattle.iox_control.proofs.HeldLemmas.{port_has_pool}
use Rattle.iox_control_lending.proofs.HeldLanes.{unheld_is_free}
use Rattle.iox_control_lending.proofs.MadeLemmas.{slot_within, slots_are}
use Rattle.iox_control_lending.proofs.taking.take_on_free.Goals as goal

pub take_own-requires : goal.take_own-requires
take_own-requires c =
    let p = c.requires.port in
    subst (λ (k : ℕ). is_some (pool_at c.args.control.now.tables.pools k) ≡ true) p.2
    (port_has_pool c.args.control.now.tables c.requires.order.order c.args.client p.0 p.1)

pub returns-in-Some-clause-taken : goal.returns-in-Some-clause-taken
returns-in-Some-clause-taken c =
    let t = c.args.control.now.tables in
    let p = c.requires.port in
    let low = slot_within t c.args.client c.in-Some.slot p.0 c.requires.order.order p.1
    (subst (λ q. has_slot t.pools q c.in-Some.slot ≡ true) (sym p.2) c.in-Some.ensures.taken.there) in
    let many : length (slots_of t.pools c.args.pool) ≡ p.0.size =
    ap (λ q. length (slots_of t.pools q)) (sym p.2) ∙ slots_are t c.args.client p.0 c.requires.order.order p.1 in
    record {
      lane = own_lane (slots_of t.pools c.args.pool) c.in-Some.slot;
      within = omega (arith, low, many, p.3);
      free = unheld_is_free t c.args.client p.0 c.requires.order.order p.1 (own_lane (slots_of t.pools c.args.pool) c.in-Some.slot)
          (subst (λ q. is_lane_held (slots_of t.pools q) (own_lane (slots_of t.pools c.args.pool) c.in-Some.slot) ≡ false) (sym p.2) c.in-Some.ensures.unheld);
      takes = c.in-Some.ensures.taken;
    }
