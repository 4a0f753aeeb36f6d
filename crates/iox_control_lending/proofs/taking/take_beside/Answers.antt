use Rattle.std.proofs.Common.{◌≡◌, is_some, subst, sym, ap, find, not, true, ℕ, ◌∙◌}
use Rattle.std.specs.List.{range_with_len}
use Rattle.iox_slots.specs.Pools.{free_count}
use Rattle.iox_tables.specs.HubStates.Tables.{pool_at}
use Rattle.iox_tables.specs.HubLoans.Counts.{is_lane_taken}
use Rattle.iox_control.proofs.HeldLemmas.{port_has_pool}
use Rattle.iox_control_lending.proofs.FreeLemmas.{none_free, on_found}
use Rattle.iox_control_lending.proofs.taking.take_beside.Goals as goal

pub returns-then-free_len-eq0-clause-full : goal.returns-then-free_len-eq0-clause-full
returns-then-free_len-eq0-clause-full c =
    λ _. ap (λ ps. free_count ps c.args.pool) (sym c.pools.ensures) ∙ sym c.free_len.ensures ∙ c.if-free_len-eq0.true

pub take-requires : goal.take-requires
take-requires c =
    let p = c.requires.port in
    subst (λ (k : ℕ). is_some (pool_at c.args.control.now.tables.pools k) ≡ true) p.2
    (port_has_pool c.args.control.now.tables c.requires.order.order c.args.client p.0 p.1)

pub returns-in_default-clause-full : goal.returns-in_default-clause-full
returns-in_default-clause-full c =
    let t = c.args.control.now.tables in
    let p = c.requires.port in
    λ _. ap (free_count t.pools) (sym p.2)
    ∙ none_free t c.args.client p.0 c.requires.order.order p.1
    (ap (λ n. find (λ k. not (is_lane_taken t c.args.client k)) (range_with_len 0 n)) p.3 ∙ sym c.free_lane.ensures ∙ c.in_default.is)

pub returns-clause-taken : goal.returns-clause-taken
returns-clause-taken c =
    on_found c.args.control.now.tables c.args.client c.args.size c.args.pool c.in-Some.lane c.args.serial c.args.request c.args.elements c.take.new.self.tables.pools
    c.take.result (sym c.free_lane.ensures ∙ c.in-Some.is) c.take.ensures.taken
