use Rattle.std.proofs.Common.{◌∙◌, ℕ, nat_eq, ap, count_by}
use Rattle.iox_tables.specs.HubStates.Tables.{is_free}
use Rattle.iox_slots.proofs.FreeListLemmas.{idle_is}
use Rattle.iox_slots.proofs.pool.Pool.is_idle.Goals as goal

pub returns : goal.returns
returns c =
    ap (λ (n : ℕ). nat_eq n c.len.result) c.free_len.ensures
    ∙ ap (nat_eq (count_by is_free c.args.self.now.slots)) c.len.ensures
    ∙ idle_is c.args.self.now.slots
