use Rattle.std.specs.Prelude.{◌≡◌, ℕ, max, min}
use Rattle.std.proofs.Common.{subst, sym, ◌∙◌}
use Rattle.iceoryx2_ports.proofs.ChosenPools.{have_its_pool, have_none}
use Rattle.iceoryx2_ports.proofs.overrides.with_pool.Goals as goal

pub returns-in_default : goal.returns-in_default
returns-in_default g c =
    have_none c.args.hub.now c.args.role (λ needed n. g.F.Fn.post c.args.callback (needed, tt) n) c.args.options
    (λ x. sym c.in_default.is ∙ c.worst_pool.ensures x)

pub returns-in-Client : goal.returns-in-Client
returns-in-Client g c =
    have_its_pool c.args.hub.now c.args.role (λ needed n. g.F.Fn.post c.args.callback (needed, tt) n) c.args.options c.in-Some.needed c.pool-pool.result
    (λ x. sym c.in-Some.is ∙ c.worst_pool.ensures x)
    (subst
    (λ f. (n : ℕ) × g.F.Fn.post f (c.in-Some.needed, tt) n × (c.pool-pool.result ≡ max 1 (min n c.in-Some.needed)))
    c.new.ensures c.pool-pool.ensures)

pub returns-in-Server : goal.returns-in-Server
returns-in-Server g c =
    have_its_pool c.args.hub.now c.args.role (λ needed n. g.F.Fn.post c.args.callback (needed, tt) n) c.args.options c.in-Some.needed
    c.pool-pool-in-Server.result (λ x. sym c.in-Some.is ∙ c.worst_pool.ensures x)
    (subst
    (λ f. (n : ℕ) × g.F.Fn.post f (c.in-Some.needed, tt) n × (c.pool-pool-in-Server.result ≡ max 1 (min n c.in-Some.needed)))
    c.new-in-Server.ensures c.pool-pool-in-Server.ensures)
