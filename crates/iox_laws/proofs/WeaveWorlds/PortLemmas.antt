-- The connected ports: each has a number of its own.
use Rattle.std.specs.Prelude.{ℕ, Bool, not, ◌&&◌, List, map, filter}
use Rattle.iox_model.specs.declared.kind.Role.{Role}
use Rattle.iox_model.specs.Settings.{same_role}
use Rattle.iox_model.specs.States.{Port, Fixed}
use Rattle.iox_model.specs.Maps.{has_number, AreDistinct}
use Rattle.iox_model.specs.Peers.{others}
use Rattle.iox_laws.proofs.WeaveLedger.Lists.{distinct-no_repeats, no_repeats-distinct, no_repeats-map_filter}

abbrev pub AreDistinctPorts : Fixed → Type 0
AreDistinctPorts f = AreDistinct (map (λ p. p.number) f.ports)

pub distinct-filter : (test : Port → Bool) (ps : List Port) → AreDistinct (map (λ p. p.number) ps)
    → AreDistinct (map (λ p. p.number) (filter test ps))
distinct-filter test ps d =
    no_repeats-distinct (map (λ p. p.number) (filter test ps))
    (no_repeats-map_filter (λ p. p.number) test ps (distinct-no_repeats (map (λ p. p.number) ps) d))

pub distinct-others : (f : Fixed) (node : ℕ) (role : Role) → AreDistinctPorts f → AreDistinct (others f node role)
distinct-others f node role d = distinct-filter (λ p. same_role p.role role && not (has_number p.node (f.forgot node))) f.ports d
