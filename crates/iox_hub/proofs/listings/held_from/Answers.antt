use Rattle.std.specs.Prelude.{◌≡◌, ◌+◌, [], suc, take}
use Rattle.std.proofs.Common.{◌∙◌, arith, subst, sym}
use Rattle.iox_hub.specs.Listings.{held_ports}
use Rattle.iox_hub.proofs.Ahead.{first_found, none_further}
use Rattle.iox_hub.proofs.listings.held_from.Goals as goal

pub returns-in-Some : goal.returns-in-Some
returns-in-Some c =
    first_found c.args.ports.now.ports c.args.node c.loop-at.at c.in-Some.number c.loop-at.invariant.none (sym c.held_at.ensures ∙ c.in-Some.is)

pub loop-at-preserved : goal.loop-at-preserved
loop-at-preserved c = record {
  none = subst (λ n. held_ports (take n c.args.ports.now.ports) c.args.node ≡ []) next
      (none_further c.args.ports.now.ports c.args.node c.loop-at.at c.loop-at.invariant.none (sym c.held_at.ensures ∙ c.in_default.is));
  size = c.loop-at.invariant.size;
}
  where
    next : suc c.loop-at.at ≡ c.loop-at.at + 1
    next = omega arith
