use Rattle.std.specs.Prelude.{◌≡◌, ◌-◌, nat_lt, suc, take, true}
use Rattle.std.specs.List.{list_all}
use Rattle.std.proofs.Common.{◌∙◌, arith, subst, sym}
use Rattle.iox_hub.proofs.Ahead.{all_below}
use Rattle.iox_hub.proofs.listings.place_from.Goals as goal

pub returns-then-is_below : goal.returns-then-is_below
returns-then-is_below c =
    let same : suc (c.loop-place.place - 1) ≡ c.loop-place.place = omega (arith, c.loop-place-test.true) in
    subst (λ place. list_all (λ p. nat_lt p.number c.args.number) (take place c.args.ports.now.ports) ≡ true) same
    (all_below c.args.ports.now.ports (c.loop-place.place - 1) c.args.number c.requires (sym c.is_below.ensures ∙ c.if-is_below.true))
