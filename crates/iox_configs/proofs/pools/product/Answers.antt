use Rattle.std.proofs.Common.{rules, ◌≡◌, ◌∙◌, sym, Some}
use Rattle.iox_types.specs.Layouts.{as_usize}
use Rattle.iox_configs.proofs.Told.{untold-product, product-untold}
use Rattle.iox_configs.proofs.pools.product.Goals as goal

-- src/pools.rt:13:1
pub returns-in_default : goal.returns-in_default
returns-in_default c m n a b = product-untold m n (sym c.in_default.is-1 ∙ b)
    (λ (e : Some 0 ≡ as_usize m). grind (a, e, c.if-is_zero.ensures, rules))

-- src/pools.rt:13:1
pub returns-in_default-2 : goal.returns-in_default-2
returns-in_default-2 c m n a b = untold-product m n (sym c.in_default.is-0 ∙ a)
    (λ (e : Some 0 ≡ as_usize n). grind (b, e, c.if-is_zero-2.ensures, rules))
