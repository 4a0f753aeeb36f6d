use Rattle.std.proofs.Common.{rules, ◌≡◌, ◌∙◌, sym, Some}
use Rattle.iox_types.specs.Layouts.{as_usize}
use Rattle.iox_hub.proofs.MakingSizes.{untold_product, product_untold}
use Rattle.iox_hub.proofs.sizes.product.Goals as goal

pub returns-in_default : goal.returns-in_default
returns-in_default c m n a b = product_untold m n (sym c.in_default.is-1 ∙ b)
    (λ (e : Some 0 ≡ as_usize m). grind (a, e, c.if-is_zero.ensures, rules))

pub returns-in_default-2 : goal.returns-in_default-2
returns-in_default-2 c m n a b = untold_product m n (sym c.in_default.is-0 ∙ a)
    (λ (e : Some 0 ≡ as_usize n). grind (b, e, c.if-is_zero-2.ensures, rules))
