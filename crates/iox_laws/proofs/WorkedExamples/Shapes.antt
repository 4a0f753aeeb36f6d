-- The shapes of worked runs make sense.
use Rattle.std.specs.Prelude.{ℕ, refl}
use Rattle.iox_model.specs.Settings.{IsShape}
use Rattle.iox_model.specs.Defaults.{words}

pub words_are_shaped : (header : ℕ) → IsShape (words header)
words_are_shaped header = record { default = refl; header = (3, refl); user = (3, refl); element = (3, refl) }
