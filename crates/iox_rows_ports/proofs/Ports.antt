-- Where no port of a number is found, none has it.
use Rattle.std.specs.Prelude.{◌≡◌, ℕ, Bool, true, false, if◌then◌else◌, ◌==◌, ◌||◌, List, [], ◌∷◌, Some, is_some, refl}
use Rattle.std.specs.Option.{option_map}
use Rattle.std.proofs.Common.{sym}
use Rattle.std.proofs.lemmas.Bool.{false≢true}
use Rattle.iox_model.specs.Maps.{has_number}
use Rattle.iox_tables.specs.HubStates.Tables.{PortState, numbers_of, port_in}
use Rattle.iox_hub_ports.specs.Ports.{info_in, info_of}

pub none_has_it : (ps : List PortState) (n : ℕ) → is_some (info_in ps n) ≡ false → has_number n (numbers_of ps) ≡ false
none_has_it [] n e = refl
none_has_it (p ∷ ps) n e = step (p.number == n) e (none_has_it ps n)
  where
    step : (b : Bool) → is_some (option_map info_of (if b then Some p else port_in ps n)) ≡ false
        → (is_some (info_in ps n) ≡ false → has_number n (numbers_of ps) ≡ false)
        → (b || has_number n (numbers_of ps)) ≡ false
    step true e rest = absurd (false≢true (sym e))
    step false e rest = rest e
