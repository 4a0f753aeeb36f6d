-- The limits of a script's service.
use Rattle.std.specs.Prelude.{Bool}
use Rattle.iox_model.specs.Settings.{Limits}
use Rattle.iox_model.specs.Defaults.{defaults}

-- the limits where nobody sets others, but for the two overflows
abbrev pub limits_with : (request_overflow response_overflow : Bool) → Limits
limits_with request_overflow response_overflow = record defaults {
  request_overflow = request_overflow;
  response_overflow = response_overflow;
}
