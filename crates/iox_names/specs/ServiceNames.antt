-- The name of a service is a name that does not begin with the prefix of internal services.
use Rattle.std.specs.Prelude.{ℕ, Bool, List, length, codes, nat_eq, nat_le, not, ◌||◌, Option, Some, None, if◌then◌else◌}
use Rattle.std.specs.List.{starts_with}
use Rattle.iox_words.specs.WordLists.{is_name}
use Rattle.iox_names.specs.declared.service_name_error.ServiceNameError.{ServiceNameError}
use Rattle.iox_names.specs.declared.service_name_error.ServiceNameError.TheVariants.{ExceedsMaximumLength, InvalidContent}

-- the most bytes of a service's name
abbrev pub max_service_name_length : ℕ
max_service_name_length = 255

-- the prefix of the names of internal services
abbrev pub internal_prefix : List ℕ
internal_prefix = codes "iox2://"

-- whether these bytes begin with the prefix of internal services
abbrev pub has_internal_prefix : List ℕ → Bool
has_internal_prefix bytes = starts_with nat_eq bytes internal_prefix

-- why these bytes are no service's name: the first test that fails
abbrev pub service_name_refusal : List ℕ → Option ServiceNameError
service_name_refusal bytes =
    if not (nat_le (length bytes) max_service_name_length) then Some ExceedsMaximumLength
    else if not (is_name bytes) || has_internal_prefix bytes then Some InvalidContent
    else None
