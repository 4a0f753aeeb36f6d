-- A name is a text of one byte at least that is not too long.
use Rattle.std.specs.Prelude.{ℕ, List, length, nat_le, not, Option, Some, None, if◌then◌else◌}
use Rattle.iox_words.specs.WordLists.{is_name}
use Rattle.iox_names.specs.declared.service_name_error.ServiceNameError.{ServiceNameError}
use Rattle.iox_names.specs.declared.service_name_error.ServiceNameError.TheVariants.{ExceedsMaximumLength, InvalidContent}

-- why these bytes are no name of that length at most: the first test that fails
abbrev pub name_refusal : ℕ → List ℕ → Option ServiceNameError
name_refusal max bytes =
    if not (nat_le (length bytes) max) then Some ExceedsMaximumLength
    else if not (is_name bytes) then Some InvalidContent
    else None
