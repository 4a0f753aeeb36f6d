-- Paths, and the directories of a configuration.
use Rattle.std.specs.Prelude.{ℕ, ◌++◌, List, codes, nat_eq, length, Option, Some, None, if◌then◌else◌}
use Rattle.std.specs.Option.{option_or, option_map}
use Rattle.iox_names.specs.Texts.{text_refusal}
use Rattle.iox_names.specs.declared.text_error.TextError.{TextError}
use Rattle.iox_names.specs.declared.text_error.TextError.TheVariants as texts
use Rattle.iox_configs.specs.declared.path.PathError.{PathError}
use Rattle.iox_configs.specs.declared.path.PathError.TheVariants.{ExceedsMaximumLength, InvalidContent}

-- what an error of a text is called where the text is a path
abbrev pub path_error : TextError → PathError
path_error texts.ExceedsMaximumLength = ExceedsMaximumLength
path_error texts.InvalidContent = InvalidContent

-- why an empty list of bytes is no path
abbrev pub emptiness_refusal : List ℕ → Option PathError
emptiness_refusal bytes = if nat_eq (length bytes) 0 then Some InvalidContent else None

-- why these bytes are no path: first what is against them as a text of at most 255 bytes, then that
-- there is none
abbrev pub path_refusal : List ℕ → Option PathError
path_refusal bytes =
    option_or (option_map path_error (text_refusal 255 bytes)) (emptiness_refusal bytes)

-- the root directory of a configuration before anybody changes it
abbrev pub first_root : List ℕ
first_root = codes "/tmp/iceoryx2"

-- the directory of the services below this root directory
abbrev pub service_dir_of : List ℕ → List ℕ
service_dir_of root = root ++ codes "/services"

-- the directory of the nodes below this root directory
abbrev pub node_dir_of : List ℕ → List ℕ
node_dir_of root = root ++ codes "/nodes"
