-- A service's hash is the hexadecimal SHA-1 of its pattern's digit and its name.
use Rattle.std.specs.Prelude.{ℕ, List, ◌∷◌}
use Rattle.hex.specs.Hex.{encode_lower}
use Rattle.sha1.specs.Sha1.{sha1}
use Rattle.iox_names.specs.declared.messaging_pattern.MessagingPattern.{MessagingPattern}
use Rattle.iox_names.specs.declared.messaging_pattern.MessagingPattern.TheVariants.{RequestResponse, PublishSubscribe, Event, Blackboard}

-- the character codes of the digits 1 to 4, one for each messaging pattern
abbrev pub pattern_digit : MessagingPattern → ℕ
pattern_digit RequestResponse = 49
pattern_digit PublishSubscribe = 50
pattern_digit Event = 51
pattern_digit Blackboard = 52

-- what is hashed for a service of that pattern and name
abbrev pub service_text : MessagingPattern → List ℕ → List ℕ
service_text pattern name = pattern_digit pattern ∷ name

-- the hash of a service of that pattern and name: the 40 hexadecimal digits of its SHA-1
abbrev pub service_hash : MessagingPattern → List ℕ → List ℕ
service_hash pattern name = encode_lower (sha1 (service_text pattern name))
