-- Which ports of a hub have a handler.
use Rattle.std.specs.Prelude.{ℕ, Bool, not, ◌&&◌, ◌==◌, List, [], ◌∷◌, ◌++◌, filter, find, Option}
use Rattle.std.specs.Option.{option_map, option_map_or}
use Rattle.iox_tables.specs.HubStates.Tables.{PortState}
use Rattle.iox_tables.specs.HubStates.Steps.{is_there}

-- The number of a port, and the words of its handler.
abbrev pub PortWords : Type 0
PortWords = ℕ × List ℕ

-- The ports that have a handler, and for how many more there is room.
pub record HandlersState : Type 0 where
  pub list : List PortWords
  pub room : ℕ

-- the words of the handler of the port of that number, if it has one
abbrev pub handler_in : List PortWords → ℕ → Option (List ℕ)
handler_in list n = option_map (λ (x : PortWords). x.1) (find (λ x. x.0 == n) list)

-- the port of this number is connected, and is another than that one
abbrev pub is_kept : List PortState → ℕ → ℕ → Bool
is_kept ports port n = not (n == port) && is_there ports n

-- The handlers once the port of that number has this one, or none: those of other connected ports
-- stay, and those of ports that are gone go.
abbrev pub handlers_with : List PortState → ℕ → Option (List ℕ) → List PortWords → List PortWords
handlers_with ports port new old =
    filter (λ x. is_kept ports port x.0) old ++ option_map_or (λ words. (port, words) ∷ []) new []
