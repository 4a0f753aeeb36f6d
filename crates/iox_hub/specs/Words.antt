-- What the messages of pools carry, as words.
use Rattle.std.specs.Prelude.{ℕ, Bool, true, false, List, [], ◌∷◌, Option, Some, None, slice_get}
use Rattle.std.specs.Option.{option_map_or}
use Rattle.iox_store.specs.Stored.{Contents, StoredMessage, stored_at, unlent}
use Rattle.iox_model.specs.declared.kind.Role.{Role}
use Rattle.iox_model.specs.declared.kind.Role.TheVariants.{Client, Server}
use Rattle.iox_hub.specs.declared.words.PoolWords.{PoolWords}
use Rattle.iox_hub.specs.declared.words.PoolWords.TheVariants.{Requests, Responses}

-- What the messages of one pool carry, and whether they are requests.
pub record Carried : Type 0 where
  pub requests : Bool
  pub contents : Contents

-- what the messages of a pool carry
abbrev pub carried : {A B C D : Type 0} → PoolWords A B C D → Carried
carried (Requests s) = record { requests = true; contents = s }
carried (Responses s) = record { requests = false; contents = s }

-- whether a pool is a client's
abbrev pub of_client : Option Role → Bool
of_client None = false
of_client (Some Client) = true
of_client (Some Server) = false

-- what the messages of a pool carry: these requests if it is a client's, and these responses if it
-- is a server's; nothing where it is nobody's
abbrev pub carried_by : Option Role → Contents → Contents → Option Carried
carried_by None requests responses = None
carried_by (Some Client) requests responses = Some (record { requests = true; contents = requests })
carried_by (Some Server) requests responses = Some (record { requests = false; contents = responses })

-- the same for pools by place
abbrev pub all_carried : List (Option Role) → List Contents → List Contents → List (Option Carried)
all_carried [] rs ps = []
all_carried (k ∷ ks) [] ps = []
all_carried (k ∷ ks) (r ∷ rs) [] = []
all_carried (k ∷ ks) (r ∷ rs) (p ∷ ps) = carried_by k r p ∷ all_carried ks rs ps

-- What the messages of all pools carry, by place, and for how many pools there is room.
pub record PoolsCarried : Type 0 where
  pub pools : List (Option Carried)
  pub room : ℕ

-- what the message in a slot of the pool in this place carries; nothing where there is none
abbrev pub stored_in : List (Option Carried) → ℕ → ℕ → StoredMessage
stored_in words place k =
    option_map_or (λ o. option_map_or (λ c. stored_at c.contents k) o (unlent 0 [])) (slice_get words place)
    (unlent 0 [])
