-- A run of a wire, and what each node was asked and answered in it.
use Rattle.std.specs.Prelude.{◌≡◌, ℕ, if◌then◌else◌, ◌==◌, List, [], ◌∷◌, ◌++◌, flat_map}
use Rattle.iox_model.specs.Commands.{Reply, WireCall}
use Rattle.iox_model.specs.Weaves.{Beat, Begins, Makes, Ends, Dies, IsBeat, IsWeave, World}
use Rattle.iox_laws.specs.WeaveWorlds.Worlds.{IsOpenedWire}

-- a wire that opened, the beats that followed, and the world to which they led
pub record Run : Type 0 where
  pub first : World
  pub beats : List Beat
  pub last : World
  pub opened : IsOpenedWire first
  pub woven : IsWeave first beats last

-- the run continues with one beat
pub record GoesOnBy (r : Run) (b : Beat) (next : Run) : Type 0 where
  pub first : next.first ≡ r.first
  pub beats : next.beats ≡ r.beats ++ b ∷ []
  pub beat : IsBeat r.last b next.last

-- ---- of one node

-- what a node is asked, or answers
pub data Said : Type 0 where
  Asked : (call : WireCall) → Said
  Answered : (reply : Reply) → Said

-- what that node is asked or answers in a beat
abbrev pub said_in : ℕ → Beat → List Said
said_in n (Begins k call c) = if k == n then Asked call ∷ [] else []
said_in n (Makes k m) = []
said_in n (Ends k reply payload) = if k == n then Answered reply ∷ [] else []
said_in n (Dies k) = []

-- the calls and replies of a node, in their order
abbrev pub history : ℕ → List Beat → List Said
history n beats = flat_map (said_in n) beats
