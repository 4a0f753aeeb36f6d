-- Who changes a request state: only its client's node opens it, others close it or give a hint.
use Rattle.std.specs.Prelude.{◌≡◌, ℕ, ◌==◌, false}
use Rattle.iox_model.specs.declared.way.RequestState.{RequestState}
use Rattle.iox_model.specs.declared.way.RequestState.TheVariants.{Closed}
use Rattle.iox_model.specs.declared.way.Way.{Way}
use Rattle.iox_model.specs.Messages.{closed_for}
use Rattle.iox_model.specs.Moments.{Open}
use Rattle.iox_model.specs.Peers.{node_of_port}
use Rattle.iox_model.specs.Weaves.{World, Beat, Makes, IsBeat}
use Rattle.iox_laws.specs.WeaveLaws.Laws.{node_of_beat}
use Rattle.iox_laws.specs.WeaveWorlds.Worlds.{IsReachable}

-- the state is closed, or names this request and no other
abbrev pub NamesNoOther : RequestState → ℕ → Type 0
NamesNoOther shown id = closed_for shown id ≡ Closed

-- A request state is opened only by the node of its client.
abbrev pub OnlyClientsOpen : Type 0
OnlyClientsOpen =
    (w u : World) (node id : ℕ) (y : Way) → IsReachable w → IsBeat w (Makes node (Open y id)) u
    → node_of_port w.state.fixed y.receiver ≡ node

-- So a beat of another node leaves a state that names no other request such a state.
abbrev pub OthersOpenNothing : Type 0
OthersOpenNothing =
    (w u : World) (b : Beat) (n id : ℕ) (y : Way) → IsReachable w → IsBeat w b u
    → (n == node_of_beat b) ≡ false → node_of_port w.state.fixed y.receiver ≡ n
    → NamesNoOther (w.state.request_state y) id → NamesNoOther (u.state.request_state y) id
