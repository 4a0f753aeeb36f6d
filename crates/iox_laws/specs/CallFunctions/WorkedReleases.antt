-- Worked states of releases and hints: the functions answer what a script shows.
use Rattle.std.specs.Prelude.{◌≡◌, true, false, List, [], ◌∷◌}
use Rattle.iox_model.specs.declared.command.Command.TheVariants.{Port}
use Rattle.iox_model.specs.declared.command.PortCommand.TheVariants as asks
use Rattle.iox_model.specs.declared.reply.Reply.TheVariants.{Done, Answer}
use Rattle.iox_model.specs.Commands.{Reply, Command}
use Rattle.iox_model.specs.Messages.{request_way}
use Rattle.iox_model.specs.Peers.{is_connected_port}
use Rattle.iox_model.specs.States.{State}
use Rattle.iox_model.specs.Defaults.{defaults}
use Rattle.iox_laws.specs.CallFunctions.Looks.{connected_by, hinted_by, hint_set_by}
use Rattle.iox_laws.specs.CallFunctions.Releases.{released_by}
use Rattle.iox_laws.specs.CallFunctions.WorkedLoans.{Leaves, requested_once, is_requested_once}

-- The server is told a hint of the pending response.
abbrev pub HintIsTold : Type 0
HintIsTold =
    (s : State) × Leaves defaults (requested_once []) (is_requested_once []) s
    × ((hinted_by s 1 3).0 ≡ Answer false)
    × ((hinted_by (hint_set_by s 0 2).1 1 3).0 ≡ Answer true)

-- A released active request is given back, and its client is told that it is connected no more.
abbrev pub ReleaseCloses : Type 0
ReleaseCloses =
    (s : State) × Leaves defaults (requested_once []) (is_requested_once []) s
    × ((connected_by s 0 2).0 ≡ Answer true)
    × ((released_by s 1 3).0 ≡ Done)
    × ((connected_by (released_by s 1 3).1 0 2).0 ≡ Answer false)
    × ((released_by s 1 3).1.returned (request_way 0 1) ≡ 0 ∷ [])

-- The client's own value is released, and its pending response keeps it.
abbrev pub value_released : List Command
value_released = requested_once (Port (asks.Release 0 0) ∷ [])

-- the replies to that
abbrev pub value_released_answers : List Reply
value_released_answers = is_requested_once (Done ∷ [])

-- The release of a port's last handle disconnects it, and closes its request.
abbrev pub LastReleaseDisconnects : Type 0
LastReleaseDisconnects =
    (s : State) × Leaves defaults value_released value_released_answers s
    × (is_connected_port s.fixed 0 ≡ true) × ((connected_by s 1 3).0 ≡ Answer true)
    × ((released_by s 0 2).0 ≡ Done)
    × (is_connected_port (released_by s 0 2).1.fixed 0 ≡ false)
    × ((connected_by (released_by s 0 2).1 1 3).0 ≡ Answer false)
