use Rattle.std.proofs.Common.{◌≡◌, ◌<◌, ℕ, false}
use Rattle.std.specs.Option.{option_map_or}
use Rattle.iox_hub_ports.specs.Ports.{info_at}
use Rattle.iox_control_questions.specs.Naming.{is_named_with}
use Rattle.iox_control_questions.proofs.naming.is_named_by_some_server.Given as goal

-- no port before that place names the request
abbrev pub invariant-loop-at : goal.invariant-loop-at
invariant-loop-at l =
    (i : ℕ) → i < l.at → option_map_or (is_named_with l.control.tables l.entry.port l.label l.hinted) (info_at l.control.tables.ports i) false ≡ false
