-- Handles that are removed if they are of a kind.
use Rattle.std.specs.Prelude.{if◌then◌else◌, Option, Some, None}
use Rattle.iox_model.specs.declared.kind.Kind.{Kind}
use Rattle.iox_model.specs.Values.{is_still}
use Rattle.iox_hub_ports.specs.HubStates.Tables.{HandleState}

-- the handle, if one of that kind may be of its kind by now
abbrev pub if_still : Kind → HandleState → Option HandleState
if_still kind h = if is_still kind h.kind then Some h else None
