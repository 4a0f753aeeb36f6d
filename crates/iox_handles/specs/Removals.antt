-- What is removed that passes a test.
use Rattle.std.specs.Prelude.{Bool, if◌then◌else◌, Option, Some, None}
use Rattle.iox_handles.specs.declared.entry.Entry.{Entry}

-- the handle, if it passes the test
abbrev pub if_passes : (Entry → Bool) → Entry → Option Entry
if_passes test h = if test h then Some h else None
