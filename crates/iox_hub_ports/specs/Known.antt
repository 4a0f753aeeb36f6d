-- The pipe of a rank to a port, where it is known from whom it is.
use Rattle.std.specs.Prelude.{ℕ, Bool, false, ◌&&◌, ◌==◌, length, slice_get}
use Rattle.std.specs.Option.{option_map_or}
use Rattle.iox_tables.specs.HubStates.Tables.{PortState}

-- whether the pipe of that rank is from this sender, which is connected, and no pipe is kept of a
-- sender that is gone
abbrev pub is_from : ℕ → ℕ → PortState → Bool
is_from rank sender p =
    (length p.expired.pipes == 0)
    && option_map_or (λ q. q.sender == sender) (slice_get p.incoming.pipes rank) false
