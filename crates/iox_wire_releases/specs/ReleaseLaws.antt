-- What the invariant of a wire says of a handle is what its release asks.
use Rattle.std.specs.Prelude.{◌≡◌, false}
use Rattle.iox_model.specs.Handles.{is_received}
use Rattle.iox_model.specs.States.{Fixed}
use Rattle.iox_word_places.specs.declared.plan.WirePlan.{WirePlan}
use Rattle.iox_word_places.specs.Plans.{IsPlan, layout_of}
use Rattle.iox_wire_locals.specs.declared.seat.Seat.{Seat}
use Rattle.iox_wire_locals.specs.declared.table.Entry.{Entry}
use Rattle.iox_wire_locals.specs.Tables.{Setting}
use Rattle.iox_wire_laws.specs.WireOwners.Releases.{ReleasesOwnHandle}
use Rattle.iox_wire_laws.specs.WireRegions.OwnedBegins.{LayoutFits}
use Rattle.iox_wire_seats.specs.Desks.{MayGiveUp}
use Rattle.iox_wire_releases.specs.Released.{MayRelease}

-- Where the plan's layout fits the machine's ports, a node may release each handle that is of its
-- ports as the machine has them, if its desks count what is its own.
abbrev pub HandlesMayBeReleased : Type 0
HandlesMayBeReleased =
    (plan : WirePlan) (p : Setting) (f : Fixed) (x : Seat) (e : Entry)
    → IsPlan plan → p.layout ≡ layout_of plan → LayoutFits p f → ReleasesOwnHandle f x.node e
    → (is_received e.kind ≡ false → MayGiveUp e x.desks) → MayRelease plan e x.desks
