-- The layout that a plan describes has what the laws of a wire ask.
use Rattle.std.specs.Prelude.{◌≡◌, ℕ, ◌+◌, true}
use Rattle.iox_model.specs.declared.way.Way.{Way}
use Rattle.iox_model.specs.Maps.{has_number}
use Rattle.iox_model.specs.Peers.{borrow_limit_on, buffer_on}
use Rattle.iox_model.specs.States.{Fixed}
use Rattle.iox_model.specs.Weaves.{World, Beat, IsBeat}
use Rattle.iox_laws.specs.WeaveWorlds.Worlds.{IsReachable}
use Rattle.iox_word_map.specs.WordMaps.{IsWay, ReturningQueue}
use Rattle.iox_word_places.specs.declared.plan.WirePlan.{WirePlan}
use Rattle.iox_word_places.specs.Plans.{IsPlan, layout_of, sizes_of}
use Rattle.iox_wire_moments.specs.MomentsOf.{Pools}
use Rattle.iox_wire_moments.specs.Ties.{Suits}
use Rattle.iox_wire_locals.specs.declared.seat.Seat.{Seat}
use Rattle.iox_wire_locals.specs.Knowing.{Knows}
use Rattle.iox_wire_locals.specs.Tables.{Setting}
use Rattle.iox_wire_seats.specs.Seats.{Agrees}
use Rattle.iox_wire_laws.specs.WireRegions.OwnedBegins.{LayoutFits}
use Rattle.iox_wire_laws.specs.WireRegions.Regions.{HasRegion}
use Rattle.iox_wire_layouts.specs.PlansOf.{IsPlanOf, IsSettingOf}

-- Each port of a plan that makes sense has its region.
abbrev pub PortsHaveRegions : Type 0
PortsHaveRegions =
    (plan : WirePlan) (p : Setting) (port : ℕ) → IsPlan plan → IsSettingOf plan p
    → has_number port p.layout.sizes.ports ≡ true → HasRegion p port

-- The layout fits a machine whose ports are the plan's.
abbrev pub PlannedLayoutsFit : Type 0
PlannedLayoutsFit =
    (plan : WirePlan) (p : Setting) (f : Fixed) → IsPlan plan → IsPlanOf plan f
    → p.layout ≡ layout_of plan → LayoutFits p f

-- Its queues are as large as the machine's buffers, and overflow where messages do.
abbrev pub PlannedQueuesSuit : Type 0
PlannedQueuesSuit =
    (plan : WirePlan) (f : Fixed) → IsPlanOf plan f → Suits (layout_of plan) f

-- A returning queue has room for all that wait, all that the receiver may have, and one more.
abbrev pub PlannedReturnsHaveRoom : Type 0
PlannedReturnsHaveRoom =
    (plan : WirePlan) (f : Fixed) (y : Way) → IsPlan plan → IsPlanOf plan f
    → IsWay (sizes_of plan) y
    → (layout_of plan).capacity (ReturningQueue y) ≡ buffer_on f y + borrow_limit_on f y + 1

-- A setting with the plan's layout, of which a node knows that its ports and limits are the
-- machine's, is made from the plan.
abbrev pub KnownSettingsArePlanned : Type 0
KnownSettingsArePlanned =
    (plan : WirePlan) (p : Setting) (x : Seat) (f : Fixed) (held : Pools) → IsPlanOf plan f
    → p.layout ≡ layout_of plan → Knows p x f held → IsSettingOf plan p

-- A setting that is made from a plan agrees with it, as the functions of seats ask.
abbrev pub PlannedSettingsAgree : Type 0
PlannedSettingsAgree = (plan : WirePlan) (p : Setting) → IsSettingOf plan p → Agrees p plan

-- The plan of a wire's ports is theirs after any beat.
abbrev pub PlansStay : Type 0
PlansStay =
    (plan : WirePlan) (w u : World) (b : Beat) → IsReachable w → IsBeat w b u
    → IsPlanOf plan w.state.fixed → IsPlanOf plan u.state.fixed
