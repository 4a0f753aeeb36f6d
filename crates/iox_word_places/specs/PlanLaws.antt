-- What is true of the layout that a plan describes.
use Rattle.iox_wire_words.specs.Fits.{IsSized}
use Rattle.iox_word_map.specs.WordMaps.{IsWay}
use Rattle.iox_word_places.specs.declared.plan.WirePlan.{WirePlan}
use Rattle.iox_word_places.specs.declared.way_index.WayIndex.{WayIndex}
use Rattle.iox_word_places.specs.Plans.{IsPlan, IsWayAt, layout_of, sizes_of, way_at}

-- Each queue, by its kind and capacity, has as many words as the map gives it.
abbrev pub PlansAreSized : Type 0
PlansAreSized = (plan : WirePlan) → IsPlan plan → IsSized (layout_of plan)

-- A way by the indexes of its ports is a way of the wire.
abbrev pub WaysAreOfTheWire : Type 0
WaysAreOfTheWire =
    (plan : WirePlan) → IsPlan plan → (way : WayIndex) → IsWayAt plan way
    → IsWay (sizes_of plan) (way_at plan way)
