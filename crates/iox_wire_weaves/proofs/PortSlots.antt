-- How many words a message takes in a slot of its port, as the plan has it.
use Rattle.std.specs.Prelude.{◌-◌}
use Rattle.std.specs.Option.{option_map_or}
use Rattle.std.proofs.Common.{◌≡◌, ℕ, ◌+◌, ◌*◌, ◌<◌, ◌≤◌, true, length, Option, ap, ap₂, sym, subst, ◌∙◌, arith}
use Rattle.iox_model.specs.Maps.{has_number}
use Rattle.iox_model.specs.Parts.{bytes_of_parts}
use Rattle.iox_model.specs.Settings.{Shape, message_size}
use Rattle.iox_model.proofs.LayoutLemmas.{IsPowerOfTwo-positive, aligned_place-ge}
use Rattle.iox_word_map.specs.WordMaps.{Sizes}
use Rattle.iox_wire_laws.specs.WireRegions.Regions.{HasRegion}
use Rattle.iox_wire_nodes.specs.PlanPort.{PlanPort}
use Rattle.iox_wire_nodes.specs.Plans.{sizes_of, slot_words_of}
use Rattle.iox_wire_nodes.specs.PlansOf.{IsAsPlanned}
use Rattle.iox_wire_nodes.specs.Programs.{WireLayout}
use Rattle.iox_wire_nodes.specs.Tables.{Setting, port_shape}
use Rattle.iox_wire_nodes.proofs.Planned.{Found, each_planned, find_planned}
use Rattle.iox_wire_needs.specs.Runs.{Run}
use Rattle.iox_wire_weaves.specs.Wires.{Shows, WireData}
use Rattle.iox_wire_weaves.proofs.SlotRooms.{slot_room, within_slot}

module _ (p : Setting) (wire : WireData) (r : Run) (shows : Shows p wire r) where
  pub sizes_are : p.layout.sizes ≡ sizes_of wire.plan
  sizes_are = ap (λ (l : WireLayout). l.sizes) shows.setting.setting.layout

  module _ (port : ℕ) (known : has_number port p.layout.sizes.ports ≡ true) where
    -- the plan's port of a number of the wire
    pub planned : Found (λ q. IsAsPlanned q (p.port q.number)) wire.plan.ports.items port
    planned =
        find_planned (λ q. IsAsPlanned q (p.port q.number)) wire.plan.ports.items port
        (each_planned p.port wire.plan.ports.items shows.setting.setting.is_for.ports)
        (subst (λ (z : Sizes). has_number port z.ports ≡ true) sizes_are known)

    pub pool_is : (p.port port).pool ≡ planned.port.pool
    pool_is = ap (λ k. (p.port k).pool) (sym planned.number) ∙ planned.so.pool

    region_there : p.layout.sizes.region port ≡ (p.port port).pool * slot_words_of wire.plan port
    region_there =
        ap (λ (z : Sizes). z.region port) sizes_are
        ∙ ap (λ (o : Option PlanPort). option_map_or (λ (k : PlanPort). k.pool * k.slot_words) o 0) planned.found
        ∙ ap₂ (λ (a b : ℕ). a * b) (sym pool_is)
        (sym (ap (λ (o : Option PlanPort). option_map_or (λ (k : PlanPort). k.slot_words) o 0) planned.found))

    some_slot : (k pool : ℕ) → k < pool → 0 < pool
    some_slot k pool less = omega (arith, less)

    abbrev d : Shape
    d = port_shape p port

    -- a message that is no longer than the longest has room in a slot
    pub message_in_slot : HasRegion p port → (slot elements : ℕ) → slot < (p.port port).pool → elements ≤ (p.port port).longest
        → length (port_shape p port).user + elements * (port_shape p port).width ≤ slot_words_of wire.plan port
    message_in_slot region slot elements low fewer =
        within_slot d.header_part.size d.user_part.size (d.user_part.alignment - 1) d.element_part.size (d.element_part.alignment - 1) (length d.user) d.width elements
        (p.port port).longest (message_size d (p.port port).longest) (slot_words_of wire.plan port)
        region.user region.element fewer
        (aligned_place-ge (bytes_of_parts d.header_part d.user_part d.element_part (p.port port).longest) d.header_part.alignment
        (IsPowerOfTwo-positive d.header_part.alignment region.header_part))
        (slot_room (p.layout.sizes.region port) (p.port port).pool (message_size d (p.port port).longest) (slot_words_of wire.plan port)
        region.region region_there (some_slot slot (p.port port).pool low))
