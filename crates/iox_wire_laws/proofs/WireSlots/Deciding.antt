-- What a pool decides is told by the free slots.
use Rattle.std.specs.Prelude.{◌≡◌, [], Option, refl}
use Rattle.std.specs.Option.{option_map_or}
use Rattle.std.proofs.Common.{ap, sym, ◌∙◌}
use Rattle.iox_model.specs.Doings.{Doing}
use Rattle.iox_model.specs.Keeping.{under_way, kept_in}
use Rattle.iox_model.specs.Maps.{is_empty}
use Rattle.iox_model.specs.Outstandings.{is_dry, kept}
use Rattle.iox_wire_laws.specs.WireSlots.Slots.{PoolsDecideByFreeSlots}
use Rattle.iox_wire_laws.proofs.WireSlots.Counting.{dry_if_none_is_free}

pub pools_decide_by_free_slots : PoolsDecideByFreeSlots
pools_decide_by_free_slots w n copies h left p at free doing of_node is fits =
    let dry : is_dry w.state.fixed h.port (kept_in w h.port) ≡ is_empty free
    = dry_if_none_is_free w.state.fixed h.port p at free (kept_in w h.port) is fits in
    let keeps : kept_in w h.port ≡ kept w.state h.port []
    = ap (λ (o : Option Doing). kept w.state h.port (option_map_or (under_way h.port) o [])) (ap w.doing of_node ∙ doing) in
    let dry' : is_dry w.state.fixed h.port (kept w.state h.port []) ≡ is_empty free
    = ap (is_dry w.state.fixed h.port) (sym keeps) ∙ dry in
    (λ none. rw (dry', none) refl, λ slot others some. rw (dry', some) refl)
