-- The events that a wire recorded, as they are told.
use Rattle.std.proofs.Common.{◌≡◌, ℕ, List, length, map, ap, sym, ◌∙◌}
use Rattle.std.proofs.lemmas.List.{length-map}
use Rattle.iox_model.specs.declared.event.Event.{Event}
use Rattle.iox_wire.specs.declared.events.WireEvent.{WireEvent}

-- the events that were recorded
abbrev pub events_by : List WireEvent → List (ℕ × Event)
events_by events = map (λ (e : WireEvent). (e.node, e.event)) events

-- there are as many as are told
pub count : (told events : List WireEvent) → events_by told ≡ events_by events → length told ≡ length (events_by events)
count told events same = sym (length-map told (λ (e : WireEvent). (e.node, e.event))) ∙ ap length same
