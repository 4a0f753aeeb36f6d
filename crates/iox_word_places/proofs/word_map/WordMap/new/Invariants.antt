use Rattle.std.proofs.Common.{◌≡◌, ◌<◌, ℕ, length}
use Rattle.std.specs.Prelude.{slice_index_or}
use Rattle.iox_word_places.specs.declared.word_map.PortPlaces.{PortPlaces}
use Rattle.iox_word_places.specs.MapFields.{places_before}
use Rattle.iox_word_places.proofs.word_map.WordMap.new.Given as goal

abbrev pub invariant-loop-port : goal.invariant-loop-port
invariant-loop-port l =
    (l.next ≡ places_before l.fn.plan l.port-index)
    × (length l.places.items ≡ l.port-index)
    × ((i : ℕ) (d : PortPlaces) → i < l.port-index → slice_index_or l.places.items i d ≡ places_before l.fn.plan i)
