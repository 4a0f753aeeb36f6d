-- No two words of slots are the same word of the wire, and none is a queue's or a request state's:
-- a store into a slot changes one word.
use Rattle.std.specs.Prelude.{◌≡◌, ℕ, ◌+◌, ◌<◌}
use Rattle.iox_model.specs.declared.way.Way.{Way}
use Rattle.iox_word_map.specs.WordMaps.{WireQueue, QueueWords, IsQueue, IsResponseWay, piece_place, piece_size}
use Rattle.iox_wire_words.specs.Programs.{StoresWord, program_access, state_place}
use Rattle.iox_wire_words.specs.Fits.{WireContents, contents_after}
use Rattle.iox_wire_words.specs.Laws.{AccessIsMade}
use Rattle.iox_wire_locals.specs.Tables.{Setting, region_word}
use Rattle.iox_wire_locals.specs.WorkedWires.{ones}
use Rattle.iox_wire_laws.specs.WireRegions.Regions.{HasRegion, IsSlotWord, slot_word}

-- Each word of a slot stands in the region of its port.
abbrev pub WordsAreInTheirRegion : Type 0
WordsAreInTheirRegion =
    (p : Setting) (port slot k : ℕ) → IsSlotWord p port slot k
    → region_word p port slot k < p.layout.sizes.region port

-- A place among the words of the wire tells the port, the slot and the number of the word there.
abbrev pub PlacesTellTheirSlot : Type 0
PlacesTellTheirSlot =
    (p : Setting) (port i k q j l : ℕ) → IsSlotWord p port i k → IsSlotWord p q j l
    → slot_word p port i k ≡ slot_word p q j l → (port ≡ q) × (i ≡ j) × (k ≡ l)

-- two words of slots are not the same one
abbrev pub AreOthers : (port i k q j l : ℕ) → Type 0
AreOthers port i k q j l = port ≡ q → i ≡ j → k ≡ l → ⊥

-- A store into a slot puts the value there. It leaves each other word of each slot, all words of
-- queues, and each request state.
abbrev pub StoresLeaveTheRest : Type 0
StoresLeaveTheRest =
    (p : Setting) (word word' : ℕ → ℕ) (port slot k value : ℕ) → IsSlotWord p port slot k
    → AccessIsMade (program_access p.layout (StoresWord port (region_word p port slot k) value))
    word word'
    → (word' (slot_word p port slot k) ≡ value)
    × ((q j l : ℕ) → IsSlotWord p q j l → AreOthers q j l port slot k
    → word' (slot_word p q j l) ≡ word (slot_word p q j l))
    × ((q : WireQueue) (l : ℕ) → IsQueue p.layout.sizes q
    → l < piece_size p.layout.sizes (QueueWords q)
    → word' (piece_place p.layout.sizes (QueueWords q) + l)
    ≡ word (piece_place p.layout.sizes (QueueWords q) + l))
    × ((y : Way) → IsResponseWay p.layout.sizes y
    → word' (state_place p.layout y) ≡ word (state_place p.layout y))

-- So it is with what the words hold.
abbrev pub StoresLeaveTheContents : Type 0
StoresLeaveTheContents =
    (p : Setting) (c : WireContents) (port slot k value seen : ℕ) → IsSlotWord p port slot k
    → let d = contents_after p.layout (StoresWord port (region_word p port slot k) value) seen c in
    (d.stored port (region_word p port slot k) ≡ value)
    × ((q j l : ℕ) → IsSlotWord p q j l → AreOthers q j l port slot k
    → d.stored q (region_word p q j l) ≡ c.stored q (region_word p q j l))
    × (d.queues ≡ c.queues) × (d.state ≡ c.state)

-- On the worked wire both ports have their regions.
abbrev pub WorkedPortsHaveRegions : Type 0
WorkedPortsHaveRegions = HasRegion ones 0 × HasRegion ones 1
