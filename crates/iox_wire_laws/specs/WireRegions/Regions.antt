-- The slots of a port's pool, as words of its region.
use Rattle.std.specs.Prelude.{◌≡◌, ℕ, ◌+◌, ◌*◌, ◌<◌, true, length}
use Rattle.iox_types.specs.Places.{IsAlignedTo}
use Rattle.iox_model.specs.Maps.{has_number}
use Rattle.iox_model.specs.Settings.{IsPart, message_size}
use Rattle.iox_wire_words.specs.Programs.{word_place}
use Rattle.iox_wire_locals.specs.Stored.{header_length}
use Rattle.iox_wire_locals.specs.Tables.{Setting, port_shape, region_word, words_before_payload}

-- how many words a port's message of so many elements has
abbrev pub words_of_message : Setting → (port elements : ℕ) → ℕ
words_of_message p port elements =
    words_before_payload p port + elements * (port_shape p port).width

-- how many words the longest message of a port has
abbrev pub words_of_longest : Setting → ℕ → ℕ
words_of_longest p port = words_of_message p port (p.port port).longest

-- how many bytes a slot of a port has: those of the longest message
abbrev pub slot_bytes : Setting → ℕ → ℕ
slot_bytes p port = message_size (port_shape p port) (p.port port).longest

-- The port is one of the wire's. Its messages are of whole words, and its region has the words of
-- each slot of its pool.
pub record HasRegion (p : Setting) (port : ℕ) : Type 0 where
  pub there : has_number port p.layout.sizes.ports ≡ true
  -- each part may stand where its alignment says
  pub header_part : IsPart (port_shape p port).header_part
  pub user_part : IsPart (port_shape p port).user_part
  pub element_part : IsPart (port_shape p port).element_part
  -- and is so many words
  pub header : (port_shape p port).header_part.size ≡ 8 * header_length (p.port port).role
  pub user : (port_shape p port).user_part.size ≡ 8 * length (port_shape p port).user
  pub element : (port_shape p port).element_part.size ≡ 8 * (port_shape p port).width
  -- so is a slot, and the region is all of them
  pub whole : IsAlignedTo 8 (slot_bytes p port)
  pub region : 8 * p.layout.sizes.region port ≡ (p.port port).pool * slot_bytes p port

-- the place of word k of a slot among all words of the wire
abbrev pub slot_word : Setting → (port slot k : ℕ) → ℕ
slot_word p port slot k = word_place p.layout port (region_word p port slot k)

-- word k of a slot is one of a message there
pub record IsSlotWord (p : Setting) (port slot k : ℕ) : Type 0 where
  pub region : HasRegion p port
  pub in_pool : slot < (p.port port).pool
  pub in_message : k < words_of_longest p port
