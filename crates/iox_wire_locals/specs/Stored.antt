-- How a message stands in its slot: header, user header and payload, each word at its place.
use Rattle.std.specs.Prelude.{ℕ, ◌+◌, ◌-◌, ◌*◌, ◌/◌, if◌then◌else◌, nat_lt, List, length, ◌++◌}
use Rattle.iox_types.specs.Headers.{request_header_words, response_header_words}
use Rattle.iox_types.specs.Places.{aligned_place}
use Rattle.iox_model.specs.declared.kind.Role.{Role}
use Rattle.iox_model.specs.declared.kind.Role.TheVariants.{Client, Server}
use Rattle.iox_model.specs.Messages.{Message}
use Rattle.iox_model.specs.Settings.{Shape, message_size}

-- the words of a message's header, of a request and of a response
abbrev pub header_words : Role → Message → List ℕ
header_words Client m = request_header_words (record {
  node_id = m.node_id;
  client_id = m.port_id;
  channel_id = m.lane;
  request_id = m.request;
  number_of_elements = m.elements;
})
header_words Server m = response_header_words (record {
  node_id = m.node_id;
  server_id = m.port_id;
  request_id = m.request;
  number_of_elements = m.elements;
})

-- how many words a header has
abbrev pub header_length : Role → ℕ
header_length Client = 7
header_length Server = 6

-- all words of a message that a port of that role sends
abbrev pub message_words : Role → Message → List ℕ
message_words role m = header_words role m ++ (m.user ++ m.payload)

-- ---- places in bytes, of a message whose header begins at `start`

-- where the user header begins
abbrev pub user_start : Shape → ℕ → ℕ
user_start x start = aligned_place (start + x.header_part.size) x.user_part.alignment

-- where the payload begins
abbrev pub payload_start : Shape → ℕ → ℕ
payload_start x start =
    aligned_place (user_start x start + x.user_part.size) x.element_part.alignment

-- where a word stands, of a message with so many words in its header and in its user header
abbrev pub word_start : Shape → (header user start k : ℕ) → ℕ
word_start x header user start k =
    if nat_lt k header then start + 8 * k
    else (if nat_lt k (header + user) then user_start x start + 8 * (k - header)
    else payload_start x start + 8 * (k - (header + user)))

-- the number of a message's word among the words of its port's pool, where each slot has room for
-- the longest message
abbrev pub pool_word : Role → Shape → (longest slot k : ℕ) → ℕ
pool_word role x longest slot k =
    word_start x (header_length role) (length x.user) (slot * message_size x longest) k / 8
