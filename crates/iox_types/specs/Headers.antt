-- The headers of requests and responses as words: those of their fields, one after the other.
use Rattle.std.specs.Prelude.{ℕ, ◌<◌, ◌^◌, List, ◌++◌, Option}
use Rattle.std.specs.Option.{option_map}
use Rattle.iox_names.specs.Numbers.{one_word, IsOneWord, of_one_word, IsTwoWords}
use Rattle.iox_names.specs.WordParts.{IsWordsInParts, of_parts}
use Rattle.iox_types.specs.Identifiers.{IsId, id_words, id_of_words, IsNodeId, IsNodeIdWords, node_id_of_words}
use Rattle.iox_types.specs.declared.identifiers.system_id.UniqueSystemId.{UniqueSystemId}
use Rattle.iox_types.specs.declared.header.RequestHeader.{RequestHeader}
use Rattle.iox_types.specs.declared.header.ResponseHeader.{ResponseHeader}

-- A header ends with the number of its request and the number of its elements: a word each.
abbrev pub tail_words : ℕ × ℕ → List ℕ
tail_words tail = one_word tail.0 ++ one_word tail.1

-- a request's number is below 2 ^ 62
abbrev pub IsTail : ℕ × ℕ → Type 0
IsTail tail = (tail.0 < 2 ^ 62) × (tail.1 < 2 ^ 64)

-- two words, the first below 2 ^ 62
abbrev pub IsTailWords : List ℕ → Type 0
IsTailWords = IsWordsInParts 1 (IsOneWord (2 ^ 62)) (IsOneWord (2 ^ 64))

-- the two numbers of two words
abbrev pub tail_of_words : List ℕ → Option (ℕ × ℕ)
tail_of_words = of_parts 1 (of_one_word (2 ^ 62)) (of_one_word (2 ^ 64))

-- the seven words of a request's header
abbrev pub request_header_words : RequestHeader → List ℕ
request_header_words header =
    id_words header.node_id
    ++ (id_words header.client_id
    ++ (one_word header.channel_id ++ tail_words (header.request_id, header.number_of_elements)))

-- each field has a value of its type
abbrev pub IsRequestHeader : RequestHeader → Type 0
IsRequestHeader header =
    IsNodeId header.node_id
    × (IsId header.client_id
    × ((header.channel_id < 2 ^ 64) × IsTail (header.request_id, header.number_of_elements)))

-- seven words: a node's identifier, a client's, a channel, and the tail
abbrev pub IsRequestHeaderWords : List ℕ → Type 0
IsRequestHeaderWords =
    IsWordsInParts 2 IsNodeIdWords
    (IsWordsInParts 2 IsTwoWords (IsWordsInParts 1 (IsOneWord (2 ^ 64)) IsTailWords))

-- its fields in order
abbrev pub request_header_of : UniqueSystemId × (UniqueSystemId × (ℕ × (ℕ × ℕ))) → RequestHeader
request_header_of fields = record {
  node_id = fields.0;
  client_id = fields.1.0;
  channel_id = fields.1.1.0;
  request_id = fields.1.1.1.0;
  number_of_elements = fields.1.1.1.1;
}

-- the header of seven words
abbrev pub request_header_of_words : List ℕ → Option RequestHeader
request_header_of_words list =
    option_map request_header_of
    (of_parts 2 node_id_of_words
    (of_parts 2 id_of_words (of_parts 1 (of_one_word (2 ^ 64)) tail_of_words)) list)

-- the six words of a response's header
abbrev pub response_header_words : ResponseHeader → List ℕ
response_header_words header =
    id_words header.node_id
    ++ (id_words header.server_id ++ tail_words (header.request_id, header.number_of_elements))

-- each field is one of its type
abbrev pub IsResponseHeader : ResponseHeader → Type 0
IsResponseHeader header =
    IsNodeId header.node_id × (IsId header.server_id × IsTail (header.request_id, header.number_of_elements))

-- six words: a node's identifier, a server's, and the tail
abbrev pub IsResponseHeaderWords : List ℕ → Type 0
IsResponseHeaderWords = IsWordsInParts 2 IsNodeIdWords (IsWordsInParts 2 IsTwoWords IsTailWords)

-- its fields in order
abbrev pub response_header_of : UniqueSystemId × (UniqueSystemId × (ℕ × ℕ)) → ResponseHeader
response_header_of fields = record {
  node_id = fields.0;
  server_id = fields.1.0;
  request_id = fields.1.1.0;
  number_of_elements = fields.1.1.1;
}

-- the header of six words
abbrev pub response_header_of_words : List ℕ → Option ResponseHeader
response_header_of_words list =
    option_map response_header_of (of_parts 2 node_id_of_words (of_parts 2 id_of_words tail_of_words) list)
