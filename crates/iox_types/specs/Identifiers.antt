-- What an identifier is: four numbers of 32 bits, which are one of 128.
use Rattle.std.specs.Prelude.{ℕ, ◌+◌, ◌*◌, ◌/◌, ◌%◌, ◌^◌, ◌<◌, ◌||◌, nat_lt, Bool, IsTrue, List, Option}
use Rattle.std.specs.Option.{option_map}
use Rattle.std.specs.Int.{w128, to_be_bytes}
use Rattle.hex.specs.Hex.{encode_lower}
use Rattle.iox_names.specs.Numbers.{two_words, IsTwoWords, of_two_words}
use Rattle.iox_names.specs.WordParts.{IsWordsWhere, of_where}
use Rattle.iox_types.specs.declared.identifiers.system_id.UniqueSystemId.{UniqueSystemId}

-- each of the four has 32 bits
pub record IsId (id : UniqueSystemId) : Type 0 where
  pub process : id.process < 2 ^ 32
  pub seconds : id.seconds < 2 ^ 32
  pub nanoseconds : id.nanoseconds < 2 ^ 32
  pub counter : id.counter < 2 ^ 32

-- the identifier as one number of 128 bits, its process number the most significant
abbrev pub id_value : UniqueSystemId → ℕ
id_value id = id.process * 2 ^ 96 + id.seconds * 2 ^ 64 + id.nanoseconds * 2 ^ 32 + id.counter

-- the identifier that a number of 128 bits stands for
abbrev pub id_of_value : ℕ → UniqueSystemId
id_of_value n = record {
  process = n / 2 ^ 96;
  seconds = n / 2 ^ 64 % 2 ^ 32;
  nanoseconds = n / 2 ^ 32 % 2 ^ 32;
  counter = n % 2 ^ 32;
}

-- the text of an identifier: its 32 hexadecimal digits
abbrev pub id_text : UniqueSystemId → List ℕ
id_text id = encode_lower (to_be_bytes w128 (id_value id))

-- the two words of an identifier
abbrev pub id_words : UniqueSystemId → List ℕ
id_words id = two_words (id_value id)

-- the identifier of two words
abbrev pub id_of_words : List ℕ → Option UniqueSystemId
id_of_words list = option_map id_of_value (of_two_words list)

-- whether the identifier may be a node's: its process number or its counter is not 0
abbrev pub is_node_id : UniqueSystemId → Bool
is_node_id id = nat_lt 0 id.process || nat_lt 0 id.counter

-- the identifiers of nodes
abbrev pub IsNodeId : UniqueSystemId → Type 0
IsNodeId id = IsId id × IsTrue (is_node_id id)

-- two words whose identifier is a node's
abbrev pub IsNodeIdWords : List ℕ → Type 0
IsNodeIdWords = IsWordsWhere is_node_id IsTwoWords id_of_words

-- the node's identifier of two words
abbrev pub node_id_of_words : List ℕ → Option UniqueSystemId
node_id_of_words = of_where is_node_id id_of_words
