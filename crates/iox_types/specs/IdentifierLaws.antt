-- Two words are an identifier.
use Rattle.std.proofs.Common.{ℕ, ◌≡◌, ◌/◌, ◌%◌, ◌<◌, ◌^◌, arith, refl}
use Rattle.iox_names.specs.WordLists.{AreWords}
use Rattle.iox_names.specs.WordLaws.{AreWords-option_map}
use Rattle.iox_names.specs.WhereLaws.{AreWords-where}
use Rattle.iox_names.specs.Numbers.{two_words, IsTwoWords, of_two_words}
use Rattle.iox_names.specs.NumberLaws.{two_words_are_a_number}
use Rattle.iox_types.specs.Identifiers.{IsId, id_value, id_of_value, id_words, id_of_words, is_node_id, IsNodeId, IsNodeIdWords, node_id_of_words}
use Rattle.iox_types.specs.declared.identifiers.system_id.UniqueSystemId.{UniqueSystemId}

-- an identifier is a number below 2 ^ 128, and is read back from it
there : (id : UniqueSystemId) → IsId id → (id_value id < 2 ^ 128) × (id_of_value (id_value id) ≡ id)
there id h =
    let p : id_value id / 2 ^ 96 ≡ id.process = omega arith in
    let s : id_value id / 2 ^ 64 % 2 ^ 32 ≡ id.seconds = omega arith in
    let n : id_value id / 2 ^ 32 % 2 ^ 32 ≡ id.nanoseconds = omega arith in
    let c : id_value id % 2 ^ 32 ≡ id.counter = omega arith in
    (omega arith, rw (p, s, n, c) refl)

-- a number below 2 ^ 128 is an identifier's, and is read back from it
here : (n : ℕ) → n < 2 ^ 128 → IsId (id_of_value n) × (id_value (id_of_value n) ≡ n)
here n h = (
  record {
    process = omega arith;
    seconds = omega arith;
    nanoseconds = omega arith;
    counter =
        omega arith;
  },
  omega arith,
)

-- two words are an identifier
pub two_words_are_an_id : AreWords 2 IsId id_words IsTwoWords id_of_words
two_words_are_an_id =
    AreWords-option_map 2
    (λ n. n < 2 ^ 128) two_words IsTwoWords of_two_words IsId id_value id_of_value two_words_are_a_number there here

-- two words are a node's identifier, if its process number or its counter is there
pub two_words_are_a_node_id : AreWords 2 IsNodeId id_words IsNodeIdWords node_id_of_words
two_words_are_a_node_id = AreWords-where is_node_id 2 IsId id_words IsTwoWords id_of_words two_words_are_an_id
