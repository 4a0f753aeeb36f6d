-- A request's header is seven words of 64 bits, a response's six.
use Rattle.std.proofs.Common.{ℕ, ◌+◌, ◌<◌, ◌^◌, ◌++◌, List, Option, refl, lit≤}
use Rattle.iox_names.specs.WordLists.{AreWords}
use Rattle.iox_names.specs.WordLaws.{AreWords-option_map, AreWords-pair}
use Rattle.iox_names.specs.WordParts.{IsWordsInParts, of_parts}
use Rattle.iox_names.specs.Numbers.{one_word, IsOneWord, of_one_word, IsTwoWords}
use Rattle.iox_names.specs.NumberLaws.{one_word_is_a_number}
use Rattle.iox_types.specs.Identifiers.{IsId, id_words, id_of_words, IsNodeId, IsNodeIdWords, node_id_of_words}
use Rattle.iox_types.specs.IdentifierLaws.{two_words_are_an_id, two_words_are_a_node_id}
use Rattle.iox_types.specs.Headers.{tail_words, IsTail, IsTailWords, tail_of_words, request_header_words, IsRequestHeader, IsRequestHeaderWords, request_header_of, request_header_of_words, response_header_words, IsResponseHeader, IsResponseHeaderWords, response_header_of, response_header_of_words}
use Rattle.iox_types.specs.declared.identifiers.system_id.UniqueSystemId.{UniqueSystemId}

-- the end of a header is two words
two_words_are_a_tail : AreWords 2 IsTail tail_words IsTailWords tail_of_words
two_words_are_a_tail =
    AreWords-pair 1 1 (λ n. n < 2 ^ 62) one_word (IsOneWord (2 ^ 62)) (of_one_word (2 ^ 62))
    (λ n. n < 2 ^ 64) one_word (IsOneWord (2 ^ 64)) (of_one_word (2 ^ 64))
    (one_word_is_a_number (2 ^ 62) (lit≤ tt)) (one_word_is_a_number (2 ^ 64) (lit≤ tt))

-- words whose first two are an identifier, as those of a client or a server
after_id : {A : Type 0} (n : ℕ) (IsA : A → Type 0) (words : A → List ℕ) (are : List ℕ → Type 0)
    (of : List ℕ → Option A) → AreWords n IsA words are of →
    AreWords (2 + n) (λ (p : UniqueSystemId × A). IsId p.0 × IsA p.1) (λ p. id_words p.0 ++ words p.1)
    (IsWordsInParts 2 IsTwoWords are) (of_parts 2 id_of_words of)
after_id n IsA words are of laws =
    AreWords-pair 2 n IsId id_words IsTwoWords id_of_words IsA words are of two_words_are_an_id laws

-- words whose first two are a node's identifier
after_node_id : {A : Type 0} (n : ℕ) (IsA : A → Type 0) (words : A → List ℕ) (are : List ℕ → Type 0)
    (of : List ℕ → Option A) → AreWords n IsA words are of →
    AreWords (2 + n) (λ (p : UniqueSystemId × A). IsNodeId p.0 × IsA p.1)
    (λ p. id_words p.0 ++ words p.1) (IsWordsInParts 2 IsNodeIdWords are) (of_parts 2 node_id_of_words of)
after_node_id n IsA words are of laws =
    AreWords-pair 2 n IsNodeId id_words IsNodeIdWords node_id_of_words IsA words are of two_words_are_a_node_id laws

-- the words of a channel's number and of the end of a header
abbrev channel_and_tail_words : ℕ × (ℕ × ℕ) → List ℕ
channel_and_tail_words p = one_word p.0 ++ tail_words p.1

-- these are a channel's number and the end of a header
abbrev IsChannelAndTail : ℕ × (ℕ × ℕ) → Type 0
IsChannelAndTail p = (p.0 < 2 ^ 64) × IsTail p.1

-- these are the words of a channel's number and of the end of a header
abbrev are_channel_and_tail : List ℕ → Type 0
are_channel_and_tail = IsWordsInParts 1 (IsOneWord (2 ^ 64)) IsTailWords

-- the channel's number and the end of a header that these words stand for
abbrev channel_and_tail_of : List ℕ → Option (ℕ × (ℕ × ℕ))
channel_and_tail_of = of_parts 1 (of_one_word (2 ^ 64)) tail_of_words

-- a channel's number and the end of a header are three words
three_words_are_channel_and_tail : AreWords 3 IsChannelAndTail channel_and_tail_words are_channel_and_tail channel_and_tail_of
three_words_are_channel_and_tail =
    AreWords-pair 1 2 (λ n. n < 2 ^ 64) one_word (IsOneWord (2 ^ 64)) (of_one_word
    (2 ^ 64)) IsTail tail_words IsTailWords tail_of_words
    (one_word_is_a_number (2 ^ 64) (lit≤ tt)) two_words_are_a_tail

-- seven words are a request's header
pub seven_words_are_a_request_header : AreWords 7 IsRequestHeader request_header_words IsRequestHeaderWords request_header_of_words
seven_words_are_a_request_header =
    AreWords-option_map 7 _ _ IsRequestHeaderWords _ IsRequestHeader
    (λ header. (
      header.node_id,
      (
        header.client_id,
        (
          header.channel_id,
          (header.request_id, header.number_of_elements),
        ),
      ),
    ))
    request_header_of
    (after_node_id 5 _ _ _ _
    (after_id 3 IsChannelAndTail channel_and_tail_words are_channel_and_tail channel_and_tail_of three_words_are_channel_and_tail))
    (λ header h. (h, refl)) (λ fields h. (h, refl))

-- six words are a response's header
pub six_words_are_a_response_header : AreWords 6 IsResponseHeader response_header_words IsResponseHeaderWords response_header_of_words
six_words_are_a_response_header =
    AreWords-option_map 6 _ _ IsResponseHeaderWords _ IsResponseHeader
    (λ header. (header.node_id, (header.server_id, (header.request_id, header.number_of_elements))))
    response_header_of
    (after_node_id 4 _ _ _ _ (after_id 2 IsTail tail_words IsTailWords tail_of_words two_words_are_a_tail))
    (λ header h. (h, refl)) (λ fields h. (h, refl))
