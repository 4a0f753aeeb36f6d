-- No two pieces of the map have a word in common, all stand within it, and each place is computed.
use Rattle.std.specs.Prelude.{◌≡◌, ℕ, ◌+◌, ◌*◌, ◌≤◌, length}
use Rattle.iox_steps.specs.Accesses.{AreApart}
use Rattle.iox_model.specs.declared.way.Way.{Way}
use Rattle.iox_word_map.specs.Stretches.{sum_of, sum_before}
use Rattle.iox_word_map.specs.WordMaps.{Sizes, MessageQueue, ReturningQueue, Piece, Region, QueueWords, StateWord, IsRequestWay, IsResponseWay, IsPiece, piece_place, piece_size, total_words, pair_words, pair_place, lane_place, all_ones}

-- Two different pieces have no word in common.
abbrev pub PiecesAreApart : Type 0
PiecesAreApart =
    (z : Sizes) (x y : Piece) → IsPiece z x → IsPiece z y → (x ≡ y → ⊥)
    → AreApart (piece_place z x) (piece_size z x) (piece_place z y) (piece_size z y)

-- Each piece stands within the words of the wire.
abbrev pub PiecesAreWithin : Type 0
PiecesAreWithin =
    (z : Sizes) (x : Piece) → IsPiece z x → piece_place z x + piece_size z x ≤ total_words z

-- Each piece has as many words as the sizes say: a region, a queue, and one word for a request state.
abbrev pub PiecesAreSized : Type 0
PiecesAreSized =
    (z : Sizes) → ((port : ℕ) → piece_size z (Region port) ≡ z.region port)
    × ((w : Way) → IsRequestWay z w
    → (piece_size z (QueueWords (MessageQueue w)) ≡ z.requests)
    × (piece_size z (QueueWords (ReturningQueue w)) ≡ z.requests_returning))
    × ((w : Way) → IsResponseWay z w
    → (piece_size z (QueueWords (MessageQueue w)) ≡ z.responses)
    × (piece_size z (QueueWords (ReturningQueue w)) ≡ z.responses_returning)
    × (piece_size z (StateWord w) ≡ 1))

-- The regions stand first among the words, one behind the other.
abbrev pub RegionsAreComputed : Type 0
RegionsAreComputed =
    (z : Sizes) (port : ℕ) → piece_place z (Region port) ≡ sum_before z.region port z.ports

-- The queues of a client's requests to a server stand first among the words of the two.
abbrev pub RequestQueuesAreComputed : Type 0
RequestQueuesAreComputed =
    (z : Sizes) (w : Way) → IsRequestWay z w
    → let place = pair_place z w.sender w.receiver in
    (piece_place z (QueueWords (MessageQueue w)) ≡ place)
    × (piece_place z (QueueWords (ReturningQueue w)) ≡ place + z.requests)

-- On each lane the queues of responses and the request state stand one behind the other.
abbrev pub LanesAreComputed : Type 0
LanesAreComputed =
    (z : Sizes) (w : Way) → IsResponseWay z w
    → let place = lane_place z w.receiver w.sender w.lane in
    (piece_place z (QueueWords (MessageQueue w)) ≡ place)
    × (piece_place z (QueueWords (ReturningQueue w)) ≡ place + z.responses)
    × (piece_place z (StateWord w) ≡ place + z.responses + z.responses_returning)

-- A wire has the words of all regions, and those of each client with each server.
abbrev pub TotalIsComputed : Type 0
TotalIsComputed =
    (z : Sizes) → total_words z
    ≡ sum_of z.region z.ports + sum_of (λ c. length z.servers * pair_words z c) z.clients

-- With one client and one server, and each setting 1, there are 165 words.
abbrev pub AllOnesTake165 : Type 0
AllOnesTake165 = total_words all_ones ≡ 165
