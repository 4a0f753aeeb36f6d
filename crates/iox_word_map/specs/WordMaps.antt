-- Where each piece of a wire stands among its words. First comes a region for each port. Then come,
-- for each client with each server, the queues of their ways and the request states.
use Rattle.std.specs.Prelude.{◌≡◌, ℕ, ◌+◌, ◌*◌, ◌⊎◌, ◌<◌, length, true, false, if◌then◌else◌, ◌==◌, List, [], ◌∷◌}
use Rattle.std.specs.List.{range_with_len}
use Rattle.iox_model.specs.declared.way.Way.{Way}
use Rattle.iox_model.specs.Maps.{has_number}
use Rattle.iox_word_map.specs.Stretches.{Stretch, Plain, Divided, sum_of, sum_before, stretch_size, part_at, place_at}

-- the ports of a wire by their numbers, ascending, and how many words each piece takes
pub record Sizes : Type 0 where
  pub ports : List ℕ
  pub clients : List ℕ
  pub servers : List ℕ
  -- how many words a port's region has, for all messages of its pool
  pub region : ℕ → ℕ
  -- how many lanes a client has
  pub lanes : ℕ → ℕ
  -- how many words a queue of requests has, and one that returns them
  pub requests : ℕ
  pub requests_returning : ℕ
  -- how many words a queue of responses has, and one that returns them
  pub responses : ℕ
  pub responses_returning : ℕ

-- a queue of a wire, by its way: messages wait in it, or return to their sender
pub data WireQueue : Type 0 where
  MessageQueue : (way : Way) → WireQueue
  ReturningQueue : (way : Way) → WireQueue

-- a piece of a wire: what stands together among its words
pub data Piece : Type 0 where
  -- the messages of a port
  Region : (port : ℕ) → Piece
  QueueWords : (queue : WireQueue) → Piece
  -- the request state on a way of responses
  StateWord : (way : Way) → Piece

-- ---- the words of a wire, from the parts to the whole

-- the words of a lane: the queue of responses, the one that returns them, and the request state
abbrev pub part_of_lane : Sizes → ℕ → Stretch
part_of_lane z k =
    if k == 0 then Plain z.responses
    else (if k == 1 then Plain z.responses_returning else Plain 1)

-- the words of requests: their queue, and the one that returns them
abbrev pub part_of_requests : Sizes → ℕ → Stretch
part_of_requests z k = if k == 0 then Plain z.requests else Plain z.requests_returning

-- one part of the words of a client with a server: part 0 has the queues of requests, part k + 1
-- has lane k
abbrev pub lane_stretch : Sizes → ℕ → Stretch
lane_stretch z l =
    if l == 0 then Divided (0 ∷ 1 ∷ []) (part_of_requests z)
    else Divided (0 ∷ 1 ∷ 2 ∷ []) (part_of_lane z)

-- the words of a client with a server: the two queues of requests, then each lane
abbrev pub pair_stretch : Sizes → ℕ → Stretch
pair_stretch z client = Divided (range_with_len 0 (z.lanes client + 1)) (lane_stretch z)

-- one half of the words: part 0 has the regions, part 1 the words of each client with each server
abbrev pub half_stretch : Sizes → ℕ → Stretch
half_stretch z k =
    if k == 0 then Divided z.ports (λ port. Plain (z.region port))
    else Divided z.clients (λ client. Divided z.servers (λ server. pair_stretch z client))

-- all words of a wire: the regions, then those of clients with servers
abbrev pub wire_stretch : Sizes → Stretch
wire_stretch z = Divided (0 ∷ 1 ∷ []) (half_stretch z)

-- ---- where each piece stands

-- the way goes from a client to a server, on lane 0
abbrev pub IsRequestWay : Sizes → Way → Type 0
IsRequestWay z w = (has_number w.sender z.clients ≡ true)
    × (has_number w.receiver z.servers ≡ true) × (w.lane ≡ 0)

-- the way goes from a server to a client, on one of the client's lanes
abbrev pub IsResponseWay : Sizes → Way → Type 0
IsResponseWay z w = (has_number w.sender z.clients ≡ false)
    × (has_number w.sender z.servers ≡ true)
    × (has_number w.receiver z.clients ≡ true) × (w.lane < z.lanes w.receiver)

-- the way is one of the wire's, between a client and a server
abbrev pub IsWay : Sizes → Way → Type 0
IsWay z w = IsRequestWay z w ⊎ IsResponseWay z w

-- this queue is one of the wire's
abbrev pub IsQueue : Sizes → WireQueue → Type 0
IsQueue z (MessageQueue way) = IsWay z way
IsQueue z (ReturningQueue way) = IsWay z way

-- this piece is one of the wire's
abbrev pub IsPiece : Sizes → Piece → Type 0
IsPiece z (Region port) = has_number port z.ports ≡ true
IsPiece z (QueueWords queue) = IsQueue z queue
IsPiece z (StateWord way) = IsResponseWay z way

-- the path to the part of that number on a way
abbrev pub way_path : Sizes → Way → ℕ → List ℕ
way_path z w k =
    if has_number w.sender z.clients then 1 ∷ w.sender ∷ w.receiver ∷ 0 ∷ k ∷ []
    else 1 ∷ w.receiver ∷ w.sender ∷ (w.lane + 1) ∷ k ∷ []

-- the path to a piece
abbrev pub path_of : Sizes → Piece → List ℕ
path_of z (Region port) = 0 ∷ port ∷ []
path_of z (QueueWords (MessageQueue way)) = way_path z way 0
path_of z (QueueWords (ReturningQueue way)) = way_path z way 1
path_of z (StateWord way) = way_path z way 2

-- the place of a piece's first word
abbrev pub piece_place : Sizes → Piece → ℕ
piece_place z x = place_at (wire_stretch z) (path_of z x)

-- how many words a piece has
abbrev pub piece_size : Sizes → Piece → ℕ
piece_size z x = stretch_size (part_at (wire_stretch z) (path_of z x))

-- how many words a wire has
abbrev pub total_words : Sizes → ℕ
total_words z = stretch_size (wire_stretch z)

-- ---- the same places as sums and products

-- how many names stand before this one
abbrev pub index_of : ℕ → List ℕ → ℕ
index_of k [] = 0
index_of k (j ∷ js) = if j == k then 0 else index_of k js + 1

-- how many words a lane has
abbrev pub lane_words : Sizes → ℕ
lane_words z = z.responses + z.responses_returning + 1

-- how many words a client has with one server
abbrev pub pair_words : Sizes → ℕ → ℕ
pair_words z client = z.requests + z.requests_returning + z.lanes client * lane_words z

-- where the words of a client begin, behind all regions and all clients before it
abbrev pub client_place : Sizes → ℕ → ℕ
client_place z client = sum_of z.region z.ports
    + sum_before (λ c. length z.servers * pair_words z c) client z.clients

-- where the words of a client with this server begin
abbrev pub pair_place : Sizes → ℕ → ℕ → ℕ
pair_place z client server =
    client_place z client + index_of server z.servers * pair_words z client

-- where a lane of a client with this server begins
abbrev pub lane_place : Sizes → ℕ → ℕ → ℕ → ℕ
lane_place z client server lane =
    pair_place z client server + z.requests + z.requests_returning + lane * lane_words z

-- ---- a worked wire

-- client 0 and server 1 where each setting is 1: the client lends 4 requests of 10 words, the server
-- 9 responses of 9 words
abbrev pub all_ones : Sizes
all_ones = record {
  ports = 0 ∷ 1 ∷ [];
  clients = 0 ∷ [];
  servers = 1 ∷ [];
  region = λ port. if port == 0 then 40 else 81;
  lanes = λ client. 4;
  requests = 3;
  requests_returning = 5;
  responses = 3;
  responses_returning = 5;
}
