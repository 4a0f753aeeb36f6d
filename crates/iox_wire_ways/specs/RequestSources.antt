-- What the receive of a server is told about its ways, as a plan tells it.
use Rattle.std.specs.Prelude.{◌≡◌, ◌+◌, ◌*◌, ◌<◌, ◌^◌, ℕ, Bool, if◌then◌else◌, List, []}
use Rattle.iox_model.specs.declared.kind.Role.TheVariants.{Client}
use Rattle.iox_word_map.specs.WordMaps.{MessageQueue, Region, lane_words, piece_place, total_words}
use Rattle.iox_wire_messages.specs.WirePlan.{WirePlan}
use Rattle.iox_wire_messages.specs.WayIndex.TheVariants.{Requests}
use Rattle.iox_wire_messages.specs.Plans.{IsLaneAt, IsPortAt, layout_of, message_kind, number_at, planned_buffer, planned_limit, returning_room, sizes_of, slot_words_of, way_at}
use Rattle.iox_wire_messages.specs.Programs.{site_of}
use Rattle.iox_wire_messages.specs.Stored.{header_length}
use Rattle.iox_wire_receives.specs.declared.source.Source.{Source}
use Rattle.iox_wire_receives.specs.declared.source.ReceiveTerms.{ReceiveTerms}
use Rattle.iox_wire_messages.specs.Seats.{node_at}
use Rattle.iox_wire_ways.specs.Visits.{pool_of}

-- Each client has a lane, the header of a request has its words, and a number counts the words of
-- the wire twice.
pub record HasRequestWays (plan : WirePlan) : Type 0 where
  pub lanes : (i : ℕ) → IsPortAt plan Client i → IsLaneAt plan i 0
  pub header : plan.request.header.size ≡ 8 * header_length Client
  pub memory : 2 * total_words (sizes_of plan) < 2 ^ 64

-- under fire-and-forget a receive visits all clients, else those of no forgotten node
abbrev pub passed_over : (fire_and_forget : Bool) → List ℕ → List ℕ
passed_over fire_and_forget forgot = if fire_and_forget then [] else forgot

-- what is the same of all clients
abbrev pub request_terms : WirePlan → (fire_and_forget : Bool) → (number : ℕ) → ReceiveTerms
request_terms plan fire_and_forget number = record {
  kind = message_kind plan.limits Client;
  capacity = planned_buffer plan.limits Client;
  back = (sizes_of plan).requests;
  room = returning_room plan.limits Client;
  state = (sizes_of plan).requests + (sizes_of plan).requests_returning
      + (sizes_of plan).responses + (sizes_of plan).responses_returning;
  lane_words = lane_words (sizes_of plan);
  limit = planned_limit plan.limits Client;
  fire_and_forget = fire_and_forget;
  number = number;
}

-- the way from the client at an index to the server at another
abbrev pub request_source : WirePlan → (server client : ℕ) → Source
request_source plan server client = record {
  way = way_at plan (Requests client server);
  node = node_at plan client;
  place = (site_of (layout_of plan) (MessageQueue (way_at plan (Requests client server)))).base;
  region = piece_place (sizes_of plan) (Region (number_at plan client));
  slots = pool_of plan (number_at plan client);
  slot_words = slot_words_of plan (number_at plan client);
  lanes = (sizes_of plan).lanes (number_at plan client);
}
