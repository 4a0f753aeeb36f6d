-- What the receive of a pending response is told about its ways, as a plan tells it.
use Rattle.std.specs.Prelude.{ℕ, Bool}
use Rattle.iox_model.specs.declared.kind.Role.TheVariants.{Server}
use Rattle.iox_word_map.specs.WordMaps.{MessageQueue, Region, piece_place}
use Rattle.iox_wire_messages.specs.WirePlan.{WirePlan}
use Rattle.iox_wire_messages.specs.WayIndex.TheVariants.{Responses}
use Rattle.iox_wire_messages.specs.Plans.{layout_of, message_kind, number_at, planned_buffer, planned_limit, returning_room, sizes_of, slot_words_of, way_at}
use Rattle.iox_wire_messages.specs.Programs.{site_of}
use Rattle.iox_wire_receives.specs.declared.source.Source.{Source}
use Rattle.iox_wire_receives.specs.declared.source.ReceiveTerms.{ReceiveTerms}
use Rattle.iox_wire_messages.specs.Seats.{node_at}
use Rattle.iox_wire_ways.specs.Visits.{pool_of}

-- what is the same of all servers: no request state is asked
abbrev pub response_terms : WirePlan → (fire_and_forget : Bool) → (number : ℕ) → ReceiveTerms
response_terms plan fire_and_forget number = record {
  kind = message_kind plan.limits Server;
  capacity = planned_buffer plan.limits Server;
  back = (sizes_of plan).responses;
  room = returning_room plan.limits Server;
  state = 0;
  lane_words = 0;
  limit = planned_limit plan.limits Server;
  fire_and_forget = fire_and_forget;
  number = number;
}

-- the way from the server at an index to a lane of the client at another
abbrev pub response_source : WirePlan → (client lane server : ℕ) → Source
response_source plan client lane server = record {
  way = way_at plan (Responses client server lane);
  node = node_at plan server;
  place =
      (site_of (layout_of plan) (MessageQueue (way_at plan (Responses client server lane)))).base;
  region = piece_place (sizes_of plan) (Region (number_at plan server));
  slots = pool_of plan (number_at plan server);
  slot_words = slot_words_of plan (number_at plan server);
  lanes = 0;
}
