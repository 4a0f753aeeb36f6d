-- What the send of a request is told about its servers, as a plan tells it.
use Rattle.std.specs.Prelude.{◌≡◌, ◌+◌, ◌*◌, ℕ}
use Rattle.iox_model.specs.declared.kind.Role.TheVariants.{Client}
use Rattle.iox_word_map.specs.WordMaps.{MessageQueue, lane_words}
use Rattle.iox_wire_messages.specs.WirePlan.{WirePlan}
use Rattle.iox_wire_messages.specs.WayIndex.TheVariants.{Requests}
use Rattle.iox_wire_messages.specs.Plans.{layout_of, message_kind, number_at, planned_buffer, returning_room, sizes_of, way_at}
use Rattle.iox_wire_messages.specs.Programs.{site_of}
use Rattle.iox_wire_copies.specs.RequestTerms.{RequestTerms}
use Rattle.iox_wire_copies.specs.Target.{Target}

-- what is the same of all servers, for a loan on that lane; the rest is told elsewhere
abbrev pub target_terms : WirePlan → (lane : ℕ) → RequestTerms → RequestTerms
target_terms plan lane t = record t {
  kind = message_kind plan.limits Client;
  capacity = planned_buffer plan.limits Client;
  back = (sizes_of plan).requests;
  room = returning_room plan.limits Client;
  state = (sizes_of plan).requests + (sizes_of plan).requests_returning
      + lane * lane_words (sizes_of plan)
      + (sizes_of plan).responses + (sizes_of plan).responses_returning;
}

-- the server at an index, for the client at another
abbrev pub target_of : WirePlan → (client server : ℕ) → Target
target_of plan client server = record {
  server = number_at plan server;
  place = (site_of (layout_of plan) (MessageQueue (way_at plan (Requests client server)))).base;
}

-- What is known about a send elsewhere stays: whether a full queue gives up its oldest message, whether
-- the send fails at a full server, and how many pending responses there may be.
pub record KeepsTerms (old new : RequestTerms) : Type 0 where
  pub overflow : new.overflow ≡ old.overflow
  pub fails : new.fails ≡ old.fails
  pub active : new.active ≡ old.active
