-- What the fields of a map say of its plan.
use Rattle.std.specs.Prelude.{◌≡◌, ℕ, ◌+◌, ◌<◌, ◌^◌, length, slice_index_or}
use Rattle.iox_model.specs.declared.kind.Role.{Role}
use Rattle.iox_model.specs.declared.kind.Role.TheVariants.{Client, Server}
use Rattle.iox_types.specs.Layouts.{as_usize}
use Rattle.iox_word_map.specs.WordMaps.{total_words}
use Rattle.iox_word_places.specs.declared.plan.PlanLimits.{PlanLimits}
use Rattle.iox_word_places.specs.declared.plan.PlanPort.{PlanPort}
use Rattle.iox_word_places.specs.declared.plan.WirePlan.{WirePlan}
use Rattle.iox_word_places.specs.declared.word_map.PortPlaces.{PortPlaces}
use Rattle.iox_word_places.specs.declared.word_map.WordMap.TheInside.{Inside}
use Rattle.iox_word_places.specs.declared.way_sizes.QueueSizes.{QueueSizes}
use Rattle.iox_word_places.specs.declared.way_sizes.WaySizes.{WaySizes}
use Rattle.iox_word_places.specs.Plans.{IsPlan, message_words, most_ways, returning_room, returning_words, sizes_of}
use Rattle.iox_word_places.specs.PortSums.{planned_lane_words, region_words, client_words, server_count, regions_before, clients_before, servers_before}

-- what stands before the port at an index
abbrev pub places_before : WirePlan → ℕ → PortPlaces
places_before plan i = record {
  region = regions_before plan i;
  clients = clients_before plan i;
  servers = servers_before plan i;
}

-- what stands before the port behind this one
abbrev pub places_behind : PlanLimits → ℕ → PlanPort → PortPlaces → PortPlaces
places_behind limits servers p before = record {
  region = before.region + region_words p;
  clients = before.clients + client_words limits servers p;
  servers = before.servers + server_count p;
}

-- ---- sizes

-- a number of words, where a `usize` counts them
abbrev pub FitsUsize : ℕ → ℕ → Type 0
FitsUsize number words = words < 2 ^ 64 → number ≡ words

-- Those are the sizes of the queues of a sender's messages.
pub record AreQueueSizes (l : PlanLimits) (sender : Role) (s : QueueSizes) : Type 0 where
  pub waiting : FitsUsize s.waiting (message_words l sender)
  pub returning : FitsUsize s.returning (returning_words l sender)
  pub room : FitsUsize s.room (returning_room l sender)

-- the sizes of the queues of a sender of that role
abbrev pub sizes_in : WaySizes → Role → QueueSizes
sizes_in s Client = s.requests
sizes_in s Server = s.responses

-- Those are the sizes of all ways.
pub record AreWaySizes (l : PlanLimits) (s : WaySizes) : Type 0 where
  pub queues : (sender : Role) → AreQueueSizes l sender (sizes_in s sender)
  pub way : FitsUsize s.way (message_words l Client + returning_words l Client)
  pub lane : FitsUsize s.lane (planned_lane_words l)

-- ---- a map

-- the fields are those of a map of their plan
pub record IsMapOf (it : Inside) : Type 0 where
  pub plan : IsPlan it.plan
  pub fits : total_words (sizes_of it.plan) < 2 ^ 64
  pub total : it.total ≡ total_words (sizes_of it.plan)
  pub sizes : AreWaySizes it.plan.limits it.sizes
  pub regions : it.regions ≡ regions_before it.plan (length it.plan.ports.items)
  pub ways : it.ways ≡ as_usize (most_ways it.plan)
  pub count : length it.places.items ≡ length it.plan.ports.items
  pub places : (i : ℕ) (d : PortPlaces) → i < length it.plan.ports.items
      → slice_index_or it.places.items i d ≡ places_before it.plan i
