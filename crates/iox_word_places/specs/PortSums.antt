-- Sums over the ports of a plan: how many words there are for the sake of each.
use Rattle.std.specs.Prelude.{ℕ, ◌+◌, ◌*◌, if◌then◌else◌, take, length}
use Rattle.std.specs.List.{sum_by}
use Rattle.iox_model.specs.declared.kind.Role.TheVariants.{Client, Server}
use Rattle.iox_model.specs.Settings.{is_client, same_role}
use Rattle.iox_word_places.specs.declared.plan.PlanLimits.{PlanLimits}
use Rattle.iox_word_places.specs.declared.plan.PlanPort.{PlanPort}
use Rattle.iox_word_places.specs.declared.plan.WirePlan.{WirePlan}
use Rattle.iox_word_map.specs.WordMaps.{pair_place, lane_place}
use Rattle.iox_word_places.specs.declared.way_index.WayIndex.{WayIndex}
use Rattle.iox_word_places.specs.declared.way_index.WayIndex.TheVariants.{Requests, Responses}
use Rattle.iox_word_places.specs.Plans.{message_words, returning_words, numbers_of, number_at, sizes_of}

-- of a lane
abbrev pub planned_lane_words : PlanLimits → ℕ
planned_lane_words l = message_words l Server + returning_words l Server + 1

-- of a client of so many lanes with one server
abbrev pub planned_pair_words : PlanLimits → ℕ → ℕ
planned_pair_words l lanes =
    message_words l Client + returning_words l Client + lanes * planned_lane_words l

-- of a port's region
abbrev pub region_words : PlanPort → ℕ
region_words p = p.pool * p.slot_words

-- of a client with so many servers
abbrev pub client_words : PlanLimits → ℕ → PlanPort → ℕ
client_words l servers p = if is_client p.role then servers * planned_pair_words l p.pool else 0

-- one for each server
abbrev pub server_count : PlanPort → ℕ
server_count p = if same_role p.role Server then 1 else 0

-- the regions of the first ports
abbrev pub regions_before : WirePlan → ℕ → ℕ
regions_before plan i = sum_by region_words (take i plan.ports.items)

-- what stands between servers and the clients among the first ports
abbrev pub clients_before : WirePlan → ℕ → ℕ
clients_before plan i =
    sum_by (client_words plan.limits (length (numbers_of plan Server))) (take i plan.ports.items)

-- the servers among the first ports
abbrev pub servers_before : WirePlan → ℕ → ℕ
servers_before plan i = sum_by server_count (take i plan.ports.items)

-- ---- ways

-- where the words of a way begin
abbrev pub way_start : WirePlan → WayIndex → ℕ
way_start plan (Requests client server) =
    pair_place (sizes_of plan) (number_at plan client) (number_at plan server)
way_start plan (Responses client server lane) =
    lane_place (sizes_of plan) (number_at plan client) (number_at plan server) lane

-- how many words its two queues have, and the request state
abbrev pub way_size : WirePlan → WayIndex → ℕ
way_size plan (Requests client server) =
    message_words plan.limits Client + returning_words plan.limits Client
way_size plan (Responses client server lane) = planned_lane_words plan.limits
