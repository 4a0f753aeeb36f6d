-- A plan of a wire, as the layout that it describes.
use Rattle.std.specs.Prelude.{◌≡◌, ℕ, ◌+◌, ◌*◌, ◌<◌, Bool, if◌then◌else◌, ◌==◌, List, map, filter, Option, IsSomeAnd, slice_get, slice_index}
use Rattle.std.specs.List.{find, All, sum_by}
use Rattle.std.specs.Option.{option_map_or}
use Rattle.iox_model.specs.declared.kind.Role.{Role}
use Rattle.iox_model.specs.declared.kind.Role.TheVariants.{Client, Server}
use Rattle.iox_model.specs.declared.way.Way.{Way}
use Rattle.iox_model.specs.Maps.{AreDistinct}
use Rattle.iox_model.specs.Messages.{request_way, response_way}
use Rattle.iox_model.specs.Settings.{same_role}
use Rattle.iox_steps.specs.declared.site.QueueKind.{QueueKind}
use Rattle.iox_steps.specs.declared.site.QueueKind.TheVariants.{Index, Overflowing}
use Rattle.iox_steps.specs.Sites.{cells_of}
use Rattle.iox_types.specs.declared.message_type_details.MessageTypeDetails.{MessageTypeDetails}
use Rattle.iox_word_map.specs.MessageWords.{slot_place, part_place, IsInWords, IsSlotFor}
use Rattle.iox_word_map.specs.declared.message_part.MessagePart.{MessagePart}
use Rattle.iox_word_map.specs.WordMaps.{Sizes, WireQueue, MessageQueue, ReturningQueue}
use Rattle.iox_wire_words.specs.Programs.{WireLayout, word_place}
use Rattle.iox_word_places.specs.declared.plan.PlanLimits.{PlanLimits}
use Rattle.iox_word_places.specs.declared.plan.PlanPort.{PlanPort}
use Rattle.iox_word_places.specs.declared.plan.WirePlan.{WirePlan}
use Rattle.iox_word_places.specs.declared.way_index.WayIndex.{WayIndex}
use Rattle.iox_word_places.specs.declared.way_index.WayIndex.TheVariants.{Requests, Responses}

-- ---- limits: of the messages that a role sends

-- the most that may wait for one receiver, on one lane
abbrev pub planned_buffer : PlanLimits → Role → ℕ
planned_buffer l Client = l.active_requests
planned_buffer l Server = l.response_buffer

-- the most that one receiver may have, of one lane
abbrev pub planned_limit : PlanLimits → Role → ℕ
planned_limit l Client = l.active_requests
planned_limit l Server = l.borrowed_responses

-- whether a full queue gives up its oldest message
abbrev pub planned_overflow : PlanLimits → Role → Bool
planned_overflow l Client = l.request_overflow
planned_overflow l Server = l.response_overflow

-- the kind of their queues
abbrev pub message_kind : PlanLimits → Role → QueueKind
message_kind l sender = if planned_overflow l sender then Overflowing else Index

-- how many may return: all that wait, all that the receiver has, and one that is in hand
abbrev pub returning_room : PlanLimits → Role → ℕ
returning_room l sender = planned_buffer l sender + planned_limit l sender + 1

-- the words of a queue: its two positions and its cells
abbrev pub message_words : PlanLimits → Role → ℕ
message_words l sender = 2 + cells_of (message_kind l sender) (planned_buffer l sender)

-- and of one that returns them
abbrev pub returning_words : PlanLimits → Role → ℕ
returning_words l sender = 2 + cells_of Index (returning_room l sender)

-- ---- ports

-- what the messages of a sender of that role are made of
abbrev pub details_of : WirePlan → Role → MessageTypeDetails
details_of plan Client = plan.request
details_of plan Server = plan.response

-- the numbers of all ports, in the plan's order
abbrev pub port_numbers : WirePlan → List ℕ
port_numbers plan = map (λ p. p.number) plan.ports.items

-- and of those of a role
abbrev pub numbers_of : WirePlan → Role → List ℕ
numbers_of plan role = map (λ p. p.number) (filter (λ p. same_role p.role role) plan.ports.items)

-- the port of that number
abbrev pub port_of : WirePlan → ℕ → Option PlanPort
port_of plan n = find (λ p. p.number == n) plan.ports.items

-- its role
abbrev pub role_of : WirePlan → ℕ → Role
role_of plan n = option_map_or (λ p. p.role) (port_of plan n) Client

-- one way for the port, and one for each message of its pool
abbrev pub port_ways : PlanPort → ℕ
port_ways p = p.pool + 1

-- no call visits more ways
abbrev pub most_ways : WirePlan → ℕ
most_ways plan = sum_by port_ways plan.ports.items

-- ---- the layout

-- how many words each thing takes
abbrev pub sizes_of : WirePlan → Sizes
sizes_of plan = record {
  ports = port_numbers plan;
  clients = numbers_of plan Client;
  servers = numbers_of plan Server;
  region = λ n. option_map_or (λ p. p.pool * p.slot_words) (port_of plan n) 0;
  lanes = λ n. option_map_or (λ p. p.pool) (port_of plan n) 0;
  requests = message_words plan.limits Client;
  requests_returning = returning_words plan.limits Client;
  responses = message_words plan.limits Server;
  responses_returning = returning_words plan.limits Server;
}

-- a queue's kind: queues of messages may overflow, those that return them never do
abbrev pub kind_of : WirePlan → WireQueue → QueueKind
kind_of plan (MessageQueue way) = message_kind plan.limits (role_of plan way.sender)
kind_of plan (ReturningQueue way) = Index

-- how many messages a queue has room for
abbrev pub capacity_of : WirePlan → WireQueue → ℕ
capacity_of plan (MessageQueue way) = planned_buffer plan.limits (role_of plan way.sender)
capacity_of plan (ReturningQueue way) = returning_room plan.limits (role_of plan way.sender)

-- the layout that a plan describes
abbrev pub layout_of : WirePlan → WireLayout
layout_of plan = record {
  sizes = sizes_of plan;
  kind = kind_of plan;
  capacity = capacity_of plan;
  owner = λ n. option_map_or (λ p. p.node) (port_of plan n) 0;
}

-- the words of a slot of a port
abbrev pub slot_words_of : WirePlan → ℕ → ℕ
slot_words_of plan n = option_map_or (λ p. p.slot_words) (port_of plan n) 0

-- where a slot of a port begins
abbrev pub slot_start : WirePlan → ℕ → ℕ → ℕ
slot_start plan n slot = word_place (layout_of plan) n (slot_place (slot_words_of plan n) slot)

-- where a part of the message in a slot begins
abbrev pub part_start : WirePlan → ℕ → ℕ → MessagePart → ℕ
part_start plan n slot part =
    word_place (layout_of plan) n
    (part_place (details_of plan (role_of plan n)) (slot_words_of plan n) slot part)

-- the slots of a port are for its messages
abbrev pub HasSlots : WirePlan → PlanPort → Type 0
HasSlots plan p = IsSlotFor (details_of plan p.role) p.longest p.slot_words

-- A plan of which a map can be made.
pub record IsPlan (plan : WirePlan) : Type 0 where
  -- no two ports have one number
  pub numbers : AreDistinct (port_numbers plan)
  pub requests : IsInWords plan.request
  pub responses : IsInWords plan.response
  pub slots : All (HasSlots plan) plan.ports.items

-- ---- by the place in the list of ports

-- the number of the port there
abbrev pub number_at : WirePlan → ℕ → ℕ
number_at plan i = slice_index (port_numbers plan) i

-- a port of that role stands there
abbrev pub IsPortAt : WirePlan → Role → ℕ → Type 0
IsPortAt plan role i = IsSomeAnd (slice_get plan.ports.items i) (λ p. p.role ≡ role)

-- a client stands there, and it has this lane
abbrev pub IsLaneAt : WirePlan → ℕ → ℕ → Type 0
IsLaneAt plan i lane =
    IsSomeAnd (slice_get plan.ports.items i) (λ p. (p.role ≡ Client) × (lane < p.pool))

-- a port with this slot stands there
abbrev pub IsSlotAt : WirePlan → ℕ → ℕ → Type 0
IsSlotAt plan i slot = IsSomeAnd (slice_get plan.ports.items i) (λ p. slot < p.pool)

-- the role of a way's sender
abbrev pub sender_of : WayIndex → Role
sender_of (Requests client server) = Client
sender_of (Responses client server lane) = Server

-- the way between the ports at these indexes
abbrev pub way_at : WirePlan → WayIndex → Way
way_at plan (Requests client server) = request_way (number_at plan client) (number_at plan server)
way_at plan (Responses client server lane) =
    response_way (number_at plan client) lane (number_at plan server)

-- the wire has this way
abbrev pub IsWayAt : WirePlan → WayIndex → Type 0
IsWayAt plan (Requests client server) = IsPortAt plan Client client × IsPortAt plan Server server
IsWayAt plan (Responses client server lane) =
    IsLaneAt plan client lane × IsPortAt plan Server server
