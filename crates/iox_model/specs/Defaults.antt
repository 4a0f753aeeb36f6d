-- A service where nobody chooses anything: its limits, shapes and handler.
use Rattle.std.specs.Prelude.{ℕ, true, List, [], ◌∷◌, Some}
use Rattle.iox_types.specs.FirstLimits.{first_clients, first_servers, first_nodes, first_active_requests, first_loaned_requests, first_response_buffer, first_borrowed_responses, first_loaned_responses, first_expired}
use Rattle.iox_types.specs.Parts.{part_of_words}
use Rattle.iox_types.specs.declared.backpressure.BackpressureStrategy.TheVariants as strategies
use Rattle.iox_types.specs.declared.backpressure.AllocationStrategy.TheVariants as allocations
use Rattle.iox_model.specs.declared.backpressure.BackpressureAction.{BackpressureAction}
use Rattle.iox_model.specs.declared.backpressure.BackpressureAction.TheVariants as actions
use Rattle.iox_model.specs.Settings.{Shape, Limits}

-- the shape of messages with any number of words as payload, a header of so many words and an empty
-- user header
abbrev pub words : ℕ → Shape
words header = record {
  many = true;
  width = 1;
  default = Some (0 ∷ []);
  user = [];
  header_part = part_of_words header;
  user_part = part_of_words 0;
  element_part = part_of_words 1;
}

-- the limits of a service where nobody sets others
abbrev pub defaults : Limits
defaults = record {
  clients = first_clients;
  servers = first_servers;
  nodes = first_nodes;
  active_requests = first_active_requests;
  loaned_requests = first_loaned_requests;
  response_buffer = first_response_buffer;
  borrowed_responses = first_borrowed_responses;
  loaned_responses = first_loaned_responses;
  client_expired = first_expired;
  server_expired = first_expired;
  request_overflow = true;
  response_overflow = true;
  fire_and_forget = true;
  client_strategy = strategies.RetryUntilDelivered;
  server_strategy = strategies.RetryUntilDelivered;
  client_allocation = allocations.Static;
  server_allocation = allocations.Static;
  request = words 7;
  response = words 6;
}

-- a backpressure handler that always follows the port's strategy
abbrev pub follow : List ℕ → ℕ → ℕ → BackpressureAction
follow words sender receiver = actions.FollowBackpressureStrategy
