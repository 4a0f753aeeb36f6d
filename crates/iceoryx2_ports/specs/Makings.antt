-- What typed ports are made with, what their makings answer, and what the ports are then.
use Rattle.std.specs.Prelude.{◌≡◌, ℕ, not, if◌then◌else◌, Option, None, Some, Result, Ok, Err}
use Rattle.std.specs.Option.{option_map}
use Rattle.iox_laws.specs.AllocationStrategy.{AllocationStrategy}
use Rattle.iox_laws.specs.BackpressureStrategy.{BackpressureStrategy}
use Rattle.iox_model.specs.declared.reply.Refusal.TheVariants as refusals
use Rattle.iox_model.specs.declared.reply.Reply.TheVariants as replies
use Rattle.iox_model.specs.Commands.{Reply}
use Rattle.iox_model.specs.Peers.{port_at}
use Rattle.iox_model.specs.Settings.{Shape, is_static}
use Rattle.iox_model.specs.States.{Port}
use Rattle.iox_hub_laws.specs.Hubs.{HubState}
use Rattle.iox_hub_laws.specs.Shown.{shown}
use Rattle.iox_hub_laws.specs.Options.{Options}
use Rattle.iceoryx2_ports.specs.declared.client.Client.{Client}
use Rattle.iceoryx2_ports.specs.declared.server.Server.{Server}
use Rattle.iceoryx2_ports.specs.declared.errors.ClientCreateError.{ClientCreateError}
use Rattle.iceoryx2_ports.specs.declared.errors.ClientCreateError.TheVariants as clients
use Rattle.iceoryx2_ports.specs.declared.errors.ServerCreateError.{ServerCreateError}
use Rattle.iceoryx2_ports.specs.declared.errors.ServerCreateError.TheVariants as servers

-- what a port is made with where its maker says nothing: messages of one element, and the service's
-- settings
abbrev pub first_options : Options
first_options = record {
  max_slice_len = 1;
  pool = None;
  strategy = None;
  allocation = None;
  loaned_responses = None;
}

-- what the making of a client answers; no want of a policy for threads is ever answered
abbrev pub reply_of_client : {Q QH P PH : Type 0} → Result (Client Q QH P PH) ClientCreateError → Reply
reply_of_client (Ok client) = replies.Client client.number
reply_of_client (Err clients.UnableToCreateDataSegment) = replies.Refused refusals.UnableToCreateDataSegment
reply_of_client (Err clients.ExceedsMaxSupportedClients) = replies.Refused refusals.ExceedsMaxSupportedClients
reply_of_client (Err clients.UnableToCreatePortTag) = replies.Refused refusals.UnableToCreatePortTag
reply_of_client (Err clients.FailedToDeployThreadsafetyPolicy) = replies.Nothing

-- what the making of a server answers; no want of a policy for threads is ever answered
abbrev pub reply_of_server : {Q QH P PH : Type 0} → Result (Server Q QH P PH) ServerCreateError → Reply
reply_of_server (Ok server) = replies.Server server.number
reply_of_server (Err servers.UnableToCreateDataSegment) = replies.Refused refusals.UnableToCreateDataSegment
reply_of_server (Err servers.ExceedsMaxSupportedServers) = replies.Refused refusals.ExceedsMaxSupportedServers
reply_of_server (Err servers.UnableToCreatePortTag) = replies.Refused refusals.UnableToCreatePortTag
reply_of_server (Err servers.FailedToDeployThreadsafetyPolicy) = replies.Nothing

-- the connected port of that number, as the machine has it
abbrev pub port_shown : HubState → ℕ → Option Port
port_shown h n = port_at (shown h).fixed n

-- The port of that number is connected, and is as its maker asked: how long its messages of this
-- shape may be, whether they grow, and what it does at a full receiver.
pub record IsMadeAs (h : HubState) (n : ℕ) (shape : Shape) (o : Options) : Type 0 where
  pub longest :
      option_map (λ p. p.longest) (port_shown h n)
      ≡ Some (if shape.many then o.max_slice_len else 1)
  pub grows :
      (strategy : AllocationStrategy) → o.allocation ≡ Some strategy
      → option_map (λ p. p.grows) (port_shown h n) ≡ Some (not (is_static strategy))
  pub strategy :
      (strategy : BackpressureStrategy) → o.strategy ≡ Some strategy
      → option_map (λ p. p.strategy) (port_shown h n) ≡ Some strategy
