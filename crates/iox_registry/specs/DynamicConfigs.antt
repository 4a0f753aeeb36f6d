-- All that is registered with one service: its nodes, and the ports of its messaging pattern.
use Rattle.std.specs.Prelude.{ℕ, Option, if◌then◌else◌, is_none}
use Rattle.iox_types.specs.declared.identifiers.system_id.UniqueSystemId.{UniqueSystemId}
use Rattle.iox_registry.specs.declared.dynamic_config.messaging_pattern.MessagingPattern.{MessagingPattern}
use Rattle.iox_registry.specs.declared.dynamic_config.messaging_pattern.MessagingPattern.TheVariants.{RequestResponse, PublishSubscribe, Event, Blackboard}
use Rattle.iox_registry.specs.declared.refusals.RegistryNewError.{RegistryNewError}
use Rattle.iox_registry.specs.declared.roles.Role.TheVariants.{Client, Server, Publisher, Subscriber, Notifier, Listener, Reader, Writer}
use Rattle.iox_registry.specs.Registers.{limit_refusal, new_register, recovered}

-- ---- new registers of ports, by the number of the service and the most of each kind

-- of a request-response service: its clients and servers
abbrev pub new_requests : ℕ → ℕ → ℕ → MessagingPattern
new_requests service clients servers = RequestResponse (record {
  clients = new_register service Client clients;
  servers = new_register service Server servers;
})

-- of a publish-subscribe service: its publishers and subscribers
abbrev pub new_samples : ℕ → ℕ → ℕ → MessagingPattern
new_samples service publishers subscribers = PublishSubscribe (record {
  publishers = new_register service Publisher publishers;
  subscribers = new_register service Subscriber subscribers;
})

-- of an event service: its notifiers and listeners
abbrev pub new_events : ℕ → ℕ → ℕ → MessagingPattern
new_events service notifiers listeners = Event (record {
  notifiers = new_register service Notifier notifiers;
  listeners = new_register service Listener listeners;
})

-- a blackboard has one writer at most
abbrev pub new_board : ℕ → ℕ → MessagingPattern
new_board service readers = Blackboard (record {
  readers = new_register service Reader readers;
  writers = new_register service Writer 1;
})

-- why nothing is made: by the limit of nodes, and else by those of ports
abbrev pub config_refusal : ℕ → Option RegistryNewError → Option RegistryNewError
config_refusal nodes ports = if is_none (limit_refusal nodes) then ports else limit_refusal nodes

-- ---- a node goes

-- all ports of a node are gone, and no other
abbrev pub without_ports : UniqueSystemId → MessagingPattern → MessagingPattern
without_ports id (RequestResponse ports) = RequestResponse (record {
  clients = recovered (λ d. d.node_id) id ports.clients;
  servers = recovered (λ d. d.node_id) id ports.servers;
})
without_ports id (PublishSubscribe ports) = PublishSubscribe (record {
  publishers = recovered (λ d. d.node_id) id ports.publishers;
  subscribers = recovered (λ d. d.node_id) id ports.subscribers;
})
without_ports id (Event ports) = Event (record {
  notifiers = recovered (λ d. d.node_id) id ports.notifiers;
  listeners = recovered (λ d. d.node_id) id ports.listeners;
})
without_ports id (Blackboard ports) = Blackboard (record {
  readers = recovered (λ d. d.node_id) id ports.readers;
  writers = recovered (λ d. d.node_id) id ports.writers;
})
