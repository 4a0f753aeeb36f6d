-- What is registered with a service beside its nodes: its ports, by its messaging pattern.
use Rattle.iox_registry.specs.declared.details.ClientDetails.{ClientDetails}
use Rattle.iox_registry.specs.declared.details.ServerDetails.{ServerDetails}
use Rattle.iox_registry.specs.declared.details.PublisherDetails.{PublisherDetails}
use Rattle.iox_registry.specs.declared.details.SubscriberDetails.{SubscriberDetails}
use Rattle.iox_registry.specs.declared.details.NotifierDetails.{NotifierDetails}
use Rattle.iox_registry.specs.declared.details.ListenerDetails.{ListenerDetails}
use Rattle.iox_registry.specs.declared.details.ReaderDetails.{ReaderDetails}
use Rattle.iox_registry.specs.declared.details.WriterDetails.{WriterDetails}
use Rattle.iox_registry.specs.Registers.{Registrations}

-- the ports of a request-response service
pub record RequestResponsePorts : Type 0 where
  pub clients : Registrations ClientDetails
  pub servers : Registrations ServerDetails

-- the ports of a publish-subscribe service
pub record PublishSubscribePorts : Type 0 where
  pub publishers : Registrations PublisherDetails
  pub subscribers : Registrations SubscriberDetails

-- the ports of an event service
pub record EventPorts : Type 0 where
  pub notifiers : Registrations NotifierDetails
  pub listeners : Registrations ListenerDetails

-- the ports of a blackboard service
pub record BlackboardPorts : Type 0 where
  pub readers : Registrations ReaderDetails
  pub writers : Registrations WriterDetails
