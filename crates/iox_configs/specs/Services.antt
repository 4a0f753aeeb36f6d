-- What a service was made with, by its messaging pattern: the types of its messages, and its settings.
use Rattle.iox_types.specs.Details.{Detail}
use Rattle.iox_types.specs.declared.message_type_details.MessageTypeDetails.{MessageTypeDetails}
use Rattle.iox_configs.specs.declared.config.patterns.RequestResonse.{RequestResonse}
use Rattle.iox_configs.specs.declared.config.patterns.PublishSubscribe.{PublishSubscribe}
use Rattle.iox_configs.specs.declared.config.patterns.Blackboard.{Blackboard}

-- a request-response service: what its requests and responses are, and its settings
pub record RequestResponseService : Type 0 where
  pub request : MessageTypeDetails
  pub response : MessageTypeDetails
  pub settings : RequestResonse

-- a publish-subscribe service: what its samples are, and its settings
pub record PublishSubscribeService : Type 0 where
  pub samples : MessageTypeDetails
  pub settings : PublishSubscribe

-- a blackboard service: what its keys are, and its settings
pub record BlackboardService : Type 0 where
  pub keys : Detail
  pub settings : Blackboard
