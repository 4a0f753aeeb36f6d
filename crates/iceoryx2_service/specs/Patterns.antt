-- The pattern of a configuration.
use Rattle.iox_names.specs.declared.messaging_pattern.MessagingPattern.{MessagingPattern as Kind}
use Rattle.iox_names.specs.declared.messaging_pattern.MessagingPattern.TheVariants as kinds
use Rattle.iceoryx2_service.specs.declared.static_config.messaging_pattern.MessagingPattern.{MessagingPattern}
use Rattle.iceoryx2_service.specs.declared.static_config.messaging_pattern.MessagingPattern.TheVariants as patterns

-- the messaging pattern of a configuration, without its settings
abbrev pub kind_of : MessagingPattern → Kind
kind_of (patterns.RequestResponse config) = kinds.RequestResponse
kind_of (patterns.PublishSubscribe config) = kinds.PublishSubscribe
kind_of (patterns.Event config) = kinds.Event
kind_of (patterns.Blackboard config) = kinds.Blackboard
