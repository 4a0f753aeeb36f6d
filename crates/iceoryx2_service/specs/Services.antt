-- How a service is identified, and what it was made with.
use Rattle.std.specs.Prelude.{◌≡◌, ℕ, List}
use Rattle.iox_names.specs.declared.attribute.Attribute.{Attribute}
use Rattle.iox_names.specs.ServiceHashes.{service_hash}
use Rattle.iox_types.specs.declared.identifiers.system_id.UniqueSystemId.{UniqueSystemId}
use Rattle.iox_types.specs.declared.message_type_details.MessageTypeDetails.{MessageTypeDetails}
use Rattle.iceoryx2_service.specs.Patterns.{kind_of}
use Rattle.iceoryx2_service.specs.declared.service_settings.ServiceSettings.{ServiceSettings}
use Rattle.iceoryx2_service.specs.declared.static_config.messaging_pattern.MessagingPattern.{MessagingPattern}
use Rattle.iceoryx2_service.specs.declared.static_config.messaging_pattern.MessagingPattern.TheVariants.{RequestResponse}

-- what every node knows of a service
pub record ServiceDescription : Type 0 where
  pub service_hash : List ℕ
  pub unique_service_id : UniqueSystemId
  pub name : List ℕ
  pub messaging_pattern : MessagingPattern
  pub attributes : List Attribute

-- the service has that name, those attributes and that identifier, and the hash of its pattern and name
pub record IsDescribed (config : ServiceDescription) (name : List ℕ) (attributes : List Attribute)
    (id : UniqueSystemId) : Type 0 where
  pub named : config.name ≡ name
  pub says : config.attributes ≡ attributes
  pub made : config.unique_service_id ≡ id
  pub hashed : config.service_hash ≡ service_hash (kind_of config.messaging_pattern) name

-- a request-response service of those settings, for requests and responses of those types
abbrev pub requests_of : ServiceSettings → MessageTypeDetails → MessageTypeDetails → MessagingPattern
requests_of settings request response = RequestResponse (record {
  request = request;
  response = response;
  settings = settings.limits;
})
