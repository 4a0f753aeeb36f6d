-- The messages of a service's own types: how they are described, and what they are made of.
use Rattle.std.specs.Prelude.{Bool, true, false, Some}
use Rattle.iox_types.specs.Details.{Detail, detail}
use Rattle.iox_types.specs.declared.message_type_details.MessageTypeDetails.{MessageTypeDetails}
use Rattle.iox_types.specs.declared.type_detail.TypeVariant.{TypeVariant}
use Rattle.iox_types.specs.declared.type_detail.TypeVariant.TheVariants.{Dynamic, FixedSize}
use Rattle.std.specs.Prelude.{codes}
use Rattle.iox_service_laws.specs.Shapes.{message_of, words_part}
use Rattle.iox_service_laws.specs.MessageShape.{MessageShape}
use Rattle.iox_service_laws.specs.Part.{Part}
use Rattle.iox_openers.specs.declared.message_types.MessageTypes.{MessageTypes}
use Rattle.iceoryx2_wire.specs.declared.defaults.Defaults.{Defaults}

-- ---- descriptions

-- whether a message has several elements or one, as a description says it
abbrev pub variant_of : Bool → TypeVariant
variant_of true = Dynamic
variant_of false = FixedSize

-- a message with this header, this user header and these elements
abbrev pub message : Detail → Detail → Detail → MessageTypeDetails
message header user element =
    record { header = header; user_header = user; payload = element }

-- the header of a request
abbrev pub request_header : Detail
request_header = detail FixedSize (codes "RequestHeader") 56 8

-- the header of a response
abbrev pub response_header : Detail
response_header = detail FixedSize (codes "ResponseHeader") 48 8

-- messages of a service, where requests and responses have these user headers and elements
abbrev pub message_types : (request_user request response_user response : Detail) → MessageTypes
message_types request_user request response_user response = record {
  request = message request_header request_user request;
  response = message response_header response_user response;
}

-- ---- shapes

-- what a value of a described type is in memory
abbrev pub part_of : Detail → Part
part_of d = record { size = d.size; alignment = d.alignment }

-- a request with this user header and these elements, that holds these defaults at first
abbrev pub request_shape : {E H : Type 0} → Detail → Detail → Defaults E H → MessageShape E H
request_shape user element d =
    message_of (Some d.element) d.user_header (words_part 7) (part_of user) (part_of element)

-- such a response
abbrev pub response_shape : {E H : Type 0} → Detail → Detail → Defaults E H → MessageShape E H
response_shape user element d =
    message_of (Some d.element) d.user_header (words_part 6) (part_of user) (part_of element)
