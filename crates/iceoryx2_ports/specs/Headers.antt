-- The headers of requests and responses, as their handles tell them.
use Rattle.std.specs.Prelude.{ℕ, ◌%◌, ◌^◌, if◌then◌else◌, Result, Ok, Err}
use Rattle.iox_types.specs.Identifiers.{is_node_id}
use Rattle.iox_types.specs.declared.header.RequestHeader.{RequestHeader}
use Rattle.iox_types.specs.declared.header.ResponseHeader.{ResponseHeader}
use Rattle.iox_types.specs.declared.identifiers.node_id.UniqueNodeIdError.{UniqueNodeIdError}
use Rattle.iox_types.specs.declared.identifiers.node_id.UniqueNodeIdError.TheVariants.{InvalidNodeId}
use Rattle.iox_hub_laws.specs.MessageHeader.{MessageHeader}

-- a request as headers name it; ids of requests count modulo 2^62
abbrev pub request_id_of : MessageHeader → ℕ
request_id_of h = h.request % 2 ^ 62

-- the header of a request; there is none where the client's maker gave an id that no node has
abbrev pub request_header_of : MessageHeader → Result RequestHeader UniqueNodeIdError
request_header_of h =
    if is_node_id h.node_id
    then
    Ok (record {
      node_id = h.node_id;
      client_id = h.port_id;
      channel_id = h.lane;
      request_id = request_id_of h;
      number_of_elements = h.elements;
    })
    else Err InvalidNodeId

-- the header of a response; there is none where the server's maker gave an id that no node has
abbrev pub response_header_of : MessageHeader → Result ResponseHeader UniqueNodeIdError
response_header_of h =
    if is_node_id h.node_id
    then
    Ok (record {
      node_id = h.node_id;
      server_id = h.port_id;
      request_id = request_id_of h;
      number_of_elements = h.elements;
    })
    else Err InvalidNodeId
