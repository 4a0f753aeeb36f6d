-- The definitions, computed at examples.
use Rattle.std.proofs.Common.{◌≡◌, ◌*◌, refl, Some}
use Rattle.std.specs.Prelude.{codes}
use Rattle.hex.specs.Hex.{encode_with}
use Rattle.iox_types.specs.Identifiers.{id_text}
use Rattle.iox_types.specs.Details.{Detail}
use Rattle.iox_types.specs.declared.message_type_details.MessageTypeDetails.{MessageTypeDetails}
use Rattle.iox_types.specs.Layouts.{message_layout, message_size, user_header_place, payload_place}
use Rattle.iox_types.specs.declared.type_detail.TypeVariant.TheVariants.{FixedSize}

-- an identifier shows as its four numbers, eight digits each
id_text-example : id_text (record {
  process = 1;
  seconds = 2;
  nanoseconds = 3;
  counter =
      4;
}) ≡ codes "00000001000000020000000300000004"
unfolding encode_with
id_text-example = refl

-- three parts of i64
abbrev i64_detail : Detail
i64_detail = record { variant = FixedSize; name = codes "i64"; size = 8; alignment = 8 }

abbrev three_i64 : MessageTypeDetails
three_i64 = record { header = i64_detail; user_header = i64_detail; payload = i64_detail }

-- 8 + 8 + 7 + 16 + 7 are 46, rounded up
message_layout-example : message_layout three_i64 2 ≡ Some (record { size = 48; alignment = 8 })
message_layout-example = refl

-- the user header behind the header, the payload behind it
user_header_place-example : user_header_place three_i64 0 ≡ 8
user_header_place-example = refl

payload_place-example : payload_place three_i64 0 ≡ 16
payload_place-example = refl

-- message 21 of a pool of 22
last_place-example : 21 * message_size three_i64 2 ≡ 1008
last_place-example = refl

pool_size-example : 22 * message_size three_i64 2 ≡ 1056
pool_size-example = refl
