-- Which messages are compatible, by the descriptions of their three parts.
use Rattle.std.specs.Int.{IsPowerOfTwo}
use Rattle.iox_types.specs.Details.{IsCompatible}
use Rattle.iox_types.specs.declared.message_type_details.MessageTypeDetails.{MessageTypeDetails}

-- each part of `mine` may stand where that of `theirs` does
pub record AreCompatible (mine theirs : MessageTypeDetails) : Type 0 where
  pub header : IsCompatible mine.header theirs.header
  pub user_header : IsCompatible mine.user_header theirs.user_header
  pub payload : IsCompatible mine.payload theirs.payload

-- all alignments are powers of two
pub record AreAligned (details : MessageTypeDetails) : Type 0 where
  pub header : IsPowerOfTwo details.header.alignment
  pub user_header : IsPowerOfTwo details.user_header.alignment
  pub payload : IsPowerOfTwo details.payload.alignment
