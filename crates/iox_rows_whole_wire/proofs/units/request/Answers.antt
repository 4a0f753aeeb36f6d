use Rattle.std.proofs.Common.{ap}
use Rattle.iox_rows_whole_wire.proofs.units.request.Goals as goal

pub returns : goal.returns
returns c =
    let d = c.in_ok-details.ensures in
    record {
      header_size = ap (λ d. d.size) d.header;
      header_alignment = ap (λ d. d.alignment) d.header;
      user_size = ap (λ d. d.size) d.user_header;
      user_alignment = ap (λ d. d.alignment) d.user_header;
      payload_size = ap (λ d. d.size) d.payload;
      payload_alignment = ap (λ d. d.alignment) d.payload;
    }
