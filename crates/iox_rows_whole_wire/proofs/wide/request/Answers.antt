use Rattle.std.proofs.Common.{ap}
use Rattle.iox_rows_whole_wire.proofs.wide.request.Goals as goal

pub returns : goal.returns
returns c = record {
  header_size = ap (λ d. d.size) c.in_ok-new.ensures.made;
  header_alignment = ap (λ d. d.alignment) c.in_ok-new.ensures.made;
  user_size = ap (λ d. d.size) c.in_ok-from_parts.ensures.made;
  user_alignment = ap (λ d. d.alignment) c.in_ok-from_parts.ensures.made;
  payload_size = ap (λ d. d.size) c.in_ok-from_parts-2.ensures.made;
  payload_alignment = ap (λ d. d.alignment) c.in_ok-from_parts-2.ensures.made;
}
