use Rattle.iox_names.proofs.HashLemmas.{IsAscii-encode_lower}
use Rattle.iox_names.proofs.service_hash.ServiceHash.new.Goals as goal

pub invariant_of-result : goal.invariant_of-result
invariant_of-result c = record {
  sized = c.encode_to_slice.auto.output;
  ascii = rw c.in-Ok.ensures.written (IsAscii-encode_lower _);
}
