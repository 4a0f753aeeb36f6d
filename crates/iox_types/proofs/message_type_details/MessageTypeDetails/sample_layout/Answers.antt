use Rattle.std.proofs.Common.{◌≡◌, ◌≤◌, ◌^◌, arith}
use Rattle.iox_types.specs.Layouts.{message_bytes, message_size}
use Rattle.iox_types.proofs.LayoutLemmas.{IsPowerOfTwo-bound, LaysOut-message, told-some}
use Rattle.iox_types.proofs.message_type_details.MessageTypeDetails.sample_layout.Goals as goal

pub aligned_place-size-requires-clause-fits : goal.aligned_place-size-requires-clause-fits
aligned_place-size-requires-clause-fits c =
    let bound : c.alignment-alignment.result ≤ 2 ^ 63 = IsPowerOfTwo-bound c.alignment-alignment.result c.alignment-alignment.ensures.power (omega arith) in
    omega arith

pub returns-clause-lays_out : goal.returns-clause-lays_out
returns-clause-lays_out c =
    let bytes : c.in_ok-bytes.bytes ≡ message_bytes c.args.self.now c.args.number_of_elements = told-some _ _ c.in_ok-bytes.ensures.value in
    let alignment : c.alignment-alignment.result ≡ c.args.self.now.header.alignment = c.alignment-alignment.ensures.value in
    let size : c.aligned_place-size.result ≡ message_size c.args.self.now c.args.number_of_elements =
    rw (bytes, alignment) at c.aligned_place-size.ensures in
    rw size
    (LaysOut-message c.args.self.now c.args.number_of_elements (record {
      header = rw alignment at c.alignment-alignment.ensures.power;
      user_header = c.bytes.ensures.user_header;
      payload = c.bytes.ensures.payload;
    }))
