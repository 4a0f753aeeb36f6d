use Rattle.std.proofs.Common.{◌≡◌, ◌∙◌, ap}
use Rattle.std.specs.Int.{w128, to_be_bytes}
use Rattle.hex.specs.Hex.{encode_lower}
use Rattle.iox_types.specs.Identifiers.{id_text}
use Rattle.iox_types.proofs.IdTextLemmas.{IsUtf8-encode_lower}
use Rattle.iox_types.proofs.identifiers.system_id.UniqueSystemIdDisplay.fmt.Goals as goal

pub unreachable-requires-in_default-from_utf8 : goal.unreachable-requires-in_default-from_utf8
unreachable-requires-in_default-from_utf8 g c =
    c.in_default-from_utf8.ensures.cases.0 (rw (c.in-Ok.ensures.written) (IsUtf8-encode_lower c.to_be_bytes.result))

pub returns-clause-writes : goal.returns-clause-writes
returns-clause-writes g c = λ plain ok.
    let shown : c.in-Ok-from_utf8.text.now ≡ id_text c.args.self.now =
    c.in-Ok-from_utf8.ensures.cases.0 ∙ c.in-Ok.ensures.written ∙ ap encode_lower (c.to_be_bytes.ensures ∙ ap (to_be_bytes w128) c.value.ensures) in
    rw shown at (c.write_str.ensures.writes plain ok)
