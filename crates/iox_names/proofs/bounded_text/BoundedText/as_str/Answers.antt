use Rattle.iox_names.proofs.TextLemmas.{IsUtf8-text}
use Rattle.iox_names.proofs.bounded_text.BoundedText.as_str.Goals as goal

pub unreachable-requires : goal.unreachable-requires
unreachable-requires g c = c.in-Err.ensures.cases.0 (IsUtf8-text _ c.as_bytes.ensures.text.text)
