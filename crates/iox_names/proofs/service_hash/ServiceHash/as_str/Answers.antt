use Rattle.std.proofs.lemmas.Str.{IsUtf8-from_ascii}
use Rattle.iox_names.proofs.service_hash.ServiceHash.as_str.Goals as goal

pub unreachable-requires : goal.unreachable-requires
unreachable-requires c = c.in-Err.ensures.cases.0 (IsUtf8-from_ascii _ c.self.invariant.ascii)
