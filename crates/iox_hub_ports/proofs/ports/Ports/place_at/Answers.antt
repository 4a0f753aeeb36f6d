use Rattle.std.proofs.Common.{sym}
use Rattle.iox_hub_ports.proofs.ports.Ports.place_at.Goals as goal

pub returns-then-is_near-clause-first : goal.returns-then-is_near-clause-first
returns-then-is_near-clause-first c = sym (c.is_near.ensures.place.0 c.if-is_near.true)

pub returns-then-is_near-clause-within : goal.returns-then-is_near-clause-within
returns-then-is_near-clause-within c = c.is_near.ensures.within c.if-is_near.true
