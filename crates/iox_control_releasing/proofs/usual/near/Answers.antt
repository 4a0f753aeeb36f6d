use Rattle.iox_control_releasing.proofs.usual.near.Goals as goal

pub returns-then-is_held_at : goal.returns-then-is_held_at
returns-then-is_held_at c = record {
  found = c.in_ok-entry.ensures;
  there = c.is_held_at.ensures.there c.if-is_held_at.true;
  held = c.is_held_at.ensures.held c.if-is_held_at.true;
}
