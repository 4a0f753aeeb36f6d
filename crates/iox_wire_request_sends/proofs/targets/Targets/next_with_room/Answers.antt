use Rattle.std.proofs.Common.{◌≡◌, Bool, true, not, cond, ◌∷◌, length, refl, sym, subst, ap, ◌∙◌, arith}
use Rattle.iox_model.specs.Maps.{has_number}
use Rattle.iox_wire_request_sends.specs.Targets.{AreTargets, AreWithin, with_room}
use Rattle.iox_wire_request_sends.proofs.targets.Targets.next_with_room.Goals as goal

pub returns-then-not-is_full-clause-rest_within : goal.returns-then-not-is_full-clause-rest_within
returns-then-not-is_full-clause-rest_within c t within =
    (subst (AreWithin t) c.in-Some.ensures.taken (c.loop-target.invariant.within t within)).1

pub returns-then-not-is_full-clause-within : goal.returns-then-not-is_full-clause-within
returns-then-not-is_full-clause-within c t within =
    (subst (AreWithin t) c.in-Some.ensures.taken (c.loop-target.invariant.within t within)).0

pub returns-then-not-is_full-clause-rest : goal.returns-then-not-is_full-clause-rest
returns-then-not-is_full-clause-rest c p t loan there =
    (subst (AreTargets p t loan) c.in-Some.ensures.taken (c.loop-target.invariant.there p t loan there)).1

pub returns-then-not-is_full-clause-there : goal.returns-then-not-is_full-clause-there
returns-then-not-is_full-clause-there c p t loan there =
    (subst (AreTargets p t loan) c.in-Some.ensures.taken (c.loop-target.invariant.there p t loan there)).0

pub loop-target-preserved : goal.loop-target-preserved
loop-target-preserved c =
    let full : has_number c.in-Some.target.server c.args.full.now ≡ true = sym c.is_full.ensures ∙ c.if-not-is_full.false in record {
      all = c.next.ensures.all ∙ c.loop-target.invariant.all;
      room = c.next.ensures.room ∙ c.loop-target.invariant.room;
      same = refl;
      left = c.loop-target.invariant.left ∙ ap (with_room c.args.full.now) c.in-Some.ensures.taken
          ∙ ap (λ (b : Bool). cond (not b) (c.in-Some.target ∷ with_room c.args.full.now c.next.new.self.left) (with_room c.args.full.now c.next.new.self.left)) full;
      shorter = omega (arith, c.loop-target.invariant.shorter, ap length c.in-Some.ensures.taken);
      within = λ t within. (subst (AreWithin t) c.in-Some.ensures.taken (c.loop-target.invariant.within t within)).1;
      there = λ p t loan there. (subst (AreTargets p t loan) c.in-Some.ensures.taken (c.loop-target.invariant.there p t loan there)).1;
    }
