use Rattle.std.proofs.Common.{◌<◌, ◌^◌, ◌∙◌, refl, sym, arith, rules}
use Rattle.iox_lanes.proofs.Marked.{lowest_is_set, none_below_far, none_below_lowest, none_in_zero, none_set}
use Rattle.iox_lanes.proofs.marks.Marks.first.Goals as goal

pub returns-then-mark-lt-MOST-clause-here : goal.returns-then-mark-lt-MOST-clause-here
returns-then-mark-lt-MOST-clause-here c =
    let fits : c.self.inside.near < 2 ^ 64 = search rules in
    let some : 0 < c.self.inside.near = omega (arith, c.if-self-eq0.false) in
    let most = c.if-mark-lt-MOST.true in
    rw (← c.self.view_is) (lowest_is_set c.self.inside.near c.self.inside.far some fits (omega (arith, most)))

pub returns-then-mark-lt-MOST-clause-below : goal.returns-then-mark-lt-MOST-clause-below
returns-then-mark-lt-MOST-clause-below c k h =
    let fits : c.self.inside.near < 2 ^ 64 = search rules in
    let some : 0 < c.self.inside.near = omega (arith, c.if-self-eq0.false) in
    let most = c.if-mark-lt-MOST.true in
    rw (← c.self.view_is) (none_below_lowest c.self.inside.near c.self.inside.far some fits k (omega (arith, most, h)) h)

pub returns-in_default-clause-none : goal.returns-in_default-clause-none
returns-in_default-clause-none c e k =
    let fits : c.self.inside.near < 2 ^ 64 = search rules in
    let some : 0 < c.self.inside.near = omega (arith, c.if-self-eq0.false) in
    let last = c.if-mark-lt-MOST.false in
    rw (← c.self.view_is)
    (none_set c.self.inside.near c.self.inside.far some fits (omega (arith, last)) (c.in_default.ensures.none refl) k)

pub returns-in_default-clause-unchanged : goal.returns-in_default-clause-unchanged
returns-in_default-clause-unchanged c k =
    let fits : c.self.inside.near < 2 ^ 64 = search rules in
    let some : 0 < c.self.inside.near = omega (arith, c.if-self-eq0.false) in
    let last = c.if-mark-lt-MOST.false in
    rw (← c.self.view_is)
    (none_in_zero c.self.inside.far (c.in_default.ensures.none refl) k
    ∙ sym (none_set c.self.inside.near c.self.inside.far some fits (omega (arith, last)) (c.in_default.ensures.none refl) k))

pub returns-clause-below : goal.returns-clause-below
returns-clause-below c k h =
    let fits : c.self.inside.near < 2 ^ 64 = search rules in
    let some : 0 < c.self.inside.near = omega (arith, c.if-self-eq0.false) in
    let last = c.if-mark-lt-MOST.false in
    rw (← c.self.view_is)
    (none_below_far c.self.inside.near c.self.inside.far some fits (omega (arith, last)) c.in-Some.lane c.in-Some.ensures.below k h)
