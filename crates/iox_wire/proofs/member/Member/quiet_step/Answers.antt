use Rattle.std.specs.Prelude.{length}
use Rattle.std.proofs.Common.{◌≡◌, None, ap, subst, sym, ◌∙◌}
use Rattle.iox_steps.specs.Accesses.{IsWithin, seen_at, words_after}
use Rattle.iox_wire_weaves.specs.Aims.{IsAimed}
use Rattle.iox_wire_weaves.specs.Nodes.{NodeView, seat_in}
use Rattle.iox_wire_weaves.specs.SlotEvents.{slot_event}
use Rattle.iox_wire_weaves.specs.Wires.{WireNode}
use Rattle.iox_wire.specs.Kept.{access_in}
use Rattle.iox_wire.proofs.Accesses.{has_gone_on}
use Rattle.iox_wire.proofs.member.Member.quiet_step.Goals as goal

pub quiet_step-requires-clause-within : goal.quiet_step-requires-clause-within
quiet_step-requires-clause-within c =
    let same : c.self.inside.node ≡ c.args.self.now.node = ap (λ (m : WireNode). m.node) c.self.view_is in (
      c.requires.may.0,
      subst (IsAimed c.requires.may.0) (sym same) c.requires.may.1.aimed,
      subst (λ (k : NodeView). IsWithin 0 (length c.args.words.now.items) (access_in c.requires.may.0 k)) (sym same) c.requires.may.1.within,
    )

pub returns-clause-seen : goal.returns-clause-seen
returns-clause-seen c p may =
    let same : c.self.inside.node ≡ c.args.self.now.node = ap (λ (m : WireNode). m.node) c.self.view_is in
    (c.in_ok-seen.ensures.quiet p (subst (IsAimed p) (sym same) may.aimed)).finds
    ∙ ap (λ (k : NodeView). seen_at (access_in p k) c.args.words.now.items) same

pub returns-clause-words : goal.returns-clause-words
returns-clause-words c p may =
    let same : c.self.inside.node ≡ c.args.self.now.node = ap (λ (m : WireNode). m.node) c.self.view_is in
    (c.in_ok-seen.ensures.quiet p (subst (IsAimed p) (sym same) may.aimed)).leaves
    ∙ ap (λ (k : NodeView). words_after (access_in p k) c.args.words.now.items) same

pub returns-clause-event : goal.returns-clause-event
returns-clause-event c p aim =
    let same : c.self.inside.node ≡ c.args.self.now.node = ap (λ (m : WireNode). m.node) c.self.view_is in
    sym ((c.in_ok-seen.ensures.quiet p (subst (IsAimed p) (sym same) aim)).event)
    ∙ ap (λ (k : NodeView). slot_event p (seat_in k).local c.in_ok-seen.seen) same

pub returns-clause-made : goal.returns-clause-made
returns-clause-made c p words may saw =
    has_gone_on p c.self.inside.node c.args.self.now.node (ap (λ (m : WireNode). m.node) c.self.view_is) words may c.in_ok-seen.seen saw
    c.quiet_step.new.self None (λ q aim. (c.in_ok-seen.ensures.quiet q aim).goes) (λ q aim. (c.in_ok-seen.ensures.quiet q aim).tells_none)
    tt c.in_ok-seen.ensures.ready c.in_ok-seen.ensures.aimed c.in_ok-seen.ensures.room c.in_ok-seen.ensures.call
