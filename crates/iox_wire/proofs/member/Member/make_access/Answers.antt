use Rattle.std.specs.Prelude.{length}
use Rattle.std.proofs.Common.{ap, subst, sym, ◌∙◌}
use Rattle.iox_steps.specs.declared.access.Access.{Access}
use Rattle.iox_steps.specs.Accesses.{IsWithin, seen_at, words_after}
use Rattle.iox_wire_weaves.specs.Wires.{WireNode}
use Rattle.iox_wire.proofs.Accesses.{its_access}
use Rattle.iox_wire.proofs.member.Member.make_access.Goals as goal

pub perform-requires : goal.perform-requires
perform-requires c =
    subst (IsWithin 0 (length c.args.words.now.items))
    (sym (its_access c.requires.0 c.self.inside.node c.args.self.now.node (ap (λ (m : WireNode). m.node) c.self.view_is) c.args.words.now.items c.requires.1 c.asks-access.result c.asks-access.ensures))
    c.requires.1.within

pub returns-clause-seen : goal.returns-clause-seen
returns-clause-seen c p may =
    c.perform.ensures.seen
    ∙ ap (λ (a : Access). seen_at a c.args.words.now.items)
    (its_access p c.self.inside.node c.args.self.now.node (ap (λ (m : WireNode). m.node) c.self.view_is) c.args.words.now.items may c.asks-access.result c.asks-access.ensures)

pub returns-clause-words : goal.returns-clause-words
returns-clause-words c p may =
    c.perform.ensures.words
    ∙ ap (λ (a : Access). words_after a c.args.words.now.items)
    (its_access p c.self.inside.node c.args.self.now.node (ap (λ (m : WireNode). m.node) c.self.view_is) c.args.words.now.items may c.asks-access.result c.asks-access.ensures)
