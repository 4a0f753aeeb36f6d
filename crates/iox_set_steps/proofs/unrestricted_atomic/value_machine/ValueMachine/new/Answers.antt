use Rattle.std.proofs.Common.{◌∙◌, ap, arith, List, ℕ, subst}
use Rattle.iox_set_steps.specs.TypedWords.{AreLaid}
use Rattle.iox_set_steps.specs.AtomicMachines.{new_atomics}
use Rattle.iox_set_steps.proofs.LaidLemmas.{laid_are}
use Rattle.iox_set_steps.proofs.TypedEvents.{new_of_type, new_machine}
use Rattle.iox_set_steps.proofs.unrestricted_atomic.value_machine.ValueMachine.new.Goals as goal

pub invariant_of-result : goal.invariant_of-result
invariant_of-result g c =
    new_of_type g.T.Words.WORDS g.T.Words.is_value g.T.Words.words g.T.Words.is_words g.T.Words.of_words g.met.T.Words.laws c.args.value g.row.N c.args.base
    c.args.value c.value_words.ensures.known c.requires.sized c.args.words.items c.lay.new.words.items
    (subst (λ list. AreLaid g.row.N c.args.base list c.args.words.items c.lay.new.words.items) c.value_words.ensures.words c.lay.ensures)
    c.args.parties c.in_ok-machine.machine c.requires.small c.in_ok-machine.ensures.made

pub returns : goal.returns
returns g c = record {
  made = new_machine g.T.Words.WORDS g.T.Words.is_value g.T.Words.words g.T.Words.is_words g.T.Words.of_words g.met.T.Words.laws c.args.value g.row.N c.args.base
      c.args.value c.value_words.ensures.known c.requires.sized c.args.words.items c.lay.new.words.items
      (subst (λ list. AreLaid g.row.N c.args.base list c.args.words.items c.lay.new.words.items) c.value_words.ensures.words c.lay.ensures)
      c.args.parties c.in_ok-machine.machine c.in_ok-machine.ensures.made;
  plays = c.in_ok-machine.ensures.is ∙ ap (λ (list : List ℕ). new_atomics list c.args.base c.args.parties)
      (laid_are g.row.N c.args.base (g.T.Words.words c.args.value) c.args.words.items c.lay.new.words.items
      ((g.met.T.Words.laws).counted _ ((g.met.T.Words.laws).meets c.args.value c.value_words.ensures.known) ∙ c.requires.sized) (omega (arith, c.requires.room))
      (subst (λ list. AreLaid g.row.N c.args.base list c.args.words.items c.lay.new.words.items) c.value_words.ensures.words c.lay.ensures));
}
