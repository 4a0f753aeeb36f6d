use Rattle.std.proofs.Common.{◌≡◌, false}
use Rattle.std.proofs.lemmas.Bool.{ne_eqb}
use Rattle.std.proofs.lemmas.List.{take_rest}
use Rattle.std.proofs.lemmas.List.Elements.{All-more}
use Rattle.iox_script.specs.Lines.{is_space}
use Rattle.iox_script.proofs.WordLemmas.{words_of-at, words_of-none}
use Rattle.iox_script.proofs.parser.words.Words.split.Goals as goal

pub returns-then-byte-eq32 : goal.returns-then-byte-eq32
returns-then-byte-eq32 c =
    rw take_rest (words_of-at c.args.line.now c.loop-at.at c.loop-at-test.true c.if-byte-eq32.true c.loop-at.invariant)

pub loop-at-preserved : goal.loop-at-preserved
loop-at-preserved c =
    All-more (λ byte. is_space byte ≡ false) c.args.line.now c.loop-at.at 0 c.loop-at-test.true c.loop-at.invariant (ne_eqb _ 32 c.if-byte-eq32.false)

pub returns : goal.returns
returns c = words_of-none c.args.line.now c.loop-at.at c.loop-at-test.false c.loop-at.invariant
