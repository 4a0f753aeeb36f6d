use Rattle.std.proofs.Common.{◌≡◌, ◌++◌, take, flat_map}
use Rattle.iox_script.specs.Texts.{spaced}
use Rattle.iox_script.proofs.print.push_listed.Given as goal

abbrev pub invariant-loop-number : goal.invariant-loop-number
invariant-loop-number l = l.out.items ≡ l.fn.out.items ++ (l.fn.name ++ flat_map spaced (take l.number-index l.numbers))
