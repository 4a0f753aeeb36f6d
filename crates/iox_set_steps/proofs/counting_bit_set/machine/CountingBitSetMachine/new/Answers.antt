use Rattle.std.proofs.Common.{rules, replicate, ◌≡◌, refl}
use Rattle.std.proofs.lemmas.List.Elements.{All-same, All-replicate}
use Rattle.iox_set_steps.specs.declared.counting_bit_set.CountProgram.TheVariants.{AtRest}
use Rattle.iox_set_steps.specs.CountPlays.{count_kind}
use Rattle.iox_set_steps.specs.Kinds.{IsAt}
use Rattle.iox_set_steps.proofs.CountEventLemmas.{new_counts_hold}
use Rattle.iox_set_steps.proofs.counting_bit_set.machine.CountingBitSetMachine.new.Goals as goal

pub new-requires : goal.new-requires
new-requires c =
    let made : c.in_ok-parties.parties.items ≡ replicate c.args.parties (record { site = c.args.site; program = AtRest }) = search rules in (
      c.args.site,
      new_counts_hold c.args.site c.args.words.items _ c.requires.room c.requires.zero (search rules) (search rules)
          (All-same (IsAt count_kind c.args.site) _ _ made (All-replicate (IsAt count_kind c.args.site) c.args.parties (record { site = c.args.site; program = AtRest })
          (refl, tt))),
    )
