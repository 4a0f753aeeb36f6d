use Rattle.iox_attributes.proofs.SortedLemmas.{insert-rotated}
use Rattle.iox_attributes.proofs.attribute_set.insert_at.Goals as goal

pub returns-clause-inserted : goal.returns-clause-inserted
returns-clause-inserted c = insert-rotated c.args.pairs.now c.rotate_right.new.self c.args.len c.args.place
    c.args.attribute.now c.requires.place c.requires.room c.rotate_right.ensures.after
