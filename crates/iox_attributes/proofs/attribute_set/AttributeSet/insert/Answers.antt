use Rattle.std.proofs.Common.{◌≡◌, ◌+◌, ◌∙◌, length, take, sym, ap, arith, length-take-le, rules}
use Rattle.iox_attributes.specs.Sets.{with_pair}
use Rattle.iox_attributes.specs.Storage.{place_of}
use Rattle.iox_attributes.proofs.SortedLemmas.{sorted-with_pair, with_pair-insert}
use Rattle.iox_attributes.proofs.attribute_set.AttributeSet.insert.Goals as goal

pub invariant_of-self : goal.invariant_of-self
invariant_of-self c =
    let sized = c.self.invariant.sized in
    let within = c.self.invariant.within in
    let held : length (take c.self.inside.len c.self.inside.pairs) ≡ c.self.inside.len =
    length-take-le c.self.inside.len c.self.inside.pairs (omega arith) in
    let seen : length c.args.self.now ≡ c.self.inside.len = ap length (sym c.self.view_is) ∙ held in
    let room = c.requires in
    let shown : c.as_slice.result.now ≡ take c.self.inside.len c.self.inside.pairs =
    search rules in
    let place : c.place_of-place.result ≡ place_of c.args.attribute.now (take c.self.inside.len c.self.inside.pairs) =
    c.place_of-place.ensures.value ∙ ap (place_of c.args.attribute.now) shown in
    let new : take (c.self.inside.len + 1) c.insert_at.new.pairs
    ≡ with_pair c.args.attribute.now (take c.self.inside.len c.self.inside.pairs) =
    c.insert_at.ensures.inserted
    ∙ rw place (sym (with_pair-insert c.args.attribute.now (take c.self.inside.len c.self.inside.pairs))) in
    record {
      sized = c.insert_at.ensures.len ∙ c.self.invariant.sized;
      within = omega arith;
      sorted = rw new (sorted-with_pair c.args.attribute.now (take c.self.inside.len c.self.inside.pairs)
          c.self.invariant.sorted);
    }

pub returns : goal.returns
returns c =
    let shown : c.as_slice.result.now ≡ take c.self.inside.len c.self.inside.pairs =
    search rules in
    let place : c.place_of-place.result ≡ place_of c.args.attribute.now (take c.self.inside.len c.self.inside.pairs) =
    c.place_of-place.ensures.value ∙ ap (place_of c.args.attribute.now) shown in
    c.insert_at.ensures.inserted
    ∙ rw place (sym (with_pair-insert c.args.attribute.now (take c.self.inside.len c.self.inside.pairs)))
    ∙ ap (with_pair c.args.attribute.now) c.self.view_is
