use Rattle.std.proofs.Common.{ap, refl, sym, ◌∙◌}
use Rattle.std.specs.Prelude.{is_some}
use Rattle.iox_lanes.specs.Lanes.{without_returned}
use Rattle.iox_lanes.specs.Marks.{has_returned_at}
use Rattle.iox_lanes.specs.Pipes.{PipeState, lane_to_get}
use Rattle.iox_lanes.proofs.Returns.{first_alone, first_marked, lowest_has, none_marked}
use Rattle.iox_lanes.proofs.pipe.Pipe.get_next.Goals as goal

pub get_one_back-place-requires : goal.get_one_back-place-requires
get_one_back-place-requires c = record {
  some = rw (← c.self.view_is)
      (lowest_has (record { sender = c.self.inside.sender; lanes = c.self.inside.lanes.items; states = c.self.inside.states.items }) 0
      (first_marked c.self.inside.marks c.self.inside.lanes.items c.self.invariant (c.if-has_first_alone.ensures.first refl)));
}

pub returns-then-has_first_alone-clause-lowest : goal.returns-then-has_first_alone-clause-lowest
returns-then-has_first_alone-clause-lowest c =
    rw (← c.self.view_is)
    (sym (first_marked c.self.inside.marks c.self.inside.lanes.items c.self.invariant (c.if-has_first_alone.ensures.first refl)))

pub returns-then-has_first_alone-clause-more : goal.returns-then-has_first_alone-clause-more
returns-then-has_first_alone-clause-more c =
    let back = c.get_one_back-place.ensures.got_back in
    let only = first_alone c.self.inside.sender c.self.inside.lanes.items c.self.inside.states.items without_returned
    c.self.inside.marks c.self.invariant (c.if-has_first_alone.ensures.alone refl) in
    c.get_one_back-place.ensures.more
    ∙ ap (λ (p : PipeState). has_returned_at p.lanes 0) back
    ∙ rw (← c.self.view_is) (sym only)
    ∙ ap (λ (p : PipeState). is_some (lane_to_get p)) (sym back)

pub returns-then-has_none-clause-lowest : goal.returns-then-has_none-clause-lowest
returns-then-has_none-clause-lowest c =
    rw (← c.self.view_is)
    (sym (none_marked c.self.inside.marks c.self.inside.lanes.items c.self.invariant (c.if-has_none.ensures refl)))
