use Rattle.std.proofs.Common.{◌≡◌, ◌++◌, ◌∷◌, [], false, List, ap, sym, subst, ◌∙◌}
use Rattle.iox_model.specs.Maps.{AreDistinctWays, has_way}
use Rattle.iox_wire_seats.specs.Records.{Noted, NotesHaveRoom, ways_in}
use Rattle.iox_wire_seats.proofs.RecordLemmas.{more_apart, rooms_more}
use Rattle.iox_wire_seats.proofs.records.Records.add_way.Goals as goal

pub invariant_of-self-2 : goal.invariant_of-self-2
invariant_of-self-2 c =
    let items : c.push_reserved.new.self.items ≡ c.self.inside.records.items ++ c.in_ok-record.record ∷ [] =
    c.push_reserved.ensures.items ∙ ap (λ (ns : List Noted). ns ++ c.in_ok-record.record ∷ []) c.reserve.ensures.items in
    subst (λ (ns : List Noted). AreDistinctWays (ways_in ns)) (sym items)
    (more_apart c.self.inside.records.items c.in_ok-record.record c.args.way c.self.invariant
    (subst (λ (ns : List Noted). has_way c.args.way (ways_in ns) ≡ false) (sym c.self.view_is) c.requires)
    (ap (λ r. r.way) c.in_ok-record.ensures.recorded))

pub returns-clause-room : goal.returns-clause-room
returns-clause-room c rooms =
    let items : c.push_reserved.new.self.items ≡ c.self.inside.records.items ++ c.in_ok-record.record ∷ [] =
    c.push_reserved.ensures.items ∙ ap (λ (ns : List Noted). ns ++ c.in_ok-record.record ∷ []) c.reserve.ensures.items in
    subst (NotesHaveRoom c.args.room) (sym items)
    (rooms_more c.args.room c.self.inside.records.items c.in_ok-record.record c.in_ok-record.ensures.room
    (subst (NotesHaveRoom c.args.room) (sym c.self.view_is) rooms))
