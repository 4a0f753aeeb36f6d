use Rattle.std.proofs.Common.{◌≡◌, ◌+◌, ◌++◌, ◌∷◌, [], List, Vec, Global, length, sym, ap, subst, ◌∙◌, arith, length-append, refl}
use Rattle.std.specs.Vec.{vec_capacity}
use Rattle.std.specs.Prelude.{None, Some, slice_index_or}
use Rattle.std.proofs.lemmas.List.{get_or-map, length-map}
use Rattle.std.proofs.lemmas.Option.{slice_get_within}
use Rattle.iox_handles.specs.declared.numbered.Numbered.{Numbered}
use Rattle.iox_handles.specs.Places.{handle_in, handles_there, number_for}
use Rattle.iox_handles.proofs.NodeListLemmas.{ListedBelow, entry_at, listed_push, listed_skip}
use Rattle.iox_handles.proofs.numbered.list_in.Goals as goal
use Rattle.iox_handles.proofs.numbered.list_in.Goals.{in-Some, in_default}

pub loop-place-init : goal.loop-place-init
loop-place-init c = record {
  listed = λ p h low at on. absurd (omega (arith, low));
  many = let none = ap length c.requires.empty in omega (arith, none);
  room = refl;
  size = refl;
}

pub push_reserved-requires : goal.push_reserved-requires
push_reserved-requires c =
    let many = c.loop-place.invariant.many in let room = c.loop-place.invariant.room in let asked = c.requires.room in
    let low = c.loop-place-test.true in let size = c.loop-place.list.ok.0 in
    omega (arith, many, room, asked, low, size)

pub loop-place-preserved : goal.loop-place-preserved
loop-place-preserved c = elim c.match-number_for.branch [
  | in-Some w ↦
      let items : c.match-number_for.list.items ≡ c.loop-place.list.items ++ entry_at w.in-Some.number c.loop-place.place ∷ []
      = ap (λ (v : Vec Numbered Global). v.items) w.list-is ∙ w.push_reserved.ensures.items in
      record {
        listed = subst (λ (vs : List Numbered). ListedBelow c.args.node (handles_there c.args.places.now) vs (c.loop-place.place + 1)) (sym items)
            (listed_push c.args.node (handles_there c.args.places.now) c.loop-place.list.items c.loop-place.place w.in-Some.number
            (read ∙ w.in-Some.is) c.loop-place.invariant.listed);
        many =
            let size = ap length items ∙ length-append c.loop-place.list.items (entry_at w.in-Some.number c.loop-place.place ∷ []) in
            let before = c.loop-place.invariant.many in
            omega (arith, size, before);
        room = ap (λ (v : Vec Numbered Global). vec_capacity v) w.list-is ∙ w.push_reserved.ensures.capacity ∙ c.loop-place.invariant.room;
        size = refl;
      }
  | in_default w ↦
      let items : c.match-number_for.list.items ≡ c.loop-place.list.items = ap (λ (v : Vec Numbered Global). v.items) w.list-is in
      record {
        listed = subst (λ (vs : List Numbered). ListedBelow c.args.node (handles_there c.args.places.now) vs (c.loop-place.place + 1)) (sym items)
            (listed_skip c.args.node (handles_there c.args.places.now) c.loop-place.list.items c.loop-place.place
            (read ∙ w.in_default.is) c.loop-place.invariant.listed);
        many = let size = ap length items in let before = c.loop-place.invariant.many in omega (arith, size, before);
        room = ap (λ (v : Vec Numbered Global). vec_capacity v) w.list-is ∙ c.loop-place.invariant.room;
        size = refl;
      }
]
  where
    read : number_for c.args.node (slice_index_or (handles_there c.args.places.now) c.loop-place.place None) ≡ c.number_for.result
    read =
        let low = c.loop-place-test.true in let size = c.loop-place.invariant.size in
        ap (number_for c.args.node) (get_or-map handle_in c.args.places.now c.loop-place.place _ None (omega (arith, low, size)) ∙ sym c.handle_in.ensures)
        ∙ sym c.number_for.ensures

pub returns-clause-listed : goal.returns-clause-listed
returns-clause-listed c p h at on =
    let within = slice_get_within (handles_there c.args.places.now) p (Some h) at in let size = length-map c.args.places.now handle_in in
    let end = c.loop-place-test.false in
    c.loop-place.invariant.listed p h (omega (arith, within, size, end)) at on
