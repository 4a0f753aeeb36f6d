use Rattle.std.proofs.Common.{◌∷◌, [], List, ap, ap₂, sym, ◌∙◌, take}
use Rattle.std.proofs.lemmas.List.{map-append, take_more}
use Rattle.iox_handles.specs.declared.entry.Entry.{Entry}
use Rattle.iox_handles.specs.Least.{lesser}
use Rattle.iox_handles.specs.Places.{handle_in, handles_there, least_in, number_for}
use Rattle.iox_handles.proofs.LeastLemmas.{least_in-last}
use Rattle.iox_handles.proofs.least.least_in.Goals as goal

pub loop-place-preserved : goal.loop-place-preserved
loop-place-preserved c =
    c.lesser-least.ensures ∙ ap₂ lesser c.loop-place.invariant (c.number_for.ensures ∙ ap (number_for c.args.node) c.handle_in.ensures)
    ∙ sym (least_in-last c.args.node (handles_there (take c.loop-place.place-index c.args.places.now)) _)
    ∙ ap (least_in c.args.node) (sym (map-append handle_in (take c.loop-place.place-index c.args.places.now) (_ ∷ [])))
    ∙ ap (λ (ps : List Entry). least_in c.args.node (handles_there ps)) (sym (take_more c.args.places.now c.loop-place.place-index _ c.loop-place-test.true))
