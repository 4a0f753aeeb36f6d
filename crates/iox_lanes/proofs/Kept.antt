-- A pipe that is looked up in the ring of those that are kept.
use Rattle.std.proofs.Common.{◌≡◌, ℕ, List, Some, get_or, slice_set, sym, ap, ◌∙◌}
use Rattle.std.proofs.lemmas.List.{set-get_or}
use Rattle.std.proofs.lemmas.Option.{get_or_from_slice_get}
use Rattle.std.specs.Option.{option_map_or}
use Rattle.std.specs.Prelude.{Bool, Option, false, if◌then◌else◌, slice_get}
use Rattle.iox_model.specs.Messages.{closed_for, names}
use Rattle.iox_model.specs.declared.way.RequestState.{RequestState}
use Rattle.iox_model.specs.declared.way.RequestState.TheVariants.{Closed}
use Rattle.iox_lanes.specs.Pipes.{PipeState, closed}

-- what stands in a place is what is looked up there
pub there : {A : Type 0} (xs : List A) (i : ℕ) (x : A) → Some x ≡ slice_get xs i → x ≡ get_or xs i x
there xs i x e = sym (get_or_from_slice_get xs i x x (sym e))

-- nothing changes as it is put back
pub put_back : {A : Type 0} (xs : List A) (i : ℕ) (x y : A) → Some x ≡ slice_get xs i → y ≡ x → slice_set xs i y ≡ xs
put_back xs i x y e same =
    ap (λ z. slice_set xs i z) (same ∙ sym (get_or_from_slice_get xs i x y (sym e))) ∙ set-get_or xs i y

-- where another request is open, a close changes nothing
pub closes_none : (p : PipeState) (lane id : ℕ) (s : RequestState) → Some s ≡ slice_get p.states lane → names s id ≡ false
    → p ≡ closed p lane id
closes_none p lane id s e other =
    let same : closed_for s id ≡ s = ap (λ (b : Bool). if b then Closed else s) other in
    sym (ap (λ (o : Option RequestState). option_map_or (λ z. record p { states = slice_set p.states lane (closed_for z id) }) o p) (sym e)
    ∙ ap (λ (zs : List RequestState). record p { states = zs }) (put_back p.states lane s (closed_for s id) e same))
