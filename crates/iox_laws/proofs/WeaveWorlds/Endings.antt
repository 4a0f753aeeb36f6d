-- The moments of one node alone are a weave that ends its call.
use Rattle.std.specs.Prelude.{◌≡◌, ℕ, List, [], ◌∷◌, ◌++◌, map, Some, None, refl}
use Rattle.std.proofs.Common.{subst, ◌∙◌}
use Rattle.iox_model.specs.Doings.{Outcome, Doing}
use Rattle.iox_model.specs.Weaves.{made, over, IsWeave, World, Makes, Ends}
use Rattle.iox_model.specs.WholeCalls.{replied, moved_by, left_by, MayCome, MayHold}
use Rattle.iox_model.specs.Joins.{not_living}
use Rattle.iox_model.specs.Moments.{Moment}
use Rattle.iox_model.specs.Commands.{Reply}
use Rattle.iox_model.specs.Transitions.{next, ends}
use Rattle.iox_laws.proofs.WeaveLaws.WholeLemmas.{moved-members, not_living-members, put_at-here}
use Rattle.iox_laws.specs.WeaveWorlds.Endings.{EachComesToItsEnd}
use Rattle.iox_laws.proofs.WeaveWorlds.Sound.{SoundCall}
use Rattle.iox_laws.proofs.WeaveWorlds.GoesOn.{some_holds}
use Rattle.iox_laws.proofs.WeaveWorlds.Reached.{reachable_sound}
use Rattle.iox_laws.proofs.WeaveWorlds.Alone.{CanEnd, ends_alone}

-- a weave of the node alone, which ends its call
abbrev EndsAlone : World → ℕ → Type 0
EndsAlone w node =
    (ms : List Moment) × (reply : Reply) × (payload : List ℕ) × (v : World) × IsWeave w (map (Makes node) ms ++ Ends node reply payload ∷ []) v

weaves_alone : (w : World) (node : ℕ) (d : Doing) (ms : List Moment) (o : Outcome) → not_living w.state node ≡ None → w.doing node ≡ Some d
    → MayCome w.state node d ms → ends (moved_by w.state ms) (left_by w.state node d ms) ≡ Some o → EndsAlone w node
weaves_alone w node d [] o live is may ended =
    let p : (payload : List ℕ) × MayHold w.state.fixed o payload = some_holds w.state.fixed o in
    ([], replied w.state.fixed node o, p.0, over w node p.0 o, (over w node p.0 o, (live, d, is, o, ended, p.1, refl, refl), refl))
weaves_alone w node d (m ∷ ms) o live is may ended =
    let u : World = made w node d m in
    let rest : EndsAlone u node
    = weaves_alone u node (next w.state node d m).after ms o
    (not_living-members u.state w.state node (moved-members w.state m) ∙ live)
    (put_at-here w.doing node (Some (next w.state node d m).after)) may.2 ended in
    (m ∷ rest.0, rest.1, rest.2, rest.3, (u, (live, d, is, may.0, may.1, refl), rest.4))

pub each_comes_to_its_end : EachComesToItsEnd
each_comes_to_its_end w node d reach live is =
    let e : CanEnd w.state node d
    = ends_alone w.state node d (reachable_sound w reach).distinct (subst (SoundCall w.state node) is ((reachable_sound w reach).calls node)) in
    weaves_alone w node d e.0 e.2 live is e.1 e.3
