-- A whole call is a weave of one call, and such a weave is a whole call.
use Rattle.std.specs.Prelude.{◌≡◌, ℕ, Bool, true, false, ◌&&◌, not, ◌==◌, List, [], ◌∷◌, ◌++◌, map, Option, Some, None, unwrap_or, find, refl}
use Rattle.std.specs.Option.{option_map_or}
use Rattle.std.proofs.Common.{sym, subst, ap, ◌∙◌, true≢false}
use Rattle.iox_model.specs.declared.call.WireCall.TheVariants as wire_calls
use Rattle.iox_model.specs.declared.reply.Refusal.TheVariants.{UnknownNode, NodeIsDead}
use Rattle.iox_model.specs.Doings.{Outcome, Doing}
use Rattle.iox_model.specs.Weaves.{begun, made, over, IsBeat, IsWeave, World, Begins, Makes, Ends}
use Rattle.iox_model.specs.States.{Members, State}
use Rattle.iox_model.specs.Loans.{Choice}
use Rattle.iox_model.specs.WholeCalls.{replied, MayHold, moved_by, left_by, MayCome}
use Rattle.iox_model.specs.Maps.{put_at, or_else, refused_if}
use Rattle.iox_model.specs.Ends.{settled}
use Rattle.iox_model.specs.Joins.{not_living}
use Rattle.iox_model.specs.Moments.{moved, Moment, Deliver, Evict, Take, GiveBack, GetBack, SeesEmpty, SeesWaiting, SeesFull, SeesRoom, SeesNoneBack, Open, Close, Hint, Look}
use Rattle.iox_model.specs.Begins.{start}
use Rattle.iox_laws.specs.WeaveLaws.Laws.{one_call, WholeCallIsWeave, WeaveIsWholeCall}
use Rattle.iox_model.specs.Commands.{Refusal, Reply}
use Rattle.iox_model.specs.Transitions.{next, ends}
use Rattle.iox_laws.proofs.WeaveLaws.MapLemmas.{eqb-refl}

-- both parts of what holds together
pub split : (a b : Bool) → (a && b) ≡ true → (a ≡ true) × (b ≡ true)
split true b e = (refl, e)
split false b e = absurd (true≢false (sym e))

-- a moment changes nothing of what is fixed, and no node
pub moved-fixed : (s : State) (m : Moment) → (moved s m).fixed ≡ s.fixed
moved-fixed s (Deliver w x) = refl
moved-fixed s (Evict w) = refl
moved-fixed s (Take w x) = refl
moved-fixed s (GiveBack w k) = refl
moved-fixed s (GetBack w k) = refl
moved-fixed s (SeesEmpty w) = refl
moved-fixed s (SeesWaiting w) = refl
moved-fixed s (SeesFull w) = refl
moved-fixed s (SeesRoom w) = refl
moved-fixed s (SeesNoneBack w) = refl
moved-fixed s (Open w id) = refl
moved-fixed s (Close w id) = refl
moved-fixed s (Hint w id) = refl
moved-fixed s (Look w shown) = refl

pub moved-members : (s : State) (m : Moment) → (moved s m).members ≡ s.members
moved-members s (Deliver w x) = refl
moved-members s (Evict w) = refl
moved-members s (Take w x) = refl
moved-members s (GiveBack w k) = refl
moved-members s (GetBack w k) = refl
moved-members s (SeesEmpty w) = refl
moved-members s (SeesWaiting w) = refl
moved-members s (SeesFull w) = refl
moved-members s (SeesRoom w) = refl
moved-members s (SeesNoneBack w) = refl
moved-members s (Open w id) = refl
moved-members s (Close w id) = refl
moved-members s (Hint w id) = refl
moved-members s (Look w shown) = refl

pub moved_by-fixed : (s : State) (ms : List Moment) → (moved_by s ms).fixed ≡ s.fixed
moved_by-fixed s [] = refl
moved_by-fixed s (m ∷ ms) = moved_by-fixed (moved s m) ms ∙ moved-fixed s m

living_of : Members → ℕ → Option Refusal
living_of x node = option_map_or (λ m. refused_if (not m.alive) NodeIsDead) (find (λ m. m.number == node) x.nodes) (Some UnknownNode)

pub not_living-members : (s t : State) (node : ℕ) → s.members ≡ t.members → not_living s node ≡ not_living t node
not_living-members s t node e =
    ap (λ x. option_map_or (λ m. refused_if (not m.alive) NodeIsDead) (find (λ m. m.number == node) x.nodes) (Some UnknownNode)) e

pub put_at-here : {A : Type 0} (f : ℕ → A) (k : ℕ) (a : A) → put_at f k a k ≡ a
put_at-here f k a = rw (eqb-refl k) refl

-- the first test passed, and the rest
pub or_else-none : {A : Type 0} → (a b : Option A) → or_else a b ≡ None → (a ≡ None) × (b ≡ None)
or_else-none None b e = (refl, e)
or_else-none (Some x) b e = absurd (subst IsNoneOf (sym e) tt)
  where
    IsNoneOf : {A : Type 0} → Option A → Type 0
    IsNoneOf None = Unit {0}
    IsNoneOf (Some y) = ⊥

makes_then_ends : (w : World) (node : ℕ) (d : Doing) (ms : List Moment) (o : Outcome) (payload : List ℕ)
    → not_living w.state node ≡ None → w.doing node ≡ Some d → MayCome w.state node d ms
    → ends (moved_by w.state ms) (left_by w.state node d ms) ≡ Some o → MayHold w.state.fixed o payload
    → (v : World) × IsWeave w (map (Makes node) ms ++ Ends node (replied w.state.fixed node o) payload ∷ []) v
    × (v.state ≡ settled (moved_by w.state ms) node payload o)
makes_then_ends w node d [] o payload live is may ended holds =
    (over w node payload o, (over w node payload o, (live, d, is, o, ended, holds, refl, refl), refl), refl)
makes_then_ends w node d (m ∷ ms) o payload live is may ended holds =
    let mid : World = made w node d m in
    let same : mid.state.fixed ≡ w.state.fixed = moved-fixed w.state m in
    let rest : (v : World) × IsWeave mid (map (Makes node) ms ++ Ends node (replied mid.state.fixed node o) payload ∷ []) v
    × (v.state ≡ settled (moved_by mid.state ms) node payload o)
    = makes_then_ends mid node (next w.state node d m).after ms o payload
    (not_living-members mid.state w.state node (moved-members w.state m) ∙ live)
    (put_at-here w.doing node (Some (next w.state node d m).after)) may.2 ended
    (subst (λ f. MayHold f o payload) (sym same) holds) in (
      rest.0,
      (
        mid,
        (live, d, is, may.0, may.1, refl),
        subst (λ f. IsWeave mid (map (Makes node) ms ++ Ends node (replied f node o) payload ∷ []) rest.0) same rest.1,
      ),
      rest.2,
    )

pub whole_call_is_weave : WholeCallIsWeave
whole_call_is_weave w node call reply s' begins done =
    let c : Choice = done.0 in
    let ms : List Moment = done.2 in
    let o : Outcome = done.4 in
    let payload : List ℕ = done.6 in
    let d : Doing = start w.state node c call in
    let mid : World = begun w node c (wire_calls.Port call) in
    let live : not_living w.state node ≡ None = (or_else-none _ _ begins).0 in
    let rest : (v : World) × IsWeave mid (map (Makes node) ms ++ Ends node (replied w.state.fixed node o) payload ∷ []) v
    × (v.state ≡ settled (moved_by w.state ms) node payload o)
    = makes_then_ends mid node d ms o payload live (put_at-here w.doing node (Some d)) done.3 done.5 done.7 in (
      c,
      ms,
      payload,
      rest.0,
      subst (λ r. IsWeave w (one_call node call c ms r payload) rest.0) (sym done.8) (mid, (begins, done.1, refl), rest.1),
      rest.2 ∙ sym done.9,
    )

-- ---- back

pub some-is : {A : Type 0} (a b : A) → Some a ≡ Some b → a ≡ b
some-is a b e = ap (λ o. unwrap_or o a) e

-- what a weave of moments and an end of one node leaves
abbrev pub Comes : World → ℕ → Doing → List Moment → Reply → List ℕ → World → Type 0
Comes w node d ms reply payload v =
    MayCome w.state node d ms × (o : Outcome) × (ends (moved_by w.state ms) (left_by w.state node d ms) ≡ Some o)
    × MayHold w.state.fixed o payload × (reply ≡ replied w.state.fixed node o)
    × (v.state ≡ settled (moved_by w.state ms) node payload o)

comes_back : (w v : World) (node : ℕ) (d : Doing) (ms : List Moment) (reply : Reply) (payload : List ℕ)
    → w.doing node ≡ Some d → IsWeave w (map (Makes node) ms ++ Ends node reply payload ∷ []) v → Comes w node d ms reply payload v
comes_back w v node d [] reply payload is weave =
    let beat : IsBeat w (Ends node reply payload) weave.0 = weave.1 in
    let same : beat.1 ≡ d = some-is beat.1 d (sym beat.2 ∙ is) in
    (tt, beat.3, subst (λ x. ends w.state x ≡ Some beat.3) same beat.4, beat.5, beat.6, ap (λ (x : World). x.state) (weave.2 ∙ beat.7))
comes_back w v node d (m ∷ ms) reply payload is weave =
    let beat : IsBeat w (Makes node m) weave.0 = weave.1 in
    let same : beat.1 ≡ d = some-is beat.1 d (sym beat.2 ∙ is) in
    let condition : (next w.state node d m).condition = subst (λ x. (next w.state node x m).condition) same beat.4 in
    let here : weave.0 ≡ made w node d m = beat.5 ∙ ap (λ x. made w node x m) same in
    let mid : World = made w node d m in
    let rest : Comes mid node (next w.state node d m).after ms reply payload v
    = comes_back mid v node (next w.state node d m).after ms reply payload (put_at-here w.doing node (Some (next w.state node d m).after))
    (subst (λ x. IsWeave x (map (Makes node) ms ++ Ends node reply payload ∷ []) v) here weave.2) in
    let fixed : mid.state.fixed ≡ w.state.fixed = moved-fixed w.state m in (
      (beat.3, condition, rest.0),
      rest.1,
      rest.2,
      subst (λ f. MayHold f rest.1 payload) fixed rest.3,
      subst (λ f. reply ≡ replied f node rest.1) fixed rest.4,
      rest.5,
    )

pub weave_is_whole_call : WeaveIsWholeCall
weave_is_whole_call w v node call c ms reply payload weave =
    let mid : World = begun w node c (wire_calls.Port call) in
    let beat : IsBeat w (Begins node (wire_calls.Port call) c) weave.0 = weave.1 in
    let d : Doing = start w.state node c call in
    let rest : Comes mid node d ms reply payload v
    = comes_back mid v node d ms reply payload (put_at-here w.doing node (Some d))
    (subst (λ x. IsWeave x (map (Makes node) ms ++ Ends node reply payload ∷ []) v) beat.2 weave.2) in
    (c, beat.1, ms, rest.0, rest.1, rest.2, payload, rest.3, rest.4, rest.5)
