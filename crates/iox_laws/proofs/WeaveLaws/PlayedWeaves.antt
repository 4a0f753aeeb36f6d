-- Beats that are played one after another are a weave.
use Rattle.std.specs.Prelude.{◌≡◌, ℕ, ◌*◌, Bool, true, false, not, ◌&&◌, ◌||◌, ◌==◌, List, [], ◌∷◌, length, Option, Some, None, refl, is_some}
use Rattle.std.proofs.Common.{sym, subst, true≢false, eqb-true}
use Rattle.iox_model.specs.declared.call.WireCall.TheVariants.{Forget}
use Rattle.iox_model.specs.declared.call.WireCall.TheVariants as wire_calls
use Rattle.iox_model.specs.declared.reply.Reply.TheVariants.{Done}
use Rattle.iox_model.specs.Doings.{Outcome, Tells, Loans, Fills, Sends, FailsToSend, Receives, Drops, DropsPort, Forgets, Doing, Ended}
use Rattle.iox_model.specs.Weaves.{begin_refusal, WireMayChoose, begun, made, over, IsBeat, IsWeave, World, Beat, Begins, Makes, Ends, Dies}
use Rattle.iox_model.specs.Settings.{Shape}
use Rattle.iox_model.specs.States.{Fixed, State}
use Rattle.iox_model.specs.Handles.{subject}
use Rattle.iox_model.specs.WholeCalls.{replied, PayloadMayBe, shape_of_loan, is_uninit, MayHold}
use Rattle.iox_model.specs.Joins.{not_living}
use Rattle.iox_model.specs.Moments.{Holds, Moment, SeesEmpty}
use Rattle.iox_model.specs.Begins.{lane_may_be, lends_lane}
use Rattle.iox_model.specs.Services.{with_death}
use Rattle.iox_model.specs.Commands.{WireCall, number_of}
use Rattle.iox_model.specs.Messages.{request_way}
use Rattle.iox_laws.specs.WeaveLaws.Laws.{on_lane}
use Rattle.iox_model.specs.Transitions.{next, ends}
use Rattle.iox_laws.proofs.WeaveLaws.Plays.{chosen, MayBe, chosen_may_come}
use Rattle.iox_laws.proofs.WeaveLaws.WholeLemmas.{split}

-- what to play: a begin, the next moment of a node's call, the end of its call, a death
pub data Plan : Type 0 where
  begin : (node : ℕ) (call : WireCall) (lane : ℕ) → Plan
  step : (node : ℕ) → Plan
  stop : (node : ℕ) (payload : List ℕ) → Plan
  die : (node : ℕ) → Plan

abbrev pub or_default : {A : Type 0} → Option A → A → A
or_default None a = a
or_default (Some x) a = x

abbrev pub doing_at : World → ℕ → Doing
doing_at w node = or_default (w.doing node) (Ended (Tells Done))

abbrev pub moment_at : World → ℕ → Moment
moment_at w node = or_default (chosen w.state (doing_at w node)) (SeesEmpty (request_way 0 0))

abbrev pub outcome_at : World → ℕ → Outcome
outcome_at w node = or_default (ends w.state (doing_at w node)) (Tells Done)

abbrev pub beat_of : World → Plan → Beat
beat_of w (begin node call lane) = Begins node call (on_lane lane)
beat_of w (step node) = Makes node (moment_at w node)
beat_of w (stop node payload) = Ends node (replied w.state.fixed node (outcome_at w node)) payload
beat_of w (die node) = Dies node

abbrev pub world_of : World → Plan → World
world_of w (begin node call lane) = begun w node (on_lane lane) call
world_of w (step node) = made w node (doing_at w node) (moment_at w node)
world_of w (stop node payload) = over w node payload (outcome_at w node)
world_of w (die node) = record w { state = with_death w.state node }

-- ---- whether it may be played

abbrev pub is_none_of : {A : Type 0} → Option A → Bool
is_none_of None = true
is_none_of (Some x) = false

abbrev pub lane_fits : Fixed → ℕ → WireCall → ℕ → Bool
lane_fits f node (wire_calls.Port call) lane = not (lends_lane call) || lane_may_be f (on_lane lane) (subject f node (number_of call))
lane_fits f node (Forget dead) lane = true

abbrev pub payload_fits : Fixed → Outcome → List ℕ → Bool
payload_fits f (Loans h) payload =
    f.on_wire && (not (is_uninit h.kind) && (length payload == h.message.elements * (shape_of_loan f h).width))
payload_fits f o payload = true

abbrev pub may : World → Plan → Bool
may w (begin node call lane) = is_none_of (begin_refusal w node call) && lane_fits w.state.fixed node call lane
may w (step node) = is_none_of (not_living w.state node) && (is_some (w.doing node) && is_some (chosen w.state (doing_at w node)))
may w (stop node payload) =
    is_none_of (not_living w.state node)
    && ((is_some (w.doing node) && is_some (ends w.state (doing_at w node)))
    && payload_fits w.state.fixed (outcome_at w node) payload)
may w (die node) = is_none_of (not_living w.state node)

-- ---- then it is a beat

none_of : {A : Type 0} → (o : Option A) → is_none_of o ≡ true → o ≡ None
none_of None e = refl
none_of (Some x) e = absurd (true≢false (sym e))

some_of : {A : Type 0} → (o : Option A) (a : A) → is_some o ≡ true → o ≡ Some (or_default o a)
some_of (Some x) a e = refl
some_of None a e = absurd (true≢false (sym e))

may_choose : (f : Fixed) (node : ℕ) (call : WireCall) (lane : ℕ) → lane_fits f node call lane ≡ true → WireMayChoose f node (on_lane lane) call
may_choose f node (wire_calls.Port call) lane e = (refl, e)
may_choose f node (Forget dead) lane e = tt

may_hold_where : (uninit on_wire : Bool) (x : Shape) (k : ℕ) (payload : List ℕ)
    → (on_wire && (not uninit && (length payload == k * x.width))) ≡ true → PayloadMayBe uninit on_wire x k payload
may_hold_where true true x k payload e = absurd (true≢false (sym e))
may_hold_where true false x k payload e = absurd (true≢false (sym e))
may_hold_where false true x k payload e = eqb-true (length payload) (k * x.width) e
may_hold_where false false x k payload e = absurd (true≢false (sym e))

may_hold : (f : Fixed) (o : Outcome) (payload : List ℕ) → payload_fits f o payload ≡ true → MayHold f o payload
may_hold f (Loans h) payload e = may_hold_where (is_uninit h.kind) f.on_wire (shape_of_loan f h) h.message.elements payload e
may_hold f (Tells r) payload e = tt
may_hold f (Fills h) payload e = tt
may_hold f (Sends h copied count) payload e = tt
may_hold f (FailsToSend h copied r) payload e = tt
may_hold f (Receives x w m) payload e = tt
may_hold f (Drops h) payload e = tt
may_hold f (DropsPort p) payload e = tt
may_hold f (Forgets dead) payload e = tt

chosen_holds : (s : State) (node : ℕ) (d : Doing) (o : Option Moment) (m : Moment) → MayBe s node d o → is_some o ≡ true
    → Holds s (or_default o m) × (next s node d (or_default o m)).condition
chosen_holds s node d None m p e = absurd (true≢false (sym e))
chosen_holds s node d (Some x) m p e = p

pub is_beat : (w : World) (p : Plan) → may w p ≡ true → IsBeat w (beat_of w p) (world_of w p)
is_beat w (begin node call lane) e =
    let q : (is_none_of (begin_refusal w node call) ≡ true) × (lane_fits w.state.fixed node call lane ≡ true) = split _ _ e in
    (none_of (begin_refusal w node call) q.0, may_choose w.state.fixed node call lane q.1, refl)
is_beat w (step node) e =
    let d : Doing = doing_at w node in
    let q : (is_none_of (not_living w.state node) ≡ true) × ((is_some (w.doing node) && is_some (chosen w.state d)) ≡ true) = split _ _ e in
    let r : (is_some (w.doing node) ≡ true) × (is_some (chosen w.state d) ≡ true) = split _ _ q.1 in
    let h : Holds w.state (moment_at w node) × (next w.state node d (moment_at w node)).condition
    = chosen_holds w.state node d (chosen w.state d) (SeesEmpty (request_way 0 0)) (chosen_may_come w.state node d) r.1 in
    (none_of (not_living w.state node) q.0, d, some_of (w.doing node) (Ended (Tells Done)) r.0, h.0, h.1, refl)
is_beat w (stop node payload) e =
    let d : Doing = doing_at w node in
    let q : (is_none_of (not_living w.state node) ≡ true)
    × (((is_some (w.doing node) && is_some (ends w.state d)) && payload_fits w.state.fixed (outcome_at w node) payload) ≡ true) = split _ _ e in
    let r : ((is_some (w.doing node) && is_some (ends w.state d)) ≡ true) × (payload_fits w.state.fixed (outcome_at w node) payload ≡ true) = split _ _ q.1 in
    let t : (is_some (w.doing node) ≡ true) × (is_some (ends w.state d) ≡ true) = split _ _ r.0 in (
      none_of (not_living w.state node) q.0,
      d,
      some_of (w.doing node) (Ended (Tells Done)) t.0,
      outcome_at w node,
      some_of (ends w.state d) (Tells Done) t.1,
      may_hold w.state.fixed (outcome_at w node) payload r.1,
      refl,
      refl,
    )
is_beat w (die node) e = (none_of (not_living w.state node) e, refl)

-- ---- and all of them a weave

abbrev pub beats_by : World → List Plan → List Beat
beats_by w [] = []
beats_by w (p ∷ ps) = beat_of w p ∷ beats_by (world_of w p) ps

abbrev pub world_by : World → List Plan → World
world_by w [] = w
world_by w (p ∷ ps) = world_by (world_of w p) ps

abbrev pub all_may : World → List Plan → Bool
all_may w [] = true
all_may w (p ∷ ps) = may w p && all_may (world_of w p) ps

played_is_weave : (w : World) (ps : List Plan) → all_may w ps ≡ true → IsWeave w (beats_by w ps) (world_by w ps)
played_is_weave w [] e = refl
played_is_weave w (p ∷ ps) e =
    let q : (may w p ≡ true) × (all_may (world_of w p) ps ≡ true) = split _ _ e in
    (world_of w p, is_beat w p q.0, played_is_weave (world_of w p) ps q.1)

-- Beats that a plan brings about are a weave.
pub is_weave : (w : World) (ps : List Plan) (bs : List Beat) → all_may w ps ≡ true → beats_by w ps ≡ bs → IsWeave w bs (world_by w ps)
is_weave w ps bs e same = subst (λ x. IsWeave w x (world_by w ps)) same (played_is_weave w ps e)
