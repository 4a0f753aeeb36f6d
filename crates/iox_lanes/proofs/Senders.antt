-- The first pipe from a sender, and its rank.
use Rattle.std.proofs.Common.{◌≡◌, ◌==◌, ◌+◌, ◌<◌, ℕ, zero, suc, Bool, true, false, cond, List, [], ◌∷◌, Option, Some, None, drop, length, get_or, slice_set, refl, sym, ap, ◌∙◌, arith, add-one}
use Rattle.std.proofs.lemmas.Bool.{eq-eqb, eqb-true}
use Rattle.std.proofs.lemmas.Option.{slice_get_read, slice_get_within}
use Rattle.std.specs.List.{position_from}
use Rattle.std.specs.Option.{option_map_or}
use Rattle.std.specs.Prelude.{IfSome, slice_get}
use Rattle.iox_lanes.specs.Incomings.{IncomingState, IsFirstAt, on_pipe_by, rank_from}
use Rattle.iox_lanes.specs.Lanes.{LaneState}
use Rattle.iox_lanes.specs.Pipes.{PipeState, with_lane}
use Rattle.iox_lanes.proofs.Kept.{there}
use Rattle.iox_lanes.proofs.Visiting.{drop_at}

-- ---- a pipe is looked at

module _ (ps : List PipeState) (s i : ℕ) (p : PipeState) (e : Some p ≡ slice_get ps i) where
  first : drop i ps ≡ p ∷ drop (suc i) ps
  first = drop_at ps i p (slice_get_within ps i p (sym e)) (there ps i p e)

  -- it is the first from the sender
  pub found_here : p.sender ≡ s → position_from (λ q. q.sender == s) i (drop i ps) ≡ Some i
  found_here is =
      ap (λ (qs : List PipeState). position_from (λ q. q.sender == s) i qs) first
      ∙ ap (λ (b : Bool). cond b (Some i) (position_from (λ q. q.sender == s) (i + 1) (drop (suc i) ps))) (eq-eqb p.sender s is)

  -- it is from another
  pub found_behind : (p.sender ≡ s → ⊥)
      → position_from (λ q. q.sender == s) i (drop i ps) ≡ position_from (λ q. q.sender == s) (i + 1) (drop (i + 1) ps)
  found_behind is =
      ap (λ (qs : List PipeState). position_from (λ q. q.sender == s) i qs) first
      ∙ ap (λ (b : Bool). cond b (Some i) (position_from (λ q. q.sender == s) (i + 1) (drop (suc i) ps))) (other (p.sender == s) (λ t. is (eqb-true p.sender s t)))
      ∙ ap (λ (n : ℕ). position_from (λ q. q.sender == s) (i + 1) (drop n ps)) (sym (add-one i))
    where
      other : (b : Bool) → (b ≡ true → ⊥) → b ≡ false
      other true h = absurd (h refl)
      other false h = refl

-- where the hint is right, the pipe there is the first from its sender
pub first_at : (ps : List PipeState) (rank sender : ℕ) (p : PipeState) → IsFirstAt ps rank → rank < length ps → p ≡ get_or ps rank p
    → p.sender ≡ sender → Some rank ≡ rank_from ps sender
first_at ps rank sender p once h e is =
    sym (ap (λ (s : ℕ). rank_from ps s) (sym is) ∙ once p (slice_get_read ps (length ps) rank p refl h e))

-- ---- a pipe is changed

-- the ranks of senders stay as a pipe changes, and its sender does not
rank_stays : (ps : List PipeState) (i s n : ℕ) (p q : PipeState) → p ≡ get_or ps i p → q.sender ≡ p.sender
    → position_from (λ r. r.sender == s) n (slice_set ps i q) ≡ position_from (λ r. r.sender == s) n ps
rank_stays [] i s n p q e same = refl
rank_stays (x ∷ xs) zero s n p q e same =
    ap (λ (k : ℕ). cond (k == s) (Some n) (position_from (λ r. r.sender == s) (n + 1) xs)) (same ∙ ap (λ (r : PipeState). r.sender) e)
rank_stays (x ∷ xs) (suc i) s n p q e same =
    ap (λ (o : Option ℕ). cond (x.sender == s) (Some n) o) (rank_stays xs i s (n + 1) p q e same)

set_there : {A : Type 0} (xs : List A) (i : ℕ) (y : A) → i < length xs → slice_get (slice_set xs i y) i ≡ Some y
set_there [] i y h = absurd (omega (arith, h))
set_there (x ∷ xs) zero y h = refl
set_there (x ∷ xs) (suc i) y h = set_there xs i y (omega (arith, h))

-- what is asked of the pipe from the sender is asked of the changed one
pub told_again : {A : Type 0} (f : PipeState → A) (none : A) (c : IncomingState) (s i : ℕ) (p q : PipeState) → rank_from c.pipes s ≡ Some i
    → i < length c.pipes → p ≡ get_or c.pipes i p → q.sender ≡ p.sender → on_pipe_by f none (record c { pipes = slice_set c.pipes i q }) s ≡ f q
told_again f none c s i p q is h e same =
    ap (λ (o : Option ℕ). option_map_or (λ r. option_map_or f (slice_get (slice_set c.pipes i q) r) none) o none)
    (rank_stays c.pipes i s 0 p q e same ∙ is)
    ∙ ap (λ (o : Option PipeState). option_map_or f o none) (set_there c.pipes i q h)

-- the sender of a pipe stays as one of its lanes changes
pub lane_sender : (g : LaneState → LaneState) (p : PipeState) (lane : ℕ) → (with_lane g p lane).sender ≡ p.sender
lane_sender g p lane = step (slice_get p.lanes lane)
  where
    step : (o : Option LaneState) → (option_map_or (λ l. record p { lanes = slice_set p.lanes lane (g l) }) o p).sender ≡ p.sender
    step (Some l) = refl
    step None = refl

-- what follows from two clauses on one value
pub both_of : {X : Type 0} (o : Option X) {P Q R : X → Type 0} → IfSome o P → IfSome o Q → ((x : X) → P x → Q x → R x) → IfSome o R
both_of None p q f = tt
both_of (Some x) p q f = f x p q
