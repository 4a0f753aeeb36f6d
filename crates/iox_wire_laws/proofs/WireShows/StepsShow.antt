-- The parts of a shown world, put together again after an access.
use Rattle.std.proofs.Common.{◌≡◌, ℕ, Bool, true, false, if◌then◌else◌, ◌==◌, Option, Some, None, refl, ap, sym, subst, ◌∙◌, eqb-true}
use Rattle.iox_model.specs.Joins.{not_living}
use Rattle.iox_model.specs.Maps.{put_at}
use Rattle.iox_model.specs.Moments.{Moment, Deliver, Evict, Take, GiveBack, GetBack, SeesEmpty, SeesWaiting, SeesFull, SeesRoom, SeesNoneBack, Open, Close, Hint, Look, moved}
use Rattle.iox_model.specs.States.{State}
use Rattle.iox_model.specs.Weaves.{World, Makes, IsBeat}
use Rattle.iox_laws.proofs.WeaveBeats.LiveWays.{beats_are_reachable}
use Rattle.iox_laws.proofs.WeaveLaws.WholeLemmas.{moved-fixed}
use Rattle.iox_steps.specs.Accesses.{seen_by}
use Rattle.iox_wire_words.specs.Programs.{Program, program_access}
use Rattle.iox_wire_words.specs.Fits.{WireContents, WordsFit, contents_after}
use Rattle.iox_wire_moments.specs.MomentsOf.{Pools}
use Rattle.iox_wire_moments.specs.Ties.{Suits}
use Rattle.iox_wire_locals.specs.declared.seat.Seat.{Seat}
use Rattle.iox_wire_locals.specs.BeginLaws.{Counts}
use Rattle.iox_wire_locals.specs.Locals.{program_of}
use Rattle.iox_wire_locals.specs.StateMoments.{moment_at}
use Rattle.iox_wire_locals.specs.Steps.{advance, accessed}
use Rattle.iox_wire_locals.specs.Tables.{Setting}
use Rattle.iox_wire_laws.specs.WireKeeping.OwnParts.{KeepsOwn}
use Rattle.iox_wire_laws.specs.WireKeeping.Readiness.{ShowsDoing}
use Rattle.iox_wire_laws.specs.WireKeeping.Shows.{ShowsWorld, programs_of}
use Rattle.iox_wire_laws.specs.WireKeeping.StepBeats.{ShowsNode, ShowsStep}
use Rattle.iox_wire_laws.proofs.WireKeeping.CountsKept.{by_part, steps_keep_own, own_stays_counted}
use Rattle.iox_wire_laws.proofs.WireKeeping.OthersKept.{others_keep_counts}
use Rattle.iox_wire_laws.proofs.WireKeeping.StepBeats.{steps_are_beats}
use Rattle.iox_wire_laws.specs.WireShows.Ids.{AreSmallIds, AreSmallAfter}
use Rattle.iox_wire_laws.specs.WireShows.StepsShow.{ShowsNext, StepsShowTheWorld}
use Rattle.iox_wire_laws.proofs.WireShows.Ids.{ids_stay_small}
use Rattle.iox_wire_laws.proofs.WireShows.NextPrograms.{next_programs_fit}

pub moved_living : (s : State) (m : Moment) (k : ℕ) → not_living (moved s m) k ≡ not_living s k
moved_living s (Deliver w x) k = refl
moved_living s (Evict w) k = refl
moved_living s (Take w x) k = refl
moved_living s (GiveBack w i) k = refl
moved_living s (GetBack w i) k = refl
moved_living s (SeesEmpty w) k = refl
moved_living s (SeesWaiting w) k = refl
moved_living s (SeesFull w) k = refl
moved_living s (SeesRoom w) k = refl
moved_living s (SeesNoneBack w) k = refl
moved_living s (Open w id) k = refl
moved_living s (Close w id) k = refl
moved_living s (Hint w id) k = refl
moved_living s (Look w shown) k = refl

-- what holds of the node's new seat and of all other seats, holds of each seat
pub seat_put : (P : ℕ → Seat → Type 0) (seats : ℕ → Seat) (n : ℕ) (y : Seat) → P n y → ((k : ℕ) → (k == n) ≡ false → P k (seats k))
    → (k : ℕ) → P k (put_at seats n y k)
seat_put P seats n y here others k = at (k == n) refl
  where
    at : (b : Bool) → (k == n) ≡ b → P k (if b then y else seats k)
    at true is = subst (λ i. P i y) (sym (eqb-true k n is)) here
    at false is = others k is

module _ (p : Setting) (held : Pools) (word word' : ℕ → ℕ) (c c' : WireContents) (seats : ℕ → Seat) (w : World) (n : ℕ)
    (shows : ShowsWorld p held word c seats w) (y : Seat) (same : KeepsOwn (seats n) y)
    (words : WordsFit p.layout word' (programs_of p (put_at seats n y)) c') (living : not_living w.state n ≡ None) where
  node_of : (k : ℕ) → (put_at seats n y k).node ≡ k
  node_of = seat_put (λ k (x : Seat). x.node ≡ k) seats n y (same.node ∙ shows.node n) (λ k other. shows.node k)

  other_node : (k : ℕ) → (k == n) ≡ false → ((seats k).node == n) ≡ false
  other_node k other = rw (shows.node k) other

  quiet : AreSmallIds w.state → ShowsNode p held c' w y → ShowsWorld p held word' c' (put_at seats n y) w
  quiet ids shown = record {
    reachable = shows.reachable;
    sized = shows.sized;
    suits = shows.suits;
    words = words;
    ties = shown.1;
    states = shown.2;
    ids = ids;
    node = node_of;
    counts =
        seat_put (λ k x. not_living w.state k ≡ None → Counts p x w.state held) seats n y
        (λ lives. by_part p (seats n) y w.state held same (shows.counts n lives)) (λ k other. shows.counts k);
    doing = seat_put (λ k x. not_living w.state k ≡ None → ShowsDoing p held w x) seats n y (λ lives. shown.0) (λ k other. shows.doing k);
  }

  made : (m : Moment) (u : World) → AreSmallIds (moved w.state m) → IsBeat w (Makes n m) u → ShowsNode p held c' u y
      → ShowsWorld p held word' c' (put_at seats n y) u
  made m u ids beat shown =
      let is : u.state ≡ moved w.state m = ap (λ (v : World). v.state) beat.5 in
      let lives : (k : ℕ) → not_living u.state k ≡ None → not_living w.state k ≡ None
      = λ k l. sym (moved_living w.state m k) ∙ subst (λ s. not_living s k ≡ None) is l in
      let others : (k : ℕ) → (k == n) ≡ false → not_living u.state k ≡ None → Counts p (seats k) u.state held × ShowsDoing p held u (seats k)
      = λ k other l. others_keep_counts p held w u (Makes n m) (seats k) shows.reachable beat (other_node k other)
      (shows.counts k (lives k l)) (shows.doing k (lives k l)) in
      record {
        reachable = beats_are_reachable w u (Makes n m) shows.reachable beat;
        sized = shows.sized;
        suits = subst (Suits p.layout) (sym (ap (λ (s : State). s.fixed) is ∙ moved-fixed w.state m)) shows.suits;
        words = words;
        ties = shown.1;
        states = shown.2;
        ids = subst AreSmallIds (sym is) ids;
        node = node_of;
        counts =
            seat_put (λ k x. not_living u.state k ≡ None → Counts p x u.state held) seats n y
            (λ l. subst (λ s. Counts p y s held) (sym is) (own_stays_counted p (seats n) y w.state m held same (shows.counts n living)).1)
            (λ k other l. (others k other l).0);
        doing = seat_put (λ k x. not_living u.state k ≡ None → ShowsDoing p held u x) seats n y (λ l. shown.0) (λ k other l. (others k other l).1);
      }

  shows_next : (o : Option Moment) → AreSmallAfter w.state o → ShowsStep p held c' w (seats n) y o
      → ShowsNext p held word' c' (put_at seats n y) w n o
  shows_next None ids step = quiet ids step
  shows_next (Some m) ids step =
      let beat : IsBeat w (Makes n m) step.0 = subst (λ k. IsBeat w (Makes k m) step.0) (shows.node n) step.1 in
      (step.0, beat, made m step.0 ids beat step.2)

pub steps_show_the_world : StepsShowTheWorld
steps_show_the_world p held word word' c seats w n shows living owns small relies is =
    let x : Seat = seats n in let program : Program = program_of p x.local in
    let seen : ℕ = seen_by (program_access p.layout program) word in
    let y : Seat = advance p (accessed x) x.local seen in
    shows_next p held word word' c (contents_after p.layout program seen c) seats w n shows y (steps_keep_own p x seen)
    (next_programs_fit p held word word' c seats w n shows living owns relies is) living (moment_at p held x.local seen)
    (ids_stay_small p held w.state x.local seen shows.ids small)
    (steps_are_beats p held word c seats w n shows living owns relies)
