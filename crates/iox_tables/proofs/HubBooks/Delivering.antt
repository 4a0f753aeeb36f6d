-- As a message is delivered on lanes that do not have it, each lane still has each place once.
use Rattle.std.specs.Prelude.{◌≡◌, ℕ, Bool, true, false, ◌||◌, if◌then◌else◌, ◌==◌, List, [], ◌∷◌, Option, Some, None, is_some, slice_get, slice_set, refl}
use Rattle.std.specs.Option.{option_map, option_map_or}
use Rattle.std.proofs.Common.{sym, ap, subst, ◌∙◌, true≢false}
use Rattle.iox_model.specs.declared.way.Way.{Way}
use Rattle.iox_model.specs.Maps.{AreDistinctWays, has_number, has_way, or_else, same_way}
use Rattle.iox_laws.proofs.WeaveLaws.MapLemmas.{same_way-refl, same_way-true}
use Rattle.iox_lanes.specs.Lanes.{LaneState}
use Rattle.iox_lanes.specs.Pipes.{PipeState, with_lane}
use Rattle.iox_tables.specs.HubStates.Tables.{PortState, first_by, pipe_from, pipes_of, senders_of, with_first_by}
use Rattle.iox_tables.specs.HubStates.Ways.{lane_on, lanes_from, with_lane_on, with_lanes_on, with_pipe_from, with_pipe_of, with_pipes}
use Rattle.iox_tables.proofs.HubStates.Keys.{at_is, first_append, has_some, lane_turned}
use Rattle.iox_tables.specs.HubBooks.Counts.{OfAll, OfAllLanes}
use Rattle.iox_tables.proofs.HubBooks.Eachs.{OfPipe, OfPort, all-append, all-back, all-front, all_get, all_set}
use Rattle.std.proofs.lemmas.Bool.{or_parts}

-- ---- one of a list changes

all_with_first_at : {A : Type 0} (P : A → Type 0) (key : A → ℕ) (g : A → A) (xs : List A) (n : ℕ) → ((x : A) → first_by key xs n ≡ Some x → P x → P (g x)) → OfAll P xs
    → OfAll P (with_first_by key g xs n)
all_with_first_at P key g [] n keeps a = tt
all_with_first_at P key g (z ∷ zs) n keeps a = step (key z == n) keeps (λ k. all_with_first_at P key g zs n k a.1)
  where
    step : (b : Bool) → ((x : _) → (if b then Some z else first_by key zs n) ≡ Some x → P x → P (g x))
        → (((x : _) → first_by key zs n ≡ Some x → P x → P (g x)) → OfAll P (with_first_by key g zs n)) → OfAll P (if b then g z ∷ zs else z ∷ with_first_by key g zs n)
    step true k rest = (k z refl a.0, a.1)
    step false k rest = (a.0, rest k)

module _ (P : LaneState → Type 0) where
  pipe_keeps_at : (g : LaneState → LaneState) (q : PipeState) (i : ℕ) → ((l : LaneState) → slice_get q.lanes i ≡ Some l → P l → P (g l)) → OfPipe P q → OfPipe P (with_lane g q i)
  pipe_keeps_at g q i keeps a = step (slice_get q.lanes i) refl
    where
      step : (o : Option LaneState) → slice_get q.lanes i ≡ o → OfPipe P (option_map_or (λ l. record q { lanes = slice_set q.lanes i (g l) }) o q)
      step (Some l) is = all_set P q.lanes i (g l) a (keeps l is (all_get P q.lanes i l a is))
      step None is = a

  port_keeps_at : (h : PipeState → PipeState) (p : PortState) (s : ℕ) → ((q : PipeState) → pipe_from (pipes_of p) s ≡ Some q → OfPipe P q → OfPipe P (h q)) → OfPort P p
      → OfPort P (with_pipe_of h p s)
  port_keeps_at h p s keeps a = step (has_number s (senders_of p.expired.pipes)) (has_some p.expired.pipes s)
    where
      front : (q : PipeState) → pipe_from p.expired.pipes s ≡ Some q → OfPipe P q → OfPipe P (h q)
      front q e = keeps q (first_append (λ x. x.sender) p.expired.pipes p.incoming.pipes s ∙ ap (λ o. or_else o (pipe_from p.incoming.pipes s)) e)

      back : (o : Option PipeState) → pipe_from p.expired.pipes s ≡ o → false ≡ is_some o → (q : PipeState) → pipe_from p.incoming.pipes s ≡ Some q → OfPipe P q → OfPipe P (h q)
      back (Some x) none e q is = absurd (true≢false (sym e))
      back None none e q is = keeps q (first_append (λ x. x.sender) p.expired.pipes p.incoming.pipes s ∙ ap (λ o. or_else o (pipe_from p.incoming.pipes s)) none ∙ is)

      step : (b : Bool) → b ≡ is_some (pipe_from p.expired.pipes s)
          → OfPort P (if b then record p { expired = with_pipes p.expired (with_pipe_from h p.expired.pipes s) } else record p { incoming = with_pipes p.incoming (with_pipe_from h p.incoming.pipes s) })
      step true e =
          all-append (OfPipe P) (with_pipe_from h p.expired.pipes s) p.incoming.pipes
          (all_with_first_at (OfPipe P) (λ q. q.sender) h p.expired.pipes s front (all-front (OfPipe P) p.expired.pipes p.incoming.pipes a))
          (all-back (OfPipe P) p.expired.pipes p.incoming.pipes a)
      step false e =
          all-append (OfPipe P) p.expired.pipes (with_pipe_from h p.incoming.pipes s) (all-front (OfPipe P) p.expired.pipes p.incoming.pipes a)
          (all_with_first_at (OfPipe P) (λ q. q.sender) h p.incoming.pipes s (back (pipe_from p.expired.pipes s) refl e) (all-back (OfPipe P) p.expired.pipes p.incoming.pipes a))

  lane_keeps_at : (g : LaneState → LaneState) (ports : List PortState) (w : Way) → ((l : LaneState) → lane_on ports w ≡ Some l → P l → P (g l)) → OfAllLanes P ports
      → OfAllLanes P (with_lane_on g ports w)
  lane_keeps_at g ports w keeps a =
      all_with_first_at (OfPort P) (λ p. p.number) (λ p. with_pipe_of (λ q. with_lane g q w.lane) p w.sender) ports w.receiver
      (λ p at b. port_keeps_at (λ q. with_lane g q w.lane) p w.sender
      (λ q is c. pipe_keeps_at g q w.lane
      (λ l there. keeps l
      (ap (λ o. slice_get (lanes_from (option_map_or pipes_of o []) w.sender) w.lane) at ∙ ap (λ o. slice_get (option_map_or (λ (x : PipeState). x.lanes) o []) w.lane) is ∙ there)) c) b) a

  -- ---- several ways

  pub lanes_keep_at : (g : LaneState → LaneState) (ports : List PortState) (ws : List Way) → AreDistinctWays ws
      → ((w : Way) (l : LaneState) → has_way w ws ≡ true → lane_on ports w ≡ Some l → P l → P (g l)) → OfAllLanes P ports → OfAllLanes P (with_lanes_on g ports ws)
  lanes_keep_at g ports [] apart keeps a = a
  lanes_keep_at g ports (w ∷ ws) apart keeps a =
      lanes_keep_at g (with_lane_on g ports w) ws apart.1
      (λ v l has at. keeps v l (second (same_way v w) (has_way v ws) has) (sym (elsewhere v has) ∙ at))
      (lane_keeps_at g ports w (λ l at. keeps w l (first (same_way w w) (has_way w ws) (same_way-refl w)) at) a)
    where
      first : (b c : Bool) → b ≡ true → (b || c) ≡ true
      first b c e = ap (λ x. x || c) e

      second : (b c : Bool) → c ≡ true → (b || c) ≡ true
      second true c e = refl
      second false c e = e

      differs : (v : Way) → has_way v ws ≡ true → (b : Bool) → same_way v w ≡ b → b ≡ false
      differs v has false e = refl
      differs v has true e = absurd (true≢false (sym (subst (λ u. has_way u ws ≡ true) (same_way-true v w e) has) ∙ apart.0))

      elsewhere : (v : Way) → has_way v ws ≡ true → lane_on (with_lane_on g ports w) v ≡ lane_on ports v
      elsewhere v has =
          ap (λ on. on v) (lane_turned g ports w) ∙ at_is g (lane_on ports) w v
          ∙ ap (λ (b : Bool). if b then option_map g (lane_on ports v) else lane_on ports v) (differs v has (same_way v w) refl)

pub lane_elsewhere : (g : LaneState → LaneState) (ports : List PortState) (ws : List Way) (v : Way) → has_way v ws ≡ false → lane_on (with_lanes_on g ports ws) v ≡ lane_on ports v
lane_elsewhere g ports [] v not = refl
lane_elsewhere g ports (w ∷ ws) v not =
    let parts = or_parts (same_way v w) (has_way v ws) not in
    lane_elsewhere g (with_lane_on g ports w) ws v parts.1 ∙ ap (λ on. on v) (lane_turned g ports w) ∙ at_is g (lane_on ports) w v
    ∙ ap (λ (b : Bool). if b then option_map g (lane_on ports v) else lane_on ports v) parts.0
