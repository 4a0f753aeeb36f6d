-- The pipes of one port, one after another, and the ways from their senders.
use Rattle.std.specs.Prelude.{◌≡◌, ℕ, zero, suc, Bool, true, false, ◌&&◌, ◌||◌, if◌then◌else◌, ◌==◌, List, [], ◌∷◌, ◌++◌, Option, Some, slice_get, slice_set, refl}
use Rattle.std.specs.Option.{option_map, option_map_or}
use Rattle.std.proofs.Common.{sym, ap, ap₂, ◌∙◌, true≢false, eqb-true}
use Rattle.std.proofs.lemmas.Option.{none-some}
use Rattle.iox_model.specs.declared.way.Way.{Way}
use Rattle.iox_model.specs.Maps.{has_number, put, put_at, AreDistinct}
use Rattle.iox_laws.proofs.WeaveLaws.MapLemmas.{eqb-refl}
use Rattle.iox_lanes.specs.Lanes.{LaneState}
use Rattle.iox_lanes.specs.Pipes.{PipeState, with_lane}
use Rattle.iox_tables.specs.HubStates.Tables.{pipe_from, senders_of}
use Rattle.iox_tables.specs.HubStates.Ways.{OnWays, at, lane_by, with_pipe_from}
use Rattle.iox_tables.proofs.HubStates.Keys.{at_is, first_changed, flip, in_pipe, lane_sender, lane_sets, reorder}
use Rattle.std.proofs.lemmas.Bool.{or_parts}

-- ---- among others

-- no pipe of these comes from there
abbrev pub IsNone : List PipeState → ℕ → Type 0
IsNone ps sender = has_number sender (senders_of ps) ≡ false

-- a pipe behind those of others is the first from its sender
pub pipe_there : (done ps : List PipeState) (p : PipeState) → IsNone done p.sender → pipe_from (done ++ p ∷ ps) p.sender ≡ Some p
pipe_there [] ps p none = ap (λ (b : Bool). if b then Some p else pipe_from ps p.sender) (eqb-refl p.sender)
pipe_there (d ∷ ds) ps p none =
    let parts = or_parts (d.sender == p.sender) (has_number p.sender (senders_of ds)) none in
    ap (λ (b : Bool). if b then Some d else pipe_from (ds ++ p ∷ ps) p.sender) parts.0 ∙ pipe_there ds ps p parts.1

pub pipe_split : (h : PipeState → PipeState) (done ps : List PipeState) (p : PipeState) → IsNone done p.sender
    → with_pipe_from h (done ++ p ∷ ps) p.sender ≡ done ++ h p ∷ ps
pipe_split h [] ps p none = ap (λ (b : Bool). if b then h p ∷ ps else p ∷ with_pipe_from h ps p.sender) (eqb-refl p.sender)
pipe_split h (d ∷ ds) ps p none =
    let parts = or_parts (d.sender == p.sender) (has_number p.sender (senders_of ds)) none in
    ap (λ (b : Bool). if b then h d ∷ (ds ++ p ∷ ps) else d ∷ with_pipe_from h (ds ++ p ∷ ps) p.sender) parts.0 ∙ ap (λ qs. d ∷ qs) (pipe_split h ds ps p parts.1)

pub none_before : (done ps : List PipeState) (p : PipeState) → AreDistinct (senders_of (done ++ p ∷ ps)) → IsNone done p.sender
none_before [] ps p apart = refl
none_before (d ∷ ds) ps p apart =
    ap₂ (λ a b. a || b) (flip d.sender p.sender ∙ off ds apart.0) (none_before ds ps p apart.1)
  where
    off : (qs : List PipeState) → has_number d.sender (senders_of (qs ++ p ∷ ps)) ≡ false → (p.sender == d.sender) ≡ false
    off [] e = (or_parts (p.sender == d.sender) (has_number d.sender (senders_of ps)) e).0
    off (q ∷ qs) e = off qs (or_parts (q.sender == d.sender) (has_number d.sender (senders_of (qs ++ p ∷ ps))) e).1

pub same_senders : (done ps : List PipeState) (p q : PipeState) → q.sender ≡ p.sender → senders_of (done ++ q ∷ ps) ≡ senders_of (done ++ p ∷ ps)
same_senders [] ps p q e = ap (λ n. n ∷ senders_of ps) e
same_senders (d ∷ ds) ps p q e = ap (λ ns. d.sender ∷ ns) (same_senders ds ps p q e)

pub set_same : {A : Type 0} (xs : List A) (i : ℕ) (x : A) → slice_get xs i ≡ Some x → slice_set xs i x ≡ xs
set_same [] i x e = absurd (none-some x e)
set_same (y ∷ ys) zero x e = ap (λ (o : Option _). option_map_or (λ z. z ∷ ys) o []) (sym e)
set_same (y ∷ ys) (suc i) x e = ap (λ zs. y ∷ zs) (set_same ys i x e)

pub put_at_same : {A : Type 0} (g : ℕ → A) (n : ℕ) → put_at g n (g n) ≡ g
put_at_same g n = λ i k. there k (k == n) refl i
  where
    there : (k : ℕ) (b : Bool) → (k == n) ≡ b → (if b then g n else g k) ≡ g k
    there k true e = ap g (sym (eqb-true k n e))
    there k false e = refl

-- ---- the lanes of one port

module _ (base : ℕ → List PipeState) (n lane : ℕ) where
  -- the lanes of all ways, where these are the port's pipes
  abbrev pub lanes : List PipeState → OnWays LaneState
  lanes qs = lane_by (put_at base n qs)

  abbrev pub way : ℕ → Way
  way sender = record { sender = sender; receiver = n; lane = lane }

  pub lane_there : (done ps : List PipeState) (p : PipeState) → IsNone done p.sender → lanes (done ++ p ∷ ps) (way p.sender) ≡ slice_get p.lanes lane
  lane_there done ps p none =
      ap (λ (b : Bool). slice_get (option_map_or (λ q. q.lanes) (pipe_from (if b then done ++ p ∷ ps else base n) p.sender) []) lane) (eqb-refl n)
      ∙ ap (λ o. slice_get (option_map_or (λ q. q.lanes) o []) lane) (pipe_there done ps p none)

  changed_in : (g : LaneState → LaneState) (qs : List PipeState) (s : ℕ) → lanes (with_pipe_from (λ q. with_lane g q lane) qs s) ≡ at g (lanes qs) (way s)
  changed_in g qs s = λ i v. (
      step v (v.receiver == n)
      ∙ reorder (v.sender == s) (v.receiver == n) (v.lane == lane) (option_map g (lanes qs v)) (lanes qs v)
      ∙ sym (at_is g (lanes qs) (way s) v)) i
    where
      both : (a c : Bool) (x : Option LaneState) → (if a then (if c then option_map g x else x) else x) ≡ (if a && c then option_map g x else x)
      both true c x = refl
      both false c x = refl

      step : (v : Way) (b : Bool)
          → slice_get (option_map_or (λ q. q.lanes) (pipe_from (if b then with_pipe_from (λ q. with_lane g q lane) qs s else base v.receiver) v.sender) []) v.lane
          ≡ (if b && ((v.sender == s) && (v.lane == lane))
          then option_map g (slice_get (option_map_or (λ q. q.lanes) (pipe_from (if b then qs else base v.receiver) v.sender) []) v.lane)
          else slice_get (option_map_or (λ q. q.lanes) (pipe_from (if b then qs else base v.receiver) v.sender) []) v.lane)
      step v true =
          ap (λ o. slice_get (option_map_or (λ q. q.lanes) o []) v.lane)
          (first_changed (λ q. q.sender) (λ q. with_lane g q lane) (lane_sender g lane) qs s v.sender)
          ∙ in_pipe (λ q. with_lane g q lane) (lane_sender g lane) (λ q. q.lanes) g lane (lane_sets g lane) (pipe_from qs v.sender) (v.sender == s) v.lane
          ∙ both (v.sender == s) (v.lane == lane) (slice_get (option_map_or (λ q. q.lanes) (pipe_from qs v.sender) []) v.lane)
      step v false = refl

  -- another lane of one pipe is another lane of one way
  pub lane_put : (done ps : List PipeState) (p : PipeState) (l m : LaneState) → IsNone done p.sender → slice_get p.lanes lane ≡ Some l
      → lanes (done ++ record p { lanes = slice_set p.lanes lane m } ∷ ps) ≡ put (lanes (done ++ p ∷ ps)) (way p.sender) (Some m)
  lane_put done ps p l m none there =
      ap (λ o. lanes (done ++ option_map_or (λ k. record p { lanes = slice_set p.lanes lane m }) o p ∷ ps)) (sym there)
      ∙ ap lanes (sym (pipe_split (λ q. with_lane (λ k. m) q lane) done ps p none))
      ∙ changed_in (λ k. m) (done ++ p ∷ ps) p.sender
      ∙ ap (λ o. put (lanes (done ++ p ∷ ps)) (way p.sender) (option_map (λ k. m) o)) (lane_there done ps p none ∙ there)
