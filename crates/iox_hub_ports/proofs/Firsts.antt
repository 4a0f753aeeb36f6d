-- What is found by a number, and changed where it is found.
use Rattle.std.specs.Prelude.{◌≡◌, ℕ, suc, ◌+◌, Bool, true, false, if◌then◌else◌, ◌==◌, List, [], ◌∷◌, Option, Some, None, is_some, slice_get, refl}
use Rattle.std.specs.List.{position_from, remove}
use Rattle.std.specs.Option.{option_map_or}
use Rattle.std.proofs.Common.{sym, ap, ◌∙◌, cond, arith}
use Rattle.std.proofs.lemmas.Bool.{false≢true}
use Rattle.std.proofs.lemmas.Option.{none-some}
use Rattle.iox_model.specs.Maps.{has_number, or_else}
use Rattle.iox_tables.specs.Incomings.{IncomingState, disconnected, on_lane_of, on_pipe_by, rank_from, with_pipe, with_pipe_by}
use Rattle.iox_tables.specs.Lanes.{LaneState}
use Rattle.iox_tables.specs.Pipes.{PipeState, on_lane}
use Rattle.iox_tables.specs.HubStates.Tables.{PortState, first_by, pipe_from, pipes_of, senders_of, with_first_by}
use Rattle.iox_tables.specs.HubStates.Ways.{with_pipe_of, with_pipe_from, with_pipes}
use Rattle.iox_tables.proofs.HubStates.Keys.{first_append, has_some}
use Rattle.iox_tables.proofs.HubStates.Placing.{ranks_are_of_senders}
use Rattle.iox_hub_ports.specs.Ports.{on_lane_from, without_pipe_from}
use Rattle.iox_tables.specs.HubMaking.OneByOne.{without_first_by}

-- ---- the first of a number

pub some_first : {A : Type 0} (key : A → ℕ) (xs : List A) (s n i : ℕ) → position_from (λ x. key x == s) n xs ≡ Some i
    → is_some (first_by key xs s) ≡ true
some_first key [] s n i e = absurd (false≢true (ap (λ (o : Option ℕ). is_some o) e))
some_first key (x ∷ xs) s n i e = step (key x == s) (some_first key xs s (n + 1) i) e
  where
    step : (b : Bool) → (position_from (λ x. key x == s) (n + 1) xs ≡ Some i → is_some (first_by key xs s) ≡ true)
        → cond b (Some n) (position_from (λ x. key x == s) (n + 1) xs) ≡ Some i → is_some (if b then Some x else first_by key xs s) ≡ true
    step true more h = refl
    step false more h = more h

pub none_first : {A : Type 0} (key : A → ℕ) (xs : List A) (s n : ℕ) → position_from (λ x. key x == s) n xs ≡ None
    → first_by key xs s ≡ None
none_first key [] s n e = refl
none_first key (x ∷ xs) s n e = step (key x == s) (none_first key xs s (n + 1)) e
  where
    step : (b : Bool) → (position_from (λ x. key x == s) (n + 1) xs ≡ None → first_by key xs s ≡ None)
        → cond b (Some n) (position_from (λ x. key x == s) (n + 1) xs) ≡ None → (if b then Some x else first_by key xs s) ≡ None
    step true more h = absurd (none-some n (sym h))
    step false more h = more h

pub none_changed : {A : Type 0} (key : A → ℕ) (f : A → A) (xs : List A) (s n : ℕ) → position_from (λ x. key x == s) n xs ≡ None
    → with_first_by key f xs s ≡ xs
none_changed key f [] s n e = refl
none_changed key f (x ∷ xs) s n e = step (key x == s) (none_changed key f xs s (n + 1)) e
  where
    step : (b : Bool) → (position_from (λ x. key x == s) (n + 1) xs ≡ None → with_first_by key f xs s ≡ xs)
        → cond b (Some n) (position_from (λ x. key x == s) (n + 1) xs) ≡ None → (if b then f x ∷ xs else x ∷ with_first_by key f xs s) ≡ x ∷ xs
    step true more h = absurd (none-some n (sym h))
    step false more h = ap (λ ys. x ∷ ys) (more h)

pub none_gone : {A : Type 0} (key : A → ℕ) (xs : List A) (s n : ℕ) → position_from (λ x. key x == s) n xs ≡ None
    → without_first_by key xs s ≡ xs
none_gone key [] s n e = refl
none_gone key (x ∷ xs) s n e = step (key x == s) (none_gone key xs s (n + 1)) e
  where
    step : (b : Bool) → (position_from (λ x. key x == s) (n + 1) xs ≡ None → without_first_by key xs s ≡ xs)
        → cond b (Some n) (position_from (λ x. key x == s) (n + 1) xs) ≡ None → (if b then xs else x ∷ without_first_by key xs s) ≡ x ∷ xs
    step true more h = absurd (none-some n (sym h))
    step false more h = ap (λ ys. x ∷ ys) (more h)

-- what is taken out at the place of a number is the first of that number
record Gone {A : Type 0} (key : A → ℕ) (xs : List A) (s n i : ℕ) : Type 0 where
  at : ℕ
  is : i ≡ at + n
  goes : remove xs at ≡ without_first_by key xs s

gone : {A : Type 0} (key : A → ℕ) (xs : List A) (s n i : ℕ) → position_from (λ x. key x == s) n xs ≡ Some i → Gone key xs s n i
gone key [] s n i e = absurd (false≢true (ap (λ (o : Option ℕ). is_some o) e))
gone key (x ∷ xs) s n i e = step (key x == s) refl (gone key xs s (n + 1) i) e
  where
    step : (b : Bool) → (key x == s) ≡ b → (position_from (λ x. key x == s) (n + 1) xs ≡ Some i → Gone key xs s (n + 1) i)
        → cond b (Some n) (position_from (λ x. key x == s) (n + 1) xs) ≡ Some i → Gone key (x ∷ xs) s n i
    step true is more h = record {
      at = 0;
      is = omega (arith, ap (λ (o : Option ℕ). option_map_or (λ k. k) o 0) h);
      goes = ap (λ (b : Bool). if b then xs else x ∷ without_first_by key xs s) (sym is);
    }
    step false is more h =
        let r : Gone key xs s (n + 1) i = more h in record {
          at = suc r.at;
          is = omega (arith, r.is);
          goes = ap (λ ys. x ∷ ys) r.goes ∙ ap (λ (b : Bool). if b then xs else x ∷ without_first_by key xs s) (sym is);
        }

pub first_gone : {A : Type 0} (key : A → ℕ) (xs : List A) (s i : ℕ) → position_from (λ x. key x == s) 0 xs ≡ Some i
    → remove xs i ≡ without_first_by key xs s
first_gone key xs s i e =
    let r : Gone key xs s 0 i = gone key xs s 0 i e in
    ap (λ j. remove xs j) (omega (arith, r.is)) ∙ r.goes

-- ---- the pipe from a sender

-- there is one among those that have expired
pub from_expired : (p : PortState) (s r : ℕ) → rank_from p.expired.pipes s ≡ Some r
    → slice_get p.expired.pipes r ≡ pipe_from (pipes_of p) s
from_expired p s r e =
    (ranks_are_of_senders p.expired s r e).pipe
    ∙ first (pipe_from p.expired.pipes s) (some_first (λ q. q.sender) p.expired.pipes s 0 r e)
    ∙ sym (first_append (λ q. q.sender) p.expired.pipes p.incoming.pipes s)
  where
    first : (o : Option PipeState) → is_some o ≡ true → o ≡ or_else o (pipe_from p.incoming.pipes s)
    first (Some q) h = refl
    first None h = absurd (false≢true h)

-- there is none among those, but one among the others
from_incoming : (p : PortState) (s r : ℕ) → rank_from p.expired.pipes s ≡ None → rank_from p.incoming.pipes s ≡ Some r
    → slice_get p.incoming.pipes r ≡ pipe_from (pipes_of p) s
from_incoming p s r none e =
    (ranks_are_of_senders p.incoming s r e).pipe
    ∙ ap (λ o. or_else o (pipe_from p.incoming.pipes s)) (sym (none_first (λ q. q.sender) p.expired.pipes s 0 none))
    ∙ sym (first_append (λ q. q.sender) p.expired.pipes p.incoming.pipes s)

-- there is none
from_nobody : (p : PortState) (s : ℕ) → rank_from p.expired.pipes s ≡ None → rank_from p.incoming.pipes s ≡ None
    → None ≡ pipe_from (pipes_of p) s
from_nobody p s none neither =
    sym (none_first (λ q. q.sender) p.incoming.pipes s 0 neither)
    ∙ ap (λ o. or_else o (pipe_from p.incoming.pipes s)) (sym (none_first (λ q. q.sender) p.expired.pipes s 0 none))
    ∙ sym (first_append (λ q. q.sender) p.expired.pipes p.incoming.pipes s)

pub lane_there : {A : Type 0} (f : LaneState → A) (none : A) (lane : ℕ) (o : Option PipeState)
    → option_map_or (λ q. on_lane f none q lane) o none ≡ option_map_or f (slice_get (option_map_or (λ q. q.lanes) o []) lane) none
lane_there f none lane (Some q) = refl
lane_there f none lane None = refl

module _ (p : PortState) (s : ℕ) where
  -- there is none among the expired: what is asked of the pipe from a connected sender is asked of the one from this sender
  pub asked_other : {A : Type 0} (f : PipeState → A) (none : A) → rank_from p.expired.pipes s ≡ None
      → on_pipe_by f none p.incoming s ≡ option_map_or f (pipe_from (pipes_of p) s) none
  asked_other {A} f none off = step (rank_from p.incoming.pipes s) refl
    where
      step : (o : Option ℕ) → rank_from p.incoming.pipes s ≡ o
          → option_map_or (λ r. option_map_or f (slice_get p.incoming.pipes r) none) o none ≡ option_map_or f (pipe_from (pipes_of p) s) none
      step (Some r) e = ap (λ (o : Option PipeState). option_map_or f o none) (from_incoming p s r off e)
      step None e = ap (λ (o : Option PipeState). option_map_or f o none) (from_nobody p s off e)

  pub from_other : rank_from p.expired.pipes s ≡ None → on_pipe_by (λ q. Some q) None p.incoming s ≡ pipe_from (pipes_of p) s
  from_other off = asked_other (λ q. Some q) None off ∙ same (pipe_from (pipes_of p) s)
    where
      same : (o : Option PipeState) → option_map_or (λ q. Some q) o None ≡ o
      same (Some q) = refl
      same None = refl

module _ {A : Type 0} (f : LaneState → A) (none : A) (p : PortState) (s lane : ℕ) where
  pub told_expired : (r : ℕ) → rank_from p.expired.pipes s ≡ Some r → on_lane_of f none p.expired r lane ≡ on_lane_from f none p s lane
  told_expired r e = ap (λ o. option_map_or (λ q. on_lane f none q lane) o none) (from_expired p s r e) ∙ lane_there f none lane (pipe_from (pipes_of p) s)

  pub told_other : rank_from p.expired.pipes s ≡ None → on_pipe_by (λ q. on_lane f none q lane) none p.incoming s ≡ on_lane_from f none p s lane
  told_other off = asked_other p s (λ q. on_lane f none q lane) none off ∙ lane_there f none lane (pipe_from (pipes_of p) s)

module _ (h : PipeState → PipeState) (p : PortState) (s : ℕ) where
  abbrev either : Bool → PortState
  either b =
      if b then record p { expired = with_pipes p.expired (with_pipe_from h p.expired.pipes s) }
      else record p { incoming = with_pipes p.incoming (with_pipe_from h p.incoming.pipes s) }

  pub changed_expired : (r : ℕ) → rank_from p.expired.pipes s ≡ Some r → record p { expired = with_pipe h p.expired r } ≡ with_pipe_of h p s
  changed_expired r e =
      ap (λ (c : IncomingState). record p { expired = c }) ((ranks_are_of_senders p.expired s r e).changes h)
      ∙ ap either (sym (has_some p.expired.pipes s ∙ some_first (λ q. q.sender) p.expired.pipes s 0 r e))

  none_there : rank_from p.expired.pipes s ≡ None → has_number s (senders_of p.expired.pipes) ≡ false
  none_there off = has_some p.expired.pipes s ∙ ap (λ (o : Option PipeState). is_some o) (none_first (λ q. q.sender) p.expired.pipes s 0 off)

  pub changed_other : rank_from p.expired.pipes s ≡ None → record p { incoming = with_pipe_by h p.incoming s } ≡ with_pipe_of h p s
  changed_other off = step (rank_from p.incoming.pipes s) refl ∙ ap either (sym (none_there off))
    where
      step : (o : Option ℕ) → rank_from p.incoming.pipes s ≡ o
          → record p { incoming = option_map_or (λ r. with_pipe h p.incoming r) o p.incoming } ≡ either false
      step (Some r) e = ap (λ (c : IncomingState). record p { incoming = c }) ((ranks_are_of_senders p.incoming s r e).changes h)
      step None e = ap (λ (qs : List PipeState). record p { incoming = with_pipes p.incoming qs }) (sym (none_changed (λ q. q.sender) h p.incoming.pipes s 0 e))

-- ---- the pipe from a connected sender goes

pub pipe_gone : (p : PortState) (s r : ℕ) → rank_from p.incoming.pipes s ≡ Some r
    → record p { incoming = disconnected p.incoming r } ≡ without_pipe_from p s
pipe_gone p s r e =
    ap (λ (o : Option PipeState). record p { incoming = option_map_or (λ q. with_pipes p.incoming (remove p.incoming.pipes r)) o p.incoming })
    (ranks_are_of_senders p.incoming s r e).pipe
    ∙ there (pipe_from p.incoming.pipes s) (some_first (λ q. q.sender) p.incoming.pipes s 0 r e)
    ∙ ap (λ (qs : List PipeState). record p { incoming = with_pipes p.incoming qs }) (first_gone (λ q. q.sender) p.incoming.pipes s r e)
  where
    there : (o : Option PipeState) → is_some o ≡ true
        → record p { incoming = option_map_or (λ q. with_pipes p.incoming (remove p.incoming.pipes r)) o p.incoming }
        ≡ record p { incoming = with_pipes p.incoming (remove p.incoming.pipes r) }
    there (Some q) h = refl
    there None h = absurd (false≢true h)

pub no_pipe_gone : (p : PortState) (s : ℕ) → rank_from p.incoming.pipes s ≡ None → p ≡ without_pipe_from p s
no_pipe_gone p s e =
    ap (λ (qs : List PipeState). record p { incoming = with_pipes p.incoming qs }) (sym (none_gone (λ q. q.sender) p.incoming.pipes s 0 e))
