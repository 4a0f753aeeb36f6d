-- Each pipe of a port is the first from its sender, where no sender comes twice; and this stays so through a walk.
use Rattle.std.specs.Prelude.{◌≡◌, ℕ, zero, suc, Bool, true, false, if◌then◌else◌, List, [], ◌∷◌, ◌++◌, slice_get, slice_set, Option, Some, None, refl}
use Rattle.std.specs.Option.{option_map_or}
use Rattle.std.proofs.Common.{sym, ap, subst, ◌∙◌}
use Rattle.std.proofs.lemmas.Option.{same_Some}
use Rattle.iox_model.specs.Maps.{AreDistinct, has_number}
use Rattle.iox_tables.specs.Pipes.{PipeState}
use Rattle.iox_tables.specs.HubStates.Tables.{PortState, pipes_of, senders_of}
use Rattle.iox_tables.specs.HubStates.Ways.{with_pipe_from, with_pipe_of, with_pipes}
use Rattle.iox_tables.proofs.HubStates.Keys.{same_mapped}
use Rattle.iox_hub_ports.specs.InPlace.{AllApart, with_place, with_places}

-- ---- a change of one pipe keeps all senders

senders_behind : (ps qs : List PipeState) → senders_of (ps ++ qs) ≡ senders_of ps ++ senders_of qs
senders_behind [] qs = refl
senders_behind (p ∷ ps) qs = ap (λ ns. p.sender ∷ ns) (senders_behind ps qs)

pub senders_stay : (h : PipeState → PipeState) → ((q : PipeState) → (h q).sender ≡ q.sender) → (s : ℕ) (p : PortState)
    → senders_of (pipes_of (with_pipe_of h p s)) ≡ senders_of (pipes_of p)
senders_stay h keeps s p = step (has_number s (senders_of es))
  where
    es : List PipeState
    es = p.expired.pipes

    is : List PipeState
    is = p.incoming.pipes

    step : (b : Bool)
        → senders_of (pipes_of (if b then record p { expired = with_pipes p.expired (with_pipe_from h es s) } else record p { incoming = with_pipes p.incoming (with_pipe_from h is s) }))
        ≡ senders_of (es ++ is)
    step true =
        senders_behind (with_pipe_from h es s) is
        ∙ ap (λ ns. ns ++ senders_of is) (same_mapped (λ q. q.sender) h (λ q. q.sender) keeps es s) ∙ sym (senders_behind es is)
    step false =
        senders_behind es (with_pipe_from h is s)
        ∙ ap (λ ns. senders_of es ++ ns) (same_mapped (λ q. q.sender) h (λ q. q.sender) keeps is s) ∙ sym (senders_behind es is)

-- ---- so does a walk

module _ (f : PortState → PortState) (same : (p : PortState) → senders_of (pipes_of (f p)) ≡ senders_of (pipes_of p)) where
  apart_changed : (p : PortState) → AreDistinct (senders_of (pipes_of p)) → AreDistinct (senders_of (pipes_of (f p)))
  apart_changed p d = subst (λ ns. AreDistinct ns) (sym (same p)) d

  first_of : (x : PortState) (xs : List PortState) → AllApart (x ∷ xs) → AreDistinct (senders_of (pipes_of x))
  first_of x xs all = all 0 x refl

  rest_of : (x : PortState) (xs : List PortState) → AllApart (x ∷ xs) → AllApart xs
  rest_of x xs all j p e = all (suc j) p e

  put_first : (x : PortState) (xs : List PortState) → AreDistinct (senders_of (pipes_of x)) → AllApart xs → AllApart (x ∷ xs)
  put_first x xs d all zero p e = subst (λ (q : PortState). AreDistinct (senders_of (pipes_of q))) (same_Some x p e) d
  put_first x xs d all (suc j) p e = all j p e

  pub apart_in_place : (ports : List PortState) (i : ℕ) → AllApart ports → AllApart (with_place f ports i)
  apart_in_place [] i all = all
  apart_in_place (x ∷ xs) zero all = put_first (f x) xs (apart_changed x (first_of x xs all)) (rest_of x xs all)
  apart_in_place (x ∷ xs) (suc i) all =
      subst (λ (qs : List PortState). AllApart qs) (sym (later (slice_get xs i)))
      (put_first x (with_place f xs i) (first_of x xs all) (apart_in_place xs i (rest_of x xs all)))
    where
      later : (o : Option PortState)
          → option_map_or (λ p. slice_set (x ∷ xs) (suc i) (f p)) o (x ∷ xs) ≡ x ∷ option_map_or (λ p. slice_set xs i (f p)) o xs
      later (Some p) = refl
      later None = refl

  pub apart_in_places : (ports : List PortState) (places : List ℕ) → AllApart ports → AllApart (with_places f ports places)
  apart_in_places ports [] all = all
  apart_in_places ports (i ∷ is) all = apart_in_places (with_place f ports i) is (apart_in_place ports i all)
