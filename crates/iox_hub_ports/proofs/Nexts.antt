-- What is left to get back on the lanes of a pipe once one of them has changed.
use Rattle.std.specs.Prelude.{◌≡◌, ℕ, Bool, if◌then◌else◌, List, [], Option, Some, None, IfSome, slice_get, slice_set, refl}
use Rattle.std.specs.Option.{option_map, option_map_or}
use Rattle.std.proofs.Common.{sym, ap, subst, ◌∙◌, get_or}
use Rattle.iox_model.specs.Maps.{AreDistinct}
use Rattle.iox_tables.proofs.WeaveLaws.MapLemmas.{eqb-refl}
use Rattle.iox_tables.specs.Incomings.{IncomingState, on_pipe, rank_from, with_lane_of}
use Rattle.iox_tables.specs.Lanes.{LaneState}
use Rattle.iox_tables.specs.Pipes.{PipeState, lane_to_get, with_lane}
use Rattle.iox_tables.specs.HubStates.Tables.{PortState, numbers_of, pipe_from, pipes_of, port_in}
use Rattle.iox_tables.proofs.HubStates.Keys.{lane_sender, pipe_changed, set_there}
use Rattle.iox_hub_ports.specs.Ports.{lane_to_get_at, lane_to_get_on, with_lane_from}
use Rattle.iox_hub_ports.proofs.Firsts.{from_expired}
use Rattle.iox_hub_ports.proofs.Keeping.{set_number}
use Rattle.iox_hub_ports.proofs.Seats.{first_at}

-- ---- the pipe of a rank, and the pipe from a sender

module _ (g : LaneState → LaneState) (lane : ℕ) where
  -- what is left in a pipe whose lane has changed
  abbrev left_in : Option PipeState → Option ℕ
  left_in o = option_map_or (λ q. lane_to_get (with_lane g q lane)) o None

  in_rank : (c : IncomingState) (r : ℕ) → on_pipe lane_to_get None (with_lane_of g c r lane) r ≡ left_in (slice_get c.pipes r)
  in_rank c r = step (slice_get c.pipes r) refl
    where
      step : (o : Option PipeState) → slice_get c.pipes r ≡ o
          → option_map_or lane_to_get (slice_get (option_map_or (λ q. record c { pipes = slice_set c.pipes r (with_lane g q lane) }) o c).pipes r) None ≡ left_in o
      step (Some q) e = ap (λ o. option_map_or lane_to_get o None) (set_there c.pipes r q (with_lane g q lane) e)
      step None e = ap (λ o. option_map_or lane_to_get o None) e

  from_sender : (p : PortState) (s : ℕ) → lane_to_get_on (pipes_of (with_lane_from g p s lane)) s ≡ left_in (pipe_from (pipes_of p) s)
  from_sender p s =
      ap (λ o. option_map_or lane_to_get o None)
      (pipe_changed (λ q. with_lane g q lane) (lane_sender g lane) p s s
      ∙ ap (λ (b : Bool). if b then option_map (λ q. with_lane g q lane) (pipe_from (pipes_of p) s) else pipe_from (pipes_of p) s) (eqb-refl s))
      ∙ step (pipe_from (pipes_of p) s)
    where
      step : (o : Option PipeState) → option_map_or lane_to_get (option_map (λ q. with_lane g q lane) o) None ≡ left_in o
      step (Some q) = refl
      step None = refl

  pub left_expired : (p : PortState) (s r : ℕ) → rank_from p.expired.pipes s ≡ Some r
      → on_pipe lane_to_get None (with_lane_of g p.expired r lane) r ≡ lane_to_get_on (pipes_of (with_lane_from g p s lane)) s
  left_expired p s r e = in_rank p.expired r ∙ ap left_in (from_expired p s r e) ∙ sym (from_sender p s)

-- ---- the port in a place

-- a port of the same number stands in the place of another
pub left_set : (ports : List PortState) (i s : ℕ) (p q : PortState) → AreDistinct (numbers_of ports) → slice_get ports i ≡ Some p → p ≡ get_or ports i p
    → q.number ≡ p.number → lane_to_get_on (pipes_of q) s ≡ lane_to_get_at (slice_set ports i q) i s
left_set ports i s p q apart at is same =
    let there : slice_get (slice_set ports i q) i ≡ Some q = set_there ports i p q at in
    let distinct : AreDistinct (numbers_of (slice_set ports i q)) = subst (λ ns. AreDistinct ns) (sym (set_number ports i p q is same)) apart in
    ap (λ o. lane_to_get_on (option_map_or pipes_of o []) s) (sym (first_at (slice_set ports i q) i q distinct there))
    ∙ ap (λ o. option_map_or (λ (r : PortState). lane_to_get_on (option_map_or pipes_of (port_in (slice_set ports i q) r.number) []) s) o None) (sym there)

-- what follows from two clauses on one value
pub both_of : {X : Type 0} (o : Option X) {P Q R : X → Type 0} → IfSome o P → IfSome o Q → ((x : X) → P x → Q x → R x) → IfSome o R
both_of None p q f = tt
both_of (Some x) p q f = f x p q
