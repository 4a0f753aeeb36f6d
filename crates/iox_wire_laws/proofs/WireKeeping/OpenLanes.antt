-- The first free lane of a client is one that the machine's call may choose.
use Rattle.std.specs.Prelude.{map, filter, not, ◌||◌, nat_lt, ◌<◌, suc, zero, ◌+◌}
use Rattle.std.specs.List.{list_any, list_all, range_with_len}
use Rattle.std.proofs.Common.{◌≡◌, ℕ, Bool, true, false, if◌then◌else◌, ◌&&◌, ◌==◌, List, [], ◌∷◌, refl, ap, sym, ◌∙◌, arith, true≢false}
use Rattle.iox_model.specs.declared.kind.Kind.TheVariants.{PendingResponse}
use Rattle.iox_model.specs.Begins.{is_open_lane}
use Rattle.iox_model.specs.Handles.{has_lane, is_request_loan, same_kind}
use Rattle.iox_model.specs.Maps.{has_number}
use Rattle.iox_model.specs.Peers.{node_of_port}
use Rattle.iox_model.specs.States.{Port, Handle, Fixed}
use Rattle.iox_laws.proofs.WeaveLaws.MapLemmas.{eqb-refl}
use Rattle.iox_laws.proofs.WeaveLaws.WholeLemmas.{split}
use Rattle.iox_laws.proofs.WeaveLedger.Truths.{false_if, both_true, or-left, or-right, not-false}
use Rattle.iox_wire_moments.specs.MomentsOf.{Pools}
use Rattle.iox_wire_locals.specs.declared.table.Entry.{Entry}
use Rattle.iox_wire_locals.specs.declared.seat.Seat.{Seat}
use Rattle.iox_wire_locals.specs.Tables.{Setting, handle_of}
use Rattle.iox_wire_locals.specs.Known.{told_handle, known, free_lanes}
use Rattle.iox_wire_locals.specs.Lendings.{first_lane}
use Rattle.iox_wire_locals.specs.Knowing.{Knows}
use Rattle.iox_wire_laws.specs.WireKeeping.Readiness.{LanesFit}

-- whether some entry of the port is such
abbrev any_in : (Entry → Bool) → ℕ → List Entry → Bool
any_in told port table = list_any told (filter (λ e. e.port == port) table)

any_told : (g : Entry → Handle) (test : Handle → Bool) (told : Entry → Bool) → ((e : Entry) → test (g e) ≡ told e)
    → ((e : Entry) → (g e).port ≡ e.port) → (port : ℕ) (table : List Entry)
    → list_any test (filter (λ h. h.port == port) (map g table)) ≡ any_in told port table
any_told g test told tells ports port [] = refl
any_told g test told tells ports port (e ∷ es) =
    by_port ((g e).port == port) (e.port == port) (ap (λ n. n == port) (ports e)) (any_told g test told tells ports port es)
  where
    by_port : (b c : Bool) → b ≡ c → list_any test (filter (λ h. h.port == port) (map g es)) ≡ any_in told port es
        → list_any test (if b then g e ∷ filter (λ h. h.port == port) (map g es) else filter (λ h. h.port == port) (map g es))
        ≡ list_any told (if c then e ∷ filter (λ x. x.port == port) es else filter (λ x. x.port == port) es)
    by_port true true is rest =
        ap (λ b. b || list_any test (filter (λ h. h.port == port) (map g es))) (tells e) ∙ ap (λ b. told e || b) rest
    by_port true false is rest = absurd (true≢false is)
    by_port false true is rest = absurd (true≢false (sym is))
    by_port false false is rest = rest

all_range : (test : ℕ → Bool) (a n : ℕ) → ((k : ℕ) → k < a + n → test k ≡ true) → list_all test (range_with_len a n) ≡ true
all_range test a zero all = refl
all_range test a (suc n) all =
    both_true (test a) _ (all a (omega arith)) (all_range test (a + 1) n (λ k below. all k (shift k below)))
  where
    shift : (k : ℕ) → k < a + 1 + n → k < a + suc n
    shift k below = omega arith

module _ (p : Setting) (x : Seat) (f : Fixed) (held : Pools) (k : Knows p x f held) (q : Port)
    (mine : node_of_port f q.number ≡ x.node) where
  -- whether an entry has the lane
  abbrev on_lane : ℕ → Entry → Bool
  on_lane lane e = (is_request_loan e.kind || same_kind e.kind PendingResponse) && (e.lane == lane)

  lane_same : (lane : ℕ) → has_lane f q.number lane ≡ has_lane (known p x) q.number lane
  lane_same lane = rw mine (rw k.handles (
      any_told (handle_of held x.node) (λ h. (is_request_loan h.kind || same_kind h.kind PendingResponse) && (h.lane == lane)) (on_lane lane) (λ e. refl) (λ e. refl) q.number x.table
      ∙ sym (any_told (told_handle p x.node) (λ h. (is_request_loan h.kind || same_kind h.kind PendingResponse) && (h.lane == lane)) (on_lane lane) (λ e. refl) (λ e. refl) q.number x.table)))

  module _ (fit : LanesFit p x q) where
    nobody_beyond : has_lane (known p x) q.number q.pool ≡ false
    nobody_beyond = false_if _ (λ e. beyond (fit.taken q.pool e))
      where
        beyond : q.pool < q.pool → ⊥
        beyond less = absurd (omega arith)

    lt_true : (a b : ℕ) → a < b → nat_lt a b ≡ true
    lt_true a b less = grind (arith)

    -- without a free lane all are taken
    all_taken : free_lanes x q.number ≡ [] → (lane : ℕ) → lane < 0 + q.pool → has_lane (known p x) q.number lane ≡ true
    all_taken none lane below =
        not-false _ (sym (ap (λ b. b && not (has_lane (known p x) q.number lane)) (lt_true lane q.pool (omega (arith, below))))
        ∙ sym (fit.free lane) ∙ ap (has_number lane) none)

    opens : (lanes : List ℕ) → free_lanes x q.number ≡ lanes → is_open_lane f q (first_lane q.pool lanes) ≡ true
    opens [] none =
        both_true _ _ (rw (lane_same q.pool) (ap not nobody_beyond))
        (or-right (nat_lt q.pool q.pool) _ (all_range (has_lane f q.number) 0 q.pool (λ lane below. lane_same lane ∙ all_taken none lane below)))
    opens (lane ∷ lanes) some =
        let there : (nat_lt lane q.pool && not (has_lane (known p x) q.number lane)) ≡ true
        = sym (fit.free lane) ∙ ap (has_number lane) some ∙ or-left (lane == lane) (has_number lane lanes) (eqb-refl lane) in
        let r : (nat_lt lane q.pool ≡ true) × (not (has_lane (known p x) q.number lane) ≡ true) = split _ _ there in
        both_true _ _ (rw (lane_same lane) r.1) (or-left (nat_lt lane q.pool) _ r.0)

    pub first_is_open : is_open_lane f q (first_lane q.pool (free_lanes x q.number)) ≡ true
    first_is_open = opens (free_lanes x q.number) refl
