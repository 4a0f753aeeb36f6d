-- What is given back, and how many messages its receiver then has.
use Rattle.std.specs.Prelude.{◌≡◌, ℕ, ◌+◌, ◌-◌, Bool, true, if◌then◌else◌, List, [], ◌∷◌, length, refl}
use Rattle.std.specs.List.{sum_by}
use Rattle.std.specs.Option.{option_map_or}
use Rattle.std.proofs.Common.{sym, ap, ◌∙◌, arith}
use Rattle.std.proofs.lemmas.List.Recursion.{is_sum_by}
use Rattle.iox_model.specs.declared.way.Way.{Way}
use Rattle.iox_model.specs.Counts.{with_fixed}
use Rattle.iox_model.specs.Maps.{put}
use Rattle.iox_model.specs.States as m
use Rattle.iox_laws.proofs.WeaveLaws.MapLemmas.{put_same}
use Rattle.iox_lanes.specs.Lanes.{LaneState, is_taken, released, with_returned, without_taken}
use Rattle.iox_lanes.specs.Pipes.{with_lane}
use Rattle.iox_lanes.proofs.CallerLemmas.{taken_sum}
use Rattle.iox_tables.specs.HubStates.Tables.{HubTables}
use Rattle.iox_tables.specs.HubStates.Ways.{at, lane_on, state_on, with_pipe_of}
use Rattle.iox_tables.specs.HubStates.Shown.{borrowed_in, shown}
use Rattle.iox_tables.specs.HubStates.States.{Given, fixed_of, message_of, state_shown}
use Rattle.iox_tables.specs.HubStates.Changes.{with_lanes}
use Rattle.iox_tables.specs.HubStates.Ends.{EachGiveBackIsShown, borrows_less}
use Rattle.iox_tables.proofs.HubStates.Fixing.{fixed_left}
use Rattle.iox_tables.proofs.HubStates.Keys.{lane_sender, lane_turned, states_stay}
use Rattle.iox_tables.proofs.HubStates.Moments.{by_lane_at}
use Rattle.iox_tables.proofs.HubStates.Opens.{given_back_is, nothing_given_back}
use Rattle.iox_tables.proofs.HubStates.Steps.{connected_is, pipe_leaves}

-- a length counts each for one
ones : (ks : List ℕ) → length ks ≡ sum_by (λ k. 1) ks
ones ks = is_sum_by (λ (xs : List ℕ). length xs) (λ k. 1) refl (λ k xs. omega arith) ks

-- one less is taken
pub fewer_taken : (l : LaneState) (k : ℕ) → is_taken l k ≡ true → length (released l k).taken ≡ length l.taken - 1
fewer_taken l k has =
    ap (λ (b : Bool). length (if b then with_returned (without_taken l k) k else l).taken) has
    ∙ ones (without_taken l k).taken
    ∙ less (sum_by (λ k. 1) (without_taken l k).taken) (length l.taken) (taken_sum (λ k. 1) l k has ∙ sym (ones l.taken))
  where
    less : (a b : ℕ) → a + 1 ≡ b → a ≡ b - 1
    less a b e = omega (arith, e)

-- the tables once one lane changed
pub one_lane_shown : (g : LaneState → LaneState) (x : Given) (t : HubTables) (w : Way) (b : Way → ℕ) → borrowed_in (at g (lane_on t.ports) w) ≡ b
    → state_shown x (with_lanes g t (w ∷ []))
    ≡ with_fixed (shown x.members (fixed_of x t) (message_of x t.pools) (at g (lane_on t.ports) w) (state_on t.ports)) (record (fixed_of x t) { borrowed = b })
one_lane_shown g x t w b is =
    let fixed : fixed_of x (with_lanes g t (w ∷ [])) ≡ record (fixed_of x t) { borrowed = b }
    = fixed_left (λ p. with_pipe_of (λ q. with_lane g q w.lane) p w.sender) (pipe_leaves (λ q. with_lane g q w.lane) (lane_sender g w.lane) w.sender) x t w.receiver
    ∙ ap (λ c. record (fixed_of x t) { borrowed = c }) (ap borrowed_in (lane_turned g t.ports w) ∙ is) in
    λ i. shown x.members (fixed i) (message_of x t.pools) (lane_turned g t.ports w i) (states_stay g t.ports w i)

pub each_give_back_is_shown : EachGiveBackIsShown
each_give_back_is_shown x t w serial = record {
  there = λ l k on has is.
      sym (one_lane_shown (λ l. released l k) x t w (put (borrowed_in (lane_on t.ports)) w (borrowed_in (lane_on t.ports) w - 1))
      (by_lane_at (λ l. length l.taken) 0 (λ l. released l k) (lane_on t.ports) w l on
      ∙ ap (put (borrowed_in (lane_on t.ports)) w) (fewer_taken l k has ∙ ap (λ n. n - 1) (sym (ap (λ o. option_map_or (λ l. length l.taken) o 0) on))))
      ∙ ap (λ s. with_fixed s (borrows_less (fixed_of x t) w))
      (given_back_is x.members (fixed_of x t) (message_of x t.pools) (state_on t.ports) (lane_on t.ports) w l k serial on has is refl));
  gone = λ none away.
      let f : m.Fixed = fixed_of x t in
      ap (λ s. with_fixed s (borrows_less f w))
      (sym (nothing_given_back x.members f (message_of x t.pools) (state_on t.ports) (lane_on t.ports) w serial (connected_is x t.ports w.sender ∙ away)))
      ∙ (λ i. with_fixed (state_shown x t) (record f {
        borrowed = put_same f.borrowed w (f.borrowed w - 1) (still (f.borrowed w) (ap (λ o. option_map_or (λ (l : LaneState). length l.taken) o 0) none)) i;
      }));
}
  where
    still : (n : ℕ) → n ≡ 0 → n ≡ n - 1
    still n e = omega (arith, e)
