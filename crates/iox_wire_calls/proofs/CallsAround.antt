-- Calls stand as a wire opens and after deaths, and what other nodes do leaves them.
use Rattle.std.specs.Prelude.{◌||◌}
use Rattle.std.specs.List.{range_with_len}
use Rattle.std.specs.Option.{option_map_or}
use Rattle.std.proofs.Common.{nat_lt, ◌≡◌, ℕ, ◌+◌, Bool, true, false, if◌then◌else◌, ◌==◌, List, [], ◌∷◌, Option, Some, None, refl, ap, sym, subst, ◌∙◌, arith, inl, inr, true≢false, eqb-true, eq-eqb}
use Rattle.iox_model.specs.Commands.{Reply}
use Rattle.iox_model.specs.Joins.{not_living}
use Rattle.iox_model.specs.Maps.{AreDistinct, has_number, put_at}
use Rattle.iox_model.specs.Moments.{Moment}
use Rattle.iox_model.specs.States.{State}
use Rattle.iox_model.specs.Weaves.{IsWeave, World}
use Rattle.iox_laws.proofs.WeaveLaws.DeathLaws.{settled-members}
use Rattle.iox_laws.proofs.WeaveLaws.WholeLemmas.{moved-members}
use Rattle.iox_laws.proofs.WeaveLedger.Lists.{among-filter, among-number, number-among}
use Rattle.iox_laws.proofs.WeaveLedger.Truths.{none-some}
use Rattle.iox_wire_steps.specs.Seat.{Seat}
use Rattle.iox_wire_steps.specs.Desk.{Desk}
use Rattle.iox_wire_steps.specs.Known.{free_lanes}
use Rattle.iox_wire_steps.specs.Tables.{Setting}
use Rattle.iox_wire_steps.specs.SlotsKnown.{IsPortOfSeat}
use Rattle.iox_wire_steps.specs.Aside.{shown}
use Rattle.iox_wire_steps.specs.Uses.{how_often}
use Rattle.iox_wire_steps.specs.Openings.{opened_desk, opened_seat, ports_on}
use Rattle.iox_wire_steps.proofs.OpenedDesks.{desk_there}
use Rattle.iox_wire_steps.proofs.Ranges.{range_distinct, range_number}
use Rattle.iox_wire_steps.specs.Nodes.{NodeStands}
use Rattle.iox_wire_steps.specs.Stands.{Player, seats_of}
use Rattle.iox_wire_steps.proofs.Deaths.{lived}
use Rattle.iox_wire_steps.specs.WholeSteps.{reply_beats, step_beats}
use Rattle.iox_wire_calls.specs.CallsStand.{CallStands, CallsStand, CallsStandAtFirst, DeathsLeaveCalls}
use Rattle.iox_wire_calls.specs.Lanes.{AllLanesAreCounted}
use Rattle.iox_model.specs.Settings.{is_client}
use Rattle.iox_wire_calls.proofs.LaneCounts.{none_below}
use Rattle.iox_wire_calls.proofs.LoansElsewhere.{LentInPool, lent_in_pool, loans_agree}
use Rattle.iox_wire_steps.specs.MomentsOf.{Pools}
use Rattle.iox_laws.proofs.WeaveLaws.MapLemmas.{eqb-refl}
use Rattle.iox_wire_steps.specs.FarSlots.{IsInPool}

-- ---- as a wire opens

pub distinct_often : (k : ℕ) (xs : List ℕ) → AreDistinct xs → how_often k xs ≡ (if has_number k xs then 1 else 0)
distinct_often k [] apart = refl
distinct_often k (x ∷ xs) apart = by_number (x == k) refl (distinct_often k xs apart.1)
  where
    by_number : (b : Bool) → (x == k) ≡ b → how_often k xs ≡ (if has_number k xs then 1 else 0)
        → (if b then 1 else 0) + how_often k xs ≡ (if (b || has_number k xs) then 1 else 0)
    by_number true is rest =
        ap (λ n. 1 + n) (rest ∙ ap (λ b. if b then 1 else 0) (subst (λ i. has_number i xs ≡ false) (eqb-true x k is) apart.0))
    by_number false is rest = zero_on (how_often k xs) ∙ rest
      where
        zero_on : (n : ℕ) → 0 + n ≡ n
        zero_on n = omega arith

lanes_first : (p : Setting) (n : ℕ) → AllLanesAreCounted p (opened_seat p n)
lanes_first p n port mine lane =
    none_on (how_often lane (free_lanes (opened_seat p n) port))
    ∙ ap (λ o. how_often lane (option_map_or (λ (d : Desk). d.free_lanes) o [])) (desk_there p (ports_on p n) port)
    ∙ ap (λ b. how_often lane (option_map_or (λ (d : Desk). d.free_lanes) (if b then Some (opened_desk p port) else None) [])) here
    ∙ by_role (is_client (p.port port).role)
  where
    none_on : (k : ℕ) → k + 0 ≡ k
    none_on k = omega arith

    by_role : (b : Bool) → how_often lane (if b then range_with_len 0 (p.port port).pool else []) ≡ (if nat_lt lane (if b then (p.port port).pool else 0) then 1 else 0)
    by_role true =
        distinct_often lane (range_with_len 0 (p.port port).pool) (range_distinct (p.port port).pool)
        ∙ ap (λ b. if b then 1 else 0) (range_number lane (p.port port).pool)
    by_role false = ap (λ b. if b then 1 else 0) (sym (none_below lane))

    here : has_number port (ports_on p n) ≡ true
    here =
        among-number port (ports_on p n)
        (among-filter (λ k. p.layout.owner k == n) port p.layout.sizes.ports (number-among port p.layout.sizes.ports mine.0)
        (eq-eqb (p.layout.owner port) n mine.1))

pub calls_stand_at_first : CallsStandAtFirst
calls_stand_at_first p held n far = record {
  fits = record { handles = λ e there. none-some e there; place = tt };
  lanes = lanes_first p n;
  loans = record { loan = tt; serials = λ port slot mine low. inr (inl (far port slot)) };
}

-- ---- who lives

-- a step leaves who is alive
replied_members : (n : ℕ) (payload : List ℕ) (reply : Option Reply) (w u : World) → IsWeave w (reply_beats n payload reply) u → u.state.members ≡ w.state.members
replied_members n payload None w u woven = ap (λ (v : World). v.state.members) woven
replied_members n payload (Some reply) w u woven =
    ap (λ (v : World). v.state.members) woven.2 ∙ ap (λ (v : World). v.state.members) woven.1.7 ∙ settled-members w.state n payload woven.1.3

pub members_stay : (n : ℕ) (payload : List ℕ) (m : Option Moment) (reply : Option Reply) (w u : World) → IsWeave w (step_beats n payload m reply) u
    → u.state.members ≡ w.state.members
members_stay n payload None reply w u woven = replied_members n payload reply w u woven
members_stay n payload (Some m) reply w u woven =
    replied_members n payload reply woven.0 u woven.2 ∙ ap (λ (v : World). v.state.members) woven.1.5 ∙ moved-members w.state m

-- ---- other nodes

-- the node itself, and all others as they were
pub by_node : (p : Setting) (held new : Pools) (players : ℕ → Player) (player : Player) (n : ℕ) (s t : State) → ((k : ℕ) → not_living t k ≡ not_living s k)
    → ((k : ℕ) → (k == n) ≡ false → not_living s k ≡ None → (port slot : ℕ) → IsPortOfSeat p (seats_of p players k) port → IsInPool p port slot
    → new port slot ≡ held port slot)
    → ((k : ℕ) → not_living s k ≡ None → LentInPool p (seats_of p players k))
    → CallsStand p held players s → CallStands p new (shown p player.seat) → CallsStand p new (put_at players n player) t
by_node p held new players player n s t lives agree low calls own k living = at (k == n) refl
  where
    before : not_living s k ≡ None
    before = sym (lives k) ∙ living

    at : (b : Bool) → (k == n) ≡ b → CallStands p new (shown p (if b then player else players k).seat)
    at true is = own
    at false is = record {
      fits = (calls k before).fits;
      lanes = (calls k before).lanes;
      loans = loans_agree p held new (seats_of p players k) (agree k is before) (low k before) (calls k before).loans;
    }

-- ports of other nodes are none of the node's
pub not_its : (p : Setting) (players : ℕ → Player) (n k port : ℕ) (y : Seat) → ((j : ℕ) → (seats_of p players j).node ≡ j) → y.node ≡ n → (k == n) ≡ false
    → IsPortOfSeat p (seats_of p players k) port → IsPortOfSeat p y port → ⊥
not_its p players n k port y nodes own other its mine =
    true≢false (sym (eq-eqb k n (sym (nodes k) ∙ sym its.1 ∙ mine.1 ∙ own)) ∙ other)

-- of the node itself
pub own_low : (p : Setting) (players : ℕ → Player) (n : ℕ) (player : Player) (held : Pools) (s : State)
    → NodeStands p held s (seats_of p (put_at players n player) n) → LentInPool p (shown p player.seat)
own_low p players n player held s stands =
    lent_in_pool p held s (shown p player.seat) (subst (λ b. NodeStands p held s (shown p (if b then player else players n).seat)) (eqb-refl n) stands)

-- ---- a death

pub deaths_leave_calls : DeathsLeaveCalls
deaths_leave_calls p held players w u n beat calls k living = calls k (lived w u n k beat living)
