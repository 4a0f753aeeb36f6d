-- A slot that was taken, and the loan that is made in it.
use Rattle.std.specs.Prelude.{◌≡◌, ℕ, zero, suc, ◌<◌, length, List, Option, Some, None, IfSome, find, not, refl}
use Rattle.std.specs.List.{range_with_len}
use Rattle.std.proofs.Common.{sym, ap, subst, ◌∙◌, arith}
use Rattle.std.proofs.lemmas.Bool.{lt-ltb}
use Rattle.std.proofs.lemmas.Option.{same_Some}
use Rattle.iox_tables.specs.HubStates.Tables.{HubTables, PoolState, PortState, port_in, slots_of}
use Rattle.iox_hub_ports.specs.declared.info.PortInfo.{PortInfo}
use Rattle.iox_hub_ports.specs.Ports.{info_of}
use Rattle.iox_tables.specs.HubBooks.Hubs.{AreInOrder}
use Rattle.iox_tables.specs.HubLoans.Counts.{is_lane_taken}
use Rattle.iox_tables.specs.HubLoans.Lenders.{Lender}
use Rattle.iox_tables.specs.HubLending.Choosing.{IsFreeSlot}
use Rattle.iox_tables.proofs.HubLending.Owning.{number_is}
use Rattle.iox_slots.specs.Pools.{Takes, free_count}
use Rattle.iox_slots.specs.Slots.{taken}
use Rattle.iox_slots.proofs.FreeSlots.{free_slot}
use Rattle.iox_control.specs.Controls.{ControlState, with_pools}
use Rattle.iox_control_lending.specs.declared.asked.Asked.{Asked}
use Rattle.iox_control_lending.specs.declared.asked.Lending.{Lending}
use Rattle.iox_control_lending.specs.declared.asked.Loaned.{Loaned}
use Rattle.iox_control_lending.specs.Lends.{IsOnFree, IsPortOf, IsTaken, LoanIsMade, lender_of, with_handed}
use Rattle.iox_control_lending.specs.Retakes.{IsTakenFor}
use Rattle.iox_control_lending.proofs.LaneLemmas.{found_free, has_lane}
use Rattle.iox_control_lending.proofs.MadeLemmas.{slot_within}

-- where no lane of a client is free, no slot is
pub none_free : (t : HubTables) (n : ℕ) (p : PortState) → AreInOrder t → port_in t.ports n ≡ Some p
    → find (λ k. not (is_lane_taken t n k)) (range_with_len 0 p.size) ≡ None → free_count t.pools p.pool ≡ 0
none_free t n p order there none = step (free_count t.pools p.pool) refl
  where
    some : (m : ℕ) → free_count t.pools p.pool ≡ suc m → 0 < free_count t.pools p.pool
    some m e = omega (arith, e)

    step : (m : ℕ) → free_count t.pools p.pool ≡ m → m ≡ 0
    step zero e = refl
    step (suc m) e =
        let k = free_slot t.pools p.pool (some m e) in
        let is : IsFreeSlot t n p t.pools k.0 = record {
          there = there;
          within = slot_within t n k.0 p order there (lt-ltb k.0 (length (slots_of t.pools p.pool)) k.1);
          free = k.2;
        } in
        absurd (has_lane t n k.0 p order is (ap (λ m. find (λ k. not (is_lane_taken t m k)) (range_with_len 0 p.size)) (number_is t order n p there) ∙ none))

-- a slot that is taken on a lane that was found has a request on a lane that is not taken
pub on_found : (t : HubTables) (client size pool lane serial request elements : ℕ) (pools : List (Option PoolState)) (o : Option ℕ)
    → find (λ k. not (is_lane_taken t client k)) (range_with_len 0 size) ≡ Some lane
    → IfSome o (λ k. Takes t.pools pool k (taken serial lane request elements) pools)
    → IfSome o (λ k. IsOnFree t client size pool k serial request elements pools)
on_found t client size pool lane serial request elements pools None found takes = takes
on_found t client size pool lane serial request elements pools (Some k) found takes =
    let free = found_free t client size lane found in
    record { lane = lane; within = free.0; free = free.1; takes = takes }

-- a slot that the loan has was free
pub is_free_slot : (t : HubTables) (l : Lending) (of : IsPortOf t l) (elements slot : ℕ) (pools : List (Option PoolState))
    → IsTaken t (lender_of of.port l) elements slot pools → AreInOrder t → IsFreeSlot t l.port.number of.port t.pools slot
is_free_slot t l of elements slot pools has order = record {
  there = of.there;
  within = slot_within t l.port.number slot of.port order of.there has.takes.there;
  free = has.takes.free;
}

-- what is taken and handed out is a loan
module _ (c d new : ControlState) (l : Lending) (a : Asked) (slot number : ℕ) (its_slot : IsTakenFor c l a.elements slot d) where
  -- the port of the lender
  abbrev p : PortState
  p = its_slot.port.port

  -- who lends
  abbrev y : Lender
  y = lender_of p l

  -- what the loan answers
  abbrev loan : Loaned
  loan = record { number = number; pool = l.port.pool; slot = slot }

  pub was_free : IsFreeSlot c.tables l.port.number p c.tables.pools slot
  was_free = is_free_slot c.tables l its_slot.port a.elements slot d.tables.pools its_slot.taken its_slot.order.order

  its : number ≡ d.tables.next_number → new ≡ with_handed d y a.uninit slot → LoanIsMade c y a loan new
  its numbered out = record {
    number = numbered ∙ ap (λ (e : ControlState). e.tables.next_number) its_slot.left;
    pool = ap (λ (i : PortInfo). i.pool) its_slot.port.info;
    within = was_free.within;
    free = was_free.free;
    lane = its_slot.taken.lane;
    chosen = its_slot.taken.chosen;
    left =
        out
        ∙ ap (λ (e : ControlState). with_handed e y a.uninit slot) its_slot.left
        ∙ ap (λ pools. with_handed (with_pools c pools) y a.uninit slot) its_slot.taken.takes.changed;
  }

  pub is_made : number ≡ d.tables.next_number
      → ((q : PortState) → l.port ≡ info_of q → new ≡ with_handed d (lender_of q l) a.uninit slot)
      → (q : PortState) → port_in c.tables.ports l.port.number ≡ Some q → LoanIsMade c (lender_of q l) a loan new
  is_made numbered out q at =
      subst (λ r. LoanIsMade c (lender_of r l) a loan new) (same_Some p q (sym its_slot.port.there ∙ at))
      (its numbered (out p its_slot.port.info))
