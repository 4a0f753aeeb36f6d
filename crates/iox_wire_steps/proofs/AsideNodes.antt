-- All that is so of a node is so of it as it is shown once its release gave a request back: the entry is put aside.
use Rattle.std.specs.Prelude.{◌<◌, ◌⊎◌, ◌++◌, flat_map}
use Rattle.std.proofs.Common.{◌≡◌, ℕ, ◌+◌, Bool, true, false, ◌==◌, ◌&&◌, if◌then◌else◌, List, refl, ap, sym, subst, ◌∙◌, inl, inr, arith, eqb-true, true≢false}
use Rattle.iox_model.specs.declared.kind.Kind.{Kind}
use Rattle.iox_model.specs.declared.kind.Kind.TheVariants as kinds
use Rattle.iox_model.specs.Handles.{is_own, is_received, same_kind}
use Rattle.iox_model.specs.Maps.{AreDistinct}
use Rattle.iox_model.specs.States.{State}
use Rattle.iox_laws.proofs.WeaveLaws.WholeLemmas.{split}
use Rattle.iox_wire_moments.specs.MomentsOf.{Pools}
use Rattle.iox_wire_locals.specs.declared.local.Local.TheVariants.{ReleaseLooks}
use Rattle.iox_wire_locals.specs.declared.seat.Seat.{Seat}
use Rattle.iox_wire_locals.specs.declared.table.Entry.{Entry}
use Rattle.iox_wire_locals.specs.Courses.{placed}
use Rattle.iox_wire_locals.specs.Tables.{Setting}
use Rattle.iox_wire_laws.specs.WireKeeping.Records.{recorded_of}
use Rattle.iox_wire_laws.specs.WireKeeping.UsedSlots.{slots_used}
use Rattle.iox_wire_laws.specs.WireOwners.Releases.{HasOwnStates, ReleasesOwnHandle}
use Rattle.iox_wire_laws.specs.WireHolding.Aside.{aside, shown, slot_aside}
use Rattle.iox_wire_laws.specs.WireHolding.FarSlots.{IsInPool}
use Rattle.iox_wire_laws.specs.WireHolding.Holding.{held_with}
use Rattle.iox_wire_laws.specs.WireHolding.SlotsKnown.{EntryFits, HasEntry, IsPortOfSeat, SlotsKnown}
use Rattle.iox_wire_laws.proofs.WireHolding.Aside.{names_stand_aside}
use Rattle.iox_wire_pools.specs.Uses.{CountsUses, UsesAreCounted, how_often}
use Rattle.iox_wire_pools.proofs.EndUses.{not_own}
use Rattle.iox_wire_stands.specs.Following.{Leaving}
use Rattle.iox_wire_stands.specs.Nodes.{NodeStands}
use Rattle.iox_wire_stands.proofs.EndNumbers.{same}
use Rattle.iox_wire_stands.proofs.EndTables.{one_other}
use Rattle.iox_wire_stands.proofs.NodesFollow.{KeptPart}
use Rattle.iox_wire_steps.specs.FarMessages.{AgreeInPools}
use Rattle.iox_wire_steps.proofs.AsideTables.{held_same, mine_still}
use Rattle.iox_wire_steps.proofs.FarPools.{known_far}

not_pending : (k : Kind) → is_received k ≡ true → same_kind k kinds.PendingResponse ≡ false
not_pending kinds.ActiveRequest is = refl
not_pending kinds.Response is = refl
not_pending kinds.PendingResponse is = absurd (true≢false (sym is))
not_pending kinds.RequestMut is = refl
not_pending kinds.RequestMutUninit is = refl
not_pending kinds.ResponseMut is = refl
not_pending kinds.ResponseMutUninit is = refl
not_pending kinds.Client is = refl
not_pending kinds.Server is = refl

-- what a pool has is not beyond it
pub aside_in_pools : (p : Setting) (node : ℕ) (e : Entry) (held : Pools) (port slot : ℕ) → IsInPool p port slot
    → held_with held e.sender (slot_aside p node e) (held e.sender e.slot) port slot ≡ held port slot
aside_in_pools p node e held port slot low =
    by_case ((e.sender == port) && (slot_aside p node e == slot)) (λ is.
    let parts = split (e.sender == port) (slot_aside p node e == slot) is in
    beyond (p.port port).pool node slot low (sym (eqb-true (slot_aside p node e) slot parts.1) ∙ ap (λ q. (p.port q).pool + node) (eqb-true e.sender port parts.0)))
  where
    beyond : (pool node slot : ℕ) → slot < pool → slot ≡ pool + node → ⊥
    beyond pool node slot low is = omega (arith, low, is)

    by_case : (b : Bool) → (b ≡ true → ⊥) → (if b then held e.sender e.slot else held port slot) ≡ held port slot
    by_case true never = absurd (never refl)
    by_case false never = refl

pub aside_agrees : (p : Setting) (x : Seat) (node : ℕ) (e : Entry) (held : Pools) → AgreeInPools p x held (held_with held e.sender (slot_aside p node e) (held e.sender e.slot))
aside_agrees p x node e held port slot own low = aside_in_pools p node e held port slot low

module _ (p : Setting) (held : Pools) (s : State) (v : Seat) (e : Entry) (has : HasEntry (placed v (ReleaseLooks e)) e) (received : is_received e.kind ≡ true)
    (entries : (q : Entry) → HasEntry (placed v (ReleaseLooks e)) q → EntryFits p q)
    (low : (q : Entry) → HasEntry (placed v (ReleaseLooks e)) q → IsInPool p q.sender q.slot) (part : KeptPart p held s (placed v (ReleaseLooks e))) where
  abbrev z : Seat
  z = placed v (ReleaseLooks e)

  abbrev k : Entry
  k = aside p v.node e

  abbrev y : Seat
  y = shown p (placed v (ReleaseLooks e))

  abbrev new : Pools
  new = held_with held e.sender (slot_aside p v.node e) (held e.sender e.slot)

  own_not : is_own e.kind ≡ false
  own_not = not_own e.kind received

  used : (port : ℕ) → slots_used y port ≡ slots_used z port
  used port =
      ap (λ slots. slots ++ flat_map (λ r. r.slots) (recorded_of v port)) (held_same (placed v (ReleaseLooks e)) e (aside p v.node e) refl own_not own_not has port)

  slots_now : SlotsKnown p new s y
  slots_now =
      known_far p held new s z y part.slots part.at_desks (record { node = refl; desks = refl; used = used })
      (λ port own. mine_still (placed v (ReleaseLooks e)) e (aside p v.node e) refl own_not own_not has ((part.slots.ports port own).entries)) (λ port own. tt)
      (aside_agrees p z v.node e held)

  uses_now : (port : ℕ) → IsPortOfSeat p y port → UsesAreCounted y port (p.port port).pool
  uses_now port own =
      let before = part.uses port own in
      record {
        desk = before.desk;
        there = before.there;
        ways = before.ways;
        counts = subst (λ (slots : List ℕ). CountsUses (p.port port).pool (λ slot. how_often slot slots) before.desk) (sym (used port)) before.counts;
      }

  was : (q : Entry) → HasEntry y q → HasEntry z q ⊎ (q ≡ aside p v.node e)
  was q there = one_other q.number (aside p v.node e) v.table q there

  released_now : (q : Entry) → HasEntry z q ⊎ (q ≡ aside p v.node e) → ReleasesOwnHandle s.fixed v.node q
  released_now q (inl before) = part.released q before
  released_now q (inr is) =
      let old : ReleasesOwnHandle s.fixed v.node e = part.released e has in
      subst (ReleasesOwnHandle s.fixed v.node) (sym is) (record { pending = old.pending; request = old.request; response = old.response })

  states_now : (q : Entry) → HasEntry z q ⊎ (q ≡ aside p v.node e) → same_kind q.kind kinds.PendingResponse ≡ true → HasOwnStates p z s.request_state q
  states_now q (inl before) pending = part.states q before pending
  states_now q (inr is) pending =
      absurd (true≢false (sym pending ∙ ap (λ (j : Entry). same_kind j.kind kinds.PendingResponse) is ∙ not_pending e.kind received))

  in_pool : (q : Entry) → HasEntry z q ⊎ (q ≡ aside p v.node e) → IsInPool p q.sender q.slot ⊎ (Leaving (aside p v.node e) ≡ Leaving q)
  in_pool q (inl before) = inl (low q before)
  in_pool q (inr is) = inr (ap Leaving (sym is))

  named : (q : Entry) → HasEntry z q ⊎ (q ≡ aside p v.node e) → IsInPool p q.sender q.slot ⊎ (q.slot ≡ slot_aside p v.node q)
  named q (inl before) = inl (low q before)
  named q (inr is) = inr (subst (λ (j : Entry). j.slot ≡ slot_aside p v.node j) (sym is) refl)

  pub aside_stands : NodeStands p new s y
  aside_stands = record {
    owns = record { owns = part.owns.owns; closes = tt };
    names = names_stand_aside p s.fixed z e refl has entries;
    name_slots = record { entries = λ q there. named q (was q there); place = tt };
    in_pools = λ q there. in_pool q (was q there);
    lends = tt;
    slots = slots_now;
    at_desks = part.at_desks;
    uses = uses_now;
    loans = part.loans;
    borrowed = part.borrowed;
    counted = part.counted;
    numbers = subst AreDistinct (sym (same (aside p v.node e) v.table)) part.numbers;
    released = λ q there. released_now q (was q there);
    states = λ q there pending. states_now q (was q there) pending;
    opened = tt;
    tells = tt;
  }
