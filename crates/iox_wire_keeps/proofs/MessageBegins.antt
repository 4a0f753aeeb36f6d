-- Slots hold their messages as a call begins.
use Rattle.iox_wire_keeps.proofs.Firsts.{IsFirst, first}
use Rattle.iox_wire_calls.specs.Ending.TheVariants as endings
use Rattle.std.specs.Prelude.{Bool, List, None, false, if◌then◌else◌, length, refl, true, ℕ, ◌*◌, ◌++◌, ◌<◌, ◌==◌, ◌≡◌, ◌⊎◌}
use Rattle.iox_wire_calls.specs.Ending.{Ending}
use Rattle.iox_wire_calls.specs.StoredMessages.{StandFrom, header_in, words_in}
use Rattle.std.proofs.Common.{ap, arith, inl, inr, subst, sym, true≢false, ◌∙◌}
use Rattle.iox_wire_calls.proofs.Starts.{Starting, Starts, Takes, starts}
use Rattle.iox_wire_calls.specs.Local.TheVariants.{Ends, Idle, LendEmpties, LendStores, Reads, ReceiveAsks, ReceiveLoads, Writes}
use Rattle.iox_wire_calls.specs.Shows.{ShowsWorld}
use Rattle.iox_wire_keeps.proofs.OwnWrites.{loan_kept, written_own}
use Rattle.iox_wire_calls.specs.NewLoans.{loan_words, message_in}
use Rattle.iox_wire_calls.specs.Holding.{held_at}
use Rattle.iox_model.specs.Weaves.{World}
use Rattle.iox_wire_calls.specs.Following.{CallMessage, LeavesNothing, Leaving, Sent, Taken, message_at}
use Rattle.iox_wire_calls.specs.Steps.{next}
use Rattle.iox_wire_calls.specs.Entry.{Entry}
use Rattle.iox_wire_keeps.specs.Stored.{CallIsStored, GoesThrough, HoldsStored, IsStored, IsWritten, SlotsHoldMessages, StandsWritten, WhatWaitsIsStored}
use Rattle.iox_model.specs.Receives.{took}
use Rattle.iox_wire_calls.specs.FarSlots.{IsInPool}
use Rattle.iox_wire_calls.specs.Seat.{Seat}
use Rattle.iox_laws.proofs.WeaveLedger.Truths.{or-left}
use Rattle.iox_wire_calls.specs.OwnedBegins.{LayoutFits}
use Rattle.iox_wire_calls.proofs.CountsKept.{begins_keep_own}
use Rattle.iox_wire_calls.specs.MomentsOf.{Pools}
use Rattle.iox_steps.specs.Sites.{size}
use Rattle.iox_wire_calls.specs.Tables.{Setting, entry_at, port_shape, words_before_payload}
use Rattle.iox_model.specs.Maps.{has_number, put_at}
use Rattle.iox_wire_keeps.proofs.Kept.{Stays, named_entry, node_stays, stays}
use Rattle.iox_wire_calls.specs.Places.{CallFits, IsOfLoan, PlaceFits}
use Rattle.iox_wire_calls.specs.Fits.{WireContents}
use Rattle.iox_wire_calls.proofs.Counting.{used}
use Rattle.iox_wire_calls.specs.NewLoan.{NewLoan}
use Rattle.iox_wire_calls.specs.Begins.{begin}
use Rattle.iox_wire_calls.specs.SlotsKnown.{HasEntry}
use Rattle.iox_wire_keeps.specs.MessageBegins.{BeginsLeaveMessages, FirstFits}
use Rattle.iox_wire_calls.specs.Nodes.{NodeStands}
use Rattle.iox_wire_calls.specs.HeldSteps.{FreeSlotsAreUnnamed}
use Rattle.iox_model.specs.Commands.{WireCall}
use Rattle.iox_wire_calls.proofs.MessageLists.{count_of_words}
use Rattle.iox_wire_keeps.proofs.Firsts.{IsFirst}
use Rattle.iox_model.specs.Joins.{not_living}
use Rattle.iox_wire_calls.specs.Local.{Local}
use Rattle.iox_laws.proofs.WeaveLaws.MapLemmas.{eqb-refl}
use Rattle.iox_wire_calls.proofs.HoldingLaws.{one_slot_changes}
use Rattle.iox_wire_calls.specs.Known.{free_slots}
use Rattle.std.specs.Ordering.{on}
use Rattle.iox_wire_calls.proofs.FreeSlots.{free_slots_are_nobodys}

-- a call that starts without a loan of its own changes no slot
starts_held : (p : Setting) (x : Seat) (held : Pools) (local : Local) (m : CallMessage) → message_at local ≡ m → Starting p x m → held_at p held local ≡ held
starts_held p x held (LendStores o slot next) m is start = absurd (subst (Starting p x) (sym is) start)
starts_held p x held local m is start = refl

starts_stored : (p : Setting) (x : Seat) (held : Pools) (c : WireContents) (m : CallMessage) → Starting p x m → CallIsStored p held c m
starts_stored p x held c (Sent e true) start = absurd (true≢false start.0)
starts_stored p x held c (Taken w slot) start = absurd start
starts_stored p x held c m start = tt

module _ (p : Setting) (held : Pools) (word : ℕ → ℕ) (c : WireContents) (seats : ℕ → Seat) (w : World) (n : ℕ) (call : WireCall)
    (shows : ShowsWorld p held word c seats w) (layout : LayoutFits p w.state.fixed)
    (nodes : (k : ℕ) → not_living w.state k ≡ None → NodeStands p held w.state (seats k))
    (fits : (k : ℕ) → not_living w.state k ≡ None → CallFits p (seats k)) (living : not_living w.state n ≡ None) (idle : (seats n).local ≡ Idle)
    (first_fits : CallFits p (begin p (seats n) call)) (sized : FirstFits p (begin p (seats n) call).local) (has : SlotsHoldMessages p held c seats w.state) where
  abbrev y : Seat
  y = begin p (seats n) call

  abbrev new : Pools
  new = held_at p held (begin p (seats n) call).local

  unnamed : FreeSlotsAreUnnamed p c seats w.state (seats n)
  unnamed = free_slots_are_nobodys p held word c seats w n shows layout (λ k lives. (nodes k lives).names) living (nodes n living).slots

  begun_so : Starts p w.state.request_state (seats n) (begin p (seats n) call) ⊎ Takes (seats n) (begin p (seats n) call)
  begun_so = starts p w.state.request_state (seats n) call

  same_at : (port slot : ℕ) → (has_number slot (free_slots (seats n) port) ≡ true → ⊥) → new port slot ≡ held port slot
  same_at port slot used = by_start begun_so
    where
      by_start : Starts p w.state.request_state (seats n) (begin p (seats n) call) ⊎ Takes (seats n) (begin p (seats n) call) → new port slot ≡ held port slot
      by_start (inl start) = ap (λ (h : Pools). h port slot) (starts_held p (seats n) held y.local (message_at y.local) refl start.message)
      by_start (inr took) =
          ap (λ l. held_at p held l port slot) took.place
          ∙ (one_slot_changes held took.loan.port took.slot (message_in p took.loan)).1 port slot
          (λ same there. used (subst (λ i. has_number i (free_slots (seats n) port) ≡ true) there
          (subst (λ i. has_number took.slot (free_slots (seats n) i) ≡ true) same
          (ap (has_number took.slot) took.there ∙ or-left (took.slot == took.slot) (has_number took.slot took.free) (eqb-refl took.slot)))))

  still_at : (port slot : ℕ) → (has_number slot (free_slots (seats n) port) ≡ true → ⊥) → Stays p held new c c port slot
  still_at port slot used = record { message = same_at port slot used; words = λ stored. stored }

  others_stay : (k : ℕ) → not_living w.state k ≡ None → HoldsStored p new c (seats k)
  others_stay k lives =
      node_stays p held new c c (seats k)
      (λ e there low. still_at e.sender e.slot (λ free. named_entry e.sender e.slot (seats k).table e there refl refl ((unnamed e.sender e.slot free).entries k lives)))
      (λ port slot named. still_at port slot (λ free. true≢false (sym named ∙ (unnamed port slot free).places k lives)))
      (λ port slot from words count at stand. stand) (written_own p held w.state (seats k) (nodes k lives) (fits k lives)) (has.nodes k lives)

  queues_stay : WhatWaitsIsStored p new c w.state.fixed
  queues_stay v slot way on there =
      stays p held new c c v.sender slot (still_at v.sender slot (λ free. true≢false (sym there ∙ (unnamed v.sender slot free).ways.waiting v way on refl)))
      (has.waiting v slot way on there)

  -- ---- the node itself

  before : HoldsStored p new c (seats n)
  before = others_stay n living

  same_table : y.table ≡ (seats n).table
  same_table = (begins_keep_own p (seats n) call).table

  has_before : (e : Entry) → HasEntry y e → HasEntry (seats n) e
  has_before e there = ap (entry_at e.number) (sym same_table) ∙ there

  unwritten : (e : Entry) → IsWritten (seats n).local e → ⊥
  unwritten e its = subst (λ l. IsWritten l e) idle its

  call_now : Starts p w.state.request_state (seats n) (begin p (seats n) call) ⊎ Takes (seats n) (begin p (seats n) call) → CallIsStored p new c (message_at y.local)
  call_now (inl start) = starts_stored p (seats n) new c (message_at y.local) start.message
  call_now (inr took) = subst (λ l. CallIsStored p new c (message_at l)) (sym took.place) tt

  none_yet : (port slot from : ℕ) (words : List ℕ) (count : ℕ) → count ≡ 0 → StandFrom p c port slot from words count
  none_yet port slot from words count none k less = absurd (no_less k count less none)
    where
      no_less : (k count : ℕ) → k < count → count ≡ 0 → ⊥
      no_less k count less none = omega (arith, less, none)

  entry_low : (e : Entry) → HasEntry (seats n) e → IsInPool p e.sender e.slot
  entry_low e there = by_part ((nodes n living).in_pools e there)
    where
      by_part : IsInPool p e.sender e.slot ⊎ (message_at (seats n).local ≡ Leaving e) → IsInPool p e.sender e.slot
      by_part (inl low) = low
      by_part (inr leaves) = absurd (subst LeavesNothing leaves (subst (λ l. LeavesNothing (message_at l)) (sym idle) tt))

  -- the words of the entry's message before its payload stand there
  written_now : (e : Entry) (words : List ℕ) (count : ℕ) → IsOfLoan e.kind → HasEntry y e → count ≡ 0 → length words ≡ e.elements * (port_shape p e.port).width
      → StandsWritten p new c e words count
  written_now e words count loan there none long =
      let its : HasEntry (seats n) e = has_before e there in
      let own : e.sender ≡ e.port = (((nodes n living).names.entries e its).own (loan_kept e.kind loan)).1 in
      let stored : IsStored p new c e.port e.slot = subst (λ i. IsStored p new c i e.slot) own (before.entries e its (entry_low e its) (unwritten e)) in (
        stored.fits,
        stored.addressed,
        λ k less. stored.words k (shorter k stored.fits.user less),
        none_yet e.port e.slot (words_before_payload p e.port) words count none,
        long,
      )
    where
      shorter : (k : ℕ) → length (new e.port e.slot).user ≡ length (port_shape p e.port).user → k < words_before_payload p e.port
          → k < length (words_in p new e.port e.slot)
      shorter k user less =
          let count = count_of_words (p.port e.port).role (new e.port e.slot) in omega (arith, count, user, less)

  ended_now : (ending : Ending) → IsFirst (Ends ending) → FirstFits p (Ends ending) → PlaceFits p y (Ends ending) → Starting p (seats n) (message_at (Ends ending))
      → GoesThrough p new c (Ends ending)
  ended_now (endings.Lends o slot) first size place start = absurd first
  ended_now (endings.Receives v u slot header) first size place start = absurd first
  ended_now (endings.Fills e words) first size place start =
      written_now e words (length words) place (ap (entry_at e.number) same_table ∙ start) (ap length first) size
  ended_now ending first size place start = tt

  place_now : (local : Local) → IsFirst local → FirstFits p local → PlaceFits p y local → (Starting p (seats n) (message_at local) ⊎ ((o : NewLoan) × ((slot : ℕ) × (local ≡ LendStores o slot 0))))
      → GoesThrough p new c local
  place_now (LendEmpties o v part left) first size place start = size
  place_now (LendStores o slot next) first size place start = (size, none_yet o.port slot 0 (loan_words p o) next first)
  place_now (Writes e words next) first size place (inl start) = written_now e words next place (ap (entry_at e.number) same_table ∙ start) first size
  place_now (Writes e words next) first size place (inr (o, (slot, is))) = absurd (cc)
  place_now (Reads e words) first size place start = ((new e.sender e.slot).user ++ (new e.sender e.slot).payload, ap (λ xs. xs ++ ((new e.sender e.slot).user ++ (new e.sender e.slot).payload)) first)
  place_now (ReceiveLoads v u slot header left waiting) first size place start = (header_in p new u.sender slot, ap (λ xs. xs ++ header_in p new u.sender slot) first)
  place_now (ReceiveAsks v u slot header left waiting) first size place start = absurd first
  place_now (Ends ending) first size place (inl start) = ended_now ending first size place start
  place_now (Ends ending) first size place (inr (o, (slot, is))) = absurd (cc)
  place_now local first size place start = tt

  starting : Starts p w.state.request_state (seats n) (begin p (seats n) call) ⊎ Takes (seats n) (begin p (seats n) call)
      → Starting p (seats n) (message_at y.local) ⊎ ((o : NewLoan) × ((slot : ℕ) × (y.local ≡ LendStores o slot 0)))
  starting (inl start) = inl start.message
  starting (inr took) = inr (took.loan, (took.slot, took.place))

  own_holds : HoldsStored p new c y
  own_holds = record {
    entries = λ e there low free. before.entries e (has_before e there) low (unwritten e);
    lengths = λ e there low. before.lengths e (has_before e there) low;
    suits = λ e there low. before.suits e (has_before e there) low;
    call = call_now begun_so;
    place = place_now y.local (first p (seats n) call) sized first_fits.place (starting begun_so);
  }

  pub all_hold : SlotsHoldMessages p new c (put_at seats n y) w.state
  all_hold = record { waiting = queues_stay; nodes = λ k lives. by_node k (k == n) refl lives }
    where
      by_node : (k : ℕ) (b : Bool) → (k == n) ≡ b → not_living w.state k ≡ None → HoldsStored p new c (if b then y else seats k)
      by_node k true is lives = own_holds
      by_node k false is lives = others_stay k lives

pub begins_leave_messages : BeginsLeaveMessages
begins_leave_messages p held word c seats w n call shows layout nodes fits living idle first_fits sized has =
    all_hold p held word c seats w n call shows layout nodes fits living idle first_fits sized has
