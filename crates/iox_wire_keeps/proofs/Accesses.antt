-- Slots hold their messages after an access: those of other nodes and of queues stay, and the node's
-- own continues.
use Rattle.iox_wire_keeps.specs.Accesses.{AccessesLeaveMessages}
use Rattle.iox_wire_keeps.proofs.Kept.{slot_itself, named_sent, loan_lane}
use Rattle.iox_steps.specs.Events.{rest, IsTrueOf}
use Rattle.iox_wire_calls.specs.Courses as courses
use Rattle.iox_wire_calls.specs.Ending.TheVariants as endings
use Rattle.iox_wire_calls.specs.Following.{CallMessage, NodeContinues, Sent, Taken, lets_go, message_at, picks_slot, puts_aside, sends_loan, keeps, takes, drops, Lent, OfEntry, TakesOn}
use Rattle.iox_wire_calls.specs.Local.TheVariants.{Ends, LendStores, Writes, ReceivePops}
use Rattle.iox_wire_calls.specs.NewLoans.{entry_in, loan_words, message_in}
use Rattle.std.specs.Prelude.{Bool, List, None, false, if◌then◌else◌, length, refl, true, ℕ, ◌+◌, ◌<◌, ◌==◌, ◌∷◌, ◌≡◌, ◌⊎◌, ◌*◌, ◌≤◌}
use Rattle.std.proofs.Common.{ap, inl, inr, subst, sym, true≢false, ◌∙◌}
use Rattle.iox_wire_keeps.specs.Stored.{CallIsStored, EntrySuits, GoesThrough, HoldsStored, IsAddressed, IsStored, IsWritten, LoanFits, SlotsHoldMessages, WhatWaitsIsStored}
use Rattle.iox_wire_calls.specs.Steps.{accessed, advance}
use Rattle.iox_wire_calls.specs.Holding.{held_after, held_from}
use Rattle.iox_wire_calls.specs.Tables.{Setting, entry_at, port_shape}
use Rattle.iox_wire_calls.proofs.Follows.{accesses_follow}
use Rattle.iox_wire_calls.specs.Fits.{WireContents, contents_after, MayRun}
use Rattle.iox_wire_calls.proofs.SlotsFollow.{NotLent}
use Rattle.iox_model.specs.Settings.{is_client}
use Rattle.iox_model.specs.Responses.{copies, sends}
use Rattle.iox_wire_calls.proofs.MessageStores.{loans_are_stored}
use Rattle.iox_word_map.specs.WordMaps.{MessageQueue}
use Rattle.iox_laws.proofs.WeaveLaws.MapLemmas.{either, eqb-refl}
use Rattle.iox_wire_calls.specs.Programs.{program_access, site_of}
use Rattle.iox_wire_calls.specs.StoredMessages.{HoldsMessage, StandFrom, StoresInto}
use Rattle.iox_laws.proofs.WeaveLedger.Truths.{or-left}
use Rattle.iox_model.specs.Weaves.{World}
use Rattle.iox_model.specs.Messages.{Message}
use Rattle.iox_wire_calls.specs.MomentsOf.{Pools}
use Rattle.iox_wire_calls.specs.SlotsKnown.{HasEntry, IsPortOfSeat}
use Rattle.iox_wire_calls.specs.OwnedWords.{Owns}
use Rattle.iox_model.specs.Maps.{has_number, put_at}
use Rattle.iox_steps.specs.Accesses.{seen_by}
use Rattle.iox_wire_calls.specs.Places.{PlaceFits}
use Rattle.iox_model.specs.declared.way.Way.{Way}
use Rattle.iox_wire_calls.specs.StepLaws.{ReliesOn}
use Rattle.iox_wire_calls.specs.Stands.{AreNumbered, OwnersAre}
use Rattle.iox_wire_calls.specs.Locals.{program_of}
use Rattle.iox_wire_calls.specs.FarSlots.{IsInPool}
use Rattle.iox_wire_keeps.specs.Alone.{IsAlone}
use Rattle.iox_wire_keeps.proofs.Kept.{Stays, named_entry, stays}
use Rattle.iox_wire_calls.specs.Regions.{HasRegion}
use Rattle.iox_wire_calls.specs.Laws.{AccessIsMade, Finds}
use Rattle.iox_wire_calls.specs.Named.{place_names}
use Rattle.iox_wire_calls.specs.Seat.{Seat}
use Rattle.iox_wire_calls.specs.OwnedBegins.{LayoutFits}
use Rattle.iox_wire_calls.specs.Shows.{ShowsWorld, programs_of}
use Rattle.iox_wire_calls.proofs.CountsKept.{steps_keep_own}
use Rattle.iox_wire_calls.specs.Entry.{Entry}
use Rattle.iox_model.specs.Joins.{not_living}
use Rattle.iox_wire_calls.specs.Nodes.{NodeStands}
use Rattle.iox_wire_calls.specs.HeldSteps.{FreeSlotsAreUnnamed}
use Rattle.iox_laws.proofs.WeaveLedger.Outs.{out}
use Rattle.iox_wire_calls.specs.CallsStand.{CallStands}
use Rattle.iox_wire_calls.specs.Known.{free_slots}
use Rattle.iox_wire_calls.specs.Local.{Local}
use Rattle.iox_wire_calls.specs.NewLoan.{NewLoan}
use Rattle.iox_wire_calls.specs.Lanes.{lent_in}
use Rattle.iox_wire_calls.proofs.LanesTell.{low}
use Rattle.iox_wire_calls.specs.LoanSlots.{HoldsLoan}
use Rattle.iox_wire_calls.proofs.OwnedPlaces.{owners_may_access}
use Rattle.iox_wire_calls.proofs.Steps.{each_access_keeps_the_words}
use Rattle.iox_steps.specs.Fits.{write_of}
use Rattle.iox_wire_calls.proofs.OthersHold.{named_taken}
use Rattle.iox_model.specs.Counts.{lent}
use Rattle.iox_wire_keeps.proofs.SlotsLeft as left
use Rattle.iox_wire_keeps.proofs.Queued as queued
use Rattle.iox_wire_keeps.proofs.NextPlaces as places

abbrev IsLent : CallMessage → Type 0
IsLent (Lent o slot) = Unit {0}
IsLent other = ⊥

module _ (p : Setting) (held : Pools) (word word' : ℕ → ℕ) (c : WireContents) (seats : ℕ → Seat) (w : World) (n : ℕ)
    (shows : ShowsWorld p held word c seats w) (layout : LayoutFits p w.state.fixed) (owners : OwnersAre p w.state.fixed) (numbered : AreNumbered p)
    (nodes : (k : ℕ) → not_living w.state k ≡ None → NodeStands p held w.state (seats k))
    (calls : (k : ℕ) → not_living w.state k ≡ None → CallStands p held (seats k))
    (regions : (port : ℕ) → has_number port p.layout.sizes.ports ≡ true → HasRegion p port) (living : not_living w.state n ≡ None)
    (relies : ReliesOn p (accessed (seats n)) w.state held (seats n).local (seen_by (program_access p.layout (program_of p (seats n).local)) word))
    (made : AccessIsMade (program_access p.layout (program_of p (seats n).local)) word word') (has : SlotsHoldMessages p held c seats w.state) where
  abbrev seen : ℕ
  seen = seen_by (program_access p.layout (program_of p (seats n).local)) word

  abbrev y : Seat
  y = advance p (accessed (seats n)) (seats n).local (seen_by (program_access p.layout (program_of p (seats n).local)) word)

  abbrev new : Pools
  new = held_after p (seats n) (seen_by (program_access p.layout (program_of p (seats n).local)) word) held

  abbrev after : WireContents
  after = contents_after p.layout (program_of p (seats n).local) (seen_by (program_access p.layout (program_of p (seats n).local)) word) c

  mine : NodeStands p held w.state (seats n)
  mine = nodes n living

  -- ---- what the access leaves

  same_at : (port slot : ℕ) → (has_number slot (free_slots (seats n) port) ≡ true → ⊥) → new port slot ≡ held port slot
  same_at = left.same_at p held word c seats w n shows layout owners numbered nodes calls living relies has

  still_at : (port slot : ℕ) → (has_number slot (free_slots (seats n) port) ≡ true → ⊥) → (StoresInto (seats n).local port slot → ⊥) → Stays p held new c after port slot
  still_at = left.still_at p held word c seats w n shows layout owners numbered nodes calls living relies has

  unnamed : FreeSlotsAreUnnamed p c seats w.state (seats n)
  unnamed = left.unnamed p held word c seats w n shows layout owners numbered nodes calls living relies has

  alone : (port slot : ℕ) → StoresInto (seats n).local port slot → IsAlone p c seats w.state n port slot
  alone = left.alone p held word c seats w n shows layout owners numbered nodes calls living relies has

  -- ---- queues

  queues_stay : WhatWaitsIsStored p new after w.state.fixed
  queues_stay v slot way on there = by_part (queued.waited p held word c seats w n living has (program_of p (seats n).local) v slot there)
    where
      by_part : (has_number slot (c.queues (MessageQueue v)).waiting ≡ true) ⊎ queued.Publishes p held word c seats w n living has (program_of p (seats n).local) v slot → IsStored p new after v.sender slot
      by_part (inl before) =
          stays p held new c after v.sender slot
          (still_at v.sender slot (λ free. true≢false (sym before ∙ (unnamed v.sender slot free).ways.waiting v way on refl))
          (λ into. true≢false (sym before ∙ (alone v.sender slot into).ways.waiting v way on refl)))
          (has.waiting v slot way on before)
      by_part (inr out) =
          let r = queued.published p held word c seats w n living has (seats n).local refl relies mine.owns.owns mine.names.place mine.name_slots.place v slot out in
          stays p held new c after v.sender slot
          (still_at v.sender slot (λ free. true≢false (sym r.1 ∙ (unnamed v.sender slot free).places n living)) (λ into. r.2 v.sender slot into)) r.0

  -- ---- the node itself

  -- what is written stays so until the call ends
  written_goes : (e : Entry) → IsWritten (seats n).local e → IsWritten y.local e
  written_goes e = by_place (seats n).local relies
    where
      by_place : (local : Local) → ReliesOn p (accessed (seats n)) w.state held local seen → IsWritten local e → IsWritten (advance p (accessed (seats n)) local seen).local e
      by_place (Writes k words next) relies is =
          either (λ (q : Seat). IsWritten q.local e) (next + 1 == length words) (courses.ended (accessed (seats n)) (endings.Fills k words))
          (courses.placed (accessed (seats n)) (Writes k words (next + 1))) (λ last. is) (λ more. is)
      by_place (Ends ending) relies is = absurd relies
      by_place local relies is = absurd is

  same_table : y.table ≡ (seats n).table
  same_table = (steps_keep_own p (seats n) seen).table

  has_before : (e : Entry) → HasEntry y e → HasEntry (seats n) e
  has_before e there = ap (entry_at e.number) (sym same_table) ∙ there

  still_entry : (e : Entry) → HasEntry (seats n) e → (StoresInto (seats n).local e.sender e.slot → ⊥) → Stays p held new c after e.sender e.slot
  still_entry e there other =
      still_at e.sender e.slot (λ free. named_entry e.sender e.slot (seats n).table e there refl refl ((unnamed e.sender e.slot free).entries n living)) other

  own_entries : (e : Entry) → HasEntry y e → IsInPool p e.sender e.slot → (IsWritten y.local e → ⊥) → IsStored p new after e.sender e.slot
  own_entries e there low free =
      stays p held new c after e.sender e.slot
      (still_entry e (has_before e there) (λ into. free (written_goes e ((alone e.sender e.slot into).own e (has_before e there) (slot_itself e)))))
      ((has.nodes n living).entries e (has_before e there) low (λ is. free (written_goes e is)))

  own_lengths : (e : Entry) → HasEntry y e → IsInPool p e.sender e.slot → (new e.sender e.slot).elements ≡ e.elements
  own_lengths e there low =
      ap (λ (m : Message). m.elements) (same_at e.sender e.slot
      (λ free. named_entry e.sender e.slot (seats n).table e (has_before e there) refl refl ((unnamed e.sender e.slot free).entries n living)))
      ∙ (has.nodes n living).lengths e (has_before e there) low

  -- ---- what the call has

  -- its slot is not the one that a loan took, and no word of it changes
  module _ (port slot : ℕ) (named : place_names (seats n).local port slot ≡ true) (other : StoresInto (seats n).local port slot → ⊥) where
    kept_there : Stays p held new c after port slot
    kept_there = still_at port slot (λ free. true≢false (sym named ∙ (unnamed port slot free).places n living)) other

  not_storing : (m : CallMessage) → NotLent m → (local : Local) → message_at local ≡ m → ((e : Entry) → m ≡ OfEntry e → ⊥) → (port slot : ℕ) → StoresInto local port slot → ⊥
  not_storing m lent (LendStores o own next) is none port slot into = subst NotLent (sym is) lent
  not_storing m lent (Writes e words next) is none port slot into = none e (sym is)
  not_storing m lent local is none port slot into = into

  kept_call : (m : CallMessage) → message_at (seats n).local ≡ m → CallIsStored p held c m → CallIsStored p new after m
  kept_call (Taken z slot) is stored =
      stays p held new c after z.sender slot
      (kept_there z.sender slot (named_taken (seats n).local z slot is) (not_storing (Taken z slot) tt (seats n).local is (λ e same. absurd (cc)) z.sender slot)) stored
  kept_call (Sent e true) is stored =
      let still = kept_there e.sender e.slot (named_sent (seats n).local e true is) (not_storing (Sent e true) tt (seats n).local is (λ k same. absurd (cc)) e.sender e.slot) in
      (stays p held new c after e.sender e.slot still stored.0, ap (λ (m : Message). m.elements) still.message ∙ stored.1, stored.2)
  kept_call m is stored = tt

  -- what a receive takes waited in its queue
  first_of : (slot : ℕ) (waiting others : List ℕ) → waiting ≡ slot ∷ others → has_number slot waiting ≡ true
  first_of slot waiting others is = ap (has_number slot) is ∙ or-left (slot == slot) (has_number slot others) (eqb-refl slot)

  may_run : MayRun p.layout n (program_of p (seats n).local)
  may_run =
      subst (λ k. MayRun p.layout k (program_of p (seats n).local)) (shows.node n)
      (owners_may_access p held w.state (seats n) mine.owns.owns mine.tells).0.may_run

  finds : Finds p.layout word word' (programs_of p seats) c (program_of p (seats n).local) seen
  finds = (each_access_keeps_the_words p.layout word word' (programs_of p seats) c n (program_of p (seats n).local) shows.sized shows.words refl may_run made).1

  took_stored : (local : Local) → (seats n).local ≡ local → (z : Way) (slot : ℕ)
      → TakesOn p local (seen_by (program_access p.layout (program_of p local)) word) z slot → Owns p (seats n).node w.state.fixed w.state.request_state local
      → Finds p.layout word word' (programs_of p seats) c (program_of p local) (seen_by (program_access p.layout (program_of p local)) word)
      → IsStored p new after z.sender slot
  took_stored (ReceivePops v u more place left waiting) is z slot popped owns found =
      let on = owns.0.0 in
      let there : has_number slot (c.queues (MessageQueue u)).waiting ≡ true
      = first_of slot (c.queues (MessageQueue u)).waiting (rest (c.queues (MessageQueue u)).waiting)
      (subst (λ event. IsTrueOf (site_of p.layout (MessageQueue u)) (write_of (site_of p.layout (MessageQueue u)) word) (c.queues (MessageQueue u)).waiting
      (c.queues (MessageQueue u)).hand event) popped.1 found.is_true) in
      subst (λ (k : Way). IsStored p new after k.sender slot) popped.0
      (stays p held new c after u.sender slot
      (still_at u.sender slot (λ free. true≢false (sym there ∙ (unnamed u.sender slot free).ways.waiting u on.way on.counted refl))
      (subst (λ l. StoresInto l u.sender slot → ⊥) (sym is) (λ none. none)))
      (has.waiting u slot on.way on.counted there))
  took_stored local is z slot popped owns found = absurd popped

  -- a loan that is stored, and sent by the same call
  module _ (o : NewLoan) (slot next : ℕ) (is : (seats n).local ≡ LendStores o slot next) (copies : o.copies ≡ true)
      (last : (next + 1 == length (loan_words p o)) ≡ true) where
    home : IsPortOfSeat p (seats n) o.port
    home = (subst (PlaceFits p (seats n)) is (calls n living).fits.place).0

    size : LoanFits p o × StandFrom p c o.port slot 0 (loan_words p o) next
    size = subst (GoesThrough p held c) is (has.nodes n living).place

    owns_it : Owns p (seats n).node w.state.fixed w.state.request_state (LendStores o slot next)
    owns_it = subst (Owns p (seats n).node w.state.fixed w.state.request_state) is mine.owns.owns

    message : held o.port slot ≡ message_in p o
    message = subst (λ l. HoldsLoan p held (message_at l)) is (calls n living).loans.loan

    lane_low : is_client (p.port o.port).role ≡ true → o.lane < p.layout.sizes.lanes o.port
    lane_low client =
        loan_lane p w.state.fixed (seats n) layout numbered (shows.counts n living).knows.ports (calls n living).lanes o slot
        (subst (PlaceFits p (seats n)) is (calls n living).fits.place) (ap (λ l. lent_in (message_at l)) is) client

    lent_stored : IsStored p held after o.port slot
    lent_stored = record {
      fits = record {
        region = owns_it.0.region;
        in_pool = owns_it.1;
        user = ap (λ (m : Message). length m.user) message;
        payload = ap (λ (m : Message). length m.payload) message ∙ size.0.1 copies
            ∙ ap (λ (m : Message). m.elements * (port_shape p o.port).width) (sym message);
        room = subst (λ (m : Message). m.elements ≤ (p.port o.port).longest) (sym message) size.0.0;
      };
      words = subst (λ l. HoldsMessage p held (contents_after p.layout (program_of p l) seen c) o.port slot) (sym is)
          ((loans_are_stored p (seats n).node w.state.fixed w.state.request_state o c slot next seen owns_it size.1).1 held last message);
      addressed = subst (IsAddressed p o.port) (sym message) ((size.0.3 slot).small, lane_low, size.0.4);
    }

    same_pools : new ≡ held
    same_pools = ap (λ l. held_from p held l y.local) is

    sent_there : IsStored p new after o.port slot × ((new o.port slot).elements ≡ o.elements) × EntrySuits p (entry_in o slot)
    sent_there = (
      subst (λ h. IsStored p h after o.port slot) (sym same_pools) lent_stored,
      ap (λ (h : Pools). (h o.port slot).elements) same_pools ∙ ap (λ (m : Message). m.elements) message,
      size.0.3 slot,
    )

  -- it is the last word, if the call sends then
  last_word : (o : NewLoan) (slot next : ℕ) (e : Entry) → (seats n).local ≡ LendStores o slot next → message_at y.local ≡ Sent e true
      → (next + 1 == length (loan_words p o)) ≡ true
  last_word o slot next e is sends = by_case (next + 1 == length (loan_words p o)) refl
    where
      by_case : (b : Bool) → (next + 1 == length (loan_words p o)) ≡ b → b ≡ true
      by_case true at = refl
      by_case false at =
          absurd (subst NotLent (sym sends
          ∙ ap (λ l. message_at (advance p (accessed (seats n)) l seen).local) is
          ∙ ap (λ b. message_at (if b then courses.lent p (accessed (seats n)) o slot else courses.placed (accessed (seats n)) (LendStores o slot (next + 1))).local) at) tt)

  lending_place : (local : Local) (o : NewLoan) (slot : ℕ) → (seats n).local ≡ local → ReliesOn p (accessed (seats n)) w.state held local seen → message_at local ≡ Lent o slot
      → (next : ℕ) × ((seats n).local ≡ LendStores o slot next)
  lending_place (LendStores k own next) o slot is relies lent =
      let same : k ≡ o = (cc) in let there : own ≡ slot = (cc) in
      (next, is ∙ ap (λ i. LendStores i own next) same ∙ ap (λ i. LendStores o i next) there)
  lending_place (Ends ending) o slot is relies lent = absurd relies
  lending_place local o slot is relies lent = absurd (subst IsLent (sym lent) tt)

  call_goes : NodeContinues p (accessed (seats n)) (seats n).local seen y → CallIsStored p new after (message_at y.local)
  call_goes (keeps desks message) =
      subst (CallIsStored p new after) (sym message) (kept_call (message_at (seats n).local) refl (has.nodes n living).call)
  call_goes (lets_go desks still message may) = subst (CallIsStored p new after) (sym message) tt
  call_goes (takes way slot desks still message took) =
      subst (CallIsStored p new after) (sym message) (took_stored (seats n).local refl way slot took mine.owns.owns finds)
  call_goes (puts_aside e desks still returns message) = subst (CallIsStored p new after) (sym message) tt
  call_goes (drops e desks still of message) = subst (CallIsStored p new after) (sym message) tt
  call_goes (sends_loan o slot desks still before copies message) =
      let at = lending_place (seats n).local o slot refl relies before in
      subst (CallIsStored p new after) (sym message) (sent_there o slot at.0 at.1 copies (last_word o slot at.0 (entry_in o slot) at.1 message))
  call_goes (picks_slot o slot free desks still place before there lends) = subst (λ l. CallIsStored p new after (message_at l)) (sym place) tt

  -- ---- all of it

  own_holds : HoldsStored p new after y
  own_holds = record {
    entries = own_entries;
    lengths = own_lengths;
    suits = λ e there low. (has.nodes n living).suits e (has_before e there) low;
    call = call_goes (accesses_follow p (accessed (seats n)) seen);
    place = places.own_place p held word c seats w n shows nodes calls living relies has;
  }

  pub all_hold : SlotsHoldMessages p new after (put_at seats n y) w.state
  all_hold = record {
    waiting = queues_stay;
    nodes = λ k lives. by_node k (k == n) refl lives;
  }
    where
      by_node : (k : ℕ) (b : Bool) → (k == n) ≡ b → not_living w.state k ≡ None → HoldsStored p new after (if b then y else seats k)
      by_node k true is lives = own_holds
      by_node k false is lives = left.others_stay p held word c seats w n shows layout owners numbered nodes calls living relies has k is lives

pub accesses_leave_messages : AccessesLeaveMessages
accesses_leave_messages p held word word' c seats w n shows layout owners numbered nodes calls regions living relies made has =
    all_hold p held word word' c seats w n shows layout owners numbered nodes calls regions living relies made has
