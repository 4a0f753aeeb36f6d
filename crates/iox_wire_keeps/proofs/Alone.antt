-- A slot into which a node stores belongs only to its call: its message is out on no way.
use Rattle.iox_wire_calls.specs.Ending.TheVariants as endings
use Rattle.iox_laws.proofs.WeaveLedger.Truths.{false_if}
use Rattle.iox_wire_calls.specs.Following.{LeavesNothing, Leaving, message_at}
use Rattle.iox_wire_keeps.specs.Stored.{IsWritten, StoresAt}
use Rattle.iox_wire_calls.specs.Seat.{Seat}
use Rattle.iox_model.specs.Doings.{Doing, Ended, Fills, Loans}
use Rattle.std.specs.Prelude.{Bool, List, None, Option, Some, [], false, if◌then◌else◌, not, refl, true, ℕ, ◌&&◌, ◌<◌, ◌==◌, ◌∷◌, ◌≡◌, ◌⊎◌}
use Rattle.std.proofs.Common.{ap, arith, eq-eqb, eqb-true, inl, inr, subst, sym, true≢false, ◌∙◌}
use Rattle.iox_laws.proofs.WeaveBeats.LiveWays.{Here, from_is_live, here}
use Rattle.iox_laws.proofs.WeaveLedger.Lists.{IsAmong, among-front, among-map, among-number, find-among, number-among}
use Rattle.iox_wire_calls.specs.Tables.{Setting, entry_at, handle_of}
use Rattle.iox_wire_calls.specs.Entry.{Entry}
use Rattle.iox_wire_calls.proofs.OutNowhere.{handles_are, none_named, not_received, on_no_way, place_not}
use Rattle.iox_wire_calls.specs.NewLoans.{loan_in}
use Rattle.iox_laws.proofs.WeaveLedger.LedgerHolds.{record_is_what_is_out}
use Rattle.iox_model.specs.Handles.{is_own, is_received}
use Rattle.iox_wire_calls.specs.Named.{place_names}
use Rattle.iox_wire_calls.specs.SlotsKnown.{HasEntry, IsPortOfSeat, NamesStand, PlaceStands}
use Rattle.iox_wire_calls.specs.Places.{CallFits, IsOfLoan, IsNext, PlaceFits}
use Rattle.iox_wire_calls.proofs.OwnMessages.{own_messages_are_apart, own_messages_are_lent}
use Rattle.iox_wire_calls.specs.UsedSlots.{CallHolds, slots_in_call, slots_used}
use Rattle.std.specs.List.{list_any}
use Rattle.iox_wire_calls.specs.Writes.{is_slot_of}
use Rattle.iox_wire_calls.specs.Nodes.{NodeStands}
use Rattle.iox_wire_calls.specs.Fits.{WireContents}
use Rattle.iox_wire_calls.specs.NewLoan.{NewLoan}
use Rattle.iox_wire_calls.specs.Ending.{Ending}
use Rattle.iox_wire_calls.specs.MomentsOf.{Pools}
use Rattle.iox_model.specs.Peers.{node_of_port, ways_from}
use Rattle.iox_wire_calls.specs.Local.TheVariants.{Ends, LendStores, Writes}
use Rattle.iox_model.specs.Weaves.{World}
use Rattle.iox_wire_calls.specs.Local.{Local}
use Rattle.iox_model.specs.Joins.{not_living}
use Rattle.iox_laws.specs.WeaveLedger.LedgerLaws.{out_on}
use Rattle.iox_wire_calls.specs.Doings.{doing_of}
use Rattle.iox_wire_calls.proofs.Homes.{handle_there}
use Rattle.iox_wire_keeps.specs.Alone.{IsAlone, StoredSlotsAreAlone}
use Rattle.iox_wire_calls.proofs.Unsent.{copies_are_fresh}
use Rattle.iox_model.specs.declared.way.Way.{Way}
use Rattle.iox_model.specs.Responses.{sends}
use Rattle.iox_laws.proofs.WeaveBeats.Fresh.{unsent_is_nowhere}
use Rattle.iox_wire_calls.specs.Shows.{ShowsWorld}
use Rattle.iox_laws.proofs.WeaveLedger.Outs.{out}
use Rattle.iox_wire_calls.specs.OwnedBegins.{LayoutFits}
use Rattle.iox_wire_calls.specs.Stands.{AreNumbered, OwnersAre}
use Rattle.iox_model.specs.Begins.{written}
use Rattle.iox_model.specs.declared.kind.Kind.{Kind}
use Rattle.iox_model.specs.declared.kind.Kind.TheVariants as kinds
use Rattle.iox_model.specs.Maps.{has_number, has_way}
use Rattle.iox_laws.proofs.WeaveLaws.MapLemmas.{eqb-refl}
use Rattle.iox_laws.specs.WeaveBeats.LiveWays.{GoesFrom}
use Rattle.iox_wire_calls.specs.FarSlots.{IsInPool}
use Rattle.std.specs.Ordering.{on}
use Rattle.iox_wire_calls.proofs.OwnPorts.{both}

-- it holds of each node that holds of this one and of all others
none_if : (b : Bool) → not b ≡ true → b ≡ false
none_if true e = sym e
none_if false e = refl

-- a loan that was written is no received message
loan_kept : (kind : Kind) → IsOfLoan kind → is_received kind ≡ false
loan_kept kinds.ActiveRequest is = sym is
loan_kept kinds.Response is = sym is
loan_kept kind is = refl

module _ (p : Setting) (held : Pools) (word : ℕ → ℕ) (c : WireContents) (seats : ℕ → Seat) (w : World) (n : ℕ) (shows : ShowsWorld p held word c seats w)
    (fits : LayoutFits p w.state.fixed) (stands : (k : ℕ) → not_living w.state k ≡ None → NodeStands p held w.state (seats k))
    (owners : OwnersAre p w.state.fixed) (numbered : AreNumbered p) (living : not_living w.state n ≡ None) (calls_fit : CallFits p (seats n)) where
  at : Here w
  at = here w shows.reachable

  to_do : (local : Local) → (seats n).local ≡ local → w.doing n ≡ doing_of p w.state.fixed held n local
  to_do local is =
      subst (λ k. w.doing k ≡ doing_of p w.state.fixed held k local) (shows.node n)
      (subst (λ l. w.doing (seats n).node ≡ doing_of p w.state.fixed held (seats n).node l) is (shows.doing n living))

  mine_stands : NodeStands p held w.state (seats n)
  mine_stands = stands n living

  names : (k : ℕ) → not_living w.state k ≡ None → NamesStand p w.state.fixed (seats k)
  names k lives = (stands k lives).names

  own_node : (port : ℕ) → IsPortOfSeat p (seats n) port → node_of_port w.state.fixed port ≡ n
  own_node port home = sym (owners port) ∙ home.1 ∙ shows.node n

  -- ---- a slot whose message was delivered on no way

  module _ (port slot : ℕ) (mine : node_of_port w.state.fixed port ≡ n) (within : slot < (p.port port).pool)
      (fresh : (y : Way) → y.sender ≡ port → GoesFrom w.state.fixed n y → has_way y (ways_from w.state.fixed y.sender) ≡ true
      → w.state.delivered y (held port slot).serial ≡ false) where
    nowhere : (y : Way) → y.sender ≡ port → GoesFrom w.state.fixed n y → has_way y (ways_from w.state.fixed y.sender) ≡ true
        → IsAmong (held port slot).serial (out_on w y) → ⊥
    nowhere y from goes way out =
        true≢false (sym (record_is_what_is_out at.state w at.beats y (held port slot).serial at.on (from_is_live w n y at living goes)
        ∙ among-number (held port slot).serial (out_on w y) out) ∙ fresh y from goes way)

    module _ (r : ℕ) (other : (r == n) ≡ false) (lives : not_living w.state r ≡ None) where
      own_not : (e : Entry) → IsAmong e (seats r).table → is_own e.kind ≡ true → e.sender ≡ e.port → e.sender ≡ port → e.slot ≡ slot → ⊥
      own_not e among own itself from there =
          let has : IsAmong (handle_of held r e) (w.state.fixed.handles r)
          = subst (IsAmong (handle_of held r e)) (sym (handles_are p held word c seats w shows fits port slot n living mine nowhere r lives (names r lives) within))
          (among-map (handle_of held r) e (seats r).table among) in
          let node : node_of_port w.state.fixed e.port ≡ r = (at.holding.fits.handles r).of_port (handle_of held r e) has in
          true≢false (sym (eq-eqb r n (sym node ∙ ap (node_of_port w.state.fixed) (sym itself ∙ from) ∙ mine)) ∙ other)

      copy_not : (e : Entry) → slots_in_call port (seats r).local ≡ (if e.port == port then e.slot ∷ [] else []) → e.sender ≡ e.port
          → node_of_port w.state.fixed e.port ≡ (seats r).node → is_slot_of e port slot ≡ false
      copy_not e call itself node = false_if (is_slot_of e port slot) (λ named.
          let same = both (port == e.sender) (slot == e.slot) named in
          let from : e.port ≡ port = sym itself ∙ sym (eqb-true port e.sender same.0) in
          true≢false (sym (eq-eqb r n (sym (shows.node r) ∙ sym node ∙ ap (node_of_port w.state.fixed) from ∙ mine)) ∙ other))

      others_none : list_any (λ e. is_slot_of e port slot) (seats r).table ≡ false
      others_none = none_named p held word c seats w shows fits port slot n living mine nowhere r lives (names r lives) within own_not

      others_place : place_names (seats r).local port slot ≡ false
      others_place =
          place_not p held word c seats w shows fits port slot n living mine nowhere r lives (names r lives) within own_not copy_not (seats r).local refl
          (names r lives).place

    -- of the node's own entries those that it lent itself
    own_entry : (e : Entry) → HasEntry (seats n) e → is_slot_of e port slot ≡ true
        → (is_own e.kind ≡ true) × (e.sender ≡ e.port) × (e.sender ≡ port) × (e.slot ≡ slot)
    own_entry e has named =
        let same = both (port == e.sender) (slot == e.slot) named in
        let from : e.sender ≡ port = sym (eqb-true port e.sender same.0) in
        let there : e.slot ≡ slot = sym (eqb-true slot e.slot same.1) in
        let sent : is_received e.kind ≡ false = false_if (is_received e.kind) (λ received.
        not_received p held word c seats w shows fits port slot n living mine nowhere n living (names n living) within e
        (find-among (λ k. k.number == e.number) e (seats n).table has).0 received from there) in
        let own = ((names n living).entries e has).own sent in
        (own.0, own.1, from, there)

    abbrev Own : Type 0
    Own = (e : Entry) → HasEntry (seats n) e → is_slot_of e port slot ≡ true → IsWritten (seats n).local e

    alone : Own → IsAlone p c seats w.state n port slot
    alone own = record {
      ways = on_no_way p held word c seats w shows fits port slot n living mine nowhere;
      entries = λ k other lives. others_none k other lives;
      places = λ k other lives. others_place k other lives;
      own = own;
    }

  -- ---- loans

  handle_in : (e : Entry) → HasEntry (seats n) e → IsAmong (handle_of held n e) (w.state.fixed.handles n)
  handle_in e has = handle_there p held word c seats w n shows living owners numbered e has

  module _ (o : NewLoan) (slot : ℕ) (next : IsNext p (seats n) o) (holds : (held o.port slot).serial ≡ o.serial)
      (within : slot < (p.port o.port).pool) where
    serial_is : (held o.port slot).serial ≡ w.state.fixed.loans o.port
    serial_is = holds ∙ next.2 ∙ sym (mine_stands.loans o.port next.0)

    no_handle : (e : Entry) → HasEntry (seats n) e → (is_own e.kind ≡ true) × (e.sender ≡ e.port) × (e.sender ≡ o.port) × (e.slot ≡ slot) → ⊥
    no_handle e has (own, itself, from, there) =
        less (held e.sender e.slot).serial (w.state.fixed.loans e.port) (own_messages_are_lent w n (handle_of held n e) shows.reachable (handle_in e has) own)
        (ap (λ i. (held i e.slot).serial) from ∙ ap (λ i. (held o.port i).serial) there ∙ serial_is ∙ ap w.state.fixed.loans (sym from ∙ itself))
      where
        less : (a b : ℕ) → a < b → a ≡ b → ⊥
        less a b low same = omega (arith, low, same)

    lent_alone : ((y : Way) → y.sender ≡ o.port → GoesFrom w.state.fixed n y → has_way y (ways_from w.state.fixed y.sender) ≡ true
        → w.state.delivered y (held o.port slot).serial ≡ false) → IsAlone p c seats w.state n o.port slot
    lent_alone fresh =
        alone o.port slot (own_node o.port next.0) within fresh
        (λ e has named. absurd (no_handle e has (own_entry o.port slot (own_node o.port next.0) within fresh e has named)))

  abbrev Lending : NewLoan → Bool → Doing
  Lending o copies = if copies then sends w.state.fixed (loan_in p o) true else Ended (Loans (loan_in p o))

  lent_fresh : (o : NewLoan) (copies : Bool) → w.doing n ≡ Some (Lending o copies) → (y : Way) → y.sender ≡ o.port → GoesFrom w.state.fixed n y
      → has_way y (ways_from w.state.fixed y.sender) ≡ true → w.state.delivered y o.serial ≡ false
  lent_fresh o true doing y from goes way = copies_are_fresh w n (loan_in p o) y at doing from way goes.2
  lent_fresh o false doing y from goes way = unsent_is_nowhere w n (Ended (Loans (loan_in p o))) (loan_in p o) y shows.reachable doing refl from

  -- ---- writes

  module _ (e : Entry) (words : List ℕ) (has : HasEntry (seats n) e) (doing : w.doing n ≡ Some (Ended (Fills (written (handle_of held n e) words))))
      (own : is_own e.kind ≡ true) (itself : e.sender ≡ e.port) (within : e.slot < (p.port e.port).pool)
      (writes : (k : Entry) → e ≡ k → IsWritten (seats n).local k) where
    written_mine : node_of_port w.state.fixed e.port ≡ n
    written_mine = own_node e.port (calls_fit.handles e has).0

    written_fresh : (y : Way) → y.sender ≡ e.port → GoesFrom w.state.fixed n y → has_way y (ways_from w.state.fixed y.sender) ≡ true
        → w.state.delivered y (held e.port e.slot).serial ≡ false
    written_fresh y from goes way =
        ap (λ i. w.state.delivered y (held i e.slot).serial) (sym itself)
        ∙ unsent_is_nowhere w n (Ended (Fills (written (handle_of held n e) words))) (written (handle_of held n e) words) y shows.reachable doing refl from

    same_entry : (k : Entry) → HasEntry (seats n) k → k.number ≡ e.number → e ≡ k
    same_entry k there number = unwrapped (sym has ∙ ap (λ i. entry_at i (seats n).table) (sym number) ∙ there)
      where
        or_it : Option Entry → Entry
        or_it (Some i) = i
        or_it None = e

        unwrapped : Some e ≡ Some k → e ≡ k
        unwrapped is = ap or_it is

    written_alone : IsAlone p c seats w.state n e.port e.slot
    written_alone =
        alone e.port e.slot written_mine within written_fresh (λ k there named.
        let r = own_entry e.port e.slot written_mine within written_fresh k there named in
        writes k (same_entry k there (own_messages_are_apart w n (handle_of held n k) (handle_of held n e) shows.reachable (handle_in k there) (handle_in e has) r.0 own
        (sym r.1 ∙ r.2) (ap (λ i. (held i k.slot).serial) (r.2 ∙ sym itself) ∙ ap (λ i. (held e.sender i).serial) r.3))))

  -- ---- places

  within_call : (port slot : ℕ) → IsPortOfSeat p (seats n) port → has_number slot (slots_in_call port (seats n).local) ≡ true → slot < (p.port port).pool
  within_call port slot home has =
      (mine_stands.slots.pools port home).within slot
      (among-number slot (slots_used (seats n) port) (among-front slot (slots_in_call port (seats n).local) _ (number-among slot (slots_in_call port (seats n).local) has)))

  its_slot : (port slot : ℕ) → has_number slot (if true && (port == port) then slot ∷ [] else []) ≡ true
  its_slot port slot = rw (eqb-refl port) (rw (eqb-refl slot) refl)

  low_of : (e : Entry) → HasEntry (seats n) e → LeavesNothing (message_at (seats n).local) → e.sender ≡ e.port → e.slot < (p.port e.port).pool
  low_of e has nothing itself = by_part (mine_stands.in_pools e has)
    where
      by_part : IsInPool p e.sender e.slot ⊎ (message_at (seats n).local ≡ Leaving e) → e.slot < (p.port e.port).pool
      by_part (inl low) = subst (λ i. e.slot < (p.port i).pool) itself low
      by_part (inr leaves) = absurd (subst LeavesNothing leaves nothing)

  module _ (e : Entry) (words : List ℕ) (has : HasEntry (seats n) e) (doing : w.doing n ≡ Some (Ended (Fills (written (handle_of held n e) words))))
      (loan : IsOfLoan e.kind) (nothing : LeavesNothing (message_at (seats n).local)) (writes : (k : Entry) → e ≡ k → IsWritten (seats n).local k) where
    filled : IsAlone p c seats w.state n e.port e.slot
    filled =
        let own = ((names n living).entries e has).own (loan_kept e.kind loan) in
        written_alone e words has doing own.0 own.1 (low_of e has nothing own.1) writes

  here_is : (port slot own_port own : ℕ) → port ≡ own_port → slot ≡ own → IsAlone p c seats w.state n own_port own → IsAlone p c seats w.state n port slot
  here_is port slot own_port own from there is =
      subst (λ i. IsAlone p c seats w.state n i slot) (sym from) (subst (IsAlone p c seats w.state n own_port) (sym there) is)

  abbrev Holds : Local → Type 0
  Holds local = (port : ℕ) → IsPortOfSeat p (seats n) port → CallHolds held local

  by_ending : (ending : Ending) (port slot : ℕ) → (seats n).local ≡ Ends ending → StoresAt (Ends ending) port slot → PlaceFits p (seats n) (Ends ending) → Holds (Ends ending)
      → PlaceStands p w.state.fixed (seats n) (Ends ending) → IsAlone p c seats w.state n port slot
  by_ending (endings.Lends o own) port slot is into place holds on =
      here_is port slot o.port own into.0 into.1
      (lent_alone o own place (holds o.port place.0) (within_call o.port own place.0 (ap (λ l. has_number own (slots_in_call o.port l)) is ∙ its_slot o.port own))
      (λ y from goes way. ap (w.state.delivered y) (holds o.port place.0) ∙ lent_fresh o false (to_do (Ends (endings.Lends o own)) is) y from goes way))
  by_ending (endings.Fills e words) port slot is into place holds on =
      here_is port slot e.port e.slot into.0 into.1
      (filled e words on (to_do (Ends (endings.Fills e words)) is) place (subst (λ l. LeavesNothing (message_at l)) (sym is) tt)
      (λ k same. subst (λ l. IsWritten l k) (sym is) same))
  by_ending ending port slot is into place holds on = absurd into

  by_place : (local : Local) (port slot : ℕ) → (seats n).local ≡ local → StoresAt local port slot → PlaceFits p (seats n) local → Holds local
      → PlaceStands p w.state.fixed (seats n) local → IsAlone p c seats w.state n port slot
  by_place (LendStores o own next) port slot is into place holds on =
      here_is port slot o.port own into.0 into.1
      (lent_alone o own place (holds o.port place.0) (within_call o.port own place.0 (ap (λ l. has_number own (slots_in_call o.port l)) is ∙ its_slot o.port own))
      (λ y from goes way. ap (w.state.delivered y) (holds o.port place.0) ∙ lent_fresh o o.copies (to_do (LendStores o own next) is) y from goes way))
  by_place (Writes e words next) port slot is into place holds on =
      here_is port slot e.port e.slot into.0 into.1
      (filled e words on (to_do (Writes e words next) is) place (subst (λ l. LeavesNothing (message_at l)) (sym is) tt)
      (λ k same. subst (λ l. IsWritten l k) (sym is) same))
  by_place (Ends ending) port slot is into place holds on = by_ending ending port slot is into place holds on
  by_place local port slot is into place holds on = absurd into

pub stored_slots_are_alone : StoredSlotsAreAlone
stored_slots_are_alone p held word c seats w n port slot shows fits stands owners numbered living calls_fit into =
    by_place p held word c seats w n shows fits stands owners numbered living calls_fit (seats n).local port slot refl into calls_fit.place
    (λ q home. ((stands n living).slots.ports q home).call) (stands n living).names.place
