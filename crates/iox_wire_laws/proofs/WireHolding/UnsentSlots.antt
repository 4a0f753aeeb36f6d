-- The message of an unsent loan is out on no way, so nobody else has it.
use Rattle.std.specs.Prelude.{filter, map, not, ◌||◌, ◌<◌}
use Rattle.std.specs.List.{list_all, list_any}
use Rattle.std.proofs.Common.{◌≡◌, ℕ, Bool, true, false, if◌then◌else◌, ◌==◌, ◌&&◌, List, [], ◌∷◌, Some, None, refl, ap, sym, subst, ◌∙◌, inl, inr, eq-eqb, eqb-true, true≢false}
use Rattle.iox_model.specs.declared.way.Way.{Way}
use Rattle.iox_model.specs.Begins.{written}
use Rattle.iox_model.specs.Doings.{Doing, Ended, Fills, Loans}
use Rattle.iox_model.specs.Handles.{filled_kind, is_own, is_received}
use Rattle.iox_model.specs.Joins.{not_living}
use Rattle.iox_model.specs.Maps.{has_number, has_way, AreDistinct}
use Rattle.iox_model.specs.Peers.{node_of_port, ways_from}
use Rattle.iox_model.specs.States.{Handle}
use Rattle.iox_model.specs.Weaves.{World}
use Rattle.iox_laws.specs.WeaveBeats.BeatLaws.{unsent_in}
use Rattle.iox_laws.specs.WeaveBeats.LiveWays.{GoesFrom}
use Rattle.iox_laws.proofs.WeaveBeats.Fresh.{unsent_is_nowhere}
use Rattle.iox_laws.proofs.WeaveBeats.LiveWays.{Here, from_is_live, here}
use Rattle.iox_laws.specs.WeaveLedger.LedgerLaws.{out_on}
use Rattle.iox_laws.proofs.WeaveLedger.LedgerHolds.{record_is_what_is_out}
use Rattle.iox_laws.proofs.WeaveLedger.Lists.{IsAmong, among-filter, among-map, among-number, distinct-no_repeats, find-among, no_repeats-distinct, only-one}
use Rattle.iox_laws.proofs.WeaveLedger.Senders.{IsFilled}
use Rattle.iox_laws.proofs.WeaveLedger.Truths.{both_true, false_if}
use Rattle.iox_laws.proofs.WeaveLedger.Views.{node_in, view}
use Rattle.iox_laws.proofs.WeaveLedger.Worlds.{doing-is}
use Rattle.iox_wire_words.specs.Fits.{WireContents}
use Rattle.iox_wire_moments.specs.MomentsOf.{Pools}
use Rattle.iox_wire_locals.specs.declared.local.Ending.TheVariants as endings
use Rattle.iox_wire_locals.specs.declared.local.Local.{Local}
use Rattle.iox_wire_locals.specs.declared.local.Local.TheVariants.{Ends}
use Rattle.iox_wire_locals.specs.declared.seat.Seat.{Seat}
use Rattle.iox_wire_locals.specs.declared.table.Entry.{Entry}
use Rattle.iox_wire_locals.specs.declared.table.NewLoan.{NewLoan}
use Rattle.iox_wire_locals.specs.Doings.{doing_of}
use Rattle.iox_wire_locals.specs.NewLoans.{loan_in}
use Rattle.iox_wire_locals.specs.Tables.{Setting, handle_of}
use Rattle.iox_wire_laws.specs.WireKeeping.Shows.{ShowsWorld}
use Rattle.iox_wire_laws.specs.WireKeeping.UsedSlots.{slots_held, slots_in_call}
use Rattle.iox_wire_laws.specs.WireKeeping.Writes.{is_slot_of}
use Rattle.iox_wire_laws.specs.WireRegions.OwnedBegins.{LayoutFits}
use Rattle.iox_wire_laws.proofs.WireRegions.OwnPorts.{both}
use Rattle.iox_wire_laws.specs.WireHolding.HeldEnds.{HasAlone}
use Rattle.iox_wire_laws.specs.WireHolding.Named.{IsUnnamed, place_names}
use Rattle.iox_wire_laws.specs.WireHolding.SlotsKnown.{HasEntry, NamesStand, PlaceStands}
use Rattle.iox_wire_laws.specs.WireHolding.UnsentSlots.{FilledLoansAreAlone, NewLoansAreUnnamed}
use Rattle.iox_wire_laws.proofs.WireHolding.OutNowhere.{handles_are, has_entry, none_named, not_received, numbers, on_no_way, place_not}

-- it holds of each node that holds of this one and of all others
at_node : (P : ℕ → Type 0) (r n : ℕ) → P n → ((r == n) ≡ false → P r) → P r
at_node P r n itself others = by_case (r == n) refl
  where
    by_case : (b : Bool) → (r == n) ≡ b → P r
    by_case true same = subst P (sym (eqb-true r n same)) itself
    by_case false other = others other

all_of : {A : Type 0} (test : A → Bool) (xs : List A) → ((a : A) → IsAmong a xs → test a ≡ true) → list_all test xs ≡ true
all_of test [] all = refl
all_of test (x ∷ xs) all = both_true (test x) (list_all test xs) (all x (inl refl)) (all_of test xs (λ a later. all a (inr later)))

module _ (p : Setting) (held : Pools) (word : ℕ → ℕ) (c : WireContents) (seats : ℕ → Seat) (w : World) (n : ℕ) (shows : ShowsWorld p held word c seats w)
    (fits : LayoutFits p w.state.fixed) (stands : (k : ℕ) → not_living w.state k ≡ None → NamesStand p w.state.fixed (seats k))
    (living : not_living w.state n ≡ None) where
  at : Here w
  at = here w shows.reachable

  to_do : (local : Local) → (seats n).local ≡ local → w.doing n ≡ doing_of p w.state.fixed held n local
  to_do local is =
      subst (λ k. w.doing k ≡ doing_of p w.state.fixed held k local) (shows.node n)
      (subst (λ l. w.doing (seats n).node ≡ doing_of p w.state.fixed held (seats n).node l) is (shows.doing n living))

  module _ (port slot : ℕ) (mine : node_of_port w.state.fixed port ≡ n) (within : slot < (p.port port).pool) (d : Doing) (h : Handle)
      (doing : w.doing n ≡ Some d) (unsent : unsent_in d ≡ Some h) (of_port : h.port ≡ port) (serial : h.message.serial ≡ (held port slot).serial) where
    nowhere : (y : Way) → y.sender ≡ port → GoesFrom w.state.fixed n y → has_way y (ways_from w.state.fixed y.sender) ≡ true
        → IsAmong (held port slot).serial (out_on w y) → ⊥
    nowhere y from goes way out =
        true≢false (sym (record_is_what_is_out at.state w at.beats y (held port slot).serial at.on (from_is_live w n y at living goes)
        ∙ among-number (held port slot).serial (out_on w y) out)
        ∙ ap (w.state.delivered y) (sym serial) ∙ unsent_is_nowhere w n d h y shows.reachable doing unsent (from ∙ sym of_port))

    -- no other node has an entry of that port, nor a loan
    module _ (r : ℕ) (other : (r == n) ≡ false) (lives : not_living w.state r ≡ None) where
      own_not : (e : Entry) → IsAmong e (seats r).table → is_own e.kind ≡ true → e.sender ≡ e.port → e.sender ≡ port → e.slot ≡ slot → ⊥
      own_not e among own itself from there =
          let has : IsAmong (handle_of held r e) (w.state.fixed.handles r)
          = subst (IsAmong (handle_of held r e)) (sym (handles_are p held word c seats w shows fits port slot n living mine nowhere r lives (stands r lives) within))
          (among-map (handle_of held r) e (seats r).table among) in
          let node : node_of_port w.state.fixed e.port ≡ r = (at.holding.fits.handles r).of_port (handle_of held r e) has in
          true≢false (sym (eq-eqb r n (sym node ∙ ap (node_of_port w.state.fixed) (sym itself ∙ from) ∙ mine)) ∙ other)

      copy_not : (e : Entry) → slots_in_call port (seats r).local ≡ (if e.port == port then e.slot ∷ [] else []) → e.sender ≡ e.port
          → node_of_port w.state.fixed e.port ≡ (seats r).node → is_slot_of e port slot ≡ false
      copy_not e call itself node = false_if (is_slot_of e port slot) (λ named.
          let same = both (port == e.sender) (slot == e.slot) named in
          let from : e.port ≡ port = sym itself ∙ sym (eqb-true port e.sender same.0) in
          true≢false (sym (eq-eqb r n (sym (shows.node r) ∙ sym node ∙ ap (node_of_port w.state.fixed) from ∙ mine)) ∙ other))

      pub others_none : list_any (λ e. is_slot_of e port slot) (seats r).table ≡ false
      others_none = none_named p held word c seats w shows fits port slot n living mine nowhere r lives (stands r lives) within own_not

      pub others_place : place_names (seats r).local port slot ≡ false
      others_place =
          place_not p held word c seats w shows fits port slot n living mine nowhere r lives (stands r lives) within own_not copy_not (seats r).local refl
          (stands r lives).place

  -- ---- a new loan

  module _ (o : NewLoan) (slot : ℕ) (is : (seats n).local ≡ Ends (endings.Lends o slot)) (serial : (held o.port slot).serial ≡ o.serial)
      (within : slot < (p.port o.port).pool) (alone : has_number slot (slots_held (seats n) o.port) ≡ false) where
    loan_mine : node_of_port w.state.fixed o.port ≡ n
    loan_mine = (doing-is w n (Ended (Loans (loan_in p o))) at.holding.fits (to_do _ is)).of_port

    held_not : (e : Entry) → IsAmong e (seats n).table → is_own e.kind ≡ true → e.sender ≡ e.port → e.sender ≡ o.port → e.slot ≡ slot → ⊥
    held_not e among own itself from there =
        true≢false (sym (among-number slot (slots_held (seats n) o.port)
        (subst (λ i. IsAmong i (slots_held (seats n) o.port)) there
        (among-map (λ (q : Entry). q.slot) e _ (among-filter (λ (q : Entry). is_own q.kind && (q.port == o.port)) e (seats n).table among
        (both_true _ _ own (eq-eqb e.port o.port (sym itself ∙ from))))))) ∙ alone)

    held_none : list_any (λ e. is_slot_of e o.port slot) (seats n).table ≡ false
    held_none =
        none_named p held word c seats w shows fits o.port slot n living loan_mine
        (nowhere o.port slot loan_mine within (Ended (Loans (loan_in p o))) (loan_in p o) (to_do _ is) refl refl (sym serial)) n living (stands n living) within
        held_not

    pub loan_unnamed : IsUnnamed p c seats w.state o.port slot
    loan_unnamed = record {
      ways = on_no_way p held word c seats w shows fits o.port slot n living loan_mine
          (nowhere o.port slot loan_mine within (Ended (Loans (loan_in p o))) (loan_in p o) (to_do _ is) refl refl (sym serial));
      entries = λ r. at_node (λ k. not_living w.state k ≡ None → list_any (λ e. is_slot_of e o.port slot) (seats k).table ≡ false) r n (λ lives. held_none)
          (λ other lives. others_none o.port slot loan_mine within (Ended (Loans (loan_in p o))) (loan_in p o) (to_do _ is) refl refl (sym serial) r other lives);
      places = λ r. at_node (λ k. not_living w.state k ≡ None → place_names (seats k).local o.port slot ≡ false) r n
          (λ lives. ap (λ l. place_names l o.port slot) is)
          (λ other lives. others_place o.port slot loan_mine within (Ended (Loans (loan_in p o))) (loan_in p o) (to_do _ is) refl refl (sym serial) r other lives);
    }

  -- ---- a loan that was written

  module _ (e : Entry) (words : List ℕ) (is : (seats n).local ≡ Ends (endings.Fills e words)) (kind : filled_kind e.kind ≡ e.kind)
      (within : e.slot < (p.port e.sender).pool) (once : AreDistinct (slots_held (seats n) e.port)) where
    abbrev h : Handle
    h = written (handle_of held n e) words

    made : IsFilled (view w.state.fixed n) n (written (handle_of held n e) words)
    made = doing-is w n (Ended (Fills (written (handle_of held n e) words))) at.holding.fits (to_do _ is)

    itself : e.sender ≡ e.port
    itself = sym ((shows.counts n living).knows.sent e.sender e.slot) ∙ made.made.sender

    mine : node_of_port w.state.fixed e.sender ≡ n
    mine =
        ap (node_of_port w.state.fixed) itself ∙ ap (node_in w.state.fixed.ports) made.port
        ∙ (at.holding.fits.handles n).of_port made.old made.among

    there : HasEntry (seats n) e
    there = subst (λ l. PlaceStands p w.state.fixed (seats n) l) is (stands n living).place

    among : IsAmong e (seats n).table
    among = (find-among (λ k. k.number == e.number) e (seats n).table there).0

    out : (y : Way) → y.sender ≡ e.sender → GoesFrom w.state.fixed n y → has_way y (ways_from w.state.fixed y.sender) ≡ true
        → IsAmong (held e.sender e.slot).serial (out_on w y) → ⊥
    out = nowhere e.sender e.slot mine within (Ended (Fills (written (handle_of held n e) words))) (written (handle_of held n e) words) (to_do _ is) refl (sym itself) refl

    sent_here : (k : Entry) → IsAmong k (seats n).table → k.sender ≡ e.sender → k.slot ≡ e.slot → is_received k.kind ≡ false
    sent_here k has from here = false_if (is_received k.kind) (λ received.
        not_received p held word c seats w shows fits e.sender e.slot n living mine out n living (stands n living) within k has received from here)

    held_here : (k : Entry) → IsAmong k (seats n).table → k.sender ≡ e.sender → k.slot ≡ e.slot
        → IsAmong k (filter (λ q. is_own q.kind && (q.port == e.port)) (seats n).table)
    held_here k has from here =
        let entry : HasEntry (seats n) k
        = has_entry p held word c seats w shows fits e.sender e.slot n living mine out n living (stands n living) within k has in
        let own : (is_own k.kind ≡ true) × (k.sender ≡ k.port) = ((stands n living).entries k entry).own (sent_here k has from here) in
        among-filter (λ (q : Entry). is_own q.kind && (q.port == e.port)) k (seats n).table has
        (both_true _ _ own.0 (eq-eqb k.port e.port (sym own.1 ∙ from ∙ itself)))

    alone_here : (k : Entry) → IsAmong k (seats n).table → ((k.number == e.number) || not (is_slot_of e k.sender k.slot)) ≡ true
    alone_here k has = by_number (k.number == e.number) refl
      where
        by_number : (b : Bool) → (k.number == e.number) ≡ b → (b || not (is_slot_of e k.sender k.slot)) ≡ true
        by_number true same = refl
        by_number false other = ap not (false_if (is_slot_of e k.sender k.slot) (λ named.
            let same = both (k.sender == e.sender) (k.slot == e.slot) named in
            let from : k.sender ≡ e.sender = eqb-true k.sender e.sender same.0 in
            let here : k.slot ≡ e.slot = eqb-true k.slot e.slot same.1 in
            let one : k ≡ e
            = only-one (λ (q : Entry). q.slot) k e (filter (λ q. is_own q.kind && (q.port == e.port)) (seats n).table)
            (distinct-no_repeats (slots_held (seats n) e.port) once) (held_here k has from here) (held_here e among refl refl) here in
            true≢false (sym (eq-eqb k.number e.number (ap (λ (q : Entry). q.number) one)) ∙ other)))

    pub filled_alone : HasAlone p c seats w.state n e
    filled_alone = record {
      filled = kind;
      there = there;
      numbers = no_repeats-distinct (map (λ (k : Entry). k.number) (seats n).table)
          (numbers p held word c seats w shows fits e.sender e.slot n living mine out n living (stands n living) within);
      own = all_of (λ k. (k.number == e.number) || not (is_slot_of e k.sender k.slot)) (seats n).table alone_here;
      ways = on_no_way p held word c seats w shows fits e.sender e.slot n living mine out;
      entries = λ k other lives.
          others_none e.sender e.slot mine within (Ended (Fills (written (handle_of held n e) words))) (written (handle_of held n e) words) (to_do _ is) refl
          (sym itself) refl k other lives;
      places = λ k other lives.
          others_place e.sender e.slot mine within (Ended (Fills (written (handle_of held n e) words))) (written (handle_of held n e) words) (to_do _ is) refl
          (sym itself) refl k other lives;
    }

pub new_loans_are_unnamed : NewLoansAreUnnamed
new_loans_are_unnamed p held word c seats w n o slot shows fits stands living is serial within alone =
    loan_unnamed p held word c seats w n shows fits stands living o slot is serial within alone

pub filled_loans_are_alone : FilledLoansAreAlone
filled_loans_are_alone p held word c seats w n e words shows fits stands living is kind within once =
    filled_alone p held word c seats w n shows fits stands living e words is kind within once
