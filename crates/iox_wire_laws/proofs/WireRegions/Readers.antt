-- The slot of a message that is read is nobody's to store into.
use Rattle.std.specs.Prelude.{if◌then◌else◌, not, ◌&&◌}
use Rattle.std.proofs.Common.{◌≡◌, ℕ, Bool, true, false, ◌==◌, List, Some, None, refl, ap, sym, subst, ◌∙◌, true≢false, eq-eqb}
use Rattle.iox_model.specs.declared.kind.Kind.TheVariants.{ActiveRequest}
use Rattle.iox_model.specs.declared.way.Way.{Way}
use Rattle.iox_model.specs.Begins.{written}
use Rattle.iox_model.specs.Doings.{Ended, Fills, Loans}
use Rattle.iox_model.specs.Handles.{is_received, same_kind, way_of}
use Rattle.iox_model.specs.Joins.{not_living}
use Rattle.iox_model.specs.Maps.{has_way, same_way}
use Rattle.iox_model.specs.Messages.{request_way, response_way}
use Rattle.iox_model.specs.Peers.{forgot_port, is_connected_port, is_counted_on, node_of_port, ways_from}
use Rattle.iox_model.specs.Responses.{sends}
use Rattle.iox_model.specs.States.{Handle}
use Rattle.iox_model.specs.Weaves.{World}
use Rattle.iox_laws.specs.WeaveBeats.LiveWays.{ComesTo}
use Rattle.iox_laws.proofs.WeaveBeats.Fresh.{unsent_is_nowhere}
use Rattle.iox_laws.proofs.WeaveBeats.LiveWays.{Here, here, to_is_live, ways_to_the_living_are_counted}
use Rattle.iox_laws.specs.WeaveLaws.Ledgers.{had_on, has_received, held_on, is_live}
use Rattle.iox_laws.proofs.WeaveLaws.MapLemmas.{either, same_way-refl}
use Rattle.iox_laws.specs.WeaveLedger.LedgerLaws.{out_on}
use Rattle.iox_laws.proofs.WeaveLedger.LedgerHolds.{record_is_what_is_out}
use Rattle.iox_laws.proofs.WeaveLedger.Lists.{IsAmong, among-back, among-filter, among-front, among-map, among-number, find-among}
use Rattle.iox_laws.proofs.WeaveLedger.Senders.{FitsDoing, FitsLoan, IsFilled}
use Rattle.iox_laws.proofs.WeaveLedger.Views.{view, node_in}
use Rattle.iox_laws.proofs.WeaveLedger.Worlds.{doing-is}
use Rattle.iox_wire_words.specs.Fits.{WireContents}
use Rattle.iox_wire_moments.specs.MomentsOf.{Pools}
use Rattle.iox_wire_locals.specs.declared.local.Local.{Local}
use Rattle.iox_wire_locals.specs.declared.local.Local.TheVariants.{LendStores, Writes, Reads}
use Rattle.iox_wire_locals.specs.declared.seat.Seat.{Seat}
use Rattle.iox_wire_locals.specs.declared.table.Entry.{Entry}
use Rattle.iox_wire_locals.specs.declared.table.NewLoan.{NewLoan}
use Rattle.iox_wire_locals.specs.Doings.{doing_of}
use Rattle.iox_wire_locals.specs.Knowing.{Knows}
use Rattle.iox_wire_locals.specs.NewLoans.{loan_in}
use Rattle.iox_wire_locals.specs.Tables.{Setting, entry_at, handle_of, way_in}
use Rattle.iox_wire_laws.specs.WireKeeping.Shows.{ShowsWorld}
use Rattle.iox_wire_laws.specs.WireKeeping.UsedSlots.{CallHolds}
use Rattle.iox_wire_laws.specs.WireRegions.Readers.{IsReadable, WhatIsOutIsNotStored, WhatIsReadIsOut, WhatIsReadStays}
use Rattle.iox_wire_laws.specs.WireRegions.StoredMessages.{StoresInto}
use Rattle.iox_wire_laws.proofs.WireRegions.MessageStores.{messages_stay}
use Rattle.iox_wire_laws.proofs.WireRegions.Unsent.{copies_are_fresh, loan_of_send}

both : (a b : Bool) → (a && b) ≡ true → (a ≡ true) × (b ≡ true)
both true b e = (refl, e)
both false b e = absurd (true≢false (sym e))

none_if : (b : Bool) → not b ≡ true → b ≡ false
none_if true e = sym e
none_if false e = refl

module _ (p : Setting) (held : Pools) (word : ℕ → ℕ) (c : WireContents) (seats : ℕ → Seat) (w : World) (shows : ShowsWorld p held word c seats w) where
  at : Here w
  at = here w shows.reachable

  -- what a node's place stands for
  to_do : (n : ℕ) → not_living w.state n ≡ None → (local : Local) → (seats n).local ≡ local → w.doing n ≡ doing_of p w.state.fixed held n local
  to_do n living local is =
      subst (λ k. w.doing k ≡ doing_of p w.state.fixed held k local) (shows.node n)
      (subst (λ l. w.doing (seats n).node ≡ doing_of p w.state.fixed held (seats n).node l) is (shows.doing n living))

  -- the sender's node did not forget whom it counts
  unforgotten : (y : Way) → is_counted_on w.state.fixed y ≡ true → forgot_port w.state.fixed (node_of_port w.state.fixed y.sender) y.receiver ≡ false
  unforgotten y counted =
      none_if (forgot_port w.state.fixed (node_of_port w.state.fixed y.sender) y.receiver)
      (both (is_connected_port w.state.fixed y.sender) (not (forgot_port w.state.fixed (node_of_port w.state.fixed y.sender) y.receiver)) counted).1

  -- ---- whose slot a place stores into

  module _ (m : ℕ) (living : not_living w.state m ≡ None) where
    -- a loan's port is the node's
    loan_at : (o : NewLoan) (slot next : ℕ) → (seats m).local ≡ LendStores o slot next → node_of_port w.state.fixed o.port ≡ m
    loan_at o slot next is =
        (by_case o.copies
        (doing-is w m (if o.copies then sends w.state.fixed (loan_in p o) true else Ended (Loans (loan_in p o))) at.holding.fits
        (to_do m living (LendStores o slot next) is))).of_port
      where
        by_case : (b : Bool) → FitsDoing (view w.state.fixed m) m (if b then sends w.state.fixed (loan_in p o) true else Ended (Loans (loan_in p o)))
            → FitsLoan (view w.state.fixed m) m (loan_in p o) true
        by_case true fits = loan_of_send (view w.state.fixed m) m w.state.fixed (loan_in p o) fits
        by_case false fits = fits

    -- and so is that of what is written, in its own pool
    filled : (e : Entry) (words : List ℕ) (next : ℕ) → (seats m).local ≡ Writes e words next → IsFilled (view w.state.fixed m) m (written (handle_of held m e) words)
    filled e words next is =
        doing-is w m (Ended (Fills (written (handle_of held m e) words))) at.holding.fits (to_do m living (Writes e words next) is)

    write_at : (e : Entry) (words : List ℕ) (next : ℕ) → (seats m).local ≡ Writes e words next → node_of_port w.state.fixed e.port ≡ m
    write_at e words next is =
        let f : IsFilled (view w.state.fixed m) m (written (handle_of held m e) words) = filled e words next is in
        ap (node_in w.state.fixed.ports) f.port ∙ (at.holding.fits.handles m).of_port f.old f.among

    write_own : (e : Entry) (words : List ℕ) (next : ℕ) → (seats m).local ≡ Writes e words next → e.sender ≡ e.port
    write_own e words next is = sym ((shows.counts m living).knows.sent e.sender e.slot) ∙ (filled e words next is).made.sender

    stored_at : (local : Local) (port slot : ℕ) → (seats m).local ≡ local → StoresInto local port slot → node_of_port w.state.fixed port ≡ m
    stored_at (LendStores o own next) port slot is into = ap (node_of_port w.state.fixed) into.0 ∙ loan_at o own next is
    stored_at (Writes e words next) port slot is into = ap (node_of_port w.state.fixed) into.0 ∙ write_at e words next is
    stored_at local port slot is into = absurd into

    -- ---- it is outstanding nowhere

    module _ (y : Way) (way : has_way y (ways_from w.state.fixed y.sender) ≡ true) (counted : is_counted_on w.state.fixed y ≡ true) where
      loan_fresh : (o : NewLoan) (slot next : ℕ) → (seats m).local ≡ LendStores o slot next → y.sender ≡ o.port → w.state.delivered y o.serial ≡ false
      loan_fresh o slot next is from = by_case o.copies refl
        where
          node : node_of_port w.state.fixed y.sender ≡ m
          node = ap (node_of_port w.state.fixed) from ∙ loan_at o slot next is

          by_case : (b : Bool) → o.copies ≡ b → w.state.delivered y o.serial ≡ false
          by_case true copies =
              copies_are_fresh w m (loan_in p o) y at
              (to_do m living (LendStores o slot next) is
              ∙ ap (λ b. Some (if b then sends w.state.fixed (loan_in p o) true else Ended (Loans (loan_in p o)))) copies) from way
              (subst (λ k. forgot_port w.state.fixed k y.receiver ≡ false) node (unforgotten y counted))
          by_case false copies =
              unsent_is_nowhere w m (Ended (Loans (loan_in p o))) (loan_in p o) y shows.reachable
              (to_do m living (LendStores o slot next) is
              ∙ ap (λ b. Some (if b then sends w.state.fixed (loan_in p o) true else Ended (Loans (loan_in p o)))) copies) refl from

      no_store : (local : Local) (slot : ℕ) → (seats m).local ≡ local → CallHolds held local → w.state.delivered y (held y.sender slot).serial ≡ true
          → StoresInto local y.sender slot → ⊥
      no_store (LendStores o own next) slot is holds out into =
          let same : (held y.sender slot).serial ≡ o.serial = ap (λ i. (held i slot).serial) into.0 ∙ ap (λ i. (held o.port i).serial) into.1 ∙ holds in
          true≢false (sym out ∙ ap (w.state.delivered y) same ∙ loan_fresh o own next is into.0)
      no_store (Writes e words next) slot is holds out into =
          let same : (held y.sender slot).serial ≡ (held e.sender e.slot).serial
          = ap (λ i. (held i slot).serial) (into.0 ∙ sym (write_own e words next is)) ∙ ap (λ i. (held e.sender i).serial) into.1 in
          true≢false (sym out ∙ ap (w.state.delivered y) same
          ∙ unsent_is_nowhere w m (Ended (Fills (written (handle_of held m e) words))) (written (handle_of held m e) words) y shows.reachable
          (to_do m living (Writes e words next) is) refl into.0)
      no_store local slot is holds out into = into

  -- ---- what is read

  module _ (n : ℕ) (living : not_living w.state n ≡ None) (e : Entry) (words : List ℕ) (is : (seats n).local ≡ Reads e words)
      (there : entry_at e.number (seats n).table ≡ Some e) where
    knows : Knows p (seats n) w.state.fixed held
    knows = (shows.counts n living).knows

    -- the entry's handle is one of the machine's
    among : IsAmong (handle_of held n e) (w.state.fixed.handles n)
    among =
        subst (λ k. IsAmong (handle_of held k e) (w.state.fixed.handles k)) (shows.node n)
        (subst (IsAmong (handle_of held (seats n).node e)) (sym knows.handles)
        (among-map (handle_of held (seats n).node) e (seats n).table (find-among (λ k. k.number == e.number) e (seats n).table there).0))

    receiver_at : node_of_port w.state.fixed e.port ≡ n
    receiver_at = (at.holding.fits.handles n).of_port (handle_of held n e) among

    way_same : way_of (handle_of held n e) ≡ way_in e
    way_same = ap (λ k. if same_kind e.kind ActiveRequest then request_way e.client e.port else response_way e.port e.lane k) (knows.sent e.sender e.slot)

    to_port : (way_in e).receiver ≡ e.port
    to_port =
        either (λ (v : Way). v.receiver ≡ e.port) (same_kind e.kind ActiveRequest) (request_way e.client e.port) (response_way e.port e.lane e.sender)
        (λ k. refl) (λ k. refl)

    read_is_out : is_received e.kind ≡ true → ComesTo w.state.fixed n (way_in e) → w.state.delivered (way_in e) (held e.sender e.slot).serial ≡ true
    read_is_out received comes =
        let y : Way = way_in e in
        let k : ℕ = (held e.sender e.slot).serial in
        let live : is_live w.state.fixed (way_in e) ≡ true = to_is_live w n (way_in e) at living comes in
        let on_way : has_received (way_in e) (handle_of held n e) ≡ true
        = rw (received, eq-eqb e.port (way_in e).receiver (sym to_port)) (ap (λ v. same_way v (way_in e)) way_same ∙ same_way-refl (way_in e)) in
        let had : IsAmong k (held_on (way_in e) (w.state.fixed.handles n) (w.doing n))
        = subst (λ d. IsAmong k (held_on (way_in e) (w.state.fixed.handles n) d)) (sym (to_do n living (Reads e words) is))
        (among-front k _ _ (among-map (λ (h : Handle). h.message.serial) (handle_of held n e) _
        (among-filter _ (handle_of held n e) (w.state.fixed.handles n) among (rw on_way refl)))) in
        let has : IsAmong k (had_on w (way_in e))
        = subst (λ i. IsAmong k (held_on (way_in e) (w.state.fixed.handles i) (w.doing i))) (sym comes.1) had in
        record_is_what_is_out at.state w at.beats (way_in e) k at.on live
        ∙ among-number k (out_on w (way_in e)) (among-back k _ _ (among-front k _ _ has))

    -- ---- nobody stores there

    unstored : (m : ℕ) → not_living w.state m ≡ None → IsReadable w.state.fixed n e → CallHolds held (seats m).local
        → StoresInto (seats m).local e.sender e.slot → ⊥
    unstored m lives readable holds into = by_case (is_received e.kind) refl
      where
        itself : m ≡ n → ⊥
        itself same = subst (λ l. StoresInto l e.sender e.slot) (ap (λ k. (seats k).local) same ∙ is) into

        by_case : (b : Bool) → is_received e.kind ≡ b → ⊥
        by_case false own =
            itself (sym (stored_at m lives (seats m).local e.sender e.slot refl into)
            ∙ ap (node_of_port w.state.fixed) (readable.own own) ∙ receiver_at)
        by_case true received =
            let r = readable.received received in
            no_store m lives (way_in e) r.2
            (ways_to_the_living_are_counted w n (way_in e) shows.reachable living r.1.0 r.1.1) (seats m).local e.slot refl holds
            (subst (λ i. w.state.delivered (way_in e) (held i e.slot).serial ≡ true) (sym r.0) (read_is_out received r.1))
            (subst (λ i. StoresInto (seats m).local i e.slot) (sym r.0) into)

pub what_is_out_is_not_stored : WhatIsOutIsNotStored
what_is_out_is_not_stored p held word c seats w m slot y shows living holds way counted out into =
    no_store p held word c seats w shows m living y way counted (seats m).local slot refl holds out into

pub what_is_read_is_out : WhatIsReadIsOut
what_is_read_is_out p held word c seats w n e words shows living is there received comes =
    read_is_out p held word c seats w shows n living e words is there received comes

pub what_is_read_stays : WhatIsReadStays
what_is_read_stays p held word c seats w n m seen e words shows living lives is there readable holds owns has message =
    let none : StoresInto (seats m).local e.sender e.slot → ⊥
    = unstored p held word c seats w shows n living e words is there m lives readable holds in
    (none, messages_stay p held m w.state.fixed w.state.request_state (seats m).local c seen e.sender e.slot owns has none message)
