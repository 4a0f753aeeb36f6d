-- A slot whose message is out on no way is in no queue, and no other node names it.
use Rattle.std.specs.Prelude.{map, filter, not, ◌<◌, ◌≤◌, ◌⊎◌}
use Rattle.std.specs.List.{list_any}
use Rattle.std.specs.Option.{option_map_or}
use Rattle.std.proofs.Common.{◌≡◌, ℕ, Bool, true, false, if◌then◌else◌, ◌==◌, ◌&&◌, List, [], ◌∷◌, Option, Some, None, refl, ap, sym, subst, ◌∙◌, inl, inr, arith, eq-eqb, eqb-true, true≢false}
use Rattle.iox_model.specs.declared.kind.Kind.TheVariants.{ActiveRequest}
use Rattle.iox_model.specs.declared.kind.Role.TheVariants.{Client, Server}
use Rattle.iox_model.specs.declared.reply.Refusal.TheVariants.{ExceedsMaxActiveRequests, UnableToDeliver}
use Rattle.iox_model.specs.declared.way.Way.{Way}
use Rattle.iox_model.specs.Doings.{Again, Asking, Doing, Ended, FailsToSend, Judging, Loans, Receiver, Receives, Sending, Sends, Stale}
use Rattle.iox_model.specs.Handles.{is_own, is_received, is_request_loan, same_kind, way_of}
use Rattle.iox_model.specs.Joins.{not_living}
use Rattle.iox_model.specs.Maps.{has_number, has_way, same_way}
use Rattle.iox_model.specs.Messages.{Message, request_way, response_way, serials_of}
use Rattle.iox_model.specs.Peers.{forgot_port, is_connected_port, is_counted_on, node_of_port, others, ways_from}
use Rattle.iox_model.specs.Receives.{took}
use Rattle.iox_model.specs.Requests.{emptying, is_active_spent, looking, opening, sending_of, sends_request, targets, to_open}
use Rattle.iox_model.specs.Responses.{sends, sends_response}
use Rattle.iox_model.specs.Settings.{is_client}
use Rattle.iox_model.specs.States.{Fixed, Handle}
use Rattle.iox_model.specs.Weaves.{World}
use Rattle.iox_laws.specs.WeaveBeats.LiveWays.{GoesFrom}
use Rattle.iox_laws.proofs.WeaveBeats.LiveWays.{Here, from_is_live, here, ways_to_the_living_are_counted}
use Rattle.iox_laws.specs.WeaveLaws.Ledgers.{had_on, has_received, held_on, if_on, is_given_up, is_live, taken_by}
use Rattle.iox_laws.proofs.WeaveLaws.MapLemmas.{either, same_way-refl}
use Rattle.iox_laws.specs.WeaveLedger.LedgerLaws.{out_on}
use Rattle.iox_laws.proofs.WeaveLedger.Lists.{IsAmong, NoRepeats, among-back, among-filter, among-front, among-map, any-among, find-among, find-own, number-among}
use Rattle.iox_laws.proofs.WeaveLedger.Truths.{both_true, false_if}
use Rattle.iox_word_map.specs.WordMaps.{IsWay}
use Rattle.iox_wire_words.specs.Fits.{WireContents}
use Rattle.iox_wire_moments.specs.MomentsOf.{Pools, serial_in}
use Rattle.iox_wire_locals.specs.declared.local.Ending.{Ending}
use Rattle.iox_wire_locals.specs.declared.local.Ending.TheVariants as endings
use Rattle.iox_wire_locals.specs.declared.local.Local.{Local}
use Rattle.iox_wire_locals.specs.declared.local.Local.TheVariants.{Ends, LendStores, Writes, SendAsks, SendEmpties, SendLooks, SendOpens, SendPushes, SendEvicts, SendGetsBack, SendEnds, ReceivePops, ReceiveLoads, ReceiveAsks, ReceiveReturns, Reads, ReleaseCloses, ReleaseReturns, ReleaseLooks, ReleaseExchanges, Checks, Hints, HintExchanges}
use Rattle.iox_wire_locals.specs.declared.seat.Seat.{Seat}
use Rattle.iox_wire_locals.specs.declared.table.Entry.{Entry}
use Rattle.iox_wire_locals.specs.Doings.{doing_of, receiver_in}
use Rattle.iox_wire_locals.specs.Knowing.{Knows}
use Rattle.iox_wire_locals.specs.NewLoans.{loan_in}
use Rattle.iox_wire_locals.specs.Tables.{Setting, entry_at, handle_of, way_in}
use Rattle.iox_wire_laws.specs.WireKeeping.Shows.{ShowsWorld}
use Rattle.iox_wire_laws.specs.WireKeeping.UsedSlots.{slot_of_loan, slots_in_call}
use Rattle.iox_wire_laws.specs.WireKeeping.Writes.{is_slot_of}
use Rattle.iox_wire_laws.specs.WireShows.OwnedCalls.{ReceivesOn}
use Rattle.iox_wire_laws.specs.WireRegions.OwnedBegins.{LayoutFits}
use Rattle.iox_wire_laws.proofs.WireRegions.OwnPorts.{both}
use Rattle.iox_wire_laws.specs.WireHolding.Named.{IsOnNoWay, ending_names, is_slot_on, place_names}
use Rattle.iox_wire_laws.specs.WireHolding.SlotsKnown.{EndingStands, HasEntry, SendsOwnEntry, IsAside, NamesStand, PlaceStands}
use Rattle.iox_wire_laws.proofs.WireHolding.WireWays.{way_there}

none_if : (b : Bool) → not b ≡ true → b ≡ false
none_if true e = sym e
none_if false e = refl

-- ---- only a release gives a handle's message up

module _ (g : Handle) where
  abbrev Keeps : Doing → Type 0
  Keeps d = is_given_up g d ≡ false

  opens_keeps : (x : Sending) (left full : List Way) → Keeps (opening x left full)
  opens_keeps x [] full = refl
  opens_keeps x (w ∷ left) full = refl

  looks_keeps : (x : Sending) (left full : List Way) → Keeps (looking x left full)
  looks_keeps x [] full =
      either Keeps (list_any x.fails full) (Ended (FailsToSend x.loan x.copied UnableToDeliver)) (opening x (to_open x) full) (λ is. refl)
      (λ is. opens_keeps x (to_open x) full)
  looks_keeps x (w ∷ left) full = refl

  empties_keeps : (x : Sending) (left : List Way) → Keeps (emptying x left)
  empties_keeps x [] =
      either Keeps x.overflow (opening x (to_open x) []) (looking x (targets x) []) (λ is. opens_keeps x (to_open x) []) (λ is. looks_keeps x (targets x) [])
  empties_keeps x (w ∷ left) = refl

  sends_keeps : (f : Fixed) (h : Handle) (copied : Bool) → Keeps (sends f h copied)
  sends_keeps f h copied =
      let servers : List ℕ = others f h.node Server in
      either Keeps (is_request_loan h.kind) (sends_request f h copied servers) (sends_response f h copied)
      (λ is. either Keeps (is_active_spent f h) (Ended (FailsToSend h copied ExceedsMaxActiveRequests))
      (emptying (sending_of f h copied servers) (map (request_way h.port) servers)) (λ k. refl)
      (λ k. empties_keeps (sending_of f h copied servers) (map (request_way h.port) servers)))
      (λ is. either Keeps (has_number h.client (others f h.node Client)) (Asking (sending_of f h copied (h.client ∷ []))) (Ended (Sends h copied 0))
      (λ k. refl) (λ k. refl))

-- what follows a take is a message taken, or another pop from a forgotten sender
took_is : (P : Doing → Type 0) (f : Fixed) (n : ℕ) (x : Receiver) (w : Way) (m : Message) (left : List Way) (seen : Bool)
    → P (Ended (Receives x w m)) → P (Judging x w m left seen) → P (Stale x w m left seen) → (forgot_port f n w.sender ≡ true → P (Again x w left seen))
    → P (took f n x w m left seen)
took_is P f n x w m left seen received judging stale again =
    either P (is_client x.role)
    (if m.request == x.request then Ended (Receives x w m) else (if forgot_port f n w.sender then Again x w left seen else Stale x w m left seen))
    (if f.limits.fire_and_forget then Ended (Receives x w m) else Judging x w m left seen)
    (λ is. either P (m.request == x.request) (Ended (Receives x w m)) (if forgot_port f n w.sender then Again x w left seen else Stale x w m left seen)
    (λ k. received) (λ k. either P (forgot_port f n w.sender) (Again x w left seen) (Stale x w m left seen) again (λ j. stale)))
    (λ is. either P f.limits.fire_and_forget (Ended (Receives x w m)) (Judging x w m left seen) (λ k. received) (λ k. judging))

module _ (p : Setting) (held : Pools) (word : ℕ → ℕ) (c : WireContents) (seats : ℕ → Seat) (w : World) (shows : ShowsWorld p held word c seats w)
    (fits : LayoutFits p w.state.fixed) (port slot n : ℕ) (living : not_living w.state n ≡ None) (mine : node_of_port w.state.fixed port ≡ n)
    (nowhere : (y : Way) → y.sender ≡ port → GoesFrom w.state.fixed n y → has_way y (ways_from w.state.fixed y.sender) ≡ true
    → IsAmong (held port slot).serial (out_on w y) → ⊥) where
  abbrev f : Fixed
  f = w.state.fixed

  abbrev k : ℕ
  k = (held port slot).serial

  at : Here w
  at = here w shows.reachable

  -- ---- queues

  module _ (y : Way) (way : IsWay p.layout.sizes y) (from : y.sender ≡ port) (counted : is_counted_on w.state.fixed y ≡ true) where
    goes : GoesFrom w.state.fixed n y
    goes =
        let node : node_of_port w.state.fixed y.sender ≡ n = ap (node_of_port w.state.fixed) from ∙ mine in
        let known : forgot_port w.state.fixed (node_of_port w.state.fixed y.sender) y.receiver ≡ false
        = none_if (forgot_port w.state.fixed (node_of_port w.state.fixed y.sender) y.receiver)
        (both (is_connected_port w.state.fixed y.sender) (not (forgot_port w.state.fixed (node_of_port w.state.fixed y.sender) y.receiver)) counted).1 in
        ((way_there p w.state.fixed fits y way).0, node, subst (λ i. forgot_port w.state.fixed i y.receiver ≡ false) node known)

    not_out : IsAmong (held port slot).serial (out_on w y) → ⊥
    not_out = nowhere y from goes (way_there p w.state.fixed fits y way).1

    live : is_live w.state.fixed y ≡ true
    live = from_is_live w n y at living goes

    -- a slot in a list of the way has its serial there
    serial_there : (slots : List ℕ) → has_number slot slots ≡ true → IsAmong (held port slot).serial (map (serial_in held y) slots)
    serial_there slots has =
        subst (λ q. IsAmong (held q slot).serial (map (serial_in held y) slots)) from (among-map (serial_in held y) slot slots (number-among slot slots has))

    message_there : (slots : List ℕ) → has_number slot slots ≡ true → IsAmong (held port slot).serial (serials_of (map (held y.sender) slots))
    message_there slots has =
        subst (λ q. IsAmong (held q slot).serial (serials_of (map (held y.sender) slots))) from
        (among-map (λ (m : Message). m.serial) (held y.sender slot) (map (held y.sender) slots)
        (among-map (held y.sender) slot slots (number-among slot slots has)))

  pub on_no_way : IsOnNoWay p c w.state port slot
  on_no_way = record {
    waiting = λ y way on from. false_if _ (λ has. not_out y way from on
        (among-front (held port slot).serial (serials_of (w.state.waiting y)) _
        (subst (λ ms. IsAmong (held port slot).serial (serials_of ms)) (sym (shows.ties.waiting y way on)) (message_there y way from on _ has))));
    in_hand = λ y way on from. false_if _ (λ has. not_out y way from on
        (among-back (held port slot).serial (serials_of (w.state.waiting y)) _ (among-back (held port slot).serial (had_on w y) _
        (among-back (held port slot).serial (w.state.returned y) _
        (subst (IsAmong (held port slot).serial) (sym (shows.ties.in_hand y way on)) (serial_there y way from on _ has))))));
    returned = λ y way on from. false_if _ (λ has. not_out y way from on
        (among-back (held port slot).serial (serials_of (w.state.waiting y)) _ (among-back (held port slot).serial (had_on w y) _
        (among-front (held port slot).serial (w.state.returned y) (w.state.in_hand y)
        (subst (IsAmong (held port slot).serial) (sym (shows.ties.returned y way on)) (serial_there y way from on _ has))))));
  }

  -- ---- another node, or the same as a receiver

  module _ (r : ℕ) (lives : not_living w.state r ≡ None) (stands : NamesStand p w.state.fixed (seats r)) (within : slot < (p.port port).pool) where
    knows : Knows p (seats r) w.state.fixed held
    knows = (shows.counts r lives).knows

    pub handles_are : w.state.fixed.handles r ≡ map (handle_of held r) (seats r).table
    handles_are = subst (λ i. w.state.fixed.handles i ≡ map (handle_of held i) (seats r).table) (shows.node r) knows.handles

    pub numbers : NoRepeats (map (λ (e : Entry). e.number) (seats r).table)
    numbers = subst NoRepeats (number_map (seats r).table)
        (subst (λ hs. NoRepeats (map (λ (h : Handle). h.number) hs)) handles_are (at.holding.fits.handles r).apart)
      where
        number_map : (es : List Entry) → map (λ (h : Handle). h.number) (map (handle_of held r) es) ≡ map (λ (e : Entry). e.number) es
        number_map [] = refl
        number_map (e ∷ es) = ap (λ ns. e.number ∷ ns) (number_map es)

    pub has_entry : (e : Entry) → IsAmong e (seats r).table → HasEntry (seats r) e
    has_entry e among = find-own (λ (q : Entry). q.number) (seats r).table e numbers among

    to_do : (local : Local) → (seats r).local ≡ local → w.doing r ≡ doing_of p w.state.fixed held r local
    to_do local is =
        subst (λ i. w.doing i ≡ doing_of p w.state.fixed held i local) (shows.node r)
        (subst (λ l. w.doing (seats r).node ≡ doing_of p w.state.fixed held (seats r).node l) is (shows.doing r lives))

    -- ---- what it received

    module _ (y : Way) (way : IsWay p.layout.sizes y) (from : y.sender ≡ port) (to : node_of_port w.state.fixed y.receiver ≡ r) where
      counted : is_counted_on w.state.fixed y ≡ true
      counted = ways_to_the_living_are_counted w r y shows.reachable lives (way_there p w.state.fixed fits y way).0 to

      remembered : forgot_port w.state.fixed r y.sender ≡ false
      remembered =
          subst (λ i. forgot_port w.state.fixed i y.sender ≡ false) to
          (none_if _ (both (is_connected_port w.state.fixed y.receiver) _ (both (is_counted_on w.state.fixed y) _ (live y way from counted)).1).1)

      not_had : IsAmong (held port slot).serial (held_on y (w.state.fixed.handles r) (w.doing r)) → ⊥
      not_had had =
          not_out y way from counted
          (among-back (held port slot).serial (serials_of (w.state.waiting y)) _ (among-front (held port slot).serial (had_on w y) _
          (subst (λ i. IsAmong (held port slot).serial (held_on y (w.state.fixed.handles i) (w.doing i))) (sym to) had)))

      -- a message that it took
      not_taken : (d : Doing) → w.doing r ≡ Some d → IsAmong (held port slot).serial (taken_by y d) → ⊥
      not_taken d is taken =
          not_had (subst (λ o. IsAmong (held port slot).serial (held_on y (w.state.fixed.handles r) o)) (sym is)
          (among-back (held port slot).serial (map (λ (h : Handle). h.message.serial) (filter (λ h. has_received y h && not (is_given_up h d)) (w.state.fixed.handles r)))
          (taken_by y d) taken))

      on_itself : (m : Message) → (held port slot).serial ≡ m.serial → IsAmong (held port slot).serial (if_on y y m.serial)
      on_itself m same = rw (same_way-refl y) (inl same)

    -- what a release gave up is put aside
    module _ (e : Entry) (among : IsAmong e (seats r).table) (received : is_received e.kind ≡ true) (from : e.sender ≡ port) (here : e.slot ≡ slot)
        (remembers : forgot_port w.state.fixed r e.sender ≡ false) where
      is_it : (q : Entry) → HasEntry (seats r) q → (q.number == e.number) ≡ true → q ≡ e
      is_it q has same =
          unwrapped (sym has ∙ ap (λ i. entry_at i (seats r).table) (eqb-true q.number e.number same) ∙ has_entry e among)
        where
          unwrapped : Some q ≡ Some e → q ≡ e
          unwrapped is = ap (λ (o : Option Entry). or_it o) is
            where
              or_it : Option Entry → Entry
              or_it (Some i) = i
              or_it None = q

      not_aside : (q : Entry) → IsAside p q → q ≡ e → ⊥
      not_aside q aside same =
          let low : (p.port port).pool ≤ slot
          = subst (λ i. (p.port port).pool ≤ i) here (subst (λ i. (p.port i).pool ≤ e.slot) from (subst (IsAside p) same aside)) in
          absurd (let none : ⊥ = omega (arith, low, within) in none)

      abbrev Kept : Option Doing → Type 0
      Kept o = option_map_or (is_given_up (handle_of held r e)) o false ≡ false

      gives_up : (q : Entry) → HasEntry (seats r) q → IsAside p q → (q.number == e.number) ≡ false
      gives_up q has aside = false_if (q.number == e.number) (λ same. not_aside q aside (is_it q has same))

      ended_keeps : (ending : Ending) → EndingStands p w.state.fixed (seats r) ending → Kept (doing_of p w.state.fixed held r (Ends ending))
      ended_keeps (endings.Drops q) has =
          false_if (q.number == e.number) (λ same.
          let is : q ≡ e = is_it q has.0 same in
          by_case q is (has.1 (ap (λ (i : Entry). is_received i.kind) is ∙ received)))
        where
          by_case : (q : Entry) → q ≡ e → IsAside p q ⊎ (forgot_port w.state.fixed (seats r).node q.sender ≡ true) → ⊥
          by_case q is (inl aside) = not_aside q aside is
          by_case q is (inr forgot) =
              true≢false (sym forgot ∙ ap (λ i. forgot_port w.state.fixed i q.sender) (shows.node r)
              ∙ ap (λ (i : Entry). forgot_port w.state.fixed r i.sender) is ∙ remembers)
      ended_keeps ending has = refl

      keeps : (local : Local) → PlaceStands p w.state.fixed (seats r) local → Kept (doing_of p w.state.fixed held r local)
      keeps (Ends ending) has = ended_keeps ending has
      keeps (LendStores o own next) has =
          either (λ d. is_given_up (handle_of held r e) d ≡ false) o.copies (sends w.state.fixed (loan_in p o) true) (Ended (Loans (loan_in p o)))
          (λ is. sends_keeps (handle_of held r e) w.state.fixed (loan_in p o) true) (λ is. refl)
      keeps (ReceivePops v u true place left waiting) has = refl
      keeps (ReceivePops v u false place left waiting) has = refl
      keeps (ReceiveLoads v u own header left waiting) has =
          took_is (λ d. is_given_up (handle_of held r e) d ≡ false) w.state.fixed r (receiver_in v) u (held u.sender own) (u ∷ left) waiting refl
          refl refl (λ is. refl)
      keeps (ReleaseLooks q) has = gives_up q has.0 has.1
      keeps (ReleaseExchanges q old) has = gives_up q has.0 has.1
      keeps local has = refl

    -- ---- its entries

    pub not_received : (e : Entry) → IsAmong e (seats r).table → is_received e.kind ≡ true → e.sender ≡ port → e.slot ≡ slot → ⊥
    not_received e among received from here =
        not_had (way_in e) fit.1 came to (by_doing (w.doing r) (keeps e among received from here known (seats r).local stands.place) refl)
      where
        fit : ((way_in e).sender ≡ e.sender) × IsWay p.layout.sizes (way_in e)
        fit = (stands.entries e (has_entry e among)).received received

        came : (way_in e).sender ≡ port
        came = fit.0 ∙ from

        among_handles : IsAmong (handle_of held r e) (w.state.fixed.handles r)
        among_handles = subst (IsAmong (handle_of held r e)) (sym handles_are) (among-map (handle_of held r) e (seats r).table among)

        to_port : (way_in e).receiver ≡ e.port
        to_port =
            either (λ (v : Way). v.receiver ≡ e.port) (same_kind e.kind ActiveRequest) (request_way e.client e.port) (response_way e.port e.lane e.sender)
            (λ i. refl) (λ i. refl)

        to : node_of_port w.state.fixed (way_in e).receiver ≡ r
        to = ap (node_of_port w.state.fixed) to_port ∙ (at.holding.fits.handles r).of_port (handle_of held r e) among_handles

        known : forgot_port w.state.fixed r e.sender ≡ false
        known = ap (forgot_port w.state.fixed r) (sym fit.0) ∙ remembered (way_in e) fit.1 came to

        way_same : way_of (handle_of held r e) ≡ way_in e
        way_same = ap (λ i. if same_kind e.kind ActiveRequest then request_way e.client e.port else response_way e.port e.lane i) (knows.sent e.sender e.slot)

        on_way : has_received (way_in e) (handle_of held r e) ≡ true
        on_way = rw (received, eq-eqb e.port (way_in e).receiver (sym to_port)) (ap (λ v. same_way v (way_in e)) way_same ∙ same_way-refl (way_in e))

        serial_is : (held e.sender e.slot).serial ≡ (held port slot).serial
        serial_is = ap (λ i. (held i e.slot).serial) from ∙ ap (λ i. (held port i).serial) here

        by_doing : (o : Option Doing) → option_map_or (is_given_up (handle_of held r e)) (doing_of p w.state.fixed held r (seats r).local) false ≡ false → w.doing r ≡ o
            → IsAmong (held port slot).serial (held_on (way_in e) (w.state.fixed.handles r) (w.doing r))
        by_doing None kept is =
            subst (λ o. IsAmong (held port slot).serial (held_on (way_in e) (w.state.fixed.handles r) o)) (sym is)
            (subst (λ i. IsAmong i (held_on (way_in e) (w.state.fixed.handles r) None)) serial_is
            (among-map (λ (h : Handle). h.message.serial) (handle_of held r e) _
            (among-filter (has_received (way_in e)) (handle_of held r e) (w.state.fixed.handles r) among_handles on_way)))
        by_doing (Some d) kept is =
            let up : is_given_up (handle_of held r e) d ≡ false
            = subst (λ o. option_map_or (is_given_up (handle_of held r e)) o false ≡ false) (sym (to_do (seats r).local refl) ∙ is) kept in
            subst (λ o. IsAmong (held port slot).serial (held_on (way_in e) (w.state.fixed.handles r) o)) (sym is)
            (subst (λ i. IsAmong i (held_on (way_in e) (w.state.fixed.handles r) (Some d))) serial_is
            (among-front (held e.sender e.slot).serial _ (taken_by (way_in e) d)
            (among-map (λ (h : Handle). h.message.serial) (handle_of held r e) _
            (among-filter (λ h. has_received (way_in e) h && not (is_given_up h d)) (handle_of held r e) (w.state.fixed.handles r) among_handles
            (both_true _ _ on_way (ap not up))))))

    module _ (own : (e : Entry) → IsAmong e (seats r).table → is_own e.kind ≡ true → e.sender ≡ e.port → e.sender ≡ port → e.slot ≡ slot → ⊥) where
      named_not : (e : Entry) → IsAmong e (seats r).table → is_slot_of e port slot ≡ false
      named_not e among = false_if (is_slot_of e port slot) (λ named.
          let same : ((port == e.sender) ≡ true) × ((slot == e.slot) ≡ true) = both (port == e.sender) (slot == e.slot) named in
          by_kind (is_received e.kind) refl (sym (eqb-true port e.sender same.0)) (sym (eqb-true slot e.slot same.1)))
        where
          by_kind : (b : Bool) → is_received e.kind ≡ b → e.sender ≡ port → e.slot ≡ slot → ⊥
          by_kind true received from here = not_received e among received from here
          by_kind false sent from here =
              let fit : (is_own e.kind ≡ true) × (e.sender ≡ e.port) = (stands.entries e (has_entry e among)).own sent in
              own e among fit.0 fit.1 from here

      pub none_named : list_any (λ e. is_slot_of e port slot) (seats r).table ≡ false
      none_named = false_if _ (λ any.
          let e = any-among (λ e. is_slot_of e port slot) (seats r).table any in
          true≢false (sym e.2 ∙ named_not e.0 e.1))

      -- ---- its place

      module _ (copy : (e : Entry) → slots_in_call port (seats r).local ≡ (if e.port == port then e.slot ∷ [] else []) → e.sender ≡ e.port
          → node_of_port w.state.fixed e.port ≡ (seats r).node → is_slot_of e port slot ≡ false) where
        entry_not : (e : Entry) → HasEntry (seats r) e → is_slot_of e port slot ≡ false
        entry_not e has = named_not e (find-among (λ q. q.number == e.number) e (seats r).table has).0

        sent_not : (e : Entry) (copied : Bool) → (slots_in_call port (seats r).local ≡ slot_of_loan port e.port copied e.slot)
            → SendsOwnEntry w.state.fixed (seats r) e copied → is_slot_of e port slot ≡ false
        sent_not e true call has = copy e call has.0 has.1
        sent_not e false call has = entry_not e has

        module _ (v : Way) (taken : ReceivesOn p (seats r).node w.state.fixed v) where
          to_it : node_of_port w.state.fixed v.receiver ≡ r
          to_it = sym (fits.owner v.receiver (way_there p w.state.fixed fits v taken.way).0.1) ∙ taken.mine ∙ shows.node r

          taken_not : (own : ℕ) → (v.sender ≡ port → IsAmong (held v.sender own).serial (held_on v (w.state.fixed.handles r) (w.doing r)))
              → is_slot_on v own port slot ≡ false
          taken_not own had = false_if (is_slot_on v own port slot) (λ named.
              let same : ((port == v.sender) ≡ true) × ((slot == own) ≡ true) = both (port == v.sender) (slot == own) named in
              let from : v.sender ≡ port = sym (eqb-true port v.sender same.0) in
              let here : own ≡ slot = sym (eqb-true slot own same.1) in
              not_had v taken.way from to_it
              (subst (λ i. IsAmong i (held_on v (w.state.fixed.handles r) (w.doing r)))
              (ap (λ i. (held i own).serial) from ∙ ap (λ i. (held port i).serial) here) (had from)))

          -- what the call took, it has
          has_taken : (own : ℕ) (d : Doing) → w.doing r ≡ Some d → taken_by v d ≡ if_on v v (held v.sender own).serial
              → IsAmong (held v.sender own).serial (held_on v (w.state.fixed.handles r) (w.doing r))
          has_taken own d is same =
              subst (λ o. IsAmong (held v.sender own).serial (held_on v (w.state.fixed.handles r) o)) (sym is)
              (among-back (held v.sender own).serial _ (taken_by v d) (subst (IsAmong (held v.sender own).serial) (sym same) (rw (same_way-refl v) (inl refl))))

        ended_not : (ending : Ending) → (seats r).local ≡ Ends ending → EndingStands p w.state.fixed (seats r) ending → ending_names ending port slot ≡ false
        ended_not (endings.Fills e words) is has = entry_not e has
        ended_not (endings.Sends e copied count) is has = sent_not e copied (ap (slots_in_call port) is) has
        ended_not (endings.FailsToSend e copied t) is has = sent_not e copied (ap (slots_in_call port) is) has
        ended_not (endings.Receives v u own header) is has = taken_not u has own (λ from. has_taken u has own _ (to_do _ is) refl)
        ended_not (endings.Drops e) is has = entry_not e has.0
        ended_not ending is has = refl

        pub place_not : (local : Local) → (seats r).local ≡ local → PlaceStands p w.state.fixed (seats r) local → place_names local port slot ≡ false
        place_not (Ends ending) is has = ended_not ending is has
        place_not (Writes e words next) is has = entry_not e has
        place_not (SendAsks d) is has = sent_not d.loan d.copied (ap (slots_in_call port) is) has
        place_not (SendEmpties d v place left) is has = sent_not d.loan d.copied (ap (slots_in_call port) is) has
        place_not (SendLooks d v place left full) is has = sent_not d.loan d.copied (ap (slots_in_call port) is) has
        place_not (SendOpens d v left full) is has = sent_not d.loan d.copied (ap (slots_in_call port) is) has
        place_not (SendPushes d last v place left count) is has = sent_not d.loan d.copied (ap (slots_in_call port) is) has
        place_not (SendEvicts d v place left count) is has = sent_not d.loan d.copied (ap (slots_in_call port) is) has
        place_not (SendGetsBack d v place left count) is has = sent_not d.loan d.copied (ap (slots_in_call port) is) has
        place_not (SendEnds d last count) is has = sent_not d.loan d.copied (ap (slots_in_call port) is) has
        place_not (ReceiveLoads v u own header left waiting) is has =
            taken_not u has own (λ from.
            let m : Message = held u.sender own in
            let known : forgot_port w.state.fixed r u.sender ≡ false = remembered u has.way from (to_it u has) in
            has_taken u has own (took w.state.fixed r (receiver_in v) u m (u ∷ left) waiting) (to_do _ is)
            (took_is (λ d. taken_by u d ≡ if_on u u m.serial) w.state.fixed r (receiver_in v) u m (u ∷ left) waiting refl refl refl
            (λ forgot. absurd (true≢false (sym forgot ∙ known)))))
        place_not (ReceiveAsks v u own header left waiting) is has = taken_not u has own (λ from. has_taken u has own _ (to_do _ is) refl)
        place_not (ReceiveReturns v u own place left waiting) is has = taken_not u has own (λ from. has_taken u has own _ (to_do _ is) refl)
        place_not (Reads e words) is has = entry_not e has
        place_not (ReleaseCloses e v left) is has = entry_not e has
        place_not (ReleaseReturns e place) is has = entry_not e has
        place_not (ReleaseLooks e) is has = entry_not e has.0
        place_not (ReleaseExchanges e old) is has = entry_not e has.0
        place_not (Checks e hinted v left) is has = entry_not e has
        place_not (Hints e v left) is has = entry_not e has
        place_not (HintExchanges e v left) is has = entry_not e has
        place_not local is has = refl
