-- What a loan, a send and a receive find, from the words and from what the node knows.
use Rattle.std.specs.Prelude.{◌<◌, not, find, if◌then◌else◌, is_some, map}
use Rattle.std.proofs.Common.{◌≡◌, ℕ, Bool, true, false, ◌==◌, List, [], ◌∷◌, Some, None, refl, ap, sym, subst, ◌∙◌, inl, inr, eqb-true}
use Rattle.iox_model.specs.declared.way.Way.{Way}
use Rattle.iox_model.specs.Doings.{Delivering}
use Rattle.iox_model.specs.Joins.{not_living}
use Rattle.iox_model.specs.Maps.{has_number, has_way, same_way}
use Rattle.iox_model.specs.Peers.{forgot_port, is_connected_port, node_of_port}
use Rattle.iox_model.specs.States.{Fixed, Port}
use Rattle.iox_model.specs.Weaves.{World}
use Rattle.iox_laws.specs.WeaveBeats.LiveWays.{GoesFrom}
use Rattle.iox_laws.proofs.WeaveBeats.LiveWays.{here}
use Rattle.iox_laws.proofs.WeaveLaws.MapLemmas.{eqb-refl, same_way-refl}
use Rattle.iox_laws.proofs.WeaveLedger.Lists.{IsAmong, any-among, map-among, among-number, way-among}
use Rattle.iox_laws.proofs.WeaveLedger.Senders.{FitsDoing}
use Rattle.iox_laws.proofs.WeaveLedger.Truths.{or-left}
use Rattle.iox_laws.proofs.WeaveLedger.Views.{view}
use Rattle.iox_laws.proofs.WeaveLedger.Worlds.{doing-is}
use Rattle.iox_laws.proofs.WeavePools.Holds.{own-loan}
use Rattle.iox_steps.specs.Accesses.{seen_by}
use Rattle.iox_steps.specs.Events.{IsTrueOf, rest}
use Rattle.iox_steps.specs.declared.side.QueueEvent.{QueueEvent}
use Rattle.iox_steps.specs.declared.side.QueueEvent.TheVariants.{HandOut, Learn}
use Rattle.iox_steps.specs.Fits.{write_of}
use Rattle.iox_word_map.specs.WordMaps.{MessageQueue, ReturningQueue, WireQueue}
use Rattle.iox_wire_words.specs.Fits.{MayRun, WireContents}
use Rattle.iox_wire_words.specs.Laws.{Finds, AccessIsMade}
use Rattle.iox_wire_words.specs.Programs.{program_access, site_of}
use Rattle.iox_wire_words.proofs.Steps.{each_access_keeps_the_words}
use Rattle.iox_wire_moments.specs.MomentsOf.{Pools}
use Rattle.iox_wire_locals.specs.declared.local.Delivery.{Delivery}
use Rattle.iox_wire_locals.specs.declared.local.Local.{Local}
use Rattle.iox_wire_locals.specs.declared.local.Local.TheVariants.{LendEmpties, ReceivePops, SendEmpties, SendGetsBack, SendPushes}
use Rattle.iox_wire_locals.specs.declared.seat.Seat.{Seat}
use Rattle.iox_wire_locals.specs.declared.table.Recorded.{Recorded}
use Rattle.iox_wire_locals.specs.Doings.{doing_of, send_of}
use Rattle.iox_wire_locals.specs.Locals.{program_of}
use Rattle.iox_wire_locals.specs.Tables.{Setting}
use Rattle.iox_wire_laws.specs.WireKeeping.Records.{record_of, recorded_of}
use Rattle.iox_wire_laws.specs.WireKeeping.Shows.{ShowsWorld, programs_of}
use Rattle.iox_wire_laws.specs.WireKeeping.UsedSlots.{CallHolds, PortFits}
use Rattle.iox_wire_laws.specs.WireShows.OwnedCalls.{ReceivesOn, SendsOn}
use Rattle.iox_wire_laws.specs.WireRegions.OwnedBegins.{LayoutFits}
use Rattle.iox_wire_laws.specs.WireRegions.OwnedWords.{Owns}
use Rattle.iox_wire_laws.proofs.WireRegions.OwnPorts.{both}
use Rattle.iox_wire_laws.proofs.WireRegions.OwnedPlaces.{owners_may_access}
use Rattle.iox_wire_laws.specs.WireHolding.FarSlots.{QueuesHaveSlots}
use Rattle.iox_wire_laws.specs.WireHolding.SlotsKnown.{SendsOwnEntry, IsPortOfSeat, PlaceStands, SlotsKnown}
use Rattle.iox_wire_laws.proofs.WireHolding.WireWays.{way_there}
use Rattle.iox_wire_pools.specs.FoundUses.{HasLoan, SendsFrom, SendsThere}
use Rattle.iox_wire_stands.specs.NamesLaws.{TakesInPool}
use Rattle.iox_wire_stands.specs.SendsLaws.{SlotsAreFoundInPools}
use Rattle.iox_wire_stands.specs.Stands.{AreNumbered, OwnersAre}

none_if : (b : Bool) → not b ≡ true → b ≡ false
none_if true e = sym e
none_if false e = refl

-- a record that is among them is found
some_found : (w : Way) (rs : List Recorded) (r : Recorded) → IsAmong r rs → w ≡ r.way → is_some (find (λ k. same_way k.way w) rs) ≡ true
some_found w [] r among is = absurd among
some_found w (k ∷ rs) r (inl first) is =
    rw (subst (λ (v : Way). same_way k.way v ≡ true) (ap (λ (q : Recorded). q.way) (sym first) ∙ sym is) (same_way-refl k.way)) refl
some_found w (k ∷ rs) r (inr later) is = by_case (same_way k.way w) (some_found w rs r later is)
  where
    by_case : (b : Bool) → is_some (find (λ q. same_way q.way w) rs) ≡ true → is_some (if b then Some k else find (λ q. same_way q.way w) rs) ≡ true
    by_case true found = refl
    by_case false found = found

first_of : (slot : ℕ) (waiting rest : List ℕ) → waiting ≡ slot ∷ rest → has_number slot waiting ≡ true
first_of slot waiting rest is = ap (has_number slot) is ∙ or-left (slot == slot) (has_number slot rest) (eqb-refl slot)

module _ (p : Setting) (held : Pools) (word word' : ℕ → ℕ) (c : WireContents) (seats : ℕ → Seat) (w : World) (n : ℕ)
    (shows : ShowsWorld p held word c seats w) (living : not_living w.state n ≡ None) (fits : LayoutFits p w.state.fixed)
    (owners : OwnersAre p w.state.fixed) (numbered : AreNumbered p) (queues : QueuesHaveSlots p c w.state)
    (slots : SlotsKnown p held w.state (seats n)) where
  abbrev x : Seat
  x = seats n

  abbrev f : Fixed
  f = w.state.fixed

  -- ---- ways of the node

  listed : (port : ℕ) → is_connected_port f port ≡ true → has_number port p.layout.sizes.ports ≡ true
  listed port there =
      let r = any-among (λ (q : Port). q.number == port) f.ports there in
      let k = map-among p.port r.0 p.layout.sizes.ports (subst (IsAmong r.0) (shows.counts n living).knows.ports r.1) in
      let has : has_number k.0 p.layout.sizes.ports ≡ true = among-number k.0 p.layout.sizes.ports k.1 in
      subst (λ i. has_number i p.layout.sizes.ports ≡ true)
      (sym (numbered k.0 has) ∙ ap (λ (q : Port). q.number) (sym k.2) ∙ eqb-true r.0.number port r.2) has

  module _ (y : Way) (on : SendsOn p x.node f y) where
    own : IsPortOfSeat p x y.sender
    own = (listed y.sender (way_there p f fits y on.way).0.0, on.mine)

    goes : GoesFrom f x.node y
    goes =
        let at : node_of_port f y.sender ≡ x.node = sym (owners y.sender) ∙ on.mine in
        let known = both (is_connected_port f y.sender) (not (forgot_port f (node_of_port f y.sender) y.receiver)) on.counted in (
          (way_there p f fits y on.way).0,
          at,
          subst (λ i. forgot_port f i y.receiver ≡ false) at (none_if (forgot_port f (node_of_port f y.sender) y.receiver) known.1),
        )

    port : PortFits held w.state x y.sender
    port = slots.ports y.sender own

    recorded : is_some (record_of y (recorded_of x y.sender)) ≡ true
    recorded =
        let has : has_way y (map (λ r. r.way) (recorded_of x y.sender)) ≡ true
        = ap (has_way y) port.ways ∙ (way_there p f fits y on.way).1 in
        let r = map-among (λ (k : Recorded). k.way) y (recorded_of x y.sender) (way-among y (map (λ (k : Recorded). k.way) (recorded_of x y.sender)) has) in
        some_found y (recorded_of x y.sender) r.0 r.1 r.2

    from : (k : ℕ) → y.sender ≡ k → SendsFrom p held w.state x k y
    from k is = record {
      from = is;
      own = subst (IsPortOfSeat p x) is own;
      goes = goes;
      recorded = subst (λ i. is_some (record_of y (recorded_of x i)) ≡ true) is recorded;
      apart = λ i j low also. slots.apart k i j (subst (IsPortOfSeat p x) is own) low also;
    }

  -- ---- what a program finds

  module _ (local : Local) (is : x.local ≡ local) (may : MayRun p.layout n (program_of p local)) (made : AccessIsMade (program_access p.layout (program_of p local)) word word') where
    found : Finds p.layout word word' (programs_of p seats) c (program_of p local) (seen_by (program_access p.layout (program_of p local)) word)
    found =
        (each_access_keeps_the_words p.layout word word' (programs_of p seats) c n (program_of p local) shows.sized shows.words (ap (program_of p) is) may made).1

    abbrev seen : ℕ
    seen = seen_by (program_access p.layout (program_of p local)) word

  abbrev Truth : WireQueue → QueueEvent → Type 0
  Truth q event = IsTrueOf (site_of p.layout q) (write_of (site_of p.layout q) word) (c.queues q).waiting (c.queues q).hand event

  waits : (q : WireQueue) (event : QueueEvent) (slot : ℕ) → event ≡ HandOut slot → Truth q event → has_number slot (c.queues q).waiting ≡ true
  waits q event slot is true_of = first_of slot (c.queues q).waiting (rest (c.queues q).waiting) (subst (Truth q) is true_of)

  in_hand : (q : WireQueue) (event : QueueEvent) (slot : ℕ) → event ≡ Learn slot → Truth q event → has_number slot (c.queues q).hand ≡ true
  in_hand q event slot is true_of = first_of slot (c.queues q).hand [] (subst (Truth q) is true_of)

  sender_is : (d : Delivery) (y : Way) → SendsOn p x.node f y → y.sender ≡ d.loan.sender → (CallHolds held x.local → d.loan.sender ≡ d.loan.port)
      → y.sender ≡ d.loan.port
  sender_is d y on is holds = is ∙ holds (port y on).call

  by_local : (local : Local) → x.local ≡ local → MayRun p.layout n (program_of p local) → AccessIsMade (program_access p.layout (program_of p local)) word word'
      → Owns p x.node f w.state.request_state local → PlaceStands p f x local
      → TakesInPool p local (seen_by (program_access p.layout (program_of p local)) word)
      × SendsThere p held w.state x local (seen_by (program_access p.layout (program_of p local)) word)
  by_local (ReceivePops v y more place left waiting) is may made owns names =
      let on : ReceivesOn p x.node f y = owns.0.0 in
      let local : Local = ReceivePops v y more place left waiting in (
        λ slot event. queues.waiting y slot on.way on.counted (waits (MessageQueue y) _ slot event (found local is may made).is_true),
        tt,
      )
  by_local (LendEmpties o y place left) is may made owns names =
      let on : SendsOn p x.node f y = owns.1.0.0 in
      let local : Local = LendEmpties o y place left in (
        tt,
        (
          from y on o.port owns.1.0.1,
          λ slot event. subst (λ k. slot < (p.port k).pool) owns.1.0.1
              (queues.returned y slot on.way on.counted (waits (ReturningQueue y) _ slot event (found local is may made).is_true)),
        ),
      )
  by_local (SendEmpties d y place left) is may made owns names =
      let on : SendsOn p x.node f y = owns.1.0.0 in
      let local : Local = SendEmpties d y place left in
      let at : y.sender ≡ d.loan.port = sender_is d y on owns.1.0.1 (λ has. subst (CallHolds held) is has) in (
        tt,
        (
          from y on d.loan.port at,
          λ slot event. subst (λ k. slot < (p.port k).pool) at
              (queues.returned y slot on.way on.counted (waits (ReturningQueue y) _ slot event (found local is may made).is_true)),
        ),
      )
  by_local (SendGetsBack d y place left count) is may made owns names =
      let on : SendsOn p x.node f y = owns.0.0.0 in
      let local : Local = SendGetsBack d y place left count in
      let at : y.sender ≡ d.loan.port = sender_is d y on owns.0.0.1 (λ has. subst (CallHolds held) is has) in (
        tt,
        (
          from y on d.loan.port at,
          λ slot event. subst (λ k. slot < (p.port k).pool) at
              (queues.in_hand y slot on.way on.counted (in_hand (MessageQueue y) _ slot event (found local is may made).is_true)),
        ),
      )
  by_local (SendPushes d last y place left count) is may made owns names =
      let on : SendsOn p x.node f y = owns.0.0.0 in
      let at : y.sender ≡ d.loan.port = sender_is d y on owns.0.0.1 (λ has. subst (CallHolds held) is has) in
      (tt, (from y on d.loan.port at, loan))
    where
      loan : HasLoan x d
      loan copied = (subst (SendsOwnEntry f x d.loan) copied names, own-loan d.loan.kind sent.0.loan.loan)
        where
          sent : FitsDoing (view f x.node) x.node (Delivering (send_of f held x.node d) last (y ∷ left) count)
          sent =
              doing-is w x.node (Delivering (send_of f held x.node d) last (y ∷ left) count) (here w shows.reachable).holding.fits
              (shows.doing n living ∙ ap (doing_of p f held x.node) is)
  by_local local is may made owns names = (tt, tt)

pub slots_are_found_in_pools : SlotsAreFoundInPools
slots_are_found_in_pools p held word word' c seats w n shows living fits owners numbered queues names slots owns tells made =
    by_local p held word word' c seats w n shows living fits owners numbered queues slots (seats n).local refl
    (subst (λ k. MayRun p.layout k (program_of p (seats n).local)) (shows.node n) (owners_may_access p held w.state (seats n) owns tells).0.may_run) made owns
    names.place
