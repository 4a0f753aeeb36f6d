-- What a call that is over but for its end sends, gives up or takes is of ports of its node.
use Rattle.std.specs.Prelude.{◌⊎◌, map}
use Rattle.std.specs.List.{list_all}
use Rattle.std.proofs.Common.{◌≡◌, ℕ, Bool, true, false, ◌==◌, List, [], ◌∷◌, Some, None, ap, sym, subst, ◌∙◌, inl, inr, eqb-true}
use Rattle.iox_model.specs.Joins.{not_living}
use Rattle.iox_model.specs.Maps.{AreDistinct, has_number}
use Rattle.iox_model.specs.Peers.{is_connected_port, node_of_port}
use Rattle.iox_model.specs.States.{Port}
use Rattle.iox_model.specs.Weaves.{World}
use Rattle.iox_laws.proofs.WeaveLaws.WholeLemmas.{split}
use Rattle.iox_laws.proofs.WeaveLedger.Lists.{IsAmong, among-map, among-number, any-among, find-among, map-among}
use Rattle.iox_laws.proofs.WeaveLedger.Senders as ledger
use Rattle.iox_laws.proofs.WeaveLedger.Views.{view}
use Rattle.iox_laws.proofs.WeavePools.Holds.{own-loan}
use Rattle.iox_laws.proofs.WeaveWorlds.Reached.{reachable_sound}
use Rattle.iox_laws.proofs.WeaveWorlds.Sound.{IsPortOf, is_port_of}
use Rattle.iox_laws.proofs.WeaveWorlds.Sound as sound
use Rattle.iox_wire_words.specs.Fits.{WireContents}
use Rattle.iox_wire_moments.specs.MomentsOf.{Pools}
use Rattle.iox_wire_locals.specs.declared.local.CallRefusal.{CallRefusal}
use Rattle.iox_wire_locals.specs.declared.local.Ending.{Ending}
use Rattle.iox_wire_locals.specs.declared.local.Ending.TheVariants as endings
use Rattle.iox_wire_locals.specs.declared.seat.Seat.{Seat}
use Rattle.iox_wire_locals.specs.declared.table.Entry.{Entry}
use Rattle.iox_wire_locals.specs.Doings.{outcome_of}
use Rattle.iox_wire_locals.specs.Knowing.{Knows}
use Rattle.iox_wire_locals.specs.Steps.{ending_at}
use Rattle.iox_wire_locals.specs.Tables.{Setting, handle_of}
use Rattle.iox_wire_laws.specs.WireKeeping.Shows.{ShowsWorld}
use Rattle.iox_wire_laws.specs.WireHolding.SlotsKnown.{EntryFits, HasEntry, IsPortOfSeat}
use Rattle.iox_wire_pools.specs.EndedSlots.{EndsAtPort}
use Rattle.iox_wire_pools.specs.UsesLaws.{EndsOwn, IsSent}
use Rattle.iox_wire_steps.specs.Over.{EndsWith}
use Rattle.iox_wire_steps.proofs.Knowing.{outcome_fits}

-- what the call lent, sent or gave up is of a port of the node; a Forget is of none
abbrev pub AtHome : Setting → Seat → Ending → Type 0
AtHome p x (endings.Forgets dead) = Unit {0}
AtHome p x ending = EndsAtPort p x ending

first_or_later : {A : Type 0} (test : A → Bool) (x : A) (xs : List A) (a : A) → (test x ≡ true) × (list_all test xs ≡ true)
    → (list_all test xs ≡ true → IsAmong a xs → test a ≡ true) → (a ≡ x) ⊎ IsAmong a xs → test a ≡ true
first_or_later test x xs a all rest (inl here) = ap test here ∙ all.0
first_or_later test x xs a all rest (inr there) = rest all.1 there

each_of : {A : Type 0} (test : A → Bool) (xs : List A) (a : A) → list_all test xs ≡ true → IsAmong a xs → test a ≡ true
each_of test [] a all among = absurd among
each_of test (x ∷ xs) a all among = first_or_later test x xs a (split (test x) (list_all test xs) all) (each_of test xs a) among

module _ (p : Setting) (held : Pools) (word : ℕ → ℕ) (c : WireContents) (seats : ℕ → Seat) (w : World) (n : ℕ)
    (shows : ShowsWorld p held word c seats w) (living : not_living w.state n ≡ None)
    (owners : (port : ℕ) → p.layout.owner port ≡ node_of_port w.state.fixed port)
    (numbered : (port : ℕ) → has_number port p.layout.sizes.ports ≡ true → (p.port port).number ≡ port) where
  abbrev x : Seat
  x = seats n

  pub knows : Knows p x w.state.fixed held
  knows = (shows.counts n living).knows

  -- a port of the machine is one of the wire
  pub there : (port : ℕ) → is_connected_port w.state.fixed port ≡ true → has_number port p.layout.sizes.ports ≡ true
  there port is =
      let at = any-among (λ (q : Port). q.number == port) w.state.fixed.ports is in
      let from = map-among p.port at.0 p.layout.sizes.ports (subst (IsAmong at.0) knows.ports at.1) in
      let has : has_number from.0 p.layout.sizes.ports ≡ true = among-number from.0 p.layout.sizes.ports from.1 in
      let same : from.0 ≡ port
      = sym (numbered from.0 has) ∙ ap (λ (q : Port). q.number) (sym from.2) ∙ eqb-true at.0.number port at.2 in
      subst (λ k. has_number k p.layout.sizes.ports ≡ true) same has

  pub at_home : (port : ℕ) → IsPortOf w.state.fixed n port → IsPortOfSeat p x port
  at_home port own = (there port own.0, owners port ∙ own.1 ∙ sym (shows.node n))

  -- ---- entries

  pub handle_there : (e : Entry) → HasEntry x e → IsAmong (handle_of held n e) (w.state.fixed.handles n)
  handle_there e has =
      let among = (find-among (λ (k : Entry). k.number == e.number) e x.table has).0 in
      subst (λ k. IsAmong (handle_of held k e) (w.state.fixed.handles k)) (shows.node n)
      (subst (IsAmong (handle_of held x.node e)) (sym knows.handles) (among-map (handle_of held x.node) e x.table among))

  pub of_port : (e : Entry) → HasEntry x e → IsPortOf w.state.fixed n e.port
  of_port e has =
      let r = split (is_connected_port w.state.fixed e.port) (node_of_port w.state.fixed e.port == n)
      (each_of (λ h. is_port_of w.state.fixed n h.port) (w.state.fixed.handles n) (handle_of held n e) ((reachable_sound w shows.reachable).own n)
      (handle_there e has)) in
      (r.0, eqb-true (node_of_port w.state.fixed e.port) n r.1)

  -- ---- the end

  module _ (ending : Ending) (is : ending_at x.local ≡ Some ending) (ends_with : EndsWith p w.state.fixed x ending)
      (entries : (e : Entry) → HasEntry x e → EntryFits p e) (numbers : AreDistinct (map (λ e. e.number) x.table)) where
    abbrev Told : Ending → Type 0
    Told e = ledger.FitsOutcome (view w.state.fixed n) n (outcome_of p held n e) × sound.FitsOutcome w.state.fixed n (outcome_of p held n e)

    pub told : Told ending
    told = outcome_fits p held word c seats w n ending shows living is

    -- a loan is its port's own message
    pub sender_is : (e : Entry) (copied : Bool) → ledger.FitsLoan (view w.state.fixed n) n (handle_of held n e) copied → e.sender ≡ e.port
    sender_is e copied fits = sym (knows.sent e.sender e.slot) ∙ fits.made.sender

    sent_own : (e : Entry) (copied : Bool) (count : ℕ) → EndsWith p w.state.fixed x (endings.Sends e copied count) → Told (endings.Sends e copied count) → IsSent x e copied
    sent_own e true count has fits = tt
    sent_own e false count has fits = (own-loan e.kind fits.0.loan, (has, numbers))

    failed_own : (e : Entry) (copied : Bool) (r : CallRefusal) → EndsWith p w.state.fixed x (endings.FailsToSend e copied r) → Told (endings.FailsToSend e copied r)
        → IsSent x e copied
    failed_own e true r has fits = tt
    failed_own e false r has fits = (own-loan e.kind fits.0.loan, (has, numbers))

    owns : (e : Ending) → EndsWith p w.state.fixed x e → Told e → EndsOwn x e
    owns (endings.Lends o slot) has fits = own-loan o.kind fits.0.loan
    owns (endings.Sends e copied count) has fits = sent_own e copied count has fits
    owns (endings.FailsToSend e copied r) has fits = failed_own e copied r has fits
    owns (endings.Drops e) has fits = ((has, numbers), λ kept. ((entries e has).own kept).0)
    owns e has fits = tt

    pub ends_own : EndsOwn x ending
    ends_own = owns ending ends_with told

    homes : (e : Ending) → EndsWith p w.state.fixed x e → Told e → AtHome p x e
    homes (endings.Lends o slot) has fits = at_home o.port fits.1.1
    homes (endings.Sends e copied count) has fits = (at_home e.port fits.1.1, sender_is e copied fits.0)
    homes (endings.FailsToSend e copied r) has fits = at_home e.port fits.1.1
    homes (endings.Drops e) has fits = λ kept. at_home e.port (of_port e has)
    homes e has fits = tt

    pub ends_at_home : AtHome p x ending
    ends_at_home = homes ending ends_with told
