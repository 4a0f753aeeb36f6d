-- All that is so of a node is so after the end of its call.
use Rattle.std.specs.Prelude.{◌⊎◌, map}
use Rattle.std.proofs.Common.{◌≡◌, ℕ, Bool, true, false, if◌then◌else◌, List, Some, None, refl, ap, sym, subst, ◌∙◌, inl, inr, eq-eqb, true≢false}
use Rattle.iox_model.specs.declared.kind.Kind.TheVariants.{ActiveRequest, PendingResponse, Response}
use Rattle.iox_model.specs.Handles.{same_kind}
use Rattle.iox_model.specs.Joins.{not_living}
use Rattle.iox_model.specs.Maps.{AreDistinct, has_number}
use Rattle.iox_model.specs.Messages.{request_way, response_way}
use Rattle.iox_model.specs.Peers.{node_of_port}
use Rattle.iox_model.specs.Settings.{is_client}
use Rattle.iox_model.specs.States.{Fixed, State}
use Rattle.iox_model.specs.Weaves.{World}
use Rattle.iox_laws.proofs.WeaveBeats.LiveWays.{Here, here}
use Rattle.iox_laws.proofs.WeaveLaws.WireLemmas.{Same, settled_same}
use Rattle.iox_laws.proofs.WeaveLedger.Senders as ledger
use Rattle.iox_laws.proofs.WeaveLedger.Settling.{settled-here}
use Rattle.iox_laws.proofs.WeaveLedger.Views.{View, after_call, node_in, view}
use Rattle.iox_wire_words.specs.Fits.{WireContents}
use Rattle.iox_wire_moments.specs.MomentsOf.{Pools}
use Rattle.iox_wire_locals.specs.declared.local.Ending.{Ending}
use Rattle.iox_wire_locals.specs.declared.local.Ending.TheVariants as endings
use Rattle.iox_wire_locals.specs.declared.seat.Seat.{Seat}
use Rattle.iox_wire_locals.specs.declared.table.Entry.{Entry}
use Rattle.iox_wire_locals.specs.BeginLaws.{Counts}
use Rattle.iox_wire_locals.specs.Doings.{outcome_of}
use Rattle.iox_wire_locals.specs.Known.{loans_at}
use Rattle.iox_wire_locals.specs.Lendings.{next_handle}
use Rattle.iox_wire_locals.specs.Steps.{closed, ending_at}
use Rattle.iox_wire_locals.specs.Tables.{Setting, way_in}
use Rattle.iox_wire_laws.specs.WireKeeping.Shows.{ShowsWorld}
use Rattle.iox_wire_laws.proofs.WireKeeping.CountsKept.{no_port}
use Rattle.iox_wire_laws.proofs.WireKeeping.Frames.{Frame, settled_frame}
use Rattle.iox_wire_laws.specs.WireOwners.Borrowed.{CountsItsWay}
use Rattle.iox_wire_laws.proofs.WireOwners.Borrowed.{ends_keep_borrowed}
use Rattle.iox_wire_laws.specs.WireOwners.Releases.{HasOwnStates, ReleasesOwnHandle}
use Rattle.iox_wire_laws.specs.WireRegions.OwnedBegins.{LayoutFits}
use Rattle.iox_wire_laws.specs.WireHolding.FarSlots.{EndsInPool, IsInPool, NamesSlots}
use Rattle.iox_wire_laws.specs.WireHolding.Holding.{held_ended}
use Rattle.iox_wire_laws.specs.WireHolding.SlotsKnown.{EntryFits, HasEntry, IsPortOfSeat, NamesStand, SlotsKnown}
use Rattle.iox_wire_pools.specs.UsesLaws.{EndsOwn}
use Rattle.iox_wire_pools.proofs.EndUses.{ends_keep_uses}
use Rattle.iox_wire_stands.specs.EndLaws.{IsAdded}
use Rattle.iox_wire_stands.specs.Nodes.{NodeStands}
use Rattle.iox_wire_stands.proofs.EndCounts.{ends_keep_counts}
use Rattle.iox_wire_stands.proofs.EndNumbers.{ends_keep_numbers}
use Rattle.iox_wire_stands.proofs.EndsKept.{ends_keep_desks, ends_keep_names, ends_keep_pools}
use Rattle.iox_wire_steps.specs.Over.{EndIsTold, EndsWith, IsDropped, CallIsOver, state_ended}
use Rattle.iox_wire_steps.proofs.Added as added
use Rattle.iox_wire_steps.proofs.EndLoans.{so_many}
use Rattle.iox_wire_steps.proofs.EndStates.{Forgot, ended_forgot, states_stay}
use Rattle.iox_wire_steps.proofs.Gained.{Gains, dropped_is_gone, gained}
use Rattle.iox_wire_steps.proofs.Homes as homes
use Rattle.iox_wire_steps.proofs.Knowing.{outcome_fits}
use Rattle.iox_wire_steps.proofs.NewNumbers.{numbers_are_new}
use Rattle.iox_wire_steps.proofs.OwnSlots.{slots_after}
use Rattle.iox_wire_steps.proofs.Received.{received_fits, received_released}
use Rattle.iox_wire_steps.proofs.SameSerials.{ended_same, known_too}

module _ (p : Setting) (held : Pools) (word : ℕ → ℕ) (c : WireContents) (seats : ℕ → Seat) (w : World) (n : ℕ) (ending : Ending) (payload : List ℕ)
    (shows : ShowsWorld p held word c seats w) (living : not_living w.state n ≡ None) (fits : LayoutFits p w.state.fixed)
    (owners : (port : ℕ) → p.layout.owner port ≡ node_of_port w.state.fixed port)
    (numbered : (port : ℕ) → has_number port p.layout.sizes.ports ≡ true → (p.port port).number ≡ port)
    (over : CallIsOver p held w.state (seats n) ending) where
  abbrev x : Seat
  x = seats n

  abbrev s : State
  s = w.state

  abbrev y : Seat
  y = closed p (seats n) (Some ending)

  abbrev t : State
  t = state_ended p held w.state (seats n) payload ending

  abbrev new : Pools
  new = held_ended held payload ending

  has : Counts p x s held
  has = shows.counts n living

  is : ending_at x.local ≡ Some ending
  is = over.at_end

  pub own : EndsOwn x ending
  own = homes.ends_own p held word c seats w n shows living owners numbered ending is over.message over.entries over.numbers

  pub home : homes.AtHome p x ending
  home = homes.ends_at_home p held word c seats w n shows living owners numbered ending is over.message over.entries over.numbers

  same : Same s t
  same = settled_same s x.node payload (outcome_of p held x.node ending) has.on_wire

  frame : Frame s.fixed t.fixed
  frame = settled_frame s x.node payload (outcome_of p held x.node ending) has.on_wire (no_port p held x.node ending)

  left : Forgot x y
  left = ended_forgot p x ending

  mine : (port : ℕ) → IsPortOfSeat p y port → IsPortOfSeat p x port
  mine port at = (at.0, at.1 ∙ left.node)

  -- ---- what the end adds

  module _ (e : Entry) where
    pub fits_added : (k : Ending) → ending_at x.local ≡ Some k → EndsWith p s.fixed x k → IsAdded p x k e → EntryFits p e
    fits_added (endings.Lends o slot) at with new = subst (EntryFits p) (sym new) (added.lent_fits p held word c seats w n shows living fits o slot at)
    fits_added (endings.Sends k copied count) at with new =
        subst (EntryFits p) (sym new) (added.sent_fits p held word c seats w n shows living fits k copied count at)
    fits_added (endings.Receives v z slot header) at with new =
        subst (EntryFits p) (sym new) (received_fits p held word c seats w n v z slot header shows living at fits with (next_handle p x))
    fits_added k at with new = absurd new

    pub in_pool_added : (k : Ending) → ending_at x.local ≡ Some k → EndsInPool p k → homes.AtHome p x k → IsAdded p x k e → IsInPool p e.sender e.slot
    in_pool_added (endings.Lends o slot) at low near new =
        subst (λ (q : Entry). IsInPool p q.sender q.slot) (sym new)
        (added.lent_in_pool p held word c seats w n shows living fits o slot at (over.uses o.port near))
    in_pool_added (endings.Sends k copied count) at low near new = subst (λ (q : Entry). IsInPool p q.sender q.slot) (sym new) low
    in_pool_added (endings.Receives v z slot header) at low near new = subst (λ (q : Entry). IsInPool p q.sender q.slot) (sym new) low
    in_pool_added k at low near new = absurd new

    released_added : (k : Ending) → ending_at x.local ≡ Some k → EndsWith p s.fixed x k → EndIsTold p held s x k → Gains p x k e → ReleasesOwnHandle s.fixed n e
    released_added (endings.Lends o slot) at with tells new =
        subst (ReleasesOwnHandle s.fixed n) (sym new) (added.lent_released p held word c seats w n shows living fits o slot at)
    released_added (endings.Sends k copied count) at with tells new =
        subst (ReleasesOwnHandle s.fixed n) (sym new.0)
        (added.sent_released p held word c seats w n shows living fits k copied count at new.1 (tells new.1).0)
    released_added (endings.Receives v z slot header) at with tells new =
        subst (ReleasesOwnHandle s.fixed n) (sym new) (received_released p held word c seats w n v z slot header shows living at fits with (next_handle p x) (λ server. (tells.1 server).2))
    released_added k at with tells new = absurd new

    states_added : (k : Ending) → ending_at x.local ≡ Some k → EndIsTold p held s x k → Gains p x k e → same_kind e.kind PendingResponse ≡ true
        → HasOwnStates p x s.request_state e
    states_added (endings.Lends o slot) at tells new pending =
        absurd (true≢false (sym pending ∙ ap (λ (q : Entry). same_kind q.kind PendingResponse) new
        ∙ added.lent_kind p held word c seats w n shows living fits o slot at))
    states_added (endings.Sends k copied count) at tells new pending = subst (HasOwnStates p x s.request_state) (sym new.0) (tells new.1).1
    states_added (endings.Receives v z slot header) at tells new pending =
        absurd (true≢false (sym pending ∙ ap (λ (q : Entry). same_kind q.kind PendingResponse) new ∙ not_pending (is_client v.role)))
      where
        not_pending : (b : Bool) → same_kind (if b then Response else ActiveRequest) PendingResponse ≡ false
        not_pending true = refl
        not_pending false = refl
    states_added k at tells new pending = absurd new

  -- ---- the fields

  stays_in_pool : (e : Entry) → HasEntry y e → HasEntry x e → IsInPool p e.sender e.slot
  stays_in_pool e now before = by_part (over.in_pools e before)
    where
      by_part : IsInPool p e.sender e.slot ⊎ IsDropped ending e → IsInPool p e.sender e.slot
      by_part (inl low) = low
      by_part (inr dropped) = absurd (dropped_is_gone p x ending e now dropped)

  same_released : (e : Entry) → ReleasesOwnHandle s.fixed n e → ReleasesOwnHandle t.fixed y.node e
  same_released e is =
      let it = subst (λ ports. ReleasesOwnHandle (record (s.fixed) { ports = ports }) n e) (sym frame.1) is in
      subst (λ k. ReleasesOwnHandle t.fixed k e) (sym (shows.node n) ∙ sym left.node)
      (record { pending = it.pending; request = it.request; response = it.response })

  -- what is received, or given up, came on a way that the node counts
  counted_end : (k : Ending) → EndsWith p s.fixed x k → CountsItsWay x k
  counted_end (endings.Receives v z slot header) on = over.counted z on.way on.mine
  counted_end (endings.Drops e) there =
      λ received. over.counted (way_in e) ((over.entries e there).received received).1
      (owners (way_in e).receiver ∙ ap (node_of_port s.fixed) (to_port e)
      ∙ (homes.of_port p held word c seats w n shows living owners numbered e there).1 ∙ sym (shows.node n))
    where
      to_port : (e : Entry) → (way_in e).receiver ≡ e.port
      to_port e = by_kind (same_kind e.kind ActiveRequest)
        where
          by_kind : (b : Bool) → (if b then request_way e.client e.port else response_way e.port e.lane e.sender).receiver ≡ e.port
          by_kind true = refl
          by_kind false = refl
  counted_end k on = tt

  -- how many loans its ports made
  pub loans_now : (port : ℕ) → IsPortOfSeat p y port → t.fixed.loans port ≡ loans_at y port
  loans_now port at =
      let own_port : IsPortOfSeat p x port = mine port at in
      let here_is : node_of_port s.fixed port ≡ x.node = sym (owners port) ∙ own_port.1 in
      let uses = over.uses port own_port in
      let hs : Here w = here w shows.reachable in
      let outcome : ledger.FitsOutcome (view s.fixed x.node) x.node (outcome_of p held x.node ending)
      = subst (λ k. ledger.FitsOutcome (view s.fixed k) k (outcome_of p held k ending)) (sym (shows.node n))
      (outcome_fits p held word c seats w n ending shows living is).0 in
      let after : view t.fixed x.node ≡ after_call (view s.fixed x.node) x.node payload (outcome_of p held x.node ending)
      = settled-here s x.node payload (outcome_of p held x.node ending) has.on_wire (hs.holding.fits.handles x.node) outcome in
      shown_loans t.fixed (ap (λ ps. node_in ps port) frame.1 ∙ here_is)
      ∙ ap (λ (v : View). v.loans port) after
      ∙ so_many x port uses.desk uses.there p held x.node payload (view s.fixed x.node) (sym (shown_loans s.fixed here_is) ∙ over.loans port own_port) has.knows.forgot ending
    where
      shown_loans : (f : Fixed) → node_in f.ports port ≡ x.node → f.loans port ≡ (view f x.node).loans port
      shown_loans f at_node = rw (eq-eqb (node_in f.ports port) x.node at_node) refl

  -- slots are known
  pub slots_now : SlotsKnown p new t y
  slots_now =
      known_too p held new t y (ended_same held payload ending) tt
      (slots_after p held s x payload has owners numbered fits.numbers over.slots over.at_desks over.uses ending is own home)

  -- what the entries name
  pub names_now : NamesStand p t.fixed y
  names_now = ends_keep_names p t.fixed x ending over.entries (λ e new. fits_added e ending is over.message new)

  pub pools_now : NamesSlots p y × ((e : Entry) → HasEntry y e → IsInPool p e.sender e.slot)
  pools_now = ends_keep_pools p x ending stays_in_pool (λ e new. in_pool_added e ending is over.takes home new)

  pub numbers_now : AreDistinct (map (λ e. e.number) y.table)
  numbers_now = ends_keep_numbers p x ending over.numbers (numbers_are_new p held word c seats w n shows living ending is)

  module _ (told : EndIsTold p held w.state (seats n) ending) where
    pub released_now : (e : Entry) → HasEntry y e → ReleasesOwnHandle t.fixed y.node e
    released_now e now = by_part (gained p x e ending now)
      where
        by_part : HasEntry x e ⊎ Gains p x ending e → ReleasesOwnHandle t.fixed y.node e
        by_part (inl before) = same_released e (subst (λ k. ReleasesOwnHandle s.fixed k e) (shows.node n) (over.released e before))
        by_part (inr new) = same_released e (released_added e ending is over.message told new)

    pub states_now : (e : Entry) → HasEntry y e → same_kind e.kind PendingResponse ≡ true → HasOwnStates p y t.request_state e
    states_now e now pending =
        subst (λ shown. HasOwnStates p y shown e) (sym same.request_state)
        (states_stay p x y s.request_state e left pending (by_part (gained p x e ending now)))
      where
        by_part : HasEntry x e ⊎ Gains p x ending e → HasOwnStates p x s.request_state e
        by_part (inl before) = over.states e before pending
        by_part (inr new) = states_added e ending is told new pending

    pub node_now : NodeStands p new t y
    node_now = record {
      owns = record { owns = tt; closes = tt };
      names = names_now;
      name_slots = pools_now.0;
      in_pools = λ e there. inl (pools_now.1 e there);
      lends = tt;
      slots = slots_now;
      at_desks = ends_keep_desks p x ending over.at_desks;
      uses = ends_keep_uses p x ending over.uses is own;
      loans = loans_now;
      borrowed = ends_keep_borrowed p x s held payload ending has over.borrowed (counted_end ending over.message);
      counted = λ v way at. ends_keep_counts p x ending v (over.counted v way (at ∙ left.node));
      numbers = numbers_now;
      released = released_now;
      states = states_now;
      opened = tt;
      tells = tt;
    }
