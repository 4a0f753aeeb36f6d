-- All that is so of a node at rest is so of it at the first place of its call.
use Rattle.std.specs.Prelude.{◌⊎◌, find, map}
use Rattle.std.specs.List.{list_any}
use Rattle.std.proofs.Common.{◌≡◌, ℕ, Bool, true, false, ◌==◌, List, [], ◌∷◌, refl, ap, sym, subst, ◌∙◌, inl, inr}
use Rattle.iox_model.specs.declared.way.RequestState.TheVariants.{Closed}
use Rattle.iox_model.specs.Commands.{WireCall}
use Rattle.iox_model.specs.Handles.{is_received}
use Rattle.iox_model.specs.Maps.{AreDistinct, has_number, same_way}
use Rattle.iox_model.specs.Peers.{forgot_port}
use Rattle.iox_model.specs.States.{Fixed, State}
use Rattle.iox_model.specs.Weaves.{World}
use Rattle.iox_laws.proofs.WeaveLaws.MapLemmas.{eqb-refl}
use Rattle.iox_laws.proofs.WeaveLedger.Truths.{or-left}
use Rattle.iox_wire_moments.specs.MomentsOf.{Pools}
use Rattle.iox_wire_locals.specs.declared.local.Ending.{Ending}
use Rattle.iox_wire_locals.specs.declared.local.Ending.TheVariants as endings
use Rattle.iox_wire_locals.specs.declared.local.Local.{Local}
use Rattle.iox_wire_locals.specs.declared.local.Local.TheVariants.{Ends, LendStores, ReceiveAsks, ReceiveLoads, ReceiveReturns, ReleaseExchanges, ReleaseLooks, SendAsks, SendEmpties, SendEnds, SendEvicts, SendGetsBack, SendLooks, SendOpens, SendPushes}
use Rattle.iox_wire_locals.specs.declared.seat.Seat.{Seat}
use Rattle.iox_wire_locals.specs.declared.table.Borrowed.{Borrowed}
use Rattle.iox_wire_locals.specs.declared.table.Entry.{Entry}
use Rattle.iox_wire_locals.specs.Begins.{begin}
use Rattle.iox_wire_locals.specs.Courses.{takes_slot}
use Rattle.iox_wire_locals.specs.Desks.{picks}
use Rattle.iox_wire_locals.specs.NewLoans.{message_in}
use Rattle.iox_wire_locals.specs.ReceiveCourses.{states_for}
use Rattle.iox_wire_locals.specs.Tables.{Setting, entry_at, way_in}
use Rattle.iox_wire_locals.proofs.KnowingLemmas.{forgot_known}
use Rattle.iox_wire_laws.specs.WireKeeping.OwnParts.{KeepsOwn}
use Rattle.iox_wire_laws.specs.WireKeeping.Readiness.{IsReady}
use Rattle.iox_wire_laws.specs.WireKeeping.UsedSlots.{CallHolds, slots_in_call}
use Rattle.iox_wire_laws.proofs.WireKeeping.CountsKept.{begins_keep_own}
use Rattle.iox_wire_laws.specs.WireOwners.FirmOwners.{OwnsFirmly}
use Rattle.iox_wire_laws.proofs.WireOwners.FirmOwners.{calls_begin_firmly}
use Rattle.iox_wire_laws.proofs.WireOwners.Borrowed.{own_parts_keep_borrowed}
use Rattle.iox_wire_laws.specs.WireOwners.Releases.{ReleasesOwnHandle}
use Rattle.iox_wire_laws.specs.WireOwners.RequestStates.{NamesNoOther}
use Rattle.iox_wire_laws.specs.WireOwners.SentStates.{HasOpened}
use Rattle.iox_wire_laws.specs.WireRegions.OwnedBegins.{LayoutFits}
use Rattle.iox_wire_laws.specs.WireShows.OwnedCalls.{Each, TellsLane}
use Rattle.iox_wire_laws.specs.WireHolding.Aside.{slot_aside}
use Rattle.iox_wire_laws.specs.WireHolding.FarSlots.{IsInPool, TakesFromPool}
use Rattle.iox_wire_laws.specs.WireHolding.Holding.{held_at, held_with}
use Rattle.iox_wire_laws.specs.WireHolding.SlotsKnown.{HasEntry, PlaceStands, SlotsKnown}
use Rattle.iox_wire_laws.proofs.WireHolding.PickedSlots.{picks_are_known}
use Rattle.iox_wire_pools.proofs.BeginUses.{begins_keep_uses}
use Rattle.iox_wire_stands.specs.BeginLaws.{BeginsKeepNodes, MayBegin}
use Rattle.iox_wire_stands.specs.Following.{CallMessage, Dropped, Leaving, LeavesNothing, Lent, NoMessage, OfEntry, Sent, Taken, message_at}
use Rattle.iox_wire_stands.specs.FollowingLaws.{TakesNext}
use Rattle.iox_wire_stands.specs.Nodes.{LendsAtHome, NodeStands}
use Rattle.iox_wire_stands.proofs.NodesFollow.{SameDesk, itself, same_at, same_loans, same_there}
use Rattle.iox_wire_stands.proofs.OthersHold.{OneSlot}
use Rattle.iox_wire_stands.proofs.SlotsFollow.{NotLent, NotStores, not_stores, same_known}
use Rattle.iox_wire_stands.proofs.Starts.{Starting, Starts, Takes, starts}

-- what the first place names
abbrev Names : Setting → Fixed → Seat → CallMessage → Type 0
Names p f x (Sent e true) = ⊥
Names p f x (Sent e false) = HasEntry x e × IsInPool p e.sender e.slot
Names p f x (OfEntry e) = HasEntry x e
Names p f x (Dropped e) =
    HasEntry x e × (is_received e.kind ≡ true → forgot_port f x.node e.sender ≡ true)
Names p f x (Leaving e) = ⊥
Names p f x (Taken w slot) = ⊥
Names p f x other = Unit {0}

module _ (p : Setting) (f : Fixed) (x : Seat) where
  of_sent : (e : Entry) (copied : Bool) → Names p f x (Sent e copied)
      → PlaceStands p f x (Ends (endings.Sends e copied 0)) × IsInPool p e.sender e.slot
  of_sent e true has = absurd has
  of_sent e false has = has

  ended : (ending : Ending) → Names p f x (message_at (Ends ending)) → PlaceStands p f x (Ends ending) × TakesFromPool p (Ends ending)
  ended (endings.Fills e words) has = (has, tt)
  ended (endings.Sends e copied count) has = of_sent e copied has
  ended (endings.FailsToSend e copied r) has = of_sent e copied has
  ended (endings.Receives v w slot header) has = absurd has
  ended (endings.Drops e) has = ((has.0, λ is. inr (has.1 is)), tt)
  ended ending has = (tt, tt)

  names_at : (local : Local) → Names p f x (message_at local) → PlaceStands p f x local × TakesFromPool p local
  names_at (Ends ending) has = ended ending has
  names_at (SendAsks d) has = of_sent d.loan d.copied has
  names_at (SendEmpties d w place left) has = of_sent d.loan d.copied has
  names_at (SendLooks d w place left full) has = of_sent d.loan d.copied has
  names_at (SendOpens d w left full) has = of_sent d.loan d.copied has
  names_at (SendPushes d last w place left count) has = of_sent d.loan d.copied has
  names_at (SendEvicts d w place left count) has = of_sent d.loan d.copied has
  names_at (SendGetsBack d w place left count) has = of_sent d.loan d.copied has
  names_at (SendEnds d last count) has = of_sent d.loan d.copied has
  names_at (ReceiveLoads v w slot header left waiting) has = absurd has
  names_at (ReceiveAsks v w slot header left waiting) has = absurd has
  names_at (ReceiveReturns v w slot place left waiting) has = absurd has
  names_at (ReleaseLooks e) has = absurd has
  names_at (ReleaseExchanges e old) has = absurd has
  names_at local has = (has, tt)

-- a call that starts with no loan of its own has no slot, and no slot changes
abbrev OwnsNone : CallMessage → Type 0
OwnsNone (Lent o slot) = ⊥
OwnsNone (Sent e true) = ⊥
OwnsNone other = Unit {0}

starting_none : (p : Setting) (x : Seat) (message : CallMessage) → Starting p x message → OwnsNone message
starting_none p x (Lent o slot) has = absurd has
starting_none p x (Sent e true) has = absurd (let no : true ≡ false = has.0 in (cc))
starting_none p x (Sent e false) has = tt
starting_none p x other has = tt

not_lent : (message : CallMessage) → OwnsNone message → NotLent message
not_lent (Lent o slot) none = none
not_lent other none = tt

held_still : (p : Setting) (held : Pools) (local : Local) → NotStores local → held_at p held local ≡ held
held_still p held (LendStores o slot next) not = absurd not
held_still p held local not = refl

sent_slots : (port : ℕ) (e : Entry) (copied : Bool) → OwnsNone (Sent e copied) → slots_in_call port (Ends (endings.Sends e copied 0)) ≡ []
sent_slots port e true none = absurd none
sent_slots port e false none = refl

ended_slots : (port : ℕ) (ending : Ending) → OwnsNone (message_at (Ends ending)) → slots_in_call port (Ends ending) ≡ []
ended_slots port (endings.Lends o slot) none = absurd none
ended_slots port (endings.Sends e copied count) none = sent_slots port e copied none
ended_slots port (endings.FailsToSend e copied r) none = sent_slots port e copied none
ended_slots port ending none = refl

no_slots : (port : ℕ) (local : Local) → OwnsNone (message_at local) → slots_in_call port local ≡ []
no_slots port (Ends ending) none = ended_slots port ending none
no_slots port (LendStores o slot next) none = absurd none
no_slots port (SendAsks d) none = sent_slots port d.loan d.copied none
no_slots port (SendEmpties d w place left) none = sent_slots port d.loan d.copied none
no_slots port (SendLooks d w place left full) none = sent_slots port d.loan d.copied none
no_slots port (SendOpens d w left full) none = sent_slots port d.loan d.copied none
no_slots port (SendPushes d last w place left count) none = sent_slots port d.loan d.copied none
no_slots port (SendEvicts d w place left count) none = sent_slots port d.loan d.copied none
no_slots port (SendGetsBack d w place left count) none = sent_slots port d.loan d.copied none
no_slots port (SendEnds d last count) none = sent_slots port d.loan d.copied none
no_slots port local none = refl

module _ (p : Setting) (held : Pools) (w : World) (x : Seat) (call : WireCall) (fits : LayoutFits p w.state.fixed) (stands : NodeStands p held w.state x)
    (ready : IsReady p held w x) (may : MayBegin p held w.state x call) where
  abbrev s : State
  s = w.state

  abbrev y : Seat
  y = begin p x call

  abbrev new : Pools
  new = held_at p held y.local

  part : KeepsOwn x y
  part = begins_keep_own p x call

  back : (e : Entry) → HasEntry y e → HasEntry x e
  back e has = ap (entry_at e.number) (sym part.table) ∙ has

  forth : (e : Entry) → HasEntry x e → HasEntry y e
  forth e has = ap (entry_at e.number) part.table ∙ has

  -- at rest a node leaves nothing: each entry is in a pool
  at_rest : (e : Entry) → IsInPool p e.sender e.slot ⊎ (message_at x.local ≡ Leaving e) → IsInPool p e.sender e.slot
  at_rest e (inl has) = has
  at_rest e (inr leaves) =
      absurd (let no : NoMessage ≡ Leaving e = sym (ap message_at may.rests) ∙ leaves in (cc))

  in_pool : (e : Entry) → HasEntry x e → IsInPool p e.sender e.slot
  in_pool e has = at_rest e (stands.in_pools e has)

  rests_slots : (port : ℕ) → slots_in_call port x.local ≡ []
  rests_slots port = ap (slots_in_call port) may.rests

  named : (message : CallMessage) → Starting p x message → Names p s.fixed y message
  named NoMessage has = tt
  named (OfEntry e) has = forth e has
  named (Sent e true) has = absurd (let no : true ≡ false = has.0 in (cc))
  named (Sent e false) has = (forth e has.1, in_pool e has.1)
  named (Dropped e) has = (
    forth e has.0,
    λ is.
        subst (λ n. forgot_port s.fixed n e.sender ≡ true) (sym part.node)
        (subst (λ q. forgot_port s.fixed x.node q ≡ true) ((stands.names.entries e has.0).received is).0
        (forgot_known p x s.fixed held ready.counts.knows (way_in e).sender ∙ has.1 is)),
  )
  named (Lent o slot) has = absurd has
  named (Leaving e) has = absurd has
  named (Taken v slot) has = absurd has

  no_home : (message : CallMessage) → OwnsNone message → LendsAtHome p y message
  no_home (Lent o slot) none = absurd none
  no_home other none = tt

  -- what differs as the loan takes a slot at once, and as it does not
  record First : Type 0 where
    pub named : PlaceStands p s.fixed y y.local × TakesFromPool p y.local
    pub home : LendsAtHome p y (message_at y.local)
    pub slots : SlotsKnown p new s y
    pub desks : (port : ℕ) → SameDesk (find (λ d. d.port == port) x.desks) (find (λ d. d.port == port) y.desks)
    pub opened : HasOpened s.request_state y.local
    pub tells : TellsLane new y.local

  started : Starts p s.request_state x y → First
  started at =
      let none : OwnsNone (message_at y.local) = starting_none p x (message_at y.local) at.message in
      let still : new ≡ held
      = held_still p held y.local (not_stores y.local (message_at y.local) refl (not_lent (message_at y.local) none)) in
      record {
        named = names_at p s.fixed y y.local (named (message_at y.local) at.message);
        home = no_home (message_at y.local) none;
        slots = subst (λ h. SlotsKnown p h s y) (sym still)
            (same_known p held s s x y stands.slots part.node at.desks part.table (λ port. no_slots port y.local none ∙ sym (rests_slots port))
            (λ has. subst (λ h. CallHolds h y.local) still may.home) refl refl);
        desks = λ port.
            subst (λ ks. SameDesk (find (λ d. d.port == port) x.desks) (find (λ d. d.port == port) ks)) (sym at.desks)
            (itself (find (λ d. d.port == port) x.desks));
        opened = at.opened;
        tells = at.tells new;
      }

  taken : Takes x y → First
  taken at =
      let o = at.loan in
      let own = stands.slots.desks o.port at.slot
      (ap (has_number at.slot) at.there ∙ or-left (at.slot == at.slot) (has_number at.slot at.free) (eqb-refl at.slot)) in
      let picked : SlotsKnown p (held_with held o.port at.slot (message_in p o)) s (takes_slot x o (at.slot ∷ at.free))
      = picks_are_known p held s x o at.slot at.free stands.slots rests_slots at.there
      (subst (TakesNext p held s NoMessage) at.place may.next) in
      record {
        named = subst (λ l. PlaceStands p s.fixed y l × TakesFromPool p l) (sym at.place) (tt, tt);
        home = subst (λ l. LendsAtHome p y (message_at l)) (sym at.place) (own.0, own.1 ∙ sym part.node);
        slots = subst (λ h. SlotsKnown p h s y) (sym (ap (held_at p held) at.place))
            (same_known p (held_with held o.port at.slot (message_in p o)) s s (takes_slot x o (at.slot ∷ at.free)) y picked part.node at.desks part.table
            (λ port. ap (slots_in_call port) at.place)
            (λ has. subst (CallHolds (held_with held o.port at.slot (message_in p o))) (sym at.place) has) refl refl);
        desks = λ port.
            subst (λ ks. SameDesk (find (λ d. d.port == port) x.desks) (find (λ d. d.port == port) ks)) (sym at.desks)
            (same_at (picks o at.slot at.free) (record { port = λ d. refl; loans = λ d. refl }) o.port port x.desks);
        opened = subst (HasOpened s.request_state) (sym at.place) tt;
        tells = subst (TellsLane new) (sym at.place) tt;
      }

  first : Starts p s.request_state x y ⊎ Takes x y → First
  first (inl at) = started at
  first (inr at) = taken at

  -- no slot changes, or the free slot that the loan took
  one_slot : Starts p s.request_state x y ⊎ Takes x y → (new ≡ held) ⊎ OneSlot p held new x
  one_slot (inl at) =
      let none : OwnsNone (message_at y.local) = starting_none p x (message_at y.local) at.message in
      inl (held_still p held y.local (not_stores y.local (message_at y.local) refl (not_lent (message_at y.local) none)))
  one_slot (inr at) =
      inr (record {
        loan = at.loan;
        slot = at.slot;
        now = ap (held_at p held) at.place;
        free = ap (has_number at.slot) at.there ∙ or-left (at.slot == at.slot) (has_number at.slot at.free) (eqb-refl at.slot);
      })

  states : (e : Entry) → states_for p y e ≡ states_for p x e
  states e =
      ap (λ n. states_for p (record x { node = n; forgot = y.forgot }) e) part.node
      ∙ ap (λ fs. states_for p (record x { forgot = fs }) e) part.forgot

  far : (e : Entry) → IsInPool p e.sender e.slot ⊎ (e.slot ≡ slot_aside p x.node e) → IsInPool p e.sender e.slot ⊎ (e.slot ≡ slot_aside p y.node e)
  far e (inl has) = inl has
  far e (inr is) = inr (is ∙ ap (λ n. slot_aside p n e) (sym part.node))

  kept : First → NodeStands p new s y
  kept at = record {
    owns = subst (λ n. OwnsFirmly p n s.fixed s.request_state y.local) (sym part.node) (calls_begin_firmly p held w x call fits ready may.owns);
    names = record { entries = λ e there. stands.names.entries e (back e there); place = at.named.0 };
    name_slots = record { entries = λ e there. far e (stands.name_slots.entries e (back e there)); place = at.named.1 };
    in_pools = λ e there. inl (in_pool e (back e there));
    lends = at.home;
    slots = at.slots;
    at_desks = λ port some.
        let own = stands.at_desks port (same_there (find (λ d. d.port == port) x.desks) (find (λ d. d.port == port) y.desks) (at.desks port) some) in
        (own.0, own.1 ∙ sym part.node);
    uses = begins_keep_uses p x call stands.uses may.rests;
    loans = λ port own.
        stands.loans port (own.0, own.1 ∙ part.node)
        ∙ sym (same_loans (find (λ d. d.port == port) x.desks) (find (λ d. d.port == port) y.desks) (at.desks port));
    borrowed = own_parts_keep_borrowed p x y s.fixed part stands.borrowed;
    counted = λ v way there.
        ap (λ (bs : List Borrowed). list_any (λ (b : Borrowed). same_way b.way v) bs) part.borrowed ∙ stands.counted v way (there ∙ part.node);
    numbers = subst (λ (es : List Entry). AreDistinct (map (λ (e : Entry). e.number) es)) (sym part.table) stands.numbers;
    released = λ e has. subst (λ k. ReleasesOwnHandle s.fixed k e) (sym part.node) (stands.released e (back e has));
    states = λ e has pending.
        subst (Each (λ v. NamesNoOther (s.request_state v) e.request)) (sym (states e)) (stands.states e (back e has) pending);
    opened = at.opened;
    tells = at.tells;
  }

pub begins_keep_nodes : BeginsKeepNodes
begins_keep_nodes p held w x call fits stands ready may =
    kept p held w x call fits stands ready may (first p held w x call fits stands ready may (starts p w.state.request_state x call))

pub begins_change_one_slot : (p : Setting) (held : Pools) (w : World) (x : Seat) (call : WireCall) → LayoutFits p w.state.fixed → NodeStands p held w.state x
    → IsReady p held w x → MayBegin p held w.state x call → (held_at p held (begin p x call).local ≡ held) ⊎ OneSlot p held (held_at p held (begin p x call).local) x
begins_change_one_slot p held w x call fits stands ready may =
    one_slot p held w x call fits stands ready may (starts p w.state.request_state x call)

-- and it leaves nothing
leaves_none : (p : Setting) (x : Seat) (message : CallMessage) → Starting p x message → LeavesNothing message
leaves_none p x (Leaving e) has = absurd has
leaves_none p x other has = tt

pub begins_leave_nothing : (p : Setting) (x : Seat) (call : WireCall) → LeavesNothing (message_at (begin p x call).local)
begins_leave_nothing p x call = by_start (starts p (λ v. Closed) x call)
  where
    by_start : Starts p (λ v. Closed) x (begin p x call) ⊎ Takes x (begin p x call) → LeavesNothing (message_at (begin p x call).local)
    by_start (inl at) = leaves_none p x (message_at (begin p x call).local) at.message
    by_start (inr at) = subst (λ l. LeavesNothing (message_at l)) (sym at.place) tt
