-- The slots that a node knows stay known over each access: by what it changes at the desks, and by
-- the message of the call.
use Rattle.std.specs.Prelude.{◌≤◌, ◌&&◌, ◌++◌, not, nat_lt, find, flat_map, is_some}
use Rattle.std.specs.Option.{option_map_or}
use Rattle.std.proofs.Common.{◌≡◌, ℕ, Bool, true, ◌==◌, List, [], ◌∷◌, Option, Some, None, refl, ap, sym, subst, ◌∙◌, true≢false}
use Rattle.iox_model.specs.declared.way.Way.{Way}
use Rattle.iox_model.specs.Maps.{has_number}
use Rattle.iox_model.specs.Moments.{Deliver, GetBack, Moment, moved}
use Rattle.iox_model.specs.Peers.{node_of_port, ways_from}
use Rattle.iox_model.specs.States.{Fixed, State}
use Rattle.iox_steps.specs.declared.side.QueueEvent.{QueueEvent}
use Rattle.iox_steps.specs.declared.side.QueueEvent.TheVariants.{HandOut, Learn, Publish}
use Rattle.iox_word_map.specs.WordMaps.{MessageQueue, ReturningQueue}
use Rattle.iox_laws.proofs.WeaveLaws.WholeLemmas.{moved-fixed}
use Rattle.iox_wire_moments.specs.MomentsOf.{Pools, serial_in}
use Rattle.iox_wire_locals.specs.declared.local.Ending.{Ending}
use Rattle.iox_wire_locals.specs.declared.local.Ending.TheVariants as endings
use Rattle.iox_wire_locals.specs.declared.local.Local.{Local}
use Rattle.iox_wire_locals.specs.declared.local.Local.TheVariants.{Ends, LendEmpties, LendStores, ReceivePops, ReleaseReturns, SendAsks, SendEmpties, SendEnds, SendEvicts, SendGetsBack, SendLooks, SendOpens, SendPushes}
use Rattle.iox_wire_locals.specs.declared.seat.Seat.{Seat}
use Rattle.iox_wire_locals.specs.declared.table.Desk.{Desk}
use Rattle.iox_wire_locals.specs.declared.table.Entry.{Entry}
use Rattle.iox_wire_locals.specs.declared.table.NewLoan.{NewLoan}
use Rattle.iox_wire_locals.specs.declared.table.Recorded.{Recorded}
use Rattle.iox_wire_locals.specs.Courses.{takes_slot}
use Rattle.iox_wire_locals.specs.Desks.{at_desk, delivers, gets_back}
use Rattle.iox_wire_locals.specs.NewLoans.{entry_in, message_in}
use Rattle.iox_wire_locals.specs.StateMoments.{moment_at}
use Rattle.iox_wire_locals.specs.StepLaws.{ReliesOn}
use Rattle.iox_wire_locals.specs.Steps.{accessed, advance, pop_finds, push_finds}
use Rattle.iox_wire_locals.specs.Tables.{Setting}
use Rattle.iox_wire_laws.specs.WireKeeping.OwnParts.{KeepsOwn}
use Rattle.iox_wire_laws.specs.WireKeeping.PoolSlots.{PoolFits}
use Rattle.iox_wire_laws.specs.WireKeeping.Records.{LeavesRecords, record_of, recorded_of, slots_on}
use Rattle.iox_wire_laws.specs.WireKeeping.UsedSlots.{CallHolds, PortFits, slot_of_loan, slots_held, slots_in_call, slots_used}
use Rattle.iox_wire_laws.proofs.WireKeeping.CountsKept.{steps_keep_own}
use Rattle.iox_wire_laws.specs.WireShows.OwnedCalls.{state_after}
use Rattle.iox_wire_laws.specs.WireHolding.Holding.{held_after, held_at, held_from, held_with}
use Rattle.iox_wire_laws.specs.WireHolding.SlotsKnown.{IsPortOfSeat, SlotsKnown}
use Rattle.iox_wire_laws.proofs.WireHolding.PickedSlots.{picks_are_known}
use Rattle.iox_wire_pools.specs.Uses.{AllUsesAreCounted}
use Rattle.iox_wire_pools.specs.UsesLaws.{FindsUsed, IsOut, MayDeliver}
use Rattle.iox_wire_pools.proofs.KnownSlots.{deliveries_are_known, get_backs_are_known}
use Rattle.iox_wire_stands.specs.Following.{CallMessage, Delivered, DeskChange, Dropped, NodeContinues, GotBack, IsOfEntry, IsReturning, Leaving, Lent, NoMessage, MayLetGo, OfEntry, Sent, Taken, Unchanged, changed, desk_change, drops, keeps, lets_go, message_at, picks_slot, popped_back, delivers_published, pushed_out, puts_aside, sends_loan, takes, TakesOn}
use Rattle.iox_wire_stands.specs.FollowingLaws.{AccessesKeepSlots, DeliversNew, IsMomentOf, LeavesAll, TakesNext}
use Rattle.iox_wire_stands.specs.Nodes.{HasOwnDesks}
use Rattle.iox_wire_stands.proofs.Follows.{accesses_follow}
use Rattle.iox_wire_stands.proofs.MomentsFollow.{desks_follow_moments}

-- ---- what the message tells

abbrev slots_of : ℕ → CallMessage → List ℕ
slots_of port (Lent o slot) = slot_of_loan port o.port true slot
slots_of port (Sent e copied) = slot_of_loan port e.port copied e.slot
slots_of port other = []

ended_slots : (port : ℕ) (ending : Ending) → slots_in_call port (Ends ending) ≡ slots_of port (message_at (Ends ending))
ended_slots port (endings.Lends o slot) = refl
ended_slots port (endings.Sends e copied count) = refl
ended_slots port (endings.FailsToSend e copied r) = refl
ended_slots port ending = refl

in_call : (port : ℕ) (local : Local) → slots_in_call port local ≡ slots_of port (message_at local)
in_call port (Ends ending) = ended_slots port ending
in_call port local = refl

abbrev pub HoldsOf : Pools → CallMessage → Type 0
HoldsOf held (Lent o slot) = (held o.port slot).serial ≡ o.serial
HoldsOf held (Sent e copied) = e.sender ≡ e.port
HoldsOf held other = Unit {0}

ended_holds : (held : Pools) (ending : Ending) → CallHolds held (Ends ending) → HoldsOf held (message_at (Ends ending))
ended_holds held (endings.Lends o slot) has = has
ended_holds held (endings.Sends e copied count) has = has
ended_holds held (endings.FailsToSend e copied r) has = has
ended_holds held ending has = tt

pub holds_of : (held : Pools) (local : Local) → CallHolds held local → HoldsOf held (message_at local)
holds_of held (Ends ending) has = ended_holds held ending has
holds_of held (LendStores o slot next) has = has
holds_of held (SendAsks d) has = has
holds_of held (SendEmpties d w place left) has = has
holds_of held (SendLooks d w place left full) has = has
holds_of held (SendOpens d w left full) has = has
holds_of held (SendPushes d last w place left count) has = has
holds_of held (SendEvicts d w place left count) has = has
holds_of held (SendGetsBack d w place left count) has = has
holds_of held (SendEnds d last count) has = has
holds_of held local has = tt

ended_call : (held : Pools) (ending : Ending) → HoldsOf held (message_at (Ends ending)) → CallHolds held (Ends ending)
ended_call held (endings.Lends o slot) has = has
ended_call held (endings.Sends e copied count) has = has
ended_call held (endings.FailsToSend e copied r) has = has
ended_call held ending has = tt

pub call_holds : (held : Pools) (local : Local) → HoldsOf held (message_at local) → CallHolds held local
call_holds held (Ends ending) has = ended_call held ending has
call_holds held (LendStores o slot next) has = has
call_holds held (SendAsks d) has = has
call_holds held (SendEmpties d w place left) has = has
call_holds held (SendLooks d w place left full) has = has
call_holds held (SendOpens d w left full) has = has
call_holds held (SendPushes d last w place left count) has = has
call_holds held (SendEvicts d w place left count) has = has
call_holds held (SendGetsBack d w place left count) has = has
call_holds held (SendEnds d last count) has = has
call_holds held local has = tt

-- ---- a node with the same desks and entries

module _ (p : Setting) (held : Pools) (s t : State) (x y : Seat) (known : SlotsKnown p held s x) (node : y.node ≡ x.node) (desks : y.desks ≡ x.desks)
    (table : y.table ≡ x.table) (call : (port : ℕ) → slots_in_call port y.local ≡ slots_in_call port x.local)
    (holds : CallHolds held x.local → CallHolds held y.local) (fixed : t.fixed ≡ s.fixed) (delivered : t.delivered ≡ s.delivered) where
  abbrev z : Seat
  z = record x { node = y.node; table = y.table; desks = y.desks }

  at_z : SlotsKnown p held s z
  at_z =
      subst (λ n. SlotsKnown p held s (record x { node = n; table = y.table; desks = y.desks })) (sym node)
      (subst (λ es. SlotsKnown p held s (record x { table = es; desks = y.desks })) (sym table)
      (subst (λ ds. SlotsKnown p held s (record x { desks = ds })) (sym desks) known))

  used : (port : ℕ) → slots_used y port ≡ slots_used z port
  used port = ap (λ slots. slots ++ (slots_held y port ++ flat_map (λ r. r.slots) (recorded_of y port))) (call port)

  pool : (port : ℕ) → PoolFits held z port (p.port port).pool → PoolFits held y port (p.port port).pool
  pool port fit = record {
    within = λ slot has. fit.within slot (ap (has_number slot) (sym (used port)) ∙ has);
    apart = λ i j has also. fit.apart i j (ap (has_number i) (sym (used port)) ∙ has) (ap (has_number j) (sym (used port)) ∙ also);
    free_once = fit.free_once;
    free = λ slot. fit.free slot ∙ ap (λ slots. nat_lt slot (p.port port).pool && not (has_number slot slots)) (sym (used port));
  }

  port_fits : (port : ℕ) → PortFits held s z port → PortFits held t y port
  port_fits port fit = record {
    mine = ap (λ (f : Fixed). node_of_port f port) fixed ∙ fit.mine;
    entries = fit.entries;
    call = holds fit.call;
    ways = fit.ways ∙ ap (λ (f : Fixed). ways_from f port) (sym fixed);
    apart = fit.apart;
    from = fit.from;
    records = record {
      told = λ w k some. ap (λ (d : Way → ℕ → Bool). d w k) delivered ∙ fit.records.told w k some;
      once = fit.records.once;
    };
    counted = λ slot has.
        subst (λ (f : Fixed). (held port slot).serial ≤ f.loans port) (sym fixed)
        (fit.counted slot (ap (has_number slot) (sym (used port)) ∙ has));
  }

  pub same_known : SlotsKnown p held t y
  same_known = record {
    desks = at_z.desks;
    pools = λ port own. pool port (at_z.pools port own);
    ports = λ port own. port_fits port (at_z.ports port own);
    apart = at_z.apart;
  }

-- ---- what slots hold

abbrev pub NotStores : Local → Type 0
NotStores (LendStores o slot next) = ⊥
NotStores local = Unit {0}

abbrev pub NotLent : CallMessage → Type 0
NotLent (Lent o slot) = ⊥
NotLent other = Unit {0}

pub not_stores : (local : Local) (message : CallMessage) → message_at local ≡ message → NotLent message → NotStores local
not_stores (LendStores o slot next) _ is not = subst NotLent (sym is) not
not_stores local other is not = tt

held_same : (p : Setting) (held : Pools) (new : Local) → NotStores new → held_at p held new ≡ held
held_same p held (LendStores o slot next) not = absurd not
held_same p held new not = refl

-- where the message stays, or comes from none, no slot changes
pub held_stays : (p : Setting) (held : Pools) (s : State) (x : Seat) (seen : ℕ) (old new : Local) → ReliesOn p x s held old seen → message_at new ≡ message_at old
    → held_from p held old new ≡ held
held_stays p held s x seen (LendStores o slot next) new relies is = refl
held_stays p held s x seen (Ends ending) new relies is = absurd relies
held_stays p held s x seen old new relies is = held_same p held new (not_stores new (message_at old) is tt)

pub held_not : (p : Setting) (held : Pools) (old new : Local) → NotStores new → held_from p held old new ≡ held
held_not p held (LendStores o slot next) new not = refl
held_not p held old new not = held_same p held new not

abbrev pub NotNone : CallMessage → Type 0
NotNone NoMessage = ⊥
NotNone other = Unit {0}

pub held_picked : (p : Setting) (held : Pools) (old : Local) (o : NewLoan) (slot : ℕ) → message_at old ≡ NoMessage
    → held_from p held old (LendStores o slot 0) ≡ held_with held o.port slot (message_in p o)
held_picked p held (LendStores k own next) o slot is = absurd (subst NotNone is tt)
held_picked p held old o slot is = refl

-- ---- an access

record Same (s t : State) : Type 0 where
  pub fixed : t.fixed ≡ s.fixed
  pub delivered : t.delivered ≡ s.delivered

quiet : (s : State) (m : Option Moment) → LeavesAll m → Same s (state_after s m)
quiet s None leaves = record { fixed = refl; delivered = refl }
quiet s (Some m) leaves = record { fixed = moved-fixed s m; delivered = same m leaves }
  where
    same : (m : Moment) → LeavesRecords m → (moved s m).delivered ≡ s.delivered
    same (Deliver w m) leaves = absurd leaves
    same (GetBack w k) leaves = absurd leaves
    same m leaves = refl

desk_of_slot : (x : Seat) (y : Way) (slot : ℕ) → has_number slot (slots_on x y) ≡ true → is_some (find (λ d. d.port == y.sender) x.desks) ≡ true
desk_of_slot x y slot has = by_desk (find (λ d. d.port == y.sender) x.desks) has
  where
    by_desk : (d : Option Desk)
        → has_number slot (option_map_or (λ (r : Recorded). r.slots) (record_of y (option_map_or (λ (k : Desk). k.recorded) d [])) []) ≡ true
        → is_some d ≡ true
    by_desk (Some d) has = refl
    by_desk None has = absurd (true≢false (sym has))

pub desk_of_record : (x : Seat) (port : ℕ) (y : Way) → is_some (record_of y (recorded_of x port)) ≡ true → is_some (find (λ d. d.port == port) x.desks) ≡ true
desk_of_record x port y some = by_desk (find (λ d. d.port == port) x.desks) some
  where
    by_desk : (d : Option Desk) → is_some (record_of y (option_map_or (λ (k : Desk). k.recorded) d [])) ≡ true → is_some d ≡ true
    by_desk (Some d) some = refl
    by_desk None some = absurd (true≢false (sym some))

-- what the desk change relies on
abbrev Uses : Seat → DeskChange → Type 0
Uses x (GotBack port w slot) = IsOut x port w slot
Uses x (Delivered port w slot) = MayDeliver x port w slot
Uses x Unchanged = Unit {0}

popped : (x : Seat) (port : ℕ) (w : Way) (event : QueueEvent) → ((slot : ℕ) → event ≡ HandOut slot → IsOut x port w slot) → Uses x (popped_back port w event)
popped x port w (HandOut slot) finds = finds slot refl
popped x port w event finds = tt

learned : (x : Seat) (port : ℕ) (w : Way) (event : QueueEvent) → ((slot : ℕ) → event ≡ Learn slot → IsOut x port w slot) → Uses x (pushed_out port w event)
learned x port w (Learn slot) finds = finds slot refl
learned x port w event finds = tt

delivered : (x : Seat) (port : ℕ) (w : Way) (event : QueueEvent) → ((slot : ℕ) → event ≡ Publish slot → MayDeliver x port w slot)
    → Uses x (delivers_published port w event)
delivered x port w (Publish slot) finds = finds slot refl
delivered x port w event finds = tt

uses : (p : Setting) (x : Seat) (local : Local) (seen : ℕ) → FindsUsed p x local seen → Uses x (desk_change p local seen)
uses p x (LendEmpties o w place left) seen finds = popped x o.port w (pop_finds p (ReturningQueue w) place seen) finds
uses p x (SendEmpties d w place left) seen finds = popped x d.loan.port w (pop_finds p (ReturningQueue w) place seen) finds
uses p x (SendPushes d last w place left count) seen finds = delivered x d.loan.port w (push_finds p (MessageQueue w) place seen) finds
uses p x (SendGetsBack d w place left count) seen finds = learned x d.loan.port w (push_finds p (MessageQueue w) place seen) finds
uses p x local seen finds = tt

pub none_taken : (p : Setting) (local : Local) (seen : ℕ) (w : Way) (slot : ℕ) → TakesOn p local seen w slot → message_at local ≡ NoMessage
none_taken p (ReceivePops v y more place left waiting) seen w slot took = refl
none_taken p local seen w slot took = absurd took

of_entry : (port : ℕ) (message : CallMessage) (e : Entry) → IsOfEntry message e → slots_of port message ≡ []
of_entry port (OfEntry k) e is = refl
of_entry port (Leaving k) e is = refl
of_entry port other e is = absurd is

returning : (port : ℕ) (local : Local) (e : Entry) → IsReturning local e → slots_in_call port local ≡ []
returning port (ReleaseReturns k place) e is = refl
returning port local e is = absurd is

no_slots : (port : ℕ) (message : CallMessage) → MayLetGo message → slots_of port message ≡ []
no_slots port (OfEntry e) may = refl
no_slots port (Taken w slot) may = refl
no_slots port other may = absurd may

module _ (p : Setting) (held : Pools) (s : State) (x : Seat) (seen : ℕ) (known : SlotsKnown p held s x) (own : HasOwnDesks p x) (all : AllUsesAreCounted p x)
    (relies : ReliesOn p (accessed x) s held x.local seen) where
  abbrev y : Seat
  y = advance p (accessed x) x.local seen

  part : KeepsOwn x y
  part = steps_keep_own p x seen

  same_slots : message_at y.local ≡ message_at x.local → (port : ℕ) → slots_in_call port y.local ≡ slots_in_call port x.local
  same_slots is port = in_call port y.local ∙ ap (slots_of port) is ∙ sym (in_call port x.local)

  same_holds : message_at y.local ≡ message_at x.local → CallHolds held x.local → CallHolds held y.local
  same_holds is has = call_holds held y.local (subst (HoldsOf held) (sym is) (holds_of held x.local has))

  by_change : (change : DeskChange) (m : Option Moment) → Uses x change → IsMomentOf held change m → DeliversNew held s change
      → y.desks ≡ (changed change (accessed x)).desks → message_at y.local ≡ message_at x.local → SlotsKnown p held (state_after s m) y
  by_change Unchanged m used leaves fresh desks is =
      let q = quiet s m leaves in
      same_known p held s (state_after s m) x y known part.node desks part.table (same_slots is) (same_holds is) q.fixed q.delivered
  by_change (GotBack port w slot) m out moment fresh desks is =
      let mine : IsPortOfSeat p x w.sender = own w.sender (desk_of_slot x w slot out.1) in
      let z : Seat = at_desk x w.sender (gets_back w slot) in
      let k : SlotsKnown p held (moved s (GetBack w (serial_in held w slot))) z = get_backs_are_known p held s x w slot known all mine (refl, out.1) in
      subst (λ n. SlotsKnown p held (state_after s n) y) (sym moment)
      (same_known p held (moved s (GetBack w (serial_in held w slot))) (moved s (GetBack w (serial_in held w slot))) z y k part.node
      (desks ∙ ap (λ n. (at_desk x n (gets_back w slot)).desks) (sym out.0)) part.table (same_slots is) (same_holds is) refl refl)
  by_change (Delivered port w slot) m may moment fresh desks is =
      let there = subst (λ n. is_some (record_of w (recorded_of x n)) ≡ true) (sym may.0) may.1 in
      let mine : IsPortOfSeat p x w.sender = own w.sender (desk_of_record x w.sender w there) in
      let z : Seat = at_desk x w.sender (delivers w slot) in
      let k : SlotsKnown p held (moved s (Deliver w (held w.sender slot))) z
      = deliveries_are_known p held s x w slot known all mine
      (refl, there, subst (λ n. has_number slot (slots_used x n) ≡ true) (sym may.0) may.2) fresh in
      subst (λ n. SlotsKnown p held (state_after s n) y) (sym moment)
      (same_known p held (moved s (Deliver w (held w.sender slot))) (moved s (Deliver w (held w.sender slot))) z y k part.node
      (desks ∙ ap (λ n. (at_desk x n (delivers w slot)).desks) (sym may.0)) part.table (same_slots is) (same_holds is) refl refl)

  module _ (finds : FindsUsed p x x.local seen) (fresh : DeliversNew held s (desk_change p x.local seen))
      (next : TakesNext p held s (message_at x.local) y.local) where
    abbrev m : Option Moment
    m = moment_at p held x.local seen

    abbrev Goal : Type 0
    Goal = SlotsKnown p (held_after p x seen held) (state_after s m) y

    moment : IsMomentOf held (desk_change p x.local seen) m
    moment = desks_follow_moments p held s (accessed x) x.local seen relies

    still_quiet : desk_change p x.local seen ≡ Unchanged → Same s (state_after s m)
    still_quiet still = quiet s m (subst (λ c. IsMomentOf held c m) still moment)

    with_held : held_after p x seen held ≡ held → SlotsKnown p held (state_after s m) y → Goal
    with_held same k = subst (λ h. SlotsKnown p h (state_after s m) y) (sym same) k

    goes : (message : CallMessage) → y.desks ≡ x.desks → desk_change p x.local seen ≡ Unchanged → message_at y.local ≡ message → NotLent message
        → ((port : ℕ) → slots_of port message ≡ slots_in_call port x.local) → HoldsOf held message → Goal
    goes message desks still is not slots has =
        let q = still_quiet still in
        with_held (held_not p held x.local y.local (not_stores y.local message is not))
        (same_known p held s (state_after s m) x y known part.node desks part.table
        (λ port. in_call port y.local ∙ ap (slots_of port) is ∙ slots port) (λ before. call_holds held y.local (subst (HoldsOf held) (sym is) has)) q.fixed
        q.delivered)

    by_case : NodeContinues p (accessed x) x.local seen y → Goal
    by_case (keeps desks message) =
        with_held (held_stays p held s (accessed x) seen x.local y.local relies message)
        (by_change (desk_change p x.local seen) m (uses p x x.local seen finds) moment fresh desks message)
    by_case (lets_go desks still message may) =
        goes NoMessage desks still message tt (λ port. sym (in_call port x.local ∙ no_slots port (message_at x.local) may)) tt
    by_case (puts_aside e desks still returns message) =
        goes (Leaving e) desks still message tt (λ port. sym (returning port x.local e returns)) tt
    by_case (drops e desks still of message) =
        goes (Dropped e) desks still message tt (λ port. sym (in_call port x.local ∙ of_entry port (message_at x.local) e of)) tt
    by_case (takes w slot desks still message took) =
        goes (Taken w slot) desks still message tt (λ port. sym (in_call port x.local ∙ ap (slots_of port) (none_taken p x.local seen w slot took))) tt
    by_case (sends_loan o slot desks still before copies message) =
        goes (Sent (entry_in o slot) true) desks still message tt (λ port. sym (in_call port x.local ∙ ap (slots_of port) before)) refl
    by_case (picks_slot o slot free desks still place before there lends) =
        let new : Pools = held_with held o.port slot (message_in p o) in
        let z : Seat = takes_slot (accessed x) o (slot ∷ free) in
        let k : SlotsKnown p held s (accessed x) = same_known p held s s x (accessed x) known refl refl refl (λ port. refl) (λ has. has) refl refl in
        let is_next = subst (λ l. TakesNext p held s NoMessage l) place (subst (λ b. TakesNext p held s b y.local) before next) in
        let picked : SlotsKnown p new s z
        = picks_are_known p held s (accessed x) o slot free k (λ port. in_call port x.local ∙ ap (slots_of port) before) there is_next in
        let q = still_quiet still in
        subst (λ h. SlotsKnown p h (state_after s m) y) (sym (ap (held_from p held x.local) place ∙ held_picked p held x.local o slot before))
        (same_known p new s (state_after s m) z y picked part.node desks part.table (λ port. ap (slots_in_call port) place)
        (λ has. subst (CallHolds new) (sym place) has) q.fixed q.delivered)

pub accesses_keep_slots : AccessesKeepSlots
accesses_keep_slots p held s x seen known own all finds relies fresh next =
    by_case p held s x seen known own all relies finds fresh next (accesses_follow p (accessed x) seen)
