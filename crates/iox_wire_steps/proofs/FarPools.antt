-- What is known of slots is so where other slots than those of the node's pools hold other messages, and where
-- its handles have the same slots in use.
use Rattle.std.specs.Prelude.{◌<◌, ◌≤◌, ◌||◌, ◌&&◌, nat_lt, find, is_some, map, not}
use Rattle.std.specs.List.{list_all}
use Rattle.std.specs.Option.{option_map_or}
use Rattle.std.proofs.Common.{◌≡◌, ℕ, true, ◌==◌, List, [], ◌∷◌, refl, ap, sym, subst, ◌∙◌, inl, inr}
use Rattle.iox_model.specs.declared.way.Way.{Way}
use Rattle.iox_model.specs.Handles.{is_own}
use Rattle.iox_model.specs.Maps.{AreDistinctWays, AreDistinct, has_number}
use Rattle.iox_model.specs.Messages.{Message}
use Rattle.iox_model.specs.States.{State}
use Rattle.iox_laws.proofs.WeaveLaws.MapLemmas.{eqb-refl}
use Rattle.iox_laws.proofs.WeaveLedger.Lists.{IsAmong, among-front, among-number, number-among}
use Rattle.iox_wire_moments.specs.MomentsOf.{Pools, serial_in}
use Rattle.iox_wire_locals.specs.declared.local.Ending.{Ending}
use Rattle.iox_wire_locals.specs.declared.local.Ending.TheVariants as endings
use Rattle.iox_wire_locals.specs.declared.local.Local.{Local}
use Rattle.iox_wire_locals.specs.declared.local.Local.TheVariants.{Ends, LendStores, ReceiveAsks}
use Rattle.iox_wire_locals.specs.declared.seat.Seat.{Seat}
use Rattle.iox_wire_locals.specs.declared.table.Desk.{Desk}
use Rattle.iox_wire_locals.specs.declared.table.NewLoan.{NewLoan}
use Rattle.iox_wire_locals.specs.declared.table.Recorded.{Recorded}
use Rattle.iox_wire_locals.specs.Known.{free_slots}
use Rattle.iox_wire_locals.specs.Tables.{Setting}
use Rattle.iox_wire_laws.specs.WireKeeping.PoolSlots.{PoolFits}
use Rattle.iox_wire_laws.specs.WireKeeping.Records.{RecordsFit, record_of, recorded_of, serials_on, slots_on}
use Rattle.iox_wire_laws.specs.WireKeeping.UsedSlots.{CallHolds, PortFits, slot_of_loan, slots_in_call, slots_used}
use Rattle.iox_wire_laws.specs.WireShows.OwnedCalls.{TellsLane}
use Rattle.iox_wire_laws.specs.WireHolding.SlotsKnown.{IsPortOfSeat, SlotsKnown}
use Rattle.iox_wire_pools.proofs.FoundUses.{on_way}
use Rattle.iox_wire_stands.specs.Following.{CallMessage, Lent, Sent, message_at}
use Rattle.iox_wire_stands.specs.Nodes.{HasOwnDesks, LendsAtHome, NodeStands}
use Rattle.iox_wire_stands.specs.StepLaws.{TakenStays}
use Rattle.iox_wire_stands.proofs.SlotsFollow.{HoldsOf, call_holds, desk_of_record, holds_of}
use Rattle.iox_wire_steps.specs.FarMessages.{AgreeInPools, FarSlotsMayChange}

-- two functions that agree on a list make the same of it
map_alike : (f g : ℕ → ℕ) (xs : List ℕ) → ((a : ℕ) → IsAmong a xs → f a ≡ g a) → map f xs ≡ map g xs
map_alike f g [] same = refl
map_alike f g (x ∷ xs) same = ap (λ y. y ∷ map f xs) (same x (inl refl)) ∙ ap (λ ys. g x ∷ ys) (map_alike f g xs (λ a later. same a (inr later)))

-- each port of a node has the same slots in use, at the same desks
pub record UsesSame (x y : Seat) : Type 0 where
  pub node : y.node ≡ x.node
  pub desks : y.desks ≡ x.desks
  pub used : (port : ℕ) → slots_used y port ≡ slots_used x port

module _ (p : Setting) (held new : Pools) (s : State) (x y : Seat) (known : SlotsKnown p held s x) (own_desks : HasOwnDesks p x) (same : UsesSame x y)
    (entries : (port : ℕ) → IsPortOfSeat p x port → list_all (λ e. not (is_own e.kind) || (e.sender == e.port)) y.table ≡ true)
    (call : (port : ℕ) → IsPortOfSeat p x port → CallHolds new y.local)
    (agree : AgreeInPools p x held new) where
  mine : (port : ℕ) → IsPortOfSeat p y port → IsPortOfSeat p x port
  mine port at = (at.0, at.1 ∙ same.node)

  free : (port : ℕ) → free_slots y port ≡ free_slots x port
  free port = ap (λ (ds : List Desk). option_map_or (λ d. d.free) (find (λ d. d.port == port) ds) []) same.desks

  recorded : (port : ℕ) → recorded_of y port ≡ recorded_of x port
  recorded port = ap (λ (ds : List Desk). option_map_or (λ d. d.recorded) (find (λ d. d.port == port) ds) []) same.desks

  serial : (port slot : ℕ) → IsPortOfSeat p x port → slot < (p.port port).pool → (new port slot).serial ≡ (held port slot).serial
  serial port slot own low = ap (λ (m : Message). m.serial) (agree port slot own low)

  used_low : (port slot : ℕ) → IsPortOfSeat p x port → has_number slot (slots_used x port) ≡ true → slot < (p.port port).pool
  used_low port slot own has = (known.pools port own).within slot has

  was_used : (port slot : ℕ) → has_number slot (slots_used y port) ≡ true → has_number slot (slots_used x port) ≡ true
  was_used port slot has = subst (λ slots. has_number slot slots ≡ true) (same.used port) has

  pool : (port : ℕ) → IsPortOfSeat p x port → PoolFits held x port (p.port port).pool → PoolFits new y port (p.port port).pool
  pool port own fit = record {
    within = λ slot has. fit.within slot (was_used port slot has);
    apart = λ i j has others also.
        let i_used = was_used port i has in let j_used = was_used port j others in
        fit.apart i j i_used j_used (sym (serial port i own (fit.within i i_used)) ∙ also ∙ serial port j own (fit.within j j_used));
    free_once = subst AreDistinct (sym (free port)) fit.free_once;
    free = λ slot. ap (has_number slot) (free port) ∙ fit.free slot
        ∙ ap (λ slots. nat_lt slot (p.port port).pool && not (has_number slot slots)) (sym (same.used port));
  }

  serials : (v : Way) → is_some (record_of v (recorded_of x v.sender)) ≡ true → serials_on new y v ≡ serials_on held x v
  serials v some =
      let own : IsPortOfSeat p x v.sender = own_desks v.sender (desk_of_record x v.sender v some) in
      ap (λ (rs : List Recorded). map (serial_in new v) (option_map_or (λ (r : Recorded). r.slots) (record_of v rs) [])) (recorded v.sender)
      ∙ map_alike (serial_in new v) (serial_in held v) (slots_on x v)
      (λ slot among. serial v.sender slot own (used_low v.sender slot own (among-number slot (slots_used x v.sender) (on_way x v slot among))))

  records : RecordsFit held s x → RecordsFit new s y
  records fit = record {
    told = λ v k some. let before = was_recorded v some in fit.told v k before ∙ ap (has_number k) (sym (serials v before));
    once = λ v some. let before = was_recorded v some in subst AreDistinct (sym (serials v before)) (fit.once v before);
  }
    where
      was_recorded : (v : Way) → is_some (record_of v (recorded_of y v.sender)) ≡ true → is_some (record_of v (recorded_of x v.sender)) ≡ true
      was_recorded v some = subst (λ rs. is_some (record_of v rs) ≡ true) (recorded v.sender) some

  port_fits : (port : ℕ) → IsPortOfSeat p x port → PortFits held s x port → PortFits new s y port
  port_fits port own fit = record {
    mine = fit.mine ∙ sym same.node;
    entries = entries port own;
    call = call port own;
    ways = ap (map (λ r. r.way)) (recorded port) ∙ fit.ways;
    apart = subst (λ rs. AreDistinctWays (map (λ r. r.way) rs)) (sym (recorded port)) fit.apart;
    from = ap (list_all (λ r. r.way.sender == port)) (recorded port) ∙ fit.from;
    records = records fit.records;
    counted = λ slot has.
        let before = was_used port slot has in
        subst (λ k. k ≤ s.fixed.loans port) (sym (serial port slot own (used_low port slot own before))) (fit.counted slot before);
  }

  pub known_far : SlotsKnown p new s y
  known_far = record {
    desks = λ port slot has. let own = known.desks port slot (ap (has_number slot) (sym (free port)) ∙ has) in (own.0, own.1 ∙ sym same.node);
    pools = λ port at. pool port (mine port at) (known.pools port (mine port at));
    ports = λ port at. port_fits port (mine port at) (known.ports port (mine port at));
    apart = λ port i j at low high also.
        known.apart port i j (mine port at) low high (sym (serial port i (mine port at) low) ∙ also ∙ serial port j (mine port at) high);
  }

-- ---- a node of which the same is so

abbrev NotLent : CallMessage → Type 0
NotLent (Lent o slot) = ⊥
NotLent other = Unit {0}

-- the slot of a loan in the making is in use by its call
lent_slot : (k o : NewLoan) (own slot : ℕ) → Lent k own ≡ Lent o slot → has_number slot (slot_of_loan o.port k.port true own) ≡ true
lent_slot k o own slot is =
    let loan : k ≡ o = (cc) in
    let same : own ≡ slot = (cc) in
    subst (λ (l : NewLoan). has_number slot (slot_of_loan o.port l.port true own) ≡ true) (sym loan)
    (subst (λ i. has_number slot (slot_of_loan o.port o.port true i) ≡ true) (sym same) (rw (eqb-refl o.port) (rw (eqb-refl slot) refl)))

lent_ended : (ending : Ending) (o : NewLoan) (slot : ℕ) → message_at (Ends ending) ≡ Lent o slot → has_number slot (slots_in_call o.port (Ends ending)) ≡ true
lent_ended (endings.Lends k own) o slot is = lent_slot k o own slot is
lent_ended ending o slot is = absurd (subst NotLent is tt)

lent_in_call : (local : Local) (o : NewLoan) (slot : ℕ) → message_at local ≡ Lent o slot → has_number slot (slots_in_call o.port local) ≡ true
lent_in_call (LendStores k own next) o slot is = lent_slot k o own slot is
lent_in_call (Ends ending) o slot is = lent_ended ending o slot is
lent_in_call local o slot is = absurd (subst NotLent is tt)

module _ (p : Setting) (held new : Pools) (s : State) (x : Seat) (agree : AgreeInPools p x held new) (taken : TakenStays held new (message_at x.local))
    (stands : NodeStands p held s x) where
  lent_used : (o : NewLoan) (slot : ℕ) → message_at x.local ≡ Lent o slot → has_number slot (slots_used x o.port) ≡ true
  lent_used o slot is =
      among-number slot (slots_used x o.port)
      (among-front slot (slots_in_call o.port x.local) _ (number-among slot (slots_in_call o.port x.local) (lent_in_call x.local o slot is)))

  still_holds : (message : CallMessage) → message_at x.local ≡ message → LendsAtHome p x message → HoldsOf held message → HoldsOf new message
  still_holds (Lent o slot) is home has =
      ap (λ (m : Message). m.serial) (agree o.port slot home ((stands.slots.pools o.port home).within slot (lent_used o slot is))) ∙ has
  still_holds (Sent e copied) is home has = has
  still_holds other is home has = tt

  -- what a call holds it holds by one of the node's ports, or it has none there
  call_now : (port : ℕ) → IsPortOfSeat p x port → CallHolds new x.local
  call_now port own =
      call_holds new x.local (still_holds (message_at x.local) refl stands.lends (holds_of held x.local (stands.slots.ports port own).call))

  tells : (local : Local) → x.local ≡ local → TellsLane held local → TellsLane new local
  tells (ReceiveAsks v w slot header left waiting) is has = has ∙ ap (λ (m : Message). m.lane) (sym (taken w slot (ap message_at is)))
  tells local is has = tt

  kept : NodeStands p new s x
  kept = record {
    owns = stands.owns;
    names = stands.names;
    name_slots = stands.name_slots;
    in_pools = stands.in_pools;
    lends = stands.lends;
    slots = known_far p held new s x x stands.slots stands.at_desks (record { node = refl; desks = refl; used = λ port. refl })
        (λ port own. (stands.slots.ports port own).entries) call_now agree;
    at_desks = stands.at_desks;
    uses = stands.uses;
    loans = stands.loans;
    borrowed = stands.borrowed;
    counted = stands.counted;
    numbers = stands.numbers;
    released = stands.released;
    states = stands.states;
    opened = stands.opened;
    tells = tells x.local refl stands.tells;
  }

pub far_slots_may_change : FarSlotsMayChange
far_slots_may_change p held new s x agree taken stands = kept p held new s x agree taken stands
