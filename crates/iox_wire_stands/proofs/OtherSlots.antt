-- What is so of a node where a slot of another node's port holds another message.
use Rattle.std.specs.Prelude.{◌≤◌, is_some, map}
use Rattle.std.proofs.Common.{◌≡◌, ℕ, true, refl, ap, sym, subst, ◌∙◌}
use Rattle.iox_model.specs.declared.way.Way.{Way}
use Rattle.iox_model.specs.Maps.{AreDistinct, has_number}
use Rattle.iox_model.specs.Messages.{Message}
use Rattle.iox_model.specs.States.{State}
use Rattle.iox_wire_moments.specs.MomentsOf.{Pools, serial_in}
use Rattle.iox_wire_locals.specs.declared.local.Local.{Local}
use Rattle.iox_wire_locals.specs.declared.local.Local.TheVariants.{ReceiveAsks}
use Rattle.iox_wire_locals.specs.declared.seat.Seat.{Seat}
use Rattle.iox_wire_locals.specs.Tables.{Setting}
use Rattle.iox_wire_laws.specs.WireKeeping.PoolSlots.{PoolFits}
use Rattle.iox_wire_laws.specs.WireKeeping.Records.{RecordsFit, record_of, recorded_of, serials_on, slots_on}
use Rattle.iox_wire_laws.specs.WireKeeping.UsedSlots.{PortFits}
use Rattle.iox_wire_laws.specs.WireShows.OwnedCalls.{TellsLane}
use Rattle.iox_wire_laws.specs.WireHolding.SlotsKnown.{IsPortOfSeat, SlotsKnown}
use Rattle.iox_wire_stands.specs.Following.{CallMessage, Lent, Sent, message_at}
use Rattle.iox_wire_stands.specs.Nodes.{LendsAtHome, NodeStands}
use Rattle.iox_wire_stands.specs.StepLaws.{OtherSlotsMayChange, TakenStays}
use Rattle.iox_wire_stands.proofs.SlotsFollow.{HoldsOf, call_holds, desk_of_record, holds_of}

module _ (p : Setting) (held new : Pools) (s : State) (x : Seat) (same : (port slot : ℕ) → IsPortOfSeat p x port → new port slot ≡ held port slot)
    (taken : TakenStays held new (message_at x.local)) (stands : NodeStands p held s x) where
  serial : (port slot : ℕ) → IsPortOfSeat p x port → (new port slot).serial ≡ (held port slot).serial
  serial port slot own = ap (λ (m : Message). m.serial) (same port slot own)

  apart : (port i j : ℕ) → IsPortOfSeat p x port → (new port i).serial ≡ (new port j).serial → (held port i).serial ≡ (held port j).serial
  apart port i j own also = sym (serial port i own) ∙ also ∙ serial port j own

  pool : (port : ℕ) → IsPortOfSeat p x port → PoolFits held x port (p.port port).pool → PoolFits new x port (p.port port).pool
  pool port own fit = record {
    within = fit.within;
    apart = λ i j has others also. fit.apart i j has others (apart port i j own also);
    free_once = fit.free_once;
    free = fit.free;
  }

  still_holds : (message : CallMessage) → LendsAtHome p x message → HoldsOf held message → HoldsOf new message
  still_holds (Lent o slot) home has = serial o.port slot home ∙ has
  still_holds (Sent e copied) home has = has
  still_holds other home has = tt

  serials : (y : Way) → is_some (record_of y (recorded_of x y.sender)) ≡ true → serials_on new x y ≡ serials_on held x y
  serials y some =
      let own : IsPortOfSeat p x y.sender = stands.at_desks y.sender (desk_of_record x y.sender y some) in
      let alike : serial_in new y ≡ serial_in held y = λ i slot. serial y.sender slot own i in
      ap (λ (f : ℕ → ℕ). map f (slots_on x y)) alike

  records : RecordsFit held s x → RecordsFit new s x
  records fit = record {
    told = λ y k some. fit.told y k some ∙ ap (has_number k) (sym (serials y some));
    once = λ y some. subst AreDistinct (sym (serials y some)) (fit.once y some);
  }

  port_fits : (port : ℕ) → IsPortOfSeat p x port → PortFits held s x port → PortFits new s x port
  port_fits port own fit = record {
    mine = fit.mine;
    entries = fit.entries;
    call = call_holds new x.local (still_holds (message_at x.local) stands.lends (holds_of held x.local fit.call));
    ways = fit.ways;
    apart = fit.apart;
    from = fit.from;
    records = records fit.records;
    counted = λ slot has. subst (λ k. k ≤ s.fixed.loans port) (sym (serial port slot own)) (fit.counted slot has);
  }

  slots : SlotsKnown p new s x
  slots = record {
    desks = stands.slots.desks;
    pools = λ port own. pool port own (stands.slots.pools port own);
    ports = λ port own. port_fits port own (stands.slots.ports port own);
    apart = λ port i j own low others also. stands.slots.apart port i j own low others (apart port i j own also);
  }

  tells : (local : Local) → x.local ≡ local → TellsLane held local → TellsLane new local
  tells (ReceiveAsks v w slot header left waiting) is has =
      has ∙ ap (λ (m : Message). m.lane) (sym (taken w slot (ap message_at is)))
  tells local is has = tt

  kept : NodeStands p new s x
  kept = record {
    owns = stands.owns;
    names = stands.names;
    name_slots = stands.name_slots;
    in_pools = stands.in_pools;
    lends = stands.lends;
    slots = slots;
    at_desks = stands.at_desks;
    uses = stands.uses;
    loans = stands.loans;
    borrowed = stands.borrowed;
    counted = stands.counted;
    numbers = stands.numbers;
    released = stands.released;
    states = stands.states;
    opened = stands.opened;
    tells = tells x.local refl stands.tells;
  }

pub other_slots_may_change : OtherSlotsMayChange
other_slots_may_change p held new s x same taken stands = kept p held new s x same taken stands
