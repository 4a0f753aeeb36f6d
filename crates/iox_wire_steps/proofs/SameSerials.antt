-- What is known of slots depends only on the serials in them: a payload may change.
use Rattle.std.specs.Prelude.{◌≤◌, map}
use Rattle.std.proofs.Common.{◌≡◌, ℕ, Bool, true, false, if◌then◌else◌, List, refl, ap, sym, subst, ◌∙◌}
use Rattle.iox_model.specs.declared.way.Way.{Way}
use Rattle.iox_model.specs.Maps.{AreDistinct, has_number}
use Rattle.iox_model.specs.States.{State}
use Rattle.iox_wire_moments.specs.MomentsOf.{Pools, serial_in}
use Rattle.iox_wire_locals.specs.declared.local.Ending.{Ending}
use Rattle.iox_wire_locals.specs.declared.local.Ending.TheVariants as endings
use Rattle.iox_wire_locals.specs.declared.seat.Seat.{Seat}
use Rattle.iox_wire_locals.specs.declared.table.Entry.{Entry}
use Rattle.iox_wire_locals.specs.NewLoans.{entry_in}
use Rattle.iox_wire_locals.specs.Tables.{Setting}
use Rattle.iox_wire_laws.specs.WireKeeping.PoolSlots.{PoolFits}
use Rattle.iox_wire_laws.specs.WireKeeping.Records.{RecordsFit, slots_on}
use Rattle.iox_wire_laws.specs.WireKeeping.UsedSlots.{CallHolds, PortFits}
use Rattle.iox_wire_laws.specs.WireKeeping.Writes.{is_slot_of, with_payload}
use Rattle.iox_wire_laws.specs.WireHolding.Holding.{held_ended}
use Rattle.iox_wire_laws.specs.WireHolding.SlotsKnown.{SlotsKnown}

-- each slot holds a message of the serial that it had
abbrev pub SameSerials : Pools → Pools → Type 0
SameSerials held new = (port slot : ℕ) → (new port slot).serial ≡ (held port slot).serial

with_payload_same : (held : Pools) (e : Entry) (words : List ℕ) → SameSerials held (with_payload held e words)
with_payload_same held e words port slot = by_case (is_slot_of e port slot)
  where
    by_case : (b : Bool) → (if b then record (held port slot) { payload = words } else held port slot).serial ≡ (held port slot).serial
    by_case true = refl
    by_case false = refl

-- the end of a call changes a payload at most
pub ended_same : (held : Pools) (payload : List ℕ) (ending : Ending) → SameSerials held (held_ended held payload ending)
ended_same held payload (endings.Lends o slot) port j = with_payload_same held (entry_in o slot) payload port j
ended_same held payload (endings.Fills e words) port j = with_payload_same held e words port j
ended_same held payload ending port j = refl

module _ (p : Setting) (held new : Pools) (s : State) (x : Seat) (same : SameSerials held new) (call : CallHolds new x.local) (known : SlotsKnown p held s x) where
  apart : (port i j : ℕ) → (new port i).serial ≡ (new port j).serial → (held port i).serial ≡ (held port j).serial
  apart port i j also = sym (same port i) ∙ also ∙ same port j

  pool_fits : (port pool : ℕ) → PoolFits held x port pool → PoolFits new x port pool
  pool_fits port pool fit = record {
    within = fit.within;
    apart = λ i j has others also. fit.apart i j has others (apart port i j also);
    free_once = fit.free_once;
    free = fit.free;
  }

  serials : (y : Way) → serial_in new y ≡ serial_in held y
  serials y = λ i slot. same y.sender slot i

  records : RecordsFit held s x → RecordsFit new s x
  records fit = record {
    told = λ y k some. fit.told y k some ∙ ap (λ (f : ℕ → ℕ). has_number k (map f (slots_on x y))) (sym (serials y));
    once = λ y some. subst (λ (f : ℕ → ℕ). AreDistinct (map f (slots_on x y))) (sym (serials y)) (fit.once y some);
  }

  port_fits : (port : ℕ) → PortFits held s x port → PortFits new s x port
  port_fits port fit = record {
    mine = fit.mine;
    entries = fit.entries;
    call = call;
    ways = fit.ways;
    apart = fit.apart;
    from = fit.from;
    records = records fit.records;
    counted = λ slot has. subst (λ k. k ≤ s.fixed.loans port) (sym (same port slot)) (fit.counted slot has);
  }

  pub known_too : SlotsKnown p new s x
  known_too = record {
    desks = known.desks;
    pools = λ port own. pool_fits port (p.port port).pool (known.pools port own);
    ports = λ port own. port_fits port (known.ports port own);
    apart = λ port i j own low high also. known.apart port i j own low high (apart port i j also);
  }
