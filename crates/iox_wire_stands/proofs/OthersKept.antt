-- What is so of a living node stays so as another node makes a beat.
use Rattle.std.specs.Prelude.{◌≤◌, find, is_some}
use Rattle.std.specs.Option.{option_map_or}
use Rattle.std.proofs.Common.{◌≡◌, ℕ, true, false, ◌==◌, [], Option, Some, None, refl, ap, sym, subst, ◌∙◌, true≢false}
use Rattle.iox_model.specs.declared.way.Way.{Way}
use Rattle.iox_model.specs.Joins.{not_living}
use Rattle.iox_model.specs.Peers.{node_of_port, ways_from}
use Rattle.iox_model.specs.Weaves.{Beat, IsBeat, World}
use Rattle.iox_laws.specs.WeaveLaws.Laws.{node_of_beat}
use Rattle.iox_laws.specs.WeaveWorlds.Worlds.{IsReachable}
use Rattle.iox_wire_moments.specs.MomentsOf.{Pools}
use Rattle.iox_wire_locals.specs.declared.seat.Seat.{Seat}
use Rattle.iox_wire_locals.specs.declared.table.Desk.{Desk}
use Rattle.iox_wire_locals.specs.declared.table.Entry.{Entry}
use Rattle.iox_wire_locals.specs.BeginLaws.{Counts}
use Rattle.iox_wire_locals.specs.Tables.{Setting}
use Rattle.iox_wire_laws.specs.WireKeeping.Readiness.{ShowsDoing}
use Rattle.iox_wire_laws.specs.WireKeeping.Records.{RecordsFit, record_of, recorded_of}
use Rattle.iox_wire_laws.specs.WireKeeping.UsedSlots.{PortFits}
use Rattle.iox_wire_laws.specs.WireOwners.Releases.{ReleasesOwnHandle}
use Rattle.iox_wire_laws.specs.WireRegions.OwnedBegins.{LayoutFits}
use Rattle.iox_wire_laws.specs.WireHolding.SlotsKnown.{IsPortOfSeat, SlotsKnown}
use Rattle.iox_wire_laws.proofs.WireHolding.OthersNames.{others_leave_names}
use Rattle.iox_wire_laws.proofs.WireOwners.FirmOwners.{others_leave_firm}
use Rattle.iox_wire_laws.proofs.WireOwners.SentStates.{others_leave_opened}
use Rattle.iox_wire_laws.proofs.WireOwners.Releases.{others_leave_states}
use Rattle.iox_wire_stands.specs.Nodes.{NodeStands}
use Rattle.iox_wire_stands.specs.Others.{OthersLeaveNodes}
use Rattle.iox_wire_stands.specs.Stands.{OwnersAre}
use Rattle.iox_wire_stands.proofs.OthersSame.{borrowed_same, delivered_same, loans_same, node_same, ports_same}

-- a way that is recorded is recorded at a desk
at_desk : (x : Seat) (y : Way) → is_some (record_of y (recorded_of x y.sender)) ≡ true → is_some (find (λ d. d.port == y.sender) x.desks) ≡ true
at_desk x y some = by_desk (find (λ d. d.port == y.sender) x.desks) some
  where
    by_desk : (d : Option Desk) → is_some (record_of y (option_map_or (λ (k : Desk). k.recorded) d [])) ≡ true → is_some d ≡ true
    by_desk (Some d) some = refl
    by_desk None some = absurd (true≢false (sym some))

module _ (p : Setting) (held : Pools) (w u : World) (b : Beat) (x : Seat) (reach : IsReachable w) (beat : IsBeat w b u)
    (other : (x.node == node_of_beat b) ≡ false) (lives : not_living u.state x.node ≡ None) (fits : LayoutFits p w.state.fixed)
    (owners : OwnersAre p w.state.fixed) (has : Counts p x w.state held) (doing : ShowsDoing p held w x) (stands : NodeStands p held w.state x) where
  mine : (port : ℕ) → p.layout.owner port ≡ x.node → node_of_port w.state.fixed port ≡ x.node
  mine port at = sym (owners port) ∙ at

  records : RecordsFit held w.state x → RecordsFit held u.state x
  records fit = record {
    told = λ y k some.
        delivered_same w u b x.node reach beat other y k (mine y.sender (stands.at_desks y.sender (at_desk x y some)).1) ∙ fit.told y k some;
    once = fit.once;
  }

  port_fits : (port : ℕ) → IsPortOfSeat p x port → PortFits held w.state x port → PortFits held u.state x port
  port_fits port own fit = record {
    mine = node_same w u b x.node reach beat other port ∙ fit.mine;
    entries = fit.entries;
    call = fit.call;
    ways = fit.ways ∙ ap (λ ports. ways_from (record w.state.fixed { ports = ports }) port) (sym (ports_same w u b x.node reach beat other));
    apart = fit.apart;
    from = fit.from;
    records = records fit.records;
    counted = λ slot used.
        subst (λ k. (held port slot).serial ≤ k) (sym (loans_same w u b x.node reach beat other port (mine port own.1))) (fit.counted slot used);
  }

  slots : SlotsKnown p held u.state x
  slots = record {
    desks = stands.slots.desks;
    pools = stands.slots.pools;
    ports = λ port own. port_fits port own (stands.slots.ports port own);
    apart = stands.slots.apart;
  }

  released : (e : Entry) → ReleasesOwnHandle w.state.fixed x.node e → ReleasesOwnHandle u.state.fixed x.node e
  released e is =
      let it = subst (λ ports. ReleasesOwnHandle (record w.state.fixed { ports = ports }) x.node e) (sym (ports_same w u b x.node reach beat other)) is in
      record { pending = it.pending; request = it.request; response = it.response }

  kept : NodeStands p held u.state x
  kept = record {
    owns = others_leave_firm p w u b x.node x.local reach beat other lives fits stands.owns;
    names = others_leave_names p w u b x reach beat other lives fits stands.names;
    name_slots = stands.name_slots;
    in_pools = stands.in_pools;
    lends = stands.lends;
    slots = slots;
    at_desks = stands.at_desks;
    uses = stands.uses;
    loans = λ port own. loans_same w u b x.node reach beat other port (mine port own.1) ∙ stands.loans port own;
    borrowed = λ y at. stands.borrowed y at ∙ sym (borrowed_same w u b x.node reach beat other y (mine y.receiver at));
    counted = stands.counted;
    numbers = stands.numbers;
    released = λ e there. released e (stands.released e there);
    states = λ e there pending.
        others_leave_states p held w u b x e reach beat other fits has.knows (stands.released e there) pending (stands.states e there pending);
    opened = others_leave_opened p held w u b x reach beat other doing stands.opened;
    tells = stands.tells;
  }

pub others_leave_nodes : OthersLeaveNodes
others_leave_nodes p held w u b x reach beat other lives fits owners has doing stands =
    kept p held w u b x reach beat other lives fits owners has doing stands
