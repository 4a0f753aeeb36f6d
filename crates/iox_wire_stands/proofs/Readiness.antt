-- A standing node at rest is ready: its ports are as it counts them.
use Rattle.std.specs.Prelude.{find, map}
use Rattle.std.specs.Option.{option_map_or}
use Rattle.std.proofs.Common.{◌≡◌, ℕ, true, ◌==◌, List, Some, None, ap, sym, subst, ◌∙◌, eqb-true}
use Rattle.iox_model.specs.Joins.{not_living}
use Rattle.iox_model.specs.Maps.{has_number}
use Rattle.iox_model.specs.Peers.{port_at}
use Rattle.iox_model.specs.States.{Port}
use Rattle.iox_model.specs.Weaves.{World}
use Rattle.iox_laws.proofs.WeaveLedger.Lists.{among-number, find-among, map-among}
use Rattle.iox_wire_words.specs.Fits.{WireContents}
use Rattle.iox_wire_moments.specs.MomentsOf.{Pools}
use Rattle.iox_wire_locals.specs.declared.local.Local.TheVariants.{Idle}
use Rattle.iox_wire_locals.specs.declared.seat.Seat.{Seat}
use Rattle.iox_wire_locals.specs.BeginLaws.{Counts, IsOwnPort}
use Rattle.iox_wire_locals.specs.Known.{known}
use Rattle.iox_wire_locals.specs.Tables.{Setting}
use Rattle.iox_wire_laws.specs.WireKeeping.PoolSlots.{PoolFits}
use Rattle.iox_wire_laws.specs.WireKeeping.Shows.{ShowsWorld}
use Rattle.iox_wire_laws.specs.WireKeeping.UsedSlots.{slots_in_call}
use Rattle.iox_wire_laws.proofs.WireKeeping.SlotsFitted.{pools_are_told}
use Rattle.iox_wire_laws.specs.WireHolding.SlotsKnown.{IsPortOfSeat}
use Rattle.iox_wire_stands.specs.BeginLaws.{NodesAreReady}
use Rattle.iox_wire_stands.specs.Nodes.{NodeStands}
use Rattle.iox_wire_stands.specs.Stands.{AreNumbered, OwnersAre}

module _ (p : Setting) (held : Pools) (word : ℕ → ℕ) (c : WireContents) (seats : ℕ → Seat) (w : World) (n : ℕ)
    (shows : ShowsWorld p held word c seats w) (living : not_living w.state n ≡ None) (owners : OwnersAre p w.state.fixed)
    (numbered : AreNumbered p) (stands : NodeStands p held w.state (seats n)) (rests : (seats n).local ≡ Idle) where
  abbrev x : Seat
  x = seats n

  abbrev numbers : List ℕ
  numbers = p.layout.sizes.ports

  counts : Counts p x w.state held
  counts = shows.counts n living

  pub own_port : (m : ℕ) (q : Port) → port_at (known p x) m ≡ Some q → q.node ≡ x.node → IsOwnPort p x w.state q
  own_port m q at mine =
      let among = find-among (λ (r : Port). r.number == m) q (map p.port numbers) at in
      let same : q.number ≡ m = eqb-true q.number m among.1 in
      let k = map-among p.port q numbers among.0 in
      let has : has_number k.0 numbers ≡ true = among-number k.0 numbers k.1 in
      let number : k.0 ≡ q.number = sym (numbered k.0 has) ∙ ap (λ (r : Port). r.number) (sym k.2) in
      let set : p.port q.number ≡ q = ap p.port (sym number) ∙ sym k.2 in
      let there : port_at w.state.fixed q.number ≡ Some q
      = subst (λ i. port_at w.state.fixed i ≡ Some q) (sym same)
      (ap (λ (ports : List Port). find (λ (r : Port). r.number == m) ports) counts.knows.ports ∙ at) in
      let own : IsPortOfSeat p x q.number
      = (subst (λ i. has_number i numbers ≡ true) number has, owners q.number ∙ ap (λ o. option_map_or (λ (r : Port). r.node) o 0) there ∙ mine) in
      record {
        there = there;
        set = set;
        mine = mine;
        loans = stands.loans q.number own;
        pool = pools_are_told p held w x q.number q counts (shows.doing n living) (stands.slots.ports q.number own) there
            (subst (λ (r : Port). PoolFits held x q.number r.pool) set (stands.slots.pools q.number own)) (ap (slots_in_call q.number) rests);
      }

pub nodes_are_ready : NodesAreReady
nodes_are_ready p held word c seats w n call shows living owners numbered stands may = record {
  counts = shows.counts n living;
  doing = shows.doing n living;
  ports = own_port p held word c seats w n shows living owners numbered stands may.rests;
  entries = may.entries;
  lanes = may.lanes;
}
