-- The pool of a living node's port fits what the machine keeps of it.
use Rattle.iox_wire_laws.proofs.WireKeeping.SlotsFitted.{slots_are_fit}
use Rattle.iox_wire_needs.specs.Nodes.{NodeStands}
use Rattle.iox_wire_needs.specs.Stands.{seats_of}
use Rattle.iox_wire_weaves.specs.KeptSlots.{PoolsFitWhatIsKept}

pub pools_fit_what_is_kept : PoolsFitWhatIsKept
pools_fit_what_is_kept p words players r n port wire living home =
    let mine : NodeStands p wire.stands.held r.last.state (seats_of p players n) = wire.stands.nodes n living in
    slots_are_fit p wire.stands.held r.last (seats_of p players n) port (p.port port).pool (wire.stands.shows.counts n living)
    (wire.stands.shows.doing n living) (mine.slots.ports port home) (mine.slots.pools port home)
