use Rattle.iceoryx2_wire.specs.Services.{service_of}
use Rattle.iceoryx2_wire.proofs.uses_laws.dies.Goals as goal

pub returns : goal.returns
returns c = λ done.
    (c.knows_its_dead.ensures.dead.dies (service_of c.declares_dead.new.service) c.args.node (c.declares_dead.ensures done).0 (c.declares_dead.ensures done).2
    (c.declares_dead.ensures done).1).0
