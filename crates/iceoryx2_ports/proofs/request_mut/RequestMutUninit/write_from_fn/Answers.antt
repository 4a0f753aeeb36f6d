use Rattle.std.specs.Prelude.{true, refl}
use Rattle.iox_model.specs.declared.kind.Kind.TheVariants.{RequestMutUninit}
use Rattle.iceoryx2_ports.proofs.InTurn.{carries_answers}
use Rattle.iceoryx2_ports.proofs.FilledLoans.{filled_asks_as, filled_asks, filled_comes, filled_requests, filled_room}
use Rattle.iceoryx2_ports.proofs.SameShapes.{filled_keeps, filled_shapes}
use Rattle.iceoryx2_ports.proofs.request_mut.RequestMutUninit.write_from_fn.Goals as goal

pub returns-clause-carries : goal.returns-clause-carries
returns-clause-carries g c = carries_answers _ _ _ _ _ c.write_request_from_fn.ensures.answered

pub returns-clause-keeps : goal.returns-clause-keeps
returns-clause-keeps g c = filled_keeps c.args.hub.now c.write_request_from_fn.new.self c.args.self.node c.args.self.number true _ c.write_request_from_fn.ensures.filled

pub returns-clause-shapes : goal.returns-clause-shapes
returns-clause-shapes g c = filled_shapes c.args.hub.now c.write_request_from_fn.new.self c.args.self.node c.args.self.number true _ c.write_request_from_fn.ensures.filled RequestMutUninit c.requires.has

pub returns-clause-asker : goal.returns-clause-asker
returns-clause-asker g c = filled_asks_as c.args.hub.now c.write_request_from_fn.new.self c.args.self.node c.args.self.number true _ c.write_request_from_fn.ensures.filled RequestMutUninit refl refl c.requires.has

pub returns-clause-comes : goal.returns-clause-comes
returns-clause-comes g c = filled_comes c.args.hub.now c.write_request_from_fn.new.self c.args.self.node c.args.self.number true _ c.write_request_from_fn.ensures.filled RequestMutUninit refl refl c.requires.has

pub returns-clause-asks : goal.returns-clause-asks
returns-clause-asks g c = filled_asks c.args.hub.now c.write_request_from_fn.new.self c.args.self.node c.args.self.number true _ c.write_request_from_fn.ensures.filled RequestMutUninit refl refl c.requires.has

pub returns-clause-room : goal.returns-clause-room
returns-clause-room g c = filled_room c.args.hub.now c.write_request_from_fn.new.self c.args.self.node c.args.self.number true _ c.write_request_from_fn.ensures.filled RequestMutUninit refl refl c.requires.has

pub returns-clause-requests : goal.returns-clause-requests
returns-clause-requests g c = filled_requests c.args.hub.now c.write_request_from_fn.new.self c.args.self.node c.args.self.number true _ c.write_request_from_fn.ensures.filled RequestMutUninit refl refl c.requires.has
