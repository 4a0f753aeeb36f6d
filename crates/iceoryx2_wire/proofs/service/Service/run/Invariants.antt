use Rattle.iox_service_laws.specs.HandlerWords.{shown_by}
use Rattle.std.proofs.Common.{◌≡◌, ◌≤◌, length}
use Rattle.std.specs.Vec.{vec_capacity}
use Rattle.std.specs.Vec.Iter.{into_iter_items, into_iter_len}
use Rattle.iceoryx2_wire.specs.Services.{service_of}
use Rattle.iceoryx2_wire.proofs.Running.{HasRun}
use Rattle.iceoryx2_wire.proofs.service.Service.run.Given as goal

-- all commands but those that are still to come are answered
abbrev pub invariant-loop-command : goal.invariant-loop-command
invariant-loop-command g l =
    HasRun g.Q.Element.Words.words g.P.Element.Words.words (shown_by g.H.Backpressure.action) l.fn.self.description (service_of l.fn.self) l.fn.commands.items
    l.fn.replies.items (into_iter_items l.command-iterator) l.replies.items (service_of l.self)
    × (into_iter_len l.command-iterator ≡ length (into_iter_items l.command-iterator))
    × (l.self.description ≡ l.fn.self.description)
    × (l.self.identity ≡ l.fn.self.identity)
    × (vec_capacity l.fn.replies ≤ vec_capacity l.replies)
