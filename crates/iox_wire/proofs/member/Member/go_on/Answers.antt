use Rattle.std.proofs.Common.{ap}
use Rattle.iox_wire_weaves.specs.Wires.{WireNode}
use Rattle.iox_wire.proofs.Accesses.{has_gone_on, may_go_on}
use Rattle.iox_wire.proofs.member.Member.go_on.Goals as goal

pub go_on-requires-clause-may : goal.go_on-requires-clause-may
go_on-requires-clause-may c =
    may_go_on c.requires.may.0 c.self.inside.node c.args.self.now.node (ap (λ (m : WireNode). m.node) c.self.view_is) c.requires.may.1.0 c.requires.may.1.1
    c.args.seen c.requires.may.1.2 c.place.ensures

pub returns-clause-made : goal.returns-clause-made
returns-clause-made c p words may saw =
    has_gone_on p c.self.inside.node c.args.self.now.node (ap (λ (m : WireNode). m.node) c.self.view_is) words may c.args.seen saw
    c.go_on.new.self c.go_on.result c.go_on.ensures.next c.go_on.ensures.over
    c.go_on.ensures.own c.go_on.ensures.ready c.go_on.ensures.aimed c.go_on.ensures.room c.go_on.ensures.call
