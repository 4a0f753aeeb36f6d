use Rattle.std.proofs.Common.{rules, ◌≡◌, None, []}
use Rattle.iox_model.specs.declared.call.Call.TheVariants.{Release}
use Rattle.iox_model.specs.declared.call.WireCall.TheVariants.{Port}
use Rattle.iox_model.specs.declared.kind.Role.TheVariants.{Client}
use Rattle.iox_model.specs.Commands.{Payload}
use Rattle.iox_wire_begins.specs.HandleCalls.{refusal_in}
use Rattle.iox_wire_begins.specs.Begins.{refusal_at}
use Rattle.iox_wire_nodes.proofs.node.begin.release.Goals as goal

-- no payload is asked
abbrev none : Payload
none = record { role = Client; elements = None; words = [] }

pub returns-in_err-named-clause-refused : goal.returns-in_err-named-clause-refused
returns-in_err-named-clause-refused c p setting =
    let known : refusal_at p c.args.seat.now.seat (Port (Release c.args.number)) ≡ refusal_in c.in_err-named.field-0.0 =
    c.in_err-named.ensures.refused p none setting tt in
    search (rules, known)

pub returns-clause-begun : goal.returns-clause-begun
returns-clause-begun c p setting = record {
  allowed = c.in_ok-named.ensures.allowed p none setting tt;
  begun = c.begin_release.ensures.begun p setting;
  aimed = c.begin_release.ensures.aimed p setting;
}
