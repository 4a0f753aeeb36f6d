use Rattle.std.proofs.Common.{◌≡◌, ℕ, false, List, get_or, arith, sym, subst, ap, ◌∙◌}
use Rattle.iox_model.specs.declared.kind.Role.TheVariants.{Client, Server}
use Rattle.iox_model.specs.declared.way.Way.{Way}
use Rattle.iox_model.specs.Receives.{server_ways}
use Rattle.iox_wire_messages.specs.WirePlan.{WirePlan}
use Rattle.iox_wire_messages.specs.Plans.{number_at}
use Rattle.iox_wire_messages.specs.Courses.{placed}
use Rattle.iox_wire_messages.specs.Known.{known}
use Rattle.iox_wire_messages.specs.ReceiveCourses.{visiting}
use Rattle.iox_wire_messages.specs.Stored.{header_length}
use Rattle.iox_wire_receives.specs.declared.source.Source.{Source}
use Rattle.iox_wire_receives.specs.Sources.{AreSources, ways_of}
use Rattle.iox_wire_ways.proofs.HeaderLemmas.{index_of_port, number_there, port_facts}
use Rattle.iox_wire_messages.proofs.WayCounts.{ports_fit}
use Rattle.iox_wire_ways.proofs.receives.begin_request_receive.Goals as goal

pub returns-clause-begun : goal.returns-clause-begun
returns-clause-begun c p n setting told =
    let sources : AreSources p c.list_request_sources-terms.result (header_length Client) c.deref.result.now =
    subst (AreSources p c.list_request_sources-terms.result (header_length Client)) (sym c.deref.ensures.value) (c.list_request_sources-terms.ensures.sources p setting) in
    let ways : ways_of c.deref.result.now ≡ server_ways (known p c.args.seat.now.seat) (p.port (number_at c.args.map.now c.args.server)) =
    ap (λ (xs : List Source). ways_of xs) c.deref.ensures.value ∙ c.list_request_sources-terms.ensures.ways p setting told in
    let number : c.index.result.now.number ≡ (p.port (number_at c.args.map.now c.args.server)).number =
    (port_facts c.args.map.now c.args.server c.index.result.now c.plan.ensures.plan (index_of_port c.args.map.now Server c.args.server c.requires.server)
    (c.index.ensures ∙ ap (λ (plan : WirePlan). get_or plan.ports.items c.args.server c.index.result.now) c.plan.ensures.value)).number
    ∙ sym (number_there c.args.map.now c.plan.ensures.plan Server c.args.server c.requires.server p setting) in
    subst (λ (k : ℕ). (placed c.args.seat.now.seat c.begin.new.self.local
    ≡ visiting p c.args.seat.now.seat (record { port = k; role = Server; lane = 0; request = 0 }) (server_ways (known p c.args.seat.now.seat) (p.port (number_at c.args.map.now c.args.server))) false)) number
    (subst (λ (ws : List Way). (placed c.args.seat.now.seat c.begin.new.self.local
    ≡ visiting p c.args.seat.now.seat (record { port = c.index.result.now.number; role = Server; lane = 0; request = 0 }) ws false)) ways
    (c.begin.ensures.begun p sources))

pub begin-requires-clause-fits : goal.begin-requires-clause-fits
begin-requires-clause-fits c =
    let many = c.list_request_sources-terms.ensures.many in let size = c.deref.ensures.len in
    let fit = ports_fit c.args.map.now in let asked = c.requires.room in
    omega (arith, many, size, fit, asked)
