use Rattle.std.proofs.Common.{◌≡◌, ℕ, false, List, arith, sym, subst, ap, map, ◌∙◌}
use Rattle.iox_model.specs.declared.kind.Role.TheVariants.{Server}
use Rattle.iox_model.specs.declared.way.Way.{Way}
use Rattle.iox_model.specs.Messages.{response_way}
use Rattle.iox_model.specs.Peers.{ports_of_role}
use Rattle.iox_wire_messages.specs.Begins.{pending_visit, ways_for}
use Rattle.iox_wire_messages.specs.Courses.{placed}
use Rattle.iox_wire_messages.specs.Known.{known}
use Rattle.iox_wire_messages.specs.ReceiveCourses.{visiting}
use Rattle.iox_wire_messages.specs.Stored.{header_length}
use Rattle.iox_wire_receives.specs.declared.source.Source.{Source}
use Rattle.iox_wire_receives.specs.Sources.{AreSources, ways_of}
use Rattle.iox_wire_messages.proofs.WayCounts.{ports_fit}
use Rattle.iox_wire_ways.proofs.receives.begin_response_receive.Goals as goal

pub returns-clause-begun : goal.returns-clause-begun
returns-clause-begun c p n setting =
    let sources : AreSources p c.list_response_sources-terms.result (header_length Server) c.deref.result.now =
    subst (AreSources p c.list_response_sources-terms.result (header_length Server)) (sym c.deref.ensures.value) (c.list_response_sources-terms.ensures.sources p setting) in
    let ways : ways_of c.deref.result.now ≡ ways_for p c.args.seat.now.seat c.args.pending =
    ap (λ (xs : List Source). ways_of xs) c.deref.ensures.value ∙ c.list_response_sources-terms.ensures.ways p c.args.seat.now.seat setting
    ∙ ap (λ (k : ℕ). map (response_way k c.args.pending.lane) (ports_of_role (known p c.args.seat.now.seat) Server)) c.requires.client in
    subst (λ (ws : List Way). (placed c.args.seat.now.seat c.begin.new.self.local
    ≡ visiting p c.args.seat.now.seat (pending_visit c.args.pending) ws false)) ways
    (c.begin.ensures.begun p sources)

pub begin-requires-clause-fits : goal.begin-requires-clause-fits
begin-requires-clause-fits c =
    let many = c.list_response_sources-terms.ensures.many in let size = c.deref.ensures.len in
    let fit = ports_fit c.args.map.now in let asked = c.requires.room in
    omega (arith, many, size, fit, asked)
