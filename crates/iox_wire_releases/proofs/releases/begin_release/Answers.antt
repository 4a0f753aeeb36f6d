use Rattle.std.proofs.Common.{◌≡◌, ap, subst, sym, ◌∙◌}
use Rattle.iox_model.specs.declared.call.Call.TheVariants.{Release}
use Rattle.iox_model.specs.Peers.{port_at}
use Rattle.iox_wire_locals.specs.declared.seat.Seat.{Seat}
use Rattle.iox_wire_locals.specs.Begins.{begins_at}
use Rattle.iox_wire_locals.specs.Known.{known}
use Rattle.iox_wire_locals.specs.Tables.{entry_at}
use Rattle.iox_wire_releases.proofs.BeginLemmas.{a_handle_begins, a_port_begins, nothing_is_begun}
use Rattle.iox_wire_releases.proofs.releases.begin_release.Goals as goal

pub returns-then-is_some-clause-begun : goal.returns-then-is_some-clause-begun
returns-then-is_some-clause-begun c p setting =
    c.refuse.ensures.begun
    ∙ a_port_begins c.args.map.now p c.args.seat.now.seat c.args.number setting c.place_of.result
    (entry_at c.args.number c.args.seat.now.seat.table) c.place_of.ensures.first (sym c.is_some.ensures ∙ c.if-is_some.true)

pub returns-in-Some-clause-begun : goal.returns-in-Some-clause-begun
returns-in-Some-clause-begun c p setting =
    subst (λ (y : Seat). c.release.new.seat.seat ≡ y)
    (a_handle_begins c.args.map.now p c.args.seat.now.seat c.args.number setting c.place_of.result c.in-Some.entry
    c.place_of.ensures.first (sym c.is_some.ensures ∙ c.if-is_some.false)
    ∙ ap (begins_at p c.args.seat.now.seat (Release c.args.number) (port_at (known p c.args.seat.now.seat) c.args.number)) (sym c.in-Some.is ∙ c.entry.ensures))
    (c.release.ensures.begun p setting)

pub returns-in-None-clause-begun : goal.returns-in-None-clause-begun
returns-in-None-clause-begun c p setting =
    c.refuse-in-None.ensures.begun
    ∙ nothing_is_begun c.args.map.now p c.args.seat.now.seat c.args.number setting c.place_of.result
    c.place_of.ensures.first (sym c.is_some.ensures ∙ c.if-is_some.false)
    ∙ ap (begins_at p c.args.seat.now.seat (Release c.args.number) (port_at (known p c.args.seat.now.seat) c.args.number)) (sym c.in-None.is ∙ c.entry.ensures)
