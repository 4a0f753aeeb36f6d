use Rattle.std.proofs.Common.{sym, ◌∙◌}
use Rattle.iox_wire_handle_calls.proofs.NameLemmas.{begins_so, busy, of_kind, unknown}
use Rattle.iox_wire_handle_calls.proofs.naming.named.Goals as goal

pub returns-then-is_busy-clause-refused : goal.returns-then-is_busy-clause-refused
returns-then-is_busy-clause-refused c p y setting role =
    busy c.args.map.now p c.args.seat.now.seat c.args.asked c.args.number y setting c.requires.no_port
    (sym c.is_busy.ensures ∙ c.if-is_busy.true)

pub returns-in_default-clause-refused : goal.returns-in_default-clause-refused
returns-in_default-clause-refused c p y setting role =
    unknown c.args.map.now p c.args.seat.now.seat c.args.asked c.args.number y setting c.requires.no_port
    (sym c.is_busy.ensures ∙ c.if-is_busy.false) (sym c.entry.ensures ∙ c.in_default.is)

pub returns-then-not-suits-clause-refused : goal.returns-then-not-suits-clause-refused
returns-then-not-suits-clause-refused c p y setting role =
    of_kind c.args.map.now p c.args.seat.now.seat c.args.asked c.args.number y setting c.requires.no_port c.in-Some.entry _
    (sym c.is_busy.ensures ∙ c.if-is_busy.false) (sym c.entry.ensures ∙ c.in-Some.is)
    (sym c.if-not-suits.true ∙ c.suits.ensures c.args.number y role)

pub returns-clause-allowed : goal.returns-clause-allowed
returns-clause-allowed c p y setting role =
    of_kind c.args.map.now p c.args.seat.now.seat c.args.asked c.args.number y setting c.requires.no_port c.in-Some.entry _
    (sym c.is_busy.ensures ∙ c.if-is_busy.false) (sym c.entry.ensures ∙ c.in-Some.is)
    (sym c.if-not-suits.false ∙ c.suits.ensures c.args.number y role)

pub returns-clause-begins : goal.returns-clause-begins
returns-clause-begins c p y setting =
    begins_so c.args.map.now p c.args.seat.now.seat c.args.asked c.args.number y setting c.requires.no_port c.in-Some.entry
    (sym c.entry.ensures ∙ c.in-Some.is)

pub returns-clause-suits : goal.returns-clause-suits
returns-clause-suits c n y role = sym (sym c.if-not-suits.false ∙ c.suits.ensures n y role)
