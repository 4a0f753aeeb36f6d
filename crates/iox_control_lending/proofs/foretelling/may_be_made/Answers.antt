use Rattle.std.proofs.Common.{Some, ap, sym, true≢false, ◌∙◌}
use Rattle.std.specs.Option.{option_map}
use Rattle.iox_hub_ports.specs.Ports.{info_of}
use Rattle.iox_control_lending.specs.Lends.{lender_of}
use Rattle.iox_control_lending.proofs.MayLemmas.{port_told, told_none, told_some}
use Rattle.iox_control_lending.proofs.foretelling.may_be_made.Goals as goal

pub has_free_then-requires-clause-said : goal.has_free_then-requires-clause-said
has_free_then-requires-clause-said c = ap (option_map info_of) c.requires.port.there ∙ ap (λ i. Some i) (sym c.requires.port.info)

pub returns-then-is_some-clause-made : goal.returns-then-is_some-clause-made
returns-then-is_some-clause-made c is p there = absurd (true≢false (sym is))

pub returns-then-is_some-clause-not : goal.returns-then-is_some-clause-not
returns-then-is_some-clause-not c is p there may =
    let info = port_told c.args.control.now.tables c.args.lender.now c.requires.port p there in
    told_some c.args.control.now.tables (lender_of p c.args.lender.now) c.args.asked c.loan_refusal.result c.is_some.result c.is_some.ensures c.if-is_some.true
    (c.loan_refusal.ensures.told p info) (c.requires.asked p there) may.passes

pub returns-clause-made : goal.returns-clause-made
returns-clause-made c is p there = record {
  passes = told_none c.args.control.now.tables (lender_of p c.args.lender.now) c.args.asked c.loan_refusal.result c.is_some.result c.is_some.ensures c.if-is_some.false
      (c.loan_refusal.ensures.told p (port_told c.args.control.now.tables c.args.lender.now c.requires.port p there));
  free = c.has_free_then.ensures.some is p there;
}

pub returns-clause-not : goal.returns-clause-not
returns-clause-not c is p there may = c.has_free_then.ensures.none is p there may.free
