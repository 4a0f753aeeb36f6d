use Rattle.std.proofs.Common.{◌==◌, Bool, List, length, ap, ap₂, sym, ◌∙◌}
use Rattle.std.specs.Prelude.{Option, ◌&&◌, filter}
use Rattle.iox_model.specs.Handles.{is_request_loan}
use Rattle.iox_model.specs.Maps.{or_else, refused_if}
use Rattle.iox_wire_locals.specs.declared.local.CallRefusal.{CallRefusal}
use Rattle.iox_wire_locals.specs.declared.local.CallRefusal.TheVariants.{ExceedsMaxLoans}
use Rattle.iox_wire_locals.specs.declared.table.Entry.{Entry}
use Rattle.iox_wire_loans.proofs.RefusalLemmas.{request_refused_is, reaches, stays_below}
use Rattle.iox_wire_loans.proofs.lender.Lender.request_refusal.Goals as goal

pub returns-then-self-request_loans : goal.returns-then-self-request_loans
returns-then-self-request_loans c p lender client =
    sym (request_refused_is p c.args.seat.now.seat c.args.self.now c.args.elements lender client
    ∙ ap₂ (λ (a : Option CallRefusal) (b : Bool). or_else a (refused_if b ExceedsMaxLoans)) (sym c.in_default.ensures)
    (reaches c.args.self.now.limit c.request_loans.result _
    (c.request_loans.ensures ∙ ap (λ (es : List Entry). length (filter (λ e. (e.port == c.args.self.now.port) && is_request_loan e.kind) es)) c.entries.ensures)
    c.if-self-request_loans.true))

pub returns : goal.returns
returns c p lender client =
    sym (request_refused_is p c.args.seat.now.seat c.args.self.now c.args.elements lender client
    ∙ ap₂ (λ (a : Option CallRefusal) (b : Bool). or_else a (refused_if b ExceedsMaxLoans)) (sym c.in_default.ensures)
    (stays_below c.args.self.now.limit c.request_loans.result _
    (c.request_loans.ensures ∙ ap (λ (es : List Entry). length (filter (λ e. (e.port == c.args.self.now.port) && is_request_loan e.kind) es)) c.entries.ensures)
    c.if-self-request_loans.false))
