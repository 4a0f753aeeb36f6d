use Rattle.std.proofs.Common.{◌==◌, Bool, List, length, ap, ap₂, sym, ◌∙◌}
use Rattle.std.specs.Prelude.{Option, ◌&&◌, filter, nat_le}
use Rattle.iox_model.specs.Handles.{is_response_loan}
use Rattle.iox_model.specs.Maps.{or_else, refused_if}
use Rattle.iox_wire_locals.specs.declared.local.CallRefusal.{CallRefusal}
use Rattle.iox_wire_locals.specs.declared.local.CallRefusal.TheVariants.{ExceedsMaxLoans}
use Rattle.iox_wire_locals.specs.declared.table.Entry.{Entry}
use Rattle.iox_wire_loans.proofs.RefusalLemmas.{response_refused_is, reaches, stays_below}
use Rattle.iox_wire_loans.proofs.lender.Lender.response_refusal.Goals as goal

pub returns-then-self-loans_for : goal.returns-then-self-loans_for
returns-then-self-loans_for c p lender server same =
    sym (response_refused_is p c.args.seat.now.seat c.args.self.now c.args.request c.args.elements lender server same
    ∙ ap₂ (λ (a : Option CallRefusal) (b : Bool). or_else a (or_else (refused_if b ExceedsMaxLoans)
    (refused_if (nat_le c.args.self.now.limit (length (filter (λ l. (l.port == c.args.self.now.port) && is_response_loan l.kind) c.args.seat.now.seat.table))) ExceedsMaxLoans)))
    (sym c.in_default.ensures)
    (reaches c.args.self.now.each c.loans_for.result _
    (c.loans_for.ensures ∙ ap (λ (es : List Entry). length (filter (λ e. (e.port == c.args.request.port) && (is_response_loan e.kind && ((e.client == c.args.request.client) && (e.request == c.args.request.request)))) es)) c.entries.ensures)
    c.if-self-loans_for.true))

pub returns-then-self-response_loans : goal.returns-then-self-response_loans
returns-then-self-response_loans c p lender server same =
    sym (response_refused_is p c.args.seat.now.seat c.args.self.now c.args.request c.args.elements lender server same
    ∙ ap₂ (λ (a : Option CallRefusal) (b : Bool). or_else a (or_else (refused_if b ExceedsMaxLoans)
    (refused_if (nat_le c.args.self.now.limit (length (filter (λ l. (l.port == c.args.self.now.port) && is_response_loan l.kind) c.args.seat.now.seat.table))) ExceedsMaxLoans)))
    (sym c.in_default.ensures)
    (stays_below c.args.self.now.each c.loans_for.result _
    (c.loans_for.ensures ∙ ap (λ (es : List Entry). length (filter (λ e. (e.port == c.args.request.port) && (is_response_loan e.kind && ((e.client == c.args.request.client) && (e.request == c.args.request.request)))) es)) c.entries.ensures)
    c.if-self-loans_for.false)
    ∙ ap (λ (b : Bool). refused_if b ExceedsMaxLoans)
    (reaches c.args.self.now.limit c.response_loans.result _
    (c.response_loans.ensures ∙ ap (λ (es : List Entry). length (filter (λ e. (e.port == c.args.self.now.port) && is_response_loan e.kind) es)) c.entries-2.ensures)
    c.if-self-response_loans.true))

pub returns : goal.returns
returns c p lender server same =
    sym (response_refused_is p c.args.seat.now.seat c.args.self.now c.args.request c.args.elements lender server same
    ∙ ap₂ (λ (a : Option CallRefusal) (b : Bool). or_else a (or_else (refused_if b ExceedsMaxLoans)
    (refused_if (nat_le c.args.self.now.limit (length (filter (λ l. (l.port == c.args.self.now.port) && is_response_loan l.kind) c.args.seat.now.seat.table))) ExceedsMaxLoans)))
    (sym c.in_default.ensures)
    (stays_below c.args.self.now.each c.loans_for.result _
    (c.loans_for.ensures ∙ ap (λ (es : List Entry). length (filter (λ e. (e.port == c.args.request.port) && (is_response_loan e.kind && ((e.client == c.args.request.client) && (e.request == c.args.request.request)))) es)) c.entries.ensures)
    c.if-self-loans_for.false)
    ∙ ap (λ (b : Bool). refused_if b ExceedsMaxLoans)
    (stays_below c.args.self.now.limit c.response_loans.result _
    (c.response_loans.ensures ∙ ap (λ (es : List Entry). length (filter (λ e. (e.port == c.args.self.now.port) && is_response_loan e.kind) es)) c.entries-2.ensures)
    c.if-self-response_loans.false))
