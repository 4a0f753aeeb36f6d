use Rattle.std.proofs.Common.{sym, subst}
use Rattle.iox_wire_handle_calls.specs.Entry.{Entry}
use Rattle.iox_wire_handle_calls.specs.ResponseTerms.{ResponseTerms}
use Rattle.iox_wire_handle_calls.specs.SendsAims.{IsToldOf}
use Rattle.iox_wire_begins.proofs.sending.begin_response_send.Goals as goal

pub returns-clause-aimed : goal.returns-clause-aimed
returns-clause-aimed c p with =
    subst (λ (e : Entry). IsToldOf p e c.begin.new.self.terms) (sym c.begin.ensures.loan)
    (subst (λ (t : ResponseTerms). IsToldOf p c.args.loan t) (sym c.begin.ensures.terms)
    (c.response_terms-told.ensures.told p c.args.loan with c.requires.own))
