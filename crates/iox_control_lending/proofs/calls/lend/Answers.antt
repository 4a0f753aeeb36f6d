use Rattle.std.proofs.Common.{◌≡◌, Some, ap, is_some, refl, subst, sym, ◌∙◌}
use Rattle.std.specs.Option.{option_map}
use Rattle.iox_tables.specs.HubStates.Tables.{PortState, port_in}
use Rattle.iox_hub_ports.specs.Ports.{place_in}
use Rattle.iox_control.specs.Controls.{ControlState}
use Rattle.iox_control_lending.specs.declared.asked.Lending.{Lending}
use Rattle.iox_control_lending.specs.Lends.{IsLoanRefusal, IsPortOf, LoanIsMade, lender_of, refusal_of}
use Rattle.iox_control_lending.proofs.LendLemmas.{few_back, loan_keeps, loan_left, place_back, port_back}
use Rattle.iox_control_lending.proofs.calls.lend.Goals as goal

pub known_place-at-requires : goal.known_place-at-requires
known_place-at-requires c =
    ap is_some (ap (λ ps. port_in ps c.args.lender.now.port.number) c.ports.ensures.ports ∙ c.requires.port.there)

pub retake-requires-clause-there : goal.retake-requires-clause-there
retake-requires-clause-there c =
    ap (λ ps. place_in ps c.args.lender.now.port.number) (sym c.ports.ensures.ports) ∙ c.known_place-at.ensures.first

pub hand_taken-requires-clause-there : goal.hand_taken-requires-clause-there
hand_taken-requires-clause-there c =
    let r = c.in-Some-retake.ensures.taken in
    subst (λ (d : ControlState). place_in d.tables.ports c.args.lender.now.port.number ≡ Some c.known_place-at.result) (sym r.taken.left)
    (place_back c.args.control.now r.between c.args.lender.now c.requires.port c.requires.order (λ p at. (r.back p at).left) (λ p at. (r.back p at).back)
    c.known_place-at.result (ap (λ ps. place_in ps c.args.lender.now.port.number) (sym c.ports.ensures.ports) ∙ c.known_place-at.ensures.first))

pub returns-in-Some-retake-clause-left : goal.returns-in-Some-retake-clause-left
returns-in-Some-retake-clause-left c =
    let r = c.in-Some-retake.ensures.taken in
    loan_left c.args.control.now r.between c.args.lender.now c.requires.port c.requires.order (λ p at. (r.back p at).left) (λ p at. (r.back p at).back) c.args.asked c.hand_taken.new.control
    (λ p is. subst (λ o. IsLoanRefusal c.args.control.now.tables (lender_of p c.args.lender.now) c.args.asked (option_map refusal_of o)) c.in_default.is (c.loan_refusal.ensures.told p is))
    c.hand_taken.result (c.hand_taken.ensures r.between r.taken)

pub returns-in-Some-retake-clause-order : goal.returns-in-Some-retake-clause-order
returns-in-Some-retake-clause-order c =
    let r = c.in-Some-retake.ensures.taken in
    loan_keeps c.args.control.now r.between c.args.lender.now c.requires.port c.requires.order (λ p at. (r.back p at).left) (λ p at. (r.back p at).back) c.args.asked c.hand_taken.new.control
    (λ p is. subst (λ o. IsLoanRefusal c.args.control.now.tables (lender_of p c.args.lender.now) c.args.asked (option_map refusal_of o)) c.in_default.is (c.loan_refusal.ensures.told p is))
    c.hand_taken.result (c.hand_taken.ensures r.between r.taken) r.taken.order (c.loan_refusal.ensures.few c.in_default.is)

pub again-known-requires-clause-port : goal.again-known-requires-clause-port
again-known-requires-clause-port c =
    port_back c.args.control.now c.retake.new.control c.args.lender.now c.requires.port c.requires.order
    (λ p at. (c.in_default-retake.ensures.back refl p at).left) (λ p at. (c.in_default-retake.ensures.back refl p at).back)

pub again-known-requires-clause-there : goal.again-known-requires-clause-there
again-known-requires-clause-there c =
    place_back c.args.control.now c.retake.new.control c.args.lender.now c.requires.port c.requires.order
    (λ p at. (c.in_default-retake.ensures.back refl p at).left) (λ p at. (c.in_default-retake.ensures.back refl p at).back)
    c.known_place-at.result (ap (λ ps. place_in ps c.args.lender.now.port.number) (sym c.ports.ensures.ports) ∙ c.known_place-at.ensures.first)

pub lend_free-requires-clause-port : goal.lend_free-requires-clause-port
lend_free-requires-clause-port c =
    subst (λ (l : Lending). IsPortOf c.retake.new.control.tables l) (sym c.again-known.ensures)
    (port_back c.args.control.now c.retake.new.control c.args.lender.now c.requires.port c.requires.order
    (λ p at. (c.in_default-retake.ensures.back refl p at).left) (λ p at. (c.in_default-retake.ensures.back refl p at).back))

pub lend_free-requires-clause-there : goal.lend_free-requires-clause-there
lend_free-requires-clause-there c =
    subst (λ (l : Lending). place_in c.retake.new.control.tables.ports l.port.number ≡ Some c.known_place-at.result) (sym c.again-known.ensures)
    (place_back c.args.control.now c.retake.new.control c.args.lender.now c.requires.port c.requires.order
    (λ p at. (c.in_default-retake.ensures.back refl p at).left) (λ p at. (c.in_default-retake.ensures.back refl p at).back)
    c.known_place-at.result (ap (λ ps. place_in ps c.args.lender.now.port.number) (sym c.ports.ensures.ports) ∙ c.known_place-at.ensures.first))

pub lend_free-requires-clause-calls : goal.lend_free-requires-clause-calls
lend_free-requires-clause-calls c =
    few_back c.args.control.now c.retake.new.control c.args.lender.now c.requires.port c.requires.order
    (λ p at. (c.in_default-retake.ensures.back refl p at).left) (λ p at. (c.in_default-retake.ensures.back refl p at).back)
    (c.loan_refusal.ensures.few c.in_default.is)

pub returns-in-Some-lend_free-clause-left : goal.returns-in-Some-lend_free-clause-left
returns-in-Some-lend_free-clause-left c =
    loan_left c.args.control.now c.retake.new.control c.args.lender.now c.requires.port c.requires.order
    (λ p at. (c.in_default-retake.ensures.back refl p at).left) (λ p at. (c.in_default-retake.ensures.back refl p at).back)
    c.args.asked c.lend_free.new.control
    (λ p is. subst (λ o. IsLoanRefusal c.args.control.now.tables (lender_of p c.args.lender.now) c.args.asked (option_map refusal_of o)) c.in_default.is (c.loan_refusal.ensures.told p is))
    c.in-Some-lend_free.loaned
    (subst (λ (k : Lending). (p : PortState) → port_in c.retake.new.control.tables.ports k.port.number ≡ Some p → LoanIsMade c.retake.new.control (lender_of p k) c.args.asked c.in-Some-lend_free.loaned c.lend_free.new.control)
    c.again-known.ensures c.in-Some-lend_free.ensures.made)

pub returns-in-Some-lend_free-clause-order : goal.returns-in-Some-lend_free-clause-order
returns-in-Some-lend_free-clause-order c =
    loan_keeps c.args.control.now c.retake.new.control c.args.lender.now c.requires.port c.requires.order
    (λ p at. (c.in_default-retake.ensures.back refl p at).left) (λ p at. (c.in_default-retake.ensures.back refl p at).back)
    c.args.asked c.lend_free.new.control
    (λ p is. subst (λ o. IsLoanRefusal c.args.control.now.tables (lender_of p c.args.lender.now) c.args.asked (option_map refusal_of o)) c.in_default.is (c.loan_refusal.ensures.told p is))
    c.in-Some-lend_free.loaned
    (subst (λ (k : Lending). (p : PortState) → port_in c.retake.new.control.tables.ports k.port.number ≡ Some p → LoanIsMade c.retake.new.control (lender_of p k) c.args.asked c.in-Some-lend_free.loaned c.lend_free.new.control)
    c.again-known.ensures c.in-Some-lend_free.ensures.made)
    (c.in_default-retake.ensures.order refl) (c.loan_refusal.ensures.few c.in_default.is)
