use Rattle.std.proofs.Common.{List, Some, false, ap, length, refl, subst, sym, true, ◌<◌, ◌∙◌}
use Rattle.std.proofs.lemmas.Bool.{not-false}
use Rattle.iox_model.specs.Requests.{fails_at}
use Rattle.iox_model.specs.declared.kind.Role.TheVariants.{Server}
use Rattle.iox_tables.specs.HubStates.States.{fixed_of}
use Rattle.iox_tables.specs.HubStates.Tables.{HubSettings, PortState}
use Rattle.iox_hub_ports.specs.InPlace.{in_place, only_of, places_of}
use Rattle.iox_hub_ports.specs.Known.{is_from}
use Rattle.iox_control.specs.Entries.{handle_state}
use Rattle.iox_control.proofs.HeldLemmas.{handle_has_pool}
use Rattle.iox_control_requests.specs.declared.requested.Requested.TheVariants.{To}
use Rattle.iox_control_requests.proofs.Offered.{filled_kind, is_sent_so, left_for, loan_kind, named_so, reply_for, whole_for}
use Rattle.iox_control_requests.proofs.OneServer.{only_is}
use Rattle.iox_control_requests.proofs.Tidy.{offered_tidies}
use Rattle.iox_control_requests.proofs.usual.send_request_usual.Goals as goal

pub has_one_out-requires : goal.has_one_out-requires
has_one_out-requires c =
    handle_has_pool c.args.control.now.tables c.requires.order.order c.args.node c.args.number (handle_state c.args.entry) (sym c.requires.entry)

pub attempt_alone-requires-clause-named : goal.attempt_alone-requires-clause-named
attempt_alone-requires-clause-named c =
    named_so c.args.control.now c.args.node c.args.number c.requires.order c.requires.calls c.requires.request c.args.entry c.requires.entry (λ w. false)

pub attempt_alone-requires-clause-kind : goal.attempt_alone-requires-clause-kind
attempt_alone-requires-clause-kind c =
    loan_kind c.args.control.now c.args.node c.args.number c.requires.order c.requires.calls c.requires.request c.args.entry c.requires.entry (λ w. false)

pub attempt_alone-requires-clause-only : goal.attempt_alone-requires-clause-only
attempt_alone-requires-clause-only c =
    only_is (places_of Server c.args.control.now.tables.ports) c.in_ok-place.place
    (ap (λ (ps : List PortState). only_of (places_of Server ps)) (sym c.ports.ensures.ports) ∙ sym c.in_ok-place.ensures.only)

pub attempt_alone-requires-clause-there : goal.attempt_alone-requires-clause-there
attempt_alone-requires-clause-there c =
    subst (λ (ps : List PortState). c.in_ok-place.place < length ps) c.ports.ensures.ports c.in_ok-place.ensures.within

pub attempt_alone-requires-clause-from : goal.attempt_alone-requires-clause-from
attempt_alone-requires-clause-from c =
    ap (λ (ps : List PortState). in_place (is_from c.rank-rank.result c.args.entry.port) false ps c.in_ok-place.place) (sym c.ports-4.ensures.ports)
    ∙ sym c.is_from.ensures ∙ c.if-not-is_from.false

pub attempt_alone-requires-clause-filled : goal.attempt_alone-requires-clause-filled
attempt_alone-requires-clause-filled c =
    filled_kind c.args.control.now c.args.node c.args.number c.requires.order c.requires.calls c.requires.request c.args.entry c.requires.entry (λ w. false)

pub returns-clause-reply : goal.returns-clause-reply
returns-clause-reply c fails =
    reply_for c.args.control.now c.args.node c.args.number c.requires.order c.requires.calls c.requires.request c.args.entry c.requires.entry fails (To 1) c.attempt_alone.new.control.tables
    (is_sent_so c.args.control.now c.args.node c.args.number c.requires.order c.requires.calls c.requires.request c.args.entry c.requires.entry fails
    (sym c.is_spent.ensures ∙ c.if-is_spent.false) true (sym (ap (λ (s : HubSettings). s.request_overflow) (sym c.settings.ensures) ∙ not-false c.settings.result.request_overflow c.if-not-settings.false))
    (Some 1) c.attempt_alone.new.control.tables refl c.attempt_alone.ensures.messages
    1 refl c.attempt_alone.ensures.count c.attempt_alone.ensures.sent c.attempt_alone.ensures.waits)

pub returns-clause-left : goal.returns-clause-left
returns-clause-left c =
    left_for c.args.control.now c.args.node c.args.number c.requires.order c.requires.calls c.requires.request c.args.entry c.requires.entry (λ w. false) (To 1) c.attempt_alone.new.control.tables
    (is_sent_so c.args.control.now c.args.node c.args.number c.requires.order c.requires.calls c.requires.request c.args.entry c.requires.entry (λ w. false)
    (sym c.is_spent.ensures ∙ c.if-is_spent.false) true (sym (ap (λ (s : HubSettings). s.request_overflow) (sym c.settings.ensures) ∙ not-false c.settings.result.request_overflow c.if-not-settings.false))
    (Some 1) c.attempt_alone.new.control.tables refl c.attempt_alone.ensures.messages
    1 refl c.attempt_alone.ensures.count c.attempt_alone.ensures.sent c.attempt_alone.ensures.waits)

pub returns-clause-tidy : goal.returns-clause-tidy
returns-clause-tidy c =
    offered_tidies c.args.control.now.tables c.attempt_alone.new.control.tables c.args.node c.args.number (handle_state c.args.entry)
    c.requires.order.order c.attempt_alone.ensures.order.order c.requires.request c.requires.entry c.attempt_alone.ensures.messages (To 1)
    (left_for c.args.control.now c.args.node c.args.number c.requires.order c.requires.calls c.requires.request c.args.entry c.requires.entry (λ w. false) (To 1) c.attempt_alone.new.control.tables
    (is_sent_so c.args.control.now c.args.node c.args.number c.requires.order c.requires.calls c.requires.request c.args.entry c.requires.entry (λ w. false)
    (sym c.is_spent.ensures ∙ c.if-is_spent.false) true (sym (ap (λ (s : HubSettings). s.request_overflow) (sym c.settings.ensures) ∙ not-false c.settings.result.request_overflow c.if-not-settings.false))
    (Some 1) c.attempt_alone.new.control.tables refl c.attempt_alone.ensures.messages
    1 refl c.attempt_alone.ensures.count c.attempt_alone.ensures.sent c.attempt_alone.ensures.waits)
    (handle_state c.args.entry) (sym c.requires.entry))

pub returns-clause-whole : goal.returns-clause-whole
returns-clause-whole c x =
    whole_for c.args.control.now c.args.node c.args.number c.requires.order c.requires.calls c.requires.request c.args.entry c.requires.entry (fails_at (fixed_of x c.args.control.now.tables)) (To 1) c.attempt_alone.new.control.tables
    (is_sent_so c.args.control.now c.args.node c.args.number c.requires.order c.requires.calls c.requires.request c.args.entry c.requires.entry (fails_at (fixed_of x c.args.control.now.tables))
    (sym c.is_spent.ensures ∙ c.if-is_spent.false) true (sym (ap (λ (s : HubSettings). s.request_overflow) (sym c.settings.ensures) ∙ not-false c.settings.result.request_overflow c.if-not-settings.false))
    (Some 1) c.attempt_alone.new.control.tables refl c.attempt_alone.ensures.messages
    1 refl c.attempt_alone.ensures.count c.attempt_alone.ensures.sent c.attempt_alone.ensures.waits)
    (handle_state c.args.entry) (sym c.requires.entry) x (λ off w from. refl) c.attempt_alone.new.control.tables refl
