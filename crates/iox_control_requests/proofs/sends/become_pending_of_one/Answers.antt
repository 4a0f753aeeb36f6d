use Rattle.std.specs.Prelude.{is_some, ◌+◌, ◌<◌, ◌^◌}
use Rattle.std.proofs.Common.{ap, arith, subst, sym, ◌∙◌}
use Rattle.std.proofs.lemmas.Option.{same_Some}
use Rattle.iox_tables.specs.HubStates.Tables.{HandleState}
use Rattle.iox_tables.specs.HubStates.Ends.{with_call}
use Rattle.iox_control.specs.Controls.{ControlState, with_tables}
use Rattle.iox_control.specs.Entries.{handle_state}
use Rattle.iox_control_requests.proofs.sends.become_pending_of_one.Goals as goal

pub become_pending-requires-clause-there : goal.become_pending-requires-clause-there
become_pending-requires-clause-there c = ap is_some c.requires.there

pub become_pending-requires-clause-kind : goal.become_pending-requires-clause-kind
become_pending-requires-clause-kind c h there =
    ap (λ (k : HandleState). k.kind) (same_Some h (handle_state c.args.entry) (sym there ∙ c.requires.there)) ∙ c.requires.filled

pub count_call-requires : goal.count_call-requires
count_call-requires c =
    let few = c.requires.calls in
    subst (λ (d : ControlState). d.tables.calls + 1 < 2 ^ 64) (sym (c.become_pending.ensures (handle_state c.args.entry) c.requires.there)) (omega (arith, few))

pub returns : goal.returns
returns c =
    c.count_call.ensures
    ∙ ap (λ (d : ControlState). with_tables d (with_call d.tables)) (c.become_pending.ensures (handle_state c.args.entry) c.requires.there)
