use Rattle.std.proofs.Common.{ap, sym, ◌∙◌}
use Rattle.std.proofs.lemmas.Bool.{ne_eqb}
use Rattle.iox_model.specs.declared.way.RequestState.{RequestState}
use Rattle.iox_model.specs.Messages.{names}
use Rattle.iox_control.proofs.Writes.{stays_closed}
use Rattle.iox_control.proofs.open_steps.close_open.Goals as goal

pub returns-else-id-label : goal.returns-else-id-label
returns-else-id-label c =
    stays_closed c.args.pipe.now c.args.label.lane c.args.label.request
    (ap (λ (r : RequestState). names r c.args.label.request) (sym c.state.ensures ∙ c.in-Named.is) ∙ ne_eqb c.in-Named.id c.args.label.request c.if-id-label.false)

pub returns-in-Closed : goal.returns-in-Closed
returns-in-Closed c =
    stays_closed c.args.pipe.now c.args.label.lane c.args.label.request
    (ap (λ (r : RequestState). names r c.args.label.request) (sym c.state.ensures ∙ c.in-Closed.is))
