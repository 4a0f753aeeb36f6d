use Rattle.std.specs.Prelude.{None, Ok, Err}
use Rattle.std.specs.declared.convert.Infallible.{Infallible}
use Rattle.std.proofs.Common.{ap₂, subst, ◌∙◌}
use Rattle.iox_nodes.specs.Settings.{settings_of}
use Rattle.iox_nodes.specs.Served.{IsCreated}
use Rattle.iox_nodes.specs.Shown.{limits_for}
use Rattle.iox_session.proofs.Starting.{made_is_of_script}
use Rattle.iox_session.proofs.service.Service.new.Goals as goal

pub invariant_of-result : goal.invariant_of-result
invariant_of-result c =
    made_is_of_script c.args.request_overflow c.args.response_overflow c.args.id c.in-Ok.nodes
    (subst (λ l. IsCreated {C = Infallible} l c.args.id None (Ok c.in-Ok.nodes))
    (ap₂ (limits_for (settings_of c.settings-settings.result)) c.words-request.ensures.shape c.words-response.ensures.shape ∙ c.settings-settings.ensures)
    c.in-Ok.ensures)

pub returns-in-Ok : goal.returns-in-Ok
returns-in-Ok c =
    subst (λ l. IsCreated {C = Infallible} l c.args.id None (Ok c.in-Ok.nodes))
    (ap₂ (limits_for (settings_of c.settings-settings.result)) c.words-request.ensures.shape c.words-response.ensures.shape ∙ c.settings-settings.ensures)
    c.in-Ok.ensures

pub returns-in-Err : goal.returns-in-Err
returns-in-Err c =
    subst (λ l. IsCreated {C = Infallible} l c.args.id None (Err c.in-Err.refusal))
    (ap₂ (limits_for (settings_of c.settings-settings.result)) c.words-request.ensures.shape c.words-response.ensures.shape ∙ c.settings-settings.ensures)
    c.in-Err.ensures
