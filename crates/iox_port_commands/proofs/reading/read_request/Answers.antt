use Rattle.std.specs.Prelude.{ℕ, ◌++◌, List, flat_map, refl}
use Rattle.std.proofs.Common.{sym, subst, ap, ◌∙◌}
use Rattle.iox_model.specs.declared.call.Call.TheVariants.{Read}
use Rattle.iox_model.specs.declared.reply.Reply.TheVariants.{Words}
use Rattle.iox_model.specs.WholeCalls.{IsWholeCall}
use Rattle.iox_hub.specs.Hubs.{state_of_hub}
use Rattle.iox_port_commands.proofs.Wanting.{read_may_want}
use Rattle.iox_port_commands.proofs.reading.read_request.Goals as goal

pub returns-in-Ok-clause-whole : goal.returns-in-Ok-clause-whole
returns-in-Ok-clause-whole g c =
    λ x.
    subst (λ (words : List ℕ). IsWholeCall (state_of_hub x c.args.hub.now) c.args.node (Read c.args.number) (Words words) (state_of_hub x c.args.hub.now))
    (sym (c.in-Ok.ensures ∙ ap (λ user. user ++ flat_map g.Q.Element.Words.words c.request.result.now) c.request_header-header.ensures.words))
    (c.request.ensures.whole x)

pub returns-in-Err-clause-wanting : goal.returns-in-Err-clause-wanting
returns-in-Err-clause-wanting g c =
    λ x. read_may_want (state_of_hub x c.args.hub.now) c.args.node c.args.number _ (state_of_hub x c.args.hub.now) refl (c.request.ensures.whole x)
