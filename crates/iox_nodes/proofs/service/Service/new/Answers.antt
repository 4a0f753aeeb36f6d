use Rattle.std.specs.Prelude.{◌≡◌, None, true}
use Rattle.std.proofs.Common.{ap, rules, sym, ◌∙◌}
use Rattle.iox_types.specs.Identifiers.{is_node_id}
use Rattle.iox_port_commands.specs.HandlerWords.{action_in}
use Rattle.iox_model.specs.Runs.{created}
use Rattle.iox_model.specs.Settings.{Limits, Shape}
use Rattle.iox_port_commands.specs.Settings.{settings_of}
use Rattle.iox_port_commands.specs.Shapes.{shape_of}
use Rattle.iox_nodes.specs.Shown.{limits_for}
use Rattle.iox_nodes.proofs.FirstStates.{creation_done, creation_large, creation_wants}
use Rattle.iox_nodes.proofs.service.Service.new.Goals as goal

pub returns-then-is_too_large : goal.returns-then-is_too_large
returns-then-is_too_large g c =
    let q : Shape = shape_of g.Q.Payload.MANY g.Q.Element.Words.WORDS g.Q.Element.Words.words g.QH.Words.words c.args.request in
    let p : Shape = shape_of g.P.Payload.MANY g.P.Element.Words.WORDS g.P.Element.Words.words g.PH.Words.words c.args.response in
    let l : Limits = limits_for (settings_of c.args.settings) q p in
    let valid : is_node_id c.args.id ≡ true = search rules in
    let plain : c.args.asked ≡ None = search rules in
    creation_large l c.args.id c.args.asked valid plain (sym (c.is_too_large.ensures q p) ∙ c.if-is_too_large.true)

pub first-requires-clause-small : goal.first-requires-clause-small
first-requires-clause-small g c request response = sym (c.is_too_large.ensures request response) ∙ c.if-is_too_large.false

pub returns-in-Ok-first : goal.returns-in-Ok-first
returns-in-Ok-first g c =
    let q : Shape = shape_of g.Q.Payload.MANY g.Q.Element.Words.WORDS g.Q.Element.Words.words g.QH.Words.words c.args.request in
    let p : Shape = shape_of g.P.Payload.MANY g.P.Element.Words.WORDS g.P.Element.Words.words g.PH.Words.words c.args.response in
    let l : Limits = limits_for (settings_of c.args.settings) q p in
    let valid : is_node_id c.args.id ≡ true = search rules in
    let plain : c.args.asked ≡ None = search rules in
    creation_done l c.args.id c.args.asked c.in-Ok-first.service valid plain (sym (c.is_too_large.ensures q p) ∙ c.if-is_too_large.false)
    (c.in-Ok-first.ensures ∙ ap (created l action_in) c.in-Ok.ensures.made)

pub returns-in-Err : goal.returns-in-Err
returns-in-Err g c =
    let q : Shape = shape_of g.Q.Payload.MANY g.Q.Element.Words.WORDS g.Q.Element.Words.words g.QH.Words.words c.args.request in
    let p : Shape = shape_of g.P.Payload.MANY g.P.Element.Words.WORDS g.P.Element.Words.words g.PH.Words.words c.args.response in
    let l : Limits = limits_for (settings_of c.args.settings) q p in
    let valid : is_node_id c.args.id ≡ true = search rules in
    let plain : c.args.asked ≡ None = search rules in
    creation_wants l c.args.id c.args.asked valid plain (sym (c.is_too_large.ensures q p) ∙ c.if-is_too_large.false)
