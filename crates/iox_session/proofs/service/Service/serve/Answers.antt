use Rattle.iox_words.specs.Numbers.{one_word}
use Rattle.iox_nodes.specs.HandlerWords.{following, shown_by}
use Rattle.iox_nodes.specs.Given.{command_given}
use Rattle.iox_nodes.specs.Shown.{service_of}
use Rattle.iox_session.specs.Answers.{no_cause}
use Rattle.iox_session.proofs.Serving.{done_so, lacks_so, of_script_after, told_served, told_stays, told_wants}
use Rattle.iox_session.proofs.service.Service.serve.Goals as goal

pub invariant_of-self : goal.invariant_of-self
invariant_of-self c =
    of_script_after c.self.inside.nodes c.try_serve.new.self c.args.command (command_given one_word one_word (shown_by following) no_cause c.asked-asked.result)
    c.try_serve.result c.asked-asked.ensures c.requires.asked
    (done_so (service_of c.self.inside.nodes) (service_of c.try_serve.new.self) c.asked-asked.result c.try_serve.result c.try_serve.ensures.answered)
    c.try_serve.ensures.unchanged c.self.invariant

pub returns-clause-served : goal.returns-clause-served
returns-clause-served c =
    rw (← c.self.view_is)
    (told_served c.self.inside.nodes c.try_serve.new.self c.args.command (command_given one_word one_word (shown_by following) no_cause c.asked-asked.result)
    c.try_serve.result c.makes_large-large.result c.told.result c.asked-asked.ensures
    (done_so (service_of c.self.inside.nodes) (service_of c.try_serve.new.self) c.asked-asked.result c.try_serve.result c.try_serve.ensures.answered)
    (lacks_so (service_of c.self.inside.nodes) c.asked-asked.result c.try_serve.result c.try_serve.ensures.wanting)
    c.try_serve.ensures.unchanged c.self.invariant c.makes_large-large.ensures c.told.ensures)

pub returns-clause-unchanged : goal.returns-clause-unchanged
returns-clause-unchanged c =
    rw (← c.self.view_is)
    (told_stays c.self.inside.nodes c.try_serve.new.self c.try_serve.result c.makes_large-large.result c.told.result c.try_serve.ensures.unchanged
    c.told.ensures)

pub returns-clause-memory : goal.returns-clause-memory
returns-clause-memory c =
    told_wants (service_of c.self.inside.nodes) c.args.command (command_given one_word one_word (shown_by following) no_cause c.asked-asked.result) c.try_serve.result
    c.makes_large-large.result c.told.result c.asked-asked.ensures c.self.invariant
    (lacks_so (service_of c.self.inside.nodes) c.asked-asked.result c.try_serve.result c.try_serve.ensures.wanting)
    c.told.ensures
