use Rattle.std.proofs.Common.{sym, ap, refl, ◌∙◌, not}
use Rattle.iox_control.specs.Settings.{settings_of}
use Rattle.iox_tables.specs.HubMaking.Starts.{no_ports}
use Rattle.iox_hub.specs.Making.{options_of}
use Rattle.iox_hub.proofs.MakingAsked.{large_asked, large_is, longest_is, past_pool, size_is}
use Rattle.iox_hub.proofs.pools.asked_of.Goals as goal

pub returns-in_default : goal.returns-in_default
returns-in_default c x is =
    large_asked x (no_ports (settings_of c.args.settings)) c.args.role (options_of c.args.options) _ refl
    (past_pool x (no_ports (settings_of c.args.settings)) c.args.role (options_of c.args.options) (sym c.in_default.is ∙ c.worst_pool.ensures x))

pub returns-then-may_be : goal.returns-then-may_be
returns-then-may_be c x is = record {
  large = sym (ap not c.if-may_be.true)
      ∙ large_is x (no_ports (settings_of c.args.settings)) c.args.role (options_of c.args.options) c.args.form is c.in-Some.worst c.chosen-size.result c.longest_of-longest.result
      c.message_size-bytes.result (sym c.in-Some.is ∙ c.worst_pool.ensures x) c.chosen-size.ensures c.longest_of-longest.ensures c.message_size-bytes.ensures
      c.may_be.result c.may_be.ensures;
  size = λ e.
      size_is x (no_ports (settings_of c.args.settings)) c.args.role (options_of c.args.options) c.args.form is c.in-Some.worst c.chosen-size.result c.longest_of-longest.result
      c.message_size-bytes.result (sym c.in-Some.is ∙ c.worst_pool.ensures x) c.chosen-size.ensures c.longest_of-longest.ensures c.message_size-bytes.ensures;
  longest = λ e.
      longest_is x (no_ports (settings_of c.args.settings)) c.args.role (options_of c.args.options) c.args.form is c.in-Some.worst c.chosen-size.result c.longest_of-longest.result
      c.message_size-bytes.result (sym c.in-Some.is ∙ c.worst_pool.ensures x) c.chosen-size.ensures c.longest_of-longest.ensures c.message_size-bytes.ensures;
  grows = λ e. sym (c.grows.ensures x);
  strategy = λ e. sym (c.strategy.ensures x);
  loans = λ e. sym (c.loans_of_one.ensures x);
}

pub returns : goal.returns
returns c x is =
    large_asked x (no_ports (settings_of c.args.settings)) c.args.role (options_of c.args.options) _ refl
    (sym (ap not c.if-may_be.false)
    ∙ large_is x (no_ports (settings_of c.args.settings)) c.args.role (options_of c.args.options) c.args.form is c.in-Some.worst c.chosen-size.result c.longest_of-longest.result
    c.message_size-bytes.result (sym c.in-Some.is ∙ c.worst_pool.ensures x) c.chosen-size.ensures c.longest_of-longest.ensures c.message_size-bytes.ensures
    c.may_be.result c.may_be.ensures)
