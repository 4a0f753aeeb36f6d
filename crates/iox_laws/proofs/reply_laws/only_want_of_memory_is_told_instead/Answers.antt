use Rattle.iox_laws.proofs.ReplyLaws.Laws.{only_want_is_told_instead, hub_commands_have_one_reply, commands_have_one_reply}
use Rattle.iox_laws.proofs.reply_laws.only_want_of_memory_is_told_instead.Goals as goal

pub returns-clause-calls : goal.returns-clause-calls
returns-clause-calls c = only_want_is_told_instead

pub returns-clause-of_ports : goal.returns-clause-of_ports
returns-clause-of_ports c = hub_commands_have_one_reply

pub returns-clause-of_services : goal.returns-clause-of_services
returns-clause-of_services c = commands_have_one_reply
