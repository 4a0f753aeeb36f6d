-- What a service is asked in a session is played.
use Rattle.std.specs.Prelude.{◌≡◌, Option, Some, refl}
use Rattle.std.specs.Option.{option_map}
use Rattle.std.proofs.Common.{sym, subst}
use Rattle.iox_nodes.specs.Shown.{ServiceTables}
use Rattle.iox_script.specs.declared.command.ScriptCommand.TheVariants as commands
use Rattle.iox_script.specs.declared.reply.ScriptReply.TheVariants as answers
use Rattle.iox_script.specs.Commands.{ServiceCommand, ServiceReply}
use Rattle.iox_session.specs.Sessions.{IsPlayed, IsPlayedBy, ServiceAnswers}
use Rattle.iox_session.specs.Shown.{SessionTables, script_state, session_of}

pub played_so : (v : SessionTables) (s s' : ServiceTables) (command : ServiceCommand) (answer : ServiceReply) → v.service ≡ Some s
    → ServiceAnswers (script_state s) command answer (script_state s')
    → IsPlayed (session_of v) (commands.Service command) (answers.Service answer) (session_of (record v { service = Some s' }))
played_so v s s' command answer is served =
    subst
    (λ (o : Option ServiceTables). IsPlayedBy (option_map script_state o) (session_of v) (commands.Service command) (answers.Service answer)
    (session_of (record v { service = Some s' })))
    (sym is)
    (record { answer = answer; told = refl; state = script_state s'; left = refl; served = served })
