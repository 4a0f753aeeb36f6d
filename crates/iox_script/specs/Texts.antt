-- The text of what is answered.
use Rattle.std.specs.Prelude.{ℕ, List, ◌++◌, true, false, codes, decimal, flat_map}
use Rattle.iox_model.specs.declared.reply.Refusal.TheVariants.{UnknownNode, NodeIsDead, NodeIsAlive, UnknownNumber, ForeignNumber, WrongKind, CallsSpent, WrongLength, ExceedsMaxLoanSize, ExceedsMaxLoans, OutOfMemory, WantOfMemory, ExceedsMaxActiveRequests, UnableToDeliver, ExceedsMaxBorrows, UnableToCreatePortTag, UnableToCreateDataSegment, ExceedsMaxSupportedClients, ExceedsMaxSupportedServers, MarkedForDestruction, InvalidNodeId, NodeIdInUse, IncompatibleRequestTypes, IncompatibleResponseTypes, IncompatibleAttributes, LimitTooLarge, ExceedsMaxNumberOfNodes, HasPorts, MessagesUnderWay, GrowingStrategy, HandlerSet, UnsuitableAlignment, TooManyWords, Busy, AtRest, AccessesSpent, NotOnThreads}
use Rattle.iox_model.specs.declared.reply.Reply.TheVariants.{Node, Client, Server, Handle, Sent, Done, Nothing, Words, Answer, Listed}
use Rattle.iox_model.specs.declared.reply.Reply.TheVariants as replies
use Rattle.iox_script.specs.declared.command.LineCause.{LineCause}
use Rattle.iox_script.specs.declared.command.LineCause.TheVariants.{TooLong, UnknownCommand, WrongCount, BadNumber, BadText}
use Rattle.iox_script.specs.declared.parser.ParseError.{ParseError}
use Rattle.iox_script.specs.declared.parser.ParseError.TheVariants as errors
use Rattle.iox_script.specs.declared.parser.ParseError.TheVariants.{Bad}
use Rattle.iox_script.specs.declared.reply.ScriptRefusal.{ScriptRefusal}
use Rattle.iox_script.specs.declared.reply.ScriptRefusal.TheVariants.{ServiceExists, NoService, ExceedsMaximumLength, InvalidContent}
use Rattle.iox_script.specs.declared.reply.ScriptReply.{ScriptReply}
use Rattle.iox_script.specs.declared.reply.ScriptReply.TheVariants.{Service, Refused}
use Rattle.iox_script.specs.Commands.{ServiceRefusal, ServiceReply}

-- the cause against a line, in words
abbrev pub cause_text : LineCause → List ℕ
cause_text TooLong = codes "too long"
cause_text UnknownCommand = codes "unknown command"
cause_text WrongCount = codes "wrong count"
cause_text BadNumber = codes "bad number"
cause_text BadText = codes "bad text"

-- why a line gave no command, in words
abbrev pub error_text : ParseError → List ℕ
error_text (Bad cause) = cause_text cause
error_text errors.WantOfMemory = codes "out of memory"

-- the name of a refusal of the script's rules
abbrev pub script_refusal_text : ScriptRefusal → List ℕ
script_refusal_text ServiceExists = codes "ServiceExists"
script_refusal_text NoService = codes "NoService"
script_refusal_text ExceedsMaximumLength = codes "ExceedsMaximumLength"
script_refusal_text InvalidContent = codes "InvalidContent"

-- the name of a service's refusal; no cause of attributes is ever given
abbrev pub refusal_text : ServiceRefusal → List ℕ
refusal_text UnknownNode = codes "UnknownNode"
refusal_text NodeIsDead = codes "NodeIsDead"
refusal_text NodeIsAlive = codes "NodeIsAlive"
refusal_text UnknownNumber = codes "UnknownNumber"
refusal_text ForeignNumber = codes "ForeignNumber"
refusal_text WrongKind = codes "WrongKind"
refusal_text CallsSpent = codes "CallsSpent"
refusal_text WrongLength = codes "WrongLength"
refusal_text ExceedsMaxLoanSize = codes "ExceedsMaxLoanSize"
refusal_text ExceedsMaxLoans = codes "ExceedsMaxLoans"
refusal_text OutOfMemory = codes "OutOfMemory"
refusal_text WantOfMemory = codes "WantOfMemory"
refusal_text ExceedsMaxActiveRequests = codes "ExceedsMaxActiveRequests"
refusal_text UnableToDeliver = codes "UnableToDeliver"
refusal_text ExceedsMaxBorrows = codes "ExceedsMaxBorrows"
refusal_text UnableToCreatePortTag = codes "UnableToCreatePortTag"
refusal_text UnableToCreateDataSegment = codes "UnableToCreateDataSegment"
refusal_text ExceedsMaxSupportedClients = codes "ExceedsMaxSupportedClients"
refusal_text ExceedsMaxSupportedServers = codes "ExceedsMaxSupportedServers"
refusal_text MarkedForDestruction = codes "MarkedForDestruction"
refusal_text InvalidNodeId = codes "InvalidNodeId"
refusal_text NodeIdInUse = codes "NodeIdInUse"
refusal_text IncompatibleRequestTypes = codes "IncompatibleRequestTypes"
refusal_text IncompatibleResponseTypes = codes "IncompatibleResponseTypes"
refusal_text (IncompatibleAttributes cause) = elim cause [ ]
refusal_text LimitTooLarge = codes "LimitTooLarge"
refusal_text ExceedsMaxNumberOfNodes = codes "ExceedsMaxNumberOfNodes"
refusal_text HasPorts = codes "HasPorts"
refusal_text MessagesUnderWay = codes "MessagesUnderWay"
refusal_text GrowingStrategy = codes "GrowingStrategy"
refusal_text HandlerSet = codes "HandlerSet"
refusal_text UnsuitableAlignment = codes "UnsuitableAlignment"
refusal_text TooManyWords = codes "TooManyWords"
refusal_text Busy = codes "Busy"
refusal_text AtRest = codes "AtRest"
refusal_text AccessesSpent = codes "AccessesSpent"
refusal_text NotOnThreads = codes "NotOnThreads"

-- a space and a number
abbrev pub spaced : ℕ → List ℕ
spaced number = codes " " ++ decimal number

-- what a service answers
abbrev pub service_text : ServiceReply → List ℕ
service_text (Node number) = codes "node" ++ spaced number
service_text (Client number) = codes "client" ++ spaced number
service_text (Server number) = codes "server" ++ spaced number
service_text (Handle number) = codes "handle" ++ spaced number
service_text (Sent count) = codes "sent" ++ spaced count
service_text Done = codes "ok"
service_text Nothing = codes "none"
service_text (Words words) = codes "words" ++ flat_map spaced words
service_text (Answer true) = codes "true"
service_text (Answer false) = codes "false"
service_text (Listed numbers) = codes "list" ++ flat_map spaced numbers
service_text (replies.Refused refusal) = codes "refused " ++ refusal_text refusal

-- the answer to a command
abbrev pub reply_text : ScriptReply → List ℕ
reply_text (Service reply) = service_text reply
reply_text (Refused refusal) = codes "refused " ++ script_refusal_text refusal

-- the answer to a line that is no command, by the line's number
abbrev pub bad_line_text : ℕ → LineCause → List ℕ
bad_line_text number cause = codes "bad line" ++ spaced number ++ codes ": " ++ cause_text cause

-- an answer as a line
abbrev pub as_line : List ℕ → List ℕ
as_line text = text ++ codes "\n"
