-- What a push answers, by the kind of its queue.
use Rattle.std.specs.Prelude.{true, false, Some, None}
use Rattle.iox_steps.specs.declared.site.QueueKind.{QueueKind}
use Rattle.iox_steps.specs.declared.site.QueueKind.TheVariants.{Index, Overflowing}
use Rattle.iox_steps.specs.declared.push.PushReply.{PushReply}
use Rattle.iox_steps.specs.declared.push.PushReply.TheVariants as push
use Rattle.iox_steps.specs.declared.side.QueueReply.{QueueReply}
use Rattle.iox_steps.specs.declared.side.QueueReply.TheVariants.{Pushed, HandedBack}

-- the reply of a push that ended so, in a queue of this kind
abbrev pub push_reply : QueueKind → PushReply → QueueReply
-- was there room?
push_reply Index push.Pushed = Pushed true
push_reply Index (push.PushedOut old) = Pushed true
push_reply Index (push.Refused value) = Pushed false
-- the value that was pushed out, or the own one that was not pushed
push_reply Overflowing push.Pushed = HandedBack None
push_reply Overflowing (push.PushedOut old) = HandedBack (Some old)
push_reply Overflowing (push.Refused value) = HandedBack (Some value)
