-- What the calls of a hub's tables answer, as replies of the machine.
use Rattle.std.specs.Prelude.{ℕ, ◌-◌}
use Rattle.iox_model.specs.declared.reply.Reply.TheVariants as replies
use Rattle.iox_model.specs.declared.reply.Refusal.TheVariants.{ExceedsMaxBorrows}
use Rattle.iox_model.specs.Commands.{Reply}
use Rattle.iox_control.specs.declared.received.Came.{Came}
use Rattle.iox_control.specs.declared.received.Came.TheVariants as came
use Rattle.iox_control.specs.declared.received.Received.{Received}
use Rattle.iox_control.specs.declared.received.Received.TheVariants.{Handle, Nothing, AtLimit}

-- what a receive answers
abbrev pub reply_of_receive : Received → Reply
reply_of_receive (Handle number) = replies.Handle number
reply_of_receive Nothing = replies.Nothing
reply_of_receive AtLimit = replies.Refused ExceedsMaxBorrows

-- what it came to, but for the number of the handle
abbrev pub came_of : Received → Came
came_of (Handle number) = came.Handle
came_of Nothing = came.Nothing
came_of AtLimit = came.AtLimit

-- what it came to, where the handle that came has the number before the next one
abbrev pub received_as : Came → ℕ → Received
received_as came.Handle next = Handle (next - 1)
received_as came.Nothing next = Nothing
received_as came.AtLimit next = AtLimit
