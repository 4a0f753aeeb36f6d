-- The send of a response by a node, what it stands for.
use Rattle.std.specs.Prelude.{Bool, [], ◌∷◌, None}
use Rattle.iox_model.specs.declared.reply.Reply.TheVariants as replies
use Rattle.iox_model.specs.declared.reply.Refusal.TheVariants as refusals
use Rattle.iox_model.specs.Commands.{Reply}
use Rattle.iox_steps.specs.declared.side.Pushing.{Pushing}
use Rattle.iox_steps.specs.declared.side.Popping.{Popping}
use Rattle.iox_wire_locals.specs.declared.table.Entry.{Entry}
use Rattle.iox_wire_locals.specs.declared.local.Delivery.{Delivery}
use Rattle.iox_wire_locals.specs.declared.local.Ending.TheVariants as endings
use Rattle.iox_wire_locals.specs.declared.local.Local.{Local}
use Rattle.iox_wire_locals.specs.declared.local.Local.TheVariants.{Idle, Ends, SendAsks, SendEmpties, SendLooks, SendPushes, SendEvicts, SendGetsBack}
use Rattle.iox_wire_locals.specs.Tables.{state_in}
use Rattle.iox_wire_sends.specs.declared.at.RespondAt.{RespondAt}
use Rattle.iox_wire_sends.specs.declared.at.RespondAt.TheVariants as at
use Rattle.iox_wire_sends.specs.declared.at.RespondReply.{RespondReply}
use Rattle.iox_wire_sends.specs.declared.at.RespondReply.TheVariants as respond_replies
use Rattle.iox_wire_sends.specs.declared.terms.ResponseTerms.{ResponseTerms}

-- A send of a response: where it is, its loan and whether its own call made that, and what it was
-- told about its way.
pub record Dispatch : Type 0 where
  pub local : Local
  pub loan : Entry
  pub copied : Bool
  pub terms : ResponseTerms

-- what stands beside the name of a place
pub record Beside : Type 0 where
  pub loan : Entry
  pub copied : Bool
  pub pushing : Pushing
  pub popping : Popping

-- a loaned response goes to the client of its request
abbrev pub delivery_to : Entry → Bool → Delivery
delivery_to e copied = record { loan = e; copied = copied; to = e.client ∷ [] }

-- what is sent
abbrev pub delivery_of : Beside → Delivery
delivery_of b = delivery_to b.loan b.copied

-- the place of a call that a name and what stands beside it stand for
abbrev pub local_of : RespondAt → Beside → Local
local_of at.Rest b = Idle
local_of at.Tells b = Ends (endings.Sends b.loan b.copied 0)
local_of at.Asks b = SendAsks (delivery_of b)
local_of at.Empties b = SendEmpties (delivery_of b) (state_in b.loan) b.popping []
local_of at.Looks b = SendLooks (delivery_of b) (state_in b.loan) b.pushing [] []
local_of at.Pushes b = SendPushes (delivery_of b) None (state_in b.loan) b.pushing [] 0
local_of at.Evicts b = SendEvicts (delivery_of b) (state_in b.loan) b.pushing [] 1
local_of at.GetsBack b = SendGetsBack (delivery_of b) (state_in b.loan) b.pushing [] 1

-- the machine's name of a reply
abbrev pub reply_in : RespondReply → Reply
reply_in respond_replies.Done = replies.Done
reply_in respond_replies.UnableToDeliver = replies.Refused refusals.UnableToDeliver
