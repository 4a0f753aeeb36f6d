-- The send of a request by a node, what it stands for.
use Rattle.std.specs.Prelude.{ℕ, Bool, if◌then◌else◌, List, Option, None}
use Rattle.iox_model.specs.declared.reply.Reply.TheVariants as replies
use Rattle.iox_model.specs.declared.reply.Refusal.TheVariants as refusals
use Rattle.iox_model.specs.declared.way.Way.{Way}
use Rattle.iox_model.specs.Commands.{Reply}
use Rattle.iox_model.specs.Messages.{request_way, response_way}
use Rattle.iox_steps.specs.declared.side.Pushing.{Pushing}
use Rattle.iox_steps.specs.declared.side.Popping.{Popping}
use Rattle.iox_steps.specs.declared.site.Site.{Site}
use Rattle.iox_wire_locals.specs.declared.table.Entry.{Entry}
use Rattle.iox_wire_locals.specs.declared.local.CallRefusal.TheVariants.{ExceedsMaxActiveRequests}
use Rattle.iox_wire_locals.specs.declared.local.Delivery.{Delivery}
use Rattle.iox_wire_locals.specs.declared.local.Ending.TheVariants as endings
use Rattle.iox_wire_locals.specs.declared.local.Local.{Local}
use Rattle.iox_wire_locals.specs.declared.local.Local.TheVariants.{Idle, Ends, SendEmpties, SendLooks, SendOpens, SendPushes, SendEvicts, SendGetsBack, SendEnds}
use Rattle.iox_wire_request_sends.specs.declared.at.RequestAt.{RequestAt}
use Rattle.iox_wire_request_sends.specs.declared.at.RequestAt.TheVariants as at
use Rattle.iox_wire_request_sends.specs.declared.at.RequestReply.{RequestReply}
use Rattle.iox_wire_request_sends.specs.declared.at.RequestReply.TheVariants as request_replies
use Rattle.iox_wire_request_sends.specs.declared.target.RequestTerms.{RequestTerms}
use Rattle.iox_wire_request_sends.specs.declared.target.Target.{Target}
use Rattle.iox_wire_request_sends.specs.Targets.{full_ways, servers_of, states_to, ways_to, with_room}

-- A send of a request: where it is, its loan and whether its own call made that, what it was told
-- of the servers, the one that it visits and those left in this round, those seen full, the way of
-- its last delivery if nothing was pushed out there though it may have been, to how many it
-- delivered, and where what it accesses stands: a queue and a request state.
pub record RequestDispatch : Type 0 where
  pub local : Local
  pub loan : Entry
  pub copied : Bool
  pub terms : RequestTerms
  pub targets : List Target
  pub target : Target
  pub left : List Target
  pub full : List ℕ
  pub last : Option Way
  pub count : ℕ
  pub site : Site
  pub state : ℕ
  pub room : ℕ

-- what stands beside the name of a place
pub record Beside : Type 0 where
  pub loan : Entry
  pub copied : Bool
  pub targets : List Target
  pub target : Target
  pub left : List Target
  pub full : List ℕ
  pub last : Option Way
  pub count : ℕ
  pub pushing : Pushing
  pub popping : Popping

-- a loaned request goes to these servers
abbrev pub delivery_to : Entry → Bool → List Target → Delivery
delivery_to e copied targets = record { loan = e; copied = copied; to = servers_of targets }

-- what is sent, the way to the server that is visited, and the ways left with room
abbrev pub delivery_of : Beside → Delivery
delivery_of b = delivery_to b.loan b.copied b.targets

-- the way to the server that is visited
abbrev pub way_of : Beside → Way
way_of b = request_way b.loan.port b.target.server

-- the ways left, to servers with room
abbrev pub ways_left : Beside → List Way
ways_left b = ways_to b.loan.port (with_room b.full b.left)

-- the place of a call that a name and what stands beside it stand for
abbrev pub local_of : RequestAt → Beside → Local
local_of at.Rest b = Idle
local_of at.Refuses b = Ends (endings.FailsToSend b.loan b.copied ExceedsMaxActiveRequests)
local_of at.TellsNobody b = SendEnds (delivery_of b) None 0
local_of at.Empties b =
    SendEmpties (delivery_of b) (way_of b) b.popping (ways_to b.loan.port b.left)
local_of at.Looks b =
    SendLooks (delivery_of b) (way_of b) b.pushing (ways_to b.loan.port b.left)
    (full_ways b.loan.port b.full)
local_of at.Opens b =
    SendOpens (delivery_of b) (response_way b.loan.port b.loan.lane b.target.server)
    (states_to b.loan.port b.loan.lane b.left)
    (full_ways b.loan.port b.full)
local_of at.Pushes b =
    SendPushes (delivery_of b) b.last (way_of b) b.pushing (ways_left b) b.count
local_of at.Evicts b = SendEvicts (delivery_of b) (way_of b) b.pushing (ways_left b) b.count
local_of at.GetsBack b = SendGetsBack (delivery_of b) (way_of b) b.pushing (ways_left b) b.count

-- what a send answers that was sent to so many
abbrev pub told_sent : Entry → Bool → ℕ → RequestReply
told_sent e copied count =
    if copied then request_replies.Handle e.number else request_replies.Sent count

-- the machine's name of a reply
abbrev pub reply_in : RequestReply → Reply
reply_in (request_replies.Sent count) = replies.Sent count
reply_in (request_replies.Handle number) = replies.Handle number
reply_in request_replies.ExceedsMaxActiveRequests =
    replies.Refused refusals.ExceedsMaxActiveRequests
reply_in request_replies.UnableToDeliver = replies.Refused refusals.UnableToDeliver
