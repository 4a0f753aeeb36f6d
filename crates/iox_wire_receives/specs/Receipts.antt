-- A receive of a node, what it stands for.
use Rattle.std.specs.Prelude.{ℕ, Bool, List}
use Rattle.iox_model.specs.declared.reply.Reply.TheVariants as replies
use Rattle.iox_model.specs.declared.reply.Refusal.TheVariants as refusals
use Rattle.iox_model.specs.Commands.{Reply}
use Rattle.iox_steps.specs.declared.side.Pushing.{Pushing}
use Rattle.iox_steps.specs.declared.side.Popping.{Popping}
use Rattle.iox_steps.specs.declared.site.Site.{Site}
use Rattle.iox_wire_locals.specs.declared.local.Ending.TheVariants as endings
use Rattle.iox_wire_locals.specs.declared.local.Local.{Local}
use Rattle.iox_wire_locals.specs.declared.local.Local.TheVariants.{Idle, Ends, ReceiveLooks, ReceivePops, ReceiveLoads, ReceiveAsks, ReceiveReturns}
use Rattle.iox_wire_locals.specs.declared.local.Visit.{Visit}
use Rattle.iox_wire_receives.specs.declared.at.ReceiveAt.{ReceiveAt}
use Rattle.iox_wire_receives.specs.declared.at.ReceiveAt.TheVariants as at
use Rattle.iox_wire_receives.specs.declared.at.ReceiveReply.{ReceiveReply}
use Rattle.iox_wire_receives.specs.declared.at.ReceiveReply.TheVariants as receive_replies
use Rattle.iox_wire_receives.specs.declared.source.Source.{Source}
use Rattle.iox_wire_receives.specs.declared.source.ReceiveTerms.{ReceiveTerms}
use Rattle.iox_wire_receives.specs.Sources.{ways_of}

-- The ways that a receive still visits, and for how many there is room.
pub record Visits : Type 0 where
  pub left : List Source
  pub room : ℕ

-- A receive: where it is, who receives, the way that it visits and those that follow, what it took,
-- and where what it accesses stands: a queue, and the words of a header or a request state. Last for how
-- many ways it has room.
pub record Receipt : Type 0 where
  pub local : Local
  pub visit : Visit
  pub terms : ReceiveTerms
  pub source : Source
  pub left : List Source
  pub waiting : Bool
  pub slot : ℕ
  pub header : List ℕ
  pub site : Site
  pub place : ℕ
  pub room : ℕ

-- what stands beside the name of a place
pub record Beside : Type 0 where
  pub visit : Visit
  pub source : Source
  pub left : List Source
  pub waiting : Bool
  pub again : Bool
  pub slot : ℕ
  pub header : List ℕ
  pub pushing : Pushing
  pub popping : Popping

-- the place of a call that a name and what stands beside it stand for
abbrev pub local_of : ReceiveAt → Beside → Local
local_of at.Rest b = Idle
local_of at.TellsNothing b = Ends endings.Nothing
local_of at.Looks b = ReceiveLooks b.visit b.source.way b.popping (ways_of b.left) b.waiting
local_of at.Pops b = ReceivePops b.visit b.source.way b.again b.popping (ways_of b.left) b.waiting
local_of at.Loads b =
    ReceiveLoads b.visit b.source.way b.slot b.header (ways_of b.left) b.waiting
local_of at.Asks b = ReceiveAsks b.visit b.source.way b.slot b.header (ways_of b.left) b.waiting
local_of at.Returns b =
    ReceiveReturns b.visit b.source.way b.slot b.pushing (ways_of b.left) b.waiting

-- the machine's name of a reply
abbrev pub reply_in : ReceiveReply → Reply
reply_in receive_replies.Nothing = replies.Nothing
reply_in receive_replies.ExceedsMaxBorrows = replies.Refused refusals.ExceedsMaxBorrows
reply_in (receive_replies.Handle number) = replies.Handle number
