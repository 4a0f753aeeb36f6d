-- Which places a receive knows of, and what a step of it does.
use Rattle.std.specs.Prelude.{◌≡◌, ◌+◌, ◌-◌, ◌<◌, ◌≤◌, ◌^◌, ℕ, List, length, Option, option_map}
use Rattle.iox_model.specs.Commands.{Reply}
use Rattle.iox_model.specs.Messages.{response_way}
use Rattle.iox_word_map.specs.WordMaps.{MessageQueue, ReturningQueue}
use Rattle.iox_wire_words.specs.Programs.{site_of, state_place, word_place}
use Rattle.iox_wire_locals.specs.declared.local.Local.{Local}
use Rattle.iox_wire_locals.specs.declared.local.Local.TheVariants.{ReceiveLooks, ReceivePops, ReceiveLoads, ReceiveAsks, ReceiveReturns}
use Rattle.iox_wire_locals.specs.declared.local.Visit.{Visit}
use Rattle.iox_wire_locals.specs.declared.seat.Seat.{Seat}
use Rattle.iox_wire_locals.specs.Tables.{Setting, region_word}
use Rattle.iox_wire_locals.specs.NewLoans.{lane_in, received_length}
use Rattle.iox_wire_locals.specs.Lendings.{next_handle}
use Rattle.iox_wire_locals.specs.Courses.{placed}
use Rattle.iox_wire_locals.specs.Settlements.{reply_of}
use Rattle.iox_wire_locals.specs.Steps.{closed, ending_at, next, tells}
use Rattle.iox_wire_seats.specs.Counts.{IsBelow}
use Rattle.iox_wire_seats.specs.Rows.{AreBelow}
use Rattle.iox_wire_seats.specs.Seats.{Placed}
use Rattle.iox_wire_receives.specs.declared.at.ReceiveAt.{ReceiveAt}
use Rattle.iox_wire_receives.specs.declared.at.ReceiveAt.TheVariants as at
use Rattle.iox_wire_receives.specs.declared.at.ReceiveReply.{ReceiveReply}
use Rattle.iox_wire_receives.specs.declared.source.Source.{Source}
use Rattle.iox_wire_receives.specs.declared.source.ReceiveTerms.{ReceiveTerms}
use Rattle.iox_wire_receives.specs.Sources.{AreSources, AreWithin, IsSource, IsWithin}
use Rattle.iox_wire_receives.specs.Receipts.{Receipt, reply_in}

-- ---- what a receive keeps to

-- what it visits is in memory
abbrev pub AreVisited : ReceiveAt → Visit → ReceiveTerms → Source → List Source → Type 0
AreVisited at.Rest v t s left = Unit {0}
AreVisited at.TellsNothing v t s left = Unit {0}
AreVisited name v t s left =
    IsWithin t (received_length v) s × AreWithin t (received_length v) left

-- a header is loaded word by word, and whole as a request state is asked
abbrev pub HasHeader : ReceiveAt → Visit → (header : List ℕ) → (place capacity : ℕ) → Type 0
HasHeader at.Rest v header place capacity = Unit {0}
HasHeader at.Loads v header place capacity =
    (length header < received_length v) × (place + received_length v < 2 ^ 64)
    × (received_length v ≤ capacity)
HasHeader at.Asks v header place capacity =
    (length header ≡ received_length v) × (received_length v ≤ capacity)
HasHeader name v header place capacity = received_length v ≤ capacity

-- ---- the places that it knows of

-- What it was told about the node and of the wire is so.
pub record KnowsTerms (p : Setting) (x : Seat) (t : ReceiveTerms) : Type 0 where
  pub number : t.number ≡ next_handle p x
  pub fire_and_forget : t.fire_and_forget ≡ p.limits.fire_and_forget

-- and so is what it was told about its ways
pub record Knows (p : Setting) (x : Seat) (r : Receipt) : Type 0 where
  pub terms : KnowsTerms p x r.terms
  pub source : IsSource p r.terms (received_length r.visit) r.source
  pub left : AreSources p r.terms (received_length r.visit) r.left

-- the places that it knows of are those of the words that it still accesses
abbrev pub AreAimed : Setting → Seat → Local → Receipt → Type 0
AreAimed p x (ReceiveLooks v w place left waiting) r =
    Knows p x r × (r.site ≡ site_of p.layout (MessageQueue w))
AreAimed p x (ReceivePops v w again place left waiting) r =
    Knows p x r × (r.site ≡ site_of p.layout (MessageQueue w))
AreAimed p x (ReceiveLoads v w slot header left waiting) r =
    Knows p x r
    × ((k : ℕ) → k < received_length v
    → r.place + k ≡ word_place p.layout w.sender (region_word p w.sender slot k))
AreAimed p x (ReceiveAsks v w slot header left waiting) r =
    Knows p x r
    × (r.place ≡ state_place p.layout (response_way w.sender (lane_in v w header) w.receiver))
AreAimed p x (ReceiveReturns v w slot place left waiting) r =
    Knows p x r × (r.site ≡ site_of p.layout (ReturningQueue w))
AreAimed p x local r = Unit {0}

-- the places that it knows of are those of its place
abbrev pub IsAimed : Setting → Seat → Receipt → Type 0
IsAimed p x r = AreAimed p x r.local r

-- the slot that it took is one of its sender's pool, and the lane that the header tells one of its
-- client
abbrev pub TellsOfSource : Setting → Local → Type 0
TellsOfSource p (ReceiveLoads v w slot header left waiting) = slot < (p.port w.sender).pool
TellsOfSource p (ReceiveAsks v w slot header left waiting) =
    lane_in v w header < p.layout.sizes.lanes w.sender
TellsOfSource p local = Unit {0}

-- ---- what the seat beside it keeps

-- The node may have one handle more, of that number.
pub record MayReceive (x : Placed) (number : ℕ) : Type 0 where
  pub room : 0 < x.room
  pub newer : AreBelow number x.seat.table
  pub handles : x.seat.handles_made + 1 < 2 ^ 64

-- of the way from which it takes, one message more may be a handle
abbrev pub MayTakeOneMore : Seat → Local → Type 0
MayTakeOneMore x (ReceivePops v w again place left waiting) = IsBelow (2 ^ 64 - 1) w x.borrowed
MayTakeOneMore x (ReceiveLoads v w slot header left waiting) = IsBelow (2 ^ 64 - 1) w x.borrowed
MayTakeOneMore x (ReceiveAsks v w slot header left waiting) = IsBelow (2 ^ 64 - 1) w x.borrowed
MayTakeOneMore x (ReceiveReturns v w slot place left waiting) = IsBelow (2 ^ 64 - 1) w x.borrowed
MayTakeOneMore x local = Unit {0}

-- ---- a step

-- After an access that found this the node is the next, the other numbers being as they may,
abbrev pub GoesOn : Placed → Receipt → ℕ → Placed → Receipt → Type 0
GoesOn x r seen y s =
    (p : Setting) → IsAimed p x.seat r → placed y.seat s.local ≡ next p (placed x.seat r.local) seen

-- it answers this if the receive is over,
abbrev pub Answers : Placed → Receipt → ℕ → Option ReceiveReply → Type 0
Answers x r seen reply =
    (p : Setting) → IsAimed p x.seat r
    → tells p (placed x.seat r.local) seen ≡ option_map reply_in reply

-- and it knows the places of what it accesses next.
abbrev pub StaysAimed : Placed → Receipt → Placed → Receipt → Type 0
StaysAimed x r y s =
    (p : Setting) → IsAimed p x.seat r → TellsOfSource p s.local → IsAimed p y.seat s

-- a call that is there now, and is over if it has no access left
abbrev pub after : Setting → Seat → Seat
after p y = closed p y (ending_at y.local)

-- what it answers then
abbrev pub answered : Setting → Seat → Option Reply
answered p y = option_map (reply_of p y) (ending_at y.local)

-- ---- where it is

-- it looks
abbrev pub IsLooking : Local → Type 0
IsLooking (ReceiveLooks v w place left waiting) = Unit {0}
IsLooking local = ⊥

-- it pops
abbrev pub IsPopping : Local → Type 0
IsPopping (ReceivePops v w again place left waiting) = Unit {0}
IsPopping local = ⊥

-- it loads a header
abbrev pub IsLoading : Local → Type 0
IsLoading (ReceiveLoads v w slot header left waiting) = Unit {0}
IsLoading local = ⊥

-- it asks for a request state
abbrev pub IsAsking : Local → Type 0
IsAsking (ReceiveAsks v w slot header left waiting) = Unit {0}
IsAsking local = ⊥

-- it gives back
abbrev pub IsReturning : Local → Type 0
IsReturning (ReceiveReturns v w slot place left waiting) = Unit {0}
IsReturning local = ⊥

-- it visits a way
abbrev pub IsOnWay : Local → Type 0
IsOnWay (ReceiveLooks v w place left waiting) = Unit {0}
IsOnWay (ReceivePops v w again place left waiting) = Unit {0}
IsOnWay (ReceiveLoads v w slot header left waiting) = Unit {0}
IsOnWay (ReceiveAsks v w slot header left waiting) = Unit {0}
IsOnWay (ReceiveReturns v w slot place left waiting) = Unit {0}
IsOnWay local = ⊥

-- it is the same receive, on the same way
pub record IsOnSameWay (r s : Receipt) : Type 0 where
  pub visit : s.visit ≡ r.visit
  pub terms : s.terms ≡ r.terms
  pub source : s.source ≡ r.source
  pub left : s.left ≡ r.left
  pub room : s.room ≡ r.room
