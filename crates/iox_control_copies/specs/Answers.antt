-- What the copy of a response answers, and what it leaves of the tables of a hub.
use Rattle.std.specs.Prelude.{◌≡◌, ℕ, Bool, true, false, not, ◌&&◌, List, [], ◌∷◌, Option, Some, None}
use Rattle.iox_model.specs.declared.reply.Refusal.TheVariants as refusals
use Rattle.iox_model.specs.declared.reply.Reply.TheVariants as replies
use Rattle.iox_model.specs.declared.way.Way.{Way}
use Rattle.iox_model.specs.Commands.{Payload, Reply}
use Rattle.iox_model.specs.Messages.{response_way}
use Rattle.iox_lanes.specs.Lanes.{is_full}
use Rattle.iox_tables.specs.HubStates.Tables.{HubTables, PoolState}
use Rattle.iox_tables.specs.HubStates.Ways.{lane_on}
use Rattle.iox_tables.specs.HubStates.Changes.{with_lanes}
use Rattle.iox_tables.specs.HubStates.Ends.{with_call, with_loan}
use Rattle.iox_tables.specs.HubStates.States.{Given}
use Rattle.iox_tables.specs.HubBooks.Keeps.{delivers}
use Rattle.iox_hub_delivering.specs.Deliveries.{HasHandedOver}
use Rattle.iox_tables.specs.HubLending.Lending.{MayLend}
use Rattle.iox_tables.specs.HubLoans.CopySends.{is_lender_awaited}
use Rattle.iox_tables.specs.HubLoans.Lenders.{Lender}
use Rattle.iox_tables.specs.HubLoans.Loans.{loaned_handle, loaned_slot, with_loaned_slot}
use Rattle.iox_tables.specs.HubLoans.Slots.{with_contents}
use Rattle.iox_hub_ports.specs.Ports.{on_way, pushed}
use Rattle.iox_slots.specs.Pools.{Takes}
use Rattle.iox_control.specs.Controls.{ControlState, with_tables}
use Rattle.iox_control_lending.specs.declared.asked.Asked.{Asked}
use Rattle.iox_control_lending.specs.declared.asked.Place.{Place}
use Rattle.iox_control_lending.specs.Lends.{FindsDry, IsGotBack, IsRefused, IsLoanRefusal, refusal_of}
use Rattle.iox_control_responses.specs.Responses.{pools_after_push}
use Rattle.iox_control_copies.specs.declared.answered.Answered.{Answered}
use Rattle.iox_control_copies.specs.declared.answered.Answered.TheVariants.{Done, Refused, OutOfMemory, Undelivered}

-- ---- what is replied

-- what the copy of a response answers
abbrev pub reply_of_copy : Answered → Reply
reply_of_copy (Done place) = replies.Done
reply_of_copy (Refused r) = replies.Refused (refusal_of r)
reply_of_copy OutOfMemory = replies.Refused refusals.OutOfMemory
reply_of_copy Undelivered = replies.Refused refusals.UnableToDeliver

-- ---- where it goes

-- the way of a lender's response to its client
abbrev pub way_of : Lender → Way
way_of y = response_way y.client y.lane y.port.number

-- the response may not wait there: as many wait as may, and none of them is pushed out
abbrev pub is_shut_for : HubTables → Lender → Bool
is_shut_for t y =
    on_way is_full true t.ports (way_of y) && not t.settings.response_overflow

-- the response is put in line: its client waits for it, and it may wait there
abbrev pub goes_in_line : HubTables → Lender → Bool
goes_in_line t y = is_lender_awaited t y && not (is_shut_for t y)

-- its send fails: its client waits for it, it may not wait there, and that is a failure
abbrev pub fails_for : HubTables → Lender → Bool → Bool
fails_for t y fails = is_lender_awaited t y && (is_shut_for t y && fails)

-- ---- the words

-- the words of a copy, where it is put in line
abbrev pub given_after_copy : Given → Payload → Answered → Given
given_after_copy x p (Done (Some place)) =
    with_contents x place.pool place.slot
    (record { user = x.response.user; payload = p.words; filled = 0 })
given_after_copy x p (Done None) = x
given_after_copy x p (Refused r) = x
given_after_copy x p OutOfMemory = x
given_after_copy x p Undelivered = x

-- ---- what is left

-- a loan of the port is counted, and its call; so is its send unless that fails
abbrev pub with_copy_lost : Bool → HubTables → ℕ → HubTables
with_copy_lost true t n = with_call (with_loan t n)
with_copy_lost false t n = with_call (with_call (with_loan t n))

-- the response is in that slot and last in line, and the same is counted; but for who has which slot
abbrev pub with_copy_sent : HubTables → Lender → ℕ → ℕ → HubTables
with_copy_sent t y k slot =
    with_copy_lost false
    (with_lanes (delivers t.settings.response_overflow slot) (with_loaned_slot t y k slot)
    (way_of y ∷ [])) y.port.number

-- A loan of the port is refused by no test. All is got back, and then the slot may be lent.
pub record MayBeCopied (c : ControlState) (y : Lender) (a : Asked) (slot : ℕ) (between : ControlState)
    : Type 0 where
  pub passes : IsLoanRefusal c.tables y a None
  pub back : IsGotBack c y.port between
  pub may : MayLend between.tables y slot

-- Nobody gets the response: it is lost, or its send fails.
pub record IsLost (c : ControlState) (y : Lender) (a : Asked) (fails : Bool) (new : ControlState)
    : Type 0 where
  pub slot : ℕ
  pub between : ControlState
  pub may : MayBeCopied c y a slot between
  pub left : new ≡ with_tables between (with_copy_lost fails between.tables y.port.number)

-- The response waits for its client, whose lane has it in place of the loan.
pub record IsInLine (c : ControlState) (y : Lender) (a : Asked) (place : Place) (new : ControlState)
    : Type 0 where
  pub pool : place.pool ≡ y.port.pool
  pub between : ControlState
  pub may : MayBeCopied c y a place.slot between
  pub left :
      new
      ≡ with_tables between
      (record (with_copy_sent between.tables y a.elements place.slot) { pools = new.tables.pools })
  pub handed :
      HasHandedOver between.tables.settings.response_overflow (lane_on between.tables.ports)
      (way_of y ∷ []) (loaned_handle between.tables y false place.slot)
      (with_loaned_slot between.tables y a.elements place.slot).pools new.tables.pools

-- what the copy of a lender's response comes to, and leaves
abbrev pub CopyComesTo :
    ControlState → Lender → Asked → Bool → Answered → ControlState → Type 0
CopyComesTo c y a fails (Done (Some place)) new =
    (goes_in_line c.tables y ≡ true) × IsInLine c y a place new
CopyComesTo c y a fails (Done None) new =
    (goes_in_line c.tables y ≡ false) × (fails_for c.tables y fails ≡ false)
    × IsLost c y a false new
CopyComesTo c y a fails Undelivered new =
    (fails_for c.tables y fails ≡ true) × IsLost c y a true new
CopyComesTo c y a fails (Refused r) new = IsRefused c y a (refusal_of r) new
CopyComesTo c y a fails OutOfMemory new = FindsDry c y a new

-- ---- only for proofs of this crate

-- The response is in that slot, and its loan is counted. It is put last in line, what is pushed out
-- has one holder less, and its call and its send are counted.
abbrev pub with_copy_pushed : ControlState → Lender → ℕ → ControlState
with_copy_pushed c y slot =
    let t : HubTables = with_loan c.tables y.port.number in
    with_tables c
    (with_call (with_call (record (with_lanes (λ l. pushed l slot) t (way_of y ∷ [])) {
      pools = pools_after_push t (way_of y) y.port.pool;
    })))

-- the same, in a slot that nobody had
pub record IsPushed (c : ControlState) (y : Lender) (a : Asked) (slot : ℕ) (new : ControlState)
    : Type 0 where
  pub taken : List (Option PoolState)
  pub takes : Takes c.tables.pools y.port.pool slot (loaned_slot y a.elements) taken
  pub left :
      new ≡ with_copy_pushed (with_tables c (record (c.tables) { pools = taken })) y slot

-- what a copy comes to, and leaves, where some slot of the lender's pool is free: whether its client
-- waits for the response, whether that may not wait there, and whether its send fails then, is told
abbrev pub AnswersThen :
    ControlState → Lender → Asked → Bool → Bool → Bool → Answered → ControlState → Type 0
AnswersThen c y a awaited shut fails (Done (Some place)) new =
    ((awaited && not shut) ≡ true) × (place.pool ≡ y.port.pool) × IsPushed c y a place.slot new
AnswersThen c y a awaited shut fails (Done None) new =
    ((awaited && not shut) ≡ false) × ((awaited && (shut && fails)) ≡ false)
    × (new ≡ with_tables c (with_copy_lost false c.tables y.port.number))
AnswersThen c y a awaited shut fails Undelivered new =
    ((awaited && (shut && fails)) ≡ true)
    × (new ≡ with_tables c (with_copy_lost true c.tables y.port.number))
AnswersThen c y a awaited shut fails (Refused r) new = ⊥
AnswersThen c y a awaited shut fails OutOfMemory new = ⊥
