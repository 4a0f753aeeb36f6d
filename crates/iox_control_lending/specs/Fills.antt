-- What is written to a loan.
use Rattle.std.specs.Prelude.{◌≡◌, ℕ, Bool, true, false, if◌then◌else◌, List, Option}
use Rattle.iox_model.specs.declared.kind.Kind.{Kind}
use Rattle.iox_model.specs.declared.reply.Refusal.TheVariants as refusals
use Rattle.iox_model.specs.declared.reply.Reply.TheVariants as replies
use Rattle.iox_model.specs.Commands.{Reply}
use Rattle.iox_model.specs.Handles.{filled_kind}
use Rattle.iox_tables.specs.HubStates.Tables.{HandleState, HubTables}
use Rattle.iox_tables.specs.HubStates.States.{Given}
use Rattle.iox_tables.specs.HubStates.Wirings.{IsHandle}
use Rattle.iox_tables.specs.HubBooks.Handles.{is_loan}
use Rattle.iox_tables.specs.HubLoans.Fillings.{written_contents}
use Rattle.iox_tables.specs.HubLoans.Slots.{with_contents}
use Rattle.iox_tables.specs.HubLending.Filling.{with_kind}
use Rattle.iox_control.specs.Controls.{ControlState, with_tables}
use Rattle.iox_control.specs.Fittings.{has_elements}
use Rattle.iox_control_lending.specs.declared.asked.Place.{Place}
use Rattle.iox_control_lending.specs.declared.asked.Written.{Written}
use Rattle.iox_control_lending.specs.declared.asked.Written.TheVariants.{Done, WrongLength}

-- The number names a loan of the node.
pub record IsLoan (t : HubTables) (node n : ℕ) : Type 0 where
  pub handle : HandleState
  pub named : IsHandle t node n handle
  pub loan : is_loan handle.kind ≡ true

-- where the words of the handle's message lie
abbrev pub words_place : HandleState → Place
words_place h = record { pool = h.pool; slot = h.slot }

-- the kind of a loan, once its holder filled all of it or some
abbrev pub kind_after : Bool → Kind → Kind
kind_after all kind = if all then filled_kind kind else kind

-- the payload has as many whole elements as the handle's message
abbrev pub fits_loan : HubTables → HandleState → Option ℕ → Bool
fits_loan t h elements = has_elements t.pools h.pool h.slot elements

-- what a write answers
abbrev pub reply_of_write : Written → Reply
reply_of_write (Done place) = replies.Done
reply_of_write WrongLength = replies.Refused refusals.WrongLength

-- the words once it is written
abbrev pub given_written : Given → HubTables → HandleState → List ℕ → Written → Given
given_written x t h words (Done place) =
    with_contents x place.pool place.slot (written_contents x t h words)
given_written x t h words WrongLength = x

-- The payload fits the loan, which is filled.
pub record IsFilled (c : ControlState) (h : HandleState) (elements : Option ℕ) (place : Place)
    (new : ControlState) : Type 0 where
  pub fits : fits_loan c.tables h elements ≡ true
  pub at : place ≡ words_place h
  pub left : new ≡ with_tables c (with_kind c.tables h (filled_kind h.kind))

-- The payload does not fit, and nothing changes.
pub record IsMisfit (c : ControlState) (h : HandleState) (elements : Option ℕ)
    (new : ControlState) : Type 0 where
  pub fits : fits_loan c.tables h elements ≡ false
  pub left : new ≡ c

-- what a write to that loan comes to, and leaves
abbrev pub Writes : ControlState → HandleState → Option ℕ → Written → ControlState → Type 0
Writes c h elements (Done place) new = IsFilled c h elements place new
Writes c h elements WrongLength new = IsMisfit c h elements new
