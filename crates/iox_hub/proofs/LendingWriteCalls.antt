-- What a write that is asked of a hub comes to, by each result.
use Rattle.std.specs.Prelude.{◌≡◌, ℕ, ◌<◌, List, [], Option, Some, refl}
use Rattle.std.proofs.Common.{sym, ap, subst}
use Rattle.iox_store.specs.Stored.{filled_with}
use Rattle.iox_model.specs.declared.call.Call.TheVariants.{Write}
use Rattle.iox_model.specs.declared.kind.Role.{Role}
use Rattle.iox_model.specs.Settings.{is_client}
use Rattle.iox_model.specs.WholeCalls.{IsWholeCall}
use Rattle.iox_tables.specs.HubStates.States.{Given}
use Rattle.iox_control.specs.Controls.{ControlState}
use Rattle.iox_control_request_copies.specs.Place.{Place}
use Rattle.iox_control_request_copies.specs.Written.{Written}
use Rattle.iox_control_request_copies.specs.Written.TheVariants as written
use Rattle.iox_control_request_copies.specs.Fills.{IsFilled, reply_of_write}
use Rattle.iox_hub.specs.Fits.{are_requests_in, count_in}
use Rattle.iox_hub.specs.Hubs.{HubState, IsHub, given_by, state_of_hub, with_control}
use Rattle.iox_hub.specs.Lending.{HasWritten, IsWrite, IsWritten, LeavesWritten, payload_of, with_message}
use Rattle.iox_hub.specs.Reads.{HasOf}
use Rattle.iox_hub.specs.Words.{Carried, stored_in}
use Rattle.iox_hub.proofs.LendingWrites.{IsLoanOf, is_loan_of, is_written, kind_of_filled, loan_named, misfit_left, misfit_length, write_equal, write_of_role, write_within, written_hub, written_whole}

-- So many elements were written to a loan of that role and number, and it came to this.
pub record IsWriteCall (h : HubState) (role : Role) (node n count : ℕ) (new : ControlState) (result : Written) : Type 0 where
  pub hub : IsHub h
  pub loan : IsLoanOf role h node n
  pub write : IsWrite h.control node n count new result

pub write_call : (role : Role) {h : HubState} → IsHub h → (now : HubState) → h ≡ now → (node n : ℕ) → HasOf (is_loan_of role) now node n
    → {count : ℕ} {new : ControlState} {result : Written} → IsWrite h.control node n count new result → IsWriteCall h role node n count new result
write_call role hub now is node n has write = record { hub = hub; loan = loan_named role hub now is node n has; write = write }

module _ {h : HubState} {role : Role} {node n count : ℕ} {new : ControlState} {place : Place} (c : IsWriteCall h role node n count new (written.Done place)) where
  filled : IsFilled h.control c.loan.handle (Some count) place new
  filled = c.write.left c.loan.handle c.loan.there

  pub call_of : are_requests_in h.words place.pool ≡ is_client role
  call_of = write_of_role role c.hub node n c.loan [] count new place filled

  pub call_within : place.slot < count_in h.words place.pool
  call_within = write_within role c.hub node n c.loan [] count new place filled

  pub call_equal : count ≡ (stored_in h.words place.pool place.slot).elements
  call_equal = write_equal role c.hub node n c.loan [] count new place filled

  module _ (ws : List ℕ) (words : List (Option Carried)) (put : words ≡ with_message h.words place.pool place.slot (filled_with (stored_in h.words place.pool place.slot) ws)) where
    pub call_left : record h { control = new; words = words }
        ≡ record h { control = new; words = with_message h.words place.pool place.slot (filled_with (stored_in h.words place.pool place.slot) ws) }
    call_left = ap (λ (vs : List (Option Carried)). record h { control = new; words = vs }) put

    pub call_whole : (x : Given) → IsWholeCall (state_of_hub x h) node (Write n (payload_of role count ws)) (reply_of_write (written.Done place)) (state_of_hub x (record h { control = new; words = words }))
    call_whole = written_whole role c.hub node n c.loan ws count new place filled words put c.write.whole

    pub call_hub : IsHub (record h { control = new; words = words })
    call_hub = written_hub role c.hub node n c.loan ws count new place filled words put c.write.whole c.write.order

    pub call_written : IsWritten h node n (kind_of_filled role) count ws (record h { control = new; words = words })
    call_written = is_written role c.hub node n c.loan ws count new place filled words put c.write.order

-- ---- the loan has not so many elements

module _ {h : HubState} {role : Role} {node n count : ℕ} {new : ControlState} where
  other_same : (result : Written) → ((p : Place) → result ≡ written.Done p → ⊥) → IsWriteCall h role node n count new result → with_control h new ≡ h
  other_same (written.Done p) never c = absurd (never p refl)
  other_same written.WrongLength never c = misfit_left role c.hub node n c.loan count new (c.write.left c.loan.handle c.loan.there)

  pub other_hub : (result : Written) → ((p : Place) → result ≡ written.Done p → ⊥) → IsWriteCall h role node n count new result → IsHub (with_control h new)
  other_hub result never c = subst IsHub (sym (other_same result never c)) c.hub

  pub other_left : (ws : List ℕ) (result : Written) → ((p : Place) → result ≡ written.Done p → ⊥) → IsWriteCall h role node n count new result
      → LeavesWritten h ws result (with_control h new)
  other_left ws (written.Done p) never c = absurd (never p refl)
  other_left ws written.WrongLength never c = other_same written.WrongLength never c

  pub other_whole : (ws : List ℕ) (result : Written) → ((p : Place) → result ≡ written.Done p → ⊥) → IsWriteCall h role node n count new result
      → (x : Given) → IsWholeCall (state_of_hub x h) node (Write n (payload_of role count ws)) (reply_of_write result) (state_of_hub x (with_control h new))
  other_whole ws (written.Done p) never c x = absurd (never p refl)
  other_whole ws written.WrongLength never c x = c.write.whole (given_by x h) c.loan.handle (payload_of role count ws) c.loan.there c.loan.passes refl

  pub other_has : (ws : List ℕ) (result : Written) → ((p : Place) → result ≡ written.Done p → ⊥) → IsWriteCall h role node n count new result
      → HasWritten h node n (kind_of_filled role) count ws result (with_control h new)
  other_has ws (written.Done p) never c = absurd (never p refl)
  other_has ws written.WrongLength never c = misfit_length role c.hub node n c.loan count new (c.write.left c.loan.handle c.loan.there)
