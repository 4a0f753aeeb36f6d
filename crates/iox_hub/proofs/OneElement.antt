-- A loan of messages that have one element has one.
use Rattle.std.specs.Prelude.{◌≡◌, ℕ, Bool, true, false, not, ◌||◌, ◌==◌, refl}
use Rattle.std.proofs.Common.{sym, ap, subst, ◌∙◌, true≢false, eqb-true}
use Rattle.iox_model.specs.declared.kind.Role.{Role}
use Rattle.iox_model.specs.declared.kind.Role.TheVariants.{Client, Server}
use Rattle.iox_model.specs.declared.reply.Refusal.TheVariants as refusals
use Rattle.iox_model.specs.Maps.{refused_if}
use Rattle.iox_model.specs.Settings.{Shape, is_count, shape_of}
use Rattle.iox_tables.specs.HubStates.States.{Given, limits_of}
use Rattle.iox_tables.specs.HubLoans.Lenders.{Lender, calls_refusal, count_refusal_by, shape_in, size_refusal}
use Rattle.iox_control.specs.Controls.{ControlState}
use Rattle.iox_control_request_copies.specs.Asked.{Asked}
use Rattle.iox_control_request_copies.specs.Loaned.{Loaned}
use Rattle.iox_control_request_copies.specs.Lends.{IsAskedOf, IsLoaned}
use Rattle.iox_hub.specs.Fits.{many_by}
use Rattle.iox_hub.specs.Hubs.{HubState, IsHub, given_by, many_in}
use Rattle.iox_hub.proofs.GrowingRoom.{both_none, not_refused}

-- what is not refused for its length is of one element, where there is one
one_of_count : (shape : Shape) (k : ℕ) → not (is_count shape k) ≡ false → shape.many ≡ false → k ≡ 1
one_of_count shape k counts few = step shape.many refl (k == 1) refl
  where
    step : (a : Bool) → shape.many ≡ a → (b : Bool) → (k == 1) ≡ b → k ≡ 1
    step true is b same = absurd (true≢false (sym is ∙ few))
    step false is true same = eqb-true k 1 same
    step false is false same =
        absurd (true≢false (ap not (sym (ap (λ a. a || (k == 1)) is ∙ same)) ∙ counts))

module _ {h : HubState} (hub : IsHub h) (shape : Shape) (y : Lender)
    (of : (x : Given) → shape_in (given_by x h) h.control.tables y.port ≡ shape) (a : Asked) (asked : IsAskedOf shape a) (l : Loaned) (new : ControlState)
    (is : IsLoaned h.control y a l new) where
  pub loan_is_of_one : many_by (many_in h) y.port.role ≡ false → a.elements ≡ 1
  loan_is_of_one few =
      let x : Given = given_by hub.reached.0 h in
      let its : Shape = shape_in x h.control.tables y.port in
      let of_it : IsAskedOf its a = subst (λ (z : Shape). IsAskedOf z a) (sym (of hub.reached.0)) asked in
      let tests = both_none (calls_refusal h.control.tables) _ (is.passes x of_it) in
      let size = both_none (size_refusal y.port its a.elements) (count_refusal_by y.port.role h.control.tables y) tests.1 in
      let lengths = both_none (refused_if (not (is_count its a.elements)) refusals.WrongLength) _ size.0 in
      one_of_count its a.elements (not_refused _ refusals.WrongLength lengths.0) (by_role y.port.role few)
    where
      by_role : (r : Role) → many_by (many_in h) r ≡ false → (shape_of (limits_of (given_by hub.reached.0 h) h.control.tables) r).many ≡ false
      by_role Client e = e
      by_role Server e = e
