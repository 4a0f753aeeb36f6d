-- What the copy of a client's request comes to, by the way that it went.
use Rattle.std.specs.Prelude.{◌≡◌, ℕ, ◌^◌, ◌≤◌, Bool, true, false, nat_le, Some, refl}
use Rattle.std.proofs.Common.{ap, subst, ◌∙◌, arith}
use Rattle.iox_model.specs.declared.reply.Refusal.TheVariants as refusals
use Rattle.iox_model.specs.declared.way.Way.{Way}
use Rattle.iox_model.specs.Maps.{or_else, refused_if}
use Rattle.iox_model.specs.Settings.{Shape}
use Rattle.iox_tables.specs.HubStates.Tables.{PortState, port_in}
use Rattle.iox_tables.proofs.HubLending.Owning.{number_is}
use Rattle.iox_tables.specs.HubLoans.Counts.{has_all_active}
use Rattle.iox_tables.specs.HubLoans.Lenders.{count_refusal_by, lender_of_request, shape_in, size_refusal}
use Rattle.iox_control.specs.Controls.{ControlState, IsControl}
use Rattle.iox_control_copies.specs.Asked.{Asked}
use Rattle.iox_control_copies.specs.Lends.{IsAskedOf, IsRefused}
use Rattle.iox_control_request_copies.specs.declared.copied.Copied.{Copied}
use Rattle.iox_control_request_copies.specs.declared.copied.Copied.TheVariants.{To, Refused, OutOfMemory, ExceedsMaxActiveRequests, UnableToDeliver}
use Rattle.iox_control_request_copies.specs.Copies.{Copies, Loses, Sends, WaitsThen, fails_for, to_fill}

-- the words that a copy asks for are those that a loan would
pub asked_filled : (shape : Shape) (a : Asked) → IsAskedOf shape a → IsAskedOf shape (to_fill a)
asked_filled shape a is = record { count = is.count; layout = is.layout }

module _ (c : ControlState) (n : ℕ) (a : Asked) (fails : Way → Bool) (order : IsControl c) where
  -- as many calls as may be are counted
  pub calls_spent : 2 ^ 56 ≤ c.tables.calls → (p : PortState) → IsRefused c (lender_of_request p 0) a refusals.CallsSpent c
  calls_spent many p = record {
    told = λ x is.
        ap (λ (b : Bool). or_else (refused_if b refusals.CallsSpent)
        (or_else (size_refusal p (shape_in x c.tables p) a.elements) (count_refusal_by p.role c.tables (lender_of_request p 0))))
        (passes c.tables.calls many);
    left = refl;
  }
    where
      passes : (calls : ℕ) → 2 ^ 56 ≤ calls → nat_le (2 ^ 56) calls ≡ true
      passes calls e = grind (arith, e)

  -- the client may send no more
  pub active_is : (b : Bool) → has_all_active c.tables n ≡ b → (p : PortState) → port_in c.tables.ports n ≡ Some p → has_all_active c.tables p.number ≡ b
  active_is b is p at = ap (has_all_active c.tables) (number_is c.tables order.order n p at) ∙ is

  -- a server may not take it
  pub fails_is : (b : Bool) → fails_for fails c.tables n ≡ b → (p : PortState) → port_in c.tables.ports n ≡ Some p → fails_for fails c.tables p.number ≡ b
  fails_is b is p at = ap (fails_for fails c.tables) (number_is c.tables order.order n p at) ∙ is

  pub lost_so : (r : Copied) (new : ControlState) (p : PortState) → Loses c p a (Some r) new → Copies c p a fails r new
  lost_so (To number servers place) new p is = absurd is
  lost_so (Refused r) new p is = is
  lost_so OutOfMemory new p is = is
  lost_so ExceedsMaxActiveRequests new p is = absurd is
  lost_so UnableToDeliver new p is = absurd is

  pub lost_waits : (r : Copied) (new : ControlState) (p : PortState) → Loses c p a (Some r) new → WaitsThen c.tables n r
  lost_waits (To number servers place) new p is = absurd is
  lost_waits (Refused r) new p is = tt
  lost_waits OutOfMemory new p is = tt
  lost_waits ExceedsMaxActiveRequests new p is = tt
  lost_waits UnableToDeliver new p is = tt

  pub sent_so : (r : Copied) (new : ControlState) (p : PortState) (overflow : Bool) → overflow ≡ c.tables.settings.request_overflow → has_all_active c.tables p.number ≡ false
      → fails_for fails c.tables p.number ≡ false → Sends c p a overflow r new → Copies c p a fails r new
  sent_so r new p overflow over free fine is = step r (subst (λ b. Sends c p a b r new) over is)
    where
      step : (r : Copied) → Sends c p a c.tables.settings.request_overflow r new → Copies c p a fails r new
      step (To number servers place) is = (free, fine, is)
      step (Refused r) is = is
      step OutOfMemory is = is
      step ExceedsMaxActiveRequests is = absurd is
      step UnableToDeliver is = absurd is
