-- What ends of calls are told, by the place that is over.
use Rattle.std.proofs.Common.{◌≡◌, ℕ, Bool, true, List, Option, Some, refl, sym, subst, ◌∙◌, true≢false}
use Rattle.iox_model.specs.declared.way.Way.{Way}
use Rattle.iox_model.specs.Handles.{is_request_loan}
use Rattle.iox_model.specs.Settings.{is_client}
use Rattle.iox_model.specs.States.{State}
use Rattle.iox_laws.proofs.WeaveLaws.WholeLemmas.{some-is}
use Rattle.iox_laws.proofs.WeaveLedger.Truths.{none-some}
use Rattle.iox_wire_steps.specs.MomentsOf.{Pools}
use Rattle.iox_wire_steps.specs.Delivery.{Delivery}
use Rattle.iox_wire_steps.specs.Ending.{Ending}
use Rattle.iox_wire_steps.specs.Ending.TheVariants as endings
use Rattle.iox_wire_steps.specs.Local.{Local}
use Rattle.iox_wire_steps.specs.Local.TheVariants.{Ends, SendEnds}
use Rattle.iox_wire_steps.specs.Visit.{Visit}
use Rattle.iox_wire_steps.specs.Seat.{Seat}
use Rattle.iox_wire_steps.specs.Entry.{Entry}
use Rattle.iox_wire_steps.specs.NewLoans.{request_in}
use Rattle.iox_wire_steps.specs.Steps.{ending_at}
use Rattle.iox_wire_steps.specs.Tables.{Setting, sent_entry}
use Rattle.iox_wire_steps.specs.Releases.{HasOwnStates}
use Rattle.iox_wire_steps.specs.SentStates.{HasOpened}
use Rattle.iox_wire_steps.proofs.SentStates.{sent_requests_have_states}
use Rattle.iox_wire_calls.specs.Places.{IsOfLoan, PlaceFits}

module _ (p : Setting) (held : Pools) (s : State) (x : Seat) where
  -- a call is over at its end, or once all was delivered
  pub at_end : (Q : Ending → Type 0) → ((ending : Ending) → x.local ≡ Ends ending → Q ending)
      → ((d : Delivery) (last : Option Way) (count : ℕ) → x.local ≡ SendEnds d last count → Q (endings.Sends d.loan d.copied count))
      → (ending : Ending) → ending_at x.local ≡ Some ending → Q ending
  at_end Q ended sent ending is = by_local x.local refl is
    where
      by_local : (local : Local) → x.local ≡ local → ending_at local ≡ Some ending → Q ending
      by_local (Ends k) at over = subst Q (some-is k ending over) (ended k at)
      by_local (SendEnds d last count) at over = subst Q (some-is _ ending over) (sent d last count at)
      by_local local at over = none-some ending over

  module _ (fits : PlaceFits p x x.local) where
    abbrev Loaned : Ending → Type 0
    Loaned (endings.Fills e words) = IsOfLoan e.kind
    Loaned ending = Unit {0}

    loaned : (ending : Ending) → PlaceFits p x (Ends ending) → Loaned ending
    loaned (endings.Fills e words) is = is
    loaned ending is = tt

    pub written : (e : Entry) (words : List ℕ) → ending_at x.local ≡ Some (endings.Fills e words) → IsOfLoan e.kind
    written e words = at_end Loaned (λ ending at. loaned ending (subst (PlaceFits p x) at fits)) (λ d last count at. tt) (endings.Fills e words)

    abbrev Answered : Ending → Type 0
    Answered (endings.Receives v w slot header) = is_client v.role ≡ true → request_in v header ≡ v.request
    Answered ending = Unit {0}

    answered : (ending : Ending) → PlaceFits p x (Ends ending) → Answered ending
    answered (endings.Receives v w slot header) is = is.1
    answered ending is = tt

    pub received : (v : Visit) (w : Way) (slot : ℕ) (header : List ℕ) → ending_at x.local ≡ Some (endings.Receives v w slot header)
        → is_client v.role ≡ true → request_in v header ≡ v.request
    received v w slot header =
        at_end Answered (λ ending at. answered ending (subst (PlaceFits p x) at fits)) (λ d last count at. tt) (endings.Receives v w slot header)

    module _ (opened : HasOpened s.request_state x.local) where
      abbrev States : Ending → Type 0
      States (endings.Sends e copied count) = is_request_loan e.kind ≡ true → HasOwnStates p x s.request_state (sent_entry e count)
      States ending = Unit {0}

      none_sent : (ending : Ending) → PlaceFits p x (Ends ending) → States ending
      none_sent (endings.Sends e copied count) is = λ request. absurd (true≢false (sym request ∙ is.1))
      none_sent ending is = tt

      pub states : (e : Entry) (copied : Bool) (count : ℕ) → ending_at x.local ≡ Some (endings.Sends e copied count)
          → is_request_loan e.kind ≡ true → HasOwnStates p x s.request_state (sent_entry e count)
      states e copied count =
          at_end States (λ ending at. none_sent ending (subst (PlaceFits p x) at fits))
          (λ d last count at request. sent_requests_have_states p x s.request_state d last count (subst (HasOpened s.request_state) at opened) request
          ((subst (PlaceFits p x) at fits).2 request)) (endings.Sends e copied count)
