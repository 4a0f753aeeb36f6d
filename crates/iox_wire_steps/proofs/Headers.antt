-- What the header of a received message says is so: of a response, the way and the test tell it.
use Rattle.std.proofs.Common.{◌≡◌, ℕ, Bool, true, false, List, Some, None, refl, sym, ◌∙◌}
use Rattle.iox_model.specs.declared.way.Way.{Way}
use Rattle.iox_model.specs.Joins.{not_living}
use Rattle.iox_model.specs.Settings.{is_client}
use Rattle.iox_model.specs.Weaves.{World}
use Rattle.iox_laws.proofs.WeaveLedger.Senders as ledger
use Rattle.iox_laws.proofs.WeaveLedger.Views.{view}
use Rattle.iox_laws.proofs.WeaveWorlds.Sound as sound
use Rattle.iox_wire_words.specs.Fits.{WireContents}
use Rattle.iox_wire_moments.specs.MomentsOf.{Pools}
use Rattle.iox_wire_locals.specs.declared.local.Ending.TheVariants as endings
use Rattle.iox_wire_locals.specs.declared.local.Visit.{Visit}
use Rattle.iox_wire_locals.specs.declared.seat.Seat.{Seat}
use Rattle.iox_wire_locals.specs.Doings.{outcome_of}
use Rattle.iox_wire_locals.specs.NewLoans.{lane_in, request_in}
use Rattle.iox_wire_locals.specs.Steps.{ending_at}
use Rattle.iox_wire_locals.specs.Tables.{Setting}
use Rattle.iox_wire_laws.specs.WireKeeping.Shows.{ShowsWorld}
use Rattle.iox_wire_steps.specs.Over.{EndIsTold}
use Rattle.iox_wire_steps.proofs.Knowing.{outcome_fits}

module _ (p : Setting) (held : Pools) (word : ℕ → ℕ) (c : WireContents) (seats : ℕ → Seat) (w : World) (n : ℕ) (v : Visit) (y : Way) (slot : ℕ) (header : List ℕ)
    (shows : ShowsWorld p held word c seats w) (living : not_living w.state n ≡ None)
    (is : ending_at (seats n).local ≡ Some (endings.Receives v y slot header)) where
  came : ledger.FitsOutcome (view w.state.fixed n) n (outcome_of p held n (endings.Receives v y slot header))
      × sound.FitsOutcome w.state.fixed n (outcome_of p held n (endings.Receives v y slot header))
  came = outcome_fits p held word c seats w n (endings.Receives v y slot header) shows living is

  -- a response came on the lane of its way, and names the request
  module _ (client : is_client v.role ≡ true) where
    pub response_lane : lane_in v y header ≡ (held y.sender slot).lane
    response_lane = rw client (sym (came.0.1.2.1 (came.0.1.0.1 client)))

    pub response_request : (held y.sender slot).request ≡ v.request
    response_request = came.1.2 client

  pub header_is : EndIsTold p held w.state (seats n) (endings.Receives v y slot header)
      → (lane_in v y header ≡ (held y.sender slot).lane) × (request_in v header ≡ (held y.sender slot).request)
  header_is told = by_role (is_client v.role) refl
    where
      by_role : (b : Bool) → is_client v.role ≡ b → (lane_in v y header ≡ (held y.sender slot).lane) × (request_in v header ≡ (held y.sender slot).request)
      by_role true client = (response_lane client, told.0 client ∙ sym (response_request client))
      by_role false server = let tells = told.1 server in (tells.0, tells.1)
