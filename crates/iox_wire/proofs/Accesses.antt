-- A node makes its access, and continues.
use Rattle.std.specs.Prelude.{IfSome, Option}
use Rattle.std.proofs.Common.{◌≡◌, ℕ, List, ap, ap₂, sym, subst, ◌∙◌}
use Rattle.iox_steps.specs.declared.access.Access.{Access}
use Rattle.iox_steps.specs.Accesses.{seen_at}
use Rattle.iox_wire_weaves.specs.Local.{Local}
use Rattle.iox_wire_weaves.specs.LocalsSteps.{next, tells}
use Rattle.iox_wire_weaves.specs.Places.{InPools}
use Rattle.iox_wire_weaves.specs.Tables.{Setting}
use Rattle.iox_wire_weaves.specs.CallAt.{CallAt}
use Rattle.iox_wire_weaves.specs.CallAt.TheVariants as at
use Rattle.iox_wire_weaves.specs.NodeReply.{NodeReply}
use Rattle.iox_wire_weaves.specs.Aims.{Answers, GoesOn, IsAimed, KnowsItsPlace, MayGoOn, StaysAimed, StaysReady, TellsOfPools}
use Rattle.iox_wire_weaves.specs.Nodes.{NodeView, answered_at, seat_in}
use Rattle.iox_wire_weaves.specs.SeatsAims.{KeepsRoom}
use Rattle.iox_wire.specs.Kept.{HasGoneOn, MayAccess, access_in}

-- ---- slots and lanes of pools

-- what is so at each place is so of each call
pub tells_of_pools : (p : Setting) (call : CallAt) (local : Local) → InPools p local → TellsOfPools p call local
tells_of_pools p at.Receives local told = told.0
tells_of_pools p at.Lends local told = told.1
tells_of_pools p at.CopiesRequest local told = (told.1, told.2)
tells_of_pools p at.CopiesResponse local told = told.1
tells_of_pools p call local told = tt

-- ---- an access

module _ (p : Setting) (x z : NodeView) (same : x ≡ z) (words : List ℕ) (may : MayAccess p z words) where
  aimed_here : IsAimed p x
  aimed_here = subst (IsAimed p) (sym same) may.aimed

  pub its_access : (access : Access) → ((q : Setting) → IsAimed q x → access ≡ access_in q x) → access ≡ access_in p z
  its_access access asked = asked p aimed_here ∙ ap (access_in p) same

  -- it continues with what that found
  module _ (seen : ℕ) (its_word : seen ≡ seen_at (access_in p z) words) where
    pub may_go_on : KnowsItsPlace x.at x → MayGoOn x.at x seen
    may_go_on place =
        subst (MayGoOn x.at x) (sym its_word)
        (subst (λ (k : NodeView). MayGoOn k.at k (seen_at (access_in p z) words)) (sym same)
        (may.goes_on (subst (λ (k : NodeView). KnowsItsPlace k.at k) same place)))

    pub has_gone_on : (y : NodeView) (reply : Option NodeReply) → GoesOn x seen y → Answers x seen reply y → IfSome reply (λ r. answered_at r ≡ x.at)
        → StaysReady x reply y → StaysAimed x y → KeepsRoom x.seat y.seat → y.at ≡ x.at
        → HasGoneOn p z words reply y
    has_gone_on y reply goes over own ready stays room there = record {
      went = record {
        call = there ∙ ap (λ (k : NodeView). k.at) same;
        next_is = goes p aimed_here ∙ ap₂ (λ (k : NodeView) s. next p (seat_in k) s) same its_word;
        told = sym (ap₂ (λ (k : NodeView) s. tells p (seat_in k) s) same its_word) ∙ over p aimed_here;
        aimed = λ pools. stays p aimed_here (tells_of_pools p y.at (seat_in y).local pools);
        room = (subst (λ (k : NodeView). KeepsRoom k.seat y.seat) same room).handles;
      };
      own = subst (λ (k : NodeView). IfSome reply (λ r. answered_at r ≡ k.at)) same own;
      ready = subst (λ (k : NodeView). StaysReady k reply y) same ready p may.aimed;
    }
