-- The same of receives, releases and questions: their calls lend nothing.
use Rattle.std.proofs.Common.{ℕ, Bool, true, false, if◌then◌else◌, List, [], ◌∷◌, ◌==◌}
use Rattle.iox_model.specs.declared.kind.Kind.TheVariants.{PendingResponse}
use Rattle.iox_model.specs.declared.way.Way.{Way}
use Rattle.iox_model.specs.declared.way.RequestState.{RequestState}
use Rattle.iox_model.specs.Handles.{same_kind, is_received}
use Rattle.iox_model.specs.Settings.{is_client}
use Rattle.iox_steps.specs.declared.side.Pushing.{Pushing}
use Rattle.iox_steps.specs.declared.side.Popping.{Popping}
use Rattle.iox_steps.specs.declared.side.QueueEvent.{QueueEvent}
use Rattle.iox_steps.specs.declared.side.QueueEvent.TheVariants.{Publish, HandOut, SeesEmpty, SeesWaiting}
use Rattle.iox_wire_locals.specs.declared.local.Ending.TheVariants as endings
use Rattle.iox_wire_locals.specs.declared.local.Visit.{Visit}
use Rattle.iox_wire_locals.specs.declared.seat.Seat.{Seat}
use Rattle.iox_wire_locals.specs.declared.table.Entry.{Entry}
use Rattle.iox_wire_locals.specs.Courses as courses_of_sends
use Rattle.iox_wire_locals.specs.NewLoans.{request_in}
use Rattle.iox_wire_locals.specs.ReceiveCourses as courses
use Rattle.iox_wire_locals.specs.ReceiveFindings as findings
use Rattle.iox_wire_locals.specs.Tables.{Setting}
use Rattle.iox_wire_pools.proofs.CallSlots.{Goes, either, placed}

module _ (p : Setting) (x : Seat) where
  -- the node continues, and its call has no slot
  abbrev K : Seat → Type 0
  K y = Goes x y (λ port. [])

  -- ---- receives

  pub visiting : (v : Visit) (left : List Way) (waiting : Bool) → K (courses.visiting p x v left waiting)
  visiting v [] true = placed x _
  visiting v [] false = placed x _
  visiting v (w ∷ left) waiting = either x (λ port. []) _ _ _ (placed x _) (placed x _)

  took : (v : Visit) (w : Way) (slot : ℕ) (header : List ℕ) (left : List Way) (waiting : Bool) → K (courses.took p x v w slot header left waiting)
  took v w slot header left waiting =
      either x (λ port. []) (is_client v.role) (courses.took_response p x v w slot header left waiting) (courses.took_request p x v w slot header left waiting)
      (either x (λ port. []) (request_in v header == v.request) (courses_of_sends.ended x (endings.Receives v w slot header)) (courses.stale p x v w slot left waiting)
      (placed x _) (either x (λ port. []) _ _ _ (placed x _) (placed x _))) (either x (λ port. []) _ _ _ (placed x _) (placed x _))

  pub judged : (v : Visit) (w : Way) (slot : ℕ) (header : List ℕ) (left : List Way) (waiting : Bool) (shown : RequestState)
      → K (courses.judged x v w slot header left waiting shown)
  judged v w slot header left waiting shown = either x (λ port. []) _ _ _ (placed x _) (placed x _)

  pub looked : (v : Visit) (w : Way) (left : List Way) (waiting : Bool) (place : Popping) (event : QueueEvent)
      → K (findings.receive_looked p x v w left waiting place event)
  looked v w left waiting place SeesEmpty = visiting v left waiting
  looked v w left waiting place SeesWaiting = visiting v left true
  looked v w left waiting place event = placed x _

  pub popped : (v : Visit) (w : Way) (more : Bool) (left : List Way) (waiting : Bool) (place : Popping) (event : QueueEvent)
      → K (findings.receive_popped p x v w more left waiting place event)
  popped v w more left waiting place (HandOut slot) = placed x _
  popped v w more left waiting place SeesEmpty = visiting v left waiting
  popped v w more left waiting place event = placed x _

  pub loaded : (v : Visit) (w : Way) (slot : ℕ) (header : List ℕ) (left : List Way) (waiting : Bool)
      → K (findings.receive_loaded p x v w slot header left waiting)
  loaded v w slot header left waiting = either x (λ port. []) _ _ _ (took v w slot header left waiting) (placed x _)

  pub returned : (v : Visit) (w : Way) (slot : ℕ) (left : List Way) (waiting : Bool) (place : Pushing) (event : QueueEvent)
      → K (findings.receive_returned x v w slot left waiting place event)
  returned v w slot left waiting place (Publish given) = placed x _
  returned v w slot left waiting place event = placed x _

  pub seeking : (left : List Way) → K (courses.seeking x left)
  seeking [] = placed x _
  seeking (w ∷ left) = placed x _

  pub sought : (w : Way) (left : List Way) (place : Popping) (event : QueueEvent) → K (findings.sought x w left place event)
  sought w left place SeesEmpty = seeking left
  sought w left place SeesWaiting = placed x _
  sought w left place event = placed x _

  -- ---- releases, questions and hints

  pub closing : (e : Entry) (left : List Way) → K (courses.closing x e left)
  closing e [] = placed x _
  closing e (w ∷ left) = placed x _

  pub releasing : (e : Entry) → K (courses.releasing p x e)
  releasing e =
      either x (λ port. []) (is_received e.kind) (courses.returning p x e)
      (if same_kind e.kind PendingResponse then courses.closing x e (courses.states_for p x e) else courses_of_sends.ended x (endings.Drops e))
      (either x (λ port. []) _ _ _ (placed x _) (placed x _)) (either x (λ port. []) _ _ _ (closing e _) (placed x _))

  pub release_returned : (e : Entry) (place : Pushing) (event : QueueEvent) → K (findings.release_returned x e place event)
  release_returned e place (Publish slot) = either x (λ port. []) _ _ _ (placed x _) (placed x _)
  release_returned e place event = placed x _

  pub release_looked : (e : Entry) (seen : ℕ) → K (findings.release_looked x e seen)
  release_looked e seen = either x (λ port. []) _ _ _ (placed x _) (placed x _)

  pub checking : (e : Entry) (hinted : Bool) (left : List Way) → K (courses.checking x e hinted left)
  checking e hinted [] = placed x _
  checking e hinted (w ∷ left) = placed x _

  pub hinting : (e : Entry) (left : List Way) → K (courses.hinting x e left)
  hinting e [] = placed x _
  hinting e (w ∷ left) = placed x _
