-- Wherever a course leads, the program of the place there made no access yet, and the node's own
-- part is as it was.
use Rattle.std.proofs.Common.{ℕ, Bool, true, false, if◌then◌else◌, List, [], ◌∷◌, ◌==◌, Option, None, refl}
use Rattle.iox_model.specs.declared.kind.Role.TheVariants.{Server}
use Rattle.iox_model.specs.declared.way.Way.{Way}
use Rattle.iox_model.specs.declared.way.RequestState.{RequestState}
use Rattle.iox_model.specs.Handles.{is_request_loan}
use Rattle.iox_model.specs.Peers.{others}
use Rattle.iox_model.specs.Settings.{is_client}
use Rattle.iox_wire_words.specs.BeginLaws.{HasMadeNoAccess}
use Rattle.iox_wire_locals.specs.declared.table.Entry.{Entry}
use Rattle.iox_wire_locals.specs.declared.table.NewLoan.{NewLoan}
use Rattle.iox_wire_locals.specs.declared.local.Delivery.{Delivery}
use Rattle.iox_wire_locals.specs.declared.local.Visit.{Visit}
use Rattle.iox_wire_locals.specs.declared.local.Local.{Local}
use Rattle.iox_wire_locals.specs.declared.local.Local.TheVariants.{LendStores, Writes, SendAsks, SendOpens, ReceiveLoads, ReceiveAsks, Reads, ReleaseCloses, ReleaseLooks, ReleaseExchanges, Checks, Hints, HintExchanges}
use Rattle.iox_wire_locals.specs.declared.seat.Seat.{Seat}
use Rattle.iox_wire_locals.specs.declared.table.Desk.{Desk}
use Rattle.iox_wire_locals.specs.declared.local.Ending.TheVariants as endings
use Rattle.iox_wire_locals.specs.Tables.{Setting}
use Rattle.iox_wire_locals.specs.NewLoans.{entry_in, request_in}
use Rattle.iox_wire_locals.specs.Known.{known}
use Rattle.iox_wire_locals.specs.Desks.{at_desk}
use Rattle.iox_wire_locals.specs.Locals.{program_of}
use Rattle.iox_wire_locals.specs.Courses as sent
use Rattle.iox_wire_locals.specs.ReceiveCourses as courses
use Rattle.iox_wire_locals.specs.ReceiveFindings as findings
use Rattle.iox_wire_locals.specs.Steps.{advance}
use Rattle.iox_wire_laws.specs.WireKeeping.OwnParts.{KeepsOwn}

-- the program of the node's place made no access yet
pub record FreshAt (p : Setting) (y : Seat) : Type 0 where
  pub fresh : HasMadeNoAccess (program_of p y.local)

-- from x to y, whose program made no access yet, the node's own part stays
pub record Leads (p : Setting) (x y : Seat) : Type 0 where
  pub fresh : FreshAt p y
  pub own : KeepsOwn x y

pub placed : (x : Seat) (local : Local) → KeepsOwn x (sent.placed x local)
placed x local = record { node = refl; handles_made = refl; table = refl; borrowed = refl; forgot = refl }

-- a place with a desk changed before
pub desk : (x : Seat) (port : ℕ) (change : Desk → Desk) (y : Seat) → KeepsOwn (at_desk x port change) y → KeepsOwn x y
desk x port change y k =
    record { node = k.node; handles_made = k.handles_made; table = k.table; borrowed = k.borrowed; forgot = k.forgot }

-- the place is no place of a queue's program, and no end
abbrev pub IsOfWord : Local → Type 0
IsOfWord (LendStores o slot next) = Unit {0}
IsOfWord (Writes e words next) = Unit {0}
IsOfWord (SendAsks d) = Unit {0}
IsOfWord (SendOpens d w left full) = Unit {0}
IsOfWord (ReceiveLoads v w slot header left waiting) = Unit {0}
IsOfWord (ReceiveAsks v w slot header left waiting) = Unit {0}
IsOfWord (Reads e words) = Unit {0}
IsOfWord (ReleaseCloses e w left) = Unit {0}
IsOfWord (ReleaseLooks e) = Unit {0}
IsOfWord (ReleaseExchanges e old) = Unit {0}
IsOfWord (Checks e hinted w left) = Unit {0}
IsOfWord (Hints e w left) = Unit {0}
IsOfWord (HintExchanges e w left) = Unit {0}
IsOfWord local = ⊥

module _ (p : Setting) (x : Seat) where
  abbrev K : Seat → Type 0
  K y = Leads p x y

  pub either : (b : Bool) (y z : Seat) → K y → K z → K (if b then y else z)
  either true y z k l = k
  either false y z k l = l

  pub rests : (local : Local) → HasMadeNoAccess (program_of p local) → K (sent.placed x local)
  rests local fresh = record { fresh = record { fresh = fresh }; own = placed x local }

  -- ---- sends and loans

  pub delivering : (d : Delivery) (last : Option Way) (left : List Way) (count : ℕ) → K (sent.delivering x d last left count)
  delivering d last [] count = rests _ tt
  delivering d last (w ∷ left) count = rests _ refl

  pub opening : (d : Delivery) (left full : List Way) → K (sent.opening p x d left full)
  opening d [] full = delivering d None _ 0
  opening d (w ∷ left) full = rests _ tt

  pub looking : (d : Delivery) (left full : List Way) → K (sent.looking p x d left full)
  looking d [] full = either _ _ _ (rests _ tt) (opening d _ full)
  looking d (w ∷ left) full = rests _ refl

  pub emptying : (d : Delivery) (left : List Way) → K (sent.emptying p x d left)
  emptying d [] = either _ _ _ (opening d _ []) (looking d _ [])
  emptying d (w ∷ left) = rests _ refl

  sends_request : (d : Delivery) → K (sent.sends_request p x d)
  sends_request d = either _ _ _ (rests _ tt) (emptying d _)

  sends_response : (d : Delivery) → K (sent.sends_response p x d)
  sends_response d = either _ _ _ (rests _ tt) (rests _ tt)

  abbrev to_servers : Entry → Bool → Delivery
  to_servers e copied = record { loan = e; copied = copied; to = others (known p x) x.node Server }

  pub sends : (e : Entry) (copied : Bool) → K (sent.sends p x e copied)
  sends e copied =
      either (is_request_loan e.kind) (sent.sends_request p x (to_servers e copied))
      (sent.sends_response p x (record { loan = e; copied = copied; to = e.client ∷ [] })) (sends_request _) (sends_response _)

  pub asked : (d : Delivery) (shown : RequestState) → K (sent.asked p x d shown)
  asked d shown = either _ _ _ (emptying d _) (rests _ tt)

  takes_slot : (o : NewLoan) (free : List ℕ) → K (sent.takes_slot x o free)
  takes_slot o [] = rests _ tt
  takes_slot o (slot ∷ free) = record { fresh = record { fresh = tt }; own = desk x o.port _ _ (placed _ _) }

  pub loaning : (o : NewLoan) (left : List Way) → K (sent.loaning x o left)
  loaning o [] = takes_slot o _
  loaning o (w ∷ left) = rests _ refl

  pub lent : (o : NewLoan) (slot : ℕ) → K (sent.lent p x o slot)
  lent o slot =
      either o.copies (sent.sends p x (entry_in o slot) true) (sent.ended x (endings.Lends o slot)) (sends (entry_in o slot) true) (rests _ tt)

  -- ---- receives

  pub visiting : (v : Visit) (left : List Way) (waiting : Bool) → K (courses.visiting p x v left waiting)
  visiting v [] waiting = rests _ tt
  visiting v (w ∷ left) waiting = either _ _ _ (rests _ refl) (rests _ refl)

  stale : (v : Visit) (w : Way) (slot : ℕ) (left : List Way) (waiting : Bool) → K (courses.stale p x v w slot left waiting)
  stale v w slot left waiting = either _ _ _ (rests _ refl) (rests _ refl)

  pub took : (v : Visit) (w : Way) (slot : ℕ) (header : List ℕ) (left : List Way) (waiting : Bool)
      → K (courses.took p x v w slot header left waiting)
  took v w slot header left waiting =
      either (is_client v.role) (courses.took_response p x v w slot header left waiting) (courses.took_request p x v w slot header left waiting)
      (either (request_in v header == v.request) (sent.ended x (endings.Receives v w slot header)) (courses.stale p x v w slot left waiting)
      (rests _ tt) (stale v w slot left waiting)) (either _ _ _ (rests _ tt) (rests _ tt))

  pub judged : (v : Visit) (w : Way) (slot : ℕ) (header : List ℕ) (left : List Way) (waiting : Bool) (shown : RequestState)
      → K (courses.judged x v w slot header left waiting shown)
  judged v w slot header left waiting shown = either _ _ _ (rests _ tt) (rests _ refl)

  pub seeking : (left : List Way) → K (courses.seeking x left)
  seeking [] = rests _ tt
  seeking (w ∷ left) = rests _ refl

  -- ---- releases, questions and hints

  pub closing : (e : Entry) (left : List Way) → K (courses.closing x e left)
  closing e [] = rests _ tt
  closing e (w ∷ left) = rests _ tt

  pub given_back : (e : Entry) → K (courses.given_back x e)
  given_back e = either _ _ _ (rests _ tt) (rests _ tt)

  pub checking : (e : Entry) (hinted : Bool) (left : List Way) → K (courses.checking x e hinted left)
  checking e hinted [] = rests _ tt
  checking e hinted (w ∷ left) = rests _ tt

  pub hinting : (e : Entry) (left : List Way) → K (courses.hinting x e left)
  hinting e [] = rests _ tt
  hinting e (w ∷ left) = rests _ tt

  -- ---- after an access that is no queue's

  looked : (e : Entry) (seen : ℕ) → K (findings.release_looked x e seen)
  looked e seen = either _ _ _ (rests _ tt) (rests _ tt)

  pub after : (local : Local) (seen : ℕ) → IsOfWord local → K (advance p x local seen)
  after (LendStores o slot next) seen is = either _ _ _ (lent o slot) (rests _ tt)
  after (Writes e words next) seen is = either _ _ _ (rests _ tt) (rests _ tt)
  after (SendAsks d) seen is = asked d _
  after (SendOpens d w left full) seen is = opening d left full
  after (ReceiveLoads v w slot header left waiting) seen is = either _ _ _ (took v w slot _ left waiting) (rests _ tt)
  after (ReceiveAsks v w slot header left waiting) seen is = judged v w slot header left waiting _
  after (Reads e words) seen is = either _ _ _ (rests _ tt) (rests _ tt)
  after (ReleaseCloses e w left) seen is = closing e left
  after (ReleaseLooks e) seen is = looked e seen
  after (ReleaseExchanges e old) seen is = either _ _ _ (rests _ tt) (looked e seen)
  after (Checks e hinted w left) seen is = either _ _ _ (rests _ tt) (checking e hinted left)
  after (Hints e w left) seen is = either _ _ _ (rests _ tt) (hinting e left)
  after (HintExchanges e w left) seen is = hinting e left
  after local seen is = absurd is
