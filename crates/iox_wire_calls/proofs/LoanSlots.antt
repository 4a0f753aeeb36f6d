-- The slots of loans over each access, and what they tell.
use Rattle.iox_wire_steps.specs.Uses.{how_often}
use Rattle.std.specs.Prelude.{find, ◌&&◌, ◌++◌, ◌+◌, ◌<◌, ◌^◌, ◌||◌, ◌≤◌}
use Rattle.std.specs.Option.{option_map_or}
use Rattle.std.proofs.Common.{◌≡◌, ℕ, Bool, true, false, if◌then◌else◌, ◌==◌, List, [], ◌∷◌, refl, ap, sym, subst, ◌∙◌, arith, inl, inr, true≢false}
use Rattle.iox_model.specs.Maps.{has_number}
use Rattle.iox_model.specs.declared.way.Way.{Way}
use Rattle.iox_model.specs.States.{State}
use Rattle.iox_wire_steps.specs.MomentsOf.{Pools}
use Rattle.iox_wire_steps.specs.Ending.TheVariants as endings
use Rattle.iox_wire_steps.specs.Local.{Local}
use Rattle.iox_wire_steps.specs.Local.TheVariants.{Ends, LendEmpties, LendStores, ReceivePops, ReleaseReturns}
use Rattle.iox_wire_steps.specs.Seat.{Seat}
use Rattle.iox_wire_steps.specs.Desk.{Desk}
use Rattle.iox_wire_steps.specs.Entry.{Entry}
use Rattle.iox_wire_steps.specs.NewLoan.{NewLoan}
use Rattle.iox_wire_steps.specs.Desks.{delivers, gets_back, picks}
use Rattle.iox_wire_steps.specs.Known.{loans_at}
use Rattle.iox_wire_steps.specs.NewLoans.{entry_in, message_in}
use Rattle.iox_wire_steps.specs.StepLaws.{ReliesOn}
use Rattle.iox_wire_steps.specs.Steps.{accessed, advance}
use Rattle.iox_wire_steps.specs.Tables.{Setting}
use Rattle.iox_wire_steps.specs.UsedSlots.{slot_of_loan, slots_in_call}
use Rattle.iox_wire_steps.specs.OwnParts.{KeepsOwn}
use Rattle.iox_wire_steps.specs.Holding.{held_after, held_from, held_with}
use Rattle.iox_wire_steps.specs.SlotsKnown.{IsPortOfSeat}
use Rattle.iox_wire_steps.proofs.CountsKept.{steps_keep_own}
use Rattle.iox_wire_steps.proofs.OwnPorts.{both}
use Rattle.iox_laws.proofs.WeaveLaws.MapLemmas.{eqb-refl}
use Rattle.iox_wire_steps.specs.Following.{CallMessage, DeskChange, Delivered, Dropped, NodeContinues, GotBack, IsOfEntry, IsReturning, Leaving, Lent, MayLetGo, NoMessage, OfEntry, Sent, Taken, TakesOn, Unchanged, changed, desk_change, drops, keeps, lets_go, message_at, picks_slot, puts_aside, sends_loan, takes}
use Rattle.iox_wire_steps.specs.FollowingLaws.{TakesNext}
use Rattle.iox_wire_steps.specs.Nodes.{NodeStands}
use Rattle.iox_wire_steps.proofs.Follows.{accesses_follow}
use Rattle.iox_wire_steps.proofs.SlotsFollow.{held_not, held_picked, held_stays, NotStores}
use Rattle.iox_wire_calls.specs.LoanSlots.{AccessesKeepLoans, HoldsLoan, HoldsSerial, LoansAreTold, LoansStand, WordsAreTold}
use Rattle.iox_wire_calls.specs.Places.{CallFits, IsNext, LanesAreSet, PlaceFits}
use Rattle.iox_wire_calls.specs.StepsTold.{MessageIsTold}
use Rattle.iox_wire_calls.proofs.PlaceCourses.{desks_stay, loans_told}
use Rattle.iox_wire_calls.proofs.PlaceSteps.{accesses_fit}
use Rattle.iox_wire_calls.proofs.LaneLists.{front, often, one}
use Rattle.iox_wire_calls.proofs.LaneSteps.{accesses_keep_lanes}
use Rattle.iox_wire_calls.proofs.LanesTell.{low, one_is, request_has}
use Rattle.iox_wire_calls.specs.Lanes.{AllLanesAreCounted, lanes_in, lanes_used, lent_in}
use Rattle.iox_wire_calls.specs.LaneLaws.{HasLanesForSlots}
use Rattle.iox_wire_steps.specs.OwnedWords.{HasLane}
use Rattle.iox_model.specs.Handles.{is_request_loan}
use Rattle.iox_model.specs.Loans.{kind_of_loan}
use Rattle.iox_model.specs.Settings.{is_client}
use Rattle.iox_model.specs.declared.kind.Role.{Role}
use Rattle.iox_model.specs.declared.kind.Role.TheVariants.{Client, Server}

-- ---- the slot of a call's loan

-- by the call's message
abbrev pub lent_slots : ℕ → CallMessage → List ℕ
lent_slots port (Lent o slot) = slot_of_loan port o.port true slot
lent_slots port (Sent e copied) = slot_of_loan port e.port copied e.slot
lent_slots port other = []

pub slots_by_message : (port : ℕ) (local : Local) → slots_in_call port local ≡ lent_slots port (message_at local)
slots_by_message port (Ends (endings.Lends o slot)) = refl
slots_by_message port (Ends (endings.Fills e words)) = refl
slots_by_message port (Ends (endings.Sends e copied count)) = refl
slots_by_message port (Ends (endings.FailsToSend e copied r)) = refl
slots_by_message port (Ends (endings.Receives v w slot header)) = refl
slots_by_message port (Ends (endings.Drops e)) = refl
slots_by_message port (Ends ending) = refl
slots_by_message port local = refl

-- what holds no loan of the call
abbrev pub NoLoan : CallMessage → Type 0
NoLoan (Lent o slot) = ⊥
NoLoan (Sent e copied) = ⊥
NoLoan other = Unit {0}

abbrev NotLent : CallMessage → Type 0
NotLent (Lent o slot) = ⊥
NotLent other = Unit {0}

pub none_lent : (port : ℕ) (m : CallMessage) → NoLoan m → lent_slots port m ≡ []
none_lent port (Lent o slot) none = absurd none
none_lent port (Sent e copied) none = absurd none
none_lent port m none = refl

let_go : (m : CallMessage) → MayLetGo m → NoLoan m
let_go (OfEntry e) may = tt
let_go (Taken w slot) may = tt
let_go other may = absurd may

of_entry : (m : CallMessage) (e : Entry) → IsOfEntry m e → NoLoan m
of_entry (OfEntry k) e is = tt
of_entry (Leaving k) e is = tt
of_entry other e is = absurd is

returning : (local : Local) (e : Entry) → IsReturning local e → NoLoan (message_at local)
returning (ReleaseReturns k place) e is = tt
returning local e is = absurd is

taking : (p : Setting) (local : Local) (seen : ℕ) (w : Way) (slot : ℕ) → TakesOn p local seen w slot → NoLoan (message_at local)
taking p (ReceivePops v y more place left waiting) seen w slot is = tt
taking p local seen w slot is = absurd is

-- ---- loans of a port

abbrev loans_of : ℕ → List Desk → ℕ
loans_of port ds = option_map_or (λ (d : Desk). d.loans) (find (λ d. d.port == port) ds) 0

change_leaves : (x : Seat) (change : DeskChange) (port : ℕ) → loans_of port (changed change x).desks ≡ loans_at x port
change_leaves x Unchanged port = refl
change_leaves x (GotBack q w slot) port = desks_stay loans_told 0 x q port (gets_back w slot) (record { port = λ d. refl; told = λ d. refl })
change_leaves x (Delivered q w slot) port = desks_stay loans_told 0 x q port (delivers w slot) (record { port = λ d. refl; told = λ d. refl })

module _ (p : Setting) (x : Seat) (seen : ℕ) where
  abbrev y : Seat
  y = advance p (accessed x) x.local seen

  -- an access makes none
  pub loans_same : (port : ℕ) → NodeContinues p (accessed x) x.local seen (advance p (accessed x) x.local seen)
      → loans_at (advance p (accessed x) x.local seen) port ≡ loans_at x port
  loans_same port (keeps desks message) = ap (loans_of port) desks ∙ change_leaves (accessed x) (desk_change p x.local seen) port
  loans_same port (lets_go desks still message may) = ap (loans_of port) desks
  loans_same port (takes w slot desks still message on) = ap (loans_of port) desks
  loans_same port (puts_aside e desks still returns message) = ap (loans_of port) desks
  loans_same port (drops e desks still of message) = ap (loans_of port) desks
  loans_same port (picks_slot o slot free desks still place before there lends) =
      ap (loans_of port) desks ∙ desks_stay loans_told 0 (accessed x) o.port port (picks o slot free) (record { port = λ d. refl; told = λ d. refl })
  loans_same port (sends_loan o slot desks still before copies message) = ap (loans_of port) desks

-- ---- what slots hold

module _ (p : Setting) (x y : Seat) (own : KeepsOwn x y) (held : Pools) (stands : LoansStand p held x) where
  abbrev HY : Pools → Type 0
  HY new = LoansStand p new y

  -- the same slots hold the same
  pub same_slots : (new : Pools) → new ≡ held → ((port : ℕ) → loans_at y port ≡ loans_at x port)
      → ((port : ℕ) → lent_slots port (message_at y.local) ≡ lent_slots port (message_at x.local))
      → HoldsLoan p held (message_at y.local) → LoansStand p new y
  same_slots new same loans slots loan = subst HY (sym same) (record {
    loan = loan;
    serials = λ port slot mine low. by_part port slot
        (stands.serials port slot (mine.0, mine.1 ∙ own.node) low);
  })
    where
      by_part : (port slot : ℕ) → HoldsSerial held x port slot → HoldsSerial held y port slot
      by_part port slot (inl less) = inl (subst (λ k. (held port slot).serial < k) (sym (loans port)) less)
      by_part port slot (inr (inl none)) = inr (inl none)
      by_part port slot (inr (inr there)) =
          inr (inr (ap (has_number slot) (slots_by_message port y.local ∙ slots port ∙ sym (slots_by_message port x.local)) ∙ there))

  pub gone : (new : Pools) (m : CallMessage) → new ≡ held → ((port : ℕ) → loans_at y port ≡ loans_at x port)
      → message_at y.local ≡ m → NoLoan m → NoLoan (message_at x.local) → LoansStand p new y
  gone new m same loans is none before =
      same_slots new same loans (λ port. ap (lent_slots port) is ∙ none_lent port m none ∙ sym (none_lent port (message_at x.local) before))
      (subst (HoldsLoan p held) (sym is) (nothing m none))
    where
      nothing : (m : CallMessage) → NoLoan m → HoldsLoan p held m
      nothing (Lent o slot) none = absurd none
      nothing m none = tt

  -- a loan takes a slot
  pub picked : (o : NewLoan) (slot : ℕ) → (new : Pools) → new ≡ held_with held o.port slot (message_in p o)
      → ((port : ℕ) → loans_at y port ≡ loans_at x port)
      → message_at y.local ≡ Lent o slot → message_at x.local ≡ NoMessage → LoansStand p new y
  picked o slot new same loans is before = subst HY (sym same) (record {
    loan = subst (HoldsLoan p (held_with held o.port slot (message_in p o))) (sym is) here;
    serials = λ port j mine low. by_slot port j ((o.port == port) && (slot == j)) refl
        (stands.serials port j (mine.0, mine.1 ∙ own.node) low);
  })
    where
      here : held_with held o.port slot (message_in p o) o.port slot ≡ message_in p o
      here = ap (λ b. if b then message_in p o else held o.port slot) (subst (λ b. (b && (slot == slot)) ≡ true) (sym (eqb-refl o.port)) (eqb-refl slot))

      lent_now : (port j : ℕ) → ((o.port == port) && (slot == j)) ≡ true → has_number j (slots_in_call port y.local) ≡ true
      lent_now port j is_it =
          let parts = both (o.port == port) (slot == j) is_it in
          ap (has_number j) (slots_by_message port y.local ∙ ap (lent_slots port) is)
          ∙ ap (λ b. has_number j (if b then slot ∷ [] else [])) parts.0 ∙ ap (λ b. b || false) parts.1

      same_serial : (port j : ℕ) → ((o.port == port) && (slot == j)) ≡ false → (held_with held o.port slot (message_in p o) port j).serial ≡ (held port j).serial
      same_serial port j other = ap (λ b. (if b then message_in p o else held port j).serial) other

      by_slot : (port j : ℕ) (b : Bool) → ((o.port == port) && (slot == j)) ≡ b → HoldsSerial held x port j
          → HoldsSerial (held_with held o.port slot (message_in p o)) y port j
      by_slot port j true at old = inr (inr (lent_now port j at))
      by_slot port j false at (inl less) =
          inl (subst (λ k. k < loans_at y port) (sym (same_serial port j at)) (subst (λ k. (held port j).serial < k) (sym (loans port)) less))
      by_slot port j false at (inr (inl none)) = inr (inl (subst (λ k. 2 ^ 64 ≤ k) (sym (same_serial port j at)) none))
      by_slot port j false at (inr (inr there)) =
          absurd (true≢false (sym there ∙ ap (has_number j) (slots_by_message port x.local ∙ ap (lent_slots port) before)))

-- ---- each access

module _ (p : Setting) (x : Seat) (seen : ℕ) (held : Pools) (stands : LoansStand p held x) where
  abbrev next_seat : Seat
  next_seat = advance p (accessed x) x.local seen

  own_part : KeepsOwn x (advance p (accessed x) x.local seen)
  own_part = steps_keep_own p x seen

  stores_not : (local : Local) (m : CallMessage) → message_at local ≡ m → NotLent m → NotStores local
  stores_not (LendStores o slot next) m is none = subst NotLent (sym is) none
  stores_not local m is none = tt

  stays : (m : CallMessage) → message_at (advance p (accessed x) x.local seen).local ≡ m → NotLent m → held_after p x seen held ≡ held
  stays m is none = held_not p held x.local next_seat.local (stores_not next_seat.local m is none)

  pub by_follows : (s : State) → ReliesOn p (accessed x) s held x.local seen → NodeContinues p (accessed x) x.local seen (advance p (accessed x) x.local seen)
      → ((port : ℕ) → loans_at (advance p (accessed x) x.local seen) port ≡ loans_at x port)
      → LoansStand p (held_after p x seen held) (advance p (accessed x) x.local seen)
  by_follows s relies (keeps desks message) loans =
      same_slots p x next_seat own_part held stands (held_after p x seen held) (held_stays p held s (accessed x) seen x.local next_seat.local relies message) loans (λ port. ap (lent_slots port) message)
      (subst (HoldsLoan p held) (sym message) stands.loan)
  by_follows s relies (lets_go desks still message may) loans =
      gone p x next_seat own_part held stands (held_after p x seen held) NoMessage (stays NoMessage message tt) loans message tt (let_go (message_at x.local) may)
  by_follows s relies (takes w slot desks still message on) loans =
      gone p x next_seat own_part held stands (held_after p x seen held) (Taken w slot) (stays (Taken w slot) message tt) loans message tt (taking p x.local seen w slot on)
  by_follows s relies (puts_aside e desks still returns message) loans =
      gone p x next_seat own_part held stands (held_after p x seen held) (Leaving e) (stays (Leaving e) message tt) loans message tt (returning x.local e returns)
  by_follows s relies (drops e desks still of message) loans =
      gone p x next_seat own_part held stands (held_after p x seen held) (Dropped e) (stays (Dropped e) message tt) loans message tt (of_entry (message_at x.local) e of)
  by_follows s relies (picks_slot o slot free desks still place before there lends) loans =
      picked p x next_seat own_part held stands o slot (held_after p x seen held) (ap (held_from p held x.local) place ∙ held_picked p held x.local o slot before) loans (ap message_at place) before
  by_follows s relies (sends_loan o slot desks still before copies message) loans =
      same_slots p x next_seat own_part held stands (held_after p x seen held) (stays (Sent (entry_in o slot) true) message tt) loans
      (λ port. ap (lent_slots port) message ∙ sym (ap (lent_slots port) before)) (subst (HoldsLoan p held) (sym message) tt)

pub accesses_keep_loans : AccessesKeepLoans
accesses_keep_loans p held s x seen relies stands =
    let follows = accesses_follow p (accessed x) seen in by_follows p x seen held stands s relies follows (λ port. loans_same p x seen port follows)

-- ---- what they tell

-- a client's loan with a slot is on one of the client's lanes
pub on_lane : (p : Setting) (y : Seat) (o : NewLoan) (slot next : ℕ) → LanesAreSet p → AllLanesAreCounted p y → IsNext p y o → y.local ≡ LendStores o slot next → HasLane p o
on_lane p y o slot next set all place is request =
    subst (λ lanes. o.lane < lanes) (sym (set o.port place.0.0 client)) (low p y all o.port place.0 client o.lane some)
  where
    -- only a client lends requests
    of_client : (role : Role) → o.kind ≡ kind_of_loan role false → is_client role ≡ true
    of_client Client kind = refl
    of_client Server kind = absurd (true≢false (sym request ∙ ap is_request_loan kind))

    client : is_client (p.port o.port).role ≡ true
    client = of_client (p.port o.port).role place.1

    at_least : (i k : ℕ) → i ≡ 1 → 1 ≤ i + k
    at_least i k is = omega (arith, is)

    some : 1 ≤ how_often o.lane (lanes_used y o.port)
    some =
        subst (λ k. 1 ≤ k) (sym (ap (λ l. how_often o.lane (lanes_in o.port (lent_in (message_at l) ++ y.table))) is ∙ front o.port o.lane (entry_in o slot) y.table))
        (at_least (one o.port o.lane (entry_in o slot)) (often o.port o.lane y.table) (one_is o.port (entry_in o slot) (request_has o.kind request) refl))

module _ (p : Setting) (held : Pools) (s : State) (x : Seat) (seen : ℕ) (node : NodeStands p held s x) (fits : CallFits p x) (stands : LoansStand p held x)
    (few : (port : ℕ) → loans_at x port < 2 ^ 64) where
  pub none_here : (o : NewLoan) (j : ℕ) → o.serial ≡ loans_at x o.port → (held o.port j).serial ≡ o.serial → slots_in_call o.port x.local ≡ []
      → HoldsSerial held x o.port j → ⊥
  none_here o j serial same none (inl less) = off (held o.port j).serial (loans_at x o.port) less (same ∙ serial)
    where
      off : (a b : ℕ) → a < b → a ≡ b → ⊥
      off a b less same = omega (arith, less, same)
  none_here o j serial same none (inr (inl far)) = off (held o.port j).serial (loans_at x o.port) far (same ∙ serial) (few o.port)
    where
      off : (a b : ℕ) → 2 ^ 64 ≤ a → a ≡ b → b < 2 ^ 64 → ⊥
      off a b far same low = omega (arith, far, same, low)
  none_here o j serial same none (inr (inr there)) = true≢false (sym there ∙ ap (has_number j) none)

module _ (p : Setting) (held : Pools) (s : State) (x : Seat) (seen : ℕ) (set : LanesAreSet p) (node : NodeStands p held s x) (fits : CallFits p x)
    (stands : LoansStand p held x) (lanes : HasLanesForSlots p x) (all : AllLanesAreCounted p x) (few : (port : ℕ) → loans_at x port < 2 ^ 64) where
  abbrev z : Seat
  z = advance p (accessed x) x.local seen

  next_loan : (none : (port : ℕ) → slots_in_call port x.local ≡ []) (local : Local) → (advance p (accessed x) x.local seen).local ≡ local → TakesNext p held s NoMessage local
  next_loan none (LendStores o slot next) is =
      let place = subst (PlaceFits p z) is (accesses_fit p x seen fits).place in
      let home : IsPortOfSeat p x o.port = (place.0.0, place.0.1 ∙ (steps_keep_own p x seen).node) in
      let serial : o.serial ≡ loans_at x o.port = place.2 ∙ loans_same p x seen o.port (accesses_follow p (accessed x) seen) in
      record {
        serial = serial ∙ sym (node.loans o.port home);
        alone = λ j low same. absurd (none_here p held s x seen node fits stands few o j serial same (none o.port) (stands.serials o.port j home low));
        lane = on_lane p z o slot next set (accesses_keep_lanes p held s x seen fits node lanes all) place is;
      }
  next_loan none local is = tt

  told : (local : Local) → x.local ≡ local → WordsAreTold p held s x seen local → MessageIsTold p held s x seen local
  told (LendEmpties o w place left) is words =
      subst (λ l. TakesNext p held s NoMessage (advance p (accessed x) l seen).local) is
      (next_loan (λ port. ap (slots_in_call port) is) (advance p (accessed x) x.local seen).local refl)
  told (LendStores o slot next) is words = subst (λ l. HoldsLoan p held (message_at l)) is stands.loan
  told local is words = words

pub loans_are_told : LoansAreTold
loans_are_told p held s x seen set node fits stands lanes all few words = told p held s x seen set node fits stands lanes all few x.local refl words
