-- Calls stand after the begin of a call.
use Rattle.std.specs.Prelude.{◌⊎◌, ◌++◌, find}
use Rattle.std.specs.Option.{option_map_or}
use Rattle.std.proofs.Common.{◌≡◌, ℕ, true, false, ◌==◌, List, [], ◌∷◌, None, refl, ap, sym, subst, ◌∙◌, inl, inr, true≢false}
use Rattle.iox_model.specs.Commands.{WireCall}
use Rattle.iox_model.specs.Joins.{not_living}
use Rattle.iox_model.specs.Weaves.{World, begin_refusal}
use Rattle.iox_wire_steps.specs.Seat.{Seat}
use Rattle.iox_wire_steps.specs.Desk.{Desk}
use Rattle.iox_wire_steps.specs.Local.{Local}
use Rattle.iox_wire_steps.specs.Local.TheVariants.{Idle, LendStores}
use Rattle.iox_wire_steps.specs.Begins.{begin, misnamed_call}
use Rattle.iox_wire_steps.specs.Steps.{next}
use Rattle.iox_wire_steps.specs.Tables.{Setting}
use Rattle.iox_wire_steps.specs.SlotsKnown.{IsPortOfSeat}
use Rattle.iox_wire_steps.specs.Aside.{shown}
use Rattle.iox_wire_steps.specs.Holding.{held_at}
use Rattle.iox_wire_steps.proofs.CountsKept.{begins_keep_own}
use Rattle.iox_wire_steps.specs.Following.{CallMessage, Dropped, Lent, NoMessage, OfEntry, Sent, message_at}
use Rattle.iox_wire_steps.specs.Nodes.{NodeStands}
use Rattle.iox_wire_steps.specs.Runs.{Asked, Run}
use Rattle.iox_wire_steps.specs.Stands.{Player, Stands, seats_of}
use Rattle.iox_wire_steps.proofs.BeginsKept.{begins_leave_nothing}
use Rattle.iox_wire_steps.proofs.BeginsWhole.{begins_keep}
use Rattle.iox_wire_steps.proofs.StepsKept.{shown_same}
use Rattle.iox_wire_calls.specs.CallsStand.{BegunCallsStand, CallStands, CallsStand}
use Rattle.iox_wire_calls.specs.Places.{OwnersAreSet}
use Rattle.iox_wire_calls.proofs.CallsBegin.{alive, calls_may_begin, lanes_begun, named, owners_are_set, rested, rests}
use Rattle.iox_wire_calls.proofs.PlaceBegins.{begins_fit}
use Rattle.iox_wire_calls.proofs.LoanSlots.{lent_slots, picked, same_slots}
use Rattle.iox_wire_calls.proofs.LoansElsewhere.{at_elsewhere, lent_in_pool}
use Rattle.iox_wire_calls.proofs.PlaceCourses.{desks_stay, loans_told}
use Rattle.iox_wire_calls.specs.LoanSlots.{HoldsLoan, LoansStand}
use Rattle.iox_wire_steps.proofs.Starts.{Starting, Starts, Takes, starts}
use Rattle.iox_wire_steps.specs.MomentsOf.{Pools}
use Rattle.iox_wire_steps.specs.Desks.{picks}
use Rattle.iox_wire_calls.proofs.CallsAround.{by_node, not_its}

-- ---- a begin

-- a call that starts without a loan of its own changes no slot
module _ (p : Setting) (x : Seat) where
  begins_lent : (port : ℕ) (m : CallMessage) → Starting p x m → lent_slots port m ≡ []
  begins_lent port NoMessage start = refl
  begins_lent port (OfEntry e) start = refl
  begins_lent port (Sent e true) start = absurd (true≢false start.0)
  begins_lent port (Sent e false) start = refl
  begins_lent port (Dropped e) start = refl
  begins_lent port other start = absurd start

  begins_loan : (held : Pools) (m : CallMessage) → Starting p x m → HoldsLoan p held m
  begins_loan held (Lent o slot) start = absurd start
  begins_loan held m start = tt

  begins_held : (held : Pools) (local : Local) (m : CallMessage) → message_at local ≡ m → Starting p x m → held_at p held local ≡ held
  begins_held held (LendStores o slot next) m is start = absurd (subst (Starting p x) (sym is) start)
  begins_held held local m is start = refl

module _ (p : Setting) (words : List ℕ) (players : ℕ → Player) (r : Run) (n : ℕ) (call : WireCall) (stands : Stands p words players r)
    (calls : CallsStand p stands.held players r.last.state) (free : begin_refusal r.last n call ≡ None) where
  abbrev begun_seat : Seat
  begun_seat = begin p (players n).seat call

  is_rested : seats_of p players n ≡ (players n).seat
  is_rested = rested p words players r n call stands calls free

  is_alive : not_living r.last.state n ≡ None
  is_alive = alive p words players r n call stands calls free

  idle : (players n).seat.local ≡ Idle
  idle = rests p words players r n call stands calls free

  owners : OwnersAreSet p
  owners = owners_are_set p words players r n call stands calls free

  is_named : misnamed_call p (players n).seat call ≡ None
  is_named = named p words players r n call stands calls free

  abbrev All : Seat → Type 0
  All q = CallStands p stands.held q × NodeStands p stands.held r.last.state q

  before : All (players n).seat
  before = subst All is_rested (calls n is_alive, stands.nodes n is_alive)

  first_loans : Starts p r.last.state.request_state (players n).seat (begin p (players n).seat call) ⊎ Takes (players n).seat (begin p (players n).seat call)
      → LoansStand p (held_at p stands.held (begin p (players n).seat call).local) (begin p (players n).seat call)
  first_loans (inl start) =
      same_slots p (players n).seat begun_seat (begins_keep_own p (players n).seat call) stands.held before.0.loans (held_at p stands.held begun_seat.local)
      (begins_held p (players n).seat stands.held begun_seat.local (message_at begun_seat.local) refl start.message)
      (λ port. ap (λ (ds : List Desk). option_map_or (λ (d : Desk). d.loans) (find (λ d. d.port == port) ds) 0) start.desks)
      (λ port. begins_lent p (players n).seat port (message_at begun_seat.local) start.message ∙ sym (ap (λ l. lent_slots port (message_at l)) idle))
      (begins_loan p (players n).seat stands.held (message_at begun_seat.local) start.message)
  first_loans (inr takes) =
      picked p (players n).seat begun_seat (begins_keep_own p (players n).seat call) stands.held before.0.loans takes.loan takes.slot
      (held_at p stands.held begun_seat.local) (ap (held_at p stands.held) takes.place)
      (λ port. ap (λ (ds : List Desk). option_map_or (λ (d : Desk). d.loans) (find (λ d. d.port == port) ds) 0) takes.desks
      ∙ desks_stay loans_told 0 (players n).seat takes.loan.port port (picks takes.loan takes.slot takes.free) (record { port = λ d. refl; told = λ d. refl }))
      (ap message_at takes.place) (ap message_at idle)

  first_stands : CallStands p (held_at p stands.held (begin p (players n).seat call).local) begun_seat
  first_stands = record {
    fits = begins_fit p (players n).seat call stands.numbers owners is_named before.0.fits;
    lanes = lanes_begun p words players r n call stands calls free;
    loans = first_loans (starts p r.last.state.request_state (players n).seat call);
  }

  pub begun_elsewhere : (k : ℕ) → (k == n) ≡ false → (port slot : ℕ) → IsPortOfSeat p (seats_of p players k) port
      → held_at p stands.held (begin p (players n).seat call).local port slot ≡ stands.held port slot
  begun_elsewhere k other port slot its =
      at_elsewhere p begun_seat port
      (not_its p players n k port begun_seat stands.shows.node
      ((begins_keep_own p (players n).seat call).node ∙ ap (λ (q : Seat). q.node) (sym is_rested) ∙ stands.shows.node n) other its)
      its.0 stands.held begun_seat.local slot first_stands.fits.place

  pub begun_stands : CallStands p (held_at p stands.held (begin p (players n).seat call).local) (shown p (begin p (players n).seat call))
  begun_stands = subst (CallStands p (held_at p stands.held begun_seat.local)) (sym (shown_same p begun_seat begun_seat.local (begins_leave_nothing p (players n).seat call))) first_stands

pub begun_calls_stand : BegunCallsStand
begun_calls_stand p words players r n call stands calls few told free =
    let kept = begins_keep p words players r n call stands (calls_may_begin p words players r n call stands calls few told free) free in (
      kept.0,
      kept.1,
      kept.2,
      kept.3,
      kept.4,
      by_node p stands.held kept.2.held players (record { seat = begin p (players n).seat call; said = (players n).said ++ Asked call ∷ [] }) n r.last.state
          kept.0.last.state (λ k. ap (λ (v : World). not_living v.state k) kept.1.beat.2)
          (λ k other alive port slot its low. ap (λ (h : Pools). h port slot) kept.3
          ∙ begun_elsewhere p words players r n call stands calls free k other port slot its)
          (λ k alive. lent_in_pool p stands.held r.last.state (seats_of p players k) (stands.nodes k alive)) calls
          (subst (λ h. CallStands p h (shown p (begin p (players n).seat call))) (sym kept.3) (begun_stands p words players r n call stands calls free)),
    )
