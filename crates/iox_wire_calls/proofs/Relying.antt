-- What an access relies on, place by place.
use Rattle.std.specs.Prelude.{find}
use Rattle.std.specs.Option.{option_map_or}
use Rattle.std.proofs.Common.{◌≡◌, ℕ, true, ◌==◌, List, [], Option, Some, None, ap, sym, subst, ◌∙◌, true≢false}
use Rattle.iox_model.specs.Joins.{not_living}
use Rattle.iox_model.specs.Maps.{has_number, is_empty}
use Rattle.iox_model.specs.Outstandings.{is_dry, kept}
use Rattle.iox_model.specs.Peers.{port_at}
use Rattle.iox_model.specs.States.{Port}
use Rattle.iox_model.specs.Weaves.{World}
use Rattle.iox_laws.proofs.WeaveLedger.Truths.{none-some}
use Rattle.iox_steps.specs.declared.push.Push.TheVariants as push
use Rattle.iox_steps.specs.declared.side.Popping.TheVariants as popping
use Rattle.iox_steps.specs.declared.side.Pushing.TheVariants as pushing
use Rattle.iox_steps.specs.Accesses.{seen_by}
use Rattle.iox_wire_steps.specs.Fits.{WireContents}
use Rattle.iox_wire_steps.specs.Programs.{program_access}
use Rattle.iox_wire_steps.specs.MomentsOf.{Pools}
use Rattle.iox_wire_steps.specs.Delivery.{Delivery}
use Rattle.iox_wire_steps.specs.Local.{Local}
use Rattle.iox_wire_steps.specs.Local.TheVariants.{Ends, Idle, LendEmpties, LendStores, Reads, ReceiveAsks, ReceiveLoads, ReceiveLooks, ReceivePops, ReceiveReturns, ReleaseReturns, Seeks, SendEmpties, SendEnds, SendEvicts, SendGetsBack, SendLooks, SendPushes}
use Rattle.iox_wire_steps.specs.Seat.{Seat}
use Rattle.iox_wire_steps.specs.NewLoan.{NewLoan}
use Rattle.iox_wire_steps.specs.Begins.{is_busy}
use Rattle.iox_wire_steps.specs.Knowing.{Knows}
use Rattle.iox_wire_steps.specs.Known.{free_slots}
use Rattle.iox_wire_steps.specs.Locals.{program_of}
use Rattle.iox_wire_steps.specs.NewLoans.{entry_in, loan_in, message_in}
use Rattle.iox_wire_steps.specs.StepLaws.{ReliesOn}
use Rattle.iox_wire_steps.specs.Steps.{accessed, ending_at}
use Rattle.iox_wire_steps.specs.Tables.{Setting, handle_of}
use Rattle.iox_wire_steps.specs.Shows.{ShowsWorld}
use Rattle.iox_wire_steps.specs.UsedSlots.{CallHolds, slots_in_call}
use Rattle.iox_wire_steps.specs.OwnedWords.{Owns}
use Rattle.iox_wire_steps.specs.SlotsKnown.{IsPortOfSeat}
use Rattle.iox_wire_steps.proofs.PushesOverflow.{full_pushes_overflow}
use Rattle.iox_wire_steps.proofs.SlotsFitted.{pools_are_told}
use Rattle.iox_wire_steps.specs.Nodes.{NodeStands}
use Rattle.iox_wire_steps.specs.Stands.{AreNumbered, OwnersAre}
use Rattle.iox_wire_calls.specs.Places.{CallFits, PlaceFits}
use Rattle.iox_wire_calls.specs.StepsTold.{MessageIsTold}
use Rattle.iox_wire_calls.proofs.LanesTell.{port_there}

module _ (p : Setting) (held : Pools) (word : ℕ → ℕ) (c : WireContents) (seats : ℕ → Seat) (w : World) (n : ℕ)
    (shows : ShowsWorld p held word c seats w) (living : not_living w.state n ≡ None) (owners : OwnersAre p w.state.fixed) (numbered : AreNumbered p)
    (stands : NodeStands p held w.state (seats n)) (fits : CallFits p (seats n)) where
  abbrev x : Seat
  x = seats n

  abbrev seen : ℕ
  seen = seen_by (program_access p.layout (program_of p x.local)) word

  knows : Knows p (seats n) w.state.fixed held
  knows = (shows.counts n living).knows

  -- the machine has the setting's port
  pub port_is : (port : ℕ) → has_number port p.layout.sizes.ports ≡ true → port_at w.state.fixed port ≡ Some (p.port port)
  port_is port has =
      ap (λ (ports : List Port). find (λ (q : Port). q.number == port) ports) knows.ports ∙ port_there p port p.layout.sizes.ports numbered has

  pub node_is : (port : ℕ) → IsPortOfSeat p (seats n) port → (p.port port).node ≡ (seats n).node
  node_is port home =
      sym (ap (λ (q : Option Port). option_map_or (λ (r : Port). r.node) q 0) (port_is port home.0)) ∙ sym (owners port) ∙ home.1

  -- ---- loans

  dry : (o : NewLoan) → IsPortOfSeat p (seats n) o.port → ((port : ℕ) → slots_in_call port (seats n).local ≡ [])
      → is_dry w.state.fixed o.port (kept w.state o.port []) ≡ is_empty (free_slots (seats n) o.port)
  dry o home none =
      pools_are_told p held w x o.port (p.port o.port) (shows.counts n living) (shows.doing n living) (stands.slots.ports o.port home) (port_is o.port home.0)
      (stands.slots.pools o.port home) (none o.port)

  -- a loan's handle is the machine's
  loan_handle : (o : NewLoan) (slot : ℕ) → IsPortOfSeat p (seats n) o.port → held o.port slot ≡ message_in p o
      → handle_of held (seats n).node (entry_in o slot) ≡ loan_in p o
  loan_handle o slot home holds = λ i. record {
    node = sym (node_is o.port home) i;
    number = o.number;
    kind = o.kind;
    port = o.port;
    message = holds i;
    filled = (holds i).elements;
    client = o.client;
    lane = o.lane;
    request = o.request;
    connections = 0;
  }

  -- ---- pushes

  own_sender : (local : Local) (d : Delivery) → x.local ≡ local → IsPortOfSeat p (seats n) d.loan.port → (CallHolds held local → d.loan.sender ≡ d.loan.port)
      → d.loan.sender ≡ d.loan.port
  own_sender local d is home own = own (subst (CallHolds held) is (stands.slots.ports d.loan.port home).call)

  pub relies_on : (local : Local) → x.local ≡ local → is_busy local ≡ true → ending_at local ≡ None → PlaceFits p (seats n) local
      → Owns p (seats n).node w.state.fixed w.state.request_state local → MessageIsTold p held w.state (seats n) seen local → ReliesOn p (accessed (seats n)) w.state held local seen
  relies_on Idle is busy going place owns told = absurd (true≢false (sym busy))
  relies_on (Ends ending) is busy going place owns told = none-some ending (sym going)
  relies_on (SendEnds d last count) is busy going place owns told = none-some _ (sym going)
  relies_on (LendEmpties o y (popping.Pops q) left) is busy going place owns told = dry o place.1.0 (λ port. ap (slots_in_call port) is)
  relies_on (LendEmpties o y part left) is busy going place owns told = absurd place.0
  relies_on (LendStores o slot next) is busy going place owns told =
      (sym (owners o.port) ∙ place.0.1, loan_handle o slot place.0 told)
  relies_on (SendEmpties d y (popping.Pops q) left) is busy going place owns told = tt
  relies_on (SendEmpties d y part left) is busy going place owns told = absurd place.0
  relies_on (SendLooks d y (pushing.Looks q) left full) is busy going place owns told = tt
  relies_on (SendLooks d y part left full) is busy going place owns told = absurd place.0
  relies_on (SendPushes d last y (pushing.Pushes (push.StoresWrite value end (Some read))) left count) is busy going place owns told =
      full_pushes_overflow p held word c seats w n d last y value end read left count shows living is owns.0.0.0.way (owns.0.0.0.mine ∙ shows.node n)
      (owns.0.0.1 ∙ own_sender (SendPushes d last y (pushing.Pushes (push.StoresWrite value end (Some read))) left count) d is place.1.0 (λ holds. holds))
  relies_on (SendPushes d last y (pushing.Pushes (push.Evicts read)) left count) is busy going place owns told = none-some _ owns.2
  relies_on (SendPushes d last y (pushing.Pushes (push.TakesOld cell)) left count) is busy going place owns told = none-some _ owns.2
  relies_on (SendPushes d last y (pushing.Pushes q) left count) is busy going place owns told = tt
  relies_on (SendPushes d last y part left count) is busy going place owns told = none-some _ owns.2
  relies_on (SendEvicts d y (pushing.Pushes (push.Evicts read)) left count) is busy going place owns told = tt
  relies_on (SendEvicts d y part left count) is busy going place owns told = absurd place.0
  relies_on (SendGetsBack d y (pushing.Pushes (push.TakesOld cell)) left count) is busy going place owns told = tt
  relies_on (SendGetsBack d y part left count) is busy going place owns told = absurd place.0
  relies_on (ReceiveLooks v y (popping.Looks q) left waiting) is busy going place owns told = tt
  relies_on (ReceiveLooks v y part left waiting) is busy going place owns told = absurd place.0
  relies_on (ReceivePops v y more (popping.Pops q) left waiting) is busy going place owns told = tt
  relies_on (ReceivePops v y more part left waiting) is busy going place owns told = absurd place.0
  relies_on (ReceiveLoads v y slot header left waiting) is busy going place owns told = λ whole. (told whole).0
  relies_on (ReceiveAsks v y slot header left waiting) is busy going place owns told = told
  relies_on (ReceiveReturns v y slot (pushing.Pushes q) left waiting) is busy going place owns told = tt
  relies_on (ReceiveReturns v y slot part left waiting) is busy going place owns told = none-some _ owns.1
  relies_on (Reads e words) is busy going place owns told = told
  relies_on (ReleaseReturns e (pushing.Pushes q)) is busy going place owns told = tt
  relies_on (ReleaseReturns e part) is busy going place owns told = none-some _ owns.2
  relies_on (Seeks y (popping.Looks q) left) is busy going place owns told = tt
  relies_on (Seeks y part left) is busy going place owns told = absurd place
  relies_on local is busy going place owns told = tt
