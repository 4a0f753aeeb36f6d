-- Desks tell the serials of their slots still, as nodes go on.
use Rattle.std.specs.Prelude.{◌⊎◌, ◌&&◌, ◌-◌, ◌^◌, find, flat_map, is_some, option_map, slice_index, slice_set}
use Rattle.std.specs.Option.{option_map_or}
use Rattle.std.proofs.Common.{◌≡◌, ℕ, ◌+◌, ◌<◌, ◌≤◌, Bool, true, false, if◌then◌else◌, ◌==◌, List, [], ◌∷◌, length, map, Option, Some, None, refl, ap, sym, subst, ◌∙◌, arith, inl, inr, eq-eqb, eqb-true, true≢false}
use Rattle.std.proofs.lemmas.Bool.{cases_Bool}
use Rattle.std.proofs.lemmas.List.{length-set, get_or-set_other, get_or-set_same}
use Rattle.iox_model.specs.Commands.{WireCall}
use Rattle.iox_model.specs.Handles.{is_received, is_request_loan}
use Rattle.iox_model.specs.Maps.{has_number, put_at}
use Rattle.iox_model.specs.Messages.{Message}
use Rattle.iox_model.specs.Peers.{ports_of_node}
use Rattle.iox_model.specs.declared.way.RequestState.TheVariants.{Closed}
use Rattle.iox_laws.proofs.WeaveLaws.CallLaws.{eqb-flip}
use Rattle.iox_laws.proofs.WeaveLaws.MapLemmas.{either, eqb-refl}
use Rattle.iox_wire_calls.specs.Begins.{begin}
use Rattle.iox_wire_calls.specs.CallRefusal.{CallRefusal}
use Rattle.iox_wire_calls.specs.Desk.{Desk}
use Rattle.iox_wire_calls.specs.Desks.{all_less, at_count, at_desk, counts_loan, delivers, forgets_ports, gets_back, gives_up, on_desk, picks, slots_to, uses_less}
use Rattle.iox_wire_calls.specs.Ending.{Ending}
use Rattle.iox_wire_calls.specs.Ending.TheVariants as endings
use Rattle.iox_wire_calls.specs.Entry.{Entry}
use Rattle.iox_wire_calls.specs.FarSlots.{IsInPool}
use Rattle.iox_wire_calls.specs.Following.{CallMessage, DeskChange, Delivered, NodeContinues, GotBack, IsLending, Lent, NoMessage, Unchanged, changed, desk_change, drops, keeps, lets_go, message_at, message_ended, picks_slot, puts_aside, sends_loan, takes}
use Rattle.iox_wire_calls.specs.Holding.{held_after, held_at, held_from, held_with}
use Rattle.iox_wire_calls.specs.Known.{known}
use Rattle.iox_wire_calls.specs.Local.{Local}
use Rattle.iox_wire_calls.specs.Local.TheVariants.{LendStores}
use Rattle.iox_wire_calls.specs.MomentsOf.{Pools}
use Rattle.iox_wire_calls.specs.NewLoan.{NewLoan}
use Rattle.iox_wire_calls.specs.NewLoans.{entry_in, message_in}
use Rattle.iox_wire_calls.specs.Seat.{Seat}
use Rattle.iox_wire_calls.specs.Settlements as settle
use Rattle.iox_wire_calls.specs.SlotsKnown.{IsPortOfSeat}
use Rattle.iox_wire_calls.specs.Steps.{accessed, advance, closed, ending_at, next}
use Rattle.iox_wire_calls.specs.Tables.{Setting, sent_entry, way_in}
use Rattle.iox_wire_calls.specs.WholeSteps.{held_closed, held_next}
use Rattle.iox_wire_calls.specs.Writes.{is_slot_of, with_payload}
use Rattle.iox_wire_calls.proofs.Follows.{accesses_follow}
use Rattle.iox_wire_calls.proofs.LaneEnds.{message_of_end}
use Rattle.iox_wire_calls.proofs.OwnPorts.{both}
use Rattle.iox_wire_calls.proofs.PlaceCourses.{Leaves, desks_stay}
use Rattle.iox_wire_calls.proofs.SlotsFollow.{held_picked}
use Rattle.iox_wire_calls.proofs.Starts.{Starting, Starts, Takes, starts}
use Rattle.iox_wire_keeps.specs.Serials.{TellsSerials, serials_at}

-- ---- desks

abbrev serials_told : Desk → List ℕ
serials_told d = d.serials

abbrev serials_in : ℕ → List Desk → List ℕ
serials_in port ds = option_map_or serials_told (find (λ (d : Desk). d.port == port) ds) []

-- a change of all desks that leaves their serials
all_stay : (port : ℕ) (change : Desk → Desk) → Leaves serials_told change → (ds : List Desk)
    → serials_in port (map change ds) ≡ serials_in port ds
all_stay port change leaves [] = refl
all_stay port change leaves (d ∷ ds) =
    one (d.port == port) ((change d).port == port) (ap (λ k. k == port) (leaves.port d)) (all_stay port change leaves ds)
  where
    one : (a b : Bool) → b ≡ a → serials_in port (map change ds) ≡ serials_in port ds
        → option_map_or serials_told (if b then Some (change d) else find (λ (k : Desk). k.port == port) (map change ds)) []
        ≡ option_map_or serials_told (if a then Some d else find (λ (k : Desk). k.port == port) ds) []
    one true true is rest = leaves.told d
    one true false is rest = absurd (true≢false (sym is))
    one false true is rest = absurd (true≢false is)
    one false false is rest = rest

-- the slot of a new loan has its serial
picked : (x : Seat) (o : NewLoan) (slot : ℕ) (free : List ℕ) (port : ℕ)
    → serials_at (at_desk x o.port (picks o slot free)) port
    ≡ (if port == o.port then slice_set (serials_at x port) slot o.serial else serials_at x port)
picked x o slot free port = by_desks x.desks
  where
    none : (b : Bool) → [] ≡ (if b then slice_set [] slot o.serial else [])
    none true = refl
    none false = refl

    port_is : (d : Desk) (b : Bool) → (if b then picks o slot free d else d).port ≡ d.port
    port_is d true = refl
    port_is d false = refl

    now : (d : Desk) (b : Bool) → (if b then picks o slot free d else d).serials ≡ (if b then slice_set d.serials slot o.serial else d.serials)
    now d true = refl
    now d false = refl

    one : (d : Desk) (ds : List Desk) (a b : Bool) → b ≡ a → (a ≡ true → d.port ≡ port)
        → serials_in port (map (on_desk o.port (picks o slot free)) ds)
        ≡ (if port == o.port then slice_set (serials_in port ds) slot o.serial else serials_in port ds)
        → option_map_or serials_told (if b then Some (on_desk o.port (picks o slot free) d) else find (λ (k : Desk). k.port == port) (map (on_desk o.port (picks o slot free)) ds)) []
        ≡ (if port == o.port then slice_set (option_map_or serials_told (if a then Some d else find (λ (k : Desk). k.port == port) ds) []) slot o.serial
        else option_map_or serials_told (if a then Some d else find (λ (k : Desk). k.port == port) ds) [])
    one d ds true true is here rest =
        now d (d.port == o.port) ∙ ap (λ k. if k == o.port then slice_set d.serials slot o.serial else d.serials) (here refl)
    one d ds true false is here rest = absurd (true≢false (sym is))
    one d ds false true is here rest = absurd (true≢false is)
    one d ds false false is here rest = rest

    by_desks : (ds : List Desk) → serials_in port (map (on_desk o.port (picks o slot free)) ds)
        ≡ (if port == o.port then slice_set (serials_in port ds) slot o.serial else serials_in port ds)
    by_desks [] = none (port == o.port)
    by_desks (d ∷ ds) =
        one d ds (d.port == port) ((on_desk o.port (picks o slot free) d).port == port) (ap (λ k. k == port) (port_is d (d.port == o.port))) (eqb-true d.port port) (by_desks ds)

-- ---- the end of a call

less_port : (slots : List ℕ) (d : Desk) → (all_less slots d).port ≡ d.port
less_port [] d = refl
less_port (slot ∷ slots) d = less_port slots (uses_less slot d)

less_serials : (slots : List ℕ) (d : Desk) → (all_less slots d).serials ≡ d.serials
less_serials [] d = refl
less_serials (slot ∷ slots) d = less_serials slots (uses_less slot d)

module _ (p : Setting) (x : Seat) (port : ℕ) where
  abbrev Stays : Seat → Type 0
  Stays z = serials_at z port ≡ serials_at x port

  one_desk : (z : Seat) (q : ℕ) (change : Desk → Desk) → ((d : Desk) → (change d).port ≡ d.port) → ((d : Desk) → (change d).serials ≡ d.serials)
      → z.desks ≡ (at_desk x q change).desks → serials_at z port ≡ serials_at x port
  one_desk z q change keeps_port keeps_serials desks =
      ap (serials_in port) desks ∙ desks_stay serials_told [] x q port change (record { port = keeps_port; told = keeps_serials })

  sent : (e : Entry) (copied : Bool) (count : ℕ) (request : Bool) → Stays (if request then settle.sends_entry x e copied count else settle.sends_away x e copied)
  sent e true count true = one_desk (settle.sends_entry x e true count) e.port counts_loan (λ d. refl) (λ d. refl) refl
  sent e true count false = one_desk (settle.sends_away x e true) e.port (λ d. uses_less e.slot (counts_loan d)) (λ d. refl) (λ d. refl) refl
  sent e false count true = refl
  sent e false count false = one_desk (settle.sends_away x e false) e.port (uses_less e.slot) (λ d. refl) (λ d. refl) refl

  failed : (e : Entry) (copied : Bool) → Stays (settle.after_refused_send x e copied)
  failed e true = one_desk (settle.after_refused_send x e true) e.port (λ d. gives_up e (counts_loan d)) (λ d. refl) (λ d. refl) refl
  failed e false = one_desk (settle.after_refused_send x e false) e.port (gives_up e) (λ d. refl) (λ d. refl) refl

  dropped : (e : Entry) → Stays (settle.settled p x (endings.Drops e))
  dropped e =
      either (λ (z : Seat). Stays (settle.loses z e)) (is_received e.kind) (at_count x (way_in e) (λ n. n - 1)) (at_desk x e.port (gives_up e)) (λ got. refl)
      (λ own. one_desk (settle.loses (at_desk x e.port (gives_up e)) e) e.port (gives_up e) (λ d. refl) (λ d. refl) refl)

  forgotten : (dead : ℕ) → Stays (settle.settled p x (endings.Forgets dead))
  forgotten dead =
      either Stays (has_number dead x.forgot) x (settle.forgets p x dead) (λ is. refl)
      (λ is. all_stay port (forgets_ports (ports_of_node (known p x) dead)) (record {
        port = λ d. less_port (flat_map (slots_to (ports_of_node (known p x) dead)) d.recorded) d;
        told = λ d. less_serials (flat_map (slots_to (ports_of_node (known p x) dead)) d.recorded) d;
      }) x.desks)

  settled_same : (ending : Ending) → Stays (settle.settled p x ending)
  settled_same (endings.Lends o slot) = one_desk (settle.settled p x (endings.Lends o slot)) o.port counts_loan (λ d. refl) (λ d. refl) refl
  settled_same (endings.Sends e copied count) = sent e copied count (is_request_loan e.kind)
  settled_same (endings.FailsToSend e copied r) = failed e copied
  settled_same (endings.Receives v w slot header) = refl
  settled_same (endings.Drops e) = dropped e
  settled_same (endings.Forgets dead) = forgotten dead
  settled_same ending = refl

  closed_same : (o : Option Ending) → Stays (closed p x o)
  closed_same None = refl
  closed_same (Some ending) = settled_same ending

  change_same : (change : DeskChange) → serials_at (changed change x) port ≡ serials_at x port
  change_same Unchanged = refl
  change_same (GotBack q w slot) = one_desk (at_desk x q (gets_back w slot)) q (gets_back w slot) (λ d. refl) (λ d. refl) refl
  change_same (Delivered q w slot) = one_desk (at_desk x q (delivers w slot)) q (delivers w slot) (λ d. refl) (λ d. refl) refl

-- ---- what slots hold

-- the slot of a call's own loan holds a message of its serial
abbrev pub HoldsOwn : Pools → CallMessage → Type 0
HoldsOwn held (Lent o slot) = (held o.port slot).serial ≡ o.serial
HoldsOwn held other = Unit {0}

-- the serial that a slot holds once another one got the loan's message
abbrev pub serial_with : Pools → NewLoan → (slot port j : ℕ) → ℕ
serial_with held o slot port j = if (o.port == port) && (slot == j) then o.serial else (held port j).serial

module _ (p : Setting) (held : Pools) where
  with_is : (o : NewLoan) (slot port j : ℕ) → (held_with held o.port slot (message_in p o) port j).serial ≡ serial_with held o slot port j
  with_is o slot port j = by_slot ((o.port == port) && (slot == j))
    where
      by_slot : (b : Bool) → (if b then message_in p o else held port j).serial ≡ (if b then o.serial else (held port j).serial)
      by_slot true = refl
      by_slot false = refl

  -- the loan's message was there
  was_there : (o : NewLoan) (slot port j : ℕ) → (held o.port slot).serial ≡ o.serial → serial_with held o slot port j ≡ (held port j).serial
  was_there o slot port j own = by_slot ((o.port == port) && (slot == j)) refl
    where
      by_slot : (b : Bool) → ((o.port == port) && (slot == j)) ≡ b → (if b then o.serial else (held port j).serial) ≡ (held port j).serial
      by_slot true is =
          let parts = both (o.port == port) (slot == j) is in
          sym own ∙ ap (λ q. (held q slot).serial) (eqb-true o.port port parts.0) ∙ ap (λ i. (held port i).serial) (eqb-true slot j parts.1)
      by_slot false is = refl

  at_same : (local : Local) (port j : ℕ) → HoldsOwn held (message_at local) → (held_at p held local port j).serial ≡ (held port j).serial
  at_same (LendStores o slot k) port j own = with_is o slot port j ∙ was_there o slot port j own
  at_same local port j own = refl

  from_same : (old new : Local) (port j : ℕ) → HoldsOwn held (message_at new) → (held_from p held old new port j).serial ≡ (held port j).serial
  from_same (LendStores o slot k) new port j own = refl
  from_same old new port j own = at_same new port j own

  paid : (e : Entry) (words : List ℕ) (port j : ℕ) → (with_payload held e words port j).serial ≡ (held port j).serial
  paid e words port j = by_slot (is_slot_of e port j)
    where
      by_slot : (b : Bool) → (if b then record (held port j) { payload = words } else held port j).serial ≡ (held port j).serial
      by_slot true = refl
      by_slot false = refl

ended_serial : (p : Setting) (held : Pools) (payload : List ℕ) (ending : Ending) (port j : ℕ) → HoldsOwn held (message_ended ending)
    → (held_closed p held payload (Some ending) port j).serial ≡ (held port j).serial
ended_serial p held payload (endings.Lends o slot) port j own =
    paid p (held_with held o.port slot (message_in p o)) (entry_in o slot) payload port j ∙ with_is p held o slot port j ∙ was_there p held o slot port j own
ended_serial p held payload (endings.Fills e words) port j own = paid p held e words port j
ended_serial p held payload ending port j own = refl

own_same : (held new : Pools) (m : CallMessage) → ((port j : ℕ) → (new port j).serial ≡ (held port j).serial) → HoldsOwn held m → HoldsOwn new m
own_same held new (Lent o slot) same own = same o.port slot ∙ own
own_same held new m same own = tt

-- ---- a step

-- no desk and no slot has another serial
pub record Same (x y : Seat) (held new : Pools) : Type 0 where
  pub lists : (port : ℕ) → serials_at y port ≡ serials_at x port
  pub serials : (port slot : ℕ) → (new port slot).serial ≡ (held port slot).serial

-- or a loan took a slot
pub record Took (x y : Seat) (held new : Pools) (at : Local) : Type 0 where
  pub loan : NewLoan
  pub slot : ℕ
  pub lists : (port : ℕ) → serials_at y port ≡ (if port == loan.port then slice_set (serials_at x port) slot loan.serial else serials_at x port)
  pub serials : (port j : ℕ) → (new port j).serial ≡ serial_with held loan slot port j
  pub place : at ≡ LendStores loan slot 0

module _ (p : Setting) (x : Seat) (seen : ℕ) (held : Pools) (payload : List ℕ) (own : HoldsOwn held (message_at x.local)) where
  abbrev y : Seat
  y = advance p (accessed x) x.local seen

  abbrev new : Pools
  new = held_next p x seen payload held

  abbrev between : Pools
  between = held_after p x seen held

  -- where the call has that message then, and desks leave their serials
  goes : (m : CallMessage) → message_at y.local ≡ m → HoldsOwn held m → ((port : ℕ) → serials_at y port ≡ serials_at x port)
      → Same x (next p x seen) held (held_next p x seen payload held)
  goes m is has lists = record {
    lists = λ port. closed_same p y port (ending_at y.local) ∙ lists port;
    serials = λ port slot. ended (ending_at y.local) refl port slot ∙ accessed_same port slot;
  }
    where
      has_now : HoldsOwn held (message_at y.local)
      has_now = subst (HoldsOwn held) (sym is) has

      accessed_same : (port slot : ℕ) → (held_after p x seen held port slot).serial ≡ (held port slot).serial
      accessed_same port slot = from_same p held x.local y.local port slot has_now

      has_then : HoldsOwn (held_after p x seen held) (message_at y.local)
      has_then = own_same held (held_after p x seen held) (message_at y.local) accessed_same has_now

      ended : (o : Option Ending) → ending_at y.local ≡ o → (port slot : ℕ)
          → (held_closed p (held_after p x seen held) payload o port slot).serial ≡ (held_after p x seen held port slot).serial
      ended None at port slot = refl
      ended (Some ending) at port slot =
          ended_serial p (held_after p x seen held) payload ending port slot (subst (HoldsOwn (held_after p x seen held)) (message_of_end ending y.local at) has_then)

  lists_of : y.desks ≡ x.desks → (port : ℕ) → serials_at (advance p (accessed x) x.local seen) port ≡ serials_at x port
  lists_of desks port = ap (serials_in port) desks

  by_follows : NodeContinues p (accessed x) x.local seen (advance p (accessed x) x.local seen)
      → Same x (next p x seen) held (held_next p x seen payload held)
      ⊎ (Took x (next p x seen) held (held_next p x seen payload held) (next p x seen).local × IsLending x.local)
  by_follows (keeps desks message) =
      inl (goes (message_at x.local) message own (λ port. ap (serials_in port) desks ∙ change_same p (accessed x) port (desk_change p x.local seen)))
  by_follows (lets_go desks still message may) = inl (goes _ message tt (lists_of desks))
  by_follows (takes w slot desks still message on) = inl (goes _ message tt (lists_of desks))
  by_follows (puts_aside e desks still returns message) = inl (goes _ message tt (lists_of desks))
  by_follows (drops e desks still of message) = inl (goes _ message tt (lists_of desks))
  by_follows (sends_loan o slot desks still before copies message) = inl (goes _ message tt (lists_of desks))
  by_follows (picks_slot o slot free desks still place before there lends) = inr (
    record {
      loan = o;
      slot = slot;
      lists = λ port. closed_same p y port (ending_at y.local) ∙ ap (serials_in port) desks ∙ picked (accessed x) o slot free port;
      serials = λ port j.
          ap (λ e. (held_closed p (held_after p x seen held) payload e port j).serial) (ap ending_at place)
          ∙ ap (λ (h : Pools). (h port j).serial) (ap (held_from p held x.local) place ∙ held_picked p held x.local o slot before)
          ∙ with_is p held o slot port j;
      place = ap (λ e. (closed p y e).local) (ap ending_at place) ∙ place;
    },
    lends,
  )

  pub steps_so : Same x (next p x seen) held (held_next p x seen payload held)
      ⊎ (Took x (next p x seen) held (held_next p x seen payload held) (next p x seen).local × IsLending x.local)
  steps_so = by_follows (accesses_follow p (accessed x) seen)

-- ---- a begin

starts_held : (p : Setting) (x : Seat) (held : Pools) (local : Local) (m : CallMessage) → message_at local ≡ m → Starting p x m → held_at p held local ≡ held
starts_held p x held (LendStores o slot k) m is start = absurd (subst (Starting p x) (sym is) start)
starts_held p x held local m is start = refl

pub begins_so : (p : Setting) (x : Seat) (held : Pools) (call : WireCall)
    → Same x (begin p x call) held (held_at p held (begin p x call).local)
    ⊎ Took x (begin p x call) held (held_at p held (begin p x call).local) (begin p x call).local
begins_so p x held call = by_start (starts p (λ w. Closed) x call)
  where
    by_start : Starts p (λ w. Closed) x (begin p x call) ⊎ Takes x (begin p x call)
        → Same x (begin p x call) held (held_at p held (begin p x call).local)
        ⊎ Took x (begin p x call) held (held_at p held (begin p x call).local) (begin p x call).local
    by_start (inl start) = inl (record {
      lists = λ port. ap (serials_in port) start.desks;
      serials = λ port slot.
          ap (λ (h : Pools). (h port slot).serial) (starts_held p x held (begin p x call).local (message_at (begin p x call).local) refl start.message);
    })
    by_start (inr took) = inr (record {
      loan = took.loan;
      slot = took.slot;
      lists = λ port. ap (serials_in port) took.desks ∙ picked x took.loan took.slot took.free port;
      serials = λ port j. ap (λ l. (held_at p held l port j).serial) took.place ∙ with_is p held took.loan took.slot port j;
      place = took.place;
    })

-- ---- what desks tell

-- with slots that hold the same serials
pub told_same : (p : Setting) (held later : Pools) (x y : Seat) → y.node ≡ x.node → ((port : ℕ) → IsPortOfSeat p x port → serials_at y port ≡ serials_at x port)
    → ((port slot : ℕ) → IsPortOfSeat p x port → IsInPool p port slot → (later port slot).serial ≡ (held port slot).serial) → TellsSerials p held x → TellsSerials p later y
told_same p held later x y node lists serials tells = record {
  each = λ port mine. ap length (lists port (home port mine)) ∙ tells.each port (home port mine);
  told = λ port slot mine low small.
      ap (λ ks. slice_index ks slot) (lists port (home port mine))
      ∙ tells.told port slot (home port mine) low (subst (λ k. k < 2 ^ 64) (serials port slot (home port mine) low) small)
      ∙ sym (serials port slot (home port mine) low);
}
  where
    home : (port : ℕ) → IsPortOfSeat p y port → IsPortOfSeat p x port
    home port mine = (mine.0, mine.1 ∙ node)

-- where a loan took a slot of the node's port
module _ (p : Setting) (held new : Pools) (x y : Seat) (o : NewLoan) (slot : ℕ) (node : y.node ≡ x.node)
    (lists : (port : ℕ) → serials_at y port ≡ (if port == o.port then slice_set (serials_at x port) slot o.serial else serials_at x port))
    (serials : (port j : ℕ) → IsInPool p port j → (new port j).serial ≡ serial_with held o slot port j) (tells : TellsSerials p held x) where
  home : (port : ℕ) → IsPortOfSeat p y port → IsPortOfSeat p x port
  home port mine = (mine.0, mine.1 ∙ node)

  length_of : (b : Bool) (ks : List ℕ) → length (if b then slice_set ks slot o.serial else ks) ≡ length ks
  length_of true ks = length-set ks slot o.serial
  length_of false ks = refl

  module _ (port j : ℕ) (mine : IsPortOfSeat p y port) (low : IsInPool p port j) (small : (new port j).serial < 2 ^ 64) where
    abbrev ks : List ℕ
    ks = serials_at x port

    low_there : j < length (serials_at x port)
    low_there = subst (λ k. j < k) (sym (tells.each port (home port mine))) low

    was : serial_with held o slot port j ≡ (held port j).serial → slice_index (serials_at x port) j ≡ (new port j).serial
    was same =
        tells.told port j (home port mine) low (subst (λ k. k < 2 ^ 64) (serials port j low ∙ same) small) ∙ sym (serials port j low ∙ same)

    here : (a : Bool) → (port == o.port) ≡ a → (b : Bool) → (slot == j) ≡ b
        → slice_index (if a then slice_set (serials_at x port) slot o.serial else serials_at x port) j ≡ (new port j).serial
    here true same true at =
        let it : slot ≡ j = eqb-true slot j at in
        let there : o.port ≡ port = sym (eqb-true port o.port same) in
        ap (λ i. slice_index (slice_set (serials_at x port) i o.serial) j) it ∙ get_or-set_same (serials_at x port) j o.serial 0 low_there
        ∙ sym (serials port j low ∙ ap (λ b. if b && (slot == j) then o.serial else (held port j).serial) (ap (λ k. k == port) there ∙ eqb-refl port)
        ∙ ap (λ b. if b then o.serial else (held port j).serial) at)
    here true same false at =
        get_or-set_other (serials_at x port) slot j o.serial 0 (other slot j at) ∙ was (ap (λ b. if b then o.serial else (held port j).serial) (none (o.port == port) at))
      where
        other : (a b : ℕ) → (a == b) ≡ false → b ≡ a → ⊥
        other a b is same = true≢false (sym (eq-eqb a b (sym same)) ∙ is)

        none : (a : Bool) → (slot == j) ≡ false → (a && (slot == j)) ≡ false
        none true is = is
        none false is = refl
    here false other b at = was (ap (λ b. if b && (slot == j) then o.serial else (held port j).serial) (eqb-flip port o.port other))

  pub told_after : TellsSerials p new y
  told_after = record {
    each = λ port mine. ap length (lists port) ∙ length_of (port == o.port) (serials_at x port) ∙ tells.each port (home port mine);
    told = λ port j mine low small. ap (λ ks. slice_index ks j) (lists port) ∙ here port j mine low small (port == o.port) refl (slot == j) refl;
  }
