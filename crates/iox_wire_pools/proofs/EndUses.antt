-- The end of a call leaves uses counted.
use Rattle.std.specs.Prelude.{map, flat_map, option_map, ◌&&◌, ◌++◌}
use Rattle.iox_model.specs.declared.way.Way.{Way}
use Rattle.std.proofs.Common.{◌≡◌, ℕ, ◌+◌, ◌-◌, Bool, true, false, if◌then◌else◌, ◌==◌, List, [], ◌∷◌, Option, Some, None, refl, ap, sym, subst, ◌∙◌, arith, true≢false}
use Rattle.iox_model.specs.declared.kind.Kind.{Kind}
use Rattle.iox_model.specs.declared.kind.Kind.TheVariants.{Client, Server, RequestMut, RequestMutUninit, ResponseMut, ResponseMutUninit, PendingResponse, ActiveRequest, Response}
use Rattle.iox_model.specs.Handles.{is_own, is_received, is_request_loan}
use Rattle.iox_model.specs.Maps.{has_number, AreDistinctWays}
use Rattle.iox_model.specs.Peers.{ports_of_node}
use Rattle.iox_model.specs.Settings.{is_client}
use Rattle.iox_laws.proofs.WeaveLaws.MapLemmas.{eqb-refl}
use Rattle.iox_laws.proofs.WeaveLaws.WholeLemmas.{some-is}
use Rattle.iox_wire_locals.specs.declared.local.Ending.{Ending}
use Rattle.iox_wire_locals.specs.declared.local.Ending.TheVariants as endings
use Rattle.iox_wire_locals.specs.declared.local.Local.{Local}
use Rattle.iox_wire_locals.specs.declared.local.Local.TheVariants.{Idle, Ends, SendEnds}
use Rattle.iox_wire_locals.specs.declared.local.Visit.{Visit}
use Rattle.iox_wire_locals.specs.declared.seat.Seat.{Seat}
use Rattle.iox_wire_locals.specs.declared.table.Desk.{Desk}
use Rattle.iox_wire_locals.specs.declared.table.Entry.{Entry}
use Rattle.iox_wire_locals.specs.Courses.{placed}
use Rattle.iox_wire_locals.specs.Desks.{all_less, at_count, at_desk, counts_loan, forgets_ports, gives_up, lanes_back, on_desk, slots_to, uses_less, without_slots_to}
use Rattle.iox_wire_locals.specs.Known.{known}
use Rattle.iox_wire_locals.specs.Lendings.{next_handle}
use Rattle.iox_wire_locals.specs.NewLoans.{entry_in, received_entry}
use Rattle.iox_wire_locals.specs.Settlements as settle
use Rattle.iox_wire_locals.specs.Steps.{closed, ending_at}
use Rattle.iox_wire_locals.specs.Tables.{Setting, sent_entry, way_in, without_entry}
use Rattle.iox_wire_laws.specs.WireKeeping.UsedSlots.{slot_of_loan, slots_in_call, slots_of_ending}
use Rattle.iox_wire_laws.proofs.WireKeeping.RecordsKept.{found}
use Rattle.iox_wire_pools.specs.Uses.{AllUsesAreCounted, UsesAreCounted, how_often, uses_of}
use Rattle.iox_wire_pools.specs.UsesLaws.{EndsKeepUses, EndsOwn, HasOneEntry, IsSent}
use Rattle.iox_wire_pools.proofs.Counting.{one_if}
use Rattle.iox_wire_pools.proofs.DeskUses.{all_lessened, same_counts}
use Rattle.iox_wire_pools.proofs.HeldSlots.{held_in, held_less, held_more, held_sent, slot_of}
use Rattle.iox_wire_pools.proofs.RecordUses.{all_gone, all_slots, forgotten_ways}
use Rattle.iox_wire_pools.proofs.SeatUses.{HasDesk, desk_less, desk_same, own_uses, unchanged, uses_are}

-- the call has the slot of its ending
pub call_ends : (port : ℕ) (local : Local) (ending : Ending) → ending_at local ≡ Some ending → slots_in_call port local ≡ slots_of_ending port ending
call_ends port (Ends e) ending is = ap (slots_of_ending port) (some-is e ending is)
call_ends port (SendEnds d last count) ending is = ap (slots_of_ending port) (some-is (endings.Sends d.loan d.copied count) ending is)
call_ends port local ending is = absurd (subst IsSome is tt)
  where
    IsSome : Option Ending → Type 0
    IsSome None = Unit {0}
    IsSome (Some e) = ⊥

-- what was received is not the port's own
pub not_own : (k : Kind) → is_received k ≡ true → is_own k ≡ false
not_own ActiveRequest is = refl
not_own Response is = refl
not_own Client is = refl
not_own Server is = refl
not_own RequestMut is = absurd (true≢false (sym is))
not_own RequestMutUninit is = absurd (true≢false (sym is))
not_own ResponseMut is = absurd (true≢false (sym is))
not_own ResponseMutUninit is = absurd (true≢false (sym is))
not_own PendingResponse is = absurd (true≢false (sym is))

zero_on : (k : ℕ) → 0 + k ≡ k
zero_on k = omega arith

module _ (p : Setting) (x : Seat) (ending : Ending) (all : AllUsesAreCounted p x) (is : ending_at x.local ≡ Some ending) where
  -- own uses are those of the ending and of handles
  own_are : (port n : ℕ) → own_uses x port n ≡ how_often n (slots_of_ending port ending) + how_often n (held_in port x.table)
  own_are port n = ap (λ ks. how_often n ks + how_often n (held_in port x.table)) (call_ends port x.local ending is)

  -- the desks stay, and own uses are as many
  same_own : (z : Seat) → z.node ≡ x.node → z.desks ≡ x.desks
      → ((port n : ℕ) → how_often n (slots_of_ending port ending) + how_often n (held_in port x.table) ≡ how_often n (held_in port z.table))
      → AllUsesAreCounted p (placed z Idle)
  same_own z node desks own port mine =
      unchanged x (placed z Idle) port (p.port port).pool desks (λ n. own_are port n ∙ own port n ∙ sym (zero_on (how_often n (held_in port z.table))))
      (all port (mine.0, mine.1 ∙ node))

  -- one more loan is counted at one desk, and own uses are as many
  counts_own : (z : Seat) (q : ℕ) → z.node ≡ x.node → z.desks ≡ map (λ d. if d.port == q then counts_loan d else d) x.desks
      → ((port n : ℕ) → how_often n (slots_of_ending port ending) + how_often n (held_in port x.table) ≡ how_often n (held_in port z.table))
      → AllUsesAreCounted p (placed z Idle)
  counts_own z q node desks own port mine =
      desk_same x (placed z Idle) q counts_loan (record { node = node; desks = desks; port = λ d. refl }) (λ d. refl) (λ d. refl) (λ d. refl)
      port (p.port port).pool (λ n. own_are port n ∙ own port n ∙ sym (zero_on (how_often n (held_in port z.table)))) (all port (mine.0, mine.1 ∙ node))

-- ---- one own use less

-- a change of a desk that counts nothing of slots
record CountsSame (rest : Desk → Desk) : Type 0 where
  pub port : (d : Desk) → (rest d).port ≡ d.port
  pub uses : (d : Desk) → (rest d).uses ≡ d.uses
  pub free : (d : Desk) → (rest d).free ≡ d.free
  pub recorded : (d : Desk) → (rest d).recorded ≡ d.recorded

-- the slot of a loan of that port
abbrev loan_slot : ℕ → Entry → List ℕ
loan_slot port e = if e.port == port then e.slot ∷ [] else []

module _ (p : Setting) (x : Seat) (ending : Ending) (all : AllUsesAreCounted p x) (is : ending_at x.local ≡ Some ending) where
  -- a slot of the entry's port is given up, and own uses are one less there
  gives_own : (z : Seat) (e : Entry) (rest : Desk → Desk) → CountsSame rest → z.node ≡ x.node → z.desks ≡ map (on_desk e.port (λ d. uses_less e.slot (rest d))) x.desks
      → ((port n : ℕ) → how_often n (slots_of_ending port ending) + how_often n (held_in port x.table) ≡ how_often n (loan_slot port e) + how_often n (held_in port z.table))
      → AllUsesAreCounted p (placed z Idle)
  gives_own z e rest same node desks own port mine =
      desk_less x (placed z Idle) e.port e.slot rest (record { node = node; desks = desks; port = same.port }) same.uses same.free same.recorded
      port (p.port port).pool here beyond (all port (mine.0, mine.1 ∙ node))
    where
      flip : (a b : ℕ) → (a == b) ≡ (b == a)
      flip a b = grind (arith)

      one : (a b : ℕ) → (a + 0) + b ≡ a + (0 + b)
      one a b = omega arith

      before : (n : ℕ) → own_uses x port n ≡ how_often n (loan_slot port e) + how_often n (held_in port z.table)
      before n = own_are p x ending all is port n ∙ own port n

      here : port ≡ e.port → (n : ℕ) → own_uses x port n ≡ one_if (e.slot == n) + own_uses (placed z Idle) port n
      here at n =
          before n
          ∙ ap (λ b. how_often n (if b then e.slot ∷ [] else []) + how_often n (held_in port z.table)) (subst (λ k. (k == port) ≡ true) at (eqb-refl port))
          ∙ one (one_if (e.slot == n)) (how_often n (held_in port z.table))

      beyond : (port == e.port) ≡ false → (n : ℕ) → own_uses x port n ≡ own_uses (placed z Idle) port n
      beyond other n =
          before n
          ∙ ap (λ b. how_often n (if b then e.slot ∷ [] else []) + how_often n (held_in port z.table)) (flip e.port port ∙ other)

-- ---- what was lent, sent and received

-- an own entry's slot is that of its port
own_slot : (port : ℕ) (e : Entry) → is_own e.kind ≡ true → slot_of port e ≡ loan_slot port e
own_slot port e own = ap (λ b. if b && (e.port == port) then e.slot ∷ [] else []) own

pub by_bool : {A : Type 0} (P : A → Type 0) (b : Bool) (y z : A) → (b ≡ true → P y) → (b ≡ false → P z) → P (if b then y else z)
by_bool P true y z f g = f refl
by_bool P false y z f g = g refl

module _ (p : Setting) (x : Seat) (all : AllUsesAreCounted p x) where
  abbrev K : Seat → Type 0
  K z = AllUsesAreCounted p (placed z Idle)

  -- a handle for the slot of the call
  pub gained : (e : Entry) → is_own e.kind ≡ true → (port n : ℕ)
      → how_often n (slot_of_loan port e.port true e.slot) + how_often n (held_in port x.table) ≡ how_often n (held_in port (x.table ++ e ∷ []))
  gained e own port n =
      ap (λ ks. how_often n ks + how_often n (held_in port x.table)) (sym (own_slot port e own)) ∙ sym (held_more port n e x.table)

  -- a handle is given up
  lost : (e : Entry) → is_own e.kind ≡ true → HasOneEntry x e → (port n : ℕ)
      → 0 + how_often n (held_in port x.table) ≡ how_often n (loan_slot port e) + how_often n (held_in port (without_entry e x.table))
  lost e own has port n =
      zero_on (how_often n (held_in port x.table)) ∙ held_less port n e x.table has.0 has.1
      ∙ ap (λ ks. how_often n ks + how_often n (held_in port (without_entry e x.table))) (own_slot port e own)

  -- a received handle is given up
  lost_received : (e : Entry) → is_received e.kind ≡ true → HasOneEntry x e → (port n : ℕ)
      → 0 + how_often n (held_in port x.table) ≡ how_often n (held_in port (without_entry e x.table))
  lost_received e is has port n =
      zero_on (how_often n (held_in port x.table)) ∙ held_less port n e x.table has.0 has.1
      ∙ ap (λ b. how_often n (if b && (e.port == port) then e.slot ∷ [] else []) + how_often n (held_in port (without_entry e x.table))) (not_own e.kind is)
      ∙ zero_on (how_often n (held_in port (without_entry e x.table)))

  module _ (e : Entry) (count : ℕ) where
    sends : (copied : Bool) → ending_at x.local ≡ Some (endings.Sends e copied count) → IsSent x e copied → K (settle.after_send x e copied count)
    sends true is sent =
        by_bool K (is_request_loan e.kind) (settle.sends_entry x e true count) (settle.sends_away x e true)
        (λ yes. counts_own p x (endings.Sends e true count) all is (settle.sends_entry x e true count) e.port refl refl (gained (sent_entry e count) refl))
        (λ u. gives_own p x (endings.Sends e true count) all is (settle.sends_away x e true) e counts_loan
        (record { port = λ d. refl; uses = λ d. refl; free = λ d. refl; recorded = λ d. refl }) refl refl (λ port n. refl))
    sends false is sent =
        by_bool K (is_request_loan e.kind) (settle.sends_entry x e false count) (settle.sends_away x e false)
        (λ yes. same_own p x (endings.Sends e false count) all is (settle.sends_entry x e false count) refl refl
        (λ port n. zero_on (how_often n (held_in port x.table)) ∙ sym (held_sent port n e count x.table sent.1.0 sent.0)))
        (λ u. gives_own p x (endings.Sends e false count) all is (settle.sends_away x e false) e (λ d. d)
        (record { port = λ d. refl; uses = λ d. refl; free = λ d. refl; recorded = λ d. refl }) refl refl (lost e sent.0 sent.1))

  abbrev lane_back : Entry → Desk → Desk
  lane_back e d = record d { free_lanes = lanes_back e d.free_lanes }

  fails : (e : Entry) (copied : Bool) (ending : Ending) → ((port : ℕ) → slots_of_ending port ending ≡ slot_of_loan port e.port copied e.slot)
      → ending_at x.local ≡ Some ending → IsSent x e copied → K (settle.after_refused_send x e copied)
  fails e true ending slots is sent =
      gives_own p x ending all is (settle.after_refused_send x e true) e (λ d. lane_back e (counts_loan d))
      (record { port = λ d. refl; uses = λ d. refl; free = λ d. refl; recorded = λ d. refl }) refl refl
      (λ port n. ap (λ ks. how_often n ks + how_often n (held_in port x.table)) (slots port))
  fails e false ending slots is sent =
      gives_own p x ending all is (settle.after_refused_send x e false) e (lane_back e)
      (record { port = λ d. refl; uses = λ d. refl; free = λ d. refl; recorded = λ d. refl }) refl refl
      (λ port n. ap (λ ks. how_often n ks + how_often n (held_in port x.table)) (slots port) ∙ lost e sent.0 sent.1 port n)

  drops : (e : Entry) → ending_at x.local ≡ Some (endings.Drops e) → HasOneEntry x e → (is_received e.kind ≡ false → is_own e.kind ≡ true) → K (settle.settled p x (endings.Drops e))
  drops e is has own_if =
      by_bool (λ (z : Seat). K (settle.loses z e)) (is_received e.kind) (at_count x (way_in e) (λ n. n - 1)) (at_desk x e.port (gives_up e))
      (λ got. same_own p x (endings.Drops e) all is (settle.loses (at_count x (way_in e) (λ n. n - 1)) e) refl refl (lost_received e got has))
      (λ kept. gives_own p x (endings.Drops e) all is (settle.loses (at_desk x e.port (gives_up e)) e) e (lane_back e)
      (record { port = λ d. refl; uses = λ d. refl; free = λ d. refl; recorded = λ d. refl }) refl refl (lost e (own_if kept) has))

  receives : (v : Visit) (w : Way) (slot : ℕ) (header : List ℕ) → ending_at x.local ≡ Some (endings.Receives v w slot header)
      → K (settle.settled p x (endings.Receives v w slot header))
  receives v w slot header is =
      same_own p x (endings.Receives v w slot header) all is (settle.settled p x (endings.Receives v w slot header)) refl refl
      (λ port n. zero_on (how_often n (held_in port x.table)) ∙ sym (held_more port n e x.table
      ∙ ap (λ b. how_often n (if b && (e.port == port) then e.slot ∷ [] else []) + how_often n (held_in port x.table)) (not_own e.kind (kind (is_client v.role)))
      ∙ zero_on (how_often n (held_in port x.table))))
    where
      e : Entry
      e = received_entry (next_handle p x) v w slot header

      kind : (b : Bool) → is_received (if b then Response else ActiveRequest) ≡ true
      kind true = refl
      kind false = refl

-- ---- a dead node is forgotten

module _ (p : Setting) (x : Seat) (dead : ℕ) (all : AllUsesAreCounted p x) (is : ending_at x.local ≡ Some (endings.Forgets dead)) where
  abbrev ports : List ℕ
  ports = ports_of_node (known p x) dead

  less_port : (slots : List ℕ) (d : Desk) → (all_less slots d).port ≡ d.port
  less_port [] d = refl
  less_port (slot ∷ slots) d = less_port slots (uses_less slot d)

  forgets : AllUsesAreCounted p (placed (settle.forgets p x dead) Idle)
  forgets port mine = record {
    desk = forgets_ports ports d;
    there = now;
    ways = subst AreDistinctWays (sym (forgotten_ways ports d.recorded)) counted.ways;
    counts = same_counts (p.port port).pool (uses_of y port) (all_less (flat_map (slots_to ports) d.recorded) d) (forgets_ports ports d) refl refl
        (all_lessened (p.port port).pool (flat_map (slots_to ports) d.recorded) (uses_of x port) (uses_of y port) d counted.counts less);
  }
    where
      y : Seat
      y = placed (settle.forgets p x dead) Idle

      counted : UsesAreCounted x port (p.port port).pool
      counted = all port mine

      d : Desk
      d = counted.desk

      now : HasDesk y port (forgets_ports ports d)
      now =
          found (forgets_ports ports) (λ k. k.port == port) (λ k. ap (λ n. n == port) (less_port (flat_map (slots_to ports) k.recorded) k)) x.desks
          ∙ ap (option_map (forgets_ports ports)) counted.there

      late : (a b c : ℕ) → a + (b + c) ≡ b + (a + c)
      late a b c = omega arith

      less : (n : ℕ) → uses_of x port n ≡ how_often n (flat_map (slots_to ports) d.recorded) + uses_of y port n
      less n =
          uses_are x port n d counted.there ∙ ap (λ k. own_uses x port n + k) (all_gone ports n d.recorded)
          ∙ late (own_uses x port n) (how_often n (flat_map (slots_to ports) d.recorded)) (how_often n (all_slots (map (without_slots_to ports) d.recorded)))
          ∙ ap (λ k. how_often n (flat_map (slots_to ports) d.recorded) + (k + how_often n (all_slots (map (without_slots_to ports) d.recorded))))
          (own_are p x (endings.Forgets dead) all is port n)
          ∙ ap (λ k. how_often n (flat_map (slots_to ports) d.recorded) + k) (sym (uses_are y port n (forgets_ports ports d) now))

-- ---- the end

ended : (p : Setting) (x : Seat) (ending : Ending) → AllUsesAreCounted p x → ending_at x.local ≡ Some ending → EndsOwn x ending → AllUsesAreCounted p (closed p x (Some ending))
ended p x (endings.Lends o slot) all is own =
    counts_own p x (endings.Lends o slot) all is (settle.settled p x (endings.Lends o slot)) o.port refl refl (gained p x all (entry_in o slot) own)
ended p x (endings.Sends e copied count) all is own = sends p x all e count copied is own
ended p x (endings.FailsToSend e copied r) all is own = fails p x all e copied (endings.FailsToSend e copied r) (λ port. refl) is own
ended p x (endings.Receives v w slot header) all is own = receives p x all v w slot header is
ended p x (endings.Drops e) all is own = drops p x all e is own.0 own.1
ended p x (endings.Forgets dead) all is own =
    by_bool (λ (z : Seat). AllUsesAreCounted p (placed z Idle)) (has_number dead x.forgot) x (settle.forgets p x dead)
    (λ u. same_own p x (endings.Forgets dead) all is x refl refl (λ port n. zero_on (how_often n (held_in port x.table)))) (λ u. forgets p x dead all is)
ended p x (endings.Refuses r) all is own = same_own p x (endings.Refuses r) all is x refl refl (λ port n. zero_on (how_often n (held_in port x.table)))
ended p x endings.Nothing all is own = same_own p x endings.Nothing all is x refl refl (λ port n. zero_on (how_often n (held_in port x.table)))
ended p x endings.Done all is own = same_own p x endings.Done all is x refl refl (λ port n. zero_on (how_often n (held_in port x.table)))
ended p x (endings.Answers told) all is own = same_own p x (endings.Answers told) all is x refl refl (λ port n. zero_on (how_often n (held_in port x.table)))
ended p x (endings.Words words) all is own = same_own p x (endings.Words words) all is x refl refl (λ port n. zero_on (how_often n (held_in port x.table)))
ended p x (endings.Fills e words) all is own = same_own p x (endings.Fills e words) all is x refl refl (λ port n. zero_on (how_often n (held_in port x.table)))

pub ends_keep_uses : EndsKeepUses
ends_keep_uses p x ending all is own = ended p x ending all is own
