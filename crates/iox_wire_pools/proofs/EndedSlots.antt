-- Slots stay known as calls end.
use Rattle.std.specs.Prelude.{map, find, is_some, option_map, not, ◌&&◌, ◌||◌, ◌++◌, ◌≤◌}
use Rattle.std.specs.List.{list_all}
use Rattle.std.specs.Option.{option_map_or}
use Rattle.std.proofs.Common.{◌≡◌, ℕ, ◌+◌, ◌-◌, Bool, true, false, if◌then◌else◌, ◌==◌, List, [], ◌∷◌, Option, Some, None, refl, ap, sym, subst, ◌∙◌, arith, eqb-true, eq-eqb}
use Rattle.iox_model.specs.declared.kind.Kind.TheVariants.{ActiveRequest, Response}
use Rattle.iox_model.specs.declared.way.Way.{Way}
use Rattle.iox_model.specs.Handles.{is_own, is_received, is_request_loan}
use Rattle.iox_model.specs.Maps.{has_number, AreDistinctWays, AreDistinct}
use Rattle.iox_model.specs.Peers.{node_of_port, ways_from}
use Rattle.iox_model.specs.Settings.{is_client}
use Rattle.iox_model.specs.States.{Port, State}
use Rattle.iox_laws.proofs.WeaveLaws.WholeLemmas.{split}
use Rattle.iox_laws.proofs.WeaveLedger.Lists.{find-among}
use Rattle.iox_laws.proofs.WeaveLedger.Truths.{both_true, or-right}
use Rattle.iox_wire_moments.specs.MomentsOf.{Pools, serial_in}
use Rattle.iox_wire_locals.specs.declared.local.CallRefusal.{CallRefusal}
use Rattle.iox_wire_locals.specs.declared.local.Ending.{Ending}
use Rattle.iox_wire_locals.specs.declared.local.Ending.TheVariants as endings
use Rattle.iox_wire_locals.specs.declared.local.Local.TheVariants.{Idle}
use Rattle.iox_wire_locals.specs.declared.local.Visit.{Visit}
use Rattle.iox_wire_locals.specs.declared.seat.Seat.{Seat}
use Rattle.iox_wire_locals.specs.declared.table.Desk.{Desk}
use Rattle.iox_wire_locals.specs.declared.table.Entry.{Entry}
use Rattle.iox_wire_locals.specs.declared.table.Recorded.{Recorded}
use Rattle.iox_wire_locals.specs.Courses.{placed}
use Rattle.iox_wire_locals.specs.Desks.{at_count, at_desk, counts_loan, gives_up, on_desk, uses_less}
use Rattle.iox_wire_locals.specs.Known.{free_slots}
use Rattle.iox_wire_locals.specs.Lendings.{next_handle}
use Rattle.iox_wire_locals.specs.NewLoans.{entry_in, received_entry}
use Rattle.iox_wire_locals.specs.Settlements as settle
use Rattle.iox_wire_locals.specs.Steps.{closed, ending_at}
use Rattle.iox_wire_locals.specs.Tables.{Setting, sent_entry, way_in, with_entry, without_entry}
use Rattle.iox_wire_laws.specs.WireHolding.SlotsKnown.{IsPortOfSeat, SlotsKnown}
use Rattle.iox_wire_laws.specs.WireKeeping.Records.{RecordsFit, record_of, recorded_of}
use Rattle.iox_wire_laws.specs.WireKeeping.UsedSlots.{PortFits, slots_in_call, slots_of_ending, slots_used}
use Rattle.iox_wire_laws.proofs.WireKeeping.RecordsKept.{found}
use Rattle.iox_wire_pools.specs.EndedSlots.{EndsAreKnown, EndsAtPort, LeavesPorts}
use Rattle.iox_wire_pools.specs.Uses.{AllUsesAreCounted, how_often, uses_of}
use Rattle.iox_wire_pools.specs.UsesLaws.{EndsOwn, HasOneEntry, IsSent}
use Rattle.iox_wire_pools.proofs.Counting.{is_used, often_both, used}
use Rattle.iox_wire_pools.proofs.EndUses.{by_bool, call_ends, ends_keep_uses, gained, not_own}
use Rattle.iox_wire_pools.proofs.HeldSlots.{held_in, held_less, held_more, held_sent, slot_of}
use Rattle.iox_wire_pools.proofs.PoolsFit.{counted_pools_fit}
use Rattle.iox_wire_pools.proofs.RecordUses.{all_slots, ways_in}

-- ---- handles

-- an entry of the port's own holds a message of that port
abbrev is_mine : Entry → Bool
is_mine e = not (is_own e.kind) || (e.sender == e.port)

all_last : (e : Entry) (es : List Entry) → list_all is_mine es ≡ true → is_mine e ≡ true → list_all is_mine (es ++ e ∷ []) ≡ true
all_last e [] all mine = both_true (is_mine e) true mine refl
all_last e (k ∷ ks) all mine =
    let r = split (is_mine k) (list_all is_mine ks) all in both_true (is_mine k) _ r.0 (all_last e ks r.1 mine)

all_left : (e : Entry) (es : List Entry) → list_all is_mine es ≡ true → list_all is_mine (without_entry e es) ≡ true
all_left e [] all = refl
all_left e (k ∷ ks) all =
    let r = split (is_mine k) (list_all is_mine ks) all in by_case (k.number == e.number) r.0 (all_left e ks r.1)
  where
    by_case : (b : Bool) → is_mine k ≡ true → list_all is_mine (without_entry e ks) ≡ true
        → list_all is_mine (if not b then k ∷ without_entry e ks else without_entry e ks) ≡ true
    by_case true first rest = rest
    by_case false first rest = both_true (is_mine k) _ first rest

all_with : (e : Entry) (es : List Entry) → list_all is_mine es ≡ true → is_mine e ≡ true → list_all is_mine (with_entry e es) ≡ true
all_with e [] all mine = refl
all_with e (k ∷ ks) all mine =
    let r = split (is_mine k) (list_all is_mine ks) all in by_case (k.number == e.number) r.0 r.1 (all_with e ks r.1 mine)
  where
    by_case : (b : Bool) → is_mine k ≡ true → list_all is_mine ks ≡ true → list_all is_mine (with_entry e ks) ≡ true
        → list_all is_mine (if b then e ∷ ks else k ∷ with_entry e ks) ≡ true
    by_case true first later rest = both_true (is_mine e) _ mine later
    by_case false first later rest = both_true (is_mine k) _ first rest

-- ---- desks

-- The records are the same, and what is free is of the node's ports.
record LeavesRecords (p : Setting) (x z : Seat) : Type 0 where
  pub node : z.node ≡ x.node
  pub recorded : (port : ℕ) → recorded_of z port ≡ recorded_of x port
  pub free : (port slot : ℕ) → has_number slot (free_slots z port) ≡ true → IsPortOfSeat p x port

module _ (p : Setting) (x : Seat) (desks : (port slot : ℕ) → has_number slot (free_slots x port) ≡ true → IsPortOfSeat p x port) where
  desks_stay : (z : Seat) → z.node ≡ x.node → z.desks ≡ x.desks → LeavesRecords p x z
  desks_stay z node same = record {
    node = node;
    recorded = λ port. ap (λ (ds : List Desk). option_map_or (λ d. d.recorded) (find (λ d. d.port == port) ds) []) same;
    free = λ port slot has. desks port slot
        (subst (λ (ds : List Desk). has_number slot (option_map_or (λ d. d.free) (find (λ d. d.port == port) ds) []) ≡ true) same has);
  }

  desk_changes : (z : Seat) (q : ℕ) (change : Desk → Desk) → IsPortOfSeat p x q → z.node ≡ x.node → z.desks ≡ map (on_desk q change) x.desks
      → ((d : Desk) → (change d).port ≡ d.port) → ((d : Desk) → (change d).recorded ≡ d.recorded) → LeavesRecords p x z
  desk_changes z q change own node same keeps records = record {
    node = node;
    recorded = λ port. ap (λ (ds : List Desk). option_map_or (λ d. d.recorded) (find (λ d. d.port == port) ds) []) same
        ∙ ap (λ d. option_map_or (λ (e : Desk). e.recorded) d []) (now port) ∙ by_desk (find (λ d. d.port == port) x.desks);
    free = λ port slot has. by_port port slot (port == q) refl has;
  }
    where
      port_is : (d : Desk) (b : Bool) → (if b then change d else d).port ≡ d.port
      port_is d true = keeps d
      port_is d false = refl

      record_is : (d : Desk) (b : Bool) → (if b then change d else d).recorded ≡ d.recorded
      record_is d true = records d
      record_is d false = refl

      now : (port : ℕ) → find (λ d. d.port == port) (map (on_desk q change) x.desks) ≡ option_map (on_desk q change) (find (λ d. d.port == port) x.desks)
      now port = found (on_desk q change) (λ d. d.port == port) (λ d. ap (λ n. n == port) (port_is d (d.port == q))) x.desks

      by_desk : (d : Option Desk) → option_map_or (λ (e : Desk). e.recorded) (option_map (on_desk q change) d) [] ≡ option_map_or (λ (e : Desk). e.recorded) d []
      by_desk None = refl
      by_desk (Some d) = record_is d (d.port == q)

      free_is : (port : ℕ) → (port == q) ≡ false → (d : Option Desk) → find (λ e. e.port == port) x.desks ≡ d
          → option_map_or (λ (e : Desk). e.free) (option_map (on_desk q change) d) [] ≡ option_map_or (λ (e : Desk). e.free) d []
      free_is port other None here = refl
      free_is port other (Some d) here =
          let at : d.port ≡ port = eqb-true d.port port (find-among (λ (k : Desk). k.port == port) d x.desks here).1 in
          ap (λ b. (if b then change d else d).free) (ap (λ n. n == q) at ∙ other)

      by_port : (port slot : ℕ) (b : Bool) → (port == q) ≡ b → has_number slot (free_slots z port) ≡ true → IsPortOfSeat p x port
      by_port port slot true at has = subst (IsPortOfSeat p x) (sym (eqb-true port q at)) own
      by_port port slot false other has =
          desks port slot
          (ap (has_number slot) (sym (ap (λ (ds : List Desk). option_map_or (λ d. d.free) (find (λ d. d.port == port) ds) []) same
          ∙ ap (λ d. option_map_or (λ (e : Desk). e.free) d []) (now port) ∙ free_is port other (find (λ d. d.port == port) x.desks) refl)) ∙ has)

-- ---- the end

module _ (p : Setting) (held : Pools) (s t : State) (x : Seat) (ending : Ending) (known : SlotsKnown p held s x) (all : AllUsesAreCounted p x)
    (is : ending_at x.local ≡ Some ending) (own : EndsOwn x ending) (leaves : LeavesPorts s t) where
  abbrev y : Seat
  y = closed p x (Some ending)

  counted : AllUsesAreCounted p y
  counted = ends_keep_uses p x ending all is own

  trans : (a b c : ℕ) → a ≤ b → b ≤ c → a ≤ c
  trans a b c e f = omega (arith, e, f)

  module _ (same : LeavesRecords p x y) (entries : list_all is_mine x.table ≡ true → list_all is_mine y.table ≡ true)
      (fewer : (port n : ℕ) → uses_of y port n ≤ uses_of x port n) where
    old : (port i : ℕ) → has_number i (slots_used y port) ≡ true → has_number i (slots_used x port) ≡ true
    old port i has = is_used i (slots_used x port) (trans 1 (uses_of y port i) (uses_of x port i) (used i (slots_used y port) has) (fewer port i))

    records : RecordsFit held s x → RecordsFit held t y
    records fit = record {
      told = λ v k has. ap (λ (g : Way → ℕ → Bool). g v k) leaves.delivered
          ∙ fit.told v k (subst (λ rs. is_some (record_of v rs) ≡ true) (same.recorded v.sender) has)
          ∙ ap (λ rs. has_number k (map (serial_in held v) (option_map_or (λ (r : Recorded). r.slots) (record_of v rs) []))) (sym (same.recorded v.sender));
      once = λ v has. subst (λ rs. AreDistinct (map (serial_in held v) (option_map_or (λ (r : Recorded). r.slots) (record_of v rs) []))) (sym (same.recorded v.sender))
          (fit.once v (subst (λ rs. is_some (record_of v rs) ≡ true) (same.recorded v.sender) has));
    }

    port_fits : (port : ℕ) → PortFits held s x port → PortFits held t y port
    port_fits port fit = record {
      mine = ap (λ (ps : List Port). node_of_port (record (s.fixed) { ports = ps }) port) leaves.ports ∙ fit.mine ∙ sym same.node;
      entries = entries fit.entries;
      call = tt;
      ways = ap ways_in (same.recorded port) ∙ fit.ways ∙ ap (λ (ps : List Port). ways_from (record (s.fixed) { ports = ps }) port) (sym leaves.ports);
      apart = subst (λ rs. AreDistinctWays (ways_in rs)) (sym (same.recorded port)) fit.apart;
      from = ap (list_all (λ r. r.way.sender == port)) (same.recorded port) ∙ fit.from;
      records = records fit.records;
      counted = λ i has. trans (held port i).serial (s.fixed.loans port) (t.fixed.loans port) (fit.counted i (old port i has)) (leaves.loans port);
    }

    stays : SlotsKnown p held t y
    stays = record {
      desks = λ port slot has. let mine = same.free port slot has in (mine.0, mine.1 ∙ sym same.node);
      pools = λ port mine. counted_pools_fit held y port (p.port port).pool (counted port mine)
          (λ i j low also. known.apart port i j (mine.0, mine.1 ∙ same.node) low also);
      ports = λ port mine. port_fits port (known.ports port (mine.0, mine.1 ∙ same.node));
      apart = λ port i j mine low also. known.apart port i j (mine.0, mine.1 ∙ same.node) low also;
    }

-- ---- each ending

-- What a call leaves as it ends: the records, handles of the port's own messages, and no more uses.
record Leaves (p : Setting) (x : Seat) (ending : Ending) (z : Seat) : Type 0 where
  pub same : LeavesRecords p x (placed z Idle)
  pub entries : list_all is_mine x.table ≡ true → list_all is_mine z.table ≡ true
  pub fewer : (port n : ℕ) → how_often n (held_in port z.table) ≤ how_often n (slots_of_ending port ending) + how_often n (held_in port x.table)

le_of : (a b : ℕ) → a ≡ b → b ≤ a
le_of a b e = omega (arith, e)

le_less : (a b c : ℕ) → a ≡ b + c → c ≤ 0 + a
le_less a b c e = omega (arith, e)

le_more : (a b : ℕ) → a ≤ b + a
le_more a b = omega arith

le_sum : (a b : ℕ) → a ≡ 0 + b → a ≤ 0 + b
le_sum a b e = omega (arith, e)

le_same : (a b : ℕ) → a ≡ b → a ≤ 0 + b
le_same a b e = omega (arith, e)

module _ (p : Setting) (held : Pools) (s : State) (x : Seat) (known : SlotsKnown p held s x) (all : AllUsesAreCounted p x) where
  -- nothing changes
  none : (ending : Ending) → Leaves p x ending x
  none ending = record {
    same = desks_stay p x known.desks (placed x Idle) refl refl;
    entries = λ mine. mine;
    fewer = λ port n. le_more (how_often n (held_in port x.table)) (how_often n (slots_of_ending port ending));
  }

  -- a loan or a handle of one port is given up, or counted
  at_port : (z : Seat) (ending : Ending) (q : ℕ) (change : Desk → Desk) → IsPortOfSeat p x q → z.node ≡ x.node → z.desks ≡ map (on_desk q change) x.desks
      → ((d : Desk) → (change d).port ≡ d.port) → ((d : Desk) → (change d).recorded ≡ d.recorded)
      → (list_all is_mine x.table ≡ true → list_all is_mine z.table ≡ true)
      → ((port n : ℕ) → how_often n (held_in port z.table) ≤ how_often n (slots_of_ending port ending) + how_often n (held_in port x.table))
      → Leaves p x ending z
  at_port z ending q change own node desks keeps records entries fewer =
      record { same = desk_changes p x known.desks (placed z Idle) q change own node desks keeps records; entries = entries; fewer = fewer }

  no_less : (ending : Ending) (port n : ℕ) → how_often n (held_in port x.table) ≤ how_often n (slots_of_ending port ending) + how_often n (held_in port x.table)
  no_less ending port n = le_more (how_often n (held_in port x.table)) (how_often n (slots_of_ending port ending))

  -- an entry is gone
  fewer_left : (e : Entry) → HasOneEntry x e → (port n : ℕ) → how_often n (held_in port (without_entry e x.table)) ≤ 0 + how_often n (held_in port x.table)
  fewer_left e has port n =
      le_less (how_often n (held_in port x.table)) (how_often n (slot_of port e)) (how_often n (held_in port (without_entry e x.table)))
      (held_less port n e x.table has.0 has.1)

  more_mine : (e : Entry) → e.sender ≡ e.port → is_mine e ≡ true
  more_mine e from = or-right (not (is_own e.kind)) (e.sender == e.port) (eq-eqb e.sender e.port from)

  sends : (e : Entry) (copied : Bool) (count : ℕ) → IsSent x e copied → IsPortOfSeat p x e.port → e.sender ≡ e.port
      → Leaves p x (endings.Sends e copied count) (settle.after_send x e copied count)
  sends e true count sent own from =
      by_bool (Leaves p x (endings.Sends e true count)) (is_request_loan e.kind) (settle.sends_entry x e true count) (settle.sends_away x e true)
      (λ u. at_port (settle.sends_entry x e true count) (endings.Sends e true count) e.port counts_loan own refl refl (λ d. refl) (λ d. refl)
      (λ mine. all_last (sent_entry e count) x.table mine (more_mine (sent_entry e count) from))
      (λ port n. le_of _ _ (gained p x all (sent_entry e count) refl port n)))
      (λ u. at_port (settle.sends_away x e true) (endings.Sends e true count) e.port (λ d. uses_less e.slot (counts_loan d)) own refl refl (λ d. refl) (λ d. refl)
      (λ mine. mine) (no_less (endings.Sends e true count)))
  sends e false count sent own from =
      by_bool (Leaves p x (endings.Sends e false count)) (is_request_loan e.kind) (settle.sends_entry x e false count) (settle.sends_away x e false)
      (λ u. record {
        same = desks_stay p x known.desks (placed (settle.sends_entry x e false count) Idle) refl refl;
        entries = λ mine. all_with (sent_entry e count) x.table mine (more_mine (sent_entry e count) from);
        fewer = λ port n. le_same _ _ (held_sent port n e count x.table sent.1.0 sent.0);
      })
      (λ u. at_port (settle.sends_away x e false) (endings.Sends e false count) e.port (uses_less e.slot) own refl refl (λ d. refl) (λ d. refl)
      (all_left e x.table) (fewer_left e sent.1))

  fails : (e : Entry) (copied : Bool) (r : CallRefusal) → IsSent x e copied → IsPortOfSeat p x e.port
      → Leaves p x (endings.FailsToSend e copied r) (settle.after_refused_send x e copied)
  fails e true r sent own =
      at_port (settle.after_refused_send x e true) (endings.FailsToSend e true r) e.port (λ d. gives_up e (counts_loan d)) own refl refl (λ d. refl) (λ d. refl)
      (λ mine. mine) (no_less (endings.FailsToSend e true r))
  fails e false r sent own =
      at_port (settle.after_refused_send x e false) (endings.FailsToSend e false r) e.port (gives_up e) own refl refl (λ d. refl) (λ d. refl)
      (all_left e x.table) (fewer_left e sent.1)

  drops : (e : Entry) → HasOneEntry x e → (is_received e.kind ≡ false → IsPortOfSeat p x e.port) → Leaves p x (endings.Drops e) (settle.settled p x (endings.Drops e))
  drops e has own =
      by_bool (λ (z : Seat). Leaves p x (endings.Drops e) (settle.loses z e)) (is_received e.kind) (at_count x (way_in e) (λ n. n - 1)) (at_desk x e.port (gives_up e))
      (λ u. record {
        same = desks_stay p x known.desks (placed (settle.loses (at_count x (way_in e) (λ n. n - 1)) e) Idle) refl refl;
        entries = all_left e x.table;
        fewer = fewer_left e has;
      })
      (λ kept. at_port (settle.loses (at_desk x e.port (gives_up e)) e) (endings.Drops e) e.port (gives_up e) (own kept) refl refl (λ d. refl) (λ d. refl)
      (all_left e x.table) (fewer_left e has))

  receives : (v : Visit) (w : Way) (slot : ℕ) (header : List ℕ) → Leaves p x (endings.Receives v w slot header) (settle.settled p x (endings.Receives v w slot header))
  receives v w slot header = record {
    same = desks_stay p x known.desks (placed (settle.settled p x (endings.Receives v w slot header)) Idle) refl refl;
    entries = λ mine. all_last e x.table mine (ap (λ b. not b || (e.sender == e.port)) (not_own e.kind (kind (is_client v.role))));
    fewer = λ port n. le_sum (how_often n (held_in port (x.table ++ e ∷ []))) (how_often n (held_in port x.table)) (held_more port n e x.table
        ∙ ap (λ b. how_often n (if b && (e.port == port) then e.slot ∷ [] else []) + how_often n (held_in port x.table)) (not_own e.kind (kind (is_client v.role))));
  }
    where
      e : Entry
      e = received_entry (next_handle p x) v w slot header

      kind : (b : Bool) → is_received (if b then Response else ActiveRequest) ≡ true
      kind true = refl
      kind false = refl

  leaves_so : (ending : Ending) → EndsOwn x ending → EndsAtPort p x ending → Leaves p x ending (settle.settled p x ending)
  leaves_so (endings.Lends o slot) own at =
      at_port (settle.settled p x (endings.Lends o slot)) (endings.Lends o slot) o.port counts_loan at refl refl (λ d. refl) (λ d. refl)
      (λ mine. all_last (entry_in o slot) x.table mine (more_mine (entry_in o slot) refl)) (λ port n. le_of _ _ (gained p x all (entry_in o slot) own port n))
  leaves_so (endings.Sends e copied count) own at = sends e copied count own at.0 at.1
  leaves_so (endings.FailsToSend e copied r) own at = fails e copied r own at
  leaves_so (endings.Receives v w slot header) own at = receives v w slot header
  leaves_so (endings.Drops e) own at = drops e own.0 at
  leaves_so (endings.Forgets dead) own at = absurd at
  leaves_so (endings.Refuses r) own at = none (endings.Refuses r)
  leaves_so endings.Nothing own at = none endings.Nothing
  leaves_so endings.Done own at = none endings.Done
  leaves_so (endings.Answers told) own at = none (endings.Answers told)
  leaves_so (endings.Words words) own at = none (endings.Words words)
  leaves_so (endings.Fills e words) own at = none (endings.Fills e words)

-- the uses of a port: by its call, by handles, and on ways
parts : (q : Seat) (port n : ℕ) → uses_of q port n
    ≡ how_often n (slots_in_call port q.local) + (how_often n (held_in port q.table) + how_often n (all_slots (recorded_of q port)))
parts q port n =
    often_both n (slots_in_call port q.local) (held_in port q.table ++ all_slots (recorded_of q port))
    ∙ ap (λ k. how_often n (slots_in_call port q.local) + k) (often_both n (held_in port q.table) (all_slots (recorded_of q port)))

-- ---- the law

pub ends_are_known : EndsAreKnown
ends_are_known p held s t x ending known all is own at leaves = stays p held s t x ending known all is own leaves so.same so.entries fewer
  where
    so : Leaves p x ending (settle.settled p x ending)
    so = leaves_so p held s x known all ending own at

    sum : (a b c d e : ℕ) → c ≤ a + b → d ≡ e → 0 + (c + d) ≤ a + (b + e)
    sum a b c d e f g = omega (arith, f, g)

    fewer : (port n : ℕ) → uses_of (closed p x (Some ending)) port n ≤ uses_of x port n
    fewer port n =
        subst (λ k. k ≤ uses_of x port n) (sym (parts (closed p x (Some ending)) port n)) (subst (λ k. how_often n [] + (how_often n (held_in port (settle.settled p x ending).table) + how_often n (all_slots (recorded_of (closed p x (Some ending)) port))) ≤ k)
        (sym (parts x port n ∙ ap (λ ks. how_often n ks + (how_often n (held_in port x.table) + how_often n (all_slots (recorded_of x port)))) (call_ends port x.local ending is)))
        (sum (how_often n (slots_of_ending port ending)) (how_often n (held_in port x.table)) (how_often n (held_in port (settle.settled p x ending).table))
        (how_often n (all_slots (recorded_of (closed p x (Some ending)) port))) (how_often n (all_slots (recorded_of x port)))
        (so_fewer port n) (ap (λ rs. how_often n (all_slots rs)) (so_recorded port))))
      where
        so_fewer : (port n : ℕ) → how_often n (held_in port (settle.settled p x ending).table) ≤ how_often n (slots_of_ending port ending) + how_often n (held_in port x.table)
        so_fewer = (leaves_so p held s x known all ending own at).fewer

        so_recorded : (port : ℕ) → recorded_of (closed p x (Some ending)) port ≡ recorded_of x port
        so_recorded = (leaves_so p held s x known all ending own at).same.recorded
