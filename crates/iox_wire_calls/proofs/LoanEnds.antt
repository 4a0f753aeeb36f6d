-- The slots of loans as the call ends: one that made a loan counts it.
use Rattle.std.specs.Prelude.{◌<◌, ◌≤◌, ◌^◌, ◌&&◌, ◌-◌, find, flat_map, map, option_map}
use Rattle.std.specs.Option.{option_map_or}
use Rattle.std.proofs.Common.{◌≡◌, ℕ, ◌+◌, Bool, true, false, if◌then◌else◌, ◌==◌, List, [], ◌∷◌, Some, refl, ap, sym, subst, ◌∙◌, arith, inl, inr, true≢false, eqb-true}
use Rattle.iox_model.specs.Handles.{is_received, is_request_loan}
use Rattle.iox_model.specs.Maps.{has_number}
use Rattle.iox_model.specs.Peers.{ports_of_node}
use Rattle.iox_model.specs.States.{State}
use Rattle.iox_laws.proofs.WeaveLaws.CallLaws.{eqb-flip}
use Rattle.iox_laws.proofs.WeaveLaws.MapLemmas.{either}
use Rattle.iox_laws.proofs.WeaveLedger.Lists.{among-front, among-number, find-among, number-among}
use Rattle.iox_model.specs.Messages.{Message}
use Rattle.iox_wire_steps.specs.MomentsOf.{Pools}
use Rattle.iox_wire_steps.specs.CallRefusal.{CallRefusal}
use Rattle.iox_wire_steps.specs.Ending.{Ending}
use Rattle.iox_wire_steps.specs.Ending.TheVariants as endings
use Rattle.iox_wire_steps.specs.Seat.{Seat}
use Rattle.iox_wire_steps.specs.Desk.{Desk}
use Rattle.iox_wire_steps.specs.Entry.{Entry}
use Rattle.iox_wire_steps.specs.NewLoan.{NewLoan}
use Rattle.iox_wire_steps.specs.Desks.{all_less, at_count, at_desk, counts_loan, forgets_ports, gives_up, on_desk, slots_to, uses_less}
use Rattle.iox_wire_steps.specs.Known.{known, loans_at}
use Rattle.iox_wire_steps.specs.NewLoans.{entry_in, message_in}
use Rattle.iox_wire_steps.specs.Settlements as settle
use Rattle.iox_wire_steps.specs.Steps.{closed}
use Rattle.iox_wire_steps.specs.Tables.{Setting, way_in}
use Rattle.iox_wire_steps.specs.UsedSlots.{slots_in_call, slots_used}
use Rattle.iox_wire_steps.specs.Writes.{is_slot_of, with_payload}
use Rattle.iox_wire_steps.specs.Holding.{held_with}
use Rattle.iox_wire_steps.specs.SlotsKnown.{IsPortOfSeat}
use Rattle.iox_wire_steps.proofs.RecordsKept.{found}
use Rattle.iox_wire_steps.proofs.OwnPorts.{both}
use Rattle.iox_wire_steps.specs.Following.{message_at, message_ended}
use Rattle.iox_wire_steps.specs.Over.{CallIsOver}
use Rattle.iox_wire_steps.specs.WholeSteps.{held_closed}
use Rattle.iox_wire_calls.specs.LoanSlots.{EndsKeepLoanSlots, HoldsLoan, HoldsSerial, LoansStand}
use Rattle.iox_wire_calls.proofs.LaneEnds.{message_of_end}
use Rattle.iox_wire_calls.proofs.LoanSlots.{lent_slots, slots_by_message}
use Rattle.iox_wire_calls.proofs.PlaceCourses.{desks_stay, loans_told}
use Rattle.iox_wire_calls.proofs.PlaceEnds.{settled_node}

-- ---- desks

module _ (x : Seat) (port : ℕ) (d : Desk) (there : find (λ d. d.port == port) x.desks ≡ Some d) where
  was : loans_at x port ≡ d.loans
  was = ap (λ o. option_map_or (λ (k : Desk). k.loans) o 0) there

  all_changed : (z : Seat) (change : Desk → Desk) → ((k : Desk) → (change k).port ≡ k.port) → z.desks ≡ map change x.desks → loans_at z port ≡ (change d).loans
  all_changed z change keeps desks =
      ap (λ (ds : List Desk). option_map_or (λ (k : Desk). k.loans) (find (λ k. k.port == port) ds) 0) desks
      ∙ ap (λ o. option_map_or (λ (k : Desk). k.loans) o 0)
      (found change (λ k. k.port == port) (λ k. ap (λ n. n == port) (keeps k)) x.desks ∙ ap (option_map change) there)

  -- one loan more of that port
  one_more : (z : Seat) (q : ℕ) (change : Desk → Desk) → ((k : Desk) → (change k).port ≡ k.port) → ((k : Desk) → (change k).loans ≡ k.loans + 1)
      → z.desks ≡ map (on_desk q change) x.desks → loans_at z port ≡ (if port == q then loans_at x port + 1 else loans_at x port)
  one_more z q change keeps more desks =
      all_changed z (on_desk q change) (λ k. port_is k (k.port == q)) desks ∙ counts (d.port == q)
      ∙ ap (λ k. if k == q then d.loans + 1 else d.loans) (eqb-true d.port port (find-among (λ (k : Desk). k.port == port) d x.desks there).1)
      ∙ ap (λ k. if port == q then k + 1 else k) (sym was)
    where
      port_is : (k : Desk) (b : Bool) → (if b then change k else k).port ≡ k.port
      port_is k true = keeps k
      port_is k false = refl

      counts : (b : Bool) → (if b then change d else d).loans ≡ (if b then d.loans + 1 else d.loans)
      counts true = more d
      counts false = refl

-- ---- how many loans are counted then

-- as many as before, or one more of the port whose slot the call has
record Counts (x z : Seat) (ending : Ending) (port : ℕ) : Type 0 where
  pub less : loans_at x port ≤ loans_at z port
  pub more : (slot : ℕ) → has_number slot (lent_slots port (message_ended ending)) ≡ true → loans_at z port ≡ loans_at x port + 1

same_count : (x z : Seat) (ending : Ending) (port : ℕ) → loans_at z port ≡ loans_at x port → lent_slots port (message_ended ending) ≡ [] → Counts x z ending port
same_count x z ending port same none = record {
  less = at_least (loans_at x port) (loans_at z port) same;
  more = λ slot has. absurd (true≢false (sym has ∙ ap (has_number slot) none));
}
  where
    at_least : (a b : ℕ) → b ≡ a → a ≤ b
    at_least a b is = omega (arith, is)

one_count : (x z : Seat) (ending : Ending) (port q own : ℕ) → loans_at z port ≡ (if port == q then loans_at x port + 1 else loans_at x port)
    → lent_slots port (message_ended ending) ≡ (if q == port then own ∷ [] else []) → Counts x z ending port
one_count x z ending port q own counts lent = by_port (port == q) refl
  where
    at_least : (a b : ℕ) → b ≡ a + 1 → a ≤ b
    at_least a b is = omega (arith, is)

    by_port : (b : Bool) → (port == q) ≡ b → Counts x z ending port
    by_port true is =
        let now : loans_at z port ≡ loans_at x port + 1 = counts ∙ ap (λ b. if b then loans_at x port + 1 else loans_at x port) is in
        record { less = at_least (loans_at x port) (loans_at z port) now; more = λ slot has. now }
    by_port false is =
        same_count x z ending port (counts ∙ ap (λ b. if b then loans_at x port + 1 else loans_at x port) is)
        (lent ∙ ap (λ b. if b then own ∷ [] else []) (eqb-flip port q is))

module _ (p : Setting) (held : Pools) (s : State) (x : Seat) where
  module _ (ending : Ending) (over : CallIsOver p held s x ending) (port : ℕ) (home : IsPortOfSeat p x port) where
    counts_one : (z : Seat) (q own : ℕ) (change : Desk → Desk) → ((k : Desk) → (change k).port ≡ k.port) → ((k : Desk) → (change k).loans ≡ k.loans + 1)
        → z.desks ≡ map (on_desk q change) x.desks → lent_slots port (message_ended ending) ≡ (if q == port then own ∷ [] else []) → Counts x z ending port
    counts_one z q own change keeps more desks lent =
        one_count x z ending port q own (one_more x port (over.uses port home).desk (over.uses port home).there z q change keeps more desks) lent

  module _ (port : ℕ) (home : IsPortOfSeat p x port) where
    abbrev C : Ending → Seat → Type 0
    C ending z = Counts x z ending port

    still : (z : Seat) (ending : Ending) (q : ℕ) (change : Desk → Desk) → ((k : Desk) → (change k).port ≡ k.port) → ((k : Desk) → (change k).loans ≡ k.loans)
        → (w : Seat) → w.desks ≡ x.desks → lent_slots port (message_ended ending) ≡ [] → Counts x (at_desk w q change) ending port
    still z ending q change keeps same w desks none =
        same_count x (at_desk w q change) ending port
        (desks_stay loans_told 0 w q port change (record { port = keeps; told = same })
        ∙ ap (λ (ds : List Desk). option_map_or (λ (k : Desk). k.loans) (find (λ k. k.port == port) ds) 0) desks) none

    sends : (e : Entry) (copied : Bool) (count : ℕ) → CallIsOver p held s x (endings.Sends e copied count) → C (endings.Sends e copied count) (settle.after_send x e copied count)
    sends e true count over =
        either (C (endings.Sends e true count)) (is_request_loan e.kind) (settle.sends_entry x e true count) (settle.sends_away x e true)
        (λ is. counts_one (endings.Sends e true count) over port home (settle.sends_entry x e true count) e.port e.slot counts_loan (λ k. refl) (λ k. refl) refl refl)
        (λ is. counts_one (endings.Sends e true count) over port home (settle.sends_away x e true) e.port e.slot (λ k. uses_less e.slot (counts_loan k)) (λ k. refl) (λ k. refl) refl refl)
    sends e false count over =
        either (C (endings.Sends e false count)) (is_request_loan e.kind) (settle.sends_entry x e false count) (settle.sends_away x e false)
        (λ is. same_count x (settle.sends_entry x e false count) (endings.Sends e false count) port refl refl)
        (λ is. still x (endings.Sends e false count) e.port (uses_less e.slot) (λ k. refl) (λ k. refl) (settle.loses x e) refl refl)

    fails : (e : Entry) (copied : Bool) (r : CallRefusal) → CallIsOver p held s x (endings.FailsToSend e copied r)
        → C (endings.FailsToSend e copied r) (settle.after_refused_send x e copied)
    fails e true r over =
        counts_one (endings.FailsToSend e true r) over port home (settle.after_refused_send x e true) e.port e.slot (λ k. gives_up e (counts_loan k)) (λ k. refl) (λ k. refl) refl refl
    fails e false r over = still x (endings.FailsToSend e false r) e.port (gives_up e) (λ k. refl) (λ k. refl) (settle.loses x e) refl refl

    drops : (e : Entry) → C (endings.Drops e) (settle.settled p x (endings.Drops e))
    drops e =
        either (λ (z : Seat). C (endings.Drops e) (settle.loses z e)) (is_received e.kind) (at_count x (way_in e) (λ n. n - 1)) (at_desk x e.port (gives_up e))
        (λ got. same_count x (settle.loses (at_count x (way_in e) (λ n. n - 1)) e) (endings.Drops e) port refl refl)
        (λ kept. same_count x (settle.loses (at_desk x e.port (gives_up e)) e) (endings.Drops e) port
        (desks_stay loans_told 0 x e.port port (gives_up e) (record { port = λ k. refl; told = λ k. refl })) refl)

    module _ (dead : ℕ) (over : CallIsOver p held s x (endings.Forgets dead)) where
      less_port : (slots : List ℕ) (d : Desk) → (all_less slots d).port ≡ d.port
      less_port [] d = refl
      less_port (slot ∷ slots) d = less_port slots (uses_less slot d)

      less_loans : (slots : List ℕ) (d : Desk) → (all_less slots d).loans ≡ d.loans
      less_loans [] d = refl
      less_loans (slot ∷ slots) d = less_loans slots (uses_less slot d)

      forgets : C (endings.Forgets dead) (settle.settled p x (endings.Forgets dead))
      forgets =
          either (C (endings.Forgets dead)) (has_number dead x.forgot) x (settle.forgets p x dead) (λ is. same_count x x (endings.Forgets dead) port refl refl)
          (λ is. let d = (over.uses port home).desk in
          same_count x (settle.forgets p x dead) (endings.Forgets dead) port
          (all_changed x port d (over.uses port home).there (settle.forgets p x dead) (forgets_ports (ports_of_node (known p x) dead))
          (λ k. less_port (flat_map (slots_to (ports_of_node (known p x) dead)) k.recorded) k) refl
          ∙ less_loans (flat_map (slots_to (ports_of_node (known p x) dead)) d.recorded) d ∙ sym (was x port d (over.uses port home).there)) refl)

    counted : (ending : Ending) → CallIsOver p held s x ending → C ending (settle.settled p x ending)
    counted (endings.Lends o slot) over =
        counts_one (endings.Lends o slot) over port home (settle.settled p x (endings.Lends o slot)) o.port slot counts_loan (λ k. refl) (λ k. refl) refl refl
    counted (endings.Sends e copied count) over = sends e copied count over
    counted (endings.FailsToSend e copied r) over = fails e copied r over
    counted (endings.Drops e) over = drops e
    counted (endings.Forgets dead) over = forgets dead over
    counted (endings.Receives v w slot header) over = same_count x (settle.settled p x (endings.Receives v w slot header)) (endings.Receives v w slot header) port refl refl
    counted (endings.Fills e words) over = same_count x x (endings.Fills e words) port refl refl
    counted ending over = same_count x x ending port refl refl

-- ---- serials

-- payloads change no serial
paid : (held : Pools) (e : Entry) (words : List ℕ) (port slot : ℕ) → (with_payload held e words port slot).serial ≡ (held port slot).serial
paid held e words port slot = by_slot (is_slot_of e port slot)
  where
    by_slot : (b : Bool) → (if b then record (held port slot) { payload = words } else held port slot).serial ≡ (held port slot).serial
    by_slot true = refl
    by_slot false = refl

-- and the loan's message was there
lent_there : (p : Setting) (held : Pools) (o : NewLoan) (slot port j : ℕ) → held o.port slot ≡ message_in p o
    → (held_with held o.port slot (message_in p o) port j).serial ≡ (held port j).serial
lent_there p held o slot port j holds = by_slot ((o.port == port) && (slot == j)) refl
  where
    by_slot : (b : Bool) → ((o.port == port) && (slot == j)) ≡ b → (if b then message_in p o else held port j).serial ≡ (held port j).serial
    by_slot true is =
        let parts = both (o.port == port) (slot == j) is in
        ap (λ (m : Message). m.serial) (sym holds)
        ∙ ap (λ q. (held q slot).serial) (eqb-true o.port port parts.0) ∙ ap (λ i. (held port i).serial) (eqb-true slot j parts.1)
    by_slot false is = refl

serial_stays : (p : Setting) (held : Pools) (payload : List ℕ) (ending : Ending) (port j : ℕ) → HoldsLoan p held (message_ended ending)
    → (held_closed p held payload (Some ending) port j).serial ≡ (held port j).serial
serial_stays p held payload (endings.Lends o slot) port j holds =
    paid (held_with held o.port slot (message_in p o)) (entry_in o slot) payload port j ∙ lent_there p held o slot port j holds
serial_stays p held payload (endings.Fills e words) port j holds = paid held e words port j
serial_stays p held payload ending port j holds = refl

-- ---- the end

module _ (p : Setting) (held : Pools) (s : State) (x : Seat) (payload : List ℕ) (ending : Ending) (over : CallIsOver p held s x ending) (stands : LoansStand p held x) where
  message : message_at x.local ≡ message_ended ending
  message = message_of_end ending x.local over.at_end

  abbrev new : Pools
  new = held_closed p held payload (Some ending)

  abbrev z : Seat
  z = closed p x (Some ending)

  module _ (port slot : ℕ) (mine : IsPortOfSeat p (closed p x (Some ending)) port) where
    home : IsPortOfSeat p x port
    home = (mine.0, mine.1 ∙ settled_node p x ending)

    count : Counts x (settle.settled p x ending) ending port
    count = counted p held s x port home ending over

    serial : (new port slot).serial ≡ (held port slot).serial
    serial = serial_stays p held payload ending port slot (subst (HoldsLoan p held) message stands.loan)

    -- the call's own loan is counted now
    own_serial : has_number slot (slots_in_call port x.local) ≡ true → (new port slot).serial < loans_at z port
    own_serial has =
        let used : has_number slot (slots_used x port) ≡ true
        = among-number slot (slots_used x port) (among-front slot (slots_in_call port x.local) _ (number-among slot (slots_in_call port x.local) has)) in
        below (new port slot).serial (held port slot).serial (s.fixed.loans port) (loans_at x port) (loans_at z port) serial
        ((over.slots.ports port home).counted slot used) (over.loans port home)
        (count.more slot (ap (has_number slot) (sym (slots_by_message port x.local ∙ ap (lent_slots port) message)) ∙ has))
      where
        below : (a b c d e : ℕ) → a ≡ b → b ≤ c → c ≡ d → e ≡ d + 1 → a < e
        below a b c d e same low loans more = omega (arith, same, low, loans, more)

    now : HoldsSerial held x port slot → HoldsSerial new z port slot
    now (inl low) = inl (below (new port slot).serial (held port slot).serial (loans_at x port) (loans_at z port) serial low count.less)
      where
        below : (a b d e : ℕ) → a ≡ b → b < d → d ≤ e → a < e
        below a b d e same low more = omega (arith, same, low, more)
    now (inr (inl far)) = inr (inl (subst (λ k. 2 ^ 64 ≤ k) (sym serial) far))
    now (inr (inr there)) = inl (own_serial there)

pub ends_keep_loan_slots : EndsKeepLoanSlots
ends_keep_loan_slots p held s x payload ending over stands = record {
  loan = tt;
  serials = λ port slot mine low.
      now p held s x payload ending over stands port slot mine (stands.serials port slot (home p held s x payload ending over stands port slot mine) low);
}
