-- Queues are written, and loans made, at most as often as their node made accesses.
use Rattle.iox_wire_calls.proofs.CountsKept.{begins_keep_own}
use Rattle.iox_wire_calls.specs.Borrowed.{Borrowed}
use Rattle.iox_model.specs.declared.way.Way.{Way}
use Rattle.iox_wire_keeps.proofs.HandleBounds.{none_borrowed, one_borrowed, one_handle}
use Rattle.iox_steps.specs.Sites.{is_empty, last_position}
use Rattle.iox_wire_keeps.proofs.AccessesMade.{begun, stepped}
use Rattle.iox_steps.specs.declared.pop.Pop.TheVariants as pop
use Rattle.iox_steps.specs.declared.side.Pushing.TheVariants as pushing
use Rattle.iox_steps.specs.declared.side.Popping.TheVariants as popping
use Rattle.iox_wire_calls.specs.Steps as steps
use Rattle.iox_steps.specs.declared.pop.EmptyLook.TheVariants as empty_look
use Rattle.iox_wire_calls.specs.Ending.TheVariants as endings
use Rattle.iox_wire_calls.specs.Settlements as settle
use Rattle.iox_wire_calls.proofs.PlaceCourses.{desks_stay, loans_told}
use Rattle.iox_steps.specs.EventLists.{state_after, write_after}
use Rattle.iox_wire_keeps.specs.Bounds.{BeginsLeaveBounds, BoundsTell, OpenedWiresAreBound, StepsLeaveBounds}
use Rattle.iox_word_map.specs.WordMaps.{IsQueue, WireQueue, total_words}
use Rattle.std.specs.Prelude.{Bool, List, None, Option, Some, [], false, find, flat_map, if◌then◌else◌, map, refl, true, ℕ, ◌+◌, ◌-◌, ◌<◌, ◌==◌, ◌^◌, ◌∷◌, ◌≡◌, ◌≤◌, ◌⊎◌}
use Rattle.iox_wire_calls.specs.Seat.{Seat}
use Rattle.std.proofs.Common.{ap, arith, eq-eqb, eqb-true, inl, inr, subst, sym, true≢false, ◌∙◌}
use Rattle.iox_wire_calls.specs.Desks.{all_less, at_count, at_desk, counts_loan, forgets_ports, gives_up, on_desk, picks, slots_to, uses_less}
use Rattle.iox_wire_calls.specs.Programs.{Pops, Program, Pushes, pusher_of, same_queue, site_of}
use Rattle.iox_steps.specs.Sides.{popping_event, pushing_event}
use Rattle.iox_wire_calls.proofs.LoanSlots.{loans_same}
use Rattle.iox_wire_calls.specs.Fits.{MayRun, WireContents, contents_after}
use Rattle.iox_wire_calls.proofs.OpenedDesks.{desk_there}
use Rattle.iox_wire_calls.specs.Pushes.{PushesInto}
use Rattle.std.specs.Option.{option_map_or}
use Rattle.iox_wire_calls.specs.Local.TheVariants.{ReceiveReturns, ReleaseReturns, SendPushes}
use Rattle.iox_wire_calls.specs.Known.{count_on, known, loans_at}
use Rattle.iox_wire_calls.specs.Openings.{opened_desk, opened_seat, ports_on}
use Rattle.iox_wire_calls.proofs.Follows.{accesses_follow}
use Rattle.iox_wire_calls.proofs.PieceLemmas.{same_queue-true}
use Rattle.iox_wire_calls.specs.Begins.{begin}
use Rattle.iox_steps.specs.Pops.{is_taken, waiting_event}
use Rattle.iox_model.specs.Handles.{is_received, is_request_loan}
use Rattle.iox_steps.specs.declared.side.Popping.{Popping}
use Rattle.iox_model.specs.Peers.{ports_of_node}
use Rattle.iox_steps.specs.Fits.{write_of}
use Rattle.iox_wire_calls.specs.Desk.{Desk}
use Rattle.iox_wire_calls.proofs.Starts.{Starts, Takes, starts}
use Rattle.iox_steps.specs.declared.side.QueueEvent.TheVariants.{HandOut, Publish, Quiet, SeesEmpty, SeesWaiting}
use Rattle.iox_steps.specs.declared.site.Site.{Site}
use Rattle.iox_wire_calls.specs.Ending.{Ending}
use Rattle.iox_model.specs.declared.way.RequestState.TheVariants.{Closed}
use Rattle.iox_steps.specs.declared.side.Pushing.{Pushing}
use Rattle.iox_model.specs.Maps.{has_number, same_way}
use Rattle.iox_wire_calls.proofs.Ranges.{zero_word}
use Rattle.iox_wire_calls.specs.Locals.{program_of}
use Rattle.iox_model.specs.Commands.{WireCall}
use Rattle.iox_wire_calls.specs.Entry.{Entry}
use Rattle.iox_laws.proofs.WeaveLaws.MapLemmas.{either}
use Rattle.iox_wire_calls.specs.Tables.{Setting, way_in}
use Rattle.iox_steps.specs.declared.side.QueueEvent.{QueueEvent}
use Rattle.iox_wire_calls.specs.Local.{Local}

-- the count of loans at these desks
abbrev at_port : ℕ → List Desk → ℕ
at_port port ds = option_map_or (λ (d : Desk). d.loans) (find (λ (d : Desk). d.port == port) ds) 0

-- a change of desks that keeps their ports and adds at most one loan
record AddsOne (change : Desk → Desk) : Type 0 where
  pub port : (d : Desk) → (change d).port ≡ d.port
  pub most : (d : Desk) → (change d).loans ≤ d.loans + 1

mapped : (change : Desk → Desk) → AddsOne change → (port : ℕ) (ds : List Desk) → at_port port (map change ds) ≤ at_port port ds + 1
mapped change adds port [] = omega arith
mapped change adds port (d ∷ ds) = by_port ((change d).port == port) (d.port == port) (ap (λ k. k == port) (adds.port d)) (mapped change adds port ds)
  where
    by_port : (a b : Bool) → a ≡ b → at_port port (map change ds) ≤ at_port port ds + 1
        → option_map_or (λ (k : Desk). k.loans) (if a then Some (change d) else find (λ (k : Desk). k.port == port) (map change ds)) 0
        ≤ option_map_or (λ (k : Desk). k.loans) (if b then Some d else find (λ (k : Desk). k.port == port) ds) 0 + 1
    by_port true true is rest = adds.most d
    by_port true false is rest = absurd (true≢false is)
    by_port false true is rest = absurd (true≢false (sym is))
    by_port false false is rest = rest

on_one : (q : ℕ) (change : Desk → Desk) → AddsOne change → AddsOne (on_desk q change)
on_one q change adds = record { port = λ d. port_is d (d.port == q); most = λ d. most_is d (d.port == q) }
  where
    port_is : (d : Desk) (b : Bool) → (if b then change d else d).port ≡ d.port
    port_is d true = adds.port d
    port_is d false = refl

    most_is : (d : Desk) (b : Bool) → (if b then change d else d).loans ≤ d.loans + 1
    most_is d true = adds.most d
    most_is d false = omega arith

at_least : (k : ℕ) → k ≤ k + 1
at_least k = omega arith

module _ (p : Setting) (x : Seat) (port : ℕ) where
  abbrev B : Seat → Type 0
  B y = loans_at y port ≤ loans_at x port + 1

  -- the desks of another seat with the same ones
  one : (q : ℕ) (change : Desk → Desk) → AddsOne change → at_port port (map (on_desk q change) x.desks) ≤ at_port port x.desks + 1
  one q change adds = mapped (on_desk q change) (on_one q change adds) port x.desks

  counts : AddsOne counts_loan
  counts = record { port = λ d. refl; most = λ d. omega arith }

  less : (slot : ℕ) → AddsOne (uses_less slot)
  less slot = record { port = λ d. refl; most = λ d. at_least d.loans }

  gives : (e : Entry) → AddsOne (gives_up e)
  gives e = record { port = λ d. refl; most = λ d. at_least d.loans }

  sent : (e : Entry) (copied : Bool) (count : ℕ) → B (settle.after_send x e copied count)
  sent e true count =
      either B (is_request_loan e.kind) (settle.sends_entry x e true count) (settle.sends_away x e true) (λ is. one e.port counts_loan counts)
      (λ is. one e.port (λ d. uses_less e.slot (counts_loan d)) (record { port = λ d. refl; most = λ d. omega arith }))
  sent e false count =
      either B (is_request_loan e.kind) (settle.sends_entry x e false count) (settle.sends_away x e false) (λ is. at_least (loans_at x port))
      (λ is. one e.port (uses_less e.slot) (less e.slot))

  all_port : (slots : List ℕ) (d : Desk) → (all_less slots d).port ≡ d.port
  all_port [] d = refl
  all_port (slot ∷ slots) d = all_port slots (uses_less slot d)

  all_loans : (slots : List ℕ) (d : Desk) → (all_less slots d).loans ≡ d.loans
  all_loans [] d = refl
  all_loans (slot ∷ slots) d = all_loans slots (uses_less slot d)

  forgets : (ports : List ℕ) → AddsOne (forgets_ports ports)
  forgets ports = record {
    port = λ d. all_port (flat_map (slots_to ports) d.recorded) d;
    most = λ d. subst (λ k. k ≤ d.loans + 1) (sym (all_loans (flat_map (slots_to ports) d.recorded) d)) (at_least d.loans);
  }

  settled : (ending : Ending) → B (settle.settled p x ending)
  settled (endings.Lends o slot) = one o.port counts_loan counts
  settled (endings.Sends e copied count) = sent e copied count
  settled (endings.FailsToSend e true r) = one e.port (λ d. gives_up e (counts_loan d)) (record { port = λ d. refl; most = λ d. omega arith })
  settled (endings.FailsToSend e false r) = one e.port (gives_up e) (gives e)
  settled (endings.Receives v w slot header) = at_least (loans_at x port)
  settled (endings.Drops e) =
      either (λ (y : Seat). B (settle.loses y e)) (is_received e.kind) (at_count x (way_in e) (λ n. n - 1)) (at_desk x e.port (gives_up e))
      (λ is. at_least (loans_at x port)) (λ is. one e.port (gives_up e) (gives e))
  settled (endings.Forgets dead) =
      either B (has_number dead x.forgot) x (settle.forgets p x dead) (λ is. at_least (loans_at x port))
      (λ is. mapped (forgets_ports (ports_of_node (known p x) dead)) (forgets (ports_of_node (known p x) dead)) port x.desks)
  settled ending = at_least (loans_at x port)

  ended : (ending : Option Ending) → B (steps.closed p x ending)
  ended (Some ending) = settled ending
  ended None = at_least (loans_at x port)

one_loan : (p : Setting) (x : Seat) (port seen : ℕ) → loans_at (steps.next p x seen) port ≤ loans_at x port + 1
one_loan p x port seen =
    subst (λ k. loans_at (steps.next p x seen) port ≤ k + 1) (loans_same p x seen port (accesses_follow p (steps.accessed x) seen))
    (ended p (steps.advance p (steps.accessed x) x.local seen) port (steps.ending_at (steps.advance p (steps.accessed x) x.local seen).local))

-- the begin of a call counts none
begins_leave_loans : (p : Setting) (x : Seat) (call : WireCall) (port : ℕ) → loans_at (begin p x call) port ≡ loans_at x port
begins_leave_loans p x call port = by_start (starts p (λ w. Closed) x call)
  where
    by_start : Starts p (λ w. Closed) x (begin p x call) ⊎ Takes x (begin p x call) → loans_at (begin p x call) port ≡ loans_at x port
    by_start (inl start) = ap (at_port port) start.desks
    by_start (inr takes) =
        ap (at_port port) takes.desks
        ∙ desks_stay loans_told 0 x takes.loan.port port (picks takes.loan takes.slot takes.free) (record { port = λ d. refl; told = λ d. refl })

-- ---- queues

-- what a pop or a look finds publishes nothing
waiting_quiet : (site : Site) (read seen write : ℕ) → write_after (waiting_event site read seen) write ≡ write
waiting_quiet site read seen write = by_case (is_empty site read seen)
  where
    by_case : (b : Bool) → write_after (if b then SeesEmpty else SeesWaiting) write ≡ write
    by_case true = refl
    by_case false = refl

popping_quiet : (site : Site) (place : Popping) (seen write : ℕ) → write_after (popping_event site place seen) write ≡ write
popping_quiet site popping.AtRest seen write = refl
popping_quiet site (popping.Pops pop.LoadsRead) seen write = refl
popping_quiet site (popping.Pops (pop.LoadsWrite read)) seen write = waiting_quiet site read seen write
popping_quiet site (popping.Pops (pop.LoadsCell read cell)) seen write = refl
popping_quiet site (popping.Pops (pop.Takes read value)) seen write = by_case (is_taken site.kind read seen)
  where
    by_case : (b : Bool) → write_after (if b then HandOut value else Quiet) write ≡ write
    by_case true = refl
    by_case false = refl
popping_quiet site (popping.Looks empty_look.LoadsRead) seen write = refl
popping_quiet site (popping.Looks (empty_look.LoadsWrite read)) seen write = waiting_quiet site read seen write

-- no event publishes more than one value
publishes_one : (event : QueueEvent) (write : ℕ) → write_after event write ≤ write + 1
publishes_one (Publish value) write = omega arith
publishes_one event write = at_least write

module _ (p : Setting) (c : WireContents) (n seen : ℕ) (r : WireQueue) where
  abbrev W : Program → ℕ
  W program = ((contents_after p.layout program seen c).queues r).write

  with_one : (q : WireQueue) (event : QueueEvent) (b : Bool) → (if b then state_after event (c.queues q) else c.queues r).write ≤ (if b then (c.queues q).write + 1 else (c.queues r).write)
  with_one q event true = publishes_one event (c.queues q).write
  with_one q event false = omega arith

  -- a node writes only its own queues
  elsewhere : (program : Program) → MayRun p.layout n program → (pusher_of p.layout r == n) ≡ false → W program ≡ (c.queues r).write
  elsewhere (Pushes q place) may other = by_queue (same_queue r q) refl
    where
      by_queue : (b : Bool) → same_queue r q ≡ b → (if b then state_after (pushing_event (site_of p.layout q) place seen) (c.queues q) else c.queues r).write ≡ (c.queues r).write
      by_queue true is =
          absurd (true≢false (sym (eq-eqb (pusher_of p.layout r) n (ap (pusher_of p.layout) (same_queue-true r q is) ∙ may.1)) ∙ other))
      by_queue false is = refl
  elsewhere (Pops q place) may other = popped q place
    where
      popped : (q : WireQueue) (place : Popping) → W (Pops q place) ≡ (c.queues r).write
      popped q place = by_queue (same_queue r q) refl
        where
          by_queue : (b : Bool) → same_queue r q ≡ b → (if b then state_after (popping_event (site_of p.layout q) place seen) (c.queues q) else c.queues r).write ≡ (c.queues r).write
          by_queue true is = popping_quiet (site_of p.layout q) place seen (c.queues q).write ∙ ap (λ k. (c.queues k).write) (sym (same_queue-true r q is))
          by_queue false is = refl
  elsewhere program may other = refl

  -- and there at most one value
  one_more : (program : Program) → W program ≤ (c.queues r).write + 1
  one_more (Pushes q place) = by_queue (same_queue r q) refl
    where
      by_queue : (b : Bool) → same_queue r q ≡ b
          → (if b then state_after (pushing_event (site_of p.layout q) place seen) (c.queues q) else c.queues r).write ≤ (c.queues r).write + 1
      by_queue true is =
          subst (λ k. write_after (pushing_event (site_of p.layout q) place seen) (c.queues q).write ≤ (c.queues k).write + 1) (sym (same_queue-true r q is))
          (publishes_one (pushing_event (site_of p.layout q) place seen) (c.queues q).write)
      by_queue false is = at_least (c.queues r).write
  one_more (Pops q place) = by_queue (same_queue r q) refl
    where
      by_queue : (b : Bool) → same_queue r q ≡ b
          → (if b then state_after (popping_event (site_of p.layout q) place seen) (c.queues q) else c.queues r).write ≤ (c.queues r).write + 1
      by_queue true is =
          subst (λ k. write_after (popping_event (site_of p.layout q) place seen) (c.queues q).write ≤ (c.queues k).write + 1) (sym (same_queue-true r q is))
          (publishes_one (popping_event (site_of p.layout q) place seen) (c.queues q).write)
      by_queue false is = at_least (c.queues r).write
  one_more program = at_least (c.queues r).write

-- ---- the laws

pub opened_wires_are_bound : OpenedWiresAreBound
opened_wires_are_bound p c programs fits = record {
  writes = λ q there. subst (λ k. k ≤ 0) (sym (zero_word (total_words p.layout.sizes) _) ∙ (fits.queues q there).0) (omega arith);
  loans = λ n port. none n port;
  handles = λ n. omega arith;
  borrowed = none_borrowed p;
}
  where
    none : (n port : ℕ) → loans_at (opened_seat p n) port ≤ 0
    none n port =
        subst (λ o. option_map_or (λ (d : Desk). d.loans) o 0 ≤ 0) (sym (desk_there p (ports_on p n) port)) (by_case (has_number port (ports_on p n)))
      where
        by_case : (b : Bool) → option_map_or (λ (d : Desk). d.loans) (if b then Some (opened_desk p port) else None) 0 ≤ 0
        by_case true = omega arith
        by_case false = omega arith

pub begins_leave_bounds : BeginsLeaveBounds
begins_leave_bounds p c seats n call bound = record {
  writes = λ q there.
      subst (λ k. (c.queues q).write ≤ k) (sym (same_count (pusher_of p.layout q) (pusher_of p.layout q == n) refl)) (bound.writes q there);
  loans = λ k port. by_node k port (k == n) refl;
  handles = λ k. its_handles k (k == n) refl;
  borrowed = λ k y. its_count k y (k == n) refl;
}
  where
    same_count : (k : ℕ) (b : Bool) → (k == n) ≡ b → (if b then begin p (seats n) call else seats k).accesses ≡ (seats k).accesses
    same_count k true is = begun p (seats n) call ∙ ap (λ i. (seats i).accesses) (sym (eqb-true k n is))
    same_count k false is = refl

    by_node : (k port : ℕ) (b : Bool) → (k == n) ≡ b → loans_at (if b then begin p (seats n) call else seats k) port ≤ (if b then begin p (seats n) call else seats k).accesses
    by_node k port true is =
        subst (λ a. a ≤ (begin p (seats n) call).accesses) (sym (begins_leave_loans p (seats n) call port))
        (subst (λ a. loans_at (seats n) port ≤ a) (sym (begun p (seats n) call)) (bound.loans n port))
    by_node k port false is = bound.loans k port

    its_handles : (k : ℕ) (b : Bool) → (k == n) ≡ b → (if b then begin p (seats n) call else seats k).handles_made ≤ (if b then begin p (seats n) call else seats k).accesses
    its_handles k true is =
        subst (λ a. a ≤ (begin p (seats n) call).accesses) (sym (begins_keep_own p (seats n) call).handles_made)
        (subst (λ a. (seats n).handles_made ≤ a) (sym (begun p (seats n) call)) (bound.handles n))
    its_handles k false is = bound.handles k

    its_count : (k : ℕ) (y : Way) (b : Bool) → (k == n) ≡ b → count_on (if b then begin p (seats n) call else seats k) y ≤ (if b then begin p (seats n) call else seats k).accesses
    its_count k y true is =
        subst (λ bs. option_map_or (λ (b : Borrowed). b.count) (find (λ (b : Borrowed). same_way b.way y) bs) 0 ≤ (begin p (seats n) call).accesses)
        (sym (begins_keep_own p (seats n) call).borrowed) (subst (λ a. count_on (seats n) y ≤ a) (sym (begun p (seats n) call)) (bound.borrowed n y))
    its_count k y false is = bound.borrowed k y

pub steps_leave_bounds : StepsLeaveBounds
steps_leave_bounds p c seats n seen may bound = record {
  writes = λ q there. by_pusher q there (pusher_of p.layout q == n) refl;
  loans = λ k port. by_node k port (k == n);
  handles = λ k. its_handles k (k == n);
  borrowed = λ k y. its_count k y (k == n);
}
  where
    plus : (a b d : ℕ) → a ≤ b + 1 → b ≤ d → a ≤ d + 1
    plus a b d more low = omega (arith, more, low)

    by_pusher : (q : WireQueue) → IsQueue p.layout.sizes q → (b : Bool) → (pusher_of p.layout q == n) ≡ b
        → ((contents_after p.layout (program_of p (seats n).local) seen c).queues q).write ≤ (if b then steps.next p (seats n) seen else seats (pusher_of p.layout q)).accesses
    by_pusher q there true is =
        subst (λ k. ((contents_after p.layout (program_of p (seats n).local) seen c).queues q).write ≤ k) (sym (stepped p (seats n) seen))
        (plus _ (c.queues q).write (seats n).accesses (one_more p c n seen q (program_of p (seats n).local))
        (subst (λ i. (c.queues q).write ≤ (seats i).accesses) (eqb-true (pusher_of p.layout q) n is) (bound.writes q there)))
    by_pusher q there false is =
        subst (λ k. k ≤ (seats (pusher_of p.layout q)).accesses) (sym (elsewhere p c n seen q (program_of p (seats n).local) may is)) (bound.writes q there)

    by_node : (k port : ℕ) (b : Bool) → loans_at (if b then steps.next p (seats n) seen else seats k) port ≤ (if b then steps.next p (seats n) seen else seats k).accesses
    by_node k port true =
        subst (λ a. loans_at (steps.next p (seats n) seen) port ≤ a) (sym (stepped p (seats n) seen))
        (plus _ (loans_at (seats n) port) (seats n).accesses (one_loan p (seats n) port seen) (bound.loans n port))
    by_node k port false = bound.loans k port

    its_handles : (k : ℕ) (b : Bool) → (if b then steps.next p (seats n) seen else seats k).handles_made ≤ (if b then steps.next p (seats n) seen else seats k).accesses
    its_handles k true =
        subst (λ a. (steps.next p (seats n) seen).handles_made ≤ a) (sym (stepped p (seats n) seen))
        (plus _ (seats n).handles_made (seats n).accesses (one_handle p (seats n) seen) (bound.handles n))
    its_handles k false = bound.handles k

    its_count : (k : ℕ) (y : Way) (b : Bool) → count_on (if b then steps.next p (seats n) seen else seats k) y ≤ (if b then steps.next p (seats n) seen else seats k).accesses
    its_count k y true =
        subst (λ a. count_on (steps.next p (seats n) seen) y ≤ a) (sym (stepped p (seats n) seen))
        (plus _ (count_on (seats n) y) (seats n).accesses (one_borrowed p (seats n) seen y) (bound.borrowed n y))
    its_count k y false = bound.borrowed k y

-- ---- what they tell

pushed_by : (p : Setting) (local : Local) (q : WireQueue) → PushesInto local q → (place : Pushing) × (program_of p local ≡ Pushes q place)
pushed_by p (SendPushes d last w (pushing.Pushes place) left count) q into = (pushing.Pushes place, ap (λ k. Pushes k (pushing.Pushes place)) into)
pushed_by p (SendPushes d last w (pushing.Looks place) left count) q into = absurd into
pushed_by p (SendPushes d last w pushing.AtRest left count) q into = absurd into
pushed_by p (ReceiveReturns v w slot (pushing.Pushes place) left waiting) q into = (pushing.Pushes place, ap (λ k. Pushes k (pushing.Pushes place)) into)
pushed_by p (ReceiveReturns v w slot (pushing.Looks place) left waiting) q into = absurd into
pushed_by p (ReceiveReturns v w slot pushing.AtRest left waiting) q into = absurd into
pushed_by p (ReleaseReturns e (pushing.Pushes place)) q into = (pushing.Pushes place, ap (λ k. Pushes k (pushing.Pushes place)) into)
pushed_by p (ReleaseReturns e (pushing.Looks place)) q into = absurd into
pushed_by p (ReleaseReturns e pushing.AtRest) q into = absurd into
pushed_by p local q into = absurd into

pub bounds_tell : BoundsTell
bounds_tell p held word c seats w n shows living owns bound few = (
  λ q into. below q (pushed_by p (seats n).local q into),
  λ port. low (loans_at (seats n) port) (seats n).accesses (bound.loans n port) few,
)
  where
    low : (a b : ℕ) → a ≤ b → b < 2 ^ 64 - 1 → a < 2 ^ 64
    low a b less few = omega (arith, less, few)

    under : (a b : ℕ) → a ≤ b → b < last_position → a < last_position
    under a b less few = omega (arith, less, few)

    below : (q : WireQueue) → (place : Pushing) × (program_of p (seats n).local ≡ Pushes q place) → write_of (site_of p.layout q) word < last_position
    below q (place, is) =
        let may : IsQueue p.layout.sizes q × (pusher_of p.layout q ≡ (seats n).node) = subst (MayRun p.layout (seats n).node) is owns.may_run in
        subst (λ k. k < last_position) (sym (shows.words.queues q may.0).0)
        (under (c.queues q).write (seats n).accesses
        (subst (λ i. (c.queues q).write ≤ (seats i).accesses) (may.1 ∙ shows.node n) (bound.writes q may.0)) few)
