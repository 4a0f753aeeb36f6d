-- How many loans the ports of a node made, as its call ends.
use Rattle.std.specs.Prelude.{find, flat_map, map, option_map}
use Rattle.std.specs.Option.{option_map_or}
use Rattle.std.proofs.Common.{◌≡◌, ℕ, ◌+◌, Bool, true, false, if◌then◌else◌, ◌==◌, List, [], ◌∷◌, Some, refl, ap, sym, ◌∙◌, eqb-true}
use Rattle.iox_model.specs.Handles.{is_received, is_request_loan}
use Rattle.iox_model.specs.Maps.{has_number, put_at}
use Rattle.iox_model.specs.Peers.{ports_of_node}
use Rattle.iox_laws.proofs.WeaveLedger.Lists.{find-among}
use Rattle.iox_laws.proofs.WeaveLedger.Views.{View, after_call}
use Rattle.iox_wire_moments.specs.MomentsOf.{Pools}
use Rattle.iox_wire_locals.specs.declared.local.Ending.{Ending}
use Rattle.iox_wire_locals.specs.declared.local.Ending.TheVariants as endings
use Rattle.iox_wire_locals.specs.declared.local.CallRefusal.{CallRefusal}
use Rattle.iox_wire_locals.specs.declared.seat.Seat.{Seat}
use Rattle.iox_wire_locals.specs.declared.table.Desk.{Desk}
use Rattle.iox_wire_locals.specs.declared.table.Entry.{Entry}
use Rattle.iox_wire_locals.specs.Desks.{all_less, at_desk, counts_loan, forgets_ports, gives_up, on_desk, slots_to, uses_less}
use Rattle.iox_wire_locals.specs.Doings.{outcome_of}
use Rattle.iox_wire_locals.specs.Known.{known, loans_at}
use Rattle.iox_wire_locals.specs.Settlements as settle
use Rattle.iox_wire_locals.specs.Tables.{Setting}
use Rattle.iox_wire_laws.proofs.WireKeeping.RecordsKept.{found}

-- a change of a desk that keeps its port, and changes its count of loans so
record CountsBy (change : Desk → Desk) (by : ℕ → ℕ) : Type 0 where
  pub port : (d : Desk) → (change d).port ≡ d.port
  pub loans : (d : Desk) → (change d).loans ≡ by d.loans

abbrev more : ℕ → ℕ
more k = k + 1

abbrev same : ℕ → ℕ
same k = k

module _ (x : Seat) (port : ℕ) (d : Desk) (there : find (λ d. d.port == port) x.desks ≡ Some d) where
  here : d.port ≡ port
  here = eqb-true d.port port (find-among (λ (k : Desk). k.port == port) d x.desks there).1

  abbrev loans_in : List Desk → ℕ
  loans_in ds = option_map_or (λ (k : Desk). k.loans) (find (λ k. k.port == port) ds) 0

  changed : (z : Seat) (change : Desk → Desk) → z.desks ≡ map change x.desks → ((k : Desk) → (change k).port ≡ k.port)
      → loans_at z port ≡ (change d).loans
  changed z change desks keeps =
      ap loans_in desks
      ∙ ap (λ o. option_map_or (λ (k : Desk). k.loans) o 0)
      (found change (λ k. k.port == port) (λ k. ap (λ n. n == port) (keeps k)) x.desks ∙ ap (option_map change) there)

  was : loans_at x port ≡ d.loans
  was = ap (λ o. option_map_or (λ (k : Desk). k.loans) o 0) there

  module _ (z : Seat) (q : ℕ) (change : Desk → Desk) (by : ℕ → ℕ) (counts : CountsBy change by) (desks : z.desks ≡ map (on_desk q change) x.desks) where
    port_is : (k : Desk) (b : Bool) → (if b then change k else k).port ≡ k.port
    port_is k true = counts.port k
    port_is k false = refl

    loans_are : (b : Bool) → (if b then change d else d).loans ≡ (if b then by d.loans else d.loans)
    loans_are true = counts.loans d
    loans_are false = refl

    by_port : loans_at z port ≡ (if port == q then by (loans_at x port) else loans_at x port)
    by_port =
        changed z (on_desk q change) desks (λ k. port_is k (k.port == q)) ∙ loans_are (d.port == q)
        ∙ ap (λ k. if k == q then by d.loans else d.loans) here ∙ ap (λ k. if port == q then by k else k) (sym was)

  -- one more of the port
  one_more : (v : View) (z : Seat) (q : ℕ) (change : Desk → Desk) → CountsBy change more → z.desks ≡ map (on_desk q change) x.desks
      → v.loans port ≡ loans_at x port → put_at v.loans q (v.loans q + 1) port ≡ loans_at z port
  one_more v z q change counts desks is = by_case (port == q) refl ∙ sym (by_port z q change more counts desks)
    where
      by_case : (b : Bool) → (port == q) ≡ b → (if b then v.loans q + 1 else v.loans port) ≡ (if b then loans_at x port + 1 else loans_at x port)
      by_case true at = ap (λ k. v.loans k + 1) (sym (eqb-true port q at)) ∙ ap more is
      by_case false at = is

  -- as many
  as_many : (z : Seat) (q : ℕ) (change : Desk → Desk) → CountsBy change same → z.desks ≡ map (on_desk q change) x.desks → loans_at x port ≡ loans_at z port
  as_many z q change counts desks = sym (by_port z q change same counts desks ∙ either_same (port == q))
    where
      either_same : (b : Bool) → (if b then loans_at x port else loans_at x port) ≡ loans_at x port
      either_same true = refl
      either_same false = refl

  less_loans : (slots : List ℕ) (k : Desk) → ((all_less slots k).loans ≡ k.loans) × ((all_less slots k).port ≡ k.port)
  less_loans [] k = (refl, refl)
  less_loans (slot ∷ slots) k = less_loans slots (uses_less slot k)

  module _ (p : Setting) (held : Pools) (n : ℕ) (payload : List ℕ) (v : View) (is : v.loans port ≡ loans_at x port) (forgot : v.forgot ≡ x.forgot) where
    abbrev Same : Ending → Type 0
    Same ending = (after_call v n payload (outcome_of p held n ending)).loans port ≡ loans_at (settle.settled p x ending) port

    sent : (e : Entry) (copied : Bool) (count : ℕ) → Same (endings.Sends e copied count)
    sent e true count = by_kind (is_request_loan e.kind) refl
      where
        by_kind : (b : Bool) → is_request_loan e.kind ≡ b → Same (endings.Sends e true count)
        by_kind true kind =
            rw kind (one_more v (settle.sends_entry x e true count) e.port counts_loan (record { port = λ k. refl; loans = λ k. refl }) refl is)
        by_kind false kind =
            rw kind (one_more v (settle.sends_away x e true) e.port (λ k. uses_less e.slot (counts_loan k))
            (record { port = λ k. refl; loans = λ k. refl }) refl is)
    sent e false count = by_kind (is_request_loan e.kind) refl
      where
        by_kind : (b : Bool) → is_request_loan e.kind ≡ b → Same (endings.Sends e false count)
        by_kind true kind = rw kind is
        by_kind false kind =
            rw kind (is ∙ as_many (settle.sends_away x e false) e.port (uses_less e.slot) (record { port = λ k. refl; loans = λ k. refl }) refl)

    failed : (e : Entry) (copied : Bool) (r : CallRefusal) → Same (endings.FailsToSend e copied r)
    failed e true r =
        one_more v (settle.after_refused_send x e true) e.port (λ k. gives_up e (counts_loan k)) (record { port = λ k. refl; loans = λ k. refl }) refl is
    failed e false r =
        is ∙ as_many (settle.after_refused_send x e false) e.port (gives_up e) (record { port = λ k. refl; loans = λ k. refl }) refl

    dropped : (e : Entry) → Same (endings.Drops e)
    dropped e = by_kind (is_received e.kind) refl
      where
        by_kind : (b : Bool) → is_received e.kind ≡ b → Same (endings.Drops e)
        by_kind true kind = rw kind is
        by_kind false kind =
            rw kind (is ∙ as_many (settle.loses (at_desk x e.port (gives_up e)) e) e.port (gives_up e) (record { port = λ k. refl; loans = λ k. refl }) refl)

    forgets : (dead : ℕ) → Same (endings.Forgets dead)
    forgets dead = by_case (has_number dead x.forgot) refl
      where
        ports : List ℕ
        ports = ports_of_node (known p x) dead

        by_case : (b : Bool) → has_number dead x.forgot ≡ b → Same (endings.Forgets dead)
        by_case true there' = rw forgot (rw there' is)
        by_case false none =
            rw forgot (rw none (is ∙ was ∙ sym (changed (settle.forgets p x dead) (forgets_ports ports) refl
            (λ k. (less_loans (flat_map (slots_to ports) k.recorded) k).1) ∙ (less_loans (flat_map (slots_to ports) d.recorded) d).0)))

    pub so_many : (ending : Ending) → Same ending
    so_many (endings.Lends o slot) =
        one_more v (settle.settled p x (endings.Lends o slot)) o.port counts_loan (record { port = λ k. refl; loans = λ k. refl }) refl is
    so_many (endings.Sends e copied count) = sent e copied count
    so_many (endings.FailsToSend e copied r) = failed e copied r
    so_many (endings.Receives w y slot header) = is
    so_many (endings.Drops e) = dropped e
    so_many (endings.Forgets dead) = forgets dead
    so_many ending = is
