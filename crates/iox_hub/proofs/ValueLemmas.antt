-- The values of a node in the state that a hub shows are those of its tables.
use Rattle.std.specs.Prelude.{◌≡◌, ℕ, Bool, true, false, ◌&&◌, ◌||◌, if◌then◌else◌, ◌==◌, List, [], ◌∷◌, filter, Option, Some, None, IsSome, is_some, refl}
use Rattle.std.proofs.Common.{sym, ap, ap₂, subst, ◌∙◌, true≢false, eqb-true, eq-eqb, inl, inr}
use Rattle.std.proofs.lemmas.Option.{none-some, same_Some}
use Rattle.iox_model.specs.Maps.{AreDistinct, has_number}
use Rattle.iox_model.specs.States.{Handle, Port}
use Rattle.iox_laws.proofs.WeaveLedger.Lists.{IsAmong, among-map, map-among}
use Rattle.iox_laws.proofs.RunLaws.Cleanups.{IsValue}
use Rattle.iox_tables.specs.HubStates.States.{Given, fixed_of, handle_of, message_of, port_of}
use Rattle.iox_tables.specs.HubStates.Tables.{HandleState, HubTables, PortState, numbers_of, port_in}
use Rattle.iox_tables.specs.HubStates.Wirings.{handle_in}
use Rattle.iox_tables.specs.HubLoans.Questions.{kind_by, kind_in, kind_of_role}
use Rattle.iox_tables.specs.HubBooks.Hubs.{AreInOrder}
use Rattle.iox_tables.proofs.HubKeeping.Ordered.{names_apart}
use Rattle.iox_hub.proofs.Named.{found_is_handle}

-- ---- of the tables, so of the state

pub port_among : (ports : List PortState) (n : ℕ) (p : PortState) → port_in ports n ≡ Some p → IsAmong p ports × (p.number ≡ n)
port_among [] n p e = absurd (none-some p e)
port_among (q ∷ qs) n p e = step (q.number == n) refl e (port_among qs n p)
  where
    step : (b : Bool) → (q.number == n) ≡ b → (if b then Some q else port_in qs n) ≡ Some p
        → (port_in qs n ≡ Some p → IsAmong p qs × (p.number ≡ n)) → IsAmong p (q ∷ qs) × (p.number ≡ n)
    step true is f rest = (inl (sym (same_Some q p f)), ap (λ (z : PortState). z.number) (sym (same_Some q p f)) ∙ eqb-true q.number n is)
    step false is f rest = let more = rest f in (inr more.0, more.1)

handle_among : (hs : List HandleState) (node n : ℕ) (h : HandleState) → handle_in hs node n ≡ Some h
    → IsAmong h (filter (λ k. k.node == node) hs) × (h.number ≡ n)
handle_among [] node n h e = absurd (none-some h e)
handle_among (k ∷ ks) node n h e = step (k.node == node) (k.number == n) refl refl e (handle_among ks node n h)
  where
    step : (a b : Bool) → (k.node == node) ≡ a → (k.number == n) ≡ b → (if a && b then Some k else handle_in ks node n) ≡ Some h
        → (handle_in ks node n ≡ Some h → IsAmong h (filter (λ j. j.node == node) ks) × (h.number ≡ n))
        → IsAmong h (if a then k ∷ filter (λ j. j.node == node) ks else filter (λ j. j.node == node) ks) × (h.number ≡ n)
    step true true on is f rest = (inl (sym (same_Some k h f)), ap (λ (z : HandleState). z.number) (sym (same_Some k h f)) ∙ eqb-true k.number n is)
    step true false on is f rest = let more = rest f in (inr more.0, more.1)
    step false b on is f rest = rest f

pub kind_is_value : (x : Given) (t : HubTables) (node n : ℕ) → IsSome (kind_in t node n) → IsValue (fixed_of x t) node n
kind_is_value x t node n some = step (port_in t.ports n) (handle_in t.handles node n) refl refl some
  where
    held : (p : PortState) → port_in t.ports n ≡ Some p → (a b : Bool) → p.held ≡ a → (p.node == node) ≡ b
        → IsSome (if a && b then Some (kind_of_role p.role) else None) → IsValue (fixed_of x t) node n
    held p at true true h on s =
        let found = port_among t.ports n p at in
        inl (port_of x p, among-map (port_of x) p t.ports found.0, found.1, eqb-true p.node node on, h)
    held p at true false h on s = absurd (true≢false (sym s))
    held p at false b h on s = absurd (true≢false (sym s))

    step : (o : Option PortState) (q : Option HandleState) → port_in t.ports n ≡ o → handle_in t.handles node n ≡ q
        → IsSome (kind_by node o q) → IsValue (fixed_of x t) node n
    step (Some p) q at there s = held p at p.held (p.node == node) refl refl s
    step None (Some h) at there s =
        let found = handle_among t.handles node n h there in
        inr (handle_of x (message_of x t.pools) h, among-map (handle_of x (message_of x t.pools)) h (filter (λ k. k.node == node) t.handles) found.0, found.1)
    step None None at there s = absurd (true≢false (sym s))

-- ---- of the state, so of the tables

among_number : (ports : List PortState) (p : PortState) → IsAmong p ports → has_number p.number (numbers_of ports) ≡ true
among_number [] p among = absurd among
among_number (q ∷ qs) p (inl same) =
    ap (λ (b : Bool). b || has_number p.number (numbers_of qs)) (eq-eqb q.number p.number (ap (λ (z : PortState). z.number) (sym same)))
among_number (q ∷ qs) p (inr among) = step (q.number == p.number) (among_number qs p among)
  where
    step : (b : Bool) → has_number p.number (numbers_of qs) ≡ true → (b || has_number p.number (numbers_of qs)) ≡ true
    step true rest = refl
    step false rest = rest

pub own_port : (ports : List PortState) (p : PortState) → AreDistinct (numbers_of ports) → IsAmong p ports → port_in ports p.number ≡ Some p
own_port [] p apart among = absurd among
own_port (q ∷ qs) p apart (inl same) =
    ap (λ (b : Bool). if b then Some q else port_in qs p.number) (eq-eqb q.number p.number (ap (λ (z : PortState). z.number) (sym same)))
    ∙ ap (λ (z : PortState). Some z) (sym same)
own_port (q ∷ qs) p apart (inr among) = step (q.number == p.number) refl (own_port qs p apart.1 among)
  where
    step : (b : Bool) → (q.number == p.number) ≡ b → port_in qs p.number ≡ Some p → (if b then Some q else port_in qs p.number) ≡ Some p
    step true is rest =
        absurd (true≢false (sym (subst (λ m. has_number m (numbers_of qs) ≡ true) (sym (eqb-true q.number p.number is)) (among_number qs p among)) ∙ apart.0))
    step false is rest = rest

own_handle : (hs : List HandleState) (node : ℕ) (h : HandleState) → IsAmong h (filter (λ k. k.node == node) hs) → IsSome (handle_in hs node h.number)
own_handle [] node h among = absurd among
own_handle (k ∷ ks) node h among = step (k.node == node) among (own_handle ks node h)
  where
    here : (b : Bool) → IsSome (handle_in ks node h.number) → IsSome (if b then Some k else handle_in ks node h.number)
    here true rest = refl
    here false rest = rest

    step : (a : Bool) → IsAmong h (if a then k ∷ filter (λ j. j.node == node) ks else filter (λ j. j.node == node) ks)
        → (IsAmong h (filter (λ j. j.node == node) ks) → IsSome (handle_in ks node h.number))
        → IsSome (if a && (k.number == h.number) then Some k else handle_in ks node h.number)
    step true (inl same) rest =
        ap (λ (b : Bool). is_some (if b then Some k else handle_in ks node h.number)) (eq-eqb k.number h.number (ap (λ (z : HandleState). z.number) (sym same)))
    step true (inr among) rest = here (k.number == h.number) (rest among)
    step false among rest = rest among

pub value_has_kind : (x : Given) (t : HubTables) → AreInOrder t → (node n : ℕ) → IsValue (fixed_of x t) node n → IsSome (kind_in t node n)
value_has_kind x t order node n (inl v) =
    let p : (q : PortState) × IsAmong q t.ports × (v.0 ≡ port_of x q) = map-among (port_of x) v.0 t.ports v.1 in
    port_kind p.0 p.1 (sym (ap (λ (z : Port). z.number) p.2) ∙ v.2) (sym (ap (λ (z : Port). z.node) p.2) ∙ v.3) (sym (ap (λ (z : Port). z.held) p.2) ∙ v.4)
  where
    port_kind : (p : PortState) → IsAmong p t.ports → p.number ≡ n → p.node ≡ node → p.held ≡ true → IsSome (kind_in t node n)
    port_kind p among is on held =
        ap (λ o. is_some (kind_by node o (handle_in t.handles node n)))
        (subst (λ m. port_in t.ports m ≡ Some p) is (own_port t.ports p (names_apart t order) among))
        ∙ ap₂ (λ (a b : Bool). is_some (if a && b then Some (kind_of_role p.role) else None)) held (eq-eqb p.node node on)
value_has_kind x t order node n (inr v) =
    let h : (k : HandleState) × IsAmong k (filter (λ k. k.node == node) t.handles) × (v.0 ≡ handle_of x (message_of x t.pools) k)
    = map-among (handle_of x (message_of x t.pools)) v.0 (filter (λ k. k.node == node) t.handles) v.1 in
    handle_kind (handle_in t.handles node n) refl
    (subst (λ m. IsSome (handle_in t.handles node m)) (sym (ap (λ (z : Handle). z.number) h.2) ∙ v.2) (own_handle t.handles node h.0 h.1))
  where
    handle_kind : (o : Option HandleState) → handle_in t.handles node n ≡ o → IsSome o → IsSome (kind_in t node n)
    handle_kind (Some k) at some =
        ap₂ (λ p o. is_some (kind_by node p o)) (found_is_handle t order node n k at).no_port at
    handle_kind None at some = absurd (true≢false (sym some))
