-- What is found, dropped and changed in the table of handles by number only is so by node and number.
use Rattle.std.specs.Prelude.{◌≡◌, ℕ, Bool, true, false, not, ◌&&◌, ◌||◌, ◌==◌, if◌then◌else◌, List, [], ◌∷◌, ◌++◌, map, filter, find, Option, Some, None, is_some, refl}
use Rattle.std.specs.List.{list_any}
use Rattle.std.specs.Option.{option_and_then, option_map}
use Rattle.std.proofs.Common.{sym, ap, subst, ◌∙◌, true≢false, eqb-true, eq-eqb}
use Rattle.std.proofs.lemmas.Bool.{false≢true}
use Rattle.std.proofs.lemmas.Option.{none-some, same_Some}
use Rattle.iox_handles.specs.declared.entry.Entry.{Entry}
use Rattle.iox_model.specs.Maps.{has_number, AreDistinct}
use Rattle.iox_handles.specs.Tables.{Contents, IsSound, added, changed, handle_at, handle_of, has_port, has_that, if_of, removed, with_handle}
use Rattle.iox_hub_ports.specs.HubStates.Tables.{HandleState}
use Rattle.iox_hub_ports.specs.HubStates.Wirings.{handle_in}
use Rattle.iox_hub_ports.specs.HubStates.Ends.{changed_handles, dropped_handles}
use Rattle.iox_control.specs.Entries.{handle_state, handles_of}

-- the numbers of the handles
abbrev numbers : List Entry → List ℕ
numbers hs = map (λ h. h.number) hs

-- the test by node and number
abbrev is_that : ℕ → ℕ → Entry → Bool
is_that node n h = (h.node == node) && (h.number == n)

and_false : (a b : Bool) → b ≡ false → (a && b) ≡ false
and_false true b e = e
and_false false b e = refl

and_true : (a b : Bool) → a ≡ true → b ≡ true → (a && b) ≡ true
and_true true b e f = f
and_true false b e f = absurd (true≢false (sym e))

false_and : (a b : Bool) → a ≡ false → (a && b) ≡ false
false_and false b e = refl
false_and true b e = absurd (true≢false e)

parts : (a b : Bool) → (a || b) ≡ false → (a ≡ false) × (b ≡ false)
parts false b e = (refl, e)
parts true b e = absurd (true≢false e)

-- ---- found

found_step : (hs : List Entry) (node n : ℕ) (h e : Entry) (b : Bool) → (h.number == n) ≡ b → e.node ≡ node
    → (find (has_that n) hs ≡ Some e → handle_in (map handle_state hs) node n ≡ Some (handle_state e))
    → (if b then Some h else find (has_that n) hs) ≡ Some e
    → (if is_that node n h then Some (handle_state h) else handle_in (map handle_state hs) node n) ≡ Some (handle_state e)
found_step hs node n h e true is of more at =
    let same : h ≡ e = same_Some h e at in
    ap (λ (c : Bool). if c then Some (handle_state h) else handle_in (map handle_state hs) node n)
    (and_true (h.node == node) (h.number == n) (eq-eqb h.node node (ap (λ k. k.node) same ∙ of)) is)
    ∙ ap (λ k. Some (handle_state k)) same
found_step hs node n h e false is of more at =
    ap (λ (c : Bool). if c then Some (handle_state h) else handle_in (map handle_state hs) node n)
    (and_false (h.node == node) (h.number == n) is)
    ∙ more at

found_list : (hs : List Entry) (node n : ℕ) (e : Entry) → e.node ≡ node → find (has_that n) hs ≡ Some e
    → handle_in (map handle_state hs) node n ≡ Some (handle_state e)
found_list [] node n e of at = absurd (none-some e at)
found_list (h ∷ hs) node n e of at = found_step hs node n h e (h.number == n) refl of (found_list hs node n e of) at

none_step : (hs : List Entry) (node n : ℕ) (h : Entry) (b : Bool) → (h.number == n) ≡ b
    → (find (has_that n) hs ≡ None → handle_in (map handle_state hs) node n ≡ None)
    → (if b then Some h else find (has_that n) hs) ≡ None
    → (if is_that node n h then Some (handle_state h) else handle_in (map handle_state hs) node n) ≡ None
none_step hs node n h true is more at = absurd (none-some h (sym at))
none_step hs node n h false is more at =
    ap (λ (c : Bool). if c then Some (handle_state h) else handle_in (map handle_state hs) node n)
    (and_false (h.node == node) (h.number == n) is)
    ∙ more at

none_list : (hs : List Entry) (node n : ℕ) → find (has_that n) hs ≡ None → handle_in (map handle_state hs) node n ≡ None
none_list [] node n at = refl
none_list (h ∷ hs) node n at = none_step hs node n h (h.number == n) refl (none_list hs node n) at

-- no handle has the number
nobody : (hs : List Entry) (n : ℕ) → has_number n (numbers hs) ≡ false → find (has_that n) hs ≡ None
nobody [] n e = refl
nobody (h ∷ hs) n e =
    let r : ((h.number == n) ≡ false) × (has_number n (numbers hs) ≡ false) = parts (h.number == n) (has_number n (numbers hs)) e in
    ap (λ (c : Bool). if c then Some h else find (has_that n) hs) r.0 ∙ nobody hs n r.1

foreign_step : (hs : List Entry) (node n : ℕ) (h e : Entry) (b : Bool) → (h.number == n) ≡ b → (e.node == node) ≡ false
    → has_number h.number (numbers hs) ≡ false
    → (find (has_that n) hs ≡ Some e → handle_in (map handle_state hs) node n ≡ None)
    → (if b then Some h else find (has_that n) hs) ≡ Some e
    → (if is_that node n h then Some (handle_state h) else handle_in (map handle_state hs) node n) ≡ None
foreign_step hs node n h e true is of new more at =
    ap (λ (c : Bool). if c then Some (handle_state h) else handle_in (map handle_state hs) node n)
    (false_and (h.node == node) (h.number == n) (ap (λ k. k.node == node) (same_Some h e at) ∙ of))
    ∙ none_list hs node n (nobody hs n (subst (λ m. has_number m (numbers hs) ≡ false) (eqb-true h.number n is) new))
foreign_step hs node n h e false is of new more at =
    ap (λ (c : Bool). if c then Some (handle_state h) else handle_in (map handle_state hs) node n)
    (and_false (h.node == node) (h.number == n) is)
    ∙ more at

foreign_list : (hs : List Entry) (node n : ℕ) (e : Entry) → AreDistinct (numbers hs) → (e.node == node) ≡ false
    → find (has_that n) hs ≡ Some e → handle_in (map handle_state hs) node n ≡ None
foreign_list [] node n e d of at = refl
foreign_list (h ∷ hs) node n e d of at =
    foreign_step hs node n h e (h.number == n) refl of d.0 (foreign_list hs node n e d.1 of) at

-- ---- dropped

-- where no handle has the number, none goes
none_dropped : (hs : List Entry) (node n : ℕ) → has_number n (numbers hs) ≡ false
    → dropped_handles node n (map handle_state hs) ≡ map handle_state (filter (λ h. not (has_that n h)) hs)
none_dropped [] node n e = refl
none_dropped (h ∷ hs) node n e =
    let r : ((h.number == n) ≡ false) × (has_number n (numbers hs) ≡ false) = parts (h.number == n) (has_number n (numbers hs)) e in
    ap (λ (c : Bool). if not c then handle_state h ∷ dropped_handles node n (map handle_state hs) else dropped_handles node n (map handle_state hs))
    (and_false (h.node == node) (h.number == n) r.0)
    ∙ ap (λ xs. handle_state h ∷ xs) (none_dropped hs node n r.1)
    ∙ sym (ap (λ (c : Bool). map handle_state (if not c then h ∷ filter (λ k. not (has_that n k)) hs else filter (λ k. not (has_that n k)) hs)) r.0)

dropped_step : (hs : List Entry) (node n : ℕ) (h e : Entry) (b : Bool) → (h.number == n) ≡ b → e.node ≡ node
    → has_number h.number (numbers hs) ≡ false
    → (find (has_that n) hs ≡ Some e → dropped_handles node n (map handle_state hs) ≡ map handle_state (filter (λ k. not (has_that n k)) hs))
    → (if b then Some h else find (has_that n) hs) ≡ Some e
    → dropped_handles node n (map handle_state (h ∷ hs)) ≡ map handle_state (if not b then h ∷ filter (λ k. not (has_that n k)) hs else filter (λ k. not (has_that n k)) hs)
dropped_step hs node n h e true is of new more at =
    let same : h ≡ e = same_Some h e at in
    ap (λ (c : Bool). if not c then handle_state h ∷ dropped_handles node n (map handle_state hs) else dropped_handles node n (map handle_state hs))
    (and_true (h.node == node) (h.number == n) (eq-eqb h.node node (ap (λ k. k.node) same ∙ of)) is)
    ∙ none_dropped hs node n (subst (λ m. has_number m (numbers hs) ≡ false) (eqb-true h.number n is) new)
dropped_step hs node n h e false is of new more at =
    ap (λ (c : Bool). if not c then handle_state h ∷ dropped_handles node n (map handle_state hs) else dropped_handles node n (map handle_state hs))
    (and_false (h.node == node) (h.number == n) is)
    ∙ ap (λ xs. handle_state h ∷ xs) (more at)

dropped_list : (hs : List Entry) (node n : ℕ) (e : Entry) → AreDistinct (numbers hs) → e.node ≡ node → find (has_that n) hs ≡ Some e
    → dropped_handles node n (map handle_state hs) ≡ map handle_state (filter (λ k. not (has_that n k)) hs)
dropped_list [] node n e d of at = refl
dropped_list (h ∷ hs) node n e d of at =
    dropped_step hs node n h e (h.number == n) refl of d.0 (dropped_list hs node n e d.1 of) at
    ∙ ap (λ (c : Bool). map handle_state (if not c then h ∷ filter (λ k. not (has_that n k)) hs else filter (λ k. not (has_that n k)) hs)) refl

-- ---- changed

changed_step : (hs : List Entry) (h e new : Entry) (b : Bool) → (h.number == new.number) ≡ b → e.node ≡ new.node
    → (find (has_that new.number) hs ≡ Some e → changed_handles (handle_state new) (map handle_state hs) ≡ map handle_state (with_handle new hs))
    → (if b then Some h else find (has_that new.number) hs) ≡ Some e
    → changed_handles (handle_state new) (map handle_state (h ∷ hs)) ≡ map handle_state (if b then new ∷ hs else h ∷ with_handle new hs)
changed_step hs h e new true is of more at =
    let same : h ≡ e = same_Some h e at in
    ap (λ (c : Bool). if c then handle_state new ∷ map handle_state hs else handle_state h ∷ changed_handles (handle_state new) (map handle_state hs))
    (and_true (h.node == new.node) (h.number == new.number) (eq-eqb h.node new.node (ap (λ k. k.node) same ∙ of)) is)
changed_step hs h e new false is of more at =
    ap (λ (c : Bool). if c then handle_state new ∷ map handle_state hs else handle_state h ∷ changed_handles (handle_state new) (map handle_state hs))
    (and_false (h.node == new.node) (h.number == new.number) is)
    ∙ ap (λ xs. handle_state h ∷ xs) (more at)

changed_list : (hs : List Entry) (e new : Entry) → e.node ≡ new.node → find (has_that new.number) hs ≡ Some e
    → changed_handles (handle_state new) (map handle_state hs) ≡ map handle_state (with_handle new hs)
changed_list [] e new of at = refl
changed_list (h ∷ hs) e new of at = changed_step hs h e new (h.number == new.number) refl of (changed_list hs e new of) at

-- ---- for the calls of a hub

-- the node's handle of a number is found by the number only
pub found_by_number : (t : Contents) (node n : ℕ) (e : Entry) → handle_at t n ≡ Some e → e.node ≡ node
    → handle_in (handles_of t) node n ≡ Some (handle_state e)
found_by_number t node n e at of = found_list t.handles node n e of at

-- there is none where no handle has the number
pub none_by_number : (t : Contents) (node n : ℕ) → handle_at t n ≡ None → handle_in (handles_of t) node n ≡ None
none_by_number t node n at = none_list t.handles node n at

-- nor where another node's has
pub none_of_node : (t : Contents) (node n : ℕ) (e : Entry) → IsSound t → handle_at t n ≡ Some e → (e.node == node) ≡ false
    → handle_in (handles_of t) node n ≡ None
none_of_node t node n e sound at of = foreign_list t.handles node n e sound.apart of at

-- a handle is dropped by its number only
pub dropped_by_number : (t : Contents) (node n : ℕ) (e : Entry) → IsSound t → handle_at t n ≡ Some e → e.node ≡ node
    → dropped_handles node n (handles_of t) ≡ handles_of (removed t n)
dropped_by_number t node n e sound at of = dropped_list t.handles node n e sound.apart of at

-- a handle is changed by its number only
pub changed_by_number : (t : Contents) (e new : Entry) → handle_at t new.number ≡ Some e → e.node ≡ new.node
    → changed_handles (handle_state new) (handles_of t) ≡ handles_of (changed t new)
changed_by_number t e new at of = changed_list t.handles e new of at

map_last : (hs : List Entry) (e : Entry) → map handle_state hs ++ handle_state e ∷ [] ≡ map handle_state (hs ++ e ∷ [])
map_last [] e = refl
map_last (h ∷ hs) e = ap (λ xs. handle_state h ∷ xs) (map_last hs e)

-- a new handle stands last
pub added_last : (t : Contents) (e : Entry) → handles_of t ++ handle_state e ∷ [] ≡ handles_of (added t e)
added_last t e = map_last t.handles e

-- ---- the node's handle of a number

pub entry_none : (t : Contents) (node n : ℕ) → None ≡ handle_at t n → option_map handle_state None ≡ handle_in (handles_of t) node n
entry_none t node n at = sym (none_by_number t node n (sym at))

pub entry_some : (t : Contents) (node n : ℕ) (e : Entry) → Some e ≡ handle_at t n → e.node ≡ node
    → option_map handle_state (Some e) ≡ handle_in (handles_of t) node n
entry_some t node n e at of = sym (found_by_number t node n e (sym at) of)

differ : (a b : ℕ) → (a ≡ b → ⊥) → (a == b) ≡ false
differ a b not_same = by_case (a == b) refl
  where
    by_case : (c : Bool) → (a == b) ≡ c → c ≡ false
    by_case true e = absurd (not_same (eqb-true a b e))
    by_case false e = refl

pub entry_foreign : (t : Contents) (node n : ℕ) (e : Entry) → IsSound t → Some e ≡ handle_at t n → (e.node ≡ node → ⊥)
    → option_map handle_state None ≡ handle_in (handles_of t) node n
entry_foreign t node n e sound at of = sym (none_of_node t node n e sound (sym at) (differ e.node node of))

-- what the table tells of the node's handle of a number
pub entry_of : (t : Contents) (node n : ℕ) (o : Option Entry) → IsSound t → o ≡ handle_of t node n → option_map handle_state o ≡ handle_in (handles_of t) node n
entry_of t node n o sound is = ap (option_map handle_state) is ∙ by_case (handle_at t n) refl
  where
    own : (e : Entry) → handle_at t n ≡ Some e → (b : Bool) → (e.node == node) ≡ b
        → option_map handle_state (if b then Some e else None) ≡ handle_in (handles_of t) node n
    own e at true of = entry_some t node n e (sym at) (eqb-true e.node node of)
    own e at false of = sym (none_of_node t node n e sound at of)

    by_case : (q : Option Entry) → handle_at t n ≡ q → option_map handle_state (option_and_then (if_of node) q) ≡ handle_in (handles_of t) node n
    by_case None at = entry_none t node n (sym at)
    by_case (Some e) at = own e at (e.node == node) refl

-- it is the one of that number, and the node's
pub its_own : (o : Option Entry) (node : ℕ) (e : Entry) → Some e ≡ option_and_then (if_of node) o → (Some e ≡ o) × (e.node ≡ node)
its_own None node e at = absurd (none-some e (sym at))
its_own (Some h) node e at = by_case (h.node == node) refl at
  where
    by_case : (b : Bool) → (h.node == node) ≡ b → Some e ≡ (if b then Some h else None) → (Some e ≡ Some h) × (e.node ≡ node)
    by_case true is at = (at, ap (λ (k : Entry). k.node) (same_Some e h at) ∙ eqb-true h.node node is)
    by_case false is at = absurd (none-some e (sym at))

-- ---- the handles of a port

pub any_state : (hs : List Entry) (n : ℕ) → list_any (has_port n) hs ≡ list_any (λ h. h.port == n) (map handle_state hs)
any_state [] n = refl
any_state (h ∷ hs) n = ap (λ (b : Bool). (h.port == n) || b) (any_state hs n)

-- ---- the handles of a node

pub node_numbers : (hs : List Entry) (node : ℕ)
    → map (λ (h : Entry). h.number) (filter (λ h. h.node == node) hs) ≡ map (λ (h : HandleState). h.number) (filter (λ h. h.node == node) (map handle_state hs))
node_numbers [] node = refl
node_numbers (h ∷ hs) node = by_case (h.node == node) (node_numbers hs node)
  where
    by_case : (b : Bool) → map (λ (g : Entry). g.number) (filter (λ g. g.node == node) hs) ≡ map (λ (g : HandleState). g.number) (filter (λ g. g.node == node) (map handle_state hs))
        → map (λ (g : Entry). g.number) (if b then h ∷ filter (λ g. g.node == node) hs else filter (λ g. g.node == node) hs)
        ≡ map (λ (g : HandleState). g.number) (if b then handle_state h ∷ filter (λ g. g.node == node) (map handle_state hs) else filter (λ g. g.node == node) (map handle_state hs))
    by_case true same = ap (λ ns. h.number ∷ ns) same
    by_case false same = same

-- ---- a handle that the node has

-- a handle of that number is in the table
pub known_at : (t : Contents) (node n : ℕ) → is_some (handle_in (handles_of t) node n) ≡ true → is_some (handle_at t n) ≡ true
known_at t node n has = by_case (handle_at t n) refl
  where
    by_case : (o : Option Entry) → handle_at t n ≡ o → is_some o ≡ true
    by_case None e = absurd (false≢true (ap (λ (q : Option HandleState). is_some q) (entry_none t node n (sym e)) ∙ has))
    by_case (Some h) e = refl

-- and it is the node's
pub known_of : (t : Contents) (node n : ℕ) (e : Entry) → IsSound t → Some e ≡ handle_at t n → is_some (handle_in (handles_of t) node n) ≡ true
    → Some (handle_state e) ≡ handle_in (handles_of t) node n
known_of t node n e sound at has = by_case (e.node == node) refl
  where
    by_case : (b : Bool) → (e.node == node) ≡ b → Some (handle_state e) ≡ handle_in (handles_of t) node n
    by_case true is = entry_some t node n e at (eqb-true e.node node is)
    by_case false is = absurd (false≢true (ap (λ (q : Option HandleState). is_some q) (sym (none_of_node t node n e sound (sym at) is)) ∙ has))
