-- The end of a call keeps the ports, and each handle belongs to a port of its node.
use Rattle.std.specs.Prelude.{◌≡◌, ℕ, ◌+◌, ◌-◌, Bool, true, false, not, ◌&&◌, ◌==◌, nat_le, List, [], ◌∷◌, ◌++◌, length, find, refl}
use Rattle.std.specs.List.{list_any, list_all}
use Rattle.std.specs.Option.{option_map_or}
use Rattle.std.proofs.Common.{sym, subst, ap, ◌∙◌, eq-eqb, eqb-true, true≢false}
use Rattle.iox_model.specs.declared.way.Way.{Way}
use Rattle.iox_model.specs.Expiries.{released}
use Rattle.iox_model.specs.Forgetting.{has_forgotten, forgets}
use Rattle.iox_model.specs.Doings.{Outcome, Tells, Loans, Fills, Sends, FailsToSend, Receives, Drops, DropsPort, Forgets}
use Rattle.iox_model.specs.States.{Handle, Fixed, State}
use Rattle.iox_model.specs.Handles.{is_request_loan, is_received, way_of}
use Rattle.iox_model.specs.Maps.{put_at, put}
use Rattle.iox_model.specs.Messages.{Message}
use Rattle.iox_model.specs.Ends.{sent_loan, sent_copy, is_nothing, settled}
use Rattle.iox_model.specs.Peers.{is_connected_port, node_of_port}
use Rattle.iox_model.specs.Counts.{is_same_handle, without_handle, with_handle, added, changed, dropped, numbered, called, gives_up, with_fixed, received_handle, sent_handle, holding}
use Rattle.iox_laws.proofs.WeaveLaws.MapLemmas.{either}
use Rattle.iox_laws.proofs.WeaveLaws.WholeLemmas.{split}
use Rattle.iox_laws.proofs.WeaveLaws.WireLemmas.{released-wire, settled_same}
use Rattle.iox_laws.proofs.WeaveWorlds.Sound.{IsPortOf, is_port_of, IsOwn, has_own, FitsOutcome}
use Rattle.iox_laws.proofs.WeaveWorlds.Kept.{Leaves, SamePorts}
use Rattle.iox_laws.proofs.WeaveLedger.Orders.{le-refl}
use Rattle.iox_laws.proofs.WeaveLedger.Truths.{both_true}

-- ---- handles that belong to ports of their node

abbrev belong : Fixed → ℕ → List Handle → Bool
belong f node hs = list_all (λ h. is_port_of f node h.port) hs

pub is-port_of : (f : Fixed) (node port : ℕ) → IsPortOf f node port → is_port_of f node port ≡ true
is-port_of f node port p =
    both_true (is_connected_port f port) (node_of_port f port == node) p.0 (eq-eqb (node_of_port f port) node p.1)

belong-append : (f : Fixed) (node : ℕ) (hs : List Handle) (h : Handle) → belong f node hs ≡ true → IsPortOf f node h.port
    → belong f node (hs ++ h ∷ []) ≡ true
belong-append f node [] h all own = both_true (is_port_of f node h.port) true (is-port_of f node h.port own) refl
belong-append f node (k ∷ ks) h all own =
    let q : (is_port_of f node k.port ≡ true) × (belong f node ks ≡ true) = split (is_port_of f node k.port) (belong f node ks) all in
    both_true (is_port_of f node k.port) (belong f node (ks ++ h ∷ [])) q.0 (belong-append f node ks h q.1 own)

belong-without : (f : Fixed) (node : ℕ) (hs : List Handle) (h : Handle) → belong f node hs ≡ true → belong f node (without_handle h hs) ≡ true
belong-without f node [] h all = refl
belong-without f node (k ∷ ks) h all =
    let q : (is_port_of f node k.port ≡ true) × (belong f node ks ≡ true) = split (is_port_of f node k.port) (belong f node ks) all in
    either (λ (xs : List Handle). belong f node xs ≡ true) (not (is_same_handle h k)) (k ∷ without_handle h ks) (without_handle h ks)
    (λ u. both_true (is_port_of f node k.port) (belong f node (without_handle h ks)) q.0 (belong-without f node ks h q.1))
    (λ u. belong-without f node ks h q.1)

belong-with : (f : Fixed) (node : ℕ) (hs : List Handle) (h : Handle) → belong f node hs ≡ true → IsPortOf f node h.port
    → belong f node (with_handle h hs) ≡ true
belong-with f node [] h all own = refl
belong-with f node (k ∷ ks) h all own =
    let q : (is_port_of f node k.port ≡ true) × (belong f node ks ≡ true) = split (is_port_of f node k.port) (belong f node ks) all in
    either (λ (xs : List Handle). belong f node xs ≡ true) (is_same_handle h k) (h ∷ ks) (k ∷ with_handle h ks)
    (λ u. both_true (is_port_of f node h.port) (belong f node ks) (is-port_of f node h.port own) q.1)
    (λ u. both_true (is_port_of f node k.port) (belong f node (with_handle h ks)) q.0 (belong-with f node ks h q.1 own))

-- ---- what the end of a call keeps

-- the wire, the ports and limits are those of f, and each handle belongs to a port of its node
abbrev pub KeepsFixed : Fixed → Fixed → Type 0
KeepsFixed f g =
    (g.on_wire ≡ f.on_wire) × (g.ports ≡ f.ports) × (g.limits ≡ f.limits) × ((n : ℕ) → belong f n (g.handles n) ≡ true)

put_belong : (f : Fixed) (handles : ℕ → List Handle) (node : ℕ) (hs : List Handle) → ((n : ℕ) → belong f n (handles n) ≡ true)
    → belong f node hs ≡ true → (n : ℕ) → belong f n (put_at handles node hs n) ≡ true
put_belong f handles node hs all own n =
    either (λ (xs : List Handle). belong f n xs ≡ true) (n == node) hs (handles n)
    (λ e. subst (λ k. belong f k hs ≡ true) (sym (eqb-true n node e)) own) (λ e. all n)

adds : (f g : Fixed) (h : Handle) → KeepsFixed f g → IsPortOf f h.node h.port → KeepsFixed f (added g h)
adds f g h p own =
    (p.0, p.1, p.2, put_belong f g.handles h.node (g.handles h.node ++ h ∷ []) p.3 (belong-append f h.node (g.handles h.node) h (p.3 h.node) own))

changes : (f g : Fixed) (h : Handle) → KeepsFixed f g → IsPortOf f h.node h.port → KeepsFixed f (changed g h)
changes f g h p own =
    (p.0, p.1, p.2, put_belong f g.handles h.node (with_handle h (g.handles h.node)) p.3 (belong-with f h.node (g.handles h.node) h (p.3 h.node) own))

drops : (f g : Fixed) (h : Handle) → KeepsFixed f g → KeepsFixed f (dropped g h)
drops f g h p =
    (p.0, p.1, p.2, put_belong f g.handles h.node (without_handle h (g.handles h.node)) p.3 (belong-without f h.node (g.handles h.node) h (p.3 h.node)))

numbers : (f g : Fixed) (node : ℕ) → KeepsFixed f g → KeepsFixed f (numbered g node)
numbers f g node p =
    either (KeepsFixed f) g.on_wire (record g { handles_made = put_at g.handles_made node (g.handles_made node + 1) })
    (record g { next_number = g.next_number + 1 }) (λ u. p) (λ u. p)

gives : (f g : Fixed) (h : Handle) → KeepsFixed f g → KeepsFixed f (gives_up g h)
gives f g h p =
    either (KeepsFixed f) (is_received h.kind) (record g { borrowed = put g.borrowed (way_of h) (g.borrowed (way_of h) - 1) }) g (λ u. p) (λ u. p)

releases : (s : State) (g : Fixed) (port : ℕ) → s.fixed.on_wire ≡ true → KeepsFixed s.fixed g → KeepsFixed s.fixed (released (with_fixed s g) port).fixed
releases s g port wire p = subst (λ (t : State). KeepsFixed s.fixed t.fixed) (sym (released-wire (with_fixed s g) port (p.0 ∙ wire))) p

-- a handle of the node belongs to a port of its own
pub of_own : (f : Fixed) (node : ℕ) (h : Handle) → IsOwn f node h → IsPortOf f h.node h.port
of_own f node h own = subst (λ k. IsPortOf f k h.port) (sym own.0) own.1

sent_copy_keeps : (f : Fixed) (node : ℕ) (h : Handle) (count : ℕ) → KeepsFixed f f → IsOwn f node h → KeepsFixed f (sent_copy f h count)
sent_copy_keeps f node h count p own =
    either (KeepsFixed f) (is_request_loan h.kind) (added (numbered f h.node) (sent_handle h count)) f
    (λ u. adds f (numbered f h.node) (sent_handle h count) (numbers f f h.node p) (of_own f node h own)) (λ u. p)

sent_loan_keeps : (s : State) (node : ℕ) (h : Handle) (count : ℕ) → s.fixed.on_wire ≡ true → KeepsFixed s.fixed s.fixed → IsOwn s.fixed node h
    → KeepsFixed s.fixed (sent_loan s h count).fixed
sent_loan_keeps s node h count wire p own =
    either (λ (t : State). KeepsFixed s.fixed t.fixed) (is_request_loan h.kind) (with_fixed s (changed s.fixed (sent_handle h count)))
    (released (with_fixed s (dropped s.fixed h)) h.port)
    (λ u. changes s.fixed s.fixed (sent_handle h count) p (of_own s.fixed node h own))
    (λ u. releases s (dropped s.fixed h) h.port wire (drops s.fixed s.fixed h p))

settled_keeps : (s : State) (node : ℕ) (payload : List ℕ) (o : Outcome) → s.fixed.on_wire ≡ true → KeepsFixed s.fixed s.fixed
    → FitsOutcome s.fixed node o → KeepsFixed s.fixed (settled s node payload o).fixed
settled_keeps s node payload (Tells reply) wire p own =
    either (λ (t : State). KeepsFixed s.fixed t.fixed) (is_nothing reply) (with_fixed s (called s.fixed)) s (λ u. p) (λ u. p)
settled_keeps s node payload (Loans h) wire p own =
    adds s.fixed (numbered s.fixed node) (holding h payload) (numbers s.fixed s.fixed node p) (of_own s.fixed node h own)
settled_keeps s node payload (Fills h) wire p own = changes s.fixed s.fixed h p (of_own s.fixed node h own)
settled_keeps s node payload (Sends h true count) wire p own = sent_copy_keeps s.fixed node h count p own
settled_keeps s node payload (Sends h false count) wire p own = sent_loan_keeps s node h count wire p own
settled_keeps s node payload (FailsToSend h true refusal) wire p own = p
settled_keeps s node payload (FailsToSend h false refusal) wire p own = releases s (dropped s.fixed h) h.port wire (drops s.fixed s.fixed h p)
settled_keeps s node payload (Receives x w m) wire p own =
    adds s.fixed (numbered s.fixed node) (received_handle s.fixed node x m) (numbers s.fixed s.fixed node p) own.0
settled_keeps s node payload (Drops h) wire p own =
    releases s (gives_up (dropped s.fixed h) h) h.port wire (gives s.fixed (dropped s.fixed h) h (drops s.fixed s.fixed h p))
settled_keeps s node payload (DropsPort port) wire p own = absurd (true≢false (sym wire ∙ own.0))
settled_keeps s node payload (Forgets dead) wire p own =
    either (λ (t : State). KeepsFixed s.fixed t.fixed) (has_forgotten s.fixed node dead) s (forgets s node dead) (λ u. p) (λ u. p)

-- ---- so it leaves every call sound

pub settled_on_wire : (s : State) (node : ℕ) (payload : List ℕ) (o : Outcome) → s.fixed.on_wire ≡ true
    → (settled s node payload o).fixed.on_wire ≡ true
settled_on_wire s node payload o wire = (settled_same s node payload o wire).on_wire ∙ wire

pub settled_ports : (s : State) (node : ℕ) (payload : List ℕ) (o : Outcome) → s.fixed.on_wire ≡ true → ((n : ℕ) → has_own s.fixed n ≡ true)
    → FitsOutcome s.fixed node o → SamePorts s.fixed (settled s node payload o).fixed
settled_ports s node payload o wire all own =
    let k : KeepsFixed s.fixed (settled s node payload o).fixed = settled_keeps s node payload o wire (refl, refl, refl, all) own in
    record { ports = k.1; limits = k.2; on_wire = k.0 }

pub settled_own : (s : State) (node : ℕ) (payload : List ℕ) (o : Outcome) → s.fixed.on_wire ≡ true → ((n : ℕ) → has_own s.fixed n ≡ true)
    → FitsOutcome s.fixed node o → (n : ℕ) → has_own (settled s node payload o).fixed n ≡ true
settled_own s node payload o wire all own n =
    let k : KeepsFixed s.fixed (settled s node payload o).fixed = settled_keeps s node payload o wire (refl, refl, refl, all) own in
    ap (λ ps. list_all
    (λ h. list_any (λ p. p.number == h.port) ps && (option_map_or (λ p. p.node) (find (λ p. p.number == h.port) ps) 0 == n))
    ((settled s node payload o).fixed.handles n)) k.1
    ∙ k.3 n

pub settled_waiting : (s : State) (node : ℕ) (payload : List ℕ) (o : Outcome) → s.fixed.on_wire ≡ true → (v : Way)
    → nat_le (length ((settled s node payload o).waiting v)) (length (s.waiting v)) ≡ true
settled_waiting s node payload o wire v =
    subst (λ (f : Way → List Message). nat_le (length (f v)) (length (s.waiting v)) ≡ true)
    (sym (settled_same s node payload o wire).waiting) (le-refl (length (s.waiting v)))

pub settled_leaves : (s : State) (node : ℕ) (payload : List ℕ) (o : Outcome) (n : ℕ) → s.fixed.on_wire ≡ true → ((n : ℕ) → has_own s.fixed n ≡ true)
    → FitsOutcome s.fixed node o → (n == node) ≡ false → Leaves s (settled s node payload o) n
settled_leaves s node payload o n wire all own other = record {
  fixed = settled_ports s node payload o wire all own;
  waiting = λ v of_node. settled_waiting s node payload o wire v;
  in_hand = λ v of_node. ap (λ (f : Way → List ℕ). f v) (settled_same s node payload o wire).in_hand;
}
