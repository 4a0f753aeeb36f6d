-- On each way of a port no more is outstanding than the buffer and the borrow limit, once a loan got
-- back all there is.
use Rattle.std.specs.Prelude.{◌≡◌, ℕ, ◌+◌, ◌≤◌, Bool, true, false, not, ◌&&◌, if◌then◌else◌, ◌==◌, List, [], ◌∷◌, ◌++◌, length, filter, flat_map, Option, Some, None, IsTrue, refl}
use Rattle.std.specs.Option.{option_map_or}
use Rattle.std.proofs.Common.{sym, subst, ap, ◌∙◌, arith, eqb-true, eq-eqb, true≢false, inl, inr}
use Rattle.iox_model.specs.declared.kind.Role.{Role}
use Rattle.iox_model.specs.declared.kind.Role.TheVariants.{Client, Server}
use Rattle.iox_model.specs.declared.way.Way.{Way}
use Rattle.iox_model.specs.Settings.{is_client, same_role, other_role, buffer_of, borrow_limit_of}
use Rattle.iox_model.specs.States.{Port, Handle, Fixed, State}
use Rattle.iox_model.specs.Handles.{is_request_loan}
use Rattle.iox_model.specs.Messages.{request_way}
use Rattle.iox_model.specs.Maps.{has_number, has_way}
use Rattle.iox_model.specs.Loans.{request_ways, response_ways, lending_ways}
use Rattle.iox_model.specs.Joins.{not_living}
use Rattle.iox_model.specs.Outstandings.{outstanding_on}
use Rattle.iox_model.specs.Doings.{Doing, Loaning}
use Rattle.iox_model.specs.Weaves.{World, Beat}
use Rattle.iox_laws.specs.WeaveLaws.Ledgers.{had_on, is_emptied_by, is_emptied, is_live}
use Rattle.iox_model.specs.Peers.{port_at, is_connected_port, node_of_port, ports_of_role, ports_of_node, forgot_port, others, is_counted_on, buffer_on, borrow_limit_on, ways_from_client, lanes_to, ways_from_server, ways_from}
use Rattle.iox_laws.specs.WeaveLedger.OnceLaws.{IsOnWire}
use Rattle.iox_laws.specs.WeaveLedger.QueueLaws.{evicts_next, has_evicted}
use Rattle.iox_laws.proofs.WeaveLedger.Truths.{never, false_if, both_true}
use Rattle.iox_laws.proofs.WeaveLedger.Lists.{IsAmong, among-filter, among-map, map-among, find-among, any-among, among-any, among-number, among-way, find-own}
use Rattle.iox_laws.proofs.WeaveLedger.Views.{IsAt, node_in, role_in}
use Rattle.iox_laws.proofs.WeaveLedger.Phases.{HasOwnPorts}
use Rattle.iox_laws.proofs.WeaveLedger.LedgerHolds.{ledger_stays_within}
use Rattle.iox_laws.proofs.WeaveLedger.Outstanding.{outstanding_is_counted}
use Rattle.iox_laws.proofs.WeaveLedger.Buffers.{buffer_holds, one_in_hand}
use Rattle.iox_laws.proofs.WeaveLedger.Borrows.{borrow_limit_holds}
use Rattle.iox_laws.proofs.WeaveLedger.Cleared.{nothing_to_the_dead}
use Rattle.iox_laws.proofs.WeavePools.SpareStarts.{IsLoanOf, role-is}
use Rattle.iox_laws.proofs.WeavePools.Kept.{among-flat, of-role, IsWayOf, client-way, server-way, most_out}
use Rattle.iox_laws.proofs.WeaveLaws.WholeLemmas.{split}

-- ---- where all is back

-- the loan of the node's call saw, or may see, that nothing is to be got back on the way
pub record IsBackOn (v : World) (n : ℕ) (w : Way) : Type 0 where
  pub copies : Bool
  pub handle : Handle
  pub left : List Way
  pub doing : v.doing n ≡ Some (Loaning copies handle left)
  pub lends : has_way w (lending_ways v.state.fixed handle) ≡ true
  pub none : has_way w left ≡ true → v.state.returned w ≡ []

pub out-most : (s : State) (v : World) (bs : List Beat) (n : ℕ) (w : Way) → IsOnWire s bs v → IsTrue (is_live v.state.fixed w)
    → node_of_port v.state.fixed w.sender ≡ n → IsBackOn v n w
    → length (outstanding_on v.state w) ≤ buffer_on v.state.fixed w + borrow_limit_on v.state.fixed w
out-most s v bs n w on live at back = by_case (has_way w back.left) refl
  where
    call : v.doing (node_of_port v.state.fixed w.sender) ≡ Some (Loaning back.copies back.handle back.left)
    call = ap v.doing at ∙ back.doing

    of_sender : (test : Doing → Bool)
        → option_map_or test (v.doing (node_of_port v.state.fixed w.sender)) false ≡ test (Loaning back.copies back.handle back.left)
    of_sender test = ap (λ (o : Option Doing). option_map_or test o false) call

    sees : (o : Bool) → has_way w back.left ≡ o → is_emptied v w ≡ not o
    sees o e =
        of_sender (is_emptied_by v.state.fixed w)
        ∙ ap (λ b. b && not (has_way w back.left)) back.lends ∙ ap (λ b. not b) e

    b : ℕ
    b = buffer_on v.state.fixed w

    l : ℕ
    l = borrow_limit_on v.state.fixed w

    emptied : (b l : ℕ) {out most room : ℕ} → out ≡ most → most ≤ room → room ≡ b + l + 0 → out ≤ b + l
    emptied b l {out} {most} {room} p q r = omega arith

    waits : (b l waiting had back hand x y : ℕ) {out : ℕ} → out ≡ (waiting + had + back) + hand → back ≡ 0 → waiting ≤ b + x → x ≡ 0 → had ≤ l
        → hand ≤ y → y ≡ 0 → out ≤ b + l
    waits b l waiting had back hand x y {out} p q r t u o z = omega arith

    by_case : (o : Bool) → has_way w back.left ≡ o → length (outstanding_on v.state w) ≤ buffer_on v.state.fixed w + borrow_limit_on v.state.fixed w
    by_case false e =
        emptied b l (outstanding_is_counted s v bs w on live) (ledger_stays_within s v bs w on live)
        (ap (λ (b : Bool). buffer_on v.state.fixed w + borrow_limit_on v.state.fixed w + (if b then 0 else 1)) (sees false e))
    by_case true e =
        waits b l (length (v.state.waiting w)) (length (had_on v w)) (length (v.state.returned w)) (length (v.state.in_hand w)) _ _
        (outstanding_is_counted s v bs w on live) (ap length (back.none e)) (buffer_holds s v bs w on)
        (ap (λ (b : Bool). if b then 1 else 0) (of_sender (evicts_next w))) (borrow_limit_holds s v bs w on) (one_in_hand s v bs w on)
        (ap (λ (b : Bool). if b then 1 else 0) (of_sender (has_evicted w)))

-- ---- the ways that a loan gets back from

not-so : (b : Bool) → b ≡ false → not b ≡ true
not-so true e = sym e
not-so false e = refl

others-has : (f : Fixed) (n q : ℕ) (role : Role) → IsAmong q (ports_of_role f role) → forgot_port f n q ≡ false → IsAmong q (others f n role)
others-has f n q role a known =
    let t : (p : Port) × IsAmong p f.ports × (q ≡ p.number) × (same_role p.role role ≡ true) = of-role f q role a in
    subst (λ k. IsAmong k (others f n role)) (sym t.2)
    (among-map (λ (p : Port). p.number) t.0 (filter (λ p. same_role p.role role && not (has_number p.node (f.forgot n))) f.ports)
    (among-filter (λ p. same_role p.role role && not (has_number p.node (f.forgot n))) t.0 f.ports t.1
    (both_true (same_role (t.0).role role) (not (has_number (t.0).node (f.forgot n))) t.3
    (not-so (has_number (t.0).node (f.forgot n)) (false_if (has_number (t.0).node (f.forgot n)) (λ e. never (forgot_port f n q)
    (among-any (λ p. (p.number == q) && has_number p.node (f.forgot n)) t.0 f.ports t.1
    (both_true ((t.0).number == q) (has_number (t.0).node (f.forgot n)) (eq-eqb (t.0).number q (sym t.2)) e)) known))))))

pub flat-among : {A B : Type 0} (f : A → List B) (b : B) (a : A) (xs : List A) → IsAmong a xs → IsAmong b (f a) → IsAmong b (flat_map f xs)
flat-among f b a [] p q = absurd p
flat-among f b a (x ∷ xs) (inl e) q = among-left (f x) (flat_map f xs) (subst (λ y. IsAmong b (f y)) e q)
  where
    among-left : (ys zs : List _) → IsAmong b ys → IsAmong b (ys ++ zs)
    among-left [] zs r = absurd r
    among-left (y ∷ ys) zs (inl r) = inl r
    among-left (y ∷ ys) zs (inr r) = inr (among-left ys zs r)
flat-among f b a (x ∷ xs) (inr p) q = among-right (f x) (flat_map f xs) (flat-among f b a xs p q)
  where
    among-right : (ys zs : List _) → IsAmong b zs → IsAmong b (ys ++ zs)
    among-right [] zs r = r
    among-right (y ∷ ys) zs r = inr (among-right ys zs r)

pub lends-on : (f : Fixed) (n : ℕ) (h : Handle) (w : Way) → IsLoanOf f n h → IsAmong w (ways_from f h.port) → forgot_port f n w.receiver ≡ false
    → has_way w (lending_ways f h) ≡ true
lends-on f n h w loan a known =
    subst (λ k. has_way w (if is_request_loan h.kind then request_ways f k h.port else response_ways f k h.port) ≡ true) (sym loan.of_node)
    (subst (λ b. has_way w (if b then request_ways f n h.port else response_ways f n h.port) ≡ true) (sym loan.role)
    (by_role (is_client (role_in f.ports h.port)) a))
  where
    by_role : (b : Bool) → IsAmong w (if b then ways_from_client f h.port else ways_from_server f h.port)
        → has_way w (if b then request_ways f n h.port else response_ways f n h.port) ≡ true
    by_role true a =
        let r : (q : ℕ) × IsAmong q (ports_of_role f Server) × (w ≡ request_way h.port q) = map-among (request_way h.port) w (ports_of_role f Server) a in
        among-way w (request_ways f n h.port) (subst (λ u. IsAmong u (request_ways f n h.port)) (sym r.2)
        (among-map (request_way h.port) r.0 (others f n Server)
        (others-has f n r.0 Server r.1 (ap (λ (u : Way). forgot_port f n u.receiver) (sym r.2) ∙ known))))
    by_role false a =
        let r : (q : ℕ) × IsAmong q (ports_of_role f Client) × IsAmong w (lanes_to f h.port q) = among-flat (lanes_to f h.port) w (ports_of_role f Client) a in
        among-way w (response_ways f n h.port) (flat-among (lanes_to f h.port) w r.0 (others f n Client)
        (others-has f n r.0 Client r.1 (ap (λ k. forgot_port f n k) (sym (to-receiver r.0 r.2)) ∙ known)) r.2)
      where
        to-receiver : (q : ℕ) → IsAmong w (lanes_to f h.port q) → w.receiver ≡ q
        to-receiver q b = ap (λ (u : Way). u.receiver) (map-among _ w _ b).2

-- ---- each way is live, or its receiver is forgotten

-- nobody forgot a node that lives
abbrev pub ForgetsTheDead : State → Type 0
ForgetsTheDead s = (m d : ℕ) → has_number d (s.fixed.forgot m) ≡ true → not_living s d ≡ None → ⊥

pub way-of : (f : Fixed) (port : ℕ) (p : Port) (w : Way) → port_at f port ≡ Some p → IsAmong w (ways_from f port) → IsWayOf f port p.role w
way-of f port p w is a =
    by_role p.role (subst (λ (q : Role). IsAmong w (if is_client q then ways_from_client f port else ways_from_server f port)) (role-is f port p is) a)
  where
    by_role : (r : Role) → IsAmong w (if is_client r then ways_from_client f port else ways_from_server f port) → IsWayOf f port r w
    by_role Client b = client-way f port w b
    by_role Server b = server-way f port w b

node-of : (f : Fixed) (p : Port) → HasOwnPorts f → IsAmong p f.ports → node_in f.ports p.number ≡ p.node
node-of f p own a = ap (λ (o : Option Port). option_map_or (λ x. x.node) o 0) (find-own (λ (p : Port). p.number) f.ports p own a)

pub connected : (f : Fixed) (port : ℕ) (p : Port) → IsAmong p f.ports → port ≡ p.number → is_connected_port f port ≡ true
connected f port p a e = among-any (λ (x : Port). x.number == port) p f.ports a (eq-eqb p.number port (sym e))

-- nobody forgot the node of a port that lives
port-known : (s : State) (n m port : ℕ) → HasOwnPorts s.fixed → ForgetsTheDead s → not_living s n ≡ None → IsAt s.fixed.ports port n
    → forgot_port s.fixed m port ≡ false
port-known s n m port own dead living at =
    false_if (forgot_port s.fixed m port) (λ e. known (any-among (λ p. (p.number == port) && has_number p.node (s.fixed.forgot m)) s.fixed.ports e))
  where
    known : (p : Port) × IsAmong p s.fixed.ports × (((p.number == port) && has_number p.node (s.fixed.forgot m)) ≡ true) → ⊥
    known r =
        let q : (((r.0).number == port) ≡ true) × (has_number (r.0).node (s.fixed.forgot m) ≡ true) = split _ _ r.2 in
        dead m n (subst (λ k. has_number k (s.fixed.forgot m) ≡ true)
        (sym (node-of s.fixed r.0 own r.1) ∙ ap (node_in s.fixed.ports) (eqb-true (r.0).number port q.0) ∙ at) q.1) living

live-way : (s : State) (n port : ℕ) (p : Port) (role : Role) (w : Way) → HasOwnPorts s.fixed → ForgetsTheDead s → not_living s n ≡ None
    → port_at s.fixed port ≡ Some p
    → IsAt s.fixed.ports port n → IsWayOf s.fixed port role w → forgot_port s.fixed n w.receiver ≡ false → is_live s.fixed w ≡ true
live-way s n port p role w own dead living is at way known =
    let f : IsAmong p s.fixed.ports × ((p.number == port) ≡ true) = find-among (λ (x : Port). x.number == port) p s.fixed.ports is in
    both_true (is_counted_on s.fixed w) (is_connected_port s.fixed w.receiver && not (forgot_port s.fixed (node_of_port s.fixed w.receiver) w.sender))
    (both_true (is_connected_port s.fixed w.sender) (not (forgot_port s.fixed (node_of_port s.fixed w.sender) w.receiver))
    (connected s.fixed w.sender p f.0 (way.sender ∙ sym (eqb-true p.number port f.1)))
    (not-so (forgot_port s.fixed (node_of_port s.fixed w.sender) w.receiver)
    (ap (λ k. forgot_port s.fixed k w.receiver) (ap (node_in s.fixed.ports) way.sender ∙ at) ∙ known)))
    (both_true (is_connected_port s.fixed w.receiver) (not (forgot_port s.fixed (node_of_port s.fixed w.receiver) w.sender))
    (connected s.fixed w.receiver way.to way.among way.receiver)
    (not-so (forgot_port s.fixed (node_of_port s.fixed w.receiver) w.sender)
    (port-known s n (node_of_port s.fixed w.receiver) w.sender own dead living (ap (node_in s.fixed.ports) way.sender ∙ at))))

of-node : (f : Fixed) (p : Port) (n number : ℕ) → IsAmong p f.ports → p.node ≡ n → number ≡ p.number → has_number number (ports_of_node f n) ≡ true
of-node f p n number a node is =
    among-number number (ports_of_node f n) (subst (λ k. IsAmong k (ports_of_node f n)) (sym is)
    (among-map (λ (x : Port). x.number) p (filter (λ x. x.node == n) f.ports) (among-filter (λ x. x.node == n) p f.ports a (eq-eqb p.node n node))))

nothing-there : (s : State) (v : World) (bs : List Beat) (n port : ℕ) (p : Port) (role : Role) (w : Way) → IsOnWire s bs v → HasOwnPorts v.state.fixed
    → port_at v.state.fixed port ≡ Some p → IsAt v.state.fixed.ports port n → IsWayOf v.state.fixed port role w → forgot_port v.state.fixed n w.receiver ≡ true
    → outstanding_on v.state w ≡ []
nothing-there s v bs n port p role w on own is at way forgot =
    gone (any-among (λ x. (x.number == w.receiver) && has_number x.node (v.state.fixed.forgot n)) v.state.fixed.ports forgot)
  where
    gone : (q : Port) × IsAmong q v.state.fixed.ports × (((q.number == w.receiver) && has_number q.node (v.state.fixed.forgot n)) ≡ true)
        → outstanding_on v.state w ≡ []
    gone r =
        let q : (((r.0).number == w.receiver) ≡ true) × (has_number (r.0).node (v.state.fixed.forgot n) ≡ true) = split _ _ r.2 in
        let f : IsAmong p v.state.fixed.ports × ((p.number == port) ≡ true) = find-among (λ (x : Port). x.number == port) p v.state.fixed.ports is in
        let number : p.number ≡ port = eqb-true p.number port f.1 in
        nothing_to_the_dead s v bs n (r.0).node w on q.1
        (both_true (has_number w.sender (ports_of_node v.state.fixed n)) (has_number w.receiver (ports_of_node v.state.fixed (r.0).node))
        (of-node v.state.fixed p n w.sender f.0 (sym (node-of v.state.fixed p own f.0) ∙ ap (node_in v.state.fixed.ports) number ∙ at)
        (way.sender ∙ sym number))
        (of-node v.state.fixed r.0 (r.0).node w.receiver r.1 refl (sym (eqb-true (r.0).number w.receiver q.0))))

-- the buffer and the limit of a way are those of its sender's role
pub most-is : (f : Fixed) (port : ℕ) (p : Port) (w : Way) → HasOwnPorts f → port_at f port ≡ Some p → IsWayOf f port p.role w
    → buffer_on f w + borrow_limit_on f w ≡ most_out f.limits p.role
most-is f port p w own is way =
    ap (λ (r : Role). buffer_of f.limits r + borrow_limit_on f w) (ap (role_in f.ports) way.sender ∙ role-is f port p is)
    ∙ ap (λ (r : Role). buffer_of f.limits p.role + borrow_limit_of f.limits r)
    (ap (λ k. other_role (role_in f.ports k)) way.receiver
    ∙ ap (λ (r : Role). other_role r) (role-is f way.to.number way.to (find-own (λ (p : Port). p.number) f.ports way.to own way.among))
    ∙ back (way.to).role p.role way.of_role)
  where
    back : (a b : Role) → same_role a (other_role b) ≡ true → other_role a ≡ b
    back Client Client e = absurd (true≢false (sym e))
    back Client Server e = refl
    back Server Client e = refl
    back Server Server e = absurd (true≢false (sym e))

-- On each way of a port whose loan got back all there is, no more is outstanding than the buffer and
-- the borrow limit.
pub each-way : (s : State) (v : World) (bs : List Beat) (n : ℕ) (h : Handle) (p : Port) → IsOnWire s bs v → HasOwnPorts v.state.fixed → ForgetsTheDead v.state
    → not_living v.state n ≡ None → IsLoanOf v.state.fixed n h → port_at v.state.fixed h.port ≡ Some p
    → ((w : Way) → has_way w (lending_ways v.state.fixed h) ≡ true → is_live v.state.fixed w ≡ true → node_of_port v.state.fixed w.sender ≡ n
    → length (outstanding_on v.state w) ≤ buffer_on v.state.fixed w + borrow_limit_on v.state.fixed w)
    → (w : Way) → IsAmong w (ways_from v.state.fixed h.port) → length (outstanding_on v.state w) ≤ most_out v.state.fixed.limits p.role
each-way s v bs n h p on own dead living loan is back w a = by_case (forgot_port v.state.fixed n w.receiver) refl
  where
    way : IsWayOf v.state.fixed h.port p.role w
    way = way-of v.state.fixed h.port p w is a

    none : (k : ℕ) → 0 ≤ k
    none k = omega arith

    by_case : (b : Bool) → forgot_port v.state.fixed n w.receiver ≡ b → length (outstanding_on v.state w) ≤ most_out v.state.fixed.limits p.role
    by_case true e =
        subst (λ (ks : List ℕ). length ks ≤ most_out v.state.fixed.limits p.role)
        (sym (nothing-there s v bs n h.port p p.role w on own is loan.of_port way e)) (none _)
    by_case false e =
        subst (λ k. length (outstanding_on v.state w) ≤ k) (most-is v.state.fixed h.port p w own is way)
        (back w (lends-on v.state.fixed n h w loan a e) (live-way v.state n h.port p p.role w own dead living is loan.of_port way e)
        (ap (node_in v.state.fixed.ports) way.sender ∙ loan.of_port))
