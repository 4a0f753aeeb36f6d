-- What a port keeps is no more than its own handles and what is outstanding on each of its ways.
use Rattle.std.specs.Prelude.{◌≡◌, ℕ, ◌+◌, ◌*◌, ◌<◌, ◌≤◌, Bool, true, false, ◌&&◌, ◌||◌, if◌then◌else◌, ◌==◌, List, [], ◌∷◌, length, filter, flat_map, Option, Some, find, refl}
use Rattle.std.specs.List.{range_with_len}
use Rattle.std.specs.Option.{option_map_or}
use Rattle.std.proofs.Common.{sym, subst, ap, ◌∙◌, arith, eqb-true, true≢false, inl, inr}
use Rattle.std.proofs.Math.Nat.{mul-le-mul_left, mul_comm}
use Rattle.std.proofs.lemmas.List.{length-map}
use Rattle.std.proofs.lemmas.List.FromFn.{length-range_with_len}
use Rattle.iox_model.specs.declared.kind.Role.{Role}
use Rattle.iox_model.specs.declared.kind.Role.TheVariants.{Client, Server}
use Rattle.iox_model.specs.declared.kind.Kind.{Kind}
use Rattle.iox_model.specs.declared.kind.Kind.TheVariants.{RequestMutUninit, RequestMut, ResponseMutUninit, ResponseMut, PendingResponse, ActiveRequest, Response}
use Rattle.iox_model.specs.declared.kind.Kind.TheVariants as kinds
use Rattle.iox_model.specs.declared.way.Way.{Way}
use Rattle.iox_model.specs.Settings.{is_client, same_role, other_role, buffer_of, borrow_limit_of, Limits}
use Rattle.iox_model.specs.States.{Port, Handle, Fixed, State}
use Rattle.iox_model.specs.Handles.{is_own, is_request_loan, is_response_loan, handles_of}
use Rattle.iox_model.specs.Messages.{request_way, response_way}
use Rattle.iox_model.specs.Makings.{pool_of_client, pool_of_server}
use Rattle.iox_model.specs.Outstandings.{outstanding_on, is_held, is_outstanding, kept}
use Rattle.iox_model.specs.Peers.{port_at, lanes_of, ports_of_role, ways_from_client, lanes_to, ways_from_server, ways_from}
use Rattle.iox_laws.proofs.WeaveLaws.WholeLemmas.{split}
use Rattle.iox_laws.proofs.WeaveLaws.WholeLemmas.{some-is}
use Rattle.iox_laws.proofs.WeaveLedger.Orders.{at-most, same-le}
use Rattle.iox_laws.proofs.WeaveLedger.Truths.{both_true}
use Rattle.iox_laws.proofs.WeaveLedger.Counts.{count, count-fewer}
use Rattle.iox_laws.proofs.WeaveLedger.Ranges.{range-apart}
use Rattle.iox_laws.proofs.WeaveLedger.Lists.{IsAmong, among-append, filter-among, map-among, find-own}
use Rattle.iox_laws.proofs.WeaveLedger.Views.{view, View, IsAt, role_in}
use Rattle.iox_laws.proofs.WeaveLedger.Phases.{HasOwnPorts}
use Rattle.iox_laws.specs.WeavePools.PoolLaws.{IsUnreduced}
use Rattle.iox_laws.proofs.WeavePools.Unions.{count-or, count-any, count-named, length-flat}
use Rattle.iox_laws.proofs.WeavePools.Limited.{IsWithin, role-count}
use Rattle.iox_laws.proofs.WeavePools.Spare.{is_of_client, is_pending, counts, count-both, FitsKinds, SpareLoan}
use Rattle.iox_laws.proofs.WeavePools.SpareStarts.{role-is}

-- ---- its own handles

own-client : (k : Kind) → is_of_client k ≡ true → is_own k ≡ true → (is_request_loan k || is_pending k) ≡ true
own-client kinds.Client e f = absurd (true≢false (sym e))
own-client kinds.Server e f = absurd (true≢false (sym e))
own-client RequestMutUninit e f = refl
own-client RequestMut e f = refl
own-client ResponseMutUninit e f = absurd (true≢false (sym e))
own-client ResponseMut e f = absurd (true≢false (sym e))
own-client PendingResponse e f = refl
own-client ActiveRequest e f = absurd (true≢false (sym e))
own-client Response e f = absurd (true≢false (sym f))

own-server : (k : Kind) → is_of_client k ≡ false → is_own k ≡ true → is_response_loan k ≡ true
own-server kinds.Client e f = absurd (true≢false (sym f))
own-server kinds.Server e f = absurd (true≢false (sym f))
own-server RequestMutUninit e f = absurd (true≢false e)
own-server RequestMut e f = absurd (true≢false e)
own-server ResponseMutUninit e f = refl
own-server ResponseMut e f = refl
own-server PendingResponse e f = absurd (true≢false e)
own-server ActiveRequest e f = absurd (true≢false (sym f))
own-server Response e f = absurd (true≢false e)

-- the handles that hold the port's own messages
abbrev own_handles : View → ℕ → ℕ
own_handles v port = counts v port is_own

own-of-client : (v : View) (port : ℕ) → FitsKinds v → is_client (role_in v.ports port) ≡ true
    → own_handles v port ≤ counts v port is_request_loan + counts v port is_pending
own-of-client v port fits client =
    at-most _ _ _ (count-fewer _ (λ h. ((h.port == port) && is_request_loan h.kind) || ((h.port == port) && is_pending h.kind)) v.handles each)
    (count-or (λ h. (h.port == port) && is_request_loan h.kind) (λ h. (h.port == port) && is_pending h.kind) v.handles)
  where
    spread : (a b c : Bool) → a ≡ true → (b || c) ≡ true → ((a && b) || (a && c)) ≡ true
    spread true b c e f = f
    spread false b c e f = absurd (true≢false (sym e))

    each : (h : Handle) → IsAmong h v.handles → ((h.port == port) && is_own h.kind) ≡ true
        → (((h.port == port) && is_request_loan h.kind) || ((h.port == port) && is_pending h.kind)) ≡ true
    each h a e =
        let q : ((h.port == port) ≡ true) × (is_own h.kind ≡ true) = split _ _ e in
        spread (h.port == port) (is_request_loan h.kind) (is_pending h.kind) q.0
        (own-client h.kind ((fits.suits h a).1 ∙ ap (λ k. is_client (role_in v.ports k)) (eqb-true h.port port q.0) ∙ client) q.1)

own-of-server : (v : View) (port : ℕ) → FitsKinds v → is_client (role_in v.ports port) ≡ false → own_handles v port ≤ counts v port is_response_loan
own-of-server v port fits server = count-fewer _ (λ h. (h.port == port) && is_response_loan h.kind) v.handles each
  where
    each : (h : Handle) → IsAmong h v.handles → ((h.port == port) && is_own h.kind) ≡ true → ((h.port == port) && is_response_loan h.kind) ≡ true
    each h a e =
        let q : ((h.port == port) ≡ true) × (is_own h.kind ≡ true) = split _ _ e in
        both_true (h.port == port) (is_response_loan h.kind) q.0
        (own-server h.kind ((fits.suits h a).1 ∙ ap (λ k. is_client (role_in v.ports k)) (eqb-true h.port port q.0) ∙ server) q.1)

-- ---- its ways

pub among-flat : {A B : Type 0} (f : A → List B) (b : B) (xs : List A) → IsAmong b (flat_map f xs) → (a : A) × IsAmong a xs × IsAmong b (f a)
among-flat f b [] p = absurd p
among-flat f b (x ∷ xs) p = elim (among-append b (f x) (flat_map f xs) p) as (λ u. (a : _) × IsAmong a (x ∷ xs) × IsAmong b (f a)) [
  | inl q ↦ (x, inl refl, q)
  | inr q ↦ let r : (a : _) × IsAmong a xs × IsAmong b (f a) = among-flat f b xs q in (r.0, inr r.1, r.2)
]

-- a way of the port goes from it, to one of the other role, on a lane of a client's
pub record IsWayOf (f : Fixed) (port : ℕ) (role : Role) (w : Way) : Type 0 where
  pub sender : w.sender ≡ port
  pub to : Port
  pub among : IsAmong to f.ports
  pub receiver : w.receiver ≡ to.number
  pub of_role : same_role to.role (other_role role) ≡ true

pub of-role : (f : Fixed) (q : ℕ) (role : Role) → IsAmong q (ports_of_role f role)
    → (p : Port) × IsAmong p f.ports × (q ≡ p.number) × (same_role p.role role ≡ true)
of-role f q role a =
    let r : (p : Port) × IsAmong p (filter (λ p. same_role p.role role) f.ports) × (q ≡ p.number)
    = map-among (λ p. p.number) q (filter (λ p. same_role p.role role) f.ports) a in
    let t : IsAmong r.0 f.ports × (same_role (r.0).role role ≡ true) = filter-among (λ p. same_role p.role role) r.0 f.ports r.1 in
    (r.0, t.0, r.2, t.1)

pub client-way : (f : Fixed) (port : ℕ) (w : Way) → IsAmong w (ways_from_client f port) → IsWayOf f port Client w
client-way f port w a =
    let r : (q : ℕ) × IsAmong q (ports_of_role f Server) × (w ≡ request_way port q) = map-among (request_way port) w (ports_of_role f Server) a in
    let t : (p : Port) × IsAmong p f.ports × (r.0 ≡ p.number) × (same_role p.role Server ≡ true) = of-role f r.0 Server r.1 in
    record {
      sender = ap (λ (u : Way). u.sender) r.2;
      to = t.0;
      among = t.1;
      receiver = ap (λ (u : Way). u.receiver) r.2 ∙ t.2;
      of_role = t.3;
    }

pub server-way : (f : Fixed) (port : ℕ) (w : Way) → IsAmong w (ways_from_server f port) → IsWayOf f port Server w
server-way f port w a =
    let r : (q : ℕ) × IsAmong q (ports_of_role f Client) × IsAmong w (lanes_to f port q) = among-flat (lanes_to f port) w (ports_of_role f Client) a in
    let t : (p : Port) × IsAmong p f.ports × (r.0 ≡ p.number) × (same_role p.role Client ≡ true) = of-role f r.0 Client r.1 in
    let l : (lane : ℕ) × IsAmong lane (range_with_len 0 (lanes_of f r.0)) × (w ≡ response_way r.0 lane port)
    = map-among (λ lane. response_way r.0 lane port) w (range_with_len 0 (lanes_of f r.0)) r.2 in
    record {
      sender = ap (λ (u : Way). u.sender) l.2;
      to = t.0;
      among = t.1;
      receiver = ap (λ (u : Way). u.receiver) l.2 ∙ t.2;
      of_role = t.3;
    }

-- ---- all that it keeps

kept-length : (s : State) (n port most : ℕ) → IsAt s.fixed.ports port n → ((w : Way) → IsAmong w (ways_from s.fixed port) → w.sender ≡ port)
    → ((w : Way) → IsAmong w (ways_from s.fixed port) → length (outstanding_on s w) ≤ most)
    → length (kept s port []) ≤ own_handles (view s.fixed n) port + length (ways_from s.fixed port) * most
kept-length s n port most at from each =
    joins (count (is_held s.fixed port) numbers) (count (is_outstanding s port) numbers) (count-or (is_held s.fixed port) (is_outstanding s port) numbers)
    (count-named (λ h. is_own h.kind) (λ h. h.message.serial) (handles_of s.fixed port) numbers (range-apart 0 (s.fixed.loans port + 1)))
    (ap (λ node. count (λ (h : Handle). is_own h.kind) (filter (λ (h : Handle). h.port == port) (s.fixed.handles node))) at
    ∙ count-both (λ (h : Handle). h.port == port) (λ h. is_own h.kind) (s.fixed.handles n))
    (count-any (λ w k. s.delivered w k) most (ways_from s.fixed port) numbers
    (λ w a. subst (λ q. count (s.delivered w) (range_with_len 0 (s.fixed.loans q + 1)) ≤ most) (from w a) (each w a)))
  where
    numbers : List ℕ
    numbers = range_with_len 0 (s.fixed.loans port + 1)

    joins : (a b : ℕ) {c d e f : ℕ} → c ≤ a + b → a ≤ d → d ≡ e → b ≤ f → c ≤ e + f
    joins a b {c} {d} {e} {f} p q r t = omega arith

-- ---- how many ways there are

-- more of them is more
more : (a b c : ℕ) → a ≤ b → a * c ≤ b * c
more a b c p = subst (λ k. k ≤ b * c) (mul_comm c a) (subst (λ k. c * a ≤ k) (mul_comm c b) (mul-le-mul_left c p))

client-ways : (f : Fixed) (port : ℕ) → IsWithin f → length (ways_from_client f port) ≤ f.limits.servers
client-ways f port within = at-most _ _ _ (same-le _ _ (length-map (ports_of_role f Server) (request_way port) ∙ role-count f Server)) (within.most Server)

lanes-least : (f : Fixed) (q : ℕ) → HasOwnPorts f → IsWithin f → IsAmong q (ports_of_role f Client) → lanes_of f q ≤ pool_of_client f.limits
lanes-least f q own within a =
    let t : (p : Port) × IsAmong p f.ports × (q ≡ p.number) × (same_role p.role Client ≡ true) = of-role f q Client a in
    subst (λ n. n ≤ pool_of_client f.limits)
    (sym (ap (lanes_of f) t.2 ∙ ap (λ (o : Option Port). option_map_or (λ p. p.pool) o 0) (find-own (λ (p : Port). p.number) f.ports t.0 own t.1)))
    (within.lanes t.0 t.1 (client-role (t.0).role t.3))
  where
    client-role : (r : Role) → same_role r Client ≡ true → is_client r ≡ true
    client-role Client e = refl
    client-role Server e = absurd (true≢false (sym e))

server-ways : (f : Fixed) (port : ℕ) → HasOwnPorts f → IsWithin f → length (ways_from_server f port) ≤ f.limits.clients * pool_of_client f.limits
server-ways f port own within =
    at-most _ _ _ (length-flat (lanes_to f port) (pool_of_client f.limits) (ports_of_role f Client)
    (λ q a. subst (λ k. k ≤ pool_of_client f.limits)
    (sym (length-map (range_with_len 0 (lanes_of f q)) (λ lane. response_way q lane port) ∙ length-range_with_len 0 (lanes_of f q)))
    (lanes-least f q own within a)))
    (more (length (ports_of_role f Client)) f.limits.clients (pool_of_client f.limits)
    (subst (λ k. k ≤ f.limits.clients) (sym (role-count f Client)) (within.most Client)))

-- ---- less than its pool

-- what may be outstanding on a way of a port of the role, once all is got back
abbrev pub most_out : Limits → Role → ℕ
most_out l role = buffer_of l role + borrow_limit_of l role

-- the port that may have one more loan is the one that is there
spare-client : (v : View) (port : ℕ) (p : Port) → SpareLoan v port → find (λ q. q.number == port) v.ports ≡ Some p → is_client p.role ≡ true
    → counts v port is_request_loan < v.limits.loaned_requests
spare-client v port p spare is client =
    spare.client (ap (λ (q : Port). is_client q.role) (some-is spare.there p (sym spare.is ∙ is)) ∙ client)

spare-server : (v : View) (port : ℕ) (p : Port) → SpareLoan v port → find (λ q. q.number == port) v.ports ≡ Some p → is_client p.role ≡ false
    → counts v port is_response_loan < p.loaned_responses * v.limits.active_requests * v.limits.clients
spare-server v port p spare is server =
    let same : spare.there ≡ p = some-is spare.there p (sym spare.is ∙ is) in
    subst (λ (q : Port). counts v port is_response_loan < q.loaned_responses * v.limits.active_requests * v.limits.clients) same
    (spare.server (ap (λ (q : Port). is_client q.role) same ∙ server))

kept-client : (s : State) (n port : ℕ) (p : Port) → IsWithin s.fixed → FitsKinds (view s.fixed n) → SpareLoan (view s.fixed n) port
    → port_at s.fixed port ≡ Some p → is_client p.role ≡ true → pool_of_client s.fixed.limits ≤ p.pool
    → length (kept s port []) ≤ own_handles (view s.fixed n) port + length (ways_from_client s.fixed port) * most_out s.fixed.limits Client
    → length (kept s port []) < p.pool
kept-client s n port p within fits spare is client enough keeps =
    sum (own-of-client (view s.fixed n) port fits (ap (λ (r : Role). is_client r) (role-is s.fixed port p is) ∙ client))
    (spare-client (view s.fixed n) port p spare is client) (fits.pending port)
    (more (length (ways_from_client s.fixed port)) s.fixed.limits.servers (most_out s.fixed.limits Client) (client-ways s.fixed port within))
    (twice s.fixed.limits.servers s.fixed.limits.active_requests) enough keeps
  where
    twice : (a b : ℕ) → a * (b + b) ≡ 2 * a * b
    twice a b = grind (arith)

    sum : {kept own loans pending ways most all l a pool : ℕ} → own ≤ loans + pending → loans < l → pending ≤ a → ways ≤ most → most ≡ all
        → l + a + all ≤ pool → kept ≤ own + ways → kept < pool
    sum {kept} {own} {loans} {pending} {ways} {most} {all} {l} {a} {pool} e f g h i j k = omega arith

kept-server : (s : State) (n port : ℕ) (p : Port) → HasOwnPorts s.fixed → IsWithin s.fixed → FitsKinds (view s.fixed n) → SpareLoan (view s.fixed n) port
    → port_at s.fixed port ≡ Some p → is_client p.role ≡ false → pool_of_server s.fixed.limits p.loaned_responses ≤ p.pool
    → length (kept s port []) ≤ own_handles (view s.fixed n) port + length (ways_from_server s.fixed port) * most_out s.fixed.limits Server
    → length (kept s port []) < p.pool
kept-server s n port p own within fits spare is server enough keeps =
    sum (own-of-server (view s.fixed n) port fits (ap (λ (r : Role). is_client r) (role-is s.fixed port p is) ∙ server))
    (spare-server (view s.fixed n) port p spare is server)
    (more (length (ways_from_server s.fixed port)) (s.fixed.limits.clients * pool_of_client s.fixed.limits) (most_out s.fixed.limits Server)
    (server-ways s.fixed port own within))
    enough keeps
  where
    sum : {kept own loans ways most l pool : ℕ} → own ≤ loans → loans < l → ways ≤ most → l + most ≤ pool → kept ≤ own + ways → kept < pool
    sum {kept} {own} {loans} {ways} {most} {l} {pool} e f g h i = omega arith

-- A port that may have one more loan keeps fewer messages than an unreduced pool has, where on each
-- of its ways no more is outstanding than the buffer and the borrow limit.
pub kept-less : (s : State) (n port : ℕ) (p : Port) → HasOwnPorts s.fixed → IsWithin s.fixed → FitsKinds (view s.fixed n) → SpareLoan (view s.fixed n) port
    → port_at s.fixed port ≡ Some p → IsAt s.fixed.ports port n → IsUnreduced s.fixed p
    → ((w : Way) → IsAmong w (ways_from s.fixed port) → length (outstanding_on s w) ≤ most_out s.fixed.limits p.role)
    → length (kept s port []) < p.pool
kept-less s n port p own within fits spare is at enough each = by_role p.role refl
  where
    role : role_in s.fixed.ports port ≡ p.role
    role = role-is s.fixed port p is

    by_role : (r : Role) → p.role ≡ r → length (kept s port []) < p.pool
    by_role Client e =
        let ways : ways_from s.fixed port ≡ ways_from_client s.fixed port
        = ap (λ (q : Role). if is_client q then ways_from_client s.fixed port else ways_from_server s.fixed port) (role ∙ e) in
        kept-client s n port p within fits spare is (ap (λ (q : Role). is_client q) e)
        (subst (λ (q : Role). (if is_client q then pool_of_client s.fixed.limits else pool_of_server s.fixed.limits p.loaned_responses) ≤ p.pool) e enough)
        (subst (λ ws. length (kept s port []) ≤ own_handles (view s.fixed n) port + length ws * most_out s.fixed.limits Client) ways
        (kept-length s n port (most_out s.fixed.limits Client) at (λ w a. (client-way s.fixed port w (subst (IsAmong w) ways a)).sender)
        (λ w a. subst (λ q. length (outstanding_on s w) ≤ most_out s.fixed.limits q) e (each w a))))
    by_role Server e =
        let ways : ways_from s.fixed port ≡ ways_from_server s.fixed port
        = ap (λ (q : Role). if is_client q then ways_from_client s.fixed port else ways_from_server s.fixed port) (role ∙ e) in
        kept-server s n port p own within fits spare is (ap (λ (q : Role). is_client q) e)
        (subst (λ (q : Role). (if is_client q then pool_of_client s.fixed.limits else pool_of_server s.fixed.limits p.loaned_responses) ≤ p.pool) e enough)
        (subst (λ ws. length (kept s port []) ≤ own_handles (view s.fixed n) port + length ws * most_out s.fixed.limits Server) ways
        (kept-length s n port (most_out s.fixed.limits Server) at (λ w a. (server-way s.fixed port w (subst (IsAmong w) ways a)).sender)
        (λ w a. subst (λ q. length (outstanding_on s w) ≤ most_out s.fixed.limits q) e (each w a))))
