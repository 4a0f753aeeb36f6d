-- What the end of a call of a service leaves: its ports were ports before, and nothing is recorded
-- that was not.
use Rattle.std.specs.Prelude.{◌≡◌, ℕ, ◌+◌, ◌-◌, ◌<◌, ◌≤◌, Bool, true, false, not, ◌||◌, if◌then◌else◌, ◌==◌, List, [], ◌∷◌, map, filter, Option, Some, None}
use Rattle.std.specs.Prelude.{find, refl}
use Rattle.std.specs.Option.{option_map_or}
use Rattle.std.specs.List.{range_with_len}
use Rattle.std.proofs.Common.{sym, subst, ap, ◌∙◌, eqb-true, true≢false}
use Rattle.iox_model.specs.declared.kind.Role.{Role}
use Rattle.iox_model.specs.declared.kind.Role.TheVariants.{Client, Server}
use Rattle.iox_model.specs.declared.way.Way.{Way}
use Rattle.iox_model.specs.Counts.{added, changed, dropped, numbered, lent, called, borrows, gives_up, with_fixed, sent_handle, received_handle, holding}
use Rattle.iox_model.specs.Doings.{Outcome, Tells, Loans, Fills, Sends, FailsToSend, Receives, Drops, DropsPort, Forgets}
use Rattle.iox_model.specs.Ends.{sent_loan, is_nothing, port_dropped, settled}
use Rattle.iox_model.specs.Expiries.{disconnected, is_end, is_last_gone, released}
use Rattle.iox_model.specs.Handles.{is_request_loan, is_received, way_of}
use Rattle.iox_model.specs.Keeping.{serials_of_outcome}
use Rattle.iox_model.specs.Maps.{has_number, put_at, put}
use Rattle.iox_model.specs.Messages.{request_way, response_way}
use Rattle.iox_model.specs.Peers.{role_at, lanes_of, ports_of_role, ways_from_client, lanes_to, ways_from_server, ways_from}
use Rattle.iox_model.specs.Settings.{is_client, same_role}
use Rattle.iox_model.specs.States.{Port, Handle, Fixed, State}
use Rattle.iox_laws.proofs.WeaveLaws.CallLaws.{put_at-else}
use Rattle.iox_laws.proofs.WeaveLaws.MapLemmas.{either}
use Rattle.iox_laws.proofs.WeaveLedger.Orders.{same, at-most}
use Rattle.iox_laws.proofs.WeaveLedger.Truths.{never, none-some, or-false}
use Rattle.iox_laws.proofs.WeaveLedger.HandlesKept.{more-loans}
use Rattle.iox_laws.proofs.WeaveLedger.Lists.{IsAmong, NoRepeats, among-map, map-among, filter-among, among-filter, find-among, any-among, among-any, find-own}
use Rattle.iox_laws.proofs.WeaveLedger.Phases.{HasOwnPorts}
use Rattle.iox_laws.proofs.WeaveLedger.Views.{role_in}
use Rattle.iox_laws.proofs.WeavePools.Holds.{after-lent}
use Rattle.iox_laws.proofs.WeavePools.Kept.{among-flat, of-role}
use Rattle.iox_laws.proofs.WeavePools.Ways.{flat-among}
use Rattle.iox_laws.proofs.RunLaws.Ports.{any_at, any_others, any_stay, any_dropped}
use Rattle.iox_laws.proofs.RunLaws.Rests.{numbered-hub}
use Rattle.iox_laws.proofs.RunPools.Stands.{StandsEnd}

-- ---- ports

-- a port as it was, but for its value
pub record SamePort (p q : Port) : Type 0 where
  pub number : q.number ≡ p.number
  pub node : q.node ≡ p.node
  pub role : q.role ≡ p.role
  pub pool : q.pool ≡ p.pool
  pub loaned : q.loaned_responses ≡ p.loaned_responses

-- the port was there
abbrev pub WasPort : List Port → Port → Type 0
WasPort ps q = (p : Port) × IsAmong p ps × SamePort p q

-- each of the later ports was there
abbrev pub Were : List Port → List Port → Type 0
Were ps qs = (q : Port) → IsAmong q qs → WasPort ps q

pub same_port : (p : Port) → SamePort p p
same_port p = record { number = refl; node = refl; role = refl; pool = refl; loaned = refl }

pub were_same : (ps qs : List Port) → qs ≡ ps → Were ps qs
were_same ps qs e q a = (q, subst (IsAmong q) e a, same_port q)

were_kept : (keep : Port → Bool) (ps : List Port) → Were ps (filter keep ps)
were_kept keep ps q a = (q, (filter-among keep q ps a).0, same_port q)

were_dropped : (k : ℕ) (ps : List Port) → Were ps (map (port_dropped k) ps)
were_dropped k ps q a =
    let r : (p : Port) × IsAmong p ps × (q ≡ port_dropped k p) = map-among (port_dropped k) q ps a in (
      r.0,
      r.1,
      subst (SamePort r.0) (sym r.2)
          (either (SamePort r.0) ((r.0).number == k) (record (r.0) { held = false }) r.0
          (λ u. record { number = refl; node = refl; role = refl; pool = refl; loaned = refl }) (λ u. same_port r.0)),
    )

were_after : (ps qs rs : List Port) → Were ps qs → Were qs rs → Were ps rs
were_after ps qs rs f g r a =
    let q : (q : Port) × IsAmong q qs × SamePort q r = g r a in
    let p : (p : Port) × IsAmong p ps × SamePort p q.0 = f q.0 q.1 in (
      p.0,
      p.1,
      record {
        number = (q.2).number ∙ (p.2).number;
        node = (q.2).node ∙ (p.2).node;
        role = (q.2).role ∙ (p.2).role;
        pool = (q.2).pool ∙ (p.2).pool;
        loaned = (q.2).loaned ∙ (p.2).loaned;
      },
    )

pub were_at : (ps qs : List Port) (k : ℕ) → Were ps qs → any_at k qs ≡ true → any_at k ps ≡ true
were_at ps qs k f e =
    let q : (q : Port) × IsAmong q qs × ((q.number == k) ≡ true) = any-among (λ (p : Port). p.number == k) qs e in
    let p : (p : Port) × IsAmong p ps × SamePort p q.0 = f q.0 q.1 in
    among-any (λ (x : Port). x.number == k) p.0 ps p.1 (subst (λ n. (n == k) ≡ true) (p.2).number q.2)

none_found : (k : ℕ) (ps : List Port) → find (λ p. p.number == k) ps ≡ None → any_at k ps ≡ false
none_found k [] e = refl
none_found k (p ∷ ps) e = by_case (p.number == k) (none_found k ps) e
  where
    by_case : (b : Bool) → (find (λ q. q.number == k) ps ≡ None → any_at k ps ≡ false) → (if b then Some p else find (λ q. q.number == k) ps) ≡ None
        → (b || any_at k ps) ≡ false
    by_case true rest e = absurd (none-some p (sym e))
    by_case false rest e = rest e

-- whom a number names was there
pub was_found : (ps qs : List Port) (k : ℕ) (q : Port) → NoRepeats (map (λ p. p.number) ps) → find (λ p. p.number == k) qs ≡ Some q
    → (IsAmong q qs → WasPort ps q) → (p : Port) × (find (λ x. x.number == k) ps ≡ Some p) × SamePort p q
was_found ps qs k q own e was =
    let f : IsAmong q qs × ((q.number == k) ≡ true) = find-among (λ (p : Port). p.number == k) q qs e in
    let p : (p : Port) × IsAmong p ps × SamePort p q = was f.0 in (
      p.0,
      ap (λ n. find (λ (x : Port). x.number == n) ps) (sym (eqb-true q.number k f.1) ∙ (p.2).number)
          ∙ find-own (λ (x : Port). x.number) ps p.0 own p.1,
      p.2,
    )

-- so it has the role that it had
pub role_was : (ps qs : List Port) (k : ℕ) → NoRepeats (map (λ p. p.number) ps) → Were ps qs → any_at k qs ≡ true → role_in qs k ≡ role_in ps k
role_was ps qs k own were there = by_port (find (λ p. p.number == k) qs) refl
  where
    here : (q : Port) → find (λ p. p.number == k) qs ≡ Some q → (p : Port) × (find (λ x. x.number == k) ps ≡ Some p) × SamePort p q
        → role_in qs k ≡ role_in ps k
    here q e p =
        ap (λ (o : Option Port). option_map_or (λ x. x.role) o Client) e ∙ (p.2).role
        ∙ sym (ap (λ (o : Option Port). option_map_or (λ x. x.role) o Client) p.1)

    by_port : (o : Option Port) → find (λ p. p.number == k) qs ≡ o → role_in qs k ≡ role_in ps k
    by_port None e = never (any_at k qs) there (none_found k qs e)
    by_port (Some q) e = here q e (was_found ps qs k q own e (were q))

-- ---- ways

-- where the port that a way goes to was there, and its sender was of its role, the way was one
pub was_way : (f g : Fixed) (k : ℕ) (y : Way) → HasOwnPorts f → HasOwnPorts g → role_at g k ≡ role_at f k
    → ((q : Port) → IsAmong q g.ports → q.number ≡ y.receiver → WasPort f.ports q) → IsAmong y (ways_from g k) → IsAmong y (ways_from f k)
was_way f g k y own own' role was a =
    subst (λ r. IsAmong y (if is_client r then ways_from_client f k else ways_from_server f k)) role (by_role (is_client (role_at g k)) a)
  where
    other : (r : ℕ) (role : Role) → IsAmong r (ports_of_role g role) → r ≡ y.receiver → IsAmong r (ports_of_role f role) × (lanes_of g r ≡ lanes_of f r)
    other r role b to =
        let q : (q : Port) × IsAmong q g.ports × (r ≡ q.number) × (same_role q.role role ≡ true) = of-role g r role b in
        let p : (p : Port) × IsAmong p f.ports × SamePort p q.0 = was q.0 q.1 (sym q.2 ∙ to) in (
          subst (λ n. IsAmong n (ports_of_role f role)) (sym (q.2 ∙ (p.2).number))
              (among-map (λ (x : Port). x.number) p.0 (filter (λ x. same_role x.role role) f.ports)
              (among-filter (λ x. same_role x.role role) p.0 f.ports p.1 (subst (λ z. same_role z role ≡ true) (p.2).role q.3))),
          ap (lanes_of g) q.2 ∙ ap (λ (o : Option Port). option_map_or (λ x. x.pool) o 0) (find-own (λ (p : Port). p.number) g.ports q.0 own' q.1) ∙ (p.2).pool
              ∙ sym (ap (lanes_of f) (q.2 ∙ (p.2).number)
              ∙ ap (λ (o : Option Port). option_map_or (λ x. x.pool) o 0) (find-own (λ (p : Port). p.number) f.ports p.0 own p.1)),
        )

    by_role : (b : Bool) → IsAmong y (if b then ways_from_client g k else ways_from_server g k)
        → IsAmong y (if b then ways_from_client f k else ways_from_server f k)
    by_role true a =
        let r : (r : ℕ) × IsAmong r (ports_of_role g Server) × (y ≡ request_way k r) = map-among (request_way k) y (ports_of_role g Server) a in
        subst (λ u. IsAmong u (ways_from_client f k)) (sym r.2)
        (among-map (request_way k) r.0 (ports_of_role f Server) (other r.0 Server r.1 (sym (ap (λ (u : Way). u.receiver) r.2))).0)
    by_role false a =
        let r : (r : ℕ) × IsAmong r (ports_of_role g Client) × IsAmong y (lanes_to g k r) = among-flat (lanes_to g k) y (ports_of_role g Client) a in
        let l : (lane : ℕ) × IsAmong lane (range_with_len 0 (lanes_of g r.0)) × (y ≡ response_way r.0 lane k)
        = map-among (λ lane. response_way r.0 lane k) y (range_with_len 0 (lanes_of g r.0)) r.2 in
        let o : IsAmong r.0 (ports_of_role f Client) × (lanes_of g r.0 ≡ lanes_of f r.0) = other r.0 Client r.1 (sym (ap (λ (u : Way). u.receiver) l.2)) in
        flat-among (lanes_to f k) y r.0 (ports_of_role f Client) o.0
        (subst (λ n. IsAmong y (map (λ lane. response_way r.0 lane k) (range_with_len 0 n))) o.1 r.2)

-- ---- what is left

pub record Leaves (s t : State) : Type 0 where
  pub ports : Were s.fixed.ports t.fixed.ports
  pub limits : t.fixed.limits ≡ s.fixed.limits
  pub forgot : (n : ℕ) → t.fixed.forgot n ≡ s.fixed.forgot n
  pub delivered : (y : Way) (k : ℕ) → t.delivered y k ≡ true → s.delivered y k ≡ true
  -- the ends of what is recorded still stay
  pub from : (y : Way) (k : ℕ) → t.delivered y k ≡ true → any_at y.sender s.fixed.ports ≡ true → any_at y.sender t.fixed.ports ≡ true
  pub to : (y : Way) (k : ℕ) → t.delivered y k ≡ true → any_at y.receiver s.fixed.ports ≡ true → any_at y.receiver t.fixed.ports ≡ true
  pub loans : (q : ℕ) → any_at q t.fixed.ports ≡ true → s.fixed.loans q ≤ t.fixed.loans q

leaves_after : (s t u : State) → Leaves s t → Leaves t u → Leaves s u
leaves_after s t u a b = record {
  ports = were_after s.fixed.ports t.fixed.ports u.fixed.ports a.ports b.ports;
  limits = b.limits ∙ a.limits;
  forgot = λ n. b.forgot n ∙ a.forgot n;
  delivered = λ y k e. a.delivered y k (b.delivered y k e);
  from = λ y k e there. b.from y k e (a.from y k (b.delivered y k e) there);
  to = λ y k e there. b.to y k e (a.to y k (b.delivered y k e) there);
  loans = λ q there. at-most (s.fixed.loans q) (t.fixed.loans q) (u.fixed.loans q) (a.loans q (were_at t.fixed.ports u.fixed.ports q b.ports there))
      (b.loans q there);
}

-- only handles and counts changed
leaves_fixed : (s : State) (f : Fixed) → f.ports ≡ s.fixed.ports → f.limits ≡ s.fixed.limits → f.forgot ≡ s.fixed.forgot
    → ((q : ℕ) → s.fixed.loans q ≤ f.loans q)
    → Leaves s (with_fixed s f)
leaves_fixed s f ports limits forgot loans = record {
  ports = were_same s.fixed.ports f.ports ports;
  limits = limits;
  forgot = λ n. ap (λ (g : ℕ → List ℕ). g n) forgot;
  delivered = λ y k e. e;
  from = λ y k e there. ap (any_at y.sender) ports ∙ there;
  to = λ y k e there. ap (any_at y.receiver) ports ∙ there;
  loans = λ q there. loans q;
}

leaves_same : (s : State) → Leaves s s
leaves_same s = leaves_fixed s s.fixed refl refl refl (λ q. same (s.fixed.loans q))

leaves_value : (s : State) (port : ℕ) → Leaves s (with_fixed s (record (s.fixed) { ports = map (port_dropped port) s.fixed.ports }))
leaves_value s port = record {
  ports = were_dropped port s.fixed.ports;
  limits = refl;
  forgot = λ n. refl;
  delivered = λ y k e. e;
  from = λ y k e there. any_dropped port y.sender s.fixed.ports ∙ there;
  to = λ y k e there. any_dropped port y.receiver s.fixed.ports ∙ there;
  loans = λ q there. same (s.fixed.loans q);
}

-- what may be true only where another is not
pub unless : (b c : Bool) → (if b then false else c) ≡ true → (b ≡ false) × (c ≡ true)
unless true c e = absurd (true≢false (sym e))
unless false c e = (refl, e)

leaves_gone : (s : State) (gone : ℕ) → Leaves s (disconnected s gone)
leaves_gone s gone = record {
  ports = were_kept (λ p. not (p.number == gone)) s.fixed.ports;
  limits = refl;
  forgot = λ n. refl;
  delivered = λ y k e. (unless (is_end gone y) (s.delivered y k) e).1;
  from = λ y k e there. any_stay gone y.sender s.fixed.ports
      (or-false (y.sender == gone) (y.receiver == gone) (unless (is_end gone y) (s.delivered y k) e).0).0 there;
  to = λ y k e there. any_stay gone y.receiver s.fixed.ports
      (or-false (y.sender == gone) (y.receiver == gone) (unless (is_end gone y) (s.delivered y k) e).0).1 there;
  loans = λ q there. subst (λ n. s.fixed.loans q ≤ n) (sym (put_at-else s.fixed.loans gone 0 q (any_others gone q s.fixed.ports there).1))
      (same (s.fixed.loans q));
}

leaves_released : (s : State) (port : ℕ) → Leaves s (released s port)
leaves_released s port =
    either (Leaves s) (is_last_gone s.fixed port) (disconnected s port) s (λ u. leaves_gone s port) (λ u. leaves_same s)

-- ---- the end of a call

lent_more : (s : State) (port q : ℕ) → s.fixed.loans q ≤ put_at s.fixed.loans port (s.fixed.loans port + 1) q
lent_more s port q = more-loans s.fixed.loans port q

released_after : (s : State) (f : Fixed) (port : ℕ) → Leaves s (with_fixed s f) → Leaves s (released (with_fixed s f) port)
released_after s f port p = leaves_after s (with_fixed s f) (released (with_fixed s f) port) p (leaves_released (with_fixed s f) port)

drops_leave : (s : State) (h : Handle) → Leaves s (with_fixed s (gives_up (dropped s.fixed h) h))
drops_leave s h =
    either (λ (f : Fixed). Leaves s (with_fixed s f)) (is_received h.kind)
    (record (dropped s.fixed h) { borrowed = put (dropped s.fixed h).borrowed (way_of h) ((dropped s.fixed h).borrowed (way_of h) - 1) }) (dropped s.fixed h)
    (λ u. leaves_fixed s (record (dropped s.fixed h) {
      borrowed = put (dropped s.fixed h).borrowed (way_of h)
          ((dropped s.fixed h).borrowed (way_of h) - 1);
    }) refl refl refl
    (λ q. same (s.fixed.loans q)))
    (λ u. leaves_fixed s (dropped s.fixed h) refl refl refl (λ q. same (s.fixed.loans q)))

pub settled_leaves : (s : State) (n : ℕ) (payload : List ℕ) (o : Outcome) → s.fixed.on_wire ≡ false → StandsEnd s.fixed n o → Leaves s (settled s n payload o)
settled_leaves s n payload (Tells reply) hub p =
    either (Leaves s) (is_nothing reply) (with_fixed s (called s.fixed)) s
    (λ u. leaves_fixed s (called s.fixed) refl refl refl (λ q. same (s.fixed.loans q))) (λ u. leaves_same s)
settled_leaves s n payload (Loans h) hub p =
    subst (λ (g : Fixed). Leaves s (with_fixed s (called (lent (added g (holding h payload)) h.port)))) (sym (numbered-hub s.fixed n hub))
    (leaves_fixed s (called (lent (added (record (s.fixed) { next_number = s.fixed.next_number + 1 }) (holding h payload)) h.port)) refl refl refl
    (lent_more s h.port))
settled_leaves s n payload (Fills h) hub p = leaves_fixed s (changed s.fixed h) refl refl refl (λ q. same (s.fixed.loans q))
settled_leaves s n payload (Sends h true count) hub p =
    either (λ (f : Fixed). Leaves s (with_fixed s (called (called (lent f h.port))))) (is_request_loan h.kind)
    (added (numbered s.fixed h.node) (sent_handle h count)) s.fixed
    (λ u. subst (λ (g : Fixed). Leaves s (with_fixed s (called (called (lent (added g (sent_handle h count)) h.port))))) (sym (numbered-hub s.fixed h.node hub))
    (leaves_fixed s (called (called (lent (added (record (s.fixed) { next_number = s.fixed.next_number + 1 })
    (sent_handle h count)) h.port))) refl refl refl (lent_more s h.port)))
    (λ u. leaves_fixed s (called (called (lent s.fixed h.port))) refl refl refl (lent_more s h.port))
settled_leaves s n payload (Sends h false count) hub p =
    leaves_after s (sent_loan s h count) (with_fixed (sent_loan s h count) (called (sent_loan s h count).fixed))
    (either (Leaves s) (is_request_loan h.kind) (with_fixed s (changed s.fixed (sent_handle h count))) (released (with_fixed s (dropped s.fixed h)) h.port)
    (λ u. leaves_fixed s (changed s.fixed (sent_handle h count)) refl refl refl (λ q. same (s.fixed.loans q)))
    (λ u. released_after s (dropped s.fixed h) h.port (leaves_fixed s (dropped s.fixed h) refl refl refl (λ q. same (s.fixed.loans q)))))
    (leaves_fixed (sent_loan s h count) (called (sent_loan s h count).fixed) refl refl refl (λ q. same ((sent_loan s h count).fixed.loans q)))
settled_leaves s n payload (FailsToSend h true refusal) hub p = leaves_fixed s (called (lent s.fixed h.port)) refl refl refl (lent_more s h.port)
settled_leaves s n payload (FailsToSend h false refusal) hub p =
    released_after s (dropped s.fixed h) h.port (leaves_fixed s (dropped s.fixed h) refl refl refl (λ q. same (s.fixed.loans q)))
settled_leaves s n payload (Receives x w m) hub p =
    subst (λ (g : Fixed). Leaves s (with_fixed s (called (borrows (added g (received_handle s.fixed n x m)) w)))) (sym (numbered-hub s.fixed n hub))
    (leaves_fixed s (called (borrows (added (record (s.fixed) { next_number = s.fixed.next_number + 1 }) (received_handle s.fixed n x m)) w)) refl refl refl
    (λ q. same (s.fixed.loans q)))
settled_leaves s n payload (Drops h) hub p = released_after s (gives_up (dropped s.fixed h) h) h.port (drops_leave s h)
settled_leaves s n payload (DropsPort port) hub p =
    released_after s (record (s.fixed) { ports = map (port_dropped port) s.fixed.ports }) port (leaves_value s port)
settled_leaves s n payload (Forgets dead) hub p = absurd p

-- the message that the call held is one of those loaned now
pub settled_more : (s : State) (n : ℕ) (payload : List ℕ) (o : Outcome) (q k : ℕ) → s.fixed.on_wire ≡ false → has_number k (serials_of_outcome q o) ≡ true
    → s.fixed.loans q < (settled s n payload o).fixed.loans q
settled_more s n payload (Loans h) q k hub e =
    subst (λ (g : Fixed). s.fixed.loans q < (lent g h.port).loans q) (sym (numbered-hub s.fixed n hub)) (after-lent s.fixed.loans h q k e)
settled_more s n payload (Sends h true count) q k hub e =
    either (λ (f : Fixed). s.fixed.loans q < (lent f h.port).loans q) (is_request_loan h.kind) (added (numbered s.fixed h.node) (sent_handle h count)) s.fixed
    (λ u. subst (λ (g : Fixed). s.fixed.loans q < (lent g h.port).loans q) (sym (numbered-hub s.fixed h.node hub)) (after-lent s.fixed.loans h q k e))
    (λ u. after-lent s.fixed.loans h q k e)
settled_more s n payload (FailsToSend h true refusal) q k hub e = after-lent s.fixed.loans h q k e
settled_more s n payload (Sends h false count) q k hub e = absurd (true≢false (sym e))
settled_more s n payload (FailsToSend h false refusal) q k hub e = absurd (true≢false (sym e))
settled_more s n payload o q k hub e = absurd (true≢false (sym e))
