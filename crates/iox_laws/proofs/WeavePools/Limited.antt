-- A run of a service keeps to its limits: how many ports there are of a role, and how many lanes a
-- client has.
use Rattle.std.specs.Prelude.{◌≡◌, ℕ, ◌+◌, ◌*◌, ◌<◌, ◌≤◌, Bool, true, false, ◌==◌, List, [], ◌∷◌, ◌++◌, length, map, filter, Option, Some, None, min, max, refl}
use Rattle.std.specs.Option.{option_map_or}
use Rattle.std.proofs.lemmas.List.{length-map}
use Rattle.std.proofs.Common.{sym, subst, ap, ◌∙◌, arith, true≢false, inl, inr}
use Rattle.iox_model.specs.UniqueSystemId.{UniqueSystemId}
use Rattle.iox_model.specs.declared.kind.Role.{Role}
use Rattle.iox_model.specs.declared.kind.Role.TheVariants.{Client, Server}
use Rattle.iox_model.specs.Doings.{Outcome}
use Rattle.iox_model.specs.States.{Port, Fixed, State}
use Rattle.iox_model.specs.Settings.{is_client, same_role, Limits}
use Rattle.iox_model.specs.Maps.{refused_if}
use Rattle.iox_model.specs.Ends.{port_dropped, settled}
use Rattle.iox_model.specs.Makings.{pool_of_client, most_ports, chosen_pool, making_refusal, new_port}
use Rattle.iox_model.specs.Runs.{raised}
use Rattle.iox_model.specs.Commands.{Refusal, Options}
use Rattle.iox_model.specs.Peers.{ports_of_role}
use Rattle.iox_laws.proofs.WeaveLaws.MapLemmas.{either}
use Rattle.iox_laws.proofs.WeaveLaws.WholeLemmas.{or_else-none}
use Rattle.iox_model.specs.Runs.{IsReachableState}
use Rattle.iox_laws.proofs.WeaveLedger.Orders.{less, at-most}
use Rattle.iox_laws.proofs.WeaveLedger.Counts.{count-filter, count, one_if, count-cons, count-last}
use Rattle.iox_laws.proofs.WeaveLedger.Truths.{none-some}
use Rattle.iox_laws.proofs.WeaveLedger.Lists.{IsAmong, among-last, filter-among}
use Rattle.iox_laws.proofs.WeaveWorlds.PortsKept.{IsSteady, settled_says, is_kept}
use Rattle.iox_laws.proofs.WeaveWorlds.Inductions.{reached_keeps}

-- no more ports of a role than the limit, and no client with more lanes than it ever needs
pub record Within (l : Limits) (ports : List Port) : Type 0 where
  pub most : (role : Role) → count (λ p. same_role p.role role) ports ≤ most_ports l role
  pub lanes : (p : Port) → IsAmong p ports → is_client p.role ≡ true → p.pool ≤ pool_of_client l
  pub some : 1 ≤ pool_of_client l

abbrev pub IsWithin : Fixed → Type 0
IsWithin f = Within f.limits f.ports

-- ---- ports that go, and whose values are released

within-filter : (l : Limits) (ports : List Port) (keep : Port → Bool) → Within l ports → Within l (filter keep ports)
within-filter l ports keep p = record {
  most = λ role. at-most _ _ _ (count-filter (λ q. same_role q.role role) keep ports) (p.most role);
  lanes = λ q a. p.lanes q (filter-among keep q ports a).0;
  some = p.some;
}

dropped-role : (port : ℕ) (p : Port) → (port_dropped port p).role ≡ p.role
dropped-role port p = either (λ (q : Port). q.role ≡ p.role) (p.number == port) (record p { held = false }) p (λ u. refl) (λ u. refl)

dropped-pool : (port : ℕ) (p : Port) → (port_dropped port p).pool ≡ p.pool
dropped-pool port p = either (λ (q : Port). q.pool ≡ p.pool) (p.number == port) (record p { held = false }) p (λ u. refl) (λ u. refl)

count-dropped : (port : ℕ) (role : Role) (ports : List Port)
    → count (λ p. same_role p.role role) (map (port_dropped port) ports) ≡ count (λ p. same_role p.role role) ports
count-dropped port role [] = refl
count-dropped port role (p ∷ ps) =
    count-cons (λ q. same_role q.role role) (port_dropped port p) (map (port_dropped port) ps)
    ∙ ap (λ r. one_if (same_role r role) + count (λ q. same_role q.role role) (map (port_dropped port) ps)) (dropped-role port p)
    ∙ ap (λ n. one_if (same_role p.role role) + n) (count-dropped port role ps)
    ∙ sym (count-cons (λ q. same_role q.role role) p ps)

lanes-dropped : (port most : ℕ) (ports : List Port) → ((p : Port) → IsAmong p ports → is_client p.role ≡ true → p.pool ≤ most)
    → (p : Port) → IsAmong p (map (port_dropped port) ports) → is_client p.role ≡ true → p.pool ≤ most
lanes-dropped port most [] each p a e = absurd a
lanes-dropped port most (q ∷ qs) each p (inl is) e =
    subst (λ n. n ≤ most) (sym (ap (λ (x : Port). x.pool) is ∙ dropped-pool port q))
    (each q (inl refl) (ap (λ (r : Role). is_client r) (sym (ap (λ (x : Port). x.role) is ∙ dropped-role port q)) ∙ e))
lanes-dropped port most (q ∷ qs) each p (inr a) e = lanes-dropped port most qs (λ x b. each x (inr b)) p a e

within-dropped : (l : Limits) (ports : List Port) (port : ℕ) → Within l ports → Within l (map (port_dropped port) ports)
within-dropped l ports port p = record {
  most = λ role. subst (λ n. n ≤ most_ports l role) (sym (count-dropped port role ports)) (p.most role);
  lanes = lanes-dropped port (pool_of_client l) ports p.lanes;
  some = p.some;
}

-- ---- a port that is made

pub role-count : (f : Fixed) (role : Role) → length (ports_of_role f role) ≡ count (λ p. same_role p.role role) f.ports
role-count f role = length-map (filter (λ p. same_role p.role role) f.ports) (λ p. p.number)

pub room-for : (f : Fixed) (role : Role) (o : Options) (memory : Bool) → making_refusal f role o memory ≡ None
    → count (λ p. same_role p.role role) f.ports < most_ports f.limits role
room-for f role o memory e = subst (λ n. n < most_ports f.limits role) (role-count f role) (less _ _ (free _ _ (or_else-none _ _ (or_else-none _ _ e).1).1))
  where
    free : (b : Bool) (r : Refusal) → refused_if b r ≡ None → b ≡ false
    free true r e = absurd (none-some r (sym e))
    free false r e = refl

pub within-made : (f : Fixed) (node : ℕ) (role : Role) (id : UniqueSystemId) (o : Options)
    → count (λ p. same_role p.role role) f.ports < most_ports f.limits role
    → IsWithin f → Within f.limits (f.ports ++ new_port f node role id o ∷ [])
within-made f node role id o room p = record {
  most = λ other. subst (λ n. n ≤ most_ports f.limits other) (sym (count-last (λ q. same_role q.role other) f.ports (new_port f node role id o)))
      (more role other room (p.most other));
  lanes = λ q a c. elim (among-last q (new_port f node role id o) f.ports a) as (λ u. q.pool ≤ pool_of_client f.limits) [
    | inl b ↦ p.lanes q b c
    | inr is ↦ subst (λ n. n ≤ pool_of_client f.limits) (sym (ap (λ (x : Port). x.pool) is)) (of_client role (ap (λ (x : Port). is_client x.role) (sym is) ∙ c))
  ];
  some = p.some;
}
  where
    next : (a b : ℕ) → a < b → a + 1 ≤ b
    next a b p = omega arith

    same : (a b : ℕ) → a ≤ b → a + 0 ≤ b
    same a b p = omega arith

    more : (role other : Role) → count (λ q. same_role q.role role) f.ports < most_ports f.limits role
        → count (λ q. same_role q.role other) f.ports ≤ most_ports f.limits other
        → count (λ q. same_role q.role other) f.ports + one_if (same_role role other) ≤ most_ports f.limits other
    more Client Client r q = next _ _ r
    more Client Server r q = same _ _ q
    more Server Client r q = same _ _ q
    more Server Server r q = next _ _ r

    clamped : (n most : ℕ) → 1 ≤ most → max 1 (min n most) ≤ most
    clamped n most e = omega arith

    chosen : (most : ℕ) → 1 ≤ most → (pool : Option ℕ) → option_map_or (λ n. max 1 (min n most)) pool most ≤ most
    chosen most e None = omega arith
    chosen most e (Some n) = clamped n most e

    of_client : (role : Role) → is_client role ≡ true → chosen_pool f.limits role o ≤ pool_of_client f.limits
    of_client Client e = chosen (pool_of_client f.limits) p.some o.pool
    of_client Server e = absurd (true≢false (sym e))

-- ---- steps that keep it

steady : IsSteady (λ l ps n. Within l ps)
steady = record {
  numbers = λ l ps n p. p;
  filters = λ l ps n keep p. within-filter l ps keep p;
  drops = λ l ps n port p. within-dropped l ps port p;
}

pub settled_keeps : (s : State) (node : ℕ) (payload : List ℕ) (o : Outcome) → IsWithin s.fixed → IsWithin (settled s node payload o).fixed
settled_keeps = settled_says (λ l ps n. Within l ps) steady

pub created-within : (l : Limits) → Within (raised l) []
created-within l = record {
  most = λ role. omega arith;
  lanes = λ p a. absurd a;
  some = one (max 1 l.loaned_requests) (max 1 l.active_requests) (2 * max 1 l.servers * max 1 l.active_requests) (first l.loaned_requests);
}
  where
    first : (n : ℕ) → 1 ≤ max 1 n
    first n = omega arith

    one : (a b c : ℕ) → 1 ≤ a → 1 ≤ a + b + c
    one a b c e = omega arith

-- What a service and its hub come to keeps to its limits.
pub reached_within : (s : State) → IsReachableState s → IsWithin s.fixed
reached_within =
    reached_keeps (λ t. IsWithin t.fixed)
    (is_kept (λ l ps n. Within l ps) steady
    (λ f node role id o memory allowed. within-made f node role id o (room-for f role o memory allowed)))
    (λ l acts id. created-within l)
