-- Listings are exact.
use Rattle.std.specs.Prelude.{◌≡◌, ℕ, ◌+◌, Bool, true, false, not, ◌&&◌, ◌||◌, if◌then◌else◌, ◌==◌, List, [], ◌∷◌, ◌++◌, map, filter, Some, find, is_some, refl}
use Rattle.std.specs.List.{list_any}
use Rattle.std.proofs.Common.{sym, subst, ap, ◌∙◌, inl, inr}
use Rattle.iox_model.specs.declared.kind.Role.{Role}
use Rattle.iox_model.specs.declared.kind.Role.TheVariants.{Client, Server}
use Rattle.iox_model.specs.declared.reply.Reply.TheVariants.{Listed}
use Rattle.iox_model.specs.Commands.{Reply, Call}
use Rattle.iox_model.specs.Joins.{new_node}
use Rattle.iox_model.specs.Makings.{new_port}
use Rattle.iox_model.specs.Maps.{has_number}
use Rattle.iox_model.specs.Peers.{ports_of_role}
use Rattle.iox_model.specs.Runs.{IsReachableState}
use Rattle.iox_model.specs.Services.{dies}
use Rattle.iox_model.specs.Settings.{same_role}
use Rattle.iox_model.specs.States.{Node, Members, Port, State}
use Rattle.iox_model.specs.WholeCalls.{moved_by, IsDone}
use Rattle.iox_model.specs.Moments.{moved, Moment}
use Rattle.iox_laws.proofs.WeaveLaws.DeathLaws.{settled-members}
use Rattle.iox_laws.proofs.WeaveLaws.MapLemmas.{either}
use Rattle.iox_laws.proofs.WeaveLaws.WholeLemmas.{moved-members}
use Rattle.iox_laws.proofs.WeaveLedger.Truths.{and-first}
use Rattle.iox_laws.proofs.WeaveWorlds.Inductions.{IsOfNodes, IsKept, reached_keeps}
use Rattle.iox_laws.proofs.WeaveWorlds.PortsKept.{OfPorts, IsSteady, is_kept}
use Rattle.iox_laws.proofs.WeaveWorlds.ReachedPorts.{same_numbers}
use Rattle.iox_laws.specs.ServiceLaws.Listings.{are_ascending, is_port_of_role, NodesAreListed, ClientsAreListed, ServersAreListed}
use Rattle.iox_laws.proofs.ServiceLaws.Ascending.{Counted, counted_filter, counted_more, counted_last, ascends_filter}

map_last : {A : Type 0} (f : A → ℕ) (xs : List A) (x : A) → map f (xs ++ x ∷ []) ≡ map f xs ++ f x ∷ []
map_last f [] x = refl
map_last f (y ∷ ys) x = ap (λ ns. f y ∷ ns) (map_last f ys x)

-- ---- nodes are counted

pub moved_by-members : (s : State) (ms : List Moment) → (moved_by s ms).members ≡ s.members
moved_by-members s [] = refl
moved_by-members s (m ∷ ms) = moved_by-members (moved s m) ms ∙ moved-members s m

pub done_members : (s : State) (node : ℕ) (call : Call) (reply : Reply) (t : State) → IsDone s node call reply t → t.members ≡ s.members
done_members s node call reply t done =
    ap (λ (u : State). u.members) done.9 ∙ settled-members (moved_by s done.2) node done.6 done.4 ∙ moved_by-members s done.2

abbrev AreCounted : Members → Type 0
AreCounted x = Counted x.joins (map (λ m. m.number) x.nodes)

dead_numbers : (node : ℕ) (ms : List Node) → map (λ m. m.number) (map (dies node) ms) ≡ map (λ m. m.number) ms
dead_numbers node [] = refl
dead_numbers node (m ∷ ms) =
    either (λ (x : Node). x.number ∷ map (λ y. y.number) (map (dies node) ms) ≡ m.number ∷ map (λ y. y.number) ms) (m.number == node)
    (record m { alive = false }) m (λ u. ap (λ ns. m.number ∷ ns) (dead_numbers node ms)) (λ u. ap (λ ns. m.number ∷ ns) (dead_numbers node ms))

nodes_counted : (s : State) (x : Members) → IsOfNodes s x → AreCounted s.members → AreCounted x
nodes_counted s x (inl joins) p =
    subst AreCounted (sym joins.1)
    (subst (Counted (s.members.joins + 1)) (sym (map_last (λ (m : Node). m.number) s.members.nodes (new_node s.members.joins joins.0)))
    (counted_last s.members.joins (map (λ m. m.number) s.members.nodes) p))
nodes_counted s x (inr (inl leaves)) p =
    subst AreCounted (sym leaves.1) (counted_filter (λ (m : Node). m.number) (λ m. not (m.number == leaves.0)) s.members.joins s.members.nodes p)
nodes_counted s x (inr (inr died)) p =
    subst AreCounted (sym died.1) (subst (Counted s.members.joins) (sym (dead_numbers died.0 s.members.nodes)) p)

counted_kept : IsKept (λ s. AreCounted s.members)
counted_kept = record {
  nodes = nodes_counted;
  makes = λ s node role id o memory allowed p. p;
  calls = λ s node call reply t named done p. subst AreCounted (sym (done_members s node call reply t done)) p;
  fills = λ s node number h x there may p. p;
}

pub nodes_ascend : (s : State) → IsReachableState s → are_ascending (map (λ m. m.number) s.members.nodes) ≡ true
nodes_ascend s left = (reached_keeps (λ t. AreCounted t.members) counted_kept (λ l acts id. (refl, refl)) s left).0

has-find : (n : ℕ) (ms : List Node) → has_number n (map (λ m. m.number) ms) ≡ is_some (find (λ m. m.number == n) ms)
has-find n [] = refl
has-find n (m ∷ ms) = by_case (m.number == n) (has-find n ms)
  where
    by_case : (b : Bool) → has_number n (map (λ m. m.number) ms) ≡ is_some (find (λ m. m.number == n) ms)
        → (b || has_number n (map (λ m. m.number) ms)) ≡ is_some (if b then Some m else find (λ m. m.number == n) ms)
    by_case true e = refl
    by_case false e = e

pub nodes_are_listed : NodesAreListed
nodes_are_listed s t reply left c =
    (map (λ m. m.number) s.members.nodes, c.0, nodes_ascend s left, (λ n. has-find n s.members.nodes), c.1)

-- ---- ports are counted

abbrev PortsCount : OfPorts
PortsCount l ps next = Counted next (map (λ p. p.number) ps)

steady : IsSteady PortsCount
steady = record {
  numbers = λ l ps n p. counted_more n (map (λ q. q.number) ps) p;
  filters = λ l ps n keep p. counted_filter (λ (q : Port). q.number) keep n ps p;
  drops = λ l ps n port p. subst (Counted n) (sym (same_numbers port ps)) p;
}

pub ports_ascend : (s : State) → IsReachableState s → are_ascending (map (λ p. p.number) s.fixed.ports) ≡ true
ports_ascend s left =
    (reached_keeps (λ t. Counted t.fixed.next_number (map (λ (p : Port). p.number) t.fixed.ports))
    (is_kept PortsCount steady (λ f node role id o memory allowed p.
    subst (Counted (f.next_number + 1)) (sym (map_last (λ (q : Port). q.number) f.ports (new_port f node role id o)))
    (counted_last f.next_number (map (λ q. q.number) f.ports) p)))
    (λ l acts id. (refl, refl)) s left).0

role_among : (role : Role) (n : ℕ) (ps : List Port)
    → has_number n (map (λ p. p.number) (filter (λ p. same_role p.role role) ps)) ≡ list_any (λ p. (p.number == n) && same_role p.role role) ps
role_among role n [] = refl
role_among role n (p ∷ ps) =
    either (λ (qs : List Port). has_number n (map (λ q. q.number) qs) ≡ list_any (λ q. (q.number == n) && same_role q.role role) (p ∷ ps))
    (same_role p.role role)
    (p ∷ filter (λ q. same_role q.role role) ps) (filter (λ q. same_role q.role role) ps)
    (λ is. ap (λ b. (p.number == n) || b) (role_among role n ps)
    ∙ ap (λ b. b || list_any (λ q. (q.number == n) && same_role q.role role) ps) (sym (ap (λ b. (p.number == n) && b) is ∙ and-first (p.number == n))))
    (λ other. role_among role n ps
    ∙ ap (λ b. b || list_any (λ q. (q.number == n) && same_role q.role role) ps) (sym (ap (λ b. (p.number == n) && b) other ∙ and_none (p.number == n))))
  where
    and_none : (b : Bool) → (b && false) ≡ false
    and_none true = refl
    and_none false = refl

ports_listed : (s t : State) (role : Role) (reply : Reply) → IsReachableState s → (reply ≡ Listed (ports_of_role s.fixed role)) × (t ≡ s)
    → (ns : List ℕ) × (reply ≡ Listed ns) × (are_ascending ns ≡ true) × ((n : ℕ) → has_number n ns ≡ is_port_of_role s.fixed role n) × (t ≡ s)
ports_listed s t role reply left c = (
  ports_of_role s.fixed role,
  c.0,
  ascends_filter (λ (p : Port). p.number) (λ p. same_role p.role role) s.fixed.ports (ports_ascend s left),
  (λ n. role_among role n s.fixed.ports),
  c.1,
)

pub clients_are_listed : ClientsAreListed
clients_are_listed s t reply left c = ports_listed s t Client reply left c

pub servers_are_listed : ServersAreListed
servers_are_listed s t reply left c = ports_listed s t Server reply left c
