-- A closed service has nothing.
use Rattle.std.specs.Prelude.{◌≡◌, ℕ, Bool, true, false, not, ◌||◌, ◌==◌, List, [], ◌∷◌, ◌++◌, map, filter, Option, Some, None, find, is_some, refl}
use Rattle.std.specs.Option.{option_map_or}
use Rattle.std.proofs.Common.{sym, subst, ap, ◌∙◌, true≢false, eqb-true, eq-eqb, inl, inr}
use Rattle.iox_model.specs.UniqueSystemId.{UniqueSystemId}
use Rattle.iox_model.specs.declared.call.Call.TheVariants.{Release}
use Rattle.iox_model.specs.declared.command.Command.TheVariants as commands
use Rattle.iox_model.specs.declared.command.Command.TheVariants.{Leave, DeclareDead, Cleanup, ListNodes, ListClients, ListServers}
use Rattle.iox_model.specs.declared.reply.Refusal.TheVariants.{NodeIsDead, UnknownNode, MarkedForDestruction, HasPorts}
use Rattle.iox_model.specs.declared.reply.Reply.TheVariants.{Done}
use Rattle.iox_model.specs.Commands.{Refusal, Reply, Call, HubCommand, Create, Use, Command, asking}
use Rattle.iox_model.specs.Ends.{port_dropped}
use Rattle.iox_model.specs.Joins.{not_living, not_dead, node_at, opening_refusal, with_members, joined, new_node}
use Rattle.iox_model.specs.Makings.{making_refusal, new_port, IsHubCommand}
use Rattle.iox_model.specs.Maps.{is_empty, refused_if}
use Rattle.iox_model.specs.Runs.{created, ServiceStep, OfService, OfHub, OfLoan, OfValue, IsOfMember, IsServiceStep, IsMembersHistory, IsServed}
use Rattle.iox_model.specs.Services.{without_node, with_death, dies, leaving_refusal, numbers_of_node, with_own_id, Releases, IsCommand}
use Rattle.iox_model.specs.States.{Node, Members, Port, Fixed, State}
use Rattle.iox_model.specs.Values.{still_has, IsReleaseWhere}
use Rattle.iox_model.specs.WholeCalls.{moved_by, IsDone, IsWholeCall}
use Rattle.iox_laws.proofs.WeaveLaws.MapLemmas.{either}
use Rattle.iox_laws.proofs.WeaveLaws.WholeLemmas.{moved_by-fixed, or_else-none}
use Rattle.iox_laws.proofs.WeaveLedger.Lists.{IsAmong, among-filter, among-front, among-last, among-map, filter-among, find-among, map-among}
use Rattle.iox_laws.proofs.WeaveLedger.Truths.{by_cases, none-some, passed, not-false}
use Rattle.iox_laws.proofs.WeaveWorlds.Inductions.{unless_keeps, unless_done, step_keeps, releases_keep, served_is_reachable}
use Rattle.iox_laws.proofs.WeaveWorlds.PortsKept.{OfPorts, IsSteady, settled_says}
use Rattle.iox_laws.proofs.RunLaws.Ports.{any_at}
use Rattle.iox_laws.proofs.RunLaws.Runs.{created_calm}
use Rattle.iox_laws.proofs.RunLaws.Settling.{Calm}
use Rattle.iox_laws.specs.ServiceLaws.Closing.{ClosedWithTheLastNode, ClosedServicesAreBare, PortsAreOfNodes}
use Rattle.iox_laws.proofs.ServiceLaws.Cleaning.{whole_members}
use Rattle.iox_laws.proofs.ServiceLaws.Gone.{Clear, left_clear, calm_waits}
use Rattle.iox_laws.proofs.ServiceLaws.Needed.{AreNeeded, needed_kept}
use Rattle.iox_laws.proofs.ServiceLaws.Quiet.{Quiet}
use Rattle.iox_laws.proofs.ServiceLaws.Releasing.{none_there, nothing_left, values_are_numbers}

-- ---- ports of nodes

abbrev IsIn : List Node → ℕ → Type 0
IsIn nodes n = (m : Node) × IsAmong m nodes × (m.number ≡ n)

abbrev AreOf : List Node → List Port → Type 0
AreOf nodes ps = (p : Port) → IsAmong p ps → IsIn nodes p.node

record Fit (s : State) : Type 0 where
  pub closed : s.members.closed ≡ is_empty s.members.nodes
  pub of_nodes : AreOf s.members.nodes s.fixed.ports

abbrev OfNodes : List Node → OfPorts
OfNodes nodes l ps n = AreOf nodes ps

dropped_node : (port : ℕ) (p : Port) → (port_dropped port p).node ≡ p.node
dropped_node port p = either (λ (q : Port). q.node ≡ p.node) (p.number == port) (record p { held = false }) p (λ u. refl) (λ u. refl)

steady : (nodes : List Node) → IsSteady (OfNodes nodes)
steady nodes = record {
  numbers = λ l ps n p. p;
  filters = λ l ps n keep p q among. p q (filter-among keep q ps among).0;
  drops = λ l ps n port p q among.
      let r : (r : Port) × IsAmong r ps × (q ≡ port_dropped port r) = map-among (port_dropped port) q ps among in
      subst (IsIn nodes) (sym (ap (λ (x : Port). x.node) r.2 ∙ dropped_node port r.0)) (p r.0 r.1);
}

done_of : (nodes : List Node) (s : State) (node : ℕ) (call : Call) (reply : Reply) (t : State) → AreOf nodes s.fixed.ports → IsDone s node call reply t
    → AreOf nodes t.fixed.ports
done_of nodes s node call reply t p d =
    subst (λ (v : State). AreOf nodes v.fixed.ports) (sym d.9)
    (settled_says (OfNodes nodes) (steady nodes) (moved_by s d.2) node d.6 d.4
    (subst (λ (f : Fixed). AreOf nodes f.ports) (sym (moved_by-fixed s d.2)) p))

whole_fit : (s : State) (node : ℕ) (call : Call) (reply : Reply) (t : State) → Fit s → IsWholeCall s node call reply t → Fit t
whole_fit s node call reply t p c =
    let same : t.members ≡ s.members = whole_members s node call reply t c in
    record {
      closed = ap (λ (x : Members). x.closed) same ∙ p.closed ∙ ap (λ (x : Members). is_empty x.nodes) (sym same);
      of_nodes = subst (λ (x : Members). AreOf x.nodes t.fixed.ports) (sym same)
          (unless_done (λ (v : State). AreOf s.members.nodes v.fixed.ports) s node call reply t p.of_nodes
          (λ named d. done_of s.members.nodes s node call reply t p.of_nodes d) c);
    }

releases_fit : (node : ℕ) (ns : List ℕ) (s t : State) → Fit s → Releases s node ns t → Fit t
releases_fit node [] s t p e = subst Fit (sym e) p
releases_fit node (n ∷ ns) s t p e = releases_fit node ns e.0 t (whole_fit s node (Release n) Done e.0 p e.1) e.2

-- ---- nodes come and go

more_there : (ms : List Node) (m : Node) → is_empty (ms ++ m ∷ []) ≡ false
more_there [] m = refl
more_there (x ∷ xs) m = refl

joins_fit : (s : State) (id : UniqueSystemId) → s.members.closed ≡ false → Fit s → Fit (with_members s (joined s.members id))
joins_fit s id still p = record {
  closed = still ∙ sym (more_there s.members.nodes (new_node s.members.joins id));
  of_nodes = λ q among.
      let m : IsIn s.members.nodes q.node = p.of_nodes q among in
      (m.0, among-front m.0 s.members.nodes (new_node s.members.joins id ∷ []) m.1, m.2);
}

same_empty : (n : ℕ) (ms : List Node) → is_empty ms ≡ is_empty (map (dies n) ms)
same_empty n [] = refl
same_empty n (m ∷ ms) = refl

dead_number : (n : ℕ) (m : Node) → (dies n m).number ≡ m.number
dead_number n m = either (λ (x : Node). x.number ≡ m.number) (m.number == n) (record m { alive = false }) m (λ u. refl) (λ u. refl)

death_fit : (s : State) (n : ℕ) → Fit s → Fit (with_death s n)
death_fit s n p = record {
  closed = p.closed ∙ same_empty n s.members.nodes;
  of_nodes = λ q among.
      let m : IsIn s.members.nodes q.node = p.of_nodes q among in
      (dies n m.0, among-map (dies n) m.0 s.members.nodes m.1, dead_number n m.0 ∙ m.2);
}

closes : (c : Bool) (test : Node → Bool) (ms : List Node) → c ≡ is_empty ms → (c || is_empty (filter test ms)) ≡ is_empty (filter test ms)
closes true test [] e = refl
closes true test (m ∷ ms) e = absurd (true≢false e)
closes false test ms e = refl

-- a node that has no value has no port
no_port_of : (f : Fixed) (node : ℕ) → AreNeeded f → numbers_of_node f node ≡ [] → (p : Port) → IsAmong p f.ports → p.node ≡ node → ⊥
no_port_of f node needed none p among of_node = elim (needed p among) as (λ u. ⊥) [
  | inl held ↦ subst (λ ns. IsAmong p.number ns) none (values_are_numbers f node p.number (inl (p, among, refl, of_node, held)))
  | inr q ↦
      subst (λ ns. IsAmong (q.0).number ns) none
      (values_are_numbers f node (q.0).number (inr (q.0, subst (λ n. IsAmong q.0 (f.handles n)) of_node q.1, refl)))
]

leaves_fit : (s : State) (node : ℕ) → AreNeeded s.fixed → numbers_of_node s.fixed node ≡ [] → Fit s → Fit (without_node s node)
leaves_fit s node needed none p = record {
  closed = closes s.members.closed (λ m. not (m.number == node)) s.members.nodes p.closed;
  of_nodes = λ q among.
      let m : IsIn s.members.nodes q.node = p.of_nodes q among in (
        m.0,
        among-filter (λ x. not (x.number == node)) m.0 s.members.nodes m.1
            (by_cases ((m.0).number == node)
            (λ is. absurd (no_port_of s.fixed node needed none q among (sym m.2 ∙ eqb-true (m.0).number node is))) (λ other. ap not other)),
        m.2,
      );
}

-- ---- commands

living_is_in : (nodes : List Node) (node : ℕ) (o : Option Node) → find (λ m. m.number == node) nodes ≡ o
    → option_map_or (λ m. refused_if {A = Refusal} (not m.alive) NodeIsDead) o (Some UnknownNode) ≡ None → IsIn nodes node
living_is_in nodes node None e living = none-some UnknownNode (sym living)
living_is_in nodes node (Some m) e living =
    let q : IsAmong m nodes × ((m.number == node) ≡ true) = find-among (λ x. x.number == node) m nodes e in
    (m, q.0, eqb-true m.number node q.1)

member_is_in : (nodes : List Node) (node : ℕ) (o : Option Node) → find (λ m. m.number == node) nodes ≡ o → is_some o ≡ true → IsIn nodes node
member_is_in nodes node None e there = absurd (true≢false (sym there))
member_is_in nodes node (Some m) e there =
    let q : IsAmong m nodes × ((m.number == node) ≡ true) = find-among (λ x. x.number == node) m nodes e in
    (m, q.0, eqb-true m.number node q.1)

hub_fit : (s : State) (node : ℕ) (c : HubCommand) (reply : Reply) (t : State) → IsIn s.members.nodes node → Fit s → IsHubCommand s node c reply t → Fit t
hub_fit s node (Create role id o) reply t there p c =
    unless_keeps Fit (making_refusal s.fixed role o c.0) s reply t _ p
    (λ allowed made. subst Fit (sym made.1) (record {
      closed = p.closed;
      of_nodes = λ q among. elim (among-last q (new_port s.fixed node role id o) s.fixed.ports among) as (λ u. IsIn s.members.nodes q.node) [
        | inl old ↦ p.of_nodes q old
        | inr e ↦ subst (IsIn s.members.nodes) (sym (ap (λ (x : Port). x.node) e)) there
      ];
    })) c.1
hub_fit s node (Use call) reply t there p c = whole_fit s node call reply t p c

abbrev Base : State → Type 0
Base s = Calm s × AreNeeded s.fixed

is_none : (ns : List ℕ) → is_empty ns ≡ true → ns ≡ []
is_none [] e = refl
is_none (n ∷ ns) e = absurd (true≢false (sym e))

command_fit : (s : State) (c : Command) (reply : Reply) (t : State) → Base s → Fit s → IsCommand s c reply t → Fit t
command_fit s (commands.Join id asked) reply t b p c =
    unless_keeps Fit (opening_refusal s id asked c.0) s reply t _ p
    (λ allowed done. subst Fit (sym done.1)
    (joins_fit s id (passed s.members.closed MarkedForDestruction (or_else-none (refused_if s.members.closed MarkedForDestruction) _ allowed).0) p)) c.1
command_fit s (commands.Port c) reply t b p x =
    unless_keeps Fit (not_living s (asking c).0) s reply t _ p
    (λ living d. hub_fit s (asking c).0 (with_own_id s (asking c).0 (asking c).1) reply t
    (living_is_in s.members.nodes (asking c).0 (node_at s (asking c).0) refl living) p d) x
command_fit s (Leave node) reply t b p c =
    unless_keeps Fit (leaving_refusal s node) s reply t _ p
    (λ allowed done. subst Fit (sym done.1)
    (leaves_fit s node b.1 (is_none (numbers_of_node s.fixed node) (not-false (is_empty (numbers_of_node s.fixed node))
    (passed (not (is_empty (numbers_of_node s.fixed node))) HasPorts (or_else-none (not_living s node) _ allowed).1))) p)) c
command_fit s (DeclareDead node) reply t b p c =
    unless_keeps Fit (not_living s node) s reply t _ p (λ living done. subst Fit (sym done.1) (death_fit s node p)) c
command_fit s (Cleanup node) reply t b p c =
    unless_keeps Fit (not_dead s node) s reply t _ p
    (λ dead done. subst Fit (sym done.3)
    (leaves_fit done.0 node (releases_keep Base needed_kept s node (numbers_of_node s.fixed node) done.0 b done.1).1 (nothing_left s done.0 node b.0 done.1)
    (releases_fit node (numbers_of_node s.fixed node) s done.0 p done.1))) c
command_fit s ListNodes reply t b p c = subst Fit (sym c.1) p
command_fit s ListClients reply t b p c = subst Fit (sym c.1) p
command_fit s ListServers reply t b p c = subst Fit (sym c.1) p

release_fit : (there : Bool) (s : State) (node n : ℕ) (t : State) → Fit s → IsReleaseWhere there s node n t → Fit t
release_fit true s node n t p r = whole_fit s node (Release n) Done t p r
release_fit false s node n t p r = subst Fit (sym r) p

step_fit : (s : State) (x : ServiceStep) (t : State) → Base s → Fit s → IsOfMember s x → IsServiceStep s x t → Fit t
step_fit s (OfService c reply) t b p own e = command_fit s c reply t b p e
step_fit s (OfHub node c reply) t b p own e = hub_fit s node c reply t (member_is_in s.members.nodes node (node_at s node) refl own) p e
step_fit s (OfLoan node number filling) t b p own e = subst Fit (sym e.3) (record { closed = p.closed; of_nodes = p.of_nodes })
step_fit s (OfValue node number kind) t b p own e = release_fit (still_has s.fixed node number kind) s node number t p e

history_fit : (s : State) (xs : List ServiceStep) (t : State) → Base s → Fit s → IsMembersHistory s xs t → Fit t
history_fit s [] t b p h = subst Fit (sym h) p
history_fit s (x ∷ xs) t b p h =
    history_fit h.0 xs t (step_keeps Base needed_kept s x h.0 b h.2) (step_fit s x h.0 b p h.1 h.2) h.3

served_fit : (s : State) → IsServed s → Fit s
served_fit s x =
    history_fit (created x.limits x.acts x.id) x.steps s (created_calm x.limits x.acts x.id, λ p among. absurd among)
    (record { closed = refl; of_nodes = λ p among. absurd among }) x.history

-- ---- the laws

pub closed_with_the_last_node : ClosedWithTheLastNode
closed_with_the_last_node s x = (served_fit s x).closed

nobody : (nodes : List Node) → is_empty nodes ≡ true → nodes ≡ []
nobody [] e = refl
nobody (m ∷ ms) e = absurd (true≢false (sym e))

pub closed_services_are_bare : ClosedServicesAreBare
closed_services_are_bare s x closed =
    let c : (Calm s × Quiet s) × Clear s = left_clear s (served_is_reachable s x) in
    let nodes : s.members.nodes ≡ [] = nobody s.members.nodes (sym (served_fit s x).closed ∙ closed) in
    let ports : s.fixed.ports ≡ [] = none_there s.fixed.ports (λ p among. none_of nodes p.node ((served_fit s x).of_nodes p among)) in
    let gone : (n : ℕ) → any_at n s.fixed.ports ≡ false = λ n. ap (any_at n) ports in
    record {
      nodes = nodes;
      ports = ports;
      handles = λ n. none_there (s.fixed.handles n) (λ h among.
          true≢false (sym (((((c.0).0).rests).fixed.handles n).each h among).of_port.0 ∙ gone h.port));
      waiting = λ w. calm_waits s w (c.0).0 (gone w.receiver);
      returned = λ w. (c.1).returned w (gone w.sender);
      in_hand = λ w. ((c.0).1).hand w;
      delivered = λ w. (c.1).delivered w (gone w.sender);
      request_state = λ w. (c.1).request_state w (gone w.receiver);
    }
  where
    none_of : s.members.nodes ≡ [] → (n : ℕ) → IsIn s.members.nodes n → ⊥
    none_of nodes n q = subst (λ (ms : List Node). IsAmong q.0 ms) nodes q.1

found_member : (ms : List Node) (n : ℕ) (m : Node) → IsAmong m ms → m.number ≡ n → is_some (find (λ x. x.number == n) ms) ≡ true
found_member [] n m among is = absurd among
found_member (x ∷ xs) n m among is =
    either (λ (o : Option Node). is_some o ≡ true) (x.number == n) (Some x) (find (λ y. y.number == n) xs) (λ e. refl)
    (λ other. elim among as (λ u. is_some (find (λ y. y.number == n) xs) ≡ true) [
      | inl e ↦ absurd (true≢false (sym (eq-eqb x.number n (ap (λ (y : Node). y.number) (sym e) ∙ is)) ∙ other))
      | inr q ↦ found_member xs n m q is
    ])

pub ports_are_of_nodes : PortsAreOfNodes
ports_are_of_nodes s n p x at =
    let m : IsIn s.members.nodes p.node = (served_fit s x).of_nodes p (find-among (λ q. q.number == n) p s.fixed.ports at).0 in
    found_member s.members.nodes p.node m.0 m.1 m.2
