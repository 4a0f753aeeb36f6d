-- Who died or left lives no more, and is refused.
use Rattle.std.specs.Prelude.{◌≡◌, ℕ, ◌+◌, Bool, true, false, not, if◌then◌else◌, ◌==◌, nat_lt, List, [], ◌∷◌, ◌++◌, map, filter, Option, Some, None, find, is_some, IsTrue, refl}
use Rattle.std.specs.Option.{option_map_or}
use Rattle.std.proofs.Common.{ap, ◌∙◌, arith, eqb-true, inl, inr, subst, sym, true≢false}
use Rattle.iox_model.specs.declared.command.Command.TheVariants.{Cleanup, DeclareDead, Leave}
use Rattle.iox_model.specs.declared.command.Command.TheVariants as commands
use Rattle.iox_model.specs.declared.reply.Refusal.TheVariants.{NodeIsAlive, NodeIsDead, UnknownNode}
use Rattle.iox_model.specs.declared.reply.Reply.TheVariants.{Done, Refused}
use Rattle.iox_model.specs.Commands.{Command, PortCommand, Refusal, Reply, asking}
use Rattle.iox_model.specs.Joins.{new_node, node_at, not_dead, not_living, with_members}
use Rattle.iox_model.specs.Maps.{or_else, refused_if}
use Rattle.iox_model.specs.Runs.{IsHistory, IsReachableState, ServiceStep, is_member}
use Rattle.iox_model.specs.Services.{IsCleanup, IsCommand, dies, leaving_refusal, numbers_of_node, with_death, without_node}
use Rattle.iox_model.specs.States.{Members, Node, State}
use Rattle.iox_model.specs.WholeCalls.{UnlessRefused}
use Rattle.iox_laws.specs.MessageLaws.Lists.{IsOneOf}
use Rattle.iox_laws.proofs.WeaveLaws.DeathLaws.{IsGone, found, living_in, stays_gone}
use Rattle.iox_laws.proofs.WeaveLaws.MapLemmas.{either}
use Rattle.iox_laws.proofs.WeaveLaws.WholeLemmas.{or_else-none, some-is}
use Rattle.iox_laws.proofs.WeaveLedger.Lists.{IsAmong, among-last, filter-among, find-among, map-among}
use Rattle.iox_laws.proofs.WeaveLedger.Orders.{less-next, next-is-less}
use Rattle.iox_laws.proofs.WeaveLedger.Truths.{by_cases, none-some, not-false}
use Rattle.iox_laws.proofs.WeaveWorlds.Inductions.{IsKept, IsOfNodes, history_keeps, reached_keeps, releases_keep}
use Rattle.iox_laws.proofs.ServiceLaws.Joins.{IsRefused}
use Rattle.iox_laws.proofs.ServiceLaws.Listings.{done_members}
use Rattle.iox_service_laws.specs.Gone.{IsRefusedToTheDead, LivesNoMore}

-- ---- who is there has joined

abbrev HaveJoined : Members → Type 0
HaveJoined x = (m : Node) → IsAmong m x.nodes → nat_lt m.number x.joins ≡ true

dead_number : (n : ℕ) (m : Node) → (dies n m).number ≡ m.number
dead_number n m = either (λ (x : Node). x.number ≡ m.number) (m.number == n) (record m { alive = false }) m (λ u. refl) (λ u. refl)

nodes_have : (s : State) (x : Members) → IsOfNodes s x → HaveJoined s.members → HaveJoined x
nodes_have s x (inl joins) p =
    subst HaveJoined (sym joins.1) (λ m among.
    elim (among-last m (new_node s.members.joins joins.0) s.members.nodes among) as (λ u. nat_lt m.number (s.members.joins + 1) ≡ true) [
      | inl old ↦ less-next m.number s.members.joins (p m old)
      | inr e ↦ next-is-less m.number s.members.joins (ap (λ (k : Node). k.number) e)
    ])
nodes_have s x (inr (inl leaves)) p =
    subst HaveJoined (sym leaves.1) (λ m among. p m (filter-among (λ k. not (k.number == leaves.0)) m s.members.nodes among).0)
nodes_have s x (inr (inr died)) p =
    subst HaveJoined (sym died.1) (λ m among.
    let q : (k : Node) × IsAmong k s.members.nodes × (m ≡ dies died.0 k) = map-among (dies died.0) m s.members.nodes among in
    subst (λ n. nat_lt n s.members.joins ≡ true) (sym (ap (λ (k : Node). k.number) q.2 ∙ dead_number died.0 q.0)) (p q.0 q.1))

have_kept : IsKept (λ s. HaveJoined s.members)
have_kept = record {
  nodes = nodes_have;
  makes = λ s node role id o memory allowed p. p;
  calls = λ s node call reply t named done p. subst HaveJoined (sym (done_members s node call reply t done)) p;
  fills = λ s node number h x there may p. p;
}

have_joined : (s : State) → IsReachableState s → HaveJoined s.members
have_joined s r =
    reached_keeps (λ u. HaveJoined u.members) have_kept (λ l acts id m among. elim among as (λ u. nat_lt m.number 1 ≡ true) [
      | inl e ↦ ap (λ (k : Node). nat_lt k.number 1) e
      | inr q ↦ absurd q
    ]) s r

is_there : (why : Node → Option Refusal) (o : Option Node) → option_map_or why o (Some UnknownNode) ≡ None → is_some o ≡ true
is_there why None e = none-some UnknownNode (sym e)
is_there why (Some m) e = refl

joined_if : (x : Members) (node : ℕ) (o : Option Node) → HaveJoined x → find (λ m. m.number == node) x.nodes ≡ o → is_some o ≡ true
    → nat_lt node x.joins ≡ true
joined_if x node None p e there = absurd (true≢false (sym there))
joined_if x node (Some m) p e there =
    let q : IsAmong m x.nodes × ((m.number == node) ≡ true) = find-among (λ k. k.number == node) m x.nodes e in
    subst (λ n. nat_lt n x.joins ≡ true) (eqb-true m.number node q.1) (p m q.0)

-- ---- lists of nodes

-- one more in front
in_front : (b : Bool) (m : Node) (o p : Option Node) → IsGone (found (if b then Some m else o)) → (IsGone (found o) → IsGone (found p))
    → IsGone (found (if b then Some m else p))
in_front true m o p q f = q
in_front false m o p q f = f q

joined_gone : (node : ℕ) (ms : List Node) (m : Node) → (m.number == node) ≡ false → IsGone (living_in ms node) → IsGone (living_in (ms ++ m ∷ []) node)
joined_gone node [] m other p =
    either (λ o. IsGone (found o)) (m.number == node) (Some m) None (λ same. absurd (true≢false (sym same ∙ other))) (λ u. tt)
joined_gone node (x ∷ xs) m other p =
    in_front (x.number == node) x (find (λ k. k.number == node) xs) (find (λ k. k.number == node) (xs ++ m ∷ [])) p (joined_gone node xs m other)

abbrev without : ℕ → List Node → List Node
without n ms = filter (λ m. not (m.number == n)) ms

none_left : (n : ℕ) (ms : List Node) → living_in (without n ms) n ≡ Some UnknownNode
none_left n [] = refl
none_left n (x ∷ xs) =
    either (λ (ms : List Node). living_in ms n ≡ Some UnknownNode) (not (x.number == n)) (x ∷ without n xs) (without n xs)
    (λ other. either (λ o. found o ≡ Some UnknownNode) (x.number == n) (Some x) (find (λ k. k.number == n) (without n xs))
    (λ same. absurd (true≢false (sym other ∙ ap not same))) (λ u. none_left n xs))
    (λ u. none_left n xs)

left_gone : (n node : ℕ) (ms : List Node) → IsGone (living_in ms node) → IsGone (living_in (without n ms) node)
left_gone n node [] p = tt
left_gone n node (x ∷ xs) p =
    either (λ (ms : List Node). IsGone (living_in ms node)) (not (x.number == n)) (x ∷ without n xs) (without n xs)
    (λ other. in_front (x.number == node) x (find (λ k. k.number == node) xs) (find (λ k. k.number == node) (without n xs)) p (left_gone n node xs))
    (λ gone. by_cases (x.number == node)
    (λ same. subst (λ k. IsGone (living_in (without n xs) k))
    (sym (eqb-true x.number n (not-false (x.number == n) gone)) ∙ eqb-true x.number node same)
    (subst IsGone (sym (none_left n xs)) tt))
    (λ other. left_gone n node xs (subst (λ (b : Bool). IsGone (found (if b then Some x else find (λ k. k.number == node) xs))) other p)))

dead_now : (n : ℕ) (ms : List Node) → living_in ms n ≡ None → living_in (map (dies n) ms) n ≡ Some NodeIsDead
dead_now n [] e = none-some UnknownNode (sym e)
dead_now n (x ∷ xs) e = by_case (x.number == n) refl e (λ q. dead_now n xs q)
  where
    by_case : (b : Bool) → (x.number == n) ≡ b → found (if b then Some x else find (λ k. k.number == n) xs) ≡ None
        → (living_in xs n ≡ None → living_in (map (dies n) xs) n ≡ Some NodeIsDead)
        → living_in ((if b then record x { alive = false } else x) ∷ map (dies n) xs) n ≡ Some NodeIsDead
    by_case true same e rest =
        ap (λ (b : Bool). found (if b then Some (record x { alive = false }) else find (λ k. k.number == n) (map (dies n) xs))) same
    by_case false other e rest =
        ap (λ (b : Bool). found (if b then Some x else find (λ k. k.number == n) (map (dies n) xs))) other ∙ rest e

-- ---- what it is refused as

abbrev IsUnknown : Refusal → Type 0
IsUnknown UnknownNode = Unit {0}
IsUnknown r = ⊥

by_its_node : (o : Option Node) (r : Refusal) → found o ≡ Some r → r ≡ (if is_some o then NodeIsDead else UnknownNode)
by_its_node None r e = sym (some-is UnknownNode r e)
by_its_node (Some m) r e = by_case m.alive e
  where
    by_case : (b : Bool) → refused_if {A = Refusal} (not b) NodeIsDead ≡ Some r → r ≡ NodeIsDead
    by_case true e = none-some r e
    by_case false e = sym (some-is NodeIsDead r e)

dead_there : (o : Option Node) → found o ≡ Some NodeIsDead → is_some o ≡ true
dead_there (Some m) e = refl
dead_there None e = absurd (subst IsUnknown (some-is UnknownNode NodeIsDead e) tt)

none_there : (o : Option Node) → found o ≡ Some UnknownNode → is_some o ≡ false
none_there None e = refl
none_there (Some m) e = absurd (subst IsUnknown (by_its_node (Some m) UnknownNode e) tt)

gone_if : (q : Option Refusal) → is_some q ≡ true → IsGone q
gone_if (Some r) e = tt
gone_if None e = absurd (true≢false (sym e))

-- ---- histories

record IsOver (node : ℕ) (s : State) : Type 0 where
  pub joined : nat_lt node s.members.joins ≡ true
  pub gone : IsGone (not_living s node)

not_next : (a b : ℕ) → nat_lt a b ≡ true → (b == a) ≡ false
not_next a b e = grind (arith)

same_over : (node : ℕ) (s t : State) → t.members ≡ s.members → IsOver node s → IsOver node t
same_over node s t same p = record {
  joined = subst (λ (x : Members). nat_lt node x.joins ≡ true) (sym same) p.joined;
  gone = subst (λ (x : Members). IsGone (living_in x.nodes node)) (sym same) p.gone;
}

nodes_over : (node : ℕ) (s : State) (x : Members) → IsOfNodes s x → IsOver node s → IsOver node (with_members s x)
nodes_over node s x (inl joins) p =
    subst (λ y. IsOver node (with_members s y)) (sym joins.1) (record {
      joined = less-next node s.members.joins p.joined;
      gone = joined_gone node s.members.nodes (new_node s.members.joins joins.0) (not_next node s.members.joins p.joined) p.gone;
    })
nodes_over node s x (inr (inl leaves)) p =
    subst (λ y. IsOver node (with_members s y)) (sym leaves.1)
    (record { joined = p.joined; gone = left_gone leaves.0 node s.members.nodes p.gone })
nodes_over node s x (inr (inr died)) p =
    subst (λ y. IsOver node (with_members s y)) (sym died.1)
    (record { joined = p.joined; gone = stays_gone died.0 node s.members.nodes p.gone })

over_kept : (node : ℕ) → IsKept (IsOver node)
over_kept node = record {
  nodes = nodes_over node;
  makes = λ s n role id o memory allowed p. record { joined = p.joined; gone = p.gone };
  calls = λ s n call reply t named done p. same_over node s t (done_members s n call reply t done) p;
  fills = λ s n number h x there may p. record { joined = p.joined; gone = p.gone };
}

still_over : (s t : State) (xs : List ServiceStep) (node : ℕ) → LivesNoMore s node → IsHistory s xs t → IsOver node t
still_over s t xs node over history =
    history_keeps (IsOver node) (over_kept node) s xs t (record { joined = over.joined; gone = gone_if (not_living s node) over.gone }) history

-- ---- their commands

abbrev IsRefusedSo : State → ℕ → Reply → State → Type 0
IsRefusedSo t node reply u = (reply ≡ Refused (if is_member t node then NodeIsDead else UnknownNode)) × (u ≡ t)

refused_so : (t : State) (node : ℕ) (reply : Reply) (u : State) (P : Type 0) (o rest : Option Refusal) → IsOver node t → not_living t node ≡ o
    → UnlessRefused (or_else o rest) t reply u P → IsRefusedSo t node reply u
refused_so t node reply u P (Some r) rest over is done = (done.0 ∙ ap (λ (q : Refusal). Refused q) (by_its_node (node_at t node) r is), done.1)
refused_so t node reply u P None rest over is done = absurd (subst IsGone is over.gone)

or_nothing : (o : Option Refusal) → or_else o None ≡ o
or_nothing (Some r) = refl
or_nothing None = refl

refused_now : (t : State) (node : ℕ) (reply : Reply) (u : State) (P : Type 0) → IsOver node t → UnlessRefused (not_living t node) t reply u P
    → IsRefusedSo t node reply u
refused_now t node reply u P over done =
    refused_so t node reply u P (not_living t node) None over refl (subst (λ o. UnlessRefused o t reply u P) (sym (or_nothing (not_living t node))) done)

as_record : (t : State) (node : ℕ) (command : Command) → ((u : State) (reply : Reply) → IsCommand t command reply u → IsRefusedSo t node reply u)
    → IsRefusedToTheDead t node command
as_record t node command refused = record {
  reply = λ u reply done.
      let q : IsRefusedSo t node reply u = refused u reply done in
      q.0 ∙ ap (λ (v : State). Refused (if is_member v node then NodeIsDead else UnknownNode)) (sym q.1);
  same = λ u reply done. (refused u reply done).1;
}

pub the_dead_are_refused : (s t : State) (xs : List ServiceStep) (node : ℕ) → LivesNoMore s node → IsHistory s xs t
    → (command : PortCommand) → (asking command).0 ≡ node → IsRefusedToTheDead t node (commands.Port command)
the_dead_are_refused s t xs node over history command asks = as_record t node (commands.Port command) (λ u reply done.
    subst (λ n. IsRefusedSo t n reply u) asks
    (refused_now t (asking command).0 reply u _ (subst (λ n. IsOver n t) (sym asks) (still_over s t xs node over history)) done))

parts_not : (t : State) (node : ℕ) (command : Command) → IsOver node t → IsOneOf command (Leave node ∷ DeclareDead node ∷ [])
    → IsRefusedToTheDead t node command
parts_not t node command over (inl leaves) = as_record t node command (λ u reply done.
    refused_so t node reply u _ (not_living t node) _ over refl (subst (λ c. IsCommand t c reply u) leaves done))
parts_not t node command over (inr (inl died)) = as_record t node command (λ u reply done.
    refused_now t node reply u _ over (subst (λ c. IsCommand t c reply u) died done))
parts_not t node command over (inr (inr none)) = absurd none

pub the_dead_do_not_part : (s t : State) (xs : List ServiceStep) (node : ℕ) → LivesNoMore s node → IsHistory s xs t
    → (command : Command) → IsOneOf command (Leave node ∷ DeclareDead node ∷ []) → IsRefusedToTheDead t node command
the_dead_do_not_part s t xs node over history command is = parts_not t node command (still_over s t xs node over history) is

-- ---- who dies or leaves

-- what is done was not refused
done_so : (q : Option Refusal) (s t : State) (P : Type 0) → UnlessRefused q s Done t P → (q ≡ None) × P
done_so (Some r) s t P u = absurd (subst IsRefused (sym u.0) tt)
done_so None s t P u = (refl, u)

was_there : (s : State) (node : ℕ) (why : Node → Option Refusal) → IsReachableState s
    → option_map_or why (node_at s node) (Some UnknownNode) ≡ None → nat_lt node s.members.joins ≡ true
was_there s node why r e = joined_if s.members node (node_at s node) (have_joined s r) refl (is_there why (node_at s node) e)

abbrev HasJoined : ℕ → State → Type 0
HasJoined node s = nat_lt node s.members.joins ≡ true

joins_more : (node : ℕ) (s : State) (x : Members) → IsOfNodes s x → HasJoined node s → nat_lt node x.joins ≡ true
joins_more node s x (inl joins) p = ap (λ (y : Members). nat_lt node y.joins) joins.1 ∙ less-next node s.members.joins p
joins_more node s x (inr (inl leaves)) p = ap (λ (y : Members). nat_lt node y.joins) leaves.1 ∙ p
joins_more node s x (inr (inr died)) p = ap (λ (y : Members). nat_lt node y.joins) died.1 ∙ p

has_kept : (node : ℕ) → IsKept (HasJoined node)
has_kept node = record {
  nodes = joins_more node;
  makes = λ s n role id o memory allowed p. p;
  calls = λ s n call reply t named done p. ap (λ (x : Members). nat_lt node x.joins) (done_members s n call reply t done) ∙ p;
  fills = λ s n number h x there may p. p;
}

pub the_dead_are_dead : (s t : State) (node : ℕ) (command : Command) → IsReachableState s → command ≡ DeclareDead node → IsCommand s command Done t
    → LivesNoMore t node × IsTrue (is_member t node)
the_dead_are_dead s t node command r is done =
    let q : (not_living s node ≡ None) × ((Done ≡ Done) × (t ≡ with_death s node)) =
    done_so (not_living s node) s t _ (subst (λ c. IsCommand s c Done t) is done) in
    subst (λ (u : State). LivesNoMore u node × IsTrue (is_member u node)) (sym (q.1).1) (
      record {
        joined = was_there s node (λ m. refused_if (not m.alive) NodeIsDead) r q.0;
        gone = ap (λ (o : Option Refusal). is_some o) (dead_now node s.members.nodes q.0);
      },
      dead_there (node_at (with_death s node) node) (dead_now node s.members.nodes q.0),
    )

abbrev HasGone : State → ℕ → Type 0
HasGone t node = LivesNoMore t node × (is_member t node ≡ false)

has_gone : (s : State) (node : ℕ) → HasJoined node s → HasGone (without_node s node) node
has_gone s node joined = (
  record { joined = joined; gone = ap (λ (o : Option Refusal). is_some o) (none_left node s.members.nodes) },
  none_there (node_at (without_node s node) node) (none_left node s.members.nodes),
)

pub who_left_is_unknown : (s t : State) (node : ℕ) (command : Command) → IsReachableState s → IsOneOf command (Leave node ∷ Cleanup node ∷ [])
    → IsCommand s command Done t → HasGone t node
who_left_is_unknown s t node command r (inl leaves) done =
    let q : (leaving_refusal s node ≡ None) × ((Done ≡ Done) × (t ≡ without_node s node)) =
    done_so (leaving_refusal s node) s t _ (subst (λ c. IsCommand s c Done t) leaves done) in
    subst (λ (u : State). HasGone u node) (sym (q.1).1)
    (has_gone s node (was_there s node (λ m. refused_if (not m.alive) NodeIsDead) r (or_else-none (not_living s node) _ q.0).0))
who_left_is_unknown s t node command r (inr (inl cleans)) done =
    is_cleaned (done_so (not_dead s node) s t _ (subst (λ c. IsCommand s c Done t) cleans done))
  where
    is_cleaned : (not_dead s node ≡ None) × IsCleanup s node Done t → HasGone t node
    is_cleaned q =
        subst (λ (u : State). HasGone u node) (sym (q.1).3)
        (has_gone (q.1).0 node
        (releases_keep (HasJoined node) (has_kept node) s node (numbers_of_node s.fixed node) (q.1).0
        (was_there s node (λ m. refused_if m.alive NodeIsAlive) r q.0) (q.1).1))
who_left_is_unknown s t node command r (inr (inr none)) done = absurd none
