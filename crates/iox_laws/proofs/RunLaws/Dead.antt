-- A node that died or left lives no more, whatever a service or its hub is asked.
use Rattle.std.specs.Prelude.{◌≡◌, ℕ, Bool, true, false, not, if◌then◌else◌, ◌==◌, nat_lt, List, [], ◌∷◌, ◌++◌, filter, Option, Some, None, find, refl}
use Rattle.std.proofs.Common.{sym, subst, ap, ◌∙◌, true≢false, eqb-true, arith, inl, inr}
use Rattle.iox_model.specs.declared.reply.Reply.TheVariants.{Refused}
use Rattle.iox_model.specs.Commands.{Refusal, Reply, Call, asking}
use Rattle.iox_model.specs.Doings.{Fills}
use Rattle.iox_model.specs.Ends.{settled}
use Rattle.iox_model.specs.Values.{filled_as}
use Rattle.iox_model.specs.Counts.{with_fixed}
use Rattle.iox_model.specs.Joins.{not_living, new_node, with_members}
use Rattle.iox_model.specs.Makings.{new_port, with_port}
use Rattle.iox_model.specs.Moments.{moved, Moment}
use Rattle.iox_model.specs.Services.{without_node}
use Rattle.iox_model.specs.States.{Node, Members, State}
use Rattle.iox_model.specs.WholeCalls.{moved_by, UnlessRefused, IsDone}
use Rattle.iox_laws.proofs.WeaveLaws.DeathLaws.{IsGone, found, living_in, stays_gone, settled-members}
use Rattle.iox_laws.proofs.WeaveLaws.MapLemmas.{either}
use Rattle.iox_laws.proofs.WeaveLaws.WholeLemmas.{moved-members}
use Rattle.iox_laws.specs.RunLaws.Dying.{TheDeadStayDead}
use Rattle.iox_laws.proofs.WeaveLedger.Truths.{by_cases, not-false}
use Rattle.iox_laws.proofs.WeaveLedger.Orders.{less-next}
use Rattle.iox_laws.proofs.WeaveWorlds.Inductions.{IsOfNodes, IsKept, history_keeps}

-- ---- lists of nodes

-- one more in front
in_front : (b : Bool) (m : Node) (o p : Option Node) → IsGone (found (if b then Some m else o)) → (IsGone (found o) → IsGone (found p))
    → IsGone (found (if b then Some m else p))
in_front true m o p q f = q
in_front false m o p q f = f q

joined_gone : (node : ℕ) (ms : List Node) (m : Node) → (m.number == node) ≡ false → IsGone (living_in ms node) → IsGone (living_in (ms ++ m ∷ []) node)
joined_gone node [] m other p =
    either (λ o. IsGone (found o)) (m.number == node) (Some m) None (λ same. absurd (true≢false (sym same ∙ other))) (λ u. tt)
joined_gone node (x ∷ xs) m other p =
    in_front (x.number == node) x (find (λ k. k.number == node) xs) (find (λ k. k.number == node) (xs ++ m ∷ [])) p (joined_gone node xs m other)

-- those of other numbers
abbrev without : ℕ → List Node → List Node
without n ms = filter (λ m. not (m.number == n)) ms

none_left : (n : ℕ) (ms : List Node) → IsGone (living_in (without n ms) n)
none_left n [] = tt
none_left n (x ∷ xs) =
    either (λ (ms : List Node). IsGone (living_in ms n)) (not (x.number == n)) (x ∷ without n xs) (without n xs)
    (λ other. either (λ o. IsGone (found o)) (x.number == n) (Some x) (find (λ k. k.number == n) (without n xs))
    (λ same. absurd (true≢false (sym other ∙ ap not same))) (λ u. none_left n xs))
    (λ u. none_left n xs)

left_gone : (n node : ℕ) (ms : List Node) → IsGone (living_in ms node) → IsGone (living_in (without n ms) node)
left_gone n node [] p = tt
left_gone n node (x ∷ xs) p =
    either (λ (ms : List Node). IsGone (living_in ms node)) (not (x.number == n)) (x ∷ without n xs) (without n xs)
    (λ other. in_front (x.number == node) x (find (λ k. k.number == node) xs) (find (λ k. k.number == node) (without n xs)) p (left_gone n node xs))
    (λ gone. by_cases (x.number == node)
    (λ same. subst (λ k. IsGone (living_in (without n xs) k))
    (sym (eqb-true x.number n (not-false (x.number == n) gone)) ∙ eqb-true x.number node same) (none_left n xs))
    (λ other. left_gone n node xs (subst (λ (b : Bool). IsGone (found (if b then Some x else find (λ k. k.number == node) xs))) other p)))

-- ---- calls change no node

moved_by-members : (s : State) (ms : List Moment) → (moved_by s ms).members ≡ s.members
moved_by-members s [] = refl
moved_by-members s (m ∷ ms) = moved_by-members (moved s m) ms ∙ moved-members s m

-- ---- histories

-- a node that had joined, and does not live
record IsOver (node : ℕ) (s : State) : Type 0 where
  pub joined : nat_lt node s.members.joins ≡ true
  pub gone : IsGone (not_living s node)

same_over : (node : ℕ) (s t : State) → t.members ≡ s.members → IsOver node s → IsOver node t
same_over node s t same p = record {
  joined = subst (λ (x : Members). nat_lt node x.joins ≡ true) (sym same) p.joined;
  gone = subst (λ (x : Members). IsGone (living_in x.nodes node)) (sym same) p.gone;
}

not_next : (a b : ℕ) → nat_lt a b ≡ true → (b == a) ≡ false
not_next a b e = grind (arith)

done_members : (s : State) (node : ℕ) (call : Call) (reply : Reply) (t : State) → IsDone s node call reply t → t.members ≡ s.members
done_members s node call reply t done =
    ap (λ (u : State). u.members) done.9 ∙ settled-members (moved_by s done.2) node done.6 done.4 ∙ moved_by-members s done.2

leaves_over : (node n : ℕ) (s : State) → IsOver node s → IsOver node (without_node s n)
leaves_over node n s p = record { joined = p.joined; gone = left_gone n node s.members.nodes p.gone }

nodes_over : (node : ℕ) (s : State) (x : Members) → IsOfNodes s x → IsOver node s → IsOver node (with_members s x)
nodes_over node s x (inl joins) p =
    subst (λ y. IsOver node (with_members s y)) (sym joins.1) (record {
      joined = less-next node s.members.joins p.joined;
      gone = joined_gone node s.members.nodes (new_node s.members.joins joins.0) (not_next node s.members.joins p.joined) p.gone;
    })
nodes_over node s x (inr (inl leaves)) p =
    subst (λ y. IsOver node (with_members s y)) (sym leaves.1) (leaves_over node leaves.0 s p)
nodes_over node s x (inr (inr dies)) p =
    subst (λ y. IsOver node (with_members s y)) (sym dies.1)
    (record { joined = p.joined; gone = stays_gone dies.0 node s.members.nodes p.gone })

over_kept : (node : ℕ) → IsKept (IsOver node)
over_kept node = record {
  nodes = nodes_over node;
  makes = λ s n role id o memory allowed p. same_over node s (with_fixed s (with_port s.fixed (new_port s.fixed n role id o))) refl p;
  calls = λ s n call reply t named done p. same_over node s t (done_members s n call reply t done) p;
  fills = λ s n number h x there may p. same_over node s (settled s n [] (Fills (filled_as h x))) refl p;
}

refused_if_gone : (o : Option Refusal) (t : State) (reply : Reply) (u : State) (P : Type 0) → IsGone o → UnlessRefused o t reply u P
    → (q : Refusal) × (reply ≡ Refused q) × (u ≡ t)
refused_if_gone (Some q) t reply u P gone done = (q, done.0, done.1)
refused_if_gone None t reply u P gone done = absurd gone

pub the_dead_stay_dead : TheDeadStayDead
the_dead_stay_dead s t u xs node r joined gone history command reply asks done =
    refused_if_gone (not_living t (asking command).0) t reply u _
    (subst (λ n. IsGone (not_living t n)) (sym asks)
    (history_keeps (IsOver node) (over_kept node) s xs t (record { joined = joined; gone = subst IsGone (sym gone) tt }) history).gone) done
