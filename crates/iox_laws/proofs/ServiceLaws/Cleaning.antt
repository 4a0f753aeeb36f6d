-- A cleanup is the releases of the node's values and its leave.
use Rattle.std.specs.Prelude.{◌≡◌, ℕ, Bool, true, not, ◌||◌, if◌then◌else◌, ◌==◌, List, [], ◌∷◌, ◌++◌, map, filter, Option, Some, None, find, refl}
use Rattle.std.specs.Option.{option_map_or}
use Rattle.std.proofs.Common.{sym, subst, ap, ap₂, ◌∙◌}
use Rattle.iox_model.specs.declared.call.Call.TheVariants as calls
use Rattle.iox_model.specs.declared.command.Command.TheVariants.{Leave}
use Rattle.iox_model.specs.declared.command.Command.TheVariants as commands
use Rattle.iox_model.specs.declared.command.PortCommand.TheVariants.{Release}
use Rattle.iox_model.specs.declared.reply.Refusal.TheVariants.{HasPorts, NodeIsAlive, UnknownNode}
use Rattle.iox_model.specs.declared.reply.Reply.TheVariants.{Done}
use Rattle.iox_model.specs.Commands.{Refusal, Reply, Call, Command}
use Rattle.iox_model.specs.Joins.{not_living, not_dead, with_members}
use Rattle.iox_model.specs.Maps.{is_empty, or_else, refused_if}
use Rattle.iox_model.specs.Runs.{IsRun}
use Rattle.iox_model.specs.Services.{leaving_refusal, numbers_of_node, without_node, Releases, IsCleanup}
use Rattle.iox_model.specs.States.{Node, Members, State}
use Rattle.iox_model.specs.WholeCalls.{UnlessRefused, IsWholeCall}
use Rattle.iox_laws.proofs.WeaveLaws.DeathLaws.{found, living_in}
use Rattle.iox_laws.proofs.WeaveLedger.Truths.{none-some, by_cases}
use Rattle.iox_laws.proofs.WeaveWorlds.Inductions.{unless_done}
use Rattle.iox_laws.proofs.RunLaws.Runs.{left_calm}
use Rattle.iox_laws.specs.ServiceLaws.Cleaning.{lives, with_life, releases_and_leave, CleanupsAreReleases}
use Rattle.iox_laws.proofs.ServiceLaws.Frames.{release_with}
use Rattle.iox_laws.proofs.ServiceLaws.Joins.{never_refused}
use Rattle.iox_laws.proofs.ServiceLaws.Listings.{done_members}
use Rattle.iox_laws.proofs.ServiceLaws.Releasing.{nothing_left}

-- ---- the node lives

abbrev alive_in : Members → ℕ → Members
alive_in x node = record x { nodes = map (lives node) x.nodes }

-- one that is there and dead now lives
lives_now : (node : ℕ) (ms : List Node)
    → option_map_or (λ m. refused_if {A = Refusal} m.alive NodeIsAlive) (find (λ m. m.number == node) ms) (Some UnknownNode) ≡ None
    → living_in (map (lives node) ms) node ≡ None
lives_now node [] e = none-some _ (sym e)
lives_now node (m ∷ ms) e =
    by_cases (m.number == node)
    (λ is. ap (λ (b : Bool). found (if (if b then record m { alive = true } else m).number == node
    then Some (if b then record m { alive = true } else m) else find (λ y. y.number == node) (map (lives node) ms))) is
    ∙ ap (λ (b : Bool). found (if b then Some (record m { alive = true }) else find (λ y. y.number == node) (map (lives node) ms))) is)
    (λ other. ap (λ (b : Bool). found (if (if b then record m { alive = true } else m).number == node
    then Some (if b then record m { alive = true } else m) else find (λ y. y.number == node) (map (lives node) ms))) other
    ∙ ap (λ (b : Bool). found (if b then Some m else find (λ y. y.number == node) (map (lives node) ms))) other
    ∙ lives_now node ms (subst (λ (b : Bool). option_map_or (λ x. refused_if {A = Refusal} x.alive NodeIsAlive)
    (if b then Some m else find (λ x. x.number == node) ms) (Some UnknownNode) ≡ None) other e))

-- whether it lived is no matter once it left
left_same : (node : ℕ) (ms : List Node) → filter (λ m. not (m.number == node)) (map (lives node) ms) ≡ filter (λ m. not (m.number == node)) ms
left_same node [] = refl
left_same node (m ∷ ms) =
    by_cases (m.number == node)
    (λ is. ap (λ (b : Bool). kept (if b then record m { alive = true } else m) rest) is
    ∙ ap (λ (b : Bool). if not b then record m { alive = true } ∷ rest else rest) is ∙ left_same node ms
    ∙ sym (ap (λ (b : Bool). if not b then m ∷ left else left) is))
    (λ other. ap (λ (b : Bool). kept (if b then record m { alive = true } else m) rest) other ∙ ap (λ ns. kept m ns) (left_same node ms))
  where
    rest : List Node
    rest = filter (λ x. not (x.number == node)) (map (lives node) ms)

    left : List Node
    left = filter (λ x. not (x.number == node)) ms

    kept : Node → List Node → List Node
    kept x xs = if not (x.number == node) then x ∷ xs else xs

-- ---- the releases

pub whole_members : (s : State) (node : ℕ) (call : Call) (reply : Reply) (t : State) → IsWholeCall s node call reply t → t.members ≡ s.members
whole_members s node call reply t =
    unless_done (λ (u : State). u.members ≡ s.members) s node call reply t refl (λ named done. done_members s node call reply t done)

releases_members : (node : ℕ) (ns : List ℕ) (s t : State) → Releases s node ns t → t.members ≡ s.members
releases_members node [] s t e = ap (λ (u : State). u.members) e
releases_members node (n ∷ ns) s t e = releases_members node ns e.0 t e.2 ∙ whole_members s node (calls.Release n) Done e.0 e.1

unless_none : (q : Option Refusal) (s : State) (reply : Reply) (t : State) (P : Type 0) → q ≡ None → P → UnlessRefused q s reply t P
unless_none None s reply t P e p = p
unless_none (Some r) s reply t P e p = none-some r (sym e)

then_run : (node : ℕ) (x : Members) (cs : List Command) (u : State) → living_in x.nodes node ≡ None
    → (ns : List ℕ) (s t : State) → Releases s node ns t → IsRun (with_members t x) cs (map (λ c. Done) cs) u
    → IsRun (with_members s x) (map (λ n. commands.Port (Release node n)) ns ++ cs) (map (λ c. Done) (map (λ n. commands.Port (Release node n)) ns ++ cs)) u
then_run node x cs u live [] s t e run = subst (λ v. IsRun (with_members v x) cs (map (λ c. Done) cs) u) e run
then_run node x cs u live (n ∷ ns) s t e run = (
  with_members e.0 x,
  unless_none (not_living (with_members s x) node) (with_members s x) Done (with_members e.0 x)
      (IsWholeCall (with_members s x) node (calls.Release n) Done (with_members e.0 x)) live (release_with s x node n Done e.0 e.1),
  then_run node x cs u live ns e.0 t e.2 run,
)

-- ---- the leave

leaves : (s t : State) (node : ℕ) → living_in (map (lives node) s.members.nodes) node ≡ None → numbers_of_node s.fixed node ≡ []
    → t ≡ without_node s node → IsRun (with_members s (alive_in s.members node)) (Leave node ∷ []) (Done ∷ []) t
leaves s t node live none is =
    let v : State = with_members s (alive_in s.members node) in (
      t,
      unless_none (leaving_refusal v node) v Done t ((Done ≡ Done) × (t ≡ without_node v node))
          (ap₂ (λ o ns. or_else o (refused_if {A = Refusal} (not (is_empty ns)) HasPorts)) live none) (
            refl,
            is ∙ ap (λ left. with_members s (record (s.members) { nodes = left; closed = s.members.closed || is_empty left }))
                (sym (left_same node s.members.nodes)),
          ),
      refl,
    )

cleanup_run : (s t : State) (node : ℕ) (c : IsCleanup s node Done t) → not_dead s node ≡ None → numbers_of_node (c.0).fixed node ≡ []
    → IsRun (with_life s node) (releases_and_leave s.fixed node) (map (λ c. Done) (releases_and_leave s.fixed node)) t
cleanup_run s t node c dead none =
    let same : (c.0).members ≡ s.members = releases_members node (numbers_of_node s.fixed node) s c.0 c.1 in
    let live : living_in (map (lives node) s.members.nodes) node ≡ None = lives_now node s.members.nodes dead in
    then_run node (alive_in s.members node) (Leave node ∷ []) t live (numbers_of_node s.fixed node) s c.0 c.1
    (subst (λ (x : Members). IsRun (with_members c.0 (alive_in x node)) (Leave node ∷ []) (Done ∷ []) t) same
    (leaves c.0 t node (subst (λ (x : Members). living_in (map (lives node) x.nodes) node ≡ None) (sym same) live) none c.3))

pub cleanups_are_releases : CleanupsAreReleases
cleanups_are_releases s t node left = unrefused (not_dead s node) refl
  where
    unrefused : (q : Option Refusal) → not_dead s node ≡ q → UnlessRefused q s Done t (IsCleanup s node Done t)
        → IsRun (with_life s node) (releases_and_leave s.fixed node) (map (λ c. Done) (releases_and_leave s.fixed node)) t
    unrefused (Some r) e u = never_refused r Done _ (λ p. p) (sym u.0)
    unrefused None e c = cleanup_run s t node c e (nothing_left s c.0 node (left_calm s left) c.1)
