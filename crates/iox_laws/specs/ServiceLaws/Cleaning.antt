-- A cleanup is what the node itself would have done: it releases what it has, and leaves.
use Rattle.std.specs.Prelude.{ℕ, if◌then◌else◌, ◌==◌, List, [], ◌∷◌, ◌++◌, map, true, IsTrue}
use Rattle.iox_model.specs.declared.command.Command.TheVariants.{Leave, Cleanup}
use Rattle.iox_model.specs.declared.command.Command.TheVariants as commands
use Rattle.iox_model.specs.declared.command.PortCommand.TheVariants.{Release}
use Rattle.iox_model.specs.declared.reply.Reply.TheVariants.{Done}
use Rattle.iox_model.specs.Commands.{Command}
use Rattle.iox_model.specs.Joins.{with_members}
use Rattle.iox_model.specs.Runs.{IsRun, IsReachableState}
use Rattle.iox_model.specs.Services.{numbers_of_node, IsCommand}
use Rattle.iox_model.specs.States.{Node, Fixed, State}
use Rattle.iox_laws.specs.ServiceLaws.Listings.{are_ascending}

-- the node, living if it has this number
abbrev pub lives : ℕ → Node → Node
lives node m = if m.number == node then record m { alive = true } else m

-- the same state, but with this node living
abbrev pub with_life : State → ℕ → State
with_life s node =
    with_members s (record (s.members) { nodes = map (lives node) s.members.nodes })

-- the node releases each of its values, by their numbers, and then leaves
abbrev pub releases_and_leave : Fixed → ℕ → List Command
releases_and_leave f node =
    map (λ n. commands.Port (Release node n)) (numbers_of_node f node) ++ Leave node ∷ []

-- The cleanup of a dead node leaves the state that these commands leave if the node lives. Each of
-- them is done, none is refused.
abbrev pub CleanupsAreReleases : Type 0
CleanupsAreReleases =
    (s t : State) (node : ℕ) → IsReachableState s → IsCommand s (Cleanup node) Done t
    → IsRun (with_life s node) (releases_and_leave s.fixed node)
    (map (λ c. Done) (releases_and_leave s.fixed node)) t

-- The numbers of a node's ports and handles ascend, so that none comes twice.
abbrev pub ReleasesAscend : Type 0
ReleasesAscend =
    (s : State) (node : ℕ) → IsReachableState s
    → IsTrue (are_ascending (numbers_of_node s.fixed node))
