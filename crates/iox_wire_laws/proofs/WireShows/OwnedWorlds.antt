-- The laws of an access and of its next place, together.
use Rattle.iox_steps.specs.Accesses.{seen_by}
use Rattle.iox_wire_words.specs.Programs.{program_access}
use Rattle.iox_wire_locals.specs.Locals.{program_of}
use Rattle.iox_wire_laws.specs.WireShows.OwnedSteps.{OwnedStepsGoOn}
use Rattle.iox_wire_laws.proofs.WireShows.OwnedCalls.{owned_calls_own_places}
use Rattle.iox_wire_laws.proofs.WireShows.OwnedSteps.{steps_own_the_next_place}
use Rattle.iox_wire_laws.proofs.WireShows.StepsShow.{steps_show_the_world}

pub owned_steps_go_on : OwnedStepsGoOn
owned_steps_go_on p held word word' c seats w n shows living owns lane limits tells relies made = (
  steps_show_the_world p held word word' c seats w n shows living (owned_calls_own_places p held w.state (seats n) owns lane).0
      (owned_calls_own_places p held w.state (seats n) owns lane).1 relies made,
  steps_own_the_next_place p held w.state (seats n) (seen_by (program_access p.layout (program_of p (seats n).local)) word) owns limits relies tells,
)
