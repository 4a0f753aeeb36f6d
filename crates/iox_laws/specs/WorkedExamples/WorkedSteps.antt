-- Worked histories of a hub, in which holders fill loans and release values.
use Rattle.std.specs.Prelude.{◌≡◌, ℕ, List, [], ◌∷◌}
use Rattle.iox_model.specs.declared.kind.Kind.{Kind}
use Rattle.iox_model.specs.declared.kind.Kind.TheVariants.{RequestMutUninit, RequestMut}
use Rattle.iox_model.specs.declared.kind.Role.TheVariants.{Client}
use Rattle.iox_model.specs.declared.call.Call.TheVariants.{LoanUninit, Write, Read}
use Rattle.iox_model.specs.declared.reply.Reply.TheVariants.{Done, Words}
use Rattle.iox_model.specs.declared.reply.Reply.TheVariants as replies
use Rattle.iox_model.specs.Commands.{Create, Use}
use Rattle.iox_model.specs.Runs.{ServiceStep, OfHub, OfLoan, OfValue, IsHistory}
use Rattle.iox_model.specs.States.{State}
use Rattle.iox_model.specs.Values.{Filling}
use Rattle.iox_model.specs.Defaults.{defaults}
use Rattle.iox_laws.specs.WorkedExamples.Examples.{of_length_one, process, service, request_saying}

-- what a holder wrote so far
abbrev pub wrote : Kind → List ℕ → ℕ → Filling
wrote kind payload count = record { kind = kind; user = []; payload = payload; count = count }

-- client 0 of node 0 has a loan of one element, handed out unfilled
abbrev pub with_a_loan : List ServiceStep → List ServiceStep
with_a_loan rest =
    OfHub 0 (Create Client (process 1) of_length_one) (replies.Client 0)
    ∷ OfHub 0 (Use (LoanUninit 0 1)) (replies.Handle 1) ∷ rest

-- The holder writes 5, writes 6 in its place and calls it filled: it reads 6.
abbrev pub fills : List ServiceStep
fills =
    with_a_loan (OfLoan 0 1 (wrote RequestMutUninit (5 ∷ []) 1) ∷ OfLoan 0 1 (wrote RequestMut (6 ∷ []) 1)
    ∷ OfHub 0 (Use (Read 1)) (Words (6 ∷ [])) ∷ [])

-- In a worked history the holder of a loan writes 5, then 6 in its place, and a read gives 6.
abbrev pub FillsALoan : Type 0
FillsALoan = (t : State) × IsHistory (service defaults) fills t

-- A command writes the loan; the release of its value, which was handed out unfilled, still frees it.
abbrev pub writes_and_releases : List ServiceStep
writes_and_releases =
    with_a_loan (OfHub 0 (Use (Write 1 (request_saying 5))) Done ∷ OfValue 0 1 RequestMutUninit ∷ [])

-- In a worked history a command writes a loan, and the release of its value still frees it.
abbrev pub ReleasesAWrittenLoan : Type 0
ReleasesAWrittenLoan =
    (t : State) × IsHistory (service defaults) writes_and_releases t × (t.fixed.handles 0 ≡ [])
