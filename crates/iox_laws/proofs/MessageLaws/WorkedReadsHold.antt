-- The worked history holds: it is played, and its words are those that were sent.
use Rattle.std.specs.Prelude.{true, [], ◌∷◌, refl}
use Rattle.iox_model.specs.declared.call.Call.TheVariants.{Read}
use Rattle.iox_model.specs.declared.reply.Reply.TheVariants as replies
use Rattle.iox_model.specs.declared.reply.Reply.TheVariants.{Nothing}
use Rattle.iox_model.specs.Runs.{IsHistory}
use Rattle.iox_model.specs.States.{State}
use Rattle.iox_model.specs.WholeCalls.{IsDone}
use Rattle.iox_laws.specs.WeaveLaws.Laws.{on_lane}
use Rattle.iox_laws.proofs.WeaveLaws.PlayedCalls.{end_of}
use Rattle.iox_laws.proofs.RunLaws.WorkedTracesHold.{outcome, left, s0, s1, s2, s3, s4, s5, sent_first, sent_second, received}
use Rattle.iox_laws.specs.MessageLaws.WorkedReads.{reads_one_of_two, ReadsTheFirst}

abbrev s6 : State
s6 = left s5 1 (Read 4) 0

abbrev was_read : IsDone s5 1 (Read 4) (replies.Words (7 ∷ [])) s6
was_read = (on_lane 0, (refl, refl), [], tt, outcome (end_of s5 1 (Read 4) (on_lane 0)), refl, [], tt, refl, refl)

abbrev history : IsHistory s0 reads_one_of_two s6
history =
    (s1, (true, (refl, refl)), (s2, (true, (refl, refl)), (s3, sent_first, (s4, sent_second, (s5, received, (s6, was_read, refl))))))

pub reads_the_first : ReadsTheFirst
reads_the_first = (s6, history, refl, refl)
