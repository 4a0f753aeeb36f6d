-- The calls of nodes that are under way after some beats, and when nodes died; and how many words of calls
-- a wire keeps.
use Rattle.std.specs.Prelude.{ℕ, ◌+◌, List, [], ◌∷◌, Option, None, Some, max, take}
use Rattle.std.specs.List.{fold}
use Rattle.iox_model.specs.Maps.{put_at}
use Rattle.iox_model.specs.Schedules.{Finished, UnderWay}
use Rattle.iox_model.specs.WireCalls.{WordsCall, in_wire_words, with_payloads}
use Rattle.iox_model.specs.Weaves.{Beat, Begins, Dies, Ends, Makes}
use Rattle.iox_model.specs.declared.call.WireCall.TheVariants.{Forget, Port}
use Rattle.iox_wire_nodes.specs.WirePlan.{WirePlan}

-- ---- calls under way

-- the calls under way after these beats, with those under way before them, after so many moments
abbrev pub under_way_from : ℕ → (ℕ → Option UnderWay) → List Beat → ℕ → Option UnderWay
under_way_from events under [] = under
under_way_from events under (Begins node call c ∷ bs) =
    under_way_from events
    (put_at under node (Some (record { call = in_wire_words call; begun = events }))) bs
under_way_from events under (Makes node m ∷ bs) = under_way_from (events + 1) under bs
under_way_from events under (Ends node reply payload ∷ bs) =
    under_way_from events (put_at under node None) bs
under_way_from events under (Dies node ∷ bs) = under_way_from events under bs

-- the calls under way after beats that start with none under way; a dead node's stays
abbrev pub under_way : List Beat → ℕ → Option UnderWay
under_way bs = under_way_from 0 (λ n. None) bs

-- after how many moments nodes died in these beats, with those that died before them, after so many
abbrev pub died_from : ℕ → (ℕ → Option ℕ) → List Beat → ℕ → Option ℕ
died_from events died [] = died
died_from events died (Begins node call c ∷ bs) = died_from events died bs
died_from events died (Makes node m ∷ bs) = died_from (events + 1) died bs
died_from events died (Ends node reply payload ∷ bs) = died_from events died bs
died_from events died (Dies node ∷ bs) = died_from events (put_at died node (Some events)) bs

-- after how many moments of the beats nodes died
abbrev pub died_after : List Beat → ℕ → Option ℕ
died_after bs = died_from 0 (λ n. None) bs

-- ---- words

-- the most words that a message takes in a slot of the plan's ports
abbrev pub most_words : WirePlan → ℕ
most_words plan = fold (λ most port. max most port.slot_words) 0 plan.ports.items

-- a call, with no more than so many words of its payload
abbrev pub call_within : ℕ → WordsCall → WordsCall
call_within most (Port call) =
    Port (with_payloads (λ n words. take most words) (λ n words. take most words) call)
call_within most (Forget dead) = Forget dead

-- so it is of a call under way
abbrev pub under_way_within : ℕ → UnderWay → UnderWay
under_way_within most u = record { call = call_within most u.call; begun = u.begun }

-- and of a finished one, whose reply is whole
abbrev pub finished_within : ℕ → Finished → Finished
finished_within most f = record {
  node = f.node;
  call = call_within most f.call;
  reply = f.reply;
  begun = f.begun;
  ended = f.ended;
}
