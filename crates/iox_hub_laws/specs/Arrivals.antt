-- What a send brings to the ways of those who receive.
use Rattle.std.specs.Prelude.{◌≡◌, ℕ, ◌-◌, Bool, true, false, ◌||◌, nat_lt, if◌then◌else◌, List, [], ◌∷◌, ◌++◌, length, drop}
use Rattle.iox_model.specs.declared.way.Way.{Way}
use Rattle.iox_model.specs.Maps.{has_way}
use Rattle.iox_model.specs.Messages.{Message}
use Rattle.iox_model.specs.Peers.{buffer_on, overflows_on}
use Rattle.iox_model.specs.States.{State}

-- the newest so many of a list, oldest first
abbrev pub newest : {A : Type 0} → ℕ → List A → List A
newest k xs = drop (length xs - k) xs

-- whether the way takes one more message: it overflows, or fewer wait than its buffer holds
abbrev pub takes_more : State → Way → Bool
takes_more s w = overflows_on s.fixed w || nat_lt (length (s.waiting w)) (buffer_on s.fixed w)

-- What waits on the way once the message was sent there: it comes last, and of all only the newest
-- stay, as many as the buffer holds. A full way that does not overflow is skipped.
abbrev pub with_last : State → Way → Message → List Message
with_last s w m =
    if takes_more s w then newest (buffer_on s.fixed w) (s.waiting w ++ m ∷ []) else s.waiting w

-- The message was sent on each of these ways, and what is waiting elsewhere stays.
pub record IsSentOn (ways : List Way) (old : State) (m : Message) (new : State) : Type 0 where
  pub sent : (w : Way) → has_way w ways ≡ true → new.waiting w ≡ with_last old w m
  pub others : (w : Way) → has_way w ways ≡ false → new.waiting w ≡ old.waiting w
