-- Questions about a request's state, and hints.
use Rattle.std.specs.Prelude.{Bool, true, false, not, ◌||◌, if◌then◌else◌, List, [], ◌∷◌}
use Rattle.iox_model.specs.declared.way.Way.{Way}
use Rattle.iox_model.specs.declared.way.RequestState.{RequestState}
use Rattle.iox_model.specs.declared.reply.Reply.TheVariants.{Done, Answer}
use Rattle.iox_model.specs.Doings.{Tells, Doing, Ended, Checking, Hinting}
use Rattle.iox_model.specs.States.{Handle}
use Rattle.iox_model.specs.Maps.{without_way}
use Rattle.iox_model.specs.Messages.{names, names_with_hint}

-- looks for the request with these ways left; once none is left, the answer is false
abbrev pub checking : Handle → Bool → List Way → Doing
checking h hinted [] = Ended (Tells (Answer false))
checking h hinted (w ∷ left) = Checking h hinted (w ∷ left)

-- whether the state names the handle's request, with a hint if that is asked
abbrev pub is_shown : Handle → Bool → RequestState → Bool
is_shown h hinted shown =
    if hinted then names_with_hint shown h.request else names shown h.request

-- after a look at one request state: the answer is true, or the looks continue on the ways left
abbrev pub checked : Handle → Bool → List Way → Way → RequestState → Doing
checked h hinted left w shown =
    if is_shown h hinted shown then Ended (Tells (Answer true))
    else checking h hinted (without_way w left)

-- sets the hint on the ways left, one after another
abbrev pub hinting : Handle → List Way → Doing
hinting h [] = Ended (Tells Done)
hinting h (w ∷ left) = Hinting h (w ∷ left)

-- a look shows that no hint is needed: it is there, or the request is not named
abbrev pub is_hinted_or_gone : Handle → RequestState → Bool
is_hinted_or_gone h shown = names_with_hint shown h.request || not (names shown h.request)
