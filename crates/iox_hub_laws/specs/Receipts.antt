-- What comes next on a way.
use Rattle.std.specs.Prelude.{◌≡◌, false, [], ◌∷◌, ◌++◌, List}
use Rattle.iox_model.specs.declared.way.Way.{Way}
use Rattle.iox_model.specs.Maps.{has_number}
use Rattle.iox_model.specs.Messages.{Message, serials_of}
use Rattle.iox_model.specs.Weaves.{Beat}
use Rattle.iox_laws.specs.MessageLaws.Deliveries.{messages_put_on, messages_taken_from}
use Rattle.iox_laws.specs.MessageLaws.Lists.{GivesThese, IsOneOf}

-- After these beats the message comes next on the way. It was delivered there, whole. It was not
-- taken before, and comes behind all that were.
pub record ComesNext (y : Way) (m : Message) (bs : List Beat) : Type 0 where
  pub delivered : IsOneOf m (messages_put_on y bs)
  pub new : has_number m.serial (serials_of (messages_taken_from y bs)) ≡ false
  pub order : GivesThese (messages_put_on y bs) (messages_taken_from y bs ++ m ∷ [])
