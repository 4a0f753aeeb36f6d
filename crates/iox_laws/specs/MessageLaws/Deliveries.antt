-- The messages that beats deliver and take: whole ones, with header, user header and payload.
use Rattle.std.specs.Prelude.{if◌then◌else◌, List, [], ◌∷◌, flat_map}
use Rattle.iox_model.specs.declared.way.Way.{Way}
use Rattle.iox_model.specs.Maps.{same_way}
use Rattle.iox_model.specs.Messages.{Message}
use Rattle.iox_model.specs.Moments.{Deliver, Take}
use Rattle.iox_model.specs.Weaves.{Beat, Makes}

-- the message that a beat delivers on the way, if it delivers one
abbrev pub message_put_on : Way → Beat → List Message
message_put_on y (Makes node (Deliver w m)) = if same_way y w then m ∷ [] else []
message_put_on y b = []

-- the message that a beat takes from the way, if it takes one
abbrev pub message_taken_from : Way → Beat → List Message
message_taken_from y (Makes node (Take w m)) = if same_way y w then m ∷ [] else []
message_taken_from y b = []

-- the messages delivered on the way, in order
abbrev pub messages_put_on : Way → List Beat → List Message
messages_put_on y bs = flat_map (message_put_on y) bs

-- the messages taken from the way, in order
abbrev pub messages_taken_from : Way → List Beat → List Message
messages_taken_from y bs = flat_map (message_taken_from y) bs
