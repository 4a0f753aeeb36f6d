-- The texts of the messaging patterns.
use Rattle.std.specs.Prelude.{ℕ, List, codes}
use Rattle.iox_names.specs.declared.messaging_pattern.MessagingPattern.{MessagingPattern}
use Rattle.iox_names.specs.declared.messaging_pattern.MessagingPattern.TheVariants.{RequestResponse, PublishSubscribe, Event, Blackboard}

-- the text by which a messaging pattern is shown
abbrev pub pattern_text : MessagingPattern → List ℕ
pattern_text RequestResponse = codes "RequestResponse"
pattern_text PublishSubscribe = codes "PublishSubscribe"
pattern_text Event = codes "Event"
pattern_text Blackboard = codes "Blackboard"
