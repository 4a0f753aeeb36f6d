-- What a step of a node is told: all follows from what stands, but for words of messages and for the
-- serial of a new loan.
use Rattle.std.specs.Prelude.{◌≡◌, ◌==◌, ◌*◌, ◌<◌, ◌++◌, ℕ, true, false, List, [], ◌∷◌, length, None}
use Rattle.iox_model.specs.declared.way.Way.{Way}
use Rattle.iox_model.specs.Joins.{not_living}
use Rattle.iox_model.specs.Settings.{is_client}
use Rattle.iox_model.specs.States.{State}
use Rattle.iox_steps.specs.Accesses.{seen_by}
use Rattle.iox_steps.specs.Fits.{write_of}
use Rattle.iox_steps.specs.Sites.{last_position}
use Rattle.iox_word_map.specs.WordMaps.{WireQueue}
use Rattle.iox_wire_steps.specs.Laws.{AccessIsMade}
use Rattle.iox_wire_steps.specs.Programs.{program_access, site_of}
use Rattle.iox_wire_steps.specs.MomentsOf.{Pools}
use Rattle.iox_wire_steps.specs.Ending.TheVariants.{Lends}
use Rattle.iox_wire_steps.specs.Local.{Local}
use Rattle.iox_wire_steps.specs.Local.TheVariants.{Ends, LendEmpties, LendStores, Reads, ReceiveAsks, ReceiveLoads}
use Rattle.iox_wire_steps.specs.Visit.{Visit}
use Rattle.iox_wire_steps.specs.Seat.{Seat}
use Rattle.iox_wire_steps.specs.Begins.{is_busy}
use Rattle.iox_wire_steps.specs.Locals.{program_of}
use Rattle.iox_wire_steps.specs.NewLoans.{lane_in, message_in, received_length, request_in}
use Rattle.iox_wire_steps.specs.Steps.{accessed, advance}
use Rattle.iox_wire_steps.specs.Tables.{Setting, port_shape, words_to_read}
use Rattle.iox_wire_steps.specs.OwnedCalls.{AsksOn}
use Rattle.iox_wire_steps.specs.Pushes.{PushesInto}
use Rattle.iox_wire_steps.specs.Following.{NoMessage}
use Rattle.iox_wire_steps.specs.FollowingLaws.{TakesNext}
use Rattle.iox_wire_steps.specs.Runs.{Run}
use Rattle.iox_wire_steps.specs.Stands.{Player, Stands, seats_of, word_of}
use Rattle.iox_wire_steps.specs.WholeSteps.{StepIsTold}
use Rattle.iox_wire_calls.specs.EndsTold.{HeaderIsTold}
use Rattle.iox_wire_calls.specs.Lanes.{AllLanesAreCounted}
use Rattle.iox_wire_calls.specs.Places.{CallFits}

-- a whole header tells the request of its message, and of a request its lane
abbrev pub HeaderTells : Setting → Pools → Visit → Way → ℕ → List ℕ → Type 0
HeaderTells p held v w slot header =
    (request_in v header ≡ (held w.sender slot).request)
    × (is_client v.role ≡ false
    → (lane_in v w header ≡ (held w.sender slot).lane) × AsksOn p v w header)

-- What a step is still to be told at its place.
abbrev pub MessageIsTold : Setting → Pools → State → Seat → ℕ → Local → Type 0
-- a loan that takes a slot has a serial that no other slot of its pool has
MessageIsTold p held s x seen (LendEmpties o w place left) =
    TakesNext p held s NoMessage (advance p (accessed x) (LendEmpties o w place left) seen).local
-- the slot of a loan in the making holds its message
MessageIsTold p held s x seen (LendStores o slot next) = held o.port slot ≡ message_in p o
-- a header that is loaded tells its message
MessageIsTold p held s x seen (ReceiveLoads v w slot header left waiting) =
    (length (header ++ seen ∷ []) == received_length v) ≡ true
    → HeaderTells p held v w slot (header ++ seen ∷ [])
MessageIsTold p held s x seen (ReceiveAsks v w slot header left waiting) =
    request_in v header ≡ (held w.sender slot).request
-- words that are read are those of the message
MessageIsTold p held s x seen (Reads e words) =
    (length (words ++ seen ∷ []) == words_to_read p e) ≡ true
    → words ++ seen ∷ [] ≡ (held e.sender e.slot).user ++ (held e.sender e.slot).payload
-- a request that was received was so by its header
MessageIsTold p held s x seen (Ends ending) = HeaderIsTold p held ending
MessageIsTold p held s x seen local = Unit {0}

-- the queue into which the place pushes is not at its last position
abbrev pub PushesBelow : Setting → (ℕ → ℕ) → Local → Type 0
PushesBelow p word local =
    (q : WireQueue) → PushesInto local q → write_of (site_of p.layout q) word < last_position

-- the payload is as long as a loan that is over says
abbrev pub PayloadFits : Setting → List ℕ → Local → Type 0
PayloadFits p payload (Ends (Lends o slot)) =
    length payload ≡ o.elements * (port_shape p o.port).width
PayloadFits p payload local = Unit {0}

-- Such a step of a living node with a call, as the node is shown, is told what is so.
abbrev pub StepsAreTold : Type 0
StepsAreTold =
    (p : Setting) (words words' : List ℕ) (players : ℕ → Player) (r : Run) (n : ℕ)
    (payload : List ℕ) (stands : Stands p words players r)
    → not_living r.last.state n ≡ None
    → let x = seats_of p players n in let access = program_access p.layout (program_of p x.local) in
    let seen = seen_by access (word_of words) in
    is_busy x.local ≡ true → CallFits p x → AllLanesAreCounted p x
    → PushesBelow p (word_of words) x.local
    → MessageIsTold p stands.held r.last.state x seen x.local
    → PayloadFits p payload (advance p (accessed x) x.local seen).local
    → AccessIsMade access (word_of words) (word_of words')
    → StepIsTold p stands.held r.last.state x seen payload
