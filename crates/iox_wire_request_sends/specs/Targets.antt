-- Where the words stand of the servers to which a request goes.
use Rattle.std.specs.Prelude.{◌≡◌, ℕ, ◌+◌, ◌<◌, ◌^◌, Bool, false, not, List, [], ◌∷◌, map, filter, reverse}
use Rattle.iox_model.specs.declared.way.Way.{Way}
use Rattle.iox_model.specs.Maps.{has_number}
use Rattle.iox_model.specs.Messages.{request_way, response_way}
use Rattle.iox_steps.specs.declared.site.QueueKind.TheVariants.{Index}
use Rattle.iox_steps.specs.declared.site.Site.{Site}
use Rattle.iox_word_map.specs.WordMaps.{MessageQueue, ReturningQueue}
use Rattle.iox_wire_words.specs.Programs.{site_of, state_place}
use Rattle.iox_wire_locals.specs.declared.table.Entry.{Entry}
use Rattle.iox_wire_locals.specs.Tables.{Setting}
use Rattle.iox_wire_seats.specs.Aims.{IsInMemory}
use Rattle.iox_wire_request_sends.specs.declared.target.RequestTerms.{RequestTerms}
use Rattle.iox_wire_request_sends.specs.declared.target.Target.{Target}

-- All servers of a send, those left in a round, and for how many there is room.
pub record Round : Type 0 where
  pub all : List Target
  pub left : List Target
  pub room : ℕ

-- their numbers
abbrev pub servers_of : List Target → List ℕ
servers_of targets = map (λ t. t.server) targets

-- the ways of a client's requests to them
abbrev pub ways_to : ℕ → List Target → List Way
ways_to client targets = map (request_way client) (servers_of targets)

-- the ways on which the request states of a lane lie
abbrev pub states_to : ℕ → ℕ → List Target → List Way
states_to client lane targets = map (response_way client lane) (servers_of targets)

-- the ways to servers that were seen full, the last one first
abbrev pub full_ways : ℕ → List ℕ → List Way
full_ways client full = map (request_way client) (reverse full)

-- those that are not among the full ones
abbrev pub with_room : List ℕ → List Target → List Target
with_room full targets = filter (λ t. not (has_number t.server full)) targets

-- whether a send fails at those that were seen full
abbrev pub fails_at_full : Bool → List ℕ → Bool
fails_at_full fails [] = false
fails_at_full fails (server ∷ full) = fails

-- ---- places

-- where requests wait for a server, and where they return
abbrev pub messages_at : RequestTerms → Target → Site
messages_at t s = record { kind = t.kind; base = s.place; capacity = t.capacity }

-- where requests return from a server
abbrev pub returning_at : RequestTerms → Target → Site
returning_at t s = record { kind = Index; base = s.place + t.back; capacity = t.room }

-- where the request state stands
abbrev pub state_at : RequestTerms → Target → ℕ
state_at t s = s.place + t.state

-- ---- memory

-- What stands there is in memory.
pub record IsWithin (t : RequestTerms) (s : Target) : Type 0 where
  pub messages : IsInMemory (messages_at t s)
  pub returning : IsInMemory (returning_at t s)
  pub state : state_at t s < 2 ^ 64

-- what stands there of each server is in memory
abbrev pub AreWithin : RequestTerms → List Target → Type 0
AreWithin t [] = Unit {0}
AreWithin t (s ∷ targets) = IsWithin t s × AreWithin t targets

-- ---- the wire

-- The words of that server stand there on the wire, for the send of that loan.
pub record IsTarget (p : Setting) (t : RequestTerms) (loan : Entry) (s : Target) : Type 0 where
  pub messages :
      messages_at t s ≡ site_of p.layout (MessageQueue (request_way loan.port s.server))
  pub returning :
      returning_at t s ≡ site_of p.layout (ReturningQueue (request_way loan.port s.server))
  pub state :
      state_at t s ≡ state_place p.layout (response_way loan.port loan.lane s.server)

-- each is a server of the wire
abbrev pub AreTargets : Setting → RequestTerms → Entry → List Target → Type 0
AreTargets p t loan [] = Unit {0}
AreTargets p t loan (s ∷ targets) = IsTarget p t loan s × AreTargets p t loan targets
