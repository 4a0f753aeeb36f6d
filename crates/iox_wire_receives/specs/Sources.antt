-- Where the words of the ways stand that a receive visits.
use Rattle.std.specs.Prelude.{◌≡◌, ℕ, ◌+◌, ◌*◌, ◌<◌, ◌≤◌, ◌^◌, List, [], ◌∷◌, map}
use Rattle.iox_model.specs.declared.way.Way.{Way}
use Rattle.iox_model.specs.Maps.{has_number}
use Rattle.iox_model.specs.Messages.{response_way}
use Rattle.iox_model.specs.Peers.{forgot_port, borrow_limit_on}
use Rattle.iox_model.specs.declared.kind.Role.TheVariants.{Client}
use Rattle.iox_steps.specs.declared.site.QueueKind.TheVariants.{Index}
use Rattle.iox_steps.specs.declared.site.Site.{Site}
use Rattle.iox_word_map.specs.WordMaps.{MessageQueue, ReturningQueue}
use Rattle.iox_wire_words.specs.Programs.{site_of, state_place, word_place}
use Rattle.iox_wire_locals.specs.declared.seat.Seat.{Seat}
use Rattle.iox_wire_locals.specs.Stored.{header_length}
use Rattle.iox_wire_locals.specs.Tables.{Setting, region_word}
use Rattle.iox_wire_locals.specs.Known.{known}
use Rattle.iox_wire_seats.specs.Aims.{IsInMemory}
use Rattle.iox_wire_receives.specs.declared.source.Source.{Source}
use Rattle.iox_wire_receives.specs.declared.source.ReceiveTerms.{ReceiveTerms}

-- the ways of sources
abbrev pub ways_of : List Source → List Way
ways_of sources = map (λ s. s.way) sources

-- where the messages of a source wait, and where they return
abbrev pub messages_at : ReceiveTerms → Source → Site
messages_at t s = record { kind = t.kind; base = s.place; capacity = t.capacity }

-- where the messages of a source return
abbrev pub returning_at : ReceiveTerms → Source → Site
returning_at t s = record { kind = Index; base = s.place + t.back; capacity = t.room }

-- ---- memory

-- What stands there is in memory, and each slot has room for a header of so many words.
pub record IsWithin (t : ReceiveTerms) (header : ℕ) (s : Source) : Type 0 where
  pub messages : IsInMemory (messages_at t s)
  pub returning : IsInMemory (returning_at t s)
  pub slots : s.region + s.slots * s.slot_words < 2 ^ 64
  pub room : header ≤ s.slot_words
  pub states : s.place + t.state + s.lanes * t.lane_words < 2 ^ 64

-- what stands there of each source is in memory
abbrev pub AreWithin : ReceiveTerms → ℕ → List Source → Type 0
AreWithin t header [] = Unit {0}
AreWithin t header (s ∷ sources) = IsWithin t header s × AreWithin t header sources

-- ---- the wire

-- The words of the way stand there on the wire, with so many in a header, its sender is of that
-- node, and so many of its messages may be handles.
pub record IsSource (p : Setting) (t : ReceiveTerms) (header : ℕ) (s : Source) : Type 0 where
  pub messages : messages_at t s ≡ site_of p.layout (MessageQueue s.way)
  pub returning : returning_at t s ≡ site_of p.layout (ReturningQueue s.way)
  -- the words of each header
  pub words : (slot k : ℕ) → slot < s.slots → k < header
      → s.region + slot * s.slot_words + k
      ≡ word_place p.layout s.way.sender (region_word p s.way.sender slot k)
  -- the request state of each lane
  pub states : (lane : ℕ) → lane < s.lanes
      → s.place + t.state + lane * t.lane_words
      ≡ state_place p.layout (response_way s.way.sender lane s.way.receiver)
  -- so many slots the sender has, and so many lanes where the header is that of requests
  pub pool : s.slots ≡ (p.port s.way.sender).pool
  pub lanes : header ≡ header_length Client → s.lanes ≡ p.layout.sizes.lanes s.way.sender
  pub node : (x : Seat) → forgot_port (known p x) x.node s.way.sender ≡ has_number s.node x.forgot
  pub limit : (x : Seat) → borrow_limit_on (known p x) s.way ≡ t.limit

-- each is a source of the wire
abbrev pub AreSources : Setting → ReceiveTerms → ℕ → List Source → Type 0
AreSources p t header [] = Unit {0}
AreSources p t header (s ∷ sources) = IsSource p t header s × AreSources p t header sources
