-- Where the messages of a port stand, and what the wire tells of a port that lends.
use Rattle.std.specs.Prelude.{◌≡◌, ◌+◌, ◌-◌, ◌*◌, ◌<◌, ◌≤◌, ◌^◌, ℕ, if◌then◌else◌, nat_lt, nat_le, List, [], ◌∷◌, ◌++◌, length}
use Rattle.iox_model.specs.Loans.{fits_size}
use Rattle.iox_model.specs.declared.kind.Role.TheVariants.{Client, Server}
use Rattle.iox_steps.specs.declared.site.QueueKind.TheVariants.{Index}
use Rattle.iox_types.specs.Identifiers.{id_words}
use Rattle.iox_types.specs.Places.{aligned_place}
use Rattle.iox_word_map.specs.WordMaps.{ReturningQueue}
use Rattle.iox_wire_words.specs.Programs.{site_of, word_place}
use Rattle.iox_wire_locals.specs.Stored.{header_length}
use Rattle.iox_wire_locals.specs.Tables.{Setting, port_shape, region_word}
use Rattle.iox_wire_seats.specs.Aims.{queue_at}
use Rattle.iox_wire_seats.specs.declared.stops.Stop.{Stop}
use Rattle.iox_wire_loans.specs.declared.lender.Lender.{Lender}
use Rattle.iox_wire_loans.specs.declared.slot_places.SlotPlaces.{SlotPlaces}

-- ---- the words of a slot

-- how far behind the first slot a slot begins, and its user header
abbrev pub start_in : SlotPlaces → ℕ → ℕ
start_in t slot = slot * t.slot_words

-- how far behind the first slot the user header of a slot begins
abbrev pub user_in : SlotPlaces → ℕ → ℕ
user_in t slot = aligned_place (start_in t slot + t.header) t.step

-- where word k of a message stands whose header of so many words, and whose user header, are there
abbrev pub word_at : (header first user k : ℕ) → ℕ
word_at header first user k = if nat_lt k header then first + k else user + (k - header)

-- where word k of the message in a slot stands
abbrev pub place_in : SlotPlaces → (slot k : ℕ) → ℕ
place_in t slot k = word_at t.header (t.region + start_in t slot) (t.region + user_in t slot) k

-- Its slots are in memory, and each has room for both headers, wherever the user header begins.
pub record IsWithin (t : SlotPlaces) : Type 0 where
  pub some : 0 < t.slots
  pub header : 0 < t.header
  pub slots : t.region + t.slots * t.slot_words < 2 ^ 64
  pub step : 0 < t.step
  pub room : t.header + (t.step - 1) + t.user ≤ t.slot_words

-- So many slots the port has, and the words of both headers stand there on the wire, in each slot.
pub record AreSlots (p : Setting) (port : ℕ) (t : SlotPlaces) : Type 0 where
  pub pool : t.slots ≡ (p.port port).pool
  pub words : (slot k : ℕ) → slot < t.slots → k < t.header + t.user
      → place_in t slot k ≡ word_place p.layout port (region_word p port slot k)

-- ---- a port

-- The port is told with the words of its headers, and there is room for them in each slot.
pub record IsWhole (t : Lender) : Type 0 where
  pub ids : length t.ids.now ≡ 4
  pub header : t.places.header ≡ header_length t.role
  pub user : t.places.user ≡ length t.user.now
  pub within : IsWithin t.places

-- What is known about the port is so on the wire, as far as all loans ask it.
pub record LenderIsTold (p : Setting) (t : Lender) : Type 0 where
  pub number : (p.port t.port).number ≡ t.port
  pub role : (p.port t.port).role ≡ t.role
  -- how many elements a message may have
  pub many : (port_shape p t.port).many ≡ t.many
  pub longest : (k : ℕ) → fits_size (p.port t.port) (port_shape p t.port) k ≡ nat_le k t.longest
  -- the words of its identifiers, and of its user header
  pub ids : t.ids.now ≡ id_words (p.port t.port).node_id ++ id_words (p.port t.port).id
  pub user : t.user.now ≡ (port_shape p t.port).user
  pub slots : AreSlots p t.port t.places

-- So many loans a client may have, and that number is no lane of it.
pub record HasClientLimits (p : Setting) (t : Lender) : Type 0 where
  pub role : t.role ≡ Client
  pub limit : p.limits.loaned_requests ≡ t.limit
  pub pool : (p.port t.port).pool ≡ t.pool

-- So many loans a server may have for one request, and so many in all.
pub record HasServerLimits (p : Setting) (t : Lender) : Type 0 where
  pub role : t.role ≡ Server
  pub each : (p.port t.port).loaned_responses ≡ t.each
  pub limit :
      (p.port t.port).loaned_responses * p.limits.active_requests * p.limits.clients ≡ t.limit

-- ---- its ways

-- the messages of these ways return there, in queues of that capacity
abbrev pub AreReturning : Setting → ℕ → List Stop → Type 0
AreReturning p room [] = Unit {0}
AreReturning p room (s ∷ stops) =
    (queue_at Index room s ≡ site_of p.layout (ReturningQueue s.way)) × AreReturning p room stops
