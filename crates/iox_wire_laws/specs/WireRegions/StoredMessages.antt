-- Slots that hold their messages: what the words of a region tell of them.
use Rattle.std.specs.Prelude.{◌≡◌, ℕ, ◌+◌, ◌*◌, ◌<◌, ◌≤◌, List, length, slice_index, ◌++◌}
use Rattle.iox_wire_words.specs.Fits.{WireContents}
use Rattle.iox_wire_moments.specs.MomentsOf.{Pools}
use Rattle.iox_wire_locals.specs.declared.local.Local.{Local}
use Rattle.iox_wire_locals.specs.declared.local.Local.TheVariants.{LendStores, Writes}
use Rattle.iox_wire_locals.specs.Stored.{header_words, message_words}
use Rattle.iox_wire_locals.specs.Tables.{Setting, port_shape, region_word}
use Rattle.iox_wire_laws.specs.WireRegions.Regions.{HasRegion}

-- ---- what a slot holds

-- the words of the message in a slot
abbrev pub words_in : Setting → Pools → (port slot : ℕ) → List ℕ
words_in p held port slot = message_words (p.port port).role (held port slot)

-- the header's words of that message
abbrev pub header_in : Setting → Pools → (port slot : ℕ) → List ℕ
header_in p held port slot = header_words (p.port port).role (held port slot)

-- so many words of the list stand in the slot, from this word of it on
abbrev pub StandFrom : Setting → WireContents → (port slot from : ℕ) → List ℕ → ℕ → Type 0
StandFrom p c port slot from words count =
    (k : ℕ) → k < count → c.stored port (region_word p port slot (from + k)) ≡ slice_index words k

-- the slot holds its message: all words of it stand there
abbrev pub HoldsMessage : Setting → Pools → WireContents → (port slot : ℕ) → Type 0
HoldsMessage p held c port slot =
    StandFrom p c port slot 0 (words_in p held port slot) (length (words_in p held port slot))

-- A slot of a port's pool, whose message is of the port's shape and no longer than the slot is for.
pub record HasMessage (p : Setting) (held : Pools) (port slot : ℕ) : Type 0 where
  pub region : HasRegion p port
  pub in_pool : slot < (p.port port).pool
  pub user : length (held port slot).user ≡ length (port_shape p port).user
  pub payload : length (held port slot).payload
      ≡ (held port slot).elements * (port_shape p port).width
  pub room : (held port slot).elements ≤ (p.port port).longest

-- ---- what a call has stored and loaded

-- these words are the first of the list
abbrev pub AreFirst : List ℕ → List ℕ → Type 0
AreFirst words list = (rest : List ℕ) × (words ++ rest ≡ list)

-- the place of the call stores into this slot
abbrev pub StoresInto : Local → (port slot : ℕ) → Type 0
StoresInto (LendStores o own next) port slot = (port ≡ o.port) × (slot ≡ own)
StoresInto (Writes e words next) port slot = (port ≡ e.port) × (slot ≡ e.slot)
StoresInto local port slot = ⊥
