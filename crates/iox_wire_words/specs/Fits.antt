-- What the words of a wire hold while each node is somewhere in a program.
use Rattle.std.specs.Prelude.{◌≡◌, ℕ, ◌<◌, true, if◌then◌else◌, ◌==◌}
use Rattle.iox_word_map.specs.Way.{Way}
use Rattle.iox_word_map.specs.Maps.{has_number, put, put_at}
use Rattle.iox_steps.specs.declared.site.Site.{Site}
use Rattle.iox_steps.specs.declared.side.Pushing.{Pushing}
use Rattle.iox_steps.specs.declared.side.Popping.{Popping}
use Rattle.iox_steps.specs.Sites.{size}
use Rattle.iox_steps.specs.Sides.{pushing_event, popping_event}
use Rattle.iox_steps.specs.EventLists.{QueueState, state_after}
use Rattle.iox_steps.specs.Fits.{write_of, Fits}
use Rattle.iox_word_map.specs.WordMaps.{WireQueue, QueueWords, IsQueue, IsResponseWay, piece_size}
use Rattle.iox_wire_words.specs.Programs.{same_queue, WireLayout, site_of, pusher_of, popper_of, Program, Rests, Pushes, Pops, LoadsState, StoresState, ExchangesState, LoadsWord, StoresWord, pushing_in, popping_in, state_place, word_place}

-- what the words of a wire hold
pub record WireContents : Type 0 where
  -- each queue as a list
  pub queues : WireQueue → QueueState
  -- the word of each request state
  pub state : Way → ℕ
  -- the words of each port's region
  pub stored : ℕ → ℕ → ℕ

-- each queue has as many words as the map gives it
abbrev pub IsSized : WireLayout → Type 0
IsSized p = (q : WireQueue) → IsQueue p.sizes q → size (site_of p q) ≡ piece_size p.sizes (QueueWords q)

-- the words of a queue and its two parties are those of this state
abbrev pub QueueFits : Site → (ℕ → ℕ) → QueueState → Pushing → Popping → Type 0
QueueFits site word state pushes pops = (write_of site word ≡ state.write)
    × Fits site word state.waiting state.hand pushes pops

-- the words are those of these contents, while each node runs its program; `word` reads a word by its
-- place
pub record WordsFit (p : WireLayout) (word : ℕ → ℕ) (programs : ℕ → Program) (c : WireContents) : Type 0 where
  pub queues : (q : WireQueue) → IsQueue p.sizes q
      → QueueFits (site_of p q) word (c.queues q)
      (pushing_in q (programs (pusher_of p q))) (popping_in q (programs (popper_of p q)))
  pub states : (y : Way) → IsResponseWay p.sizes y → word (state_place p y) ≡ c.state y
  pub regions : (port k : ℕ) → has_number port p.sizes.ports ≡ true → k < p.sizes.region port
      → word (word_place p port k) ≡ c.stored port k

-- ---- one access

-- the contents with another state of this queue
abbrev pub with_queue : WireContents → WireQueue → QueueState → WireContents
with_queue c q state = record c { queues = λ r. if same_queue r q then state else c.queues r }

-- the contents with another word for this request state
abbrev pub with_state : WireContents → Way → ℕ → WireContents
with_state c way value = record c { state = put c.state way value }

-- the contents with another word in this port's region
abbrev pub with_word : WireContents → ℕ → ℕ → ℕ → WireContents
with_word c port number value =
    record c { stored = put_at c.stored port (put_at (c.stored port) number value) }

-- the contents after the next access of a program, which found `seen`
abbrev pub contents_after : WireLayout → Program → ℕ → WireContents → WireContents
contents_after p Rests seen c = c
contents_after p (Pushes q place) seen c =
    with_queue c q (state_after (pushing_event (site_of p q) place seen) (c.queues q))
contents_after p (Pops q place) seen c =
    with_queue c q (state_after (popping_event (site_of p q) place seen) (c.queues q))
contents_after p (LoadsState way) seen c = c
contents_after p (StoresState way value) seen c = with_state c way value
contents_after p (ExchangesState way old new) seen c =
    with_state c way (if c.state way == old then new else c.state way)
contents_after p (LoadsWord port number) seen c = c
contents_after p (StoresWord port number value) seen c = with_word c port number value

-- the node may run the program: it is one of its own queues, or of a request state or word that the
-- wire has
abbrev pub MayRun : WireLayout → ℕ → Program → Type 0
MayRun p n Rests = Unit {0}
MayRun p n (Pushes q place) = IsQueue p.sizes q × (pusher_of p q ≡ n)
MayRun p n (Pops q place) = IsQueue p.sizes q × (popper_of p q ≡ n)
MayRun p n (LoadsState way) = IsResponseWay p.sizes way
MayRun p n (StoresState way value) = IsResponseWay p.sizes way
MayRun p n (ExchangesState way old new) = IsResponseWay p.sizes way
MayRun p n (LoadsWord port number) = (has_number port p.sizes.ports ≡ true) × (number < p.sizes.region port)
MayRun p n (StoresWord port number value) = (has_number port p.sizes.ports ≡ true) × (number < p.sizes.region port)
