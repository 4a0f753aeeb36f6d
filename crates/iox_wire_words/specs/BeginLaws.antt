-- That programs may begin without a change of words, and what the words of a new wire hold.
use Rattle.std.specs.Prelude.{◌≡◌, ℕ, ◌^◌, ◌<◌, []}
use Rattle.iox_word_map.specs.Maps.{put_at}
use Rattle.iox_steps.specs.declared.site.QueueKind.TheVariants.{Overflowing}
use Rattle.iox_steps.specs.declared.side.Pushing.TheVariants as pushing
use Rattle.iox_steps.specs.declared.side.Popping.TheVariants as popping
use Rattle.iox_steps.specs.Sides.{pushing_rested, popping_rested}
use Rattle.iox_steps.specs.Fits.{write_of, read_of}
use Rattle.iox_word_map.specs.WordMaps.{WireQueue, IsQueue}
use Rattle.iox_wire_words.specs.Programs.{WireLayout, site_of, Program, Rests, Pushes, Pops, state_place, word_place}
use Rattle.iox_wire_words.specs.Fits.{WireContents, WordsFit}

-- the program has no access left in a queue
abbrev pub IsOver : Program → Type 0
IsOver (Pushes q place) = place ≡ pushing.AtRest
IsOver (Pops q place) = place ≡ popping.AtRest
IsOver program = Unit {0}

-- the program has made no access yet
abbrev pub HasMadeNoAccess : Program → Type 0
HasMadeNoAccess (Pushes q place) = pushing_rested place ≡ pushing.AtRest
HasMadeNoAccess (Pops q place) = popping_rested place ≡ popping.AtRest
HasMadeNoAccess program = Unit {0}

-- A node whose program is over may begin another, and the unchanged words still fit.
abbrev pub BeginsKeepTheWords : Type 0
BeginsKeepTheWords =
    (p : WireLayout) (word : ℕ → ℕ) (programs : ℕ → Program) (c : WireContents) (n : ℕ) (program : Program)
    → IsOver (programs n) → HasMadeNoAccess program
    → WordsFit p word programs c → WordsFit p word (put_at programs n program) c

-- the two positions of each queue are equal, and a queue that overflows has room for at least one
-- value
abbrev pub AreEmptyQueues : WireLayout → (ℕ → ℕ) → Type 0
AreEmptyQueues p word = (q : WireQueue) → IsQueue p.sizes q
    → ((site_of p q).kind ≡ Overflowing → 0 < (site_of p q).capacity)
    × (write_of (site_of p q) word ≡ read_of (site_of p q) word)
    × (write_of (site_of p q) word < 2 ^ 64)

-- the contents of such words: queues in which nothing waits, and the other words unchanged
abbrev pub empty_contents : WireLayout → (ℕ → ℕ) → WireContents
empty_contents p word = record {
  queues = λ q. record { write = write_of (site_of p q) word; waiting = []; hand = [] };
  state = λ way. word (state_place p way);
  stored = λ port number. word (word_place p port number);
}

-- Where all queues are empty and all nodes at rest, the words fit.
abbrev pub EmptyQueuesFit : Type 0
EmptyQueuesFit =
    (p : WireLayout) (word : ℕ → ℕ) → AreEmptyQueues p word
    → WordsFit p word (λ n. Rests) (empty_contents p word)
