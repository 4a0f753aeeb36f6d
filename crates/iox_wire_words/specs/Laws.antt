-- After each access of a node's program the words fit again, wherever in their programs the other
-- nodes are.
use Rattle.std.specs.Prelude.{◌≡◌, ℕ, ◌≤◌, List, length, slice_index}
use Rattle.iox_word_map.specs.Maps.{put_at}
use Rattle.iox_steps.specs.declared.access.Access.{Access}
use Rattle.iox_steps.specs.Accesses.{place_of, change_of, seen_by, words_after, IsWithin, ChangesWord}
use Rattle.iox_steps.specs.Laws.{KeepsQueue, pushing_turn, popping_turn}
use Rattle.iox_word_map.specs.WordMaps.{total_words}
use Rattle.iox_wire_words.specs.Programs.{WireLayout, site_of, Program, Rests, Pushes, Pops, LoadsState, StoresState, ExchangesState, LoadsWord, StoresWord, pusher_of, popper_of, pushing_in, popping_in, program_access, program_after}
use Rattle.iox_wire_words.specs.Fits.{WireContents, IsSized, WordsFit, contents_after, MayRun}

-- the access was made: the word that it names is what the access leaves there, and no other word
-- changed
abbrev pub AccessIsMade : Access → (ℕ → ℕ) → (ℕ → ℕ) → Type 0
AccessIsMade access word word' =
    let place = place_of access in ChangesWord word place (change_of access (word place)) word'

-- what the next access of a program found: at a queue all that a turn of its party says, else the
-- word
abbrev pub Finds : WireLayout → (ℕ → ℕ) → (ℕ → ℕ) → (ℕ → Program) → WireContents → Program → ℕ → Type 0
Finds p word word' programs c Rests seen = Unit {0}
Finds p word word' programs c (Pushes q place) seen =
    KeepsQueue (site_of p q) word word' (c.queues q).waiting (c.queues q).hand
    (pushing_turn (site_of p q) word place (popping_in q (programs (popper_of p q))))
Finds p word word' programs c (Pops q place) seen =
    KeepsQueue (site_of p q) word word' (c.queues q).waiting (c.queues q).hand
    (popping_turn (site_of p q) word (pushing_in q (programs (pusher_of p q))) place)
Finds p word word' programs c (LoadsState way) seen = seen ≡ c.state way
Finds p word word' programs c (StoresState way value) seen = seen ≡ c.state way
Finds p word word' programs c (ExchangesState way old new) seen = seen ≡ c.state way
Finds p word word' programs c (LoadsWord port number) seen = seen ≡ c.stored port number
Finds p word word' programs c (StoresWord port number value) seen = seen ≡ c.stored port number

-- Whatever all nodes run, the next access of one names a word of the wire, finds what stands there,
-- and leaves words that fit.
abbrev pub EachAccessKeepsTheWords : Type 0
EachAccessKeepsTheWords =
    (p : WireLayout) (word word' : ℕ → ℕ) (programs : ℕ → Program) (c : WireContents) (n : ℕ) (program : Program)
    → IsSized p → WordsFit p word programs c → programs n ≡ program → MayRun p n program
    → AccessIsMade (program_access p program) word word'
    → let seen = seen_by (program_access p program) word in
    IsWithin 0 (total_words p.sizes) (program_access p program)
    × Finds p word word' programs c program seen
    × WordsFit p word' (put_at programs n (program_after p program seen)) (contents_after p program seen c)

-- In a list of words that is long enough, each access finds what stands there and leaves words that
-- fit, and the list keeps its length.
abbrev pub EachAccessKeepsTheList : Type 0
EachAccessKeepsTheList =
    (p : WireLayout) (words : List ℕ) (programs : ℕ → Program) (c : WireContents) (n : ℕ) (program : Program)
    → IsSized p → total_words p.sizes ≤ length words
    → WordsFit p (λ place. slice_index words place) programs c → programs n ≡ program → MayRun p n program
    → let seen = seen_by (program_access p program) (λ place. slice_index words place) in
    let after = words_after (program_access p program) words in
    IsWithin 0 (length words) (program_access p program) × (length after ≡ length words)
    × Finds p (λ place. slice_index words place) (λ place. slice_index after place) programs c program seen
    × WordsFit p (λ place. slice_index after place) (put_at programs n (program_after p program seen))
    (contents_after p program seen c)
