-- Why no map is made.
use Rattle.std.specs.Prelude.{ℕ, ◌^◌, nat_lt, List, Option, Some, None, if◌then◌else◌, codes}
use Rattle.iox_word_map.specs.WordMaps.{total_words}
use Rattle.iox_word_places.specs.declared.new_error.WordMapNewError.{WordMapNewError}
use Rattle.iox_word_places.specs.declared.new_error.WordMapNewError.TheVariants.{TooManyWords, WantOfMemory}
use Rattle.iox_word_places.specs.declared.plan.WirePlan.{WirePlan}
use Rattle.iox_word_places.specs.Plans.{sizes_of}

-- the wire has more words than fit a `usize`
abbrev pub map_refusal : WirePlan → Option WordMapNewError
map_refusal plan = if nat_lt (total_words (sizes_of plan)) (2 ^ 64) then None else Some TooManyWords

-- each is shown by the name of its type and its own
abbrev pub new_error_text : WordMapNewError → List ℕ
new_error_text TooManyWords = codes "WordMapNewError::TooManyWords"
new_error_text WantOfMemory = codes "WordMapNewError::WantOfMemory"
