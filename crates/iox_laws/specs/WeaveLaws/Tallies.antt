-- What the bound of a call counts among its beats.
use Rattle.std.specs.Prelude.{ℕ, Bool, true, false, ◌==◌, List, length, map, filter}
use Rattle.iox_model.specs.declared.way.Way.{Way}
use Rattle.iox_model.specs.Weaves.{Beat}
use Rattle.iox_model.specs.Schedules.{moments_of}
use Rattle.iox_model.specs.Maps.{has_way}
use Rattle.iox_model.specs.Moments.{Moment, Evict, Take, GetBack}

-- the moments that the node makes
abbrev pub own_moments : ℕ → List Beat → List Moment
own_moments node bs = map (λ e. e.1) (filter (λ e. e.0 == node) (moments_of bs))

-- whether a moment is one by which a sender gets a message back
abbrev pub gets_back : Moment → Bool
gets_back (GetBack w k) = true
gets_back m = false

-- whether a moment is one by which a receiver takes a message
abbrev pub takes : Moment → Bool
takes (Take w m) = true
takes m = false

-- whether a moment is an eviction on one of these ways, which makes a receiver's exchange there
-- fail
abbrev pub evicts_on : List Way → Moment → Bool
evicts_on ways (Evict w) = has_way w ways
evicts_on ways m = false

-- how many of the moments pass the test
abbrev pub count_of_moments : (Moment → Bool) → List Moment → ℕ
count_of_moments test ms = length (filter test ms)

-- how many messages the node got back
abbrev pub got_back : ℕ → List Beat → ℕ
got_back node bs = count_of_moments gets_back (own_moments node bs)

-- how many messages the node took
abbrev pub taken : ℕ → List Beat → ℕ
taken node bs = count_of_moments takes (own_moments node bs)

-- how many messages were evicted on these ways: each may make one take miss
abbrev pub failed : List Way → List Beat → ℕ
failed ways bs = count_of_moments (evicts_on ways) (map (λ e. e.1) (moments_of bs))
