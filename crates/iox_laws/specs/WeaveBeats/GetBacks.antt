-- How many messages a sender gets back on a way while it delivers none there.
use Rattle.std.specs.Prelude.{◌≡◌, ℕ, ◌+◌, ◌≤◌, List, [], length, flat_map, IsTrue}
use Rattle.iox_model.specs.declared.way.Way.{Way}
use Rattle.iox_model.specs.Moments.{GetBack}
use Rattle.iox_model.specs.Outstandings.{outstanding_on}
use Rattle.iox_model.specs.Peers.{buffer_on, borrow_limit_on}
use Rattle.iox_model.specs.Weaves.{IsWeave, World, Beat, Makes}
use Rattle.iox_laws.specs.WeaveLaws.Ledgers.{if_on, is_live}
use Rattle.iox_laws.specs.WeaveLaws.OrderLaws.{all_put_on}
use Rattle.iox_laws.specs.WeaveWorlds.Worlds.{IsReachable}

-- the serial that a beat gets back on the way, if it gets one back there
abbrev pub got_back_on : Way → Beat → List ℕ
got_back_on y (Makes n (GetBack w k)) = if_on y w k
got_back_on y b = []

-- the serials got back on the way, in order
abbrev pub all_got_back_on : Way → List Beat → List ℕ
all_got_back_on y bs = flat_map (got_back_on y) bs

-- On a way that is live in the end, beats that deliver nothing there get back no more than was
-- outstanding. Each message got back makes it one less.
abbrev pub GetBacksAreCounted : Type 0
GetBacksAreCounted =
    (w u : World) (bs : List Beat) (y : Way) → IsReachable w → IsWeave w bs u
    → IsTrue (is_live u.state.fixed y) → all_put_on y bs ≡ []
    → length (outstanding_on u.state y) + length (all_got_back_on y bs)
    ≤ length (outstanding_on w.state y)

-- While nothing is delivered on a way, no more is got back there than the buffer, the borrow limit
-- and one more.
abbrev pub FewAreGotBack : Type 0
FewAreGotBack =
    (w u : World) (bs : List Beat) (y : Way) → IsReachable w → IsWeave w bs u
    → IsTrue (is_live u.state.fixed y) → all_put_on y bs ≡ []
    → length (all_got_back_on y bs)
    ≤ buffer_on w.state.fixed y + borrow_limit_on w.state.fixed y + 1
