-- After the end of a node's call, words and seats show a world again.
use Rattle.std.specs.Prelude.{◌≡◌, ℕ, List, Some, None}
use Rattle.iox_model.specs.Joins.{not_living}
use Rattle.iox_model.specs.Maps.{put_at}
use Rattle.iox_model.specs.Weaves.{World, Ends, IsBeat, over}
use Rattle.iox_model.specs.WholeCalls.{MayHold}
use Rattle.iox_wire_words.specs.Fits.{WireContents}
use Rattle.iox_wire_moments.specs.MomentsOf.{Pools}
use Rattle.iox_wire_locals.specs.declared.local.Ending.{Ending}
use Rattle.iox_wire_locals.specs.declared.seat.Seat.{Seat}
use Rattle.iox_wire_locals.specs.Tables.{Setting}
use Rattle.iox_wire_locals.specs.Doings.{outcome_of}
use Rattle.iox_wire_locals.specs.EndLaws.{EndReliesOn}
use Rattle.iox_wire_locals.specs.Settlements.{reply_of}
use Rattle.iox_wire_locals.specs.Steps.{ending_at, closed}
use Rattle.iox_wire_laws.specs.WireKeeping.Shows.{ShowsWorld, EndKnows}

-- Where words and seats show a world, a call of a living node that has no access left ends as in
-- the machine. The same words, with the node's call closed, show the world after it.
abbrev pub EndsShowTheWorld : Type 0
EndsShowTheWorld =
    (p : Setting) (held : Pools) (word : ℕ → ℕ) (c : WireContents) (seats : ℕ → Seat) (w : World)
    (n : ℕ) (ending : Ending) (payload : List ℕ)
    → ShowsWorld p held word c seats w → not_living w.state n ≡ None
    → let x = seats n in let o = outcome_of p held x.node ending in
    let u = over w x.node payload o in
    ending_at x.local ≡ Some ending → EndKnows p x w.state x.local
    → EndReliesOn p x held payload ending → MayHold w.state.fixed o payload
    → IsBeat w (Ends x.node (reply_of p x ending) payload) u
    × ShowsWorld p held word c (put_at seats n (closed p x (Some ending))) u
