-- What the words tell of a push: it continues at a full queue only where messages overflow.
use Rattle.std.specs.Prelude.{◌≡◌, ℕ, true, List, Option, Some, None}
use Rattle.iox_model.specs.declared.way.Way.{Way}
use Rattle.iox_model.specs.Joins.{not_living}
use Rattle.iox_model.specs.Weaves.{World}
use Rattle.iox_steps.specs.declared.push.Push.TheVariants as push
use Rattle.iox_steps.specs.declared.side.Pushing.TheVariants as pushing
use Rattle.iox_word_map.specs.WordMaps.{MessageQueue, IsWay}
use Rattle.iox_wire_words.specs.Programs.{pusher_of}
use Rattle.iox_wire_words.specs.Fits.{WireContents}
use Rattle.iox_wire_moments.specs.MomentsOf.{Pools}
use Rattle.iox_wire_locals.specs.declared.local.Delivery.{Delivery}
use Rattle.iox_wire_locals.specs.declared.local.Local.TheVariants.{SendPushes}
use Rattle.iox_wire_locals.specs.declared.seat.Seat.{Seat}
use Rattle.iox_wire_locals.specs.Tables.{Setting}
use Rattle.iox_wire_locals.specs.Known.{sending}
use Rattle.iox_wire_laws.specs.WireKeeping.Shows.{ShowsWorld}

-- A push that found its queue full and continues is one of a send whose messages overflow.
abbrev pub FullPushesOverflow : Type 0
FullPushesOverflow =
    (p : Setting) (held : Pools) (word : ℕ → ℕ) (c : WireContents) (seats : ℕ → Seat) (w : World)
    (n : ℕ) (d : Delivery) (last : Option Way) (y : Way) (value end read : ℕ) (left : List Way)
    (count : ℕ)
    → ShowsWorld p held word c seats w → not_living w.state n ≡ None
    → (seats n).local
    ≡ SendPushes d last y (pushing.Pushes (push.StoresWrite value end (Some read))) left count
    → IsWay p.layout.sizes y → pusher_of p.layout (MessageQueue y) ≡ n → y.sender ≡ d.loan.port
    → (sending p (seats n) d).overflow ≡ true
