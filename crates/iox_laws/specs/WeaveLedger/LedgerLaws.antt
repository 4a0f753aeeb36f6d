-- What is out on a way is what the sender counts as outstanding; and how much that may be.
use Rattle.std.specs.Prelude.{◌≡◌, ℕ, ◌+◌, ◌≤◌, List, [], ◌∷◌, ◌++◌, length, IsTrue}
use Rattle.iox_model.specs.declared.way.Way.{Way}
use Rattle.iox_model.specs.Weaves.{IsBeat, World, Beat, Makes}
use Rattle.iox_laws.specs.WeaveLaws.OrderLaws.{all_put_on}
use Rattle.iox_model.specs.Moments.{SeesNoneBack}
use Rattle.iox_model.specs.States.{State}
use Rattle.iox_laws.specs.WeaveLaws.Ledgers.{had_on, is_emptied, is_live, size_of, room_of}
use Rattle.iox_model.specs.Maps.{has_number, AreDistinct}
use Rattle.iox_model.specs.Messages.{serials_of}
use Rattle.iox_model.specs.Outstandings.{outstanding_on}
use Rattle.iox_model.specs.Peers.{node_of_port, buffer_on, borrow_limit_on}
use Rattle.iox_laws.specs.WeaveLedger.OnceLaws.{IsOnWire}

-- the serials that are out on the way: those that wait, that the receiver has, that it gave back,
-- and that the sender has in hand
abbrev pub out_on : World → Way → List ℕ
out_on v y =
    serials_of (v.state.waiting y) ++ (had_on v y ++ (v.state.returned y ++ v.state.in_hand y))

-- On a live way each message is out once: it waits, or the receiver has it, or gave it back, or it
-- is in hand.
abbrev pub OutOnce : Type 0
OutOnce =
    (s : State) (v : World) (bs : List Beat) (y : Way) → IsOnWire s bs v
    → IsTrue (is_live v.state.fixed y) → AreDistinct (out_on v y)

-- The outstanding messages of a live way are exactly those that are out.
abbrev pub RecordIsWhatIsOut : Type 0
RecordIsWhatIsOut =
    (s : State) (v : World) (bs : List Beat) (y : Way) (k : ℕ) → IsOnWire s bs v
    → IsTrue (is_live v.state.fixed y) → v.state.delivered y k ≡ has_number k (out_on v y)

-- On a live way as many are outstanding as wait, are at the receiver, were given back and are in
-- hand.
abbrev pub OutstandingIsCounted : Type 0
OutstandingIsCounted =
    (s : State) (v : World) (bs : List Beat) (y : Way) → IsOnWire s bs v
    → IsTrue (is_live v.state.fixed y)
    → length (outstanding_on v.state y) ≡ size_of v y + length (v.state.in_hand y)

-- On a live way no more are outstanding than the buffer and the borrow limit together, and one more
-- where the sender's call did not empty it.
abbrev pub LedgerStaysWithin : Type 0
LedgerStaysWithin =
    (s : State) (v : World) (bs : List Beat) (y : Way) → IsOnWire s bs v
    → IsTrue (is_live v.state.fixed y)
    → size_of v y + length (v.state.in_hand y) ≤ room_of v y

-- Nobody but its sender's node empties a way.
abbrev pub SendersEmpty : Type 0
SendersEmpty =
    (s : State) (w v : World) (bs : List Beat) (node : ℕ) (y : Way) → IsOnWire s bs w
    → IsBeat w (Makes node (SeesNoneBack y)) v → node_of_port w.state.fixed y.sender ≡ node

-- of the emptyings of the way and the deliveries there in these beats, the last is an emptying
abbrev pub EmptiedLast : Way → List Beat → Type 0
EmptiedLast y bs =
    (node : ℕ) × (before after : List Beat)
    × (bs ≡ before ++ Makes node (SeesNoneBack y) ∷ after) × (all_put_on y after ≡ [])

-- If the sender's call under way emptied a way and did not deliver there since, the way's last
-- delivery came before an emptying.
abbrev pub CallsEmptiedLast : Type 0
CallsEmptiedLast =
    (s : State) (v : World) (bs : List Beat) (y : Way) → IsOnWire s bs v
    → IsTrue (is_emptied v y) → EmptiedLast y bs

-- From an emptying of the way to the next delivery there, no more are outstanding than the buffer
-- and the borrow limit together. This holds after that call, too.
abbrev pub EmptiedStaysWithin : Type 0
EmptiedStaysWithin =
    (s : State) (v : World) (bs : List Beat) (y : Way) → IsOnWire s bs v
    → IsTrue (is_live v.state.fixed y) → EmptiedLast y bs
    → size_of v y + length (v.state.in_hand y)
    ≤ buffer_on v.state.fixed y + borrow_limit_on v.state.fixed y

-- On a live way at most the buffer, the borrow limit and one more are given back and not got back
-- yet. A returning queue of that capacity suffices.
abbrev pub ReturnsFit : Type 0
ReturnsFit =
    (s : State) (v : World) (bs : List Beat) (y : Way) → IsOnWire s bs v
    → IsTrue (is_live v.state.fixed y)
    → length (v.state.returned y)
    ≤ buffer_on v.state.fixed y + borrow_limit_on v.state.fixed y + 1
