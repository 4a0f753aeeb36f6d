-- What the begin of a call keeps: all that stands.
use Rattle.std.specs.Prelude.{◌≡◌, ℕ, true, ◌∷◌, ◌++◌, [], List, Some, None}
use Rattle.iox_model.specs.Commands.{WireCall}
use Rattle.iox_model.specs.Joins.{not_living}
use Rattle.iox_model.specs.Maps.{put_at}
use Rattle.iox_model.specs.Peers.{port_at}
use Rattle.iox_model.specs.Settings.{is_client}
use Rattle.iox_model.specs.States.{Port, State}
use Rattle.iox_model.specs.Weaves.{Begins, World, begin_refusal}
use Rattle.iox_wire_words.specs.Fits.{WireContents}
use Rattle.iox_wire_moments.specs.MomentsOf.{Pools}
use Rattle.iox_wire_locals.specs.declared.local.Local.TheVariants.{Idle}
use Rattle.iox_wire_locals.specs.declared.seat.Seat.{Seat}
use Rattle.iox_wire_locals.specs.declared.table.Entry.{Entry}
use Rattle.iox_wire_locals.specs.BeginLaws.{IsOwnEntry}
use Rattle.iox_wire_locals.specs.Begins.{begin}
use Rattle.iox_wire_locals.specs.Known.{known}
use Rattle.iox_wire_locals.specs.Tables.{Setting, entry_at}
use Rattle.iox_wire_laws.specs.WireKeeping.Readiness.{IsReady, LanesFit, choice_for}
use Rattle.iox_wire_laws.specs.WireKeeping.Shows.{ShowsWorld}
use Rattle.iox_wire_laws.specs.WireKeeping.UsedSlots.{CallHolds}
use Rattle.iox_wire_laws.specs.WireHolding.Holding.{held_at}
use Rattle.iox_wire_laws.specs.WireRegions.OwnedBegins.{LayoutFits}
use Rattle.iox_wire_laws.specs.WireRegions.OwnedWords.{Owns}
use Rattle.iox_wire_stands.specs.Following.{NoMessage}
use Rattle.iox_wire_stands.specs.FollowingLaws.{TakesNext}
use Rattle.iox_wire_stands.specs.Nodes.{NodeStands}
use Rattle.iox_wire_stands.specs.Runs.{Asked, GoesOnBy, Run}
use Rattle.iox_wire_stands.specs.Stands.{AreNumbered, OwnersAre, Player, Stands}

-- What is asked of the node that begins the call, only of its own data.
pub record MayBegin (p : Setting) (held : Pools) (s : State) (x : Seat) (call : WireCall)
    : Type 0 where
  pub rests : x.local ≡ Idle
  -- its entries are of its ports, and as long as they say
  pub entries : (n : ℕ) (e : Entry) → entry_at n x.table ≡ Some e → IsOwnEntry p x s held e
  -- the free lanes of its clients are those of no handle
  pub lanes : (n : ℕ) (q : Port) → port_at (known p x) n ≡ Some q → q.node ≡ x.node
      → is_client q.role ≡ true → LanesFit p x q
  -- the ways, states and slots of its first place are its own
  pub owns : Owns p x.node s.fixed s.request_state (begin p x call).local
  -- a loan that it sends is one of its own port
  pub home : CallHolds (held_at p held (begin p x call).local) (begin p x call).local
  -- a loan that takes a slot at once has the next serial
  pub next : TakesNext p held s NoMessage (begin p x call).local

-- A standing node at rest is ready for a call, where its entries and lanes are as it counts them:
-- its ports are, and its pools have a message left exactly if a slot is free.
abbrev pub NodesAreReady : Type 0
NodesAreReady =
    (p : Setting) (held : Pools) (word : ℕ → ℕ) (c : WireContents) (seats : ℕ → Seat) (w : World)
    (n : ℕ) (call : WireCall)
    → ShowsWorld p held word c seats w → not_living w.state n ≡ None
    → OwnersAre p w.state.fixed → AreNumbered p
    → NodeStands p held w.state (seats n) → MayBegin p held w.state (seats n) call
    → IsReady p held w (seats n)

-- What is so of a ready node is so of it at the first place of its call.
abbrev pub BeginsKeepNodes : Type 0
BeginsKeepNodes =
    (p : Setting) (held : Pools) (w : World) (x : Seat) (call : WireCall)
    → LayoutFits p w.state.fixed → NodeStands p held w.state x
    → IsReady p held w x → MayBegin p held w.state x call
    → NodeStands p (held_at p held (begin p x call).local) w.state (begin p x call)

-- A call that is not refused leads from what stands to what stands: it is one beat of the machine,
-- and no word changes. A loan that takes a slot at once has its message there.
abbrev pub BeginsKeep : Type 0
BeginsKeep =
    (p : Setting) (words : List ℕ) (players : ℕ → Player) (r : Run) (n : ℕ) (call : WireCall)
    (stands : Stands p words players r)
    → let x = (players n).seat in
    MayBegin p stands.held r.last.state x call → begin_refusal r.last n call ≡ None
    → (next : Run) × GoesOnBy r (Begins n call (choice_for p x call)) next
    × (later : Stands p words
    (put_at players n (record {
      seat = begin p x call;
      said = (players n).said ++ Asked call ∷ [];
    })) next)
    × (later.held ≡ held_at p stands.held (begin p x call).local)
    × (later.contents ≡ stands.contents)
