-- What other nodes do leaves a call sound: they deliver nothing on its ways, and get nothing back there.
use Rattle.std.specs.Prelude.{◌≡◌, ℕ, ◌+◌, true, if◌then◌else◌, ◌==◌, nat_lt, nat_le, List, length, Option, Some, None, find, refl}
use Rattle.std.specs.List.{list_any}
use Rattle.std.specs.Option.{option_map_or}
use Rattle.std.proofs.Common.{sym, subst, ap, ap₂, ◌∙◌}
use Rattle.iox_model.specs.declared.kind.Role.TheVariants.{Client}
use Rattle.iox_model.specs.declared.way.Way.{Way}
use Rattle.iox_model.specs.Doings.{Sending, Outcome, Tells, Loans, Fills, Sends, FailsToSend, Receives, Drops, DropsPort, Forgets, Doing, Ended, Loaning, Asking, Emptying, Looking, Opening, Delivering, Evicted, Visiting, Again, Judging, Stale, Closing, Returning, Leaving, Checking, Hinting, Seeking}
use Rattle.iox_model.specs.Settings.{buffer_of, overflow_of}
use Rattle.iox_model.specs.States.{Handle, Fixed, State}
use Rattle.iox_model.specs.Requests.{targets, is_last}
use Rattle.iox_model.specs.Maps.{is_empty, not_in}
use Rattle.iox_model.specs.Moments.{room_on}
use Rattle.iox_model.specs.Responses.{copies}
use Rattle.iox_model.specs.Peers.{role_at, node_of_port, buffer_on}
use Rattle.iox_laws.proofs.WeaveLaws.Plays.{has_room}
use Rattle.iox_laws.proofs.WeaveWorlds.WayLemmas.{not_in-has, from-targets}
use Rattle.iox_laws.proofs.WeaveWorlds.Sound.{AreFrom, IsPortOf, IsOwn, HaveRoom, IsSending, FitsOutcome, SoundDoing, FitsCall, last_of, IsWithin, SoundCall}
use Rattle.iox_laws.proofs.WeaveLedger.Orders.{le-le, le-less}

-- ---- the same ports and limits, on a wire or not

pub record SamePorts (f g : Fixed) : Type 0 where
  pub ports : g.ports ≡ f.ports
  pub limits : g.limits ≡ f.limits
  pub on_wire : g.on_wire ≡ f.on_wire

pub same_ports : (f : Fixed) → SamePorts f f
same_ports f = record { ports = refl; limits = refl; on_wire = refl }

pub same_node : (f g : Fixed) (port : ℕ) → SamePorts f g → node_of_port g port ≡ node_of_port f port
same_node f g port e = ap (λ ps. option_map_or (λ p. p.node) (find (λ p. p.number == port) ps) 0) e.ports

pub port_kept : (f g : Fixed) (node port : ℕ) → SamePorts f g → IsPortOf f node port → IsPortOf g node port
port_kept f g node port e p = (ap (λ ps. list_any (λ q. q.number == port) ps) e.ports ∙ p.0, same_node f g port e ∙ p.1)

pub port_back : (f g : Fixed) (node port : ℕ) → SamePorts f g → IsPortOf g node port → IsPortOf f node port
port_back f g node port e p =
    (ap (λ ps. list_any (λ q. q.number == port) ps) (sym e.ports) ∙ p.0, sym (same_node f g port e) ∙ p.1)

pub same_role_at : (f g : Fixed) (port : ℕ) → SamePorts f g → role_at g port ≡ role_at f port
same_role_at f g port e = ap (λ ps. option_map_or (λ p. p.role) (find (λ p. p.number == port) ps) Client) e.ports

pub same_buffer : (f g : Fixed) (v : Way) → SamePorts f g → buffer_on g v ≡ buffer_on f v
same_buffer f g v e = ap₂ (λ l r. buffer_of l r) e.limits (same_role_at f g v.sender e)

pub same_overflow : (f g : Fixed) (port : ℕ) → SamePorts f g → overflow_of g.limits (role_at g port) ≡ overflow_of f.limits (role_at f port)
same_overflow f g port e = ap₂ (λ l r. overflow_of l r) e.limits (same_role_at f g port e)

pub same_room : (f g : Fixed) (v : Way) → SamePorts f g → room_on g v ≡ room_on f v
same_room f g v e = ap₂ (λ n b. n + (if b then 1 else 0)) (same_buffer f g v e) (same_overflow f g v.sender e)

-- ---- what others leave as it is

-- no more waits on the node's ways, and what is in hand there stays
pub record Leaves (s t : State) (node : ℕ) : Type 0 where
  pub fixed : SamePorts s.fixed t.fixed
  pub waiting : (v : Way) → IsPortOf s.fixed node v.sender → nat_le (length (t.waiting v)) (length (s.waiting v)) ≡ true
  pub in_hand : (v : Way) → IsPortOf s.fixed node v.sender → t.in_hand v ≡ s.in_hand v

room_kept : (s t : State) (node : ℕ) (v : Way) → Leaves s t node → IsPortOf s.fixed node v.sender → has_room s v ≡ true → has_room t v ≡ true
room_kept s t node v l of_node e =
    subst (λ k. nat_lt (length (t.waiting v)) k ≡ true) (sym (same_room s.fixed t.fixed v l.fixed))
    (le-less (length (t.waiting v)) (length (s.waiting v)) (room_on s.fixed v) (l.waiting v of_node) e)

pub within_kept : (s t : State) (node : ℕ) (last : Option Way) → SamePorts s.fixed t.fixed
    → ((v : Way) → IsPortOf s.fixed node v.sender → nat_le (length (t.waiting v)) (length (s.waiting v)) ≡ true)
    → IsWithin s node last → IsWithin t node last
within_kept s t node last same fewer p v of_node =
    let here : IsPortOf s.fixed node v.sender = port_back s.fixed t.fixed node v.sender same of_node in
    subst (λ k. nat_le (length (t.waiting v)) (k + (if is_last v last then 1 else 0)) ≡ true) (sym (same_buffer s.fixed t.fixed v same))
    (le-le (length (t.waiting v)) (length (s.waiting v)) (buffer_on s.fixed v + (if is_last v last then 1 else 0)) (fewer v here) (p v here))

own_kept : (f g : Fixed) (node : ℕ) (h : Handle) → SamePorts f g → IsOwn f node h → IsOwn g node h
own_kept f g node h e p = (p.0, port_kept f g node h.port e p.1)

sending_kept : (s t : State) (node : ℕ) (x : Sending) → Leaves s t node → IsSending s.fixed node x → IsSending t.fixed node x
sending_kept s t node x l p = (
  own_kept s.fixed t.fixed node x.loan l.fixed p.0,
  p.1 ∙ sym (same_overflow s.fixed t.fixed x.loan.port l.fixed),
  p.2,
)

outcome_kept : (f g : Fixed) (node : ℕ) (o : Outcome) → SamePorts f g → FitsOutcome f node o → FitsOutcome g node o
outcome_kept f g node (Tells reply) e p = tt
outcome_kept f g node (Loans h) e p = own_kept f g node h e p
outcome_kept f g node (Fills h) e p = own_kept f g node h e p
outcome_kept f g node (Sends h copied count) e p = own_kept f g node h e p
outcome_kept f g node (FailsToSend h copied refusal) e p = own_kept f g node h e p
outcome_kept f g node (Receives x w m) e p = (port_kept f g node x.port e p.0, p.1, p.2)
outcome_kept f g node (Drops h) e p = tt
outcome_kept f g node (DropsPort port) e p = (e.on_wire ∙ p.0, port_kept f g node port e p.1)
outcome_kept f g node (Forgets dead) e p = tt

-- a way from a port of the node
pub from_own : (f : Fixed) (node port : ℕ) (v : Way) → IsPortOf f node port → v.sender ≡ port → IsPortOf f node v.sender
from_own f node port v own is = subst (IsPortOf f node) (sym is) own

rooms_kept : (s t : State) (node port : ℕ) (ways : List Way) → Leaves s t node → IsPortOf s.fixed node port → AreFrom port ways
    → HaveRoom s ways → HaveRoom t ways
rooms_kept s t node port ways l own from rooms v there =
    room_kept s t node v l (from_own s.fixed node port v own (from v there)) (rooms v there)

pub fits_kept : (s t : State) (node : ℕ) (d : Doing) → Leaves s t node → SoundDoing s node d → SoundDoing t node d
fits_kept s t node (Ended o) l p = outcome_kept s.fixed t.fixed node o l.fixed p
fits_kept s t node (Loaning copies h left) l p = (own_kept s.fixed t.fixed node h l.fixed p.0, p.1, p.2)
fits_kept s t node (Asking x) l p = sending_kept s t node x l p
fits_kept s t node (Emptying x left) l p = (sending_kept s t node x l p.0, p.1, p.2)
fits_kept s t node (Looking x left full) l p = (
  sending_kept s t node x l p.0,
  p.1,
  λ v target seen room. room_kept s t node v l (from_own s.fixed node x.loan.port v p.0.0.1 (from-targets x v target)) (p.2 v target seen room),
)
fits_kept s t node (Opening x left full) l p = (
  sending_kept s t node x l p.0,
  p.1,
  rooms_kept s t node x.loan.port (not_in full (targets x)) l p.0.0.1 (λ v there. from-targets x v (not_in-has v full (targets x) there).0) p.2,
)
fits_kept s t node (Delivering x last left count) l p =
    (sending_kept s t node x l p.0, p.1, p.2, rooms_kept s t node x.loan.port left l p.0.0.1 p.1 p.3, p.4)
fits_kept s t node (Evicted x w left count) l p = (
  sending_kept s t node x l p.0,
  p.1,
  p.2,
  rooms_kept s t node x.loan.port left l p.0.0.1 p.1 p.3,
  p.4,
  ap is_empty (l.in_hand w (from_own s.fixed node x.loan.port w p.0.0.1 p.4)) ∙ p.5,
)
fits_kept s t node (Visiting x left seen) l p = (port_kept s.fixed t.fixed node x.port l.fixed p.0, p.1, p.2)
fits_kept s t node (Again x w left seen) l p = (port_kept s.fixed t.fixed node x.port l.fixed p.0, p.1, p.2)
fits_kept s t node (Judging x w m left seen) l p = (port_kept s.fixed t.fixed node x.port l.fixed p.0, p.1, p.2, p.3)
fits_kept s t node (Stale x w m left seen) l p = (port_kept s.fixed t.fixed node x.port l.fixed p.0, p.1, p.2)
fits_kept s t node (Closing h left) l p = p
fits_kept s t node (Returning h) l p = tt
fits_kept s t node (Leaving h) l p = tt
fits_kept s t node (Checking h hinted left) l p = p
fits_kept s t node (Hinting h left) l p = p
fits_kept s t node (Seeking left) l p = p

call_kept : (s t : State) (node : ℕ) (o : Option Doing) → Leaves s t node → FitsCall s node o → FitsCall t node o
call_kept s t node None l p = tt
call_kept s t node (Some d) l p = fits_kept s t node d l p

-- A call stays sound where others leave its ways.
pub sound_kept : (s t : State) (node : ℕ) (o : Option Doing) → Leaves s t node → SoundCall s node o → SoundCall t node o
sound_kept s t node o l p = (within_kept s t node (last_of o) l.fixed l.waiting p.0, call_kept s t node o l p.1)
