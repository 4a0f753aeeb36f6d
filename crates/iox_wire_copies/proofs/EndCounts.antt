-- Neither a step nor the end of a call changes which ports a node has, and on which ways it sends and counts.
use Rattle.std.proofs.Common.{◌≡◌, ℕ, Bool, true, false, if◌then◌else◌, List, [], ◌∷◌, map, length, Option, Some, None, refl, ap, ap₂, ◌∙◌}
use Rattle.std.specs.Prelude.{flat_map}
use Rattle.iox_model.specs.Maps.{same_way}
use Rattle.iox_model.specs.Peers.{ports_of_node}
use Rattle.iox_model.specs.declared.way.Way.{Way}
use Rattle.iox_wire_locals.specs.declared.local.Ending.{Ending}
use Rattle.iox_wire_locals.specs.declared.local.Ending.TheVariants as endings
use Rattle.iox_wire_locals.specs.declared.seat.Seat.{Seat}
use Rattle.iox_wire_locals.specs.declared.table.Borrowed.{Borrowed}
use Rattle.iox_wire_locals.specs.declared.table.Desk.{Desk}
use Rattle.iox_wire_locals.specs.declared.table.Entry.{Entry}
use Rattle.iox_wire_locals.specs.Desks.{all_less, at_count, counts_loan, forgets_ports, gives_up, releases_message, slots_to, uses_less, with_count, without_slots_to}
use Rattle.iox_wire_locals.specs.Known.{known}
use Rattle.iox_wire_locals.specs.Settlements.{after_refused_send, forgets, sends_away, sends_entry, settled}
use Rattle.iox_wire_locals.specs.Steps.{accessed, advance, closed, ending_at, next}
use Rattle.iox_wire_locals.specs.Tables.{Setting, way_in}
use Rattle.iox_wire_copies.proofs.CountLemmas.{PortsAlike, advanced, as_many, at_a_desk}

-- ---- parts of it

over : (x z y : Seat) → z.desks ≡ x.desks → z.borrowed ≡ x.borrowed → PortsAlike z y → PortsAlike x y
over x z y desks counts alike = record {
  ports = alike.ports ∙ ap (λ (ds : List Desk). map (λ d. d.port) ds) desks;
  sends = alike.sends ∙ ap (λ (ds : List Desk). map (λ d. length d.recorded) ds) desks;
  ways = alike.ways ∙ ap (λ (bs : List Borrowed). map (λ b. b.way) bs) counts;
}

both : (x y z : Seat) → PortsAlike x y → PortsAlike y z → PortsAlike x z
both x y z first later = record { ports = later.ports ∙ first.ports; sends = later.sends ∙ first.sends; ways = later.ways ∙ first.ways }

either : (x u v : Seat) (b : Bool) → PortsAlike x u → PortsAlike x v → PortsAlike x (if b then u else v)
either x u v true first other = first
either x u v false first other = other

itself : (x : Seat) → PortsAlike x x
itself x = record { ports = refl; sends = refl; ways = refl }

-- ---- counts, and ports that are forgotten

way_same : (w : Way) (f : ℕ → ℕ) (bs : List Borrowed) → map (λ b. b.way) (map (with_count w f) bs) ≡ map (λ b. b.way) bs
way_same w f [] = refl
way_same w f (b ∷ bs) = ap₂ (λ (v : Way) (vs : List Way). v ∷ vs) (by_case (same_way b.way w)) (way_same w f bs)
  where
    by_case : (is : Bool) → (if is then record b { count = f b.count } else b).way ≡ b.way
    by_case true = refl
    by_case false = refl

at_a_count : (x : Seat) (w : Way) (f : ℕ → ℕ) → PortsAlike x (at_count x w f)
at_a_count x w f = record { ports = refl; sends = refl; ways = way_same w f x.borrowed }

less_port : (slots : List ℕ) (d : Desk) → (all_less slots d).port ≡ d.port
less_port [] d = refl
less_port (slot ∷ slots) d = less_port slots (uses_less slot d)

all_forget : (g : Desk → ℕ) (ports : List ℕ) (ds : List Desk) → ((d : Desk) → g (forgets_ports ports d) ≡ g d) → map g (map (forgets_ports ports) ds) ≡ map g ds
all_forget g ports [] same = refl
all_forget g ports (d ∷ ds) same = ap₂ (λ (k : ℕ) (ks : List ℕ). k ∷ ks) (same d) (all_forget g ports ds same)

forgotten : (p : Setting) (x : Seat) (dead : ℕ) → PortsAlike x (forgets p x dead)
forgotten p x dead =
    let ports : List ℕ = ports_of_node (known p x) dead in
    record {
      ports = all_forget (λ d. d.port) ports x.desks (λ d. less_port (flat_map (slots_to ports) d.recorded) d);
      sends = all_forget (λ d. length d.recorded) ports x.desks (λ d. as_many (without_slots_to ports) d.recorded);
      ways = refl;
    }

-- ---- the end of a call

entry_sent : (x : Seat) (e : Entry) (copied : Bool) (count : ℕ) → PortsAlike x (sends_entry x e copied count)
entry_sent x e true count = over x _ _ refl refl (at_a_desk _ e.port counts_loan (λ d. refl) (λ d. refl))
entry_sent x e false count = record { ports = refl; sends = refl; ways = refl }

sent_away : (x : Seat) (e : Entry) (copied : Bool) → PortsAlike x (sends_away x e copied)
sent_away x e true = at_a_desk x e.port (λ d. uses_less e.slot (counts_loan d)) (λ d. refl) (λ d. refl)
sent_away x e false = over x _ _ refl refl (at_a_desk _ e.port (uses_less e.slot) (λ d. refl) (λ d. refl))

given_up : (x : Seat) (e : Entry) (copied : Bool) → PortsAlike x (after_refused_send x e copied)
given_up x e true = at_a_desk x e.port (λ d. gives_up e (counts_loan d)) (λ d. refl) (λ d. refl)
given_up x e false = over x _ _ refl refl (at_a_desk _ e.port (gives_up e) (λ d. refl) (λ d. refl))

message_released : (x : Seat) (e : Entry) → PortsAlike x (releases_message x e)
message_released x e = either x _ _ _ (at_a_count x (way_in e) _) (at_a_desk x e.port (gives_up e) (λ d. refl) (λ d. refl))

settles : (p : Setting) (x : Seat) (ending : Ending) → PortsAlike x (settled p x ending)
settles p x (endings.Lends o slot) = over x _ _ refl refl (at_a_desk _ o.port counts_loan (λ d. refl) (λ d. refl))
settles p x (endings.Sends e copied count) = either x (sends_entry x e copied count) (sends_away x e copied) _ (entry_sent x e copied count) (sent_away x e copied)
settles p x (endings.FailsToSend e copied r) = given_up x e copied
settles p x (endings.Receives v w slot header) = over x _ _ refl refl (at_a_count _ w _)
settles p x (endings.Drops e) = record {
  ports = (message_released x e).ports;
  sends = (message_released x e).sends;
  ways = (message_released x e).ways;
}
settles p x (endings.Forgets dead) =
    either x x (forgets p x dead) _ (itself x) (forgotten p x dead)
settles p x ending = itself x

-- whatever a step finds, and whether it ends the call or not
pub steps_alike : (p : Setting) (x : Seat) (seen : ℕ) → PortsAlike x (next p x seen)
steps_alike p x seen =
    let y : Seat = advance p (accessed x) x.local seen in
    ends y (ending_at y.local) (over x (accessed x) y refl refl (advanced p (accessed x) x.local seen).alike)
  where
    ends : (y : Seat) (o : Option Ending) → PortsAlike x y → PortsAlike x (closed p y o)
    ends y None alike = alike
    ends y (Some ending) alike =
        let led : PortsAlike x (settled p y ending) = both x y (settled p y ending) alike (settles p y ending) in
        record { ports = led.ports; sends = led.sends; ways = led.ways }
