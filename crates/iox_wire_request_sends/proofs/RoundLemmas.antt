-- How the send of a request continues from one of its rounds to the next.
use Rattle.std.proofs.Common.{◌≡◌, ℕ, Bool, true, List, [], ◌∷◌, Option, None, refl, ap, ap₂, ◌∙◌}
use Rattle.std.specs.Prelude.{if◌then◌else◌, map}
use Rattle.std.specs.List.{list_any}
use Rattle.iox_model.specs.declared.way.Way.{Way}
use Rattle.iox_model.specs.Handles.{is_request_loan}
use Rattle.iox_model.specs.Maps.{not_in}
use Rattle.iox_model.specs.Messages.{request_way, response_way}
use Rattle.iox_model.specs.Requests.{targets, to_open}
use Rattle.iox_wire_locals.specs.declared.local.CallRefusal.TheVariants.{UnableToDeliver}
use Rattle.iox_wire_locals.specs.declared.local.Delivery.{Delivery}
use Rattle.iox_wire_locals.specs.declared.local.Ending.TheVariants as endings
use Rattle.iox_wire_locals.specs.declared.local.Local.{Local}
use Rattle.iox_wire_locals.specs.declared.seat.Seat.{Seat}
use Rattle.iox_wire_locals.specs.declared.table.Entry.{Entry}
use Rattle.iox_wire_locals.specs.Courses.{delivering, emptying, ended, looking, opening, placed}
use Rattle.iox_wire_locals.specs.Known.{sending}
use Rattle.iox_wire_locals.specs.Tables.{Setting}
use Rattle.iox_wire_request_sends.specs.declared.target.RequestTerms.{RequestTerms}
use Rattle.iox_wire_request_sends.specs.declared.target.Target.{Target}
use Rattle.iox_wire_request_sends.specs.Aims.{IsToldOf}
use Rattle.iox_wire_request_sends.specs.RequestDispatches.{delivery_to}
use Rattle.iox_wire_request_sends.specs.Targets.{full_ways, servers_of, states_to, ways_to, with_room}
use Rattle.iox_wire_request_sends.proofs.RoomLemmas.{room_left}

-- ---- where the node was before does not matter

pub delivers_alike : (x : Seat) (l : Local) (d : Delivery) (last : Option Way) (ws : List Way) (count : ℕ)
    → delivering (placed x l) d last ws count ≡ delivering x d last ws count
delivers_alike x l d last [] count = refl
delivers_alike x l d last (w ∷ ws) count = refl

pub opens_alike : (p : Setting) (x : Seat) (l : Local) (d : Delivery) (ws full : List Way)
    → opening p (placed x l) d ws full ≡ opening p x d ws full
opens_alike p x l d [] full = delivers_alike x l d None (not_in full (targets (sending p x d))) 0
opens_alike p x l d (w ∷ ws) full = refl

pub looks_alike : (p : Setting) (x : Seat) (l : Local) (d : Delivery) (ws full : List Way)
    → looking p (placed x l) d ws full ≡ looking p x d ws full
looks_alike p x l d [] full =
    ap (λ (y : Seat). if list_any (sending p x d).fails full then ended x (endings.FailsToSend d.loan d.copied UnableToDeliver) else y)
    (opens_alike p x l d (to_open (sending p x d)) full)
looks_alike p x l d (w ∷ ws) full = refl

pub empties_alike : (p : Setting) (x : Seat) (l : Local) (d : Delivery) (ws : List Way)
    → emptying p (placed x l) d ws ≡ emptying p x d ws
empties_alike p x l d [] =
    ap₂ (λ (y z : Seat). if (sending p x d).overflow then y else z)
    (opens_alike p x l d (to_open (sending p x d)) []) (looks_alike p x l d (targets (sending p x d)) [])
empties_alike p x l d (w ∷ ws) = refl

-- ---- the ways of a request

pub targets_are : (p : Setting) (x : Seat) (e : Entry) (copied : Bool) (ts : List Target) → is_request_loan e.kind ≡ true
    → targets (sending p x (delivery_to e copied ts)) ≡ ways_to e.port ts
targets_are p x e copied ts kind =
    ap (λ (b : Bool). if b then map (request_way e.port) (servers_of ts) else map (λ client. response_way client e.lane e.port) (servers_of ts)) kind

pub states_are : (p : Setting) (x : Seat) (e : Entry) (copied : Bool) (ts : List Target) → is_request_loan e.kind ≡ true
    → to_open (sending p x (delivery_to e copied ts)) ≡ states_to e.port e.lane ts
states_are p x e copied ts kind =
    ap (λ (b : Bool). if b then map (response_way e.port e.lane) (servers_of ts) else []) kind

-- ---- a round is done

-- all are emptied
pub all_emptied : (p : Setting) (x : Seat) (e : Entry) (copied : Bool) (ts : List Target) (t : RequestTerms) (overflow : Bool)
    → is_request_loan e.kind ≡ true → IsToldOf p e t → t.overflow ≡ overflow
    → emptying p x (delivery_to e copied ts) []
    ≡ (if overflow then opening p x (delivery_to e copied ts) (states_to e.port e.lane ts) [] else looking p x (delivery_to e copied ts) (ways_to e.port ts) [])
all_emptied p x e copied ts t overflow kind told is =
    ap (λ (b : Bool). if b then opening p x (delivery_to e copied ts) (to_open (sending p x (delivery_to e copied ts))) [] else looking p x (delivery_to e copied ts) (targets (sending p x (delivery_to e copied ts))) []) (told.overflow x ∙ is)
    ∙ ap₂ (λ (os ws : List Way). if overflow then opening p x (delivery_to e copied ts) os [] else looking p x (delivery_to e copied ts) ws [])
    (states_are p x e copied ts kind) (targets_are p x e copied ts kind)

-- all were looked at
pub all_looked : (p : Setting) (x : Seat) (e : Entry) (copied : Bool) (ts : List Target) (full : List Way) (fails : Bool)
    → is_request_loan e.kind ≡ true → list_any (sending p x (delivery_to e copied ts)).fails full ≡ fails
    → looking p x (delivery_to e copied ts) [] full
    ≡ (if fails then ended x (endings.FailsToSend e copied UnableToDeliver) else opening p x (delivery_to e copied ts) (states_to e.port e.lane ts) full)
all_looked p x e copied ts full fails kind is =
    ap (λ (b : Bool). if b then ended x (endings.FailsToSend e copied UnableToDeliver) else opening p x (delivery_to e copied ts) (to_open (sending p x (delivery_to e copied ts))) full) is
    ∙ ap (λ (os : List Way). if fails then ended x (endings.FailsToSend e copied UnableToDeliver) else opening p x (delivery_to e copied ts) os full)
    (states_are p x e copied ts kind)

-- all states are open
pub all_opened : (p : Setting) (x : Seat) (e : Entry) (copied : Bool) (ts : List Target) (full : List ℕ) → is_request_loan e.kind ≡ true
    → opening p x (delivery_to e copied ts) [] (full_ways e.port full)
    ≡ delivering x (delivery_to e copied ts) None (ways_to e.port (with_room full ts)) 0
all_opened p x e copied ts full kind =
    ap (λ (ws : List Way). delivering x (delivery_to e copied ts) None (not_in (full_ways e.port full) ws) 0) (targets_are p x e copied ts kind)
    ∙ ap (λ (ws : List Way). delivering x (delivery_to e copied ts) None ws 0) (room_left e.port full ts)
