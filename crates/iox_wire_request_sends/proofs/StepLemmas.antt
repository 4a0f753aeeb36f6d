-- How the send of a request continues from an access that is the last of its part.
use Rattle.std.proofs.Common.{◌≡◌, ◌+◌, ℕ, Bool, true, false, List, ◌∷◌, Option, None, Some, refl, ap, ap₂, sym, ◌∙◌, true≢false}
use Rattle.std.specs.Prelude.{if◌then◌else◌, option_map}
use Rattle.iox_model.specs.declared.way.Way.{Way}
use Rattle.iox_model.specs.Requests.{may_evict}
use Rattle.iox_steps.specs.Sides.{popping_event, pushing_after, pushing_event}
use Rattle.iox_steps.specs.declared.side.Popping.{Popping}
use Rattle.iox_steps.specs.declared.side.Pushing.{Pushing}
use Rattle.iox_steps.specs.declared.side.Pushing.TheVariants as pushing
use Rattle.iox_steps.specs.declared.side.QueueEvent.{QueueEvent}
use Rattle.iox_steps.specs.declared.side.QueueEvent.TheVariants as events
use Rattle.iox_steps.specs.declared.site.Site.{Site}
use Rattle.iox_word_map.specs.WordMaps.{MessageQueue, ReturningQueue}
use Rattle.iox_wire_words.specs.Programs.{site_of}
use Rattle.iox_wire_locals.specs.declared.local.Delivery.{Delivery}
use Rattle.iox_wire_locals.specs.declared.local.Local.{Local}
use Rattle.iox_wire_locals.specs.declared.local.Local.TheVariants.{SendEmpties, SendLooks, SendOpens, SendPushes, SendEvicts, SendGetsBack}
use Rattle.iox_wire_locals.specs.declared.seat.Seat.{Seat}
use Rattle.iox_wire_locals.specs.Courses.{delivering, emptying, looking, opening, placed}
use Rattle.iox_wire_locals.specs.Desks.{at_desk, delivers, gets_back}
use Rattle.iox_wire_locals.specs.Findings.{send_emptied, send_evicted, send_got_back, send_looked, send_pushed}
use Rattle.iox_wire_locals.specs.Known.{sending}
use Rattle.iox_wire_locals.specs.Steps.{accessed, advance, next, pop_place, push_place, tells}
use Rattle.iox_wire_locals.specs.Tables.{Setting}
use Rattle.iox_wire_seats.specs.Aims.{is_at_rest}
use Rattle.iox_wire_seats.specs.Seats.{Placed}
use Rattle.iox_wire_request_sends.specs.declared.at.RequestReply.{RequestReply}
use Rattle.iox_wire_request_sends.specs.Aims.{LeadsTo, after, answered}
use Rattle.iox_wire_request_sends.specs.RequestDispatches.{RequestDispatch, reply_in}
use Rattle.iox_wire_request_sends.proofs.RoundLemmas.{delivers_alike, empties_alike, looks_alike, opens_alike}

-- ---- where an access leads

pub next_by : (p : Setting) (x there : Seat) (l : Local) (seen : ℕ) (y : Placed) (s : RequestDispatch) (reply : Option RequestReply)
    → advance p (accessed (placed x l)) l seen ≡ there → LeadsTo p there y s reply
    → placed y.seat s.local ≡ next p (placed x l) seen
next_by p x there l seen y s reply is leads = leads.next ∙ sym (ap (after p) is)

pub tells_by : (p : Setting) (x there : Seat) (l : Local) (seen : ℕ) (y : Placed) (s : RequestDispatch) (reply : Option RequestReply)
    → advance p (accessed (placed x l)) l seen ≡ there → LeadsTo p there y s reply
    → tells p (placed x l) seen ≡ option_map reply_in reply
tells_by p x there l seen y s reply is leads = ap (answered p) is ∙ leads.over

-- ---- what it finds

pub emptied : (p : Setting) (x : Seat) (d : Delivery) (w : Way) (place : Popping) (left : List Way) (site : Site) (seen : ℕ)
    → site ≡ site_of p.layout (ReturningQueue w) → popping_event site place seen ≡ events.SeesEmpty
    → advance p (accessed (placed x (SendEmpties d w place left))) (SendEmpties d w place left) seen ≡ emptying p (accessed x) d left
emptied p x d w place left site seen there event =
    ap (send_emptied p (placed (accessed x) (SendEmpties d w place left)) d w left (pop_place p (ReturningQueue w) place seen))
    (ap (λ (s : Site). popping_event s place seen) (sym there) ∙ event)
    ∙ empties_alike p (accessed x) (SendEmpties d w place left) d left

pub looked_full : (p : Setting) (x : Seat) (d : Delivery) (w : Way) (place : Pushing) (left full : List Way) (site : Site) (seen : ℕ)
    → site ≡ site_of p.layout (MessageQueue w) → pushing_event site place seen ≡ events.SeesFull
    → advance p (accessed (placed x (SendLooks d w place left full))) (SendLooks d w place left full) seen ≡ looking p (accessed x) d left (w ∷ full)
looked_full p x d w place left full site seen there event =
    ap (send_looked p (placed (accessed x) (SendLooks d w place left full)) d w left full (push_place p (MessageQueue w) place seen))
    (ap (λ (s : Site). pushing_event s place seen) (sym there) ∙ event)
    ∙ looks_alike p (accessed x) (SendLooks d w place left full) d left (w ∷ full)

pub looked_room : (p : Setting) (x : Seat) (d : Delivery) (w : Way) (place : Pushing) (left full : List Way) (site : Site) (seen : ℕ)
    → site ≡ site_of p.layout (MessageQueue w) → pushing_event site place seen ≡ events.SeesRoom
    → advance p (accessed (placed x (SendLooks d w place left full))) (SendLooks d w place left full) seen ≡ looking p (accessed x) d left full
looked_room p x d w place left full site seen there event =
    ap (send_looked p (placed (accessed x) (SendLooks d w place left full)) d w left full (push_place p (MessageQueue w) place seen))
    (ap (λ (s : Site). pushing_event s place seen) (sym there) ∙ event)
    ∙ looks_alike p (accessed x) (SendLooks d w place left full) d left full

pub opened : (p : Setting) (x : Seat) (d : Delivery) (w : Way) (left full : List Way) (seen : ℕ)
    → advance p (accessed (placed x (SendOpens d w left full))) (SendOpens d w left full) seen ≡ opening p (accessed x) d left full
opened p x d w left full seen = opens_alike p (accessed x) (SendOpens d w left full) d left full

at_rest : (q : Pushing) → is_at_rest q ≡ true → q ≡ pushing.AtRest
at_rest pushing.AtRest e = refl
at_rest (pushing.Pushes place) e = absurd (true≢false (sym e))
at_rest (pushing.Looks place) e = absurd (true≢false (sym e))

pub published : (p : Setting) (x : Seat) (d : Delivery) (last : Option Way) (w : Way) (place q : Pushing) (left : List Way) (count : ℕ) (site : Site) (seen slot : ℕ) (overflow : Bool)
    → site ≡ site_of p.layout (MessageQueue w) → pushing_event site place seen ≡ events.Publish slot
    → q ≡ pushing_after site place seen → is_at_rest q ≡ true
    → (sending p (at_desk (accessed x) d.loan.port (delivers w slot)) d).overflow ≡ overflow
    → advance p (accessed (placed x (SendPushes d last w place left count))) (SendPushes d last w place left count) seen
    ≡ delivering (at_desk (accessed x) d.loan.port (delivers w slot)) d (if overflow then Some w else None) left (count + 1)
published p x d last w place q left count site seen slot overflow there event is rest overflows =
    ap₂ (λ (r : Pushing) (e : QueueEvent). send_pushed p (placed (accessed x) (SendPushes d last w place left count)) d last w left count r e)
    (ap (λ (s : Site). pushing_after s place seen) (sym there) ∙ sym is ∙ at_rest q rest)
    (ap (λ (s : Site). pushing_event s place seen) (sym there) ∙ event)
    ∙ delivers_alike (at_desk (accessed x) d.loan.port (delivers w slot)) (SendPushes d last w place left count) d (may_evict (sending p (at_desk (accessed x) d.loan.port (delivers w slot)) d) w) left (count + 1)
    ∙ ap (λ (b : Bool). delivering (at_desk (accessed x) d.loan.port (delivers w slot)) d (if b then Some w else None) left (count + 1)) overflows

-- whether the oldest was pushed out
abbrev pub is_evict : QueueEvent → Bool
is_evict events.Evict = true
is_evict event = false

pub not_evict : (e : QueueEvent) → (e ≡ events.Evict → ⊥) → is_evict e ≡ false
not_evict events.Evict none = absurd (none refl)
not_evict events.Quiet none = refl
not_evict (events.Publish v) none = refl
not_evict (events.HandOut v) none = refl
not_evict (events.Learn v) none = refl
not_evict events.SeesEmpty none = refl
not_evict events.SeesWaiting none = refl
not_evict events.SeesFull none = refl
not_evict events.SeesRoom none = refl
not_evict events.SeesEnd none = refl

late : (x : Seat) (d : Delivery) (w : Way) (left : List Way) (count : ℕ) (q : Pushing) (e : QueueEvent) → is_evict e ≡ false
    → send_evicted x d w left count q e ≡ delivering x d (Some w) left count
late x d w left count q events.Evict h = absurd (true≢false h)
late x d w left count q events.Quiet h = refl
late x d w left count q (events.Publish v) h = refl
late x d w left count q (events.HandOut v) h = refl
late x d w left count q (events.Learn v) h = refl
late x d w left count q events.SeesEmpty h = refl
late x d w left count q events.SeesWaiting h = refl
late x d w left count q events.SeesFull h = refl
late x d w left count q events.SeesRoom h = refl
late x d w left count q events.SeesEnd h = refl

pub too_late : (p : Setting) (x : Seat) (d : Delivery) (w : Way) (place : Pushing) (left : List Way) (count : ℕ) (site : Site) (seen : ℕ)
    → site ≡ site_of p.layout (MessageQueue w) → is_evict (pushing_event site place seen) ≡ false
    → advance p (accessed (placed x (SendEvicts d w place left count))) (SendEvicts d w place left count) seen ≡ delivering (accessed x) d (Some w) left count
too_late p x d w place left count site seen there h =
    late (placed (accessed x) (SendEvicts d w place left count)) d w left count (push_place p (MessageQueue w) place seen) (pushing_event (site_of p.layout (MessageQueue w)) place seen)
    (ap (λ (s : Site). is_evict (pushing_event s place seen)) (sym there) ∙ h)
    ∙ delivers_alike (accessed x) (SendEvicts d w place left count) d (Some w) left count

pub learned : (p : Setting) (x : Seat) (d : Delivery) (w : Way) (place : Pushing) (left : List Way) (count : ℕ) (site : Site) (seen slot : ℕ)
    → site ≡ site_of p.layout (MessageQueue w) → pushing_event site place seen ≡ events.Learn slot
    → advance p (accessed (placed x (SendGetsBack d w place left count))) (SendGetsBack d w place left count) seen
    ≡ delivering (at_desk (accessed x) d.loan.port (gets_back w slot)) d None left count
learned p x d w place left count site seen slot there event =
    ap (send_got_back (placed (accessed x) (SendGetsBack d w place left count)) d w left count (push_place p (MessageQueue w) place seen))
    (ap (λ (s : Site). pushing_event s place seen) (sym there) ∙ event)
    ∙ delivers_alike (at_desk (accessed x) d.loan.port (gets_back w slot)) (SendGetsBack d w place left count) d None left count
