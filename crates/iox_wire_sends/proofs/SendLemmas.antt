-- How the send of a response continues once what returned is got back.
use Rattle.std.proofs.Common.{◌≡◌, ℕ, Bool, true, false, List, [], ◌∷◌, None, refl, ap, ap₂, sym, ◌∙◌, true≢false}
use Rattle.std.specs.Prelude.{if◌then◌else◌}
use Rattle.iox_model.specs.declared.kind.Kind.{Kind}
use Rattle.iox_model.specs.declared.kind.Kind.TheVariants as kinds
use Rattle.iox_model.specs.declared.way.Way.{Way}
use Rattle.iox_model.specs.Handles.{is_request_loan, is_response_loan}
use Rattle.iox_model.specs.Maps.{not_in}
use Rattle.iox_model.specs.Messages.{request_way, response_way}
use Rattle.iox_model.specs.Requests.{targets, to_open}
use Rattle.iox_steps.specs.Sides.{popping_event}
use Rattle.iox_steps.specs.declared.site.Site.{Site}
use Rattle.iox_steps.specs.declared.push.Push.TheVariants as push
use Rattle.iox_steps.specs.declared.push.FullLook.TheVariants as full_look
use Rattle.iox_steps.specs.declared.side.Pushing.{Pushing}
use Rattle.iox_steps.specs.declared.side.Pushing.TheVariants as pushing
use Rattle.iox_steps.specs.declared.side.Popping.{Popping}
use Rattle.iox_steps.specs.declared.side.QueueEvent.TheVariants.{SeesEmpty}
use Rattle.iox_word_map.specs.WordMaps.{ReturningQueue}
use Rattle.iox_wire_locals.specs.declared.table.Entry.{Entry}
use Rattle.iox_wire_locals.specs.declared.local.Local.TheVariants.{SendEmpties, SendEvicts, SendLooks, SendPushes}
use Rattle.iox_wire_locals.specs.declared.seat.Seat.{Seat}
use Rattle.iox_wire_locals.specs.Tables.{Setting, state_in}
use Rattle.iox_wire_locals.specs.Known.{sending}
use Rattle.iox_wire_locals.specs.Courses.{placed, emptying, looking, opening, delivering}
use Rattle.iox_wire_locals.specs.Findings.{send_emptied}
use Rattle.iox_wire_locals.specs.Steps.{accessed, advance, next, pop_place}
use Rattle.iox_wire_loans.specs.Aims.{after}
use Rattle.iox_wire_sends.specs.declared.terms.ResponseTerms.{ResponseTerms}
use Rattle.iox_wire_sends.specs.Dispatches.{delivery_to}
use Rattle.iox_wire_sends.specs.Aims.{IsToldOf}

-- ---- a loaned response is no request

pub no_request : (k : Kind) → is_response_loan k ≡ true → is_request_loan k ≡ false
no_request kinds.Client e = refl
no_request kinds.Server e = refl
no_request kinds.RequestMutUninit e = absurd (true≢false (sym e))
no_request kinds.RequestMut e = absurd (true≢false (sym e))
no_request kinds.ResponseMutUninit e = refl
no_request kinds.ResponseMut e = refl
no_request kinds.PendingResponse e = refl
no_request kinds.ActiveRequest e = refl
no_request kinds.Response e = refl

targets_are : (p : Setting) (x : Seat) (e : Entry) (c : Bool) → is_response_loan e.kind ≡ true
    → targets (sending p x (delivery_to e c)) ≡ state_in e ∷ []
targets_are p x e c kind =
    ap (λ (b : Bool). if b then request_way e.port e.client ∷ [] else response_way e.client e.lane e.port ∷ []) (no_request e.kind kind)

none_opens : (p : Setting) (x : Seat) (e : Entry) (c : Bool) → is_response_loan e.kind ≡ true → to_open (sending p x (delivery_to e c)) ≡ []
none_opens p x e c kind =
    ap (λ (b : Bool). if b then response_way e.port e.lane e.client ∷ [] else []) (no_request e.kind kind)

-- ---- where it goes

abbrev pub empties : Seat → Entry → Bool → Popping → Seat
empties x e c place = placed x (SendEmpties (delivery_to e c) (state_in e) place [])

abbrev pub looks : Seat → Entry → Bool → Pushing → Seat
looks x e c place = placed x (SendLooks (delivery_to e c) (state_in e) place [] [])

abbrev pub pushes : Seat → Entry → Bool → Pushing → Seat
pushes x e c place = placed x (SendPushes (delivery_to e c) None (state_in e) place [] 0)

abbrev pub evicts : Seat → Entry → Bool → Pushing → Seat
evicts x e c place = placed x (SendEvicts (delivery_to e c) (state_in e) place [] 1)

abbrev pub looks_or_pushes : Seat → Entry → Bool → Bool → Seat
looks_or_pushes x e c overflow =
    if overflow then pushes x e c (pushing.Pushes (push.LoadsWrite e.slot)) else looks x e c (pushing.Looks full_look.LoadsWrite)

emptied_on : (p : Setting) (x : Seat) (e : Entry) (c : Bool) (t : ResponseTerms) → is_response_loan e.kind ≡ true → IsToldOf p e t
    → emptying p x (delivery_to e c) []
    ≡ looks_or_pushes x e c t.overflow
emptied_on p x e c t kind told =
    ap (λ (b : Bool). if b then opening p x (delivery_to e c) (to_open (sending p x (delivery_to e c))) [] else looking p x (delivery_to e c) (targets (sending p x (delivery_to e c))) []) (told.overflow x)
    ∙ ap₂ (λ (os ws : List Way). if t.overflow then opening p x (delivery_to e c) os [] else looking p x (delivery_to e c) ws []) (none_opens p x e c kind) (targets_are p x e c kind)
    ∙ ap (λ (ws : List Way). if t.overflow then delivering x (delivery_to e c) None (not_in [] ws) 0 else looks x e c (pushing.Looks full_look.LoadsWrite)) (targets_are p x e c kind)

empty_on : (p : Setting) (x : Seat) (e : Entry) (c : Bool) (t : ResponseTerms) (place : Popping) (seen : ℕ) → is_response_loan e.kind ≡ true → IsToldOf p e t
    → popping_event t.returning place seen ≡ SeesEmpty
    → advance p (accessed (empties x e c place)) (empties x e c place).local seen
    ≡ looks_or_pushes (accessed x) e c t.overflow
empty_on p x e c t place seen kind told event =
    ap (send_emptied p (accessed (empties x e c place)) (delivery_to e c) (state_in e) [] (pop_place p (ReturningQueue (state_in e)) place seen))
    (ap (λ (s : Site). popping_event s place seen) (sym told.returning) ∙ event)
    ∙ emptied_on p (accessed (empties x e c place)) e c t kind told

pub empty_next : (p : Setting) (x : Seat) (e : Entry) (c : Bool) (t : ResponseTerms) (place : Popping) (seen : ℕ) (overflow : Bool) → is_response_loan e.kind ≡ true → IsToldOf p e t
    → popping_event t.returning place seen ≡ SeesEmpty → t.overflow ≡ overflow
    → looks_or_pushes (accessed x) e c overflow ≡ next p (empties x e c place) seen
empty_next p x e c t place seen overflow kind told event is =
    by_case overflow ∙ ap (λ (b : Bool). after p (looks_or_pushes (accessed x) e c b)) (sym is)
    ∙ sym (ap (after p) (empty_on p x e c t place seen kind told event))
  where
    by_case : (b : Bool) → looks_or_pushes (accessed x) e c b ≡ after p (looks_or_pushes (accessed x) e c b)
    by_case true = refl
    by_case false = refl
