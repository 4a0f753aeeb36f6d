-- Where the courses of a call lead, what is so of a place is so.
use Rattle.std.specs.Prelude.{find, map}
use Rattle.std.specs.List.{list_any}
use Rattle.std.specs.Option.{option_map_or}
use Rattle.std.proofs.Common.{◌≡◌, ℕ, Bool, true, false, if◌then◌else◌, ◌==◌, List, [], ◌∷◌, Option, Some, None, refl, ap, sym, subst, ◌∙◌, true≢false, eqb-true}
use Rattle.iox_model.specs.declared.kind.Kind.TheVariants.{ActiveRequest, PendingResponse}
use Rattle.iox_model.specs.declared.kind.Role.TheVariants.{Client, Server}
use Rattle.iox_model.specs.declared.way.RequestState.{RequestState}
use Rattle.iox_model.specs.declared.way.Way.{Way}
use Rattle.iox_model.specs.Handles.{is_received, is_request_loan, same_kind}
use Rattle.iox_model.specs.Loans.{kind_of_loan, lending_ways}
use Rattle.iox_model.specs.Maps.{has_number, not_in}
use Rattle.iox_model.specs.Messages.{names, request_way, response_way}
use Rattle.iox_model.specs.Peers.{forgot_port, others}
use Rattle.iox_model.specs.Receives.{is_at_limit}
use Rattle.iox_model.specs.Requests.{is_active_spent, targets, to_open}
use Rattle.iox_model.specs.Settings.{is_client, is_count}
use Rattle.iox_model.specs.States.{Port}
use Rattle.iox_laws.proofs.WeaveLaws.MapLemmas.{either}
use Rattle.iox_steps.specs.declared.pop.EmptyLook.TheVariants as empty_look
use Rattle.iox_steps.specs.declared.pop.Pop.TheVariants as pop
use Rattle.iox_steps.specs.declared.push.Push.TheVariants as push
use Rattle.iox_steps.specs.declared.side.Popping.TheVariants as popping
use Rattle.iox_steps.specs.declared.side.Pushing.TheVariants as pushing
use Rattle.iox_wire_steps.specs.CallRefusal.{CallRefusal}
use Rattle.iox_wire_steps.specs.CallRefusal.TheVariants.{ExceedsMaxActiveRequests, UnableToDeliver, WrongLength}
use Rattle.iox_wire_steps.specs.Delivery.{Delivery}
use Rattle.iox_wire_steps.specs.Ending.TheVariants as endings
use Rattle.iox_wire_steps.specs.Local.TheVariants.{Reads, ReceiveAsks, ReceiveLooks, ReceivePops, ReleaseLooks, ReleaseReturns, SendAsks}
use Rattle.iox_wire_steps.specs.Visit.{Visit}
use Rattle.iox_wire_steps.specs.Seat.{Seat}
use Rattle.iox_wire_steps.specs.Desk.{Desk}
use Rattle.iox_wire_steps.specs.Entry.{Entry}
use Rattle.iox_wire_steps.specs.NewLoan.{NewLoan}
use Rattle.iox_wire_steps.specs.Begins as begins
use Rattle.iox_wire_steps.specs.Courses as courses
use Rattle.iox_wire_steps.specs.Desks.{at_desk, on_desk, picks}
use Rattle.iox_wire_steps.specs.Known.{free_lanes, free_slots, known, sending, told_handle}
use Rattle.iox_wire_steps.specs.Lendings.{first_lane}
use Rattle.iox_wire_steps.specs.Lendings as lendings
use Rattle.iox_wire_steps.specs.NewLoans.{entry_in, loan_in, request_in}
use Rattle.iox_wire_steps.specs.ReceiveCourses as receives
use Rattle.iox_wire_steps.specs.Tables.{Setting, way_in, words_to_read}
use Rattle.iox_wire_steps.specs.OwnedCalls.{Each}
use Rattle.iox_wire_steps.specs.SlotsKnown.{IsPortOfSeat}
use Rattle.iox_wire_calls.specs.Places.{Opens, IsOfLoan, IsNext, PlaceFits, SendFits, SuitsPort, TakesFirst, VisitsWay}
use Rattle.iox_wire_steps.proofs.OwnPorts.{each_map}
use Rattle.iox_wire_calls.proofs.HandleKinds.{loan_kind, role_lends}

-- ---- desks

-- a change of a desk that leaves what that tells of it
pub record Leaves {A : Type 0} (tells : Desk → A) (change : Desk → Desk) : Type 0 where
  pub port : (d : Desk) → (change d).port ≡ d.port
  pub told : (d : Desk) → tells (change d) ≡ tells d

abbrev at_port_of : {A : Type 0} → (Desk → A) → A → ℕ → List Desk → A
at_port_of tells none port ds = option_map_or tells (find (λ (d : Desk). d.port == port) ds) none

-- leaves it of each port
pub desks_stay : {A : Type 0} (tells : Desk → A) (none : A) (x : Seat) (q port : ℕ) (change : Desk → Desk) → Leaves tells change
    → option_map_or tells (find (λ (d : Desk). d.port == port) (at_desk x q change).desks) none
    ≡ option_map_or tells (find (λ (d : Desk). d.port == port) x.desks) none
desks_stay {A = A} tells none x q port change leaves = by_desks x.desks
  where
    port_is : (d : Desk) (b : Bool) → (if b then change d else d).port ≡ d.port
    port_is d true = leaves.port d
    port_is d false = refl

    told : (d : Desk) (b : Bool) → tells (if b then change d else d) ≡ tells d
    told d true = leaves.told d
    told d false = refl

    one : (d e : Desk) (ds es : List Desk) (a b : Bool) → a ≡ b → tells e ≡ tells d → at_port_of tells none port es ≡ at_port_of tells none port ds
        → option_map_or tells (if a then Some e else find (λ (k : Desk). k.port == port) es) none
        ≡ option_map_or tells (if b then Some d else find (λ (k : Desk). k.port == port) ds) none
    one d e ds es true true is first rest = first
    one d e ds es true false is first rest = absurd (true≢false is)
    one d e ds es false true is first rest = absurd (true≢false (sym is))
    one d e ds es false false is first rest = rest

    by_desks : (ds : List Desk) → at_port_of tells none port (map (on_desk q change) ds) ≡ at_port_of tells none port ds
    by_desks [] = refl
    by_desks (d ∷ ds) =
        one d (on_desk q change d) ds (map (on_desk q change) ds) _ _ (ap (λ k. k == port) (port_is d (d.port == q))) (told d (d.port == q)) (by_desks ds)

abbrev pub loans_told : Desk → ℕ
loans_told d = d.loans

abbrev pub lanes_told : Desk → List ℕ
lanes_told d = d.free_lanes

-- so a loan in the making is the next one still
pub next_stays : (p : Setting) (x : Seat) (q : ℕ) (change : Desk → Desk) (o : NewLoan) → Leaves loans_told change → IsNext p x o → IsNext p (at_desk x q change) o
next_stays p x q change o leaves next = (next.0, next.1, next.2 ∙ sym (desks_stay loans_told 0 x q o.port change leaves))

-- and takes the first lane
pub first_stays : (p : Setting) (x : Seat) (q : ℕ) (change : Desk → Desk) (o : NewLoan) → Leaves lanes_told change → TakesFirst p x o → TakesFirst p (at_desk x q change) o
first_stays p x q change o leaves first client =
    first client ∙ ap (first_lane (p.port o.port).pool) (sym (desks_stay lanes_told [] x q o.port change leaves))

-- ---- kinds of loans

-- a loan that its port lends is such
pub lent_kind : (p : Setting) (x : Seat) (o : NewLoan) → IsNext p x o → IsOfLoan o.kind × SuitsPort p x o.port o.kind
lent_kind p x o next =
    subst (λ kind. IsOfLoan kind × SuitsPort p x o.port kind) (sym next.1)
    (loan_kind (p.port o.port).role, (next.0, role_lends (p.port o.port).role))

-- ---- sends

-- it is so at the node's place
abbrev pub Fits : Setting → Seat → Type 0
Fits p y = PlaceFits p y y.local

module _ (p : Setting) (x : Seat) where
  pub delivering : (d : Delivery) (last : Option Way) (left : List Way) (count : ℕ) → SendFits p x d → Fits p (courses.delivering x d last left count)
  delivering d last [] count to = to
  delivering d last (w ∷ left) count to = to

  pub opening : (d : Delivery) (left full : List Way) → Each (Opens d) left → SendFits p x d → Fits p (courses.opening p x d left full)
  opening d [] full opens to = delivering d None (not_in full (targets (sending p x d))) 0 to
  opening d (w ∷ left) full opens to = (opens, to)

  -- a send of a request opens on its lane, that of a response nothing
  opens : (d : Delivery) → Each (Opens d) (to_open (sending p x d))
  opens d =
      either (Each (Opens d)) (is_request_loan d.loan.kind) (map (response_way d.loan.port d.loan.lane) d.to) []
      (λ is. each_map (Opens d) (response_way d.loan.port d.loan.lane) d.to (λ server there. (refl, refl))) (λ is. tt)

  pub looking : (d : Delivery) (left full : List Way) → SendFits p x d → Fits p (courses.looking p x d left full)
  looking d [] full to =
      either (Fits p) (list_any (sending p x d).fails full) (courses.ended x (endings.FailsToSend d.loan d.copied UnableToDeliver))
      (courses.opening p x d (to_open (sending p x d)) full) (λ is. to.0) (λ is. opening d (to_open (sending p x d)) full (opens d) to)
  looking d (w ∷ left) full to = (tt, to)

  pub emptying : (d : Delivery) (left : List Way) → SendFits p x d → Fits p (courses.emptying p x d left)
  emptying d [] to =
      either (Fits p) (sending p x d).overflow (courses.opening p x d (to_open (sending p x d)) []) (courses.looking p x d (targets (sending p x d)) [])
      (λ is. opening d (to_open (sending p x d)) [] (opens d) to) (λ is. looking d (targets (sending p x d)) [] to)
  emptying d (w ∷ left) to = (tt, to)

  sends_request : (d : Delivery) → SendFits p x d → Fits p (courses.sends_request p x d)
  sends_request d to =
      either (Fits p) (is_active_spent (known p x) (told_handle p x.node d.loan))
      (courses.ended x (endings.FailsToSend d.loan d.copied ExceedsMaxActiveRequests)) (courses.emptying p x d (map (request_way d.loan.port) d.to))
      (λ is. to.0) (λ is. emptying d (map (request_way d.loan.port) d.to) to)

  sends_response : (d : Delivery) → SendFits p x d → is_request_loan d.loan.kind ≡ false → Fits p (courses.sends_response p x d)
  sends_response d to answers =
      either (Fits p) (has_number d.loan.client (others (known p x) x.node Client)) (courses.placed x (SendAsks d))
      (courses.ended x (endings.Sends d.loan d.copied 0)) (λ is. (to, answers)) (λ is. (to.0, answers))

  pub sends : (e : Entry) (copied : Bool) → IsOfLoan e.kind → SuitsPort p x e.port e.kind → Fits p (courses.sends p x e copied)
  sends e copied loan suits =
      let to_servers : Delivery = record { loan = e; copied = copied; to = others (known p x) x.node Server } in
      let to_client : Delivery = record { loan = e; copied = copied; to = e.client ∷ [] } in
      either (Fits p) (is_request_loan e.kind) (courses.sends_request p x to_servers) (courses.sends_response p x to_client)
      (λ is. sends_request to_servers (loan, suits, λ request. refl))
      (λ is. sends_response to_client (loan, suits, λ request. absurd (true≢false (sym request ∙ is))) is)

  pub asked : (d : Delivery) (shown : RequestState) → SendFits p x d → is_request_loan d.loan.kind ≡ false → Fits p (courses.asked p x d shown)
  asked d shown to answers =
      either (Fits p) (names shown d.loan.request) (courses.emptying p x d (targets (sending p x d))) (courses.ended x (endings.Sends d.loan d.copied 0))
      (λ is. emptying d (targets (sending p x d)) to) (λ is. (to.0, answers))

-- ---- loans

module _ (p : Setting) (x : Seat) where
  takes_slot : (o : NewLoan) (free : List ℕ) → IsNext p x o → Fits p (courses.takes_slot x o free)
  takes_slot o [] next = tt
  takes_slot o (slot ∷ free) next = next_stays p x o.port (picks o slot free) o (record { port = λ d. refl; told = λ d. refl }) next

  pub loaning : (o : NewLoan) (left : List Way) → IsNext p x o → TakesFirst p x o → Fits p (courses.loaning x o left)
  loaning o [] next first = takes_slot o (free_slots x o.port) next
  loaning o (w ∷ left) next first = (tt, next, first)

  pub lent : (o : NewLoan) (slot : ℕ) → IsNext p x o → Fits p (courses.lent p x o slot)
  lent o slot next =
      either (Fits p) o.copies (courses.sends p x (entry_in o slot) true) (courses.ended x (endings.Lends o slot))
      (λ is. let kind = lent_kind p x o next in sends p x (entry_in o slot) true kind.0 kind.1) (λ is. next)

  lends : (refusal : Option CallRefusal) (o : NewLoan) → IsNext p x o → TakesFirst p x o → Fits p (lendings.lends p x refusal o)
  lends (Some r) o next first = tt
  lends None o next first = loaning o (lending_ways (known p x) (loan_in p o)) next first

  -- by a client that is the setting's port of its number
  lends_request : (q : Port) (k : ℕ) (payload : List ℕ) (copies : Bool) → IsPortOfSeat p x q.number → p.port q.number ≡ q → Fits p (lendings.lends_request p x q k payload copies)
  lends_request q k payload copies home set =
      either (Fits p) (is_count p.limits.request k) (lendings.lends p x (lendings.request_refusal p x q k) (lendings.new_request p x q k payload copies))
      (courses.ended x (endings.Refuses WrongLength))
      (λ is. lends (lendings.request_refusal p x q k) (lendings.new_request p x q k payload copies) (home, ap (λ (r : Port). kind_of_loan r.role false) (sym set), refl)
      (λ client. ap (λ (r : Port). first_lane r.pool (free_lanes x q.number)) (sym set))) (λ is. tt)

  -- by a server
  lends_response : (e : Entry) (k : ℕ) (payload : List ℕ) (copies : Bool) → IsPortOfSeat p x e.port → is_client (p.port e.port).role ≡ false
      → Fits p (lendings.lends_response p x e k payload copies)
  lends_response e k payload copies home server =
      either (Fits p) (is_count p.limits.response k)
      (lendings.lends p x (lendings.response_refusal p x e (p.port e.port) k) (lendings.new_response p x e k payload copies))
      (courses.ended x (endings.Refuses WrongLength))
      (λ is. lends (lendings.response_refusal p x e (p.port e.port) k) (lendings.new_response p x e k payload copies) (home, refl, refl)
      (λ client. absurd (true≢false (sym client ∙ server)))) (λ is. tt)

  pub loans_request : (q : Port) (k : ℕ) → IsPortOfSeat p x q.number → p.port q.number ≡ q → Fits p (lendings.lends_request p x q k [] false)
  loans_request q k home set = lends_request q k [] false home set

  pub loans_response : (e : Entry) (k : ℕ) → IsPortOfSeat p x e.port → is_client (p.port e.port).role ≡ false → Fits p (lendings.lends_response p x e k [] false)
  loans_response e k home server = lends_response e k [] false home server

  pub copies_request : (q : Port) (k : Option ℕ) (words : List ℕ) → IsPortOfSeat p x q.number → p.port q.number ≡ q → Fits p (lendings.copies_request p x q k words)
  copies_request q None words home set = tt
  copies_request q (Some k) words home set = lends_request q k words true home set

  pub copies_response : (e : Entry) (k : Option ℕ) (words : List ℕ) → IsPortOfSeat p x e.port → is_client (p.port e.port).role ≡ false → Fits p (lendings.copies_response p x e k words)
  copies_response e None words home server = tt
  copies_response e (Some k) words home server = lends_response e k words true home server

  pub writing : (e : Entry) (words : List ℕ) → IsOfLoan e.kind → Fits p (begins.writing x e words)
  writing e [] loan = loan
  writing e (word ∷ words) loan = loan

  pub writes : (e : Entry) (k : Option ℕ) (words : List ℕ) → IsOfLoan e.kind → Fits p (begins.writes x e k words)
  writes e None words loan = tt
  writes e (Some k) words loan =
      either (Fits p) (k == e.elements) (begins.writing x e words) (courses.ended x (endings.Refuses WrongLength)) (λ is. writing e words loan) (λ is. tt)

  pub reads : (e : Entry) → Fits p (begins.reads p x e)
  reads e = either (Fits p) (words_to_read p e == 0) (courses.ended x (endings.Words [])) (courses.placed x (Reads e [])) (λ is. tt) (λ is. tt)

-- ---- receives

module _ (p : Setting) (x : Seat) (v : Visit) where
  abbrev Ways : List Way → Type 0
  Ways ways = Each (VisitsWay p x v) ways

  pub visiting : (ways : List Way) (waiting : Bool) → Ways ways → Fits p (receives.visiting p x v ways waiting)
  visiting [] true each = tt
  visiting [] false each = tt
  visiting (w ∷ left) waiting each =
      either (Fits p) (is_at_limit (known p x) w) (courses.placed x (ReceiveLooks v w (popping.Looks empty_look.LoadsRead) left waiting))
      (courses.placed x (ReceivePops v w false (popping.Pops pop.LoadsRead) left waiting)) (λ is. (tt, each)) (λ is. (tt, each))

  module _ (w : Way) (slot : ℕ) (header : List ℕ) (left : List Way) (waiting : Bool) (each : Ways (w ∷ left)) where
    pub again : Fits p (receives.again x v w left waiting)
    again = (tt, each)

    stale : Fits p (receives.stale p x v w slot left waiting)
    stale =
        either (Fits p) (forgot_port (known p x) x.node w.sender) (receives.again x v w left waiting) (receives.gives_back x v w slot left waiting)
        (λ is. again) (λ is. (is, each))

    no_client : is_client v.role ≡ false → Fits p (courses.ended x (endings.Receives v w slot header))
    no_client server = (each.0.0, λ client. absurd (true≢false (sym client ∙ server)))

    pub took : Fits p (receives.took p x v w slot header left waiting)
    took =
        either (Fits p) (is_client v.role) (receives.took_response p x v w slot header left waiting) (receives.took_request p x v w slot header left waiting)
        (λ client. either (Fits p) (request_in v header == v.request) (courses.ended x (endings.Receives v w slot header)) (receives.stale p x v w slot left waiting)
        (λ is. (each.0.0, λ again. eqb-true (request_in v header) v.request is)) (λ is. stale))
        (λ server. either (Fits p) p.limits.fire_and_forget (courses.ended x (endings.Receives v w slot header)) (courses.placed x (ReceiveAsks v w slot header left waiting))
        (λ is. no_client server) (λ is. (server, is, each)))

    pub judged : (shown : RequestState) → is_client v.role ≡ false → p.limits.fire_and_forget ≡ false → Fits p (receives.judged x v w slot header left waiting shown)
    judged shown server asks =
        either (Fits p) (names shown (request_in v header)) (courses.ended x (endings.Receives v w slot header)) (receives.gives_back x v w slot left waiting)
        (λ is. no_client server) (λ is. (each.0.2 server asks, each))

-- ---- releases, questions and hints

module _ (p : Setting) (x : Seat) where
  pub seeking : (left : List Way) → Fits p (receives.seeking x left)
  seeking [] = tt
  seeking (w ∷ left) = tt

  pub closing : (e : Entry) (left : List Way) → Fits p (receives.closing x e left)
  closing e [] = tt
  closing e (w ∷ left) = tt

  pub checking : (e : Entry) (hinted : Bool) (left : List Way) → Fits p (receives.checking x e hinted left)
  checking e hinted [] = tt
  checking e hinted (w ∷ left) = tt

  pub hinting : (e : Entry) (left : List Way) → Fits p (receives.hinting x e left)
  hinting e [] = tt
  hinting e (w ∷ left) = tt

  pub given_back : (e : Entry) → Fits p (receives.given_back x e)
  given_back e =
      either (Fits p) (same_kind e.kind ActiveRequest) (courses.placed x (ReleaseLooks e)) (courses.ended x (endings.Drops e)) (λ is. tt) (λ is. tt)

  returning : (e : Entry) → Fits p (receives.returning p x e)
  returning e =
      either (Fits p) (forgot_port (known p x) x.node (way_in e).sender) (courses.ended x (endings.Drops e))
      (courses.placed x (ReleaseReturns e (pushing.Pushes (push.LoadsWrite e.slot)))) (λ is. tt) (λ is. is)

  pub releasing : (e : Entry) → Fits p (receives.releasing p x e)
  releasing e =
      either (Fits p) (is_received e.kind) (receives.returning p x e)
      (if same_kind e.kind PendingResponse then receives.closing x e (receives.states_for p x e) else courses.ended x (endings.Drops e)) (λ is. returning e)
      (λ is. either (Fits p) (same_kind e.kind PendingResponse) (receives.closing x e (receives.states_for p x e)) (courses.ended x (endings.Drops e))
      (λ pending. closing e (receives.states_for p x e)) (λ loan. tt))
