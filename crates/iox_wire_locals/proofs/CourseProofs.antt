-- Each course by cases, as the machine's.
use Rattle.std.specs.Prelude.{map}
use Rattle.std.specs.List.{list_any}
use Rattle.std.proofs.Common.{◌≡◌, ℕ, Bool, true, false, if◌then◌else◌, ◌==◌, List, [], ◌∷◌, Option, None, refl, ap, sym, subst}
use Rattle.iox_model.specs.declared.kind.Role.TheVariants.{Client, Server}
use Rattle.iox_model.specs.declared.kind.Kind.TheVariants.{PendingResponse, ActiveRequest}
use Rattle.iox_model.specs.declared.way.Way.{Way}
use Rattle.iox_model.specs.declared.way.RequestState.{RequestState}
use Rattle.iox_model.specs.Doings.{Doing, Ended, Loans, Delivering}
use Rattle.iox_model.specs.Handles.{same_kind, is_request_loan, is_received, way_of}
use Rattle.iox_model.specs.Maps.{has_number, not_in}
use Rattle.iox_model.specs.Messages.{names, request_way}
use Rattle.iox_model.specs.Peers.{others, forgot_port, node_of_port}
use Rattle.iox_model.specs.Looks as looks
use Rattle.iox_model.specs.Receives as receives
use Rattle.iox_model.specs.Receives.{is_at_limit}
use Rattle.iox_steps.specs.declared.pop.Pop.TheVariants as pop
use Rattle.iox_steps.specs.declared.pop.EmptyLook.TheVariants as empty_look
use Rattle.iox_steps.specs.declared.side.Popping.TheVariants as popping
use Rattle.iox_wire_locals.specs.declared.table.NewLoan.{NewLoan}
use Rattle.iox_wire_locals.specs.declared.local.Local.TheVariants.{ReceiveLooks, ReceivePops}
use Rattle.iox_model.specs.Releases as releases
use Rattle.iox_model.specs.Requests as requests
use Rattle.iox_model.specs.Requests.{targets, to_open, is_active_spent}
use Rattle.iox_model.specs.Responses as responses
use Rattle.iox_model.specs.Settings.{is_client}
use Rattle.iox_model.specs.States.{Fixed}
use Rattle.iox_wire_moments.specs.MomentsOf.{Pools}
use Rattle.iox_wire_locals.specs.declared.table.Entry.{Entry}
use Rattle.iox_wire_locals.specs.declared.local.Delivery.{Delivery}
use Rattle.iox_wire_locals.specs.declared.local.Visit.{Visit}
use Rattle.iox_wire_locals.specs.declared.seat.Seat.{Seat}
use Rattle.iox_wire_locals.specs.Tables.{Setting, handle_of, way_in}
use Rattle.iox_wire_locals.specs.NewLoans.{request_in, loan_in, entry_in}
use Rattle.iox_wire_locals.specs.Known.{known, sending, told_handle}
use Rattle.iox_wire_locals.specs.Doings.{receiver_in, send_of}
use Rattle.iox_wire_locals.specs.Courses as own
use Rattle.iox_wire_locals.specs.ReceiveCourses as own_back
use Rattle.iox_wire_locals.specs.Knowing.{Knows, StandsFor, SendsGoOn, SendsBegin, LoansGoOn, ReceivesGoOn, ReleasesGoOn, LooksGoOn}
use Rattle.iox_wire_locals.proofs.KnowingLemmas.{others_known, forgot_known, role_known, any_fails_known, count_known, states_known, way_known}

module _ (p : Setting) (x : Seat) (f : Fixed) (held : Pools) where
  abbrev Stands : Seat → Doing → Type 0
  Stands y d = StandsFor p f held x.node y d

  -- where both decide by the same test
  pub either : (b : Bool) (y z : Seat) (d e : Doing) → Stands y d → Stands z e
      → Stands (if b then y else z) (if b then d else e)
  either true y z d e s t = s
  either false y z d e s t = t

  pub either_as : (b c : Bool) (y z : Seat) (d e : Doing) → c ≡ b → Stands y d → Stands z e
      → Stands (if b then y else z) (if c then d else e)
  either_as b c y z d e same s t =
      subst (λ u. Stands (if b then y else z) (if u then d else e)) (sym same) (either b y z d e s t)

  -- ---- sends

  pub delivering : (d : Delivery) (last : Option Way) (left : List Way) (count : ℕ)
      → Stands (own.delivering x d last left count) (Delivering (send_of f held x.node d) last left count)
  delivering d last [] count = refl
  delivering d last (w ∷ left) count = refl

  pub opening : (d : Delivery) (left full : List Way)
      → Stands (own.opening p x d left full) (requests.opening (send_of f held x.node d) left full)
  opening d [] full = delivering d None (not_in full (targets (send_of f held x.node d))) 0
  opening d (w ∷ left) full = refl

  -- ---- ways that are visited one after another

  pub visiting : (v : Visit) (left : List Way) (waiting : Bool)
      → Stands (own_back.visiting p x v left waiting) (receives.visiting (receiver_in v) left waiting)
  visiting v [] true = refl
  visiting v [] false = refl
  visiting v (w ∷ left) waiting = by_limit (is_at_limit (known p x) w)
    where
      by_limit : (b : Bool) → Stands (if b then own.placed x (ReceiveLooks v w (popping.Looks empty_look.LoadsRead) left waiting)
          else own.placed x (ReceivePops v w false (popping.Pops pop.LoadsRead) left waiting))
          (receives.visiting (receiver_in v) (w ∷ left) waiting)
      by_limit true = refl
      by_limit false = refl

  pub closing : (e : Entry) (left : List Way) → Stands (own_back.closing x e left) (releases.closing (handle_of held x.node e) left)
  closing e [] = refl
  closing e (w ∷ left) = refl

  pub checking : (e : Entry) (hinted : Bool) (left : List Way)
      → Stands (own_back.checking x e hinted left) (looks.checking (handle_of held x.node e) hinted left)
  checking e hinted [] = refl
  checking e hinted (w ∷ left) = refl

  pub hinting : (e : Entry) (left : List Way) → Stands (own_back.hinting x e left) (looks.hinting (handle_of held x.node e) left)
  hinting e [] = refl
  hinting e (w ∷ left) = refl

  pub seeking : (left : List Way) → Stands (own_back.seeking x left) (receives.seeking left)
  seeking [] = refl
  seeking (w ∷ left) = refl

  module _ (k : Knows p x f held) where
    pub looking : (d : Delivery) (left full : List Way)
        → Stands (own.looking p x d left full) (requests.looking (send_of f held x.node d) left full)
    looking d [] full =
        either_as (list_any (sending p x d).fails full) (list_any (send_of f held x.node d).fails full) _ _ _ _
        (any_fails_known p x f held k full) refl (opening d (to_open (send_of f held x.node d)) full)
    looking d (w ∷ left) full = refl

    pub overflow_same : (d : Delivery) → (send_of f held x.node d).overflow ≡ (sending p x d).overflow
    overflow_same d = rw (role_known p x f held k d.loan.port) (rw k.limits refl)

    pub emptying : (d : Delivery) (left : List Way)
        → Stands (own.emptying p x d left) (requests.emptying (send_of f held x.node d) left)
    emptying d [] =
        either_as (sending p x d).overflow (send_of f held x.node d).overflow _ _ _ _ (overflow_same d)
        (opening d (to_open (send_of f held x.node d)) []) (looking d (targets (send_of f held x.node d)) [])
    emptying d (w ∷ left) = refl

    pub asked : (d : Delivery) (shown : RequestState)
        → Stands (own.asked p x d shown) (responses.asked (send_of f held x.node d) shown)
    asked d shown =
        either (names shown d.loan.request) _ _ _ _ (emptying d (targets (send_of f held x.node d))) refl

    request : (e : Entry) (copied : Bool) (servers : List ℕ) → node_of_port f e.port ≡ x.node
        → Stands (own.sends_request p x (record { loan = e; copied = copied; to = servers }))
        (requests.sends_request f (handle_of held x.node e) copied servers)
    request e copied servers mine =
        either_as (is_active_spent (known p x) (told_handle p x.node e)) (is_active_spent f (handle_of held x.node e)) _ _ _ _
        spent refl (emptying (record { loan = e; copied = copied; to = servers }) (map (request_way e.port) servers))
      where
        spent : is_active_spent f (handle_of held x.node e) ≡ is_active_spent (known p x) (told_handle p x.node e)
        spent = rw k.limits (rw (count_known p x f held k e.port (λ j. same_kind j PendingResponse) mine) refl)

    response : (e : Entry) (copied : Bool)
        → Stands (own.sends_response p x (record { loan = e; copied = copied; to = e.client ∷ [] }))
        (responses.sends_response f (handle_of held x.node e) copied)
    response e copied =
        either_as (has_number e.client (others (known p x) x.node Client)) (has_number e.client (others f x.node Client)) _ _ _ _
        (ap (has_number e.client) (others_known p x f held k Client)) refl refl

    pub sending_begins : (e : Entry) (copied : Bool) → node_of_port f e.port ≡ x.node
        → Stands (own.sends p x e copied) (responses.sends f (handle_of held x.node e) copied)
    sending_begins e copied mine =
        either (is_request_loan e.kind) _ _ _ _
        (rw (others_known p x f held k Server) (request e copied (others (known p x) x.node Server) mine))
        (response e copied)

    -- ---- loans

    pub lent : (o : NewLoan) (slot : ℕ) → node_of_port f o.port ≡ x.node
        → handle_of held x.node (entry_in o slot) ≡ loan_in p o
        → Stands (own.lent p x o slot) (if o.copies then responses.sends f (loan_in p o) true else Ended (Loans (loan_in p o)))
    lent o slot mine is =
        either o.copies _ _ _ _
        (subst (λ h. Stands (own.sends p x (entry_in o slot) true) (responses.sends f h true)) is
        (sending_begins (entry_in o slot) true mine)) refl

    -- ---- receives

    module _ (v : Visit) (w : Way) (left : List Way) (waiting : Bool) where
      stale : (slot : ℕ) → Stands (own_back.stale p x v w slot left waiting)
          (receives.stale f x.node (receiver_in v) w (held w.sender slot) (w ∷ left) waiting)
      stale slot =
          either_as (forgot_port (known p x) x.node w.sender) (forgot_port f x.node w.sender) _ _ _ _
          (forgot_known p x f held k w.sender) refl refl

      module _ (slot : ℕ) (header : List ℕ) (is : request_in v header ≡ (held w.sender slot).request) where
        took_response : Stands (own_back.took_response p x v w slot header left waiting)
            (receives.took_response f x.node (receiver_in v) w (held w.sender slot) (w ∷ left) waiting)
        took_response =
            either_as (request_in v header == v.request) ((held w.sender slot).request == v.request) _ _ _ _
            (ap (λ n. n == v.request) (sym is)) refl (stale slot)

        took_request : Stands (own_back.took_request p x v w slot header left waiting)
            (receives.took_request f (receiver_in v) w (held w.sender slot) (w ∷ left) waiting)
        took_request =
            either_as p.limits.fire_and_forget f.limits.fire_and_forget _ _ _ _ (rw k.limits refl) refl refl

        pub took : Stands (own_back.took p x v w slot header left waiting)
            (receives.took f x.node (receiver_in v) w (held w.sender slot) (w ∷ left) waiting)
        took = either (is_client v.role) _ _ _ _ took_response took_request

        pub judged : (shown : RequestState) → Stands (own_back.judged x v w slot header left waiting shown)
            (receives.judged (receiver_in v) w (held w.sender slot) (w ∷ left) waiting shown)
        judged shown =
            either_as (names shown (request_in v header)) (names shown (held w.sender slot).request) _ _ _ _
            (ap (names shown) (sym is)) refl refl

    -- ---- releases

    returning : (e : Entry) → Stands (own_back.returning p x e) (releases.returning f (handle_of held x.node e))
    returning e =
        either_as (forgot_port (known p x) x.node (way_in e).sender) (forgot_port f x.node (way_of (handle_of held x.node e)).sender) _ _ _ _
        (rw (way_known p x f held k e) (forgot_known p x f held k (way_in e).sender)) refl refl

    pub releasing : (e : Entry) → Stands (own_back.releasing p x e) (releases.releases_handle f (handle_of held x.node e))
    releasing e =
        either (is_received e.kind) _ _ _ _ (returning e)
        (either (same_kind e.kind PendingResponse) _ _ _ _
        (rw (states_known p x f held k e) (closing e (own_back.states_for p x e))) refl)

  pub given_back : (e : Entry) → Stands (own_back.given_back x e) (releases.given_back (handle_of held x.node e))
  given_back e = either (same_kind e.kind ActiveRequest) _ _ _ _ refl refl

pub sends_go_on : SendsGoOn
sends_go_on p x f held d left k =
    (emptying p x f held k d left, looking p x f held k d left, opening p x f held d left, asked p x f held k d)

pub sends_begin : SendsBegin
sends_begin p x f held e copied k mine = sending_begins p x f held k e copied mine

pub loans_go_on : LoansGoOn
loans_go_on p x f held o slot k mine is = lent p x f held k o slot mine is

pub receives_go_on : ReceivesGoOn
receives_go_on p x f held v w left waiting k =
    (visiting p x f held v left waiting, λ slot header is. (took p x f held k v w left waiting slot header is, judged p x f held k v w left waiting slot header is))

pub releases_go_on : ReleasesGoOn
releases_go_on p x f held e left k = (releasing p x f held k e, closing p x f held e left, given_back p x f held e)

pub looks_go_on : LooksGoOn
looks_go_on p x f held e hinted left = (checking p x f held e hinted left, hinting p x f held e left, seeking p x f held left)
