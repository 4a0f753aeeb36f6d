-- What is lent or written at the first place of a call is as long as it says, and will be an entry as it may be.
use Rattle.std.specs.Prelude.{nat_le, ◌^◌}
use Rattle.std.proofs.Common.{◌≡◌, ℕ, Bool, true, false, if◌then◌else◌, ◌==◌, ◌≤◌, ◌<◌, ◌*◌, ◌||◌, List, [], ◌∷◌, length, Option, Some, None, refl, ap, sym, subst, ◌∙◌, arith, eqb-true, true≢false}
use Rattle.iox_model.specs.declared.call.Call.TheVariants as calls
use Rattle.iox_model.specs.declared.call.WireCall.TheVariants as wire_calls
use Rattle.iox_model.specs.declared.kind.Kind.{Kind}
use Rattle.iox_model.specs.declared.kind.Kind.TheVariants as kinds
use Rattle.iox_model.specs.declared.kind.Role.{Role}
use Rattle.iox_model.specs.declared.kind.Role.TheVariants.{Client, Server}
use Rattle.iox_model.specs.Commands.{Call, Payload}
use Rattle.iox_model.specs.Handles.{is_received, is_request_loan, is_response_loan, same_kind}
use Rattle.iox_model.specs.Loans.{fits_size, kind_of_loan, lending_ways}
use Rattle.iox_model.specs.Maps.{has_number}
use Rattle.iox_model.specs.Names.{suits}
use Rattle.iox_model.specs.Peers.{forgot_port}
use Rattle.iox_model.specs.Settings.{Shape, is_client, is_count, shape_of}
use Rattle.iox_model.specs.States.{Port}
use Rattle.iox_laws.proofs.WeaveLaws.MapLemmas.{either}
use Rattle.iox_laws.proofs.WeaveLaws.WholeLemmas.{or_else-none}
use Rattle.iox_laws.proofs.WeaveLedger.Truths.{passes}
use Rattle.iox_wire_calls.specs.CallRefusal.{CallRefusal}
use Rattle.iox_wire_calls.specs.CallRefusal.TheVariants.{WrongLength}
use Rattle.iox_wire_calls.specs.Ending.{Ending}
use Rattle.iox_wire_calls.specs.Ending.TheVariants as endings
use Rattle.iox_wire_calls.specs.Local.{Local}
use Rattle.iox_wire_calls.specs.Local.TheVariants.{Ends, LendEmpties, LendStores, Writes}
use Rattle.iox_wire_calls.specs.Seat.{Seat}
use Rattle.iox_wire_calls.specs.Entry.{Entry}
use Rattle.iox_wire_calls.specs.NewLoan.{NewLoan}
use Rattle.iox_model.specs.declared.way.Way.{Way}
use Rattle.iox_wire_calls.specs.Begins as begins
use Rattle.iox_wire_calls.specs.Courses as courses
use Rattle.iox_wire_calls.specs.Known.{free_slots, known, loans_at}
use Rattle.iox_wire_calls.specs.Lendings as lendings
use Rattle.iox_wire_calls.specs.NewLoans.{loan_in}
use Rattle.iox_wire_calls.specs.ReceiveCourses as receives
use Rattle.iox_wire_calls.specs.Tables.{Setting, port_shape, way_in, words_to_read}
use Rattle.iox_wire_calls.specs.SlotsKnown.{HasEntry, IsPortOfSeat}
use Rattle.iox_wire_calls.proofs.OwnPorts.{both}
use Rattle.iox_wire_calls.proofs.Ids.{new_requests_are_small}
use Rattle.iox_wire_calls.specs.Places.{SuitsPort, is_kind_of}
use Rattle.iox_wire_keeps.specs.MessageBegins.{FirstFits, PayloadIsWhole, WordsAreWhole}
use Rattle.iox_wire_keeps.specs.Stored.{EntrySuits, LoanFits}
use Rattle.iox_wire_keeps.specs.WireStands.{NoneGrows}
use Rattle.iox_wire_keeps.proofs.Quiet as quiet
use Rattle.iox_wire_keeps.proofs.Quiet.{IsQuiet}

never : {P : Type 0} → false ≡ true → P
never is = absurd (true≢false (sym is))

-- ---- roles and kinds

-- a port that lends by its number is a client
pub lender_is : (n k : ℕ) (role : Role) → suits true (calls.Loan n k) (if is_client role then kinds.Client else kinds.Server) ≡ true → role ≡ Client
lender_is n k Client suited = refl
lender_is n k Server suited = never suited

-- and so is one that sends a copy, whose words are a request's
pub copier_is : (n : ℕ) (y : Payload) (role : Role) → suits true (calls.SendCopy n y) (if is_client role then kinds.Client else kinds.Server) ≡ true
    → (role ≡ Client) × (y.role ≡ Client)
copier_is n y role suited = by_role y.role role suited
  where
    by_role : (own role : Role)
        → (if is_client own then same_kind (if is_client role then kinds.Client else kinds.Server) kinds.Client
        else same_kind (if is_client role then kinds.Client else kinds.Server) kinds.ActiveRequest) ≡ true → (role ≡ Client) × (own ≡ Client)
    by_role Client Client suited = (refl, refl)
    by_role Client Server suited = never suited
    by_role Server Client suited = never suited
    by_role Server Server suited = never suited

-- what is answered is a request that was received
pub answered_is : (n k : ℕ) (role : Role) (kind : Kind) → is_kind_of role kind ≡ true → suits true (calls.Loan n k) kind ≡ true
    → same_kind kind kinds.ActiveRequest ≡ true
answered_is n k role kinds.ActiveRequest is suited = refl
answered_is n k Client kinds.Client is suited = never is
answered_is n k Server kinds.Client is suited = never is
answered_is n k role kind is suited = never suited

-- a copy of a handle is a response
pub copied_is : (n : ℕ) (y : Payload) (role : Role) (kind : Kind) → is_kind_of role kind ≡ true → suits true (calls.SendCopy n y) kind ≡ true
    → (same_kind kind kinds.ActiveRequest ≡ true) × (y.role ≡ Server)
copied_is n y role kind is suited = by_role y.role suited
  where
    no_client : (role : Role) (kind : Kind) → is_kind_of role kind ≡ true → same_kind kind kinds.Client ≡ true → ⊥
    no_client Client kinds.Client is same = never is
    no_client Server kinds.Client is same = never is
    no_client role kind is same = never same

    by_role : (own : Role) → (if is_client own then same_kind kind kinds.Client else same_kind kind kinds.ActiveRequest) ≡ true
        → (same_kind kind kinds.ActiveRequest ≡ true) × (own ≡ Server)
    by_role Client same = absurd (no_client role kind is same)
    by_role Server same = (same, refl)

-- an active request is a server's
pub server_is : (role : Role) (kind : Kind) → is_kind_of role kind ≡ true → same_kind kind kinds.ActiveRequest ≡ true → role ≡ Server
server_is Server kind is same = refl
server_is Client kinds.ActiveRequest is same = never is
server_is Client kind is same = never same

-- what is written is of the role of its port
written_is : (own role : Role) (kind : Kind) → is_kind_of role kind ≡ true → (if is_client own then is_request_loan kind else is_response_loan kind) ≡ true → own ≡ role
written_is Client Client kind is loan = refl
written_is Server Server kind is loan = refl
written_is Client Server kinds.ResponseMut is loan = never loan
written_is Client Server kinds.ActiveRequest is loan = never loan
written_is Client Server kind is loan = never is
written_is Server Client kinds.RequestMut is loan = never loan
written_is Server Client kinds.PendingResponse is loan = never loan
written_is Server Client kinds.Response is loan = never loan
written_is Server Client kind is loan = never is

no_response : (role : Role) → role ≡ Client → is_response_loan (kind_of_loan role false) ≡ true → ⊥
no_response role client is = true≢false (sym (subst (λ r. is_response_loan (kind_of_loan r false) ≡ true) client is))

-- ---- places that lend and write nothing

quiet_ended : (p : Setting) (ending : Ending) → IsQuiet (Ends ending) → FirstFits p (Ends ending)
quiet_ended p (endings.Fills e words) still = absurd still
quiet_ended p ending still = tt

quiet_fits : (p : Setting) (local : Local) → IsQuiet local → FirstFits p local
quiet_fits p (LendEmpties o w place left) still = absurd still
quiet_fits p (LendStores o slot next) still = absurd still
quiet_fits p (Writes e words next) still = absurd still
quiet_fits p (Ends ending) still = quiet_ended p ending still
quiet_fits p local still = tt

-- a size that is not refused is within the longest of a port that does not grow
within : (q : Port) (shape : Shape) (k : ℕ) → q.grows ≡ false → fits_size q shape k ≡ true → k ≤ q.longest
within q shape k still fit = le_is k q.longest (subst (λ b. (b || nat_le k q.longest) ≡ true) still (both _ _ fit).0)
  where
    le_is : (a b : ℕ) → nat_le a b ≡ true → a ≤ b
    le_is a b is = grind (arith)

-- ---- the first place

-- the lane of a request that was received is one of its client
abbrev pub AnswersOnLanes : Setting → Seat → Type 0
AnswersOnLanes p x =
    (e : Entry) → HasEntry x e → same_kind e.kind kinds.ActiveRequest ≡ true
    → (has_number e.client p.layout.sizes.clients ≡ true) × (e.lane < p.layout.sizes.lanes e.client)

module _ (p : Setting) (x : Seat) (sizes : NoneGrows p) (entries : (e : Entry) → HasEntry x e → EntrySuits p e) (answers : AnswersOnLanes p x)
    (few : (port : ℕ) → loans_at x port < 2 ^ 64) where
  abbrev K : Seat → Type 0
  K y = FirstFits p y.local

  -- ---- loans

  -- a client's loan that is not refused
  pub request_fits : (q : Port) (k : ℕ) (payload : List ℕ) (copies : Bool) → IsPortOfSeat p x q.number → p.port q.number ≡ q → q.role ≡ Client
      → (copies ≡ true → length payload ≡ k * (port_shape p q.number).width) → (copies ≡ false → payload ≡ [])
      → lendings.request_refusal p x q k ≡ None → LoanFits p (lendings.new_request p x q k payload copies)
  request_fits q k payload copies home set client long none free = (
    subst (λ (r : Port). k ≤ r.longest) (sym set)
        (within q p.limits.request k (subst (λ (r : Port). r.grows ≡ false) set (sizes q.number home.0)) (passes _ _ (or_else-none _ _ free).0)),
    long,
    none,
    λ slot. record { small = new_requests_are_small p x q k payload copies; lane = λ is. absurd (no_response q.role client is) },
    few q.number,
  )

  -- and a server's
  pub response_fits : (e : Entry) (k : ℕ) (payload : List ℕ) (copies : Bool) → HasEntry x e → IsPortOfSeat p x e.port → same_kind e.kind kinds.ActiveRequest ≡ true
      → (copies ≡ true → length payload ≡ k * (port_shape p e.port).width) → (copies ≡ false → payload ≡ [])
      → lendings.response_refusal p x e (p.port e.port) k ≡ None → LoanFits p (lendings.new_response p x e k payload copies)
  response_fits e k payload copies there home kind long none free = (
    within (p.port e.port) p.limits.response k (sizes e.port home.0) (passes _ _ (or_else-none _ _ free).0),
    long,
    none,
    λ slot. record { small = (entries e there).small; lane = λ is. answers e there kind },
    few e.port,
  )

  takes_slot : (o : NewLoan) (free : List ℕ) → LoanFits p o → K (courses.takes_slot x o free)
  takes_slot o [] fits = tt
  takes_slot o (slot ∷ free) fits = fits

  loaning : (o : NewLoan) (left : List Way) → LoanFits p o → K (courses.loaning x o left)
  loaning o [] fits = takes_slot o (free_slots x o.port) fits
  loaning o (w ∷ left) fits = fits

  lends : (r : Option CallRefusal) (o : NewLoan) → (r ≡ None → LoanFits p o) → K (lendings.lends p x r o)
  lends (Some r) o fits = tt
  lends None o fits = loaning o (lending_ways (known p x) (loan_in p o)) (fits refl)

  lends_request : (q : Port) (k : ℕ) (payload : List ℕ) (copies : Bool) → IsPortOfSeat p x q.number → p.port q.number ≡ q → q.role ≡ Client
      → (copies ≡ true → length payload ≡ k * (port_shape p q.number).width) → (copies ≡ false → payload ≡ [])
      → K (lendings.lends_request p x q k payload copies)
  lends_request q k payload copies home set client long none =
      either K (is_count p.limits.request k) (lendings.lends p x (lendings.request_refusal p x q k) (lendings.new_request p x q k payload copies))
      (courses.ended x (endings.Refuses WrongLength))
      (λ is. lends (lendings.request_refusal p x q k) (lendings.new_request p x q k payload copies) (request_fits q k payload copies home set client long none)) (λ is. tt)

  lends_response : (e : Entry) (k : ℕ) (payload : List ℕ) (copies : Bool) → HasEntry x e → IsPortOfSeat p x e.port → same_kind e.kind kinds.ActiveRequest ≡ true
      → (copies ≡ true → length payload ≡ k * (port_shape p e.port).width) → (copies ≡ false → payload ≡ [])
      → K (lendings.lends_response p x e k payload copies)
  lends_response e k payload copies there home kind long none =
      either K (is_count p.limits.response k) (lendings.lends p x (lendings.response_refusal p x e (p.port e.port) k) (lendings.new_response p x e k payload copies))
      (courses.ended x (endings.Refuses WrongLength))
      (λ is. lends (lendings.response_refusal p x e (p.port e.port) k) (lendings.new_response p x e k payload copies)
      (response_fits e k payload copies there home kind long none)) (λ is. tt)

  -- ---- copies and writes

  -- the words are as long as so many elements of the port
  pub as_long : (y : Payload) (port : ℕ) → PayloadIsWhole p.limits y → y.role ≡ (p.port port).role → (k : ℕ) → y.elements ≡ Some k
      → length y.words ≡ k * (port_shape p port).width
  as_long y port whole role k is = whole k is ∙ ap (λ r. k * (shape_of p.limits r).width) role

  copies_request : (q : Port) (k : Option ℕ) (words : List ℕ) → IsPortOfSeat p x q.number → p.port q.number ≡ q → q.role ≡ Client
      → ((i : ℕ) → k ≡ Some i → length words ≡ i * (port_shape p q.number).width) → K (lendings.copies_request p x q k words)
  copies_request q None words home set client long = tt
  copies_request q (Some k) words home set client long = lends_request q k words true home set client (λ is. long k refl) (λ is. absurd (true≢false is))

  copies_response : (e : Entry) (k : Option ℕ) (words : List ℕ) → HasEntry x e → IsPortOfSeat p x e.port → same_kind e.kind kinds.ActiveRequest ≡ true
      → ((i : ℕ) → k ≡ Some i → length words ≡ i * (port_shape p e.port).width) → K (lendings.copies_response p x e k words)
  copies_response e None words there home kind long = tt
  copies_response e (Some k) words there home kind long = lends_response e k words true there home kind (λ is. long k refl) (λ is. absurd (true≢false is))

  writing : (e : Entry) (words : List ℕ) → length words ≡ e.elements * (port_shape p e.port).width → K (begins.writing x e words)
  writing e [] long = long
  writing e (word ∷ words) long = long

  writes : (e : Entry) (k : Option ℕ) (words : List ℕ) → ((i : ℕ) → k ≡ Some i → length words ≡ i * (port_shape p e.port).width) → K (begins.writes x e k words)
  writes e None words long = tt
  writes e (Some k) words long =
      either K (k == e.elements) (begins.writing x e words) (courses.ended x (endings.Refuses WrongLength))
      (λ is. writing e words (long k refl ∙ ap (λ i. i * (port_shape p e.port).width) (eqb-true k e.elements is))) (λ is. tt)

  -- ---- other calls

  releasing : (e : Entry) → K (receives.releasing p x e)
  releasing e =
      either K (is_received e.kind) _ _ (λ is. either K (forgot_port (known p x) x.node (way_in e).sender) _ _ (λ gone. tt) (λ there. tt))
      (λ is. either K (same_kind e.kind kinds.PendingResponse) _ _ (λ pending. quiet_fits p _ (quiet.closing p x e (receives.states_for p x e))) (λ loan. tt))

  -- ---- by what the call names

  pub at_port : (call : Call) → WordsAreWhole p.limits (wire_calls.Port call) → (q : Port) → IsPortOfSeat p x q.number → p.port q.number ≡ q
      → suits true call (if is_client q.role then kinds.Client else kinds.Server) ≡ true → K (begins.begins_at_port p x call q)
  at_port (calls.Loan n k) whole q home set suited =
      lends_request q k [] false home set (lender_is n k q.role suited) (λ is. absurd (true≢false (sym is))) (λ is. refl)
  at_port (calls.SendCopy n y) whole q home set suited =
      let roles = copier_is n y q.role suited in
      copies_request q y.elements y.words home set roles.0 (as_long y q.number whole (roles.1 ∙ sym roles.0 ∙ ap (λ (r : Port). r.role) (sym set)))
  at_port (calls.Receive n) whole q home set suited = quiet_fits p _ (quiet.visiting p x _ _ false)
  at_port (calls.HasRequests n) whole q home set suited = quiet_fits p _ (quiet.seeking p x _)
  at_port call whole q home set suited = tt

  pub at_entry : (call : Call) → WordsAreWhole p.limits (wire_calls.Port call) → (e : Entry) → HasEntry x e → SuitsPort p x e.port e.kind → suits true call e.kind ≡ true
      → K (begins.begins_at_entry p x call e)
  at_entry (calls.Loan n k) whole e there its suited =
      lends_response e k [] false there its.0 (answered_is n k (p.port e.port).role e.kind its.1 suited) (λ is. absurd (true≢false (sym is))) (λ is. refl)
  at_entry (calls.Write n y) whole e there its suited =
      writes e y.elements y.words (as_long y e.port whole (written_is y.role (p.port e.port).role e.kind its.1 suited))
  at_entry (calls.Send n) whole e there its suited = quiet_fits p _ (quiet.sends p x e false)
  at_entry (calls.SendCopy n y) whole e there its suited =
      let is = copied_is n y (p.port e.port).role e.kind its.1 suited in
      copies_response e y.elements y.words there its.0 is.0 (as_long y e.port whole (is.1 ∙ sym (server_is (p.port e.port).role e.kind its.1 is.0)))
  at_entry (calls.Receive n) whole e there its suited = quiet_fits p _ (quiet.visiting p x _ _ false)
  at_entry (calls.Read n) whole e there its suited = either K (words_to_read p e == 0) _ _ (λ none. tt) (λ some. tt)
  at_entry (calls.Release n) whole e there its suited = releasing e
  at_entry (calls.IsConnected n) whole e there its suited = quiet_fits p _ (quiet.checking p x e false _)
  at_entry (calls.SetHint n) whole e there its suited = quiet_fits p _ (quiet.hinting p x e _)
  at_entry (calls.HasHint n) whole e there its suited = quiet_fits p _ (quiet.checking p x e true _)
  at_entry (calls.HasResponse n) whole e there its suited = quiet_fits p _ (quiet.seeking p x _)
  at_entry call whole e there its suited = tt
