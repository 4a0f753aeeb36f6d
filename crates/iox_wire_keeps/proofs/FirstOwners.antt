-- A call that lends, sends or hints owns its first place, where all stands.
use Rattle.std.specs.Prelude.{nat_lt, ◌++◌, ◌^◌}
use Rattle.std.proofs.Common.{Bool, List, None, Option, Some, [], ap, arith, eq-eqb, false, if◌then◌else◌, length, refl, subst, sym, true, true≢false, ℕ, ◌*◌, ◌+◌, ◌<◌, ◌==◌, ◌||◌, ◌∙◌, ◌∷◌, ◌≡◌, ◌≤◌}
use Rattle.std.proofs.lemmas.Nat.{mul-le}
use Rattle.iox_model.specs.declared.call.Call.TheVariants as calls
use Rattle.iox_model.specs.declared.call.WireCall.TheVariants as wire_calls
use Rattle.iox_model.specs.declared.kind.Kind.{Kind}
use Rattle.iox_model.specs.declared.kind.Kind.TheVariants as kinds
use Rattle.iox_model.specs.declared.kind.Role.{Role}
use Rattle.iox_model.specs.declared.kind.Role.TheVariants.{Client, Server}
use Rattle.iox_model.specs.Commands.{Call, WireCall}
use Rattle.iox_model.specs.Handles.{is_request_loan, is_response_loan, same_kind}
use Rattle.iox_model.specs.Joins.{not_living}
use Rattle.iox_model.specs.Loans.{kind_of_loan, lending_ways}
use Rattle.iox_model.specs.Maps.{has_number}
use Rattle.iox_model.specs.Names.{suits}
use Rattle.iox_model.specs.Peers.{lanes_of}
use Rattle.iox_model.specs.Settings.{is_client, is_count}
use Rattle.iox_model.specs.States.{Fixed, Port}
use Rattle.iox_laws.proofs.WeaveLaws.MapLemmas.{either}
use Rattle.iox_laws.proofs.WeaveLedger.Truths.{or-left}
use Rattle.iox_wire_calls.proofs.LaneCounts.{of_clients}
use Rattle.iox_wire_calls.specs.CallRefusal.{CallRefusal}
use Rattle.iox_wire_calls.specs.CallRefusal.TheVariants.{WrongLength}
use Rattle.iox_wire_calls.specs.Ending.TheVariants as endings
use Rattle.iox_wire_calls.specs.Local.TheVariants.{Idle}
use Rattle.iox_wire_calls.specs.Seat.{Seat}
use Rattle.iox_wire_calls.specs.Entry.{Entry}
use Rattle.iox_wire_calls.specs.NewLoan.{NewLoan}
use Rattle.iox_wire_calls.specs.Begins as begins
use Rattle.iox_wire_calls.specs.Courses as courses
use Rattle.iox_wire_calls.specs.Knowing.{Knows}
use Rattle.iox_wire_calls.specs.Known.{free_lanes, known, loans_at}
use Rattle.iox_wire_calls.specs.Lendings as lendings
use Rattle.iox_wire_calls.specs.Lendings.{first_lane}
use Rattle.iox_wire_calls.specs.NewLoans.{loan_in, loan_words, message_in}
use Rattle.iox_wire_calls.specs.ReceiveCourses.{hinting, states_for}
use Rattle.iox_wire_calls.specs.Stored.{header_length}
use Rattle.iox_wire_calls.specs.Tables.{Setting, port_shape}
use Rattle.iox_wire_calls.specs.SlotsKnown.{HasEntry, IsPortOfSeat}
use Rattle.iox_wire_calls.specs.OwnedBegins.{IsPortOf, LeavesLane}
use Rattle.iox_wire_calls.specs.OwnedWords.{Owns}
use Rattle.iox_wire_calls.specs.Regions.{words_of_longest}
use Rattle.iox_wire_calls.proofs.MessageLists.{count_of_words}
use Rattle.iox_wire_calls.proofs.OwnedBegins.{loans_begin_as_owners}
use Rattle.iox_wire_calls.proofs.QuestionBegins.{questions_begin_as_owners}
use Rattle.iox_wire_calls.proofs.ReceiveBegins.{sends_begin_as_owners}
use Rattle.iox_wire_calls.proofs.Counting.{used}
use Rattle.iox_wire_calls.specs.Uses.{how_often}
use Rattle.iox_wire_calls.specs.Following.{message_at}
use Rattle.iox_wire_calls.specs.Nodes.{NodeStands}
use Rattle.iox_wire_calls.specs.Runs.{Run}
use Rattle.iox_wire_calls.specs.Stands.{Player, Stands}
use Rattle.iox_wire_calls.proofs.NodesFollow.{free_pools}
use Rattle.iox_wire_calls.specs.CallsStand.{moves_words}
use Rattle.iox_wire_calls.specs.LaneLaws.{HasLanesForSlots}
use Rattle.iox_wire_calls.specs.Lanes.{AllLanesAreCounted, lanes_in, lanes_used, lent_in}
use Rattle.iox_wire_calls.specs.Places.{IsOfLoan, OwnersAreSet, SuitsPort, TakesFirst, is_kind_of}
use Rattle.iox_wire_calls.proofs.HandleKinds.{sent_is}
use Rattle.iox_wire_calls.proofs.LanesSet.{client_is, is_of_role, lanes_are_set}
use Rattle.iox_wire_calls.proofs.LanesTell.{in_table, lane_of_client, lanes_are_the_pools, low, request_has, there_is}
use Rattle.iox_wire_keeps.specs.MessageBegins.{WordsAreWhole}
use Rattle.iox_wire_keeps.specs.Stored.{EntrySuits, LoanFits}
use Rattle.iox_wire_keeps.specs.WireStands.{NoneGrows}
use Rattle.iox_wire_keeps.proofs.FirstPlaces.{AnswersOnLanes, answered_is, as_long, copied_is, copier_is, lender_is, request_fits, response_fits, server_is}
use Rattle.iox_wire_keeps.proofs.OwnWrites.{loan_kept}

-- whether the call lends, sends or hints: all that moves words, but for writes and reads
abbrev pub lends_or_sends : WireCall → Bool
lends_or_sends (wire_calls.Port (calls.Write n y)) = false
lends_or_sends (wire_calls.Port (calls.Read n)) = false
lends_or_sends call = moves_words call

-- who lends requests is a client, who lends responses a server
request_of : (role : Role) (kind : Kind) → kind ≡ kind_of_loan role false → is_request_loan kind ≡ true → role ≡ Client
request_of Client kind is request = refl
request_of Server kind is request = absurd (true≢false (sym request ∙ ap is_request_loan is))

response_of : (role : Role) (kind : Kind) → kind ≡ kind_of_loan role false → is_request_loan kind ≡ false → (role ≡ Server) × (is_response_loan kind ≡ true)
response_of Client kind is response = absurd (true≢false (sym (ap is_request_loan is) ∙ response))
response_of Server kind is response = (refl, ap is_response_loan is)

-- a loan of no request is one of a response, of a server
loan_of_server : (role : Role) (kind : Kind) → IsOfLoan kind → is_request_loan kind ≡ false → is_response_loan kind ≡ true
loan_of_server role kind loan not = subst (λ b. (b || is_response_loan kind) ≡ true) not loan

response_server : (role : Role) (kind : Kind) → is_kind_of role kind ≡ true → is_response_loan kind ≡ true → role ≡ Server
response_server Server kind is loan = refl
response_server Client kinds.RequestMut is loan = absurd (true≢false (sym loan))
response_server Client kinds.PendingResponse is loan = absurd (true≢false (sym loan))
response_server Client kinds.Response is loan = absurd (true≢false (sym loan))
response_server Client kind is loan = absurd (true≢false (sym is))

module _ (p : Setting) (words : List ℕ) (players : ℕ → Player) (r : Run) (n : ℕ) (stands : Stands p words players r) (living : not_living r.last.state n ≡ None)
    (x : Seat) (knows : Knows p x r.last.state.fixed stands.held) (node : NodeStands p stands.held r.last.state x) (owners : OwnersAreSet p)
    (lanes : HasLanesForSlots p x) (all : AllLanesAreCounted p x) (idle : x.local ≡ Idle) (sizes : NoneGrows p)
    (entries : (e : Entry) → HasEntry x e → EntrySuits p e) (answers : AnswersOnLanes p x)
    (few : (port : ℕ) → loans_at x port < 2 ^ 64) where
  abbrev f : Fixed
  f = r.last.state.fixed

  abbrev First : Seat → Type 0
  First q = Owns p x.node r.last.state.fixed r.last.state.request_state q.local

  none : lent_in (message_at x.local) ≡ []
  none = ap (λ l. lent_in (message_at l)) idle

  -- a port of the node, by its role
  mine : (role : Role) (port : ℕ) → IsPortOfSeat p x port → (p.port port).role ≡ role → IsPortOf r.last.state.fixed x.node role port
  mine role port home is = (is_of_role p words players r n stands living role port home.0 is, sym (stands.owners port) ∙ home.1)

  lane_there : (client lane : ℕ) → (has_number client p.layout.sizes.clients ≡ true) × (lane < p.layout.sizes.lanes client) → lane < lanes_of r.last.state.fixed client
  lane_there client lane there =
      subst (λ k. lane < k) (stands.layout.lanes client (subst (λ ks. has_number client ks ≡ true) stands.layout.clients there.0)) there.1

  -- ---- loans

  -- a free lane is one of the client's
  free_low : (port : ℕ) → IsPortOfSeat p x port → is_client (p.port port).role ≡ true → (lane : ℕ) → has_number lane (free_lanes x port) ≡ true → lane < (p.port port).pool
  free_low port home client lane free = by_lane (nat_lt lane (p.port port).pool) refl (of_clients p x all port home client lane)
    where
      is_low : nat_lt lane (p.port port).pool ≡ true → lane < (p.port port).pool
      is_low is = grind (arith)

      some : (a b : ℕ) → a + b ≡ 0 → 1 ≤ a → ⊥
      some a b zeros more = omega (arith, zeros, more)

      by_lane : (b : Bool) → nat_lt lane (p.port port).pool ≡ b
          → how_often lane (free_lanes x port) + how_often lane (lanes_used x port) ≡ (if b then 1 else 0) → lane < (p.port port).pool
      by_lane true is counted = is_low is
      by_lane false is counted =
          absurd (some (how_often lane (free_lanes x port)) (how_often lane (lanes_used x port)) counted (used lane (free_lanes x port) free))

  leaves : (o : NewLoan) → IsPortOfSeat p x o.port → o.kind ≡ kind_of_loan (p.port o.port).role false → TakesFirst p x o → LeavesLane p x o
  leaves o home kind first slot free request =
      let client : is_client (p.port o.port).role ≡ true = ap is_client (request_of (p.port o.port).role o.kind kind request) in
      subst (λ k. o.lane < k) (sym (lanes_are_set p words players r n stands living o.port home.0 client))
      (free_low o.port home client o.lane (has_lane client (free_lanes x o.port) refl (first client)))
    where
      has_lane : is_client (p.port o.port).role ≡ true → (fs : List ℕ) → free_lanes x o.port ≡ fs → o.lane ≡ first_lane (p.port o.port).pool fs → has_number o.lane fs ≡ true
      has_lane client [] is at = absurd (lanes none o.port slot home client free is)
      has_lane client (l ∷ ls) is at = or-left (l == o.lane) (has_number o.lane ls) (eq-eqb l o.lane (sym at))

  -- its words have room in a slot
  room : (o : NewLoan) → LoanFits p o → length (loan_words p o) ≤ words_of_longest p o.port
  room o fits =
      more (header_length (p.port o.port).role) (length (port_shape p o.port).user) (length o.payload) ((p.port o.port).longest * (port_shape p o.port).width)
      (length (loan_words p o)) (count_of_words (p.port o.port).role (message_in p o)) (by_copies o.copies refl)
    where
      more : (h u l w all : ℕ) → all ≡ h + (u + l) → l ≤ w → all ≤ (h + u) + w
      more h u l w all is less = omega (arith, is, less)

      itself : (k : ℕ) → k ≤ k
      itself k = omega arith

      nothing : (k : ℕ) → 0 ≤ k
      nothing k = omega arith

      by_copies : (b : Bool) → o.copies ≡ b → length o.payload ≤ (p.port o.port).longest * (port_shape p o.port).width
      by_copies true is =
          subst (λ k. k ≤ (p.port o.port).longest * (port_shape p o.port).width) (sym (fits.1 is))
          (mul-le o.elements (port_shape p o.port).width (p.port o.port).longest (port_shape p o.port).width fits.0 (itself (port_shape p o.port).width))
      by_copies false is =
          subst (λ k. k ≤ (p.port o.port).longest * (port_shape p o.port).width) (sym (ap length (fits.2 is))) (nothing _)

  loans : (o : NewLoan) → IsPortOfSeat p x o.port → o.kind ≡ kind_of_loan (p.port o.port).role false → TakesFirst p x o → LoanFits p o
      → First (courses.loaning x o (lending_ways (known p x) (loan_in p o)))
  loans o home kind first fits =
      loans_begin_as_owners p x f stands.held r.last.state.request_state o stands.layout knows (free_pools p stands.held r.last.state x node)
      (sym (owners o.port home.0) ∙ home.1)
      (record {
        small = (fits.3 0).small;
        request = λ is. mine Client o.port home (request_of (p.port o.port).role o.kind kind is);
        response = λ is.
            let server = response_of (p.port o.port).role o.kind kind is in
            (mine Server o.port home server.0, lane_there o.client o.lane ((fits.3 0).lane server.1));
      })
      (leaves o home kind first) (stands.regions o.port home.0) (room o fits)

  lends : (refusal : Option CallRefusal) (o : NewLoan) → IsPortOfSeat p x o.port → o.kind ≡ kind_of_loan (p.port o.port).role false → TakesFirst p x o
      → (refusal ≡ None → LoanFits p o) → First (lendings.lends p x refusal o)
  lends (Some refused) o home kind first fits = tt
  lends None o home kind first fits = loans o home kind first (fits refl)

  lends_request : (q : Port) (k : ℕ) (payload : List ℕ) (copies : Bool) → IsPortOfSeat p x q.number → p.port q.number ≡ q → q.role ≡ Client
      → (copies ≡ true → length payload ≡ k * (port_shape p q.number).width) → (copies ≡ false → payload ≡ [])
      → First (lendings.lends_request p x q k payload copies)
  lends_request q k payload copies home set client long empty =
      either First (is_count p.limits.request k) (lendings.lends p x (lendings.request_refusal p x q k) (lendings.new_request p x q k payload copies))
      (courses.ended x (endings.Refuses WrongLength))
      (λ is. lends (lendings.request_refusal p x q k) (lendings.new_request p x q k payload copies) home
      (ap (λ (d : Port). kind_of_loan d.role false) (sym set)) (λ its. ap (λ (d : Port). first_lane d.pool (free_lanes x q.number)) (sym set))
      (request_fits p x sizes entries answers few q k payload copies home set client long empty)) (λ is. tt)

  lends_response : (e : Entry) (k : ℕ) (payload : List ℕ) (copies : Bool) → HasEntry x e → SuitsPort p x e.port e.kind → same_kind e.kind kinds.ActiveRequest ≡ true
      → (copies ≡ true → length payload ≡ k * (port_shape p e.port).width) → (copies ≡ false → payload ≡ [])
      → First (lendings.lends_response p x e k payload copies)
  lends_response e k payload copies there its kind long empty =
      either First (is_count p.limits.response k) (lendings.lends p x (lendings.response_refusal p x e (p.port e.port) k) (lendings.new_response p x e k payload copies))
      (courses.ended x (endings.Refuses WrongLength))
      (λ is. lends (lendings.response_refusal p x e (p.port e.port) k) (lendings.new_response p x e k payload copies) its.0 refl
      (λ client. absurd (true≢false (sym client ∙ ap is_client (server_is (p.port e.port).role e.kind its.1 kind))))
      (response_fits p x sizes entries answers few e k payload copies there its.0 kind long empty)) (λ is. tt)

  copies_request : (q : Port) (k : Option ℕ) (list : List ℕ) → IsPortOfSeat p x q.number → p.port q.number ≡ q → q.role ≡ Client
      → ((i : ℕ) → k ≡ Some i → length list ≡ i * (port_shape p q.number).width) → First (lendings.copies_request p x q k list)
  copies_request q None list home set client long = tt
  copies_request q (Some k) list home set client long = lends_request q k list true home set client (λ is. long k refl) (λ is. absurd (true≢false is))

  copies_response : (e : Entry) (k : Option ℕ) (list : List ℕ) → HasEntry x e → SuitsPort p x e.port e.kind → same_kind e.kind kinds.ActiveRequest ≡ true
      → ((i : ℕ) → k ≡ Some i → length list ≡ i * (port_shape p e.port).width) → First (lendings.copies_response p x e k list)
  copies_response e None list there its kind long = tt
  copies_response e (Some k) list there its kind long = lends_response e k list true there its kind (λ is. long k refl) (λ is. absurd (true≢false is))

  -- ---- sends and hints

  sends : (e : Entry) → HasEntry x e → SuitsPort p x e.port e.kind → IsOfLoan e.kind → First (courses.sends p x e false)
  sends e there its loan =
      sends_begin_as_owners p x f stands.held r.last.state.request_state e false stands.layout knows (record {
        own = ((node.names.entries e there).own (loan_kept e.kind loan)).1;
        small = (entries e there).small;
        request = λ is.
            let client : is_client (p.port e.port).role ≡ true = lane_of_client (p.port e.port).role e.kind its.1 (request_has e.kind is) in (
              mine Client e.port its.0 (client_is (p.port e.port).role client),
              subst (λ k. e.lane < k) (sym (lanes_are_the_pools p f e.port stands.numbers knows.ports its.0.0))
                  (low p x all e.port its.0 client e.lane
                  (subst (λ es. 1 ≤ how_often e.lane (lanes_in e.port (es ++ x.table))) (sym none)
                  (there_is e.port e x.table (in_table x e there) (request_has e.kind is) refl))),
            );
        response = λ is.
            let response : is_response_loan e.kind ≡ true = loan_of_server (p.port e.port).role e.kind loan is in (
              mine Server e.port its.0 (response_server (p.port e.port).role e.kind its.1 response),
              lane_there e.client e.lane ((entries e there).lane response),
            );
      })

  hints : (e : Entry) → HasEntry x e → same_kind e.kind kinds.PendingResponse ≡ true → First (hinting x e (states_for p x e))
  hints e there pending =
      (questions_begin_as_owners p x f stands.held r.last.state.request_state e false stands.layout knows (record {
        pending = (node.released e there).pending;
        active = λ isnt. absurd (true≢false (sym pending ∙ isnt));
      })).1 (entries e there).small

  -- ---- by what the call names

  pub owned_port : (c : Call) → lends_or_sends (wire_calls.Port c) ≡ true → WordsAreWhole p.limits (wire_calls.Port c) → (q : Port) → IsPortOfSeat p x q.number
      → p.port q.number ≡ q → suits true c (if is_client q.role then kinds.Client else kinds.Server) ≡ true → First (begins.begins_at_port p x c q)
  owned_port (calls.Loan k i) moves whole q home set suited =
      lends_request q i [] false home set (lender_is k i q.role suited) (λ is. absurd (true≢false (sym is))) (λ is. refl)
  owned_port (calls.SendCopy k y) moves whole q home set suited =
      let roles = copier_is k y q.role suited in
      copies_request q y.elements y.words home set roles.0
      (as_long p x sizes entries answers few y q.number whole (roles.1 ∙ sym roles.0 ∙ ap (λ (d : Port). d.role) (sym set)))
  owned_port (calls.Receive k) moves whole q home set suited = absurd (true≢false (sym moves))
  owned_port (calls.HasRequests k) moves whole q home set suited = absurd (true≢false (sym moves))
  owned_port c moves whole q home set suited = tt

  pub owned_entry : (c : Call) → lends_or_sends (wire_calls.Port c) ≡ true → WordsAreWhole p.limits (wire_calls.Port c) → (e : Entry) → HasEntry x e
      → SuitsPort p x e.port e.kind → suits true c e.kind ≡ true → First (begins.begins_at_entry p x c e)
  owned_entry (calls.Loan k i) moves whole e there its suited =
      lends_response e i [] false there its (answered_is k i (p.port e.port).role e.kind its.1 suited) (λ is. absurd (true≢false (sym is))) (λ is. refl)
  owned_entry (calls.SendCopy k y) moves whole e there its suited =
      let is = copied_is k y (p.port e.port).role e.kind its.1 suited in
      copies_response e y.elements y.words there its is.0
      (as_long p x sizes entries answers few y e.port whole (is.1 ∙ sym (server_is (p.port e.port).role e.kind its.1 is.0)))
  owned_entry (calls.Send k) moves whole e there its suited = sends e there its (sent_is k e.kind suited)
  owned_entry (calls.SetHint k) moves whole e there its suited = hints e there suited
  owned_entry (calls.Write k y) moves whole e there its suited = absurd (true≢false (sym moves))
  owned_entry (calls.Read k) moves whole e there its suited = absurd (true≢false (sym moves))
  owned_entry (calls.Receive k) moves whole e there its suited = absurd (true≢false (sym moves))
  owned_entry (calls.Release k) moves whole e there its suited = absurd (true≢false (sym moves))
  owned_entry (calls.IsConnected k) moves whole e there its suited = absurd (true≢false (sym moves))
  owned_entry (calls.HasHint k) moves whole e there its suited = absurd (true≢false (sym moves))
  owned_entry (calls.HasResponse k) moves whole e there its suited = absurd (true≢false (sym moves))
  owned_entry c moves whole e there its suited = tt
