-- Call by call: the tests, then the first place.
use Rattle.std.specs.Prelude.{not, ◌++◌, nat_le}
use Rattle.std.specs.Option.{option_map_or}
use Rattle.std.proofs.Common.{◌≡◌, ℕ, Bool, true, false, if◌then◌else◌, ◌==◌, ◌*◌, List, [], ◌∷◌, Option, Some, None, refl, ap, sym, subst, ◌∙◌}
use Rattle.iox_model.specs.declared.call.Call.TheVariants.{Loan, LoanUninit, Write, Send, SendCopy, Receive, Read, Release, IsConnected, SetHint, HasHint, HasRequests, HasResponse}
use Rattle.iox_model.specs.declared.reply.Refusal.TheVariants as refusals
use Rattle.iox_model.specs.declared.reply.Reply.TheVariants.{Words}
use Rattle.iox_model.specs.Begins as begins
use Rattle.iox_model.specs.Doings.{refused, Doing, Ended, Fills, Tells}
use Rattle.iox_model.specs.Handles.{is_request_loan, is_response_loan, count_of, ThePort, TheHandle}
use Rattle.iox_model.specs.Loans.{Choice, Order, fits_size, loans_of_request, loan_of, next_request, lending_ways, unless_refused, request_loan_refusal, response_loan_refusal, memory_refusal}
use Rattle.iox_model.specs.Maps.{is_empty, or_else, refused_if}
use Rattle.iox_model.specs.Outstandings.{kept, is_dry}
use Rattle.iox_model.specs.Peers.{port_at, node_of_port}
use Rattle.iox_model.specs.Receives.{server_ways}
use Rattle.iox_model.specs.Responses as responses
use Rattle.iox_model.specs.Settings.{is_count}
use Rattle.iox_model.specs.States.{Port, State}
use Rattle.iox_wire_moments.specs.MomentsOf.{Pools}
use Rattle.iox_wire_locals.specs.declared.table.Entry.{Entry}
use Rattle.iox_wire_locals.specs.declared.table.NewLoan.{NewLoan}
use Rattle.iox_wire_locals.specs.declared.local.CallRefusal.TheVariants as own
use Rattle.iox_wire_locals.specs.declared.local.Ending.TheVariants as endings
use Rattle.iox_wire_locals.specs.declared.local.Local.TheVariants.{Reads}
use Rattle.iox_wire_locals.specs.declared.seat.Seat.{Seat}
use Rattle.iox_wire_locals.specs.Tables.{Setting, handle_of, words_to_read}
use Rattle.iox_wire_locals.specs.NewLoans.{loan_in}
use Rattle.iox_wire_locals.specs.Known.{known, told_handle, free_slots, free_lanes}
use Rattle.iox_wire_locals.specs.Courses as courses
use Rattle.iox_wire_locals.specs.ReceiveCourses.{states_for}
use Rattle.iox_wire_locals.specs.Lendings.{first_lane, new_request, new_response, request_refusal, response_refusal, lends, lends_request, lends_response, copies_request, copies_response}
use Rattle.iox_wire_locals.specs.Begins.{writing, writes, reads, ways_for, server_visit, pending_visit}
use Rattle.iox_wire_locals.specs.Knowing.{StandsFor}
use Rattle.iox_wire_locals.specs.BeginLaws.{Counts, IsOwnPort, IsOwnEntry, PortsBegin, HandlesBegin}
use Rattle.iox_wire_locals.proofs.KnowingLemmas.{count_known, loans_known, lending_known, pending_known, server_known, states_known}
use Rattle.iox_wire_locals.proofs.CourseProofs as course
use Rattle.iox_wire_locals.proofs.StepProofs as step

-- an order of so many elements, on a wire
abbrev ordered_so : ℕ → List ℕ → Bool → Order
ordered_so k payload copies =
    record { elements = k; filled = k; payload = payload; copies = copies; uninit = false }

module _ (p : Setting) (x : Seat) (s : State) (held : Pools) (c : Choice) (has : Counts p x s held) (there : c.memory ≡ true) where
  abbrev Stands : Seat → Doing → Type 0
  Stands y d = StandsFor p s.fixed held x.node y d

  -- a loan in the machine's words is the same loan
  lending : (q : Port) (o : NewLoan) → IsOwnPort p x s q → o.port ≡ q.number
      → Stands (courses.loaning x o (lending_ways (known p x) (loan_in p o)))
      (unless_refused (memory_refusal s c q.number) (responses.lending s o.copies (loan_in p o)))
  lending q o own is =
      rw there (rw (lending_known p x s.fixed held has.knows (loan_in p o) node_is)
      (step.loaning p x s held has.knows o (subst (λ port. is_dry s.fixed port (kept s port []) ≡ is_empty (free_slots x port)) (sym is) own.pool) (lending_ways (known p x) (loan_in p o))))
    where
      node_is : (p.port o.port).node ≡ x.node
      node_is = subst (λ port. (p.port port).node ≡ x.node) (sym is) (ap (λ r. r.node) own.set ∙ own.mine)

  -- two tests in order, with names of the machine's or the node's
  two_tests : (a b : Bool) (o : NewLoan) (d : Doing)
      → Stands (courses.loaning x o (lending_ways (known p x) (loan_in p o))) d
      → Stands (lends p x (or_else (refused_if a own.ExceedsMaxLoanSize) (refused_if b own.ExceedsMaxLoans)) o)
      (unless_refused (or_else (refused_if a refusals.ExceedsMaxLoanSize) (refused_if b refusals.ExceedsMaxLoans)) d)
  two_tests true b o d goes = refl
  two_tests false true o d goes = refl
  two_tests false false o d goes = goes

  three_tests : (a b b' : Bool) (o : NewLoan) (d : Doing)
      → Stands (courses.loaning x o (lending_ways (known p x) (loan_in p o))) d
      → Stands (lends p x (or_else (refused_if a own.ExceedsMaxLoanSize) (or_else (refused_if b own.ExceedsMaxLoans) (refused_if b' own.ExceedsMaxLoans))) o)
      (unless_refused (or_else (refused_if a refusals.ExceedsMaxLoanSize) (or_else (refused_if b refusals.ExceedsMaxLoans) (refused_if b' refusals.ExceedsMaxLoans))) d)
  three_tests true b b' o d goes = refl
  three_tests false true b' o d goes = refl
  three_tests false false true o d goes = refl
  three_tests false false false o d goes = goes

  module _ (q : Port) (own_port : IsOwnPort p x s q) where
    node_is : node_of_port s.fixed q.number ≡ x.node
    node_is = rw own_port.there own_port.mine

    module _ (lane : c.lane ≡ first_lane q.pool (free_lanes x q.number)) (k : ℕ) (payload : List ℕ) (copies : Bool) where
      request_is : loan_of s.fixed q (ordered_so k payload copies) q.number c.lane (next_request s.fixed q.number)
          ≡ loan_in p (new_request p x q k payload copies)
      request_is =
          rw (own_port.set, own_port.mine, own_port.loans, has.on_wire, has.next_number, has.handles_made, has.knows.limits, lane) refl

      tests_same : request_loan_refusal s.fixed q k
          ≡ or_else (refused_if (not (fits_size q p.limits.request k)) refusals.ExceedsMaxLoanSize)
          (refused_if (nat_le p.limits.loaned_requests (count_of (known p x) q.number is_request_loan)) refusals.ExceedsMaxLoans)
      tests_same = rw has.knows.limits (rw (count_known p x s.fixed held has.knows q.number is_request_loan node_is) refl)

      request : Stands (lends_request p x q k payload copies)
          (if is_count s.fixed.limits.request k then responses.lends_request s c q (ordered_so k payload copies) else refused refusals.WrongLength)
      request =
          course.either_as p x s.fixed held (is_count p.limits.request k) (is_count s.fixed.limits.request k) _ _ _ _ (rw has.knows.limits refl)
          (subst (λ h. Stands (lends p x (request_refusal p x q k) (new_request p x q k payload copies))
          (unless_refused (request_loan_refusal s.fixed q k) (unless_refused (memory_refusal s c q.number) (responses.lending s copies h))))
          (sym request_is) (subst (λ t. Stands (lends p x (request_refusal p x q k) (new_request p x q k payload copies))
          (unless_refused t (unless_refused (memory_refusal s c q.number) (responses.lending s copies (loan_in p (new_request p x q k payload copies))))))
          (sym tests_same) (two_tests (not (fits_size q p.limits.request k))
          (nat_le p.limits.loaned_requests (count_of (known p x) q.number is_request_loan))
          (new_request p x q k payload copies) _ (lending q (new_request p x q k payload copies) own_port refl)))) refl

  module _ (e : Entry) (own_entry : IsOwnEntry p x s held e) (k : ℕ) (payload : List ℕ) (copies : Bool) where
    found : port_at s.fixed e.port ≡ Some (p.port e.port)
    found = subst (λ n. port_at s.fixed n ≡ Some (p.port e.port)) own_entry.number own_entry.port.there

    entry_node : node_of_port s.fixed e.port ≡ x.node
    entry_node = rw found own_entry.port.mine

    response_is : loan_of s.fixed (p.port e.port) (ordered_so k payload copies) e.client e.lane e.request
        ≡ loan_in p (new_response p x e k payload copies)
    response_is =
        rw (own_entry.port.mine, own_entry.port.loans, has.on_wire, has.next_number, has.handles_made, has.knows.limits) (rw own_entry.number refl)

    response_tests : response_loan_refusal s.fixed (handle_of held x.node e) (p.port e.port) k
        ≡ or_else (refused_if (not (fits_size (p.port e.port) p.limits.response k)) refusals.ExceedsMaxLoanSize)
        (or_else (refused_if (nat_le (p.port e.port).loaned_responses (loans_of_request (known p x) (told_handle p x.node e))) refusals.ExceedsMaxLoans)
        (refused_if (nat_le ((p.port e.port).loaned_responses * p.limits.active_requests * p.limits.clients) (count_of (known p x) (p.port e.port).number is_response_loan)) refusals.ExceedsMaxLoans))
    response_tests =
        rw has.knows.limits (rw (loans_known p x s.fixed held has.knows e entry_node)
        (rw (count_known p x s.fixed held has.knows (p.port e.port).number is_response_loan (node_is (p.port e.port) own_entry.port)) refl))

    response : Stands (lends_response p x e k payload copies)
        (if is_count s.fixed.limits.response k
        then option_map_or (λ q. responses.lends_response s c (handle_of held x.node e) q (ordered_so k payload copies)) (port_at s.fixed e.port) (refused refusals.UnknownNumber)
        else refused refusals.WrongLength)
    response =
        course.either_as p x s.fixed held (is_count p.limits.response k) (is_count s.fixed.limits.response k) _ _ _ _ (rw has.knows.limits refl)
        (subst (λ r. Stands (lends p x (response_refusal p x e (p.port e.port) k) (new_response p x e k payload copies))
        (option_map_or (λ q. responses.lends_response s c (handle_of held x.node e) q (ordered_so k payload copies)) r (refused refusals.UnknownNumber)))
        (sym found) (subst (λ h. Stands (lends p x (response_refusal p x e (p.port e.port) k) (new_response p x e k payload copies))
        (unless_refused (response_loan_refusal s.fixed (handle_of held x.node e) (p.port e.port) k) (unless_refused (memory_refusal s c (p.port e.port).number) (responses.lending s copies h))))
        (sym response_is) (subst (λ t. Stands (lends p x (response_refusal p x e (p.port e.port) k) (new_response p x e k payload copies))
        (unless_refused t (unless_refused (memory_refusal s c (p.port e.port).number) (responses.lending s copies (loan_in p (new_response p x e k payload copies))))))
        (sym response_tests) (three_tests (not (fits_size (p.port e.port) p.limits.response k))
        (nat_le (p.port e.port).loaned_responses (loans_of_request (known p x) (told_handle p x.node e)))
        (nat_le ((p.port e.port).loaned_responses * p.limits.active_requests * p.limits.clients) (count_of (known p x) (p.port e.port).number is_response_loan))
        (new_response p x e k payload copies) _
        (lending (p.port e.port) (new_response p x e k payload copies) own_entry.port (sym own_entry.number)))))) refl

  module _ (e : Entry) (own_entry : IsOwnEntry p x s held e) where
    write : (words : List ℕ) → Stands (writing x e words) (Ended (Fills (begins.written (handle_of held x.node e) words)))
    write [] = refl
    write (word ∷ words) = refl

    whole_write : (k : Option ℕ) (words : List ℕ) → Stands (writes x e k words) (begins.writes (handle_of held x.node e) k words)
    whole_write None words = refl
    whole_write (Some k) words =
        course.either_as p x s.fixed held (k == e.elements) (k == (held e.sender e.slot).elements) _ _ _ _
        (ap (λ n. k == n) own_entry.elements) (write words) refl

    read_words : (b : Bool) → (b ≡ true → (held e.sender e.slot).user ++ (held e.sender e.slot).payload ≡ [])
        → Stands (if b then courses.ended x (endings.Words []) else courses.placed x (Reads e []))
        (Ended (Tells (Words ((held e.sender e.slot).user ++ (held e.sender e.slot).payload))))
    read_words true none = rw (none refl) refl
    read_words false none = refl

    whole_read : Stands (reads p x e) (begins.reads c (handle_of held x.node e))
    whole_read = rw there (read_words (words_to_read p e == 0) own_entry.words)

pub ports_begin : PortsBegin
ports_begin p x s held c q (Loan n k) has own of there lane = request p x s held c has there q own lane k [] false
ports_begin p x s held c q (SendCopy n y) has own of there lane = by_elements y.elements
  where
    by_elements : (k : Option ℕ) → StandsFor p s.fixed held x.node (copies_request p x q k y.words) (responses.copies s c (ThePort q) k y.words)
    by_elements None = refl
    by_elements (Some k) = request p x s held c has there q own lane k y.words true
ports_begin p x s held c q (Receive n) has own of there lane =
    rw (server_known p x s.fixed held has.knows q (has.expired q.number) own.mine)
    (course.visiting p x s.fixed held (server_visit q) (server_ways (known p x) q) false)
ports_begin p x s held c q (HasRequests n) has own of there lane =
    rw (server_known p x s.fixed held has.knows q (has.expired q.number) own.mine)
    (course.seeking p x s.fixed held (server_ways (known p x) q))
ports_begin p x s held c q call has own of there lane = absurd of

pub handles_begin : HandlesBegin
handles_begin p x s held c e (Loan n k) has own of there = response p x s held c has there e own k [] false
handles_begin p x s held c e (LoanUninit n k) has own of there = absurd of
handles_begin p x s held c e (Write n y) has own of there = whole_write p x s held c has there e own y.elements y.words
handles_begin p x s held c e (Send n) has own of there =
    course.sending_begins p x s.fixed held has.knows e false (entry_node p x s held c has there e own 0 [] false)
handles_begin p x s held c e (SendCopy n y) has own of there = by_elements y.elements
  where
    by_elements : (k : Option ℕ) → StandsFor p s.fixed held x.node (copies_response p x e k y.words)
        (responses.copies s c (TheHandle (handle_of held x.node e)) k y.words)
    by_elements None = refl
    by_elements (Some k) = response p x s held c has there e own k y.words true
handles_begin p x s held c e (Receive n) has own of there =
    rw (pending_known p x s.fixed held has.knows e (has.expired e.port))
    (course.visiting p x s.fixed held (pending_visit e) (ways_for p x e) false)
handles_begin p x s held c e (Read n) has own of there = whole_read p x s held c has there e own
handles_begin p x s held c e (Release n) has own of there = course.releasing p x s.fixed held has.knows e
handles_begin p x s held c e (IsConnected n) has own of there =
    rw (states_known p x s.fixed held has.knows e) (course.checking p x s.fixed held e false (states_for p x e))
handles_begin p x s held c e (SetHint n) has own of there =
    rw (states_known p x s.fixed held has.knows e) (course.hinting p x s.fixed held e (states_for p x e))
handles_begin p x s held c e (HasHint n) has own of there =
    rw (states_known p x s.fixed held has.knows e) (course.checking p x s.fixed held e true (states_for p x e))
handles_begin p x s held c e (HasRequests n) has own of there = refl
handles_begin p x s held c e (HasResponse n) has own of there =
    rw (pending_known p x s.fixed held has.knows e (has.expired e.port)) (course.seeking p x s.fixed held (ways_for p x e))
