-- Lanes stay counted as a call ends: a lane goes from its call to a handle, stays with it, or is free.
use Rattle.std.specs.Prelude.{flat_map, map, ◌&&◌, ◌++◌, ◌-◌, nat_lt}
use Rattle.std.proofs.Common.{◌≡◌, ℕ, ◌+◌, Bool, true, false, if◌then◌else◌, ◌==◌, List, [], ◌∷◌, Some, refl, ap, sym, subst, ◌∙◌, arith, true≢false, eqb-true}
use Rattle.iox_model.specs.declared.kind.Kind.{Kind}
use Rattle.iox_model.specs.declared.kind.Kind.TheVariants as kinds
use Rattle.iox_model.specs.Handles.{is_received, is_request_loan}
use Rattle.iox_model.specs.Maps.{has_number}
use Rattle.iox_model.specs.Peers.{ports_of_node}
use Rattle.iox_model.specs.Settings.{is_client}
use Rattle.iox_model.specs.States.{State}
use Rattle.iox_laws.proofs.WeaveLaws.CallLaws.{eqb-flip}
use Rattle.iox_laws.proofs.WeaveLaws.MapLemmas.{either, eqb-refl}
use Rattle.iox_laws.proofs.WeaveLaws.WholeLemmas.{some-is}
use Rattle.iox_laws.proofs.WeaveLedger.Truths.{none-some, second-fails}
use Rattle.iox_wire_steps.specs.MomentsOf.{Pools}
use Rattle.iox_wire_steps.specs.CallRefusal.{CallRefusal}
use Rattle.iox_wire_steps.specs.Ending.{Ending}
use Rattle.iox_wire_steps.specs.Ending.TheVariants as endings
use Rattle.iox_wire_steps.specs.Local.{Local}
use Rattle.iox_wire_steps.specs.Local.TheVariants.{Ends, Idle, SendEnds}
use Rattle.iox_wire_steps.specs.Seat.{Seat}
use Rattle.iox_wire_steps.specs.Desk.{Desk}
use Rattle.iox_wire_steps.specs.Entry.{Entry}
use Rattle.iox_wire_steps.specs.Courses.{placed}
use Rattle.iox_wire_steps.specs.Desks.{all_less, at_count, at_desk, counts_loan, forgets_ports, gives_up, lanes_back, on_desk, slots_to, uses_less}
use Rattle.iox_wire_steps.specs.Known.{free_lanes, known}
use Rattle.iox_wire_steps.specs.Lendings.{next_handle}
use Rattle.iox_wire_steps.specs.NewLoans.{entry_in, received_entry}
use Rattle.iox_wire_steps.specs.Settlements as settle
use Rattle.iox_wire_steps.specs.Steps.{ending_at}
use Rattle.iox_wire_steps.specs.Tables.{Setting, sent_entry, way_in, without_entry}
use Rattle.iox_wire_steps.specs.SlotsKnown.{HasEntry, IsPortOfSeat}
use Rattle.iox_wire_steps.specs.Uses.{how_often}
use Rattle.iox_wire_steps.proofs.Counting.{often_both}
use Rattle.iox_wire_steps.specs.Following.{message_at, message_ended}
use Rattle.iox_wire_steps.specs.Over.{CallIsOver}
use Rattle.iox_wire_calls.specs.LaneLaws.{EndsKeepLanes}
use Rattle.iox_wire_calls.specs.Lanes.{lane_count, AllLanesAreCounted, has_own_lane, lanes_in, lent_in}
use Rattle.iox_wire_calls.specs.Places.{CallFits, IsOfLoan, PlaceFits}
use Rattle.iox_wire_calls.proofs.LaneDesks.{all_changed, lanes_are, one_changed}
use Rattle.iox_wire_calls.proofs.EndsTold.{at_end}
use Rattle.iox_wire_calls.proofs.PlaceCourses.{desks_stay, lanes_told}
use Rattle.iox_wire_calls.proofs.LaneLists.{both, less, often, one, put}

-- ---- kinds

-- what was received has no lane of its port, and neither has a response's loan
received_lane : (kind : Kind) → is_received kind ≡ true → has_own_lane kind ≡ false
received_lane kinds.ActiveRequest is = refl
received_lane kinds.Response is = refl
received_lane kind is = absurd (true≢false (sym is))

response_lane : (kind : Kind) → IsOfLoan kind → is_request_loan kind ≡ false → has_own_lane kind ≡ false
response_lane kinds.ResponseMut loan is = refl
response_lane kinds.ResponseMutUninit loan is = refl
response_lane kinds.RequestMut loan is = absurd (true≢false is)
response_lane kinds.RequestMutUninit loan is = absurd (true≢false is)
response_lane kind loan is = absurd (true≢false (sym loan))

request_lane : (kind : Kind) → is_request_loan kind ≡ true → has_own_lane kind ≡ true
request_lane kinds.RequestMut is = refl
request_lane kinds.RequestMutUninit is = refl
request_lane kind is = absurd (true≢false (sym is))

got_kind : (b : Bool) → is_received (if b then kinds.Response else kinds.ActiveRequest) ≡ true
got_kind true = refl
got_kind false = refl

-- ---- the lanes of one entry

module _ (port lane : ℕ) where
  abbrev of_test : Entry → Bool → ℕ
  of_test e b = how_often lane (map (λ (k : Entry). k.lane) (if b then e ∷ [] else []))

  -- one without a lane
  pub no_lane : (e : Entry) → has_own_lane e.kind ≡ false → one port lane e ≡ 0
  no_lane e none = ap (λ b. of_test e (b && (e.port == port))) none

  -- as a pending response it has the same
  pub sent_lane : (e : Entry) (count : ℕ) → is_request_loan e.kind ≡ true → one port lane (sent_entry e count) ≡ one port lane e
  sent_lane e count request = alike (e.port == port) ∙ sym (ap (λ b. of_test e (b && (e.port == port))) (request_lane e.kind request))
    where
      alike : (b : Bool) → of_test (sent_entry e count) b ≡ of_test e b
      alike true = refl
      alike false = refl

-- what is given back to the desk of the entry's port
pub lanes_freed : (port lane : ℕ) (e : Entry) (lanes : List ℕ)
    → how_often lane (if port == e.port then lanes_back e lanes else lanes) ≡ how_often lane lanes + one port lane e
lanes_freed port lane e lanes = by_port (port == e.port) refl
  where
    none_on : (k : ℕ) → k ≡ k + 0
    none_on k = omega arith

    by_kind : (b : Bool) → how_often lane (if b then lanes ++ e.lane ∷ [] else lanes) ≡ how_often lane lanes + of_test port lane e b
    by_kind true = often_both lane lanes (e.lane ∷ [])
    by_kind false = none_on (how_often lane lanes)

    first : (b c : Bool) → c ≡ true → (b && c) ≡ b
    first true c is = is
    first false c is = refl

    by_port : (b : Bool) → (port == e.port) ≡ b → how_often lane (if b then lanes_back e lanes else lanes) ≡ how_often lane lanes + one port lane e
    by_port true is =
        by_kind (has_own_lane e.kind)
        ∙ ap (λ b. how_often lane lanes + of_test port lane e b)
        (sym (first (has_own_lane e.kind) (e.port == port) (subst (λ k. (e.port == k) ≡ true) (sym (eqb-true port e.port is)) (eqb-refl e.port))))
    by_port false is =
        none_on (how_often lane lanes)
        ∙ ap (λ b. how_often lane lanes + of_test port lane e b) (sym (second-fails (has_own_lane e.kind) (e.port == port) (eqb-flip port e.port is)))

-- the message of a call that is over is that of its end
pub message_of_end : (ending : Ending) (local : Local) → ending_at local ≡ Some ending → message_at local ≡ message_ended ending
message_of_end ending (Ends k) is = ap message_ended (some-is k ending is)
message_of_end ending (SendEnds d last count) is = ap message_ended (some-is (endings.Sends d.loan d.copied count) ending is)
message_of_end ending local is = none-some ending is

-- ---- the end

module _ (p : Setting) (held : Pools) (s : State) (x : Seat) (ending : Ending) (fits : CallFits p x) (over_now : CallIsOver p held s x ending)
    (all : AllLanesAreCounted p x) where
  pub ended_message : (local : Local) → ending_at local ≡ Some ending → message_at local ≡ message_ended ending
  ended_message local is = message_of_end ending local is

  before : (port lane : ℕ) → IsPortOfSeat p x port
      → how_often lane (free_lanes x port) + (often port lane (lent_in (message_ended ending)) + often port lane x.table) ≡ (if nat_lt lane (lane_count p port) then 1 else 0)
  before port lane mine =
      ap (λ k. how_often lane (free_lanes x port) + k) (sym (both port lane (lent_in (message_ended ending)) x.table))
      ∙ ap (λ m. how_often lane (free_lanes x port) + how_often lane (lanes_in port (lent_in m ++ x.table))) (sym (ended_message x.local over_now.at_end))
      ∙ all port mine lane

  -- as many lanes are free or in use then
  counted : (z : Seat) → z.node ≡ x.node
      → ((port lane : ℕ) → IsPortOfSeat p x port → how_often lane (free_lanes z port) + often port lane z.table
      ≡ how_often lane (free_lanes x port) + (often port lane (lent_in (message_ended ending)) + often port lane x.table))
      → AllLanesAreCounted p (placed z Idle)
  counted z node same port mine lane =
      let home : IsPortOfSeat p x port = (mine.0, mine.1 ∙ node) in same port lane home ∙ before port lane home

-- ---- each end

module _ (p : Setting) (held : Pools) (s : State) (x : Seat) (fits : CallFits p x) (all : AllLanesAreCounted p x) where
  abbrev Over : Ending → Type 0
  Over ending = CallIsOver p held s x ending

  abbrev K : Seat → Type 0
  K z = AllLanesAreCounted p (placed z Idle)

  -- the desk of a port
  freed : (ending : Ending) (over : CallIsOver p held s x ending) (port lane : ℕ) → IsPortOfSeat p x port → (z : Seat) (e : Entry) (change : Desk → Desk)
      → ((d : Desk) → (change d).port ≡ d.port) → ((d : Desk) → (change d).free_lanes ≡ lanes_back e d.free_lanes) → z.desks ≡ map (on_desk e.port change) x.desks
      → how_often lane (free_lanes z port) ≡ how_often lane (free_lanes x port) + one port lane e
  freed ending over port lane home z e change keeps back desks =
      let d = (over.uses port home).desk in
      ap (how_often lane) (one_changed x port d (over.uses port home).there z e.port change keeps desks ∙ ap (λ ls. if port == e.port then ls else d.free_lanes) (back d)
      ∙ ap (λ ls. if port == e.port then lanes_back e ls else ls) (sym (lanes_are x port d (over.uses port home).there))) ∙ lanes_freed port lane e (free_lanes x port)

  stay : (ending : Ending) → Over ending → message_ended ending ≡ message_ended endings.Nothing → (z : Seat) → z.node ≡ x.node → z.table ≡ x.table
      → ((port : ℕ) → IsPortOfSeat p x port → free_lanes z port ≡ free_lanes x port) → K z
  stay ending over none z node table free =
      counted p held s x ending fits over all z node
      (λ port lane home. sum (how_often lane (free_lanes x port)) _ (often port lane (lent_in (message_ended ending))) (often port lane x.table) _
      (ap (how_often lane) (free port home)) (ap (λ m. often port lane (lent_in m)) none) (ap (often port lane) table))
    where
      sum : (f f' a b c : ℕ) → f' ≡ f → a ≡ 0 → c ≡ b → f' + c ≡ f + (a + b)
      sum f f' a b c same nothing table = omega (arith, same, nothing, table)

  -- a handle more, with the lane of the call's loan
  gains_lane : (ending : Ending) → Over ending → (z : Seat) (e : Entry) → z.node ≡ x.node → z.table ≡ x.table ++ e ∷ []
      → ((port : ℕ) → free_lanes z port ≡ free_lanes x port) → ((port lane : ℕ) → one port lane e ≡ often port lane (lent_in (message_ended ending))) → K z
  gains_lane ending over z e node table free same =
      counted p held s x ending fits over all z node
      (λ port lane home. sum (how_often lane (free_lanes x port)) _ (often port lane (lent_in (message_ended ending))) (often port lane x.table) (one port lane e) _
      (ap (how_often lane) (free port)) (ap (often port lane) table ∙ both port lane x.table (e ∷ [])) (same port lane))
    where
      sum : (f f' a b i c : ℕ) → f' ≡ f → c ≡ b + i → i ≡ a → f' + c ≡ f + (a + b)
      sum f f' a b i c same more moved = omega (arith, same, more, moved)

  -- a handle is gone that has no lane, or its lane is free
  module _ (ending : Ending) (over : CallIsOver p held s x ending) (none : (port lane : ℕ) → often port lane (lent_in (message_ended ending)) ≡ 0)
      (z : Seat) (e : Entry) (node : z.node ≡ x.node) (table : z.table ≡ without_entry e x.table) (has : HasEntry x e) where
    left : (port lane : ℕ) → often port lane x.table ≡ one port lane e + often port lane z.table
    left port lane = less port lane e x.table has over.numbers ∙ ap (λ es. one port lane e + often port lane es) (sym table)

    loses_none : has_own_lane e.kind ≡ false → ((port : ℕ) → free_lanes z port ≡ free_lanes x port) → K z
    loses_none without free =
        counted p held s x ending fits over all z node
        (λ port lane home. sum (how_often lane (free_lanes x port)) _ (often port lane (lent_in (message_ended ending))) (often port lane x.table) (one port lane e) _
        (ap (how_often lane) (free port)) (left port lane) (no_lane port lane e without) (none port lane))
      where
        sum : (f f' a b i c : ℕ) → f' ≡ f → b ≡ i + c → i ≡ 0 → a ≡ 0 → f' + c ≡ f + (a + b)
        sum f f' a b i c same out gone nothing = omega (arith, same, out, gone, nothing)

    loses_lane : (change : Desk → Desk) → ((d : Desk) → (change d).port ≡ d.port) → ((d : Desk) → (change d).free_lanes ≡ lanes_back e d.free_lanes)
        → z.desks ≡ map (on_desk e.port change) x.desks → K z
    loses_lane change keeps back desks =
        counted p held s x ending fits over all z node
        (λ port lane home. sum (how_often lane (free_lanes x port)) _ (often port lane (lent_in (message_ended ending))) (often port lane x.table) (one port lane e) _
        (freed ending over port lane home z e change keeps back desks) (left port lane) (none port lane))
      where
        sum : (f f' a b i c : ℕ) → f' ≡ f + i → b ≡ i + c → a ≡ 0 → f' + c ≡ f + (a + b)
        sum f f' a b i c same out nothing = omega (arith, same, out, nothing)

  -- ---- sends

  module _ (e : Entry) (count : ℕ) where
    abbrev Loaned : Ending → Type 0
    Loaned (endings.Sends k copied number) = IsOfLoan k.kind
    Loaned ending = Unit {0}

    loaned : (ending : Ending) → PlaceFits p x (Ends ending) → Loaned ending
    loaned (endings.Sends k copied number) is = is.0
    loaned ending is = tt

    loan : (copied : Bool) → Over (endings.Sends e copied count) → IsOfLoan e.kind
    loan copied over =
        at_end p held s x Loaned (λ ending at. loaned ending (subst (PlaceFits p x) at fits.place))
        (λ d last number at. (subst (PlaceFits p x) at fits.place).0) (endings.Sends e copied count) over.at_end

    sends : (copied : Bool) → Over (endings.Sends e copied count) → K (settle.after_send x e copied count)
    sends true over =
        either K (is_request_loan e.kind) (settle.sends_entry x e true count) (settle.sends_away x e true)
        (λ request. gains_lane (endings.Sends e true count) over (settle.sends_entry x e true count) (sent_entry e count) refl refl
        (λ port. desks_stay lanes_told [] x e.port port counts_loan (record { port = λ d. refl; told = λ d. refl }))
        (λ port lane. sent_lane port lane e count request))
        (λ response. counted p held s x (endings.Sends e true count) fits over all (settle.sends_away x e true) refl
        (λ port lane home. sum (how_often lane (free_lanes x port)) _ (one port lane e) (often port lane x.table)
        (ap (how_often lane) (desks_stay lanes_told [] x e.port port (λ d. uses_less e.slot (counts_loan d)) (record { port = λ d. refl; told = λ d. refl })))
        (no_lane port lane e (response_lane e.kind (loan true over) response))))
      where
        sum : (f f' a b : ℕ) → f' ≡ f → a ≡ 0 → f' + b ≡ f + (a + b)
        sum f f' a b same nothing = omega (arith, same, nothing)
    sends false over =
        either K (is_request_loan e.kind) (settle.sends_entry x e false count) (settle.sends_away x e false)
        (λ request. counted p held s x (endings.Sends e false count) fits over all (settle.sends_entry x e false count) refl
        (λ port lane home. sum (how_often lane (free_lanes x port)) (often port lane x.table) _
        (put port lane (sent_entry e count) e refl (sent_lane port lane e count request) x.table over.message)))
        (λ response. loses_none (endings.Sends e false count) over (λ port lane. refl) (settle.sends_away x e false) e refl refl over.message
        (response_lane e.kind (loan false over) response)
        (λ port. desks_stay lanes_told [] x e.port port (uses_less e.slot) (record { port = λ d. refl; told = λ d. refl })))
      where
        sum : (f b c : ℕ) → c ≡ b → f + c ≡ f + (0 + b)
        sum f b c same = omega (arith, same)

    fails : (r : CallRefusal) (copied : Bool) → Over (endings.FailsToSend e copied r) → K (settle.after_refused_send x e copied)
    fails r true over =
        counted p held s x (endings.FailsToSend e true r) fits over all (settle.after_refused_send x e true) refl
        (λ port lane home. sum (how_often lane (free_lanes x port)) _ (one port lane e) (often port lane x.table)
        (freed (endings.FailsToSend e true r) over port lane home (settle.after_refused_send x e true) e (λ d. gives_up e (counts_loan d)) (λ d. refl) (λ d. refl) refl))
      where
        sum : (f f' a b : ℕ) → f' ≡ f + a → f' + b ≡ f + (a + b)
        sum f f' a b same = omega (arith, same)
    fails r false over =
        loses_lane (endings.FailsToSend e false r) over (λ port lane. refl) (settle.after_refused_send x e false) e refl refl over.message
        (gives_up e) (λ d. refl) (λ d. refl) refl

  drops : (e : Entry) → Over (endings.Drops e) → K (settle.settled p x (endings.Drops e))
  drops e over =
      either (λ (z : Seat). K (settle.loses z e)) (is_received e.kind) (at_count x (way_in e) (λ n. n - 1)) (at_desk x e.port (gives_up e))
      (λ got. loses_none (endings.Drops e) over (λ port lane. refl) (settle.loses (at_count x (way_in e) (λ n. n - 1)) e) e refl refl over.message
      (received_lane e.kind got) (λ port. refl))
      (λ kept. loses_lane (endings.Drops e) over (λ port lane. refl) (settle.loses (at_desk x e.port (gives_up e)) e) e refl refl over.message
      (gives_up e) (λ d. refl) (λ d. refl) refl)

  -- ---- a dead node is forgotten

  module _ (dead : ℕ) (over : CallIsOver p held s x (endings.Forgets dead)) where
    abbrev ports : List ℕ
    ports = ports_of_node (known p x) dead

    less_port : (slots : List ℕ) (d : Desk) → (all_less slots d).port ≡ d.port
    less_port [] d = refl
    less_port (slot ∷ slots) d = less_port slots (uses_less slot d)

    less_lanes : (slots : List ℕ) (d : Desk) → (all_less slots d).free_lanes ≡ d.free_lanes
    less_lanes [] d = refl
    less_lanes (slot ∷ slots) d = less_lanes slots (uses_less slot d)

    forgets : K (if has_number dead x.forgot then x else settle.forgets p x dead)
    forgets =
        either K (has_number dead x.forgot) x (settle.forgets p x dead) (λ is. stay (endings.Forgets dead) over refl x refl refl (λ port home. refl))
        (λ is. stay (endings.Forgets dead) over refl (settle.forgets p x dead) refl refl
        (λ port home. let d = (over.uses port home).desk in
        all_changed x port d (over.uses port home).there (settle.forgets p x dead) (forgets_ports ports) (λ k. less_port (flat_map (slots_to ports) k.recorded) k) refl
        ∙ less_lanes (flat_map (slots_to ports) d.recorded) d ∙ sym (lanes_are x port d (over.uses port home).there)))

  ended : (ending : Ending) → Over ending → K (settle.settled p x ending)
  ended (endings.Lends o slot) over =
      gains_lane (endings.Lends o slot) over (settle.settled p x (endings.Lends o slot)) (entry_in o slot) refl refl
      (λ port. desks_stay lanes_told [] x o.port port counts_loan (record { port = λ d. refl; told = λ d. refl })) (λ port lane. refl)
  ended (endings.Sends e copied count) over = sends e count copied over
  ended (endings.FailsToSend e copied r) over = fails e 0 r copied over
  ended (endings.Receives v w slot header) over =
      gains_lane (endings.Receives v w slot header) over (settle.settled p x (endings.Receives v w slot header)) (received_entry (next_handle p x) v w slot header) refl refl
      (λ port. refl) (λ port lane. no_lane port lane (received_entry (next_handle p x) v w slot header) (received_lane (if is_client v.role then kinds.Response else kinds.ActiveRequest) (got_kind (is_client v.role))))
  ended (endings.Drops e) over = drops e over
  ended (endings.Forgets dead) over = forgets dead over
  ended (endings.Refuses r) over = stay (endings.Refuses r) over refl x refl refl (λ port home. refl)
  ended endings.Nothing over = stay endings.Nothing over refl x refl refl (λ port home. refl)
  ended endings.Done over = stay endings.Done over refl x refl refl (λ port home. refl)
  ended (endings.Answers told) over = stay (endings.Answers told) over refl x refl refl (λ port home. refl)
  ended (endings.Words words) over = stay (endings.Words words) over refl x refl refl (λ port home. refl)
  ended (endings.Fills e words) over =
      counted p held s x (endings.Fills e words) fits over all x refl (λ port lane home. sum (how_often lane (free_lanes x port)) (often port lane x.table))
    where
      sum : (f b : ℕ) → f + b ≡ f + (0 + b)
      sum f b = omega arith

pub ends_keep_lanes : EndsKeepLanes
ends_keep_lanes p held s x ending fits over all = ended p held s x fits all ending over
