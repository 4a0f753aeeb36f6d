-- What lanes tell: each loan and pending response of a client is on one of its lanes, and no two are on one.
use Rattle.std.specs.Prelude.{filter, find, map, not, ◌&&◌, ◌||◌, ◌++◌, ◌<◌, ◌≤◌, nat_lt}
use Rattle.std.specs.Option.{option_map_or}
use Rattle.std.proofs.Common.{◌≡◌, ℕ, ◌+◌, Bool, true, false, if◌then◌else◌, ◌==◌, List, [], ◌∷◌, Option, Some, refl, ap, sym, subst, ◌∙◌, arith, true≢false, eq-eqb, eqb-true}
use Rattle.iox_model.specs.declared.kind.Kind.{Kind}
use Rattle.iox_model.specs.declared.kind.Kind.TheVariants as kinds
use Rattle.iox_model.specs.declared.kind.Role.{Role}
use Rattle.iox_model.specs.declared.kind.Role.TheVariants.{Client, Server}
use Rattle.iox_model.specs.declared.way.Way.{Way}
use Rattle.iox_model.specs.Handles.{is_request_loan, same_kind}
use Rattle.iox_model.specs.Maps.{has_number}
use Rattle.iox_model.specs.Peers.{lanes_of}
use Rattle.iox_model.specs.Settings.{is_client}
use Rattle.iox_model.specs.States.{Fixed, Port, State}
use Rattle.iox_laws.proofs.WeaveLaws.MapLemmas.{eqb-refl}
use Rattle.iox_laws.proofs.WeaveLaws.WholeLemmas.{some-is}
use Rattle.iox_laws.proofs.WeaveLedger.Lists.{IsAmong, among-filter, among-map, among-number, find-among}
use Rattle.iox_laws.proofs.WeaveLedger.Truths.{both_true}
use Rattle.iox_wire_steps.specs.MomentsOf.{Pools}
use Rattle.iox_wire_steps.specs.Delivery.{Delivery}
use Rattle.iox_wire_steps.specs.Local.{Local}
use Rattle.iox_wire_steps.specs.Local.TheVariants.{SendOpens}
use Rattle.iox_wire_steps.specs.Seat.{Seat}
use Rattle.iox_wire_steps.specs.Entry.{Entry}
use Rattle.iox_wire_steps.specs.Known.{free_lanes}
use Rattle.iox_wire_steps.specs.Tables.{Setting, entry_at, without_entry}
use Rattle.iox_wire_steps.specs.SentStates.{OpensElsewhere}
use Rattle.iox_wire_steps.specs.SlotsKnown.{HasEntry, SendsOwnEntry, IsPortOfSeat, PlaceStands}
use Rattle.iox_wire_steps.specs.Uses.{how_often}
use Rattle.iox_wire_steps.proofs.Counting.{used}
use Rattle.iox_wire_steps.specs.Following.{message_at}
use Rattle.iox_wire_steps.specs.Nodes.{NodeStands}
use Rattle.iox_wire_steps.specs.Stands.{AreNumbered}
use Rattle.iox_wire_calls.specs.EndsTold.{SendsOpenElsewhere}
use Rattle.iox_wire_calls.specs.Lanes.{AllLanesAreCounted, has_own_lane, lanes_in, lanes_used, lent_in}
use Rattle.iox_wire_calls.specs.Places.{CallFits, IsOfLoan, PlaceFits, SuitsPort, is_kind_of}
use Rattle.iox_wire_calls.proofs.LaneCounts.{of_clients}
use Rattle.iox_wire_calls.proofs.LaneLists.{both, front, less, often, one}

-- ---- roles

-- an own lane is one of a client
pub lane_of_client : (role : Role) (kind : Kind) → is_kind_of role kind ≡ true → has_own_lane kind ≡ true → is_client role ≡ true
lane_of_client Client kind is own = refl
lane_of_client Server kinds.ResponseMut is own = own
lane_of_client Server kinds.ActiveRequest is own = own
lane_of_client Server kind is own = absurd (true≢false (sym is))

pub request_has : (kind : Kind) → is_request_loan kind ≡ true → has_own_lane kind ≡ true
request_has kinds.RequestMut is = refl
request_has kinds.RequestMutUninit is = refl
request_has kind is = absurd (true≢false (sym is))

pending_has : (kind : Kind) → same_kind kind kinds.PendingResponse ≡ true → has_own_lane kind ≡ true
pending_has kinds.PendingResponse is = refl
pending_has kind is = absurd (true≢false (sym is))

-- ---- ports

-- the machine has the setting's port of that number
pub port_there : (p : Setting) (port : ℕ) (ports : List ℕ) → ((k : ℕ) → has_number k ports ≡ true → (p.port k).number ≡ k) → has_number port ports ≡ true
    → find (λ (q : Port). q.number == port) (map p.port ports) ≡ Some (p.port port)
port_there p port [] numbered has = absurd (true≢false (sym has))
port_there p port (k ∷ ks) numbered has =
    by_number (k == port) refl (ap (λ i. i == port) (numbered k first)) has
    (port_there p port ks (λ j there. numbered j (or_later (k == j) there)))
  where
    first : ((k == k) || has_number k ks) ≡ true
    first = ap (λ b. b || has_number k ks) (eqb-refl k)

    or_later : (b : Bool) {c : Bool} → c ≡ true → (b || c) ≡ true
    or_later true {c} is = refl
    or_later false {c} is = is

    by_number : (b : Bool) → (k == port) ≡ b → ((p.port k).number == port) ≡ (k == port) → (b || has_number port ks) ≡ true
        → (has_number port ks ≡ true → find (λ (q : Port). q.number == port) (map p.port ks) ≡ Some (p.port port))
        → find (λ (q : Port). q.number == port) (p.port k ∷ map p.port ks) ≡ Some (p.port port)
    by_number true is same there later = rw (same ∙ is) (ap (λ i. Some (p.port i)) (eqb-true k port is))
    by_number false is same there later = rw (same ∙ is) (later there)

pub lanes_are_the_pools : (p : Setting) (f : Fixed) (port : ℕ) → AreNumbered p → f.ports ≡ map p.port p.layout.sizes.ports
    → has_number port p.layout.sizes.ports ≡ true → lanes_of f port ≡ (p.port port).pool
lanes_are_the_pools p f port numbered ports has =
    ap (λ (qs : List Port). option_map_or (λ (q : Port). q.pool) (find (λ (q : Port). q.number == port) qs) 0) ports
    ∙ ap (λ (q : Option Port). option_map_or (λ (r : Port). r.pool) q 0) (port_there p port p.layout.sizes.ports numbered has)

-- ---- counts

one_at_most : (b : Bool) → (if b then 1 else 0) ≤ 1
one_at_most true = omega arith
one_at_most false = omega arith

module _ (p : Setting) (x : Seat) (all : AllLanesAreCounted p x) (port : ℕ) (mine : IsPortOfSeat p x port) (client : is_client (p.port port).role ≡ true) where
  -- what is counted is of the pool, once
  pub low : (lane : ℕ) → 1 ≤ how_often lane (lanes_used x port) → lane < (p.port port).pool
  low lane some = by_lane (nat_lt lane (p.port port).pool) refl (of_clients p x all port mine client lane)
    where
      is_low : nat_lt lane (p.port port).pool ≡ true → lane < (p.port port).pool
      is_low is = grind (arith)

      none : (f u : ℕ) → f + u ≡ 0 → 1 ≤ u → ⊥
      none f u zeros more = omega (arith, zeros, more)

      by_lane : (b : Bool) → nat_lt lane (p.port port).pool ≡ b
          → how_often lane (free_lanes x port) + how_often lane (lanes_used x port) ≡ (if b then 1 else 0) → lane < (p.port port).pool
      by_lane true is counted = is_low is
      by_lane false is counted = absurd (none (how_often lane (free_lanes x port)) (how_often lane (lanes_used x port)) counted some)

  pub once : (lane : ℕ) → how_often lane (lanes_used x port) ≤ 1
  once lane =
      at_most (how_often lane (free_lanes x port)) (how_often lane (lanes_used x port)) _ (of_clients p x all port mine client lane) (one_at_most (nat_lt lane (p.port port).pool))
    where
      at_most : (f u r : ℕ) → f + u ≡ r → r ≤ 1 → u ≤ 1
      at_most f u r is less = omega (arith, is, less)

-- ---- entries

-- an entry with a lane of that port counts
pub one_is : (port : ℕ) (e : Entry) → has_own_lane e.kind ≡ true → e.port ≡ port → one port e.lane e ≡ 1
one_is port e own at =
    ap (λ b. how_often e.lane (map (λ (k : Entry). k.lane) (if b then e ∷ [] else [])))
    (both_true (has_own_lane e.kind) (e.port == port) own (eq-eqb e.port port at))
    ∙ ap (λ b. (if b then 1 else 0) + 0) (eqb-refl e.lane)

pub there_is : (port : ℕ) (e : Entry) (es : List Entry) → IsAmong e es → has_own_lane e.kind ≡ true → e.port ≡ port → 1 ≤ often port e.lane es
there_is port e es among own at =
    used e.lane (lanes_in port es)
    (among-number e.lane (lanes_in port es)
    (among-map (λ (k : Entry). k.lane) e (filter (λ (k : Entry). has_own_lane k.kind && (k.port == port)) es)
    (among-filter (λ (k : Entry). has_own_lane k.kind && (k.port == port)) e es among
    (both_true (has_own_lane e.kind) (e.port == port) own (eq-eqb e.port port at)))))

abbrev Table : Seat → Entry → Type 0
Table x e = IsAmong e x.table

pub in_table : (x : Seat) (e : Entry) → HasEntry x e → IsAmong e x.table
in_table x e has = (find-among (λ (k : Entry). k.number == e.number) e x.table has).0

-- ---- no two on one lane

module _ (p : Setting) (held : Pools) (s : State) (x : Seat) (e : Entry) (stands : NodeStands p held s x) (fits : CallFits p x) (all : AllLanesAreCounted p x)
    (has : HasEntry x e) (pending : same_kind e.kind kinds.PendingResponse ≡ true) where
  suits : SuitsPort p x e.port e.kind
  suits = fits.handles e has

  client : is_client (p.port e.port).role ≡ true
  client = lane_of_client (p.port e.port).role e.kind suits.1 (pending_has e.kind pending)

  not_both : (kind : Kind) → is_request_loan kind ≡ true → same_kind kind kinds.PendingResponse ≡ true → ⊥
  not_both kinds.RequestMut one two = true≢false (sym two)
  not_both kinds.RequestMutUninit one two = true≢false (sym two)
  not_both kind one two = true≢false (sym one)

  module _ (d : Delivery) (request : is_request_loan d.loan.kind ≡ true) (port : e.port ≡ d.loan.port) (lane : e.lane ≡ d.loan.lane) where
    two : (k : ℕ) → k ≤ 1 → 2 ≤ k → ⊥
    two k few more = omega (arith, few, more)

    few : how_often e.lane (lanes_used x e.port) ≤ 1
    few = once p x all e.port suits.0 client e.lane

    -- the loan counts there, too
    loan_one : one e.port e.lane d.loan ≡ 1
    loan_one = ap (λ l. one e.port l d.loan) lane ∙ one_is e.port d.loan (request_has d.loan.kind request) (sym port)

    -- where the call made it
    made : lent_in (message_at x.local) ≡ d.loan ∷ [] → ⊥
    made lent =
        two (how_often e.lane (lanes_used x e.port)) few
        (more (one e.port e.lane d.loan) (often e.port e.lane x.table) _ loan_one (there_is e.port e x.table (in_table x e has) (pending_has e.kind pending) refl)
        (ap (λ es. how_often e.lane (lanes_in e.port (es ++ x.table))) lent ∙ front e.port e.lane d.loan x.table))
      where
        more : (i b k : ℕ) → i ≡ 1 → 1 ≤ b → k ≡ i + b → 2 ≤ k
        more i b k is some sum = omega (arith, is, some, sum)

    -- where it is a handle
    other_number : (d.loan.number == e.number) ≡ true → HasEntry x d.loan → ⊥
    other_number same there =
        not_both e.kind
        (subst (λ (k : Entry). is_request_loan k.kind ≡ true)
        (some-is d.loan e (sym there ∙ ap (λ i. entry_at i x.table) (eqb-true d.loan.number e.number same) ∙ has)) request) pending

    kept : HasEntry x d.loan → ⊥
    kept there =
        two (how_often e.lane (lanes_used x e.port)) few
        (more (one e.port e.lane e) (often e.port e.lane (without_entry e x.table)) (often e.port e.lane x.table)
        (often e.port e.lane (lent_in (message_at x.local))) _ (one_is e.port e (pending_has e.kind pending) refl)
        (subst (λ l. 1 ≤ often e.port l (without_entry e x.table)) (sym lane)
        (there_is e.port d.loan (without_entry e x.table) still (request_has d.loan.kind request) (sym port)))
        (less e.port e.lane e x.table has stands.numbers) (both e.port e.lane (lent_in (message_at x.local)) x.table))
      where
        more : (i b t l k : ℕ) → i ≡ 1 → 1 ≤ b → t ≡ i + b → k ≡ l + t → 2 ≤ k
        more i b t l k is some sum whole = omega (arith, is, some, sum, whole)

        apart : (b : Bool) → (d.loan.number == e.number) ≡ b → not b ≡ true
        apart true is = absurd (other_number is there)
        apart false is = refl

        still : IsAmong d.loan (without_entry e x.table)
        still =
            among-filter (λ (k : Entry). not (k.number == e.number)) d.loan x.table (in_table x d.loan there)
            (apart (d.loan.number == e.number) refl)

    by_made : (copied : Bool) → d.copied ≡ copied → (copied ≡ true → lent_in (message_at x.local) ≡ d.loan ∷ []) → SendsOwnEntry s.fixed x d.loan copied → ⊥
    by_made true is lent sent = made (lent refl)
    by_made false is lent sent = kept sent

  -- a response is no client's
  not_response : (kind : Kind) (role : Role) → is_client role ≡ true → is_kind_of role kind ≡ true → IsOfLoan kind → is_request_loan kind ≡ true
  not_response kinds.RequestMut role at is loan = refl
  not_response kinds.RequestMutUninit role at is loan = refl
  not_response kinds.ResponseMut Client at is loan = is
  not_response kinds.ResponseMut Server at is loan = absurd (true≢false (sym at))
  not_response kinds.ResponseMutUninit Client at is loan = is
  not_response kinds.ResponseMutUninit Server at is loan = is
  not_response kind role at is loan = absurd (true≢false (sym loan))

  lent_of : (d : Delivery) (w : Way) (left full : List Way) (copied : Bool) → d.copied ≡ copied → copied ≡ true → lent_in (message_at (SendOpens d w left full)) ≡ d.loan ∷ []
  lent_of d w left full copied is made = ap (λ c. lent_in (message_at (SendOpens (record d { copied = c }) w left full))) (is ∙ made)

  at_place : (local : Local) → x.local ≡ local → PlaceFits p x local → PlaceStands p s.fixed x local → OpensElsewhere local e
  at_place (SendOpens d w left full) is place sent =
      λ receiver lane. (
      let port : e.port ≡ d.loan.port = sym receiver ∙ place.0.0.0 in
      let on : e.lane ≡ d.loan.lane = sym lane ∙ place.0.0.1 in
      let at : is_client (p.port d.loan.port).role ≡ true = subst (λ k. is_client (p.port k).role ≡ true) port client in
      by_made d (not_response d.loan.kind (p.port d.loan.port).role at place.1.1.1 place.1.0) port on d.copied refl
      (λ made. ap (λ l. lent_in (message_at l)) is ∙ lent_of d w left full d.copied refl made) sent)
  at_place local is place sent = tt

pub sends_open_elsewhere : SendsOpenElsewhere
sends_open_elsewhere p held s x e stands fits all has pending = at_place p held s x e stands fits all has pending x.local refl fits.place stands.names.place
