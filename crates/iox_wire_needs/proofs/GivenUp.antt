-- A request may be given up: its lane is used, so fewer are free than its client has.
use Rattle.std.proofs.lemmas.Option.{none-some}
use Rattle.std.specs.Prelude.{find, length, nat_lt}
use Rattle.std.specs.List.{range_with_len}
use Rattle.std.specs.Option.{option_map_or}
use Rattle.std.proofs.Common.{◌≡◌, ℕ, Bool, true, false, if◌then◌else◌, ◌==◌, ◌<◌, ◌≤◌, ◌+◌, ◌++◌, List, [], ◌∷◌, Option, Some, None, suc, ap, refl, sym, subst, ◌∙◌, arith, inl, inr, true≢false}
use Rattle.iox_model.specs.Handles.{is_request_loan}
use Rattle.iox_model.specs.Joins.{not_living}
use Rattle.iox_model.specs.Maps.{has_number}
use Rattle.iox_model.specs.Loans.{kind_of_loan}
use Rattle.iox_model.specs.Settings.{is_client}
use Rattle.iox_model.specs.declared.kind.Role.{Role}
use Rattle.iox_model.specs.declared.kind.Role.TheVariants.{Client, Server}
use Rattle.iox_laws.proofs.WeaveLaws.MapLemmas.{eqb-refl}
use Rattle.iox_laws.proofs.WeaveLaws.WholeLemmas.{some-is}
use Rattle.iox_laws.proofs.WeaveLedger.Lists.{IsAmong, NoRepeats, among-front, among-number}
use Rattle.iox_laws.proofs.WeaveLedger.Ranges.{no-longer, range-has}
use Rattle.iox_wire_keeps.specs.Ending.TheVariants as endings
use Rattle.iox_wire_keeps.specs.Local.{Local}
use Rattle.iox_wire_keeps.specs.Local.TheVariants.{Ends, LendStores, SendAsks, SendEmpties, SendEnds, SendEvicts, SendGetsBack, SendLooks, SendOpens, SendPushes}
use Rattle.iox_wire_keeps.specs.Seat.{Seat}
use Rattle.iox_wire_keeps.specs.Desk.{Desk}
use Rattle.iox_wire_keeps.specs.Entry.{Entry}
use Rattle.iox_wire_keeps.specs.NewLoan.{NewLoan}
use Rattle.iox_wire_keeps.specs.Known.{free_lanes}
use Rattle.iox_wire_keeps.specs.NewLoans.{entry_in}
use Rattle.iox_wire_keeps.specs.Steps.{ending_at}
use Rattle.iox_wire_keeps.specs.Tables.{Setting}
use Rattle.iox_wire_keeps.specs.SlotsKnown.{IsPortOfSeat}
use Rattle.iox_wire_keeps.specs.UsedSlots.{slots_in_call, slots_used}
use Rattle.iox_wire_keeps.proofs.Counting.{used}
use Rattle.iox_wire_keeps.specs.Uses.{AllUsesAreCounted, how_often}
use Rattle.iox_wire_keeps.specs.Desks.{IsHeldAt, MayGiveUp}
use Rattle.iox_wire_keeps.specs.Following.{CallMessage, LeavesNothing, Lent, Sent, message_at}
use Rattle.iox_wire_keeps.specs.Nodes.{NodeStands}
use Rattle.iox_wire_keeps.specs.Runs.{Run}
use Rattle.iox_wire_keeps.specs.Stands.{Player, seats_of}
use Rattle.iox_wire_keeps.proofs.StepsKept.{shown_same}
use Rattle.iox_wire_keeps.specs.CallsStand.{CallStands}
use Rattle.iox_wire_keeps.specs.Lanes.{AllLanesAreCounted, has_own_lane, lanes_in, lanes_used, lent_in}
use Rattle.iox_wire_keeps.specs.Places.{PlaceFits, SuitsPort}
use Rattle.iox_wire_keeps.proofs.LaneCounts.{of_clients, servers_have_no_lane}
use Rattle.iox_wire_keeps.proofs.LanesTell.{in_table, lane_of_client, low, request_has, there_is}
use Rattle.iox_wire_keeps.proofs.LoanSlots.{lent_slots, slots_by_message}
use Rattle.iox_wire_keeps.specs.WireStands.{WireStands}
use Rattle.iox_wire_needs.specs.Counts.{IsTidy}
use Rattle.iox_wire_needs.specs.Uses.{NewLoansMayBeGivenUp, RequestsMayBeGivenUp}
use Rattle.iox_wire_needs.proofs.AtDesks.{at_desk, may_give_up}
use Rattle.iox_wire_needs.proofs.Delivers.{range_length}
use Rattle.iox_wire_needs.proofs.Places.{node}
use Rattle.iox_wire_needs.proofs.Uses.{sent, sent_used, used_here}

-- a list in which each number is at most once has no repeats
no_repeats : (xs : List ℕ) → ((k : ℕ) → how_often k xs ≤ 1) → NoRepeats xs
no_repeats [] few = tt
no_repeats (x ∷ xs) few = (
  λ among. twice (x == x) (eqb-refl x) (how_often x xs) (few x) (used x xs (among-number x xs among)),
  no_repeats xs (λ k. less (x == k) (how_often k xs) (few k)),
)
  where
    twice : (b : Bool) → b ≡ true → (i : ℕ) → (if b then 1 else 0) + i ≤ 1 → 1 ≤ i → ⊥
    twice true is i few some = omega (arith, few, some)
    twice false is i few some = true≢false (sym is)

    less : (b : Bool) (i : ℕ) → (if b then 1 else 0) + i ≤ 1 → i ≤ 1
    less true i few = omega (arith, few)
    less false i few = omega (arith, few)

-- ---- an entry with a lane

module _ (p : Setting) (x : Seat) (uses : AllUsesAreCounted p x) (all : AllLanesAreCounted p x) (tidy : IsTidy x) (e : Entry) (home : IsPortOfSeat p x e.port)
    (client : is_client (p.port e.port).role ≡ true) (there : has_number e.slot (slots_used x e.port) ≡ true) (lane : 1 ≤ how_often e.lane (lanes_used x e.port)) where
  -- what is free is a lane of the client, once, and not this one
  at_most : (k : ℕ) → how_often k (free_lanes x e.port) + how_often k (lanes_used x e.port) ≤ 1
  at_most k = subst (λ i. i ≤ 1) (sym (of_clients p x all e.port home client k)) (one (nat_lt k (p.port e.port).pool))
    where
      one : (b : Bool) → (if b then 1 else 0) ≤ 1
      one true = omega arith
      one false = omega arith

  free_low : (k : ℕ) → 1 ≤ how_often k (free_lanes x e.port) → k < (p.port e.port).pool
  free_low k some = by_lane (nat_lt k (p.port e.port).pool) refl (of_clients p x all e.port home client k)
    where
      is_low : nat_lt k (p.port e.port).pool ≡ true → k < (p.port e.port).pool
      is_low is = grind (arith)

      none : (a b : ℕ) → a + b ≡ 0 → 1 ≤ a → ⊥
      none a b zeros more = omega (arith, zeros, more)

      by_lane : (b : Bool) → nat_lt k (p.port e.port).pool ≡ b → how_often k (free_lanes x e.port) + how_often k (lanes_used x e.port) ≡ (if b then 1 else 0)
          → k < (p.port e.port).pool
      by_lane true is counted = is_low is
      by_lane false is counted = absurd (none (how_often k (free_lanes x e.port)) (how_often k (lanes_used x e.port)) counted some)

  fewer : length (free_lanes x e.port) < (p.port e.port).pool
  fewer =
      under (length (free_lanes x e.port)) (length (range_with_len 0 (p.port e.port).pool)) (p.port e.port).pool (range_length 0 (p.port e.port).pool)
      (no-longer (e.lane ∷ free_lanes x e.port) (range_with_len 0 (p.port e.port).pool) (not_free, no_repeats (free_lanes x e.port) (λ k. first _ _ (at_most k))) each)
    where
      under : (a b c : ℕ) → b ≡ c → suc a ≤ b → a < c
      under a b c is less = omega (arith, is, less)

      first : (a b : ℕ) → a + b ≤ 1 → a ≤ 1
      first a b few = omega (arith, few)

      both_once : (a b : ℕ) → a + b ≤ 1 → 1 ≤ a → 1 ≤ b → ⊥
      both_once a b few one two = omega (arith, few, one, two)

      some : (k : ℕ) → IsAmong k (free_lanes x e.port) → 1 ≤ how_often k (free_lanes x e.port)
      some k among = used k (free_lanes x e.port) (among-number k (free_lanes x e.port) among)

      not_free : IsAmong e.lane (free_lanes x e.port) → ⊥
      not_free among = both_once (how_often e.lane (free_lanes x e.port)) (how_often e.lane (lanes_used x e.port)) (at_most e.lane) (some e.lane among) lane

      in_range : (k : ℕ) → k < (p.port e.port).pool → IsAmong k (range_with_len 0 (p.port e.port).pool)
      in_range k less = range-has 0 (p.port e.port).pool k (omega arith) (omega (arith, less))

      each : (k : ℕ) → IsAmong k (e.lane ∷ free_lanes x e.port) → IsAmong k (range_with_len 0 (p.port e.port).pool)
      each k (inl is) = in_range k (subst (λ i. i < (p.port e.port).pool) (sym is) (low p x all e.port home client e.lane lane))
      each k (inr among) = in_range k (free_low k (some k among))

  pub gives_up : MayGiveUp e x.desks
  gives_up =
      may_give_up e x.desks (at_desk (IsHeldAt e) e.port x.desks tidy.desks (λ d found. (
        used_here p x uses tidy.desks e.port e.slot home (used e.slot (slots_used x e.port) there) d found,
        subst (λ k. length d.free_lanes < k) (sym (ap (λ (k : Desk). length k.uses) (some-is d (uses e.port home).desk (sym found ∙ (uses e.port home).there))
            ∙ (uses e.port home).counts.words))
            (subst (λ (o : Option Desk). length (option_map_or (λ (k : Desk). k.free_lanes) o []) < (p.port e.port).pool) found fewer),
      )))

-- ---- an entry of a server, which has no lane

module _ (p : Setting) (x : Seat) (uses : AllUsesAreCounted p x) (all : AllLanesAreCounted p x) (tidy : IsTidy x) (e : Entry) (home : IsPortOfSeat p x e.port)
    (server : is_client (p.port e.port).role ≡ false) (there : has_number e.slot (slots_used x e.port) ≡ true) (in_pool : e.slot < (p.port e.port).pool) where
  none_free : free_lanes x e.port ≡ []
  none_free = servers_have_no_lane p x all e.port home server

  fewer_free : (d : Desk) → find (λ k. k.port == e.port) x.desks ≡ Some d → length d.free_lanes < length d.uses
  fewer_free d found =
      let u = uses e.port home in
      let lanes : length d.free_lanes ≡ 0
      = ap (λ o. length (option_map_or (λ (k : Desk). k.free_lanes) o [])) (sym found) ∙ ap length none_free in
      let pool : length d.uses ≡ (p.port e.port).pool
      = ap (λ (k : Desk). length k.uses) (some-is d u.desk (sym found ∙ u.there)) ∙ u.counts.words in
      low (length d.free_lanes) (length d.uses) (p.port e.port).pool e.slot lanes pool in_pool
    where
      low : (a b c i : ℕ) → a ≡ 0 → b ≡ c → i < c → a < b
      low a b c i none is less = omega (arith, none, is, less)

  pub server_gives_up : MayGiveUp e x.desks
  server_gives_up =
      may_give_up e x.desks (at_desk (IsHeldAt e) e.port x.desks tidy.desks (λ d found. (
        used_here p x uses tidy.desks e.port e.slot home (used e.slot (slots_used x e.port) there) d found,
        fewer_free d found,
      )))

-- ---- what a call sends or makes

-- what is sent suits its port
abbrev SuitsBy : Setting → Seat → CallMessage → Type 0
SuitsBy p x (Sent e copied) = SuitsPort p x e.port e.kind
SuitsBy p x other = Unit {0}

suits_by : (p : Setting) (x : Seat) (local : Local) → PlaceFits p x local → ending_at local ≡ None → SuitsBy p x (message_at local)
suits_by p x (Ends ending) fits going = absurd (none-some ending (sym going))
suits_by p x (SendEnds d last count) fits going = absurd (none-some (endings.Sends d.loan d.copied count) (sym going))
suits_by p x (SendAsks d) fits going = fits.0.1
suits_by p x (SendEmpties d w place left) fits going = fits.1.1
suits_by p x (SendLooks d w place left full) fits going = fits.1.1
suits_by p x (SendOpens d w left full) fits going = fits.1.1
suits_by p x (SendPushes d last w place left count) fits going = fits.1
suits_by p x (SendEvicts d w place left count) fits going = fits.1.1
suits_by p x (SendGetsBack d w place left count) fits going = fits.1.1
suits_by p x local fits going = tt

-- what is lent is a loan of its port
abbrev LendsBy : Setting → Seat → CallMessage → Type 0
LendsBy p x (Lent o slot) = IsPortOfSeat p x o.port × (o.kind ≡ kind_of_loan (p.port o.port).role false)
LendsBy p x other = Unit {0}

lends_by : (p : Setting) (x : Seat) (local : Local) → PlaceFits p x local → ending_at local ≡ None → LendsBy p x (message_at local)
lends_by p x (Ends ending) fits going = absurd (none-some ending (sym going))
lends_by p x (LendStores o slot next) fits going = (fits.0, fits.1)
lends_by p x local fits going = tt

module _ (p : Setting) (words : List ℕ) (players : ℕ → Player) (r : Run) (n : ℕ) (wire : WireStands p words players r) (living : not_living r.last.state n ≡ None)
    (tidy : IsTidy (players n).seat) where
  abbrev x : Seat
  x = (players n).seat

  module _ (leaves : LeavesNothing (message_at (players n).seat.local)) where
    same : seats_of p players n ≡ (players n).seat
    same = shown_same p (players n).seat (players n).seat.local leaves

    call : CallStands p wire.stands.held (players n).seat
    call = subst (CallStands p wire.stands.held) same (wire.calls n living)

    mine : NodeStands p wire.stands.held r.last.state (players n).seat
    mine = node p words players r n wire living leaves

  sent_leaves : (e : Entry) (copied : Bool) → message_at (players n).seat.local ≡ Sent e copied → LeavesNothing (message_at (players n).seat.local)
  sent_leaves e copied is = subst LeavesNothing (sym is) tt

  -- the lane of a request that is sent is in use
  sent_lane : (e : Entry) (copied : Bool) → message_at (players n).seat.local ≡ Sent e copied → is_request_loan e.kind ≡ true
      → 1 ≤ how_often e.lane (lanes_used (players n).seat e.port)
  sent_lane e true is request =
      subst (λ m. 1 ≤ how_often e.lane (lanes_in e.port (lent_in m ++ x.table))) (sym is)
      (there_is e.port e (e ∷ x.table) (inl refl) (request_has e.kind request) refl)
  sent_lane e false is request =
      subst (λ m. 1 ≤ how_often e.lane (lanes_in e.port (lent_in m ++ x.table))) (sym is)
      (there_is e.port e x.table (in_table x e (sent p words players r n wire living e false is)) (request_has e.kind request) refl)

  given : (e : Entry) (copied : Bool) → message_at (players n).seat.local ≡ Sent e copied → is_request_loan e.kind ≡ true → SuitsPort p (players n).seat e.port e.kind
      → MayGiveUp e (players n).seat.desks
  given e copied is request its =
      gives_up p x (mine (sent_leaves e copied is)).uses (call (sent_leaves e copied is)).lanes tidy e its.0
      (lane_of_client (p.port e.port).role e.kind its.1 (request_has e.kind request)) (sent_used p words players r n wire living e copied is) (sent_lane e copied is request)

  going_on : (e : Entry) (copied : Bool) → message_at (players n).seat.local ≡ Sent e copied → ending_at (players n).seat.local ≡ None → is_request_loan e.kind ≡ true
      → MayGiveUp e (players n).seat.desks
  going_on e copied is going request =
      given e copied is request (subst (SuitsBy p x) is (suits_by p x x.local (call (sent_leaves e copied is)).fits.place going))

  of_entry : (e : Entry) → message_at (players n).seat.local ≡ Sent e false → is_request_loan e.kind ≡ true → MayGiveUp e (players n).seat.desks
  of_entry e is request = given e false is request ((call (sent_leaves e false is)).fits.handles e (sent p words players r n wire living e false is))

  module _ (o : NewLoan) (slot : ℕ) (is : message_at (players n).seat.local ≡ Lent o slot) (going : ending_at (players n).seat.local ≡ None) where
    made_leaves : LeavesNothing (message_at (players n).seat.local)
    made_leaves = subst LeavesNothing (sym is) tt

    its : IsPortOfSeat p (players n).seat o.port × (o.kind ≡ kind_of_loan (p.port o.port).role false)
    its = subst (LendsBy p x) is (lends_by p x x.local (call made_leaves).fits.place going)

    made_there : has_number slot (slots_used (players n).seat o.port) ≡ true
    made_there =
        among-number slot (slots_used x o.port) (among-front slot (slots_in_call o.port x.local) _
        (subst (IsAmong slot) (sym (slots_by_message o.port x.local ∙ ap (lent_slots o.port) is ∙ ap (λ b. if b then slot ∷ [] else []) (eqb-refl o.port))) (inl refl)))

    -- a client's loan has a lane
    made_by : (role : Role) → (p.port o.port).role ≡ role → MayGiveUp (entry_in o slot) (players n).seat.desks
    made_by Client is_client_port =
        let has : has_own_lane o.kind ≡ true = ap has_own_lane (its.1 ∙ ap (λ role. kind_of_loan role false) is_client_port) in
        gives_up p x (mine made_leaves).uses (call made_leaves).lanes tidy (entry_in o slot) its.0 (ap is_client is_client_port) made_there
        (subst (λ m. 1 ≤ how_often o.lane (lanes_in o.port (lent_in m ++ x.table))) (sym is)
        (there_is o.port (entry_in o slot) (entry_in o slot ∷ x.table) (inl refl) has refl))
    made_by Server is_server_port =
        server_gives_up p x (mine made_leaves).uses (call made_leaves).lanes tidy (entry_in o slot) its.0 (ap is_client is_server_port) made_there
        (((mine made_leaves).slots.pools o.port its.0).within slot made_there)

    pub made : MayGiveUp (entry_in o slot) (players n).seat.desks
    made = made_by (p.port o.port).role refl

pub requests_may_be_given_up : RequestsMayBeGivenUp
requests_may_be_given_up p words players r n wire living tidy =
    (going_on p words players r n wire living tidy, of_entry p words players r n wire living tidy)

pub new_loans_may_be_given_up : NewLoansMayBeGivenUp
new_loans_may_be_given_up p words players r n wire living tidy = made p words players r n wire living tidy
