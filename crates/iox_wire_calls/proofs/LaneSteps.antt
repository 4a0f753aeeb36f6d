-- Lanes stay counted over each access, and as a call begins: by the message that the call has then.
use Rattle.std.specs.Prelude.{find, map, ◌&&◌, ◌++◌, nat_lt}
use Rattle.std.specs.Option.{option_map_or}
use Rattle.std.proofs.Common.{◌≡◌, ℕ, ◌+◌, Bool, true, false, if◌then◌else◌, ◌==◌, List, [], ◌∷◌, refl, ap, sym, subst, ◌∙◌, arith, true≢false, eq-eqb, eqb-true, inl, inr}
use Rattle.std.proofs.lemmas.Bool.{cases_Bool}
use Rattle.iox_model.specs.declared.kind.Kind.{Kind}
use Rattle.iox_model.specs.declared.kind.Role.{Role}
use Rattle.iox_model.specs.declared.kind.Role.TheVariants.{Client, Server}
use Rattle.iox_model.specs.declared.way.Way.{Way}
use Rattle.iox_model.specs.Loans.{kind_of_loan}
use Rattle.iox_model.specs.Maps.{has_number, without_number}
use Rattle.iox_model.specs.Settings.{is_client}
use Rattle.iox_laws.proofs.WeaveLaws.CallLaws.{eqb-flip}
use Rattle.iox_laws.proofs.WeaveLaws.MapLemmas.{eqb-refl}
use Rattle.iox_laws.proofs.WeaveLedger.Truths.{both_true, or-left, second-fails}
use Rattle.iox_steps.specs.declared.side.Popping.{Popping}
use Rattle.iox_steps.specs.declared.side.Popping.TheVariants as popping
use Rattle.iox_steps.specs.declared.side.QueueEvent.{QueueEvent}
use Rattle.iox_steps.specs.declared.side.QueueEvent.TheVariants.{HandOut, SeesEmpty}
use Rattle.iox_word_map.specs.WordMaps.{ReturningQueue}
use Rattle.iox_wire_steps.specs.Programs.{site_of}
use Rattle.iox_wire_steps.specs.Local.{Local}
use Rattle.iox_wire_steps.specs.Local.TheVariants.{LendEmpties, LendStores, ReceivePops, ReleaseReturns}
use Rattle.iox_wire_steps.specs.Seat.{Seat}
use Rattle.iox_wire_steps.specs.Desk.{Desk}
use Rattle.iox_wire_steps.specs.Entry.{Entry}
use Rattle.iox_wire_steps.specs.NewLoan.{NewLoan}
use Rattle.iox_wire_steps.specs.Courses as courses
use Rattle.iox_wire_steps.specs.Desks.{at_desk, delivers, gets_back, picks}
use Rattle.iox_wire_steps.specs.Findings as findings
use Rattle.iox_wire_steps.specs.Known.{free_lanes, free_slots}
use Rattle.iox_wire_steps.specs.Lendings.{first_lane}
use Rattle.iox_wire_steps.specs.NewLoans.{entry_in}
use Rattle.iox_wire_steps.specs.Steps.{accessed, advance}
use Rattle.iox_wire_steps.specs.Tables.{Setting}
use Rattle.iox_wire_steps.specs.OwnParts.{KeepsOwn}
use Rattle.iox_wire_steps.specs.SlotsKnown.{IsPortOfSeat}
use Rattle.iox_wire_steps.proofs.CountsKept.{steps_keep_own}
use Rattle.iox_wire_steps.specs.Uses.{AllUsesAreCounted, how_often}
use Rattle.iox_wire_steps.proofs.Counting.{one_out}
use Rattle.iox_wire_steps.specs.Following.{CallMessage, DeskChange, Delivered, NodeContinues, GotBack, IsLending, IsOfEntry, IsReturning, Leaving, MayLetGo, OfEntry, Taken, TakesOn, Unchanged, changed, desk_change, drops, keeps, lets_go, message_at, picks_slot, puts_aside, sends_loan, takes}
use Rattle.iox_wire_steps.proofs.Follows.{accesses_follow}
use Rattle.iox_wire_calls.specs.LaneLaws.{AccessesKeepLanes, HasLanesForSlots}
use Rattle.iox_wire_calls.specs.Lanes.{lane_count, AllLanesAreCounted, has_own_lane, lanes_in, lanes_used, lent_in}
use Rattle.iox_wire_calls.specs.Places.{CallFits, IsPop, PlaceFits, TakesFirst}
use Rattle.iox_wire_calls.proofs.LaneDesks.{lanes_are, one_changed}
use Rattle.iox_wire_calls.proofs.LaneCounts.{servers_have_no_lane}
use Rattle.iox_wire_calls.proofs.LaneLists.{front, often, one}
use Rattle.iox_wire_calls.proofs.Parts.{pops_on}
use Rattle.iox_wire_calls.proofs.PlaceCourses.{desks_stay, lanes_told}
use Rattle.iox_wire_calls.proofs.PlaceSteps.{accesses_fit}

-- ---- what does not change

-- a message that may go is no loan of the call
let_go : (message : CallMessage) → MayLetGo message → lent_in message ≡ []
let_go (OfEntry e) may = refl
let_go (Taken w slot) may = refl
let_go other may = absurd may

of_entry : (message : CallMessage) (e : Entry) → IsOfEntry message e → lent_in message ≡ []
of_entry (OfEntry k) e is = refl
of_entry (Leaving k) e is = refl
of_entry other e is = absurd is

returning : (local : Local) (e : Entry) → IsReturning local e → lent_in (message_at local) ≡ []
returning (ReleaseReturns k place) e is = refl
returning local e is = absurd is

taking : (p : Setting) (local : Local) (seen : ℕ) (w : Way) (slot : ℕ) → TakesOn p local seen w slot → lent_in (message_at local) ≡ []
taking p (ReceivePops v y more place left waiting) seen w slot is = refl
taking p local seen w slot is = absurd is

abbrev pub lanes_at : ℕ → List Desk → List ℕ
lanes_at port ds = option_map_or (λ (d : Desk). d.free_lanes) (find (λ d. d.port == port) ds) []

-- what is got back or delivered leaves free lanes
change_leaves : (x : Seat) (change : DeskChange) (port : ℕ) → lanes_at port (changed change x).desks ≡ free_lanes x port
change_leaves x Unchanged port = refl
change_leaves x (GotBack q w slot) port = desks_stay lanes_told [] x q port (gets_back w slot) (record { port = λ d. refl; told = λ d. refl })
change_leaves x (Delivered q w slot) port = desks_stay lanes_told [] x q port (delivers w slot) (record { port = λ d. refl; told = λ d. refl })

-- the same lanes are free, and in use
pub same_lanes : (p : Setting) (x y : Seat) → KeepsOwn x y → ((port : ℕ) → free_lanes y port ≡ free_lanes x port)
    → lent_in (message_at y.local) ≡ lent_in (message_at x.local) → AllLanesAreCounted p x → AllLanesAreCounted p y
same_lanes p x y own free lent all port mine lane =
    ap (λ ls. how_often lane ls + how_often lane (lanes_used y port)) (free port)
    ∙ ap (λ es. how_often lane (free_lanes x port) + how_often lane (lanes_in port (es ++ y.table))) lent
    ∙ ap (λ es. how_often lane (free_lanes x port) + how_often lane (lanes_in port (lent_in (message_at x.local) ++ es))) own.table
    ∙ all port (mine.0, mine.1 ∙ own.node) lane

-- ---- a loan takes the first free lane

-- the place takes a slot now, and the first free lane
abbrev pub PicksFirst : Setting → Seat → Local → Type 0
PicksFirst p x (LendStores o slot next) = TakesFirst p x o
PicksFirst p x local = Unit {0}

pub slot_taken : (p : Setting) (x : Seat) (o : NewLoan) (free : List ℕ) → TakesFirst p x o → PicksFirst p x (courses.takes_slot x o free).local
slot_taken p x o [] first = tt
slot_taken p x o (slot ∷ free) first = first

pub loan_goes_on : (p : Setting) (x : Seat) (o : NewLoan) (left : List Way) → TakesFirst p x o → PicksFirst p x (courses.loaning x o left).local
loan_goes_on p x o [] first = slot_taken p x o (free_slots x o.port) first
loan_goes_on p x o (w ∷ left) first = tt

emptied : (p : Setting) (x : Seat) (seen : ℕ) (o : NewLoan) (w : Way) (place : Popping) (left : List Way) → IsPop place → TakesFirst p x o
    → PicksFirst p x (advance p (accessed x) (LendEmpties o w place left) seen).local
emptied p x seen o w (popping.Pops place) left is first =
    pops_on (λ after event. PicksFirst p x (findings.loan_emptied (accessed x) o w left after event).local) going (λ after slot. tt)
    (λ after. loan_goes_on p (accessed x) o left first) (site_of p.layout (ReturningQueue w)) place seen
  where
    going : (after : Popping) (event : QueueEvent) → IsPop after → PicksFirst p x (findings.loan_emptied (accessed x) o w left after event).local
    going after (HandOut slot) pops = tt
    going after SeesEmpty pops = loan_goes_on p (accessed x) o left first
    going after event pops = tt
emptied p x seen o w part left is first = absurd is

lending_picks : (p : Setting) (x : Seat) (seen : ℕ) (local : Local) → IsLending local → PlaceFits p x local → PicksFirst p x (advance p (accessed x) local seen).local
lending_picks p x seen (LendEmpties o w place left) lends fits = emptied p x seen o w place left fits.0 fits.2
lending_picks p x seen local lends fits = absurd lends

-- ---- the pick

-- of a client's loan
client_lends : (kind : Kind) (role : Role) → kind ≡ kind_of_loan role false → is_client role ≡ true → has_own_lane kind ≡ true
client_lends kind Client is client = ap has_own_lane is
client_lends kind Server is client = absurd (true≢false (sym client))

-- of a server's
server_lends : (kind : Kind) (role : Role) → kind ≡ kind_of_loan role false → is_client role ≡ false → has_own_lane kind ≡ false
server_lends kind Client is server = absurd (true≢false server)
server_lends kind Server is server = ap has_own_lane is

module _ (p : Setting) (x y : Seat) (o : NewLoan) (slot : ℕ) (free : List ℕ) (own : KeepsOwn x y) (uses : AllUsesAreCounted p x)
    (lanes : HasLanesForSlots p x) (none : lent_in (message_at x.local) ≡ []) (there : free_slots x o.port ≡ slot ∷ free)
    (desks : y.desks ≡ (at_desk x o.port (picks o slot free)).desks) (place : y.local ≡ LendStores o slot 0)
    (kind : o.kind ≡ kind_of_loan (p.port o.port).role false) (first : TakesFirst p x o) (all : AllLanesAreCounted p x) where
  abbrev Counted : ℕ → ℕ → Type 0
  Counted port lane = how_often lane (free_lanes y port) + how_often lane (lanes_used y port) ≡ (if nat_lt lane (lane_count p port) then 1 else 0)

  module _ (port : ℕ) (mine : IsPortOfSeat p x port) (lane : ℕ) where
    freed : free_lanes y port ≡ (if port == o.port then (picks o slot free (uses port mine).desk).free_lanes else (uses port mine).desk.free_lanes)
    freed = one_changed x port (uses port mine).desk (uses port mine).there y o.port (picks o slot free) (λ k. refl) desks

    before : how_often lane (free_lanes x port) + often port lane x.table ≡ (if nat_lt lane (lane_count p port) then 1 else 0)
    before =
        subst (λ es. how_often lane (free_lanes x port) + how_often lane (lanes_in port (es ++ x.table)) ≡ (if nat_lt lane (lane_count p port) then 1 else 0)) none
        (all port mine lane)

    now_used : how_often lane (lanes_used y port) ≡ one port lane (entry_in o slot) + often port lane x.table
    now_used =
        ap (λ l. how_often lane (lanes_in port (lent_in (message_at l) ++ y.table))) place
        ∙ ap (λ es. how_often lane (lanes_in port (entry_in o slot ∷ es))) own.table ∙ front port lane (entry_in o slot) x.table

    new_lane : (b : Bool) → (has_own_lane o.kind && (o.port == port)) ≡ b
        → one port lane (entry_in o slot) ≡ how_often lane (map (λ (e : Entry). e.lane) (if b then entry_in o slot ∷ [] else []))
    new_lane b is = ap (λ c. how_often lane (map (λ (e : Entry). e.lane) (if c then entry_in o slot ∷ [] else []))) is

  -- of another port
  elsewhere : (port : ℕ) → IsPortOfSeat p x port → (lane : ℕ) → (port == o.port) ≡ false → Counted port lane
  elsewhere port mine lane other =
      still (how_often lane (free_lanes x port)) (often port lane x.table) _ _ _
      (ap (how_often lane) (freed port mine lane ∙ ap (λ b. if b then (picks o slot free (uses port mine).desk).free_lanes else (uses port mine).desk.free_lanes) other
      ∙ sym (lanes_are x port (uses port mine).desk (uses port mine).there)))
      (now_used port mine lane ∙ ap (λ k. k + often port lane x.table)
      (new_lane port mine lane false (second-fails (has_own_lane o.kind) (o.port == port) (eqb-flip port o.port other)))) (before port mine lane)
    where
      still : (f u f' u' r : ℕ) → f' ≡ f → u' ≡ 0 + u → f + u ≡ r → f' + u' ≡ r
      still f u f' u' r one two is = omega (arith, one, two, is)

  -- of the loan's port, if that is a server: it has no lane
  at_server : IsPortOfSeat p x o.port → is_client (p.port o.port).role ≡ false → (lane : ℕ) → Counted o.port lane
  at_server mine server lane =
      still (how_often lane (free_lanes x o.port)) (often o.port lane x.table) _ _ _
      (ap (how_often lane) (freed o.port mine lane
      ∙ ap (λ b. if b then (picks o slot free (uses o.port mine).desk).free_lanes else (uses o.port mine).desk.free_lanes) (eqb-refl o.port)
      ∙ ap (without_number o.lane) (sym (lanes_are x o.port (uses o.port mine).desk (uses o.port mine).there) ∙ empty) ∙ sym empty))
      (now_used o.port mine lane ∙ ap (λ k. k + often o.port lane x.table)
      (new_lane o.port mine lane false (ap (λ b. b && (o.port == o.port)) (server_lends o.kind (p.port o.port).role kind server)))) (before o.port mine lane)
    where
      still : (f u f' u' r : ℕ) → f' ≡ f → u' ≡ 0 + u → f + u ≡ r → f' + u' ≡ r
      still f u f' u' r one two is = omega (arith, one, two, is)

      empty : free_lanes x o.port ≡ []
      empty = servers_have_no_lane p x all o.port mine server

  -- of a client
  here : IsPortOfSeat p x o.port → is_client (p.port o.port).role ≡ true → (lane : ℕ) → Counted o.port lane
  here mine client lane =
      moved (if o.lane == lane then 1 else 0) (how_often lane (without_number o.lane (free_lanes x o.port))) (often o.port lane x.table)
      (how_often lane (free_lanes x o.port)) _ _ _ (one_out lane o.lane (free_lanes x o.port) (has_lane (free_lanes x o.port) refl (first client)))
      (ap (how_often lane) (freed o.port mine lane
      ∙ ap (λ b. if b then (picks o slot free (uses o.port mine).desk).free_lanes else (uses o.port mine).desk.free_lanes) (eqb-refl o.port)
      ∙ ap (without_number o.lane) (sym (lanes_are x o.port (uses o.port mine).desk (uses o.port mine).there))))
      (now_used o.port mine lane ∙ ap (λ k. k + often o.port lane x.table)
      (new_lane o.port mine lane true (both_true (has_own_lane o.kind) (o.port == o.port) (client_lends o.kind (p.port o.port).role kind client) (eqb-refl o.port))))
      (before o.port mine lane)
    where
      moved : (i w u f f' u' r : ℕ) → f ≡ i + w → f' ≡ w → u' ≡ (i + 0) + u → f + u ≡ r → f' + u' ≡ r
      moved i w u f f' u' r out now used is = omega (arith, out, now, used, is)

      has_slot : has_number slot (free_slots x o.port) ≡ true
      has_slot = ap (has_number slot) there ∙ or-left (slot == slot) (has_number slot free) (eqb-refl slot)

      has_lane : (fs : List ℕ) → free_lanes x o.port ≡ fs → o.lane ≡ first_lane (p.port o.port).pool fs → has_number o.lane fs ≡ true
      has_lane [] is at = absurd (lanes none o.port slot mine client has_slot is)
      has_lane (l ∷ ls) is at = or-left (l == o.lane) (has_number o.lane ls) (eq-eqb l o.lane (sym at))

  pub picked : AllLanesAreCounted p y
  picked port mine lane = by_port (port == o.port) refl
    where
      home : IsPortOfSeat p x port
      home = (mine.0, mine.1 ∙ own.node)

      by_port : (b : Bool) → (port == o.port) ≡ b → Counted port lane
      by_port true is =
          subst (λ q. IsPortOfSeat p x q → Counted q lane) (sym (eqb-true port o.port is)) (λ m. elim (cases_Bool (is_client (p.port o.port).role)) [
            | inl client ↦ here m client lane
            | inr server ↦ at_server m server lane
          ]) home
      by_port false is = elsewhere port home lane is

-- ---- accesses

module _ (p : Setting) (x : Seat) (seen : ℕ) (fits : CallFits p x) (uses : AllUsesAreCounted p x) (lanes : HasLanesForSlots p x) (all : AllLanesAreCounted p x) where
  abbrev y : Seat
  y = advance p (accessed x) x.local seen

  own : KeepsOwn x (advance p (accessed x) x.local seen)
  own = steps_keep_own p x seen

  same_desks : (advance p (accessed x) x.local seen).desks ≡ x.desks
      → lent_in (message_at (advance p (accessed x) x.local seen).local) ≡ lent_in (message_at x.local) → AllLanesAreCounted p (advance p (accessed x) x.local seen)
  same_desks desks lent = same_lanes p x y own (λ port. ap (lanes_at port) desks) lent all

  by_follows : NodeContinues p (accessed x) x.local seen (advance p (accessed x) x.local seen) → AllLanesAreCounted p (advance p (accessed x) x.local seen)
  by_follows (keeps desks message) =
      same_lanes p x y own (λ port. ap (lanes_at port) desks ∙ change_leaves (accessed x) (desk_change p x.local seen) port) (ap lent_in message) all
  by_follows (lets_go desks still message may) = same_desks desks (ap lent_in message ∙ sym (let_go (message_at x.local) may))
  by_follows (takes w slot desks still message on) = same_desks desks (ap lent_in message ∙ sym (taking p x.local seen w slot on))
  by_follows (puts_aside e desks still returns message) = same_desks desks (ap lent_in message ∙ sym (returning x.local e returns))
  by_follows (drops e desks still of message) = same_desks desks (ap lent_in message ∙ sym (of_entry (message_at x.local) e of))
  by_follows (picks_slot o slot free desks still place before there lends) =
      picked p x y o slot free own uses lanes (ap lent_in before) there desks place (subst (PlaceFits p y) place (accesses_fit p x seen fits).place).1
      (subst (PicksFirst p x) place (lending_picks p x seen x.local lends fits.place)) all
  by_follows (sends_loan o slot desks still before copies message) = same_desks desks (ap lent_in message ∙ sym (ap lent_in before))

pub accesses_keep_lanes : AccessesKeepLanes
accesses_keep_lanes p held s x seen fits stands lanes all = by_follows p x seen fits stands.uses lanes all (accesses_follow p (accessed x) seen)
