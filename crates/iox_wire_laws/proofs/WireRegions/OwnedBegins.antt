-- As a call begins, its first place is owned.
use Rattle.std.specs.Prelude.{if◌then◌else◌, ◌<◌, ◌≤◌, ◌*◌, map, length, zero, suc}
use Rattle.std.specs.List.{range_with_len}
use Rattle.std.proofs.Common.{◌≡◌, ℕ, true, false, ◌+◌, ◌==◌, List, [], ◌∷◌, refl, sym, subst, inl, inr, arith, ap, ◌∙◌}
use Rattle.iox_model.specs.declared.kind.Role.TheVariants.{Client, Server}
use Rattle.iox_model.specs.Handles.{is_request_loan}
use Rattle.iox_model.specs.Loans.{lending_ways, request_ways, response_ways}
use Rattle.iox_model.specs.Maps.{has_number, AreDistinctWays}
use Rattle.iox_model.specs.Messages.{request_way, response_way}
use Rattle.iox_model.specs.Peers.{lanes_of, lanes_to, others}
use Rattle.iox_model.specs.States.{Fixed}
use Rattle.iox_model.specs.declared.way.Way.{Way}
use Rattle.iox_laws.proofs.WeaveLaws.MapLemmas.{either, eqb-refl}
use Rattle.iox_laws.proofs.WeaveLedger.Lists.{IsAmong, among-number}
use Rattle.iox_laws.proofs.WeaveLedger.Truths.{never, or-left}
use Rattle.iox_laws.proofs.WeaveWorlds.PortLemmas.{distinct-others}
use Rattle.iox_laws.proofs.WeaveWorlds.WayLemmas.{apart-requests}
use Rattle.iox_wire_locals.specs.declared.local.Delivery.{Delivery}
use Rattle.iox_wire_locals.specs.declared.local.Ending.TheVariants as endings
use Rattle.iox_wire_locals.specs.declared.local.Local.TheVariants.{Reads}
use Rattle.iox_wire_locals.specs.declared.seat.Seat.{Seat}
use Rattle.iox_wire_locals.specs.declared.table.Entry.{Entry}
use Rattle.iox_wire_locals.specs.declared.table.NewLoan.{NewLoan}
use Rattle.iox_wire_locals.specs.Begins.{reads, writing}
use Rattle.iox_wire_locals.specs.Courses as courses
use Rattle.iox_wire_locals.specs.Known.{free_slots, known}
use Rattle.iox_wire_locals.specs.NewLoans.{entry_in, loan_in}
use Rattle.iox_wire_locals.specs.Tables.{Setting, port_shape, words_to_read}
use Rattle.iox_wire_locals.proofs.KnowingLemmas.{lending_known}
use Rattle.iox_wire_laws.specs.WireShows.OwnedCalls.{Each, DeliversOn, OpensOn, OwnsSend, states_to, ways_to}
use Rattle.iox_wire_laws.specs.WireRegions.OwnedWords.{HasLane, LendsOn, Owns, OwnsLoan, send_to}
use Rattle.iox_wire_laws.specs.WireRegions.OwnedWordLaws.{LoanHasLane}
use Rattle.iox_wire_laws.specs.WireRegions.OwnedBegins.{CopiesAreOwned, LayoutFits, LeavesLane, LendsByOwnPort, LendsFromHome, LoansBeginAsOwners, WritesAndReadsBeginAsOwners}
use Rattle.iox_wire_laws.proofs.WireRegions.OwnPorts.{each_flat, each_map, is_response, of_role, request_goes, response_goes}
use Rattle.iox_wire_laws.proofs.WireRegions.OwnedNext.{loaning}

-- lanes are below their number
range_low : (a n k : ℕ) → IsAmong k (range_with_len a n) → k < a + n
range_low a zero k among = absurd among
range_low a (suc n) k (inl is) = omega arith
range_low a (suc n) k (inr rest) = (let less : k < (a + 1) + n = range_low (a + 1) n k rest in omega arith)

module _ (p : Setting) (f : Fixed) (n : ℕ) (fits : LayoutFits p f) where
  -- ---- sends

  module _ (e : Entry) (by : LendsByOwnPort f n e) where
    module _ (is : is_request_loan e.kind ≡ true) where
      abbrev d : Delivery
      d = send_to e (others f n Server)

      request_ways_owned : Each (DeliversOn p n f d) (ways_to d)
      request_ways_owned =
          either (Each (DeliversOn p n f d)) (is_request_loan e.kind) (map (request_way e.port) (others f n Server))
          (map (λ client. response_way client e.lane e.port) (others f n Server))
          (λ k. each_map (DeliversOn p n f d) (request_way e.port) (others f n Server)
          (λ s there. (request_goes p f fits n e.port s (by.request is).0 (among-number s (others f n Server) there), sym by.own)))
          (never (is_request_loan e.kind) is)

      request_ways_apart : AreDistinctWays (ways_to d)
      request_ways_apart =
          either AreDistinctWays (is_request_loan e.kind) (map (request_way e.port) (others f n Server)) (map (λ client. response_way client e.lane e.port) (others f n Server))
          (λ k. apart-requests e.port (others f n Server) (distinct-others f n Server fits.numbers)) (never (is_request_loan e.kind) is)

      opens_owned : Each (OpensOn p d) (states_to d)
      opens_owned =
          either (Each (OpensOn p d)) (is_request_loan e.kind) (map (response_way e.port e.lane) (others f n Server)) []
          (λ k. each_map (OpensOn p d) (response_way e.port e.lane) (others f n Server)
          (λ s there. (
            is_response p f fits e.port e.lane s (by.request is).0.0 (of_role p f fits n Server s (among-number s (others f n Server) there)) (by.request is).1,
            by.small,
          )))
          (λ k. tt)

      request_owned : OwnsSend p n f d
      request_owned = record { ways = request_ways_owned; apart = request_ways_apart; opens = opens_owned }

    module _ (is : is_request_loan e.kind ≡ false) (there : has_number e.client (others f n Client) ≡ true) where
      abbrev r : Delivery
      r = send_to e (e.client ∷ [])

      response_owned : OwnsSend p n f r
      response_owned = record {
        ways =
            either (Each (DeliversOn p n f r)) (is_request_loan e.kind) (map (request_way e.port) (e.client ∷ []))
            (map (λ client. response_way client e.lane e.port) (e.client ∷ [])) (λ k. never (is_request_loan e.kind) k is)
            (λ k. ((response_goes p f fits n e.client e.lane e.port (by.response is).0 there (by.response is).1, sym by.own), tt));
        apart =
            either AreDistinctWays (is_request_loan e.kind) (map (request_way e.port) (e.client ∷ [])) (map (λ client. response_way client e.lane e.port) (e.client ∷ []))
            (λ k. never (is_request_loan e.kind) k is) (λ k. (refl, tt));
        opens =
            either (Each (OpensOn p r)) (is_request_loan e.kind) (map (response_way e.port e.lane) (e.client ∷ [])) [] (λ k. never (is_request_loan e.kind) k is)
            (λ k. tt);
      }

  -- ---- loans

  module _ (o : NewLoan) (home : LendsFromHome f n o) where
    -- the loan by its entry, where it has a lane
    by_entry : HasLane p o → (slot : ℕ) → LendsByOwnPort f n (entry_in o slot)
    by_entry lane slot = record {
      own = refl;
      small = home.small;
      request = λ is. (home.request is, subst (λ lanes. o.lane < lanes) (fits.lanes o.port (home.request is).0) (lane is));
      response = home.response;
    }

    got_back : (node : ℕ) → node ≡ n
        → Each (LendsOn p n f o) (if is_request_loan o.kind then request_ways f node o.port else response_ways f node o.port)
    got_back node same =
        subst (λ k. Each (LendsOn p n f o) (if is_request_loan o.kind then request_ways f k o.port else response_ways f k o.port)) (sym same)
        (either (Each (LendsOn p n f o)) (is_request_loan o.kind) (request_ways f n o.port) (response_ways f n o.port)
        (λ is. each_map (LendsOn p n f o) (request_way o.port) (others f n Server)
        (λ s there. (request_goes p f fits n o.port s (home.request is) (among-number s (others f n Server) there), refl)))
        (λ is. each_flat (LendsOn p n f o) (lanes_to f o.port) (others f n Client)
        (λ client there. each_map (LendsOn p n f o) (λ lane. response_way client lane o.port) (range_with_len 0 (lanes_of f client))
        (λ lane low. (
          response_goes p f fits n client lane o.port (home.response is).0 (among-number client (others f n Client) there)
              (let less : lane < 0 + lanes_of f client = range_low 0 (lanes_of f client) lane low in omega arith),
          refl,
        )))))

pub copies_are_owned : CopiesAreOwned
copies_are_owned p f node e fits by = record {
  request = λ is. request_owned p f node fits e by is;
  response = λ is there. (
    response_owned p f node fits e by is there,
    is_response p f fits e.client e.lane e.port (of_role p f fits node Client e.client there) (by.response is).0.0 (by.response is).1,
  );
}

-- a loan that takes a slot at once has a lane
first_lane : (p : Setting) (x : Seat) (o : NewLoan) → LeavesLane p x o → (left : List Way) → LoanHasLane p (courses.loaning x o left).local
first_lane p x o leaves [] = by_free (free_slots x o.port) refl
  where
    by_free : (free : List ℕ) → free_slots x o.port ≡ free → LoanHasLane p (courses.takes_slot x o free).local
    by_free [] is = tt
    by_free (slot ∷ free) is = leaves slot (ap (has_number slot) is ∙ or-left (slot == slot) (has_number slot free) (eqb-refl slot))
first_lane p x o leaves (w ∷ left) = tt

pub loans_begin_as_owners : LoansBeginAsOwners
loans_begin_as_owners p x f held shown o fits knows free mine home leaves region room =
    let owns : OwnsLoan p x.node f o
    = record { region = region; room = room; copy = λ copies lane slot. copies_are_owned p f x.node (entry_in o slot) fits (by_entry p f x.node fits o home lane slot) } in
    loaning p x f shown held knows free o (lending_ways (known p x) (loan_in p o)) owns
    (subst (Each (LendsOn p x.node f o)) (lending_known p x f held knows (loan_in p o) mine) (got_back p f x.node fits o home (p.port o.port).node mine))
    (first_lane p x o leaves (lending_ways (known p x) (loan_in p o)))

pub writes_and_reads_begin_as_owners : WritesAndReadsBeginAsOwners
writes_and_reads_begin_as_owners p x f shown e words has = (written words, read)
  where
    written : (words : List ℕ) → e.sender ≡ e.port → length words ≤ e.elements * (port_shape p e.sender).width → Owns p x.node f shown (writing x e words).local
    written [] own few = tt
    written (word ∷ rest) own few = (has, own, few, omega arith)

    positive : (k : ℕ) → (k == 0) ≡ false → 0 < k
    positive k some = grind (arith)

    read : Owns p x.node f shown (reads p x e).local
    read =
        either (λ (y : Seat). Owns p x.node f shown y.local) (words_to_read p e == 0) (courses.ended x (endings.Words [])) (courses.placed x (Reads e []))
        (λ none. tt) (λ some. (has, positive (words_to_read p e) some))
