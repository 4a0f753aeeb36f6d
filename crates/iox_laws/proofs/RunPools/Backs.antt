-- A loan of a service that got back all there is finds a message, where its pool was not reduced.
use Rattle.std.specs.Prelude.{◌≡◌, ℕ, ◌+◌, ◌<◌, ◌≤◌, Bool, true, false, not, ◌&&◌, ◌||◌, if◌then◌else◌, ◌==◌, nat_le, List, [], ◌∷◌, ◌++◌, length}
use Rattle.std.specs.Prelude.{filter, Some, None, refl}
use Rattle.std.specs.List.{list_any, range_with_len}
use Rattle.std.proofs.Common.{sym, subst, ap, ◌∙◌, arith, eqb-true, eq-eqb, true≢false, inl, inr}
use Rattle.std.proofs.lemmas.List.{length-map, length-append}
use Rattle.iox_model.specs.declared.way.Way.{Way}
use Rattle.iox_model.specs.Doings.{Doing, Loaning}
use Rattle.iox_laws.specs.WeaveLaws.Ledgers.{has_received, had_on, is_live}
use Rattle.iox_model.specs.Loans.{lending_ways}
use Rattle.iox_model.specs.Maps.{is_empty, first_of, rest_of, has_number, put_at, same_way, has_way}
use Rattle.iox_model.specs.Messages.{Message, serials_of}
use Rattle.iox_model.specs.Moments.{Holds, moved, Moment, GetBack, SeesNoneBack}
use Rattle.iox_model.specs.Outstandings.{outstanding_on, kept, is_dry}
use Rattle.iox_model.specs.Peers.{port_at, is_connected_port, node_of_port, forgot_port, is_counted_on, buffer_on, borrow_limit_on, ways_from}
use Rattle.iox_model.specs.States.{Port, Handle, Fixed, State}
use Rattle.iox_model.specs.Transitions.{next}
use Rattle.iox_model.specs.Weaves.{at_work}
use Rattle.iox_laws.proofs.WeaveLaws.MapLemmas.{either, same_way-true}
use Rattle.iox_laws.proofs.WeaveWorlds.Sound.{IsPortOf, IsWithin}
use Rattle.iox_laws.specs.WeaveLedger.LedgerLaws.{out_on}
use Rattle.iox_laws.proofs.WeaveLedger.Outstanding.{outstanding-apart}
use Rattle.iox_laws.proofs.WeaveLedger.Emptied.{other-left}
use Rattle.iox_laws.proofs.WeaveLedger.Ranges.{no-longer}
use Rattle.iox_laws.proofs.WeaveLedger.Truths.{never, by_cases, both_true}
use Rattle.iox_laws.proofs.WeaveLedger.Lists.{IsAmong, among-append, filter-among, find-among, among-front, among-back}
use Rattle.iox_laws.proofs.WeaveLedger.Views.{view}
use Rattle.iox_laws.proofs.WeaveLaws.WholeLemmas.{some-is}
use Rattle.iox_laws.specs.WeavePools.PoolLaws.{IsUnreduced}
use Rattle.iox_laws.proofs.WeavePools.Kept.{IsWayOf, most_out, kept-less}
use Rattle.iox_laws.proofs.WeavePools.SpareStarts.{IsLoanOf, node-is}
use Rattle.iox_laws.proofs.WeavePools.Suffices.{Reduced, not-dry, empty-is}
use Rattle.iox_laws.proofs.WeavePools.Ways.{way-of, lends-on, connected, most-is}
use Rattle.iox_laws.proofs.RunLaws.Calls.{own_ports}
use Rattle.iox_laws.proofs.RunLaws.Owning.{Has}
use Rattle.iox_laws.proofs.RunLaws.Rests.{Rests}
use Rattle.iox_laws.proofs.RunPools.Stands.{Onward, Begins}
use Rattle.iox_laws.proofs.RunPools.Parts.{unless}
use Rattle.iox_laws.proofs.RunPools.Keeps.{found_at}
use Rattle.iox_laws.proofs.RunPools.Counting.{Kinds}

-- ---- what is recorded

-- nothing is in hand, and what is recorded on a live way waits there, is held or was given back
pub record Ledgered (s : State) : Type 0 where
  pub hand : (y : Way) → s.in_hand y ≡ []
  pub out : (y : Way) (k : ℕ) → is_live s.fixed y ≡ true → s.delivered y k ≡ true → IsAmong k (out_on (at_work s) y)

-- a loan saw on the ways that are not left that nothing was to be got back
pub record GetsBack (s : State) (h : Handle) (left : List Way) : Type 0 where
  pub ledger : Ledgered s
  pub seen : (y : Way) → has_way y (lending_ways s.fixed h) ≡ true → has_way y left ≡ false → s.returned y ≡ []

pub begins_back : (s : State) → Ledgered s → Begins (GetsBack s) s
begins_back s ledger h = record { ledger = ledger; seen = λ y lends other. never (has_way y (lending_ways s.fixed h)) lends other }

-- ---- one is got back

-- another than the first is behind it
behind : (j k : ℕ) (ks : List ℕ) → first_of ks ≡ Some k → (j == k) ≡ false → IsAmong j ks → IsAmong j (rest_of ks)
behind j k [] e other p = p
behind j k (i ∷ is) e other (inl same) = never (j == k) (eq-eqb j k (same ∙ some-is i k e)) other
behind j k (i ∷ is) e other (inr p) = p

got_back : (s : State) (w : Way) (k : ℕ) → Holds s (GetBack w k) → Ledgered s → Ledgered (moved s (GetBack w k))
got_back s w k holds ledger = record {
  hand = λ y. either (λ (ks : List ℕ). ks ≡ []) (same_way y w) [] (s.in_hand y) (λ u. refl) (λ u. ledger.hand y);
  out = λ y j live e. by_case y j live (same_way y w) (same_way-true y w) e;
}
  where
    -- what is still given back there
    rest : List ℕ
    rest = if is_empty (s.in_hand w) then rest_of (s.returned w) else s.returned w

    rest-is : rest ≡ rest_of (s.returned w)
    rest-is = ap (λ (ks : List ℕ). if is_empty ks then rest_of (s.returned w) else s.returned w) (ledger.hand w)

    first : first_of (s.returned w) ≡ Some k
    first = ap (λ (ks : List ℕ). first_of (ks ++ s.returned w)) (sym (ledger.hand w)) ∙ holds

    none : {A : Type 0} (j : ℕ) (ks : List ℕ) → ks ≡ [] → IsAmong j ks → A
    none j ks e p = absurd (subst (IsAmong j) e p)

    shift : (j : ℕ) (waits had : List ℕ) → (j == k) ≡ false → IsAmong j (waits ++ (had ++ (s.returned w ++ s.in_hand w)))
        → IsAmong j (waits ++ (had ++ (rest ++ [])))
    shift j waits had other p = elim (among-append j waits (had ++ (s.returned w ++ s.in_hand w)) p) as (λ u. IsAmong j (waits ++ (had ++ (rest ++ [])))) [
      | inl a ↦ among-front j waits (had ++ (rest ++ [])) a
      | inr b ↦ among-back j waits (had ++ (rest ++ [])) (elim (among-append j had (s.returned w ++ s.in_hand w) b) as (λ u. IsAmong j (had ++ (rest ++ []))) [
        | inl a ↦ among-front j had (rest ++ []) a
        | inr c ↦ among-back j had (rest ++ []) (among-front j rest [] (subst (IsAmong j) (sym rest-is) (behind j k (s.returned w) first other
            (elim (among-append j (s.returned w) (s.in_hand w) c) as (λ u. IsAmong j (s.returned w)) [
              | inl a ↦ a
              | inr d ↦ none j (s.in_hand w) (ledger.hand w) d
            ]))))
      ])
    ]

    by_case : (y : Way) (j : ℕ) → is_live s.fixed y ≡ true → (b : Bool) → (b ≡ true → y ≡ w)
        → (if b then put_at (s.delivered w) k false else s.delivered y) j ≡ true
        → IsAmong j (serials_of (s.waiting y) ++ (had_on (at_work s) y ++ ((if b then rest else s.returned y) ++ (if b then [] else s.in_hand y))))
    by_case y j live true is e =
        let p : ((j == k) ≡ false) × (s.delivered w j ≡ true) = unless (j == k) (s.delivered w j) e in
        shift j (serials_of (s.waiting y)) (had_on (at_work s) y) p.0
        (subst (λ u. IsAmong j (serials_of (s.waiting y) ++ (had_on (at_work s) y ++ (s.returned u ++ s.in_hand u)))) (is refl)
        (ledger.out y j live (subst (λ u. s.delivered u j ≡ true) (sym (is refl)) p.1)))
    by_case y j live false is e = ledger.out y j live e

pub gets_on : (s : State) (n : ℕ) (d : Doing) (m : Moment) → Holds s m → (next s n d m).condition → Onward (GetsBack s) (GetsBack (moved s m)) d m
gets_on s n (Loaning copies h left) (GetBack w k) holds c = λ g. record {
  ledger = got_back s w k holds g.ledger;
  seen = λ y lends other. either (λ (ks : List ℕ). ks ≡ []) (same_way y w) (if is_empty (s.in_hand w) then rest_of (s.returned w) else s.returned w)
      (s.returned y)
      (λ same. still (subst (λ u. s.returned u ≡ []) (same_way-true y w same) (g.seen y lends other))) (λ u. g.seen y lends other);
}
  where
    still : s.returned w ≡ [] → (if is_empty (s.in_hand w) then rest_of (s.returned w) else s.returned w) ≡ []
    still e =
        either (λ (ks : List ℕ). ks ≡ []) (is_empty (s.in_hand w)) (rest_of (s.returned w)) (s.returned w) (λ u. ap (λ (ks : List ℕ). rest_of ks) e) (λ u. e)
gets_on s n (Loaning copies h left) (SeesNoneBack w) holds c = λ g. record {
  ledger = g.ledger;
  seen = λ y lends other. by_cases (same_way y w) (λ same. subst (λ u. s.returned u ≡ []) (sym (same_way-true y w same)) (empty-is (s.returned w) holds))
      (λ differs. g.seen y lends (other-left y w left differs other));
}
gets_on s n d m holds c = tt

-- ---- the port keeps less than its pool

-- what bounds the ways from the node's ports
pub record Bounded (s : State) (n : ℕ) : Type 0 where
  pub rests : Rests s.fixed
  pub within : IsWithin s n None
  pub has : Has s.fixed

-- nobody forgot anybody
none_forgot : (f : Fixed) (n q : ℕ) → ((m : ℕ) → f.forgot m ≡ []) → forgot_port f n q ≡ false
none_forgot f n q none = subst (λ ns. list_any (λ p. (p.number == q) && has_number p.node ns) f.ports ≡ false) (sym (none n)) (nobody f.ports)
  where
    off : (b c : Bool) → c ≡ false → ((b && false) || c) ≡ false
    off true c e = e
    off false c e = e

    nobody : (ps : List Port) → list_any (λ p. (p.number == q) && has_number p.node []) ps ≡ false
    nobody [] = refl
    nobody (p ∷ ps) = off (p.number == q) (list_any (λ x. (x.number == q) && has_number x.node []) ps) (nobody ps)

is_live_way : (f : Fixed) (w : Way) → ((m : ℕ) → f.forgot m ≡ []) → is_connected_port f w.sender ≡ true → is_connected_port f w.receiver ≡ true
    → is_live f w ≡ true
is_live_way f w none from to =
    both_true (is_counted_on f w) (is_connected_port f w.receiver && not (forgot_port f (node_of_port f w.receiver) w.sender))
    (both_true (is_connected_port f w.sender) (not (forgot_port f (node_of_port f w.sender) w.receiver)) from
    (ap not (none_forgot f (node_of_port f w.sender) w.receiver none)))
    (both_true (is_connected_port f w.receiver) (not (forgot_port f (node_of_port f w.receiver) w.sender)) to
    (ap not (none_forgot f (node_of_port f w.receiver) w.sender none)))

-- so many wait and are had, and nothing else is out
out_most : (s : State) (n : ℕ) (w : Way) → Bounded s n → Ledgered s → IsPortOf s.fixed n w.sender → s.returned w ≡ []
    → length (out_on (at_work s) w) ≤ buffer_on s.fixed w + borrow_limit_on s.fixed w
out_most s n w bounds ledger own back =
    sum (buffer_on s.fixed w) (borrow_limit_on s.fixed w) (length-append waits (had ++ (s.returned w ++ s.in_hand w)))
    (length-append had (s.returned w ++ s.in_hand w)) (length-append (s.returned w) (s.in_hand w))
    (ap length back) (ap length (ledger.hand w)) (length-map (s.waiting w) (λ (m : Message). m.serial)) (bounds.within w own)
    (length-map (filter (has_received w) (s.fixed.handles (node_of_port s.fixed w.receiver))) (λ (h : Handle). h.message.serial)) ((bounds.has).few w)
  where
    waits : List ℕ
    waits = serials_of (s.waiting w)

    had : List ℕ
    had = had_on (at_work s) w

    sum : (buffer limit : ℕ) {out a rest b more c d x y : ℕ} → out ≡ a + rest → rest ≡ b + more → more ≡ c + d → c ≡ 0 → d ≡ 0 → a ≡ x
        → nat_le x (buffer + 0) ≡ true → b ≡ y → y ≤ limit
        → out ≤ buffer + limit
    sum buffer limit {out} {a} {rest} {b} {more} {c} {d} {x} {y} e f g h i j k l m = grind (arith)

-- where all is back, the port keeps less than its pool
pub keeps_less : (s : State) (n : ℕ) (h : Handle) (p : Port) → Bounded s n → Kinds s.fixed → Ledgered s → IsLoanOf s.fixed n h
    → ((y : Way) → has_way y (lending_ways s.fixed h) ≡ true → s.returned y ≡ []) → port_at s.fixed h.port ≡ Some p → IsUnreduced s.fixed p
    → length (kept s h.port []) < p.pool
keeps_less s n h p bounds kinds ledger loan back is enough =
    kept-less s n h.port p (own_ports s.fixed bounds.rests) kinds.within (kinds.kinds n) loan.spare is loan.of_port enough each
  where
    at_most : {a b c d : ℕ} → a ≤ b → b ≤ c → c ≡ d → a ≤ d
    at_most {a} {b} {c} {d} e f g = omega arith

    each : (w : Way) → IsAmong w (ways_from s.fixed h.port) → length (outstanding_on s w) ≤ most_out s.fixed.limits p.role
    each w a =
        let way : IsWayOf s.fixed h.port p.role w = way-of s.fixed h.port p w is a in
        let from : is_connected_port s.fixed w.sender ≡ true = ap (is_connected_port s.fixed) way.sender ∙ found_at s.fixed.ports h.port p is in
        let live : is_live s.fixed w ≡ true = is_live_way s.fixed w kinds.forgot from (connected s.fixed w.receiver way.to way.among way.receiver) in
        let numbers : List ℕ = range_with_len 0 (s.fixed.loans w.sender + 1) in
        at_most
        (no-longer (outstanding_on s w) (out_on (at_work s) w) (outstanding-apart s w)
        (λ k among. ledger.out w k live (filter-among (s.delivered w) k numbers among).1))
        (out_most s n w bounds ledger (from, ap (node_of_port s.fixed) way.sender ∙ loan.of_port)
        (back w (lends-on s.fixed n h w loan a (none_forgot s.fixed n w.receiver kinds.forgot))))
        (most-is s.fixed h.port p w (own_ports s.fixed bounds.rests) is way)

-- so its pool does not refuse
pub gives : (s : State) (n : ℕ) (h : Handle) (p : Port) → Bounded s n → Kinds s.fixed → Ledgered s → IsLoanOf s.fixed n h
    → ((y : Way) → has_way y (lending_ways s.fixed h) ≡ true → s.returned y ≡ []) → port_at s.fixed h.port ≡ Some p → IsUnreduced s.fixed p
    → is_dry s.fixed h.port (kept s h.port []) ≡ false
gives s n h p bounds kinds ledger loan back is enough =
    not-dry s h.port p (kept s h.port []) is (keeps_less s n h p bounds kinds ledger loan back is enough)

-- it refuses only a node with a reduced pool
pub refuses_reduced : (s : State) (n : ℕ) (h : Handle) → Bounded s n → Kinds s.fixed → Ledgered s → IsLoanOf s.fixed n h
    → ((y : Way) → has_way y (lending_ways s.fixed h) ≡ true → s.returned y ≡ []) → is_dry s.fixed h.port (kept s h.port []) ≡ true → Reduced (view s.fixed n) n
refuses_reduced s n h bounds kinds ledger loan back dry all =
    let there : Port = (loan.spare).there in
    let number : there.number ≡ h.port = eqb-true there.number h.port (find-among (λ (q : Port). q.number == h.port) there s.fixed.ports (loan.spare).is).1 in
    true≢false (sym dry ∙ gives s n h there bounds kinds ledger loan back (loan.spare).is
    (all there (ap (port_at s.fixed) number ∙ (loan.spare).is) (sym (node-is s.fixed h.port there there.node (loan.spare).is refl) ∙ loan.of_port)))
