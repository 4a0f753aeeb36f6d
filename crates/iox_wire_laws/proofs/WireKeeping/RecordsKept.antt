-- The record of a way under a change of one desk.
use Rattle.std.specs.Prelude.{map, find, is_some, option_map, ◌++◌}
use Rattle.std.specs.Option.{option_map_or}
use Rattle.std.proofs.Common.{◌≡◌, ℕ, Bool, true, false, if◌then◌else◌, ◌||◌, ◌==◌, List, [], ◌∷◌, Option, Some, None, refl, ap, sym, subst, ◌∙◌, eqb-true, eq-eqb, true≢false, arith}
use Rattle.iox_model.specs.declared.way.Way.{Way}
use Rattle.iox_model.specs.Maps.{has_number, without_number, same_way, put, put_at, AreDistinct}
use Rattle.iox_model.specs.Moments.{Moment, Deliver, Evict, Take, GiveBack, GetBack, SeesEmpty, SeesWaiting, SeesFull, SeesRoom, SeesNoneBack, Open, Close, Hint, Look, moved}
use Rattle.iox_model.specs.States.{State}
use Rattle.iox_laws.proofs.WeaveLaws.MapLemmas.{same_way-true, eqb-refl}
use Rattle.iox_laws.proofs.WeaveLedger.Lists.{find-among}
use Rattle.iox_laws.proofs.WeaveLedger.Truths.{never, or-false, or-neither, or-left, or-right}
use Rattle.iox_wire_moments.specs.MomentsOf.{serial_in}
use Rattle.iox_wire_locals.specs.declared.table.Desk.{Desk}
use Rattle.iox_wire_locals.specs.declared.table.NewLoan.{NewLoan}
use Rattle.iox_wire_locals.specs.declared.table.Recorded.{Recorded}
use Rattle.iox_wire_locals.specs.declared.seat.Seat.{Seat}
use Rattle.iox_wire_locals.specs.Desks.{with_slots, delivers, gets_back, picks, on_desk, at_desk}
use Rattle.iox_wire_laws.specs.WireKeeping.Records.{recorded_of, record_of, slots_on, serials_on, DeliveriesAreRecorded, GetBacksAreRecorded, LeavesRecords, OthersLeaveRecords}

-- ---- what is found in a changed list

pub found : {A : Type 0} (g : A → A) (test : A → Bool) → ((a : A) → test (g a) ≡ test a) → (xs : List A)
    → find test (map g xs) ≡ option_map g (find test xs)
found g test same [] = refl
found g test same (x ∷ xs) = by_case (test (g x)) (test x) (same x) (found g test same xs)
  where
    by_case : (a b : Bool) → a ≡ b → find test (map g xs) ≡ option_map g (find test xs)
        → (if a then Some (g x) else find test (map g xs)) ≡ option_map g (if b then Some x else find test xs)
    by_case true true is rest = refl
    by_case true false is rest = absurd (true≢false is)
    by_case false true is rest = absurd (true≢false (sym is))
    by_case false false is rest = rest

-- ---- one desk

-- a change of a desk that changes the slots of one way
pub record Changes (change : Desk → Desk) (w : Way) (f : List ℕ → List ℕ) : Type 0 where
  pub port : (d : Desk) → (change d).port ≡ d.port
  pub recorded : (d : Desk) → (change d).recorded ≡ map (with_slots w f) d.recorded

module _ (x : Seat) (change : Desk → Desk) (w : Way) (f : List ℕ → List ℕ) (is : Changes change w f) where
  desk_port : (port : ℕ) (d : Desk) → (on_desk port change d).port ≡ d.port
  desk_port port d = by_case (d.port == port)
    where
      by_case : (b : Bool) → (if b then change d else d).port ≡ d.port
      by_case true = is.port d
      by_case false = refl

  pub recorded_after : (port q : ℕ)
      → recorded_of (at_desk x port change) q ≡ (if q == port then map (with_slots w f) (recorded_of x q) else recorded_of x q)
  recorded_after port q =
      ap (λ o. option_map_or (λ (d : Desk). d.recorded) o []) (found (on_desk port change) (λ d. d.port == q) (λ d. ap (λ n. n == q) (desk_port port d)) x.desks)
      ∙ by_desk (find (λ d. d.port == q) x.desks) refl
    where
      none : (b : Bool) → [] ≡ (if b then map (with_slots w f) [] else [])
      none true = refl
      none false = refl

      one : (d : Desk) (b : Bool) → (if b then change d else d).recorded ≡ (if b then map (with_slots w f) d.recorded else d.recorded)
      one d true = is.recorded d
      one d false = refl

      by_desk : (o : Option Desk) → find (λ d. d.port == q) x.desks ≡ o
          → option_map_or (λ (d : Desk). d.recorded) (option_map (on_desk port change) o) []
          ≡ (if q == port then map (with_slots w f) (option_map_or (λ (d : Desk). d.recorded) o []) else option_map_or (λ (d : Desk). d.recorded) o [])
      by_desk None e = none (q == port)
      by_desk (Some d) e =
          subst (λ n. (if d.port == port then change d else d).recorded ≡ (if n == port then map (with_slots w f) d.recorded else d.recorded))
          (eqb-true d.port q (find-among (λ (k : Desk). k.port == q) d x.desks e).1) (one d (d.port == port))

  slots_way : (r : Recorded) → (with_slots w f r).way ≡ r.way
  slots_way r = by_case (same_way r.way w)
    where
      by_case : (b : Bool) → (if b then record r { slots = f r.slots } else r).way ≡ r.way
      by_case true = refl
      by_case false = refl

  record_after : (y : Way) (rs : List Recorded) → record_of y (map (with_slots w f) rs) ≡ option_map (with_slots w f) (record_of y rs)
  record_after y rs = found (with_slots w f) (λ r. same_way r.way y) (λ r. ap (λ v. same_way v y) (slots_way r)) rs

  -- what is recorded there now
  slots_now : (y : Way) (rs : List Recorded) → is_some (record_of y rs) ≡ true
      → option_map_or (λ (r : Recorded). r.slots) (record_of y (map (with_slots w f) rs)) []
      ≡ (if same_way y w then f (option_map_or (λ (r : Recorded). r.slots) (record_of y rs) []) else option_map_or (λ (r : Recorded). r.slots) (record_of y rs) [])
  slots_now y rs there =
      ap (λ o. option_map_or (λ (r : Recorded). r.slots) o []) (record_after y rs) ∙ by_record (record_of y rs) refl there
    where
      one : (r : Recorded) (b : Bool) → (if b then record r { slots = f r.slots } else r).slots ≡ (if b then f r.slots else r.slots)
      one r true = refl
      one r false = refl

      by_record : (o : Option Recorded) → record_of y rs ≡ o → is_some o ≡ true
          → option_map_or (λ (r : Recorded). r.slots) (option_map (with_slots w f) o) []
          ≡ (if same_way y w then f (option_map_or (λ (r : Recorded). r.slots) o []) else option_map_or (λ (r : Recorded). r.slots) o [])
      by_record None e some = absurd (true≢false (sym some))
      by_record (Some r) e some =
          subst (λ v. (if same_way r.way w then record r { slots = f r.slots } else r).slots ≡ (if same_way v w then f r.slots else r.slots))
          (same_way-true r.way y (find-among (λ (k : Recorded). same_way k.way y) r rs e).1) (one r (same_way r.way w))

  there_still : (y : Way) (rs : List Recorded) → is_some (record_of y (map (with_slots w f) rs)) ≡ true → is_some (record_of y rs) ≡ true
  there_still y rs there = by_record (record_of y rs) (sym (ap is_some (record_after y rs)) ∙ there)
    where
      by_record : (o : Option Recorded) → is_some (option_map (with_slots w f) o) ≡ true → is_some o ≡ true
      by_record None e = e
      by_record (Some r) e = refl

  there_before : (y : Way) → is_some (record_of y (recorded_of (at_desk x w.sender change) y.sender)) ≡ true
      → is_some (record_of y (recorded_of x y.sender)) ≡ true
  there_before y there =
      by_case (y.sender == w.sender) (subst (λ rs. is_some (record_of y rs) ≡ true) (recorded_after w.sender y.sender) there)
    where
      by_case : (b : Bool) → is_some (record_of y (if b then map (with_slots w f) (recorded_of x y.sender) else recorded_of x y.sender)) ≡ true
          → is_some (record_of y (recorded_of x y.sender)) ≡ true
      by_case true e = there_still y (recorded_of x y.sender) e
      by_case false e = e

  pub slots_after : (y : Way) → is_some (record_of y (recorded_of x y.sender)) ≡ true
      → slots_on (at_desk x w.sender change) y ≡ (if same_way y w then f (slots_on x y) else slots_on x y)
  slots_after y there =
      ap (λ rs. option_map_or (λ (r : Recorded). r.slots) (record_of y rs) []) (recorded_after w.sender y.sender)
      ∙ by_case (y.sender == w.sender) refl
    where
      by_case : (b : Bool) → (y.sender == w.sender) ≡ b
          → option_map_or (λ (r : Recorded). r.slots) (record_of y (if b then map (with_slots w f) (recorded_of x y.sender) else recorded_of x y.sender)) []
          ≡ (if same_way y w then f (slots_on x y) else slots_on x y)
      by_case true e = slots_now y (recorded_of x y.sender) there
      by_case false e = rw e refl

-- ---- serials

module _ (serial : ℕ → ℕ) where
  added : (k slot : ℕ) (xs : List ℕ)
      → has_number k (map serial (xs ++ slot ∷ [])) ≡ (if k == serial slot then true else has_number k (map serial xs))
  added k slot [] = by_case (serial slot == k) (k == serial slot) (flip (serial slot) k)
    where
      by_case : (a b : Bool) → a ≡ b → (a || false) ≡ (if b then true else false)
      by_case true true e = refl
      by_case true false e = absurd (true≢false e)
      by_case false true e = absurd (true≢false (sym e))
      by_case false false e = refl

      flip : (a b : ℕ) → (a == b) ≡ (b == a)
      flip a b = grind (arith)
  added k slot (j ∷ js) = by_case (k == serial slot) (serial j == k) (added k slot js)
    where
      by_case : (b c : Bool) → has_number k (map serial (js ++ slot ∷ [])) ≡ (if b then true else has_number k (map serial js))
          → (c || has_number k (map serial (js ++ slot ∷ []))) ≡ (if b then true else (c || has_number k (map serial js)))
      by_case true true e = refl
      by_case true false e = e
      by_case false true e = refl
      by_case false false e = e

  once_added : (slot : ℕ) (xs : List ℕ) → AreDistinct (map serial xs) → has_number (serial slot) (map serial xs) ≡ false
      → AreDistinct (map serial (xs ++ slot ∷ []))
  once_added slot [] apart none = (refl, tt)
  once_added slot (j ∷ js) apart none =
      let r : ((serial j == serial slot) ≡ false) × (has_number (serial slot) (map serial js) ≡ false)
      = or-false (serial j == serial slot) (has_number (serial slot) (map serial js)) none in
      (added (serial j) slot js ∙ rw r.0 apart.0, once_added slot js apart.1 r.1)

  module _ (slot : ℕ) where
    -- no other slot of these holds the serial
    abbrev Alone : List ℕ → Type 0
    Alone xs = (j : ℕ) → has_number j xs ≡ true → serial j ≡ serial slot → j ≡ slot

    left_out : (k : ℕ) (xs : List ℕ) → AreDistinct (map serial xs) → Alone xs
        → has_number k (map serial (without_number slot xs)) ≡ (if k == serial slot then false else has_number k (map serial xs))
    left_out k [] apart alone = by_case (k == serial slot)
      where
        by_case : (b : Bool) → false ≡ (if b then false else false)
        by_case true = refl
        by_case false = refl
    left_out k (j ∷ js) apart alone =
        by_slot (j == slot) refl (left_out k js apart.1 (λ i there. alone i (or-right (j == i) (has_number i js) there)))
      where
        first : (b : Bool) → (k == serial slot) ≡ b → j ≡ slot
            → has_number k (map serial js) ≡ (if b then false else ((serial j == k) || has_number k (map serial js)))
        first true e same = subst (λ n. has_number n (map serial js) ≡ false) (ap serial same ∙ sym (eqb-true k (serial slot) e)) apart.0
        first false e same = rw (other (serial j) k (serial slot) (ap serial same) e) refl
          where
            other : (a k b : ℕ) → a ≡ b → (k == b) ≡ false → (a == k) ≡ false
            other a k b same e = grind (arith)

        later : (b : Bool) → (k == serial slot) ≡ b → (j == slot) ≡ false
            → has_number k (map serial (without_number slot js)) ≡ (if b then false else has_number k (map serial js))
            → ((serial j == k) || has_number k (map serial (without_number slot js))) ≡ (if b then false else ((serial j == k) || has_number k (map serial js)))
        later true e apart_from rest = or-neither _ _ (not_this (serial j == k) refl) rest
          where
            not_this : (c : Bool) → (serial j == k) ≡ c → c ≡ false
            not_this true is =
                never _ (eq-eqb j slot (alone j (or-left (j == j) (has_number j js) (eqb-refl j)) (eqb-true (serial j) k is ∙ eqb-true k (serial slot) e))) apart_from
            not_this false is = refl
        later false e apart_from rest = ap (λ b. (serial j == k) || b) rest

        by_slot : (c : Bool) → (j == slot) ≡ c
            → has_number k (map serial (without_number slot js)) ≡ (if k == serial slot then false else has_number k (map serial js))
            → has_number k (map serial (if c then js else j ∷ without_number slot js))
            ≡ (if k == serial slot then false else ((serial j == k) || has_number k (map serial js)))
        by_slot true is rest = first (k == serial slot) refl (eqb-true j slot is)
        by_slot false is rest = later (k == serial slot) refl is rest

    once_left : (xs : List ℕ) → AreDistinct (map serial xs) → Alone xs → AreDistinct (map serial (without_number slot xs))
    once_left [] apart alone = tt
    once_left (j ∷ js) apart alone = by_slot (j == slot) (once_left js apart.1 others)
      where
        others : Alone js
        others i there = alone i (or-right (j == i) (has_number i js) there)

        still_apart : (b : Bool) → (serial j == serial slot) ≡ b → has_number (serial j) (map serial (without_number slot js)) ≡ false
        still_apart b is =
            left_out (serial j) js apart.1 others ∙ ap (λ c. if c then false else has_number (serial j) (map serial js)) is ∙ either_false b
          where
            either_false : (b : Bool) → (if b then false else has_number (serial j) (map serial js)) ≡ false
            either_false true = refl
            either_false false = apart.0

        by_slot : (c : Bool) → AreDistinct (map serial (without_number slot js)) → AreDistinct (map serial (if c then js else j ∷ without_number slot js))
        by_slot true rest = apart.1
        by_slot false rest = (still_apart (serial j == serial slot) refl, rest)

-- ---- the laws

pub delivery : (w : Way) (slot : ℕ) → Changes (delivers w slot) w (λ slots. slots ++ slot ∷ [])
delivery w slot = record { port = λ d. refl; recorded = λ d. refl }

getting_back : (w : Way) (slot : ℕ) → Changes (gets_back w slot) w (without_number slot)
getting_back w slot = record { port = λ d. refl; recorded = λ d. refl }

pub deliveries_are_recorded : DeliveriesAreRecorded
deliveries_are_recorded held s x w slot fit fresh = record {
  told = λ y k there. told y k (there_before x (delivers w slot) w (λ slots. slots ++ slot ∷ []) (delivery w slot) y there);
  once = λ y there. once y (there_before x (delivers w slot) w (λ slots. slots ++ slot ∷ []) (delivery w slot) y there);
}
  where
    after : (y : Way) → is_some (record_of y (recorded_of x y.sender)) ≡ true
        → serials_on held (at_desk x w.sender (delivers w slot)) y ≡ map (serial_in held y) (if same_way y w then slots_on x y ++ slot ∷ [] else slots_on x y)
    after y there = ap (map (serial_in held y)) (slots_after x (delivers w slot) w (λ slots. slots ++ slot ∷ []) (delivery w slot) y there)

    told : (y : Way) (k : ℕ) → is_some (record_of y (recorded_of x y.sender)) ≡ true
        → put s.delivered w (put_at (s.delivered w) (serial_in held w slot) true) y k
        ≡ has_number k (serials_on held (at_desk x w.sender (delivers w slot)) y)
    told y k there = by_way (same_way y w) (same_way-true y w) ∙ sym (ap (has_number k) (after y there))
      where
        by_way : (b : Bool) → (b ≡ true → y ≡ w)
            → (if b then put_at (s.delivered w) (serial_in held w slot) true else s.delivered y) k
            ≡ has_number k (map (serial_in held y) (if b then slots_on x y ++ slot ∷ [] else slots_on x y))
        by_way true at =
            subst (λ v. (if k == serial_in held v slot then true else s.delivered v k) ≡ has_number k (map (serial_in held y) (slots_on x y ++ slot ∷ [])))
            (at refl) (ap (λ b. if k == serial_in held y slot then true else b) (fit.told y k there) ∙ sym (added (serial_in held y) k slot (slots_on x y)))
        by_way false at = fit.told y k there

    once : (y : Way) → is_some (record_of y (recorded_of x y.sender)) ≡ true → AreDistinct (serials_on held (at_desk x w.sender (delivers w slot)) y)
    once y there = subst AreDistinct (sym (after y there)) (by_way (same_way y w) (same_way-true y w))
      where
        by_way : (b : Bool) → (b ≡ true → y ≡ w)
            → AreDistinct (map (serial_in held y) (if b then slots_on x y ++ slot ∷ [] else slots_on x y))
        by_way true at =
            once_added (serial_in held y) slot (slots_on x y) (fit.once y there)
            (sym (fit.told y (serial_in held y slot) there) ∙ subst (λ v. s.delivered v (serial_in held v slot) ≡ false) (sym (at refl)) fresh)
        by_way false at = fit.once y there

pub get_backs_are_recorded : GetBacksAreRecorded
get_backs_are_recorded held s x w slot fit alone = record {
  told = λ y k there. told y k (there_before x (gets_back w slot) w (without_number slot) (getting_back w slot) y there);
  once = λ y there. once y (there_before x (gets_back w slot) w (without_number slot) (getting_back w slot) y there);
}
  where
    after : (y : Way) → is_some (record_of y (recorded_of x y.sender)) ≡ true
        → serials_on held (at_desk x w.sender (gets_back w slot)) y ≡ map (serial_in held y) (if same_way y w then without_number slot (slots_on x y) else slots_on x y)
    after y there = ap (map (serial_in held y)) (slots_after x (gets_back w slot) w (without_number slot) (getting_back w slot) y there)

    alone_on : (y : Way) → y ≡ w → (j : ℕ) → has_number j (slots_on x y) ≡ true → serial_in held y j ≡ serial_in held y slot → j ≡ slot
    alone_on y at = subst (λ v. (j : ℕ) → has_number j (slots_on x v) ≡ true → serial_in held v j ≡ serial_in held v slot → j ≡ slot) (sym at) alone

    told : (y : Way) (k : ℕ) → is_some (record_of y (recorded_of x y.sender)) ≡ true
        → put s.delivered w (put_at (s.delivered w) (serial_in held w slot) false) y k
        ≡ has_number k (serials_on held (at_desk x w.sender (gets_back w slot)) y)
    told y k there = by_way (same_way y w) (same_way-true y w) ∙ sym (ap (has_number k) (after y there))
      where
        by_way : (b : Bool) → (b ≡ true → y ≡ w)
            → (if b then put_at (s.delivered w) (serial_in held w slot) false else s.delivered y) k
            ≡ has_number k (map (serial_in held y) (if b then without_number slot (slots_on x y) else slots_on x y))
        by_way true at =
            subst (λ v. (if k == serial_in held v slot then false else s.delivered v k) ≡ has_number k (map (serial_in held y) (without_number slot (slots_on x y))))
            (at refl) (ap (λ b. if k == serial_in held y slot then false else b) (fit.told y k there)
            ∙ sym (left_out (serial_in held y) slot k (slots_on x y) (fit.once y there) (alone_on y (at refl))))
        by_way false at = fit.told y k there

    once : (y : Way) → is_some (record_of y (recorded_of x y.sender)) ≡ true → AreDistinct (serials_on held (at_desk x w.sender (gets_back w slot)) y)
    once y there = subst AreDistinct (sym (after y there)) (by_way (same_way y w) (same_way-true y w))
      where
        by_way : (b : Bool) → (b ≡ true → y ≡ w)
            → AreDistinct (map (serial_in held y) (if b then without_number slot (slots_on x y) else slots_on x y))
        by_way true at = once_left (serial_in held y) slot (slots_on x y) (fit.once y there) (alone_on y (at refl))
        by_way false at = fit.once y there

delivered_stays : (s : State) (m : Moment) → LeavesRecords m → (moved s m).delivered ≡ s.delivered
delivered_stays s (Deliver w m) leaves = absurd leaves
delivered_stays s (GetBack w k) leaves = absurd leaves
delivered_stays s (Evict w) leaves = refl
delivered_stays s (Take w m) leaves = refl
delivered_stays s (GiveBack w k) leaves = refl
delivered_stays s (Open w id) leaves = refl
delivered_stays s (Close w id) leaves = refl
delivered_stays s (Hint w id) leaves = refl
delivered_stays s (SeesEmpty w) leaves = refl
delivered_stays s (SeesWaiting w) leaves = refl
delivered_stays s (SeesFull w) leaves = refl
delivered_stays s (SeesRoom w) leaves = refl
delivered_stays s (SeesNoneBack w) leaves = refl
delivered_stays s (Look w shown) leaves = refl

-- a pick changes no record
module _ (x : Seat) (port : ℕ) (o : NewLoan) (slot : ℕ) (free : List ℕ) where
  one : (d : Desk) (b : Bool) → (if b then picks o slot free d else d).recorded ≡ d.recorded
  one d true = refl
  one d false = refl

  port_is : (d : Desk) (b : Bool) → (if b then picks o slot free d else d).port ≡ d.port
  port_is d true = refl
  port_is d false = refl

  pub picks_same : (q : ℕ) → recorded_of (at_desk x port (picks o slot free)) q ≡ recorded_of x q
  picks_same q =
      ap (λ d. option_map_or (λ (e : Desk). e.recorded) d [])
      (found (on_desk port (picks o slot free)) (λ d. d.port == q) (λ d. ap (λ n. n == q) (port_is d (d.port == port))) x.desks)
      ∙ by_desk (find (λ d. d.port == q) x.desks)
    where
      by_desk : (d : Option Desk) → option_map_or (λ (e : Desk). e.recorded) (option_map (on_desk port (picks o slot free)) d) []
          ≡ option_map_or (λ (e : Desk). e.recorded) d []
      by_desk None = refl
      by_desk (Some d) = one d (d.port == port)

pub others_leave_records : OthersLeaveRecords
others_leave_records held s x m port o slot free fit leaves = (
  record {
    told = λ y k there. ap (λ (delivered : Way → ℕ → Bool). delivered y k) (delivered_stays s m leaves) ∙ fit.told y k there;
    once = fit.once;
  },
  record {
    told = λ y k there. fit.told y k (subst (λ rs. is_some (record_of y rs) ≡ true) (picks_same x port o slot free y.sender) there)
        ∙ ap (λ rs. has_number k (map (serial_in held y) (option_map_or (λ (r : Recorded). r.slots) (record_of y rs) []))) (sym (picks_same x port o slot free y.sender));
    once = λ y there. subst (λ rs. AreDistinct (map (serial_in held y) (option_map_or (λ (r : Recorded). r.slots) (record_of y rs) []))) (sym (picks_same x port o slot free y.sender))
        (fit.once y (subst (λ rs. is_some (record_of y rs) ≡ true) (picks_same x port o slot free y.sender) there));
  },
)
