-- What holds of the record as a port of a hub is made, and as one goes.
use Rattle.std.specs.Prelude.{◌≡◌, ℕ, ◌+◌, ◌≤◌, Bool, true, false, ◌&&◌, ◌||◌, if◌then◌else◌, ◌==◌, nat_lt, nat_le, List, [], ◌∷◌, ◌++◌, None, ◌⊎◌, refl}
use Rattle.std.specs.Option.{option_map_or}
use Rattle.std.proofs.Common.{sym, subst, ap, ap₂, ◌∙◌, eqb-true, arith, inl, inr}
use Rattle.iox_model.specs.declared.kind.Role.TheVariants.{Client}
use Rattle.iox_model.specs.declared.way.Way.{Way}
use Rattle.iox_model.specs.Counts.{with_fixed}
use Rattle.iox_model.specs.Expiries.{expired_after, stays, is_end, disconnected, is_last_gone, released}
use Rattle.iox_model.specs.Handles.{is_received, way_of}
use Rattle.iox_laws.specs.WeaveLaws.Ledgers.{has_received, held_on}
use Rattle.iox_model.specs.Makings.{with_port}
use Rattle.iox_model.specs.Maps.{has_number, put_at, same_way}
use Rattle.iox_model.specs.Messages.{serials_of, Message}
use Rattle.iox_model.specs.Settings.{other_role, buffer_of, borrow_limit_of}
use Rattle.iox_model.specs.States.{Port, Handle, Fixed, State}
use Rattle.iox_laws.proofs.WeaveLaws.CallLaws.{put_at-else}
use Rattle.iox_laws.proofs.WeaveLaws.WholeLemmas.{split}
use Rattle.iox_laws.proofs.WeaveLaws.MapLemmas.{either, same_way-true}
use Rattle.iox_laws.proofs.WeaveLedger.Orders.{same-not-less}
use Rattle.iox_laws.proofs.WeaveLedger.Counts.{count, one_if}
use Rattle.iox_laws.proofs.WeaveLedger.Truths.{never, false_if, by_cases, or-false, or-neither, second-fails}
use Rattle.iox_laws.proofs.WeaveLedger.Balance.{any}
use Rattle.iox_laws.proofs.WeaveLedger.Lists.{IsAmong, filter-none}
use Rattle.iox_laws.proofs.WeaveLedger.Outs.{out, is}
use Rattle.iox_laws.proofs.WeaveLedger.Quiet.{serials}
use Rattle.iox_laws.proofs.WeaveLedger.Senders.{is_loan}
use Rattle.iox_laws.proofs.WeaveLedger.Views.{node_in}
use Rattle.iox_laws.proofs.RunLaws.Gone.{others_belong}
use Rattle.iox_laws.proofs.RunLaws.Owning.{Owned}
use Rattle.iox_laws.proofs.RunLaws.Parting.{none_there}
use Rattle.iox_laws.proofs.RunLaws.Ports.{any_at, others_than, any_others, any_stay, first_others, at_last, at_more, first_more}
use Rattle.iox_laws.proofs.RunLaws.Rests.{Rests}
use Rattle.iox_laws.proofs.RunLaws.Settling.{Calm}
use Rattle.iox_laws.proofs.RunLedger.Balance.{most_on}
use Rattle.iox_laws.proofs.RunLedger.Books.{had_in, Books}
use Rattle.iox_laws.proofs.RunLedger.Moments.{has_ends, IsIdle}
use Rattle.iox_laws.proofs.RunLedger.Rights.{is_loan_from, loaned_in, rights}

-- ---- handles

pub none-loaned : (port : ℕ) (hs : List Handle) → ((h : Handle) → IsAmong h hs → (h.port == port) ≡ false) → loaned_in hs port ≡ []
none-loaned port hs others = ap serials (filter-none (is_loan_from port) hs (λ h a. second-fails (is_loan h.kind) (h.port == port) (others h a)))

none-had : (y : Way) (hs : List Handle) → ((h : Handle) → IsAmong h hs → has_received y h ≡ false) → held_on y hs None ≡ []
none-had y hs none = ap serials (filter-none (has_received y) hs none)

-- ---- a port goes

-- who sent to an expired pair is gone
abbrev pub AreAway : Fixed → Type 0
AreAway f = (r k : ℕ) → has_number k (f.expired r) ≡ true → any_at k f.ports ≡ false

ends-stood : (f : Fixed) (gone : ℕ) (y : Way) → (any_at y.sender (others_than gone f.ports) && any_at y.receiver (others_than gone f.ports)) ≡ true
    → (has_ends f y ≡ true) × ((y.sender == gone) ≡ false) × ((y.receiver == gone) ≡ false)
ends-stood f gone y e =
    let p : (any_at y.sender (others_than gone f.ports) ≡ true) × (any_at y.receiver (others_than gone f.ports) ≡ true)
    = split (any_at y.sender (others_than gone f.ports)) (any_at y.receiver (others_than gone f.ports)) e in
    let a : (any_at y.sender f.ports ≡ true) × ((y.sender == gone) ≡ false) = any_others gone y.sender f.ports p.0 in
    let b : (any_at y.receiver f.ports ≡ true) × ((y.receiver == gone) ≡ false) = any_others gone y.receiver f.ports p.1 in
    (ap₂ (λ c d. c && d) a.0 b.0, a.1, b.1)

-- where split ends are still connected, all is as it was
stays-there : (s : State) (gone : ℕ) (y : Way) → AreAway s.fixed → any_at y.sender s.fixed.ports ≡ true → (y.sender == gone) ≡ false
    → (y.receiver == gone) ≡ false
    → stays s gone y ≡ true
stays-there s gone y away there from to =
    ap (λ (b : Bool). if b then false else
    (if y.sender == gone || has_number y.sender (s.fixed.expired y.receiver) then has_number y.sender (expired_after s gone y.receiver) else true)) to
    ∙ ap (λ (b : Bool). if b then has_number y.sender (expired_after s gone y.receiver) else true)
    (or-neither (y.sender == gone) (has_number y.sender (s.fixed.expired y.receiver)) from
    (false_if (has_number y.sender (s.fixed.expired y.receiver)) (λ e. never (any_at y.sender s.fixed.ports) there (away y.receiver y.sender e))))

gone-books : (s : State) (gone : ℕ) → Rests s.fixed → AreAway s.fixed → is_last_gone s.fixed gone ≡ true → Books s → Books (disconnected s gone)
gone-books s gone r away last b = record {
  hub = record { hub = (b.hub).hub; forgot = (b.hub).forgot; made = (b.hub).made };
  fresh = fresh;
  hand = λ y. either (λ (ks : List ℕ). ks ≡ []) (is_end gone y) [] (s.in_hand y) (λ u. refl) (λ u. b.hand y);
  idle = idle;
  counts = λ y ends k.
      let p : (has_ends s.fixed y ≡ true) × ((y.sender == gone) ≡ false) × ((y.receiver == gone) ≡ false) = ends-stood s.fixed gone y ends in
      same-out y (is k) p ∙ b.counts y p.0 k ∙ ap one_if (sym (ap (λ (c : Bool). if c then false else s.delivered y k) (no-end y p.1 p.2)));
  within = λ y ends.
      let p : (has_ends s.fixed y ≡ true) × ((y.sender == gone) ≡ false) × ((y.receiver == gone) ≡ false) = ends-stood s.fixed gone y ends in
      elim (b.within y p.0) as (λ z. (out any (disconnected s gone) y (had_in (disconnected s gone).fixed y) ≤ most_on (disconnected s gone).fixed y)
      ⊎ ((disconnected s gone).returned y ≡ [])) [
        | inl q ↦ inl (subst (λ m. out any (disconnected s gone) y (had_in (disconnected s gone).fixed y) ≤ m) (sym (most y p.1 p.2))
            (subst (λ n. n ≤ most_on s.fixed y) (sym (same-out y any p)) q))
        | inr q ↦ inr (ap (λ (c : Bool). if c then [] else s.returned y) (no-end y p.1 p.2) ∙ q)
      ];
}
  where
    no-end : (y : Way) → (y.sender == gone) ≡ false → (y.receiver == gone) ≡ false → is_end gone y ≡ false
    no-end y from to = or-neither (y.sender == gone) (y.receiver == gone) from to

    most : (y : Way) → (y.sender == gone) ≡ false → (y.receiver == gone) ≡ false → most_on (disconnected s gone).fixed y ≡ most_on s.fixed y
    most y from to =
        ap₂ (λ o q. buffer_of s.fixed.limits (option_map_or (λ (p : Port). p.role) o Client)
        + borrow_limit_of s.fixed.limits (other_role (option_map_or (λ (p : Port). p.role) q Client)))
        (first_others gone y.sender s.fixed.ports from) (first_others gone y.receiver s.fixed.ports to)

    same-out : (y : Way) (value : ℕ → Bool) → (has_ends s.fixed y ≡ true) × ((y.sender == gone) ≡ false) × ((y.receiver == gone) ≡ false)
        → out value (disconnected s gone) y (had_in (disconnected s gone).fixed y) ≡ out value s y (had_in s.fixed y)
    same-out y value p =
        sums (count value (serials_of ((disconnected s gone).waiting y))) (count value (had_in (disconnected s gone).fixed y))
        (count value ((disconnected s gone).returned y))
        (count value ((disconnected s gone).in_hand y)) (count value (serials_of (s.waiting y))) (count value (had_in s.fixed y))
        (count value (s.returned y)) (count value (s.in_hand y))
        (ap (λ (c : Bool). count value (serials_of (if c then s.waiting y else [])))
        (stays-there s gone y away (split (any_at y.sender s.fixed.ports) (any_at y.receiver s.fixed.ports) p.0).0 p.1 p.2))
        (ap (λ o. count value (held_on y (s.fixed.handles (option_map_or (λ (q : Port). q.node) o 0)) None)) (first_others gone y.receiver s.fixed.ports p.2))
        (ap (λ (c : Bool). count value (if c then [] else s.returned y)) (no-end y p.1 p.2))
        (ap (λ (c : Bool). count value (if c then [] else s.in_hand y)) (no-end y p.1 p.2))
      where
        sums : (a b c d e f g h : ℕ) → a ≡ e → b ≡ f → c ≡ g → d ≡ h → a + b + c + d ≡ e + f + g + h
        sums a b c d e f g h p q r t = omega arith

    fresh : (n : ℕ) (y : Way) (k : ℕ) → rights (disconnected s gone).fixed n y.sender k + one_if ((disconnected s gone).delivered y k) ≤ 1
    fresh n y k = by_cases (y.sender == gone)
        (λ goes. few (count (is k) (loaned_in (s.fixed.handles n) y.sender)) (one_if (nat_le (put_at s.fixed.loans gone 0 y.sender) k))
        (one_if ((disconnected s gone).delivered y k))
        (ap (count (is k)) (none-loaned y.sender (s.fixed.handles n) (λ h a.
        subst (λ q. (h.port == q) ≡ false) (sym (eqb-true y.sender gone goes)) (others_belong s.fixed gone n h last a ((r.handles n).each h a).of_port))))
        (at-most-one (nat_le (put_at s.fixed.loans gone 0 y.sender) k))
        (ap (λ (c : Bool). one_if (if c || (y.receiver == gone) then false else s.delivered y k)) goes))
        (λ other. weaken (is_end gone y) (s.delivered y k) (rights (disconnected s gone).fixed n y.sender k)
        (subst (λ l. count (is k) (loaned_in (s.fixed.handles n) y.sender) + one_if (nat_le l k) + one_if (s.delivered y k) ≤ 1)
        (sym (put_at-else s.fixed.loans gone 0 y.sender other)) (b.fresh n y k)))
      where
        few : (a b c : ℕ) → a ≡ 0 → b ≤ 1 → c ≡ 0 → a + b + c ≤ 1
        few a b c p q t = omega arith

        at-most-one : (c : Bool) → one_if c ≤ 1
        at-most-one true = omega arith
        at-most-one false = omega arith

        weaken : (c d : Bool) (a : ℕ) → a + one_if d ≤ 1 → a + one_if (if c then false else d) ≤ 1
        weaken true true a p = omega arith
        weaken true false a p = p
        weaken false d a p = p

    idle : (y : Way) → has_ends (disconnected s gone).fixed y ≡ false → IsIdle (disconnected s gone) y
    idle y off = by_cases (is_end gone y)
        (λ end. (ap (λ (c : Bool). if c then [] else s.returned y) end, λ k. ap (λ (c : Bool). if c then false else s.delivered y k) end))
        (λ no.
        let other : ((y.sender == gone) ≡ false) × ((y.receiver == gone) ≡ false) = or-false (y.sender == gone) (y.receiver == gone) no in
        let was : IsIdle s y = b.idle y (false_if (has_ends s.fixed y) (λ e.
        let p : (any_at y.sender s.fixed.ports ≡ true) × (any_at y.receiver s.fixed.ports ≡ true)
        = split (any_at y.sender s.fixed.ports) (any_at y.receiver s.fixed.ports) e in
        never (has_ends (disconnected s gone).fixed y)
        (ap₂ (λ c d. c && d) (any_stay gone y.sender s.fixed.ports other.0 p.0) (any_stay gone y.receiver s.fixed.ports other.1 p.1)) off)) in
        (ap (λ (c : Bool). if c then [] else s.returned y) no ∙ was.0, λ k. ap (λ (c : Bool). if c then false else s.delivered y k) no ∙ was.1 k))

pub released-books : (s : State) (port : ℕ) → Rests s.fixed → AreAway s.fixed → Books s → Books (released s port)
released-books s port r away b =
    either Books (is_last_gone s.fixed port) (disconnected s port) s (λ last. gone-books s port r away last b) (λ u. b)

pub are-away : (s : State) → Owned s → AreAway s.fixed
are-away s o r k e = ((o.has).away r k e).0

-- ---- a port is made

-- of a way that a new port opens nothing waits, and nothing is held
nothing-yet : (s : State) (p : Port) (y : Way) → p.number ≡ s.fixed.next_number → Calm s → has_ends s.fixed y ≡ false → has_ends (with_port s.fixed p) y ≡ true
    → (s.waiting y ≡ []) × ((n : ℕ) → held_on y (s.fixed.handles n) None ≡ [])
nothing-yet s p y is c off on = by_cases (any_at y.sender s.fixed.ports)
    (λ there.
    let none : any_at y.receiver s.fixed.ports ≡ false = sym (ap (λ b. b && any_at y.receiver s.fixed.ports) there) ∙ off in (
      none_there (s.waiting y) (λ m among. never (any_at y.receiver s.fixed.ports) ((c.owned).waits y m among).there none),
      λ n. none-had y (s.fixed.handles n) (λ h among. false_if (has_received y h) (λ has.
          never (any_at y.receiver s.fixed.ports)
          (subst (λ k. any_at k s.fixed.ports ≡ true) (received y h has).1 (((((c.rests).fixed).handles n).each h among).of_port).0) none)),
    ))
    (λ none.
    let new : y.sender ≡ s.fixed.next_number
    = sym (at_last y.sender s.fixed.ports p (split (any_at y.sender (s.fixed.ports ++ p ∷ [])) (any_at y.receiver (s.fixed.ports ++ p ∷ [])) on).0 none) ∙ is in
    let later : nat_lt y.sender s.fixed.next_number ≡ false = same-not-less y.sender s.fixed.next_number new in (
      (c.rests).unused y later,
      λ n. none-had y (s.fixed.handles n) (λ h among. false_if (has_received y h) (λ has.
          let q : (is_received h.kind ≡ true) × (h.port ≡ y.receiver) × (way_of h ≡ y) = received y h has in
          never (nat_lt y.sender s.fixed.next_number)
          (subst (λ (w : Way). nat_lt w.sender s.fixed.next_number ≡ true) q.2 (((c.owned).has).known n h among q.0)) later)),
    ))
  where
    received : (y : Way) (h : Handle) → has_received y h ≡ true → (is_received h.kind ≡ true) × (h.port ≡ y.receiver) × (way_of h ≡ y)
    received y h has =
        let q : (is_received h.kind ≡ true) × (((h.port == y.receiver) && same_way (way_of h) y) ≡ true)
        = split (is_received h.kind) ((h.port == y.receiver) && same_way (way_of h) y) has in
        let t : ((h.port == y.receiver) ≡ true) × (same_way (way_of h) y ≡ true) = split (h.port == y.receiver) (same_way (way_of h) y) q.1 in
        (q.0, eqb-true h.port y.receiver t.0, same_way-true (way_of h) y t.1)

pub made-books : (s : State) (p : Port) → p.number ≡ s.fixed.next_number → Calm s → Books s → Books (with_fixed s (with_port s.fixed p))
made-books s p new c b = record {
  hub = record { hub = (b.hub).hub; forgot = (b.hub).forgot; made = (b.hub).made };
  fresh = b.fresh;
  hand = b.hand;
  idle = λ y off. b.idle y (false_if (has_ends s.fixed y) (λ e. never (has_ends (with_port s.fixed p) y) (still y e) off));
  counts = λ y ends k. by_cases (has_ends s.fixed y)
      (λ was. ap (λ ks. out (is k) s y ks) (had y was) ∙ b.counts y was k)
      (λ off. nothing y (is k) off ends ∙ ap one_if (sym ((b.idle y off).1 k)));
  within = λ y ends. by_cases (has_ends s.fixed y)
      (λ was. elim (b.within y was) as (λ z. (out any s y (had_in f y) ≤ most_on f y) ⊎ (s.returned y ≡ [])) [
        | inl q ↦ inl (subst (λ ks. out any s y ks ≤ most_on f y) (sym (had y was)) (subst (λ m. out any s y (had_in s.fixed y) ≤ m) (sym (most y was)) q))
        | inr q ↦ inr q
      ])
      (λ off. inr (b.idle y off).0);
}
  where
    f : Fixed
    f = with_port s.fixed p

    still : (y : Way) → has_ends s.fixed y ≡ true → has_ends f y ≡ true
    still y e =
        let q : (any_at y.sender s.fixed.ports ≡ true) × (any_at y.receiver s.fixed.ports ≡ true)
        = split (any_at y.sender s.fixed.ports) (any_at y.receiver s.fixed.ports) e in
        ap₂ (λ c d. c && d) (at_more y.sender s.fixed.ports p q.0) (at_more y.receiver s.fixed.ports p q.1)

    had : (y : Way) → has_ends s.fixed y ≡ true → had_in f y ≡ had_in s.fixed y
    had y e =
        ap (λ o. held_on y (s.fixed.handles (option_map_or (λ (q : Port). q.node) o 0)) None)
        (first_more y.receiver s.fixed.ports p (split (any_at y.sender s.fixed.ports) (any_at y.receiver s.fixed.ports) e).1)

    most : (y : Way) → has_ends s.fixed y ≡ true → most_on f y ≡ most_on s.fixed y
    most y e =
        let q : (any_at y.sender s.fixed.ports ≡ true) × (any_at y.receiver s.fixed.ports ≡ true)
        = split (any_at y.sender s.fixed.ports) (any_at y.receiver s.fixed.ports) e in
        ap₂ (λ o t. buffer_of s.fixed.limits (option_map_or (λ (p : Port). p.role) o Client)
        + borrow_limit_of s.fixed.limits (other_role (option_map_or (λ (p : Port). p.role) t Client)))
        (first_more y.sender s.fixed.ports p q.0) (first_more y.receiver s.fixed.ports p q.1)

    nothing : (y : Way) (value : ℕ → Bool) → has_ends s.fixed y ≡ false → has_ends f y ≡ true → out value s y (had_in f y) ≡ 0
    nothing y value off on =
        let q : (s.waiting y ≡ []) × ((n : ℕ) → held_on y (s.fixed.handles n) None ≡ []) = nothing-yet s p y new c off on in
        sums (count value (serials_of (s.waiting y))) (count value (had_in f y)) (count value (s.returned y)) (count value (s.in_hand y))
        (ap (λ (ms : List Message). count value (serials_of ms)) q.0) (ap (count value) (q.1 (node_in f.ports y.receiver)))
        (ap (count value) (b.idle y off).0) (ap (count value) (b.hand y))
      where
        sums : (a b c d : ℕ) → a ≡ 0 → b ≡ 0 → c ≡ 0 → d ≡ 0 → a + b + c + d ≡ 0
        sums a b c d e g h i = omega arith
