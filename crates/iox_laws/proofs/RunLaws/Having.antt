-- How what handles hold changes as one is made, filled, received or released.
use Rattle.std.specs.Prelude.{◌≡◌, ℕ, ◌+◌, ◌-◌, ◌≤◌, Bool, true, false, not, if◌then◌else◌, ◌==◌, nat_lt, nat_le, List, [], ◌∷◌, ◌++◌, ◌⊎◌, refl}
use Rattle.std.proofs.Common.{sym, subst, ap, ◌∙◌, true≢false, eqb-true, eq-eqb, arith, inl, inr}
use Rattle.iox_model.specs.declared.way.Way.{Way}
use Rattle.iox_model.specs.Counts.{is_same_handle, without_handle, with_handle, received_handle}
use Rattle.iox_model.specs.Doings.{Receiver}
use Rattle.iox_model.specs.Handles.{is_received, way_of}
use Rattle.iox_laws.specs.WeaveLaws.Ledgers.{has_received}
use Rattle.iox_model.specs.Maps.{put, put_at, same_way}
use Rattle.iox_model.specs.Messages.{Message}
use Rattle.iox_model.specs.Settings.{is_client, Limits}
use Rattle.iox_model.specs.States.{Port, Handle, Fixed}
use Rattle.iox_laws.proofs.WeaveLaws.MapLemmas.{either, same_way-true}
use Rattle.iox_laws.proofs.WeaveLedger.ReceivedHandles.{received-itself, no_received, received-elsewhere, receipt-way}
use Rattle.iox_laws.proofs.WeaveLedger.Orders.{at-most, same-le, less-le}
use Rattle.iox_laws.proofs.WeaveLedger.Counts.{count-gone, count-swap, count, one_if, count-last, count-less, one-at-most}
use Rattle.iox_laws.proofs.WeaveLedger.Truths.{never, by_cases}
use Rattle.iox_laws.proofs.WeaveLedger.Lists.{IsAmong, among-last, filter-among}
use Rattle.iox_laws.proofs.WeaveLedger.Views.{way_of-receiver, node_in}
use Rattle.iox_laws.proofs.RunLaws.Ports.{any_at}
use Rattle.iox_laws.proofs.RunLaws.Holding.{is_lost}
use Rattle.iox_laws.proofs.RunLaws.Beginning.{KeptHandle}
use Rattle.iox_laws.proofs.RunLaws.Owning.{limit_in, had_in, Holdings}

-- ---- counts

-- ---- a change that gives no receiver more

-- the handles of one node change
put_count : (test : Handle → Bool) (handles : ℕ → List Handle) (n : ℕ) (hs : List Handle) (k : ℕ) → count test hs ≤ count test (handles n)
    → count test (put_at handles n hs k) ≤ count test (handles k)
put_count test handles n hs k less =
    either (λ (xs : List Handle). count test xs ≤ count test (handles k)) (k == n) hs (handles k)
    (λ is. subst (λ j. count test hs ≤ count test (handles j)) (sym (eqb-true k n is)) less)
    (λ u. same-le (count test (handles k)) (count test (handles k)) refl)

put_each : (P : Handle → Type 0) (handles : ℕ → List Handle) (n : ℕ) (hs : List Handle) → ((k : ℕ) (h : Handle) → IsAmong h (handles k) → P h)
    → ((h : Handle) → IsAmong h hs → P h) → (k : ℕ) (h : Handle) → IsAmong h (put_at handles n hs k) → P h
put_each P handles n hs all here k h =
    either (λ (xs : List Handle). IsAmong h xs → P h) (k == n) hs (handles k) (λ u among. here h among) (λ u among. all k h among)

-- what may stand there: kept, and known if it was received
abbrev pub Stands : List Port → ℕ → Handle → Type 0
Stands ps next h = KeptHandle ps h × (is_received h.kind ≡ true → nat_lt (way_of h).sender next ≡ true)

pub changes_few : (l : Limits) (ps : List Port) (next : ℕ) (handles : ℕ → List Handle) (borrowed : Way → ℕ) (expired : ℕ → List ℕ) (n : ℕ) (hs : List Handle)
    → Holdings l ps next handles borrowed expired → ((h : Handle) → IsAmong h hs → Stands ps next h)
    → ((y : Way) → count (has_received y) hs ≤ count (has_received y) (handles n)) → Holdings l ps next (put_at handles n hs) borrowed expired
changes_few l ps next handles borrowed expired n hs p each less = record {
  kept = put_each (KeptHandle ps) handles n hs p.kept (λ h among. (each h among).0);
  known = put_each (λ h. is_received h.kind ≡ true → nat_lt (way_of h).sender next ≡ true) handles n hs p.known (λ h among. (each h among).1);
  away = p.away;
  within = p.within;
  nobody = p.nobody;
  counts = λ y kept. at-most (had_in ps (put_at handles n hs) y) (had_in ps handles y) (borrowed y)
      (put_count (has_received y) handles n hs (node_in ps y.receiver) (less y)) (p.counts y kept);
  few = λ y. at-most (had_in ps (put_at handles n hs) y) (had_in ps handles y) (limit_in l ps y)
      (put_count (has_received y) handles n hs (node_in ps y.receiver) (less y)) (p.few y);
}

pub stood : (l : Limits) (ps : List Port) (next : ℕ) (handles : ℕ → List Handle) (borrowed : Way → ℕ) (expired : ℕ → List ℕ)
    → Holdings l ps next handles borrowed expired
    → (n : ℕ) (h : Handle) → IsAmong h (handles n) → Stands ps next h
stood l ps next handles borrowed expired p n h among = (p.kept n h among, p.known n h among)

-- a handle that received nothing comes
pub adds_few : (l : Limits) (ps : List Port) (next : ℕ) (handles : ℕ → List Handle) (borrowed : Way → ℕ) (expired : ℕ → List ℕ) (h : Handle)
    → Holdings l ps next handles borrowed expired → KeptHandle ps h → is_received h.kind ≡ false
    → Holdings l ps next (put_at handles h.node (handles h.node ++ h ∷ [])) borrowed expired
adds_few l ps next handles borrowed expired h p kept own =
    changes_few l ps next handles borrowed expired h.node (handles h.node ++ h ∷ []) p
    (λ k among. elim (among-last k h (handles h.node) among) as (λ u. Stands ps next k) [
      | inl q ↦ stood l ps next handles borrowed expired p h.node k q
      | inr e ↦ subst (Stands ps next) (sym e) (kept, λ received. never (is_received h.kind) received own)
    ])
    (λ y. none (count (has_received y) (handles h.node ++ h ∷ [])) (count (has_received y) (handles h.node)) (one_if (has_received y h))
    (count-last (has_received y) (handles h.node) h) (ap one_if (no_received y h own)))
  where
    none : (a b c : ℕ) → a ≡ b + c → c ≡ 0 → a ≤ b
    none a b c e f = omega arith

with_among : (h k : Handle) (hs : List Handle) → IsAmong k (with_handle h hs) → IsAmong k hs ⊎ (k ≡ h)
with_among h k [] p = absurd p
with_among h k (x ∷ xs) p =
    either (λ (ys : List Handle). IsAmong k ys → IsAmong k (x ∷ xs) ⊎ (k ≡ h)) (is_same_handle h x) (h ∷ xs) (x ∷ with_handle h xs)
    (λ same q. elim q as (λ u. IsAmong k (x ∷ xs) ⊎ (k ≡ h)) [ inl e ↦ inr e | inr r ↦ inl (inr r) ])
    (λ other q. elim q as (λ u. IsAmong k (x ∷ xs) ⊎ (k ≡ h)) [
      | inl e ↦ inl (inl e)
      | inr r ↦ elim (with_among h k xs r) as (λ u. IsAmong k (x ∷ xs) ⊎ (k ≡ h)) [ inl a ↦ inl (inr a) | inr e ↦ inr e ]
    ]) p

-- one that received nothing takes the place of another
pub swaps_few : (l : Limits) (ps : List Port) (next : ℕ) (handles : ℕ → List Handle) (borrowed : Way → ℕ) (expired : ℕ → List ℕ) (h : Handle)
    → Holdings l ps next handles borrowed expired → KeptHandle ps h → is_received h.kind ≡ false
    → Holdings l ps next (put_at handles h.node (with_handle h (handles h.node))) borrowed expired
swaps_few l ps next handles borrowed expired h p kept own =
    changes_few l ps next handles borrowed expired h.node (with_handle h (handles h.node)) p
    (λ k among. elim (with_among h k (handles h.node) among) as (λ u. Stands ps next k) [
      | inl q ↦ stood l ps next handles borrowed expired p h.node k q
      | inr e ↦ subst (Stands ps next) (sym e) (kept, λ received. never (is_received h.kind) received own)
    ])
    (λ y. count-swap (has_received y) h (handles h.node) (no_received y h own))

-- a handle goes
pub drops_few : (l : Limits) (ps : List Port) (next : ℕ) (handles : ℕ → List Handle) (borrowed : Way → ℕ) (expired : ℕ → List ℕ) (h : Handle)
    → Holdings l ps next handles borrowed expired → Holdings l ps next (put_at handles h.node (without_handle h (handles h.node))) borrowed expired
drops_few l ps next handles borrowed expired h p =
    changes_few l ps next handles borrowed expired h.node (without_handle h (handles h.node)) p
    (λ k among. stood l ps next handles borrowed expired p h.node k (filter-among (λ j. not (is_same_handle h j)) k (handles h.node) among).0)
    (λ y. count-less (has_received y) h (handles h.node))

-- ---- a received one goes, and is counted no more

pub gives_few : (l : Limits) (ps : List Port) (next : ℕ) (handles : ℕ → List Handle) (borrowed : Way → ℕ) (expired : ℕ → List ℕ) (h : Handle)
    → Holdings l ps next handles borrowed expired → IsAmong h (handles h.node) → node_in ps h.port ≡ h.node → is_received h.kind ≡ true
    → Holdings l ps next (put_at handles h.node (without_handle h (handles h.node))) (put borrowed (way_of h) (borrowed (way_of h) - 1)) expired
gives_few l ps next handles borrowed expired h p among at received =
    let w : Way = way_of h in
    let after : ℕ → List Handle = put_at handles h.node (without_handle h (handles h.node)) in
    let q : Holdings l ps next after borrowed expired = drops_few l ps next handles borrowed expired h p in
    record {
      kept = q.kept;
      known = q.known;
      away = q.away;
      within = λ y. either (λ b. b ≤ limit_in l ps y) (same_way y w) (borrowed w - 1) (borrowed y)
          (λ same. subst (λ u. borrowed w - 1 ≤ limit_in l ps u) (sym (same_way-true y w same))
          (one_less (borrowed w) (limit_in l ps w) (p.within w))) (λ u. p.within y);
      nobody = λ y none. either (λ b. b ≡ 0) (same_way y w) (borrowed w - 1) (borrowed y)
          (λ same. still_none (borrowed w) (ap borrowed (sym (same_way-true y w same)) ∙ p.nobody y none)) (λ u. p.nobody y none);
      counts = λ y kept. either (λ b. had_in ps after y ≤ b) (same_way y w) (borrowed w - 1) (borrowed y)
          (λ same. subst (λ u. had_in ps after u ≤ borrowed w - 1) (sym (same_way-true y w same))
          (here after w (subst (λ u. is_lost ps expired u ≡ false) (same_way-true y w same) kept) refl refl))
          (λ u. q.counts y kept);
      few = q.few;
    }
  where
    one_less : (a b : ℕ) → a ≤ b → a - 1 ≤ b
    one_less a b e = omega arith

    still_none : (a : ℕ) → a ≡ 0 → a - 1 ≡ 0
    still_none a e = omega arith

    fewer : (a b c : ℕ) → a + 1 ≤ b → b ≤ c → a ≤ c - 1
    fewer a b c e f = omega arith

    at_node : (k : ℕ) → k ≡ h.node → put_at handles h.node (without_handle h (handles h.node)) k ≡ without_handle h (handles h.node)
    at_node k e = ap (λ (b : Bool). if b then without_handle h (handles h.node) else handles k) (eq-eqb k h.node e)

    here : (after : ℕ → List Handle) (w : Way) → is_lost ps expired w ≡ false → w ≡ way_of h → after ≡ put_at handles h.node (without_handle h (handles h.node))
        → had_in ps after w ≤ borrowed w - 1
    here after w kept is same =
        let node : node_in ps w.receiver ≡ h.node = ap (λ (v : Way). node_in ps v.receiver) is ∙ ap (node_in ps) (way_of-receiver h) ∙ at in
        fewer (had_in ps after w) (had_in ps handles w) (borrowed w)
        (subst (λ (hs : List Handle). count (has_received w) hs + 1 ≤ had_in ps handles w)
        (sym (ap (λ (g : ℕ → List Handle). g (node_in ps w.receiver)) same ∙ at_node (node_in ps w.receiver) node))
        (subst (λ k. count (has_received w) (without_handle h (handles h.node)) + 1 ≤ count (has_received w) (handles k)) (sym node)
        (count-gone (has_received w) h (handles h.node) among (subst (λ u. has_received u h ≡ true) (sym is) (received-itself h received)))))
        (p.counts w kept)

-- ---- one is received

pub taken_way : (f : Fixed) (node : ℕ) (x : Receiver) (w : Way) (m : Message) → w.receiver ≡ x.port → w.lane ≡ x.lane → m.sender ≡ w.sender
    → (is_client x.role ≡ true → m.lane ≡ w.lane) → (is_client x.role ≡ false → x.lane ≡ 0) → way_of (received_handle f node x m) ≡ w
taken_way f node x w m to on from client server = receipt-way x w m to from client (λ e. on ∙ server e)

pub takes_few : (l : Limits) (ps : List Port) (next : ℕ) (handles : ℕ → List Handle) (borrowed : Way → ℕ) (expired : ℕ → List ℕ) (h : Handle) (w : Way)
    → Holdings l ps next handles borrowed expired → KeptHandle ps h → way_of h ≡ w → borrowed w + 1 ≤ limit_in l ps w → is_lost ps expired w ≡ false
    → nat_lt w.sender next ≡ true → any_at w.receiver ps ≡ true
    → Holdings l ps next (put_at handles h.node (handles h.node ++ h ∷ [])) (put borrowed w (borrowed w + 1)) expired
takes_few l ps next handles borrowed expired h w p kept is below there_still was there = record {
  kept = put_each (KeptHandle ps) handles h.node (handles h.node ++ h ∷ []) p.kept
      (λ k among. elim (among-last k h (handles h.node) among)
      as (λ u. KeptHandle ps k) [ inl q ↦ p.kept h.node k q | inr e ↦ subst (KeptHandle ps) (sym e) kept ]);
  known = put_each (λ k. is_received k.kind ≡ true → nat_lt (way_of k).sender next ≡ true) handles h.node (handles h.node ++ h ∷ []) p.known
      (λ k among. elim (among-last k h (handles h.node) among) as (λ u. is_received k.kind ≡ true → nat_lt (way_of k).sender next ≡ true) [
        | inl q ↦ p.known h.node k q
        | inr e ↦ λ u. subst (λ (j : Handle). nat_lt (way_of j).sender next ≡ true) (sym e) (subst (λ (v : Way). nat_lt v.sender next ≡ true) (sym is) was)
      ]);
  away = p.away;
  within = λ y. either (λ b. b ≤ limit_in l ps y) (same_way y w) (borrowed w + 1) (borrowed y)
      (λ same. subst (λ u. borrowed w + 1 ≤ limit_in l ps u) (sym (same_way-true y w same)) below) (λ u. p.within y);
  nobody = λ y none. either (λ b. b ≡ 0) (same_way y w) (borrowed w + 1) (borrowed y)
      (λ same. absurd (true≢false (sym there ∙ ap (λ (v : Way). any_at v.receiver ps) (sym (same_way-true y w same)) ∙ none))) (λ u. p.nobody y none);
  counts = λ y stays. either (λ b. had_in ps (put_at handles h.node (handles h.node ++ h ∷ [])) y ≤ b) (same_way y w) (borrowed w + 1) (borrowed y)
      (λ same. subst (λ u. had_in ps (put_at handles h.node (handles h.node ++ h ∷ [])) u ≤ borrowed w + 1) (sym (same_way-true y w same))
      (more_here w (borrowed w) (p.counts w there_still)))
      (λ other. at-most (had_in ps (put_at handles h.node (handles h.node ++ h ∷ [])) y) (had_in ps handles y) (borrowed y) (as_many y other)
      (p.counts y stays));
  few = λ y. by_cases (same_way y w)
      (λ same. subst (λ u. had_in ps (put_at handles h.node (handles h.node ++ h ∷ [])) u ≤ limit_in l ps u) (sym (same_way-true y w same))
      (at-most (had_in ps (put_at handles h.node (handles h.node ++ h ∷ [])) w) (borrowed w + 1) (limit_in l ps w)
      (more_here w (borrowed w) (p.counts w there_still)) below))
      (λ other. at-most (had_in ps (put_at handles h.node (handles h.node ++ h ∷ [])) y) (had_in ps handles y) (limit_in l ps y) (as_many y other) (p.few y));
}
  where
    more : (a b c d : ℕ) → a ≡ b + c → c ≤ 1 → b ≤ d → a ≤ d + 1
    more a b c d e f g = omega arith

    grows : (a b : ℕ) → a ≤ b → a ≤ b + 1
    grows a b e = omega arith

    as_few : (a b c : ℕ) → a ≡ b + c → c ≡ 0 → a ≤ b
    as_few a b c e f = omega arith

    -- on its own way there is one more at most
    more_here : (y : Way) (b : ℕ) → had_in ps handles y ≤ b → had_in ps (put_at handles h.node (handles h.node ++ h ∷ [])) y ≤ b + 1
    more_here y b less =
        either (λ (xs : List Handle). count (has_received y) xs ≤ b + 1) (node_in ps y.receiver == h.node) (handles h.node ++ h ∷ [])
        (handles (node_in ps y.receiver))
        (λ same. more (count (has_received y) (handles h.node ++ h ∷ [])) (count (has_received y) (handles h.node)) (one_if (has_received y h)) b
        (count-last (has_received y) (handles h.node) h) (one-at-most (has_received y h))
        (subst (λ k. count (has_received y) (handles k) ≤ b) (eqb-true (node_in ps y.receiver) h.node same) less))
        (λ u. grows (had_in ps handles y) b less)

    as_many : (y : Way) → same_way y w ≡ false → had_in ps (put_at handles h.node (handles h.node ++ h ∷ [])) y ≤ had_in ps handles y
    as_many y other =
        put_count (has_received y) handles h.node (handles h.node ++ h ∷ []) (node_in ps y.receiver)
        (as_few (count (has_received y) (handles h.node ++ h ∷ [])) (count (has_received y) (handles h.node)) (one_if (has_received y h))
        (count-last (has_received y) (handles h.node) h) (ap one_if (received-elsewhere y h (ap (same_way y) is ∙ other))))

-- ---- numbers grow

pub more_numbers : (l : Limits) (ps : List Port) (next later : ℕ) (handles : ℕ → List Handle) (borrowed : Way → ℕ) (expired : ℕ → List ℕ)
    → nat_le next later ≡ true → Holdings l ps next handles borrowed expired → Holdings l ps later handles borrowed expired
more_numbers l ps next later handles borrowed expired more p = record {
  kept = p.kept;
  known = λ n h among received. less-le (way_of h).sender next later more (p.known n h among received);
  away = λ r n among. ((p.away r n among).0, less-le n next later more (p.away r n among).1);
  within = p.within;
  nobody = p.nobody;
  counts = p.counts;
  few = p.few;
}
