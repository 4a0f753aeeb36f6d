-- A plan and its terms fit a service where no refusal is told of that, and where a wire may open. Then none is told.
use Rattle.std.specs.Prelude.{nat_lt, not, ◌||◌, IsSomeAnd, slice_get, slice_index, filter}
use Rattle.std.specs.List.{All, list_any}
use Rattle.std.proofs.Common.{◌≡◌, ℕ, zero, suc, ◌<◌, ◌≤◌, ◌==◌, Bool, true, false, List, [], ◌∷◌, length, map, take, Option, Some, None, refl, ap, sym, subst, ◌∙◌, arith, true≢false, eqb-true, eq-eqb}
use Rattle.std.proofs.lemmas.Bool.{le-ltb, ltb-false}
use Rattle.std.proofs.lemmas.List.{length-map}
use Rattle.std.proofs.lemmas.List.Elements.{All-cons, All-head, All-nil, All-tail, All-weaker}
use Rattle.std.proofs.lemmas.List.Folds.{list_any_none}
use Rattle.iox_laws.proofs.ServiceLaws.Listings.{ports_ascend}
use Rattle.iox_laws.proofs.WeaveLaws.WholeLemmas.{or_else-none}
use Rattle.iox_laws.proofs.WeavePools.Limited.{reached_within, role-count}
use Rattle.iox_laws.specs.ServiceLaws.Listings.{are_ascending}
use Rattle.iox_model.specs.Maps.{has_number, or_else, refused_if}
use Rattle.iox_model.specs.Settings.{Limits, is_count, max_slots, same_role, shape_of}
use Rattle.iox_model.specs.States.{Port, State}
use Rattle.iox_model.specs.declared.kind.Role.{Role}
use Rattle.iox_model.specs.declared.kind.Role.TheVariants.{Client, Server}
use Rattle.iox_wire_weaves.specs.Tables.{Setting, port_shape}
use Rattle.iox_wire_weaves.specs.PlanPort.{PlanPort}
use Rattle.iox_wire_weaves.specs.WirePlan.{WirePlan}
use Rattle.iox_wire_weaves.specs.Plans.{number_at, numbers_of, port_numbers}
use Rattle.iox_wire_weaves.specs.PlansOf.{AreAsPlanned, IsAsPlanned}
use Rattle.iox_wire_weaves.proofs.Planned.{same_names, same_numbers}
use Rattle.iox_wire_weaves.specs.Terms.{IsPortWith, messages_of}
use Rattle.iox_wire_weaves.specs.WireTerms.{WireTerms}
use Rattle.iox_wire_weaves.specs.Wires.{WireOpensOn}
use Rattle.iox_wire.specs.NewRefusals.{FitsService, has_large_pool, has_limit_of_zero, has_too_many_clients, has_unsuitable_length, is_out_of_order, lends_none, service_refusal, told_limits}
use Rattle.iox_wire.specs.declared.new_error.WireNewError.{WireNewError}
use Rattle.iox_wire.specs.declared.new_error.WireNewError.TheVariants.{LimitOfZero, PoolTooLarge, PortsOutOfOrder, TooManyClients, UnsuitableLength}
use Rattle.iox_wire.proofs.ServiceStates.{IsMade, IsPositive, neither, passed, reached_is_positive}

-- ---- where no refusal is told

pub all_if : {A : Type 0} (P : A → Type 0) (test : A → Bool) → ((x : A) → test x ≡ false → P x) → (xs : List A) → list_any test xs ≡ false → All P xs
all_if P test holds [] none = All-nil P
all_if P test holds (x ∷ xs) none =
    let both = neither (test x) (list_any test xs) none in All-cons P x xs (holds x both.0) (all_if P test holds xs both.1)

some_if : (n : ℕ) → (n == 0) ≡ false → 1 ≤ n
some_if zero is = absurd (true≢false is)
some_if (suc n) is = omega arith

some_of : {A : Type 0} (f : A → ℕ) (xs : List A) → list_any (λ x. f x == 0) xs ≡ false → All (λ x. 1 ≤ f x) xs
some_of f xs none = all_if (λ x. 1 ≤ f x) (λ x. f x == 0) (λ x. some_if (f x)) xs none

pub not_false : (b : Bool) → not b ≡ false → b ≡ true
not_false true is = refl
not_false false is = absurd (true≢false is)

one_if : (many : Bool) (k : ℕ) → not (many || (k == 1)) ≡ false → many ≡ false → k ≡ 1
one_if true k is single = absurd (true≢false single)
one_if false k is single = eqb-true k 1 (not_false (k == 1) is)

pub fits_if : (plan : WirePlan) (terms : WireTerms) → service_refusal plan terms ≡ None → FitsService plan terms
fits_if plan terms none = record {
  limits = all_if (λ n. 1 ≤ n) (λ k. k == 0) some_if (told_limits plan terms) zeros.0;
  loans = some_of (λ r. r.loaned_responses) (take (length plan.ports.items) terms.ports.items) zeros.1;
  order = not_false (are_ascending (port_numbers plan)) (passed (is_out_of_order plan) PortsOutOfOrder second.0);
  clients = ltb-false terms.clients (length (numbers_of plan Client)) (passed (has_too_many_clients plan terms) TooManyClients third.0);
  pools = all_if (λ (q : PlanPort). q.pool ≤ max_slots) (λ (q : PlanPort). nat_lt max_slots q.pool) (λ q. ltb-false max_slots q.pool) plan.ports.items
      (passed (has_large_pool plan) PoolTooLarge fourth.0);
  lengths = all_if (λ (q : PlanPort). (messages_of terms q.role).many ≡ false → q.longest ≡ 1)
      (λ (q : PlanPort). not ((messages_of terms q.role).many || (q.longest == 1))) (λ q. one_if (messages_of terms q.role).many q.longest) plan.ports.items
      (passed (has_unsuitable_length plan terms) UnsuitableLength fourth.1);
}
  where
    a : Option WireNewError
    a = refused_if (has_limit_of_zero plan terms) LimitOfZero

    b : Option WireNewError
    b = refused_if (is_out_of_order plan) PortsOutOfOrder

    c : Option WireNewError
    c = refused_if (has_too_many_clients plan terms) TooManyClients

    d : Option WireNewError
    d = refused_if (has_large_pool plan) PoolTooLarge

    e : Option WireNewError
    e = refused_if (has_unsuitable_length plan terms) UnsuitableLength

    first : (a ≡ None) × (or_else b (or_else c (or_else d e)) ≡ None)
    first = or_else-none a (or_else b (or_else c (or_else d e))) none

    second : (b ≡ None) × (or_else c (or_else d e) ≡ None)
    second = or_else-none b (or_else c (or_else d e)) first.1

    third : (c ≡ None) × (or_else d e ≡ None)
    third = or_else-none c (or_else d e) second.1

    fourth : (d ≡ None) × (e ≡ None)
    fourth = or_else-none d e third.1

    zeros : (has_number 0 (told_limits plan terms) ≡ false) × (lends_none plan terms ≡ false)
    zeros = neither (has_number 0 (told_limits plan terms)) (lends_none plan terms) (passed (has_limit_of_zero plan terms) LimitOfZero first.0)

-- ---- then no refusal is told

not_zero : (n : ℕ) → 1 ≤ n → (n == 0) ≡ false
not_zero n some = by_case (n == 0) refl
  where
    by_case : (b : Bool) → (n == 0) ≡ b → (n == 0) ≡ false
    by_case true is = absurd (let no : ⊥ = omega (arith, some, eqb-true n 0 is) in no)
    by_case false is = is

no_zero : {A : Type 0} (f : A → ℕ) (xs : List A) → All (λ x. 1 ≤ f x) xs → list_any (λ x. f x == 0) xs ≡ false
no_zero f xs all = list_any_none (λ x. f x == 0) xs (All-weaker (λ x. 1 ≤ f x) (λ x. (f x == 0) ≡ false) (λ x. not_zero (f x)) xs all)

pub both_false : (a b : Bool) → a ≡ false → b ≡ false → (a || b) ≡ false
both_false false false is other = refl
both_false false true is other = absurd (true≢false other)
both_false true b is other = absurd (true≢false is)

one_fits : (many : Bool) (k : ℕ) → (many ≡ false → k ≡ 1) → not (many || (k == 1)) ≡ false
one_fits true k one = refl
one_fits false k one = ap not (eq-eqb k 1 (one refl))

none_of : {A : Type 0} (a b : Bool) (x : A) (rest : Option A) → a ≡ false → rest ≡ None → or_else (refused_if a x) rest ≡ None
none_of false b x rest is none = none
none_of true b x rest is none = absurd (true≢false is)

last_of : {A : Type 0} (a : Bool) (x : A) → a ≡ false → refused_if a x ≡ None
last_of false x is = refl
last_of true x is = absurd (true≢false is)

pub none_if_fits : (plan : WirePlan) (terms : WireTerms) → FitsService plan terms → service_refusal plan terms ≡ None
none_if_fits plan terms fits =
    none_of (has_limit_of_zero plan terms) true LimitOfZero _
    (both_false (has_number 0 (told_limits plan terms)) (lends_none plan terms) (no_zero (λ k. k) (told_limits plan terms) fits.limits)
    (no_zero (λ r. r.loaned_responses) (take (length plan.ports.items) terms.ports.items) fits.loans))
    (none_of (is_out_of_order plan) true PortsOutOfOrder _ (ap not fits.order)
    (none_of (has_too_many_clients plan terms) true TooManyClients _ (le-ltb terms.clients (length (numbers_of plan Client)) fits.clients)
    (none_of (has_large_pool plan) true PoolTooLarge _
    (list_any_none (λ (q : PlanPort). nat_lt max_slots q.pool) plan.ports.items
    (All-weaker (λ (q : PlanPort). q.pool ≤ max_slots) (λ (q : PlanPort). nat_lt max_slots q.pool ≡ false) (λ q. le-ltb max_slots q.pool) plan.ports.items fits.pools))
    (last_of (has_unsuitable_length plan terms) UnsuitableLength
    (list_any_none (λ (q : PlanPort). not ((messages_of terms q.role).many || (q.longest == 1))) plan.ports.items
    (All-weaker (λ (q : PlanPort). (messages_of terms q.role).many ≡ false → q.longest ≡ 1)
    (λ (q : PlanPort). not ((messages_of terms q.role).many || (q.longest == 1)) ≡ false) (λ q. one_fits (messages_of terms q.role).many q.longest) plan.ports.items
    fits.lengths))))))

-- ---- where a wire may open

-- what is so of each port of a state is so of each planned one
planned : (P : Port → Type 0) (Q : PlanPort → Type 0) → ((q : PlanPort) (r : Port) → IsAsPlanned q r → P r → Q q)
    → (qs : List PlanPort) (rs : List Port) → AreAsPlanned qs rs → All P rs → All Q qs
planned P Q leads [] [] like each = All-nil Q
planned P Q leads [] (r ∷ rs) like each = absurd like
planned P Q leads (q ∷ qs) [] like each = absurd like
planned P Q leads (q ∷ qs) (r ∷ rs) like each =
    All-cons Q q qs (leads q r like.0 (All-head P r rs each)) (planned P Q leads qs rs like.1 (All-tail P r rs each))

at_place : (P : Port → Type 0) (f : ℕ → Port) (ns : List ℕ) → All P (map f ns) → (i : ℕ) → i < length ns → P (f (slice_index ns i))
at_place P f [] each i low = absurd (let no : ⊥ = omega (arith, low) in no)
at_place P f (n ∷ ns) each zero low = All-head P (f n) (map f ns) each
at_place P f (n ∷ ns) each (suc i) low = at_place P f ns (All-tail P (f n) (map f ns) each) i (omega (arith, low))

some_and : {X : Type 0} (P Q : X → Type 0) (o : Option X) → ((x : X) → P x → Q x) → IsSomeAnd o P → IsSomeAnd o Q
some_and P Q None leads has = absurd has
some_and P Q (Some x) leads has = leads x has

first_told : {A : Type 0} (f : A → ℕ) (n : ℕ) (rs : List A) → ((i : ℕ) → i < n → IsSomeAnd (slice_get rs i) (λ r. 1 ≤ f r))
    → All (λ r. 1 ≤ f r) (take n rs)
first_told f zero rs each = All-nil (λ r. 1 ≤ f r)
first_told f (suc n) [] each = All-nil (λ r. 1 ≤ f r)
first_told f (suc n) (r ∷ rs) each =
    All-cons (λ k. 1 ≤ f k) r (take n rs) (each 0 (omega arith)) (first_told f n rs (λ i low. each (suc i) (omega (arith, low))))

single : (a b : Bool) (j k : ℕ) → a ≡ b → j ≡ k → (a || (j == 1)) ≡ true → b ≡ false → k ≡ 1
single true b j k same is count one = absurd (true≢false (same ∙ one))
single false b j k same is count one = sym is ∙ eqb-true j 1 count

five : {a b c d e : ℕ} → 1 ≤ a → 1 ≤ b → 1 ≤ c → 1 ≤ d → 1 ≤ e → All (λ n. 1 ≤ n) (a ∷ b ∷ c ∷ d ∷ e ∷ [])
five {a} {b} {c} {d} {e} first second third fourth fifth =
    All-cons (λ n. 1 ≤ n) a (b ∷ c ∷ d ∷ e ∷ []) first
    (All-cons (λ n. 1 ≤ n) b (c ∷ d ∷ e ∷ []) second
    (All-cons (λ n. 1 ≤ n) c (d ∷ e ∷ []) third (All-cons (λ n. 1 ≤ n) d (e ∷ []) fourth (All-cons (λ n. 1 ≤ n) e [] fifth (All-nil (λ n. 1 ≤ n))))))

at_most : {a b c d e : ℕ} → a ≡ b → b ≡ c → c ≤ d → d ≡ e → a ≤ e
at_most first second less last = omega (arith, first, second, less, last)

pub opened_fits : (plan : WirePlan) (terms : WireTerms) (nodes : List ℕ) (p : Setting) (s : State) → WireOpensOn plan terms nodes p s → FitsService plan terms
opened_fits plan terms nodes p s opens = record {
  limits =
      five (subst (λ n. 1 ≤ n) (sym (opens.agrees.plan_of.buffers Client)) is.requests) (subst (λ n. 1 ≤ n) (sym (opens.agrees.plan_of.buffers Server)) is.buffer)
      (subst (λ n. 1 ≤ n) (sym (opens.agrees.plan_of.borrows Server)) is.borrows) (subst (λ n. 1 ≤ n) clients is.clients)
      (subst (λ n. 1 ≤ n) (ap (λ (l : Limits). l.loaned_requests) opens.agrees.limits ∙ opens.told.loaned_requests) is.loans);
  loans = first_told (λ r. r.loaned_responses) (length plan.ports.items) terms.ports.items lends;
  order = ap are_ascending (sym (same_numbers plan.ports.items s.fixed.ports opens.agrees.plan_of.ports)) ∙ ports_ascend s opens.reached;
  clients =
      at_most (ap length (same_names Client plan.ports.items s.fixed.ports opens.agrees.plan_of.ports)) (role-count s.fixed Client) ((reached_within s opens.reached).most Client) clients;
  pools = planned (IsMade s.fixed.limits) (λ q. q.pool ≤ max_slots) (λ q r alike made. subst (λ n. n ≤ max_slots) alike.pool made.pool) plan.ports.items s.fixed.ports
      opens.agrees.plan_of.ports is.each;
  lengths = planned (IsMade s.fixed.limits) (λ q. (messages_of terms q.role).many ≡ false → q.longest ≡ 1)
      (λ q r alike made. single (shape_of s.fixed.limits r.role).many (messages_of terms q.role).many r.longest q.longest (many q r alike) alike.longest made.counted)
      plan.ports.items s.fixed.ports opens.agrees.plan_of.ports is.each;
}
  where
    is : IsPositive s.fixed.limits s.fixed.ports
    is = reached_is_positive s opens.reached

    clients : s.fixed.limits.clients ≡ terms.clients
    clients = ap (λ (l : Limits). l.clients) opens.agrees.limits ∙ opens.told.clients

    many : (q : PlanPort) (r : Port) → IsAsPlanned q r → (shape_of s.fixed.limits r.role).many ≡ (messages_of terms q.role).many
    many q r alike =
        ap (λ (role : Role). (shape_of s.fixed.limits role).many) alike.role ∙ ap (λ (l : Limits). (shape_of l q.role).many) opens.agrees.limits ∙ opens.told.many q.role

    made : All (IsMade s.fixed.limits) (map p.port (port_numbers plan))
    made = subst (All (IsMade s.fixed.limits)) (opens.agrees.ports ∙ ap (λ y. map p.port y.sizes.ports) opens.agrees.layout) is.each

    lends : (i : ℕ) → i < length plan.ports.items → IsSomeAnd (slice_get terms.ports.items i) (λ r. 1 ≤ r.loaned_responses)
    lends i low =
        some_and (IsPortWith (p.port (number_at plan i)) (port_shape p (number_at plan i))) (λ r. 1 ≤ r.loaned_responses) (slice_get terms.ports.items i)
        (λ r with. subst (λ n. 1 ≤ n) with.loaned_responses
        (at_place (IsMade s.fixed.limits) p.port (port_numbers plan) made i (subst (λ n. i < n) (sym (length-map plan.ports.items (λ (q : PlanPort). q.number))) low)).lends)
        (opens.told.ports i low)
