-- The release of the value of the least number leaves the node the others, so that one after another takes all.
use Rattle.std.specs.Prelude.{◌≡◌, ◌≢◌, ℕ, ◌<◌, Bool, true, false, not, ◌==◌, List, [], ◌∷◌, length, Option, Some, None, IfSome, IsSome, is_some, refl}
use Rattle.std.specs.Option.{option_map, option_map_or}
use Rattle.std.proofs.Common.{sym, ap, subst, ◌∙◌, arith, eqb-true, inl, inr}
use Rattle.std.proofs.lemmas.Option.{none-some, same_Some}
use Rattle.iox_model.specs.declared.call.Call.TheVariants.{Release}
use Rattle.iox_model.specs.declared.reply.Reply.TheVariants.{Done}
use Rattle.iox_model.specs.Commands.{Use}
use Rattle.iox_model.specs.Maps.{first_of, has_number, is_empty, rest_of}
use Rattle.iox_model.specs.Runs.{IsReachableState, OfHub}
use Rattle.iox_model.specs.Services.{Releases, numbers_of_node}
use Rattle.iox_model.specs.States.{State}
use Rattle.iox_model.specs.WholeCalls.{IsWholeCall}
use Rattle.iox_laws.specs.ServiceLaws.Listings.{are_ascending}
use Rattle.iox_laws.proofs.WeaveLaws.WholeLemmas.{split}
use Rattle.iox_laws.proofs.WeaveLedger.Lists.{IsAmong, NoRepeats, among-number, number-among}
use Rattle.iox_laws.proofs.WeaveLedger.Truths.{false_if, never}
use Rattle.iox_laws.proofs.WeaveWorlds.Inductions.{step_is_reached}
use Rattle.iox_laws.proofs.RunLaws.Cleanups.{IsValue, value_released}
use Rattle.iox_laws.proofs.RunLaws.Runs.{left_calm, whole_calm}
use Rattle.iox_laws.proofs.RunLaws.Settling.{Calm}
use Rattle.iox_laws.proofs.RunLaws.Values.{numbers_apart, numbers_are_values}
use Rattle.iox_laws.proofs.ServiceLaws.Ordered.{releases_ascend}
use Rattle.iox_laws.proofs.ServiceLaws.Releasing.{nothing_left, values_are_numbers}
use Rattle.iox_model.specs.declared.kind.Kind.{Kind}
use Rattle.iox_model.specs.Names.{is_port}
use Rattle.iox_handles.specs.declared.numbered.Numbered.{Numbered}
use Rattle.iox_tables.specs.HubStates.States.{Given}
use Rattle.iox_tables.specs.HubStates.Tables.{HandleState, PortState, port_in}
use Rattle.iox_tables.specs.HubStates.Wirings.{handle_in}
use Rattle.iox_tables.specs.HubBooks.Handles.{IsOfPort}
use Rattle.iox_tables.proofs.HubBooks.Used.{handle_is}
use Rattle.iox_tables.specs.HubLoans.Questions.{kind_in}
use Rattle.iox_tables.specs.HubBooks.Hubs.{AreInOrder}
use Rattle.iox_hub.specs.Cleaning.{LeadsOn}
use Rattle.iox_hub.specs.Hubs.{HubState, IsHub, IsReached, given_by, nothing_given, state_of_hub, with_control}
use Rattle.iox_hub.specs.Reads.{HasOf}
use Rattle.iox_hub.specs.Sending.{HasNothing, is_handle, with_words_left}
use Rattle.iox_hub.proofs.SendingHubs.{held_port_of_hub, named_of_hub}
use Rattle.iox_hub.specs.Keeping.{IsSame, Keeps, KeepsOthers}
use Rattle.iox_hub.specs.Listings.{numbers_had}
use Rattle.iox_hub.proofs.Ascending.{same_ascending}
use Rattle.iox_hub.proofs.Keeping.{same_twice}
use Rattle.iox_hub.proofs.ListingLemmas.{numbers_are}
use Rattle.iox_hub.proofs.ValueLemmas.{kind_is_value, value_has_kind}

-- ---- of the machine

-- a value stays while others are released
stays_while : (node : ℕ) (ns : List ℕ) (s : State) → Calm s → NoRepeats ns → ((k : ℕ) → IsAmong k ns → IsValue s.fixed node k)
    → (k : ℕ) → IsValue s.fixed node k → (IsAmong k ns → ⊥) → (t : State) × Releases s node ns t × IsValue t.fixed node k
stays_while node [] s calm apart each k value other = (s, refl, value)
stays_while node (n ∷ ns) s calm apart each k value other =
    let first = value_released s node n calm (each n (inl refl)) in
    let rest : (t : State) × Releases first.0 node ns t × IsValue t.fixed node k
    = stays_while node ns first.0 (whole_calm s node (Release n) Done first.0 calm first.1) apart.1
    (λ j among. first.2 j (false_if (j == n) (λ same. apart.0 (subst (λ i. IsAmong i ns) (eqb-true j n same) among))) (each j (inr among)))
    k (first.2 k (false_if (k == n) (λ same. other (inl (eqb-true k n same)))) value) (λ among. other (inr among)) in
    (rest.0, (first.0, first.1, rest.1), rest.2)

-- what the node has after the release of the first of its numbers, it had before
none_new : (s t : State) (node n : ℕ) (rest : List ℕ) → Calm s → numbers_of_node s.fixed node ≡ n ∷ rest
    → IsWholeCall s node (Release n) Done t → ((k : ℕ) → IsAmong k rest → IsValue t.fixed node k)
    → (k : ℕ) → IsValue t.fixed node k → IsAmong k rest
none_new s t node n rest calm are whole each k value = by_case (has_number k rest) refl
  where
    apart : NoRepeats (n ∷ rest)
    apart = subst (λ (ns : List ℕ). NoRepeats ns) are (numbers_apart s.fixed node (calm.rests).fixed)

    by_case : (b : Bool) → has_number k rest ≡ b → IsAmong k rest
    by_case true e = number-among k rest e
    by_case false e =
        let left : (u : State) × Releases t node rest u × IsValue u.fixed node k
        = stays_while node rest t (whole_calm s node (Release n) Done t calm whole) apart.1 each k value
        (λ among. never (has_number k rest) (among-number k rest among) e) in
        absurd (subst (λ (ns : List ℕ). IsAmong k ns)
        (nothing_left s left.0 node calm (subst (λ (ns : List ℕ). Releases s node ns left.0) (sym are) (t, whole, left.1)))
        (values_are_numbers left.0.fixed node k left.2))

-- the release of the first of a node's numbers, which keeps the others, leaves the others alone
pub leaves_the_rest : (s t : State) (node n : ℕ) (rest : List ℕ) → IsReachableState s → numbers_of_node s.fixed node ≡ n ∷ rest
    → IsWholeCall s node (Release n) Done t → ((k : ℕ) → k ≢ n → IsValue s.fixed node k → IsValue t.fixed node k)
    → numbers_of_node t.fixed node ≡ rest
leaves_the_rest s t node n rest reached are whole keeps =
    same_ascending (numbers_of_node t.fixed node) rest
    (releases_ascend t node (step_is_reached s t (OfHub node (Use (Release n)) Done) reached whole))
    (split _ (are_ascending rest) (subst (λ (ns : List ℕ). are_ascending ns ≡ true) are (releases_ascend s node reached))).1
    (λ k among. none_new s t node n rest calm are whole each k (numbers_are_values t.fixed node k among))
    (λ k among. values_are_numbers t.fixed node k (each k among))
  where
    calm : Calm s
    calm = left_calm s reached

    apart : NoRepeats (n ∷ rest)
    apart = subst (λ (ns : List ℕ). NoRepeats ns) are (numbers_apart s.fixed node (calm.rests).fixed)

    each : (k : ℕ) → IsAmong k rest → IsValue t.fixed node k
    each k among =
        keeps k (λ same. apart.0 (subst (λ i. IsAmong i rest) same among))
        (numbers_are_values s.fixed node k (subst (λ (ns : List ℕ). IsAmong k ns) (sym are) (inr among)))

-- ---- of a hub

-- a list that has a first
pub first_and_rest : (ns : List ℕ) (n : ℕ) → first_of ns ≡ Some n → ns ≡ n ∷ rest_of ns
first_and_rest [] n e = absurd (none-some n e)
first_and_rest (m ∷ ms) n e = ap (λ k. k ∷ ms) (same_Some m n e)

pub none_then : (ns : List ℕ) → first_of ns ≡ None → ns ≡ []
none_then [] e = refl
none_then (m ∷ ms) e = absurd (none-some m (sym e))

-- whether there is a first
pub some_first : (r : Option ℕ) (ns : List ℕ) → r ≡ first_of ns → is_some r ≡ not (is_empty ns)
some_first r [] e = ap (λ o. is_some o) e
some_first r (n ∷ ns) e = ap (λ o. is_some o) e

-- the numbers are the same whatever there is besides
pub numbers_alike : (x y : Given) (h : HubState) (node : ℕ) → numbers_of_node (state_of_hub x h).fixed node ≡ numbers_of_node (state_of_hub y h).fixed node
numbers_alike x y h node = numbers_are x h node ∙ sym (numbers_are y h node)

-- the first number is that of a value
pub first_is_value : (x : Given) (h : HubState) (node n : ℕ) → AreInOrder h.control.tables
    → first_of (numbers_of_node (state_of_hub x h).fixed node) ≡ Some n → IsSome (kind_in h.control.tables node n)
first_is_value x h node n order first =
    value_has_kind (given_by x h) h.control.tables order node n
    (numbers_are_values (state_of_hub x h).fixed node n
    (subst (λ (ns : List ℕ). IsAmong n ns) (sym (first_and_rest (numbers_of_node (state_of_hub x h).fixed node) n first)) (inl refl)))

-- where the numbers are none, a number names nothing
pub names_none : (h : HubState) (node : ℕ) → ((x : Given) → numbers_of_node (state_of_hub x h).fixed node ≡ []) → (n : ℕ) → HasNothing h node n
names_none h node none n = step (kind_in h.control.tables node n) refl
  where
    step : (o : Option Kind) → kind_in h.control.tables node n ≡ o → o ≡ None
    step None e = refl
    step (Some kind) e =
        let x : Given = nothing_given h in
        absurd (subst (λ (ns : List ℕ). IsAmong n ns) (none x)
        (values_are_numbers (state_of_hub x h).fixed node n (kind_is_value (given_by x h) h.control.tables node n (ap (λ o. is_some o) e))))

pub first_has : (h : HubState) (node : ℕ) (r : Option ℕ) → IsHub h
    → ((x : Given) → r ≡ first_of (numbers_of_node (state_of_hub x h).fixed node)) → IfSome r (λ n. IsSome (kind_in h.control.tables node n))
first_has h node None hub is = tt
first_has h node (Some n) hub is = first_is_value hub.reached.0 h node n hub.control.order (sym (is hub.reached.0))

pub value_has : (h : HubState) (node : ℕ) (r : Option Numbered) → IsHub h
    → ((x : Given) → option_map (λ v. v.number) r ≡ first_of (numbers_of_node (state_of_hub x h).fixed node))
    → IfSome r (λ v. IsSome (kind_in h.control.tables node v.number))
value_has h node None hub is = tt
value_has h node (Some v) hub is = first_is_value hub.reached.0 h node v.number hub.control.order (sym (is hub.reached.0))

pub rest_is_left : (old new : HubState) (node n : ℕ) → IsReached old → AreInOrder old.control.tables
    → ((x : Given) → Some n ≡ first_of (numbers_of_node (state_of_hub x old).fixed node))
    → ((x : Given) → IsWholeCall (state_of_hub x old) node (Release n) Done (state_of_hub x new)) → KeepsOthers old node n new
    → (x : Given) → numbers_of_node (state_of_hub x new).fixed node ≡ rest_of (numbers_of_node (state_of_hub x old).fixed node)
rest_is_left old new node n reached order first whole keeps x =
    let y : Given = reached.0 in
    numbers_alike x y new node
    ∙ leaves_the_rest (state_of_hub y old) (state_of_hub y new) node n (rest_of (numbers_of_node (state_of_hub y old).fixed node)) reached.1
    (first_and_rest (numbers_of_node (state_of_hub y old).fixed node) n (sym (first y))) (whole y)
    (λ k other value.
    let some = value_has_kind (given_by y old) old.control.tables order node k value in
    kind_is_value (given_by y new) new.control.tables node k (ap (λ o. is_some o) (keeps node k (λ same is. other is) some).kind ∙ some))
    ∙ ap rest_of (numbers_alike y x old node)

-- ---- one release

-- what messages are made of stays as a handle is released
pub handle_shapes : (old new : HubState) (node n : ℕ) → IsHub old → HasOf is_handle old node n
    → ((h : HandleState) → handle_in old.control.tables.handles node n ≡ Some h → (p : PortState) → port_in old.control.tables.ports h.port ≡ Some p
    → new ≡ with_words_left (with_words_left (with_control old new.control) h.pool) p.pool)
    → (new.request ≡ old.request) × (new.response ≡ old.response)
handle_shapes old new node n hub has left =
    let named = named_of_hub hub old refl node n has in
    let of : IsOfPort old.control.tables named.handle =
    handle_is (IsOfPort old.control.tables) old.control.tables.handles node n named.handle hub.control.order.ports named.named.there in
    let same = left named.handle named.named.there of.port of.there in
    (ap (λ (h : HubState). h.request) same, ap (λ (h : HubState). h.response) same)

-- and as a port's own value is
pub port_shapes : (old new : HubState) (node n : ℕ) → IsHub old → HasOf is_port old node n
    → ((p : PortState) → port_in old.control.tables.ports n ≡ Some p → new ≡ with_words_left (with_control old new.control) p.pool)
    → (new.request ≡ old.request) × (new.response ≡ old.response)
port_shapes old new node n hub has left =
    let held = held_port_of_hub hub old refl node n has in
    let same = left held.port held.there in
    (ap (λ (h : HubState). h.request) same, ap (λ (h : HubState). h.response) same)

-- a value of a kind that passes
pub has_of : (test : Kind → Bool) (h : HubState) (node n : ℕ) (kind : Kind) → kind_in h.control.tables node n ≡ Some kind → test kind ≡ true → HasOf test h node n
has_of test h node n kind is passes = ap (λ o. option_map_or test o false) is ∙ passes

-- ---- one after another

pub one_leads_on : (first old new : HubState) (node n : ℕ) → LeadsOn first old node
    → ((x : Given) → Some n ≡ first_of (numbers_of_node (state_of_hub x old).fixed node))
    → ((x : Given) → IsWholeCall (state_of_hub x old) node (Release n) Done (state_of_hub x new))
    → ((x : Given) → numbers_of_node (state_of_hub x new).fixed node ≡ rest_of (numbers_of_node (state_of_hub x old).fixed node))
    → LeadsOn first new node
one_leads_on first old new node n leads is whole rest x t releases =
    leads x t
    (subst (λ (ns : List ℕ). Releases (state_of_hub x old) node ns t)
    (sym (first_and_rest (numbers_of_node (state_of_hub x old).fixed node) n (sym (is x))))
    (state_of_hub x new, whole x, subst (λ (ns : List ℕ). Releases (state_of_hub x new) node ns t) (rest x) releases))

-- nothing is left, so all was released
pub all_led_on : (first now : HubState) (node : ℕ) → LeadsOn first now node
    → ((x : Given) → None ≡ first_of (numbers_of_node (state_of_hub x now).fixed node))
    → (x : Given) → Releases (state_of_hub x first) node (numbers_of_node (state_of_hub x first).fixed node) (state_of_hub x now)
all_led_on first now node leads none x =
    leads x (state_of_hub x now)
    (subst (λ (ns : List ℕ). Releases (state_of_hub x now) node ns (state_of_hub x now))
    (sym (none_then (numbers_of_node (state_of_hub x now).fixed node) (sym (none x)))) refl)

-- there are fewer after each
pub fewer_left : (old new : HubState) (node n : ℕ) → ((x : Given) → Some n ≡ first_of (numbers_of_node (state_of_hub x old).fixed node))
    → ((x : Given) → numbers_of_node (state_of_hub x new).fixed node ≡ rest_of (numbers_of_node (state_of_hub x old).fixed node))
    → length (numbers_had new.control.tables node) < length (numbers_had old.control.tables node)
fewer_left old new node n first rest =
    let x : Given = nothing_given old in
    let more = ap length (sym (numbers_are x old node) ∙ first_and_rest (numbers_of_node (state_of_hub x old).fixed node) n (sym (first x))) in
    let less = ap length (sym (numbers_are x new node) ∙ rest x) in
    omega (arith, more, less)

-- values of other nodes stay through one release more
pub others_stay : (first old new : HubState) (node n : ℕ) → Keeps (λ other k. other ≢ node) first old → KeepsOthers old node n new
    → Keeps (λ other k. other ≢ node) first new
others_stay first old new node n before keeps other k apart some =
    let one : IsSame first other k old = before other k apart some in
    same_twice first old new other k one (keeps other k (λ same. absurd (apart same)) (ap (λ o. is_some o) one.kind ∙ some))
