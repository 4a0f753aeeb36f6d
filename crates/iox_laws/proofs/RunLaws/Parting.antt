-- What handles and queues hold as a port goes.
use Rattle.std.specs.Prelude.{◌≡◌, ℕ, ◌≤◌, Bool, true, false, not, ◌&&◌, ◌||◌, if◌then◌else◌, ◌==◌, nat_lt, nat_le, List, [], ◌∷◌, length, ◌⊎◌, refl}
use Rattle.std.specs.List.{range_with_len}
use Rattle.std.specs.Option.{option_map_or}
use Rattle.std.proofs.Common.{sym, subst, ap, ap₂, ◌∙◌, true≢false, eqb-true, inl, inr}
use Rattle.iox_model.specs.declared.kind.Role.{Role}
use Rattle.iox_model.specs.declared.kind.Role.TheVariants.{Client, Server}
use Rattle.iox_model.specs.declared.way.Way.{Way}
use Rattle.iox_model.specs.Expiries.{room_for_expired, lanes_between, waits_between, kept_expired, expired_after, stays, expired_once, disconnected, is_last_gone}
use Rattle.iox_laws.specs.WeaveLaws.Ledgers.{has_received}
use Rattle.iox_model.specs.Maps.{is_empty, rest_of, has_number, same_way}
use Rattle.iox_model.specs.Handles.{is_received, way_of}
use Rattle.iox_model.specs.Messages.{Message}
use Rattle.iox_model.specs.Peers.{buffer_on, role_at}
use Rattle.iox_model.specs.Settings.{is_client, same_role, other_role, buffer_of, borrow_limit_of}
use Rattle.iox_model.specs.States.{Port, Handle, Fixed, State}
use Rattle.iox_laws.proofs.WeaveLaws.MapLemmas.{either, eqb-refl}
use Rattle.iox_laws.proofs.WeaveLaws.WholeLemmas.{split}
use Rattle.iox_laws.proofs.WeaveLedger.Counts.{count, count-none}
use Rattle.iox_laws.proofs.WeaveLedger.Orders.{zero-le, least, le-from}
use Rattle.iox_laws.proofs.WeaveLedger.Truths.{false_if, never, by_cases, or-false}
use Rattle.iox_laws.proofs.WeaveLedger.Lists.{IsAmong, any-among, among-last, number-among, among-number, length-none, rest-among}
use Rattle.iox_laws.proofs.WeaveLedger.Senders.{IsMade}
use Rattle.iox_laws.proofs.WeaveLedger.Views.{role_in, node_in}
use Rattle.iox_laws.proofs.RunLaws.Ports.{any_at, others_than, any_others, first_others, any_stay, at_below}
use Rattle.iox_laws.proofs.RunLaws.Rests.{Rested}
use Rattle.iox_laws.proofs.RunLaws.Gone.{others_belong}
use Rattle.iox_laws.proofs.RunLaws.Holding.{is_lost, WaitFits, WaitsFit}
use Rattle.iox_laws.proofs.RunLaws.Beginning.{KeptHandle}
use Rattle.iox_laws.proofs.RunLaws.Owning.{limit_in, most_in, had_in, Has, Owned}

-- ---- of senders that are there

the_other : (a b : Role) → is_client a ≡ not (is_client b) → a ≡ other_role b
the_other Client Client e = absurd (true≢false e)
the_other Client Server e = refl
the_other Server Client e = refl
the_other Server Server e = absurd (true≢false (sym e))

pub none_there : {A : Type 0} (xs : List A) → ((x : A) → IsAmong x xs → ⊥) → xs ≡ []
none_there [] no_one = refl
none_there (x ∷ xs) no_one = absurd (no_one x (inl refl))

-- no more waits than the buffer, by the receiver's role too
pub there_within : (s : State) (y : Way) → Rested s → Owned s → any_at y.sender s.fixed.ports ≡ true
    → length (s.waiting y) ≤ most_in s.fixed.limits s.fixed.ports y
there_within s y r o there = by_list (s.waiting y) refl
  where
    by_list : (xs : List Message) → s.waiting y ≡ xs → length (s.waiting y) ≤ most_in s.fixed.limits s.fixed.ports y
    by_list [] e = length-none (s.waiting y) (most_in s.fixed.limits s.fixed.ports y) e
    by_list (m ∷ ms) e =
        let fits : WaitFits s.fixed.ports s.fixed.next_number s.fixed.expired y m
        = o.waits y m (subst (λ (ys : List Message). IsAmong m ys) (sym e) (inl refl)) in
        subst (λ role. length (s.waiting y) ≤ buffer_of s.fixed.limits role)
        (the_other (role_in s.fixed.ports y.sender) (role_in s.fixed.ports y.receiver) (fits.role there))
        (le-from (length (s.waiting y)) (buffer_on s.fixed y) (r.within (node_in s.fixed.ports y.sender) y (there, refl)))

-- ---- who is expired once a port is gone

any_same : (gone k : ℕ) (ps : List Port) → (k == gone) ≡ false → any_at k (others_than gone ps) ≡ any_at k ps
any_same gone k ps other =
    by_cases (any_at k ps) (λ there. any_stay gone k ps other there ∙ sym there)
    (λ away. false_if (any_at k (others_than gone ps)) (λ there. never (any_at k ps) (any_others gone k ps there).0 away) ∙ sym away)

role_same : (gone k : ℕ) (ps : List Port) → (k == gone) ≡ false → role_in (others_than gone ps) k ≡ role_in ps k
role_same gone k ps other = ap (λ o. option_map_or (λ (p : Port). p.role) o Client) (first_others gone k ps other)

node_same : (gone k : ℕ) (ps : List Port) → (k == gone) ≡ false → node_in (others_than gone ps) k ≡ node_in ps k
node_same gone k ps other = ap (λ o. option_map_or (λ (p : Port). p.node) o 0) (first_others gone k ps other)

some_there : {A : Type 0} (xs : List A) → not (is_empty xs) ≡ true → (x : A) × IsAmong x xs
some_there [] e = absurd (true≢false (sym e))
some_there (x ∷ xs) e = (x, inl refl)

same_client : (a b : Role) → same_role a b ≡ true → is_client a ≡ is_client b
same_client Client Client e = refl
same_client Client Server e = absurd (true≢false (sym e))
same_client Server Client e = absurd (true≢false (sym e))
same_client Server Server e = refl

no_opposite : (b : Bool) → b ≡ not b → ⊥
no_opposite true e = true≢false e
no_opposite false e = true≢false (sym e)

-- between ports of one role nothing waits
nothing_between : (s : State) (gone r : ℕ) → Owned s → any_at gone s.fixed.ports ≡ true → same_role (role_at s.fixed r) (role_at s.fixed gone) ≡ true
    → waits_between s gone r ≡ false
nothing_between s gone r o there same =
    false_if (waits_between s gone r) (λ waits.
    let lane : (lane : ℕ) × IsAmong lane (range_with_len 0 (lanes_between s.fixed r))
    × (not (is_empty (s.waiting (record { sender = gone; receiver = r; lane = lane }))) ≡ true)
    = any-among (λ lane. not (is_empty (s.waiting (record { sender = gone; receiver = r; lane = lane })))) (range_with_len 0 (lanes_between s.fixed r)) waits in
    let y : Way = record { sender = gone; receiver = r; lane = lane.0 } in
    let m : (m : Message) × IsAmong m (s.waiting y) = some_there (s.waiting y) lane.2 in
    no_opposite (is_client (role_at s.fixed r))
    (same_client (role_at s.fixed r) (role_at s.fixed gone) same ∙ (o.waits y m.0 m.1).role there))

-- so the other ports of its role have the same expired pairs
pub expired_now : (s : State) (gone r : ℕ) → Owned s → any_at gone s.fixed.ports ≡ true → (r == gone) ≡ false → expired_once s gone r ≡ expired_after s gone r
expired_now s gone r o there other =
    ap (λ (b : Bool). if b then [] else (if same_role (role_at s.fixed r) (role_at s.fixed gone) then s.fixed.expired r else expired_after s gone r)) other
    ∙ either (λ (ns : List ℕ). ns ≡ expired_after s gone r) (same_role (role_at s.fixed r) (role_at s.fixed gone)) (s.fixed.expired r) (expired_after s gone r)
    (λ same. sym (ap (λ (b : Bool). if b && nat_lt 0 (room_for_expired s.fixed (role_at s.fixed r))
    then kept_expired (room_for_expired s.fixed (role_at s.fixed r)) (s.fixed.expired r) gone
    else s.fixed.expired r) (nothing_between s gone r o there same)))
    (λ u. refl)

-- who is expired then was so before, or is the one that goes
after_is : (s : State) (gone r n : ℕ) → IsAmong n (expired_after s gone r) → IsAmong n (s.fixed.expired r) ⊎ (n ≡ gone)
after_is s gone r n =
    let room : ℕ = room_for_expired s.fixed (role_at s.fixed r) in
    either (λ (ns : List ℕ). IsAmong n ns → IsAmong n (s.fixed.expired r) ⊎ (n ≡ gone)) (waits_between s gone r && nat_lt 0 room)
    (kept_expired room (s.fixed.expired r) gone) (s.fixed.expired r)
    (λ u among. elim (among-last n gone (if nat_le room (length (s.fixed.expired r)) then rest_of (s.fixed.expired r) else s.fixed.expired r) among)
    as (λ x. IsAmong n (s.fixed.expired r) ⊎ (n ≡ gone)) [
      | inl q ↦
          inl (either (λ (ns : List ℕ). IsAmong n ns → IsAmong n (s.fixed.expired r)) (nat_le room (length (s.fixed.expired r)))
          (rest_of (s.fixed.expired r)) (s.fixed.expired r)
          (λ v a. rest-among n (s.fixed.expired r) a) (λ v a. a) q)
      | inr e ↦ inr e
    ])
    (λ u among. inl among)

once_is : (s : State) (gone r n : ℕ) → has_number n (expired_once s gone r) ≡ true → IsAmong n (s.fixed.expired r) ⊎ (n ≡ gone)
once_is s gone r n e =
    either (λ (ns : List ℕ). IsAmong n ns → IsAmong n (s.fixed.expired r) ⊎ (n ≡ gone)) (r == gone) []
    (if same_role (role_at s.fixed r) (role_at s.fixed gone) then s.fixed.expired r else expired_after s gone r)
    (λ u among. absurd among)
    (λ u. either (λ (ns : List ℕ). IsAmong n ns → IsAmong n (s.fixed.expired r) ⊎ (n ≡ gone)) (same_role (role_at s.fixed r) (role_at s.fixed gone))
    (s.fixed.expired r) (expired_after s gone r)
    (λ v among. inl among) (λ v. after_is s gone r n)) (number-among n (expired_once s gone r) e)

-- ---- what stays

stays_to : (s : State) (gone : ℕ) (y : Way) → stays s gone y ≡ true → (y.receiver == gone) ≡ false
stays_to s gone y e =
    by_cases (y.receiver == gone)
    (λ is. absurd (true≢false (sym e ∙ ap (λ (b : Bool). if b then false else
    (if y.sender == gone || has_number y.sender (s.fixed.expired y.receiver) then has_number y.sender (expired_after s gone y.receiver) else true))
    is))) (λ other. other)

-- where the receiver stays: what stays is of senders that do, or of an expired pair
stays_is : (s : State) (gone : ℕ) (y : Way) → (y.receiver == gone) ≡ false
    → stays s gone y ≡ (if y.sender == gone || has_number y.sender (s.fixed.expired y.receiver)
    then has_number y.sender (expired_after s gone y.receiver) else true)
stays_is s gone y other =
    ap (λ (b : Bool). if b then false else
    (if y.sender == gone || has_number y.sender (s.fixed.expired y.receiver) then has_number y.sender (expired_after s gone y.receiver) else true)) other

kept_if : (a b : Bool) → (a ≡ false → b ≡ true) → (not a && not b) ≡ false
kept_if true b f = refl
kept_if false b f = ap not (f refl)

lost_not : (a b : Bool) → (not a && not b) ≡ false → a ≡ false → b ≡ true
lost_not true b e f = absurd (true≢false f)
lost_not false true e f = refl
lost_not false false e f = absurd (true≢false e)

-- a pair that stays is not lost, if it was not
kept_stays : (s : State) (gone : ℕ) (y : Way) → Owned s → any_at gone s.fixed.ports ≡ true → stays s gone y ≡ true
    → is_lost s.fixed.ports s.fixed.expired y ≡ false
    → is_lost (others_than gone s.fixed.ports) (expired_once s gone) y ≡ false
kept_stays s gone y o there e kept =
    let to : (y.receiver == gone) ≡ false = stays_to s gone y e in
    let old : Bool = y.sender == gone || has_number y.sender (s.fixed.expired y.receiver) in
    by_cases old
    (λ is. kept_if (any_at y.sender (others_than gone s.fixed.ports)) (has_number y.sender (expired_once s gone y.receiver))
    (λ u. ap (has_number y.sender) (expired_now s gone y.receiver o there to)
    ∙ sym (ap (λ (b : Bool). if b then has_number y.sender (expired_after s gone y.receiver) else true) is) ∙ sym (stays_is s gone y to) ∙ e))
    (λ isnt.
    let q : ((y.sender == gone) ≡ false) × (has_number y.sender (s.fixed.expired y.receiver) ≡ false)
    = or-false (y.sender == gone) (has_number y.sender (s.fixed.expired y.receiver)) isnt in
    kept_if (any_at y.sender (others_than gone s.fixed.ports)) (has_number y.sender (expired_once s gone y.receiver))
    (λ away. absurd (true≢false (sym (lost_not (any_at y.sender s.fixed.ports) (has_number y.sender (s.fixed.expired y.receiver)) kept
    (sym (any_same gone y.sender s.fixed.ports q.0) ∙ away)) ∙ q.1))))

-- a pair that is not lost stays, and was not lost
not_lost_stays : (s : State) (gone : ℕ) (y : Way) → Owned s → any_at gone s.fixed.ports ≡ true → (y.receiver == gone) ≡ false
    → is_lost (others_than gone s.fixed.ports) (expired_once s gone) y ≡ false → (stays s gone y ≡ true) × (is_lost s.fixed.ports s.fixed.expired y ≡ false)
not_lost_stays s gone y o there to kept =
    by_cases (any_at y.sender (others_than gone s.fixed.ports))
    (λ stands.
    let q : (any_at y.sender s.fixed.ports ≡ true) × ((y.sender == gone) ≡ false) = any_others gone y.sender s.fixed.ports stands in
    let no_pair : has_number y.sender (s.fixed.expired y.receiver) ≡ false
    = false_if (has_number y.sender (s.fixed.expired y.receiver)) (λ e. never (any_at y.sender s.fixed.ports) q.0 ((o.has).away y.receiver y.sender e).0) in (
      stays_is s gone y to ∙ ap₂ (λ (a b : Bool). if a || b then has_number y.sender (expired_after s gone y.receiver) else true) q.1 no_pair,
      kept_if (any_at y.sender s.fixed.ports) (has_number y.sender (s.fixed.expired y.receiver)) (λ away. absurd (true≢false (sym q.0 ∙ away))),
    ))
    (λ away.
    let now : has_number y.sender (expired_once s gone y.receiver) ≡ true
    = lost_not (any_at y.sender (others_than gone s.fixed.ports)) (has_number y.sender (expired_once s gone y.receiver)) kept away in (
      stays_is s gone y to
          ∙ either (λ (b : Bool). b ≡ true) (y.sender == gone || has_number y.sender (s.fixed.expired y.receiver)) (has_number y.sender
          (expired_after s gone y.receiver)) true
          (λ u. ap (has_number y.sender) (sym (expired_now s gone y.receiver o there to)) ∙ now) (λ u. refl),
      elim (once_is s gone y.receiver y.sender now) as (λ u. is_lost s.fixed.ports s.fixed.expired y ≡ false) [
        | inl q ↦ kept_if (any_at y.sender s.fixed.ports) (has_number y.sender (s.fixed.expired y.receiver))
            (λ u. among-number y.sender (s.fixed.expired y.receiver) q)
        | inr e ↦
            kept_if (any_at y.sender s.fixed.ports) (has_number y.sender (s.fixed.expired y.receiver))
            (λ u. absurd (true≢false (sym there ∙ ap (λ k. any_at k s.fixed.ports) (sym e) ∙ u)))
      ],
    ))

-- ---- a port goes

pub kept_same : (ps qs : List Port) (h : Handle) → role_in qs h.port ≡ role_in ps h.port → KeptHandle ps h → KeptHandle qs h
kept_same ps qs h same p = record {
  value = p.value;
  loan = λ loan.
      let made : IsMade ps h = p.loan loan in
      record { sender = made.sender; lane = made.lane; role = made.role ∙ ap is_client (sym same) };
  pending = λ pending. ap is_client same ∙ p.pending pending;
}

none_of_gone : (s : State) (gone n : ℕ) (y : Way) → Rested s → is_last_gone s.fixed gone ≡ true → (y.receiver == gone) ≡ true
    → count (has_received y) (s.fixed.handles n) ≡ 0
none_of_gone s gone n y r last is =
    count-none (has_received y) (s.fixed.handles n)
    (λ h among.
    let other : (h.port == gone) ≡ false = others_belong s.fixed gone n h last among (((r.fixed).handles n).each h among).of_port in
    false_if (has_received y h) (λ has.
    let q : ((h.port == y.receiver) ≡ true) × (same_way (way_of h) y ≡ true)
    = split (h.port == y.receiver) (same_way (way_of h) y) (split (is_received h.kind) ((h.port == y.receiver) && same_way (way_of h) y) has).1 in
    never (h.port == gone) (subst (λ k. (h.port == k) ≡ true) (eqb-true y.receiver gone is) q.0) other))

gone_has : (s : State) (gone : ℕ) → Rested s → Owned s → any_at gone s.fixed.ports ≡ true → is_last_gone s.fixed gone ≡ true → Has (disconnected s gone).fixed
gone_has s gone r o there last =
    let f : Fixed = s.fixed in
    let ps : List Port = others_than gone f.ports in
    record {
      kept = λ n h among.
          kept_same f.ports ps h (role_same gone h.port f.ports (others_belong f gone n h last among (((r.fixed).handles n).each h among).of_port))
          ((o.has).kept n h among);
      known = (o.has).known;
      away = λ k n among. elim (once_is s gone k n among) as (λ u. (any_at n ps ≡ false) × (nat_lt n f.next_number ≡ true)) [
        | inl q ↦
            let p : (any_at n f.ports ≡ false) × (nat_lt n f.next_number ≡ true) = (o.has).away k n (among-number n (f.expired k) q) in
            (false_if (any_at n ps) (λ e. never (any_at n f.ports) (any_others gone n f.ports e).0 p.0), p.1)
        | inr e ↦ (
          false_if (any_at n ps) (λ a. never (n == gone) (subst (λ j. (n == j) ≡ true) e (eqb-refl n)) (any_others gone n f.ports a).1),
          subst (λ j. nat_lt j f.next_number ≡ true) (sym e) (at_below f.next_number gone f.ports ((r.fixed).numbered).1 there),
        )
      ];
      within = λ y. either (λ b. b ≤ limit_in f.limits ps y) (stays s gone y) (f.borrowed y) 0
          (λ e. subst (λ role. f.borrowed y ≤ borrow_limit_of f.limits (other_role role))
          (sym (role_same gone y.receiver f.ports (stays_to s gone y e))) ((o.has).within y))
          (λ u. zero-le 0 (limit_in f.limits ps y) refl);
      nobody = λ y none. either (λ b. b ≡ 0) (stays s gone y) (f.borrowed y) 0
          (λ e. (o.has).nobody y (sym (any_same gone y.receiver f.ports (stays_to s gone y e)) ∙ none)) (λ u. refl);
      counts = λ y kept. by_cases (y.receiver == gone)
          (λ is. zero-le (had_in ps f.handles y) ((disconnected s gone).fixed.borrowed y) (none_of_gone s gone (node_in ps y.receiver) y r last is))
          (λ other.
          let q : (stays s gone y ≡ true) × (is_lost f.ports f.expired y ≡ false) = not_lost_stays s gone y o there other kept in
          subst (λ n. count (has_received y) (f.handles n) ≤ (disconnected s gone).fixed.borrowed y) (sym (node_same gone y.receiver f.ports other))
          (subst (λ b. had_in f.ports f.handles y ≤ b) (sym (ap (λ (b : Bool). if b then f.borrowed y else 0) q.0)) ((o.has).counts y q.1)));
      few = λ y. by_cases (y.receiver == gone)
          (λ is. zero-le (had_in ps f.handles y) (limit_in f.limits ps y) (none_of_gone s gone (node_in ps y.receiver) y r last is))
          (λ other.
          subst (λ n. count (has_received y) (f.handles n) ≤ limit_in f.limits ps y) (sym (node_same gone y.receiver f.ports other))
          (subst (λ role. had_in f.ports f.handles y ≤ borrow_limit_of f.limits (other_role role)) (sym (role_same gone y.receiver f.ports other))
          ((o.has).few y)));
    }

gone_waits : (s : State) (gone : ℕ) → Owned s → any_at gone s.fixed.ports ≡ true → WaitsFit (disconnected s gone)
gone_waits s gone o there y m =
    either (λ (xs : List Message). IsAmong m xs → WaitFits (others_than gone s.fixed.ports) s.fixed.next_number (expired_once s gone) y m)
    (stays s gone y) (s.waiting y) []
    (λ e among.
    let p : WaitFits s.fixed.ports s.fixed.next_number s.fixed.expired y m = o.waits y m among in
    let to : (y.receiver == gone) ≡ false = stays_to s gone y e in
    record {
      sender = p.sender;
      lane = λ client. p.lane (ap is_client (sym (role_same gone y.receiver s.fixed.ports to)) ∙ client);
      role = λ stands.
          let q : (any_at y.sender s.fixed.ports ≡ true) × ((y.sender == gone) ≡ false) = any_others gone y.sender s.fixed.ports stands in
          ap is_client (role_same gone y.sender s.fixed.ports q.1) ∙ p.role q.0
          ∙ ap (λ role. not (is_client role)) (sym (role_same gone y.receiver s.fixed.ports to));
      kept = kept_stays s gone y o there e p.kept;
      below = p.below;
      there = any_stay gone y.receiver s.fixed.ports to p.there;
    })
    (λ u among. absurd among)

pub gone_owned : (s : State) (gone : ℕ) → Rested s → Owned s → any_at gone s.fixed.ports ≡ true → is_last_gone s.fixed gone ≡ true → Owned (disconnected s gone)
gone_owned s gone r o there last = record {
  has = gone_has s gone r o there last;
  waits = gone_waits s gone o there;
  gone = λ y away. either (λ (xs : List Message). length xs ≤ most_in s.fixed.limits (others_than gone s.fixed.ports) y) (stays s gone y) (s.waiting y) []
      (λ e. subst (λ role. length (s.waiting y) ≤ buffer_of s.fixed.limits (other_role role))
      (sym (role_same gone y.receiver s.fixed.ports (stays_to s gone y e)))
      (by_cases (any_at y.sender s.fixed.ports) (there_within s y r o) (o.gone y)))
      (λ u. least (most_in s.fixed.limits (others_than gone s.fixed.ports) y));
}
