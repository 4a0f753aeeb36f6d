-- What a port keeps of ports that are gone, once one more is gone, and once a port is made.
use Rattle.std.specs.Prelude.{◌≡◌, ℕ, ◌+◌, ◌<◌, ◌≤◌, Bool, true, false, not, ◌||◌, if◌then◌else◌, ◌==◌, nat_lt, List, [], ◌∷◌, ◌++◌, drop, filter, length, map, Option, Some, None, is_some, refl}
use Rattle.std.specs.Option.{option_map, option_map_or}
use Rattle.std.proofs.Common.{sym, ap, ap₂, subst, ◌∙◌, arith, length-append, true≢false, eqb-true, eq-eqb}
use Rattle.std.proofs.lemmas.Bool.{ltb-true, or_parts}
use Rattle.std.proofs.lemmas.List.{map-append}
use Rattle.std.proofs.lemmas.Option.{none-some}
use Rattle.iox_model.specs.declared.kind.Role.{Role}
use Rattle.iox_model.specs.declared.kind.Role.TheVariants.{Server}
use Rattle.iox_model.specs.Maps.{AreDistinct, has_number, or_else}
use Rattle.iox_model.specs.Settings.{other_role, same_role}
use Rattle.iox_laws.proofs.WeaveLaws.MapLemmas.{eqb-refl}
use Rattle.iox_lanes.specs.Incomings.{IncomingState, has_room_for, with_kept}
use Rattle.iox_lanes.specs.Pipes.{PipeState, has_waiting_on_any}
use Rattle.iox_tables.specs.HubStates.Tables.{HubTables, PortState, pipe_from, pipes_of, port_in, senders_of}
use Rattle.iox_tables.specs.HubStates.Ways.{lanes_from}
use Rattle.iox_tables.specs.HubStates.Wirings.{IsWired, numbers_of_role}
use Rattle.iox_tables.proofs.HubStates.Emptied.{has-append}
use Rattle.iox_tables.proofs.HubStates.Fixing.{first_key}
use Rattle.iox_tables.proofs.HubStates.Keys.{first_append, flip}
use Rattle.iox_tables.specs.HubMaking.Disconnections.{MayGo, cut_from, with_disconnected}
use Rattle.iox_tables.specs.HubMaking.Expirings.{KeepsExpired, with_expired}
use Rattle.iox_tables.specs.HubMaking.NewPorts.{room_for_gone, width_of}
use Rattle.iox_tables.proofs.HubMaking.Connecting.{other_twice, same_roles, there_is}
use Rattle.iox_tables.proofs.HubMaking.Disconnecting.{port_left}
use Rattle.iox_tables.proofs.HubMaking.Firsts.{first_among, has_first}
use Rattle.iox_tables.proofs.HubMaking.PipesLeft.{behind_the_first, distinct_first}

-- ---- one more is kept, or none

-- what is so of what was there, with one more, and without the oldest and with one more, is so
pub by_kept : (P : IncomingState → Type 0) (c : IncomingState) (o : Option PipeState) → P c
    → ((q : PipeState) → o ≡ Some q → nat_lt (length c.pipes) c.most ≡ true → P (record c { pipes = c.pipes ++ q ∷ [] }))
    → ((q : PipeState) → o ≡ Some q → nat_lt 0 c.most ≡ true → P (record c { pipes = drop 1 c.pipes ++ q ∷ [] }))
    → P (with_expired c o)
by_kept P c None same more over = same
by_kept P c (Some q) same more over = waits (has_waiting_on_any q)
  where
    room : (b z : Bool) → nat_lt (length c.pipes) c.most ≡ b → nat_lt 0 c.most ≡ z
        → P (if b then record c { pipes = c.pipes ++ q ∷ [] } else (if z then record c { pipes = drop 1 c.pipes ++ q ∷ [] } else c))
    room true z eb ez = more q refl eb
    room false true eb ez = over q refl ez
    room false false eb ez = same

    waits : (b : Bool) → P (if b then with_kept c q else c)
    waits true = room (has_room_for c) (nat_lt 0 c.most) refl refl
    waits false = same

pub most_stays : (c : IncomingState) (o : Option PipeState) → (with_expired c o).most ≡ c.most
most_stays c o = by_kept (λ d. d.most ≡ c.most) c o refl (λ q e r. refl) (λ q e r. refl)

-- no more than there is room for
pub few_stays : (c : IncomingState) (o : Option PipeState) → length c.pipes ≤ c.most → length (with_expired c o).pipes ≤ c.most
few_stays c o few =
    by_kept (λ d. length d.pipes ≤ c.most) c o few
    (λ q e r. one_more (length c.pipes) c.most _ (length-append c.pipes (q ∷ [])) (ltb-true (length c.pipes) c.most r))
    (λ q e r. over q c.pipes few (ltb-true 0 c.most r))
  where
    one_more : (a m l : ℕ) → l ≡ a + 1 → a < m → l ≤ m
    one_more a m l e h = omega (arith, e, h)

    over : (q : PipeState) (ps : List PipeState) → length ps ≤ c.most → 0 < c.most → length (drop 1 ps ++ q ∷ []) ≤ c.most
    over q [] f h = omega (arith, h)
    over q (p ∷ ps) f h = let one = length-append ps (q ∷ []) in omega (arith, f, one)

-- who is kept was kept, or is the one that goes
pub kept_or_new : (n : ℕ) (c : IncomingState) (o : Option PipeState) → ((q : PipeState) → o ≡ Some q → q.sender ≡ n)
    → (k : ℕ) → has_number k (senders_of (with_expired c o).pipes) ≡ true → (k == n) ≡ false → has_number k (senders_of c.pipes) ≡ true
kept_or_new n c o from k =
    by_kept (λ d. has_number k (senders_of d.pipes) ≡ true → (k == n) ≡ false → has_number k (senders_of c.pipes) ≡ true) c o
    (λ has other. has)
    (λ q e r has other. last q (from q e) c.pipes has other)
    (λ q e r has other. behind c.pipes (last q (from q e) (drop 1 c.pipes) has other))
  where
    or_false : (a b : Bool) → b ≡ false → (a || (b || false)) ≡ true → a ≡ true
    or_false true b f h = refl
    or_false false true f h = absurd (true≢false f)
    or_false false false f h = absurd (true≢false (sym h))

    last : (q : PipeState) → q.sender ≡ n → (ps : List PipeState) → has_number k (senders_of (ps ++ q ∷ [])) ≡ true → (k == n) ≡ false → has_number k (senders_of ps) ≡ true
    last q is ps has other =
        or_false (has_number k (senders_of ps)) (q.sender == k) (ap (λ j. j == k) is ∙ flip n k ∙ other)
        (sym (ap (has_number k) (map-append (λ (r : PipeState). r.sender) ps (q ∷ [])) ∙ has-append k (senders_of ps) (q.sender ∷ [])) ∙ has)

    behind : (ps : List PipeState) → has_number k (senders_of (drop 1 ps)) ≡ true → has_number k (senders_of ps) ≡ true
    behind [] has = has
    behind (p ∷ ps) has = step (p.sender == k) has
      where
        step : (b : Bool) → has_number k (senders_of ps) ≡ true → (b || has_number k (senders_of ps)) ≡ true
        step true h = refl
        step false h = h

-- each that is kept was kept, or is the one that goes
pub found_or_new : (P : PipeState → Type 0) (c : IncomingState) (o : Option PipeState) → AreDistinct (senders_of c.pipes)
    → ((k : ℕ) (z : PipeState) → pipe_from c.pipes k ≡ Some z → P z) → ((q : PipeState) → o ≡ Some q → P q)
    → (k : ℕ) (z : PipeState) → pipe_from (with_expired c o).pipes k ≡ Some z → P z
found_or_new P c o apart old new k z =
    by_kept (λ d. pipe_from d.pipes k ≡ Some z → P z) c o (old k z)
    (λ q e r at. last q e c.pipes (λ y has. old k y has) at)
    (λ q e r at. last q e (drop 1 c.pipes) (λ y has. old k y (first y has)) at)
  where
    first : (y : PipeState) → pipe_from (drop 1 c.pipes) k ≡ Some y → pipe_from c.pipes k ≡ Some y
    first y has =
        sym (ap (λ o. if is_some o then pipe_from c.pipes k else None) has) ∙ sym (behind_the_first c.pipes k apart) ∙ has

    last : (q : PipeState) → o ≡ Some q → (ps : List PipeState) → ((y : PipeState) → pipe_from ps k ≡ Some y → P y) → pipe_from (ps ++ q ∷ []) k ≡ Some z → P z
    last q e ps each at = step (pipe_from ps k) refl (q.sender == k) (sym (first_append (λ (r : PipeState). r.sender) ps (q ∷ []) k) ∙ at)
      where
        is : (a : PipeState) → P a → Some a ≡ Some z → P z
        is a has h = subst (λ (o : Option PipeState). P (option_map_or (λ y. y) o a)) h has

        step : (w : Option PipeState) → pipe_from ps k ≡ w → (b : Bool) → or_else w (if b then Some q else None) ≡ Some z → P z
        step (Some y) there b h = is y (each y there) h
        step None there true h = is q (new q e) h
        step None there false h = absurd (none-some z h)

-- ---- a port that keeps the same

pub kept_same : (t u : HubTables) (p q : PortState) → u.settings ≡ t.settings → q.expired ≡ p.expired → q.role ≡ p.role → width_of q ≡ width_of p
    → ((n : ℕ) → has_number n (senders_of p.expired.pipes) ≡ true → port_in t.ports n ≡ None → port_in u.ports n ≡ None)
    → KeepsExpired t p → KeepsExpired u q
kept_same t u p q settings expired role width still old = record {
  room = ap (λ (c : IncomingState). c.most) expired ∙ old.room ∙ ap₂ room_for_gone (sym settings) (sym role);
  few = subst (λ (c : IncomingState). length c.pipes ≤ c.most) (sym expired) old.few;
  gone = λ n has. let before = sym (ap (λ (c : IncomingState). has_number n (senders_of c.pipes)) expired) ∙ has in still n before (old.gone n before);
  wide = λ n z at. old.wide n z (sym (ap (λ (c : IncomingState). pipe_from c.pipes n) expired) ∙ at) ∙ sym width;
}

-- ---- a port that is cut from one that goes

module _ (t : HubTables) (n : ℕ) (may : MayGo t n) (k : ℕ) (p : PortState) (at : port_in t.ports k ≡ Some p) where
  abbrev o : Option PipeState
  o = pipe_from p.incoming.pipes n

  sender_is : (q : PipeState) → o ≡ Some q → q.sender ≡ n
  sender_is q e = first_key (λ (x : PipeState). x.sender) p.incoming.pipes n q e

  -- the pipe is as wide as each from a connected port
  pub pipe_wide : (q : PipeState) → o ≡ Some q → length q.lanes ≡ width_of p
  pipe_wide q e = step (port_in (filter (λ z. same_role z.role (other_role p.role)) t.ports) n) refl
    where
      found : pipe_from (pipes_of p) n ≡ Some q
      found =
          first_append (λ x. x.sender) p.expired.pipes p.incoming.pipes n
          ∙ ap (λ z. or_else z o) (there_is (pipe_from p.expired.pipes n) (sym (has_first (λ x. x.sender) p.expired.pipes n) ∙ none (has_number n (senders_of p.expired.pipes)) refl))
          ∙ e
        where
          none : (b : Bool) → has_number n (senders_of p.expired.pipes) ≡ b → b ≡ false
          none false h = refl
          none true h = absurd (true≢false (sym may.there ∙ ap (λ (z : Option PortState). is_some z) ((may.kept k p at).gone n h)))

      named : is_some (port_in (filter (λ z. same_role z.role (other_role p.role)) t.ports) n) ≡ true
      named =
          sym (has_first (λ z. z.number) (filter (λ z. same_role z.role (other_role p.role)) t.ports) n)
          ∙ sym (ap (has_number n) (may.wired k p at).senders)
          ∙ has_first (λ z. z.sender) p.incoming.pipes n ∙ ap (λ (z : Option PipeState). is_some z) e

      step : (z : Option PortState) → port_in (filter (λ z. same_role z.role (other_role p.role)) t.ports) n ≡ z → length q.lanes ≡ width_of p
      step None is = absurd (true≢false (sym named ∙ ap (λ (z : Option PortState). is_some z) is))
      step (Some y) is =
          let there = first_among (λ z. z.number) (λ z. same_role z.role (other_role p.role)) t.ports n y may.apart is in
          let role : p.role ≡ other_role y.role = other_twice p.role ∙ ap other_role (sym (same_roles y.role (other_role p.role) there.1)) in
          ap (λ z. length (option_map_or (λ (x : PipeState). x.lanes) z [])) (sym found)
          ∙ ap (λ j. length (lanes_from (pipes_of p) j)) (sym (first_key (λ (x : PortState). x.number) t.ports n y there.0))
          ∙ (may.widths k n p y at there.0 role).lanes

  pub kept_cut : KeepsExpired (with_disconnected t n) (cut_from n p)
  kept_cut = record {
    room = most_stays p.expired o ∙ old.room;
    few = subst (λ m. length (with_expired p.expired o).pipes ≤ m) (sym (most_stays p.expired o)) (few_stays p.expired o old.few);
    gone = λ m has. port_left n t.ports m ∙ step m (m == n) refl has;
    wide =
        found_or_new (λ z. length z.lanes ≡ width_of p) p.expired o (distinct_first p.expired.pipes p.incoming.pipes (may.wired k p at).apart) old.wide pipe_wide;
  }
    where
      old : KeepsExpired t p
      old = may.kept k p at

      step : (m : ℕ) (b : Bool) → (m == n) ≡ b → has_number m (senders_of (with_expired p.expired o).pipes) ≡ true
          → (if b then None else option_map (cut_from n) (port_in t.ports m)) ≡ None
      step m true e has = refl
      step m false e has = ap (option_map (cut_from n)) (old.gone m (kept_or_new n p.expired o sender_is m has e))

  -- ---- who sends to it

  pub apart_cut : AreDistinct (senders_of (pipes_of (cut_from n p)))
  apart_cut =
      by_kept (λ c. AreDistinct (senders_of (c.pipes ++ filter (λ q. not (q.sender == n)) p.incoming.pipes))) p.expired o
      (without p.expired.pipes (may.wired k p at).apart)
      (λ q e r. moved q (sender_is q e) p.expired.pipes (sent q e) (may.wired k p at).apart)
      (λ q e r. moved q (sender_is q e) (drop 1 p.expired.pipes) (sent q e) (behind p.expired.pipes (may.wired k p at).apart))
    where
      left : List PipeState
      left = filter (λ q. not (q.sender == n)) p.incoming.pipes

      sent : (q : PipeState) → o ≡ Some q → has_number n (senders_of p.incoming.pipes) ≡ true
      sent q e = has_first (λ z. z.sender) p.incoming.pipes n ∙ ap (λ (z : Option PipeState). is_some z) e

      behind : (ps : List PipeState) → AreDistinct (senders_of (ps ++ p.incoming.pipes)) → AreDistinct (senders_of (drop 1 ps ++ p.incoming.pipes))
      behind [] apart = apart
      behind (x ∷ xs) apart = apart.1

      -- those that are left are no others
      fewer : (m : ℕ) (ps : List PipeState) → has_number m (senders_of ps) ≡ false → has_number m (senders_of (filter (λ q. not (q.sender == n)) ps)) ≡ false
      fewer m [] e = refl
      fewer m (x ∷ xs) e = step (x.sender == n) (fewer m xs (or_parts (x.sender == m) (has_number m (senders_of xs)) e).1)
        where
          step : (b : Bool) → has_number m (senders_of (filter (λ q. not (q.sender == n)) xs)) ≡ false
              → has_number m (senders_of (if not b then x ∷ filter (λ q. not (q.sender == n)) xs else filter (λ q. not (q.sender == n)) xs)) ≡ false
          step true rest = rest
          step false rest = ap₂ (λ (a b : Bool). a || b) (or_parts (x.sender == m) (has_number m (senders_of xs)) e).0 rest

      none_left : (ps : List PipeState) → has_number n (senders_of (filter (λ q. not (q.sender == n)) ps)) ≡ false
      none_left [] = refl
      none_left (x ∷ xs) = step (x.sender == n) refl (none_left xs)
        where
          step : (b : Bool) → (x.sender == n) ≡ b → has_number n (senders_of (filter (λ q. not (q.sender == n)) xs)) ≡ false
              → has_number n (senders_of (if not b then x ∷ filter (λ q. not (q.sender == n)) xs else filter (λ q. not (q.sender == n)) xs)) ≡ false
          step true e rest = rest
          step false e rest = ap₂ (λ (a b : Bool). a || b) e rest

      left_apart : (ps : List PipeState) → AreDistinct (senders_of ps) → AreDistinct (senders_of (filter (λ q. not (q.sender == n)) ps))
      left_apart [] apart = tt
      left_apart (x ∷ xs) apart = step (x.sender == n) (left_apart xs apart.1)
        where
          step : (b : Bool) → AreDistinct (senders_of (filter (λ q. not (q.sender == n)) xs))
              → AreDistinct (senders_of (if not b then x ∷ filter (λ q. not (q.sender == n)) xs else filter (λ q. not (q.sender == n)) xs))
          step true rest = rest
          step false rest = (fewer x.sender xs apart.0, rest)

      split : (m : ℕ) (xs ys : List PipeState) → has_number m (senders_of (xs ++ ys)) ≡ (has_number m (senders_of xs) || has_number m (senders_of ys))
      split m xs ys = ap (has_number m) (map-append (λ (r : PipeState). r.sender) xs ys) ∙ has-append m (senders_of xs) (senders_of ys)

      without : (ps : List PipeState) → AreDistinct (senders_of (ps ++ p.incoming.pipes)) → AreDistinct (senders_of (ps ++ left))
      without [] apart = left_apart p.incoming.pipes apart
      without (x ∷ xs) apart =
          let parts = or_parts (has_number x.sender (senders_of xs)) (has_number x.sender (senders_of p.incoming.pipes)) (sym (split x.sender xs p.incoming.pipes) ∙ apart.0) in
          (split x.sender xs left ∙ ap₂ (λ (a b : Bool). a || b) parts.0 (fewer x.sender p.incoming.pipes parts.1), without xs apart.1)

      moved : (q : PipeState) → q.sender ≡ n → (ps : List PipeState) → has_number n (senders_of p.incoming.pipes) ≡ true → AreDistinct (senders_of (ps ++ p.incoming.pipes))
          → AreDistinct (senders_of ((ps ++ q ∷ []) ++ left))
      moved q is [] has apart = (ap (λ m. has_number m (senders_of left)) is ∙ none_left p.incoming.pipes, left_apart p.incoming.pipes apart)
      moved q is (x ∷ xs) has apart =
          let parts = or_parts (has_number x.sender (senders_of xs)) (has_number x.sender (senders_of p.incoming.pipes)) (sym (split x.sender xs p.incoming.pipes) ∙ apart.0) in (
            split x.sender (xs ++ q ∷ []) left
                ∙ ap₂ (λ (a b : Bool). a || b) (split x.sender xs (q ∷ []) ∙ ap₂ (λ (a b : Bool). a || (b || false)) parts.0 (ap (λ m. m == x.sender) is ∙ other (n == x.sender) refl parts.1))
                (fewer x.sender p.incoming.pipes parts.1),
            moved q is xs has apart.1,
          )
        where
          other : (b : Bool) → (n == x.sender) ≡ b → has_number x.sender (senders_of p.incoming.pipes) ≡ false → b ≡ false
          other false e off = refl
          other true e off = absurd (true≢false (sym has ∙ ap (λ m. has_number m (senders_of p.incoming.pipes)) (eqb-true n x.sender e) ∙ off))

  -- a server that keeps nothing keeps nothing then
  pub none_cut : p.role ≡ Server → t.settings.fire_and_forget ≡ false → (cut_from n p).expired.pipes ≡ []
  none_cut role off =
      by_kept (λ c. c.pipes ≡ []) p.expired o ((may.wired k p at).none_kept role off)
      (λ q e r. absurd (never (length p.expired.pipes) (ltb-true (length p.expired.pipes) p.expired.most r)))
      (λ q e r. absurd (never 0 (ltb-true 0 p.expired.most r)))
    where
      none : p.expired.most ≡ 0
      none =
          (may.kept k p at).room ∙ ap (room_for_gone t.settings) role
          ∙ ap (λ (b : Bool). if b then t.settings.server_expired else 0) off

      never : (a : ℕ) → a < p.expired.most → ⊥
      never a low = let zero = none in absurd (omega (arith, low, zero))
