-- The first of a number is the only one where no number comes twice; and pipes have room.
use Rattle.std.specs.Prelude.{◌≡◌, ℕ, suc, ◌+◌, ◌≤◌, ◌<◌, Bool, true, false, not, if◌then◌else◌, ◌==◌, nat_le, nat_lt, List, [], ◌∷◌, ◌++◌, map, filter, length, Option, Some, is_some, refl}
use Rattle.std.proofs.Common.{sym, ap, ap₂, ◌∙◌, arith, append_assoc, length-append, true≢false, subst, eqb-true}
use Rattle.std.proofs.lemmas.Bool.{leb-false, lt-ltb, or_parts}
use Rattle.std.proofs.lemmas.List.{append-nil}
use Rattle.iox_model.specs.Maps.{AreDistinct, has_number}
use Rattle.iox_model.specs.Settings.{other_role}
use Rattle.iox_laws.proofs.WeaveLaws.MapLemmas.{eqb-refl}
use Rattle.iox_lanes.specs.Incomings.{IncomingState, connected}
use Rattle.iox_lanes.specs.Pipes.{PipeState}
use Rattle.iox_tables.specs.HubStates.Tables.{PortState, numbers_of, pipe_from, port_in, senders_of}
use Rattle.iox_tables.specs.HubStates.Wirings.{numbers_of_role}
use Rattle.iox_tables.specs.HubMaking.Disconnections.{cut_from}
use Rattle.iox_tables.specs.HubMaking.Expirings.{with_expired}
use Rattle.iox_tables.specs.HubMaking.NewPorts.{connected_from, connected_to, is_other, pipe_between}
use Rattle.iox_tables.specs.HubMaking.OneByOne.{NewPipesHaveRoom, PortsGoOneByOne, all_connected, most_of, without_first_by, without_first_pipe}
use Rattle.iox_tables.proofs.HubMaking.Connecting.{other_twice, same_roles}
use Rattle.iox_tables.proofs.HubMaking.Firsts.{has_first}

-- ---- removals

module _ {A : Type 0} (key : A → ℕ) (n : ℕ) where
  -- where the number is not there, all stay
  pub all_stay : (xs : List A) → has_number n (map key xs) ≡ false → xs ≡ filter (λ x. not (key x == n)) xs
  all_stay [] e = refl
  all_stay (x ∷ xs) e =
      ap (λ zs. x ∷ zs) (all_stay xs (or_parts (key x == n) (has_number n (map key xs)) e).1)
      ∙ sym (ap (λ (b : Bool). if not b then x ∷ filter (λ x. not (key x == n)) xs else filter (λ x. not (key x == n)) xs) (or_parts (key x == n) (has_number n (map key xs)) e).0)

  pub only_one : (xs : List A) → AreDistinct (map key xs) → without_first_by key xs n ≡ filter (λ x. not (key x == n)) xs
  only_one [] apart = refl
  only_one (x ∷ xs) apart = step (key x == n) refl (only_one xs apart.1)
    where
      step : (b : Bool) → (key x == n) ≡ b → without_first_by key xs n ≡ filter (λ x. not (key x == n)) xs
          → (if b then xs else x ∷ without_first_by key xs n) ≡ (if not b then x ∷ filter (λ x. not (key x == n)) xs else filter (λ x. not (key x == n)) xs)
      step true is rest = all_stay xs (ap (λ k. has_number k (map key xs)) (sym (eqb-true (key x) n is)) ∙ apart.0)
      step false is rest = ap (λ zs. x ∷ zs) rest

-- what stands behind others is distinct, too
pub distinct_behind : (ks ns : List ℕ) → AreDistinct (ks ++ ns) → AreDistinct ns
distinct_behind [] ns apart = apart
distinct_behind (k ∷ ks) ns apart = distinct_behind ks ns apart.1

pub senders_append : (ps qs : List PipeState) → senders_of (ps ++ qs) ≡ senders_of ps ++ senders_of qs
senders_append [] qs = refl
senders_append (p ∷ ps) qs = ap (λ ks. p.sender ∷ ks) (senders_append ps qs)

module _ (n : ℕ) where
  -- it is so of the port, and of those behind it
  pipes_cut : (ports : List PortState) → ((k : ℕ) (p : PortState) → port_in ports k ≡ Some p → AreDistinct (senders_of p.incoming.pipes)) → AreDistinct (numbers_of ports)
      → (test : PortState → Bool) → map (without_first_pipe n) (filter test ports) ≡ map (cut_from n) (filter test ports)
  pipes_cut [] each apart test = refl
  pipes_cut (p ∷ ps) each apart test = step (test p) (pipes_cut ps behind apart.1 test)
    where
      behind : (k : ℕ) (q : PortState) → port_in ps k ≡ Some q → AreDistinct (senders_of q.incoming.pipes)
      behind k q is = each k q (other (p.number == k) refl)
        where
          other : (b : Bool) → (p.number == k) ≡ b → (if b then Some p else port_in ps k) ≡ Some q
          other false e = is
          other true e =
              absurd (true≢false
              (sym (has_first (λ z. z.number) ps k ∙ ap (λ (o : Option PortState). is_some o) is)
              ∙ ap (λ j. has_number j (numbers_of ps)) (sym (eqb-true p.number k e)) ∙ apart.0))

      here : without_first_pipe n p ≡ cut_from n p
      here = ap (λ ps. record p { expired = with_expired p.expired (pipe_from p.incoming.pipes n); incoming = record (p.incoming) { pipes = ps } })
          (only_one (λ q. q.sender) n p.incoming.pipes (each p.number p (ap (λ (b : Bool). if b then Some p else port_in ps p.number) (eqb-refl p.number))))

      step : (b : Bool) → map (without_first_pipe n) (filter test ps) ≡ map (cut_from n) (filter test ps)
          → map (without_first_pipe n) (if b then p ∷ filter test ps else filter test ps) ≡ map (cut_from n) (if b then p ∷ filter test ps else filter test ps)
      step true rest = ap₂ (λ q qs. q ∷ qs) here rest
      step false rest = rest

pub ports_go_one_by_one : PortsGoOneByOne
ports_go_one_by_one t n are =
    ap (map (without_first_pipe n)) (only_one (λ p. p.number) n t.ports are.apart)
    ∙ pipes_cut n t.ports
    (λ k p is. distinct_behind (senders_of p.expired.pipes) (senders_of p.incoming.pipes) (subst AreDistinct (senders_append p.expired.pipes p.incoming.pipes) (are.wired k p is).apart))
    are.apart (λ p. not (p.number == n))

-- ---- room

below : (a b : ℕ) → nat_le b a ≡ false → nat_lt a b ≡ true
below a b e = lt-ltb a b (leb-false b a e)

lengths : {A : Type 0} (f : A → ℕ) (xs : List A) → length (map f xs) ≡ length xs
lengths f [] = refl
lengths f (x ∷ xs) = omega (arith, lengths f xs)

-- pipes for which there is room come one after another
all_come : (c : IncomingState) (qs : List PipeState) → length c.pipes + length qs ≤ c.most → all_connected c qs ≡ record c { pipes = c.pipes ++ qs }
all_come c [] fits = λ i. record c { pipes = sym (append-nil c.pipes) i }
all_come c (q ∷ qs) fits =
    ap (λ (b : Bool). all_connected (if b then record c { pipes = c.pipes ++ q ∷ [] } else c) qs) (room (length c.pipes) (length qs) c.most fits)
    ∙ all_come (record c { pipes = c.pipes ++ q ∷ [] }) qs (still (length c.pipes) (length qs) c.most (length (c.pipes ++ q ∷ [])) (length-append c.pipes (q ∷ [])) fits)
    ∙ ap (λ ps. record c { pipes = ps }) (append_assoc c.pipes (q ∷ []) qs)
  where
    room : (a b m : ℕ) → a + suc b ≤ m → nat_lt a m ≡ true
    room a b m e = lt-ltb a m (less a b m e)
      where
        less : (a b m : ℕ) → a + suc b ≤ m → a < m
        less a b m e = omega (arith, e)

    still : (a b m l : ℕ) → l ≡ a + 1 → a + suc b ≤ m → l + b ≤ m
    still a b m l e h = omega (arith, e, h)

pub new_pipes_have_room : NewPipesHaveRoom
new_pipes_have_room t new are have more = record { others = others; newest = last }
  where
    others : (n : ℕ) (p : PortState) → port_in t.ports n ≡ Some p → is_other p new ≡ true
        → connected_to t.settings new p ≡ record p { incoming = connected p.incoming (pipe_between t.settings new p) }
    others n p is other =
        ap (λ (b : Bool). if b then wider else p) other
        ∙ sym (ap (λ (b : Bool). record p { incoming = if b then wider.incoming else p.incoming }) room)
      where
        wider : PortState
        wider = record p { incoming = record (p.incoming) { pipes = p.incoming.pipes ++ pipe_between t.settings new p ∷ [] } }

        roles : other_role p.role ≡ new.role
        roles = ap other_role (same_roles p.role (other_role new.role) other) ∙ sym (other_twice new.role)

        count : length p.incoming.pipes ≡ length (numbers_of_role new.role t.ports)
        count = sym (lengths (λ q. q.sender) p.incoming.pipes) ∙ ap (λ (ks : List ℕ). length ks) ((are.wired n p is).senders ∙ ap (λ r. numbers_of_role r t.ports) roles)

        room : nat_lt (length p.incoming.pipes) p.incoming.most ≡ true
        room =
            ap₂ nat_lt count (have.most n p is ∙ ap (most_of t.settings) roles)
            ∙ below (length (numbers_of_role new.role t.ports)) (most_of t.settings new.role) more

    last : new.incoming.pipes ≡ [] → new.incoming.most ≡ most_of t.settings (other_role new.role)
        → connected_from t.settings t.ports new
        ≡ record new { incoming = all_connected new.incoming (map (λ p. pipe_between t.settings p new) (filter (λ p. is_other p new) t.ports)) }
    last bare most = sym (
        ap (λ c. record new { incoming = c })
        (all_come new.incoming qs fits ∙ ap (λ (ps : List PipeState). record (new.incoming) { pipes = ps ++ qs }) bare))
      where
        qs : List PipeState
        qs = map (λ p. pipe_between t.settings p new) (filter (λ p. is_other p new) t.ports)

        count : length qs ≡ length (numbers_of_role (other_role new.role) t.ports)
        count = same (filter (λ p. is_other p new) t.ports)
          where
            same : (ps : List PortState) → length (map (λ p. pipe_between t.settings p new) ps) ≡ length (map (λ (p : PortState). p.number) ps)
            same [] = refl
            same (p ∷ ps) = omega (arith, same ps)

        fits : length new.incoming.pipes + length qs ≤ new.incoming.most
        fits = sums (length new.incoming.pipes) (length qs) _ new.incoming.most _ (ap (λ (ps : List PipeState). length ps) bare) count most (have.few (other_role new.role))
          where
            sums : (a b c m d : ℕ) → a ≡ 0 → b ≡ c → m ≡ d → c ≤ d → a + b ≤ m
            sums a b c m d e f g h = omega (arith, e, f, g, h)
