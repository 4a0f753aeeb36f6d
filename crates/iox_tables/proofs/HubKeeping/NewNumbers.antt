-- Once a port is made, no number is used twice, and the next one was never used.
use Rattle.std.specs.Prelude.{◌≡◌, ◌⊎◌, ℕ, ◌+◌, ◌<◌, Bool, true, false, ◌==◌, List, [], ◌∷◌, ◌++◌, map, Option, Some, refl}
use Rattle.std.specs.Option.{option_map_or}
use Rattle.std.proofs.Common.{sym, ap, subst, ◌∙◌, arith, inl, inr, eqb-true, true≢false}
use Rattle.iox_model.specs.Maps.{AreDistinct, has_number}
use Rattle.iox_laws.proofs.WeaveLedger.Lists.{IsAmong, NoRepeats, among-append, among-back, among-front, among-number, distinct-no_repeats, no_repeats-distinct, number-among}
use Rattle.iox_tables.specs.HubStates.Tables.{HubTables, PoolState, PortState, numbers_of, pool_at, port_in, senders_of}
use Rattle.iox_lanes.specs.Incomings.{IncomingState}
use Rattle.iox_tables.specs.HubBooks.Hubs.{AreInOrder, HaveNumbers, numbers_in}
use Rattle.iox_tables.specs.HubMaking.FreePools.{IsPut}
use Rattle.iox_tables.specs.HubMaking.NewPorts.{pool_made, with_port_made}
use Rattle.iox_tables.specs.HubKeeping.Keeps.{MayBeMade}
use Rattle.iox_tables.proofs.HubKeeping.NewPorts.{Was, is_new, port_was, shows}

-- one more in the middle
no_repeats-inside : (x : ℕ) (xs ys : List ℕ) → NoRepeats (xs ++ ys) → (IsAmong x (xs ++ ys) → ⊥) → NoRepeats ((xs ++ x ∷ []) ++ ys)
no_repeats-inside x [] ys d f = (f, d)
no_repeats-inside x (z ∷ zs) ys d f = (apart, no_repeats-inside x zs ys d.1 (λ p. f (inr p)))
  where
    at_front : IsAmong z zs ⊎ IsAmong z (x ∷ []) → ⊥
    at_front (inl p) = d.0 (among-front z zs ys p)
    at_front (inr (inl e)) = f (inl (sym e))
    at_front (inr (inr never)) = never

    either : IsAmong z (zs ++ x ∷ []) ⊎ IsAmong z ys → ⊥
    either (inl p) = at_front (among-append z zs (x ∷ []) p)
    either (inr p) = d.0 (among-back z zs ys p)

    apart : IsAmong z ((zs ++ x ∷ []) ++ ys) → ⊥
    apart p = either (among-append z (zs ++ x ∷ []) ys p)

module _ (t : HubTables) (new : PortState) (pools : List (Option PoolState)) (order : AreInOrder t) (may : MayBeMade t new)
    (put : IsPut t.pools new.pool (pool_made new) pools)
  where
    abbrev u : HubTables
    u = with_port_made t new pools

    pub numbers : HaveNumbers u
    numbers = record { apart = apart; below = below; owners = owners; kept = λ n p at k has. kept n p k has (port_was t new pools order may put n p at) }
      where
        names : List ℕ
        names = map (λ h. h.number) t.handles

        are : numbers_in u ≡ (numbers_of t.ports ++ new.number ∷ []) ++ names
        are = ap (λ ns. ns ++ names) (is_new t new pools order may put).numbers

        unused : IsAmong new.number (numbers_in t) → ⊥
        unused among = let low = order.numbers.below new.number (among-number new.number (numbers_in t) among) in let e = may.number in omega (arith, low, e)

        apart : AreDistinct (numbers_in u)
        apart =
            subst AreDistinct (sym are)
            (no_repeats-distinct ((numbers_of t.ports ++ new.number ∷ []) ++ names) (no_repeats-inside new.number (numbers_of t.ports) names (distinct-no_repeats (numbers_in t) order.numbers.apart) unused))

        old : (n : ℕ) → IsAmong n (numbers_in t) → n < t.next_number + 1
        old n among = let low = order.numbers.below n (among-number n (numbers_in t) among) in omega (arith, low)

        port : (n : ℕ) → IsAmong n (numbers_of t.ports) ⊎ IsAmong n (new.number ∷ []) → n < t.next_number + 1
        port n (inl p) = old n (among-front n (numbers_of t.ports) names p)
        port n (inr (inl e)) = let is = may.number in omega (arith, e, is)
        port n (inr (inr never)) = absurd never

        either : (n : ℕ) → IsAmong n (numbers_of t.ports ++ new.number ∷ []) ⊎ IsAmong n names → n < t.next_number + 1
        either n (inl p) = port n (among-append n (numbers_of t.ports) (new.number ∷ []) p)
        either n (inr p) = old n (among-back n (numbers_of t.ports) names p)

        below : (n : ℕ) → has_number n (numbers_in u) ≡ true → n < t.next_number + 1
        below n has =
            either n (among-append n (numbers_of t.ports ++ new.number ∷ []) names (number-among n ((numbers_of t.ports ++ new.number ∷ []) ++ names) (subst (λ ns. has_number n ns ≡ true) are has)))

        owners : (place : ℕ) (q : PoolState) → pool_at pools place ≡ Some q → q.port < t.next_number + 1
        owners place q at = step (place == new.pool) refl
          where
            step : (b : Bool) → (place == new.pool) ≡ b → q.port < t.next_number + 1
            step false e = let low = order.numbers.owners place q (put.others place e ∙ at) in omega (arith, low)
            step true e =
                let is : q.port ≡ new.number = ap (λ (o : Option PoolState). option_map_or (λ x. x.port) o 0) (sym at ∙ ap (pool_at pools) (eqb-true place new.pool e) ∙ put.there) in
                let n = may.number in omega (arith, is, n)

        more : (k : ℕ) → k < t.next_number → k < t.next_number + 1
        more k low = omega (arith, low)

        kept : (n : ℕ) (p : PortState) (k : ℕ) → has_number k (senders_of p.expired.pipes) ≡ true → Was t new pools order may put n p → k < t.next_number + 1
        kept n p k has (inl q) =
            more k (order.numbers.kept n q.0 q.1 k
            (sym (ap (λ (x : PortState). has_number k (senders_of x.expired.pipes)) q.2
            ∙ ap (λ (c : IncomingState). has_number k (senders_of c.pipes)) (shows t new pools order may put (λ x. x.expired) (λ x ps. refl) q.0)) ∙ has))
        kept n p k has (inr q) =
            absurd (true≢false
            (sym has ∙ ap (λ (x : PortState). has_number k (senders_of x.expired.pipes)) q.1 ∙ ap (λ (c : IncomingState). has_number k (senders_of c.pipes)) may.none))
