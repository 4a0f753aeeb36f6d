-- The handlers that are listed, as a list changes.
use Rattle.std.specs.Prelude.{◌≡◌, ℕ, zero, suc, ◌<◌, length, Bool, true, false, not, ◌&&◌, ◌==◌, if◌then◌else◌, List, [], ◌∷◌, ◌++◌, filter, find, map, Option, Some, None, is_some, refl}
use Rattle.std.specs.Option.{option_map, option_map_or}
use Rattle.std.proofs.Common.{sym, ap, subst, ◌∙◌, ◌+◌, arith, drop, get_or, eq-eqb, eqb-true}
use Rattle.std.proofs.lemmas.Bool.{eqb-false, ne_eqb}
use Rattle.iox_tables.specs.HubStates.Tables.{PortState}
use Rattle.iox_tables.specs.HubStates.Steps.{is_there}
use Rattle.iox_backpressure.specs.Handlers.{PortWords, handler_in, handlers_with, is_kept}

abbrev words_in : Option PortWords → Option (List ℕ)
words_in o = option_map (λ (x : PortWords). x.1) o

-- one more handler is listed: the first of a port counts
one_more : (list : List PortWords) (x : PortWords) (n : ℕ)
    → handler_in (list ++ x ∷ []) n ≡ (if is_some (handler_in list n) then handler_in list n else handler_in (x ∷ []) n)
one_more [] x n = refl
one_more (y ∷ list) x n = step (y.0 == n) (one_more list x n)
  where
    step : (b : Bool) → handler_in (list ++ x ∷ []) n ≡ (if is_some (handler_in list n) then handler_in list n else handler_in (x ∷ []) n)
        → words_in (if b then Some y else find (λ (z : PortWords). z.0 == n) (list ++ x ∷ []))
        ≡ (if is_some (words_in (if b then Some y else find (λ (z : PortWords). z.0 == n) list))
        then words_in (if b then Some y else find (λ (z : PortWords). z.0 == n) list) else handler_in (x ∷ []) n)
    step true more = refl
    step false more = more

-- of those that pass a test of their port, a port has the one that it had
filtered : (test : ℕ → Bool) (list : List PortWords) (n : ℕ) → handler_in (filter (λ x. test x.0) list) n ≡ (if test n then handler_in list n else None)
filtered test [] n = step (test n)
  where
    step : (b : Bool) → handler_in [] n ≡ (if b then handler_in [] n else None)
    step true = refl
    step false = refl
filtered test (y ∷ list) n = own (y.0 == n) refl (test y.0) refl (filtered test list n)
  where
    own : (b : Bool) → (y.0 == n) ≡ b → (c : Bool) → test y.0 ≡ c → handler_in (filter (λ x. test x.0) list) n ≡ (if test n then handler_in list n else None)
        → words_in (find (λ (z : PortWords). z.0 == n) (if c then y ∷ filter (λ x. test x.0) list else filter (λ x. test x.0) list))
        ≡ (if test n then words_in (if b then Some y else find (λ (z : PortWords). z.0 == n) list) else None)
    own true e true t more =
        ap (λ (b : Bool). words_in (if b then Some y else find (λ (z : PortWords). z.0 == n) (filter (λ x. test x.0) list))) e
        ∙ sym (ap (λ (b : Bool). if b then Some y.1 else None) (ap test (sym (eqb-true y.0 n e)) ∙ t))
    own true e false t more =
        more
        ∙ ap (λ (b : Bool). if b then handler_in list n else None) (ap test (sym (eqb-true y.0 n e)) ∙ t)
        ∙ sym (ap (λ (b : Bool). if b then Some y.1 else None) (ap test (sym (eqb-true y.0 n e)) ∙ t))
    own false e true t more =
        ap (λ (b : Bool). words_in (if b then Some y else find (λ (z : PortWords). z.0 == n) (filter (λ x. test x.0) list))) e ∙ more
    own false e false t more = more

-- a filter by ports goes past a map that leaves them
pub filter_past : {A : Type 0} (port : A → ℕ) (words : A → List ℕ) (test : ℕ → Bool) (xs : List A)
    → map (λ x. (port x, words x)) (filter (λ x. test (port x)) xs) ≡ filter (λ (x : PortWords). test x.0) (map (λ x. (port x, words x)) xs)
filter_past port words test [] = refl
filter_past port words test (x ∷ xs) = step (test (port x)) (filter_past port words test xs)
  where
    step : (b : Bool) → map (λ y. (port y, words y)) (filter (λ y. test (port y)) xs) ≡ filter (λ (y : PortWords). test y.0) (map (λ y. (port y, words y)) xs)
        → map (λ y. (port y, words y)) (if b then x ∷ filter (λ y. test (port y)) xs else filter (λ y. test (port y)) xs)
        ≡ (if b then (port x, words x) ∷ filter (λ (y : PortWords). test y.0) (map (λ y. (port y, words y)) xs)
        else filter (λ (y : PortWords). test y.0) (map (λ y. (port y, words y)) xs))
    step true more = ap (λ ys. (port x, words x) ∷ ys) more
    step false more = more

-- the map of one more
pub map_more : {A B : Type 0} (f : A → B) (xs : List A) (x : A) → map f (xs ++ x ∷ []) ≡ map f xs ++ f x ∷ []
map_more f [] x = refl
map_more f (y ∷ xs) x = ap (λ ys. f y ∷ ys) (map_more f xs x)

pub with_none : (xs : List PortWords) → xs ≡ xs ++ []
with_none [] = refl
with_none (x ∷ xs) = ap (λ ys. x ∷ ys) (with_none xs)

-- ---- a handler is looked for

-- among those from this place on, the first is of the port, or it is among the others
pub found_next : {A : Type 0} (f : A → PortWords) (xs : List A) (i n : ℕ) (d : A) → i < length xs
    → handler_in (drop i (map f xs)) n ≡ (if (f (get_or xs i d)).0 == n then Some (f (get_or xs i d)).1 else handler_in (drop (suc i) (map f xs)) n)
found_next f [] i n d within = absurd (omega arith)
found_next f (x ∷ xs) zero n d within = step ((f x).0 == n)
  where
    step : (b : Bool) → words_in (if b then Some (f x) else find (λ (z : PortWords). z.0 == n) (map f xs)) ≡ (if b then Some (f x).1 else handler_in (map f xs) n)
    step true = refl
    step false = refl
found_next f (x ∷ xs) (suc i) n d within = found_next f xs i n d (omega arith)

module _ {A : Type 0} (f : A → PortWords) (xs ys : List A) (same : xs ≡ ys) (list : List PortWords) (view : map f ys ≡ list) (i n : ℕ) (x : A) (is : x ≡ get_or xs i x)
    (within : i < length xs) (passed : handler_in (drop i list) n ≡ handler_in list n) where
  next : handler_in (drop i list) n ≡ (if (f x).0 == n then Some (f x).1 else handler_in (drop (i + 1) list) n)
  next =
      let more : suc i ≡ i + 1 = omega arith in
      subst (λ ws. handler_in (drop i ws) n ≡ (if (f x).0 == n then Some (f x).1 else handler_in (drop (i + 1) ws) n)) (ap (map f) same ∙ view)
      (found_next f xs i n x within
      ∙ ap (λ y. if (f y).0 == n then Some (f y).1 else handler_in (drop (suc i) (map f xs)) n) (sym is)
      ∙ ap (λ k. if (f x).0 == n then Some (f x).1 else handler_in (drop k (map f xs)) n) more)

  -- it is the one here
  pub found_here : (f x).0 ≡ n → Some (f x).1 ≡ handler_in list n
  found_here own = ap (λ (b : Bool). if b then Some (f x).1 else handler_in (drop (i + 1) list) n) (sym (eq-eqb (f x).0 n own)) ∙ sym next ∙ passed

  -- it is not the one here
  pub passed_here : ((f x).0 ≡ n → ⊥) → handler_in (drop (i + 1) list) n ≡ handler_in list n
  passed_here other = ap (λ (b : Bool). if b then Some (f x).1 else handler_in (drop (i + 1) list) n) (sym (ne_eqb (f x).0 n other)) ∙ sym next ∙ passed

-- ---- a handler is set

module _ (ports : List PortState) (port : ℕ) (old : List PortWords) where
  abbrev kept : List PortWords
  kept = filter (λ x. is_kept ports port x.0) old

  same_port : (n : ℕ) (b : Bool) → (n == port) ≡ b → (port == n) ≡ b
  same_port n true e = eq-eqb port n (sym (eqb-true n port e))
  same_port n false e = ne_eqb port n (λ same. eqb-false n port e (sym same))

  kept_in : (n : ℕ) (b : Bool) → (n == port) ≡ b → handler_in kept n ≡ (if not b && is_there ports n then handler_in old n else None)
  kept_in n b e = filtered (is_kept ports port) old n ∙ ap (λ (a : Bool). if not a && is_there ports n then handler_in old n else None) e

  -- what a port has then: the one that is set has the new one, and each other connected port has its own
  pub set_in : (new : Option (List ℕ)) (n : ℕ)
      → handler_in (handlers_with ports port new old) n ≡ (if n == port then new else if is_there ports n then handler_in old n else None)
  set_in new n = step new (n == port) refl
    where
      either : (o : Option (List ℕ)) → (if is_some o then o else None) ≡ o
      either (Some o) = refl
      either None = refl

      step : (new : Option (List ℕ)) (b : Bool) → (n == port) ≡ b
          → handler_in (kept ++ option_map_or (λ words. (port, words) ∷ []) new []) n ≡ (if b then new else if is_there ports n then handler_in old n else None)
      step None true e = ap (λ xs. handler_in xs n) (sym (with_none kept)) ∙ kept_in n true e
      step None false e = ap (λ xs. handler_in xs n) (sym (with_none kept)) ∙ kept_in n false e
      step (Some words) true e =
          one_more kept (port, words) n
          ∙ ap (λ (o : Option (List ℕ)). if is_some o then o else handler_in ((port, words) ∷ []) n) (kept_in n true e)
          ∙ ap (λ (b : Bool). words_in (if b then Some (port, words) else None)) (same_port n true e)
      step (Some words) false e =
          one_more kept (port, words) n
          ∙ ap (λ (b : Bool). if is_some (handler_in kept n) then handler_in kept n else words_in (if b then Some (port, words) else None)) (same_port n false e)
          ∙ either (handler_in kept n) ∙ kept_in n false e
