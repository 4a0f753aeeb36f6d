-- The place of a number is that of the first of that number.
use Rattle.std.specs.Prelude.{◌≡◌, ℕ, suc, ◌+◌, Bool, true, false, if◌then◌else◌, ◌==◌, List, [], ◌∷◌, Option, Some, None, is_some, unwrap_or, slice_get, slice_set, refl}
use Rattle.std.specs.List.{position_from}
use Rattle.std.specs.Option.{option_map_or}
use Rattle.std.proofs.Common.{sym, ap, ◌∙◌, cond, arith}
use Rattle.std.proofs.lemmas.Bool.{false≢true}
use Rattle.iox_lanes.specs.Pipes.{PipeState}
use Rattle.iox_tables.specs.HubStates.Tables.{first_by, with_first_by}
use Rattle.iox_tables.specs.HubStates.Places.{PlacesAreOfNumbers, RanksAreOfSenders}

-- the place of the first of that number, in a list behind others
record Placed {A : Type 0} (key : A → ℕ) (xs : List A) (s n i : ℕ) : Type 0 where
  at : ℕ
  is : i ≡ at + n
  there : slice_get xs at ≡ first_by key xs s
  changes : (f : A → A) → option_map_or (λ x. slice_set xs at (f x)) (slice_get xs at) xs ≡ with_first_by key f xs s

placed : {A : Type 0} (key : A → ℕ) (xs : List A) (s n i : ℕ) → position_from (λ x. key x == s) n xs ≡ Some i → Placed key xs s n i
placed key [] s n i e = absurd (false≢true (ap (λ (o : Option ℕ). is_some o) e))
placed {A = A} key (x ∷ xs) s n i e = step (key x == s) refl (placed key xs s (n + 1) i) e
  where
    behind : (f : A → A) (o : Option A) (j : ℕ) → option_map_or (λ y. x ∷ slice_set xs j (f y)) o (x ∷ xs) ≡ x ∷ option_map_or (λ y. slice_set xs j (f y)) o xs
    behind f (Some y) j = refl
    behind f None j = refl

    step : (b : Bool) → (key x == s) ≡ b → (position_from (λ x. key x == s) (n + 1) xs ≡ Some i → Placed key xs s (n + 1) i)
        → cond b (Some n) (position_from (λ x. key x == s) (n + 1) xs) ≡ Some i → Placed key (x ∷ xs) s n i
    step true is more h = record {
      at = 0;
      is = omega (arith, ap (λ (o : Option ℕ). unwrap_or o 0) h);
      there = ap (λ (b : Bool). if b then Some x else first_by key xs s) (sym is);
      changes = λ f. ap (λ (b : Bool). if b then f x ∷ xs else x ∷ with_first_by key f xs s) (sym is);
    }
    step false is more h =
        let r : Placed key xs s (n + 1) i = more h in record {
          at = suc r.at;
          is = omega (arith, r.is);
          there = r.there ∙ ap (λ (b : Bool). if b then Some x else first_by key xs s) (sym is);
          changes = λ f. behind f (slice_get xs r.at) r.at ∙ ap (λ ys. x ∷ ys) (r.changes f)
              ∙ ap (λ (b : Bool). if b then f x ∷ xs else x ∷ with_first_by key f xs s) (sym is);
        }

pub ranks_are_of_senders : RanksAreOfSenders
ranks_are_of_senders c sender rank e =
    let r : Placed (λ p. p.sender) c.pipes sender 0 rank = placed (λ p. p.sender) c.pipes sender 0 rank e in
    let at : rank ≡ r.at = omega (arith, r.is) in record {
      pipe = ap (slice_get c.pipes) at ∙ r.there;
      changes = λ h. ap (λ j. option_map_or (λ p. record c { pipes = slice_set c.pipes j (h p) }) (slice_get c.pipes j) c) at
          ∙ inside h r.at (slice_get c.pipes r.at) ∙ ap (λ ps. record c { pipes = ps }) (r.changes h);
    }
  where
    inside : (h : PipeState → PipeState) (j : ℕ) (o : Option PipeState)
        → option_map_or (λ p. record c { pipes = slice_set c.pipes j (h p) }) o c ≡ record c { pipes = option_map_or (λ p. slice_set c.pipes j (h p)) o c.pipes }
    inside h j (Some p) = refl
    inside h j None = refl

pub places_are_of_numbers : PlacesAreOfNumbers
places_are_of_numbers ports n place e =
    let r : Placed (λ p. p.number) ports n 0 place = placed (λ p. p.number) ports n 0 place e in
    let at : place ≡ r.at = omega (arith, r.is) in record {
      port = ap (slice_get ports) at ∙ r.there;
      changes = λ f. ap (λ j. option_map_or (λ p. slice_set ports j (f p)) (slice_get ports j) ports) at ∙ r.changes f;
    }
