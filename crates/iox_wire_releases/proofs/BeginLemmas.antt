-- How a release begins, by what its number names.
use Rattle.std.proofs.Common.{◌≡◌, ℕ, zero, suc, ◌<◌, ◌==◌, Bool, true, false, List, [], ◌∷◌, map, arith, Some, None, refl, ap, sym, ◌∙◌, true≢false}
use Rattle.std.specs.Prelude.{Option, find, position, nat_lt, cond, length, slice_get}
use Rattle.std.specs.List.{position_or_len}
use Rattle.std.specs.Option.{option_map_or, is_some}
use Rattle.std.proofs.lemmas.Bool.{ltb-true, ltb-false}
use Rattle.std.proofs.lemmas.List.Folds.{find_at}
use Rattle.std.proofs.lemmas.Option.{slice_get_past}
use Rattle.iox_model.specs.declared.call.Call.TheVariants.{Release}
use Rattle.iox_model.specs.Peers.{port_at}
use Rattle.iox_model.specs.States.{Port}
use Rattle.iox_word_places.specs.declared.plan.PlanPort.{PlanPort}
use Rattle.iox_word_places.specs.declared.plan.WirePlan.{WirePlan}
use Rattle.iox_wire_words.specs.Programs.{WireLayout}
use Rattle.iox_wire_locals.specs.declared.local.CallRefusal.TheVariants.{UnknownNumber, WrongKind}
use Rattle.iox_wire_locals.specs.declared.local.Ending.TheVariants.{Refuses}
use Rattle.iox_wire_locals.specs.declared.seat.Seat.{Seat}
use Rattle.iox_wire_locals.specs.declared.table.Entry.{Entry}
use Rattle.iox_wire_locals.specs.Begins.{begins_at}
use Rattle.iox_wire_locals.specs.Courses.{ended}
use Rattle.iox_wire_locals.specs.Known.{known}
use Rattle.iox_wire_locals.specs.ReceiveCourses.{releasing}
use Rattle.iox_wire_locals.specs.Tables.{Setting}
use Rattle.iox_wire_layouts.specs.PlansOf.{IsSettingOf}
use Rattle.iox_wire_layouts.proofs.Planned.{same_found}

abbrev pub is_there : {A : Type 0} → Option A → Bool
is_there o = option_map_or (λ a. true) o false

-- ---- by what is there

port_begins : (p : Setting) (x : Seat) (n : ℕ) (o : Option Port) (e : Option Entry) → is_there o ≡ true
    → ended x (Refuses WrongKind) ≡ begins_at p x (Release n) o e
port_begins p x n (Some q) e there = refl
port_begins p x n None e there = absurd (true≢false (sym there))

handle_begins : (p : Setting) (x : Seat) (n : ℕ) (o : Option Port) (h : Entry) → is_there o ≡ false
    → releasing p x h ≡ begins_at p x (Release n) o (Some h)
handle_begins p x n (Some q) h there = absurd (true≢false there)
handle_begins p x n None h there = refl

nothing_begins : (p : Setting) (x : Seat) (n : ℕ) (o : Option Port) → is_there o ≡ false
    → ended x (Refuses UnknownNumber) ≡ begins_at p x (Release n) o None
nothing_begins p x n (Some q) there = absurd (true≢false there)
nothing_begins p x n None there = refl

-- ---- by where the port stands

within : {X : Type 0} (xs : List X) (i : ℕ) → i < length xs → is_there (slice_get xs i) ≡ true
within [] i low = absurd (omega (arith, low))
within (x ∷ xs) zero low = refl
within (x ∷ xs) (suc i) low = within xs i (omega (arith, low))

is_found : {X : Type 0} (t : X → Bool) (xs : List X) (b : Bool) → is_some (position t xs) ≡ b → is_there (find t xs) ≡ b
is_found t xs b is = ap is_there (find_at t xs) ∙ by_case (nat_lt (position_or_len t xs) (length xs)) refl is
  where
    by_case : (c : Bool) → nat_lt (position_or_len t xs) (length xs) ≡ c
        → is_some (cond c (Some (position_or_len t xs)) None) ≡ b → is_there (slice_get xs (position_or_len t xs)) ≡ b
    by_case true less is = within xs (position_or_len t xs) (ltb-true _ _ less) ∙ is
    by_case false less is = ap is_there (slice_get_past xs (position_or_len t xs) (ltb-false _ _ less)) ∙ is

module _ (plan : WirePlan) (p : Setting) (x : Seat) (n : ℕ) (setting : IsSettingOf plan p) where
  port_is_there : is_there (port_at (known p x) n) ≡ is_there (find (λ (q : PlanPort). q.number == n) plan.ports.items)
  port_is_there =
      ap (λ (l : WireLayout). is_there (find (λ (r : Port). r.number == n) (map p.port l.sizes.ports))) setting.layout
      ∙ same_found (λ q. true) (λ r. true) false n (λ q r like. refl) plan.ports.items
      (map p.port (map (λ q. q.number) plan.ports.items)) setting.is_for.ports

  there_as : (o : Option ℕ) (b : Bool) → o ≡ position (λ (q : PlanPort). q.number == n) plan.ports.items → is_some o ≡ b
      → is_there (port_at (known p x) n) ≡ b
  there_as o b first is =
      port_is_there ∙ is_found (λ (q : PlanPort). q.number == n) plan.ports.items b (ap is_some (sym first) ∙ is)

  pub a_port_begins : (o : Option ℕ) (e : Option Entry) → o ≡ position (λ (q : PlanPort). q.number == n) plan.ports.items → is_some o ≡ true
      → ended x (Refuses WrongKind) ≡ begins_at p x (Release n) (port_at (known p x) n) e
  a_port_begins o e first is = port_begins p x n (port_at (known p x) n) e (there_as o true first is)

  pub a_handle_begins : (o : Option ℕ) (h : Entry) → o ≡ position (λ (q : PlanPort). q.number == n) plan.ports.items → is_some o ≡ false
      → releasing p x h ≡ begins_at p x (Release n) (port_at (known p x) n) (Some h)
  a_handle_begins o h first is = handle_begins p x n (port_at (known p x) n) h (there_as o false first is)

  pub nothing_is_begun : (o : Option ℕ) → o ≡ position (λ (q : PlanPort). q.number == n) plan.ports.items → is_some o ≡ false
      → ended x (Refuses UnknownNumber) ≡ begins_at p x (Release n) (port_at (known p x) n) None
  nothing_is_begun o first is = nothing_begins p x n (port_at (known p x) n) (there_as o false first is)
