-- A service has what its hub has.
use Rattle.std.specs.Prelude.{◌≡◌, ◌↔◌, ℕ, Bool, true, false, if◌then◌else◌, ◌==◌, IsTrue, Option, Some, None, refl}
use Rattle.std.specs.Option.{option_map_or}
use Rattle.std.proofs.Common.{ap, sym, ◌∙◌, eq-eqb, eqb-true, true≢false}
use Rattle.iox_model.specs.declared.kind.Kind.{Kind}
use Rattle.iox_model.specs.declared.kind.Kind.TheVariants as kinds
use Rattle.iox_model.specs.Handles.{has, kind_code, same_kind}
use Rattle.iox_model.specs.States.{Members}
use Rattle.iox_tables.specs.HubLoans.Questions.{kind_in}
use Rattle.iox_tables.proofs.HubLoans.Asked.{each_value_is_there}
use Rattle.iox_port_commands.specs.Hubs.{HasValue, HubState, given_by}
use Rattle.iox_nodes.specs.Shown.{given_for, state_of}

abbrev kind_of_code : ℕ → Kind
kind_of_code n =
    if n == 0 then kinds.Client else if n == 1 then kinds.Server else if n == 2 then kinds.RequestMutUninit else if n == 3 then kinds.RequestMut
    else if n == 4 then kinds.ResponseMutUninit else if n == 5 then kinds.ResponseMut else if n == 6 then kinds.PendingResponse
    else if n == 7 then kinds.ActiveRequest else kinds.Response

code_and_back : (k : Kind) → kind_of_code (kind_code k) ≡ k
code_and_back kinds.Client = refl
code_and_back kinds.Server = refl
code_and_back kinds.RequestMutUninit = refl
code_and_back kinds.RequestMut = refl
code_and_back kinds.ResponseMutUninit = refl
code_and_back kinds.ResponseMut = refl
code_and_back kinds.PendingResponse = refl
code_and_back kinds.ActiveRequest = refl
code_and_back kinds.Response = refl

same_kinds : (a b : Kind) → same_kind a b ≡ true → a ≡ b
same_kinds a b e = sym (code_and_back a) ∙ ap kind_of_code (eqb-true (kind_code a) (kind_code b) e) ∙ code_and_back b

-- whether a value is of that kind, if there is one
abbrev is_kind : Kind → Option Kind → Bool
is_kind kind o = option_map_or (λ k. same_kind k kind) o false

found_kind : (o : Option Kind) (kind : Kind) → is_kind kind o ≡ true → o ≡ Some kind
found_kind None kind e = absurd (true≢false (sym e))
found_kind (Some k) kind e = ap Some (same_kinds k kind e)

kind_told : (o : Option Kind) (kind : Kind) (b : Bool) → (IsTrue b ↔ (o ≡ Some kind)) → b ≡ is_kind kind o
kind_told o kind true so = sym (ap (is_kind kind) (so.0 refl) ∙ eq-eqb (kind_code kind) (kind_code kind) refl)
kind_told o kind false so = step (is_kind kind o) refl
  where
    step : (c : Bool) → is_kind kind o ≡ c → false ≡ c
    step false e = refl
    step true e = absurd (true≢false (sym (so.1 (found_kind o kind e))))

pub has_so : (x : Members) (h : HubState) (node n : ℕ) (kind : Kind) (b : Bool) → (IsTrue b ↔ HasValue h node n kind)
    → b ≡ has (state_of x h).fixed node n kind
has_so x h node n kind b so =
    kind_told (kind_in h.control.tables node n) kind b so
    ∙ sym (each_value_is_there (given_by (given_for x) h) h.control.tables node n kind).has_it
