-- A loan that is filled where its handle is at a hint.
use Rattle.std.specs.Prelude.{◌≡◌, ℕ, Bool, true, false, ◌==◌, if◌then◌else◌, List, Option, Some, None, is_some}
use Rattle.std.specs.Option.{option_and_then, option_map}
use Rattle.std.proofs.Common.{sym, ap, ◌∙◌}
use Rattle.std.proofs.lemmas.Option.{none-some, same_Some}
use Rattle.iox_handles.specs.declared.entry.Entry.{Entry}
use Rattle.iox_handles.specs.Tables.{Contents, IsSound, group_of, handle_at, handle_of, if_of, of_kind, turned}
use Rattle.iox_model.specs.declared.kind.Kind.{Kind}
use Rattle.iox_model.specs.declared.kind.Kind.TheVariants as kinds
use Rattle.iox_laws.proofs.WeaveLaws.MapLemmas.{eqb-refl}
use Rattle.iox_hub_ports.specs.HubStates.Tables.{HandleState, PoolState}
use Rattle.iox_hub_ports.specs.HubStates.Wirings.{handle_in}
use Rattle.iox_control.specs.Entries.{handle_state, handles_of}
use Rattle.iox_control.specs.Fittings.{filled_if_loan, has_elements, kind_fitting}
use Rattle.iox_control.proofs.EntryLemmas.{known_of}
use Rattle.iox_control.proofs.KnownEntries.{entry_there}

-- a loan that is filled is counted as it was
loan_group : (old filled : Kind) → filled_if_loan old ≡ Some filled → group_of filled ≡ group_of old
loan_group kinds.RequestMutUninit filled e = ap group_of (sym (same_Some kinds.RequestMut filled e))
loan_group kinds.RequestMut filled e = ap group_of (sym (same_Some kinds.RequestMut filled e))
loan_group kinds.ResponseMutUninit filled e = ap group_of (sym (same_Some kinds.ResponseMut filled e))
loan_group kinds.ResponseMut filled e = ap group_of (sym (same_Some kinds.ResponseMut filled e))
loan_group kinds.Client filled e = absurd (none-some filled e)
loan_group kinds.Server filled e = absurd (none-some filled e)
loan_group kinds.PendingResponse filled e = absurd (none-some filled e)
loan_group kinds.ActiveRequest filled e = absurd (none-some filled e)
loan_group kinds.Response filled e = absurd (none-some filled e)

fitting_group : (pools : List (Option PoolState)) (elements : Option ℕ) (h : HandleState) (kind : Kind)
    → kind_fitting pools elements h ≡ Some kind → group_of kind ≡ group_of h.kind
fitting_group pools elements h kind = step (has_elements pools h.pool h.slot elements)
  where
    step : (b : Bool) → (if b then filled_if_loan h.kind else None) ≡ Some kind → group_of kind ≡ group_of h.kind
    step true e = loan_group h.kind kind e
    step false e = absurd (none-some kind e)

abbrev turned_to : Option Kind → Entry → Option Entry
turned_to o h = option_map (λ kind. of_kind kind h) o

module _ (pools : List (Option PoolState)) (elements : Option ℕ) (kind : Kind) (old : Contents) (node n : ℕ) (sound : IsSound old)
    (has : is_some (handle_in (handles_of old) node n) ≡ true)
    (fits : (h : HandleState) → handle_in (handles_of old) node n ≡ Some h → kind_fitting pools elements h ≡ Some kind) where
  it_fits : (h : Entry) → handle_at old n ≡ Some h → kind_fitting pools elements (handle_state h) ≡ Some kind
  it_fits h at = fits (handle_state h) (sym (known_of old node n h sound (sym at) has))

  -- the kind that it gets is counted as its own is
  pub near_group : (h : Entry) → handle_at old n ≡ Some h → group_of kind ≡ group_of h.kind
  near_group h at = fitting_group pools elements (handle_state h) kind (it_fits h at)

  -- what is told of it is told of each loan that is filled so
  pub near_told : (e : Entry) → ((h : Entry) → handle_at old n ≡ Some h → e ≡ of_kind kind h)
      → Some e ≡ option_and_then (turned (λ h. kind_fitting pools elements (handle_state h))) (handle_of old node n)
  near_told e told =
      let there = entry_there old node n sound has in
      let own : handle_of old node n ≡ Some there.0
      = ap (option_and_then (if_of node)) there.1
      ∙ ap (λ (b : Bool). if b then Some there.0 else None) (ap (λ (k : ℕ). k == node) there.2 ∙ eqb-refl node) in
      ap (λ (k : Entry). Some k) (told there.0 there.1)
      ∙ sym (ap (option_and_then (turned (λ h. kind_fitting pools elements (handle_state h)))) own
      ∙ ap (λ (o : Option Kind). turned_to o there.0) (it_fits there.0 there.1))
