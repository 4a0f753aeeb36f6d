-- Loans that are filled where their messages have so many elements.
use Rattle.std.specs.Prelude.{ℕ, Bool, false, if◌then◌else◌, ◌==◌, List, Option, Some, None}
use Rattle.std.specs.Option.{option_map, option_map_or}
use Rattle.iox_model.specs.declared.kind.Kind.{Kind}
use Rattle.iox_model.specs.Handles.{filled_kind}
use Rattle.iox_hub_ports.specs.HubBooks.Handles.{is_loan}
use Rattle.iox_hub_ports.specs.HubStates.Tables.{HandleState, PoolState, slot_at}

-- the kind of a loan once it is filled; no other handle may be
abbrev pub filled_if_loan : Kind → Option Kind
filled_if_loan kind = if is_loan kind then Some (filled_kind kind) else None

-- whether the message in that slot has so many elements
abbrev pub has_elements : List (Option PoolState) → ℕ → ℕ → Option ℕ → Bool
has_elements pools pool slot elements =
    option_map_or (λ k. k == (slot_at pools pool slot).elements) elements false

-- the kind that a loan gets, where its message has so many elements
abbrev pub kind_fitting : List (Option PoolState) → Option ℕ → HandleState → Option Kind
kind_fitting pools elements h =
    if has_elements pools h.pool h.slot elements then filled_if_loan h.kind else None

-- the handle of a loan that is filled so, if it is one and has so many elements
abbrev pub fitted : List (Option PoolState) → Option ℕ → HandleState → Option HandleState
fitted pools elements h = option_map (λ kind. record h { kind = kind }) (kind_fitting pools elements h)
