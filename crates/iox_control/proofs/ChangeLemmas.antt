-- A handle is changed or dropped by its number only, if it is the node's.
use Rattle.std.specs.Prelude.{◌≡◌, ℕ, ◌+◌, Bool, true, false, ◌&&◌, ◌==◌, if◌then◌else◌, List, [], ◌∷◌, Option, IsSome, Some, None, refl}
use Rattle.std.proofs.Common.{sym, ap, ◌∙◌, true≢false}
use Rattle.std.proofs.lemmas.Option.{none-some}
use Rattle.iox_handles.specs.declared.entry.Entry.{Entry}
use Rattle.iox_handles.specs.Tables.{Contents, IsSound, changed, handle_at, handle_of, removed}
use Rattle.iox_hub_ports.specs.HubStates.Tables.{HandleState, PoolState}
use Rattle.iox_hub_ports.specs.HubStates.Ends.{changed_handles, with_changed}
use Rattle.iox_hub_ports.specs.HubStates.Wirings.{handle_in}
use Rattle.iox_hub_ports.specs.Ports.{PortsState}
use Rattle.iox_control.specs.declared.settings.Settings.{Settings}
use Rattle.iox_control.specs.Controls.{ControlState, control_of, with_handle_dropped, with_tables}
use Rattle.iox_control.specs.Entries.{handle_state, handles_of}
use Rattle.iox_control.proofs.EntryLemmas.{changed_by_number, dropped_by_number, entry_of, its_own}

-- nothing changes where there is no such handle
changed_none : (hs : List HandleState) (h : HandleState) → handle_in hs h.node h.number ≡ None → changed_handles h hs ≡ hs
changed_none [] h e = refl
changed_none (k ∷ ks) h e = step ((k.node == h.node) && (k.number == h.number)) e (changed_none ks h)
  where
    step : (b : Bool) → (if b then Some k else handle_in ks h.node h.number) ≡ None
        → (handle_in ks h.node h.number ≡ None → changed_handles h ks ≡ ks)
        → (if b then h ∷ ks else k ∷ changed_handles h ks) ≡ k ∷ ks
    step true none more = absurd (none-some k (sym none))
    step false none more = ap (λ xs. k ∷ xs) (more none)

module _ (settings : Settings) (calls next made : ℕ) (ports : PortsState) (old : Contents) (pools : List (Option PoolState)) where
  abbrev all : Contents → ControlState
  all handles = control_of settings calls next made ports handles pools

  -- ---- a change

  pub changes : (new : Contents) (e entry : Entry) → new ≡ changed old entry → Some e ≡ handle_at old entry.number → e.node ≡ entry.node
      → all new ≡ with_tables (all old) (with_changed (all old).tables (handle_state entry))
  changes new e entry is at of =
      ap all is
      ∙ ap (λ hs. with_tables (all old) (record ((all old).tables) { handles = hs })) (sym (changed_by_number old e entry (sym at) of))

  stays : (entry : Entry) → handle_in (handles_of old) entry.node entry.number ≡ None
      → all old ≡ with_tables (all old) (with_changed (all old).tables (handle_state entry))
  stays entry none =
      ap (λ hs. with_tables (all old) (record ((all old).tables) { handles = hs })) (sym (changed_none (handles_of old) (handle_state entry) none))

  -- as the table of handles tells it
  pub changes_of : (new : Contents) (entry : Entry) (o : Option Entry) → IsSound old → o ≡ handle_of old entry.node entry.number
      → (IsSome o → new ≡ changed old entry) → (o ≡ None → new ≡ old)
      → all new ≡ with_tables (all old) (with_changed (all old).tables (handle_state entry))
  changes_of new entry None sound found some none =
      ap all (none refl) ∙ stays entry (sym (entry_of old entry.node entry.number None sound found))
  changes_of new entry (Some e) sound found some none =
      let own = its_own (handle_at old entry.number) entry.node e found in changes new e entry (some refl) own.0 own.1

  -- ---- a removal

  pub drops : (new : Contents) (node n : ℕ) (e : Entry) → new ≡ removed old n → IsSound old → Some e ≡ handle_at old n → e.node ≡ node
      → all new ≡ with_handle_dropped (all old) node n
  drops new node n e is sound at of =
      ap all is
      ∙ ap (λ hs. record (with_tables (all old) (record ((all old).tables) { handles = hs })) { room = (all old).room + 1 })
      (sym (dropped_by_number old node n e sound (sym at) of))

  -- as the table of handles tells it
  pub drops_of : (new : Contents) (node n : ℕ) (o : Option Entry) → IsSound old → o ≡ handle_of old node n
      → (IsSome o → new ≡ removed old n) → IsSome o → all new ≡ with_handle_dropped (all old) node n
  drops_of new node n None sound found is some = absurd (true≢false (sym some))
  drops_of new node n (Some e) sound found is some =
      let own = its_own (handle_at old n) node e found in drops new node n e (is refl) sound own.0 own.1
