-- A handle that a node has, in the table of handles.
use Rattle.std.specs.Prelude.{◌≡◌, ℕ, Bool, true, false, ◌==◌, Option, Some, None, is_some, refl}
use Rattle.std.proofs.Common.{sym, ap, ◌∙◌, eqb-true}
use Rattle.std.proofs.lemmas.Bool.{false≢true}
use Rattle.iox_handles.specs.declared.entry.Entry.{Entry}
use Rattle.iox_handles.specs.Tables.{Contents, IsSound, handle_at}
use Rattle.iox_hub_ports.specs.HubStates.Tables.{HandleState}
use Rattle.iox_hub_ports.specs.HubStates.Wirings.{handle_in}
use Rattle.iox_model.specs.declared.kind.Kind.{Kind}
use Rattle.iox_control.specs.Entries.{handle_state, handles_of}
use Rattle.iox_control.proofs.EntryLemmas.{known_at, known_of, none_of_node}
use Rattle.iox_control.proofs.FittingLemmas.{number_of}

module _ (t : Contents) (node n : ℕ) (sound : IsSound t) (has : is_some (handle_in (handles_of t) node n) ≡ true) where
  -- it is there by its number, and the node's
  pub entry_there : (e : Entry) × (handle_at t n ≡ Some e) × (e.node ≡ node)
  entry_there = by_case (handle_at t n) refl
    where
      own : (e : Entry) → handle_at t n ≡ Some e → (b : Bool) → (e.node == node) ≡ b → (k : Entry) × (handle_at t n ≡ Some k) × (k.node ≡ node)
      own e at true is = (e, at, eqb-true e.node node is)
      own e at false is = absurd (false≢true (ap (λ (o : Option HandleState). is_some o) (sym (none_of_node t node n e sound at is)) ∙ has))

      by_case : (o : Option Entry) → handle_at t n ≡ o → (k : Entry) × (handle_at t n ≡ Some k) × (k.node ≡ node)
      by_case None at = absurd (false≢true (ap (λ (o : Option Entry). is_some o) (sym at) ∙ known_at t node n has))
      by_case (Some e) at = own e at (e.node == node) refl

  -- what is said of the node's handle is said of the entry
  pub its_kind : (kind : Kind) → ((h : HandleState) → handle_in (handles_of t) node n ≡ Some h → h.kind ≡ kind)
      → (e : Entry) → handle_at t n ≡ Some e → e.kind ≡ kind
  its_kind kind said e at = said (handle_state e) (sym (known_of t node n e sound (sym at) has))

  pub its_number : (e : Entry) → handle_at t n ≡ Some e → e.number ≡ n
  its_number e at = number_of t.handles n e at
