-- A value may be released at any time: what the hub still has is a value of its node.
use Rattle.std.specs.Prelude.{◌≡◌, ℕ, Bool, true, false, ◌&&◌, if◌then◌else◌, ◌==◌, Option, Some, None, refl}
use Rattle.std.specs.Option.{option_map_or}
use Rattle.std.proofs.Common.{sym, ap, ◌∙◌, true≢false, eqb-true, inl, inr}
use Rattle.iox_model.specs.declared.kind.Kind.{Kind}
use Rattle.iox_model.specs.Handles.{handle_at, kind_of, node_of, port_or_handle, subject, Subject, ThePort}
use Rattle.iox_model.specs.Peers.{port_at}
use Rattle.iox_model.specs.States.{Port, Handle, Fixed, State}
use Rattle.iox_model.specs.Values.{is_still, still_has, IsReleaseWhere}
use Rattle.iox_laws.proofs.WeaveLaws.WholeLemmas.{split, some-is}
use Rattle.iox_laws.proofs.WeaveLedger.Truths.{none-some}
use Rattle.iox_laws.proofs.WeaveLedger.Lists.{IsAmong, find-among}
use Rattle.iox_laws.proofs.WeaveWorlds.Fillings.{named_among}
use Rattle.iox_laws.specs.RunLaws.Answering.{EachValueIsReleased}
use Rattle.iox_laws.proofs.RunLaws.Cleanups.{IsValue, Released, value_released}
use Rattle.iox_laws.proofs.RunLaws.Runs.{left_calm}
use Rattle.iox_laws.proofs.RunLaws.Settling.{Calm}

-- what a number names for a node, of that node, is a value of it
named_value : (f : Fixed) (node n : ℕ) (x : Subject) (p : Option Port) (h : Option Handle) → port_at f n ≡ p → handle_at f node n ≡ h
    → port_or_handle p h ≡ Some x → node_of x ≡ node → IsValue f node n
named_value f node n x (Some p) h is other e of_node = by_case p.held refl e
  where
    found : IsAmong p f.ports × ((p.number == n) ≡ true)
    found = find-among (λ (q : Port). q.number == n) p f.ports is

    by_case : (b : Bool) → p.held ≡ b → (if b then Some (ThePort p) else None) ≡ Some x → IsValue f node n
    by_case true held e = inl (p, found.0, eqb-true p.number n found.1, ap node_of (some-is (ThePort p) x e) ∙ of_node, held)
    by_case false held e = absurd (none-some x e)
named_value f node n x None (Some h) is other e of_node = inr (h, among.0, among.1)
  where
    among : IsAmong h (f.handles node) × (h.number ≡ n)
    among = named_among f node n h other
named_value f node n x None None is other e of_node = absurd (none-some x e)

still_value : (f : Fixed) (node n : ℕ) (kind : Kind) (o : Option Subject) → subject f node n ≡ o
    → option_map_or (λ x. (node_of x == node) && is_still kind (kind_of x)) o false ≡ true → IsValue f node n
still_value f node n kind (Some x) is e =
    named_value f node n x (port_at f n) (handle_at f node n) refl refl is
    (eqb-true (node_of x) node (split (node_of x == node) (is_still kind (kind_of x)) e).0)
still_value f node n kind None is e = absurd (true≢false (sym e))

released_where : (s : State) (node n : ℕ) (kind : Kind) (there : Bool) → Calm s → still_has s.fixed node n kind ≡ there
    → (t : State) × IsReleaseWhere there s node n t
released_where s node n kind true c e =
    let r : Released s node n = value_released s node n c (still_value s.fixed node n kind (subject s.fixed node n) refl e) in
    (r.0, r.1)
released_where s node n kind false c e = (s, refl)

pub each_value_is_released : EachValueIsReleased
each_value_is_released s node n kind reached = released_where s node n kind (still_has s.fixed node n kind) (left_calm s reached) refl
