-- What numbers name.
use Rattle.std.specs.Prelude.{◌≡◌, ℕ, Bool, true, false, not, ◌&&◌, if◌then◌else◌, ◌==◌, List, [], ◌∷◌, Option, Some, None, refl}
use Rattle.std.specs.Option.{option_map, option_map_or}
use Rattle.std.proofs.Common.{sym, ap, ap₂, ◌∙◌, eqb-true}
use Rattle.std.proofs.lemmas.Option.{none-some}
use Rattle.iox_model.specs.declared.reply.Refusal.TheVariants.{ForeignNumber, WrongKind}
use Rattle.iox_model.specs.Handles.{ThePort, TheHandle, handle_at, port_or_handle, subject}
use Rattle.iox_model.specs.Maps.{or_else, refused_if}
use Rattle.iox_model.specs.Names.{misnamed_by, suits}
use Rattle.iox_model.specs.States as m
use Rattle.iox_laws.proofs.WeaveLaws.MapLemmas.{eqb-refl}
use Rattle.iox_tables.specs.HubStates.Tables.{HandleState}
use Rattle.iox_tables.specs.HubStates.States.{fixed_of, handle_of, message_of, port_of}
use Rattle.iox_tables.specs.HubStates.Names.{EachHandleIsNamed, EachPortIsNamed}
use Rattle.iox_tables.specs.HubStates.Wirings.{handle_in}
use Rattle.iox_tables.proofs.HubStates.Fixing.{find_handle, find_port}

pub handle_node : (hs : List HandleState) (node n : ℕ) (h : HandleState) → handle_in hs node n ≡ Some h → h.node ≡ node
handle_node [] node n h e = absurd (none-some h e)
handle_node (k ∷ ks) node n h e = step (k.node == node) (k.number == n) refl (handle_node ks node n h) e
  where
    step : (a b : Bool) → (k.node == node) ≡ a → (handle_in ks node n ≡ Some h → h.node ≡ node) → (if a && b then Some k else handle_in ks node n) ≡ Some h → h.node ≡ node
    step true true is more e = ap (λ (o : Option HandleState). option_map_or (λ z. z.node) o node) (sym e) ∙ eqb-true k.node node is
    step true false is more e = more e
    step false b is more e = more e

pub handle_number : (hs : List HandleState) (node n : ℕ) (h : HandleState) → handle_in hs node n ≡ Some h → h.number ≡ n
handle_number [] node n h e = absurd (none-some h e)
handle_number (k ∷ ks) node n h e = step (k.node == node) (k.number == n) refl (handle_number ks node n h) e
  where
    step : (a b : Bool) → (k.number == n) ≡ b → (handle_in ks node n ≡ Some h → h.number ≡ n) → (if a && b then Some k else handle_in ks node n) ≡ Some h → h.number ≡ n
    step true true is more e = ap (λ (o : Option HandleState). option_map_or (λ z. z.number) o n) (sym e) ∙ eqb-true k.number n is
    step true false is more e = more e
    step false b is more e = more e

pub each_handle_is_named : EachHandleIsNamed
each_handle_is_named x t node n h is =
    let names : subject (fixed_of x t) node n ≡ Some (TheHandle (handle_of x (message_of x t.pools) h))
    = ap₂ port_or_handle (find_port x t.ports n ∙ ap (option_map (port_of x)) is.no_port)
    (find_handle x (message_of x t.pools) t.handles node n ∙ ap (option_map (handle_of x (message_of x t.pools))) is.there) in record {
      names = names;
      refused = λ call at.
          ap (λ k. misnamed_by (fixed_of x t) node call (subject (fixed_of x t) node k)) at
          ∙ ap (misnamed_by (fixed_of x t) node call) names
          ∙ ap (λ k. or_else (refused_if (not (k == node)) ForeignNumber) (refused_if (not (suits false call h.kind)) WrongKind)) (handle_node t.handles node n h is.there)
          ∙ ap (λ c. or_else (refused_if (not c) ForeignNumber) (refused_if (not (suits false call h.kind)) WrongKind)) (eqb-refl node);
    }

pub each_port_is_named : EachPortIsNamed
each_port_is_named x t node n p there held =
    let names : subject (fixed_of x t) node n ≡ Some (ThePort (port_of x p))
    = ap (λ (o : Option m.Port). port_or_handle o (handle_at (fixed_of x t) node n)) (find_port x t.ports n ∙ ap (option_map (port_of x)) there)
    ∙ ap (λ b. if b then Some (ThePort (port_of x p)) else None) held in record {
      names = names;
      refused = λ call at.
          ap (λ k. misnamed_by (fixed_of x t) node call (subject (fixed_of x t) node k)) at
          ∙ ap (misnamed_by (fixed_of x t) node call) names;
    }
