-- What a node finds in its own tables is what the machine's names find.
use Rattle.std.specs.Prelude.{map, find, option_map}
use Rattle.std.proofs.Common.{◌≡◌, ℕ, Bool, true, false, if◌then◌else◌, ◌==◌, List, [], ◌∷◌, Option, Some, None, refl, ap, sym, true≢false}
use Rattle.iox_model.specs.Commands.{Call, number_of}
use Rattle.iox_model.specs.Handles.{port_or_handle, subject, ThePort}
use Rattle.iox_model.specs.Names.{misnamed, misnamed_by}
use Rattle.iox_model.specs.Peers.{port_at}
use Rattle.iox_model.specs.States.{Port, Handle, Fixed}
use Rattle.iox_wire_moments.specs.MomentsOf.{Pools}
use Rattle.iox_wire_locals.specs.declared.table.Entry.{Entry}
use Rattle.iox_wire_locals.specs.declared.seat.Seat.{Seat}
use Rattle.iox_wire_locals.specs.Tables.{Setting, handle_of, entry_at}
use Rattle.iox_wire_locals.specs.Known.{told_handle, known}
use Rattle.iox_wire_locals.specs.Knowing.{Knows}

-- the handle of that number is that of the entry of that number
pub find_map : (g : Entry → Handle) → ((e : Entry) → (g e).number ≡ e.number) → (n : ℕ) (table : List Entry)
    → find (λ h. h.number == n) (map g table) ≡ option_map g (entry_at n table)
find_map g same n [] = refl
find_map g same n (e ∷ es) = by_case ((g e).number == n) (e.number == n) (ap (λ k. k == n) (same e)) (find_map g same n es)
  where
    by_case : (b c : Bool) → b ≡ c → find (λ h. h.number == n) (map g es) ≡ option_map g (entry_at n es)
        → (if b then Some (g e) else find (λ h. h.number == n) (map g es)) ≡ option_map g (if c then Some e else entry_at n es)
    by_case true true is rest = refl
    by_case true false is rest = absurd (true≢false is)
    by_case false true is rest = absurd (true≢false (sym is))
    by_case false false is rest = rest

module _ (p : Setting) (x : Seat) (f : Fixed) (held : Pools) (k : Knows p x f held) where
  pub port_same : (n : ℕ) → port_at f n ≡ port_at (known p x) n
  port_same n = rw k.ports refl

  -- what a number names
  pub subject_is : (n : ℕ)
      → subject f x.node n ≡ port_or_handle (port_at (known p x) n) (option_map (handle_of held x.node) (entry_at n x.table))
  subject_is n = rw k.ports (rw k.handles (rw (find_map (handle_of held x.node) (λ e. refl) n x.table) refl))

  module _ (wire : f.on_wire ≡ true) (call : Call) where
    by_entry : (e : Option Entry)
        → misnamed_by f x.node call (port_or_handle None (option_map (handle_of held x.node) e))
        ≡ misnamed_by (known p x) x.node call (port_or_handle None (option_map (told_handle p x.node) e))
    by_entry None = rw wire refl
    by_entry (Some e) = rw wire refl

    by_value : (b : Bool) (q : Port)
        → misnamed_by f x.node call (if b then Some (ThePort q) else None)
        ≡ misnamed_by (known p x) x.node call (if b then Some (ThePort q) else None)
    by_value true q = rw wire refl
    by_value false q = rw wire refl

    by_port : (o : Option Port) (e : Option Entry)
        → misnamed_by f x.node call (port_or_handle o (option_map (handle_of held x.node) e))
        ≡ misnamed_by (known p x) x.node call (port_or_handle o (option_map (told_handle p x.node) e))
    by_port (Some q) e = by_value q.held q
    by_port None e = by_entry e

    -- and so a call is misnamed
    pub misnamed_same : misnamed f x.node call ≡ misnamed (known p x) x.node call
    misnamed_same =
        rw (subject_is (number_of call)) (rw (find_map (told_handle p x.node) (λ e. refl) (number_of call) x.table)
        (by_port (port_at (known p x) (number_of call)) (entry_at (number_of call) x.table)))
