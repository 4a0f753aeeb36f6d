-- The pipe of a rank, where it is known from whom it is, and the only place of a list.
use Rattle.std.specs.Prelude.{◌≡◌, ℕ, ◌<◌, ◌≤◌, Bool, true, false, if◌then◌else◌, ◌&&◌, ◌==◌, List, length, Option, Some, None, slice_get, refl}
use Rattle.std.specs.Option.{option_map_or}
use Rattle.std.proofs.Common.{sym, ap, ◌∙◌, arith, eqb-true, true≢false}
use Rattle.std.proofs.lemmas.Option.{none-some, slice_get_within}
use Rattle.iox_tables.specs.HubStates.Tables.{PortState}
use Rattle.iox_hub_ports.specs.InPlace.{in_place, only_of}
use Rattle.iox_hub_ports.specs.Known.{is_from}

-- where something is so of the port in a place, there is one
pub in_place_within : (f : PortState → Bool) (ports : List PortState) (i : ℕ) → in_place f false ports i ≡ true → i < length ports
in_place_within f ports i e = step (slice_get ports i) refl e
  where
    step : (o : Option PortState) → slice_get ports i ≡ o → option_map_or f o false ≡ true → i < length ports
    step (Some p) is so = slice_get_within ports i p is
    step None is so = absurd (true≢false (sym so))

both : (a b : Bool) → (a && b) ≡ true → (a ≡ true) × (b ≡ true)
both true b e = (refl, e)
both false b e = absurd (true≢false (sym e))

module _ (rank sender : ℕ) (p : PortState) (e : is_from rank sender p ≡ true) where
  -- no pipe is kept of a sender that is gone
  pub none_kept : (length p.expired.pipes == 0) ≡ true
  none_kept = (both (length p.expired.pipes == 0) (option_map_or (λ q. q.sender == sender) (slice_get p.incoming.pipes rank) false) e).0

  -- the pipe is from the sender
  pub is_its_pipe : option_map_or (λ q. q.sender == sender) (slice_get p.incoming.pipes rank) false ≡ true
  is_its_pipe = (both (length p.expired.pipes == 0) (option_map_or (λ q. q.sender == sender) (slice_get p.incoming.pipes rank) false) e).1

-- the only place is the first of the list, which has no second
pub only_first : (places : List ℕ) (i : ℕ) → only_of places ≡ Some i → (slice_get places 0 ≡ Some i) × (length places ≤ 1)
only_first places i e = step (length places == 1) refl e
  where
    step : (b : Bool) → (length places == 1) ≡ b → (if b then slice_get places 0 else None) ≡ Some i → (slice_get places 0 ≡ Some i) × (length places ≤ 1)
    step true one got = (got, let same : length places ≡ 1 = eqb-true (length places) 1 one in omega (arith, same))
    step false one got = absurd (none-some i got)
