-- Counts of ways as a call ends, and a place that does not stand.
use Rattle.std.specs.Prelude.{◌⊎◌, ◌<◌, ◌≤◌, map}
use Rattle.std.specs.List.{list_any}
use Rattle.std.proofs.Common.{◌≡◌, ℕ, ◌-◌, ◌+◌, Bool, true, false, if◌then◌else◌, List, [], ◌∷◌, refl, ap, sym, subst, ◌∙◌, inl, inr, arith, true≢false}
use Rattle.std.specs.Prelude.{◌||◌}
use Rattle.iox_model.specs.declared.kind.Kind.{Kind}
use Rattle.iox_model.specs.declared.kind.Kind.TheVariants.{ActiveRequest}
use Rattle.iox_model.specs.declared.way.Way.{Way}
use Rattle.iox_model.specs.Handles.{is_received, is_request_loan, same_kind}
use Rattle.iox_model.specs.Maps.{has_number, same_way}
use Rattle.iox_model.specs.Peers.{forgot_port}
use Rattle.iox_model.specs.States.{Fixed}
use Rattle.iox_wire_locals.specs.declared.local.Ending.TheVariants as endings
use Rattle.iox_wire_locals.specs.declared.local.Local.TheVariants.{ReleaseLooks}
use Rattle.iox_wire_locals.specs.declared.seat.Seat.{Seat}
use Rattle.iox_wire_locals.specs.declared.table.Borrowed.{Borrowed}
use Rattle.iox_wire_locals.specs.declared.table.Entry.{Entry}
use Rattle.iox_wire_locals.specs.Courses.{ended, placed}
use Rattle.iox_wire_locals.specs.Desks.{at_count, at_desk, gives_up, with_count}
use Rattle.iox_wire_locals.specs.Settlements as settle
use Rattle.iox_wire_locals.specs.Tables.{Setting, way_in}
use Rattle.iox_wire_laws.specs.WireOwners.Borrowed.{HasCount}
use Rattle.iox_wire_laws.specs.WireHolding.FarSlots.{IsInPool}
use Rattle.iox_wire_laws.specs.WireHolding.SlotsKnown.{HasEntry, IsAside, PlaceStands}
use Rattle.iox_wire_stands.specs.EndLaws.{EndsKeepCounts, GivenBackResponsesDoNotStand}

way_same : (w : Way) (change : ℕ → ℕ) (b : Borrowed) (c : Bool) → (if c then record b { count = change b.count } else b).way ≡ b.way
way_same w change b true = refl
way_same w change b false = refl

any_same : (y w : Way) (change : ℕ → ℕ) (bs : List Borrowed)
    → list_any (λ b. same_way b.way y) (map (with_count w change) bs) ≡ list_any (λ b. same_way b.way y) bs
any_same y w change [] = refl
any_same y w change (b ∷ bs) =
    ap (λ v. same_way v y || list_any (λ b. same_way b.way y) (map (with_count w change) bs)) (way_same w change b (same_way b.way w))
    ∙ ap (λ t. same_way b.way y || t) (any_same y w change bs)

module _ (p : Setting) (x : Seat) (y : Way) (has : HasCount x y) where
  sent : (k : Entry) (copied : Bool) (count : ℕ) (request : Bool)
      → HasCount (if request then settle.sends_entry x k copied count else settle.sends_away x k copied) y
  sent k true count true = has
  sent k true count false = has
  sent k false count true = has
  sent k false count false = has

  failed : (k : Entry) (copied : Bool) → HasCount (settle.after_refused_send x k copied) y
  failed k true = has
  failed k false = has

  dropped : (k : Entry) (b : Bool) → HasCount (if b then at_count x (way_in k) (λ n. n - 1) else at_desk x k.port (gives_up k)) y
  dropped k true = any_same y (way_in k) (λ n. n - 1) x.borrowed ∙ has
  dropped k false = has

  forgot : (dead : ℕ) (b : Bool) → HasCount (if b then x else settle.forgets p x dead) y
  forgot dead true = has
  forgot dead false = has

pub ends_keep_counts : EndsKeepCounts
ends_keep_counts p x (endings.Sends k copied count) y has = sent p x y has k copied count (is_request_loan k.kind)
ends_keep_counts p x (endings.FailsToSend k copied r) y has = failed p x y has k copied
ends_keep_counts p x (endings.Drops k) y has = dropped p x y has k (is_received k.kind)
ends_keep_counts p x (endings.Forgets dead) y has = forgot p x y has dead (has_number dead x.forgot)
ends_keep_counts p x (endings.Receives v w slot header) y has = any_same y w (λ n. n + 1) x.borrowed ∙ has
ends_keep_counts p x ending y has = has

-- ---- what does not stand

apart : (slot pool : ℕ) → slot < pool → pool ≤ slot → ⊥
apart slot pool low high = omega (arith, low, high)

module _ (p : Setting) (f : Fixed) (x : Seat) (e : Entry) (low : IsInPool p e.sender e.slot) (knows : forgot_port f x.node e.sender ≡ false) where
  neither : IsAside p e ⊎ (forgot_port f x.node e.sender ≡ true) → ⊥
  neither (inl high) = apart e.slot (p.port e.sender).pool low high
  neither (inr forgot) = true≢false (sym forgot ∙ knows)

pub given_back_responses_do_not_stand : GivenBackResponsesDoNotStand
given_back_responses_do_not_stand p f x e kind low knows stands =
    neither p f x e low knows (dropped_stands.1 (ap is_received kind))
  where
    dropped_stands : HasEntry x e × (is_received e.kind ≡ true → IsAside p e ⊎ (forgot_port f x.node e.sender ≡ true))
    dropped_stands =
        subst (λ (k : Kind). PlaceStands p f x (if same_kind k ActiveRequest then placed x (ReleaseLooks e) else ended x (endings.Drops e)).local) kind stands
