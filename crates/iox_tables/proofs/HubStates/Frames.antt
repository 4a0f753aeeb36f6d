-- A message that is on no lane may become another one: what lanes show stays.
use Rattle.std.specs.Prelude.{◌≡◌, ℕ, Bool, true, false, ◌||◌, if◌then◌else◌, ◌==◌, List, [], ◌∷◌, ◌++◌, map, Option, Some, None, refl}
use Rattle.std.specs.List.{list_any}
use Rattle.std.specs.Option.{option_map_or}
use Rattle.std.proofs.Common.{sym, ap, ap₂, ◌∙◌, true≢false}
use Rattle.iox_model.specs.declared.way.Way.{Way}
use Rattle.iox_model.specs.Maps.{has_number}
use Rattle.iox_model.specs.Messages.{Message}
use Rattle.iox_model.specs.Peers.{is_connected_port}
use Rattle.iox_laws.proofs.WeaveLaws.MapLemmas.{eqb-refl}
use Rattle.iox_lanes.specs.Lanes.{LaneState}
use Rattle.iox_tables.specs.HubStates.Ways.{OnWays}
use Rattle.iox_tables.specs.HubStates.Shown.{MessagesByPlace, by_lane, is_out_in, returned_in, shown, waiting_in}
use Rattle.iox_tables.specs.HubStates.Steps.{HasSameMessages, OthersMayChange}
use Rattle.iox_tables.proofs.HubStates.Emptied.{has-append}
use Rattle.std.proofs.lemmas.Bool.{or_left, or_right}

-- what is the same at each member is the same of all
same_map : {A : Type 0} (f g : ℕ → A) (ks : List ℕ) → ((j : ℕ) → has_number j ks ≡ true → f j ≡ g j) → map f ks ≡ map g ks
same_map f g [] h = refl
same_map f g (j ∷ js) h =
    ap₂ (λ y ys. y ∷ ys) (h j (or_left (j == j) (has_number j js) (eqb-refl j)))
    (same_map f g js (λ k e. h k (or_right (j == k) (has_number k js) e)))

same_any : (f g : ℕ → Bool) (ks : List ℕ) → ((j : ℕ) → has_number j ks ≡ true → f j ≡ g j) → list_any f ks ≡ list_any g ks
same_any f g [] h = refl
same_any f g (j ∷ js) h =
    ap₂ (λ a b. a || b) (h j (or_left (j == j) (has_number j js) (eqb-refl j)))
    (same_any f g js (λ k e. h k (or_right (j == k) (has_number k js) e)))

module _ (old new : MessagesByPlace) (l : LaneState) (same : HasSameMessages old new l) where
  in_returned : (k : ℕ) → has_number k l.returned ≡ true → old l.pool k ≡ new l.pool k
  in_returned k e = same k (has-append k l.returned (l.waiting ++ l.taken) ∙ or_left _ _ e)

  in_waiting : (k : ℕ) → has_number k l.waiting ≡ true → old l.pool k ≡ new l.pool k
  in_waiting k e = same k (has-append k l.returned (l.waiting ++ l.taken) ∙ or_right _ _ (has-append k l.waiting l.taken ∙ or_left _ _ e))

  in_taken : (k : ℕ) → has_number k l.taken ≡ true → old l.pool k ≡ new l.pool k
  in_taken k e = same k (has-append k l.returned (l.waiting ++ l.taken) ∙ or_right _ _ (has-append k l.waiting l.taken ∙ or_right _ _ e))

  waits_same : waiting_in old l ≡ waiting_in new l
  waits_same = same_map (old l.pool) (new l.pool) l.waiting in_waiting

  returns_same : returned_in old l ≡ returned_in new l
  returns_same = same_map (λ k. (old l.pool k).serial) (λ k. (new l.pool k).serial) l.returned (λ k e. ap (λ (n : Message). n.serial) (in_returned k e))

  out_same : (serial : ℕ) → is_out_in old l serial ≡ is_out_in new l serial
  out_same serial =
      let f : ℕ → Bool = λ k. (old l.pool k).serial == serial in
      let g : ℕ → Bool = λ k. (new l.pool k).serial == serial in
      let to : (k : ℕ) → old l.pool k ≡ new l.pool k → f k ≡ g k = λ k e. ap (λ (n : Message). n.serial == serial) e in
      ap₂ (λ a b. a || b) (same_any f g l.returned (λ k e. to k (in_returned k e)))
      (ap₂ (λ a b. a || b) (same_any f g l.waiting (λ k e. to k (in_waiting k e))) (same_any f g l.taken (λ k e. to k (in_taken k e))))

by_same : {A : Type 0} (f g : LaneState → A) (none : A) (lanes : OnWays LaneState) (w : Way)
    → ((l : LaneState) → lanes w ≡ Some l → f l ≡ g l) → by_lane f none lanes w ≡ by_lane g none lanes w
by_same f g none lanes w h = step (lanes w) refl
  where
    step : (o : Option LaneState) → lanes w ≡ o → option_map_or f o none ≡ option_map_or g o none
    step (Some l) is = h l is
    step None is = refl

pub others_may_change : OthersMayChange
others_may_change members f old new lanes states same = λ i. record (shown members f old lanes states) {
  waiting = λ w. by_same (waiting_in old) (waiting_in new) [] lanes w (λ l is. waits_same old new l (same w l is)) i;
  returned = λ w. if is_connected_port f w.sender
      then by_same (returned_in old) (returned_in new) [] lanes w (λ l is. returns_same old new l (same w l is)) i else [];
  delivered = λ w. if is_connected_port f w.sender
      then by_same (is_out_in old) (is_out_in new) (λ k. false) lanes w (λ l is. (λ j k. out_same old new l (same w l is) k j)) i else (λ k. false);
}
