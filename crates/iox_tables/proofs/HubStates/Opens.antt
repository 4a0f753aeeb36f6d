-- Give-backs, and what is done to request states: one way at a time.
use Rattle.std.specs.Prelude.{◌≡◌, ℕ, Bool, true, false, not, ◌&&◌, ◌||◌, if◌then◌else◌, ◌==◌, List, [], ◌∷◌, ◌++◌, map, Option, Some, None, refl}
use Rattle.std.specs.List.{list_any, swap_remove}
use Rattle.std.specs.Option.{option_map_or}
use Rattle.std.proofs.Common.{sym, ap, ap₂, ◌∙◌}
use Rattle.std.proofs.lemmas.List.{map-append}
use Rattle.iox_model.specs.declared.way.Way.{Way}
use Rattle.iox_model.specs.declared.way.RequestState.{RequestState}
use Rattle.iox_model.specs.declared.way.RequestState.TheVariants.{Closed, Named}
use Rattle.iox_model.specs.Maps.{put}
use Rattle.iox_model.specs.Messages.{closed_for, hinted_for}
use Rattle.iox_model.specs.Moments.{moved, GiveBack, Open, Close, Hint}
use Rattle.iox_model.specs.Peers.{forgot_port, is_connected_port, is_counted_on, node_of_port}
use Rattle.iox_model.specs.States.{Members, Fixed, State}
use Rattle.iox_laws.proofs.WeaveLaws.MapLemmas.{put_same, nobody_is_forgotten}
use Rattle.iox_lanes.specs.Lanes.{LaneState, is_taken, rank_in, released, with_returned, without_taken}
use Rattle.iox_lanes.proofs.CallerLemmas.{taken_any}
use Rattle.iox_tables.specs.HubStates.Ways.{OnWays, at}
use Rattle.iox_tables.specs.HubStates.Shown.{MessagesByPlace, waiting_in, returned_in, is_among, is_out_in, state_in, shown}
use Rattle.iox_tables.proofs.HubStates.Lists.{any-append}
use Rattle.iox_tables.proofs.HubStates.Moments.{at_none, state_in_at, if_counted, shows, turns}

-- ---- a give-back

-- whatever a lane shows but for what its receiver has stays
untaken : {B : Type 0} (show : LaneState → B) (l : LaneState) (k : ℕ) → ((ks : List ℕ) → show (record l { taken = ks }) ≡ show l)
    → show (without_taken l k) ≡ show l
untaken show l k same = step (rank_in l.taken k)
  where
    step : (o : Option ℕ) → show (option_map_or (λ i. record l { taken = swap_remove l.taken i k }) o l) ≡ show l
    step (Some i) = same (swap_remove l.taken i k)
    step None = refl

module _ (members : Members) (f : Fixed) (message : MessagesByPlace) where
  waits_same : (l : LaneState) (k : ℕ) → is_taken l k ≡ true → waiting_in message (released l k) ≡ waiting_in message l
  waits_same l k has =
      ap (λ (b : Bool). waiting_in message (if b then with_returned (without_taken l k) k else l)) has
      ∙ untaken (waiting_in message) l k (λ ks. refl)

  returns_more : (l : LaneState) (k : ℕ) → is_taken l k ≡ true → returned_in message (released l k) ≡ returned_in message l ++ (message l.pool k).serial ∷ []
  returns_more l k has =
      ap (λ (b : Bool). returned_in message (if b then with_returned (without_taken l k) k else l)) has
      ∙ untaken (λ m. map (λ j. (message m.pool j).serial) (m.returned ++ k ∷ [])) l k (λ ks. refl)
      ∙ map-append (λ j. (message l.pool j).serial) l.returned (k ∷ [])

  out_same : (l : LaneState) (k j : ℕ) → is_taken l k ≡ true → is_out_in message (released l k) j ≡ is_out_in message l j
  out_same l k j has =
      let p : ℕ → Bool = λ i. (message l.pool i).serial == j in
      let m : LaneState = without_taken l k in
      ap (λ (b : Bool). is_out_in message (if b then with_returned m k else l) j) has
      ∙ ap₂ (λ (pool : ℕ) (ws : List ℕ). is_among message pool (m.returned ++ k ∷ []) j || (is_among message pool ws j || is_among message pool m.taken j))
      (untaken (λ n. n.pool) l k (λ ks. refl)) (untaken (λ n. n.waiting) l k (λ ks. refl))
      ∙ ap (λ rs. list_any p (rs ++ k ∷ []) || (list_any p l.waiting || list_any p m.taken)) (untaken (λ n. n.returned) l k (λ ks. refl))
      ∙ ap (λ b. b || (list_any p l.waiting || list_any p m.taken)) (any-append p l.returned (k ∷ []))
      ∙ by_case (list_any p l.returned) (p k) (list_any p l.waiting) (list_any p m.taken)
      ∙ ap (λ b. list_any p l.returned || (list_any p l.waiting || b)) (sym (taken_any p l k has))
    where
      by_case : (r q w t : Bool) → ((r || (q || false)) || (w || t)) ≡ (r || (w || (q || t)))
      by_case true q w t = refl
      by_case false true true t = refl
      by_case false true false t = refl
      by_case false false w t = refl

  -- a message that its receiver has is given back
  pub given_back_is : (states : OnWays RequestState) (lanes : OnWays LaneState) (w : Way) (l : LaneState) (k serial : ℕ) → lanes w ≡ Some l
      → is_taken l k ≡ true → (message l.pool k).serial ≡ serial → f.forgot (node_of_port f w.sender) ≡ []
      → shown members f message (at (λ l. released l k) lanes w) states ≡ moved (shown members f message lanes states) (GiveBack w serial)
  given_back_is states lanes w l k serial there has serial_is nobody =
      let s : State = shown members f message lanes states in
      let is = shows members f message states lanes w l there in
      let c : Bool = is_connected_port f w.sender in
      turns members f message states (λ l. released l k) lanes w l there (waiting_in message l)
      (if is_counted_on f w then s.returned w ++ serial ∷ [] else s.returned w) (if_counted f w (is_out_in message l) (λ j. false))
      (waits_same l k has)
      (back c ∙ sym (ap₂ (λ (b : Bool) (rs : List ℕ). if b then rs ++ serial ∷ [] else rs) (counts c) is.1.0))
      (ap (λ (g : ℕ → Bool). if c then g else (λ j. false)) (λ i j. out_same l k j has i))
      ∙ (λ i. record (moved s (GiveBack w serial)) {
        waiting = put_same s.waiting w (waiting_in message l) is.0 i;
        delivered = put_same s.delivered w (if_counted f w (is_out_in message l) (λ j. false)) is.1.1 i;
      })
    where
      counts : (c : Bool) → (c && not (forgot_port f (node_of_port f w.sender) w.receiver)) ≡ c
      counts true = ap not (nobody_is_forgotten f (node_of_port f w.sender) w.receiver nobody)
      counts false = refl

      back : (c : Bool) → (if c then returned_in message (released l k) else [])
          ≡ (if c then (if c then returned_in message l else []) ++ serial ∷ [] else (if c then returned_in message l else []))
      back true = returns_more l k has ∙ ap (λ n. returned_in message l ++ n ∷ []) serial_is
      back false = refl

  -- where the pair is no more, nothing is given back
  pub nothing_given_back : (states : OnWays RequestState) (lanes : OnWays LaneState) (w : Way) (serial : ℕ) → is_connected_port f w.sender ≡ false
      → shown members f message lanes states ≡ moved (shown members f message lanes states) (GiveBack w serial)
  nothing_given_back states lanes w serial gone =
      let s : State = shown members f message lanes states in
      λ i. record s {
        returned = sym (put_same s.returned w (if is_counted_on f w then s.returned w ++ serial ∷ [] else s.returned w)
            (sym (ap (λ c. if c && not (forgot_port f (node_of_port f w.sender) w.receiver) then s.returned w ++ serial ∷ [] else s.returned w) gone))) i;
      }

  -- ---- request states

  pub opened_is : (lanes : OnWays LaneState) (states : OnWays RequestState) (w : Way) (r : RequestState) (id : ℕ) → states w ≡ Some r
      → is_connected_port f w.receiver ≡ true
      → shown members f message lanes (at (λ r. Named id false) states w) ≡ moved (shown members f message lanes states) (Open w id)
  opened_is lanes states w r id there connected =
      let s : State = shown members f message lanes states in
      λ i. record s {
        request_state = (state_in_at f (λ r. Named id false) states w r there
            ∙ ap (λ c. put s.request_state w (if c then Named id false else Closed)) connected) i;
      }

  -- what leaves a closed state closed
  acts : (g : RequestState → RequestState) (lanes : OnWays LaneState) (states : OnWays RequestState) (w : Way) → g Closed ≡ Closed
      → shown members f message lanes (at g states w)
      ≡ record (shown members f message lanes states) { request_state = put (state_in f states) w (g (state_in f states w)) }
  acts g lanes states w stays = step (states w) refl
    where
      inside : (c : Bool) (r : RequestState) → (if c then g r else Closed) ≡ g (if c then r else Closed)
      inside true r = refl
      inside false r = sym stays

      always : (c : Bool) → (if c then Closed else Closed) ≡ Closed
      always true = refl
      always false = refl

      step : (o : Option RequestState) → states w ≡ o
          → shown members f message lanes (at g states w)
          ≡ record (shown members f message lanes states) { request_state = put (state_in f states) w (g (state_in f states w)) }
      step (Some r) there =
          let s : State = shown members f message lanes states in
          let c : Bool = is_connected_port f w.receiver in
          λ i. record s {
            request_state = (state_in_at f g states w r there
                ∙ ap (put (state_in f states) w) (inside c r ∙ ap (λ o. g (if c then option_map_or (λ x. x) o Closed else Closed)) (sym there))) i;
          }
      step None none =
          let s : State = shown members f message lanes states in
          let c : Bool = is_connected_port f w.receiver in
          let shut : state_in f states w ≡ Closed = ap (λ o. if c then option_map_or (λ x. x) o Closed else Closed) none ∙ always c in
          λ i. record s {
            request_state = (ap (state_in f) (at_none g states w none)
                ∙ sym (put_same (state_in f states) w (g (state_in f states w)) (shut ∙ sym stays ∙ ap g (sym shut)))) i;
          }

  pub closed_is : (lanes : OnWays LaneState) (states : OnWays RequestState) (w : Way) (id : ℕ)
      → shown members f message lanes (at (λ r. closed_for r id) states w) ≡ moved (shown members f message lanes states) (Close w id)
  closed_is lanes states w id = acts (λ r. closed_for r id) lanes states w refl

  pub hinted_is : (lanes : OnWays LaneState) (states : OnWays RequestState) (w : Way) (id : ℕ)
      → shown members f message lanes (at (λ r. hinted_for r id) states w) ≡ moved (shown members f message lanes states) (Hint w id)
  hinted_is lanes states w id = acts (λ r. hinted_for r id) lanes states w refl
