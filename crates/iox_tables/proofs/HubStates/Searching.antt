-- One visit to one way.
use Rattle.std.specs.Prelude.{◌≡◌, ℕ, Bool, true, false, not, ◌&&◌, ◌||◌, if◌then◌else◌, ◌==◌, List, [], ◌∷◌, ◌++◌, map, Option, Some, None, refl}
use Rattle.std.specs.List.{list_any}
use Rattle.std.proofs.Common.{sym, ap, ap₂, ◌∙◌}
use Rattle.std.proofs.lemmas.List.{map-append}
use Rattle.iox_model.specs.declared.way.Way.{Way}
use Rattle.iox_model.specs.declared.way.RequestState.{RequestState}
use Rattle.iox_model.specs.Doings.{Receiver}
use Rattle.iox_model.specs.Messages.{Message, serials_of}
use Rattle.iox_model.specs.Peers.{forgot_port, is_connected_port, is_counted_on, node_of_port}
use Rattle.iox_model.specs.States.{Members, Fixed, State}
use Rattle.iox_laws.proofs.WeaveLaws.MapLemmas.{put_same, nobody_is_forgotten}
use Rattle.iox_laws.specs.CallFunctions.Searches.{after_first, and_back, before_first, fits}
use Rattle.iox_laws.specs.CallFunctions.Searches as calls
use Rattle.iox_lanes.specs.Lanes.{LaneState}
use Rattle.iox_lanes.specs.Searches.{after_wanted, before_wanted, first_wanted, searched, with_found}
use Rattle.iox_tables.specs.HubStates.Ways.{OnWays, at}
use Rattle.iox_tables.specs.HubStates.Shown.{MessagesByPlace, waiting_in, returned_in, is_among, is_out_in, shown}
use Rattle.iox_tables.proofs.HubStates.Lists.{after_is, any-append, any_searched, before_is, found_too}
use Rattle.iox_tables.proofs.HubStates.Moments.{if_counted, shows, turns}

-- the lane after a search, and after the message that was found is its receiver's
abbrev pub taken_from : (ℕ → Bool) → LaneState → LaneState
taken_from test l = with_found (first_wanted test l.waiting) (searched test l)

-- ---- one lane

lane_shows : {B : Type 0} (show : LaneState → B) (o : Option ℕ) (l : LaneState) → ((ks : List ℕ) → show (record l { taken = ks }) ≡ show l)
    → show (with_found o l) ≡ show l
lane_shows show (Some k) l same = same (l.taken ++ k ∷ [])
lane_shows show None l same = refl

lane_taken : (p : ℕ → Bool) (o : Option ℕ) (l : LaneState) → list_any p (with_found o l).taken ≡ (list_any p l.taken || found_too p o)
lane_taken p (Some k) l = any-append p l.taken (k ∷ []) ∙ ap (λ b. list_any p l.taken || b) (or_nothing (p k))
  where
    or_nothing : (b : Bool) → (b || false) ≡ b
    or_nothing true = refl
    or_nothing false = refl
lane_taken p None l = or_nothing (list_any p l.taken)
  where
    or_nothing : (b : Bool) → b ≡ (b || false)
    or_nothing true = refl
    or_nothing false = refl

shuffle : (a b c d e : Bool) → (a || ((b || (c || d)) || e)) ≡ ((a || b) || (c || (e || d)))
shuffle true b c d e = refl
shuffle false true c d e = refl
shuffle false false true d e = refl
shuffle false false false true true = refl
shuffle false false false true false = refl
shuffle false false false false true = refl
shuffle false false false false false = refl

-- what was out is out
out_stays : (message : MessagesByPlace) (test : ℕ → Bool) (l : LaneState) (serial : ℕ) → is_out_in message (taken_from test l) serial ≡ is_out_in message l serial
out_stays message test l serial =
    let p : ℕ → Bool = λ k. (message l.pool k).serial == serial in
    let o : Option ℕ = first_wanted test l.waiting in
    let m : LaneState = searched test l in
    ap₂ (λ (pool : ℕ) (rs : List ℕ). is_among message pool rs serial || (is_among message pool (with_found o m).waiting serial || is_among message pool (with_found o m).taken serial))
    (lane_shows (λ n. n.pool) o m (λ ks. refl)) (lane_shows (λ n. n.returned) o m (λ ks. refl))
    ∙ ap₂ (λ (ws : List ℕ) (b : Bool). list_any p (l.returned ++ before_wanted test l.waiting) || (list_any p ws || b))
    (lane_shows (λ n. n.waiting) o m (λ ks. refl)) (lane_taken p o m)
    ∙ ap (λ b. b || (list_any p (after_wanted test l.waiting) || (list_any p l.taken || found_too p o))) (any-append p l.returned (before_wanted test l.waiting))
    ∙ sym (shuffle (list_any p l.returned) (list_any p (before_wanted test l.waiting)) (list_any p (after_wanted test l.waiting)) (found_too p o) (list_any p l.taken))
    ∙ ap (λ b. list_any p l.returned || (b || list_any p l.taken)) (sym (any_searched p test l.waiting))

-- ---- its way

-- the search of a way is that of its lane
pub searched_is : (members : Members) (f : Fixed) (message : MessagesByPlace) (states : OnWays RequestState) (lanes : OnWays LaneState) (r : Receiver) (w : Way) (l : LaneState)
    → lanes w ≡ Some l → (test : ℕ → Bool) → ((k : ℕ) → fits (shown members f message lanes states) r w (message l.pool k) ≡ test k)
    → f.forgot (node_of_port f w.sender) ≡ []
    → calls.searched (shown members f message lanes states) r w ≡ shown members f message (at (taken_from test) lanes w) states
searched_is members f message states lanes r w l there test same nobody =
    let s : State = shown members f message lanes states in
    let is = shows members f message states lanes w l there in
    let c : Bool = is_connected_port f w.sender in
    let o : Option ℕ = first_wanted test l.waiting in
    let fit : Message → Bool = fits s r w in
    let back : List ℕ = serials_of (before_first fit (s.waiting w)) in
    let passed : back ≡ map (λ k. (message l.pool k).serial) (before_wanted test l.waiting)
    = ap (λ ms. serials_of (before_first fit ms)) is.0 ∙ before_is fit (message l.pool) test same l.waiting in
    sym (turns members f message states (taken_from test) lanes w l there (after_first fit (s.waiting w))
    (and_back (is_counted_on f w) (s.returned w) back) (if_counted f w (is_out_in message l) (λ j. false))
    (lane_shows (waiting_in message) o (searched test l) (λ ks. refl)
    ∙ sym (ap (after_first fit) is.0 ∙ after_is fit (message l.pool) test same l.waiting))
    (ap (λ rs. if_counted f w rs []) (lane_shows (returned_in message) o (searched test l) (λ ks. refl)
    ∙ map-append (λ k. (message l.pool k).serial) l.returned (before_wanted test l.waiting) ∙ ap (λ ks. returned_in message l ++ ks) (sym passed))
    ∙ more c back ∙ sym (ap₂ (λ (b : Bool) (rs : List ℕ). and_back b rs back) (counts c) is.1.0))
    (ap (λ (g : ℕ → Bool). if_counted f w g (λ j. false)) (λ i j. out_stays message test l j i))
    ∙ (λ i. record (calls.searched s r w) { delivered = put_same s.delivered w (if_counted f w (is_out_in message l) (λ j. false)) is.1.1 i }))
  where
    counts : (c : Bool) → (c && not (forgot_port f (node_of_port f w.sender) w.receiver)) ≡ c
    counts true = ap not (nobody_is_forgotten f (node_of_port f w.sender) w.receiver nobody)
    counts false = refl

    more : (c : Bool) (ks : List ℕ) → (if c then returned_in message l ++ ks else []) ≡ and_back c (if c then returned_in message l else []) ks
    more true ks = refl
    more false ks = refl
