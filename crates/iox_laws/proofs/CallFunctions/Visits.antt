-- What `visited` says is a walk of the machine.
use Rattle.std.specs.Prelude.{◌≡◌, ℕ, Bool, true, false, not, ◌||◌, if◌then◌else◌, ◌==◌, List, [], ◌∷◌, Option, Some, None, refl}
use Rattle.std.proofs.Common.{sym, subst, ap, ◌∙◌, append_assoc, append-nil}
use Rattle.iox_model.specs.declared.way.Way.{Way}
use Rattle.iox_laws.specs.CallFunctions.Searches.{before_first, first_that, after_first, fits, and_back, searched, found_or, visited}
use Rattle.iox_laws.proofs.CallFunctions.Walks.{Walks, stays, goes, joins}
use Rattle.iox_model.specs.Receives.{visiting, stale, took, state_of_request, is_at_limit}
use Rattle.iox_model.specs.Doings.{Receiver, Outcome, Receives, Doing, Ended, Visiting, Again, Judging, Stale}
use Rattle.iox_model.specs.Settings.{is_client}
use Rattle.iox_model.specs.States.{State}
use Rattle.iox_model.specs.Maps.{is_empty, first_of, rest_of, put, without_way}
use Rattle.iox_model.specs.Moments.{moved, Take, GiveBack, SeesEmpty, SeesWaiting, Look}
use Rattle.iox_model.specs.Messages.{serials_of, names, Message}
use Rattle.iox_model.specs.Peers.{is_counted_on}
use Rattle.iox_laws.proofs.WeaveLaws.Plays.{back}
use Rattle.iox_laws.proofs.WeaveLaws.MapLemmas.{same_way-refl, is_in-first, eqb-refl, put_twice, put_there, put_same, nobody_is_forgotten}

-- ---- what was taken fits or is given back

gives_back : (s : State) (node : ℕ) (x : Receiver) (w : Way) (m : Message) (left : List Way) (seen : Bool)
    → Walks s node (Stale x w m left seen) (moved s (GiveBack w m.serial)) (Again x w left seen)
gives_back s node x w m left seen =
    goes s node (Stale x w m left seen) (GiveBack w m.serial) _ _ tt
    (rw (same_way-refl w, eqb-refl m.serial) refl) (stays _ _ _)

is_stale : (s : State) (node : ℕ) (x : Receiver) (w : Way) (m : Message) (left : List Way) (seen : Bool)
    → s.fixed.forgot node ≡ [] → stale s.fixed node x w m left seen ≡ Stale x w m left seen
is_stale s node x w m left seen nobody =
    ap (λ (b : Bool). if b then Again x w left seen else Stale x w m left seen) (nobody_is_forgotten s.fixed node w.sender nobody)

judges_by : (s : State) (node : ℕ) (x : Receiver) (w : Way) (m : Message) (left : List Way) (seen : Bool) → (n : Bool)
    → Walks s node (if n then Ended (Receives x w m) else Stale x w m left seen) (if n then s else moved s (GiveBack w m.serial))
    (if n then Ended (Receives x w m) else Again x w left seen)
judges_by s node x w m left seen true = stays _ _ _
judges_by s node x w m left seen false = gives_back s node x w m left seen

judges : (s : State) (node : ℕ) (x : Receiver) (w : Way) (m : Message) (left : List Way) (seen : Bool)
    → let n = names (s.request_state (state_of_request w m)) m.request in
    Walks s node (Judging x w m left seen) (if n then s else moved s (GiveBack w m.serial)) (if n then Ended (Receives x w m) else Again x w left seen)
judges s node x w m left seen =
    let v : Way = state_of_request w m in
    goes s node (Judging x w m left seen) (Look v (s.request_state v)) _ _ refl (same_way-refl v)
    (judges_by s node x w m left seen (names (s.request_state v) m.request))

by_role : (s : State) (node : ℕ) (t : State) (e v st j : Doing) (c q ff n : Bool)
    → Walks s node st t v → Walks s node j (if n then s else t) (if n then e else v)
    → let b = (if c then q else (ff || n)) in
    Walks s node (if c then (if q then e else st) else (if ff then e else j)) (if b then s else t) (if b then e else v)
by_role s node t e v st j true true ff n back judge = stays _ _ _
by_role s node t e v st j true false ff n back judge = back
by_role s node t e v st j false q true n back judge = stays _ _ _
by_role s node t e v st j false q false n back judge = judge

takes : (s : State) (node : ℕ) (x : Receiver) (w : Way) (m : Message) (left : List Way) (seen : Bool) → s.fixed.forgot node ≡ []
    → let b = fits s x w m in
    Walks s node (took s.fixed node x w m left seen) (if b then s else moved s (GiveBack w m.serial)) (if b then Ended (Receives x w m) else Again x w left seen)
takes s node x w m left seen nobody =
    by_role s node _ _ _ _ _ (is_client x.role) (m.request == x.request) s.fixed.limits.fire_and_forget (names (s.request_state (state_of_request w m)) m.request)
    (subst (λ (d : Doing). Walks s node d (moved s (GiveBack w m.serial)) (Again x w left seen)) (sym (is_stale s node x w m left seen nobody))
    (gives_back s node x w m left seen))
    (judges s node x w m left seen)

-- ---- one pair

-- these wait, and these were given back
abbrev pub with_pair : State → Way → List Message → List ℕ → State
with_pair s w waiting returned = record s { waiting = put s.waiting w waiting; returned = put s.returned w returned }

with_pair_twice : (s : State) (w : Way) (a : List Message) (b : List ℕ) (c : List Message) (d : List ℕ)
    → with_pair (with_pair s w a b) w c d ≡ with_pair s w c d
with_pair_twice s w a b c d = λ i. record s { waiting = put_twice s.waiting w a c i; returned = put_twice s.returned w b d i }

with_pair_same : (s : State) (w : Way) (a : List Message) (b : List ℕ) → s.waiting w ≡ a → s.returned w ≡ b → with_pair s w a b ≡ s
with_pair_same s w a b e f = λ i. record s { waiting = put_same s.waiting w a e i; returned = put_same s.returned w b f i }

-- what is left of the messages of one pair, where this fits
abbrev pub searched_to : State → (Message → Bool) → Way → List Message → State
searched_to s test w ms =
    with_pair s w (after_first test ms) (and_back (is_counted_on s.fixed w) (s.returned w) (serials_of (before_first test ms)))

abbrev pub found : Receiver → Way → List Way → Bool → Option Message → Doing
found x w left seen (Some m) = Ended (Receives x w m)
found x w left seen None = visiting x left seen

back_none : (c : Bool) (ks : List ℕ) → ks ≡ and_back c ks []
back_none true ks = sym (append-nil ks)
back_none false ks = refl

back_more : (c : Bool) (ks : List ℕ) (k : ℕ) (new : List ℕ) → and_back c (and_back c ks (k ∷ [])) new ≡ and_back c ks (k ∷ new)
back_more true ks k new = append_assoc ks (k ∷ []) new
back_more false ks k new = refl

more_searched : (s : State) (test : Message → Bool) (w : Way) (m : Message) (ms : List Message)
    → searched_to (moved (moved s (Take w m)) (GiveBack w m.serial)) test w ms
    ≡ with_pair s w (after_first test ms) (and_back (is_counted_on s.fixed w) (s.returned w) (m.serial ∷ serials_of (before_first test ms)))
more_searched s test w m ms =
    let c = is_counted_on s.fixed w in
    let old = and_back c (s.returned w) (m.serial ∷ []) in
    let new = serials_of (before_first test ms) in
    with_pair_twice s w (rest_of (s.waiting w)) old (after_first test ms) (and_back c (put s.returned w old w) new)
    ∙ ap (λ (r : List ℕ). with_pair s w (after_first test ms) r)
    (ap (λ (r : List ℕ). and_back c r new) (put_there s.returned w old) ∙ back_more c (s.returned w) m.serial new)

-- what comes of a message that was taken, and of those behind it
after_take : (s : State) (node : ℕ) (x : Receiver) (w : Way) (left : List Way) (seen : Bool) (m : Message) (ms : List Message)
    → s.fixed.forgot node ≡ [] → s.waiting w ≡ m ∷ ms
    → (let u : State = moved (moved s (Take w m)) (GiveBack w m.serial) in
    Walks u node (Again x w (w ∷ left) seen) (searched_to u (fits s x w) w ms) (found x w left seen (first_that (fits s x w) ms)))
    → Walks (moved s (Take w m)) node (took s.fixed node x w m (w ∷ left) seen)
    (searched_to s (fits s x w) w (m ∷ ms)) (found x w left seen (first_that (fits s x w) (m ∷ ms)))
after_take s node x w left seen m ms nobody e behind =
    let t : State = moved s (Take w m) in
    let u : State = moved t (GiveBack w m.serial) in
    let test = fits s x w in
    elim (test m) as (λ b. Walks t node (took t.fixed node x w m (w ∷ left) seen) (if b then t else u) (if b then Ended (Receives x w m) else Again x w (w ∷ left) seen)
    → Walks t node (took t.fixed node x w m (w ∷ left) seen)
    (with_pair s w (if b then ms else after_first test ms) (and_back (is_counted_on s.fixed w) (s.returned w) (serials_of (if b then [] else m ∷ before_first test ms))))
    (found x w left seen (if b then Some m else first_that test ms))) [
      | true ↦ λ walk. subst (λ (v : State). Walks t node (took t.fixed node x w m (w ∷ left) seen) v (Ended (Receives x w m)))
          (λ i. record s { waiting = put s.waiting w (rest_of (e i)); returned = sym (put_same s.returned w (and_back (is_counted_on s.fixed w) (s.returned w) []) (back_none (is_counted_on s.fixed w) (s.returned w))) i }) walk
      | false ↦ λ walk. joins t node (took t.fixed node x w m (w ∷ left) seen) u (Again x w (w ∷ left) seen) _ _ walk
          (subst (λ (v : State). Walks u node (Again x w (w ∷ left) seen) v (found x w left seen (first_that test ms))) (more_searched s test w m ms) behind)
    ] (takes t node x w m (w ∷ left) seen nobody)

empty_searched : (s : State) (test : Message → Bool) (w : Way) → s.waiting w ≡ [] → s ≡ searched_to s test w []
empty_searched s test w e = sym (with_pair_same s w [] _ e (back_none (is_counted_on s.fixed w) (s.returned w)))

first_left : (x : Receiver) (w : Way) (left : List Way) (seen : Bool) → visiting x (without_way w (w ∷ left)) seen ≡ visiting x left seen
first_left x w left seen = ap (λ (b : Bool). visiting x (if b then left else w ∷ without_way w left) seen) (same_way-refl w)

drains : (s : State) (node : ℕ) (x : Receiver) (w : Way) (left : List Way) (seen : Bool) (ms : List Message) → s.fixed.forgot node ≡ [] → s.waiting w ≡ ms
    → Walks s node (Again x w (w ∷ left) seen) (searched_to s (fits s x w) w ms) (found x w left seen (first_that (fits s x w) ms))
drains s node x w left seen [] nobody e =
    (SeesEmpty w ∷ [], (ap is_empty e, same_way-refl w, tt), empty_searched s (fits s x w) w e, first_left x w left seen)
drains s node x w left seen (m ∷ ms) nobody e =
    let t : State = moved s (Take w m) in
    let u : State = moved t (GiveBack w m.serial) in
    let rest : t.waiting w ≡ ms = put_there s.waiting w (rest_of (s.waiting w)) ∙ ap rest_of e in
    goes s node (Again x w (w ∷ left) seen) (Take w m) _ _ (ap first_of e) (same_way-refl w)
    (after_take s node x w left seen m ms nobody e (drains u node x w left seen ms nobody rest))

-- the first visit to a pair that is not at its limit
visits_one : (s : State) (node : ℕ) (x : Receiver) (w : Way) (left : List Way) (seen : Bool) (ms : List Message) → s.fixed.forgot node ≡ [] → s.waiting w ≡ ms
    → is_at_limit s.fixed w ≡ false
    → Walks s node (Visiting x (w ∷ left) seen) (searched_to s (fits s x w) w ms) (found x w left seen (first_that (fits s x w) ms))
visits_one s node x w left seen [] nobody e below =
    (SeesEmpty w ∷ [], (ap is_empty e, is_in-first w left, tt), empty_searched s (fits s x w) w e, first_left x w left seen)
visits_one s node x w left seen (m ∷ ms) nobody e below =
    let t : State = moved s (Take w m) in
    let u : State = moved t (GiveBack w m.serial) in
    let rest : t.waiting w ≡ ms = put_there s.waiting w (rest_of (s.waiting w)) ∙ ap rest_of e in
    goes s node (Visiting x (w ∷ left) seen) (Take w m) _ _ (ap first_of e) (is_in-first w left, ap not below)
    (after_take s node x w left seen m ms nobody e (drains u node x w left seen ms nobody rest))

-- ---- all pairs

or_false : (b : Bool) → b ≡ (b || false)
or_false true = refl
or_false false = refl

or_true : (b : Bool) → true ≡ (b || true)
or_true true = refl
or_true false = refl

looks_at : (s : State) (node : ℕ) (x : Receiver) (w : Way) (left : List Way) (seen : Bool) → is_at_limit s.fixed w ≡ true → (b : Bool) → is_empty (s.waiting w) ≡ b
    → Walks s node (Visiting x (w ∷ left) seen) s (visiting x left (seen || not b))
looks_at s node x w left seen limit true e =
    (SeesEmpty w ∷ [], (e, is_in-first w left, tt), refl, first_left x w left seen ∙ ap (visiting x left) (or_false seen))
looks_at s node x w left seen limit false e =
    (SeesWaiting w ∷ [], (ap not e, (is_in-first w left, limit), tt), refl, first_left x w left true ∙ ap (visiting x left) (or_true seen))

finds : (s : State) (node : ℕ) (x : Receiver) (w : Way) (left : List Way) (seen : Bool) → (o : Option Message)
    → Walks s node (Visiting x (w ∷ left) seen) (searched s x w) (found x w left seen o)
    → Walks (searched s x w) node (visiting x left seen) (visited (searched s x w) x left seen).1 (Ended (visited (searched s x w) x left seen).0)
    → let v : Outcome × State = found_or o (λ m. (Receives x w m, searched s x w)) (visited (searched s x w) x left seen) in
    Walks s node (Visiting x (w ∷ left) seen) v.1 (Ended v.0)
finds s node x w left seen (Some m) walk more = walk
finds s node x w left seen None walk more = joins s node (Visiting x (w ∷ left) seen) (searched s x w) (visiting x left seen) _ _ walk more

pub visits : (s : State) (node : ℕ) (x : Receiver) (ways : List Way) (seen : Bool) → s.fixed.forgot node ≡ []
    → Walks s node (visiting x ways seen) (visited s x ways seen).1 (Ended (visited s x ways seen).0)
visits s node x [] seen nobody = stays _ _ _
visits s node x (w ∷ left) seen nobody =
    elim (is_at_limit s.fixed w) as (λ b. is_at_limit s.fixed w ≡ b → let v : Outcome × State = (if b then visited s x left (seen || not (is_empty (s.waiting w))) else found_or (first_that (fits s x w) (s.waiting w)) (λ m. (Receives x w m, searched s x w)) (visited (searched s x w) x left seen)) in
    Walks s node (Visiting x (w ∷ left) seen) v.1 (Ended v.0)) [
      | true ↦ λ e. joins s node (Visiting x (w ∷ left) seen) s _ _ _ (looks_at s node x w left seen e (is_empty (s.waiting w)) refl) (visits s node x left (seen || not (is_empty (s.waiting w))) nobody)
      | false ↦ λ e. finds s node x w left seen (first_that (fits s x w) (s.waiting w)) (visits_one s node x w left seen (s.waiting w) nobody refl e) (visits (searched s x w) node x left seen nobody)
    ] refl
