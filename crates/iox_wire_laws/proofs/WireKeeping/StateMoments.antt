-- Each moment of a request state may come, is true, and leaves the word of the state that it leads to.
use Rattle.std.specs.Prelude.{not, ◌^◌, ◌<◌}
use Rattle.std.proofs.Common.{◌≡◌, ℕ, Bool, true, false, if◌then◌else◌, ◌&&◌, ◌||◌, ◌==◌, List, ◌∷◌, Option, Some, None, refl, ap, sym, subst, ◌∙◌, eqb-true, eq-eqb, true≢false}
use Rattle.iox_model.specs.declared.way.RequestState.{RequestState}
use Rattle.iox_model.specs.declared.way.RequestState.TheVariants.{Closed, Named}
use Rattle.iox_model.specs.declared.way.Way.{Way}
use Rattle.iox_model.specs.Doings.{Receiver, Sending, Doing, Asking, Opening, Judging, Closing, Leaving, Checking, Hinting}
use Rattle.iox_model.specs.Handles.{own_state}
use Rattle.iox_model.specs.Maps.{same_way, put}
use Rattle.iox_model.specs.Messages.{Message, names, names_with_hint, closed_for, hinted_for, response_way}
use Rattle.iox_model.specs.Moments.{Moment, Open, Close, Hint, Look}
use Rattle.iox_model.specs.States.{Handle, State}
use Rattle.iox_model.specs.Transitions as transitions
use Rattle.iox_laws.proofs.WeaveLaws.MapLemmas.{same_way-refl, same_way-true, is_in-first, eqb-refl}
use Rattle.iox_laws.proofs.WeaveLedger.Truths.{both_true, never}
use Rattle.iox_word_map.specs.WordMaps.{IsResponseWay}
use Rattle.iox_wire_words.specs.Fits.{WireContents, with_state}
use Rattle.iox_wire_moments.specs.MomentsOf.{Pools}
use Rattle.iox_wire_moments.specs.Ties.{Ties}
use Rattle.iox_wire_moments.specs.Laws.{ShowsMoment}
use Rattle.iox_wire_locals.specs.Tables.{Setting}
use Rattle.iox_wire_locals.specs.Locals.{state_word, state_told}
use Rattle.iox_wire_locals.specs.Laws.{HasSmallId}
use Rattle.iox_wire_locals.specs.StateMoments.{looked}
use Rattle.iox_wire_locals.proofs.StateWords.{words_tell_states}
use Rattle.iox_wire_laws.specs.WireKeeping.Shows.{StatesFit}
use Rattle.iox_wire_laws.proofs.WireKeeping.Assembling.{May}

-- all that a moment of a request state is to be
abbrev pub Goes : Setting → Pools → WireContents → State → ℕ → Doing → Option Moment → Type 0
Goes p held c s node d m = ShowsMoment p.layout held c s m × May p c s node d m

closed_is : (r : RequestState) (id : ℕ) → names r id ≡ true → closed_for r id ≡ Closed
closed_is r id e = rw e refl

stays : (r : RequestState) (id : ℕ) → names r id ≡ false → closed_for r id ≡ r
stays r id e = rw e refl

-- a state that is no name of the request without a hint is hinted or gone
no_hint_needed : (r : RequestState) (id : ℕ) → (r ≡ Named id false → ⊥) → (names_with_hint r id || not (names r id)) ≡ true
no_hint_needed Closed id other = refl
no_hint_needed (Named k true) id other = by_case (k == id)
  where
    by_case : (b : Bool) → ((b && true) || not b) ≡ true
    by_case true = refl
    by_case false = refl
no_hint_needed (Named k false) id other = by_case (k == id) (eqb-true k id)
  where
    by_case : (b : Bool) → (b ≡ true → k ≡ id) → ((b && false) || not b) ≡ true
    by_case true same = absurd (other (ap (λ n. Named n false) (same refl)))
    by_case false same = refl

seen_without : (a b : Bool) → (a && not b) ≡ false → (b || not a) ≡ true
seen_without true true e = refl
seen_without true false e = absurd (true≢false e)
seen_without false true e = refl
seen_without false false e = refl

module _ (p : Setting) (held : Pools) (c : WireContents) (s : State) (node : ℕ) (ties : Ties p.layout held c s) (states : StatesFit p c s)
    (w : Way) (is_way : IsResponseWay p.layout.sizes w) (small : HasSmallId (s.request_state w)) where
  abbrev G : WireContents → Doing → Option Moment → Type 0
  G c' d m = Goes p held c' s node d m

  -- what was seen is the state's word, and tells the state
  abbrev seen : ℕ
  seen = c.state w

  told : state_told (c.state w) ≡ s.request_state w
  told = ap state_told (states w is_way) ∙ words_tell_states (s.request_state w) small

  abbrev with_word : ℕ → WireContents
  with_word value = with_state c w value

  -- the queues are tied to the state with any request state
  ties_with : (value : ℕ) (r : Way → RequestState) → Ties p.layout held (with_word value) (record s { request_state = r })
  ties_with value r = record { waiting = ties.waiting; in_hand = ties.in_hand; returned = ties.returned }

  ties_seen : (r : Way → RequestState) → Ties p.layout held c (record s { request_state = r })
  ties_seen r = record { waiting = ties.waiting; in_hand = ties.in_hand; returned = ties.returned }

  -- a state and its word are replaced
  states_with : (r : RequestState) (v : Way) → IsResponseWay p.layout.sizes v
      → put c.state w (state_word r) v ≡ state_word (put s.request_state w r v)
  states_with r v is = by_case (same_way v w)
    where
      by_case : (b : Bool) → (if b then state_word r else c.state v) ≡ state_word (if b then r else s.request_state v)
      by_case true = refl
      by_case false = states v is

  -- a state is replaced by the same state
  states_same : (r : RequestState) → r ≡ s.request_state w → (v : Way) → IsResponseWay p.layout.sizes v
      → c.state v ≡ state_word (put s.request_state w r v)
  states_same r same v is = by_case (same_way v w) (same_way-true v w)
    where
      by_case : (b : Bool) → (b ≡ true → v ≡ w) → c.state v ≡ state_word (if b then r else s.request_state v)
      by_case true at = states v is ∙ ap (λ u. state_word (s.request_state u)) (at refl) ∙ ap state_word (sym same)
      by_case false at = states v is

  -- a word is replaced by the same word
  word_same : (value : ℕ) → value ≡ c.state w → (v : Way) → put c.state w value v ≡ c.state v
  word_same value same v = by_case (same_way v w) (same_way-true v w)
    where
      by_case : (b : Bool) → (b ≡ true → v ≡ w) → (if b then value else c.state v) ≡ c.state v
      by_case true at = same ∙ ap c.state (sym (at refl))
      by_case false at = refl

  -- ---- looks

  look : (d : Doing) → (transitions.next s node d (Look w (state_told (c.state w)))).condition → G c d (looked w (c.state w))
  look d may = ((told, ties), (may, states))

  pub asks : (x : Sending) → own_state x.loan ≡ w → G c (Asking x) (looked w (c.state w))
  asks x same = look (Asking x) (ap (same_way w) same ∙ same_way-refl w)

  pub judges : (x : Receiver) (v : Way) (m : Message) (left : List Way) (waiting : Bool)
      → response_way v.sender m.lane v.receiver ≡ w → G c (Judging x v m left waiting) (looked w (c.state w))
  judges x v m left waiting same = look (Judging x v m left waiting) (ap (same_way w) same ∙ same_way-refl w)

  pub checks : (h : Handle) (hinted : Bool) (left : List Way) → G c (Checking h hinted (w ∷ left)) (looked w (c.state w))
  checks h hinted left = look (Checking h hinted (w ∷ left)) (is_in-first w left)

  pub hints : (h : Handle) (left : List Way) (b : Bool)
      → (names (state_told (c.state w)) h.request && not (names_with_hint (state_told (c.state w)) h.request)) ≡ b
      → G c (Hinting h (w ∷ left)) (if b then None else looked w (c.state w))
  hints h left true e = (ties, (tt, states))
  hints h left false e = look (Hinting h (w ∷ left)) (is_in-first w left, seen_without _ _ e)

  -- ---- stores

  pub opens : (x : Sending) (left full : List Way)
      → G (with_word (state_word (Named x.loan.request false))) (Opening x (w ∷ left) full) (Some (Open w x.loan.request))
  opens x left full =
      ((tt, ties_with _ _), ((is_in-first w left, eqb-refl x.loan.request), states_with (Named x.loan.request false)))

  pub closes : (h : Handle) (left : List Way) → closed_for (s.request_state w) h.request ≡ Closed
      → G (with_word (state_word Closed)) (Closing h (w ∷ left)) (Some (Close w h.request))
  closes h left closed = (
    (tt, ties_with _ _),
    (
      (is_in-first w left, eqb-refl h.request),
      subst
          (λ r. (v : Way) → IsResponseWay p.layout.sizes v → put c.state w (state_word Closed) v ≡ state_word (put s.request_state w r v))
          (sym closed) (states_with Closed),
    ),
  )

  -- ---- the last look of a request, and its close

  module _ (h : Handle) (same : own_state h ≡ w) where
    at_own : same_way w (own_state h) ≡ true
    at_own = ap (same_way w) same ∙ same_way-refl w

    pub leaves : (b : Bool) → names (state_told (c.state w)) h.request ≡ b
        → G c (Leaving h) (if b then looked w (c.state w) else Some (Close w h.request))
    leaves true e = look (Leaving h) (both_true _ _ at_own e)
    leaves false e = (
      (tt, ties_seen _),
      (
        both_true _ _ at_own (eqb-refl h.request),
        states_same _ (stays (s.request_state w) h.request (ap (λ r. names r h.request) (sym told) ∙ e)),
      ),
    )

    -- an exchange: it closes what was seen before, or leaves the word as it is
    pub exchanges : (old : ℕ) (a b : Bool) → (c.state w == old) ≡ a → names (state_told (c.state w)) h.request ≡ b
        → names (state_told old) h.request ≡ true
        → G (with_word (if a then state_word Closed else c.state w)) (Leaving h)
        (if a then Some (Close w h.request) else (if b then looked w (c.state w) else Some (Close w h.request)))
    exchanges old true b is e named =
        let closed : closed_for (s.request_state w) h.request ≡ Closed
        = closed_is (s.request_state w) h.request (ap (λ r. names r h.request) (sym told)
        ∙ ap (λ n. names (state_told n) h.request) (eqb-true (c.state w) old is) ∙ named) in (
          (tt, ties_with _ _),
          (
            both_true _ _ at_own (eqb-refl h.request),
            subst
                (λ r. (v : Way) → IsResponseWay p.layout.sizes v → put c.state w (state_word Closed) v ≡ state_word (put s.request_state w r v))
                (sym closed) (states_with Closed),
          ),
        )
    exchanges old false true is e named =
        ((told, ties_with _ _), (both_true _ _ at_own e, λ v way. word_same (c.state w) refl v ∙ states v way))
    exchanges old false false is e named = (
      (tt, ties_with _ _),
      (
        both_true _ _ at_own (eqb-refl h.request),
        λ v way. word_same (c.state w) refl v
            ∙ states_same _ (stays (s.request_state w) h.request (ap (λ r. names r h.request) (sym told) ∙ e)) v way,
      ),
    )

  -- a hint: it is given where the request is named without one, and else nothing changes
  pub gives_hint : (h : Handle) (left : List Way) → h.request < 2 ^ 62 → (a : Bool) → (c.state w == state_word (Named h.request false)) ≡ a
      → G (with_word (if a then state_word (Named h.request true) else c.state w)) (Hinting h (w ∷ left))
      (if a then Some (Hint w h.request) else looked w (c.state w))
  gives_hint h left below true is =
      let hinted : hinted_for (s.request_state w) h.request ≡ Named h.request true
      = ap (λ r. hinted_for r h.request) (sym told ∙ ap state_told (eqb-true (c.state w) (state_word (Named h.request false)) is)
      ∙ words_tell_states (Named h.request false) below) ∙ hinted_name h.request in (
        (tt, ties_with _ _),
        (
          (is_in-first w left, eqb-refl h.request),
          subst
              (λ r. (v : Way) → IsResponseWay p.layout.sizes v → put c.state w (state_word (Named h.request true)) v ≡ state_word (put s.request_state w r v))
              (sym hinted) (states_with (Named h.request true)),
        ),
      )
    where
      hinted_name : (id : ℕ) → hinted_for (Named id false) id ≡ Named id true
      hinted_name id = rw (eqb-refl id) refl
  gives_hint h left below false other = (
    (told, ties_with _ _),
    (
      (
        is_in-first w left,
        no_hint_needed (state_told (c.state w)) h.request (λ same. never _ (eq-eqb _ _ (states w is_way ∙ ap state_word (sym told ∙ same))) other),
      ),
      λ v way. word_same (c.state w) refl v ∙ states v way,
    ),
  )
