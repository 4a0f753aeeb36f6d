-- What each way to fill a loan leaves: another user header, one more element, or all of them.
use Rattle.std.specs.Prelude.{◌≡◌, ℕ, zero, suc, ◌<◌, Bool, true, false, List, [], ◌∷◌, Option, Some, None, option_map, slice_set, refl}
use Rattle.std.proofs.Common.{sym, ap, subst, ◌∙◌, arith}
use Rattle.std.proofs.lemmas.List.{set-get_or}
use Rattle.iox_store.specs.Answering.{FillsByAnswers}
use Rattle.iox_store.specs.Stored.{StoredMessage, unlent, with_user, written_next}
use Rattle.iox_model.specs.declared.kind.Role.{Role}
use Rattle.iox_control.specs.Controls.{ControlState}
use Rattle.iox_control_request_copies.specs.Place.{Place}
use Rattle.iox_control_request_copies.specs.Fills.{kind_after}
use Rattle.iox_hub.specs.Fillings.{FillsLoan, SuitsShape}
use Rattle.iox_hub.specs.Fits.{carried_in, is_full_loan}
use Rattle.iox_hub.specs.Hubs.{HubState, IsHub}
use Rattle.iox_hub.specs.Lending.{with_carried, with_message}
use Rattle.iox_hub.specs.Making.{shape_in}
use Rattle.iox_hub.specs.Reads.{message_in}
use Rattle.iox_hub.specs.Words.{Carried, stored_in}
use Rattle.iox_hub.proofs.FillingCalls.{IsFillCall, fill_full, fill_hub, fill_message, fills_loan}
use Rattle.iox_hub.proofs.LendingWords.{stored_by, stored_is_by}

-- what is put where it is changes nothing
same_put : (words : List (Option Carried)) (pool k : ℕ) → with_message words pool k (stored_in words pool k) ≡ words
same_put words pool k =
    ap (slice_set words pool) (ap (λ z. option_map (with_carried k z) (carried_in words pool)) (stored_is_by words pool k) ∙ itself (carried_in words pool))
    ∙ same words pool
  where
    itself : (o : Option Carried) → option_map (with_carried k (stored_by o k)) o ≡ o
    itself (Some c) = ap (λ ms. Some (record c { contents = record (c.contents) { messages = ms } })) (set-get_or c.contents.messages k (unlent 0 []))
    itself None = refl

    same : (ws : List (Option Carried)) (i : ℕ) → slice_set ws i (carried_in ws i) ≡ ws
    same [] i = refl
    same (w ∷ ws) zero = refl
    same (w ∷ ws) (suc i) = ap (λ vs. w ∷ vs) (same ws i)

module _ {h : HubState} {role : Role} {node n : ℕ} {all : Bool} {new : ControlState} {place : Place} (c : IsFillCall h role node n all new place) where
  abbrev was : StoredMessage
  was = stored_in h.words place.pool place.slot

  abbrev m : StoredMessage
  m = message_in h node n

  abbrev left_with : List (Option Carried) → HubState
  left_with words = record h { control = new; words = words }

  -- there is room in the slot where there is in the message
  pub room_there : m.filled < m.elements → was.filled < was.elements
  room_there room = subst (λ (s : StoredMessage). s.filled < s.elements) (fill_message c) room

  pub as_it_is : h.words ≡ with_message h.words place.pool place.slot was
  as_it_is = sym (same_put h.words place.pool place.slot)

  -- ---- the message becomes another one

  module _ (f : StoredMessage → StoredMessage) (words : List (Option Carried)) (put : words ≡ with_message h.words place.pool place.slot (f was))
      (suits : SuitsShape (shape_in h role) (f was)) (elements : (f m).elements ≡ m.elements)
      (full : is_full_loan (kind_after all c.loan.handle.kind) ≡ true → (f m).filled ≡ (f m).elements) where
    same : m ≡ was
    same = fill_message c

    put_so : words ≡ with_message h.words place.pool place.slot (f m)
    put_so = put ∙ ap (λ s. with_message h.words place.pool place.slot (f s)) (sym same)

    suits_so : SuitsShape (shape_in h role) (f m)
    suits_so = subst (λ s. SuitsShape (shape_in h role) (f s)) (sym same) suits

    becomes_hub : IsHub (left_with words)
    becomes_hub = fill_hub c (f m) suits_so elements full words put_so

    becomes_loan : FillsLoan h node n all (f m) (left_with words)
    becomes_loan = fills_loan c (f m) suits_so elements full words put_so

-- ---- by one way or another

module _ {h : HubState} {role : Role} {node n : ℕ} {new : ControlState} {place : Place} (c : IsFillCall h role node n false new place)
    (ws : List ℕ) (words : List (Option Carried)) where
  module _ (put : words ≡ with_message h.words place.pool place.slot (with_user (was c) ws)) (suits : SuitsShape (shape_in h role) (with_user (was c) ws)) where
    pub header_hub : IsHub (left_with c words)
    header_hub = becomes_hub c (λ s. with_user s ws) words put suits refl (fill_full c)

    pub header_loan : FillsLoan h node n false (with_user (m c) ws) (left_with c words)
    header_loan = becomes_loan c (λ s. with_user s ws) words put suits refl (fill_full c)

  module _ (room : (m c).filled < (m c).elements) (put : words ≡ with_message h.words place.pool place.slot (written_next (was c) ws))
      (suits : SuitsShape (shape_in h role) (written_next (was c) ws)) where
    not_full : is_full_loan c.loan.handle.kind ≡ true → ⊥
    not_full e = let all = fill_full c e in omega (arith, all, room)

    pub next_hub : IsHub (left_with c words)
    next_hub = becomes_hub c (λ s. written_next s ws) words put suits refl (λ e. absurd (not_full e))

    pub next_loan : FillsLoan h node n false (written_next (m c) ws) (left_with c words)
    next_loan = becomes_loan c (λ s. written_next s ws) words put suits refl (λ e. absurd (not_full e))

module _ {h : HubState} {role : Role} {node n : ℕ} {new : ControlState} {place : Place} (c : IsFillCall h role node n true new place) where
  module _ (suits : SuitsShape (shape_in h role) (was c)) (all : (m c).filled ≡ (m c).elements) where
    pub assumed_hub : IsHub (left_with c h.words)
    assumed_hub = becomes_hub c (λ s. s) h.words (as_it_is c) suits refl (λ e. all)

    pub assumed_loan : FillsLoan h node n true (m c) (left_with c h.words)
    assumed_loan = becomes_loan c (λ s. s) h.words (as_it_is c) suits refl (λ e. all)

  module _ (words : List (Option Carried)) (put : words ≡ with_message h.words place.pool place.slot (stored_in words place.pool place.slot))
      (suits : SuitsShape (shape_in h role) (stored_in words place.pool place.slot)) {F E : Type 0} (f_words : E → List ℕ) (step : F → ℕ → E → F → Type 0) (f : F)
      (fills : FillsByAnswers f_words step f (was c) (stored_in words place.pool place.slot)) where
    abbrev z : StoredMessage
    z = stored_in words place.pool place.slot

    message_same : m c ≡ was c
    message_same = fill_message c

    elements_same : z.elements ≡ (m c).elements
    elements_same = ap (λ (s : StoredMessage). s.elements) fills.left ∙ ap (λ (s : StoredMessage). s.elements) (sym message_same)

    all_filled : z.filled ≡ z.elements
    all_filled = ap (λ (s : StoredMessage). s.filled) fills.left ∙ ap (λ (s : StoredMessage). s.elements) (sym fills.left)

    pub answered_hub : IsHub (left_with c words)
    answered_hub = becomes_hub c (λ s. z) words put suits elements_same (λ e. all_filled)

    loan_so : FillsLoan h node n true z (left_with c words)
    loan_so = becomes_loan c (λ s. z) words put suits elements_same (λ e. all_filled)

    pub answered_loan : FillsLoan h node n true (message_in (left_with c words) node n) (left_with c words)
    answered_loan = subst (λ s. FillsLoan h node n true s (left_with c words)) (sym loan_so.message) loan_so

    pub answered_by : FillsByAnswers f_words step f (m c) (message_in (left_with c words) node n)
    answered_by =
        subst (FillsByAnswers f_words step f (m c)) (sym loan_so.message)
        (subst (λ s. FillsByAnswers f_words step f s z) (sym message_same) fills)
