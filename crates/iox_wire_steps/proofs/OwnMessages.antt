-- Own messages of handles are apart: each end of a call leaves them so.
use Rattle.std.specs.Prelude.{◌⊎◌, ◌<◌, ◌≤◌, ◌++◌, map}
use Rattle.std.proofs.Common.{◌≡◌, ℕ, ◌+◌, Bool, true, false, if◌then◌else◌, ◌==◌, List, [], ◌∷◌, refl, ap, sym, subst, ◌∙◌, inl, inr, arith, eqb-true, true≢false}
use Rattle.iox_model.specs.declared.kind.Kind.TheVariants.{ActiveRequest, Response}
use Rattle.iox_model.specs.Counts.{holding, sent_handle}
use Rattle.iox_model.specs.Doings.{Outcome, Tells, Loans, Fills, Sends, FailsToSend, Receives, Drops, DropsPort, Forgets}
use Rattle.iox_model.specs.Ends.{settled}
use Rattle.iox_model.specs.Handles.{is_own, is_received, is_request_loan}
use Rattle.iox_model.specs.Maps.{has_number, put_at}
use Rattle.iox_model.specs.Settings.{is_client}
use Rattle.iox_model.specs.States.{Handle, State}
use Rattle.iox_model.specs.Weaves.{Beat, Begins, Dies, Ends, IsBeat, IsWeave, Makes, World, at_work}
use Rattle.iox_model.specs.WireCalls.{opened}
use Rattle.iox_laws.specs.MessageLaws.Lists.{IsOneOf}
use Rattle.iox_laws.specs.WeaveWorlds.Worlds.{IsReachable}
use Rattle.iox_laws.proofs.WeaveBeats.LiveWays.{Here, here}
use Rattle.iox_laws.proofs.WeaveLaws.MapLemmas.{either}
use Rattle.iox_laws.proofs.WeaveLaws.WholeLemmas.{moved-fixed, put_at-here}
use Rattle.iox_laws.proofs.WeaveLedger.HandlesKept.{below-less, more-loans, with-among, without-number}
use Rattle.iox_laws.proofs.WeaveLedger.Lists.{IsAmong, NoRepeats, among-last}
use Rattle.iox_laws.proofs.WeaveLedger.Moves.{ends-fits}
use Rattle.iox_laws.proofs.WeaveLedger.Senders.{FitsOutcome}
use Rattle.iox_laws.proofs.WeaveLedger.Settling.{settled-else, settled-here}
use Rattle.iox_laws.proofs.WeaveLedger.Views.{View, after_call, counted, less, lends_one, plus, swapped, taken_handle, takes_one, view}
use Rattle.iox_laws.proofs.WeaveLedger.Worlds.{SoundWorld, beat-fits, doing-is, opened-fits}
use Rattle.iox_laws.proofs.WeavePools.Holds.{own-loan}
use Rattle.iox_laws.proofs.WeavePools.HoldsKept.{loans-is}
use Rattle.iox_wire_steps.specs.OwnMessages.{OwnMessagesAreApart, OwnMessagesAreLent}

-- each own message was lent, and no two handles hold the same one
pub record OwnApart (v : View) : Type 0 where
  pub lent : (h : Handle) → IsAmong h v.handles → is_own h.kind ≡ true → h.message.serial < v.loans h.port
  pub apart : (g h : Handle) → IsAmong g v.handles → IsAmong h v.handles → is_own g.kind ≡ true → is_own h.kind ≡ true
      → g.port ≡ h.port → g.message.serial ≡ h.message.serial → g.number ≡ h.number

-- the handle is one that was there, perhaps of another kind
record Was (v : View) (g : Handle) : Type 0 where
  pub old : Handle
  pub among : IsAmong old v.handles
  pub own : is_own old.kind ≡ true
  pub number : g.number ≡ old.number
  pub port : g.port ≡ old.port
  pub serial : g.message.serial ≡ old.message.serial

-- or it has the next number and its port's next serial, which is lent then
record IsNext (v u : View) (g : Handle) : Type 0 where
  pub number : g.number ≡ v.next
  pub serial : g.message.serial ≡ v.loans g.port
  pub lent : v.loans g.port < u.loans g.port

less_than : (a b c : ℕ) → a ≡ b → b < c → a < c
less_than a b c e l = omega (arith, e, l)

never_same : (a b c : ℕ) → a < b → c ≡ b → a ≡ c → ⊥
never_same a b c l e f = omega (arith, l, e, f)

-- where each own handle is such a one, own messages are apart
follows : (v u : View) → OwnApart v → ((q : ℕ) → v.loans q ≤ u.loans q)
    → ((g : Handle) → IsAmong g u.handles → is_own g.kind ≡ true → Was v g ⊎ IsNext v u g) → OwnApart u
follows v u before more each = record {
  lent = λ h among own. lent h (each h among own);
  apart = λ g h one two own also port serial. apart g h (each g one own) (each h two also) port serial;
}
  where
    lent : (h : Handle) → Was v h ⊎ IsNext v u h → h.message.serial < u.loans h.port
    lent h (inl was) =
        subst (λ q. h.message.serial < u.loans q) (sym was.port)
        (below-less h.message.serial (v.loans was.old.port) (u.loans was.old.port)
        (less_than h.message.serial was.old.message.serial (v.loans was.old.port) was.serial (before.lent was.old was.among was.own)) (more was.old.port))
    lent h (inr next) = less_than h.message.serial (v.loans h.port) (u.loans h.port) next.serial next.lent

    old_new : (g h : Handle) → Was v g → IsNext v u h → g.port ≡ h.port → g.message.serial ≡ h.message.serial → ⊥
    old_new g h was next port serial =
        never_same was.old.message.serial (v.loans was.old.port) h.message.serial (before.lent was.old was.among was.own)
        (next.serial ∙ ap v.loans (sym port ∙ was.port)) (sym was.serial ∙ serial)

    apart : (g h : Handle) → Was v g ⊎ IsNext v u g → Was v h ⊎ IsNext v u h → g.port ≡ h.port → g.message.serial ≡ h.message.serial → g.number ≡ h.number
    apart g h (inl one) (inl two) port serial =
        one.number ∙ before.apart one.old two.old one.among two.among one.own two.own (sym one.port ∙ port ∙ two.port) (sym one.serial ∙ serial ∙ two.serial)
        ∙ sym two.number
    apart g h (inl one) (inr two) port serial = absurd (old_new g h one two port serial)
    apart g h (inr one) (inl two) port serial = absurd (old_new h g two one (sym port) (sym serial))
    apart g h (inr one) (inr two) port serial = one.number ∙ sym two.number

-- ---- the end of a call

itself : (v : View) (g : Handle) → IsAmong g v.handles → is_own g.kind ≡ true → Was v g
itself v g among own = record { old = g; among = among; own = own; number = refl; port = refl; serial = refl }

same_loans : (v : View) (q : ℕ) → v.loans q ≤ v.loans q
same_loans v q = omega arith

not_taken : (b : Bool) → is_own (if b then Response else ActiveRequest) ≡ false
not_taken true = refl
not_taken false = refl

module _ (v : View) (n : ℕ) (payload : List ℕ) (before : OwnApart v) (apart : NoRepeats (map (λ (h : Handle). h.number) v.handles)) where
  -- one handle more, which the port lent
  more : (h k : Handle) → k.number ≡ v.next → k.message.serial ≡ v.loans h.port → k.port ≡ h.port → OwnApart (lends_one (plus (counted v) k) h.port)
  more h k number serial port = follows v (lends_one (plus (counted v) k) h.port) before (more-loans v.loans h.port) (λ g among own. by_place g own (among-last g k v.handles among))
    where
      grown : v.loans h.port < put_at v.loans h.port (v.loans h.port + 1) h.port
      grown = subst (λ m. v.loans h.port < m) (sym (put_at-here v.loans h.port (v.loans h.port + 1))) (omega arith)

      next : IsNext v (lends_one (plus (counted v) k) h.port) k
      next = record {
        number = number;
        serial = serial ∙ ap v.loans (sym port);
        lent = subst (λ q. v.loans q < put_at v.loans h.port (v.loans h.port + 1) q) (sym port) grown;
      }

      by_place : (g : Handle) → is_own g.kind ≡ true → IsAmong g v.handles ⊎ (g ≡ k) → Was v g ⊎ IsNext v (lends_one (plus (counted v) k) h.port) g
      by_place g own (inl there) = inl (itself v g there own)
      by_place g own (inr new) = inr (subst (IsNext v (lends_one (plus (counted v) k) h.port)) (sym new) next)

  -- one more lent, and no handle more
  lent_only : (q : ℕ) → OwnApart (lends_one v q)
  lent_only q = follows v (lends_one v q) before (more-loans v.loans q) (λ g among own. inl (itself v g among own))

  -- one less
  less_one : (h : Handle) → OwnApart (less v h)
  less_one h = follows v (less v h) before (same_loans v) (λ g among own. inl (itself v g (without-number h g v.handles among).0 own))

  -- another one in the place of an own handle
  swapped_one : (h : Handle) (old : Handle) → IsAmong old v.handles → is_own old.kind ≡ true → h.number ≡ old.number → h.port ≡ old.port
      → h.message.serial ≡ old.message.serial → OwnApart (swapped v h)
  swapped_one h old among own number port serial =
      follows v (swapped v h) before (same_loans v) (λ g there its. inl (by_place g its (with-among h g v.handles apart there)))
    where
      by_place : (g : Handle) → is_own g.kind ≡ true → (g ≡ h) ⊎ (IsAmong g v.handles × (g.number ≡ h.number → ⊥)) → Was v g
      by_place g its (inl is) =
          subst (Was v) (sym is) (record { old = old; among = among; own = own; number = number; port = port; serial = serial })
      by_place g its (inr there) = itself v g there.0 its

  after : (o : Outcome) → FitsOutcome v n o → OwnApart (after_call v n payload o)
  after (Tells reply) fits = before
  after (Loans h) fits = more h (holding h payload) fits.stands.1 fits.stands.0 refl
  after (Fills h) fits = swapped_one h fits.old fits.among (own-loan fits.old.kind fits.was_loan) fits.number fits.port fits.serial
  after (Sends h true count) fits =
      either (λ u. OwnApart (lends_one u h.port)) (is_request_loan h.kind) (plus (counted v) (sent_handle h count)) v
      (λ is. more h (sent_handle h count) fits.stands.1 fits.stands.0 refl) (λ is. lent_only h.port)
  after (Sends h false count) fits =
      either OwnApart (is_request_loan h.kind) (swapped v (sent_handle h count)) (less v h)
      (λ is. swapped_one (sent_handle h count) h fits.stands (own-loan h.kind fits.loan) refl refl refl) (λ is. less_one h)
  after (FailsToSend h true refusal) fits = lent_only h.port
  after (FailsToSend h false refusal) fits = less_one h
  after (Receives x w m) fits =
      follows v (takes_one (plus (counted v) (taken_handle v n x m)) w) before (same_loans v)
      (λ g among own. inl (by_place g own (among-last g (taken_handle v n x m) v.handles among)))
    where
      by_place : (g : Handle) → is_own g.kind ≡ true → IsAmong g v.handles ⊎ (g ≡ taken_handle v n x m) → Was v g
      by_place g own (inl there) = itself v g there own
      by_place g own (inr new) = absurd (true≢false (sym own ∙ ap (λ (k : Handle). is_own k.kind) new ∙ not_taken (is_client x.role)))
  after (Drops h) fits =
      either OwnApart (is_received h.kind) (record (less v h) { borrowed = _ }) (less v h)
      (λ is. (let one = less_one h in record { lent = one.lent; apart = one.apart })) (λ is. less_one h)
  after (DropsPort port) fits = absurd fits
  after (Forgets dead) fits =
      either OwnApart (has_number dead v.forgot) v (record v { forgot = v.forgot ++ dead ∷ [] }) (λ is. before)
      (λ is. record { lent = before.lent; apart = before.apart })

-- ---- a run

abbrev AllApart : World → Type 0
AllApart w = (n : ℕ) → OwnApart (view w.state.fixed n)

beat_apart : (w u : World) (b : Beat) → IsBeat w b u → SoundWorld w → AllApart w → AllApart u
beat_apart w u (Begins k call c) beat fits all n = subst (λ (x : World). OwnApart (view x.state.fixed n)) (sym beat.2) (all n)
beat_apart w u (Makes k m) beat fits all n =
    subst (λ (x : World). OwnApart (view x.state.fixed n)) (sym beat.5) (subst (λ f. OwnApart (view f n)) (sym (moved-fixed w.state m)) (all n))
beat_apart w u (Dies k) beat fits all n = subst (λ (x : World). OwnApart (view x.state.fixed n)) (sym beat.1) (all n)
beat_apart w u (Ends k reply payload) beat fits all n =
    subst (λ (x : World). OwnApart (view x.state.fixed n)) (sym beat.7) (by_node (n == k) refl)
  where
    outcome : FitsOutcome (view w.state.fixed k) k beat.3
    outcome = ends-fits w.state k beat.1 beat.3 (doing-is w k beat.1 fits beat.2) beat.4

    by_node : (b : Bool) → (n == k) ≡ b → OwnApart (view (settled w.state k payload beat.3).fixed n)
    by_node true is =
        subst (λ i. OwnApart (view (settled w.state k payload beat.3).fixed i)) (sym (eqb-true n k is))
        (subst OwnApart (sym (settled-here w.state k payload beat.3 fits.wire (fits.handles k) outcome))
        (after (view w.state.fixed k) k payload (all k) (fits.handles k).apart beat.3 outcome))
    by_node false other = subst OwnApart (sym (settled-else w.state k n payload beat.3 fits.wire (fits.handles k) outcome other)) (all n)

weave_apart : (w u : World) (bs : List Beat) → IsWeave w bs u → SoundWorld w → AllApart w → AllApart u
weave_apart w u [] weave fits all = subst AllApart (sym weave) all
weave_apart w u (b ∷ bs) weave fits all =
    weave_apart weave.0 u bs weave.2 (beat-fits w weave.0 b weave.1 fits) (beat_apart w weave.0 b weave.1 fits all)

opened_apart : (s : State) → AllApart (at_work (opened s))
opened_apart s n = record { lent = λ h among own. absurd among; apart = λ g h one two own also port serial. absurd one }

-- in each reachable world
pub own_apart : (w : World) (n : ℕ) → IsReachable w → OwnApart (view w.state.fixed n)
own_apart w n reach =
    let h : Here w = here w reach in
    weave_apart (at_work (opened h.state)) w h.beats h.on.1 (opened-fits h.state h.on.0) (opened_apart h.state) n

one_among : {A : Type 0} (a : A) (xs : List A) → IsOneOf a xs → IsAmong a xs
one_among a [] is = is
one_among a (x ∷ xs) (inl here) = inl here
one_among a (x ∷ xs) (inr there) = inr (one_among a xs there)

pub own_messages_are_lent : OwnMessagesAreLent
own_messages_are_lent w n h reach one own =
    let among : IsAmong h (w.state.fixed.handles n) = one_among h (w.state.fixed.handles n) one in
    let at = ((here w reach).holding.fits.handles n).of_port h among in
    subst (λ k. h.message.serial < k) (loans-is w.state.fixed h.port n at) ((own_apart w n reach).lent h among own)

pub own_messages_are_apart : OwnMessagesAreApart
own_messages_are_apart w n g h reach one two own also port serial =
    (own_apart w n reach).apart g h (one_among g (w.state.fixed.handles n) one) (one_among h (w.state.fixed.handles n) two) own also port serial
