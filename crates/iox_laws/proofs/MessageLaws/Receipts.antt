-- The end of a call adds no handle that was received, but the one that a receive hands out.
use Rattle.std.specs.Prelude.{◌≡◌, ℕ, ◌+◌, ◌-◌, true, false, not, ◌==◌, ◌++◌, List, [], ◌∷◌, map, ◌⊎◌, refl}
use Rattle.std.proofs.Common.{sym, subst, ap, ◌∙◌, true≢false, inl, inr, eqb-true}
use Rattle.iox_model.specs.Counts.{is_same_handle, without_handle, with_handle, added, changed, dropped, numbered, called, gives_up, with_fixed, received_handle, sent_handle, holding}
use Rattle.iox_model.specs.Doings.{Outcome, Tells, Loans, Fills, Sends, FailsToSend, Receives, Drops, DropsPort, Forgets}
use Rattle.iox_model.specs.Ends.{is_nothing, port_dropped, settled}
use Rattle.iox_model.specs.Expiries.{disconnected, is_last_gone, released}
use Rattle.iox_model.specs.Forgetting.{has_forgotten, forgets}
use Rattle.iox_model.specs.Handles.{is_request_loan, is_received, way_of}
use Rattle.iox_model.specs.Maps.{put_at, put}
use Rattle.iox_model.specs.States.{Handle, Fixed, State}
use Rattle.iox_laws.proofs.WeaveLaws.MapLemmas.{either}
use Rattle.iox_laws.proofs.WeaveLedger.Lists.{IsAmong, among-last, filter-among}

-- each received handle of the later ones is one of the earlier, or this one
abbrev Adds : (Handle → Type 0) → (ℕ → List Handle) → (ℕ → List Handle) → Type 0
Adds New old new = (n : ℕ) (h : Handle) → IsAmong h (new n) → is_received h.kind ≡ true → IsAmong h (old n) ⊎ New h

-- the handle that a receive hands out
abbrev pub IsReceipt : State → ℕ → Outcome → Handle → Type 0
IsReceipt s node (Receives x w m) h = h ≡ received_handle s.fixed node x m
IsReceipt s node o h = ⊥

-- the loans of the outcome are not received
abbrev pub LoansOwn : Outcome → Type 0
LoansOwn (Loans h) = is_received h.kind ≡ false
LoansOwn (Fills h) = is_received h.kind ≡ false
LoansOwn o = Unit {0}

same_adds : (New : Handle → Type 0) (old new : ℕ → List Handle) → new ≡ old → Adds New old new
same_adds New old new e n h among received = inl (subst (λ (f : ℕ → List Handle). IsAmong h (f n)) e among)

-- one node's handles change
put_adds : (New : Handle → Type 0) (old : ℕ → List Handle) (k : ℕ) (hs : List Handle)
    → ((h : Handle) → IsAmong h hs → is_received h.kind ≡ true → IsAmong h (old k) ⊎ New h) → Adds New old (put_at old k hs)
put_adds New old k hs here n h =
    either (λ (xs : List Handle). IsAmong h xs → is_received h.kind ≡ true → IsAmong h (old n) ⊎ New h) (n == k) hs (old n)
    (λ e. subst (λ i. IsAmong h hs → is_received h.kind ≡ true → IsAmong h (old i) ⊎ New h) (sym (eqb-true n k e)) (here h))
    (λ e among received. inl among)

not_both : {P : Type 0} (h g : Handle) → h ≡ g → is_received h.kind ≡ true → is_received g.kind ≡ false → P
not_both h g e is own = absurd (true≢false (sym is ∙ ap (λ (k : Handle). is_received k.kind) e ∙ own))

last_adds : (New : Handle → Type 0) (g : Handle) (hs : List Handle) → (is_received g.kind ≡ true → New g)
    → (h : Handle) → IsAmong h (hs ++ g ∷ []) → is_received h.kind ≡ true → IsAmong h hs ⊎ New h
last_adds New g hs new h among received = elim (among-last h g hs among) as (λ u. IsAmong h hs ⊎ New h) [
  | inl q ↦ inl q
  | inr e ↦ inr (subst New (sym e) (new (subst (λ (k : Handle). is_received k.kind ≡ true) e received)))
]

with_adds : (New : Handle → Type 0) (g : Handle) (hs : List Handle) → is_received g.kind ≡ false
    → (h : Handle) → IsAmong h (with_handle g hs) → is_received h.kind ≡ true → IsAmong h hs ⊎ New h
with_adds New g [] own h among received = absurd among
with_adds New g (k ∷ ks) own h among received =
    either (λ (xs : List Handle). IsAmong h xs → IsAmong h (k ∷ ks) ⊎ New h) (is_same_handle g k) (g ∷ ks) (k ∷ with_handle g ks) here
    (λ u. there (λ a. with_adds New g ks own h a received)) among
  where
    here : is_same_handle g k ≡ true → IsAmong h (g ∷ ks) → IsAmong h (k ∷ ks) ⊎ New h
    here u (inl e) = not_both h g e received own
    here u (inr a) = inl (inr a)

    there : (IsAmong h (with_handle g ks) → IsAmong h ks ⊎ New h) → IsAmong h (k ∷ with_handle g ks) → IsAmong h (k ∷ ks) ⊎ New h
    there rest (inl e) = inl (inl e)
    there rest (inr a) = elim (rest a) as (λ v. IsAmong h (k ∷ ks) ⊎ New h) [ inl q ↦ inl (inr q) | inr q ↦ inr q ]

-- ---- what is added, changed, dropped

numbered-handles : (f : Fixed) (node : ℕ) → (numbered f node).handles ≡ f.handles
numbered-handles f node =
    either (λ (g : Fixed). g.handles ≡ f.handles) f.on_wire
    (record f { handles_made = put_at f.handles_made node (f.handles_made node + 1) }) (record f { next_number = f.next_number + 1 })
    (λ u. refl) (λ u. refl)

added_adds : (New : Handle → Type 0) (f : Fixed) (node : ℕ) (g : Handle) → (is_received g.kind ≡ true → New g)
    → Adds New f.handles (added (numbered f node) g).handles
added_adds New f node g new =
    subst (λ (old : ℕ → List Handle). Adds New f.handles (put_at old g.node (old g.node ++ g ∷ []))) (sym (numbered-handles f node))
    (put_adds New f.handles g.node (f.handles g.node ++ g ∷ []) (last_adds New g (f.handles g.node) new))

changed_adds : (New : Handle → Type 0) (f : Fixed) (g : Handle) → is_received g.kind ≡ false → Adds New f.handles (changed f g).handles
changed_adds New f g own = put_adds New f.handles g.node (with_handle g (f.handles g.node)) (with_adds New g (f.handles g.node) own)

dropped_adds : (New : Handle → Type 0) (f : Fixed) (g : Handle) → Adds New f.handles (dropped f g).handles
dropped_adds New f g =
    put_adds New f.handles g.node (without_handle g (f.handles g.node))
    (λ h among received. inl (filter-among (λ k. not (is_same_handle g k)) h (f.handles g.node) among).0)

released-handles : (s : State) (f : Fixed) (port : ℕ) → (released (with_fixed s f) port).fixed.handles ≡ f.handles
released-handles s f port =
    either (λ (t : State). t.fixed.handles ≡ f.handles) (is_last_gone f port) (disconnected (with_fixed s f) port) (with_fixed s f) (λ u. refl) (λ u. refl)

released_adds : (New : Handle → Type 0) (s : State) (f : Fixed) (port : ℕ) → Adds New s.fixed.handles f.handles
    → Adds New s.fixed.handles (released (with_fixed s f) port).fixed.handles
released_adds New s f port p = subst (Adds New s.fixed.handles) (sym (released-handles s f port)) p

gives_up-handles : (f : Fixed) (h : Handle) → (gives_up f h).handles ≡ f.handles
gives_up-handles f h =
    either (λ (g : Fixed). g.handles ≡ f.handles) (is_received h.kind) (record f { borrowed = put f.borrowed (way_of h) (f.borrowed (way_of h) - 1) }) f
    (λ u. refl) (λ u. refl)

-- ---- the end of a call

none_new : {P : Type 0} (g : Handle) → is_received g.kind ≡ false → is_received g.kind ≡ true → P
none_new g own received = absurd (true≢false (sym received ∙ own))

pub settled_adds : (s : State) (node : ℕ) (payload : List ℕ) (o : Outcome) → LoansOwn o
    → Adds (IsReceipt s node o) s.fixed.handles (settled s node payload o).fixed.handles
settled_adds s node payload (Tells reply) p =
    either (λ (t : State). Adds (λ h. ⊥) s.fixed.handles t.fixed.handles) (is_nothing reply) (with_fixed s (called s.fixed)) s
    (λ u. same_adds (λ h. ⊥) s.fixed.handles s.fixed.handles refl) (λ u. same_adds (λ h. ⊥) s.fixed.handles s.fixed.handles refl)
settled_adds s node payload (Loans g) p = added_adds (λ h. ⊥) s.fixed node (holding g payload) (none_new (holding g payload) p)
settled_adds s node payload (Fills g) p = changed_adds (λ h. ⊥) s.fixed g p
settled_adds s node payload (Sends g true count) p =
    either (λ (f : Fixed). Adds (λ h. ⊥) s.fixed.handles f.handles) (is_request_loan g.kind) (added (numbered s.fixed g.node) (sent_handle g count)) s.fixed
    (λ u. added_adds (λ h. ⊥) s.fixed g.node (sent_handle g count) (none_new (sent_handle g count) refl))
    (λ u. same_adds (λ h. ⊥) s.fixed.handles s.fixed.handles refl)
settled_adds s node payload (Sends g false count) p =
    either (λ (t : State). Adds (λ h. ⊥) s.fixed.handles t.fixed.handles) (is_request_loan g.kind)
    (with_fixed s (changed s.fixed (sent_handle g count))) (released (with_fixed s (dropped s.fixed g)) g.port)
    (λ u. changed_adds (λ h. ⊥) s.fixed (sent_handle g count) refl)
    (λ u. released_adds (λ h. ⊥) s (dropped s.fixed g) g.port (dropped_adds (λ h. ⊥) s.fixed g))
settled_adds s node payload (FailsToSend g true refusal) p = same_adds (λ h. ⊥) s.fixed.handles s.fixed.handles refl
settled_adds s node payload (FailsToSend g false refusal) p = released_adds (λ h. ⊥) s (dropped s.fixed g) g.port (dropped_adds (λ h. ⊥) s.fixed g)
settled_adds s node payload (Receives x w m) p =
    added_adds (λ h. h ≡ received_handle s.fixed node x m) s.fixed node (received_handle s.fixed node x m) (λ u. refl)
settled_adds s node payload (Drops g) p =
    released_adds (λ h. ⊥) s (gives_up (dropped s.fixed g) g) g.port
    (subst (Adds (λ h. ⊥) s.fixed.handles) (sym (gives_up-handles (dropped s.fixed g) g)) (dropped_adds (λ h. ⊥) s.fixed g))
settled_adds s node payload (DropsPort port) p =
    released_adds (λ h. ⊥) s (record (s.fixed) { ports = map (port_dropped port) s.fixed.ports }) port (same_adds (λ h. ⊥) s.fixed.handles s.fixed.handles refl)
settled_adds s node payload (Forgets dead) p =
    either (λ (t : State). Adds (λ h. ⊥) s.fixed.handles t.fixed.handles) (has_forgotten s.fixed node dead) s (forgets s node dead)
    (λ u. same_adds (λ h. ⊥) s.fixed.handles s.fixed.handles refl) (λ u. same_adds (λ h. ⊥) s.fixed.handles s.fixed.handles refl)
