-- A way that is live after a beat was live before, and the end of a call leaves its record as it was.
use Rattle.std.specs.Prelude.{◌≡◌, ℕ, Bool, true, false, not, ◌&&◌, if◌then◌else◌, ◌==◌, List, [], ◌∷◌, ◌++◌, map, filter, flat_map, find, refl}
use Rattle.std.specs.List.{range_with_len}
use Rattle.std.specs.Option.{option_map_or}
use Rattle.std.proofs.Common.{sym, subst, ap, ◌∙◌, eqb-true, inl, inr}
use Rattle.iox_model.specs.declared.kind.Role.{Role}
use Rattle.iox_model.specs.declared.kind.Role.TheVariants.{Client, Server}
use Rattle.iox_model.specs.declared.way.Way.{Way}
use Rattle.iox_model.specs.Doings.{Outcome, Doing, Loaning}
use Rattle.iox_model.specs.Ends.{settled}
use Rattle.iox_model.specs.Forgetting.{goes_to_dead, forgets}
use Rattle.iox_model.specs.Handles.{is_request_loan}
use Rattle.iox_laws.specs.WeaveLaws.Ledgers.{is_live, is_emptied_by}
use Rattle.iox_model.specs.Maps.{has_number, has_way}
use Rattle.iox_model.specs.Messages.{request_way, response_way}
use Rattle.iox_model.specs.Peers.{is_counted_on, is_connected_port, forgot_port, node_of_port}
use Rattle.iox_model.specs.Settings.{same_role}
use Rattle.iox_model.specs.States.{Port, Handle, Fixed, State}
use Rattle.iox_laws.proofs.WeaveLaws.CallLaws.{not-true}
use Rattle.iox_laws.proofs.WeaveLaws.WholeLemmas.{split}
use Rattle.iox_laws.proofs.WeaveLaws.WholeLemmas.{put_at-here}
use Rattle.iox_laws.proofs.WeaveLedger.Truths.{never, both_true}
use Rattle.iox_laws.proofs.WeaveLedger.Lists.{IsAmong, any-among, among-any, among-number, number-among, among-front}
use Rattle.iox_laws.proofs.WeaveLedger.Views.{View, view, IsAt}
use Rattle.iox_laws.proofs.WeaveLedger.Senders.{FitsHandles, FitsOutcome, FitsDoing}
use Rattle.iox_laws.proofs.WeaveLedger.Phases.{HasOwnPorts}
use Rattle.iox_laws.proofs.WeaveLedger.Rests.{settled-rest}
use Rattle.iox_laws.proofs.WeaveLedger.Cleared.{port-at-node, forgotten-known}
use Rattle.iox_laws.proofs.WeaveLedger.Worlds.{settled-ports}

abbrev pub IsLive : Fixed → Way → Type 0
IsLive f y = is_live f y ≡ true

-- ---- what a live way is

pub live-counted : (f : Fixed) (y : Way) → IsLive f y → is_counted_on f y ≡ true
live-counted f y e = (split (is_counted_on f y) (is_connected_port f y.receiver && not (forgot_port f (node_of_port f y.receiver) y.sender)) e).0

pub live-receiver : (f : Fixed) (y : Way) (n : ℕ) → IsLive f y → IsAt f.ports y.receiver n → forgot_port f n y.sender ≡ false
live-receiver f y n e at =
    subst (λ k. forgot_port f k y.sender ≡ false) at (not-true (forgot_port f (node_of_port f y.receiver) y.sender)
    (split (is_connected_port f y.receiver) (not (forgot_port f (node_of_port f y.receiver) y.sender))
    (split (is_counted_on f y) (is_connected_port f y.receiver && not (forgot_port f (node_of_port f y.receiver) y.sender)) e).1).1)

live-sender : (f : Fixed) (y : Way) (n : ℕ) → IsLive f y → IsAt f.ports y.sender n → forgot_port f n y.receiver ≡ false
live-sender f y n e at =
    subst (λ k. forgot_port f k y.receiver ≡ false) at (not-true (forgot_port f (node_of_port f y.sender) y.receiver)
    (split (is_connected_port f y.sender) (not (forgot_port f (node_of_port f y.sender) y.receiver)) (live-counted f y e)).1)

-- ---- a Forget

-- whom a node forgot it forgot still
forgot-still : (s : State) (n gone k p : ℕ) → forgot_port s.fixed k p ≡ true → forgot_port (forgets s n gone).fixed k p ≡ true
forgot-still s n gone k p e =
    let r : (q : Port) × IsAmong q s.fixed.ports × (((q.number == p) && has_number q.node (s.fixed.forgot k)) ≡ true)
    = any-among (λ q. (q.number == p) && has_number q.node (s.fixed.forgot k)) s.fixed.ports e in
    let t : ((r.0.number == p) ≡ true) × (has_number r.0.node (s.fixed.forgot k) ≡ true) = split _ _ r.2 in
    among-any (λ q. (q.number == p) && has_number q.node ((forgets s n gone).fixed.forgot k)) r.0 s.fixed.ports r.1
    (both_true (r.0.number == p) _ t.0 (more r.0.node (k == n) refl t.1))
  where
    more : (node : ℕ) (b : Bool) → (k == n) ≡ b → has_number node (s.fixed.forgot k) ≡ true
        → has_number node (if b then s.fixed.forgot n ++ gone ∷ [] else s.fixed.forgot k) ≡ true
    more node true same h =
        among-number node (s.fixed.forgot n ++ gone ∷ []) (among-front node (s.fixed.forgot n) (gone ∷ [])
        (subst (λ j. IsAmong node (s.fixed.forgot j)) (eqb-true k n same) (number-among node (s.fixed.forgot k) h)))
    more node false same h = h

forgets-live : (s : State) (n gone : ℕ) (y : Way) → IsLive (forgets s n gone).fixed y → IsLive s.fixed y
forgets-live s n gone y =
    all (is_connected_port s.fixed y.sender) (forgot_port s.fixed (node_of_port s.fixed y.sender) y.receiver)
    (forgot_port (forgets s n gone).fixed (node_of_port s.fixed y.sender) y.receiver) (is_connected_port s.fixed y.receiver)
    (forgot_port s.fixed (node_of_port s.fixed y.receiver) y.sender) (forgot_port (forgets s n gone).fixed (node_of_port s.fixed y.receiver) y.sender)
    (forgot-still s n gone (node_of_port s.fixed y.sender) y.receiver) (forgot-still s n gone (node_of_port s.fixed y.receiver) y.sender)
  where
    all : (a b b' c d d' : Bool) → (b ≡ true → b' ≡ true) → (d ≡ true → d' ≡ true)
        → ((a && not b') && (c && not d')) ≡ true → ((a && not b) && (c && not d)) ≡ true
    all true false false true false false f g e = refl
    all true true false c d d' f g e = never false (f refl) refl
    all a b b' c true false f g e = never false (g refl) refl
    all false b b' c d d' f g e = never false e refl
    all true b true c d d' f g e = never false e refl
    all true b false false d d' f g e = never false e refl
    all true b false true d true f g e = never false e refl

-- what is cleared is of a way that is not live any more
forgets-record : (s : State) (n gone : ℕ) (y : Way) → HasOwnPorts s.fixed → IsLive (forgets s n gone).fixed y → (k : ℕ)
    → (forgets s n gone).delivered y k ≡ s.delivered y k
forgets-record s n gone y own live k = by_case (goes_to_dead s.fixed n gone y) refl
  where
    now : has_number gone ((forgets s n gone).fixed.forgot n) ≡ true
    now = ap (has_number gone) (put_at-here s.fixed.forgot n (s.fixed.forgot n ++ gone ∷ []))
        ∙ among-number gone (s.fixed.forgot n ++ gone ∷ []) (last gone (s.fixed.forgot n))
      where
        last : (x : ℕ) (xs : List ℕ) → IsAmong x (xs ++ x ∷ [])
        last x [] = inl refl
        last x (z ∷ zs) = inr (last x zs)

    by_case : (b : Bool) → goes_to_dead s.fixed n gone y ≡ b → (if b then false else s.delivered y k) ≡ s.delivered y k
    by_case true e =
        never (forgot_port (forgets s n gone).fixed n y.receiver) (forgotten-known (forgets s n gone).fixed n gone y now e)
        (live-sender (forgets s n gone).fixed y n live (port-at-node s.fixed.ports n y.sender own (split _ _ e).0))
    by_case false e = refl

-- ---- the end of a call

same-live : (s u : State) → u.fixed.ports ≡ s.fixed.ports → u.fixed.forgot ≡ s.fixed.forgot → (y : Way) → IsLive u.fixed y → IsLive s.fixed y
same-live s u ports forgot y live =
    ap (λ (g : ℕ → List ℕ). is_live (record (s.fixed) { forgot = g }) y) (sym forgot)
    ∙ ap (λ (ps : List Port). is_live (record (u.fixed) { ports = ps }) y) (sym ports) ∙ live

pub over-live : (s : State) (n : ℕ) (payload : List ℕ) (o : Outcome) (y : Way) → s.fixed.on_wire ≡ true → FitsHandles (view s.fixed n) n
    → FitsOutcome (view s.fixed n) n o → IsLive (settled s n payload o).fixed y → IsLive s.fixed y
over-live s n payload o y wire fits p live = elim (settled-rest s n payload o wire p) as (λ z. IsLive s.fixed y) [
  | inl keeps ↦ same-live s (settled s n payload o) (settled-ports s n payload o wire fits p) keeps.forgot y live
  | inr r ↦ forgets-live s n r.0 y (subst (λ (t : State). IsLive t.fixed y) r.1 live)
]

pub over-record : (s : State) (n : ℕ) (payload : List ℕ) (o : Outcome) (y : Way) → s.fixed.on_wire ≡ true → HasOwnPorts s.fixed
    → FitsOutcome (view s.fixed n) n o → IsLive (settled s n payload o).fixed y → (k : ℕ) → (settled s n payload o).delivered y k ≡ s.delivered y k
over-record s n payload o y wire own p live k =
    elim (settled-rest s n payload o wire p) as (λ z. (settled s n payload o).delivered y k ≡ s.delivered y k) [
      | inl keeps ↦ ap (λ (f : Way → ℕ → Bool). f y k) keeps.delivered
      | inr r ↦ ap (λ (t : State). t.delivered y k) r.1 ∙ forgets-record s n r.0 y own (subst (λ (t : State). IsLive t.fixed y) r.1 live) k
    ]

-- what is delivered after the end of a call was so before
pub over-delivered : (s : State) (n : ℕ) (payload : List ℕ) (o : Outcome) (y : Way) (k : ℕ) → s.fixed.on_wire ≡ true
    → FitsOutcome (view s.fixed n) n o → (settled s n payload o).delivered y k ≡ true → s.delivered y k ≡ true
over-delivered s n payload o y k wire p e = elim (settled-rest s n payload o wire p) as (λ z. s.delivered y k ≡ true) [
  | inl keeps ↦ sym (ap (λ (f : Way → ℕ → Bool). f y k) keeps.delivered) ∙ e
  | inr r ↦ cleared (goes_to_dead s.fixed n r.0 y) (s.delivered y k) (sym (ap (λ (t : State). t.delivered y k) r.1) ∙ e)
]
  where
    cleared : (a b : Bool) → (if a then false else b) ≡ true → b ≡ true
    cleared true b e = never false e refl
    cleared false b e = e

-- ---- the ways of a loan rest on what its own node has

abbrev others_in : View → Role → List ℕ
others_in v role = map (λ p. p.number) (filter (λ p. same_role p.role role && not (has_number p.node v.forgot)) v.ports)

abbrev lanes_in : View → ℕ → ℕ → List Way
lanes_in v server client =
    map (λ lane. response_way client lane server) (range_with_len 0 (option_map_or (λ p. p.pool) (find (λ p. p.number == client) v.ports) 0))

abbrev lending_in : View → Handle → List Way
lending_in v h =
    if is_request_loan h.kind then map (request_way h.port) (others_in v Server) else flat_map (lanes_in v h.port) (others_in v Client)

pub same-empties : (f g : Fixed) (n : ℕ) (y : Way) (d : Doing) → view f n ≡ view g n → FitsDoing (view g n) n d → is_emptied_by f y d ≡ is_emptied_by g y d
same-empties f g n y (Loaning copies h left) same p =
    ap (λ v. has_way y (lending_in v h) && not (has_way y left)) (subst (λ k. view f k ≡ view g k) (sym p.of_node) same)
same-empties f g n y d same p = refl
