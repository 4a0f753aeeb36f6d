-- Who was forgotten stays forgotten over a step: so a way that is counted after it was counted before.
use Rattle.iox_model.specs.Weaves as weaves
use Rattle.iox_wire_calls.specs.Ending.TheVariants as endings
use Rattle.iox_wire_calls.specs.Settlements as settle
use Rattle.iox_wire_calls.specs.Local.TheVariants.{ReleaseExchanges, ReleaseLooks}
use Rattle.iox_model.specs.Handles.{is_received, is_request_loan}
use Rattle.iox_model.specs.States.{Fixed, Port}
use Rattle.iox_wire_calls.specs.Steps.{accessed, advance, closed, ending_at, next}
use Rattle.std.specs.Prelude.{Bool, List, None, Option, Some, [], false, find, not, refl, true, ℕ, ◌&&◌, ◌++◌, ◌-◌, ◌==◌, ◌∷◌, ◌≡◌}
use Rattle.iox_wire_calls.specs.Tables.{Setting, way_in}
use Rattle.iox_wire_calls.proofs.OthersSame.{view_same}
use Rattle.iox_laws.proofs.WeaveLaws.MapLemmas.{either}
use Rattle.iox_wire_calls.specs.WholeSteps.{reply_beats, step_beats}
use Rattle.iox_model.specs.declared.way.Way.{Way}
use Rattle.iox_wire_calls.specs.Ending.{Ending}
use Rattle.iox_model.specs.Peers.{forgot_port, is_connected_port, is_counted_on, node_of_port}
use Rattle.iox_wire_calls.specs.Desks.{at_count, at_desk, gives_up}
use Rattle.iox_wire_calls.specs.Seat.{Seat}
use Rattle.iox_laws.proofs.WeaveLedger.Views.{View, less}
use Rattle.iox_wire_calls.specs.Aside.{shown_at}
use Rattle.std.proofs.Common.{ap, subst, sym, true≢false, ◌∙◌}
use Rattle.iox_laws.proofs.WeaveLedger.Truths.{or-false}
use Rattle.std.specs.List.{list_any}
use Rattle.iox_model.specs.Weaves.{IsWeave, Makes, World}
use Rattle.iox_model.specs.Maps.{has_number}
use Rattle.iox_model.specs.Moments.{Moment}
use Rattle.iox_laws.proofs.WeaveBeats.LiveWays.{beats_are_reachable}
use Rattle.iox_laws.specs.WeaveWorlds.Worlds.{IsReachable}
use Rattle.iox_wire_calls.specs.Local.{Local}
use Rattle.iox_wire_calls.proofs.OwnPorts.{both}
use Rattle.iox_laws.proofs.WeaveLedger.Lists.{among-front, among-number, number-among}
use Rattle.iox_wire_calls.proofs.CountsKept.{steps_keep_own}
use Rattle.std.specs.Option.{option_map_or}
use Rattle.iox_model.specs.Commands.{Reply}

-- ---- the machine

-- whom another node forgot stays so
replied_forgot : (n k : ℕ) (payload : List ℕ) (reply : Option Reply) (w u : World) → IsReachable w → (k == n) ≡ false → IsWeave w (reply_beats n payload reply) u
    → u.state.fixed.forgot k ≡ w.state.fixed.forgot k
replied_forgot n k payload None w u reach other woven = ap (λ (v : World). v.state.fixed.forgot k) woven
replied_forgot n k payload (Some reply) w u reach other woven =
    ap (λ (v : World). v.state.fixed.forgot k) woven.2
    ∙ ap (λ (v : View). v.forgot) (view_same w woven.0 (weaves.Ends n reply payload) k reach woven.1 other)

pub forgot_stays : (n k : ℕ) (payload : List ℕ) (m : Option Moment) (reply : Option Reply) (w u : World) → IsReachable w → (k == n) ≡ false
    → IsWeave w (step_beats n payload m reply) u → u.state.fixed.forgot k ≡ w.state.fixed.forgot k
forgot_stays n k payload None reply w u reach other woven = replied_forgot n k payload reply w u reach other woven
forgot_stays n k payload (Some m) reply w u reach other woven =
    replied_forgot n k payload reply woven.0 u (beats_are_reachable w woven.0 (Makes n m) reach woven.1) other woven.2
    ∙ ap (λ (v : View). v.forgot) (view_same w woven.0 (Makes n m) k reach woven.1 other)

-- a node forgets more, if it forgets
fewer : (xs ys : List ℕ) → ((j : ℕ) → has_number j xs ≡ true → has_number j ys ≡ true) → (port : ℕ) (qs : List Port)
    → list_any (λ q. (q.number == port) && has_number q.node ys) qs ≡ false → list_any (λ q. (q.number == port) && has_number q.node xs) qs ≡ false
fewer xs ys less port [] none = none
fewer xs ys less port (q ∷ qs) none =
    let r = or-false ((q.number == port) && has_number q.node ys) (list_any (λ k. (k.number == port) && has_number k.node ys) qs) none in
    rw (this (q.number == port) (has_number q.node xs) (has_number q.node ys) (less q.node) r.0) (fewer xs ys less port qs r.1)
  where
    this : (a b c : Bool) → (b ≡ true → c ≡ true) → (a && c) ≡ false → (a && b) ≡ false
    this true true c more none = absurd (true≢false (sym (more refl) ∙ none))
    this true false c more none = refl
    this false b c more none = refl

pub counted_back : (f g : Fixed) (y : Way) → g.ports ≡ f.ports
    → ((j : ℕ) → has_number j (f.forgot (node_of_port f y.sender)) ≡ true → has_number j (g.forgot (node_of_port f y.sender)) ≡ true)
    → is_counted_on g y ≡ true → is_counted_on f y ≡ true
counted_back f g y ports less on =
    let r = both (is_connected_port g y.sender) (not (forgot_port g (node_of_port g y.sender) y.receiver)) on in
    let node : node_of_port g y.sender ≡ node_of_port f y.sender = ap (λ qs. option_map_or (λ (q : Port). q.node) (find (λ q. q.number == y.sender) qs) 0) ports in
    let kept : forgot_port g (node_of_port f y.sender) y.receiver ≡ false
    = subst (λ k. forgot_port g k y.receiver ≡ false) node (false_of (forgot_port g (node_of_port g y.sender) y.receiver) r.1) in
    rw (ap (λ qs. list_any (λ (q : Port). q.number == y.sender) qs) (sym ports) ∙ r.0)
    (ap not (fewer (f.forgot (node_of_port f y.sender)) (g.forgot (node_of_port f y.sender)) less y.receiver f.ports
    (subst (λ qs. list_any (λ (q : Port). (q.number == y.receiver) && has_number q.node (g.forgot (node_of_port f y.sender))) qs ≡ false) ports kept)))
  where
    false_of : (b : Bool) → not b ≡ true → b ≡ false
    false_of true e = absurd (true≢false (sym e))
    false_of false e = refl

-- ---- whom the node itself forgot

forgot_more : (p : Setting) (x : Seat) (ending : Ending) (j : ℕ) → has_number j x.forgot ≡ true → has_number j (closed p x (Some ending)).forgot ≡ true
forgot_more p x (endings.Sends e true count) j has =
    either (λ (q : Seat). has_number j q.forgot ≡ true) (is_request_loan e.kind) (settle.sends_entry x e true count) (settle.sends_away x e true) (λ is. has) (λ is. has)
forgot_more p x (endings.Sends e false count) j has =
    either (λ (q : Seat). has_number j q.forgot ≡ true) (is_request_loan e.kind) (settle.sends_entry x e false count) (settle.sends_away x e false) (λ is. has) (λ is. has)
forgot_more p x (endings.FailsToSend e true r) j has = has
forgot_more p x (endings.FailsToSend e false r) j has = has
forgot_more p x (endings.Drops e) j has =
    either (λ (q : Seat). has_number j (settle.loses q e).forgot ≡ true) (is_received e.kind) (at_count x (way_in e) (λ n. n - 1)) (at_desk x e.port (gives_up e)) (λ is. has) (λ is. has)
forgot_more p x (endings.Forgets dead) j has =
    either (λ (q : Seat). has_number j q.forgot ≡ true) (has_number dead x.forgot) x (settle.forgets p x dead) (λ is. has)
    (λ is. among-number j (x.forgot ++ dead ∷ []) (among-front j x.forgot (dead ∷ []) (number-among j x.forgot has)))
forgot_more p x ending j has = has

forgot_closed : (p : Setting) (x : Seat) (o : Option Ending) (j : ℕ) → has_number j x.forgot ≡ true → has_number j (closed p x o).forgot ≡ true
forgot_closed p x None j has = has
forgot_closed p x (Some ending) j has = forgot_more p x ending j has

pub shown_forgot : (p : Setting) (q : Seat) (local : Local) → (shown_at p q local).forgot ≡ q.forgot
shown_forgot p q (ReleaseLooks e) = refl
shown_forgot p q (ReleaseExchanges e old) = refl
shown_forgot p q local = refl

pub forgot_next : (p : Setting) (q : Seat) (seen j : ℕ) → has_number j q.forgot ≡ true → has_number j (next p q seen).forgot ≡ true
forgot_next p q seen j has =
    forgot_closed p (advance p (accessed q) q.local seen) (ending_at (advance p (accessed q) q.local seen).local) j
    (ap (has_number j) (steps_keep_own p q seen).forgot ∙ has)
