-- What another node does, beat by beat.
use Rattle.std.specs.Prelude.{map}
use Rattle.std.specs.List.{list_any}
use Rattle.std.proofs.Common.{◌≡◌, ℕ, ◌+◌, Bool, true, false, if◌then◌else◌, ◌==◌, List, [], ◌∷◌, Option, Some, refl, ap, sym, subst, ◌∙◌, arith}
use Rattle.iox_model.specs.declared.kind.Role.TheVariants.{Client, Server}
use Rattle.iox_model.specs.declared.reply.Refusal.TheVariants.{ExceedsMaxActiveRequests, UnableToDeliver}
use Rattle.iox_model.specs.declared.way.Way.{Way}
use Rattle.iox_model.specs.Doings.{Doing, Outcome, DropsPort, Sending, Loans, Sends, FailsToSend, Ended, Asking}
use Rattle.iox_model.specs.Handles.{is_request_loan}
use Rattle.iox_model.specs.Maps.{put_at, has_number}
use Rattle.iox_model.specs.Messages.{request_way}
use Rattle.iox_model.specs.Peers.{node_of_port, others}
use Rattle.iox_model.specs.Requests.{opening, looking, emptying, targets, to_open, sending_of, sends_request, is_active_spent}
use Rattle.iox_model.specs.Responses.{sends, sends_response}
use Rattle.iox_model.specs.States.{Handle, State}
use Rattle.iox_model.specs.Weaves.{World, Begins, Makes, Ends, Dies}
use Rattle.iox_laws.proofs.WeaveLaws.WholeLemmas.{moved-fixed}
use Rattle.iox_laws.proofs.WeaveLedger.Views.{View, view}
use Rattle.iox_laws.proofs.WeaveLedger.Senders.{FitsOutcome}
use Rattle.iox_laws.proofs.WeaveLedger.Settling.{settled-else}
use Rattle.iox_laws.proofs.WeaveLedger.Worlds.{doing-is}
use Rattle.iox_laws.proofs.WeaveLedger.Moves.{ends-fits}
use Rattle.iox_laws.proofs.WeaveBeats.LiveWays.{Here, here}
use Rattle.iox_laws.specs.WeaveWorlds.Worlds.{IsReachable}
use Rattle.iox_laws.proofs.WeaveWorlds.Sound.{Sound, SoundDoing, FitsCall, IsOwn}
use Rattle.iox_laws.proofs.WeaveWorlds.Reached.{reachable_sound}
use Rattle.iox_wire_moments.specs.MomentsOf.{Pools}
use Rattle.iox_wire_locals.specs.declared.local.Local.{Local}
use Rattle.iox_wire_locals.specs.declared.local.Local.TheVariants.{LendStores}
use Rattle.iox_wire_locals.specs.NewLoans.{loan_in}
use Rattle.iox_wire_locals.specs.Doings.{doing_of}
use Rattle.iox_wire_locals.specs.declared.seat.Seat.{Seat}
use Rattle.iox_wire_locals.specs.Tables.{Setting}
use Rattle.iox_wire_locals.specs.BeginLaws.{Counts}
use Rattle.iox_wire_laws.specs.WireKeeping.Readiness.{ShowsDoing}
use Rattle.iox_wire_laws.specs.WireKeeping.OwnLaws.{LendsByOwn, OthersKeepCounts}
use Rattle.iox_wire_laws.proofs.WireKeeping.Frames.{Frame, KeepsPorts, settled_frame}
use Rattle.iox_wire_laws.proofs.WireKeeping.CountsKept.{by_fixed}
use Rattle.iox_wire_laws.proofs.WireKeeping.PlacesKnown.{places_are_known}

elsewhere : (doing : ℕ → Option Doing) (n m : ℕ) (o : Option Doing) → (m == n) ≡ false → put_at doing n o m ≡ doing m
elsewhere doing n m o other = rw other refl

keeps : (v : View) (n : ℕ) (o : Outcome) → FitsOutcome v n o → KeepsPorts o
keeps v n (DropsPort port) fits = fits
keeps v n o fits = tt

-- ---- a loan that is sent is the node's own

module _ (s : State) (node : ℕ) where
  abbrev Owns : Handle → Doing → Type 0
  Owns h d = SoundDoing s node d → IsOwn s.fixed node h

  either_own : (h : Handle) (b : Bool) (d e : Doing) → Owns h d → Owns h e → Owns h (if b then d else e)
  either_own h true d e f g = f
  either_own h false d e f g = g

  opens_own : (x : Sending) (left full : List Way) → Owns x.loan (opening x left full)
  opens_own x [] full = λ p. p.0.0
  opens_own x (w ∷ left) full = λ p. p.0.0

  looks_own : (x : Sending) (left full : List Way) → Owns x.loan (looking x left full)
  looks_own x [] full =
      either_own x.loan (list_any x.fails full) (Ended (FailsToSend x.loan x.copied UnableToDeliver)) (opening x (to_open x) full)
      (λ p. p) (opens_own x (to_open x) full)
  looks_own x (w ∷ left) full = λ p. p.0.0

  empties_own : (x : Sending) (left : List Way) → Owns x.loan (emptying x left)
  empties_own x [] =
      either_own x.loan x.overflow (opening x (to_open x) []) (looking x (targets x) []) (opens_own x (to_open x) []) (looks_own x (targets x) [])
  empties_own x (w ∷ left) = λ p. p.0.0

  sends_own : (h : Handle) (copied : Bool) → Owns h (sends s.fixed h copied)
  sends_own h copied =
      let servers : List ℕ = others s.fixed h.node Server in
      either_own h (is_request_loan h.kind) (sends_request s.fixed h copied servers) (sends_response s.fixed h copied)
      (either_own h (is_active_spent s.fixed h) (Ended (FailsToSend h copied ExceedsMaxActiveRequests))
      (emptying (sending_of s.fixed h copied servers) (map (request_way h.port) servers))
      (λ p. p) (empties_own (sending_of s.fixed h copied servers) (map (request_way h.port) servers)))
      (either_own h (has_number h.client (others s.fixed h.node Client)) (Asking (sending_of s.fixed h copied (h.client ∷ [])))
      (Ended (Sends h copied 0)) (λ p. p.0) (λ p. p))

lends_own : (p : Setting) (held : Pools) (w : World) (x : Seat) → Sound w → Counts p x w.state held
    → (local : Local) → w.doing x.node ≡ doing_of p w.state.fixed held x.node local → LendsByOwn p x local
lends_own p held w x sound has (LendStores o slot next) doing = λ copies. (
  subst (λ ports. node_of_port (record (w.state.fixed) { ports = ports }) o.port ≡ x.node) has.knows.ports (own copies).1.1,
  (own copies).0,
)
  where
    own : o.copies ≡ true → IsOwn w.state.fixed x.node (loan_in p o)
    own copies =
        let is : w.doing x.node ≡ Some (sends w.state.fixed (loan_in p o) true)
        = doing ∙ ap (λ b. Some (if b then sends w.state.fixed (loan_in p o) true else Ended (Loans (loan_in p o)))) copies in
        sends_own w.state x.node (loan_in p o) true (subst (FitsCall w.state x.node) is (sound.calls x.node).1)
lends_own p held w x sound has local doing = tt

-- two worlds in which the node counts the same, and has the same to do
shown : (p : Setting) (held : Pools) (w u : World) (x : Seat) → IsReachable w → Counts p x w.state held → Counts p x u.state held
    → u.doing x.node ≡ w.doing x.node → ShowsDoing p held w x → Counts p x u.state held × ShowsDoing p held u x
shown p held w u x reach has after same doing = (
  after,
  same ∙ doing ∙ places_are_known p x w.state.fixed u.state.fixed held has.knows after.knows
      (lends_own p held w x (reachable_sound w reach) has x.local doing),
)

added : (a b c d : ℕ) → a ≡ b → a + c ≡ b + d → c ≡ d
added a b c d e q = omega arith

pub others_keep_counts : OthersKeepCounts
others_keep_counts p held w u (Begins n call c) x reach beat other has doing =
    shown p held w u x reach has (by_fixed p x w.state u.state held (ap (λ (v : World). v.state.fixed) beat.2) has)
    (ap (λ (v : World). v.doing x.node) beat.2 ∙ elsewhere w.doing n x.node _ other) doing
others_keep_counts p held w u (Makes n moment) x reach beat other has doing =
    shown p held w u x reach has
    (by_fixed p x w.state u.state held (ap (λ (v : World). v.state.fixed) beat.5 ∙ moved-fixed w.state moment) has)
    (ap (λ (v : World). v.doing x.node) beat.5 ∙ elsewhere w.doing n x.node _ other) doing
others_keep_counts p held w u (Dies n) x reach beat other has doing =
    shown p held w u x reach has (by_fixed p x w.state u.state held (ap (λ (v : World). v.state.fixed) beat.1) has)
    (ap (λ (v : World). v.doing x.node) beat.1) doing
others_keep_counts p held w u (Ends n reply payload) x reach beat other has doing =
    let h : Here w = here w reach in
    let fits : FitsOutcome (view w.state.fixed n) n beat.3
    = ends-fits w.state n beat.1 beat.3 (doing-is w n beat.1 h.holding.fits beat.2) beat.4 in
    let seen : view u.state.fixed x.node ≡ view w.state.fixed x.node
    = ap (λ (v : World). view v.state.fixed x.node) beat.7
    ∙ settled-else w.state n x.node payload beat.3 h.holding.fits.wire (h.holding.fits.handles n) fits other in
    let k : Frame w.state.fixed u.state.fixed
    = subst (λ (v : World). Frame w.state.fixed v.state.fixed) (sym beat.7)
    (settled_frame w.state n payload beat.3 h.holding.fits.wire (keeps (view w.state.fixed n) n beat.3 fits)) in
    let after : Counts p x u.state held = record {
      knows = record {
        limits = k.2 ∙ has.knows.limits;
        ports = k.1 ∙ has.knows.ports;
        unhandled = has.knows.unhandled;
        handles = ap (λ (v : View). v.handles) seen ∙ has.knows.handles;
        forgot = ap (λ (v : View). v.forgot) seen ∙ has.knows.forgot;
        sent = has.knows.sent;
      };
      on_wire = k.0 ∙ has.on_wire;
      next_number = k.3 ∙ has.next_number;
      handles_made =
          added u.state.fixed.next_number w.state.fixed.next_number _ _ k.3 (ap (λ (v : View). v.next) seen) ∙ has.handles_made;
      expired = λ port. ap (λ (g : ℕ → List ℕ). g port) k.4 ∙ has.expired port;
    } in
    shown p held w u x reach has after (ap (λ (v : World). v.doing x.node) beat.7 ∙ elsewhere w.doing n x.node _ other) doing
