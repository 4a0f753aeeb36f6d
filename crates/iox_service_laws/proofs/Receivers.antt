-- Nothing is outstanding to a port that is gone: the living sender has all back.
use Rattle.std.specs.Prelude.{◌≡◌, ℕ, Bool, true, false, if◌then◌else◌, ◌==◌, List, [], ◌∷◌, ◌++◌, None, refl}
use Rattle.std.proofs.Common.{sym, subst, ap, ◌∙◌, true≢false}
use Rattle.iox_model.specs.declared.kind.Kind.TheVariants.{ActiveRequest}
use Rattle.iox_model.specs.declared.way.Way.{Way}
use Rattle.iox_model.specs.Begins.{start}
use Rattle.iox_model.specs.Commands.{Call, Reply}
use Rattle.iox_model.specs.Doings.{Doing, Delivering, Returning, Stale}
use Rattle.iox_model.specs.Expiries.{is_end}
use Rattle.iox_model.specs.Handles.{same_kind, way_of}
use Rattle.iox_model.specs.Makings.{new_port}
use Rattle.iox_model.specs.Maps.{is_empty, put, put_at, rest_of, same_way}
use Rattle.iox_model.specs.Messages.{Message, request_way, response_way}
use Rattle.iox_model.specs.Moments.{moved, Moment, Deliver, Evict, Take, GiveBack, GetBack, SeesEmpty, SeesWaiting, SeesFull, SeesRoom, SeesNoneBack, Open, Close, Hint, Look}
use Rattle.iox_model.specs.Names.{misnamed}
use Rattle.iox_model.specs.Peers.{is_counted_on}
use Rattle.iox_model.specs.Runs.{IsReachableState}
use Rattle.iox_model.specs.States.{Fixed, Handle, Port, State}
use Rattle.iox_model.specs.Transitions.{next}
use Rattle.iox_model.specs.WholeCalls.{IsDone, MayCome, moved_by}
use Rattle.iox_laws.proofs.WeaveLaws.MapLemmas.{either, same_way-true}
use Rattle.iox_laws.proofs.WeaveLaws.WholeLemmas.{split}
use Rattle.iox_laws.proofs.WeaveLedger.Lists.{way-among}
use Rattle.iox_laws.proofs.WeaveLedger.Phases.{target-of}
use Rattle.iox_laws.proofs.WeaveLedger.Truths.{false_if, or-false}
use Rattle.iox_laws.proofs.WeaveWorlds.Inductions.{IsKept, reached_keeps}
use Rattle.iox_laws.proofs.WeaveWorlds.Sound.{SoundDoing}
use Rattle.iox_laws.proofs.RunLaws.Calls.{Goes, begins, goes_moved}
use Rattle.iox_laws.proofs.RunLaws.Holding.{HoldsIn}
use Rattle.iox_laws.proofs.RunLaws.Ports.{any_at, any_stay, at_more, others_than}
use Rattle.iox_laws.proofs.RunLaws.Rests.{Rests}
use Rattle.iox_laws.proofs.RunLaws.Runs.{created_calm}
use Rattle.iox_laws.proofs.RunLaws.Settling.{Calm}
use Rattle.iox_laws.proofs.ServiceLaws.Quiet.{IsFramed, Quiet, any_story, done_told, quiet_kept, settled_framed}
use Rattle.iox_laws.proofs.ServiceLaws.Stories.{ToldEnd}

-- on a way whose receiver is gone
pub record IsBack (s : State) : Type 0 where
  pub returned : (w : Way) → any_at w.receiver s.fixed.ports ≡ false → s.returned w ≡ []
  pub delivered : (w : Way) → any_at w.receiver s.fixed.ports ≡ false → (k : ℕ) → s.delivered w k ≡ false

-- ---- a moment

put_else : {A : Type 0} (P : A → Type 0) (f : Way → A) (w : Way) (a : A) (v : Way) → (v ≡ w → P a) → P (f v) → P (put f w a v)
put_else P f w a v here there = either P (same_way v w) a (f v) (λ same. here (same_way-true v w same)) (λ other. there)

-- a way whose receiver is there is none whose receiver is gone
other_way : (f : Fixed) (w v : Way) → any_at w.receiver f.ports ≡ true → any_at v.receiver f.ports ≡ false → v ≡ w → ⊥
other_way f w v there gone is = true≢false (sym there ∙ ap (λ (z : Way). any_at z.receiver f.ports) (sym is) ∙ gone)

delivers_there : (s : State) (node : ℕ) (d : Doing) (w : Way) (m : Message) → HoldsIn s.fixed d → (next s node d (Deliver w m)).condition
    → any_at w.receiver s.fixed.ports ≡ true
delivers_there s node (Delivering x last left count) w m h c =
    ((h.0).1 w.receiver (target-of x w (h.1 w (way-among w left c.0))).1).0
delivers_there s node d w m h c = absurd c

comes_to : (h : Handle) → (way_of h).receiver ≡ h.port
comes_to h =
    either (λ (w : Way). w.receiver ≡ h.port) (same_kind h.kind ActiveRequest) (request_way h.client h.port) (response_way h.port h.lane h.message.sender)
    (λ e. refl) (λ e. refl)

gives_there : (s : State) (node : ℕ) (d : Doing) (w : Way) (k : ℕ) → Rests s.fixed → SoundDoing s node d → HoldsIn s.fixed d
    → (next s node d (GiveBack w k)).condition → any_at w.receiver s.fixed.ports ≡ true
gives_there s node (Stale x v m left seen) w k r p h c =
    subst (λ n. any_at n s.fixed.ports ≡ true)
    (sym (ap (λ (z : Way). z.receiver) (same_way-true w v (split (same_way w v) (k == m.serial) c).0) ∙ (p.1).0)) (p.0).0
gives_there s node (Returning a) w k r p h c =
    subst (λ n. any_at n s.fixed.ports ≡ true)
    (sym (ap (λ (z : Way). z.receiver) (same_way-true w (way_of a) (split (same_way w (way_of a)) (k == a.message.serial) c).0) ∙ comes_to a))
    (((r.handles a.node).each a h).of_port).0
gives_there s node d w k r p h c = absurd c

back_moved : (s : State) (node : ℕ) (d : Doing) (m : Moment) → Rests s.fixed → SoundDoing s node d → HoldsIn s.fixed d → (next s node d m).condition
    → IsBack s → IsBack (moved s m)
back_moved s node d (Deliver w m) r p h c q = record {
  returned = q.returned;
  delivered = λ v gone k. put_else (λ (g : ℕ → Bool). g k ≡ false) s.delivered w (put_at (s.delivered w) m.serial true) v
      (λ is. absurd (other_way s.fixed w v (delivers_there s node d w m h c) gone is)) (q.delivered v gone k);
}
back_moved s node d (GiveBack w k) r p h c q = record {
  returned = λ v gone. put_else (λ (xs : List ℕ). xs ≡ []) s.returned w (if is_counted_on s.fixed w then s.returned w ++ k ∷ [] else s.returned w) v
      (λ is. absurd (other_way s.fixed w v (gives_there s node d w k r p h c) gone is)) (q.returned v gone);
  delivered = q.delivered;
}
back_moved s node d (GetBack w k) r p h c q = record {
  returned = λ v gone. put_else (λ (xs : List ℕ). xs ≡ []) s.returned w (if is_empty (s.in_hand w) then rest_of (s.returned w) else s.returned w) v
      (λ is.
      let here : s.returned w ≡ [] = q.returned w (subst (λ (z : Way). any_at z.receiver s.fixed.ports ≡ false) is gone) in
      either (λ (xs : List ℕ). xs ≡ []) (is_empty (s.in_hand w)) (rest_of (s.returned w)) (s.returned w) (λ e. ap rest_of here) (λ e. here))
      (q.returned v gone);
  delivered = λ v gone j. put_else (λ (g : ℕ → Bool). g j ≡ false) s.delivered w (put_at (s.delivered w) k false) v
      (λ is. either (λ (b : Bool). b ≡ false) (j == k) false (s.delivered w j) (λ e. refl)
      (λ e. q.delivered w (subst (λ (z : Way). any_at z.receiver s.fixed.ports ≡ false) is gone) j)) (q.delivered v gone j);
}
back_moved s node d (Evict w) r p h c q = record { returned = q.returned; delivered = q.delivered }
back_moved s node d (Take w m) r p h c q = record { returned = q.returned; delivered = q.delivered }
back_moved s node d (Open w id) r p h c q = record { returned = q.returned; delivered = q.delivered }
back_moved s node d (Close w id) r p h c q = record { returned = q.returned; delivered = q.delivered }
back_moved s node d (Hint w id) r p h c q = record { returned = q.returned; delivered = q.delivered }
back_moved s node d (SeesEmpty w) r p h c q = q
back_moved s node d (SeesWaiting w) r p h c q = q
back_moved s node d (SeesFull w) r p h c q = q
back_moved s node d (SeesRoom w) r p h c q = q
back_moved s node d (SeesNoneBack w) r p h c q = q
back_moved s node d (Look w shown) r p h c q = q

back_by : (s : State) (node : ℕ) (d : Doing) (ms : List Moment) → Goes s node d → MayCome s node d ms → IsBack s → IsBack (moved_by s ms)
back_by s node d [] g may q = q
back_by s node d (m ∷ ms) g may q =
    back_by (moved s m) node (next s node d m).after ms (goes_moved s node d m g may.0 may.1) may.2
    (back_moved s node d m g.fixed (g.call).1 g.holds may.1 q)

-- ---- the end of a call

still_gone : (gone k : ℕ) (ps : List Port) → (k == gone) ≡ false → any_at k (others_than gone ps) ≡ false → any_at k ps ≡ false
still_gone gone k ps other e = false_if (any_at k ps) (λ there. true≢false (sym (any_stay gone k ps other there) ∙ e))

back_framed : IsFramed IsBack
back_framed = record {
  frame = λ u f same q. record {
    returned = λ w gone. q.returned w (sym (same.0 w.receiver) ∙ gone);
    delivered = λ w gone k. q.delivered w (sym (same.0 w.receiver) ∙ gone) k;
  };
  gone = λ u port q. record {
    returned = λ w gone. either (λ (xs : List ℕ). xs ≡ []) (is_end port w) [] (u.returned w) (λ e. refl)
        (λ e. q.returned w (still_gone port w.receiver u.fixed.ports (or-false (w.sender == port) (w.receiver == port) e).1 gone));
    delivered = λ w gone k. either (λ (b : Bool). b ≡ false) (is_end port w) false (u.delivered w k) (λ e. refl)
        (λ e. q.delivered w (still_gone port w.receiver u.fixed.ports (or-false (w.sender == port) (w.receiver == port) e).1 gone) k);
  };
}

done_back : (s : State) (node : ℕ) (call : Call) (reply : Reply) (t : State) → Calm s → misnamed s.fixed node call ≡ None
    → (d : IsDone s node call reply t) → IsBack s → IsBack t
done_back s node call reply t r named d q =
    let told : (port : ℕ) × ToldEnd port (any_story s.fixed port) (moved_by s d.2) d.4 = done_told s node call reply t r named d in
    subst IsBack (sym d.9)
    (settled_framed IsBack back_framed told.0 s.fixed (moved_by s d.2) node d.6 d.4 told.1
    (back_by s node (start s node d.0 call) d.2 (begins s node d.0 call r named) d.3 q))

not_there : (k : ℕ) (ps : List Port) (p : Port) → any_at k (ps ++ p ∷ []) ≡ false → any_at k ps ≡ false
not_there k ps p e = false_if (any_at k ps) (λ there. true≢false (sym (at_more k ps p there) ∙ e))

back_kept : IsKept (λ s. (Calm s × Quiet s) × IsBack s)
back_kept = record {
  nodes = λ s x u p. (quiet_kept.nodes s x u p.0, record { returned = (p.1).returned; delivered = (p.1).delivered });
  makes = λ s node role id o memory allowed p. (
    quiet_kept.makes s node role id o memory allowed p.0,
    record {
      returned = λ w gone. (p.1).returned w (not_there w.receiver s.fixed.ports (new_port s.fixed node role id o) gone);
      delivered = λ w gone k. (p.1).delivered w (not_there w.receiver s.fixed.ports (new_port s.fixed node role id o) gone) k;
    },
  );
  calls = λ s node call reply t named done p. (
    quiet_kept.calls s node call reply t named done p.0,
    done_back s node call reply t (p.0).0 named done p.1,
  );
  fills = λ s node number h x there may p. (
    quiet_kept.fills s node number h x there may p.0,
    record { returned = (p.1).returned; delivered = (p.1).delivered },
  );
}

-- So it is of each state that is reached.
pub all_is_back : (s : State) → IsReachableState s → IsBack s
all_is_back s left =
    (reached_keeps (λ s. (Calm s × Quiet s) × IsBack s) back_kept
    (λ l acts id. (
      (created_calm l acts id, record { hand = λ w. refl; forgot = λ n. refl }),
      record { returned = λ w gone. refl; delivered = λ w gone k. refl },
    )) s left).1
