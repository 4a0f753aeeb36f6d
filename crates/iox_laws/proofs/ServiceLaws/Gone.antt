-- What is left of ports that are gone.
use Rattle.std.specs.Prelude.{◌≡◌, ℕ, Bool, true, false, ◌&&◌, if◌then◌else◌, ◌==◌, not, List, [], ◌∷◌, ◌++◌, None, refl}
use Rattle.std.proofs.Common.{sym, subst, ap, ◌∙◌, true≢false}
use Rattle.iox_model.specs.declared.way.RequestState.{RequestState}
use Rattle.iox_model.specs.declared.way.RequestState.TheVariants.{Closed, Named}
use Rattle.iox_model.specs.declared.way.Way.{Way}
use Rattle.iox_model.specs.Begins.{start}
use Rattle.iox_model.specs.Commands.{Reply, Call}
use Rattle.iox_model.specs.Doings.{Doing, Delivering, Opening}
use Rattle.iox_model.specs.Expiries.{is_end}
use Rattle.iox_model.specs.Maps.{is_empty, rest_of, put, put_at, same_way}
use Rattle.iox_model.specs.Messages.{closed_for, hinted_for, Message}
use Rattle.iox_model.specs.Moments.{moved, Moment, Deliver, Evict, Take, GiveBack, GetBack, SeesEmpty, SeesWaiting, SeesFull, SeesRoom, SeesNoneBack, Open, Close, Hint, Look}
use Rattle.iox_model.specs.Makings.{new_port}
use Rattle.iox_model.specs.Names.{misnamed}
use Rattle.iox_model.specs.Peers.{is_counted_on, forgot_port, node_of_port}
use Rattle.iox_model.specs.Runs.{IsReachableState}
use Rattle.iox_model.specs.States.{Port, Fixed, State}
use Rattle.iox_model.specs.Transitions.{next}
use Rattle.iox_model.specs.WholeCalls.{moved_by, MayCome, IsDone}
use Rattle.iox_laws.proofs.WeaveLaws.MapLemmas.{either, same_way-true}
use Rattle.iox_laws.proofs.WeaveLedger.Truths.{false_if, or-false}
use Rattle.iox_laws.proofs.WeaveWorlds.Inductions.{IsKept, reached_keeps}
use Rattle.iox_laws.proofs.WeaveWorlds.Sound.{SoundDoing}
use Rattle.iox_laws.proofs.RunLaws.Calls.{Goes, begins, goes_moved}
use Rattle.iox_laws.proofs.RunLaws.Ports.{any_at, at_more, any_stay, others_than}
use Rattle.iox_laws.proofs.RunLaws.Runs.{created_calm}
use Rattle.iox_laws.proofs.RunLaws.Settling.{Calm}
use Rattle.iox_laws.specs.ServiceLaws.Closing.{NothingIsForTheGone, NothingIsOwedToTheGone, NothingIsInHand}
use Rattle.iox_laws.proofs.ServiceLaws.Quiet.{Quiet, quiet_kept, left_quiet, any_story, done_told, done_begins, settled_framed, IsFramed}
use Rattle.iox_laws.proofs.ServiceLaws.Releasing.{none_there}
use Rattle.iox_laws.proofs.ServiceLaws.Stories.{Told, ToldEnd, told_moved}

pub record Clear (s : State) : Type 0 where
  pub returned : (w : Way) → any_at w.sender s.fixed.ports ≡ false → s.returned w ≡ []
  pub delivered : (w : Way) → any_at w.sender s.fixed.ports ≡ false → (k : ℕ) → s.delivered w k ≡ false
  pub request_state : (w : Way) → any_at w.receiver s.fixed.ports ≡ false → s.request_state w ≡ Closed

-- ---- a moment

-- a way of the port is none whose sender is gone
put_else : {A : Type 0} (P : A → Type 0) (f : Way → A) (w : Way) (a : A) (v : Way) → (v ≡ w → P a) → P (f v) → P (put f w a v)
put_else P f w a v here there = either P (same_way v w) a (f v) (λ same. here (same_way-true v w same)) (λ other. there)

gone_way : (f : Fixed) (n : Way → ℕ) (w v : Way) → any_at (n w) f.ports ≡ true → any_at (n v) f.ports ≡ false → v ≡ w → ⊥
gone_way f n w v there gone is = true≢false (sym there ∙ ap (λ (z : Way). any_at (n z) f.ports) (sym is) ∙ gone)

delivers_there : (s : State) (node : ℕ) (d : Doing) (w : Way) (m : Message) → SoundDoing s node d → (next s node d (Deliver w m)).condition
    → any_at w.sender s.fixed.ports ≡ true
delivers_there s node (Delivering x last left count) w m p c = subst (λ n. any_at n s.fixed.ports ≡ true) (sym (p.1 w c.0)) p.0.0.1.0
delivers_there s node d w m p c = absurd c

opens_there : (s : State) (node port : ℕ) (f : Fixed) (d : Doing) (w : Way) (id : ℕ) → SoundDoing s node d → Told port (any_story f port) s d
    → (next s node d (Open w id)).condition → any_at w.receiver s.fixed.ports ≡ true
opens_there s node port f (Opening x left full) w id p told c = subst (λ n. any_at n s.fixed.ports ≡ true) (sym (told.1 w c.0)) p.0.0.1.0
opens_there s node port f d w id p told c = absurd c

still_closed : (id : ℕ) (shown : RequestState) → shown ≡ Closed → (closed_for shown id ≡ Closed) × (hinted_for shown id ≡ Closed)
still_closed id shown e = (ap (λ r. closed_for r id) e, ap (λ r. hinted_for r id) e)

clear_moved : (s : State) (node port : ℕ) (f : Fixed) (d : Doing) (m : Moment) → SoundDoing s node d → Told port (any_story f port) s d
    → (next s node d m).condition → Clear s → Clear (moved s m)
clear_moved s node port f d (Deliver w m) p told c q = record {
  returned = q.returned;
  delivered = λ v gone k. put_else (λ (g : ℕ → Bool). g k ≡ false) s.delivered w (put_at (s.delivered w) m.serial true) v
      (λ is. absurd (gone_way s.fixed (λ z. z.sender) w v (delivers_there s node d w m p c) gone is)) (q.delivered v gone k);
  request_state = q.request_state;
}
clear_moved s node port f d (GiveBack w k) p told c q = record {
  returned = λ v gone. put_else (λ (xs : List ℕ). xs ≡ []) s.returned w (if is_counted_on s.fixed w then s.returned w ++ k ∷ [] else s.returned w) v
      (λ is.
      let here : any_at w.sender s.fixed.ports ≡ false = subst (λ (z : Way). any_at z.sender s.fixed.ports ≡ false) is gone in
      ap (λ (b : Bool). if b && not (forgot_port s.fixed (node_of_port s.fixed w.sender) w.receiver) then s.returned w ++ k ∷ [] else s.returned w) here
      ∙ q.returned w here) (q.returned v gone);
  delivered = q.delivered;
  request_state = q.request_state;
}
clear_moved s node port f d (GetBack w k) p told c q = record {
  returned = λ v gone. put_else (λ (xs : List ℕ). xs ≡ []) s.returned w (if is_empty (s.in_hand w) then rest_of (s.returned w) else s.returned w) v
      (λ is.
      let here : s.returned w ≡ [] = q.returned w (subst (λ (z : Way). any_at z.sender s.fixed.ports ≡ false) is gone) in
      either (λ (xs : List ℕ). xs ≡ []) (is_empty (s.in_hand w)) (rest_of (s.returned w)) (s.returned w) (λ e. ap rest_of here) (λ e. here))
      (q.returned v gone);
  delivered = λ v gone j. put_else (λ (g : ℕ → Bool). g j ≡ false) s.delivered w (put_at (s.delivered w) k false) v
      (λ is. either (λ (b : Bool). b ≡ false) (j == k) false (s.delivered w j) (λ e. refl)
      (λ e. q.delivered w (subst (λ (z : Way). any_at z.sender s.fixed.ports ≡ false) is gone) j)) (q.delivered v gone j);
  request_state = q.request_state;
}
clear_moved s node port f d (Open w id) p told c q = record {
  returned = q.returned;
  delivered = q.delivered;
  request_state = λ v gone. put_else (λ r. r ≡ Closed) s.request_state w (Named id false) v
      (λ is. absurd (gone_way s.fixed (λ z. z.receiver) w v (opens_there s node port f d w id p told c) gone is)) (q.request_state v gone);
}
clear_moved s node port f d (Close w id) p told c q = record {
  returned = q.returned;
  delivered = q.delivered;
  request_state = λ v gone. put_else (λ r. r ≡ Closed) s.request_state w (closed_for (s.request_state w) id) v
      (λ is. (still_closed id (s.request_state w) (q.request_state w (subst (λ (z : Way). any_at z.receiver s.fixed.ports ≡ false) is gone))).0) (q.request_state v gone);
}
clear_moved s node port f d (Hint w id) p told c q = record {
  returned = q.returned;
  delivered = q.delivered;
  request_state = λ v gone. put_else (λ r. r ≡ Closed) s.request_state w (hinted_for (s.request_state w) id) v
      (λ is. (still_closed id (s.request_state w) (q.request_state w (subst (λ (z : Way). any_at z.receiver s.fixed.ports ≡ false) is gone))).1) (q.request_state v gone);
}
clear_moved s node port f d (Evict w) p told c q = record { returned = q.returned; delivered = q.delivered; request_state = q.request_state }
clear_moved s node port f d (Take w m) p told c q = record { returned = q.returned; delivered = q.delivered; request_state = q.request_state }
clear_moved s node port f d (SeesEmpty w) p told c q = q
clear_moved s node port f d (SeesWaiting w) p told c q = q
clear_moved s node port f d (SeesFull w) p told c q = q
clear_moved s node port f d (SeesRoom w) p told c q = q
clear_moved s node port f d (SeesNoneBack w) p told c q = q
clear_moved s node port f d (Look w shown) p told c q = q

clear_by : (s : State) (node port : ℕ) (f : Fixed) (d : Doing) (ms : List Moment) → Goes s node d → Told port (any_story f port) s d → MayCome s node d ms
    → Clear s → Clear (moved_by s ms)
clear_by s node port f d [] g told may q = q
clear_by s node port f d (m ∷ ms) g told may q =
    clear_by (moved s m) node port f (next s node d m).after ms (goes_moved s node d m g may.0 may.1)
    (told_moved port (any_story f port) s node d m told may.0 may.1) may.2 (clear_moved s node port f d m (g.call).1 told may.1 q)

-- ---- the end of a call

still_gone : (gone k : ℕ) (ps : List Port) → (k == gone) ≡ false → any_at k (others_than gone ps) ≡ false → any_at k ps ≡ false
still_gone gone k ps other e = false_if (any_at k ps) (λ there. true≢false (sym (any_stay gone k ps other there) ∙ e))

clear_framed : IsFramed Clear
clear_framed = record {
  frame = λ u f same q. record {
    returned = λ w gone. q.returned w (sym (same.0 w.sender) ∙ gone);
    delivered = λ w gone k. q.delivered w (sym (same.0 w.sender) ∙ gone) k;
    request_state = λ w gone. q.request_state w (sym (same.0 w.receiver) ∙ gone);
  };
  gone = λ u port q. record {
    returned = λ w gone. either (λ (xs : List ℕ). xs ≡ []) (is_end port w) [] (u.returned w) (λ e. refl)
        (λ e. q.returned w (still_gone port w.sender u.fixed.ports (or-false (w.sender == port) (w.receiver == port) e).0 gone));
    delivered = λ w gone k. either (λ (b : Bool). b ≡ false) (is_end port w) false (u.delivered w k) (λ e. refl)
        (λ e. q.delivered w (still_gone port w.sender u.fixed.ports (or-false (w.sender == port) (w.receiver == port) e).0 gone) k);
    request_state = λ w gone. either (λ (r : RequestState). r ≡ Closed) (is_end port w) Closed (u.request_state w) (λ e. refl)
        (λ e. q.request_state w (still_gone port w.receiver u.fixed.ports (or-false (w.sender == port) (w.receiver == port) e).1 gone));
  };
}

done_clear : (s : State) (node : ℕ) (call : Call) (reply : Reply) (t : State) → Calm s → misnamed s.fixed node call ≡ None
    → (d : IsDone s node call reply t) → Clear s → Clear t
done_clear s node call reply t r named d q =
    let b : (port : ℕ) × Told port (any_story s.fixed port) s (start s node d.0 call) = done_begins s node call d.0 r named in
    let told : (port : ℕ) × ToldEnd port (any_story s.fixed port) (moved_by s d.2) d.4 = done_told s node call reply t r named d in
    subst Clear (sym d.9)
    (settled_framed Clear clear_framed told.0 s.fixed (moved_by s d.2) node d.6 d.4 told.1
    (clear_by s node b.0 s.fixed (start s node d.0 call) d.2 (begins s node d.0 call r named) b.1 d.3 q))

not_there : (k : ℕ) (ps : List Port) (p : Port) → any_at k (ps ++ p ∷ []) ≡ false → any_at k ps ≡ false
not_there k ps p e = false_if (any_at k ps) (λ there. true≢false (sym (at_more k ps p there) ∙ e))

pub clear_kept : IsKept (λ s. (Calm s × Quiet s) × Clear s)
clear_kept = record {
  nodes = λ s x u p. (quiet_kept.nodes s x u p.0, record { returned = (p.1).returned; delivered = (p.1).delivered; request_state = (p.1).request_state });
  makes = λ s node role id o memory allowed p. (
    quiet_kept.makes s node role id o memory allowed p.0,
    record {
      returned = λ w gone. (p.1).returned w (not_there w.sender s.fixed.ports (new_port s.fixed node role id o) gone);
      delivered = λ w gone k. (p.1).delivered w (not_there w.sender s.fixed.ports (new_port s.fixed node role id o) gone) k;
      request_state = λ w gone. (p.1).request_state w (not_there w.receiver s.fixed.ports (new_port s.fixed node role id o) gone);
    },
  );
  calls = λ s node call reply t named done p. (
    quiet_kept.calls s node call reply t named done p.0,
    done_clear s node call reply t (p.0).0 named done p.1,
  );
  fills = λ s node number h x there may p. (
    quiet_kept.fills s node number h x there may p.0,
    record { returned = (p.1).returned; delivered = (p.1).delivered; request_state = (p.1).request_state },
  );
}

pub left_clear : (s : State) → IsReachableState s → (Calm s × Quiet s) × Clear s
left_clear =
    reached_keeps (λ s. (Calm s × Quiet s) × Clear s) clear_kept
    (λ l acts id. (
      (created_calm l acts id, record { hand = λ w. refl; forgot = λ n. refl }),
      record { returned = λ w gone. refl; delivered = λ w gone k. refl; request_state = λ w gone. refl },
    ))

-- ---- the laws

pub calm_waits : (s : State) (w : Way) → Calm s → any_at w.receiver s.fixed.ports ≡ false → s.waiting w ≡ []
calm_waits s w c gone = none_there (s.waiting w) (λ m among. true≢false (sym ((c.owned).waits w m among).there ∙ gone))

pub nothing_is_for_the_gone : NothingIsForTheGone
nothing_is_for_the_gone s w left gone = (calm_waits s w ((left_clear s left).0).0 gone, ((left_clear s left).1).request_state w gone)

pub nothing_is_owed_to_the_gone : NothingIsOwedToTheGone
nothing_is_owed_to_the_gone s w left gone = (((left_clear s left).1).returned w gone, ((left_clear s left).1).delivered w gone)

pub nothing_is_in_hand : NothingIsInHand
nothing_is_in_hand s w left = ((left_quiet s left).1).hand w
