-- A release of a handle gives back what it has.
use Rattle.std.specs.Prelude.{◌≡◌, ℕ, ◌≤◌, ◌-◌, Bool, true, false, nat_le, if◌then◌else◌, List, [], ◌∷◌, Option, None, Some, refl}
use Rattle.std.specs.Option.{option_map_or}
use Rattle.std.proofs.Common.{sym, ap, subst, ◌∙◌, inl, true≢false}
use Rattle.iox_model.specs.declared.call.Call.TheVariants.{Release}
use Rattle.iox_model.specs.declared.kind.Kind.TheVariants.{ActiveRequest, PendingResponse}
use Rattle.iox_model.specs.declared.kind.Role.{Role}
use Rattle.iox_model.specs.declared.reply.Refusal.TheVariants.{UnknownNumber}
use Rattle.iox_model.specs.declared.reply.Reply.TheVariants as replies
use Rattle.iox_model.specs.declared.way.Way.{Way}
use Rattle.iox_model.specs.Begins.{begins_at, start}
use Rattle.iox_model.specs.Commands.{Refusal, Reply}
use Rattle.iox_model.specs.Counts.{dropped, gives_up, with_fixed}
use Rattle.iox_model.specs.Doings.{refused, Closing, Doing, Drops, Ended, Leaving, Outcome, Receiver, Returning}
use Rattle.iox_model.specs.Ends.{settled}
use Rattle.iox_model.specs.Expiries.{released}
use Rattle.iox_model.specs.Handles.{Subject, TheHandle, is_received, same_kind, subject, way_of}
use Rattle.iox_model.specs.Maps.{put, without_way}
use Rattle.iox_model.specs.Moments.{Close, GiveBack, Look, Moment, moved}
use Rattle.iox_model.specs.Names.{misnamed}
use Rattle.iox_model.specs.Peers.{borrow_limit_on, forgot_port, role_at}
use Rattle.iox_model.specs.Receives.{is_at_limit}
use Rattle.iox_model.specs.Releases.{closing, releases_handle, returning, states_of}
use Rattle.iox_model.specs.Settings.{Limits, borrow_limit_of, other_role}
use Rattle.iox_model.specs.States as m
use Rattle.iox_model.specs.Transitions.{ends, next}
use Rattle.iox_model.specs.WholeCalls.{IsDone, IsWholeCall, MayCome, UnlessRefused, left_by, moved_by, spent}
use Rattle.iox_laws.proofs.WeaveLaws.MapLemmas.{either}
use Rattle.iox_laws.proofs.WeaveLaws.WholeLemmas.{moved_by-fixed, some-is}
use Rattle.iox_laws.proofs.WeaveLedger.Truths.{by_cases, none-some}
use Rattle.iox_tables.specs.HubStates.Receives.{way_to}
use Rattle.iox_tables.specs.HubStates.States.{Given}
use Rattle.iox_tables.specs.HubStates.Steps.{is_there}
use Rattle.iox_tables.specs.HubStates.Tables.{HandleState}
use Rattle.iox_tables.specs.HubStates.Wirings.{handle_in}
use Rattle.iox_hub_laws.specs.Hubs.{HubState, IsHub, given_by, nothing_given, state_of_hub}
use Rattle.iox_tables.proofs.HubStates.Naming.{each_handle_is_named}
use Rattle.iox_hub_laws.proofs.Named.{found_is_handle}
use Rattle.iox_hub_laws.specs.Shown.{handle_of, shown}
use Rattle.iox_hub_laws.specs.Waiting.{NothingWaits}
use Rattle.iceoryx2_ports.specs.Idling.{IsIdle, IsIdleBut}
use Rattle.iceoryx2_ports.specs.Reaching.{HasRoomForEach}
use Rattle.iceoryx2_ports.specs.Rooms.{HasRoomBut}
use Rattle.iceoryx2_ports.proofs.Coming.{release_brings_nothing}
use Rattle.iceoryx2_ports.proofs.Idle.{empty_room, may_have_one}
use Rattle.iceoryx2_ports.proofs.Leaving.{buffers, less, less_full, released_leaves, role_is, same_limit}

-- ---- a handle that is released

module _ (g : m.Handle) where
  abbrev FreesIt : Outcome → Type 0
  FreesIt (Drops h) = h ≡ g
  FreesIt o = ⊥

  abbrev IsFreeingIt : Doing → Type 0
  IsFreeingIt (Ended o) = FreesIt o
  IsFreeingIt (Closing h left) = h ≡ g
  IsFreeingIt (Returning h) = h ≡ g
  IsFreeingIt (Leaving h) = h ≡ g
  IsFreeingIt d = ⊥

  closing_its : (h : m.Handle) (left : List Way) → h ≡ g → IsFreeingIt (closing h left)
  closing_its h [] p = p
  closing_its h (w ∷ left) p = p

  next_its : (s : m.State) (i : ℕ) (d : Doing) (a : Moment) → IsFreeingIt d → (next s i d a).condition → IsFreeingIt (next s i d a).after
  next_its s i (Closing h left) (Close w id) p c = closing_its h (without_way w left) p
  next_its s i (Returning h) (GiveBack w k) p c =
      either IsFreeingIt (same_kind h.kind ActiveRequest) (Leaving h) (Ended (Drops h)) (λ u. p) (λ u. p)
  next_its s i (Leaving h) (Look w shown) p c = p
  next_its s i (Leaving h) (Close w id) p c = p
  next_its s i (Closing h left) a p c = absurd c
  next_its s i (Returning h) a p c = absurd c
  next_its s i (Leaving h) a p c = absurd c
  next_its s i (Ended o) a p c = absurd c
  next_its s i d a p c = absurd p

  by_its : (s : m.State) (i : ℕ) (d : Doing) (ms : List Moment) → IsFreeingIt d → MayCome s i d ms → IsFreeingIt (left_by s i d ms)
  by_its s i d [] p may = p
  by_its s i d (a ∷ ms) p may = by_its (moved s a) i (next s i d a).after ms (next_its s i d a p may.1) may.2

  releases_its : (f : m.Fixed) → IsFreeingIt (releases_handle f g)
  releases_its f =
      either IsFreeingIt (is_received g.kind) (returning f g) (if same_kind g.kind PendingResponse then closing g (states_of f g) else Ended (Drops g))
      (λ u. either IsFreeingIt (forgot_port f g.node (way_of g).sender) (Ended (Drops g)) (Returning g) (λ v. refl) (λ v. refl))
      (λ u. either IsFreeingIt (same_kind g.kind PendingResponse) (closing g (states_of f g)) (Ended (Drops g)) (λ v. closing_its g (states_of f g) refl) (λ v. refl))

  ended_its : (s : m.State) (d : Doing) (o : Outcome) → IsFreeingIt d → ends s d ≡ Some o → FreesIt o
  ended_its s (Ended a) o p e = subst FreesIt (some-is a o e) p
  ended_its s (Closing h left) o p e = none-some o e
  ended_its s (Returning h) o p e = none-some o e
  ended_its s (Leaving h) o p e = none-some o e
  ended_its s d o p e = absurd p

  gives_up_same : (f : m.Fixed) (w : Way) → (gives_up (dropped f g) g).borrowed w ≡ (gives_up f g).borrowed w
  gives_up_same f w =
      by_cases (is_received g.kind)
      (λ is.
      ap (λ (b : Bool). (if b then record (dropped f g) { borrowed = put f.borrowed (way_of g) (f.borrowed (way_of g) - 1) } else dropped f g).borrowed w) is
      ∙ sym (ap (λ (b : Bool). (if b then record f { borrowed = put f.borrowed (way_of g) (f.borrowed (way_of g) - 1) } else f).borrowed w) is))
      (λ no.
      ap (λ (b : Bool). (if b then record (dropped f g) { borrowed = put f.borrowed (way_of g) (f.borrowed (way_of g) - 1) } else dropped f g).borrowed w) no
      ∙ sym (ap (λ (b : Bool). (if b then record f { borrowed = put f.borrowed (way_of g) (f.borrowed (way_of g) - 1) } else f).borrowed w) no))

  settled_gives_back : (s : m.State) (i : ℕ) (payload : List ℕ) (o : Outcome) → FreesIt o → (w : Way)
      → (settled s i payload o).fixed.borrowed w ≤ (gives_up s.fixed g).borrowed w
  settled_gives_back s i payload (Drops h) p w =
      let v : m.State = with_fixed s (gives_up (dropped s.fixed g) g) in
      subst (λ (k : m.Handle). (settled s i payload (Drops k)).fixed.borrowed w ≤ (gives_up s.fixed g).borrowed w) (sym p)
      (subst (λ (n : ℕ). (released v g.port).fixed.borrowed w ≤ n) (gives_up_same s.fixed w) ((released_leaves v g.port).borrowed w))
  settled_gives_back s i payload o p w = absurd p

  -- A release of that handle gives back what it has.
  module _ (s t : m.State) (node n : ℕ) (named : subject s.fixed node n ≡ Some (TheHandle g)) where
    abbrev GivesIt : Type 0
    GivesIt = (w : Way) → t.fixed.borrowed w ≤ (gives_up s.fixed g).borrowed w

    done_gives_back : IsDone s node (Release n) replies.Done t → GivesIt
    done_gives_back done w =
        let d : Doing = start s node done.0 (Release n) in
        let u : m.State = moved_by s done.2 in
        let begins : IsFreeingIt d =
        subst (λ (o : Option Subject). IsFreeingIt (option_map_or (begins_at s done.0 (Release n)) o (refused UnknownNumber))) (sym named) (releases_its s.fixed) in
        subst (λ (v : m.State). v.fixed.borrowed w ≤ (gives_up s.fixed g).borrowed w) (sym done.9)
        (subst (λ (f : m.Fixed). (settled u node done.6 done.4).fixed.borrowed w ≤ (gives_up f g).borrowed w) (moved_by-fixed s done.2)
        (settled_gives_back u node done.6 done.4 (ended_its u (left_by s node d done.2) done.4 (by_its s node d done.2 begins done.3) done.5) w))

    unless_gives_back : (q : Option Refusal) (P : Type 0) → (P → GivesIt) → UnlessRefused q s replies.Done t P → GivesIt
    unless_gives_back (Some r) P f p = absurd (true≢false (ap is_done p.0))
      where
        is_done : Reply → Bool
        is_done replies.Done = true
        is_done r = false
    unless_gives_back None P f p = f p

    whole_gives_back : IsWholeCall s node (Release n) replies.Done t → GivesIt
    whole_gives_back =
        unless_gives_back (misnamed s.fixed node (Release n)) (UnlessRefused (spent s.fixed (Release n)) s replies.Done t (IsDone s node (Release n) replies.Done t))
        (unless_gives_back (spent s.fixed (Release n)) (IsDone s node (Release n) replies.Done t) done_gives_back)

-- ---- of a hub

-- what is released of a node gives back what it has
module _ (old new : HubState) (hub : IsHub old) (after : IsHub new) (node n : ℕ)
    (whole : (x : Given) → IsWholeCall (state_of_hub x old) node (Release n) replies.Done (state_of_hub x new)) (x : Receiver)
    (handle : HandleState) (there : handle_in old.control.tables.handles node n ≡ Some handle)
    (few : (sender : ℕ) → is_at_limit (gives_up (shown old).fixed (handle_of old handle)) (way_to x sender) ≡ false) where
  abbrev given : m.Handle
  given = handle_of old handle

  back : (w : Way) → (shown new).fixed.borrowed w ≤ (gives_up (shown old).fixed given).borrowed w
  back =
      whole_gives_back given (shown old) (shown new) node n
      (each_handle_is_named (given_by (nothing_given old) old) old.control.tables node n handle
      (found_is_handle old.control.tables hub.control.order node n handle there)).names
      (whole (nothing_given old))

  -- it may have one more, since that is given up
  pub may_have : (sender : ℕ) → is_at_limit (shown new).fixed (way_to x sender) ≡ false
  may_have sender =
      by_cases (is_there new.control.tables.ports x.port)
      (λ there.
      ap (λ (l : Limits). nat_le (borrow_limit_of l (other_role (role_at (shown new).fixed x.port))) ((shown new).fixed.borrowed (way_to x sender)))
      (less old new after node n replies.Done whole).limits
      ∙ ap (λ (r : Role). nat_le (borrow_limit_of (shown old).fixed.limits (other_role r)) ((shown new).fixed.borrowed (way_to x sender)))
      (role_is old new after node n replies.Done whole x.port there)
      ∙ less_full (borrow_limit_on (shown old).fixed (way_to x sender)) ((shown new).fixed.borrowed (way_to x sender))
      ((gives_up (shown old).fixed given).borrowed (way_to x sender)) (back (way_to x sender))
      (sym (same_limit (shown old).fixed given (way_to x sender)) ∙ few sender))
      (λ gone. may_have_one new after (way_to x sender) (inl gone))

-- Who was idle but for that handle is idle.
pub release_idles : (old new : HubState) → IsHub old → IsHub new → (node n : ℕ)
    → ((x : Given) → IsWholeCall (state_of_hub x old) node (Release n) replies.Done (state_of_hub x new)) → (x : Receiver) → IsIdleBut old x node n → IsIdle new x
release_idles old new hub after node n whole x idle =
    let none : NothingWaits new x = release_brings_nothing old new node n replies.Done whole x idle.none in
    record {
      none = none;
      room = record {
        buffers = λ sender there. empty_room new after (way_to x sender) (none.empty sender);
        borrows = may_have old new hub after node n whole x idle.handle idle.there idle.borrows;
      };
    }

-- Who had room but for that handle has room.
pub release_gives_room : (old new : HubState) → IsHub old → IsHub new → (node n : ℕ)
    → ((x : Given) → IsWholeCall (state_of_hub x old) node (Release n) replies.Done (state_of_hub x new)) → (x : Receiver) → HasRoomBut old x node n → HasRoomForEach new x
release_gives_room old new hub after node n whole x room = record {
  buffers = λ sender there. buffers old new after node n replies.Done whole (way_to x sender) there (room.buffers sender);
  borrows = may_have old new hub after node n whole x room.handle room.there room.borrows;
}
