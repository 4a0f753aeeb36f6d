-- The end of a call leaves what handles and queues hold within its bounds.
use Rattle.std.specs.Prelude.{◌≡◌, ℕ, ◌+◌, ◌-◌, ◌≤◌, true, false, nat_lt, nat_le, List, length, map, refl}
use Rattle.std.proofs.Common.{sym, subst, ap, ◌∙◌, true≢false, arith}
use Rattle.iox_model.specs.declared.kind.Kind.{Kind}
use Rattle.iox_model.specs.declared.kind.Kind.TheVariants.{RequestMutUninit, RequestMut, ResponseMutUninit, ResponseMut, PendingResponse, ActiveRequest, Response}
use Rattle.iox_model.specs.declared.kind.Kind.TheVariants as kinds
use Rattle.iox_model.specs.declared.way.Way.{Way}
use Rattle.iox_model.specs.Counts.{added, changed, dropped, numbered, lent, called, borrows, gives_up, with_fixed, received_handle, sent_handle, holding}
use Rattle.iox_model.specs.Doings.{Receiver, Outcome, Tells, Loans, Fills, Sends, FailsToSend, Receives, Drops, DropsPort, Forgets}
use Rattle.iox_model.specs.Ends.{sent_loan, sent_copy, is_nothing, port_dropped, settled}
use Rattle.iox_model.specs.Expiries.{disconnected, is_last_gone, released}
use Rattle.iox_model.specs.Forgetting.{has_forgotten, forgets}
use Rattle.iox_model.specs.Handles.{same_kind, is_request_loan, is_received, way_of}
use Rattle.iox_model.specs.Maps.{put}
use Rattle.iox_model.specs.Messages.{Message}
use Rattle.iox_model.specs.Names.{is_port}
use Rattle.iox_model.specs.Settings.{is_client}
use Rattle.iox_model.specs.States.{Port, Handle, Fixed, State}
use Rattle.iox_laws.proofs.WeaveLaws.MapLemmas.{either}
use Rattle.iox_laws.proofs.WeaveLedger.Views.{node_in}
use Rattle.iox_laws.proofs.WeaveLedger.Orders.{le-refl, le-next, less-le, less-next}
use Rattle.iox_laws.proofs.WeaveLedger.Lists.{IsAmong}
use Rattle.iox_laws.proofs.WeaveLedger.Senders.{is_loan, IsMade}
use Rattle.iox_laws.proofs.WeaveWorlds.Sound.{IsOwn, FitsOutcome}
use Rattle.iox_laws.proofs.RunLaws.Ports.{any_at, any_dropped}
use Rattle.iox_laws.proofs.RunLaws.Rests.{FitsHandle, Rested, numbered-hub}
use Rattle.iox_laws.proofs.RunLaws.Holding.{is_lost, HoldsEnd, WaitFits}
use Rattle.iox_laws.proofs.RunLaws.Beginning.{KeptHandle}
use Rattle.iox_laws.proofs.RunLaws.Owning.{limit_in, most_in, Has, Owned}
use Rattle.iox_laws.proofs.RunLaws.Having.{adds_few, swaps_few, drops_few, gives_few, takes_few, taken_way, more_numbers}
use Rattle.iox_laws.proofs.RunLaws.Gone.{value_rests}
use Rattle.iox_laws.proofs.RunLaws.Settles.{dropped_rests, given_rests, settled_rests}
use Rattle.iox_laws.proofs.RunLaws.Parting.{gone_owned}
use Rattle.iox_laws.proofs.RunLaws.Porting.{value_owned}

-- ---- kinds

loan_is : (k : Kind) → is_loan k ≡ true → (is_port k ≡ false) × (is_received k ≡ false) × (same_kind k PendingResponse ≡ false)
loan_is kinds.Client e = absurd (true≢false (sym e))
loan_is kinds.Server e = absurd (true≢false (sym e))
loan_is RequestMutUninit e = (refl, refl, refl)
loan_is RequestMut e = (refl, refl, refl)
loan_is ResponseMutUninit e = (refl, refl, refl)
loan_is ResponseMut e = (refl, refl, refl)
loan_is PendingResponse e = absurd (true≢false (sym e))
loan_is ActiveRequest e = absurd (true≢false (sym e))
loan_is Response e = absurd (true≢false (sym e))

-- a loan that is handed out or filled
loan_kept : (ps : List Port) (h : Handle) → is_loan h.kind ≡ true → IsMade ps h → KeptHandle ps h
loan_kept ps h loan made = record {
  value = (loan_is h.kind loan).0;
  loan = λ u. made;
  pending = λ pending. absurd (true≢false (sym pending ∙ (loan_is h.kind loan).2));
}

held_kept : (ps : List Port) (h : Handle) (payload : List ℕ) → is_loan h.kind ≡ true → IsMade ps h → KeptHandle ps (holding h payload)
held_kept ps h payload loan made = loan_kept ps (holding h payload) loan (record { sender = made.sender; lane = made.lane; role = made.role })

sent_kept : (ps : List Port) (h : Handle) (count : ℕ) → is_request_loan h.kind ≡ true → IsMade ps h → KeptHandle ps (sent_handle h count)
sent_kept ps h count request made = record {
  value = refl;
  loan = λ loan. absurd (true≢false (sym loan));
  pending = λ u. sym made.role ∙ request;
}

received_kept : (ps : List Port) (f : Fixed) (node : ℕ) (x : Receiver) (m : Message)
    → KeptHandle ps (received_handle f node x m) × (is_received (received_handle f node x m).kind ≡ true)
received_kept ps f node x m = (
  record {
    value = either (λ (k : Kind). is_port k ≡ false) (is_client x.role) Response ActiveRequest (λ u. refl) (λ u. refl);
    loan = λ loan. absurd (true≢false (sym loan ∙ either (λ (k : Kind). is_loan k ≡ false) (is_client x.role) Response ActiveRequest (λ u. refl) (λ u. refl)));
    pending = λ pending. absurd (true≢false (sym pending
        ∙ either (λ (k : Kind). same_kind k PendingResponse ≡ false) (is_client x.role) Response ActiveRequest (λ u. refl) (λ u. refl)));
  },
  either (λ (k : Kind). is_received k ≡ true) (is_client x.role) Response ActiveRequest (λ u. refl) (λ u. refl),
)

-- ---- what is fixed

-- a number is given
numbers : (f : Fixed) (node : ℕ) → f.on_wire ≡ false → Has f → Has (numbered f node)
numbers f node hub p =
    subst Has (sym (numbered-hub f node hub))
    (more_numbers f.limits f.ports f.next_number (f.next_number + 1) f.handles f.borrowed f.expired (le-next f.next_number) p)

adds_own : (f : Fixed) (h : Handle) → f.on_wire ≡ false → Has f → KeptHandle f.ports h → is_received h.kind ≡ false → Has (added (numbered f h.node) h)
adds_own f h hub p kept own =
    let g : Fixed = numbered f h.node in
    adds_few g.limits g.ports g.next_number g.handles g.borrowed g.expired h (numbers f h.node hub p)
    (subst (λ (x : Fixed). KeptHandle x.ports h) (sym (numbered-hub f h.node hub)) kept) own

takes_own : (f : Fixed) (h : Handle) (w : Way) → f.on_wire ≡ false → Has f → KeptHandle f.ports h → way_of h ≡ w
    → f.borrowed w + 1 ≤ limit_in f.limits f.ports w
    → is_lost f.ports f.expired w ≡ false → nat_lt w.sender f.next_number ≡ true → any_at w.receiver f.ports ≡ true
    → Has (borrows (added (numbered f h.node) h) w)
takes_own f h w hub p kept is below stays was there =
    subst (λ (g : Fixed). Has (borrows (added g h) w)) (sym (numbered-hub f h.node hub))
    (takes_few f.limits f.ports (f.next_number + 1) f.handles f.borrowed f.expired h w
    (more_numbers f.limits f.ports f.next_number (f.next_number + 1) f.handles f.borrowed f.expired (le-next f.next_number) p) kept is below stays
    (less-next w.sender f.next_number was) there)

drops_own : (f : Fixed) (h : Handle) → Has f → Has (dropped f h)
drops_own f h p = drops_few f.limits f.ports f.next_number f.handles f.borrowed f.expired h p

gives_own : (f : Fixed) (h : Handle) → Has f → IsAmong h (f.handles h.node) → node_in f.ports h.port ≡ h.node → Has (gives_up (dropped f h) h)
gives_own f h p among at =
    either Has (is_received h.kind) (record (dropped f h) { borrowed = put f.borrowed (way_of h) (f.borrowed (way_of h) - 1) }) (dropped f h)
    (λ received. gives_few f.limits f.ports f.next_number f.handles f.borrowed f.expired h p among at received) (λ u. drops_own f h p)

-- ---- the state

-- where ports, limits and expired pairs are the same
with_owned : (s : State) (f : Fixed) → Owned s → Has f → f.ports ≡ s.fixed.ports → f.limits ≡ s.fixed.limits → f.expired ≡ s.fixed.expired
    → nat_le s.fixed.next_number f.next_number ≡ true → Owned (with_fixed s f)
with_owned s f o has ports limits expired next = record {
  has = has;
  waits = λ y m among.
      subst (λ ps. WaitFits ps f.next_number f.expired y m) (sym ports)
      (subst (λ (e : ℕ → List ℕ). WaitFits s.fixed.ports f.next_number e y m) (sym expired) (later s.fixed.ports s.fixed.expired y m (o.waits y m among)));
  gone = λ y away.
      subst (λ l. length (s.waiting y) ≤ most_in l f.ports y) (sym limits)
      (subst (λ ps. length (s.waiting y) ≤ most_in s.fixed.limits ps y) (sym ports) (o.gone y (ap (any_at y.sender) (sym ports) ∙ away)));
}
  where
    later : (ps : List Port) (expired : ℕ → List ℕ) (y : Way) (m : Message) → WaitFits ps s.fixed.next_number expired y m
        → WaitFits ps f.next_number expired y m
    later ps expired y m p = record {
      sender = p.sender;
      lane = p.lane;
      role = p.role;
      kept = p.kept;
      below = less-le y.sender s.fixed.next_number f.next_number next p.below;
      there = p.there;
    }

-- only handles, loans and calls changed
handles_owned : (s : State) (f : Fixed) → Owned s → Has f → f.ports ≡ s.fixed.ports → f.limits ≡ s.fixed.limits → f.expired ≡ s.fixed.expired
    → f.next_number ≡ s.fixed.next_number → Owned (with_fixed s f)
handles_owned s f o has ports limits expired next =
    with_owned s f o has ports limits expired (subst (λ n. nat_le s.fixed.next_number n ≡ true) (sym next) (le-refl s.fixed.next_number))

-- and one number was given
number_owned : (s : State) (f : Fixed) (node : ℕ) → s.fixed.on_wire ≡ false → Owned s → Has f → f.ports ≡ (numbered s.fixed node).ports
    → f.limits ≡ (numbered s.fixed node).limits
    → f.expired ≡ (numbered s.fixed node).expired → f.next_number ≡ (numbered s.fixed node).next_number → Owned (with_fixed s f)
number_owned s f node hub o has ports limits expired next =
    let e : numbered s.fixed node ≡ record (s.fixed) { next_number = s.fixed.next_number + 1 } = numbered-hub s.fixed node hub in
    with_owned s f o has (ports ∙ ap (λ (x : Fixed). x.ports) e) (limits ∙ ap (λ (x : Fixed). x.limits) e) (expired ∙ ap (λ (x : Fixed). x.expired) e)
    (subst (λ n. nat_le s.fixed.next_number n ≡ true) (sym (next ∙ ap (λ (x : Fixed). x.next_number) e)) (le-next s.fixed.next_number))

pub released_owned : (s : State) (port : ℕ) → Rested s → Owned s → any_at port s.fixed.ports ≡ true → Owned (released s port)
released_owned s port r o there =
    either Owned (is_last_gone s.fixed port) (disconnected s port) s (λ last. gone_owned s port r o there last) (λ u. o)

-- ---- the end of a call

dropped_owned : (s : State) (node : ℕ) (h : Handle) → Rested s → Owned s → IsOwn s.fixed node h → Owned (released (with_fixed s (dropped s.fixed h)) h.port)
dropped_owned s node h r o own =
    released_owned (with_fixed s (dropped s.fixed h)) h.port (dropped_rests s h r)
    (handles_owned s (dropped s.fixed h) o (drops_own s.fixed h o.has) refl refl refl refl) (own.1).0

swapped_owned : (s : State) (h : Handle) → Owned s → KeptHandle s.fixed.ports h → is_received h.kind ≡ false → Owned (with_fixed s (changed s.fixed h))
swapped_owned s h o kept own =
    handles_owned s (changed s.fixed h) o
    (swaps_few s.fixed.limits s.fixed.ports s.fixed.next_number s.fixed.handles s.fixed.borrowed s.fixed.expired h o.has kept own) refl refl refl refl

copied_owned : (s : State) (node : ℕ) (h : Handle) (count : ℕ) → Rested s → Owned s → IsMade s.fixed.ports h
    → Owned (with_fixed s (called (called (lent (sent_copy s.fixed h count) h.port))))
copied_owned s node h count r o made =
    let g : Fixed = added (numbered s.fixed h.node) (sent_handle h count) in
    either (λ (f : Fixed). Owned (with_fixed s (called (called (lent f h.port))))) (is_request_loan h.kind) g s.fixed
    (λ request. number_owned s (called (called (lent g h.port))) h.node (r.fixed).hub o
    (adds_own s.fixed (sent_handle h count) (r.fixed).hub o.has (sent_kept s.fixed.ports h count request made) refl) refl refl refl refl)
    (λ u. handles_owned s (called (called (lent s.fixed h.port))) o o.has refl refl refl refl)

called_owned : (s : State) → Owned s → Owned (with_fixed s (called s.fixed))
called_owned s o = handles_owned s (called s.fixed) o o.has refl refl refl refl

sent_owned : (s : State) (node : ℕ) (h : Handle) (count : ℕ) → Rested s → Owned s → IsOwn s.fixed node h → IsMade s.fixed.ports h → Owned (sent_loan s h count)
sent_owned s node h count r o own made =
    either Owned (is_request_loan h.kind) (with_fixed s (changed s.fixed (sent_handle h count))) (released (with_fixed s (dropped s.fixed h)) h.port)
    (λ request. swapped_owned s (sent_handle h count) o (sent_kept s.fixed.ports h count request made) refl) (λ u. dropped_owned s node h r o own)

received_owned : (s : State) (node : ℕ) (x : Receiver) (w : Way) (m : Message) → Rested s → Owned s → FitsOutcome s.fixed node (Receives x w m)
    → HoldsEnd s.fixed (Receives x w m) → Owned (with_fixed s (called (borrows (added (numbered s.fixed node) (received_handle s.fixed node x m)) w)))
received_owned s node x w m r o fits p =
    let h : Handle = received_handle s.fixed node x m in
    let k : KeptHandle s.fixed.ports h × (is_received h.kind ≡ true) = received_kept s.fixed.ports s.fixed node x m in
    number_owned s (called (borrows (added (numbered s.fixed node) h) w)) node (r.fixed).hub o
    (takes_own s.fixed h w (r.fixed).hub o.has k.0
    (taken_way s.fixed node x w m (fits.1).0 (fits.1).1 (p.1).0 (p.1).1 (p.0).1)
    (below (limit_in s.fixed.limits s.fixed.ports w) (s.fixed.borrowed w) p.2) (p.1).2 (p.1).3
    (ap (λ k. any_at k s.fixed.ports) (fits.1).0 ∙ (fits.0).0))
    refl refl refl refl
  where
    below : (a b : ℕ) → nat_le a b ≡ false → b + 1 ≤ a
    below a b e = grind (arith)

released_handle : (s : State) (h : Handle) → Rested s → Owned s → IsAmong h (s.fixed.handles h.node)
    → Owned (released (with_fixed s (gives_up (dropped s.fixed h) h)) h.port)
released_handle s h r o among =
    let fits : FitsHandle s.fixed.ports s.fixed.next_number h.node h = ((r.fixed).handles h.node).each h among in
    let f : Fixed = dropped s.fixed h in
    let has : Has (gives_up f h) = gives_own s.fixed h o.has among (fits.of_port).1 in
    either (λ (g : Fixed). Has g → Rested (with_fixed s g) → Owned (released (with_fixed s g) h.port)) (is_received h.kind)
    (record f { borrowed = put f.borrowed (way_of h) (f.borrowed (way_of h) - 1) }) f
    (λ u q rests. released_owned (with_fixed s (record f { borrowed = put f.borrowed (way_of h) (f.borrowed (way_of h) - 1) })) h.port rests
    (handles_owned s (record f { borrowed = put f.borrowed (way_of h) (f.borrowed (way_of h) - 1) }) o q refl refl refl refl) (fits.of_port).0)
    (λ u q rests. released_owned (with_fixed s f) h.port rests (handles_owned s f o q refl refl refl refl) (fits.of_port).0)
    has (given_rests s h r)

pub settled_owned : (s : State) (node : ℕ) (payload : List ℕ) (o : Outcome) → Rested s → Owned s → FitsOutcome s.fixed node o → HoldsEnd s.fixed o
    → Owned (settled s node payload o)
settled_owned s node payload (Tells reply) r o fits p =
    either Owned (is_nothing reply) (with_fixed s (called s.fixed)) s (λ u. called_owned s o) (λ u. o)
settled_owned s node payload (Loans h) r o fits p =
    let k : Handle = holding h payload in
    let g : Fixed = added (numbered s.fixed node) k in
    number_owned s (called (lent g h.port)) node (r.fixed).hub o
    (subst (λ n. Has (added (numbered s.fixed n) k)) fits.0
    (adds_own s.fixed k (r.fixed).hub o.has (held_kept s.fixed.ports h payload p.0 p.1) (loan_is h.kind p.0).1)) refl refl refl refl
settled_owned s node payload (Fills h) r o fits p = swapped_owned s h o (loan_kept s.fixed.ports h p.0 p.1) (loan_is h.kind p.0).1
settled_owned s node payload (Sends h true count) r o fits p = copied_owned s node h count r o p.1
settled_owned s node payload (Sends h false count) r o fits p = called_owned (sent_loan s h count) (sent_owned s node h count r o fits p.1)
settled_owned s node payload (FailsToSend h true refusal) r o fits p = handles_owned s (called (lent s.fixed h.port)) o o.has refl refl refl refl
settled_owned s node payload (FailsToSend h false refusal) r o fits p = dropped_owned s node h r o fits
settled_owned s node payload (Receives x w m) r o fits p = received_owned s node x w m r o fits p
settled_owned s node payload (Drops h) r o fits p = released_handle s h r o p
settled_owned s node payload (DropsPort port) r o fits p =
    released_owned (with_fixed s (record (s.fixed) { ports = map (port_dropped port) s.fixed.ports })) port (value_rests s port r) (value_owned s port o)
    (any_dropped port port s.fixed.ports ∙ (fits.1).0)
settled_owned s node payload (Forgets dead) r o fits p =
    either Owned (has_forgotten s.fixed node dead) s (forgets s node dead) (λ u. o) (λ u. record { has = o.has; waits = o.waits; gone = o.gone })

-- ---- between calls

-- what holds of each state that is reached
pub record Calm (s : State) : Type 0 where
  pub rests : Rested s
  pub owned : Owned s

pub settled_calm : (s : State) (node : ℕ) (payload : List ℕ) (o : Outcome) → Calm s → FitsOutcome s.fixed node o → HoldsEnd s.fixed o
    → Calm (settled s node payload o)
settled_calm s node payload o c fits p =
    record { rests = settled_rests s node payload o c.rests fits p; owned = settled_owned s node payload o c.rests c.owned fits p }
