-- What `released_by` says is a whole call.
use Rattle.std.specs.Prelude.{ℕ, if◌then◌else◌, List, [], ◌∷◌, Option, Some, None, refl}
use Rattle.std.specs.Option.{option_map_or}
use Rattle.std.proofs.Common.{sym, subst}
use Rattle.iox_model.specs.declared.kind.Kind.TheVariants.{PendingResponse, ActiveRequest}
use Rattle.iox_model.specs.declared.way.Way.{Way}
use Rattle.iox_model.specs.declared.call.Call.TheVariants.{Release}
use Rattle.iox_model.specs.declared.reply.Refusal.TheVariants.{UnknownNumber}
use Rattle.iox_model.specs.declared.reply.Reply.TheVariants.{Refused}
use Rattle.iox_model.specs.Begins.{begins_at}
use Rattle.iox_model.specs.Doings.{refused, Outcome, Tells, Drops, DropsPort, Doing, Ended, Closing, Returning, Leaving}
use Rattle.iox_model.specs.Handles.{same_kind, is_received, own_state, subject, way_of, Subject, ThePort, TheHandle}
use Rattle.iox_model.specs.Moments.{moved, GiveBack, Close}
use Rattle.iox_model.specs.Peers.{forgot_port}
use Rattle.iox_model.specs.Releases.{states_of, closing, returning, releases_handle}
use Rattle.iox_model.specs.States.{Handle, State}
use Rattle.iox_laws.proofs.WeaveLaws.MapLemmas.{same_way-refl, is_in-first, eqb-refl}
use Rattle.iox_laws.specs.CallFunctions.Releases.{closed_at, given_back_by, returned_by, left_by_handle, released_from, EachReleaseIsWhole}
use Rattle.iox_laws.proofs.CallFunctions.Leads.{NoPayload, Leads, at_end, one_more, one_state_of, first_way, is_whole, ample}

closes : (P : Outcome → Type 0) (s : State) (node : ℕ) (h : Handle) (ws : List Way) → P (Drops h)
    → Leads P s node (closing h ws) (Drops h, closed_at s h.request ws)
closes P s node h [] p = at_end P s node (Drops h) p
closes P s node h (w ∷ ws) p =
    let t : State = moved s (Close w h.request) in
    one_more P s node (Closing h (w ∷ ws)) (Close w h.request) _ tt (is_in-first w ws, eqb-refl h.request)
    (subst (λ (d : Doing). Leads P t node d (Drops h, closed_at t h.request ws)) (sym (first_way (closing h) w ws)) (closes P t node h ws p))

-- it is given back, and then a request is closed
returns : (P : Outcome → Type 0) (s : State) (node : ℕ) (h : Handle) → P (Drops h) → Leads P s node (Returning h) (Drops h, returned_by s h)
returns P s node h p =
    let w : Way = way_of h in
    let t : State = given_back_by s h in
    one_more P s node (Returning h) (GiveBack w h.message.serial) _ tt (rw (same_way-refl w, eqb-refl h.message.serial) refl)
    (one_state_of P t node (same_kind h.kind ActiveRequest) (Leaving h) (Ended (Drops h)) (Drops h) (closed_at t h.request (own_state h ∷ [])) t
    (λ e. one_more P t node (Leaving h) (Close (own_state h) h.request) (Drops h, closed_at t h.request (own_state h ∷ [])) tt
    (rw (same_way-refl (own_state h), eqb-refl h.request) refl) (at_end P (moved t (Close (own_state h) h.request)) node (Drops h) p))
    (λ e. at_end P t node (Drops h) p))

handle_leads : (P : Outcome → Type 0) (s : State) (node : ℕ) (h : Handle) → P (Drops h)
    → Leads P s node (releases_handle s.fixed h) (Drops h, left_by_handle s h)
handle_leads P s node h p =
    let other : State = (if same_kind h.kind PendingResponse then closed_at s h.request (states_of s.fixed h) else s) in
    let back : State = (if forgot_port s.fixed h.node (way_of h).sender then s else returned_by s h) in
    one_state_of P s node (is_received h.kind) (returning s.fixed h)
    (if same_kind h.kind PendingResponse then closing h (states_of s.fixed h) else Ended (Drops h)) (Drops h) back other
    (λ e. one_state_of P s node (forgot_port s.fixed h.node (way_of h).sender) (Ended (Drops h)) (Returning h) (Drops h) s (returned_by s h)
    (λ f. at_end P s node (Drops h) p) (λ f. returns P s node h p))
    (λ e. one_state_of P s node (same_kind h.kind PendingResponse) (closing h (states_of s.fixed h)) (Ended (Drops h)) (Drops h) (closed_at s h.request (states_of s.fixed h)) s
    (λ f. closes P s node h (states_of s.fixed h) p) (λ f. at_end P s node (Drops h) p))

releases_lead : (s : State) (node n : ℕ) (x : Option Subject)
    → Leads (NoPayload s.fixed) s node (option_map_or (begins_at s ample (Release n)) x (refused UnknownNumber)) (released_from s x)
releases_lead s node n (Some (ThePort p)) = at_end (NoPayload s.fixed) s node (DropsPort p.number) tt
releases_lead s node n (Some (TheHandle h)) = handle_leads (NoPayload s.fixed) s node h tt
releases_lead s node n None = at_end (NoPayload s.fixed) s node (Tells (Refused UnknownNumber)) tt

pub each_release_is_whole : EachReleaseIsWhole
each_release_is_whole s node n =
    is_whole s node (Release n) ample (released_from s (subject s.fixed node n)) (refl, refl) (releases_lead s node n (subject s.fixed node n))
