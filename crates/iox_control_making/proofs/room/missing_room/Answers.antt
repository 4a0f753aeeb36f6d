use Rattle.std.proofs.Common.{◌≡◌, ℕ, ◌+◌, ◌-◌, ◌<◌, ◌≤◌, ◌^◌, Bool, true, if◌then◌else◌, List, [], ◌∷◌, length, filter, refl, ap, sym, ◌∙◌, arith, suc}
use Rattle.iox_handles.specs.declared.entry.Entry.{Entry}
use Rattle.iox_tables.specs.HubStates.Tables.{HandleState, HubSettings}
use Rattle.iox_control.specs.Entries.{handle_state}
use Rattle.iox_control_making.specs.Sizes.{all_handles}
use Rattle.iox_control_making.proofs.room.missing_room.Goals as goal
use Rattle.iox_tables.proofs.HubBooks.Frames.{length_map}

all_pass : (test : Entry → Bool) → ((e : Entry) → test e ≡ true) → (es : List Entry) → length (filter test es) ≡ length es
all_pass test pass [] = refl
all_pass test pass (e ∷ es) = ap (λ (b : Bool). length (if b then e ∷ filter test es else filter test es)) (pass e) ∙ ap suc (all_pass test pass es)

enough_is : {x h m r r' : ℕ} → x ≡ h → m ≡ h - r → r ≡ r' → x ≤ r' + m
enough_is e f g = omega (arith, e, f, g)

counted_is : {l l' held n z all r r' : ℕ} (m : ℕ) → l ≡ l' → held ≡ n → z ≡ l + held → z + all < 2 ^ 64 → all ≡ r + m → r ≡ r' → l' + n + (r' + m) < 2 ^ 64
counted_is m a b d e f g = omega (arith, a, b, d, e, f, g)

pub returns : goal.returns
returns c =
    let room : c.room-room.result ≡ c.args.control.now.room = c.room-room.ensures.room ∙ c.handles.ensures.room in record {
      enough =
          enough_is
          (ap (λ (u : HubSettings). all_handles c.args.sizes u.borrowed_responses u.active_requests) (sym c.settings-settings.ensures) ∙ sym c.in_ok-handles.ensures)
          c.saturating_sub-more.ensures room;
      counted =
          counted_is c.saturating_sub-more.result c.in_ok-lanes_of.ensures
          (c.count_if-held.ensures ∙ all_pass _ (λ e. refl) c.handles-2.result.now.handles ∙ sym (length_map handle_state c.handles-2.result.now.handles)
          ∙ ap (λ (hs : List HandleState). length hs) c.handles-2.ensures.handles)
          c.in_ok-checked_add.ensures.1 c.in_ok-checked_add-2.ensures.0 c.in_ok-all.ensures.1 room;
    }
