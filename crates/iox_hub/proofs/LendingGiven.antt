-- What a hub gives, and the state that it shows, once one message carries other words.
use Rattle.std.specs.Prelude.{◌≡◌, ℕ, ◌<◌, Bool, true, false, if◌then◌else◌, List, [], ◌∷◌, refl}
use Rattle.std.proofs.Common.{sym, ap, ◌∙◌, true≢false}
use Rattle.iox_store.specs.Stored.{StoredMessage}
use Rattle.iox_model.specs.Commands.{Call, Reply, Use}
use Rattle.iox_model.specs.Runs.{OfHub}
use Rattle.iox_model.specs.WholeCalls.{IsWholeCall, is_uninit}
use Rattle.iox_laws.proofs.WeaveWorlds.Inductions.{step_is_reached}
use Rattle.iox_tables.specs.HubStates.Ends.{OfEachHandle, ShowsSame}
use Rattle.iox_tables.specs.HubStates.States.{Given, handle_of, message_of, state_shown}
use Rattle.iox_tables.specs.HubStates.Tables.{HandleState, HubTables}
use Rattle.iox_tables.proofs.HubStates.Ends.{free_slots_may_change}
use Rattle.iox_tables.specs.HubLoans.Slots.{SlotContents, is_place, put_place, with_contents}
use Rattle.iox_control.specs.Controls.{ControlState, IsControl}
use Rattle.iox_hub.specs.Fits.{WordsFit, count_in}
use Rattle.iox_hub.specs.Hubs.{HubState, IsHub, given_by, many_in, state_of_hub}
use Rattle.iox_hub.specs.Lending.{with_message}
use Rattle.iox_hub.specs.Words.{stored_in}
use Rattle.iox_hub.proofs.LendingWords.{stored_put}

-- the words of a message, as the machine has them
abbrev pub contents_in : StoredMessage → SlotContents
contents_in z = record { user = z.user; payload = z.payload; filled = z.filled }

-- the hub with these tables, and another message in that slot
abbrev pub hub_with : HubState → ControlState → ℕ → ℕ → StoredMessage → HubState
hub_with h c pool k z = record h { control = c; words = with_message h.words pool k z }

-- what is taken of each message is so of the one that is put
put_of : {A : Type 0} (show : StoredMessage → A) (f : ℕ → ℕ → StoredMessage) (pool k : ℕ) (z : StoredMessage) (p j : ℕ)
    → put_place (λ p j. show (f p j)) pool k (show z) p j ≡ show (put_place f pool k z p j)
put_of show f pool k z p j = step (is_place pool k p j)
  where
    step : (b : Bool) → (if b then show z else show (f p j)) ≡ show (if b then z else f p j)
    step true = refl
    step false = refl

pub given_put : (x : Given) (h : HubState) (c : ControlState) (pool k : ℕ) (z : StoredMessage) → k < count_in h.words pool
    → with_contents (given_by x h) pool k (contents_in z) ≡ given_by x (hub_with h c pool k z)
given_put x h c pool k z low =
    λ i. record (given_by x h) {
      user = λ p j. (put_of (λ s. s.user) (stored_in h.words) pool k z p j ∙ ap (λ (s : StoredMessage). s.user) (sym (stored_put h.words pool k z low p j))) i;
      payload = λ p j. (put_of (λ s. s.payload) (stored_in h.words) pool k z p j ∙ ap (λ (s : StoredMessage). s.payload) (sym (stored_put h.words pool k z low p j))) i;
      filled = λ p j. (put_of (λ s. s.filled) (stored_in h.words) pool k z p j ∙ ap (λ (s : StoredMessage). s.filled) (sym (stored_put h.words pool k z low p j))) i;
    }

-- no unfilled loan is of that slot
abbrev pub IsNoUnfilled : ℕ → ℕ → HandleState → Type 0
IsNoUnfilled pool k h = is_place pool k h.pool h.slot ≡ true → is_uninit h.kind ≡ false

-- how many elements are filled is read only of unfilled loans
module _ (x : Given) (t : HubTables) (pool k : ℕ) (w : SlotContents) (filled : ℕ) where
  abbrev old : Given
  old = with_contents x pool k w

  abbrev new : Given
  new = with_contents x pool k (record w { filled = filled })

  filled_same : (h : HandleState) (b : Bool) → is_place pool k h.pool h.slot ≡ b → (u : Bool) → (b ≡ true → u ≡ false) → (n : ℕ)
      → (if u then old.filled h.pool h.slot else n) ≡ (if u then new.filled h.pool h.slot else n)
  filled_same h b is false none n = refl
  filled_same h true is true none n = absurd (true≢false (none refl))
  filled_same h false is true none n =
      ap (λ c. if c then w.filled else x.filled h.pool h.slot) is ∙ sym (ap (λ c. if c then filled else x.filled h.pool h.slot) is)

  shows_same : (hs : List HandleState) → OfEachHandle (IsNoUnfilled pool k) hs → OfEachHandle (ShowsSame old (message_of old t.pools) new (message_of new t.pools)) hs
  shows_same [] none = tt
  shows_same (h ∷ hs) none = (
    λ i. record (handle_of old (message_of old t.pools) h) {
      filled = filled_same h (is_place pool k h.pool h.slot) refl (is_uninit h.kind) none.0 (message_of old t.pools h.pool h.slot).elements i;
    },
    shows_same hs none.1,
  )

  pub filled_unread : OfEachHandle (IsNoUnfilled pool k) t.handles → state_shown old t ≡ state_shown new t
  filled_unread none =
      free_slots_may_change old new t t.pools (record { members = refl; acts = refl; handler = refl; request = refl; response = refl })
      (λ way l is j on. refl) (shows_same t.handles none)

-- ---- it leads to a hub

module _ (h h' : HubState) (node : ℕ) (call : Call) (reply : Reply) where
  abbrev pub IsWholeOf : Type 0
  IsWholeOf = (x : Given) → IsWholeCall (state_of_hub x h) node call reply (state_of_hub x h')

  pub hub_is_left : IsHub h → IsControl h'.control → WordsFit (many_in h') h'.words h'.control.tables → IsWholeOf → IsHub h'
  hub_is_left hub order fit whole =
      let (x, reached) = hub.reached in record {
        control = order;
        words = fit;
        reached = (x, step_is_reached (state_of_hub x h) (state_of_hub x h') (OfHub node (Use call) reply) reached (whole x));
      }
