-- Where the rows and the words of values stay, so do the values; and what two calls keep, they keep together.
use Rattle.std.specs.Prelude.{◌≡◌, ℕ, Bool, true, false, ◌&&◌, if◌then◌else◌, ◌==◌, [], Option, Some, None, IsSome, is_some, slice_set, refl, ⊤}
use Rattle.std.specs.Option.{option_map_or}
use Rattle.std.proofs.Common.{sym, ap, subst, ◌∙◌, true≢false, eqb-true}
use Rattle.iox_store.specs.Stored.{StoredMessage, stored_at, unlent}
use Rattle.iox_model.specs.declared.kind.Kind.{Kind}
use Rattle.iox_model.specs.declared.kind.Role.{Role}
use Rattle.iox_tables.specs.HubStates.Tables.{HandleState, HubTables, PoolState, PortState, pool_at, port_in}
use Rattle.iox_tables.specs.HubStates.Wirings.{handle_in}
use Rattle.iox_tables.specs.HubLoans.Questions.{kind_by, kind_in, kind_of_role}
use Rattle.iox_tables.proofs.HubLoans.Placed.{set_else}
use Rattle.iox_tables.specs.HubBooks.Hubs.{AreInOrder}
use Rattle.iox_tables.proofs.HubBooks.Used.{used_by_handle}
use Rattle.iox_tables.proofs.HubKeeping.Ordered.{empty_free, used_else}
use Rattle.iox_hub.specs.Hubs.{HubState}
use Rattle.iox_hub.specs.Keeping.{IsOther, IsSame, Keeps, KeepsAll, KeepingComposes}
use Rattle.iox_hub.specs.Sending.{with_words_left}
use Rattle.iox_hub.specs.Words.{Carried, stored_in}
use Rattle.iox_hub.proofs.KeepingPorts.{IsStillIn, Owned}
use Rattle.iox_hub.proofs.Named.{handle_is_value}

-- the port of that number is there still, if it is the node's and its own value is there
abbrev pub PortStays : HubTables → HubTables → ℕ → ℕ → Type 0
PortStays t t' a m = (p : PortState) → port_in t.ports m ≡ Some p → p.held ≡ true → p.node ≡ a → IsStillIn t'.ports m p

-- the row of a handle is the same
abbrev pub RowStays : HubTables → HubTables → ℕ → ℕ → Type 0
RowStays t t' a m = handle_in t'.handles a m ≡ handle_in t.handles a m

-- ---- one value

kind_stays : (t t' : HubTables) → AreInOrder t' → (a m : ℕ) → PortStays t t' a m → RowStays t t' a m → IsSome (kind_in t a m) → kind_in t' a m ≡ kind_in t a m
kind_stays t t' order a m port row some = step (port_in t.ports m) (handle_in t.handles a m) refl refl some
  where
    shown : Bool → Bool → Role → Option Kind
    shown b c role = if b && c then Some (kind_of_role role) else None

    held : (p : PortState) → port_in t.ports m ≡ Some p → (b c : Bool) → p.held ≡ b → (p.node == a) ≡ c → IsSome (shown b c p.role)
        → kind_in t' a m ≡ shown p.held (p.node == a) p.role
    held p at true true h n s =
        let still = port p at h (eqb-true p.node a n) in
        ap (λ o. kind_by a o (handle_in t'.handles a m)) still.1 ∙ ap (λ (w : Owned). shown w.held (w.node == a) w.role) still.2
    held p at true false h n s = absurd (true≢false (sym s))
    held p at false c h n s = absurd (true≢false (sym s))

    step : (o : Option PortState) (q : Option HandleState) → port_in t.ports m ≡ o → handle_in t.handles a m ≡ q → IsSome (kind_by a o q) → kind_in t' a m ≡ kind_by a o q
    step (Some p) q at there s = held p at p.held (p.node == a) refl refl s
    step None (Some h) at there s = handle_is_value t' order a m h (row ∙ there)
    step None None at there s = absurd (true≢false (sym s))

-- the words of the handle's message are the same
abbrev pub WordsStay : HubState → HubState → ℕ → ℕ → Type 0
WordsStay h h' a m =
    (k : HandleState) → handle_in h.control.tables.handles a m ≡ Some k → stored_in h'.words k.pool k.slot ≡ stored_in h.words k.pool k.slot

pub value_stays : (h h' : HubState) → AreInOrder h'.control.tables → (a m : ℕ) → PortStays h.control.tables h'.control.tables a m
    → RowStays h.control.tables h'.control.tables a m → WordsStay h h' a m → IsSome (kind_in h.control.tables a m) → IsSame h a m h'
value_stays h h' order a m port row words some = record {
  kind = kind_stays h.control.tables h'.control.tables order a m port row some;
  handle = row;
  message = ap (λ o. option_map_or (λ (k : HandleState). stored_in h'.words k.pool k.slot) o (unlent 0 [])) row
      ∙ step (handle_in h.control.tables.handles a m) refl;
}
  where
    step : (o : Option HandleState) → handle_in h.control.tables.handles a m ≡ o
        → option_map_or (λ (k : HandleState). stored_in h'.words k.pool k.slot) o (unlent 0 [])
        ≡ option_map_or (λ (k : HandleState). stored_in h.words k.pool k.slot) o (unlent 0 [])
    step (Some k) at = words k at
    step None at = refl

-- ---- two calls

pub same_twice : (a b c : HubState) (node n : ℕ) → IsSame a node n b → IsSame b node n c → IsSame a node n c
same_twice a b c node n first second = record {
  kind = second.kind ∙ first.kind;
  handle = second.handle ∙ first.handle;
  message = second.message ∙ first.message;
}

pub keeps_both : (P Q : ℕ → ℕ → Type 0) (a b c : HubState) → Keeps P a b → Keeps Q b c → Keeps (λ node n. P node n × Q node n) a c
keeps_both P Q a b c first second node n both some =
    let one : IsSame a node n b = first node n both.0 some in
    same_twice a b c node n one (second node n both.1 (ap (λ o. is_some o) one.kind ∙ some))

pub keeping_composes : KeepingComposes
keeping_composes first second third node n other m = keeps_both (IsOther node n) (IsOther other m) first second third

-- what is kept is so after a call that keeps all
pub keeps_then : (P : ℕ → ℕ → Type 0) (a b c : HubState) → Keeps P a b → KeepsAll b c → Keeps P a c
keeps_then P a b c first second node n p some = keeps_both P (λ node n. ⊤) a b c first second node n (p, tt) some

pub all_kept : (h h' : HubState) → h' ≡ h → KeepsAll h h'
all_kept h h' same = subst (λ (d : HubState). KeepsAll h d) (sym same) (λ node n all some. record { kind = refl; handle = refl; message = refl })

-- ---- words that go

-- as words go of a pool that is gone
pub words_left_keep : (h : HubState) → AreInOrder h.control.tables → (place : ℕ) → KeepsAll h (with_words_left h place)
words_left_keep h order place a m all some = value_stays h (with_words_left h place) order a m (λ p at held on. (p, at, refl)) refl words some
  where
    t : HubTables
    t = h.control.tables

    stored_of : Option (Option Carried) → ℕ → StoredMessage
    stored_of o k = option_map_or (λ q. option_map_or (λ (c : Carried). stored_at c.contents k) q (unlent 0 [])) o (unlent 0 [])

    words : (k : HandleState) → handle_in t.handles a m ≡ Some k → stored_in (with_words_left h place).words k.pool k.slot ≡ stored_in h.words k.pool k.slot
    words k at = step (pool_at t.pools place) refl
      where
        step : (o : Option PoolState) → pool_at t.pools place ≡ o
            → stored_in (if is_some o then h.words else slice_set h.words place None) k.pool k.slot ≡ stored_in h.words k.pool k.slot
        step (Some q) gone = refl
        step None gone =
            ap (λ o. stored_of o k.slot)
            (set_else h.words place k.pool None (used_else t order place (empty_free t order place gone) k.pool k.slot (used_by_handle t order a m k at)))
