-- Writes and fillings are the machine's.
use Rattle.std.specs.Prelude.{◌≡◌, ℕ, Bool, true, false, not, ◌&&◌, if◌then◌else◌, List, Option, None, refl}
use Rattle.std.specs.Option.{option_map}
use Rattle.std.proofs.Common.{sym, ap, ap₂, ◌∙◌, true≢false}
use Rattle.iox_model.specs.declared.call.Call.TheVariants.{Write}
use Rattle.iox_model.specs.declared.reply.Refusal.TheVariants.{WrongKind, WrongLength}
use Rattle.iox_model.specs.declared.reply.Reply.TheVariants.{Done}
use Rattle.iox_model.specs.Begins.{written}
use Rattle.iox_model.specs.Commands.{Payload, Refusal, Reply}
use Rattle.iox_model.specs.Counts.{changed, with_fixed}
use Rattle.iox_model.specs.Doings.{Fills, Outcome}
use Rattle.iox_model.specs.Handles.{Subject, filled_kind, subject}
use Rattle.iox_model.specs.Maps.{refused_if}
use Rattle.iox_model.specs.Names.{suits}
use Rattle.iox_model.specs.States as m
use Rattle.iox_model.specs.Values.{CountMayBe, Filling, filled_as}
use Rattle.iox_model.specs.WholeCalls.{is_uninit}
use Rattle.iox_laws.proofs.WeaveLaws.MapLemmas.{eqb-refl}
use Rattle.iox_laws.specs.CallFunctions.Answers.{answered, of_handle, refusing, unless}
use Rattle.iox_laws.specs.CallFunctions.Calls.{call_by}
use Rattle.iox_laws.specs.CallFunctions.Contents.{filled_with}
use Rattle.iox_tables.specs.HubStates.Tables.{HandleState, HubTables}
use Rattle.iox_tables.specs.HubStates.States.{Given, fixed_of, handle_of, message_of, state_shown}
use Rattle.iox_tables.specs.HubStates.Ends.{with_changed}
use Rattle.iox_tables.specs.HubStates.Releases.{handle_shown}
use Rattle.iox_tables.specs.HubStates.Wirings.{IsHandle}
use Rattle.iox_tables.proofs.HubStates.Fixing.{find_handle}
use Rattle.iox_tables.proofs.HubStates.Naming.{each_handle_is_named}
use Rattle.iox_tables.specs.HubLoans.Fillings.{FillingsAreShown, IsOfOneHandle, WritesAreMade, WritesAreRefused, contents_of, elements_of, is_as_long_as}
use Rattle.iox_tables.specs.HubLoans.Slots.{is_place, with_contents}
use Rattle.iox_tables.proofs.HubLoans.Filled.{words_may_change}

module _ (x : Given) (t : HubTables) (node n : ℕ) (h : HandleState) (is : IsHandle t node n h) where
  abbrev s : m.State
  s = state_shown x t

  abbrev f : m.Fixed
  f = fixed_of x t

  abbrev mh : m.Handle
  mh = handle_shown x t h

  here : is_place h.pool h.slot h.pool h.slot ≡ true
  here = ap₂ (λ a b. a && b) (eqb-refl h.pool) (eqb-refl h.slot)

  -- ---- what is filled in

  count_is : (b : Bool) (a count elements : ℕ) → a ≡ count → (b ≡ false → count ≡ elements) → (if b then a else elements) ≡ count
  count_is true a count elements same all = same
  count_is false a count elements same all = sym (all refl)

  filled_is : (z : Filling) → (is_uninit z.kind ≡ false → z.count ≡ elements_of t h)
      → handle_shown (with_contents x h.pool h.slot (contents_of z)) t (record h { kind = z.kind }) ≡ filled_as mh z
  filled_is z all = λ i. record (filled_as mh z) {
    message = record (mh.message) {
      user = if here i then z.user else x.user h.pool h.slot;
      payload = if here i then z.payload else x.payload h.pool h.slot;
    };
    filled = count_is (is_uninit z.kind) (if is_place h.pool h.slot h.pool h.slot then z.count else x.filled h.pool h.slot) z.count (elements_of t h)
        (ap (λ b. if b then z.count else x.filled h.pool h.slot) here) all i;
  }

  pub fills : (z : Filling) → (is_uninit z.kind ≡ false → z.count ≡ elements_of t h) → IsOfOneHandle t h.pool h.slot
      → with_fixed s (changed f (filled_as mh z)) ≡ state_shown (with_contents x h.pool h.slot (contents_of z)) (with_changed t (record h { kind = z.kind }))
  fills z all one =
      ap (λ k. with_fixed s (changed f k)) (sym (filled_is z all))
      ∙ words_may_change x t node n h (record h { kind = z.kind }) (contents_of z) is (refl, refl) one

  -- ---- writes

  abbrev tells : Reply → m.State → Reply × m.State
  tells r u = (r, u)

  abbrev wrote : (p : Payload) → Bool → Outcome × m.State
  wrote p b = if b then (Fills (written mh p.words), s) else refusing WrongLength s

  write_is : (p : Payload) (c : _) (payload : List ℕ) → suits false (Write n p) h.kind ≡ true → (b : Bool) → is_as_long_as t h p ≡ b
      → call_by s node (Write n p) c payload ≡ answered s node (wrote p b)
  write_is p c payload suit b long =
      ap (λ (o : Option Refusal). unless o s (unless None s (answered s node (of_handle s (subject f node n) (filled_with s p)))))
      ((each_handle_is_named x t node n h is).refused (Write n p) refl ∙ ap (λ b. refused_if (not b) WrongKind) suit)
      ∙ ap (λ (o : Option Subject). answered s node (of_handle s o (filled_with s p))) (each_handle_is_named x t node n h is).names
      ∙ ap (λ b. answered s node (wrote p b)) long

pub writes_are_refused : WritesAreRefused
writes_are_refused x t node n h p c payload is suit long = write_is x t node n h is p c payload suit false long

pub writes_are_made : WritesAreMade
writes_are_made x t node n h p c payload is suit long one =
    write_is x t node n h is p c payload suit true long
    ∙ ap (tells x t node n h is Done)
    (fills x t node n h is
    (record { kind = filled_kind h.kind; user = x.user h.pool h.slot; payload = p.words; count = elements_of t h }) (λ e. refl) one)

pub fillings_are_shown : FillingsAreShown
fillings_are_shown x t node n h z is may one = (
  handle_shown x t h,
  find_handle x (message_of x t.pools) t.handles node n ∙ ap (option_map (handle_of x (message_of x t.pools))) is.there,
  may,
  sym (fills x t node n h is z (all (is_uninit z.kind) may.count) one),
)
  where
    all : (b : Bool) → CountMayBe b (elements_of t h) z.count → b ≡ false → z.count ≡ elements_of t h
    all true most e = absurd (true≢false e)
    all false same e = same
