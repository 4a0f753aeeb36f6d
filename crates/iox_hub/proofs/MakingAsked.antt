-- What is asked of a new port is what its options and the settings say.
use Rattle.std.specs.Prelude.{◌≡◌, ℕ, ◌-◌, ◌*◌, ◌^◌, Bool, true, not, ◌||◌, if◌then◌else◌, nat_lt, nat_le, Option, Some, None, max, min, refl}
use Rattle.std.specs.Option.{option_map_or}
use Rattle.std.proofs.Common.{sym, ap, subst, ◌∙◌, true≢false}
use Rattle.iox_types.specs.Layouts.{as_usize}
use Rattle.iox_types.specs.Parts.{size_of_parts}
use Rattle.iox_model.specs.declared.kind.Role.{Role}
use Rattle.iox_model.specs.declared.kind.Role.TheVariants.{Client, Server}
use Rattle.iox_model.specs.Commands as machine
use Rattle.iox_model.specs.Makings.{chosen_pool, is_large, longest_of, worst_pool}
use Rattle.iox_model.specs.Settings.{Limits, Shape, has_layout, message_size, shape_of}
use Rattle.iox_tables.specs.HubStates.Tables.{HubSettings, HubTables}
use Rattle.iox_tables.specs.HubStates.States.{Given, limits_of}
use Rattle.iox_tables.specs.HubMaking.Starts.{no_ports}
use Rattle.iox_control_making.specs.declared.asked.Asked.{Asked}
use Rattle.iox_control_making.specs.Making.{AsksFor}
use Rattle.iox_hub.specs.declared.pools.Form.{Form}
use Rattle.iox_hub.specs.Hubs.{HubState, given_by}
use Rattle.iox_hub.specs.Making.{IsFormOf, shape_in}
use Rattle.iox_hub.specs.Shapes.{part_of}
use Rattle.iox_hub.proofs.MakingSizes.{fits_below, fits_is, past_above}

first_of : (a b c : Bool) → a ≡ true → true ≡ ((a || b) || c)
first_of a b c e = sym (ap (λ (d : Bool). (d || b) || c) e)

module _ (x : Given) (t : HubTables) (role : Role) (o : machine.Options) where
  abbrev l : Limits
  l = limits_of x t

  abbrev of : Shape
  of = shape_of l role

  -- of a port that is too large nothing else is asked
  pub large_asked : (asked : Asked) → asked.large ≡ true → true ≡ is_large l role o → AsksFor x t role o asked
  large_asked asked large is = record {
    large = large ∙ is;
    size = λ e. absurd (true≢false (sym large ∙ e));
    longest = λ e. absurd (true≢false (sym large ∙ e));
    grows = λ e. absurd (true≢false (sym large ∙ e));
    strategy = λ e. absurd (true≢false (sym large ∙ e));
    loans = λ e. absurd (true≢false (sym large ∙ e));
  }

  pub past_pool : None ≡ as_usize (worst_pool l role o) → true ≡ is_large l role o
  past_pool e =
      first_of (nat_le (2 ^ 64) (worst_pool l role o)) (nat_lt (2 ^ 24 - 2) (chosen_pool l role o))
      (not (has_layout of (longest_of of o)) || nat_le (2 ^ 64) (chosen_pool l role o * message_size of (longest_of of o)))
      (past_above (worst_pool l role o) e)

  module _ (form : Form) (is : IsFormOf form of) (worst size longest : ℕ) (bytes : Option ℕ) (fits : Some worst ≡ as_usize (worst_pool l role o))
      (chosen : size ≡ option_map_or (λ n. max 1 (min n worst)) o.pool worst) (most : longest ≡ (if form.many then o.max_slice_len else 1))
      (told : bytes ≡ as_usize (size_of_parts (part_of form.header) (part_of form.user) (part_of form.element) longest)) where
    pub size_is : chosen_pool l role o ≡ size
    size_is = ap (λ w. option_map_or (λ n. max 1 (min n w)) o.pool w) (fits_is (worst_pool l role o) worst fits) ∙ sym chosen

    pub longest_is : longest_of of o ≡ longest
    longest_is = ap (λ (b : Bool). if b then o.max_slice_len else 1) is.many ∙ sym most

    bytes_are : message_size of (longest_of of o) ≡ size_of_parts (part_of form.header) (part_of form.user) (part_of form.element) longest
    bytes_are = λ i. size_of_parts (is.header i) (is.user i) (is.element i) (longest_is i)

    pub large_is : (held : Bool)
        → ((n : ℕ) → bytes ≡ as_usize n → not held ≡ (nat_lt (2 ^ 24 - 2) size || (not (nat_lt n (2 ^ 63)) || nat_le (2 ^ 64) (size * n))))
        → not held ≡ is_large l role o
    large_is held test =
        test (size_of_parts (part_of form.header) (part_of form.user) (part_of form.element) longest) told
        ∙ sym (λ i. nat_lt (2 ^ 24 - 2) (size_is i) || (not (nat_lt (bytes_are i) (2 ^ 63)) || nat_le (2 ^ 64) (size_is i * bytes_are i)))
        ∙ sym (ap (λ (a : Bool). (a || nat_lt (2 ^ 24 - 2) (chosen_pool l role o))
        || (not (has_layout of (longest_of of o)) || nat_le (2 ^ 64) (chosen_pool l role o * message_size of (longest_of of o))))
        (fits_below (worst_pool l role o) worst fits))

-- ---- in a hub

same_shape : (x : Given) (h : HubState) (s : HubSettings) (role : Role) → shape_of (limits_of (given_by x h) (no_ports s)) role ≡ shape_in h role
same_shape x h s Client = refl
same_shape x h s Server = refl

-- what is asked depends only on the settings
by_settings : (x : Given) (t : HubTables) (s : HubSettings) (role : Role) (o : machine.Options) (asked : Asked) → s ≡ t.settings → AsksFor x (no_ports s) role o asked
    → AsksFor x t role o asked
by_settings x t s role o asked same is =
    let it : AsksFor x (no_ports (t.settings)) role o asked = subst (λ (u : HubSettings). AsksFor x (no_ports u) role o asked) same is in
    record { large = it.large; size = it.size; longest = it.longest; grows = it.grows; strategy = it.strategy; loans = it.loans }

pub asked_here : (h now : HubState) → h ≡ now → (x : Given) (role : Role) (o : machine.Options) (form : Form) (s : HubSettings) (asked : Asked)
    → s ≡ h.control.tables.settings → IsFormOf form (shape_in now role)
    → ((y : Given) → IsFormOf form (shape_of (limits_of y (no_ports s)) role) → AsksFor y (no_ports s) role o asked)
    → AsksFor (given_by x now) now.control.tables role o asked
asked_here h now view x role o form s asked same is told =
    by_settings (given_by x now) now.control.tables s role o asked (same ∙ ap (λ (k : HubState). k.control.tables.settings) view)
    (told (given_by x now) (subst (IsFormOf form) (sym (same_shape x now s role)) is))
