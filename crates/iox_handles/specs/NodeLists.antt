-- How a table lists a node's handles while they go one after another.
use Rattle.std.specs.Prelude.{ℕ, ◌≡◌, ◌≤◌, ◌<◌, ◌+◌, ◌==◌, ◌&&◌, Bool, false, List, [], length, Option, Some, slice_get, slice_index_or}
use Rattle.std.specs.List.{Contains}
use Rattle.std.specs.Option.{option_map_or}
use Rattle.iox_handles.specs.declared.entry.Entry.{Entry}
use Rattle.iox_handles.specs.declared.numbered.Numbered.{Numbered}
use Rattle.iox_handles.specs.Places.{passes, IsTable}

-- A list of a node's handles by ascending numbers, from which place of it on they may be there,
-- what the table's next number was, and how many can be listed.
pub record ListState : Type 0 where
  pub list : List Numbered
  pub from : ℕ
  pub node : ℕ
  pub next : ℕ
  pub room : ℕ

-- nothing is listed, and there is room for so many
abbrev pub no_list : ℕ → ListState
no_list room = record { list = []; from = 0; node = 0; next = 0; room = room }

-- another list, in the same room
abbrev pub listed_anew : ListState → ℕ → ℕ → List Numbered → ListState
listed_anew l node next list =
    record { list = list; from = 0; node = node; next = next; room = l.room }

-- whether it is of that node, and was made as the table's next number was that
abbrev pub is_list_of : ListState → ℕ → ℕ → Bool
is_list_of l node next = (l.node == node) && (l.next == next)

-- whether it is the node's handle of that number
abbrev pub is_numbered_of : ℕ → ℕ → Entry → Bool
is_numbered_of node number h = (h.node == node) && (h.number == number)

-- whether the node's handle that is listed so is there
abbrev pub has_listed : ℕ → List (Option Entry) → Numbered → Bool
has_listed node ps v =
    option_map_or (passes (is_numbered_of node v.number)) (slice_get ps v.place) false

-- each handle of the node is in the list
abbrev pub AreListed : ℕ → List (Option Entry) → List Numbered → Type 0
AreListed node ps list =
    (p : ℕ) (h : Entry) → slice_get ps p ≡ Some (Some h) → h.node ≡ node
    → Contains list (record { number = h.number; place = p })

-- it stands in the list, at that place or behind
abbrev pub IsFrom : List Numbered → ℕ → Numbered → Type 0
IsFrom list from v = (i : ℕ) × (from ≤ i) × (i < length list) × (slice_index_or list i v ≡ v)

-- each handle of the node is in the list, and not among those that are gone
abbrev pub AllListed : List (Option Entry) → ListState → Type 0
AllListed ps l =
    (p : ℕ) (h : Entry) → slice_get ps p ≡ Some (Some h) → h.node ≡ l.node
    → IsFrom l.list l.from (record { number = h.number; place = p })

-- How a table and its list stand in memory.
pub record IsWhole (ps : List (Option Entry)) (free : List ℕ) (room next pc fc : ℕ)
    (l : ListState) : Type 0 where
  pub table : IsTable ps free room next pc fc
  -- it was listed some time ago, and if no handle came since, all of its node are listed
  pub past : l.next ≤ next
  pub all : l.next ≡ next → AllListed ps l
  -- there is memory for a list of those that there are, and that may come
  pub lists : length ps + room ≤ l.room + length free
