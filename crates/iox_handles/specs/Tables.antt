-- The handles of a hub, as callers see them: a list by number, which is oldest first.
use Rattle.std.specs.Prelude.{◌≡◌, ℕ, ◌+◌, ◌-◌, ◌≤◌, ◌==◌, ◌&&◌, Bool, not, if◌then◌else◌, List, [], ◌∷◌, ◌++◌, Option, Some, None, filter, find, length, map}
use Rattle.std.specs.List.{list_any}
use Rattle.std.specs.Option.{option_and_then, option_map}
use Rattle.iox_model.specs.declared.kind.Kind.{Kind}
use Rattle.iox_model.specs.declared.kind.Kind.TheVariants.{PendingResponse}
use Rattle.iox_model.specs.Handles.{is_request_loan, is_response_loan, same_kind}
use Rattle.iox_model.specs.Maps.{AreDistinct}
use Rattle.iox_handles.specs.declared.entry.Entry.{Entry}

-- The handles, how many more may be added, and a number above theirs.
pub record Contents : Type 0 where
  pub room : ℕ
  pub next : ℕ
  pub handles : List Entry

-- no handle, and room for so many
abbrev pub new_contents : ℕ → Contents
new_contents room = record { room = room; next = 0; handles = [] }

-- whether a handle has that number
abbrev pub has_that : ℕ → Entry → Bool
has_that number h = h.number == number

-- the handle of that number
abbrev pub handle_at : Contents → ℕ → Option Entry
handle_at table number = find (has_that number) table.handles

-- the handle, if it is of that node
abbrev pub if_of : ℕ → Entry → Option Entry
if_of node h = if h.node == node then Some h else None

-- the node's handle of that number
abbrev pub handle_of : Contents → ℕ → ℕ → Option Entry
handle_of table node number = option_and_then (if_of node) (handle_at table number)

-- the handles of a node
abbrev pub handles_of : Contents → ℕ → List Entry
handles_of table node = filter (λ h. h.node == node) table.handles

-- whether it is a handle of that port and kind
abbrev pub is_of : ℕ → Kind → Entry → Bool
is_of port kind h = (h.port == port) && same_kind h.kind kind

-- how many handles of that kind a port has
abbrev pub count_of : Contents → ℕ → Kind → ℕ
count_of table port kind = length (filter (is_of port kind) table.handles)

-- the groups of kinds that are counted together: loaned requests, loaned responses, pending
-- responses, and all others
abbrev pub group_of : Kind → ℕ
group_of kind =
    if is_request_loan kind then 0
    else if is_response_loan kind then 1
    else if same_kind kind PendingResponse then 2
    else 3

-- whether it is a handle of that port and of a kind that is counted with that one
abbrev pub is_like : ℕ → Kind → Entry → Bool
is_like port kind h = (h.port == port) && (group_of h.kind == group_of kind)

-- how many such handles a port has
abbrev pub count_like : Contents → ℕ → Kind → ℕ
count_like table port kind = length (filter (is_like port kind) table.handles)

-- whether it is a handle of that port
abbrev pub has_port : ℕ → Entry → Bool
has_port port h = h.port == port

-- whether a port has a handle
abbrev pub has_any : Contents → ℕ → Bool
has_any table port = list_any (has_port port) table.handles

-- one handle more, newer than all others
abbrev pub added : Contents → Entry → Contents
added table h = record {
  room = table.room - 1;
  next = h.number + 1;
  handles = table.handles ++ h ∷ [];
}

-- the handle of that number is gone
abbrev pub removed : Contents → ℕ → Contents
removed table number = record table {
  room = table.room + 1;
  handles = filter (λ h. not (has_that number h)) table.handles;
}

-- the handles, with the one of that number as it is now
abbrev pub with_handle : Entry → List Entry → List Entry
with_handle h [] = []
with_handle h (k ∷ ks) = if has_that h.number k then h ∷ ks else k ∷ with_handle h ks

-- one handle is as it is now
abbrev pub changed : Contents → Entry → Contents
changed table h = record table { handles = with_handle h table.handles }

-- the handle, of another kind
abbrev pub of_kind : Kind → Entry → Entry
of_kind kind h = record h { kind = kind }

-- the handle with the kind that it is to have, if it is to change
abbrev pub turned : (Entry → Option Kind) → Entry → Option Entry
turned becomes h = option_map (λ kind. of_kind kind h) (becomes h)

-- What is so of each table: a number is one handle's, and is below the next.
pub record IsSound (table : Contents) : Type 0 where
  pub apart : AreDistinct (map (λ h. h.number) table.handles)
  pub below : (number : ℕ) → table.next ≤ number → handle_at table number ≡ None
