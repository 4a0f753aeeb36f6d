-- What the messages of a sender carry, as words: a list of messages by their places.
use Rattle.std.specs.Prelude.{ℕ, suc, ◌≡◌, ◌+◌, ◌*◌, List, [], ◌++◌, Option, Some, None, drop, flat_map, max, replicate, take, slice_index_or, slice_set}
use Rattle.std.specs.List.{range_with_len}

-- What a message carries.
pub record StoredMessage : Type 0 where
  -- for how many elements it may be lent, with no room given for it
  pub room : ℕ
  -- how many elements it was lent for, and how many of them are filled
  pub elements : ℕ
  pub filled : ℕ
  -- the words of the user header, and those of the filled elements
  pub user : List ℕ
  pub payload : List ℕ

-- The messages by their places, and the length for which each of them has room.
pub record Contents : Type 0 where
  pub longest : ℕ
  pub messages : List StoredMessage

-- for how many elements such a message may be lent, with this room given for it, if any
abbrev pub room_with : ℕ → Option ℕ → ℕ
room_with room None = room
room_with room (Some spare) = max room spare

-- a message that was lent for no element
abbrev pub unlent : ℕ → List ℕ → StoredMessage
unlent room user =
    record { room = room; elements = 0; filled = 0; user = user; payload = [] }

-- so many messages, each with the same room and user header, and lent for no element
abbrev pub new_contents : ℕ → ℕ → List ℕ → Contents
new_contents count longest user =
    record { longest = longest; messages = replicate count (unlent longest user) }

-- the message in a place
abbrev pub stored_at : Contents → ℕ → StoredMessage
stored_at contents place = slice_index_or contents.messages place (unlent 0 [])

-- one message is as it is now, and the others are as they were
abbrev pub with_stored : Contents → ℕ → StoredMessage → Contents
with_stored contents place x =
    record contents { messages = slice_set contents.messages place x }

-- From old to new, at most the message in one place changes.
abbrev pub ChangesOnly : ℕ → Contents → Contents → Type 0
ChangesOnly place old new = new ≡ with_stored old place (stored_at new place)

-- ---- what a caller does with a message

-- no element is filled
abbrev pub emptied : StoredMessage → StoredMessage
emptied x = record x { filled = 0; payload = [] }

-- lent for so many elements, none of which is filled
abbrev pub lent_uninit : StoredMessage → ℕ → List ℕ → StoredMessage
lent_uninit x elements user = record (emptied x) { elements = elements; user = user }

-- the same words, so many times
abbrev pub copies : List ℕ → ℕ → List ℕ
copies words count = flat_map (λ n. words) (range_with_len 0 count)

-- all elements are filled, with these words
abbrev pub filled_with : StoredMessage → List ℕ → StoredMessage
filled_with x payload = record x { filled = x.elements; payload = payload }

-- lent for so many elements, each filled with the same words
abbrev pub lent_filled : StoredMessage → ℕ → List ℕ → List ℕ → StoredMessage
lent_filled x elements user words = filled_with (lent_uninit x elements user) (copies words elements)

-- one more element is filled
abbrev pub written_next : StoredMessage → List ℕ → StoredMessage
written_next x words = record x { filled = x.filled + 1; payload = x.payload ++ words }

-- another user header
abbrev pub with_user : StoredMessage → List ℕ → StoredMessage
with_user x user = record x { user = user }

-- the words of the filled element of that index, where each element has so many words
abbrev pub element_at : ℕ → StoredMessage → ℕ → List ℕ
element_at width x index = take width (drop (index * width) x.payload)

-- that element has other words, and the others have theirs
abbrev pub with_element : ℕ → StoredMessage → ℕ → List ℕ → StoredMessage
with_element width x index words = record x {
  payload = take (index * width) x.payload ++ words ++ drop (suc index * width) x.payload;
}
