-- What is promised of the listing, besides the contract of `listing::list`, which says that it is put into a buffer. Each promise is a type, and all of them
-- are the fields of `Promises`, whose proof is `proved` of proofs/Proved. Assumes nothing.
use Rattle.std.specs.Prelude.{◌≡◌, List, ◌∷◌, ◌++◌, ℕ, ◌*◌, ◌≤◌, length}
use Rattle.listing.specs.Listing.{write_size, listing}
use Rattle.listing.specs.Worked.{Holds, examples}

-- WHAT FOLLOWS THE 256TH WRITE IS NOT READ, whatever k, s and the writes are
abbrev pub RestUnread : Type 0
RestUnread = (k s : ℕ) (writes rest : List ℕ) → length writes ≡ 256 * write_size s → listing (k ∷ s ∷ (writes ++ rest)) ≡ listing (k ∷ s ∷ writes)

-- 13,482 BYTES HAVE ROOM for every listing: at most 126 lines of 107 bytes
abbrev pub RoomEnough : Type 0
RoomEnough = (input : List ℕ) → length (listing input) ≤ 13482

-- ALL OF THEM, and the examples
pub record Promises : Type 0 where
  pub rest_unread : RestUnread
  pub room_enough : RoomEnough
  pub worked : Holds examples
