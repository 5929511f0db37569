-- The promises of specs/Promises, each proved, under one roof. Assumes nothing.
use mathlib.Core.Path.{◌≡◌, ap, ap₂, ◌∙◌}
use mathlib.Core.List.{List, ◌++◌}
use Prim.Native.Nat.{ℕ, ◌≤◌, min}
use native.Mathlib.Omega.{arith}
use lib.ListN.{length, take, drop}
use lib.Seq.{take_all, take-append_seam}
use Rattle.listing.specs.Listing.{listing}
use Rattle.listing.specs.Promises.{Promises}
use Rattle.listing.proofs.Unread as Unread
use Rattle.listing.proofs.SoundRacks as SoundRacks
use Rattle.listing.proofs.Worked as Worked

pub proved : Promises
proved = record { rest_unread = Unread.rest_unread; room_enough = SoundRacks.room_enough; worked = Worked.worked }

-- what a caller has of `listing::list` where the buffer has room for every listing
pub whole_listing : (input buffer : List ℕ) {n : ℕ} {out : List ℕ} → 13482 ≤ length buffer → n ≡ min (length (listing input)) (length buffer)
    → out ≡ take (length buffer) (listing input) ++ drop (length (listing input)) buffer → take n out ≡ listing input
whole_listing input buffer {n} room e f =
    let t = listing input in
    let b = SoundRacks.room_enough input in
    let long : n ≡ length t = omega arith in
    ap₂ take long (f ∙ ap (λ (l : List ℕ). l ++ drop (length t) buffer) (take_all (length buffer) t (omega arith)))
    ∙ take-append_seam t (drop (length t) buffer)
