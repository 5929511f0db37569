-- The pairs of an erasure list, which are its chunks of eight bytes: the two numbers of each. Assumes nothing.
use mathlib.Core.Path.{◌≡◌, refl, ap, ◌∙◌}
use mathlib.Core.List.{List, []}
use Prim.Native.Nat.{ℕ, zero, suc, ◌+◌, ◌*◌, ◌/◌, ◌<◌}
use native.Mathlib.Omega.{arith}
use lib.ListN.{length, get_or, take, drop}
use Rattle.std.specs.Simd.{first_chunks}
use Rattle.std.proofs.lemmas.List.{drop-drop, drop-take, take-take}
use Rattle.image.specs.Image.{number_at}

-- these are the offset and the size of pair i
pub record IsPair (bytes : List ℕ) (i o s : ℕ) : Type 0 where
  pub within : i < length bytes / 8
  pub offset : o ≡ number_at bytes (8 * i)
  pub size : s ≡ number_at bytes (8 * i + 4)

chunk_at : (i n : ℕ) (bytes : List ℕ) → i < n → get_or (first_chunks 8 n bytes) i [] ≡ take 8 (drop (8 * i) bytes)
chunk_at i zero bytes h = absurd (omega arith)
chunk_at zero (suc n) bytes h = refl
chunk_at (suc i) (suc n) bytes h =
    chunk_at i n (drop 8 bytes) (omega arith) ∙ ap (take 8) (drop-drop (8 * i) 8 bytes)
    ∙ ap (λ (k : ℕ). take 8 (drop k bytes)) {x = 8 + 8 * i} {y = 8 * suc i} (omega arith)

-- the numbers of chunk i are those of pair i
pub is_pair : {chunks : List (List ℕ)} (bytes : List ℕ) {i o s : ℕ} → chunks ≡ first_chunks 8 (length bytes / 8) bytes → i < length bytes / 8
    → (o ≡ number_at (get_or chunks i []) 0) × (s ≡ number_at (get_or chunks i []) 4) → IsPair bytes i o s
is_pair {chunks} bytes {i} e h n =
    let rest = drop (8 * i) bytes in
    let at : get_or chunks i [] ≡ take 8 rest = rw e (chunk_at i (length bytes / 8) bytes h) in
    record {
      within = h;
      offset = n.0 ∙ rw (at, take-take 4 8 rest (omega arith));
      size = n.1 ∙ rw (at, drop-take 4 4 rest, take-take 4 4 (drop 4 rest) (omega arith), drop-drop 4 (8 * i) bytes);
    }
