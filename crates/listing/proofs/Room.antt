-- How long a listing is. Assumes nothing.
use mathlib.Core.Path.{◌≡◌, ap}
use mathlib.Core.Bool.{true, false}
use mathlib.Core.Logic.{⊎_elim}
use mathlib.Core.List.{List, [], ◌∷◌, ◌++◌}
use Prim.Native.Nat.{ℕ, zero, suc, ◌+◌, ◌*◌, ◌^◌, ◌≤◌, ◌<◌}
use native.Mathlib.Omega.{arith}
use lib.Dec.{lit<}
use lib.ListN.{length, take, drop, length-append, length-take}
use lib.Pow.{pow_mono}
use Rattle.field.specs.Words.{Words}
use Rattle.field.proofs.Booleans.{either}
use Rattle.field.proofs.WordLists.{words_tail, words_take, words_drop, words_part}
use Rattle.layout.specs.declared.Header.{Header}
use Rattle.layout.specs.Header.{width, is_filled, level_at, stripe_size}
use Rattle.print_lines.specs.Text.{decimal}
use Rattle.print_lines.proofs.Text.{few_digits}
use Rattle.listing.specs.Listing.{words, line, positions, level_text, levels_text, rack_text, refused_text}
use Rattle.listing.proofs.Lines.{level_empty, level_filled}

-- A LINE: words have at most five digits, positions two
words_room : (row : List ℕ) → Words 65537 row → length (words row) ≤ 6 * length row
unfolding words
words_room [] u = omega arith
words_room (x ∷ row) u =
    omega (
      arith,
      length-append (decimal x) (words row),
      few_digits 5 x (omega arith) (omega (arith, u.word 0)) (omega (arith, u.word 0)),
      words_room row (words_tail u),
    )

line_room : (name i : ℕ) (row : List ℕ) → i < 100 → length row ≤ 17 → Words 65537 row → length (line name i row) ≤ 107
line_room name i row b n u =
    omega (
      arith,
      length-append (decimal i) (words row ++ (10 ∷ [])),
      length-append (words row) (10 ∷ []),
      few_digits 2 i (omega arith) b (omega arith),
      words_room row u,
    )

-- A STRIPE
positions_room : (name w : ℕ) (rows : List ℕ) (i n : ℕ) → w ≤ 17 → Words 65537 rows → i + n ≤ 100 → length (positions name w rows i n) ≤ n * 107
unfolding positions
positions_room name w rows i zero b u t = omega arith
positions_room name w rows i (suc n) b u t =
    let row = take w rows in
    omega (
      arith,
      length-append (line name i row) (positions name w (drop w rows) (suc i) n),
      line_room name i row (omega arith) (omega (arith, length-take w rows)) (words_take 65537 (lit< tt) w u),
      positions_room name w (drop w rows) (suc i) n b (words_drop 65537 (lit< tt) w u) (omega arith),
    )

module _ (h : Header) (log : List ℕ) (b : h.s ≤ 16) (u : Words 65537 log) where
  level_room : (l : ℕ) → l < 5 → length (level_text h log l) ≤ 2 ^ suc l * 107
  level_room l t =
      let p : 2 ^ suc l ≤ 32 = pow_mono {i = suc l} {j = 5} (omega arith) in
      let part = take (stripe_size h l) (drop (level_at h l) log) in
      ⊎_elim
      (λ (e : is_filled h l ≡ true). omega (
        arith,
        ap length (level_filled h log l e),
        positions_room (48 + l) (width h) part 0 (2 ^ suc l) (omega arith) (words_part 65537 (lit< tt) (stripe_size h l) (level_at h l) u) (omega arith),
      ))
      (λ (e : is_filled h l ≡ false). omega (arith, ap length (level_empty h log l e)))
      (either (is_filled h l))

  levels_room : (l n m : ℕ) → l + n ≡ m → m ≤ 5 → length (levels_text h log l n) + 2 ^ suc l * 107 ≤ 2 ^ suc m * 107
  unfolding levels_text
  levels_room l zero m e t = let f : l ≡ m = omega arith in omega (arith, ap (λ (x : ℕ). 2 ^ suc x) f)
  levels_room l (suc n) m e t =
      let two : length (levels_text h log l (suc n)) ≡ length (level_text h log l) + length (levels_text h log (suc l) n)
      = length-append (level_text h log l) (levels_text h log (suc l) n) in
      omega (arith, two, level_room l (omega arith), levels_room (suc l) n m (omega arith) t)

pub rack_room : (h : Header) (full log : List ℕ) → h.k ≤ 5 → h.s ≤ 16 → Words 65537 full → Words 65537 log → length (rack_text h full log) ≤ 13482
rack_room h full log k s u v =
    let p : 2 ^ suc h.k ≤ 64 = pow_mono {i = suc h.k} {j = 6} (omega arith) in
    let two : length (rack_text h full log) ≡ length (positions 67 (width h) full 0 (2 ^ suc h.k)) + length (levels_text h log 0 h.k)
    = length-append (positions 67 (width h) full 0 (2 ^ suc h.k)) (levels_text h log 0 h.k) in
    omega (arith, two, positions_room 67 (width h) full 0 (2 ^ suc h.k) (omega arith) u (omega arith), levels_room h log s v 0 h.k h.k (omega arith) k)

pub refused_room : (n : ℕ) → n < 100 → length (refused_text n) ≤ 13482
refused_room n b = omega (arith, length-append (decimal n) (10 ∷ []), few_digits 2 n (omega arith) b (omega arith))
