-- The lowest filled level l of a vault that has writes: it is below k, its blocks are the last 2 ^ l writes, and without the last of them the levels below it
-- are filled, each with its share of those blocks. Assumes nothing.
use mathlib.Core.Path.{◌≡◌, sym, ap, ◌∙◌}
use Prim.Native.Nat.{ℕ, suc, ◌+◌, ◌-◌, ◌/◌, ◌%◌, ◌^◌, ◌<◌}
use native.Mathlib.Omega.{arith}
use lib.Pow.{pow_mono}
use Rattle.layout.specs.declared.Header.{Header}
use Rattle.layout.specs.Header.{first_of, first_empty}
use Rattle.layout.proofs.Counting.{Carry, carried, first_now, first_before, filled_now}
use Rattle.layout.proofs.StripePlaces.{first_level}
use Rattle.splitting.specs.Splitting.{first_filled, lowest_of, header_before}
use Rattle.splitting.proofs.FirstFilled.{first_filled_lem}

-- a vault with l as its lowest filled level
pub record Lowest (h : Header) (l : ℕ) : Type 0 where
  pub multiple : ℕ
  pub some : suc (h.c - 1) ≡ h.c
  pub within : l < h.k
  pub carry : Carry (h.c - 1) l multiple

-- it was the first empty one before the last write
pub empty_before : (h : Header) → 0 < h.c → first_empty h.k 0 (h.c - 1) ≡ lowest_of h
empty_before h s = sym (first_filled_lem h.k 0 (h.c - 1)) ∙ ap (first_filled h.k 0) {x = suc (h.c - 1)} {y = h.c} (omega arith)

pub lowest : (h : Header) {l : ℕ} → 0 < h.c → h.c < 2 ^ h.k → l ≡ lowest_of h → Lowest h l
lowest h {l} s b e =
    let r = carried h.k 0 (h.c - 1) (omega arith) in
    let f : l ≡ r.level = e ∙ sym (empty_before h s) ∙ r.first ∙ omega arith in
    rw f (record { multiple = r.multiple; some = omega arith; within = r.within; carry = r.carry })

module _ {h : Header} {l : ℕ} (w : Lowest h l) where
  -- the write number of its first block
  pub first_lowest : first_of h l + 2 ^ l ≡ h.c
  first_lowest =
      rw (first_level h l (λ e. omega (arith, w.within))) (rw w.some at (first_now w.carry))

  -- and that of a level below it, without the last write
  pub first_below : (j : ℕ) → j < l → first_of (header_before h) j + 2 ^ suc j ≡ h.c
  first_below j b =
      rw (first_level (header_before h) j (λ e. omega (arith, w.within))) (rw w.some at (first_before w.carry j b))

  pub first_apart : (j : ℕ) → j < l → first_of (header_before h) j ≡ first_of h l + (2 ^ l - 2 ^ suc j)
  first_apart j b = omega (arith, first_lowest, first_below j b, pow_mono {i = suc j} {j = l} b)

  -- it is filled
  pub bit_lowest : h.c / 2 ^ l % 2 ≡ 1
  bit_lowest = rw w.some at (filled_now w.carry)
