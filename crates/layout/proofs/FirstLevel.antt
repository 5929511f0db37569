-- The search for the first empty level: the levels passed are filled, and it goes on with the bits left. Assumes nothing.
use Rattle.std.proofs.Common.{◌≡◌, refl, sym, ◌∙◌, ℕ, zero, suc, ◌+◌, ◌/◌, ◌%◌, ◌^◌, ◌≤◌, ◌<◌, add-one, arith, eq-eqb, ne_eqb}
use Rattle.layout.specs.Header.{first_empty}

-- suc `more` levels are left, and bits of c that are not all 1
pub record Left (k c level rest : ℕ) : Type 0 where
  more : ℕ
  levels : level + suc more ≡ k
  bits : suc rest < 2 ^ suc more
  goal : first_empty k 0 c ≡ first_empty (suc more) level rest

pub record Search (c level rest : ℕ) : Type 0 where
  pub few : level + rest ≤ c
  pub left : (k : ℕ) → suc c < 2 ^ k → Left k c level rest

pub start : (c : ℕ) → Search c 0 c
start c = record { few = omega arith; left = all }
  where
    all : (k : ℕ) → suc c < 2 ^ k → Left k c 0 c
    all zero h = absurd (omega arith)
    all (suc n) h = record { more = n; levels = omega arith; bits = h; goal = refl }

-- a level that is filled, and one that is empty
pub empty_next : (n l c : ℕ) → c % 2 ≡ 1 → first_empty (suc n) l c ≡ first_empty n (suc l) (c / 2)
unfolding first_empty
empty_next n l c o = rw (eq-eqb (c % 2) 1 o, first_empty)

pub empty_ends : (n l c : ℕ) → c % 2 ≡ 0 → first_empty (suc n) l c ≡ l
unfolding first_empty
empty_ends n l c e = rw (ne_eqb (c % 2) 1 (λ o. omega arith), first_empty)

next : (k c level rest more : ℕ) → rest % 2 ≡ 1 → level + suc more ≡ k → suc rest < 2 ^ suc more → first_empty k 0 c ≡ first_empty (suc more) level rest
    → Left k c (level + 1) (rest / 2)
next k c level rest zero o e b g = absurd (omega arith)
next k c level rest (suc more) o e b g = record {
  more = more;
  levels = omega arith;
  bits = omega arith;
  goal = rw add-one (g ∙ empty_next (suc more) level rest o);
}

pub turn : {c level rest : ℕ} → Search c level rest → rest % 2 ≡ 1 → Search c (level + 1) (rest / 2)
turn {c} {level} {rest} h o = record { few = omega arith; left = λ k b. let r = h.left k b in next k c level rest r.more o r.levels r.bits r.goal }

pub found : {c level rest : ℕ} → Search c level rest → rest % 2 ≡ 0 → (k : ℕ) → suc c < 2 ^ k → (level ≡ first_empty k 0 c) × (level < k)
found {c} {level} {rest} h e k b =
    let r = h.left k b in
    (sym (r.goal ∙ empty_ends r.more level rest e), omega (arith, r.levels))
