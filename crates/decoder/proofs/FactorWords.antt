-- What stands for the factors of a stripe's positions (`Factors` of specs/steps/Decoder): the logarithms of its weights and whatever follows them, and zeros
-- where no position is erased. Assumes nothing.
use mathlib.Core.Path.{◌≡◌, sym, ap, ◌∙◌}
use mathlib.Core.Bool.{Bool}
use mathlib.Core.List.{List, ◌++◌}
use Prim.Native.Nat.{ℕ, suc, ◌-◌, ◌^◌, ◌≤◌}
use native.Mathlib.Omega.{arith}
use lib.Dec.{lit<}
use lib.ListN.{length, replicate, length-append, get_or-append}
use Rattle.std.proofs.lemmas.List.{length-replicate, get_or-replicate}
use lib.Pow.{pow_mono}
use Rattle.field.specs.Power.{power}
use Rattle.field.specs.Words.{Words}
use Rattle.field.proofs.Powers.{power_zero}
use Rattle.field.proofs.WordLists.{words_append, words_replicate, same_table}
use Rattle.logarithms.specs.Weights.{logs}
use Rattle.code.specs.declared.Stripe.{Stripe}
use Rattle.code.specs.Stripe.{Numbers, modulus_of, root_in, position_count}
use Rattle.decoder.specs.steps.Decoder.{Factors, erased_count, factor_at, raised_at, raised}
use Rattle.decoder.proofs.Intact.{factor_none}
use Rattle.decoder.proofs.WeightLogs.{powers_are, length_logs, small_logs}

-- words after those of the positions do not matter
raised_append : (p g l : ℕ) (a b : List ℕ) → length a ≡ 2 ^ suc l → raised p g l (a ++ b) ≡ raised p g l a
unfolding raised_at
raised_append p g l a b e =
    same_table (2 ^ suc l) (raised_at p g (a ++ b)) (raised_at p g a) (λ i h. ap (power p g) (get_or-append a b 0 i (omega arith)))

pub logs_factors : (st : Stripe) (ms : List Bool) (rest : List ℕ) → Numbers st → Words (modulus_of st - 1) rest → Factors st ms (logs st.level ms ++ rest)
logs_factors st ms rest n u = record {
  long = omega (arith, length-append (logs st.level ms) rest, length_logs st.level ms);
  small = words_append 65536 (lit< tt) (small_logs st.level ms) u;
  are = raised_append 65537 3 st.level (logs st.level ms) rest (length_logs st.level ms) ∙ powers_are st.k st.level ms n.within n.small;
}

-- the logarithm of 1 is 0
zeros : (st : Stripe) (ms : List Bool) (n : ℕ) → position_count st ≤ n → erased_count st.level ms ≡ 0 → Factors st ms (replicate n 0)
unfolding raised_at
zeros st ms n m e = record {
  long = omega (arith, length-replicate {A = ℕ} n 0);
  small = words_replicate 65536 (lit< tt) n 0 (lit< tt);
  are = same_table (2 ^ suc st.level) (raised_at 65537 3 (replicate n 0)) (factor_at 65537 (root_in st) st.k st.level ms)
      (λ i b. ap (power 65537 3) (get_or-replicate n i 0 0 (omega arith)) ∙ power_zero 65537 (lit< tt) 3
      ∙ sym (factor_none 65537 (root_in st) st.k st.level ms (lit< tt) e i b));
}

pub no_factors : (st : Stripe) (ms : List Bool) → Numbers st → erased_count st.level ms ≡ 0 → Factors st ms (replicate 2048 0)
no_factors st ms n =
    let m : 2 ^ suc st.level ≤ 2 ^ 11 = pow_mono {i = suc st.level} {j = 11} (omega (arith, n.within, n.small)) in
    zeros st ms 2048 (omega arith)
