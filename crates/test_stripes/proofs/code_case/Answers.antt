-- `test_stripes::code_case` is safe and ends: a stripe has two halves, and their words are words of the field. Assumes nothing.
use Rattle.std.proofs.Common.{◌≡◌, ap, ◌∙◌, ◌+◌, ◌*◌, ◌^◌, ℕ, suc, arith}
use Rattle.std.proofs.Math.Nat.{pow-suc, add-mul}
use Rattle.test_stripes.proofs.code_case.Goals as goal

halves : (l w : ℕ) → 2 ^ suc l * w ≡ 2 ^ l * w + 2 ^ l * w
halves l w =
    let e : 2 ^ suc l ≡ 2 ^ l + 2 ^ l = omega (arith, pow-suc 2 l) in
    ap (λ (n : ℕ). n * w) e ∙ add-mul (2 ^ l) (2 ^ l) w

pub code-requires-clause-part_len : goal.code-requires-clause-part_len
code-requires-clause-part_len g c = omega (arith, c.requires, c.words.ensures.long, halves c.args.st.stripe.level c.args.st.stripe.width)
