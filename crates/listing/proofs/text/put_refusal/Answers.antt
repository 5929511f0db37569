-- `listing::text::put_refusal` meets its contract: the word, the number, and the line's end. Assumes nothing.
use Rattle.std.proofs.Common.{◌≡◌, refl, sym, ap, List, ℕ, [], ◌∷◌, ◌++◌, arith}
use Rattle.print_lines.specs.Putting.{put, put_end}
use Rattle.print_lines.specs.Text.{decimal}
use Rattle.print_lines.proofs.PutTexts.{Left, left_all, left_turn, last_end, last_now, put_stays}
use Rattle.listing.specs.Listing.{refused_text}
use Rattle.listing.proofs.text.put_refusal.Goals as goal

abbrev refused : List ℕ
refused = 114 ∷ 101 ∷ 102 ∷ 117 ∷ 115 ∷ 101 ∷ 100 ∷ 32 ∷ []

-- only the line's end is still to be put
module _ {l l₁ l₂ : List ℕ} {a₁ a₂ n m : ℕ} (e : m ≡ n) (f₁ : a₁ ≡ put_end l 0 refused) (g₁ : l₁ ≡ put l 0 refused) (f₂ : a₂ ≡ put_end l₁ a₁ (decimal m))
    (g₂ : l₂ ≡ put l₁ a₁ (decimal m)) where
  numbered : Left l 0 (refused_text n) l₂ a₂ (10 ∷ [])
  numbered =
      let all = left_all {l = l} {a = 0} (refused_text n) (omega arith) in
      let named = left_turn all refused (decimal m ++ (10 ∷ [])) (ap (λ (x : ℕ). refused ++ (decimal x ++ (10 ∷ []))) (sym e)) f₁ g₁ in
      left_turn named (decimal m) (10 ∷ []) refl f₂ g₂

pub put_number-numbered-requires : goal.put_number-numbered-requires
put_number-numbered-requires c = put_stays c.args.out.now 0 refused (omega arith) c.put-named.ensures.value c.put-named.ensures.out_after

pub put-requires : goal.put-requires
put-requires c =
    let p = c.put-named.ensures in
    let q = c.put_number-numbered.ensures in
    (numbered c.number.ensures p.value p.out_after q.value q.out_after).inside

pub returns-clause-value : goal.returns-clause-value
returns-clause-value c =
    let p = c.put-named.ensures in
    let q = c.put_number-numbered.ensures in
    last_end (numbered c.number.ensures p.value p.out_after q.value q.out_after) c.put.ensures.value

pub returns-clause-out_after : goal.returns-clause-out_after
returns-clause-out_after c =
    let p = c.put-named.ensures in
    let q = c.put_number-numbered.ensures in
    last_now (numbered c.number.ensures p.value p.out_after q.value q.out_after) c.put.ensures.out_after
