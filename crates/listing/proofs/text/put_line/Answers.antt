-- `listing::text::put_line` meets its contract: name, position, words, and the line's end. Assumes nothing.
use Rattle.std.proofs.Common.{◌≡◌, refl, List, ℕ, [], ◌∷◌, ◌++◌, ◌≤◌, length}
use Rattle.print_lines.specs.Putting.{put, put_end}
use Rattle.print_lines.specs.Text.{decimal}
use Rattle.print_lines.proofs.PutTexts.{Left, left_all, left_turn, last_end, last_now}
use Rattle.listing.specs.Listing.{words, line}
use Rattle.listing.proofs.text.put_line.Goals as goal

module _ {l l₁ : List ℕ} {a a₁ : ℕ} (name i : ℕ) (row : List ℕ) (inside : a ≤ length l) (f₁ : a₁ ≡ put_end l a (name ∷ 32 ∷ []))
    (g₁ : l₁ ≡ put l a (name ∷ 32 ∷ [])) where
  named : Left l a (line name i row) l₁ a₁ (decimal i ++ (words row ++ (10 ∷ [])))
  named = left_turn (left_all (line name i row) inside) (name ∷ 32 ∷ []) (decimal i ++ (words row ++ (10 ∷ []))) refl f₁ g₁

  module _ {l₂ : List ℕ} {a₂ : ℕ} (f₂ : a₂ ≡ put_end l₁ a₁ (decimal i)) (g₂ : l₂ ≡ put l₁ a₁ (decimal i)) where
    numbered : Left l a (line name i row) l₂ a₂ (words row ++ (10 ∷ []))
    numbered = left_turn named (decimal i) (words row ++ (10 ∷ [])) refl f₂ g₂

    filled : {l₃ : List ℕ} {a₃ : ℕ} → a₃ ≡ put_end l₂ a₂ (words row) → l₃ ≡ put l₂ a₂ (words row) → Left l a (line name i row) l₃ a₃ (10 ∷ [])
    filled f₃ g₃ = left_turn numbered (words row) (10 ∷ []) refl f₃ g₃

pub put_number-numbered-requires : goal.put_number-numbered-requires
put_number-numbered-requires c =
    let p = c.put-named.ensures in (named c.args.name c.args.position c.args.row.now c.requires p.value p.out_after).inside

pub put_words-filled-requires : goal.put_words-filled-requires
put_words-filled-requires c =
    let p = c.put-named.ensures in
    let q = c.put_number-numbered.ensures in
    (numbered c.args.name c.args.position c.args.row.now c.requires p.value p.out_after q.value q.out_after).inside

pub put-requires : goal.put-requires
put-requires c =
    let p = c.put-named.ensures in
    let q = c.put_number-numbered.ensures in
    let r = c.put_words-filled.ensures in
    (filled c.args.name c.args.position c.args.row.now c.requires p.value p.out_after q.value q.out_after r.value r.out_after).inside

pub returns-clause-value : goal.returns-clause-value
returns-clause-value c =
    let p = c.put-named.ensures in
    let q = c.put_number-numbered.ensures in
    let r = c.put_words-filled.ensures in
    last_end (filled c.args.name c.args.position c.args.row.now c.requires p.value p.out_after q.value q.out_after r.value r.out_after) c.put.ensures.value

pub returns-clause-out_after : goal.returns-clause-out_after
returns-clause-out_after c =
    let p = c.put-named.ensures in
    let q = c.put_number-numbered.ensures in
    let r = c.put_words-filled.ensures in
    last_now (filled c.args.name c.args.position c.args.row.now c.requires p.value p.out_after q.value q.out_after r.value r.out_after) c.put.ensures.out_after
