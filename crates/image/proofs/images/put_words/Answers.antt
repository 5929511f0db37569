-- `image::images::put_words` meets its contract. Assumes nothing.
use Rattle.std.proofs.Common.{◌≡◌, sym, ap, ap₂, ◌∙◌, ℕ, suc, ◌+◌, ◌*◌, ◌<◌, ◌≤◌, List, length, get_or, drop, drop-cons, add-one, arith}
use lib.Seq.{drop-length}
use Rattle.std.proofs.lemmas.List.Edits.{sets}
use Rattle.field.proofs.WordLists.{sets_append}
use Rattle.image.specs.Image.{little, bytes_of}
use Rattle.image.proofs.WordBytes.{length_little}
use Rattle.image.proofs.images.put_words.Goals as goal

-- the next word's bytes, and then those of the words after it
next : (l words : List ℕ) (to i : ℕ) → i < length words
    → sets l to (bytes_of (drop i words)) ≡ sets (sets l to (little 4 (get_or words i 0))) (to + 4) (bytes_of (drop (i + 1) words))
unfolding bytes_of
next l words to i h =
    let w = get_or words i 0 in
    ap (λ (ws : List ℕ). sets l to (bytes_of ws)) (drop-cons words i 0 h)
    ∙ sets_append l to (little 4 w) (bytes_of (drop (suc i) words))
    ∙ rw (length_little 4 w, add-one i)

done : (l words : List ℕ) (to i : ℕ) → i ≤ length words → length words ≤ i → sets l to (bytes_of (drop i words)) ≡ l
unfolding bytes_of
done l words to i h b =
    let e : i ≡ length words = omega arith in
    ap (λ (ws : List ℕ). sets l to (bytes_of ws)) (ap (λ (n : ℕ). drop n words) e ∙ drop-length words)

pub loop-i-preserved : goal.loop-i-preserved
loop-i-preserved c =
    let l = c.loop-i in
    let a = c.args in
    let ws = a.words.now in
    let to = a.at + 4 * l.i in
    ap₂ (λ (b : List ℕ) (n : ℕ). sets b n (bytes_of (drop (l.i + 1) ws))) c.put_word.ensures (omega arith)
    ∙ sym (next l.bytes ws to l.i c.loop-i-test.true) ∙ l.invariant

pub returns : goal.returns
returns c =
    let l = c.loop-i in
    let a = c.args in
    sym (done l.bytes a.words.now (a.at + 4 * l.i) l.i l.auto.i-end c.loop-i-test.false) ∙ l.invariant
