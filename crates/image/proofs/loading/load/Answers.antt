-- `image::loading::load` meets its contract, by the loop that stores rows of code/proofs/RowLaws and the one that tests them of proofs/StripeLoads. Assumes
-- nothing.
use Rattle.std.proofs.Common.{refl, sym, ap, ◌∙◌, subst, ℕ, ◌≡◌, ◌+◌, ◌*◌, ◌<◌, ◌≤◌, ◌++◌}
use Rattle.std.proofs.Common.{Bool, false, ◌&&◌, ◌-◌, List, length, take, drop, replicate, get_or, zero-mul, lit<, arith}
use mathlib.Core.Bool.{and-true}
use borrow.Rule.Slice.PartMut.{put_mid}
use lib.ListN.{length-replicate, get_or-replicate, length-drop}
use lib.Seq.{length-take-le, get_or-take}
use Rattle.field.specs.Words.{table}
use Rattle.field.proofs.WordLists.{is_table, length_table, get_or_table}
use Rattle.code.proofs.Shapes.{positions}
use Rattle.code.proofs.Lifting.{row_next, row_in}
use Rattle.code.proofs.RowLaws.{storing_rows_start, storing_rows_turn, storing_rows_done, stored_front, stored_part}
use Rattle.code.specs.steps.Storing.{stored}
use Rattle.image.specs.Loading.{surviving, surviving_at, are_below}
use Rattle.image.specs.steps.Loading.{columns_word, columns_of}
use Rattle.image.proofs.StripeLoads.{rows_start, rows_turn, rows_end, below_zeros, surviving_marked, kept_word, range_marked, range_kept}
use Rattle.image.proofs.loading.load.Goals as goal
use Rattle.image.proofs.loading.load.Goals.{then-marked, else-marked+then-from-eq0, else-marked+else-from-eq0}

-- a row that is written over
row_stored : (f : ℕ → ℕ) (to n : ℕ) (l : List ℕ) {x : List ℕ} → to + n ≤ length l → x ≡ table (length (take (to + n - to) (drop to l))) f
    → put_mid to (to + n - to) l x ≡ stored to f n l
row_stored f to n l {x} h e =
    let long : length (take (to + n - to) (drop to l)) ≡ n = length-take-le (to + n - to) (drop to l) (omega (arith, length-drop to l)) ∙ omega arith in
    let is : x ≡ table n f = e ∙ ap (λ (m : ℕ). table m f) long in
    stored_part to f n (to + n - to) l x (omega arith) h (ap length is ∙ length_table n f)
    (λ i b. ap (λ (y : List ℕ). get_or y i 0) is ∙ get_or_table n i f b)

zeros : (n : ℕ) → replicate n 0 ≡ table n (λ k. 0)
zeros n = is_table (replicate n 0) n (λ k. 0) (length-replicate n 0) (λ i b. get_or-replicate n i 0 0 b)

-- the marks that the loop goes over, and one of them
all_marks : {n m : ℕ} (ms : List Bool) → n ≡ m → m ≤ length ms → length (take n ms) ≡ n
all_marks {n} ms e h = length-take-le n ms (omega arith)

marked : {n : ℕ} (ms : List Bool) (i : ℕ) {b : Bool} → i < n → get_or (take n ms) i false ≡ b → get_or ms i false ≡ b
marked {n} ms i h e = sym (get_or-take n ms i false h) ∙ e

pub loop-i-init : goal.loop-i-init
loop-i-init g c = record {
  rows = rw (zero-mul c.args.range.cols) (storing_rows_start 0 _ _ _ _);
  all_in_field = λ z. rows_start _ _ _ _;
  untested = λ z. refl;
}

pub loop-i-preserved : goal.loop-i-preserved
loop-i-preserved g c =
    let a = c.args in
    let w = a.st.width in
    let ms = a.marks.now in
    let ws = g.S.Source.words a.source in
    let n = c.two_to-rows.result in
    let i = c.loop-i.i in
    let fine = c.loop-i.fine in
    let inv = c.loop-i.invariant in
    let b : i < n = rw (all_marks ms (positions a.st.level c.two_to-rows.ensures) c.requires.marks_len) at c.loop-i-test.true in
    let fit = c.requires.inside in
    let all = subst (λ (m : ℕ). m * a.range.cols ≤ length a.part.now) (sym (positions a.st.level c.two_to-rows.ensures)) c.requires.room in
    let room : i * a.range.cols + a.range.cols ≤ length c.loop-i.part = omega (arith, row_in a.range.cols b, all, inv.rows.same) in
    record {
      rows =
          rw (row_next i a.range.cols)
          (elim c.if-marked.branch [
            | then-marked d ↦ storing_rows_turn inv.rows (λ k. 0) b
                (d.part-is ∙ row_stored (λ k. 0) (i * a.range.cols) a.range.cols c.loop-i.part room (d.fill.ensures.after (λ y e. e) ∙ zeros _))
                (λ j t. sym (range_marked w n ms ws a.range.from a.range.cols fit i j b t (marked ms i b d.if-marked.true)))
            | else-marked+then-from-eq0 d ↦ storing_rows_turn inv.rows _ b
                (d.part-is ∙ row_stored _ (i * a.range.cols) a.range.cols c.loop-i.part room d.load_row.ensures)
                (λ j t. sym (range_kept w n ms ws a.range.from a.range.cols fit i j b t (marked ms i b d.if-marked.false)))
            | else-marked+else-from-eq0 d ↦ storing_rows_turn inv.rows _ b
                (d.part-is ∙ row_stored _ (i * a.range.cols) a.range.cols c.loop-i.part room d.load_row.ensures)
                (λ j t. sym (range_kept w n ms ws a.range.from a.range.cols fit i j b t (marked ms i b d.if-marked.false)))
          ]);
      all_in_field = λ z. elim c.if-marked.branch [
        | then-marked d ↦ rows_turn (inv.all_in_field z) b (λ k. 0) (λ j t. surviving_marked w ms ws i j t (marked ms i b d.if-marked.true))
            (d.fine-is ∙ sym (ap (λ (t : Bool). fine && t) (below_zeros 65537 w (lit< tt)) ∙ and-true fine))
        | else-marked+then-from-eq0 d ↦ rows_turn (inv.all_in_field z) b _ (λ j t. kept_word w n ms ws i j t (marked ms i b d.if-marked.false))
            (d.fine-is ∙ ap (λ (t : Bool). fine && t) d.row_in_field-fine.ensures)
        | else-marked+else-from-eq0 d ↦ absurd (d.if-from-eq0.false z)
      ];
      untested = λ z. elim c.if-marked.branch [
        | then-marked d ↦ d.fine-is ∙ inv.untested z
        | else-marked+then-from-eq0 d ↦ absurd (omega (arith, d.if-from-eq0.true))
        | else-marked+else-from-eq0 d ↦ d.fine-is ∙ inv.untested z
      ];
    }

pub returns-clause-first : goal.returns-clause-first
returns-clause-first g c z =
    let a = c.args in
    let e = positions a.st.level c.two_to-rows.ensures in
    rows_end (c.loop-i.invariant.all_in_field z) (rw (all_marks a.marks.now e c.requires.marks_len) at c.loop-i-test.false)
    ∙ ap (λ (n : ℕ). are_below 65537 (table (n * a.st.width) (surviving_at a.st.width a.marks.now (g.S.Source.words a.source)))) e

pub returns-clause-part_after : goal.returns-clause-part_after
unfolding columns_of
returns-clause-part_after g c =
    let a = c.args in
    let e = positions a.st.level c.two_to-rows.ensures in
    storing_rows_done c.loop-i.invariant.rows (rw (all_marks a.marks.now e c.requires.marks_len) at c.loop-i-test.false)
    ∙ stored_front _ _ a.part.now (subst (λ (n : ℕ). n * a.range.cols ≤ length a.part.now) (sym e) c.requires.room)
    ∙ ap (λ (n : ℕ). table (n * a.range.cols)
    (columns_word a.st.width a.range.from a.range.cols (surviving a.st.width n a.marks.now (g.S.Source.words a.source)))
    ++ drop (n * a.range.cols) a.part.now) e
