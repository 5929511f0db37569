-- `image::images::image` meets its contract: each test that holds or fails, in turn, and the bytes stored. Assumes nothing.
use Rattle.std.proofs.Common.{◌≡◌, sym, ◌∙◌, refl, ap, ℕ, List, ◌+◌, ◌*◌, ◌<◌, true, length, arith}
use Rattle.std.proofs.lemmas.List.Edits.{sets}
use Rattle.layout.specs.declared.Header.{Header}
use Rattle.layout.specs.Header.{header_fits, full_size, log_size, image_size}
use Rattle.layout.proofs.Bounds.{fits}
use Rattle.layout.proofs.Refusals.{header_passed_on, header_taken, first_refused, second_refused, third_refused, sizes_hold, none_fails}
use Rattle.layout.proofs.Refusals.{some_refused, if_taken_lem, if_refused}
use Rattle.image.specs.Image.{bytes_of, image_of}
use Rattle.image.specs.ImageCall.{image_number, image_leaves}
use Rattle.image.proofs.WordBytes.{image_stored}
use Rattle.image.proofs.images.image.Goals as goal
use Rattle.image.proofs.images.image.Goals.{then-full-full_size-via-then-full-full_size, then-full-full_size-via-else-full-full_size+then-log-log_size}
use Rattle.image.proofs.images.image.Goals.{then-full-full_size-via-else-full-full_size+else-log-log_size+then-image-image_size}

-- what is left in the image where it is refused
left : {n : ℕ} (h : Header) (f g m : List ℕ) → 0 < n → n ≡ image_number h f g m → m ≡ image_leaves h f g m
left h f g m b e = sym (if_refused {n = image_number h f g m} (image_of f g) m (λ z. omega arith))

-- where the tests hold, the bytes are the image
module _ (h : Header) (f g m : List ℕ) where
  long : header_fits h ≡ true → length f ≡ full_size h → length g ≡ log_size h → length m ≡ image_size h → length m ≡ 4 * length f + 4 * length g
  long t ef eg em = omega (arith, (fits h t).image_is)

  taken : {x y : List ℕ} → 0 ≡ image_number h f g m → length m ≡ 4 * length f + 4 * length g → y ≡ sets m 0 (bytes_of f)
      → x ≡ sets y (4 * length f) (bytes_of g) → x ≡ image_leaves h f g m
  taken z l ey ex = ex ∙ rw ey (image_stored m f g l) ∙ sym (if_taken_lem (image_of f g) m (sym z))

pub returns-in_err-header : goal.returns-in_err-header
returns-in_err-header c =
    let a = c.args in
    let e = header_passed_on a.header _ c.from_residual.result _ c.from_residual.ensures.1 c.in_err-header.ensures in
    record {
      value = e;
      image_after = left a.header a.full.now a.log.now a.image.now (some_refused _ c.from_residual.result c.from_residual.ensures.1) e;
    }

pub returns-then-full-full_size : goal.returns-then-full-full_size
returns-then-full-full_size c =
    let a = c.args in
    let same = c.in_ok-header.ensures in
    let h = header_taken _ _ same c.in_ok-header.header.fits in
    let full = c.full_size.ensures ∙ ap full_size same in
    let e : 2 ≡ image_number a.header a.full.now a.log.now a.image.now = elim c.then-full-full_size.branch [
      | then-full-full_size-via-then-full-full_size w ↦ first_refused h _ refl full _ w.if-full-full_size.true
      | then-full-full_size-via-else-full-full_size+then-log-log_size w ↦
          second_refused h _ refl full w.if-full-full_size.false (w.log_size.ensures ∙ ap log_size same) _ w.if-log-log_size.true
      | then-full-full_size-via-else-full-full_size+else-log-log_size+then-image-image_size w ↦
          third_refused h _ refl full w.if-full-full_size.false (w.log_size.ensures ∙ ap log_size same) w.if-log-log_size.false
          (w.image_size.ensures ∙ ap image_size same) w.if-image-image_size.true
    ] in
    record { value = e; image_after = left a.header a.full.now a.log.now a.image.now (omega arith) e }

pub returns : goal.returns
returns c =
    let a = c.args in
    let same = c.in_ok-header.ensures in
    let h = header_taken _ _ same c.in_ok-header.header.fits in
    let full = c.full_size.ensures ∙ ap full_size same in
    let log = c.log_size.ensures ∙ ap log_size same in
    let size = c.image_size.ensures ∙ ap image_size same in
    let e : 0 ≡ image_number a.header a.full.now a.log.now a.image.now =
    sizes_hold h _ refl full c.if-full-full_size.false log c.if-log-log_size.false size c.if-image-image_size.false none_fails in
    let l = long a.header a.full.now a.log.now a.image.now (sym h) (c.if-full-full_size.false ∙ full) (c.if-log-log_size.false ∙ log)
    (c.if-image-image_size.false ∙ size) in
    record { value = e; image_after = taken a.header a.full.now a.log.now a.image.now e l c.put_words.ensures c.put_words-2.ensures }
