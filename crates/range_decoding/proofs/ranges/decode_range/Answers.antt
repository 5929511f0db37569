-- `range_decoding::ranges::decode_range` meets its contract: the rows that are loaded are the range's columns, and so are those that are decoded. Assumes
-- nothing.
use Rattle.std.proofs.Common.{sym, ap, ◌∙◌, ◌≡◌, ◌*◌, ◌++◌, ℕ, List, length, drop, lit<}
use Rattle.code.specs.declared.Stripe.{Stripe}
use Rattle.code.specs.declared.Range.{Range}
use Rattle.code.specs.Stripe.{modulus_of, root_in, position_count, with_width}
use Rattle.code.proofs.RowLaws.{no_rest}
use Rattle.decoder.specs.Decoding.{is_consistent}
use Rattle.decoder.specs.steps.Decoder.{left_of}
use Rattle.decoder.proofs.DecodeRows.{leaves_zeros}
use Rattle.image.specs.steps.Loading.{columns_of}
use Rattle.image.proofs.StripeLoads.{columns_words}
use Rattle.range_decoding.proofs.RangeDecoding.{tested_once, number_eight, number_nine, number_zero, range_blocks}
use Rattle.range_decoding.proofs.ranges.decode_range.Goals as goal

-- the part is the range's columns and nothing else
columns_alone : (st : Stripe) (range : Range) (r part : List ℕ) {x : List ℕ} → length part ≡ position_count st * range.cols
    → x ≡ columns_of st.width range.from range.cols (position_count st) r ++ drop (position_count st * range.cols) part
    → x ≡ columns_of st.width range.from range.cols (position_count st) r
columns_alone st range r part e q = q ∙ no_rest (columns_of st.width range.from range.cols (position_count st) r) part (position_count st * range.cols) e

pub returns-then-not-load-clause-value : goal.returns-then-not-load-clause-value
returns-then-not-load-clause-value g c =
    let found = tested_once c.args.range.from c.load.ensures.first c.load.ensures.later c.requires.all_in_field in
    sym (number_eight _ _ (sym found ∙ c.if-not-load.true))

pub decode-requires-clause-words : goal.decode-requires-clause-words
decode-requires-clause-words g c =
    let a = c.args in
    let found = tested_once c.args.range.from c.load.ensures.first c.load.ensures.later c.requires.all_in_field in
    rw (columns_alone a.ready.vault.valid.stripe a.range _ _ c.requires.part_len c.load.ensures.part_after)
    (columns_words 65537 a.ready.vault.valid.stripe.width a.range.from a.range.cols (position_count a.ready.vault.valid.stripe) _
    (lit< tt) (sym found ∙ c.if-not-load.false))

pub returns-clause-value : goal.returns-clause-value
returns-clause-value g c =
    let a = c.args in
    let found = tested_once c.args.range.from c.load.ensures.first c.load.ensures.later c.requires.all_in_field in
    let e = columns_alone a.ready.vault.valid.stripe a.range _ _ c.requires.part_len c.load.ensures.part_after in
    sym (number_zero _ _ (sym found ∙ c.if-not-load.false)
    (sym (c.decode.ensures.value ∙ ap (is_consistent (with_width a.ready.vault.valid.stripe a.range.cols) a.ready.marks.now) e) ∙ c.if-not-decode.false))

pub returns-clause-part_after : goal.returns-clause-part_after
returns-clause-part_after g c z =
    let a = c.args in
    let e = columns_alone a.ready.vault.valid.stripe a.range _ _ c.requires.part_len c.load.ensures.part_after in
    c.decode.ensures.part_after ∙ ap (left_of (with_width a.ready.vault.valid.stripe a.range.cols) a.ready.marks.now) e
    ∙ range_blocks a.ready.vault.valid.stripe a.ready.marks.now _ a.range c.requires.inside
    (sym (c.decode.ensures.value ∙ ap (is_consistent (with_width a.ready.vault.valid.stripe a.range.cols) a.ready.marks.now) e) ∙ c.if-not-decode.false)

pub returns-then-not-decode-clause-value : goal.returns-then-not-decode-clause-value
returns-then-not-decode-clause-value g c =
    let a = c.args in
    let found = tested_once c.args.range.from c.load.ensures.first c.load.ensures.later c.requires.all_in_field in
    let e = columns_alone a.ready.vault.valid.stripe a.range _ _ c.requires.part_len c.load.ensures.part_after in
    sym (number_nine _ _ (sym found ∙ c.if-not-load.false)
    (sym (c.decode.ensures.value ∙ ap (is_consistent (with_width a.ready.vault.valid.stripe a.range.cols) a.ready.marks.now) e) ∙ c.if-not-decode.true))

pub returns-then-not-decode-clause-part_after_9 : goal.returns-then-not-decode-clause-part_after_9
returns-then-not-decode-clause-part_after_9 g c _ =
    let a = c.args in
    let st = a.ready.vault.valid.stripe in
    c.decode.ensures.part_after
    ∙ leaves_zeros (modulus_of st) (root_in st) st.k st.level st.first a.range.cols a.ready.marks.now _ (sym c.decode.ensures.value ∙ c.if-not-decode.true)
