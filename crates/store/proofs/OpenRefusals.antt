-- What the tests of an opening that is taken tell. Assumes nothing.
use mathlib.Core.Path.{◌≡◌}
use mathlib.Core.Bool.{true}
use mathlib.Core.List.{List}
use Prim.Native.Nat.{ℕ}
use native.Mathlib.Omega.{arith}
use lib.ListN.{length}
use Rattle.field.specs.Words.{Words}
use Rattle.layout.specs.declared.Header.{Header}
use Rattle.layout.specs.Header.{header_of, record_count, header_fits, raw_size, full_size, log_size}
use Rattle.layout.specs.Records.{records_fit}
use Rattle.layout.specs.Refusals.{Tests, done, test}
use Rattle.layout.proofs.Refusals.{passes}
use Rattle.layout.proofs.RecordWords.{records_words}
use Rattle.store.specs.Buffers.{buffers}
use Rattle.store.specs.StoreCalls.{buffers_fit, open_number}
use Rattle.store.proofs.BufferRefusals.{lengths}

module _ (k s : ℕ) (r f g : List ℕ) where
  abbrev header : Header
  header = header_of k s 0

  pub record OpenTaken : Type 0 where
    pub fitting : header_fits header ≡ true
    pub raw_long : length r ≡ raw_size header
    pub full_long : length f ≡ full_size header
    pub log_long : length g ≡ log_size header
    pub records : records_fit s r (record_count header) ≡ true

  pub open_taken : open_number k s r f g ≡ 0 → OpenTaken
  open_taken e =
      let last : Tests = test (records_fit s r (record_count header)) 5 done in
      let sized = buffers_fit header (buffers r f g) in
      let one = passes (header_fits header) 1 (test sized 2 last) e (omega arith) in
      let two = passes sized 2 last one.1 (omega arith) in
      let t = lengths header (buffers r f g) two.0 in
      record {
        fitting = one.0;
        raw_long = t.0;
        full_long = t.1;
        log_long = t.2;
        records = (passes (records_fit s r (record_count header)) 5 done two.1
            (omega arith)).0;
      }

  -- and so all words are words of the field
  pub open_words : open_number k s r f g ≡ 0 → Words 65537 r
  open_words e = let t = open_taken e in records_words s r (record_count header) t.raw_long t.records
