-- What every rack of a listing is: k and s are those of the input, and its words are of the field; and how long every listing is. Assumes nothing.
use mathlib.Core.Path.{◌≡◌, refl, sym, ◌∙◌, subst}
use mathlib.Core.Bool.{Bool, true, false, not}
use mathlib.Core.Logic.{⊎_elim}
use mathlib.Core.List.{List, [], ◌∷◌}
use Prim.Native.Nat.{ℕ, ◌+◌, ◌≤◌, ◌<◌}
use native.Mathlib.Omega.{arith}
use lib.Dec.{lit<, eqb}
use lib.ListN.{length}
use lib.Pow.{pow_mono}
use Rattle.field.specs.Words.{Words}
use Rattle.field.proofs.Booleans.{either}
use Rattle.field.proofs.WordLists.{words_append, words_drop, words_replicate}
use Rattle.code.proofs.CodedRows.{words_coded_rows}
use Rattle.layout.specs.declared.Header.{Header}
use Rattle.layout.specs.Header.{header_of, prime_of, vault_root, record_count, width, log_size, level_at, stripe_size, level_for}
use Rattle.layout.specs.Records.{is_blank, replaced}
use Rattle.layout.specs.Refusals.{Tests, done, test, refusal}
use Rattle.layout.proofs.Refusals.{if_taken_lem}
use Rattle.layout.proofs.RecordWords.{data_words, field_words}
use Rattle.store.specs.Buffers.{Buffers, buffers, opened, full_stripe}
use Rattle.store.specs.Writing as Writing
use Rattle.store.specs.Writing.{half_at, new_row, rebuilt_half, log_with, last_of_round}
use Rattle.store.specs.StoreCalls.{write_number, write_leaves}
use Rattle.store.proofs.RebuiltLog.{words_rebuilt}
use Rattle.store.proofs.StoredRecords.{words_blocks}
use Rattle.store.proofs.WriteRefusals.{block_in_field, write_taken}
use Rattle.listing.specs.Listing.{Rack, Filled, stopped, filled, write_all, zero_rack, text_of, listing, fill}
use Rattle.listing.specs.Promises.{RoomEnough}
use Rattle.listing.proofs.Writes.{taken_same}
use Rattle.listing.proofs.Opening.{InRange}
use Rattle.listing.proofs.Inputs.{range_test, told}
use Rattle.listing.proofs.Outcomes.{Ends, Keeps, Stops, ends_all}
use Rattle.listing.proofs.Room.{rack_room, refused_room}

-- THE WORDS that opening and writing make
words_full : (h : Header) (r : List ℕ) → h.k ≤ 10 → Words 65537 (full_stripe h r)
words_full h r b =
    let p : record_count h ≤ 1024 = pow_mono {i = h.k} {j = 10} b in
    words_coded_rows (prime_of h) (vault_root h) h.k h.k 0 (width h) (lit< tt) (words_blocks 65537 h.s (lit< tt) r 0 (record_count h) (omega (arith, p)))

words_log : (h : Header) (g : List ℕ) {b : List ℕ} (l : ℕ) → Words 65537 g → Words 65537 b → Words 65537 (log_with h g b l)
words_log h g {b} l v u =
    let z : 0 < 65537 = lit< tt in
    words_append 65537 z (words_replicate 65537 z (level_at h l) 0 z)
    (words_append 65537 z (words_rebuilt h g l u) (words_drop 65537 z (level_at h l + stripe_size h l) v))

abbrev SoundWords : Buffers → Type 0
SoundWords u = Words 65537 u.full × Words 65537 u.log

either_sound : (t : Bool) (x y : Buffers) → SoundWords x → SoundWords y → SoundWords (elim t [ true ↦ x | false ↦ y ])
either_sound true x y p q = p
either_sound false x y p q = q

-- A SOUND RACK
record Sound (k s : ℕ) (r : Rack) : Type 0 where
  pub k_is : r.header.k ≡ k
  pub s_is : r.header.s ≡ s
  pub full_words : Words 65537 r.held.full
  pub log_words : Words 65537 r.held.log

abbrev Low : ℕ → Type 0
Low n = n < 100

refusal_low : (b : Bool) (n : ℕ) (ts : Tests) → n < 100 → refusal ts < 100 → refusal (test b n ts) < 100
unfolding refusal
refusal_low true n ts a b = b
refusal_low false n ts a b = a

none_low : refusal done < 100
unfolding refusal
none_low = omega arith

stops : (k s : ℕ) → Stops (Sound k s) Low
stops k s r i b =
    refusal_low _ 1 _ (omega arith) (refusal_low _ 2 _ (omega arith) (refusal_low _ 4 _ (omega arith) (refusal_low _ 5 _ (omega arith)
    (refusal_low _ 11 _ (omega arith) none_low))))

module _ (k s : ℕ) (small : k ≤ 10) where
  written_sound : (h : Header) (u : Buffers) (i : ℕ) (b : List ℕ) → h.k ≡ k → SoundWords u → Words 65537 (i ∷ b) → SoundWords (Writing.written h u i b)
  written_sound h u i b e v w =
      let z : 0 < 65537 = lit< tt in
      either_sound (last_of_round h) (opened h (replaced h.s u.raw i b)) (buffers (replaced h.s u.raw i b) u.full (log_with h u.log (i ∷ b) (level_for h)))
      (words_full h _ (omega arith), words_replicate 65537 z (log_size h) 0 z) (v.0, words_log h u.log (level_for h) v.1 w)

  keeps : Keeps (Sound k s) Low
  keeps r i b p z =
      let h = r.header in
      let same = taken_same h (eqb (write_number h r.held i b) 0) refl in
      let told = write_taken h r.held.raw r.held.full r.held.log i b (test (not (is_blank b)) 11 done) z in
      let block : Words 65537 (i ∷ b) = block_in_field h told.fitting i told.within (field_words (data_words b told.words)) in
      let made = written_sound h r.held i b p.k_is (p.full_words, p.log_words) block in
      let left : SoundWords (write_leaves h r.held i b) = subst SoundWords (sym (if_taken_lem (Writing.written h r.held i b) r.held z)) made in
      record { k_is = same.0 ∙ p.k_is; s_is = same.1 ∙ p.s_is; full_words = left.0; log_words = left.1 }

  zero_sound : Sound k s (zero_rack k s)
  zero_sound =
      let z : 0 < 65537 = lit< tt in
      record {
        k_is = refl;
        s_is = refl;
        full_words = words_full (header_of k s 0) _ small;
        log_words = words_replicate 65537 z (log_size (header_of k s 0)) 0 z;
      }

-- THE LISTING of what writes come to
text_room : (k s : ℕ) → InRange k s → (x : Filled) → Ends (Sound k s) Low x → length (text_of x) ≤ 13482
text_room k s r (stopped n) e = refused_room n e
text_room k s r (filled a) e = rack_room a.header a.held.full a.held.log (omega (arith, r.1, e.k_is)) (omega (arith, r.3, e.s_is)) e.full_words e.log_words

module _ (k s : ℕ) (bs : List ℕ) where
  taken : range_test k s ≡ true → length (listing (k ∷ s ∷ bs)) ≤ 13482
  taken e =
      let r = told k s e in
      let small : k ≤ 10 = omega (arith, r.1) in
      let sound = ends_all (Sound k s) Low (keeps k s small) (stops k s) (omega arith) 256 (zero_rack k s) bs (zero_sound k s small) in
      rw (e, fill) (text_room k s r (write_all 256 (zero_rack k s) bs) sound)

  refused : range_test k s ≡ false → length (listing (k ∷ s ∷ bs)) ≤ 13482
  refused e = rw (e, fill) (refused_room 1 (omega arith))

pub room_enough : RoomEnough
room_enough [] = refused_room 2 (omega arith)
room_enough (k ∷ []) = refused_room 2 (omega arith)
room_enough (k ∷ s ∷ bs) = ⊎_elim (λ e. taken k s bs e) (λ e. refused k s bs e) (either (range_test k s))
