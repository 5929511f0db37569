-- A WRITE THAT IS TAKEN, or a strike, on any header and any buffers: what it makes of the raw copy, of the header, of the full stripe and of the log. The room
-- Writing of specs/promises. Assumes nothing.
use mathlib.Core.Path.{◌≡◌, refl, sym, ap, ap₂, ◌∙◌, subst, subst₂}
use mathlib.Core.Bool.{Bool, true, false, not}
use mathlib.Core.Logic.{◌⊎◌, inl, inr}
use mathlib.Core.List.{List, ◌∷◌, ◌++◌}
use Prim.Native.Nat.{ℕ, suc, ◌+◌, ◌*◌, ◌-◌, ◌^◌, ◌≤◌, ◌<◌}
use native.Mathlib.Nat.{pow-succ'}
use native.Mathlib.Omega.{arith}
use borrow.Author.Tests.{eq-eqb, ne_eqb}
use lib.ListN.{length, get_or, take, drop, replicate, length-replicate}
use lib.Seq.{length-sets, get_or-take, get_or-drop}
use Rattle.field.specs.Words.{Words}
use Rattle.field.proofs.Booleans.{if_else, if_else_true, if_else_false}
use Rattle.field.proofs.WordLists.{take_sets, drop_sets}
use Rattle.layout.specs.declared.Header.{Header}
use Rattle.layout.specs.Header.{record_count, width, header_fits, raw_size, log_size, level_at, stripe_size, level_for}
use Rattle.layout.specs.Records.{is_blank, struck_data, replaced}
use Rattle.layout.specs.Refusals.{Tests, done, test, refusal}
use Rattle.layout.proofs.Refusals.{if_taken_lem}
use Rattle.layout.proofs.RecordWords.{data_fits, struck_fits, record_words, record_same, record_end, word_of_record}
use Rattle.store.specs.Buffers.{full_stripe, Buffers, buffers, opened}
use Rattle.store.specs.Writing.{rebuilt, log_with, last_of_round, next_header, written}
use Rattle.store.specs.StoreCalls.{write_tests, numbered, leaving}
use Rattle.store.proofs.RebuiltLog.{words_rebuilt}
use Rattle.store.proofs.WriteRefusals.{block_in_field, write_taken, strike_taken}
use Rattle.vault.specs.Event.{Event, write, earlier, strike}
use Rattle.vault.specs.History.{Vault, vault, number_on, step}
use Rattle.vault.specs.promises.Histories.{Puts}
use Rattle.vault.specs.promises.Writing.{WritePuts, WriteCounts, FirstEmpty, WriteKeeps, WriteReduces, WriteEnds}
use Rattle.vault.proofs.Levels.{level_end, level_in}
use Rattle.vault.proofs.WrittenLog.{level_is, parts_long, low, middle, above, length_rebuilt, reduced_by, rebuilt_same}

-- WHAT A TAKEN EVENT FINDS AND LEAVES: a write or an earlier write of block b to record i, or a strike of it, where b is what that puts there
pub record Stepped (v : Vault) (next : Event) (i : ℕ) (b : List ℕ) : Type 0 where
  pub fitting : header_fits v.header ≡ true
  raw_long : length v.held.raw ≡ raw_size v.header
  log_long : length v.held.log ≡ log_size v.header
  within : i < record_count v.header
  block_long : length b ≡ v.header.s
  words : Words 65537 b
  is : step v next ≡ vault (next_header v.header) (written v.header v.held i b)

-- what it leaves, by its number n
left_by : (v : Vault) (i : ℕ) (b : List ℕ) {n : ℕ} → n ≡ 0
    → vault (numbered n v.header).header (leaving n v.header v.held i b) ≡ vault (next_header v.header) (written v.header v.held i b)
left_by v i b e = ap₂ vault (if_taken_lem (next_header v.header) v.header e) (if_taken_lem (written v.header v.held i b) v.held e)

-- a write, whatever is tested after 5
stepped_write : (v : Vault) (next : Event) (i : ℕ) (b : List ℕ) (more : Tests) → refusal (write_tests v.header v.held i b more) ≡ 0
    → step v next ≡ vault (next_header v.header) (written v.header v.held i b) → Stepped v next i b
stepped_write v next i b more e is =
    let t = write_taken v.header v.held.raw v.held.full v.held.log i b more e in
    record {
      fitting = t.fitting;
      raw_long = t.raw_long;
      log_long = t.log_long;
      within = t.within;
      block_long = t.block_long;
      words = record_words b (data_fits b t.words);
      is = is;
    }

stepped_strike : (v : Vault) (i : ℕ) → number_on v (strike i) ≡ 0 → Stepped v (strike i) i (struck_data v.header.s)
stepped_strike v i e =
    let s = v.header.s in
    let t = strike_taken v.header v.held.raw v.held.full v.held.log i e in
    record {
      fitting = t.fitting;
      raw_long = t.raw_long;
      log_long = t.log_long;
      within = t.within;
      block_long = length-replicate s 65536;
      words = record_words (struck_data s) (struck_fits s);
      is = left_by v i (struck_data s) e;
    }

pub stepped : (v : Vault) (next : Event) (i : ℕ) (b : List ℕ) → Puts v.header.s next i b → number_on v next ≡ 0 → Stepped v next i b
stepped v next i b (inl p) =
    subst (λ (x : Event). number_on v x ≡ 0 → Stepped v x i b) (sym p)
    (λ e. stepped_write v (write i b) i b (test (not (is_blank b)) 11 done) e (left_by v i b e))
stepped v next i b (inr (inl p)) =
    subst (λ (x : Event). number_on v x ≡ 0 → Stepped v x i b) (sym p) (λ e. stepped_write v (earlier i b) i b done e (left_by v i b e))
stepped v next i b (inr (inr p)) =
    subst₂ (λ (x : Event) (c : List ℕ). number_on v x ≡ 0 → Stepped v x i c) (sym p.0) (sym p.1) (stepped_strike v i)

-- a block that is taken, with its number before it, has words of the field
words_put : (v : Vault) (next : Event) (i : ℕ) (b : List ℕ) → Stepped v next i b → Words 65537 (i ∷ b)
words_put v next i b t = block_in_field v.header t.fitting i t.within t.words

-- THE RAW COPY
raw_written : (h : Header) (u : Buffers) (i : ℕ) (b : List ℕ) → (written h u i b).raw ≡ replaced h.s u.raw i b
raw_written h u i b = go (last_of_round h)
  where
    go : (z : Bool) → (if_else z (opened h (replaced h.s u.raw i b)) (buffers (replaced h.s u.raw i b) u.full (log_with h u.log (i ∷ b) (level_for h)))).raw
        ≡ replaced h.s u.raw i b
    go true = refl
    go false = refl

-- lists that are the same before n, and from n on
same_before : (n : ℕ) (a b : List ℕ) → take n a ≡ take n b → (q : ℕ) → q < n → get_or a q 0 ≡ get_or b q 0
same_before n a b e q d = sym (get_or-take n a q 0 d) ∙ ap (λ (x : List ℕ). get_or x q 0) e ∙ get_or-take n b q 0 d

same_from : (n : ℕ) (a b : List ℕ) → drop n a ≡ drop n b → (q : ℕ) → n ≤ q → get_or a q 0 ≡ get_or b q 0
same_from n a b e q d =
    let s : n + (q - n) ≡ q = omega arith in
    rw s at (sym (get_or-drop n a (q - n) 0) ∙ ap (λ (x : List ℕ). get_or x (q - n) 0) e ∙ get_or-drop n b (q - n) 0)

module _ (s : ℕ) (r : List ℕ) (i : ℕ) (b : List ℕ) (long : length b ≡ s) where
  pub word_put : i * s + s ≤ length r → (j : ℕ) → j < s → get_or (replaced s r i b) (i * s + j) 0 ≡ get_or b j 0
  word_put h j d =
      sym (word_of_record s (replaced s r i b) i j d) ∙ ap (λ (x : List ℕ). get_or x j 0) (record_same s r i b long h)

  pub word_kept : (q : ℕ) → (q < i * s) ⊎ (suc i * s ≤ q) → get_or (replaced s r i b) q 0 ≡ get_or r q 0
  word_kept q (inl d) = same_before (i * s) (replaced s r i b) r (take_sets (i * s) r (i * s) b (omega arith)) q d
  word_kept q (inr d) = same_from (suc i * s) (replaced s r i b) r (drop_sets (suc i * s) r (i * s) b (omega arith)) q d

pub write_puts : WritePuts
write_puts v next i b p e =
    let h = v.header in
    let t = stepped v next i b p e in
    let raw : (step v next).held.raw ≡ replaced h.s v.held.raw i b = ap (λ (x : Vault). x.held.raw) t.is ∙ raw_written h v.held i b in
    let inside : i * h.s + h.s ≤ length v.held.raw = omega (arith, t.raw_long, record_end (2 ^ h.k) h.s i t.within) in (
      ap length raw ∙ length-sets v.held.raw (i * h.s) b,
      λ j d. ap (λ (x : List ℕ). get_or x (i * h.s + j) 0) raw ∙ word_put h.s v.held.raw i b t.block_long inside j d,
      λ q d. ap (λ (x : List ℕ). get_or x q 0) raw ∙ word_kept h.s v.held.raw i b t.block_long q d,
    )

-- THE HEADER
pub write_counts : WriteCounts
write_counts v next i b p e =
    let h = v.header in
    let is : (step v next).header ≡ next_header h = ap (λ (x : Vault). x.header) (stepped v next i b p e).is in (
      ap (λ (x : Header). x.k) is,
      ap (λ (x : Header). x.s) is,
      λ z. ap (λ (x : Header). x.c) is ∙ if_else_false (last_of_round h) 0 (suc h.c) (ne_eqb (suc h.c) (2 ^ h.k) (λ q. omega arith)),
      λ q. ap (λ (x : Header). x.c) is ∙ if_else_true (last_of_round h) 0 (suc h.c) (eq-eqb (suc h.c) (2 ^ h.k) q),
    )

-- WITHIN A ROUND: what the step holds
pub record Within (v : Vault) (next : Event) (i l : ℕ) (b : List ℕ) : Type 0 where
  full_is : (step v next).held.full ≡ v.held.full
  log_is : (step v next).held.log ≡ log_with v.header v.held.log (i ∷ b) l
  pub block_long : length (i ∷ b) ≡ width v.header
  pub fits : level_at v.header l + stripe_size v.header l ≤ length v.held.log

pub within : (v : Vault) (next : Event) (i l : ℕ) (b : List ℕ) → Stepped v next i b → suc v.header.c < 2 ^ v.header.k → FirstEmpty v.header l
    → Within v next i l b
within v next i l b t z f =
    let h = v.header in
    let u = v.held in
    let raw = replaced h.s u.raw i b in
    let held : (step v next).held ≡ buffers raw u.full (log_with h u.log (i ∷ b) l) =
    ap (λ (x : Vault). x.held) t.is
    ∙ if_else_false (last_of_round h) (opened h raw) (buffers raw u.full (log_with h u.log (i ∷ b) (level_for h)))
    (ne_eqb (suc h.c) (2 ^ h.k) (λ q. omega arith))
    ∙ ap (λ (m : ℕ). buffers raw u.full (log_with h u.log (i ∷ b) m)) (level_is h l z f) in
    record {
      full_is = ap (λ (x : Buffers). x.full) held;
      log_is = ap (λ (x : Buffers). x.log) held;
      block_long = ap suc t.block_long;
      fits = rw t.log_long (level_in h l h.k f.level);
    }

pub write_keeps : WriteKeeps
write_keeps v next i l b p e z f =
    let h = v.header in
    let g = v.held.log in
    let d = i ∷ b in
    let w = within v next i l b (stepped v next i b p e) z f in
    let r = rebuilt h g d l in
    let zeros : List ℕ = replicate (level_at h l) 0 in
    let front : length zeros ≡ level_at h l = length-replicate (level_at h l) 0 in
    let long : length r ≡ stripe_size h l = length_rebuilt h g d w.block_long l in (
      w.full_is,
      ap length w.log_is ∙ parts_long zeros r g front long w.fits,
      λ q a. ap (λ (x : List ℕ). get_or x q 0) w.log_is ∙ low (level_at h l) (r ++ drop (level_at h l + stripe_size h l) g) q a,
      λ q a. ap (λ (x : List ℕ). get_or x q 0) w.log_is ∙ above zeros r g front long w.fits q (rw (← level_end) a),
    )

-- a word of the rebuilt level
pub word_rebuilt : (v : Vault) (next : Event) (i l : ℕ) (b : List ℕ) → Within v next i l b → (q : ℕ) → level_at v.header l ≤ q → q < level_at v.header (suc l)
    → get_or (step v next).held.log q 0 ≡ get_or (rebuilt v.header v.held.log (i ∷ b) l) (q - level_at v.header l) 0
word_rebuilt v next i l b w q a z =
    let h = v.header in
    let g = v.held.log in
    let d = i ∷ b in
    ap (λ (x : List ℕ). get_or x q 0) w.log_is
    ∙ middle (replicate (level_at h l) 0) (rebuilt h g d l) g (length-replicate (level_at h l) 0)
    (length_rebuilt h g d w.block_long l) w.fits q a (rw (← level_end) z)

pub write_reduces : WriteReduces
write_reduces v v' next i l q b p e e' n f same words a z =
    let h = v.header in
    let d = i ∷ b in
    let t = stepped v next i b p e in
    let t' = stepped v' next i b (subst (λ (x : Header). Puts x.s next i b) same p) e' in
    let w = within v next i l b t n f in
    let n' : suc v'.header.c < 2 ^ v'.header.k = subst (λ (x : Header). suc x.c < 2 ^ x.k) same n in
    let w' = within v' next i l b t' n' (subst (λ (x : Header). FirstEmpty x l) same f) in
    let g : length v.held.log ≡ length v'.held.log = t.log_long ∙ ap (λ (x : Header). level_at x x.k) same ∙ sym t'.log_long in
    let below = reduced_by 65537 (level_at h l) v.held.log v'.held.log g words in
    let word = word_rebuilt v next i l b w q a z in
    let small : get_or (rebuilt h v.held.log d l) (q - level_at h l) 0 < 65537 =
    (words_rebuilt h v.held.log l (words_put v next i b t)).word (q - level_at h l) in (
      word
          ∙ ap (λ (x : List ℕ). get_or x (q - level_at h l) 0) (rebuilt_same h v.held.log v'.held.log d l below)
          ∙ ap (λ (x : Header). get_or (rebuilt x v'.held.log d l) (q - level_at x l) 0) same
          ∙ sym (word_rebuilt v' next i l b w' q (subst (λ (x : Header). level_at x l ≤ q) same a) (subst (λ (x : Header). q < level_at x (suc l)) same z)),
      rw word (omega arith),
    )

-- THE LAST WRITE OF A ROUND
pub write_ends : WriteEnds
write_ends v next i b p e q =
    let h = v.header in
    let u = v.held in
    let raw = replaced h.s u.raw i b in
    let held : (step v next).held ≡ opened h raw =
    ap (λ (x : Vault). x.held) (stepped v next i b p e).is
    ∙ if_else_true (last_of_round h) (opened h raw) (buffers raw u.full (log_with h u.log (i ∷ b) (level_for h))) (eq-eqb (suc h.c) (2 ^ h.k) q) in (
      ap (λ (x : Buffers). x.full) held ∙ ap (full_stripe h) (sym (ap (λ (x : Buffers). x.raw) held)),
      ap (λ (x : Buffers). x.log) held ∙ ap (λ (n : ℕ). replicate ((n - 2) * suc h.s) 0) (pow-succ' 2 h.k),
    )
