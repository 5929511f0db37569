-- `taking_back::finding::find` meets its contract, by the laws of proofs/FindingBack. Assumes nothing.
use mathlib.Core.Path.{◌≡◌, refl, ap, ap₂, ◌∙◌, subst}
use mathlib.Core.List.{List}
use Prim.Native.Nat.{ℕ, zero, suc, ◌+◌, ◌*◌, ◌-◌, ◌^◌, ◌≤◌, ◌<◌}
use native.Mathlib.Omega.{arith}
use lib.ListN.{get_or}
use lib.Pow.{pow_pos}
use Rattle.layout.specs.declared.Header.{Header}
use Rattle.layout.specs.Header.{width, out_size}
use Rattle.layout.proofs.Bounds.{fits}
use Rattle.std.specs.Prelude.{Option}
use Rattle.judging.specs.Decoding.{Decoded, block_number}
use Rattle.splitting.specs.Splitting.{lowest_of}
use Rattle.stripe_decoding.proofs.DecodedWords.{blocks_inside}
use Rattle.taking_back.specs.TakingBack.{last_of, last_block}
use Rattle.taking_back.proofs.HeldStripes.{Laid, decoding, held_laid, held_code}
use Rattle.taking_back.proofs.FindingBack.{last_told, laid_number, number_low, back_failed, found_here, found_on, on_found}
use Rattle.taking_back.proofs.finding.find.Goals.{After-two_to-last}
use Rattle.taking_back.proofs.finding.find.Goals as goal

-- the last of some rows
last_ends : (m w : ℕ) → 0 < m → (m - 1) * w + w ≡ m * w
last_ends zero w b = absurd (omega arith)
last_ends (suc m) w b = let e : suc m - 1 ≡ m = omega arith in rw e (omega arith)

-- the last block of level l, as the code has it
last_inside : (h : Header) {l w n : ℕ} → w ≡ width h → n ≡ 2 ^ l → l < h.k → (n - 1) * w + w ≤ out_size h
last_inside h {l} {w} {n} ew en b = rw (last_ends n w (rw en (pow_pos l))) (rw (en, ew) (blocks_inside h l (omega arith)))

-- ONCE THE LOWEST FILLED LEVEL IS DECODED: the output begins with its blocks, and the word that is read is the number of the last one
module _ (c : After-two_to-last) where
  abbrev h : Header
  h = c.args.held.header.header

  abbrev d : ℕ → Decoded
  d = decoding c.args.held

  abbrev l : ℕ
  l = c.args.level

  abbrev out : List ℕ
  out = c.decode.new.out

  is : l ≡ lowest_of h
  is = c.requires.level_is.0

  ends : (c.two_to-last.result - 1) * c.width-width.result + c.width-width.result ≤ out_size h
  ends = last_inside h c.width-width.ensures c.two_to-last.ensures c.requires.level_is.1

  level_laid : Laid (2 ^ l * width h) (d l) out
  level_laid = let e = c.in_ok-decode.ensures in held_laid c.args.held l e.value refl c.args.out.now (e.out_after refl)

  laid_low : Laid (2 ^ lowest_of h * width h) (d (lowest_of h)) out
  laid_low = subst (λ (n : ℕ). Laid (2 ^ n * width h) (d n) out) is level_laid

  size : c.two_to-last.result ≡ 2 ^ lowest_of h
  size = c.two_to-last.ensures ∙ ap (λ (n : ℕ). 2 ^ n) is

  abbrev read : ℕ
  read = get_or out ((c.two_to-last.result - 1) * c.width-width.result) 0

  number_is : read ≡ block_number (width h) out (last_block h)
  number_is = ap₂ (λ (m v : ℕ). get_or out ((m - 1) * v) 0) size c.width-width.ensures

  told : {x : Option ℕ} → x ≡ last_of c.width-width.result out read (c.two_to-last.result - 1) → x ≡ last_of (width h) out read (last_block h)
  told = last_told out read c.width-width.ensures (ap (λ (m : ℕ). m - 1) size)

pub overflow_mul-record : goal.overflow_mul-record
overflow_mul-record c = omega (arith, ends c, (fits c.args.held.header.header c.args.held.header.fits).out_low)

pub offset_bounds-out-last : goal.offset_bounds-out-last
offset_bounds-out-last c = omega (arith, ends c, (fits c.args.held.header.header c.args.held.header.fits).out_low)

pub bounds-out-last : goal.bounds-out-last
bounds-out-last c =
    omega (arith, ends (goal.at.bounds-out-last c).After-two_to-last, c.width-width.ensures, c.decode.auto.out, c.requires.lengths.0)

pub last_of-requires : goal.last_of-requires
last_of-requires c = (
  rw c.width-width.ensures (omega arith),
  omega (arith, ends (goal.at.last_of-requires c).After-two_to-last, c.decode.auto.out, c.requires.lengths.0),
)

pub returns-in-Some : goal.returns-in-Some
returns-in-Some c =
    let a = (goal.at.returns-in-Some c).After-two_to-last in
    record { value = found_here (h a) (d a) (laid_low a) (number_is a) (omega (arith, is a, c.requires.level_is.1)) (told a c.in-Some.ensures) }

pub find_from-requires-clause-bounds : goal.find_from-requires-clause-bounds
find_from-requires-clause-bounds c =
    let a = (goal.at.find_from-requires-clause-bounds c).After-two_to-last in
    let held = c.args.held in
    let L = level_laid a in
    let C = held_code (h a) held.full.now held.log.now (l a) held.sized (omega (arith, c.requires.level_is.1)) held.header.fits L.laid L.is in
    let j = 2 ^ l a - 1 in
    let b : j < 2 ^ l a = omega (arith, pow_pos (l a)) in (
      omega (arith, c.requires.level_is.1),
      rw (c.two_to-last.ensures, c.width-width.ensures, laid_number (width (h a)) (2 ^ l a) L (omega arith) j b)
          (number_low (h a) (l a) L.laid c.requires.level_is.1 C.records j b),
    )

pub returns-in_err-block : goal.returns-in_err-block
returns-in_err-block c =
    let a = (goal.at.returns-in_err-block c).After-two_to-last in
    record {
      value = back_failed (h a) (d a) c.find_from.new.out _ c.from_residual-in_err-block.result c.from_residual-in_err-block.ensures.1
          (found_on (h a) (d a) (laid_low a) (number_is a) (told a c.in_default.ensures) (is a) c.in_err-block.ensures.value);
    }

pub returns : goal.returns
returns c =
    let a = (goal.at.returns c).After-two_to-last in
    let e = c.in_ok-block.ensures in
    record { value = on_found (h a) (d a) (laid_low a) (number_is a) (told a c.in_default.ensures) (is a) e.value e.inside }
