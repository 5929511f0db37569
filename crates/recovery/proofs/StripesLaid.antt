-- The stripes laid from the full one down: what is left to lay before each of them, and that all of them come to the layers of specs/Recovery. Assumes nothing.
use mathlib.Core.Path.{◌≡◌, refl, sym, ap, ◌∙◌}
use mathlib.Core.Bool.{Bool, true, false}
use mathlib.Core.List.{List, append-nil}
use Prim.Native.Nat.{ℕ, zero, suc, ◌≤◌, ◌<◌}
use native.Mathlib.Omega.{arith}
use borrow.Author.Tests.{eq-eqb, ne_eqb, lt-ltb}
use lib.ListN.{length, drop_of_length-le}
use Rattle.code.specs.Stripe.{block_words}
use Rattle.layout.specs.declared.Header.{Header}
use Rattle.layout.specs.Header.{is_filled, has_stripe, stripe_of}
use Rattle.judging.specs.Decoding.{Decoded, failed, decoded, decoded_number}
use Rattle.judging.proofs.StripeNumbers.{failed_is}
use Rattle.range_laying.specs.declared.Content.{Content}
use Rattle.range_laying.specs.declared.Content.TheVariants.{Blocks, Records, Origins}
use Rattle.range_laying.specs.steps.Blocks.{lay_blocks, laid_from}
use Rattle.stripe_decoding.specs.steps.Laying.{laid_size}
use Rattle.stripe_decoding.proofs.DecodedWords.{Comes, fails, gives}
use Rattle.recovery.specs.Recovery.{Recovered, stopped, recovered, then_lay, levels_over, stripes_over}
use Rattle.recovery.specs.steps.Laying.{layer_of, stripes_from}

-- THE WORDS OF THE BLOCKS that a stripe decoded to
blocks_long : {n : ℕ} {d : Decoded} {bs : List ℕ} → Comes n d → d ≡ decoded bs → length bs ≡ n
blocks_long {n} {d} {bs} (fails x u q) e = absurd (none (sym q ∙ e))
  where
    none : failed x ≡ decoded bs → ⊥
    none z = cc
blocks_long {n} {d} {bs} (gives cs q l) e = ap (λ (y : List ℕ). length y) (same (sym e ∙ q)) ∙ l
  where
    same : decoded bs ≡ decoded cs → bs ≡ cs
    same z = cc

-- WHAT FOLLOWS a stripe matters only where it gives blocks
then_same : (l : ℕ) (x : Decoded) (f g : List ℕ → Recovered) → ((bs : List ℕ) → x ≡ decoded bs → f bs ≡ g bs) → then_lay l x f ≡ then_lay l x g
then_same l (failed n) f g e = refl
then_same l (decoded bs) f g e = e bs refl

then_laid : {n : ℕ} {x : Decoded} → Comes n x → {r : ℕ} → r ≡ decoded_number x → r ≡ 0 → (f : List ℕ → List ℕ → List ℕ) (l : ℕ) (o : List ℕ)
    → (next : List ℕ → Recovered) → then_lay l x (λ (bs : List ℕ). next (f bs o)) ≡ next (laid_from f x o)
then_laid (fails y u p) q z f l o next = absurd (u (sym (ap decoded_number p) ∙ sym q ∙ z))
then_laid (gives bs p n) q z f l o next = rw p

-- WHAT A STRIPE LAYS by its numbers is what its layer says: a level's, and the full stripe's, whose words do not depend on those before it
module _ (h : Header) (bs o : List ℕ) where
  over_is : (c : Content) (l : ℕ) → l < h.k → lay_blocks c (stripe_of h l) bs o ≡ (layer_of c h).over l bs o
  over_is Blocks l b = refl
  over_is Records l b = rw (ne_eqb l h.k (λ e. omega arith), lay_blocks)
  over_is Origins l b = rw (ne_eqb l h.k (λ e. omega arith), lay_blocks)

  full_is : (c : Content) → length o ≡ laid_size h c → length bs ≡ block_words (stripe_of h h.k)
      → lay_blocks c (stripe_of h h.k) bs o ≡ (layer_of c h).full bs
  full_is Blocks e b = rw (drop_of_length-le o {i = length bs} (omega (arith, e, b)), append-nil)
  full_is Records e b = rw (eq-eqb h.k h.k refl, lay_blocks)
  full_is Origins e b = rw (eq-eqb h.k h.k refl, lay_blocks)

-- THE STRIPES of a header: the full one, and the filled levels
has_full : (h : Header) → has_stripe h h.k ≡ true
has_full h = rw (eq-eqb h.k h.k refl, has_stripe)

has_level : (h : Header) (l : ℕ) → l < h.k → has_stripe h l ≡ is_filled h l
has_level h l b = rw (ne_eqb l h.k (λ e. omega arith), lt-ltb l h.k b, has_stripe)

module _ (h : Header) (c : Content) (d : ℕ → Decoded) where
  module _ (l : ℕ) (o : List ℕ) where
    abbrev lay : List ℕ → List ℕ → List ℕ
    lay = lay_blocks c (stripe_of h l)

    -- one stripe more
    none_there : has_stripe h l ≡ false → stripes_from (suc l) h c d o ≡ stripes_from l h c d o
    unfolding stripes_from
    none_there e = rw (e, stripes_from)

    one_there : has_stripe h l ≡ true → stripes_from (suc l) h c d o ≡ then_lay l (d l) (λ (bs : List ℕ). stripes_from l h c d (lay bs o))
    unfolding stripes_from
    one_there e = rw (e, stripes_from)

    one_fails : {r : ℕ} → has_stripe h l ≡ true → r ≡ decoded_number (d l) → (r ≡ 0 → ⊥) → stripes_from (suc l) h c d o ≡ stopped r l
    one_fails e q f = one_there e ∙ ap (λ (x : Decoded). then_lay l x (λ (bs : List ℕ). stripes_from l h c d (lay bs o))) (failed_is (d l) q f)

    one_laid : {n r : ℕ} → has_stripe h l ≡ true → Comes n (d l) → r ≡ decoded_number (d l) → r ≡ 0
        → stripes_from (suc l) h c d o ≡ stripes_from l h c d (laid_from lay (d l) o)
    one_laid e u q z = one_there e ∙ then_laid u q z lay l o (stripes_from l h c d)

  -- all levels below l, and all stripes
  levels_are : (l : ℕ) (o : List ℕ) → l ≤ h.k → stripes_from l h c d o ≡ levels_over l h d (layer_of c h) o
  unfolding stripes_from levels_over
  levels_are zero o b = refl
  levels_are (suc l) o b = go (is_filled h l) refl (λ x. levels_are l x (omega arith))
    where
      go : (f : Bool) → is_filled h l ≡ f
          → ((x : List ℕ) → stripes_from l h c d x ≡ levels_over l h d (layer_of c h) x)
          → stripes_from (suc l) h c d o ≡ levels_over (suc l) h d (layer_of c h) o
      go true e rest =
          let y = layer_of c h in
          one_there l o (has_level h l b ∙ e)
          ∙ then_same l (d l) _ (λ (bs : List ℕ). levels_over l h d y (y.over l bs o))
          (λ bs _. ap (stripes_from l h c d) (over_is h bs o c l b) ∙ rest (y.over l bs o))
          ∙ rw (e, levels_over)
      go false e rest = none_there l o (has_level h l b ∙ e) ∙ rest o ∙ rw (e, levels_over)

  stripes_are : (o : List ℕ) → length o ≡ laid_size h c → Comes (block_words (stripe_of h h.k)) (d h.k)
      → stripes_from (suc h.k) h c d o ≡ stripes_over h d (layer_of c h)
  stripes_are o e u =
      let k = h.k in
      let y = layer_of c h in
      one_there k o (has_full h)
      ∙ then_same k (d k) _ (λ (bs : List ℕ). levels_over k h d y (y.full bs))
      (λ bs q. ap (stripes_from k h c d) (full_is h bs o c e (blocks_long u q)) ∙ levels_are k (y.full bs) (omega arith))

-- BEFORE A TURN: what the stripes below `left` come to over o is what all of them come to
pub record Left (h : Header) (c : Content) (d : ℕ → Decoded) (all : Recovered) (o : List ℕ) (left : ℕ) : Type 0 where
  pub within : left ≤ suc h.k
  pub rest : stripes_from left h c d o ≡ all

pub left_all : (h : Header) (c : Content) (d : ℕ → Decoded) {o : List ℕ} {n : ℕ} → n ≡ suc h.k → length o ≡ laid_size h c
    → Comes (block_words (stripe_of h h.k)) (d h.k) → Left h c d (stripes_over h d (layer_of c h)) o n
left_all h c d {o} {n} e q u = record { within = omega arith; rest = rw e (stripes_are h c d o q u) }

module _ {h : Header} {c : Content} {d : ℕ → Decoded} {all : Recovered} {o : List ℕ} {left l : ℕ} (L : Left h c d all o left) (b : left ≡ suc l) where
  next : stripes_from (suc l) h c d o ≡ all
  next = ap (λ (n : ℕ). stripes_from n h c d o) (sym b) ∙ L.rest

  pub left_skip : has_stripe h l ≡ false → Left h c d all o l
  left_skip e = record { within = omega (arith, L.within); rest = sym (none_there h c d l o e) ∙ next }

  module _ {n : ℕ} (e : has_stripe h l ≡ true) (q : n ≡ decoded_number (d l)) where
    pub left_lay : {m : ℕ} {o' : List ℕ} → Comes m (d l) → n ≡ 0 → o' ≡ laid_from (lay_blocks c (stripe_of h l)) (d l) o → Left h c d all o' l
    left_lay u z p = record { within = omega (arith, L.within); rest = ap (stripes_from l h c d) p ∙ sym (one_laid h c d l o e u q z) ∙ next }

    pub left_stop : (n ≡ 0 → ⊥) → all ≡ stopped n l
    left_stop f = sym next ∙ one_fails h c d l o e q f

pub left_none : {h : Header} {c : Content} {d : ℕ → Decoded} {all : Recovered} {o : List ℕ} {left : ℕ} → Left h c d all o left → left ≤ 0 → all ≡ recovered o
unfolding stripes_from
left_none {left} L b = let e : left ≡ 0 = omega arith in sym (rw e at L.rest)
