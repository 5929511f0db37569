-- What the stripes of an image come to where they are laid one over the other. Assumes nothing: these are definitions.
use Rattle.std.specs.Prelude.{true, false, List, ◌++◌, ℕ, zero, suc, length, drop}
use Rattle.layout.specs.declared.Header.{Header}
use Rattle.layout.specs.Header.{has_stripe, stripe_of}
use Rattle.image.specs.Erasures.{erasures_in}
use Rattle.judging.specs.Decoding.{Decoded}
use Rattle.range_laying.specs.declared.Content.{Content}
use Rattle.range_laying.specs.declared.Content.TheVariants.{Blocks, Records, Origins}
use Rattle.range_laying.specs.steps.Blocks.{lay_blocks}
use Rattle.stripe_decoding.specs.Decoding.{decode_stripe}
use Rattle.recovery.specs.Recovery.{Layer, Recovered, recovered, then_lay, stripes_over, records}
use Rattle.recovery.specs.Origins.{origins}

-- THE LAYER of what is laid
abbrev pub layer_of : Content → Header → Layer
layer_of Blocks h = record { full = λ (bs : List ℕ). bs; over = λ (l : ℕ) (bs o : List ℕ). bs ++ drop (length bs) o }
layer_of Records h = records h
layer_of Origins h = origins h

-- READINGS: by the image and the erasure list from which each stripe is taken, what it decodes to, and what all of them come to
abbrev pub decoding : Header → (image erasures : (stripe : ℕ) → List ℕ) → (stripe : ℕ) → Decoded
decoding h m e l = decode_stripe h (m l) (erasures_in (e l)) l

abbrev pub stripes_laid : Header → Content → (image erasures : (stripe : ℕ) → List ℕ) → Recovered
stripes_laid h c m e = stripes_over h (decoding h m e) (layer_of c h)

-- THE LOOP from the full stripe down: what the stripes below n come to over some words, each by its own numbers
unfoldable pub stripes_from : (n : ℕ) → Header → Content → (decoding : ℕ → Decoded) → (words : List ℕ) → Recovered
stripes_from zero h c d o = recovered o
stripes_from (suc l) h c d o =
    elim (has_stripe h l) [
      | true ↦ then_lay l (d l) (λ (bs : List ℕ). stripes_from l h c d (lay_blocks c (stripe_of h l) bs o))
      | false ↦ stripes_from l h c d o
    ]
