-- What all stripes of two readings come to, each laid from the one that it is taken from, is what recovery of the two gives. Assumes nothing.
use Rattle.std.proofs.Common.{◌≡◌, refl, ap, ap₂, List, ℕ}
use Rattle.layout.specs.declared.Header.{Header}
use Rattle.layout.specs.Header.{raw_size}
use Rattle.range_laying.specs.declared.Content.TheVariants.{Records}
use Rattle.stripe_decoding.specs.steps.Laying.{laid_size}
use Rattle.recovery.specs.Recovery.{Recovered, recover}
use Rattle.recovery.specs.RecoveryCall.{recovered_words}
use Rattle.recovery.specs.steps.Laying.{stripes_laid}
use Rattle.two_readings.specs.declared.pair.TwoReadings.{TwoReadings}
use Rattle.two_readings.specs.Choosing.{chosen, decoding_of_two}
use Rattle.two_readings.specs.steps.Pairs.{IsReading}

-- the stripes of a header, two images and two erasure lists
abbrev laid : Header → (image erasures image' erasures' : List ℕ) → Recovered
laid h m e m' e' = stripes_laid h Records (λ (l : ℕ). chosen h e e' l m m') (λ (l : ℕ). chosen h e e' l e e')

same : (g h : Header) (a b c d m e m' e' : List ℕ) → g ≡ h → a ≡ m → b ≡ e → c ≡ m' → d ≡ e' → laid g a b c d ≡ recover h (decoding_of_two h m e m' e')
same g h a b c d m e m' e' p q r s t = rw (p, q, r, s, t) refl

module _ (r : TwoReadings) {h : Header} {m e m' e' : List ℕ} (p : IsReading h m e r.first) (q : IsReading h m' e' r.second) where
  abbrev all_laid : Recovered
  all_laid = laid r.first.header.header r.first.image.now r.first.erasures.now r.second.image.now r.second.erasures.now

  pub laid_is : all_laid ≡ recover h (decoding_of_two h m e m' e')
  laid_is = same _ _ _ _ _ _ _ _ _ _ p.header p.image p.erasures q.image q.erasures

  pub words_are : recovered_words all_laid (laid_size r.first.header.header Records) ≡ recovered_words (recover h (decoding_of_two h m e m' e')) (raw_size h)
  words_are = ap₂ recovered_words laid_is (ap raw_size p.header)
