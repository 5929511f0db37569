-- WHAT RECOVERY FROM TWO READINGS LEAVES, by the call's number: of the room Leaving of specs/promises, by the laws of recovery of one image. Assumes nothing.
use mathlib.Core.Bool.{◌&&◌}
use mathlib.Core.Logic.{inl, inr}
use mathlib.Core.List.{List}
use Prim.Native.Nat.{ℕ}
use native.Mathlib.Omega.{arith}
use Rattle.layout.specs.declared.Header.{Header}
use Rattle.layout.specs.Header.{header_fits, raw_size}
use Rattle.layout.specs.Refusals.{done}
use Rattle.image.specs.Erasures.{erasures_fit}
use Rattle.recovery.specs.Recovery.{records}
use Rattle.two_readings.specs.Agreeing.{readings_agree}
use Rattle.two_readings.specs.Choosing.{decoding_of_two}
use Rattle.two_readings.specs.RecoverTwoCall.{recover_two_early}
use Rattle.two_readings.proofs.TwoRefusals.{buffers_long}
use Rattle.vault.specs.promises.Leaving.{TwoRefused, TwoFailed, TwoTaken}
use Rattle.vault.proofs.ImageNumbers.{rows_fail}
use Rattle.vault.proofs.LeavingLayers.{Called, call_refused, call_failed, call_taken, records_sized}
use Rattle.vault.proofs.LeavingStripes.{OfTests, low_other, of_none, of_test}

-- THE CALL
module _ (h : Header) (m e m' e' out scratch : List ℕ) where
  tested : OfTests (recover_two_early h m e m' e' out scratch)
  tested =
      of_test OfTests (header_fits h) 1 _ (λ f. omega arith) (of_test OfTests _ 2 _ (λ f. omega arith)
      (of_test OfTests (erasures_fit h e && erasures_fit h e') 3 _ (λ f. omega arith)
      (of_test OfTests (readings_agree h m e m' e') 13 done (λ f. omega arith) (of_none OfTests (λ f. omega arith)))))

  two_called : Called h (decoding_of_two h m e m' e') (records h) (recover_two_early h m e m' e' out scratch) (raw_size h) out scratch
  two_called = record {
    tested = tested;
    fails_so = λ l. rows_fail _ _ _;
    long = buffers_long h m e m' e' out scratch;
    sized = records_sized h (decoding_of_two h m e m' e');
  }

pub two_refused : TwoRefused
two_refused h m e m' e' out scratch (inl (a, b)) = call_refused (two_called h m e m' e' out scratch) a (low_other b)
two_refused h m e m' e' out scratch (inr q) = call_refused (two_called h m e m' e' out scratch) (omega arith) (λ f. omega arith)

pub two_failed : TwoFailed
two_failed h m e m' e' out scratch a b = call_failed (two_called h m e m' e' out scratch) (a, b)

pub two_taken : TwoTaken
two_taken h m e m' e' out scratch t = call_taken (two_called h m e m' e' out scratch) t
