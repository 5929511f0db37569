-- RECOVERY OF ANY IMAGE, both ways round, as decoding has it: whatever history an image is of, or none. Signs and letters: Demands. Assumes nothing.
use Rattle.std.specs.Prelude.{◌≡◌, true, false, ◌↔◌, List, ℕ, suc, ◌+◌, ◌*◌, ◌/◌, ◌^◌, ◌<◌, get_or}
use Rattle.layout.specs.declared.Header.{Header}
use Rattle.recovery.specs.RecoveryCall.{recover_answer, recover_leaves, unnamed, at_fault}
use Rattle.explanation.specs.ExplainCall.{explain_answer, explain_origins}
use Rattle.image.specs.Erasures.{erasures_in}
use Rattle.judging.specs.Decoding.{Decoded, failed, decoded}
use Rattle.stripe_decoding.specs.Decoding.{decode_stripe}
use Rattle.vault.specs.promises.Losses.{Needed}
use Rattle.vault.specs.promises.Table.{NoRow}
use Rattle.vault.specs.promises.Numbers.{RecoverRows, ExplainRows}

-- WHAT AN ANSWER SAYS that names no stripe, and one that names stripe l
abbrev pub AnswersSay : Type 0
AnswersSay =
    (n l : ℕ) →
    ((unnamed n).number ≡ n) × ((unnamed n).named ≡ false) ×
    ((at_fault n l).number ≡ n) × ((at_fault n l).named ≡ true) × ((at_fault n l).stripe ≡ l)

-- WHAT EACH STRIPE DECODES TO is `d` here. In one image it is `in_image`; what two readings give is in the room TwoReadings
abbrev pub in_image : Header → (image erasures : List ℕ) → (stripe : ℕ) → Decoded
in_image h m e l = decode_stripe h m (erasures_in e) l

-- STRIPE l IS THE FIRST AT FAULT, in the order of decoding, k and then the levels down, and n is its number: it is needed and fails with n, and each needed one
-- before it decodes
pub record FirstFails (h : Header) (d : ℕ → Decoded) (n l : ℕ) : Type 0 where
  pub needed : Needed h l
  pub fails : d l ≡ failed n
  pub before : (l' : ℕ) → Needed h l' → l < l' → (bs : List ℕ) × (d l' ≡ decoded bs)

abbrev pub AllDecode : Header → (d : ℕ → Decoded) → Type 0
AllDecode h d = (l : ℕ) → Needed h l → (bs : List ℕ) × (d l ≡ decoded bs)

-- WHERE NO NUMBER FROM 1 TO 3 APPLIES, `recover` names stripe l with the number n if and only if it is the first at fault, and n its number; and it gives 0 and
-- names none if and only if all needed stripes decode
abbrev pub StopsIff : Type 0
StopsIff =
    (h : Header) (m e out scratch : List ℕ) (n l : ℕ) → NoRow (RecoverRows h m e out scratch) →
    (recover_answer h m e out scratch ≡ at_fault n l) ↔ FirstFails h (in_image h m e) n l

abbrev pub TakenIff : Type 0
TakenIff =
    (h : Header) (m e out scratch : List ℕ) → NoRow (RecoverRows h m e out scratch) →
    (recover_answer h m e out scratch ≡ unnamed 0) ↔ AllDecode h (in_image h m e)

-- and so does `explain`
abbrev pub ExplainStopsIff : Type 0
ExplainStopsIff =
    (h : Header) (m e counts origins scratch : List ℕ) (n l : ℕ) → NoRow (ExplainRows h m e counts origins scratch) →
    (explain_answer h m e counts origins scratch ≡ at_fault n l) ↔ FirstFails h (in_image h m e) n l

abbrev pub ExplainTakenIff : Type 0
ExplainTakenIff =
    (h : Header) (m e counts origins scratch : List ℕ) → NoRow (ExplainRows h m e counts origins scratch) →
    (explain_answer h m e counts origins scratch ≡ unnamed 0) ↔ AllDecode h (in_image h m e)

-- WHAT IS RECOVERED. Block j of stripe l is the last one for record i in the order of laying: none behind it in its stripe has that number, and none of a
-- needed stripe below
pub record LastBlock (h : Header) (d : ℕ → Decoded) (i l : ℕ) (bs : List ℕ) (j : ℕ) : Type 0 where
  pub needed : Needed h l
  pub decodes : d l ≡ decoded bs
  pub among : j < 2 ^ l
  pub number : get_or bs (j * suc h.s) 0 ≡ i
  pub last : (j' : ℕ) → j < j' → j' < 2 ^ l → get_or bs (j' * suc h.s) 0 ≡ i → ⊥
  pub lowest : (l' j' : ℕ) (cs : List ℕ) → Needed h l' → l' < l → d l' ≡ decoded cs → j' < 2 ^ l' → get_or cs (j' * suc h.s) 0 ≡ i → ⊥

-- where recovery is taken, each record has one
abbrev pub EachHasLast : Type 0
EachHasLast =
    (h : Header) (m e out scratch : List ℕ) (i : ℕ) → recover_answer h m e out scratch ≡ unnamed 0 → i < 2 ^ h.k →
    (l : ℕ) × (j : ℕ) × (bs : List ℕ) × LastBlock h (in_image h m e) i l bs j

-- record i is its data, and its origin is its stripe with its write, for the full stripe 0
abbrev pub RecoverHolds : Type 0
RecoverHolds =
    (h : Header) (m e out scratch : List ℕ) (i l j q : ℕ) (bs : List ℕ) → recover_answer h m e out scratch ≡ unnamed 0 →
    LastBlock h (in_image h m e) i l bs j → q < h.s →
    get_or (recover_leaves h m e out scratch) (i * h.s + q) 0 ≡ get_or bs (j * suc h.s + suc q) 0

abbrev pub ExplainHolds : Type 0
ExplainHolds =
    (h : Header) (m e counts origins scratch : List ℕ) (i l j : ℕ) (bs : List ℕ) → explain_answer h m e counts origins scratch ≡ unnamed 0 →
    LastBlock h (in_image h m e) i l bs j →
    let xs = explain_origins h m e counts origins scratch in
    (get_or xs (2 * i) 0 ≡ l) ×
    (l < h.k → get_or xs (2 * i + 1) 0 ≡ h.c / 2 ^ suc l * 2 ^ suc l + j) × (l ≡ h.k → get_or xs (2 * i + 1) 0 ≡ 0)

-- ALL OF THIS ROOM
pub record Recovering : Type 0 where
  pub answers_say : AnswersSay
  pub stops_iff : StopsIff
  pub taken_iff : TakenIff
  pub explain_stops_iff : ExplainStopsIff
  pub explain_taken_iff : ExplainTakenIff
  pub each_has_last : EachHasLast
  pub recover_holds : RecoverHolds
  pub explain_holds : ExplainHolds
