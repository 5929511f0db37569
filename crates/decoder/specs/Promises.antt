-- What is promised of coding and decoding, for any prime p and root w of order 2n, of a stripe by its numbers, and of the table of powers. Each promise is a
-- type, and all of them are the fields of `Promises`, whose proof is `proved` of proofs/Proved. Assumes nothing.
use Rattle.std.specs.Prelude.{◌≡◌, Bool, true, false, List, ℕ, suc, ◌+◌, ◌*◌, ◌-◌, ◌/◌, ◌%◌, ◌^◌, ◌≤◌, ◌<◌, length, get_or}
use Rattle.field.specs.Residue.{times}
use Rattle.field.specs.Power.{power, inverse}
use Rattle.field.specs.Polynomial.{horner}
use Rattle.field.specs.Field.{Prime, Root, fermat, root_of, power_table}
use Rattle.code.specs.Transform.{transform, untransform, scaled, reversed, bit_reversed}
use Rattle.code.specs.declared.Stripe.{Stripe}
use Rattle.code.specs.Stripe.{coded, coded_rows, Numbers, modulus_of, position_count, block_words, stripe_words, coded_stripe}
use Rattle.decoder.specs.Decoding.{survivors, point_at, decoded_column, consistent_column, consistent, decoded_rows, is_consistent, blocks_in}
use Rattle.code.specs.Rows.{Column}

-- THE PARAMETERS of a stripe's code: a prime with a root of order 2n, a level up to k, and a t0 that a level or the full stripe (t0 = 0) can have
pub record Parameters (p w k level first : ℕ) : Type 0 where
  pub prime : Prime p
  pub root : Root p k w
  pub within : level ≤ k
  pub aligned : first % 2 ^ level ≡ 0

-- at least half of the positions survive
abbrev pub Enough : (level : ℕ) → (marks : List Bool) → Type 0
Enough l ms = 2 ^ l ≤ length (survivors l ms)

-- two columns of n positions have the same words at the surviving ones; rows of `width` words likewise
pub record Agrees (marks : List Bool) (n : ℕ) (a b : List ℕ) : Type 0 where
  pub same : (i : ℕ) → i < n → get_or marks i false ≡ false → get_or a i 0 ≡ get_or b i 0

pub record AgreesRows (marks : List Bool) (n width : ℕ) (a b : List ℕ) : Type 0 where
  pub same : (i j : ℕ) → i < n → j < width → get_or marks i false ≡ false → get_or a (i * width + j) 0 ≡ get_or b (i * width + j) 0

-- VALUES: position i of X, and of Y, is the value of one polynomial at a point of its own (Y's times w^rev(t0)). Its coefficient rev(j) is word j
abbrev pub ValuesX : Type 0
ValuesX =
    (p w k l t : ℕ) (xs : List ℕ) (i : ℕ) → Parameters p w k l t → Column p (2 ^ l) xs → i < 2 ^ l →
    get_or (coded p w k l t xs) i 0 ≡ horner p (bit_reversed l xs) (point_at p w k l i)

abbrev pub ValuesY : Type 0
ValuesY =
    (p w k l t : ℕ) (xs : List ℕ) (i : ℕ) → Parameters p w k l t → Column p (2 ^ l) xs → i < 2 ^ l →
    get_or (coded p w k l t xs) (2 ^ l + i) 0 ≡
    times p (power p w (reversed k t)) (horner p (bit_reversed l xs) (point_at p w k l (2 ^ l + i)))

-- POINTS: the 2M points are distinct
abbrev pub PointsDistinct : Type 0
PointsDistinct =
    (p w k l t i j : ℕ) → Parameters p w k l t → i < j → j < 2 ^ suc l → point_at p w k l i ≡ point_at p w k l j → ⊥

-- INVERSE: what is transformed comes back, either way round, but for the factor 2 ^ level, which has an inverse
abbrev pub Untransforms : Type 0
Untransforms =
    (p w k l t : ℕ) (xs : List ℕ) → Parameters p w k l t → Column p (2 ^ l) xs →
    untransform p (inverse p w) k l (transform p w k l xs) ≡ scaled p (2 ^ l) xs

abbrev pub Transforms : Type 0
Transforms =
    (p w k l t : ℕ) (xs : List ℕ) → Parameters p w k l t → Column p (2 ^ l) xs →
    transform p w k l (untransform p (inverse p w) k l xs) ≡ scaled p (2 ^ l) xs

abbrev pub Unscales : Type 0
Unscales =
    (p w k l t : ℕ) (xs : List ℕ) → Parameters p w k l t → Column p (2 ^ l) xs → scaled p (inverse p (2 ^ l % p)) (scaled p (2 ^ l) xs) ≡ xs

-- ANY HALF FIXES THE BLOCKS: two columns that code to the same words at half of the positions are equal
abbrev pub HalfFixes : Type 0
HalfFixes =
    (p w k l t : ℕ) (ms : List Bool) (xs ys : List ℕ) → Parameters p w k l t → Enough l ms → Column p (2 ^ l) xs → Column p (2 ^ l) ys →
    Agrees ms (2 ^ suc l) (coded p w k l t xs) (coded p w k l t ys) → xs ≡ ys

-- DECODING, both ways round: the column found is the one that codes to all surviving words, if there is one
abbrev pub FindsColumn : Type 0
FindsColumn =
    (p w k l t : ℕ) (ms : List Bool) (c xs : List ℕ) → Parameters p w k l t → Enough l ms → Column p (2 ^ l) xs → Agrees ms (2 ^ suc l) (coded p w k l t xs) c →
    (consistent_column p w k l t ms c ≡ true) × (decoded_column p w k l t ms c ≡ xs)

abbrev pub FoundColumn : Type 0
FoundColumn =
    (p w k l t : ℕ) (ms : List Bool) (c : List ℕ) → Parameters p w k l t → Enough l ms → Column p (2 ^ suc l) c → consistent_column p w k l t ms c ≡ true →
    Column p (2 ^ l) (decoded_column p w k l t ms c) × Agrees ms (2 ^ suc l) (coded p w k l t (decoded_column p w k l t ms c)) c

-- and so the blocks, rows of any width
abbrev pub FindsBlocks : Type 0
FindsBlocks =
    (p w k l t width : ℕ) (ms : List Bool) (rows bs : List ℕ) → Parameters p w k l t → Enough l ms → Column p (2 ^ l * width) bs
    → length rows ≡ 2 ^ suc l * width →
    AgreesRows ms (2 ^ suc l) width (coded_rows p w k l t width bs) rows →
    (consistent p w k l t width ms rows ≡ true) × (decoded_rows p w k l t width ms rows ≡ bs)

abbrev pub FoundBlocks : Type 0
FoundBlocks =
    (p w k l t width : ℕ) (ms : List Bool) (rows : List ℕ) → Parameters p w k l t → Enough l ms → Column p (2 ^ suc l * width) rows →
    consistent p w k l t width ms rows ≡ true →
    Column p (2 ^ l * width) (decoded_rows p w k l t width ms rows) ×
    AgreesRows ms (2 ^ suc l) width (coded_rows p w k l t width (decoded_rows p w k l t width ms rows)) rows

-- and so the blocks of a stripe by its numbers, with the words of `decoder::decoding::decode`
abbrev pub FindsStripe : Type 0
FindsStripe =
    (st : Stripe) (ms : List Bool) (rows bs : List ℕ) → Numbers st → Enough st.level ms → Column (modulus_of st) (block_words st) bs
    → length rows ≡ stripe_words st →
    AgreesRows ms (position_count st) st.width (coded_stripe st bs) rows →
    (is_consistent st ms rows ≡ true) × (blocks_in st ms rows ≡ bs)

abbrev pub FoundStripe : Type 0
FoundStripe =
    (st : Stripe) (ms : List Bool) (rows : List ℕ) → Numbers st → Enough st.level ms → Column (modulus_of st) (stripe_words st) rows →
    is_consistent st ms rows ≡ true →
    Column (modulus_of st) (block_words st) (blocks_in st ms rows) × AgreesRows ms (position_count st) st.width (coded_stripe st (blocks_in st ms rows)) rows

-- THE TABLE OF POWERS (docs/FORMAT.md, section 2): entry i is (3^32)^i modulo 65537, for all 2,048 entries together
abbrev pub TableRule : Type 0
TableRule =
    (length power_table ≡ 2048) × ((i : ℕ) → i < 2048 → get_or power_table i 0 ≡ power fermat.modulus (power fermat.modulus fermat.generator 32) i)

-- THE ROOT of every k is entry 1024 / n, n = 2 ^ k; its powers, and those of its inverse, are entries too
abbrev pub RootInTable : Type 0
RootInTable = (k : ℕ) → k ≤ 10 → get_or power_table (1024 / 2 ^ k) 0 ≡ root_of fermat k

abbrev pub PowersInTable : Type 0
PowersInTable =
    (k j : ℕ) → k ≤ 10 → j < 2 ^ suc k → get_or power_table (j * (1024 / 2 ^ k)) 0 ≡ power fermat.modulus (root_of fermat k) j

abbrev pub InversesInTable : Type 0
InversesInTable =
    (k j : ℕ) → k ≤ 10 → 0 < j → j < 2 ^ suc k →
    get_or power_table (2048 - j * (1024 / 2 ^ k)) 0 ≡ power fermat.modulus (inverse fermat.modulus (root_of fermat k)) j

-- THE FACTORS: v ^ i of mixing 2 ^ l rows with 2 ^ l rows, where `transform` has v = w^(n/2^l), and of unmixing them; w^rev(t) of turning write t
abbrev pub MixingInTable : Type 0
MixingInTable =
    (k l i : ℕ) → l ≤ k → k ≤ 10 → i < 2 ^ l →
    get_or power_table (i * (1024 / 2 ^ l)) 0 ≡ power fermat.modulus (power fermat.modulus (root_of fermat k) (2 ^ k / 2 ^ l)) i

abbrev pub UnmixingInTable : Type 0
UnmixingInTable =
    (k l i : ℕ) → l ≤ k → k ≤ 10 → 0 < i → i < 2 ^ l →
    get_or power_table (2048 - i * (1024 / 2 ^ l)) 0 ≡
    power fermat.modulus (power fermat.modulus (inverse fermat.modulus (root_of fermat k)) (2 ^ k / 2 ^ l)) i

abbrev pub TurningInTable : Type 0
TurningInTable = (k t : ℕ) → k ≤ 10 → t < 2 ^ k → get_or power_table (reversed 10 t) 0 ≡ power fermat.modulus (root_of fermat k) (reversed k t)

-- THE POINTS of the positions of X, and of Y
abbrev pub PointsInTable : Type 0
PointsInTable =
    (k l i : ℕ) → l ≤ k → k ≤ 10 → i < 2 ^ l →
    (get_or power_table (2 * i * (1024 / 2 ^ l)) 0 ≡ point_at fermat.modulus (root_of fermat k) k l i) ×
    (get_or power_table (suc (2 * i) * (1024 / 2 ^ l)) 0 ≡ point_at fermat.modulus (root_of fermat k) k l (2 ^ l + i))

-- ALL OF THEM
pub record Promises : Type 0 where
  pub values_x : ValuesX
  pub values_y : ValuesY
  pub distinct_points : PointsDistinct
  pub untransforms_back : Untransforms
  pub transforms_back : Transforms
  pub unscales_back : Unscales
  pub half_fixes : HalfFixes
  pub finds_column : FindsColumn
  pub found_column : FoundColumn
  pub finds_blocks : FindsBlocks
  pub found_blocks : FoundBlocks
  pub finds_stripe : FindsStripe
  pub found_stripe : FoundStripe
  pub table_rule : TableRule
  pub root_in_table : RootInTable
  pub powers_in_table : PowersInTable
  pub inverses_in_table : InversesInTable
  pub mixing_in_table : MixingInTable
  pub unmixing_in_table : UnmixingInTable
  pub turning_in_table : TurningInTable
  pub points_in_table : PointsInTable
