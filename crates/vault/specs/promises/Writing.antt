-- A WRITE THAT IS TAKEN, or a strike, on any header and any buffers, those that no opening made too. Signs and letters: Demands. Assumes nothing.
use Rattle.std.specs.Prelude.{◌≡◌, ◌⊎◌, List, ◌∷◌, ℕ, suc, ◌+◌, ◌*◌, ◌-◌, ◌/◌, ◌%◌, ◌^◌, ◌≤◌, ◌<◌, length, get_or, replicate}
use Rattle.layout.specs.declared.Header.{Header}
use Rattle.store.specs.Buffers.{full_stripe}
use Rattle.vault.specs.Event.{Event}
use Rattle.vault.specs.History.{Vault, number_on, step}
use Rattle.vault.specs.promises.Histories.{Puts}

-- the raw copy has the block's words in the place of record i, and its other words
abbrev pub WritePuts : Type 0
WritePuts =
    (v : Vault) (next : Event) (i : ℕ) (b : List ℕ) → Puts v.header.s next i b → number_on v next ≡ 0 →
    let before = v.held.raw in
    let after = (step v next).held.raw in
    (length after ≡ length before) × ((j : ℕ) → j < v.header.s → get_or after (i * v.header.s + j) 0 ≡ get_or b j 0) ×
    ((q : ℕ) → (q < i * v.header.s) ⊎ (suc i * v.header.s ≤ q) → get_or after q 0 ≡ get_or before q 0)

-- the header keeps k and s, and c grows by 1, and at n it is 0
abbrev pub WriteCounts : Type 0
WriteCounts =
    (v : Vault) (next : Event) (i : ℕ) (b : List ℕ) → Puts v.header.s next i b → number_on v next ≡ 0 →
    let before = v.header in
    let after = (step v next).header in
    (after.k ≡ before.k) × (after.s ≡ before.s) ×
    (suc before.c < 2 ^ before.k → after.c ≡ suc before.c) × (suc before.c ≡ 2 ^ before.k → after.c ≡ 0)

-- THE FIRST EMPTY LEVEL is the one that is rebuilt. The full stripe stays, the levels below become zeros, and those above stay
pub record FirstEmpty (h : Header) (l : ℕ) : Type 0 where
  pub level : l < h.k
  pub empty : h.c / 2 ^ l % 2 ≡ 0
  pub filled : (l' : ℕ) → l' < l → h.c / 2 ^ l' % 2 ≡ 1

abbrev pub WriteKeeps : Type 0
WriteKeeps =
    (v : Vault) (next : Event) (i l : ℕ) (b : List ℕ) → Puts v.header.s next i b → number_on v next ≡ 0 →
    suc v.header.c < 2 ^ v.header.k → FirstEmpty v.header l →
    let before = v.held.log in
    let after = (step v next).held.log in
    let row = suc v.header.s in
    ((step v next).held.full ≡ v.held.full) × (length after ≡ length before) ×
    ((q : ℕ) → q < (2 ^ suc l - 2) * row → get_or after q 0 ≡ 0) ×
    ((q : ℕ) → (2 ^ suc (suc l) - 2) * row ≤ q → get_or after q 0 ≡ get_or before q 0)

-- THE WORDS THAT A WRITE READS are those of the levels below, and they count modulo 65537: on logs whose words there are equal modulo 65537 the rebuilt level
-- is the same, and its words are 0 to 65536
abbrev pub WriteReduces : Type 0
WriteReduces =
    (v v' : Vault) (next : Event) (i l q : ℕ) (b : List ℕ) → Puts v.header.s next i b → number_on v next ≡ 0 → number_on v' next ≡ 0 →
    suc v.header.c < 2 ^ v.header.k → FirstEmpty v.header l → v.header ≡ v'.header →
    ((q' : ℕ) → q' < (2 ^ suc l - 2) * suc v.header.s → get_or v.held.log q' 0 % 65537 ≡ get_or v'.held.log q' 0 % 65537) →
    (2 ^ suc l - 2) * suc v.header.s ≤ q → q < (2 ^ suc (suc l) - 2) * suc v.header.s →
    (get_or (step v next).held.log q 0 ≡ get_or (step v' next).held.log q 0) × (get_or (step v next).held.log q 0 ≤ 65536)

-- THE REBUILT LEVEL, column by column, each half alone: X (`half` 0) and Y (`half` 1). `words l' q` is word q of the 2^l' that the new block and the levels
-- below l' make. They begin with the block's word, in Y times w^r, where r is c with its k bits reversed: bit number `bit` of r is bit k - 1 - `bit` of c. Then
-- the same half of level l', its words modulo 65537, is the older one that is mixed with them. With v = w^(n / 2^l'), which is 3^(32768 / 2^l'), word q of the
-- next ones is a + v^q b, and word q + 2^l' is a - v^q b: with v^q b added it is a
pub record RebuiltColumn (h : Header) (log : List ℕ) (l j half word : ℕ) (words : (l' q : ℕ) → ℕ) : Type 0 where
  pub begins_x : half ≡ 0 → words 0 0 ≡ word
  pub begins_y : half ≡ 1 → (r : ℕ) → r < 2 ^ h.k → ((bit : ℕ) → bit < h.k → r / 2 ^ bit % 2 ≡ h.c / 2 ^ (h.k - suc bit) % 2) →
      words 0 0 ≡ 3 ^ (32768 / 2 ^ h.k * r) * word % 65537
  pub mixes : (l' q : ℕ) → l' < l → q < 2 ^ l' →
      let a = get_or log ((2 ^ suc l' - 2 + half * 2 ^ l' + q) * suc h.s + j) 0 % 65537 in
      let b = words l' q in
      let difference = words (suc l') (2 ^ l' + q) in
      (words (suc l') q ≡ (a + 3 ^ (32768 / 2 ^ l' * q) * b) % 65537) ×
      (difference < 65537) × ((difference + 3 ^ (32768 / 2 ^ l' * q) * b) % 65537 ≡ a)

-- and the 2^l words that come of all levels below l are that half of level l
abbrev pub WriteRebuilds : Type 0
WriteRebuilds =
    (v : Vault) (next : Event) (i l j half : ℕ) (b : List ℕ) → Puts v.header.s next i b → number_on v next ≡ 0 →
    suc v.header.c < 2 ^ v.header.k → FirstEmpty v.header l → j < suc v.header.s → half < 2 →
    (words : (l' q : ℕ) → ℕ) × RebuiltColumn v.header v.held.log l j half (get_or (i ∷ b) j 0) words ×
    ((q : ℕ) → q < 2 ^ l → get_or (step v next).held.log ((2 ^ suc l - 2 + half * 2 ^ l + q) * suc v.header.s + j) 0 ≡ words l q)

-- THE n-TH WRITE of a round codes the full stripe anew from the raw copy, as it is then, and the log is zeros
abbrev pub WriteEnds : Type 0
WriteEnds =
    (v : Vault) (next : Event) (i : ℕ) (b : List ℕ) → Puts v.header.s next i b → number_on v next ≡ 0 → suc v.header.c ≡ 2 ^ v.header.k →
    let after = (step v next).held in
    (after.full ≡ full_stripe v.header after.raw) × (after.log ≡ replicate ((2 * 2 ^ v.header.k - 2) * suc v.header.s) 0)

-- ALL OF THIS ROOM
pub record Writing : Type 0 where
  pub write_puts : WritePuts
  pub write_counts : WriteCounts
  pub write_keeps : WriteKeeps
  pub write_reduces : WriteReduces
  pub write_rebuilds : WriteRebuilds
  pub write_ends : WriteEnds
