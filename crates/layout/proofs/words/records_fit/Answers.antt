-- `layout::words::records_fit` meets its contract. Assumes nothing.
use Rattle.std.proofs.Common.{rules, refl, ◌≡◌, ◌+◌, ◌-◌, ◌*◌, ℕ, List, true, false, take, drop, sym, ap, ◌∙◌, arith}
use Rattle.std.proofs.lemmas.Iterator.{cases_from_all, YieldsList-from_range}
use borrow.Author.Tests.{tests}
use Rattle.layout.specs.Records.{record_fits, record_in}
use Rattle.layout.proofs.RecordWords.{fit_told, fit_all}
use Rattle.layout.proofs.words.records_fit.Goals as goal

-- what is lent, and that it is record i
abbrev lent : (s : ℕ) → (r : List ℕ) → (i : ℕ) → List ℕ
lent s r i = take (i * s + s - i * s) (drop (i * s) r)

lent_is : (s : ℕ) (r : List ℕ) (i : ℕ) → record_fits (lent s r i) ≡ record_fits (record_in s r i)
lent_is s r i = let q : i * s + s - i * s ≡ s = omega arith in ap (λ (n : ℕ). record_fits (take n (drop (i * s) r))) q

pub returns-then-all_data : goal.returns-then-all_data
returns-then-all_data c = c.if-all_data.true ∙ sym (fit_all c.args.s c.args.raw.now c.args.n (sym c.all_data.ensures ∙ c.if-all_data.true))

pub returns-else-all_data : goal.returns-else-all_data
returns-else-all_data c =
    let s = c.args.s in
    let r = c.args.raw.now in
    fit_told s r c.args.n (lent_is s r)
    (cases_from_all _ _ _ (λ i. record_fits (lent s r i) ≡ true) (λ i. record_fits (lent s r i) ≡ false) c.all.ensures.ran
    (YieldsList-from_range 0 c.args.n c.args.n refl (omega arith)) (λ i q k. search (rules, tests)) (λ i q k. search (rules, tests)))
