-- Laws of specs/Putting: one text put behind another, and a text of which a part is still to be put. Assumes nothing.
use mathlib.Core.Path.{◌≡◌, refl, sym, ap, ap₂, ◌∙◌}
use mathlib.Core.List.{List, [], ◌∷◌, ◌++◌, append_assoc}
use Prim.Native.Nat.{ℕ, zero, suc, ◌+◌, ◌-◌, ◌≤◌, min}
use native.Mathlib.Omega.{arith}
use borrow.Rule.Slice.PartMut.{put_mid}
use lib.ListN.{length, take, drop, length-append, length-drop, take-append-drop}
use lib.Seq.{take_at, length-take-le, take_all, take-append-add, drop-append-add}
use Rattle.print_lines.specs.Putting.{over, put, put_end}

-- AT THE FRONT: m of the text's bytes fit
over_none : (l : List ℕ) → over l [] ≡ l
over_none [] = refl
over_none (y ∷ l) = refl

over_empty : (t : List ℕ) → over [] t ≡ []
over_empty [] = refl
over_empty (x ∷ t) = refl

length_over : (l t : List ℕ) → length (over l t) ≡ length l
length_over [] [] = refl
length_over [] (x ∷ t) = refl
length_over (y ∷ l) [] = refl
length_over (y ∷ l) (x ∷ t) = ap suc (length_over l t)

over_append : (l t u : List ℕ) (m : ℕ) → m ≡ min (length t) (length l) → over l (t ++ u) ≡ take m (over l t) ++ over (drop m (over l t)) u
over_append l [] u zero e = ap (λ (r : List ℕ). over r u) (sym (over_none l))
over_append l [] u (suc m) e = absurd (omega arith)
over_append [] (x ∷ t) u zero e = sym (over_empty u)
over_append [] (x ∷ t) u (suc m) e = absurd (omega arith)
over_append (y ∷ l) (x ∷ t) u zero e = absurd (omega arith)
over_append (y ∷ l) (x ∷ t) u (suc m) e = ap (λ (r : List ℕ). x ∷ r) (over_append l t u m (omega arith))

-- that part of it, copied
over_copied : (l t : List ℕ) (m : ℕ) → m ≡ min (length t) (length l) → take m t ++ drop m l ≡ over l t
over_copied l [] zero e = sym (over_none l)
over_copied l [] (suc m) e = absurd (omega arith)
over_copied [] (x ∷ t) zero e = refl
over_copied [] (x ∷ t) (suc m) e = absurd (omega arith)
over_copied (y ∷ l) (x ∷ t) zero e = absurd (omega arith)
over_copied (y ∷ l) (x ∷ t) (suc m) e = ap (λ (r : List ℕ). x ∷ r) (over_copied l t m (omega arith))

pub front_end : (l t : List ℕ) → put_end l 0 t ≡ min (length t) (length l)
unfolding put_end
front_end l t = omega arith

pub front_put : (l t : List ℕ) → put l 0 t ≡ over l t
unfolding put
front_put l t = refl

-- FROM INDEX a ON
module _ (l : List ℕ) (a : ℕ) (inside : a ≤ length l) (t : List ℕ) where
  front : length (take a l) ≡ a
  front = length-take-le a l inside

  pub length_put : length (put l a t) ≡ length l
  unfolding put
  length_put = length-append (take a l) (over (drop a l) t) ∙ ap₂ ◌+◌ front (length_over (drop a l) t ∙ length-drop a l) ∙ omega arith

  pub put_inside : put_end l a t ≤ length l
  unfolding put_end
  put_inside = omega arith

  pub copied : (m k : ℕ) {s : List ℕ} → m ≡ min (length t) (length l - a) → k ≡ m → s ≡ take m t → put_mid a k l s ≡ put l a t
  unfolding put
  copied m k {s} e f g =
      ap₂ (λ (i : ℕ) (r : List ℕ). put_mid a i l r) f g
      ∙ ap (λ (r : List ℕ). take a l ++ r) (over_copied (drop a l) t m (e ∙ ap (λ (n : ℕ). min (length t) n) (sym (length-drop a l))))

  module _ (room : a + length t ≤ length l) where
    pub whole_end : put_end l a t ≡ a + length t
    unfolding put_end
    whole_end = omega arith

    pub whole_put : take (a + length t) (put l a t) ≡ take a l ++ t
    unfolding put
    whole_put =
        let d = drop a l in
        let long : length t ≤ length d = rw (length-drop a l) (omega arith) in
        ap (λ (r : List ℕ). take (a + length t) (take a l ++ (r ++ drop (length t) d))) (take_all (length d) t long)
        ∙ ap (take (a + length t)) (sym (append_assoc (take a l) t (drop (length t) d)))
        ∙ take_at (take a l ++ t) (drop (length t) d) (a + length t) (length-append (take a l) t ∙ ap (λ (n : ℕ). n + length t) front)

  module _ (u : List ℕ) where
    pub put_append : put l a (t ++ u) ≡ put (put l a t) (put_end l a t) u
    unfolding put put_end
    put_append =
        let o = over (drop a l) t in
        let m = min (length t) (length l - a) in
        let before : take (a + m) (take a l ++ o) ≡ take a l ++ take m o
        = ap (λ (n : ℕ). take (n + m) (take a l ++ o)) (sym front) ∙ take-append-add (take a l) o m in
        let behind : drop (a + m) (take a l ++ o) ≡ drop m o = ap (λ (n : ℕ). drop (n + m) (take a l ++ o)) (sym front) ∙ drop-append-add (take a l) o m in
        ap (λ (r : List ℕ). take a l ++ r) (over_append (drop a l) t u m (ap (λ (n : ℕ). min (length t) n) (sym (length-drop a l))))
        ∙ sym (append_assoc (take a l) (take m o) (over (drop m o) u)) ∙ ap₂ (λ (r s : List ℕ). r ++ over s u) (sym before) (sym behind)

    pub end_append : put_end l a (t ++ u) ≡ put_end (put l a t) (put_end l a t) u
    unfolding put_end
    end_append = rw (length_put, length-append) (omega arith)

pub put_stays : (l : List ℕ) (a : ℕ) (t : List ℕ) {l' : List ℕ} {a' : ℕ} → a ≤ length l → a' ≡ put_end l a t → l' ≡ put l a t → a' ≤ length l'
put_stays l a t inside e f = rw (e, f, length_put l a inside t) (put_inside l a inside t)

-- A TEXT OF WHICH A PART IS STILL TO BE PUT: `rest`, into l from index a on; it is the end of `whole`, which is put into l₀ from index a₀ on
pub record Left (l₀ : List ℕ) (a₀ : ℕ) (whole l : List ℕ) (a : ℕ) (rest : List ℕ) : Type 0 where
  pub inside : a ≤ length l
  pub same : length l ≡ length l₀
  pub end_is : put_end l a rest ≡ put_end l₀ a₀ whole
  pub now : put l a rest ≡ put l₀ a₀ whole

pub left_all : {l : List ℕ} {a : ℕ} (whole : List ℕ) → a ≤ length l → Left l a whole l a whole
left_all whole b = record { inside = b; same = refl; end_is = refl; now = refl }

module _ {l₀ : List ℕ} {a₀ : ℕ} {whole l : List ℕ} {a : ℕ} {rest : List ℕ} (h : Left l₀ a₀ whole l a rest) where
  pub left_turn : (t rest' : List ℕ) {l' : List ℕ} {a' : ℕ} → rest ≡ t ++ rest' → a' ≡ put_end l a t → l' ≡ put l a t → Left l₀ a₀ whole l' a' rest'
  left_turn t rest' {l'} {a'} e f g =
      rw (f, g)
      (record {
        inside = rw (length_put l a h.inside t) (put_inside l a h.inside t);
        same = length_put l a h.inside t ∙ h.same;
        end_is = sym (end_append l a h.inside t rest') ∙ ap (put_end l a) (sym e) ∙ h.end_is;
        now = sym (put_append l a h.inside t rest') ∙ ap (put l a) (sym e) ∙ h.now;
      })

  pub last_end : {a' : ℕ} → a' ≡ put_end l a rest → a' ≡ put_end l₀ a₀ whole
  last_end f = f ∙ h.end_is

  pub last_now : {l' : List ℕ} → l' ≡ put l a rest → l' ≡ put l₀ a₀ whole
  last_now g = g ∙ h.now

  module _ (e : rest ≡ []) where
    pub none_end : a ≡ put_end l₀ a₀ whole
    unfolding put_end
    none_end = let p : a ≡ put_end l a [] = omega arith in p ∙ ap (put_end l a) (sym e) ∙ h.end_is

    pub none_now : l ≡ put l₀ a₀ whole
    unfolding put
    none_now = sym (take-append-drop a l) ∙ ap (λ (r : List ℕ). take a l ++ r) (sym (over_none (drop a l))) ∙ ap (put l a) (sym e) ∙ h.now
