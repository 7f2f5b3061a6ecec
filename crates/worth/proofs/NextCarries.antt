-- What the table of carries tells apart. Assumes nothing.
use Prim.Native.Nat.{ℕ, ◌+◌, ◌-◌, ◌%◌, ◌<◌}
use native.Mathlib.Omega.{arith}
use mathlib.Core.Bool.{Bool, true, ◌||◌}
use mathlib.Core.List.{[], ◌∷◌}
use mathlib.Core.Logic.{◌↔◌, ◌≢◌}
use mathlib.Core.Path.{◌≡◌, refl, sym, ap, ◌∙◌}
use lib.Dec.{eqb}
use lib.ListN.{get_or}
use borrow.Author.Tests.{eqb-true, eq-eqb, ne_eqb}
use Rattle.sieve.specs.Bytes.{Bytes}
use Rattle.sieve.specs.Letters.{digit}
use Rattle.sieve.specs.Mod10.{next_carry, carry}
use Rattle.sieve.proofs.Alphabets.{alike}
use Rattle.sieve.proofs.Bounds.{is_within}
use Rattle.mod10.proofs.Carries.{next_after, next_small}
use Rattle.worth.specs.Slips.{either_order, four_and_seven}
use Rattle.worth.proofs.Tests.{other}
use Rattle.worth.proofs.Tables.{agree, agreed}

abbrev next : ℕ → ℕ
next k = get_or next_carry k 0

-- the table's rule: no two entries are equal
entries_told : agree 10 (λ u v. eqb (next u) (next v)) eqb ≡ true
entries_told = refl

next_one : (u v : ℕ) → u < 10 → v < 10 → next u ≡ next v → u ≡ v
next_one u v h k e = eqb-true u v (sym (agreed 10 (λ u v. eqb (next u) (next v)) eqb entries_told u v h k) ∙ eq-eqb (next u) (next v) e)

-- and its other rule: unlike numbers may trade places only as 4 and 7
abbrev trade : ℕ → ℕ → Bool
trade u v = eqb ((next u + v) % 10) ((next v + u) % 10)

trades_told : agree 10 trade (λ u v. eqb u v || either_order 4 7 u v) ≡ true
trades_told = refl

-- a byte x leads from carry c to 0 if they give 0
pub to_0 : (c x : ℕ) → next_after c x ≡ 0 → (c + (x - 48)) % 10 ≡ 0
to_0 c x e = next_one ((c + (x - 48)) % 10) 0 (omega arith) (omega arith) e

-- unlike carries lead to unlike carries
pub carry_one : (c e : ℕ) (s : Bytes) → c < 10 → e < 10 → carry c s ≡ carry e s → c ≡ e
unfolding carry
carry_one c e [] h k q = q
carry_one c e (x ∷ s) h k q = step (carry_one (next_after c x) (next_after e x) s (next_small ((c + (x - 48)) % 10)) (next_small ((e + (x - 48)) % 10)) q)
  where
    step : next_after c x ≡ next_after e x → c ≡ e
    step q =
        let p = next_one ((c + (x - 48)) % 10) ((e + (x - 48)) % 10) (omega arith) (omega arith) q in
        omega arith

-- and so do unlike digits
pub digit_one : (c x y : ℕ) → digit x ≡ true → digit y ≡ true → next_after c x ≡ next_after c y → x ≡ y
digit_one c x y p q e =
    let k = next_one ((c + (x - 48)) % 10) ((c + (y - 48)) % 10) (omega arith) (omega arith) e in
    omega (arith, is_within 48 57 x p, is_within 48 57 y q)

-- sums modulo 10: c is added to both sides, or to none
turned : (c p y : ℕ) → (p + (c + y) % 10) % 10 ≡ (c + (p + y) % 10) % 10
turned c p y = omega arith

added : (c p q x y : ℕ) → ((p + (c + y) % 10) % 10 ≡ (q + (c + x) % 10) % 10) ↔ ((p + y) % 10 ≡ (q + x) % 10)
added c p q x y = (
  λ e. taken ((p + y) % 10) ((q + x) % 10) (omega arith) (omega arith) (sym (turned c p y) ∙ e ∙ turned c q x),
  λ e. turned c p y ∙ ap (λ (n : ℕ). (c + n) % 10) e ∙ sym (turned c q x),
)
  where
    taken : (m n : ℕ) → m < 10 → n < 10 → (c + m) % 10 ≡ (c + n) % 10 → m ≡ n
    taken m n h k e = omega arith

-- unlike digits lead to the same carry in either order exactly where c and each of them give 4 and 7
pub pair_one : (c x y : ℕ) → digit x ≡ true → digit y ≡ true → x ≢ y → eqb (next_after (next_after c x) y) (next_after (next_after c y) x) ≡ four_and_seven c x y
pair_one c x y i j d =
    let u = (c + (x - 48)) % 10 in
    let v = (c + (y - 48)) % 10 in
    let unlike : u ≢ v = λ e. d (omega (arith, is_within 48 57 x i, is_within 48 57 y j)) in
    let t = agreed 10 trade (λ u v. eqb u v || either_order 4 7 u v) trades_told u v (omega arith) (omega arith) ∙ other (eqb u v) _ (ne_eqb u v unlike) in
    let (to, from) = added c (next u) (next v) (x - 48) (y - 48) in
    alike _ _ (
      λ e. sym t ∙ eq-eqb _ _ (from (next_one _ _ (small _) (small _) (eqb-true _ _ e))),
      λ e. eq-eqb _ _ (ap next (to (eqb-true _ _ (t ∙ e)))),
    )
  where
    small : (n : ℕ) → n % 10 < 10
    small n = omega arith
