-- A creditor reference made from 1 to 21 letters or digits passes form and check, and no other with this part does. Assumes nothing.
use Prim.Native.Nat.{◌-◌}
use native.Mathlib.Omega.{arith}
use mathlib.Core.Bool.{true, and-eq-true_iff}
use mathlib.Core.Logic.{◌↔◌}
use mathlib.Core.Path.{◌≡◌, refl}
use lib.ListN.{length, take, drop, length-drop}
use lib.Seq.{length-take-le}
use Rattle.sieve.specs.Bytes.{Bytes, ascii, within}
use Rattle.sieve.specs.Letters.{digit}
use Rattle.sieve.specs.Mod97.{pair}
use Rattle.swiss.specs.Forms.{scor}
use Rattle.sieve.specs.Only.{Only}
use Rattle.sieve.specs.Pairs.{two_digits}
use Rattle.sieve.proofs.Bounds.{is_within, same_is}
use Rattle.making.specs.Made.{scor_part, made_scor, ScorOf}
use Rattle.making.proofs.Texts.{all4, is_just, in_bounds}
use Rattle.making.proofs.OnePaired.{one_paired}

-- the form of a creditor reference, part by part
pub scor_parted : (s : Bytes) → (scor s ≡ true) ↔ ((take 2 s ≡ ascii "RF") × (two_digits (pair s) ≡ true) × (scor_part (drop 4 s) ≡ true))
scor_parted s = (parts, λ k. whole k.0 k.1 k.2)
  where
    parts : scor s ≡ true → (take 2 s ≡ ascii "RF") × (two_digits (pair s) ≡ true) × (scor_part (drop 4 s) ≡ true)
    parts e =
        let (n, h, p, r) = (all4 _ _ _ _).0 e in
        let b = is_within 5 25 (length s) n in (
          same_is (take 2 s) (ascii "RF") h,
          (is_just 2 digit (pair s)).1 (length-take-le 2 (drop 2 s) (simp length-drop (omega arith)), p),
          rw (length-drop 4 s, in_bounds 1 21 (length s - 4) (omega arith) (omega arith)) r,
        )

    whole : take 2 s ≡ ascii "RF" → two_digits (pair s) ≡ true → scor_part (drop 4 s) ≡ true → scor s ≡ true
    whole h p r =
        let (m, a) = (and-eq-true_iff (within 1 21 (length (drop 4 s))) _).0 r in
        let b = is_within 1 21 (length (drop 4 s)) m in
        let l = length-drop 4 s in
        (all4 (within 5 25 (length s)) _ _ _).1 (in_bounds 5 25 (length s) (omega arith) (omega arith), rw h, ((is_just 2 digit (pair s)).0 p).1, a)

-- exactly one creditor reference passes for each 1 to 21 letters or digits
pub one_scor : (rest : Bytes) → scor_part rest ≡ true → Only (ScorOf rest) (made_scor rest)
one_scor rest f =
    let o = one_paired (ascii "RF") rest refl in
    let (h, p, r, c) = o.has in
    record {
      has = (r, (scor_parted (made_scor rest)).1 (h, p, rw r f), c);
      alone = λ s k. let (h, p, _) = (scor_parted s).0 k.1 in o.alone s (h, p, k.0, k.2);
    }

-- what passes has a part of the right form: from another nothing can be made
pub scor_from : (rest s : Bytes) → ScorOf rest s → scor_part rest ≡ true
scor_from rest s (r, f, c) = rw r at ((scor_parted s).0 f).2
