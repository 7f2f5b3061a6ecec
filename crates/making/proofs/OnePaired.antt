-- Exactly one text has a given head of two characters, a given rest, and a pair between them that is right. Assumes nothing.
use native.Mathlib.Omega.{arith}
use mathlib.Core.Bool.{true}
use mathlib.Core.List.{◌++◌, append_assoc}
use mathlib.Core.Path.{◌≡◌, sym, ap, ◌∙◌}
use lib.ListN.{length, take, drop, length-append}
use lib.Seq.{take_at, drop_at}
use Rattle.sieve.specs.Bytes.{Bytes}
use Rattle.sieve.specs.Letters.{digit}
use Rattle.sieve.specs.Mod97.{pair, checks97}
use Rattle.sieve.specs.Only.{Only}
use Rattle.sieve.specs.Pairs.{two_digits, due_pair}
use Rattle.sieve.proofs.Pairs.{one_pair}
use Rattle.making.specs.Made.{with_pair}
use Rattle.making.proofs.Texts.{is_just, in_three_lem}

pub one_paired : (head rest : Bytes) → length head ≡ 2 → Only (λ s. (take 2 s ≡ head) × (two_digits (pair s) ≡ true) × (drop 4 s ≡ rest) × (checks97 s ≡ true)) (with_pair head rest)
one_paired head rest h =
    let p = due_pair head rest in
    let (e, c) = (one_pair head rest h).has in
    let two = ((is_just 2 digit p).0 e).0 in
    let l : length (head ++ p) ≡ 4 = omega (arith, length-append head p) in
    record {
      has = (
        take_at head (p ++ rest) 2 h,
        rw (drop_at head (p ++ rest) 2 h, take_at p rest 2 two) e,
        rw (← append_assoc head p rest) (drop_at (head ++ p) rest 4 l),
        c,
      );
      alone = λ s a.
          let q : s ≡ head ++ (pair s ++ rest) = sym (rw (a.0, a.2) at (in_three_lem s)) in
          q ∙ ap (λ (r : Bytes). head ++ (r ++ rest)) ((one_pair head rest h).alone (pair s) (a.1, sym (ap checks97 q) ∙ a.3));
    }
