-- Where a line of the first bytes of a payload lies in the payload itself. Assumes nothing.
use Prim.Native.Nat.{ℕ, zero, suc, ◌≤◌}
use native.Mathlib.Omega.{arith}
use mathlib.Core.Path.{◌≡◌, refl, sym, ap, ◌∙◌}
use lib.ListN.{length, take, drop, take-append-drop, length-take, length-drop}
use lib.Seq.{take-append-le, drop-append-le}
use Rattle.sieve.specs.Bytes.{Bytes}
use Rattle.sieve.specs.Lines.{cut, lines_of}
use Rattle.sieve.specs.Rules.{line}
use Rattle.lines.specs.LinesIn.{line_of}
use Rattle.lines.proofs.LinesLie.{line_lies, line_text}

-- a part that lies in the first bytes lies there in all
in_front_lem : (n at m : ℕ) (p : Bytes) → length (take n (drop at (take m p))) ≡ n → take n (drop at p) ≡ take n (drop at (take m p))
in_front_lem zero at m p h = refl
in_front_lem (suc n) at m p h =
    let t = take m p in
    let room : suc n ≤ length (drop at t) = omega (arith, h, length-take (suc n) (drop at t)) in
    let starts : at ≤ length t = omega (arith, room, length-drop at t) in
    ap (λ (q : Bytes). take (suc n) (drop at q)) (sym (take-append-drop m p))
    ∙ ap (take (suc n)) (drop-append-le at t (drop m p) starts)
    ∙ take-append-le (suc n) (drop at t) (drop m p) room

pub lies_in_all : (p : Bytes) (m n : ℕ) → let l = line_of (take m p) n in take (length l.text) (drop l.start p) ≡ line n (lines_of (cut (take m p)))
lies_in_all p m n =
    let s = take m p in
    let l = line_of s n in
    in_front_lem (length l.text) l.start m p (ap length (line_lies s n)) ∙ line_lies s n ∙ line_text s n
