-- What it means that a contract leaves one answer. Assumes nothing.
use Rattle.std.specs.Prelude.{◌≡◌}
use contract.Lifetimes.{Lfts}
use denote.Triple.Entry.{Args, Res}
use denote.Triple.Clauses.{Ended, Lasts, AtExit, at_exit}

module _ (T : Ended) where
  -- what a caller learns from a function: of its lifetimes, its arguments, its result, and its arguments at exit
  abbrev pub Learns : Type 1
  Learns = (κs : Lfts T.signature.lifetimes) → Args T.signature κs → Res T.signature κs → AtExit T κs → Type 0

  -- for the same arguments any two results x and y are equal, and so are any two contents v and w that all lent memory has at exit
  abbrev pub OneAnswer : Learns → Type 0
  OneAnswer Learnt =
      (κs : Lfts T.signature.lifetimes) (a : Args T.signature κs) (x y : Res T.signature κs) (v w : Lasts T κs a) → Learnt κs a x (at_exit T κs a v) → Learnt κs a y (at_exit T κs a w)
      → (x ≡ y) × (v ≡ w)
