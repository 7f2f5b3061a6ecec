-- What it means that the contracts of two functions leave one answer. Assumes nothing.
use Rattle.std.specs.Prelude.{◌≡◌}
use contract.Lifetimes.{Lfts}
use denote.Triple.Entry.{Args, Res}
use denote.Triple.Clauses.{Ended, Lasts, at_exit}
use Rattle.sieve.specs.OneAnswer.{Learns}

-- for the same arguments a result x of the one and a result y of the other are equal, and so are the contents v and w that all lent memory has at exit
abbrev pub Alike : (T : Ended) → Learns T → Learns T → Type 0
Alike T LearntOne LearntOther =
    (κs : Lfts T.signature.lifetimes) (a : Args T.signature κs) (x y : Res T.signature κs) (v w : Lasts T κs a) → LearntOne κs a x (at_exit T κs a v) → LearntOther κs a y (at_exit T κs a w)
    → (x ≡ y) × (v ≡ w)
