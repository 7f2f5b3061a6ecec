-- Breaks like and unlike one another. Assumes nothing.
use mathlib.Core.Bool.{true, false, not, true≢false}
use mathlib.Core.Logic.{◌≢◌}
use mathlib.Core.Path.{◌≡◌, refl, sym, ◌∙◌, ap}
use Rattle.sieve.specs.declared.Break.{Break}
use Rattle.sieve.specs.declared.Break.TheVariants.{Lf, CrLf}
use Rattle.sieve.specs.Lines.{same_break}

pub like : (k j : Break) → not (same_break k j) ≡ false → j ≡ k
like Lf Lf h = refl
like CrLf CrLf h = refl
like Lf CrLf h = absurd (true≢false h)
like CrLf Lf h = absurd (true≢false h)

pub like_itself : (k : Break) → not (same_break k k) ≡ false
like_itself Lf = refl
like_itself CrLf = refl

pub unlike : (k j : Break) → not (same_break k j) ≡ true → j ≢ k
unlike k j h e = true≢false (sym h ∙ ap (λ (i : Break). not (same_break k i)) e ∙ like_itself k)

pub unlike_found : (k j : Break) → j ≢ k → not (same_break k j) ≡ true
unlike_found Lf Lf h = absurd (h refl)
unlike_found CrLf CrLf h = absurd (h refl)
unlike_found Lf CrLf h = refl
unlike_found CrLf Lf h = refl
