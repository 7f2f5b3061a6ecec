-- What a user of the three functions may rely on, stated on their contracts. Assumes nothing.
use Prim.Native.Nat.{ℕ, ◌≤◌, ◌<◌}
use native.Mathlib.Omega.{arith}
use mathlib.Core.Bool.{Bool, true, false}
use mathlib.Core.Path.{◌≡◌, refl, sym, ◌∙◌}
use lib.Dec.{ltb}
use lib.ListN.{length}
use borrow.Author.Tests.{eqb-true, ltb-true, ltb-false, lt-ltb, le-ltb}
use Rattle.sieve.specs.declared.Fault.{Fault}
use Rattle.sieve.specs.declared.Fault.TheVariants.{BadForm, NoRoom}
use Rattle.sieve.specs.Paper.{Written}
use Rattle.std.specs.Prelude.{Ok, Err}
use Rattle.sieve.specs.Bytes.{Bytes, over}
use Rattle.sieve.specs.Verdict.{first}
use Rattle.sieve.proofs.PaperLosesNothing.{one_written}
use Rattle.sieve.proofs.Bounds.{is_within}
use Rattle.making.specs.Made.{qrr_part, made_qrr, scor_part, made_scor, iban_parts, made_iban}
use Rattle.making.specs.Making.{make_answer, IsMade}
use Rattle.making.proofs.Texts.{all3, all4}
use Rattle.making.proofs.OneQrr.{one_qrr}
use Rattle.making.proofs.OneScor.{one_scor}
use Rattle.making.proofs.OneIban.{one_iban}

module _ {formed : Bool} {made dest : Bytes} where
  -- one answer, and one content of the destination
  pub one_making : {q r : Written} {a b : Bytes} → IsMade formed made dest q a → IsMade formed made dest r b → (q ≡ r) × (a ≡ b)
  one_making {q} {r} h k = (one_written q r (h.answer ∙ sym k.answer), h.lent ∙ sym k.lent)

  -- parts that are not of their form are refused under 10, and nothing changes
  pub not_formed : formed ≡ false → IsMade formed made dest (Err (BadForm 0)) dest
  unfolding make_answer first
  not_formed e = record { answer = rw e; lent = rw e }

  -- then too little room is refused under 15, and nothing changes
  pub no_room : formed ≡ true → length dest < length made → IsMade formed made dest (Err NoRoom) dest
  unfolding make_answer first
  no_room e h = record { answer = rw (e, lt-ltb (length dest) (length made) h); lent = rw (e, lt-ltb (length dest) (length made) h) }

  -- else the number lies in the front, and what lies behind it stays
  pub is_laid : {n : ℕ} {after : Bytes} → formed ≡ true → length made ≤ length dest → n ≡ length made → after ≡ over dest made → IsMade formed made dest (Ok n) after
  unfolding make_answer first
  is_laid e h n a = record { answer = rw (e, le-ltb (length dest) (length made) h, n); lent = rw (e, le-ltb (length dest) (length made) h) a }

  -- so what is laid is the number, of parts that are of their form
  pub laid_is_made : {n : ℕ} {after : Bytes} → IsMade formed made dest (Ok n) after → (formed ≡ true) × (n ≡ length made) × (after ≡ over dest made)
  laid_is_made {n} {after} h = by_cases formed refl (ltb (length dest) (length made)) refl
    where
      by_cases : (f : Bool) → formed ≡ f → (b : Bool) → ltb (length dest) (length made) ≡ b → (formed ≡ true) × (n ≡ length made) × (after ≡ over dest made)
      by_cases false e b t = let q = (one_making h (not_formed e)).0 in let z : ◌≡◌ {A = ℕ} 0 1 = cc in absurd (omega arith)
      by_cases true e true t = let q = (one_making h (no_room e (ltb-true _ _ t))).0 in let z : ◌≡◌ {A = ℕ} 0 1 = cc in absurd (omega arith)
      by_cases true e false t =
          let (q, l) = one_making h (is_laid e (ltb-false _ _ t) refl refl) in
          let same : n ≡ length made = cc in
          (e, same, l)

  -- and a refusal changes nothing
  pub refusal_changes_nothing : {f : Fault} {after : Bytes} → IsMade formed made dest (Err f) after → after ≡ dest
  refusal_changes_nothing {f} {after} h = by_cases formed refl (ltb (length dest) (length made)) refl
    where
      by_cases : (g : Bool) → formed ≡ g → (b : Bool) → ltb (length dest) (length made) ≡ b → after ≡ dest
      by_cases false e b t = (one_making h (not_formed e)).1
      by_cases true e true t = (one_making h (no_room e (ltb-true _ _ t))).1
      by_cases true e false t = let q = (one_making h (is_laid e (ltb-false _ _ t) refl refl)).0 in let z : ◌≡◌ {A = ℕ} 0 1 = cc in absurd (omega arith)

-- how long each is

pub qrr_length_lem : (s : Bytes) → qrr_part s ≡ true → length (made_qrr s) ≡ 27
qrr_length_lem s f = let (_, form, _) = (one_qrr s f).has in eqb-true _ 27 ((all3 _ _ _).0 form).0

pub scor_length : (rest : Bytes) → scor_part rest ≡ true → (5 ≤ length (made_scor rest)) × (length (made_scor rest) ≤ 25)
scor_length rest f = let (_, form, _) = (one_scor rest f).has in is_within 5 25 _ ((all4 _ _ _ _).0 form).0

pub iban_length_lem : (country iid account : Bytes) → iban_parts country iid account ≡ true → length (made_iban country iid account) ≡ 21
iban_length_lem country iid account f = let (_, _, _, form, _) = (one_iban country iid account f).has in eqb-true _ 21 ((all4 _ _ _ _).0 form).0
