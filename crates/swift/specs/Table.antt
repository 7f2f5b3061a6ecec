-- Worked examples, which the prover computes: a whole payload, and what is laid and told of it. Assumes nothing.
use Rattle.std.specs.Prelude.{ℕ, Bool, false, ◌&&◌, T, eqb, length, take}
use Prim.Native.String.{String}
use mathlib.Core.List.{List, [], ◌∷◌, ◌++◌, flatten}
use Rattle.sieve.specs.declared.Break.{Break}
use Rattle.sieve.specs.declared.Break.TheVariants.{Lf, CrLf}
use Rattle.sieve.specs.Bytes.{Bytes, ascii, same, over, first_such}
use Rattle.sieve.specs.Cases.{lines, put, put_bytes, times}
use Rattle.sieve.specs.Characters.{break_width, passes, walk, bad_place, characters, line_feeds}
use Rattle.sieve.specs.Latin.{latin}
use Rattle.sieve.specs.Lines.{joined, cut}
use Rattle.sieve.specs.Mod97.{numeral, remainder97}
use Rattle.sieve.specs.Mod10.{carry, check_digit}
use Rattle.sieve.specs.Verdict.{findings, first}
use Rattle.swiss.specs.Base.{B}
use Rattle.swiss.specs.declared.Edition.{Edition}
use Rattle.swiss.specs.declared.Edition.TheVariants.{V22, V24}
use Rattle.swiss.specs.Swiss.{rules, swiss_in}
use Rattle.swift.specs.Letters.{leads, in_x, barred, replaced, laid_from, replaced_from}
use Rattle.swift.specs.Portions.{rows, kept_in, cut_in, replaced_in}
use Rattle.swift.specs.Fields.{beneficiary, transaction, remittance}
use Rattle.swift.specs.Answering.{Mapping, mapped, not_mapped, field_findings, fields_answer}

-- lines of each field, characters cut, characters replaced
pub record Tally : Type 0 where
  pub beneficiary : ℕ
  pub transaction : ℕ
  pub remittance : ℕ
  pub cut : ℕ
  pub replaced : ℕ

abbrev told : ℕ → ℕ → ℕ → ℕ → ℕ → Tally
told a b c cut replaced = record { beneficiary = a; transaction = b; remittance = c; cut = cut; replaced = replaced }

-- room for the longest
abbrev room : Bytes
room = times 302 (ascii "x")

abbrev laid_with : Bytes → Tally → Mapping → Bool
laid_with w t (not_mapped r) = false
laid_with w t (mapped k) = eqb k.bytes (length w) && eqb k.beneficiary t.beneficiary && eqb k.transaction t.transaction && eqb k.remittance t.remittance && eqb k.cut t.cut && eqb k.replaced t.replaced

-- of a bill, the lines that are laid, parted by `|` here, and what is told; what lies behind them stays
abbrev pub lays_in : Edition → Break → List Bytes → String → Tally → Bool
lays_in e k ls text t =
    let w = joined CrLf (lines text) in
    let d = fields_answer (swiss_in e) (joined k ls) room in
    laid_with w t d.answer && same d.lent (over room w)

abbrev pub lays : Break → List Bytes → String → Tally → Bool
lays = lays_in V24

abbrev refused_as : ℕ → ℕ → Mapping → Bool
refused_as n i (mapped k) = false
refused_as n i (not_mapped r) = eqb r.number n && eqb r.line i

-- a bill that is refused with so much room, and nothing is changed
abbrev pub refuses_in : Edition → ℕ → ℕ → ℕ → List Bytes → Bool
refuses_in e size n i ls =
    let d = fields_answer (swiss_in e) (joined Lf ls) (take size room) in
    refused_as n i d.answer && same d.lent (take size room)

abbrev pub refuses : ℕ → ℕ → ℕ → List Bytes → Bool
refuses = refuses_in V24

-- B under QRR, and under NON
abbrev Q : List Bytes
Q = put 4 "CH6431961000004421557" (put 28 "QRR" (put 29 "210000000003139471430009017" B))

abbrev N : List Bytes
N = put 28 "NON" (put 29 "" B)

-- with an address of type K, under NON
abbrev K : List Bytes
K = put 5 "K" (put 7 "Hofweg 4" (put 8 "8000 Seldwyla" (put 9 "" (put 10 "" N))))

abbrev u_umlaut : Bytes
u_umlaut = 0xC3 ∷ 0xBC ∷ []

abbrev euro_sign : Bytes
euro_sign = 0xE2 ∷ 0x82 ∷ 0xAC ∷ []

-- 35 characters, the first of them a hyphen
abbrev thirty_five : Bytes
thirty_five = ascii "-" ++ times 34 (ascii "m")

-- a bill whose fields have as many bytes as any
abbrev longest : List Bytes
longest = put_bytes 6 (times 33 (ascii "n")) (put_bytes 7 (times 33 (ascii "s")) (put 8 "" (put_bytes 10 (times 25 (ascii "t")) (put 19 "999999999.99" (put_bytes 30 (times 140 (ascii "m")) N)))))

abbrev longest_text : String
longest_text = "/CH5800791123000889012|1/nnnnnnnnnnnnnnnnnnnnnnnnnnnnnnnnn|2/sssssssssssssssssssssssssssssssss|3/CH/8000 ttttttttttttttttttttttttt|CHF999999999,99|mmmmmmmmmmmmmmmmmmmmmmmmmmmmmmmmmmm|mmmmmmmmmmmmmmmmmmmmmmmmmmmmmmmmmmm|mmmmmmmmmmmmmmmmmmmmmmmmmmmmmmmmmmm|mmmmmmmmmmmmmmmmmmmmmmmmmmmmmmmmmmm"

-- the longest fields of a bill whose creditor has an address of type K
abbrev longest_k : List Bytes
longest_k = put_bytes 6 (times 35 (ascii "n")) (put_bytes 7 (times 35 (ascii "s")) (put_bytes 8 (times 35 (ascii "t")) (put 19 "999999999.99" (put_bytes 30 (times 140 (ascii "m")) K))))

abbrev longest_text_k : String
longest_text_k = "/CH5800791123000889012|nnnnnnnnnnnnnnnnnnnnnnnnnnnnnnnnnnn|sssssssssssssssssssssssssssssssssss|ttttttttttttttttttttttttttttttttttt|CH|CHF999999999,99|mmmmmmmmmmmmmmmmmmmmmmmmmmmmmmmmmmm|mmmmmmmmmmmmmmmmmmmmmmmmmmmmmmmmmmm|mmmmmmmmmmmmmmmmmmmmmmmmmmmmmmmmmmm|mmmmmmmmmmmmmmmmmmmmmmmmmmmmmmmmmmm"

pub examples : Bool
examples =
    -- B, with either break
    lays Lf B "/CH5800791123000889012|1/Schule Muster|2/Hofweg 4|3/CH/8000 Seldwyla|CHF199,95|SCOR/RF18539007547034|Kurs Mai" (told 4 1 2 0 0)
    && lays CrLf B "/CH5800791123000889012|1/Schule Muster|2/Hofweg 4|3/CH/8000 Seldwyla|CHF199,95|SCOR/RF18539007547034|Kurs Mai" (told 4 1 2 0 0)
    -- QRR; NON with a message; NON without one has no field 70
    && lays Lf Q "/CH6431961000004421557|1/Schule Muster|2/Hofweg 4|3/CH/8000 Seldwyla|CHF199,95|QRR/210000000003139471430009017|Kurs Mai" (told 4 1 2 0 0)
    && lays Lf N "/CH5800791123000889012|1/Schule Muster|2/Hofweg 4|3/CH/8000 Seldwyla|CHF199,95|Kurs Mai" (told 4 1 1 0 0)
    && lays Lf (put 30 "" N) "/CH5800791123000889012|1/Schule Muster|2/Hofweg 4|3/CH/8000 Seldwyla|CHF199,95" (told 4 1 0 0 0)
    -- the number alone; neither street nor number
    && lays Lf (put 7 "" N) "/CH5800791123000889012|1/Schule Muster|2/4|3/CH/8000 Seldwyla|CHF199,95|Kurs Mai" (told 4 1 1 0 0)
    && lays Lf (put 7 "" (put 8 "" N)) "/CH5800791123000889012|1/Schule Muster|3/CH/8000 Seldwyla|CHF199,95|Kurs Mai" (told 3 1 1 0 0)
    -- a street that leaves no room for the space and the number: both are cut
    && lays Lf (put_bytes 7 (times 33 (ascii "s")) N) "/CH5800791123000889012|1/Schule Muster|2/sssssssssssssssssssssssssssssssss|3/CH/8000 Seldwyla|CHF199,95|Kurs Mai" (told 4 1 1 2 0)
    -- a name of 34 letters ü: 33 are kept, each as one full stop
    && lays Lf (put_bytes 6 (times 34 u_umlaut) N) "/CH5800791123000889012|1/.................................|2/Hofweg 4|3/CH/8000 Seldwyla|CHF199,95|Kurs Mai" (told 4 1 1 1 33)
    -- a colon or hyphen is replaced at the start of a row of field 70, and nowhere in 59a, where a digit or a slash begins the line; a full stop stays
    && lays Lf (put 6 ":-. @" (put 30 ":-." N)) "/CH5800791123000889012|1/:-. .|2/Hofweg 4|3/CH/8000 Seldwyla|CHF199,95|.-." (told 4 1 1 0 2)
    -- a message of 140 characters: four rows under NON, three under QRR, each begun by a hyphen
    && lays Lf (put_bytes 30 (times 4 thirty_five) N) "/CH5800791123000889012|1/Schule Muster|2/Hofweg 4|3/CH/8000 Seldwyla|CHF199,95|.mmmmmmmmmmmmmmmmmmmmmmmmmmmmmmmmmm|.mmmmmmmmmmmmmmmmmmmmmmmmmmmmmmmmmm|.mmmmmmmmmmmmmmmmmmmmmmmmmmmmmmmmmm|.mmmmmmmmmmmmmmmmmmmmmmmmmmmmmmmmmm" (told 4 1 4 0 4)
    && lays Lf (put_bytes 30 (times 4 thirty_five) Q) "/CH6431961000004421557|1/Schule Muster|2/Hofweg 4|3/CH/8000 Seldwyla|CHF199,95|QRR/210000000003139471430009017|.mmmmmmmmmmmmmmmmmmmmmmmmmmmmmmmmmm|.mmmmmmmmmmmmmmmmmmmmmmmmmmmmmmmmmm|.mmmmmmmmmmmmmmmmmmmmmmmmmmmmmmmmmm" (told 4 1 4 35 3)
    -- 36 characters with a euro sign as the 35th: a full stop, and the last one on a row of its own
    && lays Lf (put_bytes 30 (times 34 (ascii "m") ++ (euro_sign ++ ascii ":")) N) "/CH5800791123000889012|1/Schule Muster|2/Hofweg 4|3/CH/8000 Seldwyla|CHF199,95|mmmmmmmmmmmmmmmmmmmmmmmmmmmmmmmmmm.|." (told 4 1 2 0 2)
    -- 298 bytes
    && lays Lf longest longest_text (told 4 1 4 0 0)
    && eqb (length (joined CrLf (lines longest_text))) 298
    && refuses 297 15 0 longest
    -- what the reader refuses, also without an amount; no amount, also without room; room
    && refuses 0 1 0 (lines "")
    && refuses 0 8 6 (put 6 "" (put 19 "" B))
    && refuses 0 16 19 (put 19 "" B)
    && refuses 114 15 0 B

-- what edition 2.2 accepts besides
pub older : Bool
older =
    -- type K: no prefix; address line 1 only if it is filled
    lays_in V22 Lf K "/CH5800791123000889012|Schule Muster|Hofweg 4|8000 Seldwyla|CH|CHF199,95|Kurs Mai" (told 5 1 1 0 0)
    && lays_in V22 CrLf (put 7 "" K) "/CH5800791123000889012|Schule Muster|8000 Seldwyla|CH|CHF199,95|Kurs Mai" (told 4 1 1 0 0)
    -- a colon or hyphen that begins one of its lines becomes a full stop
    && lays_in V22 Lf (put 6 ":-. @" (put 7 "-4" (put 8 ":8000" K))) "/CH5800791123000889012|.-. .|.4|.8000|CH|CHF199,95|Kurs Mai" (told 5 1 1 0 4)
    -- each is cut at 35 characters, each letter ü being one
    && lays_in V22 Lf (put_bytes 6 (times 36 u_umlaut) (put_bytes 7 (times 70 (ascii "s")) (put_bytes 8 (times 37 (ascii "t")) K))) "/CH5800791123000889012|...................................|sssssssssssssssssssssssssssssssssss|ttttttttttttttttttttttttttttttttttt|CH|CHF199,95|Kurs Mai" (told 5 1 1 38 35)
    -- 302 bytes
    && lays_in V22 Lf longest_k longest_text_k (told 5 1 4 0 0)
    && eqb (length (joined CrLf (lines longest_text_k))) 302
    && refuses_in V22 301 15 0 longest_k
    -- type S as in 2.4; QRR with EUR
    && lays_in V22 Lf B "/CH5800791123000889012|1/Schule Muster|2/Hofweg 4|3/CH/8000 Seldwyla|CHF199,95|SCOR/RF18539007547034|Kurs Mai" (told 4 1 2 0 0)
    && lays_in V22 Lf (put 20 "EUR" Q) "/CH6431961000004421557|1/Schule Muster|2/Hofweg 4|3/CH/8000 Seldwyla|EUR199,95|QRR/210000000003139471430009017|Kurs Mai" (told 4 1 2 0 0)
    -- both of which 2.4 refuses; and what 2.2 refuses
    && refuses_in V24 302 10 5 K
    && refuses_in V24 302 12 28 (put 20 "EUR" Q)
    && refuses_in V22 302 7 9 (put 9 "8000" K)
    && refuses_in V22 302 16 19 (put 19 "" K)

pub the_examples : T (examples && older)
unfolding examples older fields_answer field_findings rules latin cut break_width passes walk bad_place characters line_feeds first_such findings first numeral remainder97 carry check_digit flatten leads in_x barred replaced laid_from replaced_from rows kept_in cut_in replaced_in beneficiary transaction remittance
the_examples = tt
