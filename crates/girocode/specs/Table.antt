-- Cases of the girocode, as one table under one claim: 002's examples, and each refusal beside what just passes. Assumes nothing.
use mathlib.Core.List.{List, [], ◌∷◌, ◌++◌, flatten}
use Rattle.std.specs.Prelude.{T, take, drop}
use Rattle.sieve.specs.declared.Break.TheVariants.{Lf, CrLf}
use Rattle.sieve.specs.Bytes.{Bytes, first_such}
use Rattle.sieve.specs.Lines.{break_bytes, joined, cut, bill_of}
use Rattle.sieve.specs.Characters.{break_width, passes, walk, bad_place, characters, line_feeds}
use Rattle.sieve.specs.Verdict.{under, under_at, accepted, refused, findings, first, verdict}
use Rattle.sieve.specs.Cases.{lines, put, put_bytes, times, umlaut, Case, case, right}
use Rattle.sieve.specs.Latin.{latin}
use Rattle.sieve.specs.Mod97.{numeral, remainder97}
use Rattle.sieve.specs.Iso8859.{iso8859}
use Rattle.girocode.specs.Girocode.{rules, girocode}
use Rattle.girocode.specs.Base.{G, good, bad, bad_byte, umlaut_iso, space_iso, iso}

-- the name as the letter A and these bytes
abbrev named : Bytes → List Bytes
named l = put_bytes 6 (65 ∷ l) G

-- 331 bytes
abbrev long : List Bytes
long = iso (put 2 "002" (put 5 "" (put 10 "" (put_bytes 6 (times 70 umlaut_iso) (put_bytes 11 (times 140 umlaut_iso) (put_bytes 12 (times 70 umlaut_iso) G))))))

-- with a text in place of the reference
abbrev texted : Bytes → List Bytes
texted l = put 10 "" (put_bytes 11 l G)

unfoldable pub table : List Case
table =
    -- 002's examples 2, 3 and 5, and 1, whose IBAN has small letters
    case Lf G (accepted 12 Lf)
    ∷ case CrLf G (accepted 12 CrLf)
    ∷ good (put 3 "2" (put 5 "GENODEF1KIL" (put 7 "DE52210900070088299309" G)))
    ∷ good (put 2 "002" G)
    ∷ bad 10 7 (put 5 "BICVXXDD123" (put 7 "XX17LandMitLangerIBAN2345678901234" (put 8 "EUR12345689.01" G)))
    -- 1: no bytes
    ∷ bad 1 0 (lines "")
    -- 2: 331 bytes and 332
    ∷ good long
    ∷ bad 2 0 (put 8 "EUR14567.89" long)
    -- 3: an umlaut as one byte under coding 2, and under coding 1
    ∷ good (iso (named umlaut_iso))
    ∷ bad_byte (named umlaut_iso)
    ∷ good (named umlaut)
    -- the ends of each range of ISO 8859-1, and the bytes past them
    ∷ good (iso (named (0x20 ∷ 0x7E ∷ 0xA0 ∷ 0xFF ∷ [])))
    ∷ bad_byte (iso (named (0x1F ∷ [])))
    ∷ bad_byte (iso (named (0x7F ∷ [])))
    ∷ bad_byte (iso (named (0x9F ∷ [])))
    ∷ bad_byte (iso (named (13 ∷ 65 ∷ [])))
    ∷ case CrLf (iso (named (0x9F ∷ []))) (refused (under_at 3 6 29))
    -- the third line chooses whatever else is wrong, and no other line does
    ∷ bad 5 4 (lines "||2" ++ (umlaut_iso ∷ []))
    ∷ case Lf (lines "||1" ++ (umlaut_iso ∷ [])) (refused (under_at 3 4 4))
    ∷ case Lf (lines "2|2||" ++ (umlaut_iso ∷ [])) (refused (under_at 3 5 6))
    ∷ bad 6 1 (put 1 "" (iso (named umlaut_iso)))
    ∷ bad_byte (put 3 "3" (named umlaut_iso))
    ∷ case Lf (put 3 "22" (named umlaut_iso)) (refused (under_at 3 6 25))
    -- 4: a break unlike the first one
    ∷ bad 4 6 (named (13 ∷ []))
    ∷ record { payload = joined CrLf (take 2 G) ++ break_bytes CrLf ++ joined Lf (drop 2 G); gives = refused (under 4 3) }
    -- 5: 6 lines, 7 and 13
    ∷ bad 5 6 (take 6 G)
    ∷ good (take 7 G)
    ∷ bad 5 13 (G ++ lines "A")
    -- 6: each fixed text
    ∷ bad 6 1 (put 1 "bcd" G)
    ∷ bad 6 2 (put 2 "003" G)
    ∷ bad 6 3 (put 3 "" G)
    ∷ bad 6 3 (put 3 "0" G)
    ∷ bad 6 3 (put 3 "9" G)
    ∷ bad 6 3 (put 3 "22" G)
    ∷ bad 6 4 (put 4 "SDD" G)
    -- 17: codings 3 to 8
    ∷ bad 17 3 (put 3 "3" G)
    ∷ bad 17 3 (put 3 "8" G)
    -- 8: a BIC under 001, a name, an IBAN, a last line
    ∷ bad 8 5 (put 5 "" G)
    ∷ good (put 5 "" (put 2 "002" G))
    ∷ bad 8 6 (put 6 "" G)
    ∷ bad 8 7 (put 7 "" G)
    ∷ bad 8 7 (put 7 "" (take 7 G))
    ∷ bad 8 8 (take 7 G ++ lines "")
    ∷ bad 8 9 (take 8 G ++ lines "")
    ∷ bad 8 10 (take 8 G ++ lines "|")
    ∷ bad 8 11 (take 10 G ++ lines "")
    ∷ bad 8 12 (take 10 G ++ lines "|")
    ∷ good (take 7 G ++ lines "||||A")
    -- 9: each length, counted in the characters of the coding; the longest and one more
    ∷ good (put_bytes 6 (times 70 umlaut) G)
    ∷ bad 9 6 (put_bytes 6 (times 71 umlaut) G)
    ∷ good (iso (put_bytes 6 (times 70 space_iso) G))
    ∷ bad 9 6 (iso (put_bytes 6 (times 71 space_iso) G))
    ∷ good (iso (put_bytes 6 (times 35 umlaut) G))
    ∷ bad 9 6 (iso (put_bytes 6 (times 36 umlaut) G))
    ∷ good (put 9 "GDDS" G)
    ∷ bad 9 9 (put 9 "GDDSA" G)
    ∷ good (put 10 "35ZeichenLangeREFzurZuordnungBeimBe" G)
    ∷ bad 9 10 (put 10 "35ZeichenLangeREFzurZuordnungBeimBen" G)
    ∷ good (iso (texted (times 140 space_iso)))
    ∷ bad 9 11 (iso (texted (times 141 space_iso)))
    ∷ good (put_bytes 12 (times 70 umlaut) G)
    ∷ bad 9 12 (put_bytes 12 (times 71 umlaut) G)
    -- 10: BIC
    ∷ good (put 5 "0BICVXXDD12" G)
    ∷ bad 10 5 (put 5 "GIBAATW" G)
    ∷ bad 10 5 (put 5 "GIBAATWWX" G)
    ∷ bad 10 5 (put 5 "GIBAATWWXX" G)
    ∷ bad 10 5 (put 5 "GIBAATWWXXXX" G)
    ∷ bad 10 5 (put 5 "gibaatww" G)
    ∷ bad 10 5 (put 5 "gibaatww" (put 2 "002" G))
    -- IBAN, 5 to 34 characters
    ∷ good (put 7 "AT881" G)
    ∷ good (put 7 "XX14A" G)
    ∷ good (put 7 "AT57111111111111111111111111111111" G)
    ∷ bad 10 7 (put 7 "AT88" G)
    ∷ bad 10 7 (put 7 "AT901111111111111111111111111111111" G)
    ∷ bad 10 7 (put 7 "A8881" G)
    ∷ bad 10 7 (put 7 "ATA81" G)
    ∷ bad 10 7 (put 7 "AT8A1" G)
    ∷ bad 10 7 (put 7 "at881" G)
    ∷ bad 10 7 (put 7 "XX14a" G)
    ∷ bad 10 7 (put 7 "AT68 2011 1310 3242 3628" G)
    -- amount
    ∷ good (put 8 "" G)
    ∷ good (put 8 "EUR0.01" G)
    ∷ good (put 8 "EUR0.2" G)
    ∷ good (put 8 "EUR0.97" G)
    ∷ good (put 8 "EUR45" G)
    ∷ good (put 8 "EUR10" G)
    ∷ good (put 8 "EUR999999999.99" G)
    ∷ bad 10 8 (put 8 "EUR.01" G)
    ∷ bad 10 8 (put 8 "EUR.5" G)
    ∷ bad 10 8 (put 8 "EUR." G)
    ∷ bad 10 8 (put 8 "EUR45." G)
    ∷ bad 10 8 (put 8 "EUR45.0" G)
    ∷ bad 10 8 (put 8 "EUR184.60" G)
    ∷ bad 10 8 (put 8 "EUR184,6" G)
    ∷ bad 10 8 (put 8 "EUR999.999.99" G)
    ∷ bad 10 8 (put 8 "EUR" G)
    ∷ bad 10 8 (put 8 "EUR0" G)
    ∷ bad 10 8 (put 8 "EUR0.0" G)
    ∷ bad 10 8 (put 8 "EUR0.00" G)
    ∷ bad 10 8 (put 8 "EUR01" G)
    ∷ bad 10 8 (put 8 "EUR00.1" G)
    ∷ bad 10 8 (put 8 "EUR000058723.01" G)
    ∷ bad 10 8 (put 8 "EUR1.234" G)
    ∷ bad 10 8 (put 8 "EUR1..5" G)
    ∷ bad 10 8 (put 8 "EUR1000000000" G)
    ∷ bad 10 8 (put 8 "eur1" G)
    ∷ bad 10 8 (put 8 "CHF1" G)
    ∷ bad 10 8 (put 8 "45" G)
    -- purpose and reference, bytes 20 to 7E only
    ∷ good (put 9 " ~" G)
    ∷ bad 10 9 (put_bytes 9 umlaut G)
    ∷ bad 10 9 (iso (put_bytes 9 space_iso G))
    ∷ bad 10 10 (put_bytes 10 umlaut G)
    ∷ bad 10 10 (iso (put_bytes 10 umlaut_iso G))
    -- 11: check digits
    ∷ bad 11 7 (put 7 "AT682011131032423629" G)
    ∷ bad 11 7 (put 7 "AT862011131032423628" G)
    ∷ good (put 7 "AT972011131032423009" G)
    ∷ bad 11 7 (put 7 "AT002011131032423009" G)
    ∷ good (put 7 "AT022011131032423070" G)
    ∷ bad 11 7 (put 7 "AT992011131032423070" G)
    -- 12: reference and text both filled
    ∷ good (put 10 "" (put 11 "457845789452" G))
    ∷ bad 12 11 (put 11 "Re 789452" G)
    ∷ bad 12 11 (put 11 "Re 789452" (take 11 G))
    -- the order: an earlier line first; on one line the smaller number; 12 after all lines
    ∷ bad 17 3 (put 3 "3" (put 4 "" G))
    ∷ bad 10 5 (put 5 "A" (put 6 "" G))
    ∷ bad 10 7 (put 7 "AT68" (put 8 "EUR" G))
    ∷ bad 9 9 (put_bytes 9 (times 5 umlaut) G)
    ∷ bad 9 12 (put 11 "A" (put_bytes 12 (times 71 umlaut) G))
    ∷ []

pub the_table : T (right girocode table)
unfolding table right verdict girocode rules iso8859 latin bill_of cut break_width passes walk bad_place characters line_feeds first_such findings first numeral remainder97 flatten
the_table = tt
