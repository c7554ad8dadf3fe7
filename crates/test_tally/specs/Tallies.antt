-- What a line adds to the tally. Definitions only.
use Rattle.std.specs.Prelude.{ℕ, zero, suc, ◌+◌, ◌-◌, ◌*◌, ◌/◌, ◌%◌, ◌^◌, Bool, true, false, cond, ◌&&◌, List, [], ◌++◌, length, take, drop, codes, replicate, ◌==◌, nat_lt, slice_index, slice_set}
use Rattle.std.specs.Fmt.{decimal, digits}
use Rattle.test_tally.specs.declared.tally.Tally.{Tally}

-- a count as a u64, which no list brings to its end
abbrev pub more : ℕ → ℕ
more n = (n + 1) % 2 ^ 64

abbrev pub fresh_of : Tally
fresh_of = record { agreed = replicate 32 0; all_agreed = 0; differed = 0; malformed = 0; ended = false }

-- how many lines of the k-th function agreed: 32 functions have a count
abbrev pub agreed_at : Tally → ℕ → ℕ
agreed_at t k = cond (nat_lt k 32) (slice_index t.agreed k) 0

-- a line of the k-th function agrees
abbrev pub agree_of : Tally → ℕ → Tally
agree_of t k =
    record {
      agreed = cond (nat_lt k 32) (slice_set t.agreed k (more (slice_index t.agreed k))) t.agreed;
      all_agreed = more t.all_agreed;
      differed = t.differed;
      malformed = t.malformed;
      ended = t.ended;
    }

abbrev pub differ_of : Tally → Tally
differ_of t = record { agreed = t.agreed; all_agreed = t.all_agreed; differed = more t.differed; malformed = t.malformed; ended = t.ended }

abbrev pub refuse_of : Tally → Tally
refuse_of t = record { agreed = t.agreed; all_agreed = t.all_agreed; differed = t.differed; malformed = more t.malformed; ended = t.ended }

abbrev pub end_of : Tally → Tally
end_of t = record { agreed = t.agreed; all_agreed = t.all_agreed; differed = t.differed; malformed = t.malformed; ended = true }

-- whether no line differed and none was malformed
abbrev pub flawless : Tally → Bool
flawless t = t.differed == 0 && t.malformed == 0

-- whether one more line that is wrong is shown: fewer than 20 were wrong before
abbrev pub shown_at : Tally → Bool
shown_at t = nat_lt ((t.differed + t.malformed) % 2 ^ 64) 20

-- ---- what is written
-- a malformed line, and an empty line after it
abbrev pub malformed_text : Tally → List ℕ → List ℕ
malformed_text t line = cond (shown_at t) (codes "malformed: " ++ line ++ codes "\n") []

-- 16 hexadecimal digits, with zeros in front
abbrev pub hex_text : ℕ → List ℕ
hex_text w = let d = digits 16 false w in replicate (16 - length d) 48 ++ d

-- the word that came
abbrev pub got_text : ℕ → List ℕ
got_text got = codes "    got: " ++ hex_text got ++ codes "\n"

-- a line that differs, and the word that came
abbrev pub difference_text : Tally → List ℕ → ℕ → List ℕ
difference_text t line got = cond (shown_at t) (codes "differs: " ++ line ++ got_text got) []

-- a name, and how many lines of its function agreed
abbrev pub count_text : List ℕ → ℕ → List ℕ
count_text name n = name ++ codes " " ++ decimal n ++ codes "\n"

-- the lines of the first n functions
abbrev pub counts_text : Tally → List ℕ → ℕ → List ℕ
counts_text t names zero = []
counts_text t names (suc n) = counts_text t names n ++ count_text (take 16 (drop (16 * n) names)) (agreed_at t n)

abbrev pub sums_text : Tally → List ℕ
sums_text t = decimal t.all_agreed ++ codes " lines agree, " ++ decimal t.differed ++ codes " differ, " ++ decimal t.malformed ++ codes " malformed\n"

-- names stand behind each other in 16 columns each
abbrev pub report_text : Tally → List ℕ → List ℕ
report_text t names = counts_text t names (length names / 16) ++ sums_text t
