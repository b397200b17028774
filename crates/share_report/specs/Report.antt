-- What the program `share` answers to a text.
--   row_text       a row of the table: number, units, share by Down, share by Running
--   row_of         the row of one customer
--   head_of        what stands before the rows
--   sum_text       the row of the sums
--   left_text      the row of what each rule leaves of the pool
--   foot_of        what stands after the rows
--   row            a row, of the customer's number, the units and both shares
--   table_of       the table of a pool and the units of each customer
--   table_text     the same of any shares, as far as there are units and shares by both rules
--   shares_of      the shares of one rule and what they come to, or its refusal
--   shown_word     a word as it is shown again: at most 40 bytes, others than 32 to 126 as `?`
--   bad_word       what is said of a word that is no number
--   bad_word_line  the line for a word that is no number
--   empty_line     the line for a text without words
--   refused_line   the line for a pool and units that the rules refuse
--   report_of      whether the text is accepted, and what is answered: the table, or one line
use Rattle.std.specs.Prelude.{ℕ, Bool, true, false, cond, ◌||◌, List, [], ◌∷◌, ◌++◌, map, length, take, ℤ, Some, None, Ok, Err, codes, decimal, Option, Result, nat_lt, slice_index}
use Rattle.std.specs.List.{range_with_len, flat_map, enumerate_from, zip}
use Rattle.std.specs.Fmt.{signed_decimal}
use Rattle.tariff.specs.declared.refusal.Refusal.{Refusal}
use Rattle.tariff.specs.Refusals.{words as refusal_words, answer}
use Rattle.sharing.specs.Rule.{Meaning, share_refusal, division}
use Rattle.sharing.specs.Rules.{down, running}
use Rattle.sharing.specs.declared.Division.{Division}
use Rattle.share_report.specs.Numbers.{BadWord, numbers_of}
use Rattle.text.specs.Words.{fault_words}

abbrev pub row_text : ℕ → ℕ → ℕ → ℕ → List ℕ
row_text customer units by_down by_running =
    decimal customer ++ (codes " " ++ (decimal units ++ (codes " " ++ (decimal by_down ++ (codes " " ++ (decimal by_running ++ codes "\n"))))))

abbrev pub row_of : List ℕ → List ℕ → List ℕ → ℕ → List ℕ
row_of units by_down by_running k = row_text k (slice_index units k) (slice_index by_down k) (slice_index by_running k)

abbrev pub head_of : ℕ → List ℕ
head_of pool = codes "pool " ++ (decimal pool ++ codes "\ncustomer units down running\n")

abbrev pub sum_text : ℕ → ℕ → ℕ → List ℕ
sum_text units by_down by_running = codes "sum " ++ (decimal units ++ (codes " " ++ (decimal by_down ++ (codes " " ++ (decimal by_running ++ codes "\n")))))

abbrev pub left_text : ℤ → ℤ → List ℕ
left_text by_down by_running = codes "left over " ++ (signed_decimal by_down ++ (codes " " ++ (signed_decimal by_running ++ codes "\n")))

-- the sums, and what each rule leaves of the pool
abbrev pub foot_of : Division → Division → List ℕ
foot_of d r = sum_text d.units d.shares r.shares ++ left_text d.left r.left

-- one row of a table: the customer's number, the units, and the shares by both rules
abbrev pub row : ℕ × (ℕ × (ℕ × ℕ)) → List ℕ
row r = row_text r.0 r.1.0 r.1.1.0 r.1.1.1

abbrev pub table_text : ℕ → List ℕ → List ℕ × Division → List ℕ × Division → List ℕ
table_text pool units d r =
    (head_of pool ++ flat_map row (enumerate_from 0 (zip units (zip d.0 r.0)))) ++ foot_of d.1 r.1

abbrev pub table_of : ℕ → List ℕ → List ℕ
table_of pool units =
    (head_of pool ++ flat_map (row_of units (down pool units) (running pool units)) (range_with_len 0 (length units)))
    ++ foot_of (division down pool units) (division running pool units)

-- the shares of a rule and what they come to, or the rule's refusal
abbrev pub shares_of : Meaning → ℕ → List ℕ → Result (List ℕ × Division) Refusal
shares_of m pool units = answer (share_refusal pool units (length units)) (m pool units, division m pool units)

abbrev pub shown_byte : ℕ → ℕ
shown_byte b = cond (nat_lt b 32 || nat_lt 126 b) 63 b

abbrev pub shown_word : List ℕ → List ℕ
shown_word w = map shown_byte (take 40 w)

abbrev pub bad_word : BadWord → List ℕ
bad_word e = codes "word " ++ (decimal e.place ++ (codes ", \"" ++ (shown_word e.word ++ (codes "\", " ++ fault_words e.fault))))

abbrev pub bad_word_line : BadWord → List ℕ
bad_word_line e = codes "share: word " ++ (decimal e.place ++ (codes ", \"" ++ (shown_word e.word ++ (codes "\", " ++ (fault_words e.fault ++ codes "\n")))))

abbrev pub empty_line : List ℕ
empty_line = codes "share: word 1 is missing: the pool in cents, and after it the units of each customer\n"

abbrev pub refused_line : Refusal → List ℕ
refused_line e = codes "share: " ++ (refusal_words e ++ codes "\n")

abbrev pub divided_by : Option Refusal → ℕ → List ℕ → Bool × List ℕ
divided_by (Some e) pool units = (false, refused_line e)
divided_by None pool units = (true, table_of pool units)

abbrev pub answered : Result (List ℕ) BadWord → Bool × List ℕ
answered (Err e) = (false, bad_word_line e)
answered (Ok []) = (false, empty_line)
answered (Ok (pool ∷ units)) = divided_by (share_refusal pool units (length units)) pool units

abbrev pub report_of : List ℕ → Bool × List ℕ
report_of text = answered (numbers_of text)
