-- A column that a rule has filled, the table of two such columns, the line of an owned error, and what such an error
-- keeps. Assumes nothing.
use Rattle.std.proofs.Common.{◌≡◌, ℕ, suc, ◌+◌, ◌<◌, Bool, true, false, List, [], ◌∷◌, ◌++◌, length, get_or, map, take, codes, decimal, Ok, Err, Option, Result, sym, refl, ap, ◌∙◌, append_assoc, arith, Global}
use Rattle.std.specs.List.{range_with_len, flat_map, enumerate_from, zip}
use Rattle.std.proofs.lemmas.List.{take-take}
use Rattle.tariff.proofs.Refused.{ok_tells, err_tells}
use Rattle.tariff.specs.declared.refusal.Refusal.{Refusal}
use Rattle.tariff.specs.Refusals.{words as refusal_words, answer}
use Rattle.text.specs.Words.{fault_words}
use Rattle.sharing.specs.declared.Division.{Division}
use Rattle.sharing.specs.Rule.{share_refusal, division}
use Rattle.sharing.specs.Rules.{down, running}
use Rattle.sharing.specs.Laws.{down_lawful, running_lawful}
use Rattle.share_report.specs.declared.error.Misread.{Misread as Misreading}
use Rattle.share_report.specs.declared.error.ShareError.{ShareError}
use Rattle.share_report.specs.declared.error.ShareError.TheVariants.{Misread as BorrowedMisread, NothingToShare as BorrowedNothing, Refused as BorrowedRefused, OutOfMemory as BorrowedOutOfMemory}
use Rattle.share_report.specs.declared.owned.OwnedMisread.{OwnedMisread}
use Rattle.share_report.specs.declared.owned.OwnedShareError.{OwnedShareError}
use Rattle.share_report.specs.declared.owned.OwnedShareError.TheVariants.{Misread, NothingToShare, Refused, OutOfMemory}
use Rattle.share_report.specs.Numbers.{BadWord, shown_bad, cut_short}
use Rattle.share_report.specs.Report.{row_text, row_of, row, head_of, foot_of, table_text, shares_of, shown_byte, shown_word, bad_word, divided_by, answered}
use Rattle.share_report.specs.Errors.{error_words}
use Rattle.share_report.specs.Shown.{Answers}
use Rattle.share_report.specs.Owned.{shown_owned, owned_words, OwnedReads, OwnedDivides, OwnedAnswers, KeepsWord, Keeps}

-- rows from a customer on, by the entries or by their numbers
rows_from : (f : ℕ → List ℕ) (k : ℕ) (us ds rs : List ℕ) → length ds ≡ length us → length rs ≡ length us →
    ((i j : ℕ) → j ≡ k + i → i < length us → f j ≡ row_text j (get_or us i 0) (get_or ds i 0) (get_or rs i 0)) →
    flat_map row (enumerate_from k (zip us (zip ds rs))) ≡ flat_map f (range_with_len k (length us))
rows_from f k [] ds rs d r h = refl
rows_from f k (u ∷ us) [] rs d r h = absurd (omega (arith, d))
rows_from f k (u ∷ us) (x ∷ ds) [] d r h = absurd (omega (arith, r))
rows_from f k (u ∷ us) (x ∷ ds) (y ∷ rs) d r h =
    let first : f k ≡ row_text k u x y = h 0 k (omega arith) (omega arith) in
    let more = rows_from f (k + 1) us ds rs (omega arith) (omega arith)
    (λ i j e l. h (suc i) j (omega arith) (omega arith)) in
    ap (λ t. t ++ flat_map row (enumerate_from (k + 1) (zip us (zip ds rs)))) (sym first) ∙ ap (λ t. f k ++ t) more

-- the table of what both rules give
pub tabled : (pool : ℕ) (units : List ℕ) (d r : List ℕ × Division) (text : List ℕ) → Ok d ≡ shares_of down pool units → Ok r ≡ shares_of running pool units → text ≡ table_text pool units d r →
    (true, text) ≡ divided_by (share_refusal pool units (length units)) pool units
tabled pool units d r text ed er et =
    let none = share_refusal pool units (length units) in
    let td = ok_tells none d (down pool units, division down pool units) ed in
    let tr = ok_tells none r (running pool units, division running pool units) er in
    let rows = rows_from (row_of units (down pool units) (running pool units)) 0 units (down pool units) (running pool units) (down_lawful.many pool units) (running_lawful.many pool units) (λ i j e l. let same : j ≡ i = omega arith in rw same refl) in
    ap (λ t. (true, t)) (et ∙ ap (λ x. table_text pool units x r) td.1 ∙ ap (table_text pool units (down pool units, division down pool units)) tr.1
    ∙ ap (λ t. (head_of pool ++ t) ++ foot_of (division down pool units) (division running pool units)) rows)
    ∙ sym (ap (λ o. divided_by o pool units) td.0)

-- what is said of a word that is cut to what is shown of it is what is said of the word
answered_cut : (means : Result (List ℕ) BadWord) → answered (cut_short means) ≡ answered means
answered_cut (Ok ns) = refl
answered_cut (Err e) =
    ap (λ w. (false, codes "share: word " ++ (decimal e.place ++ (codes ", \"" ++ (map shown_byte w ++ (codes "\", " ++ (fault_words e.fault ++ codes "\n")))))))
    (take-take 40 40 e.word (omega arith))

-- the words for a bad word and a line end are its line
bad_line : (place word fault : List ℕ) →
    (codes "share: " ++ (codes "word " ++ (place ++ (codes ", \"" ++ (word ++ (codes "\", " ++ fault)))))) ++ codes "\n"
    ≡ codes "share: word " ++ (place ++ (codes ", \"" ++ (word ++ (codes "\", " ++ (fault ++ codes "\n")))))
bad_line place word fault =
    ap (λ t. codes "share: word " ++ t)
    (append_assoc place (codes ", \"" ++ (word ++ (codes "\", " ++ fault))) (codes "\n")
    ∙ ap (λ t. place ++ (codes ", \"" ++ t)) (append_assoc word (codes "\", " ++ fault) (codes "\n")))

-- a text whose numbers were not read is answered by the line of the error
pub not_read : (e : OwnedShareError) (means : Result (List ℕ) BadWord) → OwnedReads {Z = Global} (Err e) means → OwnedAnswers {Z = Global} (Err e) (answered means)
not_read (Misread m) means h =
    ap (λ t. (false, t)) (bad_line (decimal m.place) (shown_word (take m.word.length m.word.bytes)) (fault_words m.fault)) ∙ ap answered h ∙ answered_cut means
not_read NothingToShare means h = absurd h
not_read (Refused r) means h = absurd h
not_read OutOfMemory means h = h

-- what a rule refused is answered by the line of the error
pub not_divided : (e : OwnedShareError) (o : Option Refusal) (x : List ℕ × Division) (pool : ℕ) (units : List ℕ) → OwnedDivides (Err e) (answer o x) → OwnedAnswers {Z = Global} (Err e) (divided_by o pool units)
not_divided (Misread m) o x pool units h = absurd h
not_divided NothingToShare o x pool units h = absurd h
not_divided (Refused r) o x pool units h =
    ap (λ t. (false, t)) (append_assoc (codes "share: ") (refusal_words r) (codes "\n")) ∙ sym (ap (λ t. divided_by t pool units) (err_tells o r x h))
not_divided OutOfMemory o x pool units h = h

-- what is said of a word that was read
abbrev said : Result (List ℕ) BadWord → List ℕ
said (Ok ns) = []
said (Err e) = bad_word e

-- an owned bad word is told in the words for the bad word, since nothing behind its first 40 bytes is shown
pub word_told : (m : Misreading) (o : OwnedMisread) → KeepsWord m o → bad_word (shown_owned o) ≡ bad_word (shown_bad m)
word_told m o kept =
    ap said kept.0
    ∙ ap (λ w. codes "word " ++ (decimal m.place ++ (codes ", \"" ++ (map shown_byte w ++ (codes "\", " ++ fault_words m.fault)))))
    (take-take 40 40 m.word.now (omega arith))

-- an owned error is told in the words for the error that it was made from
pub error_told : (e : ShareError) (o : OwnedShareError) → Keeps e o → owned_words o ≡ error_words e
error_told (BorrowedMisread m) o kept = ap owned_words kept.1 ∙ ap (λ t. codes "share: " ++ t) (word_told m kept.0 kept.2)
error_told BorrowedNothing o kept = ap owned_words kept
error_told (BorrowedRefused r) o kept = ap owned_words kept
error_told BorrowedOutOfMemory o kept = ap owned_words kept

-- an answer is kept where its error is
pub answer_kept : (e : ShareError) (o : OwnedShareError) (means : Bool × List ℕ) → Keeps e o → Answers {Z = Global} (Err e) means → OwnedAnswers {Z = Global} (Err o) means
answer_kept (BorrowedMisread m) o means kept h =
    rw kept.1 (ap (λ t. (false, (codes "share: " ++ t) ++ codes "\n")) (word_told m kept.0 kept.2) ∙ h)
answer_kept BorrowedNothing o means kept h = rw kept h
answer_kept (BorrowedRefused r) o means kept h = rw kept h
answer_kept BorrowedOutOfMemory o means kept h = rw kept h
