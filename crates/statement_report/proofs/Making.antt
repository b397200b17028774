-- The text of a statement, made line by line.
use Rattle.std.proofs.Common.{◌≡◌, ℕ, zero, suc, ◌+◌, ◌<◌, ◌≤◌, false, ltb, List, [], ◌∷◌, length, get_or, take, replicate, Some, None, Ok, Err, Option, Result, sym, refl, ap, ◌∙◌, subst, inl, inr, add-one, arith}
use Rattle.std.proofs.lemmas.List.{length-append}
use Rattle.std.proofs.lemmas.Bool.{cases_eq, le-ltb}
use Rattle.tariff.specs.declared.refusal.Refusal.{Refusal}
use Rattle.std.specs.Result.{IsOk}
use Rattle.tariff.specs.Refusals.{answer, unless}
use Rattle.lines.specs.Lines.{line_of}
use Rattle.buffer.specs.Putting.{pasted, put_refusal}
use Rattle.buffer.proofs.Pasting.{pasted_twice, take_pasted}
use Rattle.tariff.specs.declared.rows.Sizes.{Sizes}
use Rattle.tariff.specs.declared.rows.UnitRow.{UnitRow}
use Rattle.tariff.specs.declared.rows.CostRow.{CostRow}
use Rattle.tariff.specs.Limits.{contributors}
use Rattle.lines.specs.Rows.{no_units, no_cost}
use Rattle.book_rules.specs.Machine.{Book}
use Rattle.book_rules.specs.Run.{State, closed}
use Rattle.settling.specs.Settling.{file_sizes, Settlement, settlement, settled}
use Rattle.line_rows.specs.Writing.{most_rows}
use Rattle.statement_report.specs.Statement.{unit_room, cost_room, line_rows, behind, lines_upto, most_bytes, lines_of, refused_text, Told, by_book, by_sizes, text_of, by_text, statement_of, told, Makes}
use Rattle.statement_report.specs.declared.Statement.{Statement}

-- a text pasted at the start of a buffer stands in the part up to its end
pub front_is : (before after text : List ℕ) (end : ℕ) → end ≡ 0 + length text → after ≡ pasted before 0 text → take end after ≡ text
front_is before after text end at is = ap (take end) is ∙ ap (λ (k : ℕ). take k (pasted before 0 text)) at ∙ take_pasted before text 0 (omega arith)

-- a text that has room in a buffer is put there
pub put_at : (out after text : List ℕ) (place at : ℕ) (r : Result ℕ Refusal) → place + length text ≤ length out → r ≡ answer (put_refusal (length out) place text) (place + length text) →
    after ≡ unless (put_refusal (length out) place text) out (pasted out place text) → r ≡ Ok at → Makes (Ok text) out place (Ok at) after
put_at out after text place at r room answers left ok =
    let fits : ltb (length out) (place + length text) ≡ false = le-ltb (length out) (place + length text) room in
    let none : put_refusal (length out) place text ≡ None = rw fits refl in
    (sym ok ∙ answers ∙ ap (λ (o : Option Refusal). answer o (place + length text)) none, left ∙ ap (λ (o : Option Refusal). unless o out (pasted out place text)) none)

pub has_room : (room place : ℕ) (text : List ℕ) (r : Result ℕ Refusal) → place + length text ≤ room → r ≡ answer (put_refusal room place text) (place + length text) → IsOk r
has_room room place text r fit answers =
    let fits : ltb room (place + length text) ≡ false = le-ltb room (place + length text) fit in
    let none : put_refusal room place text ≡ None = rw fits refl in
    subst IsOk (sym (answers ∙ ap (λ (o : Option Refusal). answer o (place + length text)) none)) refl

-- a text made behind another
pub more : (start mid after : List ℕ) (place : ℕ) (r : Result ℕ Refusal) (t u : Result (List ℕ) Refusal) → Makes t start 0 (Ok place) mid → Makes u mid place r after → Makes (behind t u) start 0 r after
more start mid after place r (Err e) u had has = let z : ◌≡◌ {A = ℕ} 0 1 = cc in absurd (omega arith)
more start mid after place r (Ok t) (Err e) had has = has
more start mid after place r (Ok t) (Ok u) had has =
    let at : place ≡ 0 + length t = cc had.0 in (
      has.0 ∙ ap (λ (k : ℕ). Ok k) (omega (arith, length-append t u)),
      has.1 ∙ ap (λ (m : List ℕ). pasted m place u) had.1 ∙ ap (λ (k : ℕ). pasted (pasted start 0 t) k u) at ∙ pasted_twice start t u 0 (omega arith),
    )

-- bytes that the rows of the lines before one never pass
abbrev pub bytes_before : ℕ → ℕ
bytes_before n = get_or (0 ∷ 0 ∷ 6523 ∷ 13046 ∷ 25713 ∷ 38380 ∷ 51047 ∷ 57570 ∷ 64093 ∷ []) n 0

pub next_fits : (n : ℕ) → 1 ≤ n → n < 8 → (bytes_before n + most_rows n ≤ bytes_before (n + 1)) × (bytes_before (n + 1) ≤ 64093)
unfolding line_of
next_fits zero one lt = absurd (omega arith)
next_fits (suc zero) one lt = (omega arith, omega arith)
next_fits (suc (suc zero)) one lt = (omega arith, omega arith)
next_fits (suc (suc (suc zero))) one lt = (omega arith, omega arith)
next_fits (suc (suc (suc (suc zero)))) one lt = (omega arith, omega arith)
next_fits (suc (suc (suc (suc (suc zero))))) one lt = (omega arith, omega arith)
next_fits (suc (suc (suc (suc (suc (suc zero)))))) one lt = (omega arith, omega arith)
next_fits (suc (suc (suc (suc (suc (suc (suc zero))))))) one lt = (omega arith, omega arith)
next_fits (suc (suc (suc (suc (suc (suc (suc (suc n)))))))) one lt = absurd (omega arith)

-- the lines before one, as a loop that counts from line 1 has them
abbrev pub lines_before : State → ℕ → Result (List ℕ) Refusal
lines_before s zero = Ok []
lines_before s (suc n) = lines_upto s n

-- one line more
pub line_next : (s : State) (n : ℕ) (start mid after : List ℕ) (place : ℕ) (r : Result ℕ Refusal) → 1 ≤ n → Makes (lines_before s n) start 0 (Ok place) mid → Makes (line_rows s n) mid place r after → Makes (lines_before s (n + 1)) start 0 r after
line_next s zero start mid after place r one so next = absurd (omega arith)
line_next s (suc n) start mid after place r one so next =
    subst (λ (k : ℕ). Makes (lines_before s k) start 0 r after) (sym (add-one (suc n))) (more start mid after place r (lines_upto s n) (line_rows s (suc n)) so next)

-- a refused line is the end of it
refusal_stays : (s : State) (e : Refusal) (n m : ℕ) → n ≤ m → lines_upto s n ≡ Err e → lines_upto s m ≡ Err e
refusal_stays s e n zero le h = let none : n ≡ 0 = omega arith in subst (λ (k : ℕ). lines_upto s k ≡ Err e) none h
refusal_stays s e n (suc m) le h = elim (cases_eq n (suc m)) [
  | inl same ↦ subst (λ (k : ℕ). lines_upto s k ≡ Err e) same h
  | inr less ↦ ap (λ (t : Result (List ℕ) Refusal). behind t (line_rows s (suc m))) (refusal_stays s e n m (omega arith) h)
]

refused_is : (t : Result (List ℕ) Refusal) (start after : List ℕ) (e : Refusal) → Makes t start 0 (Err e) after → t ≡ Err e
refused_is (Ok text) start after e h = let z : ◌≡◌ {A = ℕ} 0 1 = cc h.0 in absurd (omega arith)
refused_is (Err d) start after e h = let same : d ≡ e = cc in ap (λ (x : Refusal). Err x) same

pub refused_ends : (s : State) (n : ℕ) (start after last : List ℕ) (e : Refusal) → n ≤ 8 → Makes (lines_before s n) start 0 (Err e) after → Makes (lines_upto s 7) start 0 (Err e) last
refused_ends s zero start after last e le h = let z : ◌≡◌ {A = ℕ} 0 1 = cc in absurd (omega arith)
refused_ends s (suc n) start after last e le h =
    subst (λ (t : Result (List ℕ) Refusal). Makes t start 0 (Err e) last) (sym (refusal_stays s e n 7 (omega arith) (refused_is (lines_upto s n) start after e h))) refl

-- the lines of a settled book are those of its file
pub settled_lines : (bytes : List ℕ) (z : Sizes) (b : Book) (us : List UnitRow) (cs : List CostRow) (ms : List ℕ) → Ok z ≡ file_sizes bytes →
    ◌≡◌ {A = Settlement} (record { outcome = Ok b; units = us; costs = cs; marks = ms }) (settlement z (replicate unit_room no_units) (replicate cost_room no_cost) (replicate contributors 0) bytes) → lines_of (closed b us cs ms) ≡ text_of bytes
settled_lines bytes z b us cs ms sizes whole = ap (λ (x : Settlement). by_book (settled x)) whole ∙ ap (λ (x : Result Sizes Refusal). by_sizes x bytes) sizes

pub not_settled : (bytes : List ℕ) (z : Sizes) (e : Refusal) (us : List UnitRow) (cs : List CostRow) (ms : List ℕ) → Ok z ≡ file_sizes bytes →
    ◌≡◌ {A = Settlement} (record { outcome = Err e; units = us; costs = cs; marks = ms }) (settlement z (replicate unit_room no_units) (replicate cost_room no_cost) (replicate contributors 0) bytes) → Err e ≡ text_of bytes
not_settled bytes z e us cs ms sizes whole = ap (λ (x : Settlement). by_book (settled x)) whole ∙ ap (λ (x : Result Sizes Refusal). by_sizes x bytes) sizes

-- what is told of a text that was made in a buffer to work in
pub made_text : (t : Result (List ℕ) Refusal) (work work' : List ℕ) (end : ℕ) → Makes t work 0 (Ok end) work' → by_text t ≡ (None, take end work')
made_text (Err e) work work' end h = let z : ◌≡◌ {A = ℕ} 0 1 = cc in absurd (omega arith)
made_text (Ok text) work work' end h =
    let at : end ≡ 0 + length text = cc h.0 in
    let tell : List ℕ → Told = λ x. (None, x) in
    ap tell (sym (front_is work work' text end at h.1))

pub refused_text_is : (t : Result (List ℕ) Refusal) (work work' : List ℕ) (e : Refusal) → Makes t work 0 (Err e) work' → by_text t ≡ (Some e, refused_text e)
refused_text_is t work work' e h = ap by_text (refused_is t work work' e h)

-- what the call answers and leaves follows from what is told
pub told_so : (file out after text : List ℕ) (refusal : Option Refusal) (r : Result Statement Refusal) → statement_of file ≡ (refusal, text) → length text ≤ most_bytes →
    r ≡ answer (put_refusal (length out) 0 text) (told (refusal, text)) → after ≡ unless (put_refusal (length out) 0 text) out (pasted out 0 text) →
    (r ≡ answer (put_refusal (length out) 0 (statement_of file).1) (told (statement_of file)))
    × (after ≡ unless (put_refusal (length out) 0 (statement_of file).1) out (pasted out 0 (statement_of file).1))
    × (length (statement_of file).1 ≤ most_bytes)
told_so file out after text refusal r is short answers left = (
  answers ∙ sym (ap (λ (x : Told). answer (put_refusal (length out) 0 x.1) (told x)) is),
  left ∙ sym (ap (λ (x : Told). unless (put_refusal (length out) 0 x.1) out (pasted out 0 x.1)) is),
  subst (λ (x : Told). length x.1 ≤ most_bytes) (sym is) short,
)
