-- What is composed of a listing is the file that was listed.
use Rattle.std.proofs.Common.{◌≡◌, ℕ, ◌+◌, ◌-◌, ◌<◌, ◌≤◌, Bool, true, false, cond, not, eqb, List, [], ◌∷◌, ◌++◌, length, get_or, Some, None, Ok, Option, Result, sym, refl, ap, ◌∙◌, subst, append_assoc, arith, w8, Fits, Vec, Global}
use Rattle.std.proofs.ByRecursion.{All-from_get_or}
use Rattle.std.proofs.lemmas.List.{append-nil, length-append}
use Rattle.std.proofs.lemmas.Bool.{and_parts, not-true, or_from, le-ltb, lt-leb}
use Rattle.std.specs.List.{flat_map, AllByRecursion}
use Rattle.tariff.specs.Limits.{most_file_bytes}
use Rattle.tariff.specs.Refusals.{answer}
use Rattle.tariff.specs.declared.refusal.Refusal.{Refusal}
use Rattle.tariff.specs.declared.refusal.Refusal.TheVariants.{RecordKind}
use Rattle.unit_file.specs.Records.{Item, bytes_of, file_of}
use Rattle.unit_file.specs.Laws.{Rewritten}
use Rattle.unit_file.specs.Reading.{misplaced, Contents, contents_of}
use Rattle.unit_file.specs.Writing.{bad_note_length, bad_note_bytes, put_refusal, LawfulFrom}
use Rattle.unit_file.proofs.RoundTrip.{rewritten}
use Rattle.unit_text.specs.declared.composing.Reason.{Reason}
use Rattle.unit_text.specs.declared.composing.ComposeError.{ComposeError}
use Rattle.unit_text.specs.Lines.{text_of, lines_of, fault_line, listed}
use Rattle.unit_line.specs.Parsing.{item_in}
use Rattle.unit_text.specs.Composing.{longer, lines_in, refused_or, added_by, go_on, ended, compose_from, composed, Files, Inverse, Restored}
use Rattle.unit_text.proofs.LinesBack.{Widths, widths, plain, text_plain, item_back}

impossible : {X : Type 0} → ◌≡◌ {A = ℕ} 0 1 → X
impossible e = absurd (omega arith)

-- a line is cut off as it was written
line_cut : (text more : List ℕ) → plain text ≡ true → lines_in (text ++ (10 ∷ more)) ≡ text ∷ lines_in more
line_cut [] more p = refl
line_cut (b ∷ bs) more p =
    let d = and_parts (not (eqb b 10)) (plain bs) p in
    ap (λ (t : Bool). cond t ([] ∷ lines_in (bs ++ (10 ∷ more))) (longer b (lines_in (bs ++ (10 ∷ more))))) (not-true (eqb b 10) d.0)
    ∙ ap (longer b) (line_cut bs more d.1)

-- a record that may be written is written
writes : (place : ℕ) (item : Item) → place + length (bytes_of item) ≤ most_file_bytes → bad_note_length item ≡ false → bad_note_bytes item ≡ false → misplaced place (Some item) ≡ false →
    put_refusal place most_file_bytes item ≡ None
writes place item small long bytes order =
    let s = le-ltb most_file_bytes (place + length (bytes_of item)) small in
    let k = or_from (bad_note_bytes item) (misplaced place (Some item)) bytes order in
    rw (s, long, k)

compose_lines : (items : List Item) (line : ℕ) (file : List ℕ) → 0 < length file → 0 < length items + (length file - 1) → length file + length (flat_map bytes_of items) ≤ most_file_bytes →
    LawfulFrom (length file) items → AllByRecursion Widths items → compose_from line file (lines_in (lines_of items)) ≡ Ok (file ++ flat_map bytes_of items)
compose_lines [] line file one some small law wide =
    ap (λ (t : Bool). ended (cond t (Some (RecordKind 1)) None) file) (lt-leb (length file) 1 (omega arith)) ∙ ap Ok (sym (append-nil file))
compose_lines (item ∷ items) line file one some small law wide =
    let more : List ℕ = lines_of items in
    let b : List ℕ = bytes_of item in
    let fits = law.0 in
    let size = length-append b (flat_map bytes_of items) in
    let size' = length-append file b in
    let cut : lines_in (lines_of (item ∷ items)) ≡ text_of item ∷ lines_in more =
    ap lines_in (append_assoc (text_of item) (10 ∷ []) more) ∙ line_cut (text_of item) more (text_plain item fits.1 wide.0) in
    let adds : added_by file (item_in (text_of item)) ≡ Ok b =
    ap (added_by file) (item_back item wide.0) ∙ ap (λ (o : Option Refusal). refused_or o b) (writes (length file) item (omega arith) fits.0 fits.1 fits.2) in
    let rest = compose_lines items (line + 1) (file ++ b) (omega arith) (omega arith) (omega arith) (subst (λ (n : ℕ). LawfulFrom n items) (sym size') law.1) wide.1 in
    ap (compose_from line file) cut
    ∙ ap (λ (a : Result (List ℕ) Reason). go_on line a (λ bytes. compose_from (line + 1) (file ++ bytes) (lines_in more))) adds
    ∙ rest ∙ ap Ok (append_assoc file b (flat_map bytes_of items))

-- the bytes of each record are bytes of the file
all_left : (xs ys : List ℕ) → AllByRecursion (λ b. b < 256) (xs ++ ys) → AllByRecursion (λ b. b < 256) xs × AllByRecursion (λ b. b < 256) ys
all_left [] ys a = (tt, a)
all_left (x ∷ xs) ys a = let r = all_left xs ys a.1 in ((a.0, r.0), r.1)

all_widths : (items : List Item) → AllByRecursion (λ b. b < 256) (flat_map bytes_of items) → AllByRecursion Widths items
all_widths [] a = tt
all_widths (item ∷ items) a = let r = all_left (bytes_of item) (flat_map bytes_of items) a in (widths item r.0, all_widths items r.1)

accepted : (c : Contents) (items : List Item) → answer c.refusal c.items ≡ Ok items → listed c ≡ lines_of items
accepted c items h = by c.refusal c.items h where
  by : (o : Option Refusal) (is : List Item) → ◌≡◌ {A = Result (List Item) Refusal} (answer o is) (Ok items) → lines_of is ++ fault_line o ≡ lines_of items
  by None is e = let s : is ≡ items = cc in append-nil (lines_of is) ∙ ap lines_of s
  by (Some d) is e = impossible (cc)

pub returns_file : (bytes : List ℕ) → AllByRecursion (λ b. b < 256) bytes → Inverse bytes
returns_file bytes small items h =
    let r = rewritten bytes small items h in
    let back = r.0 in let law = r.1 in
    let a : AllByRecursion (λ b. b < 256) (file_of items) = subst (AllByRecursion (λ b. b < 256)) (sym back) small in
    let some = law.some in let fits = law.small in
    ap composed (accepted (contents_of bytes) items h)
    ∙ compose_lines items 1 (1 ∷ []) (omega arith) (omega arith) (omega arith) law.each (all_widths items a.1)
    ∙ ap Ok back

pub restores : (text : List ℕ) (answer : Result (Vec ℕ Global) ComposeError) → Files answer (composed text) → Restored text answer
restores text answer e bytes items small h same = subst (Files answer) (ap composed same ∙ returns_file bytes small items h) e

-- the bytes at hand, each of which fits a byte
all_bytes : (bs : List ℕ) → ((i : ℕ) → Fits w8 (get_or bs i 0)) → AllByRecursion (λ b. b < 256) bs
all_bytes bs typed = All-from_get_or (λ b. b < 256) bs 0 (λ i l. omega (arith, typed i))

pub rewrites : (bs : List ℕ) → ((i : ℕ) → Fits w8 (get_or bs i 0)) → Rewritten bs
rewrites bs typed = rewritten bs (all_bytes bs typed)

pub inverse : (bs : List ℕ) → ((i : ℕ) → Fits w8 (get_or bs i 0)) → Inverse bs
inverse bs typed = returns_file bs (all_bytes bs typed)
