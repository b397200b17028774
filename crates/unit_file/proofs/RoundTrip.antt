-- The two laws: an accepted file is rewritten as it was, and a lawful file reads back as it was
-- written.
use Rattle.std.proofs.Common.{◌≡◌, ℕ, zero, suc, ◌+◌, ◌-◌, ◌<◌, ◌≤◌, Bool, true, false, cond, eqb, ltb, leb, List, [], ◌∷◌, ◌++◌, length, drop, Some, None, Ok, Err, Option, Result, sym, refl, ap, ◌∙◌, subst, append_assoc, arith, drop-cons}
use Rattle.std.proofs.ByRecursion.{All-drop}
use Rattle.std.proofs.lemmas.List.{drop_all, drop-drop, length-drop, length-append, length-take-le, drop_at, take_at}
use Rattle.std.proofs.lemmas.Bool.{or_from, lt-leb, le-ltb, ne_eqb, not_from_true}
use Rattle.std.proofs.lemmas.Bool.Decides.{nat_tests}
use Rattle.std.specs.List.{flat_map, AllByRecursion}
use Rattle.tariff.specs.Limits.{most_file_bytes}
use Rattle.tariff.specs.Refusals.{answer, first_of}
use Rattle.tariff.specs.declared.refusal.Refusal.{Refusal}
use Rattle.tariff.specs.declared.refusal.Refusal.TheVariants.{NoUnitFile, RecordLength, RecordKind}
use Rattle.unit_file.specs.Records.{Item, header, unit, cost, note, kind_of, fields_of, bytes_of, file_of}
use Rattle.unit_file.specs.Reading.{length_in, kind_in, fields_in, item_by, item_in, fits_kind, bad_length, bad_kind, record_in, some, after, record_at, misplaced, in_order, ordered_at, place_in_order, open_refusal, Contents, go_on, contents_from, begun}
use Rattle.unit_file.specs.Writing.{bad_note_length, bad_note_bytes, LawfulFrom, Lawful}
use Rattle.unit_file.specs.Laws.{Rewritten, ReadBack}
use Rattle.unit_file.proofs.Fields.{two_back, item_back}
use Rattle.unit_file.proofs.Walk.{Answer, in_order_tells, was_read, was_end, is_whole, advances, bytes_back, past_end, opened}

impossible : {X : Type 0} → ◌≡◌ {A = ℕ} 0 1 → X
impossible e = absurd (omega arith)

-- a record that the reader takes is one that the writer writes, and the other way round
well_made : (kind : ℕ) (f : List ℕ) → fits_kind kind (1 + length f) ≡ true → bad_kind kind f ≡ false →
    (bad_note_length (item_by kind f) ≡ false) × (bad_note_bytes (item_by kind f) ≡ false)
well_made zero f fits known = (refl, refl)
well_made (suc zero) f fits known = (refl, refl)
well_made (suc (suc zero)) f fits known = (refl, refl)
well_made (suc (suc (suc zero))) f fits known = (grind (arith, nat_tests), known)
well_made (suc (suc (suc (suc n)))) f fits known = impossible (grind (arith, nat_tests))

item_fits : (item : Item) → bad_note_length item ≡ false → fits_kind (kind_of item) (1 + length (fields_of item)) ≡ true
item_fits (header s) h = refl
item_fits (unit r) h = refl
item_fits (cost r) h = refl
item_fits (note bytes) h = grind (arith, nat_tests)

item_known : (item : Item) → bad_note_bytes item ≡ false → bad_kind (kind_of item) (fields_of item) ≡ false
item_known (header s) h = refl
item_known (unit r) h = refl
item_known (cost r) h = refl
item_known (note bytes) h = h

-- what one step of a walk over an accepted file gives
record Step (bs : List ℕ) (place : ℕ) (item : Item) : Type 0 where
  bytes : drop place bs ≡ bytes_of item ++ drop (place_in_order bs place) bs
  next : place_in_order bs place ≡ place + length (bytes_of item)
  fits : (bad_note_length item ≡ false) × (bad_note_bytes item ≡ false) × (misplaced place (Some item) ≡ false)

step : (bs : List ℕ) (place : ℕ) (item : Item) → AllByRecursion (λ b. b < 256) bs → ordered_at bs place ≡ Ok (Some item) → Step bs place item
step bs place item small h =
    let rest : List ℕ = drop place bs in
    let r = was_read bs place item h in
    let w = is_whole rest r.long in
    let a = advances bs place item h in
    let inside = w.inside in let positive = w.some in
    let raw = bytes_back rest (All-drop (λ b. b < 256) place bs small) r.long r.known in
    let says = r.says in
    let back : rest ≡ bytes_of item ++ drop (2 + length_in rest) rest = rw says at raw in
    let long : length rest ≡ length (bytes_of item) + length (drop (2 + length_in rest) rest) = ap length back ∙ length-append (bytes_of item) (drop (2 + length_in rest) rest) in
    let tail = length-drop (2 + length_in rest) rest in
    let size : length (bytes_of item) ≡ 2 + length_in rest = omega arith in
    let nxt = a.0 in
    let on : drop (2 + length_in rest) rest ≡ drop (place_in_order bs place) bs = drop-drop (2 + length_in rest) place bs ∙ ap (λ (n : ℕ). drop n bs) (sym nxt) in
    let fields : 1 + length (fields_in rest) ≡ length_in rest = omega (arith, length-take-le (length_in rest - 1) (drop 3 rest) (omega (arith, length-drop 3 rest))) in
    let made = well_made (kind_in rest) (fields_in rest) (rw fields w.kind) r.known in
    record { bytes = back ∙ ap (λ (ys : List ℕ). bytes_of item ++ ys) on; next = omega arith; fits = (rw says at made.0, rw says at made.1, r.fits) }

-- a walk over what is accepted: the bytes come back, and the records are lawful
abbrev Walked : List ℕ → ℕ → Contents → Type 0
Walked bs place c = (drop place bs ≡ flat_map bytes_of c.items) × LawfulFrom place c.items

walk_by : (bs : List ℕ) (place n : ℕ) (o : Answer) → ordered_at bs place ≡ o →
    AllByRecursion (λ b. b < 256) bs → (go_on o (contents_from n bs (place_in_order bs place))).refusal ≡ None →
    ((item : Item) → o ≡ Ok (Some item) → Walked bs (place_in_order bs place) (contents_from n bs (place_in_order bs place))) →
    Walked bs place (go_on o (contents_from n bs (place_in_order bs place)))
walk_by bs place n (Err e) h small none more = impossible (cc)
walk_by bs place n (Ok None) h small none more = (drop_all place bs (was_end bs place h), tt)
walk_by bs place n (Ok (Some item)) h small none more =
    let s = step bs place item small h in
    let m = more item refl in
    let next = s.next in
    (s.bytes ∙ ap (λ (ys : List ℕ). bytes_of item ++ ys) m.0, (s.fits, subst (λ (p : ℕ). LawfulFrom p (contents_from n bs (place_in_order bs place)).items) next m.1))

walk : (n : ℕ) (bs : List ℕ) (place : ℕ) → AllByRecursion (λ b. b < 256) bs → length bs < place + n → place ≤ length bs →
    (contents_from n bs place).refusal ≡ None → Walked bs place (contents_from n bs place)
walk zero bs place small far inside none = absurd (omega arith)
walk (suc n) bs place small far inside none =
    walk_by bs place n (ordered_at bs place) refl small none
    (λ item h. let a = advances bs place item h in let p = a.1 in let q = a.2 in
    walk n bs (place_in_order bs place) small (omega arith) q (rest_none item h none))
  where
    rest_none : (item : Item) → ordered_at bs place ≡ Ok (Some item) → (contents_from (suc n) bs place).refusal ≡ None → (contents_from n bs (place_in_order bs place)).refusal ≡ None
    rest_none item h e = sym (ap (λ (o : Answer). (go_on o (contents_from n bs (place_in_order bs place))).refusal) h) ∙ e

some_by : (bs : List ℕ) (c : Contents) (o : Answer) → ordered_at bs 1 ≡ o → (go_on o c).refusal ≡ None → 0 < length (go_on o c).items
some_by bs c (Err e) h none = impossible (cc)
some_by bs c (Ok None) h none = let m = (in_order_tells 1 (record_at bs 1) None h).1 in impossible (cc)
some_by bs c (Ok (Some item)) h none = omega arith

-- the header is there
some_there : (n : ℕ) (bs : List ℕ) → 0 < n → (contents_from n bs 1).refusal ≡ None → 0 < length (contents_from n bs 1).items
some_there zero bs p none = absurd (omega arith)
some_there (suc n) bs p none = some_by bs (contents_from n bs (place_in_order bs 1)) (ordered_at bs 1) refl none

rewritten_by : (o : Option Refusal) (bytes : List ℕ) (items : List Item) → open_refusal bytes ≡ o → AllByRecursion (λ b. b < 256) bytes →
    answer (begun o (contents_from (length bytes) bytes 1)).refusal (begun o (contents_from (length bytes) bytes 1)).items ≡ Ok items →
    (file_of items ≡ bytes) × Lawful items
rewritten_by (Some e) bytes items fine small h = impossible (cc)
rewritten_by None bytes items fine small h =
    let c : Contents = contents_from (length bytes) bytes 1 in
    let a = opened bytes fine in
    let some = a.0 in
    let r = answered c.refusal c.items items h in
    let w = walk (length bytes) bytes 1 small (omega arith) some r.0 in
    let same : c.items ≡ items = r.1 in
    let back : file_of items ≡ bytes = sym (drop-cons bytes 0 0 some ∙ ap (λ (b : ℕ). b ∷ drop 1 bytes) a.2 ∙ ap (λ (ys : List ℕ). 1 ∷ ys) w.0 ∙ ap file_of same) in
    (back, record { some = subst (λ (is : List Item). 0 < length is) same (some_there (length bytes) bytes some r.0); each = subst (λ (is : List Item). LawfulFrom 1 is) same w.1; small = subst (λ (bs : List ℕ). length bs ≤ most_file_bytes) (sym back) a.1 })
  where
    answered : (o : Option Refusal) (x y : List Item) → ◌≡◌ {A = Result (List Item) Refusal} (answer o x) (Ok y) → (o ≡ None) × (x ≡ y)
    answered None x y e = (refl, cc)
    answered (Some d) x y e = impossible (cc)

pub rewritten : (bytes : List ℕ) → AllByRecursion (λ b. b < 256) bytes → Rewritten bytes
rewritten bytes small items h = rewritten_by (open_refusal bytes) bytes items refl small h

-- a record that may be written reads back
front_back : (item : Item) (more : List ℕ) (place : ℕ) → bad_note_length item ≡ false → bad_note_bytes item ≡ false →
    (record_in (bytes_of item ++ more) place ≡ Ok item) × (2 + length_in (bytes_of item ++ more) ≡ length (bytes_of item))
front_back item more place long known =
    let f : List ℕ = fields_of item in
    let rest : List ℕ = bytes_of item ++ more in
    let l : length_in rest ≡ 1 + length f = two_back (1 + length f) in
    let size = length-append f more in
    let fields : fields_in rest ≡ f = take_at f more (length_in rest - 1) (omega arith) in
    let whole : bad_length rest ≡ false =
    or_from (ltb (length rest) 2) _ (le-ltb (length rest) 2 (omega arith))
    (or_from (eqb (length_in rest) 0) _ (ne_eqb (length_in rest) 0 (λ e. omega arith))
    (or_from (ltb (length rest) (2 + length_in rest)) _ (le-ltb (length rest) (2 + length_in rest) (omega arith))
    (not_from_true (fits_kind (kind_in rest) (length_in rest)) (rw l (item_fits item long))))) in
    let good : bad_kind (kind_in rest) (fields_in rest) ≡ false = rw fields (item_known item known) in
    let says : item_in rest ≡ item = rw fields (item_back item) in (
      ap (λ (t : Bool). answer (first_of ((t, RecordLength place) ∷ (bad_kind (kind_in rest) (fields_in rest), RecordKind place) ∷ [])) (item_in rest)) whole
          ∙ ap (λ (t : Bool). answer (first_of ((t, RecordKind place) ∷ [])) (item_in rest)) good ∙ ap Ok says,
      omega arith,
    )

-- and so does one behind others, in its order
record Found (bs : List ℕ) (place : ℕ) (item : Item) : Type 0 where
  answers : ordered_at bs place ≡ Ok (Some item)
  next : place_in_order bs place ≡ place + length (bytes_of item)

found : (before : List ℕ) (item : Item) (more : List ℕ) (place : ℕ) → length before ≡ place →
    (bad_note_length item ≡ false) × (bad_note_bytes item ≡ false) × (misplaced place (Some item) ≡ false) →
    Found (before ++ (bytes_of item ++ more)) place item
found before item more place e fits =
    let bs : List ℕ = before ++ (bytes_of item ++ more) in
    let rest : drop place bs ≡ bytes_of item ++ more = drop_at before (bytes_of item ++ more) place e in
    let front = front_back item more place fits.0 fits.1 in
    let size = length-append before (bytes_of item ++ more) in
    let size' = length-append (bytes_of item) more in
    let inside : leb (length bs) place ≡ false = lt-leb (length bs) place (omega arith) in
    let read : record_at bs place ≡ Ok (Some item) =
    ap (λ (t : Bool). cond t (Ok None) (some (record_in (drop place bs) place))) inside
    ∙ ap (λ (xs : List ℕ). some (record_in xs place)) rest ∙ ap some front.0 in
    let ordered : ordered_at bs place ≡ Ok (Some item) =
    ap (λ (o : Answer). in_order place o) read ∙ ap (λ (t : Bool). cond t (Err (RecordKind place)) (Ok (Some item))) fits.2 in
    record {
      answers = ordered;
      next = ap (λ (o : Answer). after o place (place + (2 + length_in (drop place bs)))) ordered
          ∙ ap (λ (xs : List ℕ). place + (2 + length_in xs)) rest ∙ ap (λ (n : ℕ). place + n) front.1;
    }

-- a lawful stretch of records reads back
stretch : (items : List Item) (before : List ℕ) (place n : ℕ) → length before ≡ place → 0 < place → 0 < length items + (place - 1) →
    length (flat_map bytes_of items) < n → LawfulFrom place items →
    contents_from n (before ++ flat_map bytes_of items) place ≡ record { items = items; refusal = None }
stretch [] before place zero e p some far law = absurd (omega arith)
stretch [] before place (suc n) e p some far law =
    let bs : List ℕ = before ++ [] in
    let size = length-append {A = ℕ} before [] in
    ap (λ (o : Answer). go_on o (contents_from n bs (place_in_order bs place))) (past_end bs place (omega arith) (omega arith))
stretch (item ∷ items) before place zero e p some far law = absurd (omega arith)
stretch (item ∷ items) before place (suc n) e p some far law =
    let more : List ℕ = flat_map bytes_of items in
    let bs : List ℕ = before ++ (bytes_of item ++ more) in
    let f = found before item more place e law.0 in
    let next : ℕ = place + length (bytes_of item) in
    let size = length-append before (bytes_of item) in
    let size' = length-append (bytes_of item) more in
    let ih = stretch items (before ++ bytes_of item) next n (omega arith) (omega arith) (omega arith) (omega arith) law.1 in
    let behind : contents_from n bs (place_in_order bs place) ≡ record { items = items; refusal = None } =
    ap (λ (q : ℕ). contents_from n bs q) f.next ∙ ap (λ (xs : List ℕ). contents_from n xs next) (sym (append_assoc before (bytes_of item) more)) ∙ ih in
    ap (λ (o : Answer). go_on o (contents_from n bs (place_in_order bs place))) f.answers ∙ ap (λ (c : Contents). go_on (Ok (Some item)) c) behind

pub read_back : ReadBack
read_back items lawful =
    let bs : List ℕ = file_of items in
    let some = lawful.some in let small = lawful.small in
    let fine : open_refusal bs ≡ None = ap (λ (t : Bool). first_of ((t, NoUnitFile) ∷ [])) (or_from (eqb (length bs) 0) _ (ne_eqb (length bs) 0 (λ e. omega arith)) (or_from (ltb most_file_bytes (length bs)) false (le-ltb most_file_bytes (length bs) small) refl)) in
    let c = stretch items (1 ∷ []) 1 (length bs) refl (omega arith) (omega arith) (omega arith) lawful.each in
    ap (λ (o : Option Refusal). answer (begun o (contents_from (length bs) bs 1)).refusal (begun o (contents_from (length bs) bs 1)).items) fine
    ∙ ap (λ (k : Contents). answer k.refusal k.items) c
