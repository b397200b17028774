-- A walk through a file, record by record.
use Rattle.std.proofs.Common.{◌≡◌, ℕ, zero, suc, ◌+◌, ◌-◌, ◌<◌, ◌≤◌, Bool, true, false, cond, eqb, ltb, leb, List, ◌++◌, length, get_or, drop, Some, None, Ok, Err, Option, Result, sym, refl, ap, ◌∙◌, arith}
use Rattle.std.proofs.ByRecursion.{All-get_or, All-take, All-drop}
use Rattle.std.proofs.lemmas.List.{drop-drop, take-append-drop, length-drop, length-take-le}
use Rattle.std.proofs.lemmas.Bool.{or_parts, ltb-false, eqb-false, leb-true, leb-false, le-leb, ne_eqb, not-false}
use Rattle.std.proofs.lemmas.Bool.Decides.{nat_tests}
use Rattle.std.specs.List.{AllByRecursion}
use Rattle.tariff.specs.Limits.{most_file_bytes}
use Rattle.tariff.specs.Refusals.{answer}
use Rattle.tariff.specs.declared.refusal.Refusal.{Refusal}
use Rattle.tariff.specs.declared.refusal.Refusal.TheVariants.{RecordLength, RecordKind}
use Rattle.unit_file.specs.declared.record.Record.{Record}
use Rattle.unit_file.specs.Records.{Item, bytes_of, item_of}
use Rattle.unit_file.specs.Reading.{length_in, kind_in, fields_in, item_in, fits_kind, bad_length, bad_kind, record_in, some, after, record_at, misplaced, in_order, ordered_at, place_in_order, open_refusal, Contents, go_on, begun, contents_from, contents_of, records_of, counted, said}
use Rattle.unit_file.proofs.Fields.{drop_firsts, high_byte, low_byte, fields_back}

-- what is known where a record was read
pub record Read (bs : List ℕ) (place : ℕ) (item : Item) : Type 0 where
  pub inside : place < length bs
  pub long : bad_length (drop place bs) ≡ false
  pub known : bad_kind (kind_in (drop place bs)) (fields_in (drop place bs)) ≡ false
  pub says : item_in (drop place bs) ≡ item
  pub fits : misplaced place (Some item) ≡ false

impossible : {X : Type 0} → ◌≡◌ {A = ℕ} 0 1 → X
impossible e = absurd (omega arith)

abbrev pub Answer : Type 0
Answer = Result (Option Item) Refusal

in_order_by : (m : Bool) (place : ℕ) (x o : Option Item) → misplaced place x ≡ m → ◌≡◌ {A = Answer} (cond m (Err (RecordKind place)) (Ok x)) (Ok o) →
    (◌≡◌ {A = Answer} (Ok x) (Ok o)) × (misplaced place o ≡ false)
in_order_by true place x o e k = impossible (cc)
in_order_by false place x o e k = (k, let s : x ≡ o = cc in rw s at e)

pub in_order_tells : (place : ℕ) (r : Answer) (o : Option Item) → in_order place r ≡ Ok o → (r ≡ Ok o) × (misplaced place o ≡ false)
in_order_tells place (Err e) o h = impossible (cc)
in_order_tells place (Ok x) o h = in_order_by (misplaced place x) place x o refl h

tests_pass : (end long kind : Bool) (d e : Refusal) (x item : Item) →
    cond end (Ok None) (some (answer (cond long (Some d) (cond kind (Some e) None)) x)) ≡ Ok (Some item) →
    (end ≡ false) × (long ≡ false) × (kind ≡ false) × (x ≡ item)
tests_pass true long kind d e x item h = impossible (cc)
tests_pass false true kind d e x item h = impossible (cc)
tests_pass false false true d e x item h = impossible (cc)
tests_pass false false false d e x item h = (refl, refl, refl, cc)

pub was_read : (bs : List ℕ) (place : ℕ) (item : Item) → ordered_at bs place ≡ Ok (Some item) → Read bs place item
was_read bs place item h =
    let o = in_order_tells place (record_at bs place) (Some item) h in
    let t = tests_pass (leb (length bs) place) (bad_length (drop place bs)) (bad_kind (kind_in (drop place bs)) (fields_in (drop place bs))) (RecordLength place) (RecordKind place) (item_in (drop place bs)) item o.0 in
    record { inside = leb-false (length bs) place t.0; long = t.1; known = t.2; says = t.3; fits = o.1 }

none_left : (end : Bool) (r : Result Item Refusal) → cond end (Ok None) (some r) ≡ Ok None → end ≡ true
none_left true r h = refl
none_left false (Ok x) h = impossible (cc)
none_left false (Err e) h = impossible (cc)

pub was_end : (bs : List ℕ) (place : ℕ) → ordered_at bs place ≡ Ok None → length bs ≤ place
was_end bs place h = leb-true (length bs) place (none_left (leb (length bs) place) (record_in (drop place bs) place) (in_order_tells place (record_at bs place) None h).0)

-- the parts of a length that is well formed
pub record Whole (rest : List ℕ) : Type 0 where
  pub some : 0 < length_in rest
  pub inside : 2 + length_in rest ≤ length rest
  pub kind : fits_kind (kind_in rest) (length_in rest) ≡ true

pub is_whole : (rest : List ℕ) → bad_length rest ≡ false → Whole rest
is_whole rest h =
    let a = or_parts (ltb (length rest) 2) _ h in
    let b = or_parts (eqb (length_in rest) 0) _ a.1 in
    let c = or_parts (ltb (length rest) (2 + length_in rest)) _ b.1 in
    record { some = omega (arith, eqb-false (length_in rest) 0 b.0); inside = ltb-false (length rest) (2 + length_in rest) c.0; kind = not-false (fits_kind (kind_in rest) (length_in rest)) c.1 }

-- the walk goes on, and stays inside the file
pub advances : (bs : List ℕ) (place : ℕ) (item : Item) → ordered_at bs place ≡ Ok (Some item) →
    (place_in_order bs place ≡ place + (2 + length_in (drop place bs))) × (place + 3 ≤ place_in_order bs place) × (place_in_order bs place ≤ length bs)
advances bs place item h =
    let r = was_read bs place item h in
    let w = is_whole (drop place bs) r.long in
    let e : place_in_order bs place ≡ place + (2 + length_in (drop place bs)) = ap (λ (o : Answer). after o place (place + (2 + length_in (drop place bs)))) h in
    let l = length-drop place bs in
    let s = w.some in let i = w.inside in let ins = r.inside in
    (e, omega arith, omega arith)

-- the bytes of a record come back from what it says
pub bytes_back : (rest : List ℕ) → AllByRecursion (λ b. b < 256) rest → bad_length rest ≡ false → bad_kind (kind_in rest) (fields_in rest) ≡ false →
    rest ≡ bytes_of (item_in rest) ++ drop (2 + length_in rest) rest
bytes_back rest small long known =
    let w = is_whole rest long in
    let s = w.some in let i = w.inside in
    let f : List ℕ = fields_in rest in
    let lf : length f ≡ length_in rest - 1 = length-take-le (length_in rest - 1) (drop 3 rest) (omega (arith, length-drop 3 rest)) in
    let whole_length : 1 + length f ≡ length_in rest = omega arith in
    let back = fields_back (kind_in rest) f (All-take (λ b. b < 256) (length_in rest - 1) (drop 3 rest) (All-drop (λ b. b < 256) 3 rest small)) (rw whole_length w.kind) known in
    let low : get_or rest 1 0 < 256 = All-get_or (λ b. b < 256) rest 1 0 (omega arith) small in
    let tail : f ++ drop (2 + length_in rest) rest ≡ drop 3 rest =
    ap (λ (ys : List ℕ). f ++ ys) (ap (λ (n : ℕ). drop n rest) (omega arith) ∙ sym (drop-drop (length_in rest - 1) 3 rest)) ∙ take-append-drop (length_in rest - 1) (drop 3 rest) in
    rw (back.0, back.1, whole_length, high_byte (get_or rest 0 0) (get_or rest 1 0) low, low_byte (get_or rest 0 0) (get_or rest 1 0) low, tail) (drop_firsts 0 3 rest (omega arith))

-- contents: how many records are allowed for does not matter, if there are enough
go_on_same : (r : Answer) (c d : Contents) → ((item : Item) → r ≡ Ok (Some item) → c ≡ d) → go_on r c ≡ go_on r d
go_on_same (Err e) c d same = refl
go_on_same (Ok None) c d same = refl
go_on_same (Ok (Some item)) c d same = ap (λ (k : Contents). go_on (Ok (Some item)) k) (same item refl)

pub past_end : (bs : List ℕ) (place : ℕ) → length bs ≤ place → 1 < place → ordered_at bs place ≡ Ok None
past_end bs place out first = rw (le-leb (length bs) place out, ne_eqb place 1 (λ e. omega arith))

enough : (m n : ℕ) (bs : List ℕ) (place : ℕ) → 0 < length bs → length bs < place + m → length bs < place + n → contents_from m bs place ≡ contents_from n bs place
enough zero zero bs place some p q = refl
enough zero (suc n) bs place some p q = ap (λ (o : Answer). go_on o (contents_from n bs (place_in_order bs place))) (sym (past_end bs place (omega arith) (omega arith)))
enough (suc m) zero bs place some p q = ap (λ (o : Answer). go_on o (contents_from m bs (place_in_order bs place))) (past_end bs place (omega arith) (omega arith))
enough (suc m) (suc n) bs place some p q =
    go_on_same (ordered_at bs place) (contents_from m bs (place_in_order bs place)) (contents_from n bs (place_in_order bs place))
    (λ item h. let a = (advances bs place item h).1 in enough m n bs (place_in_order bs place) some (omega arith) (omega arith))

-- the contents from a place on: one record, and the contents behind it
pub contents_step : (bs : List ℕ) (place : ℕ) → 0 < length bs → 1 ≤ place →
    contents_from (length bs) bs place ≡ go_on (ordered_at bs place) (contents_from (length bs) bs (place_in_order bs place))
contents_step bs place some first = enough (length bs) (suc (length bs)) bs place some (omega arith) (omega arith)

-- a count of the records so far, and what is still to come
abbrev tally : ℕ → Contents → Result ℕ Refusal
tally n c = answer c.refusal (n + length c.items)

pub record Counting (bs : List ℕ) (place count : ℕ) : Type 0 where
  pub first : 1 ≤ place
  pub inside : place ≤ length bs
  pub few : count < place
  pub rest : counted (records_of bs) ≡ tally count (contents_from (length bs) bs place)

counted_answer : (o : Option Refusal) (items : List Item) → counted (answer o items) ≡ answer o (0 + length items)
counted_answer None items = ap Ok (omega arith)
counted_answer (Some e) items = refl

pub opened : (bs : List ℕ) → open_refusal bs ≡ None → (0 < length bs) × (length bs ≤ most_file_bytes) × (get_or bs 0 0 ≡ 1)
opened bs h = (grind (arith, nat_tests), grind (arith, nat_tests), grind (arith, nat_tests))

pub contents_open : (bs : List ℕ) → open_refusal bs ≡ None → contents_of bs ≡ contents_from (length bs) bs 1
contents_open bs h = ap (λ (o : Option Refusal). begun o (contents_from (length bs) bs 1)) h

pub counting_start : (bs : List ℕ) → open_refusal bs ≡ None → Counting bs 1 0
counting_start bs h =
    let c : Contents = contents_from (length bs) bs 1 in
    record {
      first = omega arith;
      inside = (opened bs h).0;
      few = omega arith;
      rest = ap (λ (k : Contents). counted (answer k.refusal k.items)) (contents_open bs h) ∙ counted_answer c.refusal c.items;
    }

pub counting_more : (bs : List ℕ) (place count : ℕ) (item : Item) → Counting bs place count → ordered_at bs place ≡ Ok (Some item) → Counting bs (place_in_order bs place) (count + 1)
counting_more bs place count item k h =
    let a = advances bs place item h in
    let p = a.1 in let q = a.2 in let f = k.few in let i = k.inside in
    let c : Contents = contents_from (length bs) bs (place_in_order bs place) in
    record {
      first = omega arith;
      inside = q;
      few = omega arith;
      rest = k.rest ∙ ap (tally count) (contents_step bs place (omega arith) k.first ∙ ap (λ (o : Answer). go_on o c) h) ∙ ap (answer c.refusal) (omega arith);
    }

pub counting_end : (bs : List ℕ) (place count : ℕ) → Counting bs place count → ordered_at bs place ≡ Ok None → Ok count ≡ counted (records_of bs)
counting_end bs place count k h =
    let i = k.inside in let f = k.first in
    sym (k.rest ∙ ap (tally count) (contents_step bs place (omega arith) f ∙ ap (λ (o : Answer). go_on o (contents_from (length bs) bs (place_in_order bs place))) h) ∙ ap Ok (omega arith))

pub counting_refused : (bs : List ℕ) (place count : ℕ) (e : Refusal) → Counting bs place count → ordered_at bs place ≡ Err e → Err e ≡ counted (records_of bs)
counting_refused bs place count e k h =
    let i = k.inside in let f = k.first in
    sym (k.rest ∙ ap (tally count) (contents_step bs place (omega arith) f ∙ ap (λ (o : Answer). go_on o (contents_from (length bs) bs (place_in_order bs place))) h))

-- what the code's reader answered, as a word of the file
pub at_record : (bs bs' : List ℕ) (place : ℕ) (o : Option Record) (x : Record) → bs' ≡ bs → said (Ok o) ≡ ordered_at bs' place → o ≡ Some x → ordered_at bs place ≡ Ok (Some (item_of x))
at_record bs bs' place o x same h is = sym (rw (same, is) at h)

pub at_end_is : (bs bs' : List ℕ) (place : ℕ) (o : Option Record) → bs' ≡ bs → said (Ok o) ≡ ordered_at bs' place → o ≡ None → ordered_at bs place ≡ Ok None
at_end_is bs bs' place o same h is = sym (rw (same, is) at h)

pub at_fault : (bs bs' : List ℕ) (place : ℕ) (e : Refusal) → bs' ≡ bs → said (Err e) ≡ ordered_at bs' place → ordered_at bs place ≡ Err e
at_fault bs bs' place e same h = sym (rw same at h)

pub not_opened : (bs : List ℕ) (e : Refusal) → open_refusal bs ≡ Some e → Err e ≡ records_of bs
not_opened bs e h = sym (ap (λ (o : Option Refusal). answer (begun o (contents_from (length bs) bs 1)).refusal (begun o (contents_from (length bs) bs 1)).items) h)
