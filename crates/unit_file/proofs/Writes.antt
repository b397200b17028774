-- A file that grows in a buffer record by record.
use Rattle.std.proofs.Common.{◌≡◌, ℕ, ◌+◌, ◌<◌, ◌≤◌, Bool, true, false, cond, ◌||◌, ltb, List, [], ◌∷◌, ◌++◌, length, take, Some, None, Ok, Err, Option, Result, sym, refl, ap, ◌∙◌, subst, add-zero, add_assoc, arith}
use Rattle.std.proofs.lemmas.List.{length-append, flat_map_more}
use Rattle.std.proofs.lemmas.Bool.{or_parts, ltb-false}
use Rattle.std.specs.List.{flat_map}
use Rattle.std.specs.Option.{option_or}
use Rattle.tariff.specs.Limits.{most_file_bytes}
use Rattle.tariff.specs.Refusals.{answer, unless}
use Rattle.tariff.specs.declared.refusal.Refusal.{Refusal}
use Rattle.tariff.specs.declared.refusal.Refusal.TheVariants.{NoUnitFile, RecordLength, RecordKind, BufferTooShort}
use Rattle.unit_file.specs.Records.{Item, bytes_of, file_of}
use Rattle.unit_file.specs.Reading.{misplaced, records_of}
use Rattle.tariff.proofs.Refused.{ok_tells, err_tells}
use Rattle.buffer.specs.Putting.{pasted, put_refusal as buffer_refusal}
use Rattle.buffer.proofs.Pasting.{take_pasted}
use Rattle.unit_file.proofs.RoundTrip.{read_back}
use Rattle.unit_file.specs.Writing.{bad_note_length, bad_note_bytes, file_refusal, put_refusal, LawfulFrom, WrittenAs}

-- one more lawful record behind lawful ones
abbrev Fits : ℕ → Item → Type 0
Fits place item = (bad_note_length item ≡ false) × (bad_note_bytes item ≡ false) × (misplaced place (Some item) ≡ false)

lawful_push : (items : List Item) (item : Item) (place : ℕ) → LawfulFrom place items → Fits (place + length (flat_map bytes_of items)) item → LawfulFrom place (items ++ item ∷ [])
lawful_push [] item place law fits = (subst (λ (n : ℕ). Fits n item) (add-zero place) fits, tt)
lawful_push (x ∷ items) item place law fits = (
  law.0,
  lawful_push items item (place + length (bytes_of x)) law.1
      (subst (λ (n : ℕ). Fits n item) (ap (λ (n : ℕ). place + n) (length-append (bytes_of x) (flat_map bytes_of items)) ∙ sym (add_assoc place (length (bytes_of x)) (length (flat_map bytes_of items)))) fits),
)

-- what holds where a record is written
pub record Room (place room : ℕ) (item : Item) : Type 0 where
  pub small : place + length (bytes_of item) ≤ most_file_bytes
  pub fits : Fits place item
  pub inside : place + length (bytes_of item) ≤ room

impossible : {X : Type 0} → ◌≡◌ {A = ℕ} 0 1 → X
impossible e = absurd (omega arith)

tests_pass : (a b c d : Bool) (w x y z : Refusal) → cond a (Some w) (cond b (Some x) (cond c (Some y) (cond d (Some z) None))) ≡ None →
    (a ≡ false) × (b ≡ false) × (c ≡ false) × (d ≡ false)
tests_pass true b c d w x y z h = impossible (cc)
tests_pass false true c d w x y z h = impossible (cc)
tests_pass false false true d w x y z h = impossible (cc)
tests_pass false false false true w x y z h = impossible (cc)
tests_pass false false false false w x y z h = (refl, refl, refl, refl)

pub has_room : (place room : ℕ) (item : Item) → put_refusal place room item ≡ None → Room place room item
has_room place room item h =
    let end : ℕ = place + length (bytes_of item) in
    let t = tests_pass (ltb most_file_bytes end) (bad_note_length item) (bad_note_bytes item || misplaced place (Some item)) (ltb room end) NoUnitFile (RecordLength place) (RecordKind place) BufferTooShort h in
    let o = or_parts (bad_note_bytes item) (misplaced place (Some item)) t.2 in
    record { small = ltb-false most_file_bytes end t.0; fits = (t.1, o.0, o.1); inside = ltb-false room end t.3 }

-- a refusal of the file comes before that of the buffer
either : (a b c d : Bool) (w x y z : Refusal) → cond a (Some w) (cond b (Some x) (cond c (Some y) (cond d (Some z) None)))
    ≡ option_or (cond a (Some w) (cond b (Some x) (cond c (Some y) None))) (cond d (Some z) None)
either true b c d w x y z = refl
either false true c d w x y z = refl
either false false true d w x y z = refl
either false false false d w x y z = refl

put_by : (place room : ℕ) (item : Item) → put_refusal place room item ≡ option_or (file_refusal place item) (buffer_refusal room place (bytes_of item))
put_by place room item =
    let end : ℕ = place + length (bytes_of item) in
    either (ltb most_file_bytes end) (bad_note_length item) (bad_note_bytes item || misplaced place (Some item)) (ltb room end) NoUnitFile (RecordLength place) (RecordKind place) BufferTooShort

pub refused_by_file : (place room : ℕ) (item : Item) (e : Refusal) → ◌≡◌ {A = Result (Unit {0}) Refusal} (Err e) (answer (file_refusal place item) tt) → put_refusal place room item ≡ Some e
refused_by_file place room item e h = put_by place room item ∙ ap (λ (o : Option Refusal). option_or o (buffer_refusal room place (bytes_of item))) (err_tells (file_refusal place item) e tt h)

-- a file that grows
pub written_none : (out : List ℕ) → WrittenAs [] 1 (1 ∷ out)
written_none out = record { bytes = refl; reached = refl; each = tt; small = omega arith }

pub written_more : (items : List Item) (item : Item) (place : ℕ) (out : List ℕ) → WrittenAs items place out → Room place (length out) item →
    WrittenAs (items ++ item ∷ []) (place + length (bytes_of item)) (pasted out place (bytes_of item))
written_more items item place out so room =
    let inside = room.inside in let small = room.small in
    let reached = so.reached in
    let grown : file_of items ++ bytes_of item ≡ file_of (items ++ item ∷ []) = flat_map_more bytes_of (1 ∷ []) items item in
    let size : length (file_of (items ++ item ∷ [])) ≡ place + length (bytes_of item) = sym (ap length grown) ∙ length-append (file_of items) (bytes_of item) ∙ ap (λ (n : ℕ). n + length (bytes_of item)) (sym reached) in
    record {
      bytes = take_pasted out (bytes_of item) place (omega arith) ∙ ap (λ (xs : List ℕ). xs ++ bytes_of item) so.bytes ∙ grown;
      reached = sym size;
      each = lawful_push items item 1 so.each (subst (λ (n : ℕ). Fits n item) (omega arith) room.fits);
      small = omega arith;
    }

-- a file that was written and has its header reads back
pub written_read : (items : List Item) (place : ℕ) (out : List ℕ) → WrittenAs items place out → 1 < place →
    (take place out ≡ file_of items) × (records_of (take place out) ≡ Ok items)
written_read [] place out so h = let r = so.reached in absurd (omega arith)
written_read (x ∷ items) place out so h =
    (so.bytes, ap records_of so.bytes ∙ read_back (x ∷ items) (record { some = omega arith; each = so.each; small = so.small }))

-- what a put leaves that neither refuses
pub put_done : (place end : ℕ) (out after : List ℕ) (item : Item) → ◌≡◌ {A = Result (Unit {0}) Refusal} (Ok tt) (answer (file_refusal place item) tt) →
    Ok end ≡ answer (buffer_refusal (length out) place (bytes_of item)) (place + length (bytes_of item)) →
    after ≡ unless (buffer_refusal (length out) place (bytes_of item)) out (pasted out place (bytes_of item)) →
    (items : List Item) → WrittenAs items place out → WrittenAs (items ++ item ∷ []) end after
put_done place end out after item file buffer left items so =
    let f : file_refusal place item ≡ None = (ok_tells (file_refusal place item) tt tt file).0 in
    let b = ok_tells (buffer_refusal (length out) place (bytes_of item)) end (place + length (bytes_of item)) buffer in
    let room = has_room place (length out) item (put_by place (length out) item ∙ rw (f, b.0)) in
    let more = written_more items item place out so room in
    rw (left, b.0, b.1) more
