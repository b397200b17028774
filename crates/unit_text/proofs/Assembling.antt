-- A file that is made of lines, line by line.
use Rattle.std.proofs.Common.{◌≡◌, ℕ, suc, ◌+◌, ◌<◌, ◌≤◌, Bool, true, false, cond, not, eqb, ltb, List, [], ◌∷◌, ◌++◌, length, take, drop, Some, None, Ok, Err, Option, Result, sym, refl, ap, ◌∙◌, subst, arith}
use Rattle.std.proofs.lemmas.List.{length-take-le, drop_all, take_all}
use Rattle.std.proofs.lemmas.Bool.{ltb-false}
use Rattle.std.specs.List.{position, position_or_len}
use Rattle.tariff.specs.Limits.{most_file_bytes}
use Rattle.tariff.specs.Refusals.{answer, unless}
use Rattle.tariff.specs.declared.refusal.Refusal.{Refusal}
use Rattle.std.specs.Option.{option_map, ok_or}
use Rattle.unit_file.specs.declared.record.Record.{Record}
use Rattle.unit_file.specs.Records.{Item, item_of, bytes_of}
use Rattle.unit_file.specs.Writing.{put_refusal, finish_refusal, WrittenAs}
use Rattle.buffer.specs.Putting.{pasted}
use Rattle.buffer.proofs.Pasting.{take_pasted}
use Rattle.unit_file.proofs.Writes.{has_room}
use Rattle.unit_text.specs.declared.composing.Reason.{Reason}
use Rattle.unit_text.specs.declared.composing.Reason.TheVariants.{Refused}
use Rattle.unit_line.specs.Parsing.{item_in}
use Rattle.unit_text.specs.Composing.{longer, lines_in, refused_or, added_by, go_on, ended, compose_from, composed}

impossible : {X : Type 0} → ◌≡◌ {A = ℕ} 0 1 → X
impossible e = absurd (omega arith)

-- what a call's answer tells of its refusal
pub not_refused : {X : Type 0} (o : Option Refusal) (x y : X) → Ok x ≡ answer o y → o ≡ None
not_refused None x y e = refl
not_refused (Some d) x y e = impossible (cc)

pub same_answer : {X : Type 0} (o : Option Refusal) (x y : X) → Ok x ≡ answer o y → x ≡ y
same_answer None x y e = cc
same_answer (Some d) x y e = impossible (cc)

pub refused_by : {X : Type 0} (o : Option Refusal) (y : X) (d : Refusal) → Err d ≡ answer o y → o ≡ Some d
refused_by None y d e = impossible (cc)
refused_by (Some f) y d e = let s : f ≡ d = cc in ap Some s

-- what is read of a line, and what the call that reads it answers
pub parsed : {E : Type 0} (o : Option Record) (r : Record) (e : E) → Ok r ≡ ok_or o e → Some (item_of r) ≡ option_map item_of o
parsed None r e h = impossible (cc)
parsed (Some x) r e h = let s : r ≡ x = cc in ap (λ (y : Record). Some (item_of y)) s

-- what a line adds
added : (place : ℕ) (out : List ℕ) (o : Option Item) (item : Item) (e : Option Refusal) → place ≤ length out → length out ≡ most_file_bytes → Some item ≡ o →
    put_refusal place (length out) item ≡ e → added_by (take place out) o ≡ refused_or e (bytes_of item)
added place out o item e inside room same refusal =
    ap (added_by (take place out)) (sym same)
    ∙ ap (λ (n : ℕ). refused_or (put_refusal n most_file_bytes item) (bytes_of item)) (length-take-le place out inside)
    ∙ ap (λ (n : ℕ). refused_or (put_refusal place n item) (bytes_of item)) (sym room)
    ∙ ap (λ (d : Option Refusal). refused_or d (bytes_of item)) refusal

-- a line that is put
pub record Put (place : ℕ) (out : List ℕ) (text : List ℕ) (place' : ℕ) (out' : List ℕ) : Type 0 where
  pub inside : place' ≤ length out'
  pub file : (line : ℕ) (texts : List (List ℕ)) → compose_from line (take place out) (text ∷ texts) ≡ compose_from (line + 1) (take place' out') texts

pub was_put : (place place' : ℕ) (out out' text : List ℕ) (item : Item) → place ≤ length out → length out ≡ most_file_bytes → length out' ≡ length out → Some item ≡ item_in text →
    put_refusal place (length out) item ≡ None →
    out' ≡ unless (put_refusal place (length out) item) out (pasted out place (bytes_of item)) →
    place' ≡ unless (put_refusal place (length out) item) place (place + length (bytes_of item)) →
    Put place out text place' out'
was_put place place' out out' text item inside room kept same none eo ep =
    let r = has_room place (length out) item none in
    let ri = r.inside in
    let at : place' ≡ place + length (bytes_of item) = ep ∙ ap (λ (o : Option Refusal). unless o place (place + length (bytes_of item))) none in
    let over : out' ≡ pasted out place (bytes_of item) = eo ∙ ap (λ (o : Option Refusal). unless o out (pasted out place (bytes_of item))) none in
    let front : take place out ++ bytes_of item ≡ take place' out' =
    sym (ap (λ (n : ℕ). take n out') at ∙ ap (take (place + length (bytes_of item))) over ∙ take_pasted out (bytes_of item) place inside) in
    record {
      inside = omega arith;
      file = λ line texts.
          ap (λ (a : Result (List ℕ) Reason). go_on line a (λ bytes. compose_from (line + 1) (take place out ++ bytes) texts)) (added place out (item_in text) item None inside room same none)
          ∙ ap (λ (file : List ℕ). compose_from (line + 1) file texts) front;
    }

pub stays : (place place' : ℕ) (o : Option Refusal) (next : ℕ) (e : Refusal) → o ≡ Some e → place' ≡ unless o place next → place' ≡ place
stays place place' o next e h p = p ∙ ap (λ (x : Option Refusal). unless x place next) h

pub was_refused : (place : ℕ) (out text : List ℕ) (item : Item) (e : Refusal) (line : ℕ) (texts : List (List ℕ)) → place ≤ length out → length out ≡ most_file_bytes → Some item ≡ item_in text →
    put_refusal place (length out) item ≡ Some e → compose_from line (take place out) (text ∷ texts) ≡ Err (record { line = line; reason = Refused e })
was_refused place out text item e line texts inside room same refusal =
    ap (λ (a : Result (List ℕ) Reason). go_on line a (λ bytes. compose_from (line + 1) (take place out ++ bytes) texts)) (added place out (item_in text) item (Some e) inside room same refusal)

-- the first line of a text
abbrev is_end : ℕ → Bool
is_end b = eqb b 10

abbrev line_size : List ℕ → ℕ
line_size text = position_or_len is_end text

line_by : (t : Bool) (b : ℕ) (bs : List ℕ) → (0 < length bs → lines_in bs ≡ take (line_size bs) bs ∷ lines_in (drop (line_size bs + 1) bs)) →
    cond t ([] ∷ lines_in bs) (longer b (lines_in bs)) ≡ take (cond (not t) (1 + line_size bs) 0) (b ∷ bs) ∷ lines_in (drop (cond (not t) (1 + line_size bs) 0 + 1) (b ∷ bs))
line_by true b bs more = refl
line_by false b [] more = refl
line_by false b (d ∷ ds) more =
    let k : ℕ = line_size (d ∷ ds) in
    let e : 1 + k ≡ suc k = omega arith in
    let f : suc k + 1 ≡ suc (k + 1) = omega arith in
    let all = ap (longer b) (more (omega arith)) in
    ap (longer b) (more (omega arith)) ∙ ap (λ (n : ℕ). (b ∷ take k (d ∷ ds)) ∷ lines_in (drop n (b ∷ d ∷ ds))) (sym f) ∙ ap (λ (n : ℕ). take n (b ∷ d ∷ ds) ∷ lines_in (drop (n + 1) (b ∷ d ∷ ds))) (sym e)

first_line : (text : List ℕ) → 0 < length text → lines_in text ≡ take (line_size text) text ∷ lines_in (drop (line_size text + 1) text)
first_line [] some = absurd (omega arith)
first_line (b ∷ bs) some = line_by (is_end b) b bs (first_line bs)

at_some : (t : Bool) (n k : ℕ) → Some k ≡ cond t (Some n) None → n ≡ k
at_some true n k e = cc
at_some false n k e = impossible (cc)

at_none : (t : Bool) (n : ℕ) → None ≡ cond t (Some n) None → t ≡ false
at_none true n e = impossible (cc)
at_none false n e = refl

pub line_cut_off : (text : List ℕ) (k : ℕ) → Some k ≡ position is_end text → 0 < length text → lines_in text ≡ take k text ∷ lines_in (drop (k + 1) text)
line_cut_off text k e some =
    subst (λ (n : ℕ). lines_in text ≡ take n text ∷ lines_in (drop (n + 1) text)) (at_some (ltb (line_size text) (length text)) (line_size text) k e) (first_line text some)

pub last_line : (text : List ℕ) → None ≡ position is_end text → 0 < length text → lines_in text ≡ text ∷ []
last_line text e some =
    let l = ltb-false (line_size text) (length text) (at_none (ltb (line_size text) (length text)) (line_size text) e) in
    first_line text some ∙ ap (λ (line : List ℕ). line ∷ lines_in (drop (line_size text + 1) text)) (take_all (line_size text) text l)
    ∙ ap (λ (more : List ℕ). text ∷ lines_in more) (drop_all (line_size text + 1) text (omega arith))

-- the end of the lines
pub file_ended : (place line : ℕ) (out rest : List ℕ) (o : Option Refusal) → place ≤ length out → length rest ≤ 0 → finish_refusal place ≡ o →
    compose_from line (take place out) (lines_in rest) ≡ ended o (take place out)
file_ended place line out [] o inside none e =
    ap (λ (n : ℕ). ended (finish_refusal n) (take place out)) (length-take-le place out inside) ∙ ap (λ (x : Option Refusal). ended x (take place out)) e
file_ended place line out (b ∷ bs) o inside none e = absurd (omega arith)

-- the file so far, and the lines still to come
pub record Assembled (text out rest : List ℕ) (place line : ℕ) : Type 0 where
  pub room : length out ≡ most_file_bytes
  pub inside : place ≤ length out
  pub lines : line + length rest ≤ length text
  pub file : composed text ≡ compose_from (line + 1) (take place out) (lines_in rest)

pub assembled_start : (text out : List ℕ) (place : ℕ) → length out ≡ most_file_bytes → WrittenAs [] place out → Assembled text out text place 0
assembled_start text out place room w =
    let at = w.reached in
    record { room = room; inside = omega arith; lines = omega arith; file = ap (λ (file : List ℕ). compose_from 1 file (lines_in text)) (sym w.bytes) }

pub assembled_more : (text out out' rest line behind : List ℕ) (place place' count : ℕ) → Assembled text out rest place count → lines_in rest ≡ line ∷ lines_in behind →
    length behind < length rest → length out' ≡ length out → place' ≤ length out' →
    ((k : ℕ) (texts : List (List ℕ)) → compose_from k (take place out) (line ∷ texts) ≡ compose_from (k + 1) (take place' out') texts) →
    Assembled text out' behind place' (count + 1)
assembled_more text out out' rest line behind place place' count a cut shorter kept inside put =
    let ro = a.room in let li = a.lines in
    record {
      room = omega arith;
      inside = inside;
      lines = omega arith;
      file = a.file ∙ ap (compose_from (count + 1) (take place out)) cut ∙ put (count + 1) (lines_in behind);
    }

pub assembled_fault : (text out rest line behind : List ℕ) (place count : ℕ) (reason : Reason) → Assembled text out rest place count → lines_in rest ≡ line ∷ lines_in behind →
    ((k : ℕ) (texts : List (List ℕ)) → compose_from k (take place out) (line ∷ texts) ≡ Err (record { line = k; reason = reason })) →
    composed text ≡ Err (record { line = count + 1; reason = reason })
assembled_fault text out rest line behind place count reason a cut put =
    a.file ∙ ap (compose_from (count + 1) (take place out)) cut ∙ put (count + 1) (lines_in behind)

pub assembled_end : (text out rest : List ℕ) (place line : ℕ) (o : Option Refusal) → Assembled text out rest place line → length rest ≤ 0 → finish_refusal place ≡ o → composed text ≡ ended o (take place out)
assembled_end text out rest place line o a none e = a.file ∙ file_ended place (line + 1) out rest o a.inside none e

pub assembled_done : (text out rest : List ℕ) (place line n : ℕ) → Assembled text out rest place line → length rest ≤ 0 → Ok n ≡ answer (finish_refusal place) place →
    (n ≤ length out) × (composed text ≡ Ok (take n out))
assembled_done text out rest place line n a none e =
    let same = same_answer (finish_refusal place) n place e in
    let i = a.inside in
    (omega arith, assembled_end text out rest place line None a none (not_refused (finish_refusal place) n place e) ∙ ap (λ (m : ℕ). Ok (take m out)) (sym same))
