-- A text that grows, piece by piece and record by record.
use Rattle.std.proofs.Common.{◌≡◌, ℕ, ◌≤◌, cond, List, [], ◌++◌, length, is_ok, IfOk, Some, None, Ok, Err, Option, Result, sym, ap, ◌∙◌, append_assoc, arith}
use Rattle.std.proofs.lemmas.List.{append-nil}
use Rattle.tariff.specs.declared.refusal.Refusal.{Refusal}
use Rattle.unit_file.specs.Records.{Item}
use Rattle.unit_file.specs.Reading.{ordered_at, place_in_order, open_refusal, Contents, go_on, begun, contents_from, contents_of}
use Rattle.unit_file.proofs.Walk.{Answer, contents_step, contents_open, opened, advances}
use Rattle.unit_text.specs.Lines.{line_of, lines_of}

-- two pieces that were added one behind the other
pub made_both : {T E : Type 0} (r : Result T E) (was mid now xs ys : List ℕ) → mid ≡ was ++ xs → now ≡ cond (is_ok r) (mid ++ ys) mid → IfOk r (λ _. now ≡ was ++ (xs ++ ys))
made_both (Ok t) was mid now xs ys e f = f ∙ ap (λ (zs : List ℕ). zs ++ ys) e ∙ append_assoc was xs ys
made_both (Err e') was mid now xs ys e f = tt

pub made_same : {T E : Type 0} (r : Result T E) (was now xs ys : List ℕ) → xs ≡ ys → IfOk r (λ _. now ≡ was ++ xs) → IfOk r (λ _. now ≡ was ++ ys)
made_same (Ok t) was now xs ys e f = f ∙ ap (λ (zs : List ℕ). was ++ zs) e
made_same (Err e') was now xs ys e f = tt

-- the lines so far and those still to come make up the whole
pub record Growing (bs : List ℕ) (place : ℕ) (before text : List ℕ) : Type 0 where
  pub first : 1 ≤ place
  pub inside : place ≤ length bs
  pub lines : before ++ lines_of (contents_of bs).items ≡ text ++ lines_of (contents_from (length bs) bs place).items
  pub fault : (contents_of bs).refusal ≡ (contents_from (length bs) bs place).refusal

pub growing_start : (bs before : List ℕ) → open_refusal bs ≡ None → Growing bs 1 before before
growing_start bs before h =
    let o = contents_open bs h in
    record {
      first = omega arith;
      inside = (opened bs h).0;
      lines = ap (λ (c : Contents). before ++ lines_of c.items) o;
      fault = ap (λ (c : Contents). c.refusal) o;
    }

-- the contents at a place, by what stands there
at_place : (bs : List ℕ) (place : ℕ) (before text : List ℕ) (o : Answer) → Growing bs place before text → ordered_at bs place ≡ o →
    contents_from (length bs) bs place ≡ go_on o (contents_from (length bs) bs (place_in_order bs place))
at_place bs place before text o g h =
    let i = g.inside in let f = g.first in
    contents_step bs place (omega arith) f ∙ ap (λ (x : Answer). go_on x (contents_from (length bs) bs (place_in_order bs place))) h

pub growing_more : (bs : List ℕ) (place : ℕ) (before text grown : List ℕ) (item : Item) → Growing bs place before text → ordered_at bs place ≡ Ok (Some item) → grown ≡ text ++ line_of item →
    Growing bs (place_in_order bs place) before grown
growing_more bs place before text grown item g h e =
    let a = advances bs place item h in
    let p = a.1 in let f = g.first in
    let c = at_place bs place before text (Ok (Some item)) g h in
    let rest : List ℕ = lines_of (contents_from (length bs) bs (place_in_order bs place)).items in
    record {
      first = omega arith;
      inside = a.2;
      lines = g.lines ∙ ap (λ (k : Contents). text ++ lines_of k.items) c ∙ sym (append_assoc text (line_of item) rest) ∙ ap (λ (xs : List ℕ). xs ++ rest) (sym e);
      fault = g.fault ∙ ap (λ (k : Contents). k.refusal) c;
    }

-- the end of the lines, with or without a refusal
pub growing_end : (bs : List ℕ) (place : ℕ) (before text : List ℕ) → Growing bs place before text → ordered_at bs place ≡ Ok None →
    (text ≡ before ++ lines_of (contents_of bs).items) × (None ≡ (contents_of bs).refusal)
growing_end bs place before text g h =
    let c = at_place bs place before text (Ok None) g h in
    (sym (g.lines ∙ ap (λ (k : Contents). text ++ lines_of k.items) c ∙ append-nil text), sym (g.fault ∙ ap (λ (k : Contents). k.refusal) c))

pub growing_refused : (bs : List ℕ) (place : ℕ) (before text : List ℕ) (e : Refusal) → Growing bs place before text → ordered_at bs place ≡ Err e →
    (text ≡ before ++ lines_of (contents_of bs).items) × (Some e ≡ (contents_of bs).refusal)
growing_refused bs place before text e g h =
    let c = at_place bs place before text (Err e) g h in
    (sym (g.lines ∙ ap (λ (k : Contents). text ++ lines_of k.items) c ∙ append-nil text), sym (g.fault ∙ ap (λ (k : Contents). k.refusal) c))

pub never_begun : (bs before : List ℕ) (e : Refusal) → open_refusal bs ≡ Some e →
    (before ≡ before ++ lines_of (contents_of bs).items) × (Some e ≡ (contents_of bs).refusal)
never_begun bs before e h =
    let o : contents_of bs ≡ record { items = []; refusal = Some e } = ap (λ (x : Option Refusal). begun x (contents_from (length bs) bs 1)) h in
    (sym (ap (λ (c : Contents). before ++ lines_of c.items) o ∙ append-nil before), sym (ap (λ (c : Contents). c.refusal) o))
