-- What is read of a record's line is the record.
use Rattle.std.proofs.Common.{◌≡◌, ℕ, ◌+◌, ◌-◌, ◌*◌, ◌^◌, ◌<◌, ◌≤◌, Bool, true, false, cond, not, ◌&&◌, ◌||◌, eqb, ltb, List, [], ◌∷◌, ◌++◌, length, Some, None, codes, decimal, sym, refl, ap, ◌∙◌, arith, rules}
use Rattle.std.proofs.lemmas.Fmt.{digits_decimal, digits_value-decimal, decimal_nonempty}
use Rattle.std.proofs.lemmas.List.{append-nil}
use Rattle.std.proofs.lemmas.Str.Parse.{IsNumeralModel, numerals_by_fold, tells_all_ascii_digits}
use Rattle.std.proofs.lemmas.Bool.{and_parts, and_from, le-ltb, or_parts, not_from_false}
use Rattle.std.proofs.lemmas.Bool.Decides.{nat_tests}
use Rattle.std.specs.List.{AllByRecursion}
use Rattle.std.specs.Str.{all_ascii_digits}
use Rattle.unit_file.specs.Records.{Item, header, unit, cost, note, unprintable, bytes_of}
use Rattle.unit_file.specs.Writing.{bad_note_bytes}
use Rattle.unit_text.specs.Lines.{text_of}
use Rattle.scanning.specs.Scanning.{is_digit, on_digits, number_in, field_in, at_end}
use Rattle.unit_line.specs.Parsing.{header_in, unit_in, cost_in, item_in}

-- fields one behind the other
cost_fields : (t line subzone day hour amount : List ℕ) (n₁ n₂ n₃ n₄ n₅ : ℕ) →
    Some (n₁, line) ≡ field_in (codes "line ") 255 t → Some (n₂, subzone) ≡ field_in (codes " subzone ") 255 line → Some (n₃, day) ≡ field_in (codes " day ") 255 subzone →
    Some (n₄, hour) ≡ field_in (codes " hour ") 255 day → Some (n₅, amount) ≡ field_in (codes " amount ") 4294967295 hour →
    cost_in t ≡ at_end amount (cost (record { line = n₁; subzone = n₂; day = n₃; hour = n₄; amount = n₅ }))
cost_fields t line subzone day hour amount n₁ n₂ n₃ n₄ n₅ e₁ e₂ e₃ e₄ e₅ = rw (sym e₁, sym e₂, sym e₃, sym e₄, sym e₅)

unit_fields : (t customer day hour subzone usage quantity : List ℕ) (n₁ n₂ n₃ n₄ n₅ n₆ : ℕ) →
    Some (n₁, customer) ≡ field_in (codes "customer ") 65535 t → Some (n₂, day) ≡ field_in (codes " day ") 255 customer → Some (n₃, hour) ≡ field_in (codes " hour ") 255 day →
    Some (n₄, subzone) ≡ field_in (codes " subzone ") 255 hour → Some (n₅, usage) ≡ field_in (codes " use ") 255 subzone → Some (n₆, quantity) ≡ field_in (codes " quantity ") 4294967295 usage →
    unit_in t ≡ at_end quantity (unit (record { customer = n₁; day = n₂; hour = n₃; subzone = n₄; usage = n₅; quantity = n₆ }))
unit_fields t customer day hour subzone usage quantity n₁ n₂ n₃ n₄ n₅ n₆ e₁ e₂ e₃ e₄ e₅ e₆ = rw (sym e₁, sym e₂, sym e₃, sym e₄, sym e₅, sym e₆)

header_fields : (t customers days subzones : List ℕ) (n₁ n₂ n₃ : ℕ) →
    Some (n₁, customers) ≡ field_in (codes "customers ") 65535 t → Some (n₂, days) ≡ field_in (codes " days ") 255 customers → Some (n₃, subzones) ≡ field_in (codes " subzones ") 255 days →
    header_in t ≡ at_end subzones (header (record { customers = n₁; days = n₂; subzones = n₃ }))
header_fields t customers days subzones n₁ n₂ n₃ e₁ e₂ e₃ = rw (sym e₁, sym e₂, sym e₃)

-- the number that digits write, behind a number so far
abbrev read_on : ℕ → List ℕ → ℕ
read_on n [] = n
read_on n (c ∷ cs) = read_on (n * 10 + (c - 48)) cs

own : IsNumeralModel (λ ds. all_ascii_digits ds ≡ true) (read_on 0)
own = numerals_by_fold _ tells_all_ascii_digits read_on (search rules)

read_on_ge : (ds : List ℕ) (n : ℕ) → n ≤ read_on n ds
read_on_ge [] n = omega arith
read_on_ge (c ∷ cs) n = let h = read_on_ge cs (n * 10 + (c - 48)) in omega arith

on_digits_is : (most n : ℕ) (ds rest : List ℕ) → all_ascii_digits ds ≡ true → read_on n ds ≤ most → ((k : ℕ) → on_digits most k rest ≡ Some (k, rest)) →
    on_digits most n (ds ++ rest) ≡ Some (read_on n ds, rest)
on_digits_is most n [] rest digits small stop = stop n
on_digits_is most n (c ∷ cs) rest digits small stop =
    let d = and_parts (is_digit c) (all_ascii_digits cs) digits in
    let m : ℕ = n * 10 + (c - 48) in
    let g = read_on_ge cs m in
    ap (λ (t : Bool). cond t (cond (ltb most m) None (on_digits most m (cs ++ rest))) (Some (n, c ∷ (cs ++ rest)))) d.0
    ∙ ap (λ (t : Bool). cond t None (on_digits most m (cs ++ rest))) (le-ltb most m (omega arith))
    ∙ on_digits_is most m cs rest d.1 small stop

number_of : (most : ℕ) (ds rest : List ℕ) → 0 < length ds → all_ascii_digits ds ≡ true → read_on 0 ds ≤ most → ((k : ℕ) → on_digits most k rest ≡ Some (k, rest)) →
    number_in most (ds ++ rest) ≡ Some (read_on 0 ds, rest)
number_of most [] rest some digits small stop = absurd (omega arith)
number_of most (c ∷ cs) rest some digits small stop =
    ap (λ (t : Bool). cond t (on_digits most 0 (c ∷ (cs ++ rest))) None) (and_parts (is_digit c) (all_ascii_digits cs) digits).0 ∙ on_digits_is most 0 (c ∷ cs) rest digits small stop

pub number_back : (most n : ℕ) (rest : List ℕ) → n ≤ most → most < 2 ^ 64 → ((k : ℕ) → on_digits most k rest ≡ Some (k, rest)) → Some (n, rest) ≡ number_in most (decimal n ++ rest)
number_back most n rest small limit stop =
    let h : n < 2 ^ 64 = omega arith in
    let v = digits_value-decimal own n h in
    sym (number_of most (decimal n) rest (decimal_nonempty n h) (digits_decimal own n h) (omega arith) stop ∙ ap (λ (m : ℕ). Some (m, rest)) v)

pub number_last : (most n : ℕ) → n ≤ most → most < 2 ^ 64 → Some (n, []) ≡ number_in most (decimal n)
number_last most n small limit = number_back most n [] small limit (λ k. refl) ∙ ap (number_in most) (append-nil (decimal n))

-- the numbers of a record, in the widths of its fields
abbrev pub Widths : Item → Type 0
Widths (header s) = (s.customers ≤ 65535) × (s.days ≤ 255) × (s.subzones ≤ 255)
Widths (unit r) = (r.customer ≤ 65535) × (r.day ≤ 255) × (r.hour ≤ 255) × (r.subzone ≤ 255) × (r.usage ≤ 255) × (r.quantity ≤ 4294967295)
Widths (cost r) = (r.line ≤ 255) × (r.subzone ≤ 255) × (r.day ≤ 255) × (r.hour ≤ 255) × (r.amount ≤ 4294967295)
Widths (note bytes) = Unit {0}

small : 65535 < 2 ^ 64
small = omega arith

byte : 255 < 2 ^ 64
byte = omega arith

word : 4294967295 < 2 ^ 64
word = omega arith

pub item_back : (item : Item) → Widths item → item_in (text_of item) ≡ Some item
item_back (header s) w =
    let t₂ : List ℕ = codes " subzones " ++ decimal s.subzones in
    let t₁ : List ℕ = codes " days " ++ (decimal s.days ++ t₂) in
    let t₀ : List ℕ = codes "customers " ++ (decimal s.customers ++ t₁) in
    header_fields t₀ t₁ t₂ [] s.customers s.days s.subzones
    (number_back 65535 s.customers t₁ w.0 small (λ k. refl)) (number_back 255 s.days t₂ w.1 byte (λ k. refl)) (number_last 255 s.subzones w.2 byte)
item_back (unit r) w =
    let t₅ : List ℕ = codes " quantity " ++ decimal r.quantity in
    let t₄ : List ℕ = codes " use " ++ (decimal r.usage ++ t₅) in
    let t₃ : List ℕ = codes " subzone " ++ (decimal r.subzone ++ t₄) in
    let t₂ : List ℕ = codes " hour " ++ (decimal r.hour ++ t₃) in
    let t₁ : List ℕ = codes " day " ++ (decimal r.day ++ t₂) in
    let t₀ : List ℕ = codes "customer " ++ (decimal r.customer ++ t₁) in
    unit_fields t₀ t₁ t₂ t₃ t₄ t₅ [] r.customer r.day r.hour r.subzone r.usage r.quantity
    (number_back 65535 r.customer t₁ w.0 small (λ k. refl))
    (number_back 255 r.day t₂ w.1 byte (λ k. refl))
    (number_back 255 r.hour t₃ w.2 byte (λ k. refl))
    (number_back 255 r.subzone t₄ w.3 byte (λ k. refl))
    (number_back 255 r.usage t₅ w.4 byte (λ k. refl))
    (number_last 4294967295 r.quantity w.5 word)
item_back (cost r) w =
    let t₄ : List ℕ = codes " amount " ++ decimal r.amount in
    let t₃ : List ℕ = codes " hour " ++ (decimal r.hour ++ t₄) in
    let t₂ : List ℕ = codes " day " ++ (decimal r.day ++ t₃) in
    let t₁ : List ℕ = codes " subzone " ++ (decimal r.subzone ++ t₂) in
    let t₀ : List ℕ = codes "line " ++ (decimal r.line ++ t₁) in
    cost_fields t₀ t₁ t₂ t₃ t₄ [] r.line r.subzone r.day r.hour r.amount
    (number_back 255 r.line t₁ w.0 byte (λ k. refl))
    (number_back 255 r.subzone t₂ w.1 byte (λ k. refl))
    (number_back 255 r.day t₃ w.2 byte (λ k. refl))
    (number_back 255 r.hour t₄ w.3 byte (λ k. refl))
    (number_last 4294967295 r.amount w.4 word)
item_back (note bytes) w = refl

-- a text without a line end
abbrev pub plain : List ℕ → Bool
plain [] = true
plain (b ∷ bs) = not (eqb b 10) && plain bs

plain_digits : (ds rest : List ℕ) → all_ascii_digits ds ≡ true → plain rest ≡ true → plain (ds ++ rest) ≡ true
plain_digits [] rest digits p = p
plain_digits (c ∷ cs) rest digits p =
    let d = and_parts (is_digit c) (all_ascii_digits cs) digits in
    let apart : eqb c 10 ≡ false = digit_apart c d.0 in
    and_from (not (eqb c 10)) (plain (cs ++ rest)) (not_from_false (eqb c 10) apart) (plain_digits cs rest d.1 p)
  where
    digit_apart : (b : ℕ) → is_digit b ≡ true → eqb b 10 ≡ false
    digit_apart b h = grind (arith, nat_tests)

plain_number : (n most : ℕ) (rest : List ℕ) → n ≤ most → most < 2 ^ 64 → plain rest ≡ true → plain (decimal n ++ rest) ≡ true
plain_number n most rest le limit p = let h : n < 2 ^ 64 = omega arith in plain_digits (decimal n) rest (digits_decimal own n h) p

plain_last : (n most : ℕ) → n ≤ most → most < 2 ^ 64 → plain (decimal n) ≡ true
plain_last n most le limit = ap plain (sym (append-nil (decimal n))) ∙ plain_number n most [] le limit refl

plain_note : (bytes : List ℕ) → unprintable bytes ≡ false → plain bytes ≡ true
plain_note [] h = refl
plain_note (b ∷ bs) h =
    let p = or_parts (ltb b 32 || ltb 126 b) (unprintable bs) h in
    and_from (not (eqb b 10)) (plain bs) (not_from_false (eqb b 10) (apart b (or_parts (ltb b 32) (ltb 126 b) p.0).0)) (plain_note bs p.1)
  where
    apart : (c : ℕ) → ltb c 32 ≡ false → eqb c 10 ≡ false
    apart c e = grind (arith, nat_tests)

pub text_plain : (item : Item) → bad_note_bytes item ≡ false → Widths item → plain (text_of item) ≡ true
text_plain (header s) good w = plain_number s.customers 65535 _ w.0 small (plain_number s.days 255 _ w.1 byte (plain_last s.subzones 255 w.2 byte))
text_plain (unit r) good w = plain_number r.customer 65535 _ w.0 small (plain_number r.day 255 _ w.1 byte (plain_number r.hour 255 _ w.2 byte
    (plain_number r.subzone 255 _ w.3 byte (plain_number r.usage 255 _ w.4 byte (plain_last r.quantity 4294967295 w.5 word)))))
text_plain (cost r) good w = plain_number r.line 255 _ w.0 byte (plain_number r.subzone 255 _ w.1 byte (plain_number r.day 255 _ w.2 byte
    (plain_number r.hour 255 _ w.3 byte (plain_last r.amount 4294967295 w.4 word))))
text_plain (note bytes) good w = plain_note bytes good

-- records of bytes have the widths of their fields
pub widths : (item : Item) → AllByRecursion (λ b. b < 256) (bytes_of item) → Widths item
widths (header s) a =
    let f = a.1.1.1 in
    let c = f.0 in let d = f.1.1.0 in let z = f.1.1.1.0 in
    (omega arith, omega arith, omega arith)
widths (unit r) a =
    let f = a.1.1.1 in
    let c = f.0 in let g = f.1.1 in
    let d = g.0 in let h = g.1.0 in let z = g.1.1.0 in let u = g.1.1.1.0 in let q = g.1.1.1.1.0 in
    (omega arith, omega arith, omega arith, omega arith, omega arith, omega arith)
widths (cost r) a =
    let f = a.1.1.1 in
    let l = f.0 in let z = f.1.0 in let d = f.1.1.0 in let h = f.1.1.1.0 in let m = f.1.1.1.1.0 in
    (omega arith, omega arith, omega arith, omega arith, omega arith)
widths (note bytes) a = tt
