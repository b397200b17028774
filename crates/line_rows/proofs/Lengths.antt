-- How many bytes the rows of an accepted bill take.
use Rattle.std.proofs.Common.{◌≡◌, ℕ, ◌+◌, ◌*◌, ◌^◌, ◌<◌, ◌≤◌, Bool, true, false, cond, List, [], ◌∷◌, ◌++◌, length, get_or, ℤ, decimal, sum, arith, w64, Fits, SFits}
use lib.Signed.{mag}
use Rattle.std.specs.List.{range_with_len, flat_map, AllByRecursion}
use Rattle.std.proofs.lemmas.Nat.{mul-le}
use Rattle.std.proofs.lemmas.List.Concat.{length-flat_map}
use Rattle.std.proofs.lemmas.List.FromFn.{length-range_with_len}
use Rattle.std.proofs.lemmas.Fmt.{length-decimal-le, length_signed_le}
use Rattle.std.proofs.ByRecursion.{All-from_get_or}
use Rattle.std.proofs.lemmas.List.{length-append}
use Rattle.tariff.specs.declared.rows.Sizes.{Sizes}
use Rattle.lines.specs.Lines.{line_of}
use Rattle.bill_rules.specs.Bill.{Figures}
use Rattle.bill_rules.proofs.Agreement.{all_counting}
use Rattle.billing.specs.Work.{Upto}
use Rattle.line_rows.specs.Rows.{field, signed_field, row_text, figureless, customer_row, sum_text, line_text}
use Rattle.line_rows.specs.Writing.{stationed, most_rows}
use Rattle.line_rows.proofs.Bounds.{most_charge, most_station, station_most, sum_within, Small}

-- a figure for stations takes 13 digits, or one where there is no station part
abbrev station_digits : Bool → ℕ
station_digits b = cond b 13 1

station_digits_hold : (b : Bool) (x : ℕ) → x ≤ station_most b → length (decimal x) ≤ station_digits b
station_digits_hold true x le = length-decimal-le 13 x (omega arith) (omega arith) (omega arith)
station_digits_hold false x le = length-decimal-le 1 x (omega arith) (omega arith) (omega arith)

module _ (b : Bool) where
  abbrev row_bytes : ℕ
  row_bytes = 23 + station_digits b + station_digits b

  row_bytes_within : (n k charge station credit : ℕ) → n < 10 → k < 1000 → charge ≤ most_charge → station ≤ station_most b → credit ≤ station_most b → length (row_text n k charge station credit) ≤ row_bytes
  row_bytes_within n k charge station credit dn dk dc ds dr =
      let a₁ = length-append (decimal n) (field k) in
      let a₂ = length-append (decimal n ++ field k) (field charge) in
      let a₃ = length-append ((decimal n ++ field k) ++ field charge) (field station) in
      let a₄ = length-append (((decimal n ++ field k) ++ field charge) ++ field station) (field credit) in
      let a₅ = length-append ((((decimal n ++ field k) ++ field charge) ++ field station) ++ field credit) (10 ∷ []) in
      let l₁ = length-decimal-le 1 n (omega arith) (omega arith) (omega arith) in
      let l₂ = length-decimal-le 3 k (omega arith) (omega arith) (omega arith) in
      let l₃ = length-decimal-le 14 charge (omega arith) (omega arith) (omega arith) in
      let l₄ = station_digits_hold b station ds in
      let l₅ = station_digits_hold b credit dr in
      omega arith

  -- a customer without a figure has no row
  shown_bytes : (t : Bool) (row : List ℕ) → length row ≤ row_bytes → length (cond t [] row) ≤ row_bytes
  shown_bytes true row le = omega arith
  shown_bytes false row le = le

joined_within : (g : ℕ → List ℕ) (most : ℕ) (xs : List ℕ) → AllByRecursion (λ x. length (g x) ≤ most) xs → length (flat_map g xs) ≤ length xs * most
joined_within g most xs all = omega (arith, length-flat_map g xs, sum_within (λ x. length (g x)) most xs all)

-- the sum of a column
upto_sum : (xs : List ℕ) (most : ℕ) → Upto xs most → sum xs ≤ length xs * most
upto_sum xs most all = sum_within (λ x. x) most xs (All-from_get_or (λ x. x ≤ most) xs 0 all)

-- a column of small figures has a sum of 64 bits
pub column_fits : (xs : List ℕ) (total : ℕ) → length xs ≤ 256 → Upto xs (2 ^ 48) → total ≡ sum xs → Fits w64 total
column_fits xs total few small is = let most = upto_sum xs (2 ^ 48) small in let product = mul-le (length xs) (2 ^ 48) 256 (2 ^ 48) few (omega arith) in omega arith

sum_bytes : (n charge station credit : ℕ) (short over stranded : ℤ) → n < 10 → charge < 10 ^ 17 → station < 10 ^ 17 → credit < 10 ^ 17 → SFits w64 short → SFits w64 over → SFits w64 stranded → length (sum_text n charge station credit short over stranded) ≤ 123
sum_bytes n charge station credit short over stranded dn dc ds dr fs fo ft =
    let t₁ = decimal n ++ (32 ∷ 115 ∷ 117 ∷ 109 ∷ []) in
    let t₂ = t₁ ++ field charge in
    let t₃ = t₂ ++ field station in
    let t₄ = t₃ ++ field credit in
    let t₅ = t₄ ++ signed_field short in
    let t₆ = t₅ ++ signed_field over in
    let a₁ = length-append (decimal n) (32 ∷ 115 ∷ 117 ∷ 109 ∷ []) in
    let a₂ = length-append t₁ (field charge) in
    let a₃ = length-append t₂ (field station) in
    let a₄ = length-append t₃ (field credit) in
    let a₅ = length-append t₄ (signed_field short) in
    let a₆ = length-append t₅ (signed_field over) in
    let a₇ = length-append t₆ (signed_field stranded) in
    let a₈ = length-append (t₆ ++ signed_field stranded) (10 ∷ []) in
    let l₁ = length-decimal-le 1 n (omega arith) (omega arith) (omega arith) in
    let l₂ = length-decimal-le 17 charge (omega arith) (omega arith) (omega arith) in
    let l₃ = length-decimal-le 17 station (omega arith) (omega arith) (omega arith) in
    let l₄ = length-decimal-le 17 credit (omega arith) (omega arith) (omega arith) in
    let l₅ = length_signed_le 19 short (let m : mag short < 2 ^ 63 = fs.sfits in omega arith) fs.sfits in
    let l₆ = length_signed_le 19 over (let m : mag over < 2 ^ 63 = fo.sfits in omega arith) fo.sfits in
    let l₇ = length_signed_le 19 stranded (let m : mag stranded < 2 ^ 63 = ft.sfits in omega arith) ft.sfits in
    omega arith

station_most_holds : (b : Bool) → station_most b ≤ most_station
station_most_holds true = omega arith
station_most_holds false = omega arith

rows_most : (b : Bool) → 256 * (23 + station_digits b + station_digits b) + 123 ≤ cond b 12667 6523
rows_most true = omega arith
rows_most false = omega arith

pub rows_fit : (n : ℕ) (z : Sizes) (f : Figures) → Small n z f → SFits w64 f.short → SFits w64 f.over → SFits w64 f.stranded → length (line_text n f) ≤ most_rows n
rows_fit n z f small fs fo ft =
    let b = stationed (line_of n) in
    let most = row_bytes b in
    let g = customer_row n f.charges f.stations f.credits in
    let count = length f.charges in
    let few : count ≤ 256 = omega (arith, small.charges_many, small.customers_few) in
    let same_s = small.stations_many in
    let same-r = small.credits_many in
    let same-c = small.charges_many in
    let each = all_counting (λ k. length (g k) ≤ most) count
    (λ k lt. shown_bytes b (figureless (get_or f.charges k 0) (get_or f.stations k 0) (get_or f.credits k 0)) _
    (row_bytes_within b n k (get_or f.charges k 0) (get_or f.stations k 0) (get_or f.credits k 0) small.digit (omega arith) (small.charges_small k lt) (small.stations_small k (omega arith)) (small.credits_small k (omega arith)))) in
    let rows = joined_within g most (range_with_len 0 count) each in
    let many = length-range_with_len 0 count in
    let top = station_most_holds b in
    let sc = upto_sum f.charges most_charge small.charges_small in
    let ss = upto_sum f.stations (station_most b) small.stations_small in
    let sr = upto_sum f.credits (station_most b) small.credits_small in
    let pc = mul-le (length f.charges) most_charge 256 most_charge few (omega arith) in
    let ps = mul-le (length f.stations) (station_most b) 256 most_station (omega arith) top in
    let pr = mul-le (length f.credits) (station_most b) 256 most_station (omega arith) top in
    let sums = sum_bytes n (sum f.charges) (sum f.stations) (sum f.credits) f.short f.over f.stranded small.digit (omega arith) (omega arith) (omega arith) fs fo ft in
    let all = length-append (flat_map g (range_with_len 0 count)) (sum_text n (sum f.charges) (sum f.stations) (sum f.credits) f.short f.over f.stranded) in
    let pm = mul-le (length (range_with_len 0 count)) most 256 most (omega arith) (omega arith) in
    omega (arith, rows_most b)
