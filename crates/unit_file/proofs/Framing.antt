-- The record in front of what is left of a file, from the parts that the code takes it into.
use Rattle.std.proofs.Common.{◌≡◌, ℕ, suc, ◌+◌, ◌-◌, ◌*◌, ◌≤◌, Bool, not, List, [], ◌∷◌, length, get_or, take, drop, sym, ap, ◌∙◌, arith}
use Rattle.std.proofs.lemmas.Bool.{le-ltb, ne_eqb}
use Rattle.unit_file.specs.Reading.{length_in, kind_in, fields_in, fits_kind, bad_length}

pub record Taken (rest fields : List ℕ) (kind : ℕ) (fits : Bool) : Type 0 where
  pub bad : bad_length rest ≡ not fits
  pub kind_is : kind ≡ kind_in rest
  pub fields_are : fields ≡ fields_in rest
  pub long : 1 + length fields ≡ length_in rest

tested : (rest : List ℕ) (kind len : ℕ) (fits : Bool) → kind ≡ kind_in rest → len ≡ length_in rest → 1 ≤ len → 2 + len ≤ length rest → fits ≡ fits_kind kind len →
    bad_length rest ≡ not fits
tested rest kind len fits k l some whole e =
    let short = le-ltb (length rest) 2 (omega arith) in
    let none = ne_eqb (length_in rest) 0 (λ z. omega arith) in
    let cut = le-ltb (length rest) (2 + length_in rest) (omega arith) in
    rw (short, none, cut) (rw (k, l) at (ap not (sym e)))

pub taken : (rest two behind front fields : List ℕ) (kind len : ℕ) (fits : Bool) → two ≡ take 2 rest → behind ≡ drop 2 rest → length behind + 2 ≡ length rest →
    len ≡ get_or two 0 0 * 256 + get_or two 1 0 → len ≤ length behind → front ≡ take (len - 0) (drop 0 behind) → length front + 0 ≡ len →
    front ≡ kind ∷ fields → length fields + 1 ≡ length front → fits ≡ fits_kind kind len →
    Taken rest fields kind fits
taken [] two behind front fields kind len fits t b l n inside f e k m g = absurd (omega arith)
taken (x ∷ []) two behind front fields kind len fits t b l n inside f e k m g = absurd (omega arith)
taken (x ∷ y ∷ []) two behind front fields kind len fits t b l n inside f e k m g = absurd (omega (arith, ap length b))
taken (x ∷ y ∷ z ∷ more) two behind front fields kind len fits t b l n inside f e k m g =
    let size : len - 0 ≡ suc (length fields) = omega arith in
    let stated : len ≡ x * 256 + y = rw t at n in
    let both : kind ∷ fields ≡ z ∷ take (length fields) more = rw (b, size, k) at f in
    let same : fields ≡ take (length fields) more = cc in
    let first : kind ≡ z = cc in
    record {
      bad = tested (x ∷ y ∷ z ∷ more) kind len fits first stated (omega arith) (omega arith) g;
      kind_is = first;
      fields_are = same ∙ ap (λ (i : ℕ). take i more) (omega arith);
      long = omega arith;
    }
