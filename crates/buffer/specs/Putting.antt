-- Writing into a buffer from a place on.
--   pasted       a buffer with some of its bytes, from a place on, written over
--   put_refusal  why a text is not written at a place of a buffer with so much room
use Rattle.std.specs.Prelude.{ℕ, ◌+◌, List, [], ◌∷◌, ◌++◌, length, take, drop, Option, nat_lt}
use Rattle.tariff.specs.Refusals.{first_of}
use Rattle.tariff.specs.declared.refusal.Refusal.{Refusal}
use Rattle.tariff.specs.declared.refusal.Refusal.TheVariants.{BufferTooShort}

abbrev pub pasted : List ℕ → ℕ → List ℕ → List ℕ
pasted out place bytes = take place out ++ (bytes ++ drop (place + length bytes) out)

abbrev pub put_refusal : ℕ → ℕ → List ℕ → Option Refusal
put_refusal room place text = first_of ((nat_lt room (place + length text), BufferTooShort) ∷ [])
