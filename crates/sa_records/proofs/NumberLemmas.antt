-- The numbers that a mask names are copied one after the other.
use Rattle.std.proofs.Common.{◌≡◌, ℕ, ◌==◌, bit_and, List, [], ◌∷◌, filter, map, refl, inl, inr}
use Rattle.std.proofs.lemmas.Bool.{cases_Bool}
use Rattle.mad_layout.specs.Bits.{field}
use Rattle.mad_layout.specs.Layout.{at, put_all}
use Rattle.sa_records.specs.Asked.{Asked}
use Rattle.sa_records.specs.ServiceRecord.{is_named, with_number_named}

abbrev pub copied_in : ℕ → List ℕ → List Asked → List ℕ → List ℕ
copied_in mask numbers [] bytes = bytes
copied_in mask numbers (one ∷ rest) bytes = copied_in mask numbers rest (with_number_named mask numbers one.bits one.off one.len bytes)

pub copied : (mask : ℕ) (numbers : List ℕ) (all : List Asked) (bytes : List ℕ)
    → copied_in mask numbers all bytes ≡ put_all bytes (map (λ one. at one.off one.len (field numbers one.off one.len)) (filter (is_named mask) all))
unfolding with_number_named
copied mask numbers [] bytes = refl
copied mask numbers (one ∷ rest) bytes = elim (cases_Bool (bit_and mask one.bits == one.bits)) [
  | inl named ↦ rw named (copied mask numbers rest _)
  | inr other ↦ rw other (copied mask numbers rest _)
]
