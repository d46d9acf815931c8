-- What holds of all LIDs: the statements of the laws of `src/laws.rt`.
use Rattle.std.specs.Prelude.{ℕ, ◌≡◌, ◌==◌, ◌≤◌, ◌↔◌, List, length, Some}
use Rattle.std.specs.List.{IsDistinct}
use Rattle.lid_assign.specs.Lids.{guid_in, lid_in}

-- if no two GUIDs are the same, a LID is a GUID's if and only if the GUID is the LID's
abbrev pub LidsAndGuidsNameEachOther : Type 0
LidsAndGuidsNameEachOther =
    (guids : List ℕ) (guid lid : ℕ) → IsDistinct (λ a b. a == b) guids → (lid_in guids guid ≡ Some lid) ↔ (guid_in guids lid ≡ Some guid)

-- the LIDs that some GUID has are 1 to the number of GUIDs
abbrev pub LidsCountFrom1 : Type 0
LidsCountFrom1 = (guids : List ℕ) (lid : ℕ) → ((guid : ℕ) × (guid_in guids lid ≡ Some guid)) ↔ ((1 ≤ lid) × (lid ≤ length guids))
