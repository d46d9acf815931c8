-- Which records a request asks for (IBA volume 1, 15.2.1.1): its ComponentMask names the components by which it
-- asks, a bit for each.
use Rattle.std.specs.Prelude.{ℕ, Bool, true, ◌==◌, nat_lt, ◌||◌, not, if◌then◌else◌, bit_and, ◌+◌, List, slice_range}
use Rattle.std.specs.List.{list_all}
use Rattle.std.specs.Str.{bytes_eq}
use Rattle.mad_layout.specs.Bits.{bit_of}

-- a component: its bits in the mask, and whether a record and what is asked agree on it
pub record Component : Type 0 where
  pub bits : ℕ
  pub holds : Bool

abbrev pub on : ℕ → Bool → Component
on bits holds = record { bits = bits; holds = holds }

-- a component that the mask asks for with all of its bits has to agree; a bit that is no component's constrains nothing
abbrev pub passes : ℕ → Component → Bool
passes mask component = not (bit_and mask component.bits == component.bits) || component.holds

abbrev pub is_selected : ℕ → List Component → Bool
is_selected mask components = list_all (passes mask) components

-- ---- how what is shown and what is asked may be compared
abbrev pub same_bit : Bool → Bool → Bool
same_bit shown asked = bit_of shown == bit_of asked

-- so many bytes from this one on
abbrev pub same_part : ℕ → ℕ → List ℕ → List ℕ → Bool
same_part first size shown asked =
    bytes_eq (slice_range shown first (first + size)) (slice_range asked first (first + size))

-- greater than what is asked, less, or equal, as the selector says; the last selector asks for the greatest that there
-- is, and so for any
abbrev pub satisfies : ℕ → ℕ → ℕ → Bool
satisfies selector shown asked =
    if selector == 0 then nat_lt asked shown
    else if selector == 1 then nat_lt shown asked
    else if selector == 2 then shown == asked
    else true
