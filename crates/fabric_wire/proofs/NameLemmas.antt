-- A name in the 64 bytes of NodeDescription is a description.
use Rattle.std.proofs.Common.{ℕ, ◌≡◌, ◌+◌, ◌-◌, ◌<◌, ◌≤◌, ◌∙◌, ap, true, nat_le, nat_lt, List, [], ◌∷◌, length, replicate, arith, length-append}
use Rattle.std.specs.List.{list_all}
use Rattle.std.proofs.lemmas.Bool.{and_parts}
use Rattle.std.proofs.lemmas.Bool.Decides.{nat_tests}
use Rattle.std.proofs.lemmas.List.{length-replicate}
use Rattle.topo_file.specs.Words.{is_name, is_name_byte}
use Rattle.std.specs.Int.Digits.{AllBelowBase}
use Rattle.attr_tables.specs.Attribute.{IsAttribute}
use Rattle.mad_layout.proofs.NumberLemmas.{below_append}
use Rattle.mad_layout.proofs.LayoutLemmas.{zeros_below}
use Rattle.fabric_wire.specs.OfTopology.{named}

name_byte_small : (byte : ℕ) → is_name_byte byte ≡ true → nat_lt byte 256 ≡ true
name_byte_small byte h = grind (arith, nat_tests, h)

name_small : (name : List ℕ) → list_all is_name_byte name ≡ true → AllBelowBase 256 name
name_small [] h = tt
name_small (byte ∷ name) h =
    let parts = and_parts (is_name_byte byte) (list_all is_name_byte name) h in
    let one = name_byte_small byte parts.0 in
    let less : byte < 256 = grind (arith, nat_tests, one) in
    (less, name_small name parts.1)

filled : (few : ℕ) → nat_le few 32 ≡ true → few + (64 - few) ≡ 64
filled few h = let less : few ≤ 32 = grind (arith, nat_tests, h) in omega (arith, less)

pub name_described : (name : List ℕ) → is_name name ≡ true → IsAttribute (named name)
name_described name h =
    let parts = and_parts (nat_le (length name) 32) (list_all is_name_byte name) (and_parts (nat_le 1 (length name)) _ h).1 in
    let rest = replicate (64 - length name) 0 in
    let long : length (named name) ≡ 64 = length-append name rest ∙ ap (λ (n : ℕ). length name + n) (length-replicate {A = ℕ} (64 - length name) 0) ∙ filled (length name) parts.0 in
    record { count = long; small = below_append name rest (name_small name parts.1) (zeros_below (64 - length name)) }
