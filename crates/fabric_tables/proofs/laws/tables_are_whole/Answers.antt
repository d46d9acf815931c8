use Rattle.std.proofs.Common.{◌≡◌, ◌∷◌, [], ◌∙◌, arith, codes, refl}
use Rattle.std.specs.Fmt.{digits}
use Rattle.hex.specs.Hex.{encode_with}
use Rattle.fabric_tables.proofs.LinearWholeLemmas.{linear_is_whole}
use Rattle.fabric_tables.proofs.WholeLemmas.{are_used, none_used, text_is, text_with}
use Rattle.fabric_tables.specs.Multicast.{columns, count_line, head_line, ones_line, range_text, tens_line, titles, used}
use Rattle.fabric_tables.specs.Whole.{end_port, switch_with}
use Rattle.fabric_tables.proofs.laws.tables_are_whole.Goals as goal

-- the LIDs that have a line
four_used : used (switch_with 0x20 4 (0b01100 ∷ 0 ∷ 0b01010 ∷ [])) ≡ 0xc000 ∷ 0xc002 ∷ []
unfolding columns
four_used =
    are_used (switch_with 0x20 4 (0b01100 ∷ 0 ∷ 0b01010 ∷ [])) 3 (omega arith)
    (λ mlid past. none_used 0x20 4 (0b01100 ∷ 0 ∷ 0b01010 ∷ []) mlid past) ∙ refl

twelve_used : used (switch_with 0x10 12 (0b10000000000000 ∷ 0b11010000000101 ∷ [])) ≡ 0xc001 ∷ []
unfolding columns
twelve_used =
    are_used (switch_with 0x10 12 (0b10000000000000 ∷ 0b11010000000101 ∷ [])) 2 (omega arith)
    (λ mlid past. none_used 0x10 12 (0b10000000000000 ∷ 0b11010000000101 ∷ []) mlid past) ∙ refl

none_are_used : used (switch_with 0x10 4 (0 ∷ 0b100000 ∷ [])) ≡ []
unfolding columns
none_are_used =
    are_used (switch_with 0x10 4 (0 ∷ 0b100000 ∷ [])) 2 (omega arith) (λ mlid past. none_used 0x10 4 (0 ∷ 0b100000 ∷ []) mlid past) ∙ refl

pub returns : goal.returns
unfolding digits encode_with columns count_line head_line ones_line range_text tens_line titles text_with
returns c = record {
  linear = linear_is_whole;
  four_ports = text_is (1 ∷ 3 ∷ []) (end_port (codes "B") 0x20 3 4) (switch_with 0x20 4 (0b01100 ∷ 0 ∷ 0b01010 ∷ [])) _ four_used ∙ refl;
  twelve_ports = text_is (1 ∷ []) (end_port (codes "A") 0x10 2 12) (switch_with 0x10 12 (0b10000000000000 ∷ 0b11010000000101 ∷ [])) _ twelve_used ∙ refl;
  no_port = text_is [] (end_port (codes "A") 0x10 2 4) (switch_with 0x10 4 (0 ∷ 0b100000 ∷ [])) _ none_are_used ∙ refl;
}
