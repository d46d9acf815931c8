-- Lines that stand in more than one text.
use Rattle.std.specs.Prelude.{ℕ, List, [], ◌∷◌, ◌++◌, codes, decimal}
use Rattle.std.specs.Int.{w16, to_be_bytes}
use Rattle.partition_file.specs.declared.heading.Heading.{Heading}
use Rattle.subnet_model.specs.declared.subnet_port.SubnetPort.{SubnetPort}
use Rattle.partition_reports.specs.Ports.{port_text}
use Rattle.text_words.specs.Parts.{hex_text}

-- an empty name is shown as `-`
abbrev pub shown_name : List ℕ → List ℕ
shown_name [] = codes "-"
shown_name (first ∷ rest) = first ∷ rest

-- `partition NUMBER BASE NAME`
abbrev pub heading_line : ℕ → Heading → List ℕ
heading_line number heading =
    codes "partition " ++ decimal number
    ++ codes " " ++ hex_text (to_be_bytes w16 heading.base)
    ++ codes " " ++ shown_name heading.name ++ 10 ∷ []

-- `member KEY PORT`
abbrev pub member_line : SubnetPort → ℕ → List ℕ
member_line port key = codes "member " ++ hex_text (to_be_bytes w16 key) ++ codes " " ++ port_text port ++ 10 ∷ []
