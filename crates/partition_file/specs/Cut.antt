-- What the definitions of a text are, by cutting it whole: at each `;`, each piece at its `:`, what stands before that and
-- behind it at each `,`, and each part at its `=`. `Definitions` goes from byte to byte and hands on a state; here is
-- neither. That both say the same of every text that is read is a law of `src/laws.rt`.
use Rattle.std.specs.Prelude.{ℕ, Bool, ◌==◌, if◌then◌else◌, List, [], ◌∷◌, ◌++◌, map, fold, flat_map, Option, Some, None}
use Rattle.std.specs.List.{after_first, before_first, list_any, slice_split}
use Rattle.partition_file.specs.declared.definition.Definition.{Definition}
use Rattle.partition_file.specs.declared.flag.Flag.{Flag}
use Rattle.partition_file.specs.declared.flag.Flags.{Flags}
use Rattle.partition_file.specs.declared.item.Item.{Item}
use Rattle.partition_file.specs.declared.item.Ports.{Ports}
use Rattle.partition_file.specs.declared.token.Value.{Value}
use Rattle.partition_file.specs.declared.token.Value.TheVariants.{Taken}
use Rattle.partition_file.specs.Flags.{flag_of, is_full_by_default, no_flags, with_flag, with_setting}
use Rattle.partition_file.specs.Pieces.{folded}
use Rattle.partition_file.specs.Ports.{ports_named}
use Rattle.partition_file.specs.Tokens.{base_in, is_full, membership_in, value_of}

-- where a text is cut
abbrev pub at_semicolon : ℕ → Bool
at_semicolon byte = byte == 59

abbrev pub at_colon : ℕ → Bool
at_colon byte = byte == 58

abbrev pub at_comma : ℕ → Bool
at_comma byte = byte == 44

abbrev pub at_equals : ℕ → Bool
at_equals byte = byte == 61

-- ---- a part between two commas: a word, perhaps with a value
abbrev pub has_value : List ℕ → Bool
has_value part = list_any at_equals part

abbrev pub word_of : List ℕ → List ℕ
word_of part = folded (before_first at_equals part)

abbrev pub value_behind : List ℕ → List ℕ
value_behind part = folded (after_first at_equals part)

-- ---- before the `:`: a name, perhaps with a PKey, and then flags
abbrev pub base_of_part : List ℕ → Option ℕ
base_of_part part = if has_value part then base_in (value_behind part) else None

abbrev pub with_value : Value → Flags → Flags
with_value (Taken setting) flags = with_setting setting flags
with_value _ flags = flags

abbrev pub with_flag_value : Option Flag → List ℕ → Flags → Flags
with_flag_value (Some flag) value flags = with_value (value_of flag value) flags
with_flag_value None value flags = flags

-- the flags with one more part
abbrev pub with_flag_part : Flags → List ℕ → Flags
with_flag_part flags part =
    if has_value part then with_flag_value (flag_of (word_of part)) (value_behind part) flags else with_flag (flag_of (word_of part)) flags

abbrev pub headed : List (List ℕ) → Definition
headed [] = record { name = []; base = None; flags = no_flags; items = [] }
headed (first ∷ flags) = record { name = word_of first; base = base_of_part first; flags = fold with_flag_part no_flags flags; items = [] }

-- ---- behind it: ports, perhaps with their membership
abbrev pub item_of : Option Ports → Bool → List Item
item_of (Some ports) full = record { ports = ports; full = full } ∷ []
item_of None full = []

-- the item of a part, if items that say nothing of their membership are full by default or are not; a blank part has none
abbrev pub items_of : Bool → List ℕ → List Item
items_of default part = item_of (ports_named (word_of part))
    (if has_value part then is_full (membership_in (value_behind part)) else default)

abbrev pub with_items : Definition → List (List ℕ) → Definition
with_items definition parts =
    record definition { items = definition.items ++ flat_map (items_of (is_full_by_default definition.flags)) parts }

-- ---- a definition: what stands before a `;`
abbrev pub definition_in : List ℕ → Definition
definition_in piece =
    with_items (headed (slice_split at_comma (before_first at_colon piece))) (slice_split at_comma (after_first at_colon piece))

-- all pieces but the last, which no `;` ends
abbrev pub ended : List (List ℕ) → List (List ℕ)
ended [] = []
ended (piece ∷ []) = []
ended (piece ∷ next ∷ rest) = piece ∷ ended (next ∷ rest)

abbrev pub definitions_cut : List ℕ → List Definition
definitions_cut text = map definition_in (ended (slice_split at_semicolon text))
