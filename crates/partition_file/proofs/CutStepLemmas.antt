-- What a state of the reader makes of the rest of its definition, if that is cut; it stays so from delimiter to delimiter.
use Rattle.std.proofs.Common.{◌≡◌, ℕ, Bool, true, false, cond, List, [], ◌∷◌, ◌++◌, length, fold, Option, Some, None, refl, sym, ap, ◌∙◌, append_assoc, arith}
use Rattle.std.specs.Prelude.{bytes_eq, codes}
use Rattle.std.specs.List.{after_first, before_first, flat_map, slice_split, onto_first}
use Rattle.std.proofs.lemmas.Bool.{eqb-true}
use Rattle.std.proofs.lemmas.List.{append-nil}
use Rattle.partition_file.specs.declared.definition.Definition.{Definition}
use Rattle.partition_file.specs.declared.definition_part.Part.{Part}
use Rattle.partition_file.specs.declared.definition_part.Part.TheVariants as part
use Rattle.partition_file.specs.declared.fault.PartitionCause.TheVariants.{BadCharacter, BadNumber, MgidItem, Unfinished, UnknownFlag}
use Rattle.partition_file.specs.declared.flag.Flag.{Flag}
use Rattle.partition_file.specs.declared.flag.Flags.{Flags}
use Rattle.partition_file.specs.declared.item.Item.{Item}
use Rattle.partition_file.specs.declared.item.Ports.{Ports}
use Rattle.partition_file.specs.declared.fault.PartitionCause.{PartitionCause}
use Rattle.partition_file.specs.declared.piece.Delimiter.{Delimiter}
use Rattle.partition_file.specs.declared.piece.Delimiter.TheVariants.{Equals, Comma, Colon, Semicolon}
use Rattle.partition_file.specs.declared.token.Token.{Token}
use Rattle.partition_file.specs.declared.token.Value.{Value}
use Rattle.partition_file.specs.declared.token.Value.TheVariants.{Taken, Empty, Misspelt, Both, Refused}
use Rattle.partition_file.specs.declared.token.Token.TheVariants.{FlagWord, FlagValue, Base, ListWord, Membership, Mgid, Name, NoFlag, NoPorts}
use Rattle.partition_file.specs.Cases.{has_fault, is_bad_character, is_bad_number, is_mgid_item, is_unfinished, is_unknown_flag}
use Rattle.partition_file.specs.Cut.{at_colon, at_comma, at_equals, definition_in, item_of, items_of, value_behind, with_flag_part, with_flag_value}
use Rattle.partition_file.specs.Cut.{with_items, with_value, word_of, has_value}
use Rattle.partition_file.specs.Definitions.{after_equals, part_after, with_item, with_piece}
use Rattle.partition_file.specs.Flags.{flag_of, is_full_by_default, with_flag}
use Rattle.partition_file.specs.Pieces.{folded, is_equals, is_semicolon}
use Rattle.partition_file.specs.Ports.{ports_named}
use Rattle.partition_file.specs.ScanState.{ScanState, blank, is_in_list}
use Rattle.partition_file.specs.Tokens.{base_in, flag_token, is_empty, is_full, list_token, membership_in, token_of, value_of}
use Rattle.partition_file.proofs.CutLemmas.{IsOpen, after_behind, after_through, any_behind, before_behind, before_through, byte_of, no_colon}
use Rattle.partition_file.proofs.CutLemmas.{no_comma, no_equals, parts_of, split_behind, split_here, split_nowhere}

-- ---- the parts of a piece
abbrev heads : List ℕ → List (List ℕ)
heads piece = slice_split at_comma (before_first at_colon piece)

abbrev listed : List ℕ → List (List ℕ)
listed piece = slice_split at_comma (after_first at_colon piece)

-- ---- what becomes of the definition so far, if the rest of its piece is cut
abbrev with_named : Definition → List (List ℕ) → Definition
with_named d [] = d
with_named d (first ∷ flags) = record d { base = base_in (folded first); flags = fold with_flag_part d.flags flags }

abbrev with_flags : Definition → List (List ℕ) → Definition
with_flags d flags = record d { flags = fold with_flag_part d.flags flags }

abbrev with_given : Flag → Definition → List (List ℕ) → Definition
with_given flag d [] = d
with_given flag d (first ∷ flags) = record d { flags = fold with_flag_part (with_value (value_of flag (folded first)) d.flags) flags }

abbrev with_member : Ports → Definition → List (List ℕ) → Definition
with_member ports d [] = d
with_member ports d (first ∷ items) = with_items (with_item d ports (is_full (membership_in (folded first)))) items

abbrev pub finished : Part → Definition → List ℕ → Definition
finished part.Name d piece = definition_in piece
finished part.Base d piece = with_items (with_named d (heads piece)) (listed piece)
finished part.FlagWord d piece = with_items (with_flags d (heads piece)) (listed piece)
finished (part.FlagValue flag) d piece = with_items (with_given flag d (heads piece)) (listed piece)
finished part.ListWord d piece = with_items d (slice_split at_comma piece)
finished (part.Membership ports) d piece = with_member ports d (slice_split at_comma piece)

-- ---- parts of a piece whose beginning has no delimiter
heads_equals : (raw p first : List ℕ) (later : List (List ℕ)) → IsOpen raw → heads p ≡ first ∷ later → heads (raw ++ 61 ∷ p) ≡ (raw ++ 61 ∷ first) ∷ later
heads_equals raw p first later free h =
    ap (slice_split at_comma) (before_through at_colon raw p 61 (no_colon raw free) refl)
    ∙ split_behind at_comma raw (61 ∷ before_first at_colon p) (61 ∷ first) later (no_comma raw free) (ap (onto_first 61) h)

heads_comma : (raw p : List ℕ) → IsOpen raw → heads (raw ++ 44 ∷ p) ≡ raw ∷ heads p
heads_comma raw p free =
    ap (slice_split at_comma) (before_through at_colon raw p 44 (no_colon raw free) refl)
    ∙ split_here at_comma raw (before_first at_colon p) 44 (no_comma raw free) refl

heads_colon : (raw p : List ℕ) → IsOpen raw → heads (raw ++ 58 ∷ p) ≡ raw ∷ []
heads_colon raw p free =
    ap (slice_split at_comma) (before_behind at_colon raw (58 ∷ p) (no_colon raw free) ∙ append-nil raw)
    ∙ split_nowhere at_comma raw (no_comma raw free)

listed_behind : (raw p : List ℕ) (byte : ℕ) → IsOpen raw → at_colon byte ≡ false → listed (raw ++ byte ∷ p) ≡ listed p
listed_behind raw p byte free e =
    ap (slice_split at_comma) (after_through at_colon raw p byte (no_colon raw free) e)

listed_colon : (raw p : List ℕ) → IsOpen raw → listed (raw ++ 58 ∷ p) ≡ slice_split at_comma p
listed_colon raw p free = ap (slice_split at_comma) (after_behind at_colon raw (58 ∷ p) (no_colon raw free))

items_equals : (raw p first : List ℕ) (later : List (List ℕ)) → IsOpen raw → slice_split at_comma p ≡ first ∷ later
    → slice_split at_comma (raw ++ 61 ∷ p) ≡ (raw ++ 61 ∷ first) ∷ later
items_equals raw p first later free h = split_behind at_comma raw (61 ∷ p) (61 ∷ first) later (no_comma raw free) (ap (onto_first 61) h)

items_comma : (raw p : List ℕ) → IsOpen raw → slice_split at_comma (raw ++ 44 ∷ p) ≡ raw ∷ slice_split at_comma p
items_comma raw p free = split_here at_comma raw p 44 (no_comma raw free) refl

-- ---- a part at its `=`, or without one
has_value_there : (raw p : List ℕ) → IsOpen raw → has_value (raw ++ 61 ∷ p) ≡ true
has_value_there raw p free = any_behind at_equals raw (61 ∷ p) (no_equals raw free)

word_there : (raw p : List ℕ) → IsOpen raw → word_of (raw ++ 61 ∷ p) ≡ folded raw
word_there raw p free = ap folded (before_behind at_equals raw (61 ∷ p) (no_equals raw free) ∙ append-nil raw)

value_there : (raw p : List ℕ) → IsOpen raw → value_behind (raw ++ 61 ∷ p) ≡ folded p
value_there raw p free = ap folded (after_behind at_equals raw (61 ∷ p) (no_equals raw free))

has_none : (raw : List ℕ) → IsOpen raw → has_value raw ≡ false
has_none raw free = ap has_value (sym (append-nil raw)) ∙ any_behind at_equals raw [] (no_equals raw free)

word_alone : (raw : List ℕ) → IsOpen raw → word_of raw ≡ folded raw
word_alone raw free = ap word_of (sym (append-nil raw)) ∙ ap folded (before_behind at_equals raw [] (no_equals raw free) ∙ append-nil raw)

flag_alone : (flags : Flags) (raw : List ℕ) → IsOpen raw → with_flag_part flags raw ≡ with_flag (flag_of (folded raw)) flags
flag_alone flags raw free = rw (has_none raw free, word_alone raw free) refl

flag_given : (flags : Flags) (raw p : List ℕ) → IsOpen raw → with_flag_part flags (raw ++ 61 ∷ p) ≡ with_flag_value (flag_of (folded raw)) (folded p) flags
flag_given flags raw p free = rw (has_value_there raw p free, word_there raw p free, value_there raw p free) refl

-- ---- a name
name_equals : (raw p : List ℕ) → IsOpen raw → finished part.Name blank (raw ++ 61 ∷ p) ≡ finished part.Base (record blank { name = folded raw }) p
name_equals raw p free =
    let parts = parts_of at_comma (before_first at_colon p) in
    rw (heads_equals raw p parts.first parts.later free parts.all, listed_behind raw p 61 free refl, parts.all, has_value_there raw parts.first free, word_there raw parts.first free, value_there raw parts.first free) refl

name_comma : (raw p : List ℕ) → IsOpen raw → finished part.Name blank (raw ++ 44 ∷ p) ≡ finished part.FlagWord (record blank { name = folded raw }) p
name_comma raw p free = rw (heads_comma raw p free, listed_behind raw p 44 free refl, has_none raw free, word_alone raw free) refl

name_colon : (raw p : List ℕ) → IsOpen raw → finished part.Name blank (raw ++ 58 ∷ p) ≡ finished part.ListWord (record blank { name = folded raw }) p
name_colon raw p free = rw (heads_colon raw p free, listed_colon raw p free, has_none raw free, word_alone raw free) refl

-- ---- its PKey
base_comma : (d : Definition) (raw p : List ℕ) → IsOpen raw → finished part.Base d (raw ++ 44 ∷ p) ≡ finished part.FlagWord (record d { base = base_in (folded raw) }) p
base_comma d raw p free = rw (heads_comma raw p free, listed_behind raw p 44 free refl) refl

base_colon : (d : Definition) (raw p : List ℕ) → IsOpen raw → finished part.Base d (raw ++ 58 ∷ p) ≡ finished part.ListWord (record d { base = base_in (folded raw) }) p
base_colon d raw p free = rw (heads_colon raw p free, listed_colon raw p free) refl

-- ---- a flag
flag_comma : (d : Definition) (raw p : List ℕ) → IsOpen raw
    → finished part.FlagWord d (raw ++ 44 ∷ p) ≡ finished part.FlagWord (record d { flags = with_flag (flag_of (folded raw)) d.flags }) p
flag_comma d raw p free =
    rw (heads_comma raw p free, listed_behind raw p 44 free refl)
    (ap (λ (flags : Flags). with_items (record d { flags = fold with_flag_part flags (heads p) }) (listed p)) (flag_alone d.flags raw free))

flag_colon : (d : Definition) (raw p : List ℕ) → IsOpen raw
    → finished part.FlagWord d (raw ++ 58 ∷ p) ≡ finished part.ListWord (record d { flags = with_flag (flag_of (folded raw)) d.flags }) p
flag_colon d raw p free =
    rw (heads_colon raw p free, listed_colon raw p free)
    (ap (λ (flags : Flags). with_items (record d { flags = flags }) (slice_split at_comma p)) (flag_alone d.flags raw free))

flag_equals : (d : Definition) (raw p : List ℕ) (flag : Flag) → IsOpen raw → flag_of (folded raw) ≡ Some flag
    → finished part.FlagWord d (raw ++ 61 ∷ p) ≡ finished (part.FlagValue flag) d p
flag_equals d raw p flag free e =
    let parts = parts_of at_comma (before_first at_colon p) in
    rw (heads_equals raw p parts.first parts.later free parts.all, listed_behind raw p 61 free refl, parts.all)
    (ap (λ (flags : Flags). with_items (record d { flags = fold with_flag_part flags parts.later }) (listed p))
    (flag_given d.flags raw parts.first free ∙ ap (λ (o : Option Flag). with_flag_value o (folded parts.first) d.flags) e))

-- ---- its value
value_comma : (flag : Flag) (d : Definition) (raw p : List ℕ) → IsOpen raw
    → finished (part.FlagValue flag) d (raw ++ 44 ∷ p) ≡ finished part.FlagWord (record d { flags = with_value (value_of flag (folded raw)) d.flags }) p
value_comma flag d raw p free = rw (heads_comma raw p free, listed_behind raw p 44 free refl) refl

value_colon : (flag : Flag) (d : Definition) (raw p : List ℕ) → IsOpen raw
    → finished (part.FlagValue flag) d (raw ++ 58 ∷ p) ≡ finished part.ListWord (record d { flags = with_value (value_of flag (folded raw)) d.flags }) p
value_colon flag d raw p free = rw (heads_colon raw p free, listed_colon raw p free) refl

-- ---- an item
item_comma : (d : Definition) (raw p : List ℕ) → IsOpen raw
    → finished part.ListWord d (raw ++ 44 ∷ p) ≡ finished part.ListWord (record d { items = d.items ++ item_of (ports_named (folded raw)) (is_full_by_default d.flags) }) p
item_comma d raw p free =
    rw (items_comma raw p free, has_none raw free, word_alone raw free)
    (ap (λ (items : List Item). record d { items = items })
    (sym (append_assoc d.items (item_of (ports_named (folded raw)) (is_full_by_default d.flags)) (flat_map (items_of (is_full_by_default d.flags)) (slice_split at_comma p)))))

item_equals : (d : Definition) (raw p : List ℕ) (ports : Ports) → IsOpen raw → ports_named (folded raw) ≡ Some ports
    → finished part.ListWord d (raw ++ 61 ∷ p) ≡ finished (part.Membership ports) d p
item_equals d raw p ports free e =
    let parts = parts_of at_comma p in
    rw (items_equals raw p parts.first parts.later free parts.all, parts.all, has_value_there raw parts.first free, word_there raw parts.first free, value_there raw parts.first free, e)
    (ap (λ (items : List Item). record d { items = items })
    (sym (append_assoc d.items (record { ports = ports; full = is_full (membership_in (folded parts.first)) } ∷ []) (flat_map (items_of (is_full_by_default d.flags)) parts.later))))

-- ---- its membership
member_comma : (ports : Ports) (d : Definition) (raw p : List ℕ) → IsOpen raw
    → finished (part.Membership ports) d (raw ++ 44 ∷ p) ≡ finished part.ListWord (with_item d ports (is_full (membership_in (folded raw)))) p
member_comma ports d raw p free = rw (items_comma raw p free) refl

-- ---- the end of a definition
item_ends : (d : Definition) (raw : List ℕ) → IsOpen raw
    → finished part.ListWord d raw ≡ record d { items = d.items ++ item_of (ports_named (folded raw)) (is_full_by_default d.flags) }
item_ends d raw free =
    rw (split_nowhere at_comma raw (no_comma raw free), has_none raw free, word_alone raw free)
    (ap (λ (items : List Item). record d { items = d.items ++ items }) (append-nil (item_of (ports_named (folded raw)) (is_full_by_default d.flags))))

member_ends : (ports : Ports) (d : Definition) (raw : List ℕ) → IsOpen raw → finished (part.Membership ports) d raw ≡ with_item d ports (is_full (membership_in (folded raw)))
member_ends ports d raw free =
    rw (split_nowhere at_comma raw (no_comma raw free))
    (ap (λ (items : List Item). record d { items = items }) (append-nil (d.items ++ record { ports = ports; full = is_full (membership_in (folded raw)) } ∷ [])))

-- ---- what pieces say by being cut is what they say by their tokens
no_flag : (piece : List ℕ) → is_empty piece ≡ true → flag_of piece ≡ None
no_flag [] h = refl
no_flag (byte ∷ rest) h = absurd (omega (arith, eqb-true (length (byte ∷ rest)) 0 h))

no_ports : (piece : List ℕ) → is_empty piece ≡ true → ports_named piece ≡ None
no_ports [] h = refl
no_ports (byte ∷ rest) h = absurd (omega (arith, eqb-true (length (byte ∷ rest)) 0 h))

flag_piece : (d : Definition) (delimiter : Delimiter) (piece : List ℕ) → is_equals delimiter ≡ false
    → with_piece d (flag_token piece) delimiter piece ≡ record d { flags = with_flag (flag_of piece) d.flags }
flag_piece d delimiter piece plain = by (is_empty piece) refl
  where
    by : (b : Bool) → is_empty piece ≡ b → with_piece d (cond b NoFlag (FlagWord (flag_of piece))) delimiter piece ≡ record d { flags = with_flag (flag_of piece) d.flags }
    by true e = rw (no_flag piece e) refl
    by false e = rw plain refl

value_piece : (d : Definition) (delimiter : Delimiter) (value : Value) (piece : List ℕ)
    → with_piece d (FlagValue value) delimiter piece ≡ record d { flags = with_value value d.flags }
value_piece d delimiter (Taken setting) piece = refl
value_piece d delimiter Empty piece = refl
value_piece d delimiter Misspelt piece = refl
value_piece d delimiter Both piece = refl
value_piece d delimiter Refused piece = refl

word_piece : (d : Definition) (delimiter : Delimiter) (ports : Option Ports) (piece : List ℕ) → is_equals delimiter ≡ false
    → with_piece d (ListWord ports) delimiter piece ≡ record d { items = d.items ++ item_of ports (is_full_by_default d.flags) }
word_piece d delimiter (Some ports) piece plain = rw plain refl
word_piece d delimiter None piece plain = ap (λ (items : List Item). record d { items = items }) (sym (append-nil d.items))

item_piece : (d : Definition) (delimiter : Delimiter) (piece : List ℕ) → is_equals delimiter ≡ false → is_mgid_item (list_token piece) ≡ false
    → with_piece d (list_token piece) delimiter piece ≡ record d { items = d.items ++ item_of (ports_named piece) (is_full_by_default d.flags) }
item_piece d delimiter piece plain other = by (is_empty piece) refl (bytes_eq piece (codes "mgid")) other
  where
    by : (b : Bool) → is_empty piece ≡ b → (m : Bool) → is_mgid_item (cond b NoPorts (cond m Mgid (ListWord (ports_named piece)))) ≡ false
        → with_piece d (cond b NoPorts (cond m Mgid (ListWord (ports_named piece)))) delimiter piece ≡ record d { items = d.items ++ item_of (ports_named piece) (is_full_by_default d.flags) }
    by true e m none = rw (no_ports piece e) (ap (λ (items : List Item). record d { items = items }) (sym (append-nil d.items)))
    by false e true none = absurd cc
    by false e false none = word_piece d delimiter (ports_named piece) piece plain

-- ---- no piece goes on where a fault is
pub record IsFaultless (s : ScanState) (delimiter : Delimiter) (token : Token) : Type 0 where
  pub character : is_bad_character token delimiter ≡ false
  pub number : is_bad_number token delimiter ≡ false
  pub flag : is_unknown_flag token delimiter ≡ false
  pub mgid : is_mgid_item token ≡ false
  pub finished : is_unfinished s.at delimiter ≡ false

pub faultless : (s : ScanState) (delimiter : Delimiter) (token : Token) → ((fault : PartitionCause) → has_fault s delimiter token fault ≡ false) → IsFaultless s delimiter token
unfolding has_fault
faultless s delimiter token none =
    record { character = none BadCharacter; number = none BadNumber; flag = none UnknownFlag; mgid = none MgidItem; finished = none Unfinished }

flag_value : (d : Definition) (raw p : List ℕ) → IsOpen raw → is_unknown_flag (flag_token (folded raw)) Equals ≡ false
    → finished part.FlagWord d (raw ++ 61 ∷ p) ≡ finished (after_equals (flag_token (folded raw))) (with_piece d (flag_token (folded raw)) Equals (folded raw)) p
flag_value d raw p free known = by (is_empty (folded raw)) (flag_of (folded raw)) refl known
  where
    by : (b : Bool) (flag : Option Flag) → flag_of (folded raw) ≡ flag → is_unknown_flag (cond b NoFlag (FlagWord flag)) Equals ≡ false
        → finished part.FlagWord d (raw ++ 61 ∷ p) ≡ finished (after_equals (cond b NoFlag (FlagWord flag))) (with_piece d (cond b NoFlag (FlagWord flag)) Equals (folded raw)) p
    by true flag e there = absurd cc
    by false None e there = absurd cc
    by false (Some flag) e there = flag_equals d raw p flag free e

member_value : (d : Definition) (raw p : List ℕ) → IsOpen raw → is_bad_number (list_token (folded raw)) Equals ≡ false
    → finished part.ListWord d (raw ++ 61 ∷ p) ≡ finished (after_equals (list_token (folded raw))) (with_piece d (list_token (folded raw)) Equals (folded raw)) p
member_value d raw p free named = by (is_empty (folded raw)) (bytes_eq (folded raw) (codes "mgid")) (ports_named (folded raw)) refl named
  where
    by : (b m : Bool) (ports : Option Ports) → ports_named (folded raw) ≡ ports → is_bad_number (cond b NoPorts (cond m Mgid (ListWord ports))) Equals ≡ false
        → finished part.ListWord d (raw ++ 61 ∷ p) ≡ finished (after_equals (cond b NoPorts (cond m Mgid (ListWord ports)))) (with_piece d (cond b NoPorts (cond m Mgid (ListWord ports))) Equals (folded raw)) p
    by true m ports e there = absurd cc
    by false true ports e there = absurd cc
    by false false None e there = absurd cc
    by false false (Some ports) e there = item_equals d raw p ports free e

no_colon_in_list : (piece : List ℕ) → is_bad_character (list_token piece) Colon ≡ false → ⊥
no_colon_in_list piece h = by (is_empty piece) (bytes_eq piece (codes "mgid")) h
  where
    by : (b m : Bool) → is_bad_character (cond b NoPorts (cond m Mgid (ListWord (ports_named piece)))) Colon ≡ false → ⊥
    by true m there = absurd cc
    by false true there = absurd cc
    by false false there = absurd cc

-- a definition that begins says nothing yet
abbrev pub IsBegun : Part → Definition → Type 0
IsBegun part.Name d = d ≡ blank
IsBegun part.Base d = Unit {0}
IsBegun part.FlagWord d = Unit {0}
IsBegun (part.FlagValue flag) d = Unit {0}
IsBegun part.ListWord d = Unit {0}
IsBegun (part.Membership ports) d = Unit {0}

-- what a state makes of the rest of its definition stays what it is after each delimiter
pub stays : (at : Part) (d : Definition) (done : List Definition) (delimiter : Delimiter) (raw p : List ℕ) → IsOpen raw → IsBegun at d → is_semicolon delimiter ≡ false
    → IsFaultless (record { at = at; current = d; done = done }) delimiter (token_of at (folded raw))
    → finished at d (raw ++ byte_of delimiter ∷ p) ≡ finished (part_after at delimiter (token_of at (folded raw))) (with_piece d (token_of at (folded raw)) delimiter (folded raw)) p
stays at d done Semicolon raw p free begun goes none = absurd cc
stays part.Name d done Equals raw p free begun goes none = rw begun (name_equals raw p free)
stays part.Name d done Comma raw p free begun goes none = rw begun (name_comma raw p free)
stays part.Name d done Colon raw p free begun goes none = rw begun (name_colon raw p free)
stays part.Base d done Equals raw p free begun goes none = absurd (let there = none.character in cc)
stays part.Base d done Comma raw p free begun goes none = base_comma d raw p free
stays part.Base d done Colon raw p free begun goes none = base_colon d raw p free
stays part.FlagWord d done Equals raw p free begun goes none = flag_value d raw p free none.flag
stays part.FlagWord d done Comma raw p free begun goes none =
    flag_comma d raw p free ∙ ap (λ (e : Definition). finished part.FlagWord e p) (sym (flag_piece d Comma (folded raw) refl))
stays part.FlagWord d done Colon raw p free begun goes none =
    flag_colon d raw p free ∙ ap (λ (e : Definition). finished part.ListWord e p) (sym (flag_piece d Colon (folded raw) refl))
stays (part.FlagValue flag) d done Equals raw p free begun goes none = absurd (let there = none.character in cc)
stays (part.FlagValue flag) d done Comma raw p free begun goes none =
    value_comma flag d raw p free ∙ ap (λ (e : Definition). finished part.FlagWord e p) (sym (value_piece d Comma (value_of flag (folded raw)) (folded raw)))
stays (part.FlagValue flag) d done Colon raw p free begun goes none =
    value_colon flag d raw p free ∙ ap (λ (e : Definition). finished part.ListWord e p) (sym (value_piece d Colon (value_of flag (folded raw)) (folded raw)))
stays part.ListWord d done Equals raw p free begun goes none = member_value d raw p free none.number
stays part.ListWord d done Comma raw p free begun goes none =
    item_comma d raw p free ∙ ap (λ (e : Definition). finished part.ListWord e p) (sym (item_piece d Comma (folded raw) refl none.mgid))
stays part.ListWord d done Colon raw p free begun goes none = absurd (no_colon_in_list (folded raw) none.character)
stays (part.Membership ports) d done Equals raw p free begun goes none = absurd (let there = none.character in cc)
stays (part.Membership ports) d done Comma raw p free begun goes none = member_comma ports d raw p free
stays (part.Membership ports) d done Colon raw p free begun goes none = absurd (let there = none.character in cc)

-- and it is the definition where that ends
pub ends : (at : Part) (d : Definition) (done : List Definition) (raw : List ℕ) → IsOpen raw
    → IsFaultless (record { at = at; current = d; done = done }) Semicolon (token_of at (folded raw))
    → finished at d raw ≡ with_piece d (token_of at (folded raw)) Semicolon (folded raw)
ends part.Name d done raw free none = absurd (let there = none.finished in cc)
ends part.Base d done raw free none = absurd (let there = none.finished in cc)
ends part.FlagWord d done raw free none = absurd (let there = none.finished in cc)
ends (part.FlagValue flag) d done raw free none = absurd (let there = none.finished in cc)
ends part.ListWord d done raw free none = item_ends d raw free ∙ sym (item_piece d Semicolon (folded raw) refl none.mgid)
ends (part.Membership ports) d done raw free none = member_ends ports d raw free

-- ---- no definition begins but behind a `;`
begun_equals : (token : Token) (d : Definition) → IsBegun (after_equals token) d
begun_equals (Name word) d = tt
begun_equals (Base base) d = tt
begun_equals NoFlag d = tt
begun_equals (FlagWord None) d = tt
begun_equals (FlagWord (Some flag)) d = tt
begun_equals (FlagValue value) d = tt
begun_equals NoPorts d = tt
begun_equals Mgid d = tt
begun_equals (ListWord None) d = tt
begun_equals (ListWord (Some ports)) d = tt
begun_equals (Membership ports word) d = tt

begun_comma : (b : Bool) (d : Definition) → IsBegun (cond b part.ListWord part.FlagWord) d
begun_comma true d = tt
begun_comma false d = tt

pub begun : (at : Part) (delimiter : Delimiter) (token : Token) (d : Definition) → is_semicolon delimiter ≡ false → IsBegun (part_after at delimiter token) d
begun at Equals token d goes = begun_equals token d
begun at Comma token d goes = begun_comma (is_in_list at) d
begun at Colon token d goes = tt
begun at Semicolon token d goes = absurd cc
