-- What a piece says, by the part of a definition that it is.
use Rattle.std.specs.Prelude.{ℕ, Bool, true, false, ◌==◌, if◌then◌else◌, List, [], ◌∷◌, length, codes, Option, Some, None, option_map, bytes_eq}
use Rattle.std.specs.Option.{option_and_then}
use Rattle.std.specs.Char.{is_ascii_digit}
use Rattle.text_words.specs.Number.{number_in}
use Rattle.pkey_rules.specs.PKey.{base_of}
use Rattle.partition_file.specs.declared.definition_part.Part.{Part}
use Rattle.partition_file.specs.declared.definition_part.Part.TheVariants as part
use Rattle.partition_file.specs.declared.flag.Flag.{Flag}
use Rattle.partition_file.specs.declared.flag.Flag.TheVariants.{DefaultMembership}
use Rattle.partition_file.specs.declared.flag.Setting.{Setting}
use Rattle.partition_file.specs.declared.flag.Setting.TheVariants.{FullByDefault}
use Rattle.partition_file.specs.declared.token.MembershipWord.{MembershipWord}
use Rattle.partition_file.specs.declared.token.MembershipWord.TheVariants as membership
use Rattle.partition_file.specs.declared.token.NameWord.{NameWord}
use Rattle.partition_file.specs.declared.token.NameWord.TheVariants as name
use Rattle.partition_file.specs.declared.token.Token.{Token}
use Rattle.partition_file.specs.declared.token.Token.TheVariants.{Name, Base, NoFlag, FlagWord, FlagValue, NoPorts, Mgid, ListWord, Membership}
use Rattle.partition_file.specs.declared.token.Value.{Value}
use Rattle.partition_file.specs.declared.token.Value.TheVariants.{Taken, Empty, Misspelt, Both, Refused}
use Rattle.partition_file.specs.Numbers.{is_number, number_up_to}
use Rattle.partition_file.specs.Flags.{flag_of, setting_of}
use Rattle.partition_file.specs.Ports.{ports_named}

abbrev pub is_empty : List ℕ → Bool
is_empty piece = length piece == 0

abbrev pub begins_with_digit : List ℕ → Bool
begins_with_digit [] = false
begins_with_digit (byte ∷ rest) = is_ascii_digit byte

abbrev pub name_in : List ℕ → NameWord
name_in piece = if begins_with_digit piece then name.DigitFirst else (if bytes_eq piece (codes "Default") then name.Default else name.Other)

-- a PKey is a number of 16 bits, of which the low 15 name the partition
abbrev pub base_in : List ℕ → Option ℕ
base_in piece = option_map base_of (number_up_to 65535 piece)

abbrev pub flag_token : List ℕ → Token
flag_token piece = if is_empty piece then NoFlag else FlagWord (flag_of piece)

abbrev pub list_token : List ℕ → Token
list_token piece = if is_empty piece then NoPorts else (if bytes_eq piece (codes "mgid") then Mgid else ListWord (ports_named piece))

-- any word but `full` and `both` means limited
abbrev pub membership_in : List ℕ → MembershipWord
membership_in piece =
    if bytes_eq piece (codes "full") then membership.Full
    else (if bytes_eq piece (codes "limited") then membership.Limited
    else (if bytes_eq piece (codes "both") then membership.Both
    else membership.Other))

abbrev pub is_full : MembershipWord → Bool
is_full membership.Full = true
is_full _ = false

-- ---- values of flags
abbrev pub taken_if : Option Setting → Value
taken_if (Some setting) = Taken setting
taken_if None = Refused

-- a number is wanted
abbrev pub number_value : Flag → List ℕ → Value
number_value flag piece =
    if is_empty piece then Empty
    else (if is_number piece then taken_if (option_and_then (setting_of flag) (number_in piece))
    else Misspelt)

-- `full` or `limited` is wanted
abbrev pub membership_value : MembershipWord → Value
membership_value membership.Full = Taken (FullByDefault true)
membership_value membership.Limited = Taken (FullByDefault false)
membership_value membership.Both = Both
membership_value membership.Other = Refused

abbrev pub value_of : Flag → List ℕ → Value
value_of DefaultMembership piece = membership_value (membership_in piece)
value_of flag piece = number_value flag piece

-- ---- each piece is read once
abbrev pub token_of : Part → List ℕ → Token
token_of part.Name piece = Name (name_in piece)
token_of part.Base piece = Base (base_in piece)
token_of part.FlagWord piece = flag_token piece
token_of (part.FlagValue flag) piece = FlagValue (value_of flag piece)
token_of part.ListWord piece = list_token piece
token_of (part.Membership ports) piece = Membership ports (membership_in piece)
