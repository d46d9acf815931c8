-- The faults, one by one: when a piece that says this and ends at a delimiter is one.
use Rattle.std.specs.Prelude.{ℕ, Bool, true, false, not, ◌==◌, ◌&&◌, ◌||◌, nat_lt, is_none, if◌then◌else◌, List, [], ◌∷◌, ◌++◌, find, Option, Some, None}
use Rattle.pkey_rules.specs.declared.key_table.TheConstants.{PARTITIONS}
use Rattle.partition_file.specs.declared.fault.PartitionCause.{PartitionCause}
use Rattle.partition_file.specs.declared.fault.PartitionCause.TheVariants.{BadCharacter, BadNumber, ReservedKey, UnknownFlag, BothMembership}
use Rattle.partition_file.specs.declared.fault.PartitionCause.TheVariants.{MgidItem, TooManyPartitions, Unfinished, BadFlagValue}
use Rattle.partition_file.specs.declared.piece.Delimiter.{Delimiter}
use Rattle.partition_file.specs.declared.definition_part.Part.{Part}
use Rattle.partition_file.specs.declared.flag.Flag.{Flag}
use Rattle.partition_file.specs.declared.flag.Flags.{Flags}
use Rattle.partition_file.specs.declared.token.MembershipWord.TheVariants as membership
use Rattle.partition_file.specs.declared.token.NameWord.TheVariants as name
use Rattle.partition_file.specs.declared.token.Token.{Token}
use Rattle.partition_file.specs.declared.token.Token.TheVariants.{Name, Base, NoFlag, FlagWord, FlagValue, NoPorts, Mgid, ListWord, Membership}
use Rattle.partition_file.specs.declared.token.Value.TheVariants.{Empty, Misspelt, Both, Refused}
use Rattle.partition_file.specs.Pieces.{is_equals, is_colon, is_semicolon}
use Rattle.partition_file.specs.Flags.{takes_value, is_given}
use Rattle.partition_file.specs.Counting.{bases_given, partition_count}
use Rattle.partition_file.specs.ScanState.{ScanState, is_in_list}

-- a name that begins with a digit, a second `=` in a piece or an item, a `:` in a list
abbrev pub is_bad_character : Token → Delimiter → Bool
is_bad_character (Name name.DigitFirst) delimiter = true
is_bad_character (Name _) delimiter = false
is_bad_character (Base base) delimiter = is_equals delimiter
is_bad_character NoFlag delimiter = false
is_bad_character (FlagWord flag) delimiter = false
is_bad_character (FlagValue value) delimiter = is_equals delimiter
is_bad_character NoPorts delimiter = is_colon delimiter
is_bad_character Mgid delimiter = is_colon delimiter
is_bad_character (ListWord ports) delimiter = is_colon delimiter
is_bad_character (Membership ports word) delimiter = is_equals delimiter || is_colon delimiter

-- a PKey that is no number of 16 bits, a value that is no number if one is wanted, a list word that names no ports; none
-- before `=`
abbrev pub is_bad_number : Token → Delimiter → Bool
is_bad_number (Base base) delimiter = is_none base
is_bad_number (FlagValue Misspelt) delimiter = true
is_bad_number NoPorts delimiter = is_equals delimiter
is_bad_number Mgid delimiter = true
is_bad_number (ListWord ports) delimiter = is_none ports
is_bad_number _ delimiter = false

abbrev pub is_zero : Option ℕ → Bool
is_zero (Some n) = n == 0
is_zero None = false

-- base 0, which names no partition, or the name `Default` without a PKey
abbrev pub is_reserved_key : Token → Delimiter → Bool
is_reserved_key (Name name.Default) delimiter = not (is_equals delimiter)
is_reserved_key (Base base) delimiter = is_zero base
is_reserved_key _ delimiter = false

-- a flag that there is not; an empty piece is none, but before `=`
abbrev pub is_unknown_flag : Token → Delimiter → Bool
is_unknown_flag NoFlag delimiter = is_equals delimiter
is_unknown_flag (FlagWord flag) delimiter = is_none flag
is_unknown_flag _ delimiter = false

-- the membership `both`
abbrev pub is_both_membership : Token → Bool
is_both_membership (FlagValue Both) = true
is_both_membership (Membership ports membership.Both) = true
is_both_membership _ = false

-- the list word `mgid`
abbrev pub is_mgid_item : Token → Bool
is_mgid_item Mgid = true
is_mgid_item _ = false

-- the base that the definition names, if its list begins here
abbrev pub base_here : Token → Option ℕ → Option ℕ
base_here (Base base) before = base
base_here _ before = before

-- the `:` of a definition that names this base, if it makes one partition more than there may be; `before` are the bases
-- that the definitions before it name
abbrev pub is_one_too_many : Part → Delimiter → List (Option ℕ) → Option ℕ → Bool
is_one_too_many at delimiter before base =
    (is_colon delimiter && not (is_in_list at)) && nat_lt PARTITIONS (partition_count (before ++ base ∷ []))

-- a definition that ends before its list
abbrev pub is_unfinished : Part → Delimiter → Bool
is_unfinished at delimiter = is_semicolon delimiter && not (is_in_list at)

-- a flag given twice, without the value that it takes, or with one that it does not take
abbrev pub is_misused : Option Flag → Delimiter → Flags → Bool
is_misused None delimiter flags = false
is_misused (Some flag) delimiter flags =
    is_given flag flags || (if takes_value flag then not (is_equals delimiter) else is_equals delimiter)

-- or a value that is empty or is not one of the flag's
abbrev pub is_bad_flag_value : Token → Delimiter → Flags → Bool
is_bad_flag_value (FlagWord flag) delimiter flags = is_misused flag delimiter flags
is_bad_flag_value (FlagValue Empty) delimiter flags = true
is_bad_flag_value (FlagValue Both) delimiter flags = true
is_bad_flag_value (FlagValue Refused) delimiter flags = true
is_bad_flag_value _ delimiter flags = false

-- the fault is one of a piece that says this and ends at this delimiter, if the text before says that
unfoldable pub has_fault : ScanState → Delimiter → Token → PartitionCause → Bool
has_fault s delimiter token BadCharacter = is_bad_character token delimiter
has_fault s delimiter token BadNumber = is_bad_number token delimiter
has_fault s delimiter token ReservedKey = is_reserved_key token delimiter
has_fault s delimiter token UnknownFlag = is_unknown_flag token delimiter
has_fault s delimiter token BothMembership = is_both_membership token
has_fault s delimiter token MgidItem = is_mgid_item token
has_fault s delimiter token TooManyPartitions = is_one_too_many s.at delimiter (bases_given s.done) (base_here token s.current.base)
has_fault s delimiter token Unfinished = is_unfinished s.at delimiter
has_fault s delimiter token BadFlagValue = is_bad_flag_value token delimiter s.current.flags

-- of several, the first in this order is reported
abbrev pub in_turn : List PartitionCause
in_turn =
    BothMembership ∷ MgidItem ∷ BadCharacter ∷ BadNumber ∷ ReservedKey ∷ UnknownFlag ∷ TooManyPartitions ∷ Unfinished ∷ BadFlagValue ∷ []

unfoldable pub fault_of : ScanState → Delimiter → Token → Option PartitionCause
fault_of s delimiter token = find (has_fault s delimiter token) in_turn
