-- What a piece without a fault leaves: the definitions so far stay sound, and there is room for them.
use Rattle.std.proofs.Common.{◌≡◌, ℕ, ◌≤◌, Bool, true, false, cond, not, ◌&&◌, ◌||◌, ◌==◌, nat_le, nat_lt, List, [], ◌∷◌, ◌++◌, codes, bytes_eq}
use Rattle.std.proofs.Common.{option_map, Option, Some, None, refl, sym, ap, subst, ◌∙◌, arith}
use Rattle.std.specs.List.{find}
use Rattle.std.specs.Option.{option_and_then}
use Rattle.std.proofs.lemmas.Bool.{and_from, and_parts, cond_both, lt-ltb, ltb-false, not-false, or_left, or_right}
use Rattle.std.proofs.lemmas.Bool.Decides.{nat_tests}
use Rattle.std.proofs.Math.Nat.{mod-lt}
use Rattle.text_words.specs.Number.{number_in}
use Rattle.pkey_rules.specs.declared.key_table.TheConstants.{PARTITIONS}
use Rattle.pkey_rules.specs.PKey.{base_of, is_base}
use Rattle.partition_file.specs.declared.definition.Definition.{Definition}
use Rattle.partition_file.specs.declared.definition_part.Part.{Part}
use Rattle.partition_file.specs.declared.definition_part.Part.TheVariants as part
use Rattle.partition_file.specs.declared.fault.PartitionCause.{PartitionCause}
use Rattle.partition_file.specs.declared.fault.PartitionCause.TheVariants.{BadCharacter, BadNumber, ReservedKey, UnknownFlag, BothMembership}
use Rattle.partition_file.specs.declared.fault.PartitionCause.TheVariants.{MgidItem, TooManyPartitions, Unfinished, BadFlagValue}
use Rattle.partition_file.specs.declared.flag.Flag.{Flag}
use Rattle.partition_file.specs.declared.flag.Flag.TheVariants.{Ipoib, Indx0, Rate, Mtu, ServiceLevel, Scope, QKey, DefaultMembership}
use Rattle.partition_file.specs.declared.flag.Flags.{Flags}
use Rattle.partition_file.specs.declared.flag.Setting.{Setting}
use Rattle.partition_file.specs.declared.flag.Setting.TheVariants as setting
use Rattle.partition_file.specs.declared.item.Ports.{Ports}
use Rattle.partition_file.specs.declared.piece.Delimiter.{Delimiter}
use Rattle.partition_file.specs.declared.piece.Delimiter.TheVariants.{Equals, Comma, Colon, Semicolon}
use Rattle.partition_file.specs.declared.token.MembershipWord.{MembershipWord}
use Rattle.partition_file.specs.declared.token.MembershipWord.TheVariants as membership
use Rattle.partition_file.specs.declared.token.Token.{Token}
use Rattle.partition_file.specs.declared.token.Token.TheVariants.{Name, Base, NoFlag, FlagWord, FlagValue, NoPorts, Mgid, ListWord, Membership}
use Rattle.partition_file.specs.declared.token.Value.{Value}
use Rattle.partition_file.specs.declared.token.Value.TheVariants.{Taken, Empty, Misspelt, Both, Refused}
use Rattle.partition_file.specs.Pieces.{is_equals, is_semicolon}
use Rattle.partition_file.specs.Numbers.{is_number, number_up_to}
use Rattle.partition_file.specs.Flags.{flag_of, greatest, setting_of, with_flag, with_setting}
use Rattle.partition_file.specs.Ports.{ports_named}
use Rattle.partition_file.specs.Counting.{bases_given, partition_count}
use Rattle.partition_file.specs.Cases.{fault_of, has_fault, in_turn, is_one_too_many, is_reserved_key, is_unfinished, base_here}
use Rattle.partition_file.specs.Definitions.{after_equals, part_after, with_piece}
use Rattle.partition_file.specs.ScanState.{ScanState, is_in_list}
use Rattle.partition_file.specs.Sound.{IsSoundSoFar, are_within, is_sound_base, is_within}
use Rattle.partition_file.specs.Tokens.{is_empty, membership_in, membership_value, number_value, taken_if, token_of, value_of}

-- ---- where no fault is reported, none is there
passed_over : {X : Type 0} (b : Bool) (x : X) (o : Option X) → cond b (Some x) o ≡ None → (b ≡ false) × (o ≡ None)
passed_over true x o h = absurd cc
passed_over false x o h = (refl, h)

abbrev pub NoneOf : (PartitionCause → Bool) → List PartitionCause → Type 0
NoneOf holds [] = Unit {0}
NoneOf holds (fault ∷ rest) = (holds fault ≡ false) × NoneOf holds rest

none_of : (holds : PartitionCause → Bool) (faults : List PartitionCause) → find holds faults ≡ None → NoneOf holds faults
none_of holds [] h = tt
none_of holds (fault ∷ rest) h =
    let parts = passed_over (holds fault) fault (find holds rest) h in
    (parts.0, none_of holds rest parts.1)

pub none_there : (s : ScanState) (delimiter : Delimiter) (token : Token) → fault_of s delimiter token ≡ None → (fault : PartitionCause) → has_fault s delimiter token fault ≡ false
unfolding fault_of
none_there s delimiter token h fault = by fault (none_of (has_fault s delimiter token) in_turn h)
  where
    by : (f : PartitionCause) → NoneOf (has_fault s delimiter token) in_turn → has_fault s delimiter token f ≡ false
    by BothMembership none = none.0
    by MgidItem none = none.1.0
    by BadCharacter none = none.1.1.0
    by BadNumber none = none.1.1.1.0
    by ReservedKey none = none.1.1.1.1.0
    by UnknownFlag none = none.1.1.1.1.1.0
    by TooManyPartitions none = none.1.1.1.1.1.1.0
    by Unfinished none = none.1.1.1.1.1.1.1.0
    by BadFlagValue none = none.1.1.1.1.1.1.1.1.0

reserved_there : (s : ScanState) (delimiter : Delimiter) (token : Token) → has_fault s delimiter token ReservedKey ≡ is_reserved_key token delimiter
unfolding has_fault
reserved_there s delimiter token = refl

too_many_there : (s : ScanState) (delimiter : Delimiter) (token : Token)
    → has_fault s delimiter token TooManyPartitions ≡ is_one_too_many s.at delimiter (bases_given s.done) (base_here token s.current.base)
unfolding has_fault
too_many_there s delimiter token = refl

unfinished_there : (s : ScanState) (delimiter : Delimiter) (token : Token) → has_fault s delimiter token Unfinished ≡ is_unfinished s.at delimiter
unfolding has_fault
unfinished_there s delimiter token = refl

-- ---- what a token can say: a base of 15 bits, a number of its flag's field
abbrev is_fit_setting : Setting → Bool
is_fit_setting (setting.Rate n) = nat_le n (greatest Rate)
is_fit_setting (setting.Mtu n) = nat_le n (greatest Mtu)
is_fit_setting (setting.ServiceLevel n) = nat_le n (greatest ServiceLevel)
is_fit_setting (setting.Scope n) = nat_le n (greatest Scope)
is_fit_setting (setting.QKey n) = true
is_fit_setting (setting.FullByDefault full) = true

abbrev is_fit_value : Value → Bool
is_fit_value (Taken setting) = is_fit_setting setting
is_fit_value _ = true

abbrev is_fit : Token → Bool
is_fit (Base (Some base)) = nat_lt base 32768
is_fit (FlagValue value) = is_fit_value value
is_fit _ = true

abbrev is_fit_if : Option Setting → Bool
is_fit_if (Some setting) = is_fit_setting setting
is_fit_if None = true

rate_fits : (n : ℕ) (b : Bool) → ((n == 2) || ((n == 3) || (n == 5))) ≡ b → is_fit_if (cond b (Some (setting.Rate n)) None) ≡ true
rate_fits n true h = grind (arith, nat_tests)
rate_fits n false h = refl

if_below : (n top : ℕ) (s : Setting) (b : Bool) → nat_le n top ≡ b → is_fit_setting s ≡ nat_le n top → is_fit_if (cond b (Some s) None) ≡ true
if_below n top s true h same = same ∙ h
if_below n top s false h same = refl

setting_fits : (flag : Flag) (n : ℕ) → is_fit_if (setting_of flag n) ≡ true
setting_fits Rate n = rate_fits n _ refl
setting_fits Mtu n = by (nat_le 1 n) (nat_le n (greatest Mtu)) refl
  where
    by : (a b : Bool) → nat_le n (greatest Mtu) ≡ b → is_fit_if (cond (a && b) (Some (setting.Mtu n)) None) ≡ true
    by true true h = h
    by true false h = refl
    by false b h = refl
setting_fits ServiceLevel n = if_below n (greatest ServiceLevel) (setting.ServiceLevel n) _ refl refl
setting_fits Scope n = if_below n (greatest Scope) (setting.Scope n) _ refl refl
setting_fits QKey n = cond_both (nat_le n (greatest QKey)) (Some (setting.QKey n)) None (λ o. is_fit_if o ≡ true) (λ _. refl) (λ _. refl)
setting_fits Ipoib n = refl
setting_fits Indx0 n = refl
setting_fits DefaultMembership n = refl

taken_fits : (o : Option Setting) → is_fit_if o ≡ true → is_fit_value (taken_if o) ≡ true
taken_fits (Some s) h = h
taken_fits None h = refl

number_fits : (flag : Flag) (o : Option ℕ) → is_fit_value (taken_if (option_and_then (setting_of flag) o)) ≡ true
number_fits flag (Some n) = taken_fits (setting_of flag n) (setting_fits flag n)
number_fits flag None = refl

value_fits : (flag : Flag) (piece : List ℕ) → is_fit_value (number_value flag piece) ≡ true
value_fits flag piece =
    cond_both (is_empty piece) Empty (cond (is_number piece) (taken_if (option_and_then (setting_of flag) (number_in piece))) Misspelt) (λ v. is_fit_value v ≡ true) (λ _. refl)
    (λ _. cond_both (is_number piece) (taken_if (option_and_then (setting_of flag) (number_in piece))) Misspelt (λ v. is_fit_value v ≡ true) (λ _. number_fits flag (number_in piece)) (λ _. refl))

membership_fits : (word : MembershipWord) → is_fit_value (membership_value word) ≡ true
membership_fits membership.Full = refl
membership_fits membership.Limited = refl
membership_fits membership.Both = refl
membership_fits membership.Other = refl

any_value_fits : (flag : Flag) (piece : List ℕ) → is_fit_value (value_of flag piece) ≡ true
any_value_fits Ipoib piece = value_fits Ipoib piece
any_value_fits Indx0 piece = value_fits Indx0 piece
any_value_fits Rate piece = value_fits Rate piece
any_value_fits Mtu piece = value_fits Mtu piece
any_value_fits ServiceLevel piece = value_fits ServiceLevel piece
any_value_fits Scope piece = value_fits Scope piece
any_value_fits QKey piece = value_fits QKey piece
any_value_fits DefaultMembership piece = membership_fits (membership_in piece)

base_fits : (o : Option ℕ) → is_fit (Base (option_map base_of o)) ≡ true
base_fits (Some given) = lt-ltb (base_of given) 32768 (mod-lt given (omega arith))
base_fits None = refl

flag_fits : (b : Bool) (o : Option Flag) → is_fit (cond b NoFlag (FlagWord o)) ≡ true
flag_fits true o = refl
flag_fits false o = refl

list_fits : (a b : Bool) (o : Option Ports) → is_fit (cond a NoPorts (cond b Mgid (ListWord o))) ≡ true
list_fits true b o = refl
list_fits false true o = refl
list_fits false false o = refl

fits : (at : Part) (piece : List ℕ) → is_fit (token_of at piece) ≡ true
fits part.Name piece = refl
fits part.Base piece = base_fits (number_up_to 65535 piece)
fits part.FlagWord piece = flag_fits (is_empty piece) (flag_of piece)
fits (part.FlagValue flag) piece = any_value_fits flag piece
fits part.ListWord piece = list_fits (is_empty piece) (bytes_eq piece (codes "mgid")) (ports_named piece)
fits (part.Membership ports) piece = refl

-- ---- the token of a part of a list
abbrev is_of_list : Token → Bool
is_of_list NoPorts = true
is_of_list Mgid = true
is_of_list (ListWord ports) = true
is_of_list (Membership ports word) = true
is_of_list _ = false

flag_of_list : (b : Bool) (o : Option Flag) → is_of_list (cond b NoFlag (FlagWord o)) ≡ false
flag_of_list true o = refl
flag_of_list false o = refl

word_of_list : (a b : Bool) (o : Option Ports) → is_of_list (cond a NoPorts (cond b Mgid (ListWord o))) ≡ true
word_of_list true b o = refl
word_of_list false true o = refl
word_of_list false false o = refl

same_list : (at : Part) (piece : List ℕ) → is_of_list (token_of at piece) ≡ is_in_list at
same_list part.Name piece = refl
same_list part.Base piece = refl
same_list part.FlagWord piece = flag_of_list (is_empty piece) (flag_of piece)
same_list (part.FlagValue flag) piece = refl
same_list part.ListWord piece = word_of_list (is_empty piece) (bytes_eq piece (codes "mgid")) (ports_named piece)
same_list (part.Membership ports) piece = refl

-- ---- the base of a definition with one more piece
base_by : (d e : Definition) (b : Bool) → d.base ≡ e.base → (cond b d e).base ≡ d.base
base_by d e true h = refl
base_by d e false h = sym h

pub base_after : (d : Definition) (token : Token) (delimiter : Delimiter) (piece : List ℕ) → (with_piece d token delimiter piece).base ≡ base_here token d.base
base_after d (Name word) delimiter piece = refl
base_after d (Base base) delimiter piece = refl
base_after d NoFlag delimiter piece = refl
base_after d (FlagWord flag) delimiter piece = base_by d _ (is_equals delimiter) refl
base_after d (FlagValue (Taken setting)) delimiter piece = refl
base_after d (FlagValue Empty) delimiter piece = refl
base_after d (FlagValue Misspelt) delimiter piece = refl
base_after d (FlagValue Both) delimiter piece = refl
base_after d (FlagValue Refused) delimiter piece = refl
base_after d NoPorts delimiter piece = refl
base_after d Mgid delimiter piece = refl
base_after d (ListWord (Some ports)) delimiter piece = base_by d _ (is_equals delimiter) refl
base_after d (ListWord None) delimiter piece = refl
base_after d (Membership ports word) delimiter piece = refl

other_than_zero : (n : ℕ) → nat_lt n 32768 ≡ true → (n == 0) ≡ false → is_base n ≡ true
other_than_zero n below h = grind (arith, nat_tests)

sound_base : (token : Token) (delimiter : Delimiter) (given : Option ℕ) → is_sound_base given ≡ true → is_fit token ≡ true → is_reserved_key token delimiter ≡ false
    → is_sound_base (base_here token given) ≡ true
sound_base (Name word) delimiter given h fit other = h
sound_base (Base (Some base)) delimiter given h fit other = other_than_zero base fit other
sound_base (Base None) delimiter given h fit other = refl
sound_base NoFlag delimiter given h fit other = h
sound_base (FlagWord flag) delimiter given h fit other = h
sound_base (FlagValue value) delimiter given h fit other = h
sound_base NoPorts delimiter given h fit other = h
sound_base Mgid delimiter given h fit other = h
sound_base (ListWord ports) delimiter given h fit other = h
sound_base (Membership ports word) delimiter given h fit other = h

-- ---- the flags of a definition with one more piece
flag_within : (o : Option Flag) (flags : Flags) → are_within flags ≡ true → are_within (with_flag o flags) ≡ true
flag_within (Some Ipoib) flags h = h
flag_within (Some Indx0) flags h = h
flag_within (Some Rate) flags h = h
flag_within (Some Mtu) flags h = h
flag_within (Some ServiceLevel) flags h = h
flag_within (Some Scope) flags h = h
flag_within (Some QKey) flags h = h
flag_within (Some DefaultMembership) flags h = h
flag_within None flags h = h

all_four : (a b c d : Bool) → a ≡ true → b ≡ true → c ≡ true → d ≡ true → (a && (b && (c && d))) ≡ true
all_four a b c d h k l m = and_from a (b && (c && d)) h (and_from b (c && d) k (and_from c d l m))

setting_within : (s : Setting) (flags : Flags) → is_fit_setting s ≡ true → are_within flags ≡ true → are_within (with_setting s flags) ≡ true
setting_within s flags fit h =
    let rate = and_parts (is_within (greatest Rate) flags.rate) _ h in
    let mtu = and_parts (is_within (greatest Mtu) flags.mtu) _ rate.1 in
    let rest = and_parts (is_within (greatest ServiceLevel) flags.service_level) (is_within (greatest Scope) flags.scope) mtu.1 in
    by s fit rate.0 mtu.0 rest.0 rest.1
  where
    by : (t : Setting) → is_fit_setting t ≡ true → is_within (greatest Rate) flags.rate ≡ true → is_within (greatest Mtu) flags.mtu ≡ true
        → is_within (greatest ServiceLevel) flags.service_level ≡ true → is_within (greatest Scope) flags.scope ≡ true → are_within (with_setting t flags) ≡ true
    by (setting.Rate n) k r m l c = all_four _ _ _ _ k m l c
    by (setting.Mtu n) k r m l c = all_four _ _ _ _ r k l c
    by (setting.ServiceLevel n) k r m l c = all_four _ _ _ _ r m k c
    by (setting.Scope n) k r m l c = all_four _ _ _ _ r m l k
    by (setting.QKey n) k r m l c = h
    by (setting.FullByDefault full) k r m l c = h

flags_by : (d e : Definition) (b : Bool) → are_within d.flags ≡ true → are_within e.flags ≡ true → are_within (cond b d e).flags ≡ true
flags_by d e true h k = h
flags_by d e false h k = k

pub flags_after : (d : Definition) (token : Token) (delimiter : Delimiter) (piece : List ℕ) → is_fit token ≡ true → are_within d.flags ≡ true
    → are_within (with_piece d token delimiter piece).flags ≡ true
flags_after d (Name word) delimiter piece fit h = h
flags_after d (Base base) delimiter piece fit h = h
flags_after d NoFlag delimiter piece fit h = h
flags_after d (FlagWord flag) delimiter piece fit h = flags_by d _ (is_equals delimiter) h (flag_within flag d.flags h)
flags_after d (FlagValue (Taken setting)) delimiter piece fit h = setting_within setting d.flags fit h
flags_after d (FlagValue Empty) delimiter piece fit h = h
flags_after d (FlagValue Misspelt) delimiter piece fit h = h
flags_after d (FlagValue Both) delimiter piece fit h = h
flags_after d (FlagValue Refused) delimiter piece fit h = h
flags_after d NoPorts delimiter piece fit h = h
flags_after d Mgid delimiter piece fit h = h
flags_after d (ListWord (Some ports)) delimiter piece fit h = flags_by d _ (is_equals delimiter) h h
flags_after d (ListWord None) delimiter piece fit h = h
flags_after d (Membership ports word) delimiter piece fit h = h

-- ---- the room that a list leaves
same_in_list : (token : Token) (given : Option ℕ) → is_of_list token ≡ true → base_here token given ≡ given
same_in_list (Name word) given h = refl
same_in_list (Base base) given h = absurd cc
same_in_list NoFlag given h = refl
same_in_list (FlagWord flag) given h = refl
same_in_list (FlagValue value) given h = refl
same_in_list NoPorts given h = refl
same_in_list Mgid given h = refl
same_in_list (ListWord ports) given h = refl
same_in_list (Membership ports word) given h = refl

-- the definition with this piece is one of those that there is room for
abbrev pub HasRoom : ScanState → Token → Type 0
HasRoom s token = partition_count (bases_given s.done ++ base_here token s.current.base ∷ []) ≤ PARTITIONS

kept_room : (s : ScanState) (piece : List ℕ) → IsSoundSoFar s → is_in_list s.at ≡ true → HasRoom s (token_of s.at piece)
kept_room s piece sound inside = rw (same_in_list (token_of s.at piece) s.current.base (same_list s.at piece ∙ inside)) (sound.room inside)

in_list_by_equals : (token : Token) → is_in_list (after_equals token) ≡ true → is_of_list token ≡ true
in_list_by_equals (Name word) h = h
in_list_by_equals (Base base) h = h
in_list_by_equals NoFlag h = h
in_list_by_equals (FlagWord (Some flag)) h = h
in_list_by_equals (FlagWord None) h = h
in_list_by_equals (FlagValue value) h = h
in_list_by_equals NoPorts h = refl
in_list_by_equals Mgid h = refl
in_list_by_equals (ListWord ports) h = refl
in_list_by_equals (Membership ports word) h = refl

in_list_by_comma : (b : Bool) → is_in_list (cond b part.ListWord part.FlagWord) ≡ true → b ≡ true
in_list_by_comma true h = refl
in_list_by_comma false h = h

few_enough : (b : Bool) (n : ℕ) → b ≡ false → ((true && not b) && nat_lt PARTITIONS n) ≡ false → n ≤ PARTITIONS
few_enough true n e h = absurd cc
few_enough false n e h = ltb-false PARTITIONS n h

room_after_colon : (s : ScanState) (piece : List ℕ) (b : Bool) → is_in_list s.at ≡ b → IsSoundSoFar s
    → is_one_too_many s.at Colon (bases_given s.done) (base_here (token_of s.at piece) s.current.base) ≡ false → HasRoom s (token_of s.at piece)
room_after_colon s piece true e sound h = kept_room s piece sound e
room_after_colon s piece false e sound h = few_enough (is_in_list s.at) _ e h

-- where the next part is of the list, or the definition ends, there is room for it
pub has_room : (s : ScanState) (delimiter : Delimiter) (piece : List ℕ) → IsSoundSoFar s → fault_of s delimiter (token_of s.at piece) ≡ None
    → (is_semicolon delimiter || is_in_list (part_after s.at delimiter (token_of s.at piece))) ≡ true → HasRoom s (token_of s.at piece)
has_room s Equals piece sound none h = kept_room s piece sound (sym (same_list s.at piece) ∙ in_list_by_equals (token_of s.at piece) h)
has_room s Comma piece sound none h = kept_room s piece sound (in_list_by_comma (is_in_list s.at) h)
has_room s Colon piece sound none h =
    let token = token_of s.at piece in
    room_after_colon s piece (is_in_list s.at) refl sound (sym (too_many_there s Colon token) ∙ none_there s Colon token none TooManyPartitions)
has_room s Semicolon piece sound none h =
    let token = token_of s.at piece in
    kept_room s piece sound (not-false (is_in_list s.at) (sym (unfinished_there s Semicolon token) ∙ none_there s Semicolon token none Unfinished))

pub has_sound_base : (s : ScanState) (delimiter : Delimiter) (piece : List ℕ) → IsSoundSoFar s → fault_of s delimiter (token_of s.at piece) ≡ None
    → is_sound_base (base_here (token_of s.at piece) s.current.base) ≡ true
has_sound_base s delimiter piece sound none =
    let token = token_of s.at piece in
    sound_base token delimiter s.current.base sound.valid (fits s.at piece) (sym (reserved_there s delimiter token) ∙ none_there s delimiter token none ReservedKey)

-- the definition d is the current one with one more piece
pub still_sound : (s : ScanState) (delimiter : Delimiter) (token : Token) (piece : List ℕ) (d : Definition) → IsSoundSoFar s
    → token ≡ token_of s.at piece → fault_of s delimiter token ≡ None
    → d ≡ with_piece s.current token delimiter piece → IsSoundSoFar (record { at = part_after s.at delimiter token; current = d; done = s.done })
still_sound s delimiter token piece d sound says none h =
    subst (λ (t : Token). IsSoundSoFar (record { at = part_after s.at delimiter t; current = d; done = s.done })) (sym says)
    (by (subst (λ (t : Token). fault_of s delimiter t ≡ None) says none) (subst (λ (t : Token). d ≡ with_piece s.current t delimiter piece) says h))
  where
    by : fault_of s delimiter (token_of s.at piece) ≡ None → d ≡ with_piece s.current (token_of s.at piece) delimiter piece
        → IsSoundSoFar (record { at = part_after s.at delimiter (token_of s.at piece); current = d; done = s.done })
    by clean same =
        let given : d.base ≡ base_here (token_of s.at piece) s.current.base = ap (λ (e : Definition). e.base) same ∙ base_after s.current (token_of s.at piece) delimiter piece in
        record {
          valid = rw given (has_sound_base s delimiter piece sound clean);
          flags = rw same (flags_after s.current (token_of s.at piece) delimiter piece (fits s.at piece) sound.flags);
          room = λ inside. rw given (has_room s delimiter piece sound clean (or_right (is_semicolon delimiter) _ inside));
        }

-- what adding a definition asks for
pub record MayEnd (before : List Definition) (d : Definition) : Type 0 where
  pub valid : is_sound_base d.base ≡ true
  pub flags : are_within d.flags ≡ true
  pub room : partition_count (bases_given before ++ d.base ∷ []) ≤ PARTITIONS

pub may_end : (s : ScanState) (delimiter : Delimiter) (token : Token) (piece : List ℕ) (d : Definition) → IsSoundSoFar s → token ≡ token_of s.at piece
    → fault_of s delimiter token ≡ None
    → d ≡ with_piece s.current token delimiter piece → is_semicolon delimiter ≡ true → MayEnd s.done d
may_end s delimiter token piece d sound says none h ended =
    by (subst (λ (t : Token). fault_of s delimiter t ≡ None) says none) (subst (λ (t : Token). d ≡ with_piece s.current t delimiter piece) says h)
  where
    by : fault_of s delimiter (token_of s.at piece) ≡ None → d ≡ with_piece s.current (token_of s.at piece) delimiter piece → MayEnd s.done d
    by clean same =
        let given : d.base ≡ base_here (token_of s.at piece) s.current.base = ap (λ (e : Definition). e.base) same ∙ base_after s.current (token_of s.at piece) delimiter piece in
        record {
          valid = rw given (has_sound_base s delimiter piece sound clean);
          flags = rw same (flags_after s.current (token_of s.at piece) delimiter piece (fits s.at piece) sound.flags);
          room = rw given (has_room s delimiter piece sound clean (or_left (is_semicolon delimiter) _ ended));
        }

-- a piece that was not taken leaves the definition's base
pub as_before : (s : ScanState) (d : Definition) → IsSoundSoFar s → d.base ≡ s.current.base → d.flags ≡ s.current.flags
    → IsSoundSoFar (record { at = s.at; current = d; done = s.done })
as_before s d sound h k = record { valid = rw h sound.valid; flags = rw k sound.flags; room = λ inside. rw h (sound.room inside) }
