-- If an error of clap may have the kind of the version, it can have no other.
use Rattle.std.proofs.Common.{ℕ, ◌≡◌, ◌∙◌, ◌||◌, ◌&&◌, Bool, true, false, not, List, [], ◌∷◌, Option, Some, None, ap, inl, inr, refl, sym, if◌then◌else◌, zero, suc}
use Rattle.std.proofs.lemmas.Bool.{not-true}
use Rattle.std.specs.List.{list_any}
use Rattle.std.specs.Option.{option_map_or}
use Rattle.std.specs.Prelude.{◌+◌, ◌==◌, codes, drop, encode_utf8, find, is_some, length, min, nat_lt, slice_get}
use Rattle.std.specs.Str.{bytes_eq, chars}
use Rattle.clap.specs.Facts.{parser_of_value, unwrap_or_range}
use Rattle.clap.specs.Matches.{count_text}
use Rattle.clap.specs.Faults.{action_fault, bundle_fault, bundle_step_fault, built_fault, count_fault, default_fault, defaults_fault, entered_fault, fault_of, flag_word_fault, flags_fault}
use Rattle.clap.specs.Faults.{level_fault, long_fault, option_fault, other_fault, positional_fault, react_fault, repeat_fault, set_fault, settle_fault, short_fault, step_fault}
use Rattle.clap.specs.Faults.{stray_fault, turn_fault, use_fault, walk_fault, word_fault}
use Rattle.clap.specs.Kinds.{IsAmong, Kinds, check_kinds, or_else, range_kinds, request_kinds, value_kinds, values_kinds}
use Rattle.clap.specs.Lexer.{long_of, short_of}
use Rattle.clap.specs.Simple.{App, Shape, argument_words, built, entered, label_of, names_of}
use Rattle.clap.specs.ValueTests.{accepts}
use Rattle.clap.specs.Walk.{Held, Names, Row, Rule, Step, Text, Walk, action_of, answers_to, arg_by_id, arg_by_index, arg_by_long, arg_by_short, attached_value, count_of, has_row}
use Rattle.clap.specs.Walk.{is_empty, is_pending, most_values, next, nothing_held, reacted, settled, subcommand, subcommand_met, takes_several, takes_values, trailing, value, values_or_missing}
use Rattle.clap.specs.Walk.{walk, walk_from, walked, with_default, word_met}
use Rattle.clap.specs.declared.builder.action.ArgAction.{ArgAction}
use Rattle.clap.specs.declared.builder.action.ArgAction.TheVariants as action
use Rattle.clap.specs.declared.builder.value_parser.ValueParser.{ValueParser}
use Rattle.clap.specs.declared.error.kind.ErrorKind.{ErrorKind}
use Rattle.clap.proofs.OnLiterals.{clap_on_literals}
use Rattle.cli_args.specs.Laws.{VersionIsRequested}
use Rattle.cli_args.specs.Words.{asked_of, is_version}

-- at most one kind, or several of which none is that of the version
abbrev pub is_apart : Kinds → Bool
is_apart [] = true
is_apart (kind ∷ []) = true
is_apart (kind ∷ other ∷ kinds) = not (list_any is_version (kind ∷ other ∷ kinds))

pub record IsApart (kinds : Kinds) : Type 0 where
  pub is : is_apart kinds ≡ true

-- ---- then the first of the kinds decides
left_is_no : (a b : Bool) → a || b ≡ false → a ≡ false
left_is_no true b e = e
left_is_no false b e = refl

right_is_no : (a b : Bool) → a || b ≡ false → b ≡ false
right_is_no true b e = absurd cc
right_is_no false b e = e

none_among : (kinds : Kinds) (kind : ErrorKind) → list_any is_version kinds ≡ false → IsAmong kind kinds → is_version kind ≡ false
none_among [] kind e among = absurd among
none_among (k ∷ kinds) kind e (inl is) = ap is_version is ∙ left_is_no (is_version k) _ e
none_among (k ∷ kinds) kind e (inr among) = none_among kinds kind (right_is_no (is_version k) _ e) among

pub first_decides : (first : ErrorKind) (kinds : Kinds) (kind : ErrorKind) → IsApart (first ∷ kinds) → IsAmong kind (first ∷ kinds)
    → is_version first ≡ is_version kind
first_decides first [] kind apart (inl is) = sym (ap is_version is)
first_decides first [] kind apart (inr among) = absurd among
first_decides first (other ∷ kinds) kind apart among =
    let e = not-true (list_any is_version (first ∷ other ∷ kinds)) apart.is in
    left_is_no (is_version first) _ e ∙ sym (none_among (first ∷ other ∷ kinds) kind e among)

-- ---- of parts
none : IsApart []
none = record { is = refl }

one : (kind : ErrorKind) → IsApart (kind ∷ [])
one kind = record { is = refl }

either : (a b : Kinds) → IsApart a → IsApart b → IsApart (or_else a b)
either [] b first second = second
either (kind ∷ kinds) b first second = first

choice : (c : Bool) (a b : Kinds) → IsApart a → IsApart b → IsApart (if c then a else b)
choice true a b first second = first
choice false a b first second = second

given : {X : Type 0} (f : X → Kinds) (x : Option X) → ((y : X) → IsApart (f y)) → IsApart (option_map_or f x [])
given f None apart = none
given f (Some x) apart = apart x

-- ---- of one use of an argument
value_apart : (i : Bool) (parser : ValueParser) (text : List ℕ) → IsApart (value_kinds i parser text)
value_apart i parser text = choice (accepts i parser text) [] _ none (one _)

values_apart : (i : Bool) (parser : ValueParser) (values : List Text) → IsApart (values_kinds i parser values)
values_apart i parser [] = none
values_apart i parser (v ∷ vs) = either (value_kinds i parser v) _ (value_apart i parser v) (values_apart i parser vs)

range_apart : (least most n : ℕ) → IsApart (range_kinds least most n)
range_apart least most n =
    choice (nat_lt 0 least && n == 0) _ _ (one _)
    (choice (least == most) _ _ (choice (least == n) [] _ none (one _)) (choice (nat_lt n least) _ _ (one _) (choice (nat_lt most n) _ [] (one _) none)))

request_apart : (a : ArgAction) → IsApart (request_kinds a)
request_apart action.Set = none
request_apart action.Append = none
request_apart action.SetTrue = none
request_apart action.SetFalse = none
request_apart action.Count = none
request_apart action.Help = one _
request_apart action.HelpShort = one _
request_apart action.HelpLong = one _
request_apart action.Version = one _

count_apart : (a : Rule) (values : List Text) (rows : List Row) → IsApart (count_fault a values rows)
count_apart a [] rows = value_apart a.ignore_case (parser_of_value a.parser) (count_text (min (count_of a.id rows + 1) 255))
count_apart a (v ∷ vs) rows = values_apart _ _ (v ∷ vs)

set_apart : (again : Bool) (a : Rule) (values : List Text) (rows : List Row) → IsApart (set_fault again a values rows)
set_apart again a values rows = either (repeat_fault again a.id rows) _ (choice (has_row a.id rows && not again) _ [] (one _) none) (values_apart _ _ values)

action_apart : (kind : ArgAction) (again : Bool) (a : Rule) (values : List Text) (rows : List Row) → IsApart (action_fault kind again a values rows)
action_apart action.Set again a values rows = set_apart again a values rows
action_apart action.Append again a values rows = values_apart _ _ values
action_apart action.SetTrue again a values rows = set_apart again a values rows
action_apart action.SetFalse again a values rows = set_apart again a values rows
action_apart action.Count again a values rows = count_apart a values rows
action_apart action.Help again a values rows = one _
action_apart action.HelpShort again a values rows = one _
action_apart action.HelpLong again a values rows = one _
action_apart action.Version again a values rows = one _

use_apart : (again : Bool) (a : Rule) (values : List Text) (rows : List Row) → IsApart (use_fault again a values rows)
use_apart again a values rows =
    let least = (unwrap_or_range a.range).start_inclusive in
    either (range_kinds least (most_values a) (length values)) _ (range_apart least (most_values a) (length values))
    (action_apart (action_of a) again a (values_or_missing a values) rows)

-- ---- of one word
settle_apart : (c : List Rule) (again : Bool) (h : Held) → IsApart (settle_fault c again h)
settle_apart c again h = given _ h.pending (λ p. given _ (arg_by_id c p.0) (λ a. use_apart again a p.1 h.rows))

react_apart : (c : List Rule) (again : Bool) (a : Rule) (values : List Text) (h : Held) → IsApart (react_fault c again a values h)
react_apart c again a values h = either (settle_fault c again h) _ (settle_apart c again h) (use_apart again a values (settled c h).rows)

option_apart : (c : List Rule) (again : Bool) (a : Rule) (v : Option Text) (h : Held) → IsApart (option_fault c again a v h)
option_apart c again a (Some v) h = react_apart c again a (v ∷ []) h
option_apart c again a None h = settle_apart c again h

long_apart : (c : List Rule) (again : Bool) (a : Option Rule) (v : Option Text) (h : Held) → IsApart (long_fault c again a v h)
long_apart c again None v h = one _
long_apart c again (Some a) v h =
    choice (takes_values a) _ _ (option_apart c again a v h) (choice (is_some v) _ _ (one _) (react_apart c again a [] h))

short_apart : (c : List Rule) (again : Bool) (a : Option Rule) (rest : Text) (h : Held) (others : Held → Kinds)
    → ((held : Held) → IsApart (others held)) → IsApart (short_fault c again a rest h others)
short_apart c again None rest h others apart = one _
short_apart c again (Some a) rest h others apart =
    choice (takes_values a) _ _ (option_apart c again a (attached_value rest) h)
    (either (react_fault c again a [] h) _ (react_apart c again a [] h) (apart (reacted c a [] h)))

bundle_step_apart : (c : List Rule) (again : Bool) (letter : Option ℕ) (flags : Text) (skip : ℕ) (h : Held) (others : Text → ℕ → Held → Kinds)
    → ((rest : Text) (s : ℕ) (held : Held) → IsApart (others rest s held)) → IsApart (bundle_step_fault c again letter flags skip h others)
bundle_step_apart c again None flags skip h others apart = none
bundle_step_apart c again (Some x) flags zero h others apart =
    let rest = drop (length (encode_utf8 x)) flags in
    short_apart c again (arg_by_short c x) rest h (others rest 0) (λ held. apart rest 0 held)
bundle_step_apart c again (Some x) flags (suc skip) h others apart = apart (drop (length (encode_utf8 x)) flags) skip h

flags_apart : (c : List Rule) (again : Bool) (k : ℕ) (flags : Text) (skip : ℕ) (h : Held) → IsApart (flags_fault c again k flags skip h)
unfolding flags_fault
flags_apart c again zero flags skip h = none
flags_apart c again (suc k) flags skip h =
    bundle_step_apart c again (slice_get (chars flags) 0) flags skip h (flags_fault c again k) (λ rest s held. flags_apart c again k rest s held)

flag_word_apart : (c : List Rule) (again : Bool) (long : Option (Text × Option Text)) (word : Text) (h : Held) → IsApart (flag_word_fault c again long word h)
flag_word_apart c again (Some p) word h = long_apart c again (arg_by_long c p.0) p.1 h
flag_word_apart c again None word h =
    given (λ flags. bundle_fault c again flags h) (short_of word) (λ flags. flags_apart c again (length flags) flags h.skip (record h { skip = 0 }))

other_apart : (s : Shape) (met : Option Text) (word : Text) (h : Held) → IsApart (other_fault s met word h)
other_apart s (Some name) word h = choice (bytes_eq name (codes "help") && not s.disable_help_subcommand) _ [] (record { is = refl }) none
other_apart s None word h = choice (bytes_eq word (45 ∷ 45 ∷ [])) [] _ none (flag_word_apart s.rules s.args_override_self (long_of word) word h)

step_apart : (s : Shape) (position : ℕ) (h : Held) (step : Step) → IsApart (step_fault s position h step)
step_apart s position h (next waiting) = none
step_apart s position h (trailing skip) = none
step_apart s position h (subcommand name) = none
step_apart s position h value = by (arg_by_index s.rules position)
  where
    by : (found : Option Rule) → IsApart (option_map_or (λ a. positional_fault s.rules s.args_override_self a h) found (stray_fault s))
    by (Some a) = choice (is_pending a h.pending && takes_several a) [] _ none (settle_apart s.rules s.args_override_self h)
    by None = choice s.is_leaf _ _ (one _) (record { is = refl })

turn_apart : (s : Shape) (names : Names) (w : Walk) (word : Text) → IsApart (turn_fault s names w word)
turn_apart s names w word =
    let met = word_met s.rules names w.is_trailing w.waiting w.position word w.held in
    choice (is_some w.stopped) [] _ none
    (either (word_fault s names w.is_trailing w.waiting word w.held) _
    (choice w.is_trailing [] _ none (other_apart s (subcommand_met names w.waiting word) word w.held))
    (step_apart s w.position met.0 met.1))

walk_apart : (s : Shape) (names : Names) (w : Walk) (words : List Text) → IsApart (walk_fault s names w words)
unfolding walk_fault
walk_apart s names w [] = none
walk_apart s names w (word ∷ rest) = either (turn_fault s names w word) _ (turn_apart s names w word) (walk_apart s names (walked s.rules names w word) rest)

-- ---- after the words
default_apart : (rows : List Row) (a : Rule) → IsApart (default_fault rows a)
default_apart rows a = choice (has_row a.id rows || is_empty a.defaults) [] _ none
    (either (request_kinds (action_of a)) _ (request_apart (action_of a)) (values_apart a.ignore_case (parser_of_value a.parser) a.defaults))

defaults_apart : (rows : List Row) (rules : List Rule) → IsApart (defaults_fault rows rules)
unfolding defaults_fault
defaults_apart rows [] = none
defaults_apart rows (a ∷ rest) = either (default_fault rows a) _ (default_apart rows a) (defaults_apart (with_default rows a) rest)

check_apart : (a b c : Bool) → IsApart (check_kinds a b c)
check_apart a b c = choice a _ _ (one _) (choice b _ _ (one _) (choice c _ [] (one _) none))

level_apart : (s : Shape) (names : Names) (h : Held) (words : List Text) (has : Bool) (below : Kinds) → IsApart below
    → IsApart (level_fault s names h words has below)
level_apart s names h words has below apart =
    let end = (walk s.rules names h words).held in
    either (walk_fault s names (walk_from h) words) _ (walk_apart s names (walk_from h) words)
    (either below _ apart
    (either (settle_fault s.rules s.args_override_self end) _ (settle_apart s.rules s.args_override_self end)
    (either (defaults_fault (settled s.rules end).rows s.rules) _ (defaults_apart (settled s.rules end).rows s.rules)
    (check_apart _ _ _))))

entered_apart : (a : App) (stop : Option (Text × List Text)) → IsApart (entered_fault a stop)
entered_apart a stop =
    given _ stop (λ p. given _ (find (λ s. answers_to p.0 (label_of s)) a.subs) (λ s. level_apart s [] nothing_held p.1 false [] none))

built_apart : (a : App) (h : Held) (words : List Text) → IsApart (built_fault a h words)
built_apart a h words =
    let stop = (walk a.top.rules (names_of a) h words).stopped in
    level_apart a.top (names_of a) h words (is_some (entered a stop)) (entered_fault a stop) (entered_apart a stop)

pub faults_are_apart : (a : App) (words : List Text) → IsApart (fault_of a words)
faults_are_apart a words = built_apart (built a) nothing_held (argument_words a words)

-- ---- the flags
pub version_is_requested : VersionIsRequested
unfolding clap_on_literals asked_of
version_is_requested = record { long = λ shown program rest. refl; short = λ shown program rest. refl; behind_help = refl; behind_a_command = refl }
