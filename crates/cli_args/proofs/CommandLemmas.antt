-- What clap's answer says of the words.
use Rattle.std.proofs.Common.{◌≡◌, ◌≢◌, ◌∙◌, Bool, true, false, not, ◌&&◌, List, [], ◌∷◌, Option, Ok, Err, if◌then◌else◌, ap, refl, sym, inl, inr}
use Rattle.clap.specs.declared.builder.command.Command.{Command}
use Rattle.clap.specs.Words.{AddsSubcommand, App, HasKind, HasMatchesOf, IsAmong, Kinds, Text, app_of, fault_of}
use Rattle.clap.specs.Words.{is_simple, is_simple_and_free, kind_of, subcommand_of, subcommand_rows_of, with_subcommand}
use Rattle.clap.specs.declared.error.Error.{Error}
use Rattle.clap.specs.declared.error.kind.ErrorKind.{ErrorKind}
use Rattle.clap.specs.declared.error.kind.ErrorKind.TheVariants.{DisplayVersion, OutOfMemory}
use Rattle.clap.specs.declared.parser.matches.ArgMatches.{ArgMatches}
use Rattle.clap.proofs.OnLiterals.{clap_on_literals}
use Rattle.cli_args.specs.CommandLine.{fabric_command}
use Rattle.cli_args.specs.Words.{Asking, asked_in, asked_of, is_version}
use Rattle.cli_args.specs.declared.call.Call.TheVariants.{Version}
use Rattle.cli_args.proofs.VersionLemmas.{faults_are_apart, first_decides, IsApart}

fabric_is_simple : is_simple fabric_command ≡ true
unfolding clap_on_literals
fabric_is_simple = refl

fabric_is_free : is_simple_and_free fabric_command ≡ true
unfolding clap_on_literals
fabric_is_free = refl

unfaulted : (shown : List Text → Option Text) (words : List Text) (m : ArgMatches) → fault_of fabric_command words ≡ []
    → subcommand_rows_of m ≡ subcommand_of fabric_command words → asked_of shown words ≡ asked_in (subcommand_rows_of m)
unfolding asked_of
unfaulted shown words m none same = rw (none, ← same) refl

-- words that clap takes ask for what it found
pub taken : (shown : List Text → Option Text) (app : App) (words : List Text) (m : ArgMatches) → app ≡ fabric_command
    → HasMatchesOf app words m → (is_simple_and_free app ≡ true → fault_of app words ≡ [])
    → asked_of shown words ≡ asked_in (subcommand_rows_of m)
taken shown app words m is matches kinds =
    let none : fault_of app words ≡ [] = kinds (ap is_simple_and_free is ∙ fabric_is_free) in
    let same = (matches (ap is_simple is ∙ fabric_is_simple)).1 in
    unfaulted shown words m (ap (λ (a : App). fault_of a words) (sym is) ∙ none) (same ∙ ap (λ (a : App). subcommand_of a words) is)

-- what arguments ask for if clap reports an error of this kind
abbrev asked_at : Option Text → ErrorKind → Asking
asked_at shown kind = if is_version kind then Ok Version else Err shown

faulted : (shown : List Text → Option Text) (words : List Text) (error : Error) (kinds : Kinds) → fault_of fabric_command words ≡ kinds
    → IsApart kinds → IsAmong (kind_of error) kinds → asked_of shown words ≡ asked_at (shown words) (kind_of error)
unfolding asked_of
faulted shown words error [] e apart among = absurd among
faulted shown words error (kind ∷ kinds) e apart among =
    rw (e, first_decides kind kinds (kind_of error) apart among) refl

-- the kind of clap's error says whether arguments ask for the version or for nothing
pub refuses : (shown : List Text → Option Text) (app : App) (words : List Text) (error : Error) → app ≡ fabric_command
    → (is_simple_and_free app ≡ true → HasKind (fault_of app words) error)
    → (kind_of error ≢ OutOfMemory) → asked_of shown words ≡ asked_at (shown words) (kind_of error)
refuses shown app words error is kinds other =
    let has : HasKind (fault_of app words) error = kinds (ap is_simple_and_free is ∙ fabric_is_free) in
    failed (rw is at has)
  where
    failed : HasKind (fault_of fabric_command words) error → asked_of shown words ≡ asked_at (shown words) (kind_of error)
    failed (inl memory) = absurd (other memory)
    failed (inr among) = faulted shown words error (fault_of fabric_command words) refl (faults_are_apart fabric_command words) among

pub shows_version : (shown : Option Text) (kind : ErrorKind) → kind ≡ DisplayVersion → asked_at shown kind ≡ Ok Version
shows_version shown kind is = rw is refl

pub shows_refusal : (shown : Option Text) (kind : ErrorKind) → is_version kind ≡ false → asked_at shown kind ≡ Err shown
shows_refusal shown kind is = rw is refl

pub is_no_version : (kind : ErrorKind) → kind ≢ DisplayVersion → is_version kind ≡ false
is_no_version kind other = by kind refl
  where
    by : (k : ErrorKind) → kind ≡ k → is_version k ≡ false
    by DisplayVersion is = absurd (other is)
    by _ is = refl

-- ---- a plain command has no global argument
third_of : (a b g rest : Bool) → a && (not b && (not g && rest)) ≡ true → g ≡ false
third_of true false false rest e = refl
third_of true false true rest e = cc
third_of true true g rest e = cc
third_of false b g rest e = cc

pub adds_shape : (old sub new : Command) (app : App) → AddsSubcommand old sub new → app_of sub ≡ app → app.top.is_plain ≡ true
    → app_of new ≡ with_subcommand (app_of old) app.top
adds_shape old sub new app adds is plain =
    let kept : (app_of sub).top.is_plain ≡ true = ap (λ (a : App). a.top.is_plain) is ∙ plain in
    adds.shape (third_of _ _ _ _ kept) ∙ ap (λ (a : App). with_subcommand (app_of old) a.top) is
