-- How a call ends, from what was written to both streams.
use Rattle.std.proofs.Common.{ℕ, ◌≡◌, ◌≢◌, ◌⊎◌, ◌∙◌, inl, inr, refl, ap, arith, Bool, List, [], ◌∷◌, take, length, Option, Some, None, IfSome}
use Rattle.std.proofs.Common.{Result, Ok, Err, string_bytes, subst, sym, map, option_map}
use Rattle.std.specs.Prelude.{String}
use Rattle.std.specs.Global.{Global}
use Rattle.std.specs.Io.KnownBytes.{Appends, Keeps}
use Rattle.subnet_core.specs.declared.fault.RunFault.{RunFault}
use Rattle.subnet_core.specs.declared.fault.RunFault.TheVariants as run
use Rattle.fabric_cli.specs.declared.faults.Stop.{Stop}
use Rattle.fabric_cli.specs.declared.faults.Stop.TheVariants.{Words, NoMemory, Unread, Unwritten, Run, Second, Unmanaged, Unheard, Unsent, Foreign}
use Rattle.fabric_cli.specs.Faults.{line_of, run_line, run_status, status_of}
use Rattle.fabric_cli.specs.Files.{Contents}
use Rattle.fabric_cli.specs.declared.answering.Answer.{Answer}
use Rattle.fabric_cli.specs.declared.answering.Answer.TheVariants.{Complete, Warned}
use Rattle.fabric_cli.specs.Serving.{AppendsSome, Ending, Judged, bytes_if_named, keys_audited, three_viewed, broken_off, complete, faulted, managed, status_in, warned, imported, judged_for, output_in, refused, ended, to_judge, viewed}
use Rattle.fabric_cli.specs.Serving.{Answers, BreaksOff, Ends, EndsAs, ForEnding, ForSomeBytes, GoesOut, GoesPartly, GrowsPartly, IsOfManage, IsRefusal, IsReportedStop, RunStops, Stops, StopsBehind}
use Rattle.code_texts.specs.Texts.{explained}
use Rattle.cli_args.specs.Help.{version_line}
use Rattle.cli_args.specs.Words.{Asking, asked_by_given, asking_by_clap}
use Rattle.cli_args.specs.declared.call.DumpView.{DumpView}
use Rattle.cli_args.specs.declared.call.ThirdFile.{ThirdFile}
use Rattle.cli_args.specs.declared.call.Call.TheVariants.{AuditKeys, AuditThree, Dumped, Explain, Import, Subnet, Version}
use Rattle.text_streams.specs.Writing.{AppendsPart}
use Rattle.text_streams.proofs.KnownBytesLemmas.{appends_nothing}
use Rattle.fabric_cli.proofs.JudgedLemmas.{for_ending}

pub kept : (known : Option (List ℕ)) → Keeps known known
kept None = tt
kept (Some xs) = refl

-- a whole output
goes_out_ends : (answer : Answer) (out out' err : Option (List ℕ)) (ending : Ending) → GoesOut answer ending out out' → Ends ending (status_in answer) out out' err err
goes_out_ends Complete out out' err (complete output) is = (refl, is, kept err)
goes_out_ends Warned out out' err (warned output) is = (refl, is, kept err)
goes_out_ends Complete out out' err (managed status line) is = rw is.1 (sym is.0, appends_nothing err)
goes_out_ends Warned out out' err (managed status line) is = absurd is
goes_out_ends Complete out out' err (refused shown) is = absurd is
goes_out_ends Complete out out' err (faulted status line) is = absurd is
goes_out_ends Complete out out' err (warned output) is = absurd is
goes_out_ends Complete out out' err (broken_off line output) is = absurd is
goes_out_ends Warned out out' err (refused shown) is = absurd is
goes_out_ends Warned out out' err (faulted status line) is = absurd is
goes_out_ends Warned out out' err (complete output) is = absurd is
goes_out_ends Warned out out' err (broken_off line output) is = absurd is

-- what is answered has another status than the machine's refusal
pub answered_below : (answer : Answer) → status_in answer ≢ 3
answered_below Complete is = omega (arith, is)
answered_below Warned is = omega (arith, is)

pub done_ends : (judged : Judged) (answer : Answer) (out out' err : Option (List ℕ)) → ForEnding judged (λ ending. GoesOut answer ending out out')
    → EndsAs judged (status_in answer) out out' err err
done_ends judged answer out out' err is =
    for_ending judged (λ ending. GoesOut answer ending out out') (λ ending. Ends ending (status_in answer) out out' err err) (goes_out_ends answer out out' err) is

-- a fault that is printed, and is no refusal of the machine
fault_ends : (judged : Judged) (line : List ℕ) (answer : ℕ) (out out' err err' : Option (List ℕ)) → ForEnding judged (λ ending. ending ≡ faulted 1 line)
    → Keeps out out' → answer ≡ 1 → Appends err err' line → EndsAs judged answer out out' err err'
fault_ends judged line answer out out' err err' is same one reported =
    for_ending judged (λ ending. ending ≡ faulted 1 line) (λ ending. Ends ending answer out out' err err') (λ ending at. rw at (one, same, reported)) is

run_ends : (judged : Judged) (fault : RunFault) (answer : ℕ) (out out' err err' : Option (List ℕ)) → RunStops judged fault → Keeps out out' → answer ≢ 3
    → (answer ≡ run_status fault) × Appends err err' (run_line fault) → EndsAs judged answer out out' err err'
run_ends judged run.NoMemory answer out out' err err' is same other reported = absurd (other reported.0)
run_ends judged (run.Topology line cause) answer out out' err err' is same other reported = fault_ends judged _ answer out out' err err' is.1 same reported.0 reported.1
run_ends judged (run.Partitions line cause) answer out out' err err' is same other reported = fault_ends judged _ answer out out' err err' is.1 same reported.0 reported.1
run_ends judged (run.Sweep fault) answer out out' err err' is same other reported = fault_ends judged _ answer out out' err err' is.1 same (reported.0 ∙ is.0) reported.1
run_ends judged (run.NoLegalPath switch node number) answer out out' err err' is same other reported = fault_ends judged _ answer out out' err err' is.1 same reported.0 reported.1
run_ends judged (run.Push fault) answer out out' err err' is same other reported = fault_ends judged _ answer out out' err err' is.1 same (reported.0 ∙ is.0) reported.1
run_ends judged (run.Port cause) answer out out' err err' is same other reported = fault_ends judged _ answer out out' err err' is.1 same reported.0 reported.1
run_ends judged (run.Script line cause) answer out out' err err' is same other reported = fault_ends judged _ answer out out' err err' is.1 same reported.0 reported.1
run_ends judged (run.SecondScript line cause) answer out out' err err' is same other reported = fault_ends judged _ answer out out' err err' is.1 same reported.0 reported.1
run_ends judged run.Read answer out out' err err' is same other reported = absurd (other reported.0)
run_ends judged run.Write answer out out' err err' is same other reported = absurd (other reported.0)

-- refused words, with their text
refusal_ends : (text : List ℕ) (answer : ℕ) (out out' err err' : Option (List ℕ)) → Keeps out out' → (answer ≡ 2) × Appends err err' text → (ending : Ending)
    → IsRefusal ending text → Ends ending answer out out' err err'
refusal_ends text answer out out' err err' same reported (refused shown) is = (reported.0, same, (text, is, reported.1))
refusal_ends text answer out out' err err' same reported (faulted status line) is = absurd is
refusal_ends text answer out out' err err' same reported (complete output) is = absurd is
refusal_ends text answer out out' err err' same reported (warned output) is = absurd is
refusal_ends text answer out out' err err' same reported (managed status line) is = absurd is
refusal_ends text answer out out' err err' same reported (broken_off line output) is = absurd is

-- a stop
pub stop_ends : (judged : Judged) (stop : Stop) (answer : ℕ) (out out' err err' : Option (List ℕ)) → Stops judged stop → Keeps out out' → answer ≢ 3
    → (answer ≡ status_of stop) × Appends err err' (line_of stop) → EndsAs judged answer out out' err err'
stop_ends judged (Words text) answer out out' err err' is same other reported =
    for_ending judged (λ ending. IsRefusal ending (string_bytes text)) (λ ending. Ends ending answer out out' err err')
    (refusal_ends (string_bytes text) answer out out' err err' same reported) is
stop_ends judged NoMemory answer out out' err err' is same other reported = absurd (other reported.0)
stop_ends judged (Unread name) answer out out' err err' is same other reported = absurd (other reported.0)
stop_ends judged Unwritten answer out out' err err' is same other reported = absurd is
stop_ends judged (Run fault) answer out out' err err' is same other reported = run_ends judged fault answer out out' err err' is same other reported
stop_ends judged (Second line cause) answer out out' err err' is same other reported = fault_ends judged _ answer out out' err err' is same reported.0 reported.1
stop_ends judged (Unmanaged fault place) answer out out' err err' is same other reported = absurd is
stop_ends judged (Unheard name) answer out out' err err' is same other reported = absurd is
stop_ends judged Unsent answer out out' err err' is same other reported = absurd is
stop_ends judged (Foreign line cause) answer out out' err err' is same other reported = fault_ends judged _ answer out out' err err' is same reported.0 reported.1

-- a stop behind what was reported
broken_ends : (stop : Stop) (answer : ℕ) (out out' err err' : Option (List ℕ)) → (answer ≡ status_of stop) × Appends err err' (line_of stop) → (ending : Ending)
    → BreaksOff stop ending out out' → Ends ending answer out out' err err'
broken_ends stop answer out out' err err' reported (refused shown) is = absurd is
broken_ends stop answer out out' err err' reported (faulted status line) is = absurd is
broken_ends stop answer out out' err err' reported (complete output) is = absurd is
broken_ends stop answer out out' err err' reported (warned output) is = absurd is
broken_ends stop answer out out' err err' reported (managed status line) is =
    (reported.0 ∙ is.1 ∙ sym is.2, subst (λ (text : List ℕ). Appends err err' text) is.0 reported.1)
broken_ends stop answer out out' err err' reported (broken_off line output) is = (reported.0 ∙ is.1, is.2, subst (λ (text : List ℕ). Appends err err' text) is.0 reported.1)

module _ (judged : Judged) (stop : Stop) (answer : ℕ) (out out' err err' : Option (List ℕ)) where
  either_ends : (Stops judged stop × Keeps out out') ⊎ ForEnding judged (λ ending. BreaksOff stop ending out out') → answer ≢ 3
      → (answer ≡ status_of stop) × Appends err err' (line_of stop) → EndsAs judged answer out out' err err'
  either_ends (inl is) other reported = stop_ends judged stop answer out out' err err' is.0 is.1 other reported
  either_ends (inr is) other reported =
      for_ending judged (λ ending. BreaksOff stop ending out out') (λ ending. Ends ending answer out out' err err')
      (broken_ends stop answer out out' err err' reported) is

-- it ends early, with its output written as far as it went
pub answer_ends : (judged : Judged) (stop : Stop) (answer : ℕ) (a : Bool) (out out' err err' : Option (List ℕ))
    → StopsBehind judged stop a out out' → answer ≢ 3
    → (answer ≡ status_of stop) × Appends err err' (line_of stop) → EndsAs judged answer out out' err err'
answer_ends judged (Words text) answer a out out' err err' is other reported = either_ends judged (Words text) answer out out' err err' is other reported
answer_ends judged NoMemory answer a out out' err err' is other reported = absurd (other reported.0)
answer_ends judged (Unread name) answer a out out' err err' is other reported = absurd (other reported.0)
answer_ends judged Unwritten answer a out out' err err' is other reported = absurd (other reported.0)
answer_ends judged (Run fault) answer a out out' err err' is other reported = either_ends judged (Run fault) answer out out' err err' is other reported
answer_ends judged (Second line cause) answer a out out' err err' is other reported = either_ends judged (Second line cause) answer out out' err err' is other reported
answer_ends judged (Unmanaged fault place) answer a out out' err err' is other reported = either_ends judged (Unmanaged fault place) answer out out' err err' is other reported
answer_ends judged (Unheard name) answer a out out' err err' is other reported = absurd (other reported.0)
answer_ends judged Unsent answer a out out' err err' is other reported = absurd (other reported.0)
answer_ends judged (Foreign line cause) answer a out out' err err' is other reported = either_ends judged (Foreign line cause) answer out out' err err' is other reported

-- ---- what has gone out
take_whole : (text : List ℕ) → take (length text) text ≡ text
take_whole [] = refl
take_whole (byte ∷ text) = ap (λ (rest : List ℕ). byte ∷ rest) (take_whole text)

pub whole_part : (out out' : Option (List ℕ)) (text : List ℕ) → Appends out out' text → AppendsPart out out' text
whole_part out out' text wrote = (length text, rw (take_whole text) wrote)

out_some : (answer : Answer) (out out' : Option (List ℕ)) (ending : Ending) → GoesOut answer ending out out' → GrowsPartly ending out out'
out_some Complete out out' (complete output) is = whole_part out out' output is
out_some Warned out out' (warned output) is = whole_part out out' output is
out_some Complete out out' (managed status line) is = tt
out_some Warned out out' (managed status line) is = tt
out_some Complete out out' (refused shown) is = absurd is
out_some Complete out out' (faulted status line) is = absurd is
out_some Complete out out' (warned output) is = absurd is
out_some Complete out out' (broken_off line output) is = absurd is
out_some Warned out out' (refused shown) is = absurd is
out_some Warned out out' (faulted status line) is = absurd is
out_some Warned out out' (complete output) is = absurd is
out_some Warned out out' (broken_off line output) is = absurd is

partly_some : (out out' : Option (List ℕ)) (ending : Ending) → GoesPartly ending out out' → GrowsPartly ending out out'
partly_some out out' (refused shown) is = absurd is
partly_some out out' (faulted status line) is = absurd is
partly_some out out' (complete output) is = is
partly_some out out' (warned output) is = is
partly_some out out' (managed status line) is = tt
partly_some out out' (broken_off line output) is = is

broken_some : (stop : Stop) (out out' : Option (List ℕ)) (ending : Ending) → BreaksOff stop ending out out' → GrowsPartly ending out out'
broken_some stop out out' (refused shown) is = absurd is
broken_some stop out out' (faulted status line) is = absurd is
broken_some stop out out' (complete output) is = absurd is
broken_some stop out out' (warned output) is = absurd is
broken_some stop out out' (managed status line) is = tt
broken_some stop out out' (broken_off line output) is = whole_part out out' output is.2

manage_some : (out out' : Option (List ℕ)) (ending : Ending) → IsOfManage ending → GrowsPartly ending out out'
manage_some out out' (refused shown) is = absurd is
manage_some out out' (faulted status line) is = absurd is
manage_some out out' (complete output) is = absurd is
manage_some out out' (warned output) is = absurd is
manage_some out out' (managed status line) is = tt
manage_some out out' (broken_off line output) is = absurd is

module _ (judged : Judged) (out out' : Option (List ℕ)) where
  abbrev some_of : (Ending → Type 0) → Type 0
  some_of Is = ((ending : Ending) → Is ending → GrowsPartly ending out out') → ForEnding judged Is → AppendsSome judged out out'

  some_by : (Is : Ending → Type 0) → some_of Is
  some_by Is f is = inr (for_ending judged Is (λ ending. GrowsPartly ending out out') f is)

  either_some : (stop : Stop) → (Stops judged stop × Keeps out out') ⊎ ForEnding judged (λ ending. BreaksOff stop ending out out') → AppendsSome judged out out'
  either_some stop (inl is) = inl is.1
  either_some stop (inr is) = some_by (λ ending. BreaksOff stop ending out out') (broken_some stop out out') is

  pub done_some : (answer : Answer) → ForEnding judged (λ ending. GoesOut answer ending out out') → AppendsSome judged out out'
  done_some answer is = some_by (λ ending. GoesOut answer ending out out') (out_some answer out out') is

  pub answer_some : (stop : Stop) (a : Bool) → StopsBehind judged stop a out out' → AppendsSome judged out out'
  answer_some (Words text) a is = either_some (Words text) is
  answer_some NoMemory a is = is
  answer_some (Unread name) a is = is
  answer_some Unwritten a is = some_by (λ ending. GoesPartly ending out out') (partly_some out out') is.1
  answer_some (Run fault) a is = either_some (Run fault) is
  answer_some (Second line cause) a is = either_some (Second line cause) is
  answer_some (Unmanaged fault place) a is = either_some (Unmanaged fault place) is
  answer_some (Unheard name) a is = some_by IsOfManage (manage_some out out') is
  answer_some Unsent a is = some_by IsOfManage (manage_some out out') is
  answer_some (Foreign line cause) a is = either_some (Foreign line cause) is

-- it is said of files that were read
pub is_reported : (stop : Stop) (answer : ℕ) → answer ≢ 3 → answer ≡ status_of stop → IsReportedStop stop
is_reported (Words text) answer other is = tt
is_reported NoMemory answer other is = absurd (other is)
is_reported (Unread name) answer other is = absurd (other is)
is_reported Unwritten answer other is = absurd (other is)
is_reported (Run fault) answer other is = tt
is_reported (Second line cause) answer other is = tt
is_reported (Unmanaged fault place) answer other is = tt
is_reported (Unheard name) answer other is = absurd (other is)
is_reported Unsent answer other is = absurd (other is)
is_reported (Foreign line cause) answer other is = tt

pub for_some_reported : {A B : Contents → Type 0} (reported : Option Contents) → ((file : Contents) → A file → B file) → IfSome reported A → IfSome reported B
for_some_reported None f a = tt
for_some_reported (Some file) f a = f file a

pub for_some_bytes : (asked : Asking) (P Q : Judged → Type 0) → ((judged : Judged) → P judged → Q judged) → ForSomeBytes asked P
    → ForSomeBytes asked Q
for_some_bytes (Err shown) P Q f some = f (ended (refused shown)) some
for_some_bytes (Ok (Subnet names)) P Q f some = (some.0, some.1, f (to_judge some.0) some.2)
for_some_bytes (Ok (Import netdiscover manager roots)) P Q f some = (some.0, f (ended (imported manager roots some.0)) some.1)
for_some_bytes (Ok (Dumped view fabric dump)) P Q f some = (some.0, some.1, f (ended (viewed view some.0 some.1)) some.2)
for_some_bytes (Ok (AuditThree third fabric dump name)) P Q f some = (some.0, some.1, some.2, f (ended (three_viewed third some.0 some.1 some.2)) some.3)
for_some_bytes (Ok (AuditKeys netdiscover pkeys partitions manager all)) P Q f some =
    (some.0, some.1, some.2, some.3, f (ended (keys_audited manager all some.0 some.1 some.2)) some.4)
for_some_bytes (Ok (Explain code)) P Q f some = f (ended (complete (explained code))) some
for_some_bytes (Ok Version) P Q f some = f (ended (complete version_line)) some

-- what is answered of a file that was read is what is answered of the files
pub of_file : (reported : Option Contents) (name bytes : List ℕ) (manager : Option ℕ) (roots : Bool) (result : Result Answer Stop) (a : Bool) (out out' : Option (List ℕ))
    → IfSome reported (λ file. file name ≡ Some bytes) → Answers (ended (imported manager roots bytes)) result a out out'
    → IfSome reported (λ file. Answers (judged_for file (Ok (Import name manager roots))) result a out out')
of_file None name bytes manager roots result a out out' is answers = tt
of_file (Some file) name bytes manager roots result a out out' is answers = rw is answers

-- and of two files
pub of_two : (reported : Option Contents) (view : DumpView) (first second one other : List ℕ) (result : Result Answer Stop) (a : Bool) (out out' : Option (List ℕ))
    → IfSome reported (λ file. file first ≡ Some one) → IfSome reported (λ file. file second ≡ Some other) → Answers (ended (viewed view one other)) result a out out'
    → IfSome reported (λ file. Answers (judged_for file (Ok (Dumped view first second))) result a out out')
of_two None view first second one other result a out out' is are answers = tt
of_two (Some file) view first second one other result a out out' is are answers = rw (is, are) answers

-- and of three
pub of_third : (reported : Option Contents) (file : ThirdFile) (first second third one other last : List ℕ) (result : Result Answer Stop) (a : Bool) (out out' : Option (List ℕ))
    → IfSome reported (λ file. file first ≡ Some one) → IfSome reported (λ file. file second ≡ Some other) → IfSome reported (λ file. file third ≡ Some last)
    → Answers (ended (three_viewed file one other last)) result a out out'
    → IfSome reported (λ contents. Answers (judged_for contents (Ok (AuditThree file first second third))) result a out out')
of_third None file first second third one other last result a out out' is are too answers = tt
of_third (Some contents) file first second third one other last result a out out' is are too answers = rw (is, are, too) answers

-- and of three, the last of which need not be there
pub of_three : (reported : Option Contents) (first second one other : List ℕ) (third last : Option (List ℕ)) (manager : Option ℕ) (all : Bool) (result : Result Answer Stop) (a : Bool)
    (out out' : Option (List ℕ))
    → IfSome reported (λ file. (file first ≡ Some one) × (file second ≡ Some other) × (bytes_if_named file third ≡ Ok last))
    → Answers (ended (keys_audited manager all one other last)) result a out out'
    → IfSome reported (λ file. Answers (judged_for file (Ok (AuditKeys first second third manager all))) result a out out')
of_three None first second one other third last manager all result a out out' is answers = tt
of_three (Some file) first second one other third last manager all result a out out' is answers = rw (is.0, is.1, is.2) answers

-- ---- of a call
-- where the files say what they hold
module _ (reported : Option Contents) (judged : Contents → Judged) where
  pub reported_done_ends : (answer : Answer) (out out' err : Option (List ℕ)) → IfSome reported (λ file. ForEnding (judged file) (λ ending. GoesOut answer ending out out'))
      → IfSome reported (λ file. EndsAs (judged file) (status_in answer) out out' err err)
  reported_done_ends answer out out' err is = for_some_reported reported (λ file one. done_ends (judged file) answer out out' err one) is

  pub reported_done_some : (answer : Answer) (out out' : Option (List ℕ)) → IfSome reported (λ file. ForEnding (judged file) (λ ending. GoesOut answer ending out out'))
      → IfSome reported (λ file. AppendsSome (judged file) out out')
  reported_done_some answer out out' is = for_some_reported reported (λ file one. done_some (judged file) out out' answer one) is

  pub reported_ends : (stop : Stop) (answer : ℕ) (a : Bool) (out out' err err' : Option (List ℕ)) → IfSome reported (λ file. StopsBehind (judged file) stop a out out') → answer ≢ 3
      → (answer ≡ status_of stop) × Appends err err' (line_of stop) → IfSome reported (λ file. EndsAs (judged file) answer out out' err err')
  reported_ends stop answer a out out' err err' is other line = for_some_reported reported (λ file one. answer_ends (judged file) stop answer a out out' err err' one other line) is

  pub reported_some : (stop : Stop) (a : Bool) (out out' : Option (List ℕ)) → IfSome reported (λ file. StopsBehind (judged file) stop a out out')
      → IfSome reported (λ file. AppendsSome (judged file) out out')
  reported_some stop a out out' is = for_some_reported reported (λ file one. answer_some (judged file) out out' stop a one) is

-- and where they do not
pub any_done_ends : (asked : Asking) (answer : Answer) (out out' err : Option (List ℕ)) → ForSomeBytes asked (λ judged. ForEnding judged (λ ending. GoesOut answer ending out out'))
    → ForSomeBytes asked (λ judged. EndsAs judged (status_in answer) out out' err err)
any_done_ends asked answer out out' err is =
    for_some_bytes asked (λ judged. ForEnding judged (λ ending. GoesOut answer ending out out')) (λ judged. EndsAs judged (status_in answer) out out' err err)
    (λ judged one. done_ends judged answer out out' err one) is

pub any_ends : (asked : Asking) (stop : Stop) (answer : ℕ) (a : Bool) (out out' err err' : Option (List ℕ)) → ForSomeBytes asked (λ judged. StopsBehind judged stop a out out') → answer ≢ 3
    → (answer ≡ status_of stop) × Appends err err' (line_of stop) → ForSomeBytes asked (λ judged. EndsAs judged answer out out' err err')
any_ends asked stop answer a out out' err err' is other line =
    for_some_bytes asked (λ judged. StopsBehind judged stop a out out') (λ judged. EndsAs judged answer out out' err err')
    (λ judged one. answer_ends judged stop answer a out out' err err' one other line) is

-- ---- of the arguments of the process, which are those words
pub given_any : (items : Option (List (String Global))) (words held : List (String Global)) (status result : ℕ) (out out' err err' : Option (List ℕ))
    → items ≡ Some words → held ≡ words → status ≡ result
    → (result ≢ 3 → ForSomeBytes (asking_by_clap held) (λ judged. EndsAs judged result out out' err err'))
    → status ≢ 3 → ForSomeBytes (asked_by_given (option_map (λ words. map string_bytes words) items)) (λ judged. EndsAs judged status out out' err err')
given_any items words held status result out out' err err' is same from some other =
    subst (λ (s : ℕ). ForSomeBytes (asked_by_given (option_map (λ words. map string_bytes words) items)) (λ judged. EndsAs judged s out out' err err'))
    (sym from)
    (subst (λ (o : Option (List (String Global))). ForSomeBytes (asked_by_given (option_map (λ words. map string_bytes words) o))
    (λ judged. EndsAs judged result out out' err err')) (sym is)
    (subst (λ (w : List (String Global)). ForSomeBytes (asking_by_clap w) (λ judged. EndsAs judged result out out' err err')) same
    (some (λ three. other (from ∙ three)))))
