-- What stands on standard error at status 3.
use Rattle.std.proofs.Common.{ℕ, ◌≡◌, ◌≢◌, ◌⊎◌, ◌∙◌, inl, inr, refl, sym, arith, Bool, true, List, Option, Some, None, IfSome, string_bytes}
use Rattle.std.specs.Io.KnownBytes.{Keeps}
use Rattle.subnet_core.specs.declared.fault.RunFault.{RunFault}
use Rattle.subnet_core.specs.declared.fault.RunFault.TheVariants as run
use Rattle.fabric_cli.specs.declared.faults.Stop.{Stop}
use Rattle.fabric_cli.specs.declared.faults.Stop.TheVariants.{Words, NoMemory, Unread, Unwritten, Run, Second, Unmanaged, Unheard, Unsent, Foreign}
use Rattle.fabric_cli.specs.Faults.{NamesUnread, line_of, memory_line, status_of, unread_line, unwritten_line}
use Rattle.fabric_cli.specs.Files.{Contents}
use Rattle.fabric_cli.specs.Serving.{Ending, Judged, broken_off, complete, faulted, managed, refused, warned, BreaksOff, ForEnding, GoesPartly, IsLineOf, IsOfManage, IsRefusal, IsRefused, RunStops, Stops, StopsBehind, ReportsStop}
use Rattle.text_streams.specs.Writing.{Writes}
use Rattle.fabric_cli.proofs.JudgedLemmas.{for_ending}

-- a status other than 3 was answered where the line can go out
pub other_status : (status answer : ℕ) (b : Bool) → answer ≡ 3 → (b ≡ true → answer ≡ status) → status ≢ 3 → b ≢ true
other_status status answer b three reported other sure = other (sym (reported sure) ∙ three)

pub of_memory : (file : Contents) (reads : Bool) (old new : Option (List (List ℕ))) (names : List (List ℕ)) (judged : Judged) (a b : Bool) (err err' : Option (List ℕ))
    → Writes b err err' memory_line → IsRefused file reads old new names judged a b err err'
of_memory file reads old new names judged a b err err' part = record { line = memory_line; is = inl refl; reported = part }

-- an output that does not go out
partly_line : (a b : Bool) (out out' : Option (List ℕ)) → a ≢ true → (ending : Ending) → GoesPartly ending out out' → IsLineOf a b ending unwritten_line
partly_line a b out out' may (refused shown) is = absurd is
partly_line a b out out' may (faulted status line) is = absurd is
partly_line a b out out' may (complete output) is = (refl, may)
partly_line a b out out' may (warned output) is = (refl, may)
partly_line a b out out' may (managed status line) is = absurd is
partly_line a b out out' may (broken_off line output) is = inr (refl, may)

-- bring-up by SMPs: replies that end, or an output that does not go out
manage_line : (a b : Bool) (line : List ℕ) → (line ≡ unwritten_line) ⊎ ((name : List ℕ) × (line ≡ unread_line name)) → (ending : Ending) → IsOfManage ending
    → IsLineOf a b ending line
manage_line a b line said (refused shown) is = absurd is
manage_line a b line said (faulted status fault) is = absurd is
manage_line a b line said (complete output) is = absurd is
manage_line a b line said (warned output) is = absurd is
manage_line a b line said (managed status fault) is = inr said
manage_line a b line said (broken_off fault output) is = absurd is

of_output : (file : Contents) (reads : Bool) (old new : Option (List (List ℕ))) (names : List (List ℕ)) (judged : Judged) (answer : ℕ) (a b : Bool) (out out' err err' : Option (List ℕ))
    → (a ≢ true) × ForEnding judged (λ ending. GoesPartly ending out out') → ReportsStop Unwritten answer b err err'
    → IsRefused file reads old new names judged a b err err'
of_output file reads old new names judged answer a b out out' err err' is part =
    record {
      line = unwritten_line;
      is = inr (inr (for_ending judged (λ ending. GoesPartly ending out out') (λ ending. IsLineOf a b ending unwritten_line) (partly_line a b out out' is.0) is.1));
      reported = part.reported;
    }

module _ (file : Contents) (reads : Bool) (old new : Option (List (List ℕ))) (names : List (List ℕ)) (judged : Judged) (answer : ℕ) (a b : Bool)
    (err err' : Option (List ℕ)) (three : answer ≡ 3) where
  -- a fault whose line does not go out
  of_fault : (line : List ℕ) (status : ℕ) → status ≡ 1 → ForEnding judged (λ ending. ending ≡ faulted 1 line) → Writes b err err' line → (b ≡ true → answer ≡ status)
      → IsRefused file reads old new names judged a b err err'
  of_fault line status one is reported sure =
      record {
        line = line;
        is =
            inr (inr (for_ending judged (λ ending. ending ≡ faulted 1 line) (λ ending. IsLineOf a b ending line)
            (λ ending same. rw same (refl, other_status status answer b three sure (λ e. omega (arith, e, one)))) is));
        reported = reported;
      }

  -- refused words whose text does not go out
  refusal_line : (text : List ℕ) → b ≢ true → (ending : Ending) → IsRefusal ending text → IsLineOf a b ending text
  refusal_line text may (refused shown) is = (is, may)
  refusal_line text may (faulted status line) is = absurd is
  refusal_line text may (complete output) is = absurd is
  refusal_line text may (warned output) is = absurd is
  refusal_line text may (managed status line) is = absurd is
  refusal_line text may (broken_off line output) is = absurd is

  of_run : (fault : RunFault) → RunStops judged fault → ReportsStop (Run fault) answer b err err' → IsRefused file reads old new names judged a b err err'
  of_run run.NoMemory is part = of_memory file reads old new names judged a b err err' part.reported
  of_run (run.Topology line cause) is part = of_fault _ _ is.0 is.1 part.reported part.status
  of_run (run.Partitions line cause) is part = of_fault _ _ is.0 is.1 part.reported part.status
  of_run (run.Sweep fault) is part = of_fault _ _ is.0 is.1 part.reported part.status
  of_run (run.NoLegalPath switch node number) is part = of_fault _ _ is.0 is.1 part.reported part.status
  of_run (run.Push fault) is part = of_fault _ _ is.0 is.1 part.reported part.status
  of_run (run.Port cause) is part = of_fault _ _ is.0 is.1 part.reported part.status
  of_run (run.Script line cause) is part = of_fault _ _ is.0 is.1 part.reported part.status
  of_run (run.SecondScript line cause) is part = of_fault _ _ is.0 is.1 part.reported part.status
  of_run run.Read is part = of_fault _ _ is.0 is.1 part.reported part.status
  of_run run.Write is part = of_fault _ _ is.0 is.1 part.reported part.status

  of_stop : (stop : Stop) → Stops judged stop → NamesUnread (Some file) reads old new names stop → ReportsStop stop answer b err err' ⊎ Writes b err err' memory_line
      → IsRefused file reads old new names judged a b err err'
  of_stop stop is unread (inr part) = of_memory file reads old new names judged a b err err' part
  of_stop (Words text) is unread (inl part) =
      record {
        line = line_of (Words text);
        is =
            inr (inr (for_ending judged (λ ending. IsRefusal ending (string_bytes text)) (λ ending. IsLineOf a b ending (string_bytes text))
            (λ ending same. refusal_line (string_bytes text) (other_status 2 answer b three part.status (λ e. omega (arith, e))) ending same) is));
        reported = part.reported;
      }
  of_stop NoMemory is unread (inl part) = of_memory file reads old new names judged a b err err' part.reported
  of_stop (Unread name) is unread (inl part) = record { line = line_of (Unread name); is = inr (inl (name.now, unread, refl)); reported = part.reported }
  of_stop Unwritten is unread (inl part) = absurd is
  of_stop (Run fault) is unread (inl part) = of_run fault is part
  of_stop (Second line cause) is unread (inl part) = of_fault _ 1 refl is part.reported part.status
  of_stop (Unmanaged fault place) is unread (inl part) = absurd is
  of_stop (Unheard name) is unread (inl part) = absurd is
  of_stop Unsent is unread (inl part) = absurd is
  of_stop (Foreign line cause) is unread (inl part) = of_fault _ 1 refl is part.reported part.status

  -- a script's fault whose line does not go out
  broken_line : (stop : Stop) (out out' : Option (List ℕ)) → (b ≡ true → answer ≡ status_of stop) → (ending : Ending) → BreaksOff stop ending out out'
      → IsLineOf a b ending (line_of stop)
  broken_line stop out out' sure (refused shown) is = absurd is
  broken_line stop out out' sure (faulted status line) is = absurd is
  broken_line stop out out' sure (complete output) is = absurd is
  broken_line stop out out' sure (warned output) is = absurd is
  broken_line stop out out' sure (managed status line) is =
      let one : status_of stop ≡ 1 = is.1 in
      inl (is.0, other_status (status_of stop) answer b three sure (λ e. omega (arith, e, one)))
  broken_line stop out out' sure (broken_off line output) is =
      let one : status_of stop ≡ 1 = is.1 in
      inl (is.0, other_status (status_of stop) answer b three sure (λ e. omega (arith, e, one)))

  -- bring-up by SMPs that ends in between
  of_manage : (stop : Stop) → ForEnding judged IsOfManage → (line_of stop ≡ unwritten_line) ⊎ ((name : List ℕ) × (line_of stop ≡ unread_line name))
      → ReportsStop stop answer b err err' → IsRefused file reads old new names judged a b err err'
  of_manage stop is said part =
      record {
        line = line_of stop;
        is = inr (inr (for_ending judged IsOfManage (λ ending. IsLineOf a b ending (line_of stop)) (manage_line a b (line_of stop) said) is));
        reported = part.reported;
      }

  of_either : (stop : Stop) (out out' : Option (List ℕ)) → (Stops judged stop × Keeps out out') ⊎ ForEnding judged (λ ending. BreaksOff stop ending out out')
      → NamesUnread (Some file) reads old new names stop → ReportsStop stop answer b err err' → IsRefused file reads old new names judged a b err err'
  of_either stop out out' (inl is) unread part = of_stop stop is.0 unread (inl part)
  of_either stop out out' (inr is) unread part =
      record {
        line = line_of stop;
        is =
            inr (inr (for_ending judged (λ ending. BreaksOff stop ending out out') (λ ending. IsLineOf a b ending (line_of stop))
            (broken_line stop out out' part.status) is));
        reported = part.reported;
      }

  of_answer : (stop : Stop) (out out' : Option (List ℕ)) → StopsBehind judged stop a out out'
      → NamesUnread (Some file) reads old new names stop → ReportsStop stop answer b err err' ⊎ Writes b err err' memory_line
      → IsRefused file reads old new names judged a b err err'
  of_answer stop out out' is unread (inr part) = of_memory file reads old new names judged a b err err' part
  of_answer (Words text) out out' is unread (inl part) = of_either (Words text) out out' is unread part
  of_answer NoMemory out out' is unread (inl part) = of_memory file reads old new names judged a b err err' part.reported
  of_answer (Unread name) out out' is unread (inl part) = of_stop (Unread name) tt unread (inl part)
  of_answer Unwritten out out' is unread (inl part) = of_output file reads old new names judged answer a b out out' err err' is part
  of_answer (Run fault) out out' is unread (inl part) = of_either (Run fault) out out' is unread part
  of_answer (Second line cause) out out' is unread (inl part) = of_either (Second line cause) out out' is unread part
  of_answer (Unmanaged fault place) out out' is unread (inl part) = of_either (Unmanaged fault place) out out' is unread part
  of_answer (Unheard name) out out' is unread (inl part) = of_manage (Unheard name) is (inr (name.now, refl)) part
  of_answer Unsent out out' is unread (inl part) = of_manage Unsent is (inl refl) part
  of_answer (Foreign line cause) out out' is unread (inl part) = of_either (Foreign line cause) out out' is unread part

-- a call that stops, with its output written as far as it went
pub answer_is_refused : (reported : Option Contents) (reads : Bool) (old new : Option (List (List ℕ))) (names : List (List ℕ)) (judged : Contents → Judged) (stop : Stop) (answer : ℕ) (a b : Bool) (out out' err err' : Option (List ℕ))
    → answer ≡ 3 → IfSome reported (λ file. StopsBehind (judged file) stop a out out') → NamesUnread reported reads old new names stop
    → ReportsStop stop answer b err err' ⊎ Writes b err err' memory_line
    → IfSome reported (λ file. IsRefused file reads old new names (judged file) a b err err')
answer_is_refused None reads old new names judged stop answer a b out out' err err' three is unread part = tt
answer_is_refused (Some file) reads old new names judged stop answer a b out out' err err' three is unread part =
    of_answer file reads old new names (judged file) answer a b err err' three stop out out' is unread part
