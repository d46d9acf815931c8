-- Lines that are taken one after the other.
use Rattle.std.proofs.Common.{ℕ, true, ◌==◌, ◌+◌, ◌≡◌, ◌∙◌, ap, refl, sym, subst, arith, List, [], ◌∷◌, ◌++◌, length, length-append, Option, Some, None, Result, Ok, Err}
use Rattle.std.specs.Prelude.{OnOk}
use Rattle.std.proofs.lemmas.Bool.Decides.{nat_tests}
use Rattle.std.proofs.lemmas.Grind.{flat_map-append}
use Rattle.step_results.specs.AtLine.{AtLine}
use Rattle.script_lines.specs.declared.script_cause.ScriptCause.{ScriptCause}
use Rattle.subnet_model.specs.Report.{events_from, state_from}
use Rattle.subnet_core.proofs.LineCommandLemmas.{commands_begin, events_on, faulty_on, sound_on, states_on}
use Rattle.subnet_core.proofs.PartLemmas.{parts_on}
use Rattle.subnet_core.proofs.PutLemmas.{puts_nothing, puts_on, puts_some_of, puts_some_on}
use Rattle.subnet_core.specs.Stream.{commands_before_fault}
use Rattle.subnet_core.specs.StreamSteps.{first_fault}
use Rattle.subnet_core.specs.StreamSteps.{PutsSome, begun_by_parts, lines_of_parts, rest_of}
use Rattle.subnet_core.specs.BringUp.{SubnetState}
use Rattle.subnet_core.specs.declared.fault.RunFault.{RunFault}
use Rattle.subnet_core.specs.declared.fault.RunFault.TheVariants.{NoMemory, Topology, Partitions, Sweep, NoLegalPath, Push, Port, Script, SecondScript, Read, Write}
use Rattle.sa_replies.specs.Answer.{Administration}
use Rattle.sa_replies.specs.Administration.{subnet_administration}
use Rattle.subnet_model.specs.Configuration.{ConfigurationState}
use Rattle.subnet_model.specs.Report.{step_by}
use Rattle.subnet_model.specs.declared.command.Command.{Command}
use Rattle.subnet_model.specs.declared.event.PortEvent.{PortEvent}
use Rattle.subnet_core.specs.StreamSteps.{Carries, StreamState, Takes, reported_from}
use Rattle.subnet_core.specs.EventLines.{line_text, report_text}

abbrev stepping : ConfigurationState → Administration → Command → List PortEvent × Administration
stepping configuration = step_by subnet_administration configuration

-- ---- what lines report, one part of them and then another
module _ (was : SubnetState) (first second : List (List ℕ)) where
  more_reported : (number : ℕ) → first_fault was.inventory.plan number first ≡ None → (next : SubnetState) → next.inventory ≡ was.inventory
      → next.administration ≡ state_from (stepping was.inventory.configuration) was.administration (commands_before_fault was.inventory.plan first)
      → reported_from was (first ++ second) ≡ reported_from was first ++ reported_from next second
  more_reported number sound next inventory administration =
      let plan = was.inventory.plan in
      let step = stepping was.inventory.configuration in
      let commands = commands_before_fault plan first in
      let others = commands_before_fault plan second in
      rw (inventory, administration)
      (ap (λ all. report_text was.inventory.configuration.ports (events_from step was.administration all)) (sound_on plan number first second sound).0
      ∙ ap (report_text was.inventory.configuration.ports) (events_on step was.administration commands others)
      ∙ flat_map-append (line_text was.inventory.configuration.ports) (events_from step was.administration commands) (events_from step (state_from step was.administration commands) others))

  begins_reported : (more : List ℕ) × (reported_from was (first ++ second) ≡ reported_from was first ++ more)
  begins_reported =
      let plan = was.inventory.plan in
      let step = stepping was.inventory.configuration in
      let begun = commands_begin plan first second in
      let state = state_from step was.administration (commands_before_fault plan first) in (
        report_text was.inventory.configuration.ports (events_from step state begun.0),
        ap (λ all. report_text was.inventory.configuration.ports (events_from step was.administration all)) begun.1
            ∙ ap (report_text was.inventory.configuration.ports) (events_on step was.administration (commands_before_fault plan first) begun.0)
            ∙ flat_map-append (line_text was.inventory.configuration.ports) (events_from step was.administration (commands_before_fault plan first)) (events_from step state begun.0),
      )

  same_reported : (number : ℕ) (at : AtLine ScriptCause) → first_fault was.inventory.plan number first ≡ Some at
      → reported_from was (first ++ second) ≡ reported_from was first
  same_reported number at faulty =
      ap (λ all. report_text was.inventory.configuration.ports (events_from (stepping was.inventory.configuration) was.administration all)) (faulty_on was.inventory.plan number first second at faulty).0

-- ---- nothing
pub takes_nothing : (was : StreamState) (known : Option (List ℕ)) → Carries [] was was known known
unfolding commands_before_fault first_fault
takes_nothing was known = record {
  puts = puts_nothing was.text known;
  inventory = refl;
  administration = refl;
  taken = omega arith;
  sound = refl;
}

pub takes_none : (begun : List ℕ) (was : StreamState) (known : Option (List ℕ)) → true ≡ (length begun == 0) → Carries (rest_of begun) was was known known
takes_none [] was known none = takes_nothing was known
takes_none (byte ∷ begun) was known none = absurd (grind (arith, nat_tests, none))

pub not_begun : (begun : List ℕ) → true ≡ (length begun == 0) → begun ≡ []
not_begun [] none = refl
not_begun (byte ∷ begun) none = absurd (grind (arith, nat_tests, none))

pub on_ok : {X E P : Type 0} (answer : Result X E) → P → OnOk answer P
on_ok (Ok x) p = p
on_ok (Err error) p = tt

module _ (first second : List (List ℕ)) (was between left : StreamState) (old middle new : Option (List ℕ)) where
  -- ---- lines that are carried out, and then others
  module _ (one : Carries first was between old middle) where
    reported : reported_from was.subnet (first ++ second) ≡ reported_from was.subnet first ++ reported_from between.subnet second
    reported = more_reported was.subnet first second (was.taken + 1) one.sound between.subnet one.inventory one.administration

    counted : (was.taken + 1) + length first ≡ between.taken + 1
    counted = rw one.taken (omega arith)

    -- the fault of the others is that of all
    faults : first_fault was.subnet.inventory.plan (was.taken + 1) (first ++ second) ≡ first_fault between.subnet.inventory.plan (between.taken + 1) second
    faults =
        (sound_on was.subnet.inventory.plan (was.taken + 1) first second one.sound).1
        ∙ rw (one.inventory, counted) refl

    pub carries_on : Carries second between left middle new → Carries (first ++ second) was left old new
    carries_on two = record {
      puts = rw reported (puts_on (reported_from was.subnet first) (reported_from between.subnet second) was.text between.text left.text old middle new one.puts two.puts);
      inventory = two.inventory ∙ one.inventory;
      administration =
          two.administration
          ∙ rw (one.inventory, one.administration)
          (sym (ap (state_from (stepping was.subnet.inventory.configuration) was.subnet.administration) (sound_on was.subnet.inventory.plan (was.taken + 1) first second one.sound).0
          ∙ states_on (stepping was.subnet.inventory.configuration) was.subnet.administration (commands_before_fault was.subnet.inventory.plan first) (commands_before_fault was.subnet.inventory.plan second)));
      taken = let n = one.taken in let m = two.taken in let l = length-append first second in omega (arith, n, m, l);
      sound = faults ∙ two.sound;
    }

    some_on : PutsSome (reported_from between.subnet second) between.text left.text middle new
        → PutsSome (reported_from was.subnet (first ++ second)) was.text left.text old new
    some_on two = rw reported (puts_some_on (reported_from was.subnet first) (reported_from between.subnet second) was.text between.text left.text old middle new one.puts two)

    pub takes_on : {X : Type 0} (answer : Result X RunFault) → Takes second answer between left middle new → Takes (first ++ second) answer was left old new
    takes_on (Ok done) two = carries_on two
    takes_on (Err (Script line cause)) two =
        (faults ∙ two.0, rw reported (puts_on (reported_from was.subnet first) (reported_from between.subnet second) was.text between.text left.text old middle new one.puts two.1))
    takes_on (Err NoMemory) two = some_on two
    takes_on (Err Write) two = some_on two
    takes_on (Err Read) two = absurd two
    takes_on (Err (Topology line cause)) two = absurd two
    takes_on (Err (Partitions line cause)) two = absurd two
    takes_on (Err (Sweep fault)) two = absurd two
    takes_on (Err (NoLegalPath switch node number)) two = absurd two
    takes_on (Err (Push fault)) two = absurd two
    takes_on (Err (Port cause)) two = absurd two
    takes_on (Err (SecondScript line cause)) two = absurd two

-- ---- lines that are not carried out whole: of those behind them nothing is taken
module _ (first second : List (List ℕ)) (was left : StreamState) (old new : Option (List ℕ)) where
  some_of : PutsSome (reported_from was.subnet first) was.text left.text old new → PutsSome (reported_from was.subnet (first ++ second)) was.text left.text old new
  some_of some =
      let begun = begins_reported was.subnet first second in
      rw begun.1 (puts_some_of (reported_from was.subnet first) begun.0 was.text left.text old new some)

  pub takes_no_more : (X Y : Type 0) (fault : RunFault) → let answer : Result X RunFault = Err fault in Takes first answer was left old new
      → let ends : Result Y RunFault = Err fault in Takes (first ++ second) ends was left old new
  takes_no_more X Y (Script line cause) one = (
    (faulty_on was.subnet.inventory.plan (was.taken + 1) first second _ one.0).1,
    rw (same_reported was.subnet first second (was.taken + 1) _ one.0) one.1,
  )
  takes_no_more X Y NoMemory one = some_of one
  takes_no_more X Y Write one = some_of one
  takes_no_more X Y Read one = absurd one
  takes_no_more X Y (Topology line cause) one = absurd one
  takes_no_more X Y (Partitions line cause) one = absurd one
  takes_no_more X Y (Sweep fault) one = absurd one
  takes_no_more X Y (NoLegalPath switch node number) one = absurd one
  takes_no_more X Y (Push fault) one = absurd one
  takes_no_more X Y (Port cause) one = absurd one
  takes_no_more X Y (SecondScript line cause) one = absurd one

-- ---- a part of a piece, behind lines that are carried out
pub part_stops : (X Y : Type 0) (fault : RunFault) (all done : List (List ℕ)) (begun part : List ℕ) (left rest : List (List ℕ)) (was between after : StreamState) (old middle new : Option (List ℕ))
    → all ≡ done ++ lines_of_parts begun left → left ≡ part ∷ rest → Carries done was between old middle
    → let answer : Result X RunFault = Err fault in Takes (lines_of_parts begun (part ∷ [])) answer between after middle new
    → let ends : Result Y RunFault = Err fault in Takes all ends was after old new
part_stops X Y fault all done begun part left rest was between after old middle new cut first carries stops =
    let ends : Result Y RunFault = Err fault in
    let more = lines_of_parts (begun_by_parts begun (part ∷ [])) rest in
    let same : all ≡ done ++ (lines_of_parts begun (part ∷ []) ++ more) =
    cut ∙ rw first (ap (λ lines. done ++ lines) (parts_on begun part rest).0) in
    subst (λ lines. Takes lines ends was after old new) (sym same)
    (takes_on done (lines_of_parts begun (part ∷ []) ++ more) was between after old middle new carries ends
    (takes_no_more (lines_of_parts begun (part ∷ [])) more between after middle new X Y fault stops))
