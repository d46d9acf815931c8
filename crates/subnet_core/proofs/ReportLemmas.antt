-- Events that are reported one after the other.
use Rattle.std.proofs.Common.{ℕ, ◌+◌, ◌<◌, ◌≡◌, ◌∙◌, ap, refl, sym, subst, false, List, [], ◌∷◌, ◌++◌, drop, get_or, length, map, Option, Result, Ok, Err}
use Rattle.std.specs.Prelude.{OnOk, is_err}
use Rattle.std.proofs.lemmas.List.{drop_more}
use Rattle.subnet_model.specs.declared.subnet_port.SubnetPort.{SubnetPort}
use Rattle.subnet_fabric.specs.Sends.{event_of}
use Rattle.subnet_fabric.specs.declared.event.Event.{Event}
use Rattle.subnet_core.specs.EventLines.{line_text, report_text}
use Rattle.subnet_core.proofs.PutLemmas.{loses_all, puts_behind, puts_on, puts_some_of, puts_some_on}
use Rattle.subnet_core.specs.StreamSteps.{Puts, PutsSome}
use Rattle.subnet_core.specs.StreamSteps.{StreamState, Reports}
use Rattle.subnet_core.specs.declared.fault.RunFault.{RunFault}
use Rattle.subnet_core.specs.declared.fault.RunFault.TheVariants.{NoMemory, Topology, Partitions, Sweep, NoLegalPath, Push, Port, Script, SecondScript, Read, Write}

pub ok_holds : {X E P : Type 0} (answer : Result X E) → false ≡ is_err answer → OnOk answer P → P
ok_holds (Ok x) is p = p
ok_holds (Err error) is p = absurd cc

-- one line, behind what waits once there is room
pub puts_line : (reported text between after : List ℕ) (old new : Option (List ℕ)) → Puts [] text between old new → after ≡ between ++ reported → Puts reported text after old new
puts_line reported text between after old new room is = rw is (puts_on [] reported text between (between ++ reported) old new new room (puts_behind reported between new))

pub loses_line : (reported text between after : List ℕ) (old new : Option (List ℕ)) → Puts [] text between old new → after ≡ [] → PutsSome reported text after old new
loses_line reported text between after old new room is = rw is (puts_some_on [] reported text between [] old new new room (loses_all reported between new))

-- what cannot be reported leaves no more to report
module _ (first more : List ℕ) (was left : StreamState) (old new : Option (List ℕ)) where
  pub reports_no_more : (X Y : Type 0) (fault : RunFault) → let answer : Result X RunFault = Err fault in Reports first answer was left old new
      → let ends : Result Y RunFault = Err fault in Reports (first ++ more) ends was left old new
  reports_no_more X Y NoMemory reports = puts_some_of first more was.text left.text old new reports
  reports_no_more X Y Write reports = puts_some_of first more was.text left.text old new reports
  reports_no_more X Y (Script line cause) reports = absurd reports
  reports_no_more X Y (Topology line cause) reports = absurd reports
  reports_no_more X Y (Partitions line cause) reports = absurd reports
  reports_no_more X Y (Sweep fault) reports = absurd reports
  reports_no_more X Y (NoLegalPath switch node number) reports = absurd reports
  reports_no_more X Y (Push fault) reports = absurd reports
  reports_no_more X Y (Port cause) reports = absurd reports
  reports_no_more X Y (SecondScript line cause) reports = absurd reports
  reports_no_more X Y Read reports = absurd reports

-- behind what was reported
module _ (so_far reported : List ℕ) (was between left : StreamState) (old middle new : Option (List ℕ)) (puts : Puts so_far was.text between.text old middle) where
  pub reports_behind : (X Y : Type 0) (fault : RunFault) → let answer : Result X RunFault = Err fault in Reports reported answer between left middle new
      → let ends : Result Y RunFault = Err fault in Reports (so_far ++ reported) ends was left old new
  reports_behind X Y NoMemory reports = puts_some_on so_far reported was.text between.text left.text old middle new puts reports
  reports_behind X Y Write reports = puts_some_on so_far reported was.text between.text left.text old middle new puts reports
  reports_behind X Y (Script line cause) reports = absurd reports
  reports_behind X Y (Topology line cause) reports = absurd reports
  reports_behind X Y (Partitions line cause) reports = absurd reports
  reports_behind X Y (Sweep fault) reports = absurd reports
  reports_behind X Y (NoLegalPath switch node number) reports = absurd reports
  reports_behind X Y (Push fault) reports = absurd reports
  reports_behind X Y (Port cause) reports = absurd reports
  reports_behind X Y (SecondScript line cause) reports = absurd reports
  reports_behind X Y Read reports = absurd reports

-- ---- of several events one more
module _ (ports : List SubnetPort) (events : List Event) (place : ℕ) (event : Event) (within : place < length events) (is : event ≡ get_or events place event) where
  first_left : drop place events ≡ event ∷ drop (place + 1) events
  first_left = drop_more events place event within ∙ ap (λ first. first ∷ drop (place + 1) events) (sym is)

  pub more_reported : (all reported : List ℕ) → all ≡ reported ++ report_text ports (map event_of (drop place events))
      → all ≡ reported ++ (line_text ports (event_of event) ++ report_text ports (map event_of (drop (place + 1) events)))
  more_reported all reported cut = cut ∙ rw first_left refl

pub reports_stop : (X Y : Type 0) (fault : RunFault) (all so_far line reported rest : List ℕ) (was between left : StreamState) (old middle new : Option (List ℕ))
    → all ≡ so_far ++ (line ++ rest) → reported ≡ line → Puts so_far was.text between.text old middle
    → let answer : Result X RunFault = Err fault in Reports reported answer between left middle new
    → let ends : Result Y RunFault = Err fault in Reports all ends was left old new
reports_stop X Y fault all so_far line reported rest was between left old middle new same is puts reports =
    let ends : Result Y RunFault = Err fault in
    let answer : Result X RunFault = Err fault in
    let one = subst (λ text. Reports text answer between left middle new) is reports in
    subst (λ text. Reports text ends was left old new) (sym same)
    (reports_behind so_far (line ++ rest) was between left old middle new puts X Y fault (reports_no_more line rest between left middle new X X fault one))
