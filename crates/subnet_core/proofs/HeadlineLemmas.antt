-- A run that is answered keeps partitions apart.
use Rattle.std.proofs.Common.{◌≡◌, ◌==◌, ◌&&◌, ◌∙◌, ℕ, Bool, true, false, List, [], ◌∷◌, ◌++◌, filter, map, Option, Some, None, Result, Ok, Err, IfOk, refl, sym, ap, subst}
use Rattle.std.specs.List.{AllByRecursion, list_all}
use Rattle.std.proofs.lemmas.Bool.{and_from, and_parts, eqb-true}
use Rattle.std.proofs.lemmas.Map.Views.{any-filter_same}
use Rattle.step_results.proofs.ListLemmas.{any_map}
use Rattle.topo_file.specs.Topology.{TopologyState, topology_of}
use Rattle.partition_file.specs.declared.partition.Partition.{Partition}
use Rattle.subnet_model.proofs.IsolationLemmas.{slids_name_their_ports}
use Rattle.subnet_model.specs.Configuration.{ConfigurationState}
use Rattle.subnet_model.specs.Isolation.{DependsOnNear}
use Rattle.subnet_model.specs.Near.{is_near}
use Rattle.subnet_model.specs.Report.{report_by}
use Rattle.subnet_model.specs.Restriction.{events_at}
use Rattle.subnet_model.specs.Source.{HaveSlidsNear}
use Rattle.sa_replies.specs.Administration.{subnet_administration}
use Rattle.subnet_model.specs.declared.event.PortEvent.{PortEvent}
use Rattle.subnet_model.specs.declared.subnet_port.SubnetPort.{SubnetPort}
use Rattle.sa_replies.specs.Sources.{bytes_from_near}
use Rattle.sa_replies.proofs.ApartLemmas.{runs_are_isolated}
use Rattle.sa_replies.proofs.NamedRunLemmas.{runs_name_sources}
use Rattle.sa_replies.proofs.RunSourceLemmas.{notes_stand_beside_runs, records_come_from_near}
use Rattle.sa_replies.specs.RunSources.{NotedEvent, noted_in, noted_report}
use Rattle.subnet_model.specs.declared.command.Command.{Command}
use Rattle.subnet_core.specs.BringUp.{Becomes}
use Rattle.subnet_core.specs.Fate.{Answers, up_from}
use Rattle.subnet_core.specs.declared.fault.RunFault.{RunFault}
use Rattle.subnet_core.specs.Headline.{KeepsPartitionsApart, RecordsComeFromNear}
use Rattle.subnet_core.specs.Laws.{NearIsListed, StreamsKeepPartitionsApart, TwoRunsAgree}
use Rattle.subnet_core.specs.Stream.{commands_before_fault}
use Rattle.subnet_core.specs.Inventory.{GiveInventories, InventoryState, partitions_for, inventory_of, inventoried, inventory_by}
use Rattle.subnet_core.specs.Run.{ReportState, report_of, reported_of}
use Rattle.script_lines.specs.Script.{commands_in}
use Rattle.subnet_fabric.specs.Ports.{configuration_of, ports_of}
use Rattle.subnet_model.specs.Configured.{IsConfigured}
use Rattle.subnet_core.proofs.AnswerLemmas.{inventory_is_configured}
use Rattle.subnet_core.proofs.BringUpLemmas.{lids_in_order}
use Rattle.subnet_core.proofs.CarryLemmas.{commands_carry_bytes, lines_carry_bytes}
use Rattle.sa_replies.proofs.RunDataLemmas.{data_of_runs_is_noted}
use Rattle.sa_replies.specs.RunData.{CarriesBytes}
use Rattle.subnet_fabric.proofs.LidLemmas.{own_lids}
use Rattle.updn_routes.specs.declared.tie_rule.TieRule.TheVariants.{LeastPort}

-- the inventory of texts that are accepted
inventories : (topology : List ℕ) (partitions : Option (List ℕ)) (plan : TopologyState) (all : List Partition) → topology_of topology ≡ Ok plan
    → partitions_for partitions ≡ Ok all → inventory_of topology partitions ≡ Ok (inventoried LeastPort plan all)
unfolding inventory_by
inventories topology partitions plan all e p = rw (e, p) refl

-- a run that is answered is not stopped, and reports what its commands bring about
reported : (topology script : List ℕ) (partitions : Option (List ℕ)) (stop : Option RunFault) (r : ReportState) (plan : TopologyState) (all : List Partition) (commands : List Command)
    → inventory_of topology partitions ≡ Ok (inventoried LeastPort plan all) → commands_in plan script ≡ Ok commands
    → report_of topology partitions script stop ≡ Ok r → reported_of (configuration_of all plan) commands ≡ r
unfolding report_of up_from
reported topology script partitions None r plan all commands is f h =
    let here : Result ReportState RunFault = Ok (reported_of (configuration_of all plan) commands) in
    let there : Result ReportState RunFault = Ok r in
    let done : here ≡ there = rw (is, f) at h in
    cc
reported topology script partitions (Some fault) r plan all commands is f h =
    let here : Result ReportState RunFault = Err fault in
    let there : Result ReportState RunFault = Ok r in
    let done : here ≡ there = rw is at h in
    absurd cc

-- what is noted of all events is noted of those at one port
noted_at_port : (ports : List SubnetPort) (p : ℕ) (noted : List NotedEvent)
    → list_all (λ one. bytes_from_near ports one.event.port_guid (noted_in one.noted)) noted ≡ true
    → list_all (λ one. bytes_from_near ports p (noted_in one.noted)) (filter (λ one. one.event.port_guid == p) noted) ≡ true
noted_at_port ports p [] all = refl
noted_at_port ports p (one ∷ noted) all = by (one.event.port_guid == p) refl (λ later. noted_at_port ports p noted later)
  where
    parts : (bytes_from_near ports one.event.port_guid (noted_in one.noted) ≡ true)
        × (list_all (λ one. bytes_from_near ports one.event.port_guid (noted_in one.noted)) noted ≡ true)
    parts = and_parts (bytes_from_near ports one.event.port_guid (noted_in one.noted)) _ all

    by : (b : Bool) → (one.event.port_guid == p) ≡ b
        → (list_all (λ one. bytes_from_near ports one.event.port_guid (noted_in one.noted)) noted ≡ true
        → list_all (λ one. bytes_from_near ports p (noted_in one.noted)) (filter (λ one. one.event.port_guid == p) noted) ≡ true)
        → list_all (λ one. bytes_from_near ports p (noted_in one.noted)) (filter (λ one. one.event.port_guid == p) (one ∷ noted)) ≡ true
    by false other later = rw other (later parts.1)
    by true same later =
        let here : bytes_from_near ports p (noted_in one.noted) ≡ true =
        ap (λ (guid : ℕ). bytes_from_near ports guid (noted_in one.noted)) (sym (eqb-true one.event.port_guid p same)) ∙ parts.0 in
        rw same (and_from (bytes_from_near ports p (noted_in one.noted)) _ here (later parts.1))

-- what all commands have, the one between others has
has_between : (P : Command → Type 0) (before after : List Command) (command : Command) → AllByRecursion P (before ++ (command ∷ after)) → P command
has_between P [] after command all = all.0
has_between P (one ∷ before) after command all = has_between P before after command all.1

records_are : (configuration : ConfigurationState) (p : ℕ) (commands : List Command) (events : List PortEvent) → IsConfigured configuration
    → AllByRecursion CarriesBytes commands → events ≡ (reported_of configuration commands).events → RecordsComeFromNear configuration p commands events
records_are configuration p commands events configured carry same = record {
  beside = (notes_stand_beside_runs configuration commands).events ∙ sym same;
  whole = λ before after command is. data_of_runs_is_noted configuration before command configured
      (has_between CarriesBytes before after command (subst (AllByRecursion CarriesBytes) (sym is) carry));
  near = noted_at_port configuration.ports p (noted_report configuration commands) (records_come_from_near configuration commands).events;
  named = runs_name_sources configuration commands;
}

-- and that is isolated
pub kept_apart : (topology script : List ℕ) (partitions : Option (List ℕ)) (stop : Option RunFault) (r : ReportState) → report_of topology partitions script stop ≡ Ok r
    → GiveInventories topology partitions → KeepsPartitionsApart topology partitions script r.events
kept_apart topology script partitions stop r h given = λ plan all commands e p f q.
    let are = inventories topology partitions plan all e p in
    let is = given (inventoried LeastPort plan all) are in
    let same : reported_of (configuration_of all plan) commands ≡ r = reported topology script partitions stop r plan all commands are f h in
    let events = ap (λ (t : ReportState). t.events) (sym same) in
    let apart =
    subst (λ (some : List PortEvent). DependsOnNear subnet_administration (configuration_of all plan) q commands some
    × HaveSlidsNear (ports_of all plan) q some) (sym events) (runs_are_isolated (configuration_of all plan) commands q) in
    let own = own_lids 1 (ports_of all plan) (lids_in_order (inventoried LeastPort plan all) is) in (
      apart.0,
      slids_name_their_ports (ports_of all plan) q r.events own apart.1,
      records_are (configuration_of all plan) q commands r.events (inventory_is_configured (inventoried LeastPort plan all) is) (commands_carry_bytes plan script commands f) events,
    )

pub answered_apart : (topology script : List ℕ) (partitions : Option (List ℕ)) (result : Result ReportState RunFault)
    → Answers (λ (r : ReportState). r) result (Becomes (inventory_of topology partitions)) (report_of topology partitions script)
    → IfOk result (λ r. GiveInventories topology partitions) → IfOk result (λ r. KeepsPartitionsApart topology partitions script r.events)
answered_apart topology script partitions (Ok r) h given = kept_apart topology script partitions h.stop r h.is given
answered_apart topology script partitions (Err fault) h given = tt

pub streams_keep_partitions_apart : StreamsKeepPartitionsApart
streams_keep_partitions_apart inventory is taken p =
    let commands = commands_before_fault inventory.plan taken in
    let events = (reported_of inventory.configuration commands).events in
    let apart = runs_are_isolated inventory.configuration commands p in
    let own = own_lids 1 inventory.configuration.ports (lids_in_order inventory is) in (
      apart.0,
      slids_name_their_ports inventory.configuration.ports p events own apart.1,
      records_are inventory.configuration p commands events (inventory_is_configured inventory is) (lines_carry_bytes inventory.plan taken) refl,
    )

-- ---- two scripts
-- a run that is answered is not stopped, and reports what its commands bring about
answered : (topology script : List ℕ) (partitions : Option (List ℕ)) (inventory : InventoryState) (stop : Option RunFault) (r : ReportState) (commands : List Command)
    → inventory_of topology partitions ≡ Ok inventory → commands_in inventory.plan script ≡ Ok commands → report_of topology partitions script stop ≡ Ok r
    → r ≡ reported_of inventory.configuration commands
unfolding report_of up_from
answered topology script partitions inventory None r commands is f h =
    let here : Result ReportState RunFault = Ok (reported_of inventory.configuration commands) in
    let there : Result ReportState RunFault = Ok r in
    let done : here ≡ there = rw (is, f) at h in
    cc
answered topology script partitions inventory (Some fault) r commands is f h =
    let here : Result ReportState RunFault = Err fault in
    let there : Result ReportState RunFault = Ok r in
    let done : here ≡ there = rw is at h in
    absurd cc

pub two_runs_agree : TwoRunsAgree
two_runs_agree topology partitions inventory first second one other commands others report another p is reads reads_too same gives gives_too =
    let configuration = inventory.configuration in
    ap (λ (r : ReportState). events_at p r.events) (answered topology first partitions inventory one report commands is reads gives)
    ∙ (runs_are_isolated configuration commands p).0
    ∙ ap (λ (near : List Command). events_at p (report_by subnet_administration configuration near)) same
    ∙ sym (runs_are_isolated configuration others p).0
    ∙ ap (λ (r : ReportState). events_at p r.events) (sym (answered topology second partitions inventory other another others is reads_too gives_too))

pub near_is_listed : NearIsListed
near_is_listed ports p q =
    any-filter_same (λ guid. guid == q) (λ guid. is_near ports p guid) (is_near ports p q) (λ guid same. ap (λ (n : ℕ). is_near ports p n) (eqb-true guid q same))
    (map (λ port. port.guid) ports)
    ∙ ap (λ (found : Bool). is_near ports p q && found) (any_map (λ (guid : ℕ). guid == q) (λ (port : SubnetPort). port.guid) ports)
