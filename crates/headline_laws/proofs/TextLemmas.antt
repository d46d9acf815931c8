-- Two scripts of which the same is left have the same commands of ports near the port, so their runs print the same lines of it.
use Rattle.std.proofs.Common.{ℕ, ◌≡◌, ◌∙◌, ap, refl, sym, List, Option, Some, None, Result, Ok, Err, [], subst}
use Rattle.fabric_cli.proofs.PrintedLemmas.{printed_lines_keep_partitions_apart}
use Rattle.fabric_cli.specs.Printed.{lines_at, near_commands}
use Rattle.fabric_cli.specs.Serving.{complete, output_in, run_in, script_reported, shares_in, shares_reported}
use Rattle.headline_laws.proofs.LargeLemmas.{found_topology, large_inventory}
use Rattle.headline_laws.proofs.LeftLemmas.{all_are_read, near_of, near_of_left}
use Rattle.headline_laws.proofs.PortNameLemmas.{IsPortOf, asked_text}
use Rattle.headline_laws.specs.Texts.{RunsKeepTextsApart, left_of, lines_of, printed}
use Rattle.partition_file.specs.declared.partition.Partition.{Partition}
use Rattle.partition_reports.specs.Shares.{shares_text}
use Rattle.script_lines.specs.NamedPort.{named_port}
use Rattle.script_lines.specs.declared.script_cause.ScriptCause.{ScriptCause}
use Rattle.step_results.proofs.StepLemmas.{bind_ok, same_ok}
use Rattle.step_results.specs.AtLine.{AtLine}
use Rattle.step_results.specs.Steps.{◌>>=◌}
use Rattle.subnet_core.specs.BringUp.{stop_of}
use Rattle.subnet_core.specs.Fate.{up_from}
use Rattle.subnet_core.specs.Inventory.{InventoryState, inventory_by, inventory_of, large_inventory_of, of_text, partitions_for}
use Rattle.subnet_core.specs.Stream.{commands_before_fault, judged, reported_of_lines}
use Rattle.subnet_core.specs.declared.fault.RunFault.TheVariants.{Topology}
use Rattle.subnet_core.specs.declared.fault.RunFault.{RunFault}
use Rattle.subnet_fabric.specs.Ports.{ports_of}
use Rattle.subnet_model.specs.Delivery.{port_with_guid}
use Rattle.subnet_model.specs.Near.{is_near}
use Rattle.subnet_model.specs.Restriction.{commands_of}
use Rattle.subnet_model.specs.declared.command.Command.{Command}
use Rattle.subnet_model.specs.declared.subnet_port.SubnetPort.{SubnetPort}
use Rattle.text_words.specs.Lines.{lines}
use Rattle.topo_file.proofs.TopologyLemmas.{topology_is_sound}
use Rattle.topo_file.specs.Sound.{IsSound}
use Rattle.topo_file.specs.Topology.{TopologyState, topology_of}

-- ---- a run that ends with status 0
record Ran (inventory : InventoryState) (script output : List ℕ) : Type 0 where
  commands : List Command
  reads : judged inventory.plan (lines script) ≡ Ok commands
  report : reported_of_lines inventory (lines script) ≡ output

whole_output : (output other : List ℕ) → complete output ≡ complete other → output ≡ other
whole_output output other is = ap output_in is

ran : (inventory : InventoryState) (script output : List ℕ) → run_in (Ok inventory) script ≡ complete output → Ran inventory script output
ran inventory script output is = by (judged inventory.plan (lines script)) refl is
  where
    by : (found : Result (List Command) (AtLine ScriptCause)) → judged inventory.plan (lines script) ≡ found
        → script_reported (reported_of_lines inventory (lines script)) found ≡ complete output → Ran inventory script output
    by (Ok commands) reads is = record { commands = commands; reads = reads; report = whole_output _ output is }
    by (Err at) reads is = absurd cc

module _ (topology : List ℕ) (partitions : Option (List ℕ)) where
  -- its texts are a subnet
  record IsSubnet : Type 0 where
    inventory : InventoryState
    is : inventory_of topology partitions ≡ Ok inventory
    sound : IsSound inventory.plan
    all : List Partition
    ports : inventory.configuration.ports ≡ ports_of all inventory.plan

  is_subnet : (inventory : InventoryState) → inventory_of topology partitions ≡ Ok inventory → IsSubnet
  unfolding inventory_by
  is_subnet inventory is =
      let plan = bind_ok (of_text Topology (topology_of topology)) _ inventory is in
      let all = bind_ok (partitions_for partitions) _ inventory plan.2 in
      let same = same_ok _ inventory all.2 in
      let plans : plan.0 ≡ inventory.plan = ap (λ (one : InventoryState). one.plan) same in
      record {
        inventory = inventory;
        is = is;
        sound = subst IsSound plans (topology_is_sound topology plan.0 (found_topology topology plan.0 plan.1));
        all = all.0;
        ports = sym (ap (λ (one : InventoryState). one.configuration.ports) same) ∙ ap (ports_of all.0) plans;
      }

  came_up : (stop : Option RunFault) (script output : List ℕ) → run_in (up_from (inventory_of topology partitions) stop) script ≡ complete output
      → (inventory : InventoryState) × (inventory_of topology partitions ≡ Ok inventory) × (run_in (Ok inventory) script ≡ complete output)
  unfolding up_from
  came_up stop script output is = by (inventory_of topology partitions) refl stop is
    where
      by : (given : Result InventoryState RunFault) → inventory_of topology partitions ≡ given → (stop : Option RunFault) → run_in (up_from given stop) script ≡ complete output
          → (inventory : InventoryState) × (inventory_of topology partitions ≡ Ok inventory) × (run_in (Ok inventory) script ≡ complete output)
      by (Ok inventory) e None is = (inventory, e, is)
      by (Ok inventory) e (Some fault) is = absurd cc
      by (Err fault) e stop is = absurd cc

  ran_on : (inventory : InventoryState) (stop : Option RunFault) (script output : List ℕ) → inventory_of topology partitions ≡ Ok inventory
      → run_in (up_from (inventory_of topology partitions) stop) script ≡ complete output → Ran inventory script output
  ran_on inventory stop script output is runs =
      let up = came_up stop script output runs in
      ran inventory script output (ap (λ (one : InventoryState). run_in (Ok one) script) (same_ok inventory up.0 (sym is ∙ up.1)) ∙ up.2)

  -- what it prints
  prints : (inventory : InventoryState) (script output : List ℕ) → inventory_of topology partitions ≡ Ok inventory → Ran inventory script output
      → output_in (run_in (up_from (inventory_of topology partitions) None) script) ≡ output
  unfolding up_from
  prints inventory script output is one =
      ap (λ (given : Result InventoryState RunFault). output_in (run_in (up_from given None) script)) is
      ∙ ap (λ (found : Result (List Command) (AtLine ScriptCause)). output_in (script_reported (reported_of_lines inventory (lines script)) found)) one.reads
      ∙ one.report

  -- ---- `shares` for a port
  record Shown (inventory : InventoryState) (name shown : List ℕ) : Type 0 where
    guid : ℕ
    named : named_port inventory.plan name ≡ Ok guid
    text : shares_text (Some guid) inventory.configuration.ports ≡ shown

  shown_for : (inventory : InventoryState) (name shown : List ℕ) → inventory_of topology partitions ≡ Ok inventory
      → shares_in (large_inventory_of topology partitions) (Some name) ≡ complete shown → Shown inventory name shown
  shown_for inventory name shown is shows =
      let here : shares_in (Ok inventory) (Some name) ≡ complete shown =
      ap (λ (given : Result InventoryState RunFault). shares_in given (Some name)) (sym (large_inventory topology partitions inventory is)) ∙ shows in
      by (named_port inventory.plan name) refl here
    where
      by : (found : Result ℕ ScriptCause) → named_port inventory.plan name ≡ found
          → shares_reported inventory.configuration (found >>= λ guid. Ok (Some guid)) ≡ complete shown → Shown inventory name shown
      by (Ok guid) named shows = record { guid = guid; named = named; text = whole_output _ shown shows }
      by (Err cause) named shows = absurd cc

  -- ---- both runs
  module _ (subnet : IsSubnet) (word shown : List ℕ) (of : Shown subnet.inventory word shown) where
    abbrev name : List ℕ
    name = printed word

    abbrev plan : TopologyState
    plan = subnet.inventory.plan

    own : IsPortOf (ports_of subnet.all plan) of.guid name
    own = asked_text subnet.all plan subnet.sound word of.guid of.named

    abbrev near : List (List ℕ) → List Command
    near taken = near_of subnet.all plan subnet.sound of.guid name own taken

    left_is_near : (script output : List ℕ) → Ran subnet.inventory script output → near_commands subnet.inventory of.guid script ≡ near (left_of name shown script)
    left_is_near script output one =
        ap (λ (ports : List SubnetPort). commands_of (is_near ports of.guid) (commands_before_fault plan (lines script))) subnet.ports
        ∙ near_of_left subnet.all plan subnet.sound of.guid name own (lines script)
        (all_are_read subnet.all plan subnet.sound of.guid name own 1 [] (lines script) one.commands one.reads)
        ∙ ap (λ (text : List ℕ). near (left_of name text script)) (ap (shares_text (Some of.guid)) (sym subnet.ports) ∙ of.text)

    same_lines : (first second one other : List ℕ) → Ran subnet.inventory first one → Ran subnet.inventory second other
        → left_of name shown first ≡ left_of name shown second → lines_of name one ≡ lines_of name other
    same_lines first second one other runs others same =
        let found = ap (λ (ports : List SubnetPort). port_with_guid ports of.guid) subnet.ports ∙ own.found in
        let alike = left_is_near first one runs ∙ ap near same ∙ sym (left_is_near second other others) in
        let apart = printed_lines_keep_partitions_apart topology partitions None subnet.inventory of.guid own.port first second subnet.is found alike in
        sym (ap (λ (text : List ℕ). lines_of text one) own.text)
        ∙ sym (ap (lines_at own.port) (prints subnet.inventory first one subnet.is runs))
        ∙ apart
        ∙ ap (lines_at own.port) (prints subnet.inventory second other subnet.is others)
        ∙ ap (λ (text : List ℕ). lines_of text other) own.text

pub runs_keep_texts_apart : RunsKeepTextsApart
runs_keep_texts_apart topology partitions port shown first second one other shows runs others same =
    let up = came_up topology partitions (stop_of runs.outcome) first one runs.is in
    let subnet = is_subnet topology partitions up.0 up.1 in
    let of = shown_for topology partitions subnet.inventory port shown subnet.is shows.is in
    same_lines topology partitions subnet port shown of first second one other
    (ran_on topology partitions subnet.inventory (stop_of runs.outcome) first one subnet.is runs.is)
    (ran_on topology partitions subnet.inventory (stop_of others.outcome) second other subnet.is others.is) same
