-- One thing becomes of the fabric of texts, and so they have one answer.
use Rattle.std.proofs.Common.{ℕ, ◌≡◌, ◌⊎◌, ◌∙◌, inl, inr, ap, refl, subst, sym, arith, List, [], slice_get, Option, Some, None, Result, Ok, Err}
use Rattle.std.specs.List.{Contains}
use Rattle.std.proofs.lemmas.Option.{same_Some, slice_get-get_or}
use Rattle.fabric_wire.specs.OfTopology.{fabric_of}
use Rattle.step_results.proofs.StepLemmas.{bind_done, bind_ok, same_ok}
use Rattle.step_results.specs.AtLine.{AtLine}
use Rattle.step_results.specs.Steps.{◌>>=◌}
use Rattle.subnet_fabric.specs.BringUp.{BroughtUpState}
use Rattle.subnet_core.specs.BringUp.{Becomes, HasNoPathOf, IsStopped, IsUp}
use Rattle.subnet_core.specs.Fate.{up_from}
use Rattle.subnet_core.specs.Laws.{OneThingBecomesOfAFabric, TextsHaveOneAnswer}
use Rattle.subnet_core.specs.Inventory.{InventoryState, of_text, partitions_for, inventory_of, inventoried, inventory_by}
use Rattle.subnet_core.specs.Run.{report_of, reported_of}
use Rattle.script_lines.specs.Script.{commands_in}
use Rattle.subnet_core.specs.declared.fault.RunFault.{RunFault}
use Rattle.subnet_core.specs.declared.fault.RunFault.TheVariants.{NoMemory, Topology, Partitions, Sweep, NoLegalPath, Push, Port, Script, SecondScript, Read, Write}
use Rattle.subnet_core.proofs.BringUpLemmas.{lid_at}
use Rattle.topo_file.proofs.TopologyLemmas.{topology_is_sound}
use Rattle.subnet_fabric.proofs.OneFateLemmas.{no_path_excludes_coming_up, one_pair_has_no_path, too_far_excludes_the_rest}
use Rattle.subnet_fabric.specs.Laws.{all_keys}
use Rattle.subnet_model.specs.declared.subnet_port.SubnetPort.{SubnetPort}
use Rattle.subnet_fabric.proofs.EndPortLemmas.{end_ports_stand_in_order}
use Rattle.subnet_model.specs.Configured.{HaveLidsInOrder}
use Rattle.sweep.specs.Hops.{IsTooFar}
use Rattle.sweep.specs.declared.fault.SweepFault.TheVariants as sweep
use Rattle.topo_file.specs.Sound.{IsSound}
use Rattle.topo_file.specs.Topology.{topology_of}
use Rattle.updn_routes.specs.declared.tie_rule.TieRule.{TieRule}
use Rattle.updn_routes.specs.declared.tie_rule.TieRule.TheVariants.{LeastPort}

-- ---- an inventory that texts give is of a sound topology, and lists ports in order of LID
record IsPlanned (inventory : InventoryState) : Type 0 where
  sound : IsSound inventory.plan
  order : HaveLidsInOrder inventory.configuration.ports

reported : {X Cause : Type 0} (fault : ℕ → Cause → RunFault) (r : Result X (AtLine Cause)) (x : X) → of_text fault r ≡ Ok x → r ≡ Ok x
reported fault (Ok y) x h = ap (λ (z : _). Ok z) (same_ok y x h)
reported fault (Err at) x h = absurd cc

planned : (rule : TieRule) (topology : List ℕ) (partitions : Option (List ℕ)) (inventory : InventoryState) → inventory_by rule topology partitions ≡ Ok inventory
    → IsPlanned inventory
unfolding inventory_by
planned rule topology partitions inventory h =
    let plan = bind_ok (of_text Topology (topology_of topology)) _ inventory h in
    let all = bind_done (partitions_for partitions) (inventoried rule plan.0) inventory plan.2 in
    let sound = topology_is_sound topology plan.0 (reported Topology (topology_of topology) plan.0 plan.1) in
    subst IsPlanned all.2 (record { sound = sound; order = (end_ports_stand_in_order all.0 plan.0 sound).lids })

-- ---- a LID is one port's
one_listed : (ports : List SubnetPort) (a b : SubnetPort) → HaveLidsInOrder ports → Contains ports a → Contains ports b
    → a.lid ≡ b.lid → a ≡ b
one_listed ports a b order one other same =
    let lid = lid_at ports one.0 a order one.1 one.2 in
    let lid_too = lid_at ports other.0 b order other.1 other.2 in
    let place : one.0 ≡ other.0 = omega (arith, lid, lid_too, same) in
    same_Some a b (sym (stands a one) ∙ ap (slice_get ports) place ∙ stands b other)
  where
    stands : (port : SubnetPort) → (has : Contains ports port) → slice_get ports has.0 ≡ Some port
    stands port has = slice_get-get_or ports has.0 port has.1 ∙ ap (λ (port : SubnetPort). Some port) has.2

-- ---- what may stop it
record IsFar (inventory : InventoryState) (fault : RunFault) : Type 0 where
  reported : fault ≡ Sweep sweep.TooManyHops
  far : IsTooFar (fabric_of inventory.plan)

record IsWithoutPath (inventory : InventoryState) (fault : RunFault) : Type 0 where
  switch : List ℕ
  node : List ℕ
  number : ℕ
  reported : fault ≡ NoLegalPath switch node number
  none : HasNoPathOf inventory switch node number

why : (inventory : InventoryState) (fault : RunFault) → IsStopped inventory fault → IsFar inventory fault ⊎ IsWithoutPath inventory fault
why inventory NoMemory is = absurd is
why inventory (Topology line cause) is = absurd is
why inventory (Partitions line cause) is = absurd is
why inventory (Sweep sweep.NoMemory) is = absurd is
why inventory (Sweep sweep.NoReply) is = absurd is
why inventory (Sweep sweep.WrongReply) is = absurd is
why inventory (Sweep sweep.TooManyHops) is = inl (record { reported = refl; far = is })
why inventory (Sweep sweep.TooManyNodes) is = absurd is
why inventory (NoLegalPath switch node number) is = inr (record { switch = switch; node = node; number = number; reported = refl; none = is })
why inventory (Push fault) is = absurd is
why inventory (Port cause) is = absurd is
why inventory (Script line cause) is = absurd is
why inventory (SecondScript line cause) is = absurd is
why inventory Read is = absurd is
why inventory Write is = absurd is

one_fault : (inventory : InventoryState) (fault other : RunFault) → IsPlanned inventory → IsFar inventory fault ⊎ IsWithoutPath inventory fault
    → IsFar inventory other ⊎ IsWithoutPath inventory other → fault ≡ other
one_fault inventory fault other is (inl far) (inl too) = far.reported ∙ sym too.reported
one_fault inventory fault other is (inl far) (inr gone) =
    absurd ((too_far_excludes_the_rest inventory.plan [] (fabric_of inventory.plan) gone.none.from.lid gone.none.to.lid far.far).0 gone.none.none)
one_fault inventory fault other is (inr gone) (inl far) =
    absurd ((too_far_excludes_the_rest inventory.plan [] (fabric_of inventory.plan) gone.none.from.lid gone.none.to.lid far.far).0 gone.none.none)
one_fault inventory fault other is (inr gone) (inr too) =
    let one = gone.none in
    let more = too.none in
    let pair = one_pair_has_no_path inventory.plan one.from.lid one.to.lid more.from.lid more.to.lid is.sound one.none more.none in
    let order = is.order in
    let from = one_listed inventory.configuration.ports one.from more.from order one.from_listed more.from_listed pair.0 in
    let to = one_listed inventory.configuration.ports one.to more.to order one.to_listed more.to_listed pair.1 in
    let switch : gone.switch ≡ too.switch = one.switch_is ∙ ap (λ (port : SubnetPort). port.node_name) from ∙ sym more.switch_is in
    let node : gone.node ≡ too.node = one.node_is ∙ ap (λ (port : SubnetPort). port.node_name) to ∙ sym more.node_is in
    let number : gone.number ≡ too.number = one.number_is ∙ ap (λ (port : SubnetPort). port.number) to ∙ sym more.number_is in
    gone.reported ∙ (λ i. NoLegalPath (switch i) (node i) (number i)) ∙ sym too.reported

not_up : (inventory : InventoryState) (fault : RunFault) (up : BroughtUpState) → IsPlanned inventory → IsFar inventory fault ⊎ IsWithoutPath inventory fault
    → IsUp inventory up → ⊥
not_up inventory fault up is (inl far) by =
    (too_far_excludes_the_rest inventory.plan (all_keys inventory.configuration.ports) up.fabric 0 0 far.far).1 (record { routes = up.routes; by = by.0 })
not_up inventory fault up is (inr gone) by =
    no_path_excludes_coming_up inventory.plan (all_keys inventory.configuration.ports) up.fabric gone.none.from.lid gone.none.to.lid is.sound gone.none.none
    (record { routes = up.routes; by = by.0 })

one_stop : (inventory : InventoryState) (stop other : Option RunFault) → IsPlanned inventory → Becomes (Ok inventory) stop → Becomes (Ok inventory) other
    → stop ≡ other
one_stop inventory None None is one other = refl
one_stop inventory None (Some fault) is up stopped = absurd (not_up inventory fault up.0 is (why inventory fault stopped) up.1)
one_stop inventory (Some fault) None is stopped up = absurd (not_up inventory fault up.0 is (why inventory fault stopped) up.1)
one_stop inventory (Some fault) (Some other) is stopped too =
    ap (λ (fault : RunFault). Some fault) (one_fault inventory fault other is (why inventory fault stopped) (why inventory other too))

pub one_thing_becomes_of_a_fabric : OneThingBecomesOfAFabric
one_thing_becomes_of_a_fabric rule topology partitions inventory stop other given one two =
    one_stop inventory stop other (planned rule topology partitions inventory given) one two

-- ---- answers
same_up : (given : Result InventoryState RunFault) (stop other : Option RunFault)
    → ((inventory : InventoryState) → given ≡ Ok inventory → Becomes (Ok inventory) stop → Becomes (Ok inventory) other → stop ≡ other)
    → Becomes given stop → Becomes given other → up_from given stop ≡ up_from given other
unfolding up_from
same_up (Ok inventory) stop other same one two = ap (up_from (Ok inventory)) (same inventory refl one two)
same_up (Err fault) stop other same one two = refl

pub texts_have_one_answer : TextsHaveOneAnswer
unfolding report_of
texts_have_one_answer topology partitions script stop other one two =
    ap (λ (up : Result InventoryState RunFault).
    up >>= λ inventory. of_text Script (commands_in inventory.plan script) >>= λ commands. Ok (reported_of inventory.configuration commands))
    (same_up (inventory_of topology partitions) stop other (λ inventory. one_thing_becomes_of_a_fabric LeastPort topology partitions inventory stop other) one two)
