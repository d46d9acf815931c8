-- What a script leaves of a subnet.
use Rattle.std.proofs.Common.{ℕ, suc, ◌+◌, ◌<◌, ◌≡◌, ◌∙◌, ap, arith, drop, drop-cons, get_or, length, refl, sym, subst, List, [], ◌∷◌, IfErr, IfOk, Option, Some, None, Result, Ok, Err}
use Rattle.fabric_wire.specs.Cabling.{CablingState, uncut}
use Rattle.fabric_wire.specs.Recabling.{cabling_of}
use Rattle.step_results.specs.Gives.{Fails}
use Rattle.subnet_core.proofs.ServeLemmas.{one_fabric_is_served}
use Rattle.subnet_core.specs.Served.{IsServed}
use Rattle.sa_replies.specs.Answer.{Administration}
use Rattle.sa_replies.specs.Administration.{subnet_administration}
use Rattle.sa_replies.specs.RunLaws.{remembered_after}
use Rattle.script_lines.specs.Script.{commands_in}
use Rattle.smp_wire.specs.FabricState.{FabricState}
use Rattle.subnet_core.proofs.BringUpLemmas.{fails_mapped, mapped, same_inventory}
use Rattle.subnet_core.specs.After.{IsLeft, IsLeftAfter, IsLeftBy, IsThrough, left_from}
use Rattle.subnet_core.specs.Answering.{IsNext}
use Rattle.subnet_core.specs.BringUp.{Becomes, IsStarted, IsUp, StaysUp, SubnetState, up_in}
use Rattle.subnet_core.specs.Fate.{FailsWith, WithFabric, up_from}
use Rattle.subnet_core.specs.Cabling.{AreCabledAfter, IsCabledAfter}
use Rattle.subnet_core.specs.Laws.{OneFabricIsLeft}
use Rattle.subnet_core.specs.Inventory.{InventoryState, fault_in, of_text}
use Rattle.subnet_core.specs.Senders.{NamesSender}
use Rattle.subnet_core.specs.declared.fault.RunFault.{RunFault}
use Rattle.subnet_core.specs.declared.fault.RunFault.TheVariants.{Script}
use Rattle.subnet_fabric.proofs.StandingListedLemmas.{one_cabling_follows}
use Rattle.subnet_fabric.specs.BringUp.{BroughtUpState}
use Rattle.subnet_model.specs.Report.{state_from, step_by}
use Rattle.subnet_model.specs.declared.command.Command.{Command}
use Rattle.subnet_model.specs.declared.command.Command.TheVariants as command
use Rattle.topo_file.specs.Topology.{TopologyState}

-- ---- commands one after another
pub none_more : (old : SubnetState) → IsThrough [] old old
none_more old = record { inventory = refl; whole = refl; administration = refl; cabling = refl }

pub next_command : (commands : List Command) (i : ℕ) (command : Command) → i < length commands → get_or commands i command ≡ command
    → drop i commands ≡ command ∷ drop (i + 1) commands
next_command commands i command within here =
    let next : suc i ≡ i + 1 = omega arith in
    drop-cons commands i command within
    ∙ ap (λ (n : ℕ). get_or commands i command ∷ drop n commands) next
    ∙ ap (λ (first : Command). first ∷ drop (i + 1) commands) here

pub one_more : (old next new : SubnetState) (command : Command) (rest : List Command) → NamesSender old.inventory.configuration.ports command
    → IsNext old command next → IsThrough rest next new → IsThrough (command ∷ rest) old new
one_more old next new command rest names is through = record {
  inventory = through.inventory ∙ is.inventory;
  whole = through.whole ∙ is.whole;
  administration = through.administration
      ∙ ap (λ (inventory : InventoryState). state_from (step_by subnet_administration inventory.configuration) next.administration rest) is.inventory
      ∙ ap (λ (state : Administration). state_from (step_by subnet_administration old.inventory.configuration) state rest) (is.administration names);
  cabling = (
    cabling_of next.fabric,
    is.cabling,
    subst (λ (inventory : InventoryState). AreCabledAfter inventory.plan rest (cabling_of next.fabric) (cabling_of new.fabric)) is.inventory through.cabling,
  );
}

-- ---- from the start
uncut_at_start : (inventory : InventoryState) (up : BroughtUpState) → IsUp inventory up → cabling_of up.fabric ≡ uncut inventory.plan.cables
uncut_at_start inventory up is =
    let cables : up.fabric.cables ≡ inventory.plan.cables = ap (λ (one : FabricState). one.cables) is.0.is in
    let cut : up.fabric.cut ≡ [] = ap (λ (one : FabricState). one.cut) is.0.is in
    λ i. record { cables = cables i; cut = cut i }

pub left_from_start : (old new : SubnetState) (commands : List Command) → IsStarted old → IsThrough commands old new → StaysUp new
    → IsLeftAfter commands new
left_from_start old new commands started through stays =
    let whole = through.whole ∙ started.whole in
    let same : old.inventory ≡ new.inventory = sym through.inventory in
    let remembered : new.administration ≡ remembered_after old.inventory.configuration commands =
    through.administration
    ∙ ap (λ (state : Administration). state_from (step_by subnet_administration old.inventory.configuration) state commands) started.administration in
    let own : new.administration ≡ remembered_after new.inventory.configuration commands =
    subst (λ (inventory : InventoryState). new.administration ≡ remembered_after inventory.configuration commands) same remembered in
    record {
      whole = whole;
      administration = own;
      up = record {
        cabling = subst (λ (inventory : InventoryState). AreCabledAfter inventory.plan commands (uncut inventory.plan.cables) (cabling_of new.fabric)) same
            (subst (λ (was : CablingState). AreCabledAfter old.inventory.plan commands was (cabling_of new.fabric))
            (uncut_at_start old.inventory (up_in old) started.up) through.cabling);
        served = subst (λ (state : Administration). IsServed new.inventory.plan new.inventory.configuration.ports state.remembered.partitions new.routes new.fabric)
            own (stays whole).0;
        ruled = (stays whole).1;
      };
    }

-- ---- what is answered
module _ (given : Result InventoryState RunFault) (script : Option (List ℕ)) where
  not_up : (fault : RunFault) (stop : Option RunFault) → up_from given stop ≡ Err fault → left_from given script stop ≡ Err fault
  unfolding left_from
  not_up fault stop is = rw is refl

  pub nothing_left : (reported : Option RunFault) → FailsWith (Becomes given) reported (up_from given) → FailsWith (Becomes given) reported (left_from given script)
  nothing_left reported fails = fails_mapped given reported (up_from given) (left_from given script) not_up fails

module _ (given : Result InventoryState RunFault) (script : List ℕ) where
  with_fault : (inventory : InventoryState) (fault : RunFault) → of_text Script (commands_in inventory.plan script) ≡ Err fault
      → (stop : Option RunFault) → up_from given stop ≡ Ok inventory → left_from given (Some script) stop ≡ Err fault
  unfolding left_from
  with_fault inventory fault fails stop is = rw (is, fails) refl

  script_fails : (inventory : InventoryState) (reported : Option RunFault) → WithFabric (Becomes given) (λ stop. up_from given stop ≡ Ok inventory)
      → Fails reported (of_text Script (commands_in inventory.plan script)) → FailsWith (Becomes given) reported (left_from given (Some script))
  script_fails inventory None up fails = tt
  script_fails inventory (Some fault) up fails =
      mapped given (λ stop. up_from given stop ≡ Ok inventory) (λ stop. left_from given (Some script) stop ≡ Err fault) (with_fault inventory fault fails) up

  pub left_after : (was : SubnetState) → WithFabric (Becomes given) (λ stop. up_from given stop ≡ Ok was.inventory) → (result : Result SubnetState RunFault)
      → IfOk result (λ left. left.inventory ≡ was.inventory)
      → IfOk result (IsLeftBy (Some script))
      → IfErr result (λ fault. Fails (fault_in fault) (of_text Script (commands_in was.inventory.plan script)))
      → IsLeft given (Some script) result
  left_after was up (Ok left) inventory after fails = (
    same_inventory given up.stop was.inventory up.is ∙ ap (λ (one : InventoryState). Ok one) (sym inventory),
    after,
  )
  left_after was up (Err fault) inventory after fails = script_fails was.inventory (fault_in fault) up fails

pub left_as_up : (given : Result InventoryState RunFault) (subnet : SubnetState) → WithFabric (Becomes given) (λ stop. up_from given stop ≡ Ok subnet.inventory)
    → IsStarted subnet → IsLeft given None (Ok subnet)
left_as_up given subnet up started = (same_inventory given up.stop subnet.inventory up.is, started)

-- ---- one fabric is left
one_follows : (plan : TopologyState) (command : Command) (was one other : CablingState) → IsCabledAfter plan command was one
    → IsCabledAfter plan command was other → one ≡ other
one_follows plan (command.Send sent) was one other is is_too = is ∙ sym is_too
one_follows plan (command.Ask asked) was one other is is_too = is ∙ sym is_too
one_follows plan (command.Cable cable) was one other is is_too =
    one_cabling_follows plan cable.cable.first cable.cable.second cable.up was one other is is_too

one_follows_all : (plan : TopologyState) (commands : List Command) (was one other : CablingState) → AreCabledAfter plan commands was one
    → AreCabledAfter plan commands was other → one ≡ other
one_follows_all plan [] was one other are are_too = are ∙ sym are_too
one_follows_all plan (command ∷ commands) was one other are are_too =
    let same = one_follows plan command was are.0 are_too.0 are.1 are_too.1 in
    one_follows_all plan commands are.0 one other are.2
    (subst (λ (between : CablingState). AreCabledAfter plan commands between other) (sym same) are_too.2)

pub one_fabric_is_left : OneFabricIsLeft
one_fabric_is_left inventory commands one other inventoried is is_too =
    one_fabric_is_served inventory.plan inventory.configuration.ports (remembered_after inventory.configuration commands).remembered.partitions one.routes
    other.routes one.fabric other.fabric inventoried.topology is.served is_too.served
    (one_follows_all inventory.plan commands _ (cabling_of one.fabric) (cabling_of other.fabric) is.cabling is_too.cabling)
    (is_too.ruled ∙ sym is.ruled)
