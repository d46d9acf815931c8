-- A command to cut a cable, or to mend it; and what any command leaves of a subnet.
use Rattle.std.proofs.Common.{◌≡◌, ◌∙◌, ap, refl, subst, sym, Bool, false, List, [], map}
use Rattle.fabric_wire.specs.Recabling.{cabling_of}
use Rattle.sa_store.specs.Registry.{RegistryState}
use Rattle.subnet_core.specs.Served.{IsServed, Serves}
use Rattle.smp_wire.specs.FabricState.{FabricState}
use Rattle.subnet_core.specs.Answering.{IsNext, StepsTo}
use Rattle.subnet_core.specs.BringUp.{Stands, SubnetState}
use Rattle.subnet_core.specs.Cabling.{IsKept, RoutesStay}
use Rattle.subnet_core.specs.Inventory.{InventoryState}
use Rattle.subnet_core.specs.Senders.{HasSender, Refuses}
use Rattle.subnet_fabric.specs.Standing.{IsNextCabling}
use Rattle.subnet_model.specs.Configuration.{ConfigurationState}
use Rattle.subnet_model.specs.declared.command.CableCommand.{CableCommand}
use Rattle.subnet_model.specs.declared.command.Command.{Command}
use Rattle.subnet_model.specs.declared.command.Command.TheVariants.{Ask, Cable, Send}
use Rattle.subnet_fabric.specs.Sends.{event_of}
use Rattle.subnet_fabric.specs.declared.event.Event.{Event}
use Rattle.updn_routes.specs.Subnet.{RoutesState}

module _ (inventory : InventoryState) (routes : RoutesState) (registry : RegistryState) (was : FabricState) (stands : Stands inventory routes registry was)
    (next : RoutesState) (left : FabricState) (serves : Serves inventory.plan next registry left) (same_rule : next.between.rule ≡ routes.between.rule) where
  -- who is in the subnet stays, and so does what is remembered
  stands_with : Stands inventory next registry left
  stands_with = record {
    inventoried = stands.inventoried;
    configured = stands.configured;
    whole = stands.whole;
    state = stands.state;
    served = subst (λ (configuration : ConfigurationState). IsServed inventory.plan configuration.ports registry.administration.remembered.partitions next left)
        stands.configured serves.served;
    ruled = same_rule ∙ stands.ruled;
  }

  pub steps_by_cable : (command : CableCommand) (events : List Event) → events ≡ []
      → IsNextCabling inventory.plan command.cable.first command.cable.second command.up (cabling_of was) (cabling_of left)
      → (cabling_of left ≡ cabling_of was → (left ≡ was) × (next ≡ routes))
      → StepsTo inventory routes next registry was (Cable command) events registry left
  steps_by_cable command events none cabling kept = record {
    comes = none;
    reported = λ names. (ap (map event_of) none, refl);
    nobody = λ nobody. absurd (nobody tt);
    refused = λ refuses. absurd refuses;
    routes_stay = tt;
    cabling = cabling;
    kept = λ same. let all = kept same in (refl, all.0, all.1);
    stands = stands_with;
  }

-- ---- the subnet after a command
module _ (inventory : InventoryState) (routes next : RoutesState) (old new : RegistryState) (was left : FabricState) (is_broken : Bool) (whole : is_broken ≡ false) where
  abbrev pub before : SubnetState
  before = record { inventory = inventory; routes = routes; fabric = was; administration = old.administration; is_broken = is_broken }

  abbrev pub after : SubnetState
  after = record { inventory = inventory; routes = next; fabric = left; administration = new.administration; is_broken = false }

  stays : next ≡ routes → (new ≡ old) × (left ≡ was) → after ≡ before
  stays same nothing = λ i. record {
    inventory = inventory;
    routes = same i;
    fabric = nothing.1 i;
    administration = (nothing.0 i).administration;
    is_broken = sym whole i;
  }

  nobody_acts : (command : Command) → RoutesStay command routes next → (HasSender was.nodes command → ⊥) → (new ≡ old) × (left ≡ was) → after ≡ before
  nobody_acts (Send command) same nobody nothing = stays same nothing
  nobody_acts (Ask command) same nobody nothing = stays same nothing
  nobody_acts (Cable command) same nobody nothing = absurd (nobody tt)

  port_refuses : (command : Command) → RoutesStay command routes next → Refuses was command → (new ≡ old) × (left ≡ was) → after ≡ before
  port_refuses (Send command) same refuses nothing = stays same nothing
  port_refuses (Ask command) same refuses nothing = stays same nothing
  port_refuses (Cable command) same refuses nothing = absurd refuses

  kept_so : (command : Command) → IsKept command (cabling_of left ≡ cabling_of was) ((new ≡ old) × (left ≡ was) × (next ≡ routes))
      → IsKept command (cabling_of left ≡ cabling_of was) (after ≡ before)
  kept_so (Send command) kept = tt
  kept_so (Ask command) kept = tt
  kept_so (Cable command) kept = λ same. let all = kept same in stays all.2 (all.0, all.1)

  pub next_of : (command : Command) (events : List Event) → StepsTo inventory routes next old was command events new left → IsNext before command after
  next_of command events steps = record {
    inventory = refl;
    routes = steps.routes_stay;
    cabling = steps.cabling;
    whole = sym whole;
    administration = λ names. (steps.reported names).1;
    nobody = λ nobody. nobody_acts command steps.routes_stay nobody (steps.nobody nobody);
    refused = λ refuses. port_refuses command steps.routes_stay refuses (steps.refused refuses);
    kept = kept_so command steps.kept;
  }
