-- What is reported of the loss of cables.
use Rattle.std.proofs.Common.{◌≡◌, ◌∙◌, refl, cond, Bool, true, false, List, [], ◌∷◌, Some}
use Rattle.std.specs.List.{list_any}
use Rattle.std.proofs.Math.Bool.{or-true}
use Rattle.std.proofs.lemmas.Option.{none-some, same_Some}
use Rattle.cable_cuts.specs.Cables.{can_be_cut}
use Rattle.cable_cuts.specs.Fate.{HaveBroughtUp}
use Rattle.fabric_parts.specs.Cable.{far_end, is_same_port}
use Rattle.fabric_parts.specs.declared.cable.Cable.{Cable}
use Rattle.fabric_parts.specs.declared.cable.PortRef.{PortRef}
use Rattle.fabric_wire.specs.Cabling.{is_between}
use Rattle.script_lines.specs.Laws.{IsSwitchCable}
use Rattle.smp_wire.proofs.CableLemmas.{far_end_before, itself}
use Rattle.subnet_core.specs.BringUp.{IsStarted, SubnetState}
use Rattle.subnet_fabric.specs.Laws.{all_keys}
use Rattle.topo_file.specs.Topology.{TopologyState}

-- ---- what is reported of cables
pub brought_up : (subnet : SubnetState) → IsStarted subnet → HaveBroughtUp subnet.inventory.plan subnet.routes
brought_up subnet started = record { keys = all_keys subnet.inventory.configuration.ports; fabric = subnet.fabric; by = started.up.0 }

-- the ends of a cable that words name are those of a cable that can be cut
end_there : (cables : List Cable) (here there : PortRef) → far_end cables here ≡ Some there → list_any (is_between here there) cables ≡ true
end_there [] here there far = absurd (none-some there far)
end_there (cable ∷ cables) here there far =
    by (is_same_port cable.first here) refl (is_same_port cable.second here) refl (far_end_before cable cables here ∙ far) (λ is. end_there cables here there is)
  where
    is_there : (end : PortRef) → end ≡ there → is_same_port end there ≡ true
    is_there end is = rw is (itself there)

    by : (first : Bool) → is_same_port cable.first here ≡ first → (second : Bool) → is_same_port cable.second here ≡ second
        → cond first (Some cable.second) (cond second (Some cable.first) (far_end cables here)) ≡ Some there
        → (far_end cables here ≡ Some there → list_any (is_between here there) cables ≡ true) → list_any (is_between here there) (cable ∷ cables) ≡ true
    by true first second other is later = rw (first, is_there cable.second (same_Some cable.second there is)) refl
    by false first true second is later = rw (first, second, is_there cable.first (same_Some cable.first there is)) refl
    by false first false second is later = rw (later is) (or-true (is_between here there cable))

pub can_be : (plan : TopologyState) (cable : Cable) → IsSwitchCable plan cable → can_be_cut plan cable ≡ true
can_be plan cable is = rw (is.first.of_switch, is.second.of_switch) (end_there plan.cables cable.first cable.second is.joined)
