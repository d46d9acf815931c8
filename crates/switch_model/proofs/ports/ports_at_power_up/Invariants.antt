use Rattle.std.proofs.Common.{◌≡◌, ◌+◌, ◌∷◌, length, take}
use Rattle.agent_rules.specs.declared.link.PortLink.TheVariants.{Internal}
use Rattle.switch_model.specs.SwitchState.{AllFit, ports_from}
use Rattle.switch_model.proofs.ports.ports_at_power_up.Given as goal

abbrev pub invariant-loop-link : goal.invariant-loop-link
invariant-loop-link l =
    record {
      ports : l.ports.items ≡ ports_from 0 (Internal ∷ take l.link-index l.links);
      count : length l.ports.items ≡ l.link-index + 1;
      fits : AllFit l.ports.items;
    }
