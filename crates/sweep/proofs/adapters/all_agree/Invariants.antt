use Rattle.std.proofs.Common.{◌≡◌, ◌==◌, ℕ, drop, take}
use Rattle.indexmap.specs.IndexMap.{get}
use Rattle.indexmap.specs.IndexSet.{contains}
use Rattle.sweep.specs.Graph.{all_agree}
use Rattle.sweep.specs.Adapters.{is_count}
use Rattle.sweep.specs.declared.adapters.AdapterPort.{AdapterPort}
use Rattle.sweep.proofs.AdapterLemmas.{agree_on, has, is_same, report}
use Rattle.sweep.proofs.adapters.all_agree.Given as goal

-- so far all agree, and each adapter's number of ports, and its ports, are kept
abbrev pub invariant-loop-port : goal.invariant-loop-port
invariant-loop-port l = record {
  agree : all_agree l.ports ≡ agree_on (take l.port-index l.ports) (drop l.port-index l.ports);
  reported : (guid count : ℕ) → report (take l.port-index l.ports) guid count ≡ is_count count (get (λ a b. a == b) l.counts guid);
  kept : (key : AdapterPort) → contains is_same l.numbers key ≡ has (take l.port-index l.ports) key;
}
