use Rattle.std.proofs.Common.{◌≡◌, ◌∙◌, ap, sym, []}
use Rattle.step_results.proofs.ListLemmas.{all_have}
use Rattle.sa_store.specs.Registry.{RegistryState}
use Rattle.table_push.specs.Masks.{receives_of}
use Rattle.subnet_core.proofs.StartLemmas.{nobody_receives}
use Rattle.subnet_core.specs.Served.{receives_at}
use Rattle.subnet_core.proofs.administrator.Administrator.of.Goals as goal

pub invariant_of-result : goal.invariant_of-result
invariant_of-result c unbroken = record {
  whole = c.in_ok-received.ensures.whole;
  right = λ number receivers there mlid lid here.
      let nobody : receivers ≡ [] = all_have (λ one. one ≡ []) c.in_ok-received.received.items number receivers c.in_ok-received.ensures.nobody there in
      ap (λ one. receives_of one mlid lid) nobody
      ∙ sym (ap (λ (registry : RegistryState). receives_at registry.configuration.ports registry.administration.remembered.partitions mlid lid) c.in_ok-registry.ensures
      ∙ nobody_receives c.args.configuration.now.ports c.args.configuration.now.partitions mlid lid);
}
