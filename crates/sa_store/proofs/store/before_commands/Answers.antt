use Rattle.std.proofs.Common.{refl}
use Rattle.sa_store.specs.Kept.{ports_of}
use Rattle.sa_store.specs.Registry.{configuration_in}
use Rattle.sa_replies.proofs.StateLemmas.{starts_remembered}
use Rattle.sa_store.proofs.StartLemmas.{same_ports, same_services, same_transfers}
use Rattle.sa_store.proofs.store.before_commands.Goals as goal

pub invariant_of-result : goal.invariant_of-result
invariant_of-result c =
    let ports = ports_of c.args.kept.items in
    let headings = c.in_ok-copied.ensures in
    let partitions = c.in_ok-partitions_at_start.ensures in
    let configuration = configuration_in c.args.kept.items c.args.headings.now in
    record {
      configured = rw headings c.requires.configured;
      finds = λ guid. rw c.deref.ensures.value at (c.in_ok-places.ensures guid);
      remembered = rw (headings, partitions, c.requires.start, same_ports ports, same_services ports)
          (rw (c.requires.start, same_ports ports) at (starts_remembered configuration c.requires.configured));
    }

pub returns : goal.returns
returns c =
    let ports = ports_of c.args.kept.items in
    let headings = c.in_ok-copied.ensures in
    let partitions = c.in_ok-partitions_at_start.ensures in
    rw (headings, partitions, c.requires.start, same_ports ports, same_services ports, same_transfers ports) refl
