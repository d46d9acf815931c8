use Rattle.std.proofs.Common.{option_map}
use Rattle.fabric_cli.specs.KeyFiles.{partitions_name}
use Rattle.fabric_cli.specs.Serving.{ended, keys_audited}
use Rattle.fabric_cli.proofs.EndingLemmas.{of_three}
use Rattle.fabric_cli.proofs.serving.answered_of_keys.Goals as goal

pub returns-in-Ok-clause-exact : goal.returns-in-Ok-clause-exact
returns-in-Ok-clause-exact g c =
    of_three (g.F.Files.reported c.args.files.now) c.args.asked.now.netdiscover.now c.args.asked.now.pkeys.now c.in-Ok.texts.netdiscover.items
    c.in-Ok.texts.pkeys.items (partitions_name c.args.asked.now) (option_map (λ items. items.items) c.in-Ok.texts.partitions) c.args.manager c.args.all c.written_keys.result
    (g.O.Output.is_sure c.args.out.now) (g.O.Output.contents c.args.out.now) (g.O.Output.contents c.written_keys.new.out) c.in-Ok.ensures.bytes
    (c.written_keys.ensures.exact
    (ended (keys_audited c.args.manager c.args.all c.in-Ok.texts.netdiscover.items c.in-Ok.texts.pkeys.items (option_map (λ items. items.items) c.in-Ok.texts.partitions)))
    c.keys_audited.ensures.exact)

pub returns-in-Ok-clause-any_files : goal.returns-in-Ok-clause-any_files
returns-in-Ok-clause-any_files g c reported = (
  c.in-Ok.texts.netdiscover.items,
  c.in-Ok.texts.pkeys.items,
  option_map (λ items. items.items) c.in-Ok.texts.partitions,
  c.in-Ok.ensures.shape,
  c.written_keys.ensures.exact
      (ended (keys_audited c.args.manager c.args.all c.in-Ok.texts.netdiscover.items c.in-Ok.texts.pkeys.items (option_map (λ items. items.items) c.in-Ok.texts.partitions)))
      c.keys_audited.ensures.exact,
)
