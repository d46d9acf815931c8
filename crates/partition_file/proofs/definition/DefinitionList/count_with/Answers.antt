use Rattle.std.proofs.Common.{◌≡◌, length, sym, ap, ◌∙◌}
use Rattle.partition_file.proofs.CountLemmas.{count_kept}
use Rattle.partition_file.proofs.definition.DefinitionList.count_with.Goals as goal

pub returns : goal.returns
returns c =
    let inside = c.self.inside in
    let len : c.len.result ≡ length inside.bases.items = c.len.ensures ∙ sym c.deref.ensures.len ∙ ap length c.deref.ensures.value in
    rw (← c.self.view_is, len)
    (count_kept inside.definitions.items inside.bases.items inside.unnamed c.further.result c.args.base c.self.invariant (rw (← c.deref.ensures.value) c.further.ensures.value))
