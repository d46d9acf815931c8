use Rattle.std.proofs.Common.{◌∙◌}
use Rattle.std.proofs.lemmas.Result.{IfOk-weaker}
use Rattle.cable_cuts.specs.Texts.{lines_of}
use Rattle.cable_cuts.proofs.texts.cuts_text.Goals as goal

pub returns : goal.returns
returns c =
    IfOk-weaker c.lines_of.result _ _
    (λ text is. record {
      losses = c.in_ok-losses.losses.items;
      are = c.in_ok-losses.ensures;
      text_is = is ∙ (λ i. lines_of c.args.topology.now.nodes (c.ports.ensures i) (c.deref.ensures.value i));
    }) c.lines_of.ensures
