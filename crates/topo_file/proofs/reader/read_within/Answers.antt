use Rattle.std.proofs.Common.{◌≡◌, Ok, IfOk, subst, sym, ap, ◌∙◌}
use Rattle.step_results.specs.AtLine.{after_lines}
use Rattle.text_words.specs.Lines.{lines}
use Rattle.topo_file.specs.Sound.{IsSoundWithin}
use Rattle.topo_file.specs.Topology.{after_line, nothing}
use Rattle.topo_file.proofs.WithinLemmas.{lines_stay}
use Rattle.topo_file.proofs.reader.read_within.Goals as goal

pub returns-clause-sound : goal.returns-clause-sound
returns-clause-sound c =
    let read : after_lines after_line 1 (nothing c.args.limits) (lines c.args.text.now) ≡ Ok c.in_ok-draft.draft =
    ap (λ start. after_lines after_line 1 start (lines c.args.text.now)) (sym c.new.ensures) ∙ c.in_ok-draft.ensures in
    subst (λ limits. IfOk c.finish.result (IsSoundWithin limits))
    (lines_stay 1 (nothing c.args.limits) (lines c.args.text.now) c.in_ok-draft.draft read) c.finish.ensures.sound
