use Rattle.std.proofs.Common.{ℕ, ◌++◌, List, length, replicate, drop, ap, ◌∙◌}
use Rattle.std.proofs.lemmas.List.{drop-replicate}
use Rattle.attr_tables.proofs.node_description.NodeDescription.of_text.Goals as goal

pub returns : goal.returns
returns c =
    let text = c.args.text.now in
    ap (λ (ys : List ℕ). ys ++ drop (length text) (replicate 64 0)) c.copy_from_slice.ensures.after
    ∙ ap (λ (ys : List ℕ). text ++ ys) (drop-replicate (length text) 64 0)
