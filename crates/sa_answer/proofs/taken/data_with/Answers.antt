use Rattle.std.proofs.Common.{◌∙◌, ◌++◌, ap, drop, length, replicate, List, ℕ}
use Rattle.std.proofs.lemmas.List.{drop-replicate}
use Rattle.sa_answer.proofs.taken.data_with.Goals as goal

pub returns : goal.returns
returns c =
    ap (λ (some : List ℕ). some ++ drop (length c.args.bytes.now) (replicate 200 0)) c.copy_from_slice.ensures.after
    ∙ ap (λ (rest : List ℕ). c.args.bytes.now ++ rest) (drop-replicate (length c.args.bytes.now) 200 0)
