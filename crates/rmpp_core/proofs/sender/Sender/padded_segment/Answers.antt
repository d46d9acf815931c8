use Rattle.std.proofs.Common.{ℕ, List, length, replicate, drop, ◌++◌, ◌-◌, ◌∙◌, ap}
use Rattle.std.proofs.lemmas.List.{drop-replicate}
use Rattle.rmpp_core.proofs.sender.Sender.padded_segment.Goals as goal

pub returns : goal.returns
returns c =
    let part = c.data_of-part.result.now in
    ap (λ (ys : List ℕ). ys ++ drop (length part) (replicate 200 0)) c.copy_from_slice.ensures.after
    ∙ ap (λ (ys : List ℕ). part ++ ys) (drop-replicate (length part) 200 0)
    ∙ ap (λ (ys : List ℕ). ys ++ replicate (200 - length ys) 0) c.data_of-part.ensures.value
