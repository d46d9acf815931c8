use Rattle.std.proofs.Common.{ℕ, ◌+◌, ◌*◌, ◌-◌, List, length, take, drop, min, sym, ◌∙◌, ap}
use Rattle.rmpp_core.specs.Segments.{Transfer}
use Rattle.rmpp_core.proofs.CutLemmas.{segment_between}
use Rattle.rmpp_core.proofs.sender.Sender.data_of.Goals as goal

pub returns-clause-value : goal.returns-clause-value
returns-clause-value c =
    let begin = 200 * (c.args.number - 1) in
    let bytes = ap (λ (t : Transfer). t.bytes) c.self.view_is in
    ap (λ (bytes : List ℕ). take (c.min-last.result - begin) (drop begin bytes)) (c.deref.ensures.value ∙ bytes)
    ∙ segment_between c.args.self.now.bytes c.args.number c.min-last.result c.requires.first c.requires.last
    (c.min-last.ensures ∙ ap (λ (n : ℕ). min (begin + 200) n) (c.len.ensures ∙ sym c.deref.ensures.len ∙ ap (λ (bytes : List ℕ). length bytes) (c.deref.ensures.value ∙ bytes)))
