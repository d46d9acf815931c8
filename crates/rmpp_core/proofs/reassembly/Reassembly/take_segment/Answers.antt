use Rattle.std.proofs.Common.{◌==◌, ℕ, List, take, drop, ◌++◌, Err, bit_and, sym, ap, ◌∙◌}
use Rattle.std.proofs.lemmas.Result.{err_from_is_err_and}
use Rattle.rmpp_core.specs.declared.receiver.ReceiveFault.{ReceiveFault}
use Rattle.rmpp_core.specs.Receiving.{ReassemblyState}
use Rattle.rmpp_core.proofs.ReceivingLemmas.{refused, taken}
use Rattle.rmpp_core.proofs.reassembly.Reassembly.take_segment.Goals as goal

pub returns-in_err-count : goal.returns-in_err-count
returns-in_err-count c =
    let p = err_from_is_err_and c.from_residual.result c.from_residual.ensures.1 in
    refused c.args.self.now c.args.mad.now c.rmpp_of-rmpp.result c.in_err-count.field-0.0 c.from_residual.result c.args.self.now
    c.rmpp_of-rmpp.ensures (sym c.carried.ensures.value ∙ c.in_err-count.was) (p.1 ∙ ap (λ (f : ReceiveFault). Err f) p.2)

pub returns : goal.returns
returns c =
    let count = c.in_ok-count.count in
    let old = ap (λ (so_far : ReassemblyState). so_far.bytes) c.self.view_is in
    let bytes = c.in_ok-extend_from_slice.ensures.items
    ∙ ap (λ (bytes : List ℕ). c.self.inside.bytes.items ++ take count bytes) c.read.ensures.data
    ∙ ap (λ (bytes : List ℕ). bytes ++ take count (take 200 (drop 56 c.args.mad.now))) old in
    taken c.args.self.now c.args.mad.now c.rmpp_of-rmpp.result count c.rmpp_of-rmpp.result.segment_number
    c.first_length_of-first_length.result c.extend_from_slice.new.self.items c.contains-self-inside.result
    c.rmpp_of-rmpp.ensures (sym c.carried.ensures.value ∙ c.in_ok-count.was) c.in_ok-count.ensures.next c.first_length_of-first_length.ensures
    bytes (c.contains-self-inside.ensures tt ∙ ap (λ (flags : ℕ). bit_and flags 4 == 4) c.flags.ensures)
