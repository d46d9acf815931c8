use Rattle.std.proofs.Common.{ℕ, ◌≡◌, ◌≤◌, ◌+◌, ◌-◌, Bool, find, length, not, unwrap_or, ap, refl, sym, ◌∙◌, arith}
use Rattle.std.specs.List.{range_with_len}
use Rattle.topology_import.specs.Names.{has_name, numbered}
use Rattle.topology_import.proofs.LoopLemmas.{found_later, skipped}
use Rattle.topology_import.proofs.NameLemmas.{taken_next}
use Rattle.topology_import.proofs.names.free_number.Goals as goal

pub loop-number-init : goal.loop-number-init
loop-number-init c =
    let nodes = c.args.nodes.now in
    let is_free : ℕ → Bool = λ number. not (has_name nodes (numbered c.args.name.now number)) in
    let all : length nodes ≡ length nodes + 2 - 2 = omega arith in
    record {
      same = ap (λ (count : ℕ). unwrap_or (find is_free (range_with_len 2 count)) (length nodes + 2)) all
          ∙ skipped is_free 2 c.args.first (length nodes + 2) (length nodes + 2) c.requires.low (λ n low high. rw (c.requires.taken n low high) refl);
      taken = c.requires.taken;
    }

pub loop-number-preserved : goal.loop-number-preserved
loop-number-preserved c =
    let nodes = c.args.nodes.now in
    let inside = rw c.as_slice-count.ensures at c.loop-number-test.true in
    let here = rw c.in_ok-is_free.ensures at c.if-branch.false in
    record {
      same = c.loop-number.invariant.same
          ∙ found_later (λ number. not (has_name nodes (numbered c.args.name.now number))) c.loop-number.number (length nodes + 2) (length nodes + 2) inside here;
      taken = taken_next nodes c.args.name.now c.loop-number.number c.loop-number.invariant.taken here;
    }

pub returns-clause-value : goal.returns-clause-value
returns-clause-value c =
    let nodes = c.args.nodes.now in
    let count : length c.as_slice-count.result.now ≡ length nodes = rw c.as_slice-count.ensures refl in
    let past : length nodes + 2 ≤ c.loop-number.number = omega (arith, count, c.loop-number-test.false) in
    let none : length nodes + 2 - c.loop-number.number ≡ 0 = omega (arith, past) in
    ap (λ (n : ℕ). n + 2) count ∙ sym (rw none at c.loop-number.invariant.same)

pub returns-clause-taken : goal.returns-clause-taken
returns-clause-taken c n low high = c.loop-number.invariant.taken n low (omega (arith, high, c.loop-number-test.false))
