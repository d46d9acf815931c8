use Rattle.std.proofs.Common.{◌≡◌, ◌==◌, find}
use Rattle.std.specs.Slice.Iter.{chunks_rest, chunks_size}
use Rattle.pkey_rules.specs.PKey.{base_of}
use Rattle.pkey_rules.proofs.stored_keys.first_of_base.Given as goal

abbrev pub invariant-loop-some : goal.invariant-loop-some
invariant-loop-some l =
    (goal.iterator-loop-some).can_next l.some-iterator
    × (goal.iterator-loop-some).is_finite l.some-iterator
    × (chunks_size l.some-iterator ≡ 16)
    × (find (λ word. base_of word == l.fn.base) (chunks_rest l.some-iterator) ≡ find (λ word. base_of word == l.fn.base) l.fn.words)
