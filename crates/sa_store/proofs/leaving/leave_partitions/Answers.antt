use Rattle.std.proofs.Common.{◌≡◌, ℕ, ◌+◌, ◌<◌, ◌∙◌, ◌++◌, ◌∷◌, List, [], ap, append-nil, arith, drop, get_or, length, map, set, sym, take, take_all}
use Rattle.std.proofs.lemmas.List.{drop_all, length-append}
use Rattle.sa_model.specs.Groups.{PartitionGroups}
use Rattle.sa_model.specs.Leaving.{left_in}
use Rattle.sa_store.specs.Kept.{ports_of}
use Rattle.sa_store.specs.Receiving.{has_changed, numbers_changed}
use Rattle.sa_store.proofs.LeaveLemmas.{one_unwritten, one_written}
use Rattle.sa_store.proofs.LostLemmas.{changed_more, unchanged_more}
use Rattle.sa_store.proofs.leaving.leave_partitions.Goals.{then-leave_partition, else-leave_partition}
use Rattle.sa_store.proofs.leaving.leave_partitions.Goals as goal

pub push-requires : goal.push-requires
push-requires c = (omega arith, omega (arith, c.requires.room, c.loop-partition-test.true, c.loop-partition.invariant.few))

pub loop-partition-preserved : goal.loop-partition-preserved
loop-partition-preserved c =
    let ports = ports_of c.args.kept.now in
    let f = left_in ports c.args.leave.now in
    let all = c.args.partitions.now in
    let i = c.loop-partition.partition-index in
    let one = c.partition-item.result in
    let within : i < length all = c.loop-partition-test.true in
    let item : get_or c.loop-partition.partitions i one ≡ get_or all i one =
    ap (λ (some : List PartitionGroups). get_or some i one) c.loop-partition.invariant.next ∙ one_unwritten f all i one within in
    let new : c.leave_partition.new.partition ≡ f (get_or all i one) = c.leave_partition.ensures.next ∙ ap f item in
    let next : set c.loop-partition.partitions i c.leave_partition.new.partition ≡ map f (take (i + 1) all) ++ drop (i + 1) all =
    ap (λ (some : List PartitionGroups). set some i c.leave_partition.new.partition) c.loop-partition.invariant.next
    ∙ ap (λ (next : PartitionGroups). set (map f (take i all) ++ drop i all) i next) new
    ∙ one_written f all i one within in
    let changed : c.leave_partition.result ≡ has_changed ports (get_or all i one) (f (get_or all i one)) =
    c.leave_partition.ensures.changed ∙ ap (λ (old : PartitionGroups). has_changed ports old c.leave_partition.new.partition) item
    ∙ ap (has_changed ports (get_or all i one)) new in
    elim c.if-leave_partition.branch [
      | then-leave_partition w ↦
          let number : w.number.result ≡ (get_or all i one).number = w.number.ensures ∙ ap (λ (partition : PartitionGroups). partition.number) new in
          let long = length-append c.loop-partition.changed.items (w.number.result ∷ []) in
          let reported : c.loop-partition.changed.items ++ w.number.result ∷ [] ≡ numbers_changed ports (take (i + 1) all) (map f (take (i + 1) all)) =
          ap (λ (some : List ℕ). some ++ w.number.result ∷ []) c.loop-partition.invariant.numbers
          ∙ ap (λ (n : ℕ). numbers_changed ports (take i all) (map f (take i all)) ++ n ∷ []) number
          ∙ sym (changed_more ports f all i one within (sym changed ∙ w.if-leave_partition.true)) in
          record {
            next = w.partitions-is ∙ next;
            numbers = rw (w.changed-is, w.push.ensures.items) reported;
            few = rw (w.changed-is, w.push.ensures.items) (omega (arith, long, c.loop-partition.invariant.few));
          }
      | else-leave_partition w ↦
          let reported : c.loop-partition.changed.items ≡ numbers_changed ports (take (i + 1) all) (map f (take (i + 1) all)) =
          c.loop-partition.invariant.numbers ∙ sym (unchanged_more ports f all i one within (sym changed ∙ w.if-leave_partition.false)) in
          record {
            next = w.partitions-is ∙ next;
            numbers = rw w.changed-is reported;
            few = rw w.changed-is (omega (arith, c.loop-partition.invariant.few));
          }
    ]

pub returns-clause-numbers : goal.returns-clause-numbers
returns-clause-numbers c =
    let ports = ports_of c.args.kept.now in
    let f = left_in ports c.args.leave.now in
    let all = c.args.partitions.now in
    let i = c.loop-partition.partition-index in
    let whole : take i all ≡ all = take_all i all c.loop-partition-test.false in
    let none : drop i all ≡ [] = drop_all i all c.loop-partition-test.false in
    let new : c.loop-partition.partitions ≡ map f all =
    c.loop-partition.invariant.next ∙ ap (λ (some : List PartitionGroups). map f some ++ drop i all) whole
    ∙ ap (λ (rest : List PartitionGroups). map f all ++ rest) none ∙ append-nil (map f all) in
    c.loop-partition.invariant.numbers ∙ ap (λ (some : List PartitionGroups). numbers_changed ports some (map f some)) whole
    ∙ ap (numbers_changed ports all) (sym new)
