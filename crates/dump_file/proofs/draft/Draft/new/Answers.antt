use Rattle.std.proofs.Common.{refl}
use Rattle.dump_file.proofs.SoundLemmas.{nothing_sound}
use Rattle.dump_file.proofs.draft.Draft.new.Goals as goal

pub invariant_of-result : goal.invariant_of-result
invariant_of-result c =
    rw (c.new.ensures.items, c.new-2.ensures.empty, c.new-3.ensures.empty, c.new-4.ensures.items) (nothing_sound, (λ guid. refl, λ lid. rw c.new-5.ensures refl))
