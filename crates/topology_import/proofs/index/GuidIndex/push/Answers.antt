use Rattle.std.proofs.Common.{ℕ, ◌==◌, List, length, position, sym, ap, ◌∙◌}
use Rattle.topology_import.specs.Index.{first_or}
use Rattle.topology_import.proofs.IndexLemmas.{position_more}
use Rattle.topology_import.proofs.index.GuidIndex.push.Goals as goal

pub invariant_of-self-2 : goal.invariant_of-self-2
invariant_of-self-2 c guid =
    rw (c.in_ok-push.ensures.items, c.reserve.ensures.items)
    (c.in_ok-note.ensures.ok guid
    ∙ ap (λ found. first_or found (guid == c.args.guid) (length c.as_slice-place.result.now)) (c.self.invariant guid)
    ∙ ap (λ (n : ℕ). first_or (position (λ other. guid == other) c.self.inside.guids.items) (guid == c.args.guid) n)
    (ap (λ (xs : List ℕ). length xs) c.as_slice-place.ensures.value)
    ∙ sym (position_more (λ other. guid == other) c.self.inside.guids.items c.args.guid))
