use Rattle.std.proofs.Common.{◌≡◌, ◌∙◌, ap, Some}
use Rattle.mft_file.specs.Mfts.{heading_of}
use Rattle.mft_file.proofs.MaskSoundLemmas.{sound_with_masks}
use Rattle.mft_file.proofs.draft.Draft.take_count.Goals as goal

pub invariant_of-self-2 : goal.invariant_of-self-2
invariant_of-self-2 c =
    let inside = c.self.inside in
    let under : heading_of inside.stage ≡ Some c.args.heading = ap (λ draft. heading_of draft.stage) c.self.view_is ∙ c.requires.open in
    rw (c.in_ok-push.ensures.ok, c.in_ok-push.ensures.taken)
    (sound_with_masks (record { tables = inside.tables; stage = inside.stage; rows = inside.rows.items }) c.args.heading c.self.invariant under)
