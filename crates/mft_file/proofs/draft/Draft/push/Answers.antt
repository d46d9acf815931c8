use Rattle.std.proofs.Common.{◌≡◌, ◌∙◌, ap, true}
use Rattle.mft_file.specs.Mfts.{heading_of}
use Rattle.mft_file.specs.Sound.{may_take}
use Rattle.mft_file.proofs.MaskSoundLemmas.{sound_with_mask}
use Rattle.mft_file.proofs.draft.Draft.push.Goals as goal

pub invariant_of-self-2 : goal.invariant_of-self-2
invariant_of-self-2 c =
    let inside = c.self.inside in
    let row = c.args.row in
    let takes : may_take (heading_of inside.stage) inside.rows.items row ≡ true = ap (λ draft. may_take (heading_of draft.stage) draft.rows row) c.self.view_is ∙ c.requires.open in
    rw (c.in_ok-push.ensures.items, c.reserve.ensures.items)
    (sound_with_mask (record { tables = inside.tables; stage = inside.stage; rows = inside.rows.items }) row c.self.invariant takes)
