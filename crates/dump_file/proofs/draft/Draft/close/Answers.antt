use Rattle.std.proofs.Common.{◌≡◌, ◌∙◌, ap, List, Some}
use Rattle.std.specs.Option.{option_or}
use Rattle.dump_file.specs.declared.row.Row.{Row}
use Rattle.dump_file.specs.Dump.{DraftState, heading_of}
use Rattle.dump_file.specs.Index.{end_known}
use Rattle.dump_file.specs.Row.{end_of}
use Rattle.dump_file.specs.Table.{table_of}
use Rattle.dump_file.proofs.LatestLemmas.{switches_more}
use Rattle.dump_file.proofs.EndLemmas.{knows_closed}
use Rattle.dump_file.proofs.SoundLemmas.{sound_closed}
use Rattle.dump_file.proofs.draft.Draft.close.Goals as goal

pub invariant_of-self-2 : goal.invariant_of-self-2
invariant_of-self-2 c =
    let inside = c.self.inside in
    let before : DraftState = record { tables = inside.tables.items; by_lid = inside.by_lid.keys; stage = inside.stage; rows = inside.rows.items } in
    let under : heading_of inside.stage ≡ Some c.args.heading = ap (λ draft. heading_of draft.stage) c.self.view_is ∙ c.requires.open in
    rw (
      c.in_ok-push.ensures.items,
      c.in_ok-note_by_lid.ensures,
      c.in_ok-insert.ensures.keys,
      c.reserve.ensures.items,
      c.of.ensures,
      c.of-rows.ensures,
      c.replace.ensures.value,
      c.replace.ensures.after,
      c.new-2.ensures.items,
    ) (
      sound_closed before c.args.heading c.self.invariant.0 under,
      (
        switches_more inside.known.keys inside.tables.items (table_of c.args.heading inside.rows.items) c.self.invariant.1.0,
        knows_closed inside.ends c.add_rows.new.self inside.tables.items c.args.heading inside.rows.items c.self.invariant.1.1
            (λ lid. c.in_default.ensures lid ∙ ap (λ (rows : List Row). option_or (end_known inside.ends lid) (end_of lid rows)) c.as_slice.ensures.value),
      ),
    )
