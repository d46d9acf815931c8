-- All that is wrong of a port stands in the text.
use Rattle.std.proofs.Common.{◌≡◌, ◌∙◌, ap, refl, sym, subst, ℕ, zero, suc, Bool, true, false, List, [], ◌∷◌, ◌++◌, count_by, flat_map, slice_get, Option, Some, None}
use Rattle.std.specs.Str.Iter.{HasSubslice}
use Rattle.audit_plan.proofs.SubsliceLemmas.{stands_behind, stands_itself, stands_longer, stands_of_all, stands_of_lists}
use Rattle.audit_ports.specs.declared.port.AuditedPort.{AuditedPort}
use Rattle.audit_ports.specs.declared.port.TrunkLack.{TrunkLack}
use Rattle.audit_ports.specs.Strangers.{strangers}
use Rattle.audit_keys.specs.declared.differences.Difference.{Difference}
use Rattle.audit_keys.specs.Apart.{wide_lines}
use Rattle.audit_keys.specs.Cuts.{cut_lines}
use Rattle.audit_keys.specs.Diagnosis.{diagnosis, is_another}
use Rattle.audit_keys.specs.Differences.{facing_differences, port_differences}
use Rattle.audit_keys.specs.Laws.{AllDifferencesArePrinted}
use Rattle.partition_file.specs.declared.partition.Partition.{Partition}
use Rattle.topo_file.specs.declared.node.Node.{Node}
use Rattle.audit_keys.specs.declared.differences.DifferenceKind.TheVariants.{Off}
use Rattle.audit_keys.specs.Text.{are_off, audit_of, count_of, counts_of, difference_line, first_lines, is_faced, is_unread, later_lines, moved_by_guid, moved_line, moved_lines, switch_lines, text_by, trunk_line, trunk_lines, unread_line, unread_lines, verdict}

-- ---- the parts of the text
module _ (nodes : List Node) (all : Bool) (ports : List AuditedPort) (partitions : List Partition) where
  abbrev keys : List Difference
  keys = flat_map port_differences ports

  abbrev switches : List Difference
  switches = flat_map facing_differences ports

  abbrev text : List ℕ
  text = (audit_of nodes all ports partitions).text

  in_first : (line : List ℕ) → HasSubslice (first_lines nodes all ports keys) line → HasSubslice text line
  unfolding audit_of text_by
  in_first line printed =
      stands_longer _ (verdict ports) (stands_longer _ (counts_of ports keys switches) (stands_longer _ (later_lines nodes ports partitions switches) printed))

  in_later : (line : List ℕ) → HasSubslice (later_lines nodes ports partitions switches) line → HasSubslice text line
  unfolding audit_of text_by
  in_later line printed =
      stands_longer _ (verdict ports) (stands_longer _ (counts_of ports keys switches) (stands_behind _ (first_lines nodes all ports keys) printed))

  module _ (place : ℕ) (port : AuditedPort) (there : slice_get ports place ≡ Some port) where
    of_port : (differences : AuditedPort → List Difference) (number : ℕ) (difference : Difference) → slice_get (differences port) number ≡ Some difference
        → HasSubslice (flat_map (difference_line nodes) (flat_map differences ports)) (difference_line nodes difference)
    of_port differences number difference is =
        let line = difference_line nodes difference in
        stands_of_lists (difference_line nodes) differences line ports place port there
        (stands_of_all (difference_line nodes) line (differences port) number difference is (stands_itself line))

    key_printed : (number : ℕ) (difference : Difference) → slice_get (port_differences port) number ≡ Some difference
        → HasSubslice text (difference_line nodes difference)
    unfolding first_lines
    key_printed number difference is = in_first (difference_line nodes difference) first
      where
        first : HasSubslice (first_lines nodes all ports keys) (difference_line nodes difference)
        first = stands_behind _ _ (of_port port_differences number difference is)

    switch_printed : (number : ℕ) (difference : Difference) → slice_get (facing_differences port) number ≡ Some difference
        → are_off (count_by is_faced ports) (count_of Off switches) ≡ false → HasSubslice text (difference_line nodes difference)
    unfolding switch_lines later_lines
    switch_printed number difference is some = in_later (difference_line nodes difference) later
      where
        lines : HasSubslice (switch_lines nodes ports switches) (difference_line nodes difference)
        lines = rw some (of_port facing_differences number difference is)

        later : HasSubslice (later_lines nodes ports partitions switches) (difference_line nodes difference)
        later = stands_longer _ _ (stands_longer _ _ (stands_longer _ _ (stands_longer _ _ (stands_longer _ _ (stands_longer _ _ lines)))))

    trunk_printed : (number : ℕ) (lack : TrunkLack) → slice_get port.lacks number ≡ Some lack → HasSubslice text (trunk_line nodes lack)
    unfolding trunk_lines later_lines
    trunk_printed number lack is =
        let line = trunk_line nodes lack in
        in_later line
        (stands_longer line (wide_lines ports)
        (stands_longer line (strangers nodes ports partitions)
        (stands_longer line (flat_map (unread_lines nodes) ports)
        (stands_longer line (flat_map (moved_lines nodes) ports)
        (stands_behind line (switch_lines nodes ports switches ++ flat_map (cut_lines nodes ports) ports)
        (stands_of_all (trunk_lines nodes) line ports place port there (stands_of_all (trunk_line nodes) line port.lacks number lack is (stands_itself line))))))))

    unread_printed : is_unread port ≡ true → HasSubslice text (unread_line nodes port.port)
    unfolding unread_lines later_lines
    unread_printed is =
        let line = unread_line nodes port.port in
        let lines : unread_lines nodes port ≡ line = rw is refl in
        in_later line
        (stands_longer line (wide_lines ports)
        (stands_longer line (strangers nodes ports partitions)
        (stands_behind line
        (switch_lines nodes ports switches ++ flat_map (cut_lines nodes ports) ports ++ flat_map (trunk_lines nodes) ports ++ flat_map (moved_lines nodes) ports)
        (stands_of_all (unread_lines nodes) line ports place port there (subst (λ t. HasSubslice t line) (sym lines) (stands_itself line))))))

    moved_printed : (guid : ℕ) → port.moved ≡ Some guid → HasSubslice text (moved_line nodes port guid)
    unfolding moved_lines later_lines
    moved_printed guid is =
        let line = moved_line nodes port guid in
        let lines : moved_lines nodes port ≡ line = ap (moved_by_guid nodes port) is in
        in_later line
        (stands_longer line (wide_lines ports)
        (stands_longer line (strangers nodes ports partitions)
        (stands_longer line (flat_map (unread_lines nodes) ports)
        (stands_behind line (switch_lines nodes ports switches ++ flat_map (cut_lines nodes ports) ports ++ flat_map (trunk_lines nodes) ports)
        (stands_of_all (moved_lines nodes) line ports place port there (subst (λ t. HasSubslice t line) (sym lines) (stands_itself line)))))))

pub all_differences_are_printed : AllDifferencesArePrinted
all_differences_are_printed nodes all ports partitions place port there = record {
  keys = key_printed nodes all ports partitions place port there;
  switch_port = switch_printed nodes all ports partitions place port there;
  trunks = trunk_printed nodes all ports partitions place port there;
  unread = unread_printed nodes all ports partitions place port there;
  moved = moved_printed nodes all ports partitions place port there;
}
