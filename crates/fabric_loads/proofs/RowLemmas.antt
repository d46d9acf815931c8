-- The rows of the table that a switch holds: LIDs rise, and each row says whose its LID is.
use Rattle.std.proofs.Common.{ℕ, suc, ◌≡◌, ◌+◌, ◌-◌, ◌<◌, ◌==◌, ◌∙◌, ◌≤◌, ap, inl, inr, refl, sym, Bool, true, false, if◌then◌else◌, nat_le, List, [], ◌∷◌, ◌++◌, get_or, length, map, slice_get, take, Option, Some, None, arith}
use Rattle.std.specs.List.{AllByRecursion}
use Rattle.std.specs.Option.{option_or, option_to_list}
use Rattle.std.proofs.lemmas.Bool.{and_from, cases_lt, eqb-true, ne_eqb}
use Rattle.std.proofs.lemmas.Bool.Decides.{nat_tests}
use Rattle.std.proofs.lemmas.List.{append-nil, append_assoc, get_or-map, length-map, length-take-le, take_all, take_more}
use Rattle.std.proofs.lemmas.Option.{none-some, slice_get-get_or, slice_get_past}
use Rattle.dump_file.specs.declared.destination.Destination.{Destination}
use Rattle.dump_file.specs.declared.destination.Destination.TheVariants as destinations
use Rattle.dump_file.specs.declared.row.Row.{Row}
use Rattle.dump_file.specs.Destination.{guid_said}
use Rattle.dump_file.specs.Row.{end_of}
use Rattle.dump_file.specs.Sound.{rise}
use Rattle.lid_assign.specs.Lids.{guid_in}
use Rattle.step_results.proofs.ElementLemmas.{each_joined}
use Rattle.switch_model.specs.SwitchState.{SwitchState}
use Rattle.topo_file.specs.declared.node.Node.{Node}
use Rattle.fabric_loads.specs.HeldRows.{destination_of, held_entry, is_switchs, row_for, row_if, rows_from}

-- ---- one row more
rows_join : (nodes : List Node) (held : SwitchState) (first guid : ℕ) (guids : List ℕ)
    → rows_from nodes held first (guids ++ guid ∷ []) ≡ rows_from nodes held first guids ++ row_if nodes (first + length guids) guid (held_entry held (first + length guids))
rows_join nodes held first guid [] =
    let none_more : first ≡ first + 0 = omega arith in
    append-nil (row_if nodes first guid (held_entry held first)) ∙ ap (λ (lid : ℕ). row_if nodes lid guid (held_entry held lid)) none_more
rows_join nodes held first guid (one ∷ guids) =
    let here = row_if nodes first one (held_entry held first) in
    let moved : first + 1 + length guids ≡ first + suc (length guids) = omega arith in
    ap (λ (rest : List Row). here ++ rest) (rows_join nodes held (first + 1) guid guids
    ∙ ap (λ (lid : ℕ). rows_from nodes held (first + 1) guids ++ row_if nodes lid guid (held_entry held lid)) moved)
    ∙ sym (append_assoc here (rows_from nodes held (first + 1) guids) (row_if nodes (first + suc (length guids)) guid (held_entry held (first + suc (length guids)))))

length_taken : (guids : List ℕ) (index : ℕ) → index < length guids → length (take index guids) ≡ index
length_taken guids index within = length-take-le index guids (omega (arith, within))

pub rows_more : (nodes : List Node) (held : SwitchState) (guids : List ℕ) (all : List Destination) (index : ℕ) (none : Destination) (before after : List Row)
    → all ≡ map (destination_of nodes) guids → index < length all → before ≡ rows_from nodes held 1 (take index guids)
    → ((some : List Node) (guid : ℕ) → get_or all index none ≡ destination_of some guid → after ≡ before ++ row_if some (index + 1) guid (held_entry held (index + 1)))
    → after ≡ rows_from nodes held 1 (take (index + 1) guids)
rows_more nodes held guids all index none before after are within so_far more =
    let long : length all ≡ length guids = ap (λ (some : List Destination). length some) are ∙ length-map guids (destination_of nodes) in
    let low : index < length guids = omega (arith, within, long) in
    let guid = get_or guids index 0 in
    let said : get_or all index none ≡ destination_of nodes guid = ap (λ (some : List Destination). get_or some index none) are ∙ get_or-map (destination_of nodes) guids index 0 none low in
    let lid : index + 1 ≡ 1 + length (take index guids) = omega (arith, length_taken guids index low) in
    more nodes guid said ∙ ap (λ (rows : List Row). rows ++ row_if nodes (index + 1) guid (held_entry held (index + 1))) so_far
    ∙ ap (λ (n : ℕ). rows_from nodes held 1 (take index guids) ++ row_if nodes n guid (held_entry held n)) lid
    ∙ sym (rows_join nodes held 1 guid (take index guids)) ∙ ap (rows_from nodes held 1) (sym (take_more guids index 0 low))

-- ---- one GUID more
guid_at : (lids : List ℕ) (before : ℕ) → guid_in lids (before + 1) ≡ slice_get lids before
guid_at lids before =
    let back : before + 1 - 1 ≡ before = omega arith in
    ap (λ (b : Bool). if b then None else slice_get lids (before + 1 - 1)) (ne_eqb (before + 1) 0 (λ none. omega (arith, none))) ∙ ap (slice_get lids) back

pub guid_more : (lids : List ℕ) (before : ℕ) → take before lids ++ option_to_list (guid_in lids (before + 1)) ≡ take (before + 1) lids
guid_more lids before = ap (λ (found : Option ℕ). take before lids ++ option_to_list found) (guid_at lids before) ∙ (elim (cases_lt before (length lids)) [
  | inl less ↦
      ap (λ (found : Option ℕ). take before lids ++ option_to_list found) (slice_get-get_or lids before 0 less) ∙ sym (take_more lids before 0 less)
  | inr past ↦
      ap (λ (found : Option ℕ). take before lids ++ option_to_list found) (slice_get_past lids before past) ∙ append-nil (take before lids)
      ∙ take_all before lids past ∙ sym (take_all (before + 1) lids (omega (arith, past)))
])

-- ---- LIDs rise
pub rising_from : (nodes : List Node) (held : SwitchState) (top : ℕ) (guids : List ℕ) (first low : ℕ) → low ≤ first → first + length guids ≤ suc top
    → rise low top (rows_from nodes held first guids) ≡ true
rising_from nodes held top [] first low from to = refl
rising_from nodes held top (one ∷ guids) first low from to =
    by (held_entry held first == 255) (λ low' from'. rising_from nodes held top guids (first + 1) low' from' (omega (arith, to)))
  where
    by : (b : Bool) → ((low' : ℕ) → low' ≤ first + 1 → rise low' top (rows_from nodes held (first + 1) guids) ≡ true)
        → rise low top ((if b then [] else row_for nodes first one (held_entry held first) ∷ []) ++ rows_from nodes held (first + 1) guids) ≡ true
    by true rest = rest low (omega (arith, from))
    by false rest =
        let high : first ≤ top = omega (arith, to) in
        let above : nat_le low first ≡ true = grind (arith, nat_tests, from) in
        let below : nat_le first top ≡ true = grind (arith, nat_tests, high) in
        and_from (nat_le low first) _ above (and_from (nat_le first top) _ below (rest (first + 1) (omega arith)))

-- ---- whose a LID is
abbrev pub IsReported : List ℕ → Row → Type 0
IsReported lids row = (guid : ℕ) → guid_said row.destination ≡ Some guid → guid_in lids row.lid ≡ Some guid

module _ (planned : List Node) (lids : List ℕ) where
  pub reported_of : (lid : ℕ) (rows : List Row) (guid : ℕ) → AllByRecursion (IsReported lids) rows → end_of lid rows ≡ Some guid → guid_in lids lid ≡ Some guid
  reported_of lid [] guid reported is = absurd (none-some guid is)
  reported_of lid (row ∷ rows) guid reported is =
      by (row.lid == lid) refl (guid_said row.destination) refl is (λ rest. reported_of lid rows guid reported.1 rest)
    where
      by : (b : Bool) → (row.lid == lid) ≡ b → (o : Option ℕ) → guid_said row.destination ≡ o → option_or (if b then o else None) (end_of lid rows) ≡ Some guid
          → (end_of lid rows ≡ Some guid → guid_in lids lid ≡ Some guid) → guid_in lids lid ≡ Some guid
      by true here (Some one) said is later =
          ap (guid_in lids) (sym (eqb-true row.lid lid here)) ∙ reported.0 guid (said ∙ is)
      by true here None said is later = later is
      by false here o said is later = later is

  pub said_is : (guid : ℕ) → guid_said (destination_of planned guid) ≡ Some guid
  said_is guid = by (is_switchs planned guid)
    where
      by : (b : Bool) → guid_said (if b then destinations.Switch guid else destinations.ChannelAdapter guid) ≡ Some guid
      by true = refl
      by false = refl

  rows_reported : (held : SwitchState) (guids : List ℕ) (first : ℕ) → ((j guid : ℕ) → slice_get guids j ≡ Some guid → guid_in lids (first + j) ≡ Some guid)
      → AllByRecursion (IsReported lids) (rows_from planned held first guids)
  rows_reported held [] first each = tt
  rows_reported held (one ∷ guids) first each =
      each_joined (IsReported lids) (row_if planned first one (held_entry held first)) (rows_from planned held (first + 1) guids) (by (held_entry held first == 255))
      (rows_reported held guids (first + 1) (λ j guid there.
      let moved : first + suc j ≡ first + 1 + j = omega arith in ap (guid_in lids) (sym moved) ∙ each (suc j) guid there))
    where
      by : (b : Bool) → AllByRecursion (IsReported lids) (if b then [] else row_for planned first one (held_entry held first) ∷ [])
      by true = tt
      by false = (
        λ guid said.
            let none_more : first + 0 ≡ first = omega arith in
            ap (guid_in lids) (sym none_more) ∙ each 0 one refl ∙ sym (said_is one) ∙ said,
        tt,
      )

  from_first : (j guid : ℕ) → slice_get lids j ≡ Some guid → guid_in lids (1 + j) ≡ Some guid
  from_first j guid there =
      let back : 1 + j - 1 ≡ j = omega arith in
      ap (λ (b : Bool). if b then None else slice_get lids (1 + j - 1)) (ne_eqb (1 + j) 0 (λ none. omega (arith, none))) ∙ ap (slice_get lids) back ∙ there

  pub held_reported : (held : SwitchState) → AllByRecursion (IsReported lids) (rows_from planned held 1 lids)
  held_reported held = rows_reported held lids 1 from_first
