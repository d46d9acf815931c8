-- What counts as the same, and how lines are signed.
use Rattle.std.proofs.Common.{◌≡◌, ◌↔◌, ℕ, true, ◌==◌, ◌&&◌, List, Option, Some, None, refl, ap, ◌∙◌}
use Rattle.std.proofs.lemmas.Bool.{and_from, and_parts, eq-eqb, eqb-true}
use Rattle.partition_file.specs.declared.broadcast_group.BroadcastGroup.{BroadcastGroup}
use Rattle.partition_file.specs.declared.heading.Heading.{Heading}
use Rattle.partition_reports.specs.Shares.{Share, share_line}
use Rattle.subnet_model.specs.declared.subnet_port.SubnetPort.{SubnetPort}
use Rattle.partition_reports.specs.Changes.{change_of_member_line, group_line, partition_line, same_group, same_groups, same_member, same_share}
use Rattle.partition_reports.specs.ChangeLaws.{AreSigned, IsShownAlike, LinesAreSigned, SameIsWhatIsCompared}
use Rattle.partition_reports.proofs.KindLemmas.{alike, fields_alike, fields_if, same_if, AlikeFields}

-- a group is its five fields
one_group : (a b : BroadcastGroup) → AlikeFields a b → a ≡ b
one_group a b e =
    ap (λ n. record a { scope = n }) e.0
    ∙ (ap (λ n. record a { scope = b.scope; q_key = n }) e.1.0
    ∙ (ap (λ n. record a { scope = b.scope; q_key = b.q_key; mtu = n }) e.1.1.0
    ∙ (ap (λ n. record a { scope = b.scope; q_key = b.q_key; mtu = b.mtu; rate = n }) e.1.1.1.0
    ∙ ap (λ n. record b { service_level = n }) e.1.1.1.1)))

same_fields_of : (a b : BroadcastGroup) → a ≡ b → AlikeFields a b
same_fields_of a b e = (
  ap (λ (x : BroadcastGroup). x.scope) e,
  (
    ap (λ (x : BroadcastGroup). x.q_key) e,
    (
      ap (λ (x : BroadcastGroup). x.mtu) e,
      (ap (λ (x : BroadcastGroup). x.rate) e, ap (λ (x : BroadcastGroup). x.service_level) e),
    ),
  ),
)

shown_if : (a b : Option BroadcastGroup) → same_groups a b ≡ true → IsShownAlike a b
shown_if None b e = absurd (cc)
shown_if (Some a) None e = absurd (cc)
shown_if (Some a) (Some b) e = one_group a b (fields_alike a b e)

groups_if : (a b : Option BroadcastGroup) → IsShownAlike a b → same_groups a b ≡ true
groups_if None b e = absurd e
groups_if (Some a) None e = absurd e
groups_if (Some a) (Some b) e = fields_if a b (same_fields_of a b e)

group_is_shown : (a b : Heading) → same_group a b ≡ true ↔ ((a.base ≡ b.base) × IsShownAlike a.group b.group)
group_is_shown a b = (
  λ e. let p = and_parts (a.base == b.base) (same_groups a.group b.group) e in (eqb-true a.base b.base p.0, shown_if a.group b.group p.1),
  λ e. and_from (a.base == b.base) (same_groups a.group b.group) (eq-eqb a.base b.base e.0) (groups_if a.group b.group e.1),
)

member_is_shown : (a b : SubnetPort × ℕ) → same_member a b ≡ true ↔ ((a.0.guid ≡ b.0.guid) × (a.1 ≡ b.1))
member_is_shown a b = (
  λ e. let p = and_parts (a.0.guid == b.0.guid) (a.1 == b.1) e in (eqb-true a.0.guid b.0.guid p.0, eqb-true a.1 b.1 p.1),
  λ e. and_from (a.0.guid == b.0.guid) (a.1 == b.1) (eq-eqb a.0.guid b.0.guid e.0) (eq-eqb a.1 b.1 e.1),
)

share_is_shown : (a b : Share) → same_share a b ≡ true
    ↔ ((a.first.guid ≡ b.first.guid) × ((a.second.guid ≡ b.second.guid) × (a.base ≡ b.base)))
share_is_shown a b = (
  λ e.
      let p = and_parts (a.first.guid == b.first.guid) ((a.second.guid == b.second.guid) && (a.base == b.base)) e in
      let q = and_parts (a.second.guid == b.second.guid) (a.base == b.base) p.1 in
      (eqb-true a.first.guid b.first.guid p.0, (eqb-true a.second.guid b.second.guid q.0, eqb-true a.base b.base q.1)),
  λ e.
      and_from (a.first.guid == b.first.guid) ((a.second.guid == b.second.guid) && (a.base == b.base)) (eq-eqb a.first.guid b.first.guid e.0)
      (and_from (a.second.guid == b.second.guid) (a.base == b.base) (eq-eqb a.second.guid b.second.guid e.1.0) (eq-eqb a.base b.base e.1.1)),
)

pub same_is_what_is_compared : SameIsWhatIsCompared
same_is_what_is_compared = record {
  partitions = λ a b. (λ e. alike a b e, λ e. same_if a b e);
  groups = group_is_shown;
  members = member_is_shown;
  shares = share_is_shown;
}

signed : (X : Type 0) (line : X → List ℕ) → AreSigned X line
signed X line x changes = (refl, refl)

pub lines_are_signed : LinesAreSigned
lines_are_signed = record {
  partitions = signed (ℕ × Heading) partition_line;
  groups = signed Heading group_line;
  members = signed (SubnetPort × ℕ) change_of_member_line;
  shares = signed Share share_line;
}
