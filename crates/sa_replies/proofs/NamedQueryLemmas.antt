-- Gets and GetTables of two requests that are the same where the mask names a field.
use Rattle.std.proofs.Common.{ℕ, ◌≡◌, ◌∙◌, ◌==◌, true, not, List, [], ◌∷◌, map, filter, Option, Some, None, Result, Ok, Err, ap, refl}
use Rattle.std.specs.List.{flat_map}
use Rattle.step_results.proofs.BoolLemmas.{and_alike}
use Rattle.mad_layout.specs.declared.status.MadStatus.{MadStatus}
use Rattle.mad_layout.specs.declared.status.MadStatus.TheVariants.{RequestInvalid, InvalidGid, InsufficientComponents}
use Rattle.sa_records.specs.McMemberMask as member_mask
use Rattle.sa_records.specs.PathMask as path_mask
use Rattle.sa_records.specs.declared.mc_member_record.McMemberRecord.{McMemberRecord}
use Rattle.sa_records.specs.declared.node_record.NodeRecord.{NodeRecord}
use Rattle.sa_records.specs.declared.path_record.PathRecord.{PathRecord}
use Rattle.subnet_model.specs.declared.subnet_port.SubnetPort.{SubnetPort}
use Rattle.sa_model.specs.Gid.{gid_of}
use Rattle.sa_model.specs.Outcome.{table, the_only_one, unless_status}
use Rattle.sa_model.specs.Refusals.{asks_unknown_mtu, asks_unknown_rate, first_refusal, has_foreign_sgid, has_no_sender, is_mtu_code, is_rate_code, refusal, refused_if, wants_no_path}
use Rattle.sa_model.specs.Selected.{Query, asks, at_most, paths_wanted, selected}
use Rattle.sa_model.specs.Shown.{Entry, group_entry, group_record_of, node_entry, node_record_of, path_entry, path_record_of}
use Rattle.sa_model.specs.Visible.{SaState, paths_to, visible_groups, visible_nodes}
use Rattle.sa_replies.specs.Answer.{all_records, get_outcome, offset_of, one_record, table_outcome}
use Rattle.sa_records.specs.SaRecord.{record_bytes}
use Rattle.sa_replies.specs.Success.{Success}
use Rattle.sa_replies.proofs.NamedLemmas.{asks_part, only_then}
use Rattle.sa_replies.proofs.NamedRecordLemmas.{SameGroup, SameNode, SamePath, group_selected_same, node_selected_same, path_selected_same}

-- ---- two queries that are refused alike, and select the same
pub record SameQuery (ports : List SubnetPort) (own : SubnetPort) (state : SaState) (x y : Query) : Type 0 where
  pub refused : refusal own x ≡ refusal own y
  pub found : (most : Option ℕ) → selected most ports own state x ≡ selected most ports own state y
  pub wanted : paths_wanted x ≡ paths_wanted y
  pub offset : offset_of x ≡ offset_of y

-- ---- codes that are looked at only with both of their bits
pub unknown_mtu_same : (mask bits a b : ℕ) → (asks mask bits ≡ true → a ≡ b) → asks_unknown_mtu mask bits a ≡ asks_unknown_mtu mask bits b
unknown_mtu_same mask bits a b same = and_alike (asks mask bits) _ _ (λ e. ap (λ (n : ℕ). not (is_mtu_code n)) (same e))

pub unknown_rate_same : (mask bits a b : ℕ) → (asks mask bits ≡ true → a ≡ b) → asks_unknown_rate mask bits a ≡ asks_unknown_rate mask bits b
unknown_rate_same mask bits a b same = and_alike (asks mask bits) _ _ (λ e. ap (λ (n : ℕ). not (is_rate_code n)) (same e))

module _ (ports : List SubnetPort) (own : SubnetPort) (state : SaState) (mask : ℕ) where
  pub node_query : (x y : NodeRecord) → SameNode mask x y → SameQuery ports own state (Query.for_nodes mask x) (Query.for_nodes mask y)
  node_query x y same = record {
    refused = refl;
    found = λ most. (λ i. map node_entry (filter (λ node. node_selected_same mask (node_record_of node) x y same i) (visible_nodes ports own)));
    wanted = refl;
    offset = refl;
  }

  pub group_query : (x y : McMemberRecord) → SameGroup mask x y → SameQuery ports own state (Query.for_groups mask x) (Query.for_groups mask y)
  group_query x y same = record {
    refused =
        let mtu = unknown_mtu_same mask member_mask.mtu x.mtu y.mtu (λ e. same.mtu (asks_part mask member_mask.mtu 32 refl e)) in
        let rate = unknown_rate_same mask member_mask.rate x.rate y.rate (λ e. same.rate (asks_part mask member_mask.rate 512 refl e)) in
        (λ i. first_refusal (refused_if (mtu i) RequestInvalid ∷ refused_if (rate i) RequestInvalid ∷ []));
    found = λ most. (λ i. map group_entry (filter (λ one. group_selected_same mask (group_record_of one) x y same i) (visible_groups own state.partitions)));
    wanted = refl;
    offset = refl;
  }

  pub path_query : (x y : PathRecord) → SamePath mask x y → SameQuery ports own state (Query.for_paths mask x) (Query.for_paths mask y)
  path_query x y same = record {
    refused =
        let foreign : has_foreign_sgid own mask x ≡ has_foreign_sgid own mask y =
        and_alike (asks mask path_mask.sgid) _ _ (λ e. ap (λ (n : ℕ). not (n == gid_of own.guid)) (same.sgid e)) in
        let none : wants_no_path mask x ≡ wants_no_path mask y =
        and_alike (asks mask path_mask.numb_path) _ _ (λ e. ap (λ (n : ℕ). n == 0) (same.numb_path e)) in
        let mtu = unknown_mtu_same mask path_mask.mtu x.mtu y.mtu (λ e. same.mtu (asks_part mask path_mask.mtu 131072 refl e)) in
        let rate = unknown_rate_same mask path_mask.rate x.rate y.rate (λ e. same.rate (asks_part mask path_mask.rate 524288 refl e)) in
        (λ i. first_refusal (refused_if (has_no_sender mask) InsufficientComponents
        ∷ refused_if (foreign i) InvalidGid
        ∷ refused_if (none i) RequestInvalid
        ∷ refused_if (mtu i) RequestInvalid
        ∷ refused_if (rate i) RequestInvalid
        ∷ []));
    found = λ most. (λ i. map path_entry
        (flat_map (λ other. at_most most (filter (λ path. path_selected_same mask (path_record_of path) x y same i) (paths_to own other))) ports));
    wanted = only_then (asks mask path_mask.numb_path) (Some x.numb_path) (Some y.numb_path) (λ e. ap (λ (n : ℕ). Some n) (same.numb_path e)) None;
    offset = refl;
  }

  -- ---- what they end in
  pub get_same : (x y : Query) → SameQuery ports own state x y → get_outcome ports own state (Some x) ≡ get_outcome ports own state (Some y)
  get_same x y same =
      let found = same.found (Some 1) in
      (λ i. one_record state (unless_status (same.refused i) (the_only_one (found i))))

  records_same : (x y : Query) (result : Result (List Entry) MadStatus) → offset_of x ≡ offset_of y → all_records x result ≡ all_records y result
  records_same x y (Ok entries) offset = (λ i. Ok (Success.whole_table (offset i) (flat_map (λ entry. record_bytes entry.shown) entries)))
  records_same x y (Err status) offset = refl

  pub table_same : (x y : Query) → SameQuery ports own state x y → table_outcome ports own state (Some x) ≡ table_outcome ports own state (Some y)
  table_same x y same =
      let found = same.found (paths_wanted x) in
      let entries : table ports own state x ≡ table ports own state y =
      (λ i. unless_status (same.refused i) (Ok (found i)))
      ∙ ap (λ most. unless_status (refusal own y) (Ok (selected most ports own state y))) same.wanted in
      records_same x y (table ports own state x) same.offset ∙ ap (all_records y) entries
