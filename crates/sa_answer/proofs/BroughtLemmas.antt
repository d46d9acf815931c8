-- What requests for nodes and paths bring.
use Rattle.std.proofs.Common.{◌≡◌, ℕ, ◌++◌, List, [], ◌∷◌, filter, map, Option, Some, None, Ok, Err, refl, sym, ◌∙◌, ap, inl, inr}
use Rattle.std.specs.List.{flat_map}
use Rattle.std.proofs.lemmas.Bool.{cases_Bool}
use Rattle.sa_store.specs.Kept.{KeptPort, ports_of, node_bytes}
use Rattle.mad_layout.specs.declared.status.MadStatus.{MadStatus}
use Rattle.sa_records.specs.declared.node_record.NodeRecord.{NodeRecord}
use Rattle.sa_records.specs.declared.path_record.PathRecord.{PathRecord}
use Rattle.sa_records.specs.NodeRecord.{node_record_selected}
use Rattle.subnet_model.specs.declared.subnet_port.SubnetPort.{SubnetPort}
use Rattle.sa_model.specs.Outcome.{the_only_one, unless_status}
use Rattle.sa_model.specs.Refusals.{refusal}
use Rattle.sa_model.specs.Selected.{Query, few_paths, nodes_selected, paths_wanted, selected}
use Rattle.sa_model.specs.Shown.{node_entry, node_record_of, path_entry}
use Rattle.sa_model.specs.Visible.{Path, SaState, may_know, visible_nodes}
use Rattle.sa_replies.specs.Answer.{all_records, get_outcome, one_record, table_outcome}
use Rattle.sa_answer.specs.Answering.{Brings}
use Rattle.sa_answer.specs.Asked.{is_reported, node_reported, paths_reported}
use Rattle.sa_answer.specs.Replying.{path_bytes}
use Rattle.sa_answer.specs.Taken.{bytes_of}
use Rattle.sa_answer.proofs.TakenLemmas.{bytes_are, flat_reported}
use Rattle.sa_answer.proofs.SelectLemmas.{filter_both}

-- ---- refused
pub get_refused : (ports : List SubnetPort) (own : SubnetPort) (state : SaState) (query : Query) (status : MadStatus) → refusal own query ≡ Some status
    → Brings state (get_outcome ports own state (Some query)) (Err status)
get_refused ports own state query status is = refused (refusal own query) is
  where
    refused : (reported : Option MadStatus) → reported ≡ Some status
        → Brings state (one_record state (unless_status reported (the_only_one (selected (Some 1) ports own state query)))) (Err status)
    refused None h = absurd (cc)
    refused (Some other) h = cc

pub table_refused : (ports : List SubnetPort) (own : SubnetPort) (state : SaState) (query : Query) (status : MadStatus) → refusal own query ≡ Some status
    → table_outcome ports own state (Some query) ≡ Err status
table_refused ports own state query status is = refused (refusal own query) is
  where
    refused : (reported : Option MadStatus) → reported ≡ Some status
        → all_records query (unless_status reported (Ok (selected (paths_wanted query) ports own state query))) ≡ Err status
    refused None h = absurd (cc)
    refused (Some other) h = cc

-- ---- and not refused
pub get_taken : (ports : List SubnetPort) (own : SubnetPort) (state : SaState) (query : Query) → refusal own query ≡ None
    → get_outcome ports own state (Some query) ≡ one_record state (the_only_one (selected (Some 1) ports own state query))
get_taken ports own state query none = ap (λ reported. one_record state (unless_status reported (the_only_one (selected (Some 1) ports own state query)))) none

pub table_taken : (ports : List SubnetPort) (own : SubnetPort) (state : SaState) (query : Query) → refusal own query ≡ None
    → table_outcome ports own state (Some query) ≡ all_records query (Ok (selected (paths_wanted query) ports own state query))
table_taken ports own state query none = ap (λ reported. all_records query (unless_status reported (Ok (selected (paths_wanted query) ports own state query)))) none

pub reported_nodes : (ports : List SubnetPort) (own : SubnetPort) (mask : ℕ) (asked : NodeRecord)
    → filter (is_reported own mask asked) ports ≡ nodes_selected mask asked (visible_nodes ports own)
reported_nodes ports own mask asked = filter_both (λ node. node_record_selected mask (node_record_of node) asked) (may_know own) ports

nodes_walked : (own : SubnetPort) (mask : ℕ) (asked : NodeRecord) (kept : List KeptPort)
    → flat_map (node_reported own mask asked) kept ≡ map node_bytes (filter (is_reported own mask asked) (ports_of kept))
nodes_walked own mask asked [] = refl
nodes_walked own mask asked (one ∷ kept) = elim (cases_Bool (is_reported own mask asked one.port)) [
  | inl does ↦ rw does (ap (λ (rest : List (List ℕ)). node_bytes one.port ∷ rest) (nodes_walked own mask asked kept))
  | inr differs ↦ rw differs (nodes_walked own mask asked kept)
]

pub nodes_shown : (ports : List SubnetPort) (own : SubnetPort) (mask : ℕ) (asked : NodeRecord) (kept : List KeptPort)
    → filter (is_reported own mask asked) (ports_of kept) ≡ filter (is_reported own mask asked) ports
    → flat_map (node_reported own mask asked) kept ≡ bytes_of (map node_entry (nodes_selected mask asked (visible_nodes ports own)))
nodes_shown ports own mask asked kept same =
    nodes_walked own mask asked kept
    ∙ (ap (map node_bytes) (same ∙ reported_nodes ports own mask asked) ∙ sym (bytes_are node_entry (nodes_selected mask asked (visible_nodes ports own))))

few_of : (few : SubnetPort → List Path) (kept : List KeptPort) → flat_map (λ one. few one.port) kept ≡ flat_map few (ports_of kept)
few_of few [] = refl
few_of few (one ∷ kept) = ap (λ (rest : List Path). few one.port ++ rest) (few_of few kept)

pub paths_shown : (ports : List SubnetPort) (own : SubnetPort) (most : Option ℕ) (mask : ℕ) (asked : PathRecord) (kept : List KeptPort)
    → flat_map (few_paths most mask asked own) (ports_of kept) ≡ flat_map (few_paths most mask asked own) ports
    → flat_map (paths_reported most mask asked own) kept ≡ bytes_of (map path_entry (flat_map (few_paths most mask asked own) ports))
paths_shown ports own most mask asked kept same =
    flat_reported path_bytes (λ (one : KeptPort). few_paths most mask asked own one.port) kept
    ∙ (ap (map path_bytes) (few_of (few_paths most mask asked own) kept ∙ same) ∙ sym (bytes_are path_entry (flat_map (few_paths most mask asked own) ports)))
