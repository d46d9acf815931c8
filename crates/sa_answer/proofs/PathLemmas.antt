-- The paths under the keys that a port holds, as they are gone through.
use Rattle.std.proofs.Common.{◌≡◌, ℕ, zero, suc, ◌+◌, ◌-◌, ◌<◌, ◌≤◌, true, false, List, [], ◌∷◌, ◌++◌, filter, length, map, take, drop, get_or, refl, sym, ◌∙◌, ap, arith}
use Rattle.std.proofs.lemmas.List.{drop_more, length-map, take_all}
use Rattle.pkey_rules.specs.KeyTable.{accepts}
use Rattle.sa_records.specs.declared.path_record.PathRecord.{PathRecord}
use Rattle.sa_records.specs.PathRecord.{path_record_selected}
use Rattle.subnet_model.specs.declared.subnet_port.SubnetPort.{SubnetPort}
use Rattle.sa_replies.proofs.OpenTableLemmas.{filter_few}
use Rattle.sa_model.specs.Selected.{paths_selected}
use Rattle.sa_model.specs.Shown.{path_record_of}
use Rattle.sa_model.specs.Visible.{Path, paths_under}
use Rattle.sa_answer.specs.Replying.{path_bytes}

-- those under some keys that the other port accepts, and that agree with a request
abbrev pub agreeing : ℕ → PathRecord → SubnetPort → SubnetPort → List ℕ → List Path
agreeing mask asked own other keys = paths_selected mask asked (paths_under (filter (λ key. accepts key other.keys) keys) own other)

abbrev pub under : SubnetPort → SubnetPort → ℕ → Path
under own other key = record { origin = own; destination = other; key = key }

-- one key more
pub agreeing_yes : (mask : ℕ) (asked : PathRecord) (own other : SubnetPort) (keys : List ℕ) (i key : ℕ) → i < length keys → key ≡ get_or keys i key
    → accepts key other.keys ≡ true → path_record_selected mask (path_record_of (under own other key)) asked ≡ true
    → agreeing mask asked own other (drop i keys) ≡ under own other key ∷ agreeing mask asked own other (drop (i + 1) keys)
agreeing_yes mask asked own other keys i key within is accepted agrees =
    ap (agreeing mask asked own other) (drop_more keys i key within ∙ ap (λ (k : ℕ). k ∷ drop (i + 1) keys) (sym is)) ∙ rw (accepted, agrees) refl

pub agreeing_closed : (mask : ℕ) (asked : PathRecord) (own other : SubnetPort) (keys : List ℕ) (i key : ℕ) → i < length keys → key ≡ get_or keys i key
    → accepts key other.keys ≡ false
    → agreeing mask asked own other (drop i keys) ≡ agreeing mask asked own other (drop (i + 1) keys)
agreeing_closed mask asked own other keys i key within is closed =
    ap (agreeing mask asked own other) (drop_more keys i key within ∙ ap (λ (k : ℕ). k ∷ drop (i + 1) keys) (sym is)) ∙ rw closed refl

pub agreeing_no : (mask : ℕ) (asked : PathRecord) (own other : SubnetPort) (keys : List ℕ) (i key : ℕ) → i < length keys → key ≡ get_or keys i key
    → accepts key other.keys ≡ true → path_record_selected mask (path_record_of (under own other key)) asked ≡ false
    → agreeing mask asked own other (drop i keys) ≡ agreeing mask asked own other (drop (i + 1) keys)
agreeing_no mask asked own other keys i key within is accepted differs =
    ap (agreeing mask asked own other) (drop_more keys i key within ∙ ap (λ (k : ℕ). k ∷ drop (i + 1) keys) (sym is)) ∙ rw (accepted, differs) refl

-- ---- as many as are wanted, one after another
pub one_wanted : (left : ℕ) (path : Path) (all rest : List Path) (one : List ℕ) → 0 < left → all ≡ path ∷ rest → one ≡ path_bytes path
    → map path_bytes (take left all) ≡ (one ∷ []) ++ map path_bytes (take (left - 1) rest)
one_wanted zero path all rest one some is encoded = absurd (omega arith)
one_wanted (suc n) path all rest one some is encoded =
    let e : suc n - 1 ≡ n = omega arith in
    rw (is, encoded, e) refl

pub nothing_left : (left : ℕ) (all rest : List Path) → left ≤ 0 → map path_bytes (take left all) ≡ map path_bytes (take left rest)
nothing_left zero all rest none = refl
nothing_left (suc n) all rest none = absurd (omega arith)

agreeing_low : (mask : ℕ) (asked : PathRecord) (own other : SubnetPort) (keys : List ℕ) → length (agreeing mask asked own other keys) ≤ length keys
agreeing_low mask asked own other keys =
    let accepted = filter (λ key. accepts key other.keys) keys in
    let a = filter_few (λ key. accepts key other.keys) keys in
    let b = length-map accepted (under own other) in
    let c = filter_few (λ path. path_record_selected mask (path_record_of path) asked) (paths_under accepted own other) in
    omega arith

pub all_wanted : (mask : ℕ) (asked : PathRecord) (own other : SubnetPort) (keys : List ℕ)
    → take (length keys) (agreeing mask asked own other keys) ≡ agreeing mask asked own other keys
all_wanted mask asked own other keys = take_all (length keys) (agreeing mask asked own other keys) (agreeing_low mask asked own other keys)
