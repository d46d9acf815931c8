-- What the ports that a look-up leaves out would bring: nothing.
use Rattle.std.proofs.Common.{◌≡◌, ℕ, zero, suc, ◌/◌, ◌%◌, ◌^◌, ◌==◌, ◌&&◌, Bool, true, false, List, [], ◌∷◌, take, Option, Some, None}
use Rattle.std.proofs.Common.{refl, ap, inl, inr, arith}
use Rattle.std.proofs.lemmas.Bool.{cases_Bool, eqb-true, ne_eqb, eqb-false}
use Rattle.sa_records.specs.declared.node_record.NodeRecord.{NodeRecord}
use Rattle.sa_records.specs.declared.path_record.PathRecord.{PathRecord}
use Rattle.sa_records.specs.NodeRecord.{node_record_selected}
use Rattle.sa_records.specs.PathRecord.{path_record_selected}
use Rattle.subnet_model.specs.declared.subnet_port.SubnetPort.{SubnetPort}
use Rattle.sa_model.specs.Gid.{gid_of, gid_prefix}
use Rattle.sa_model.specs.Selected.{asks, at_most, few_paths, paths_selected}
use Rattle.sa_model.specs.Shown.{path_record_of}
use Rattle.sa_model.specs.Visible.{Path, keys_to, paths_under}
use Rattle.sa_answer.specs.Asked.{guid_in, is_reported}
use Rattle.sa_answer.proofs.PathLemmas.{under}

pub node_out : (own : SubnetPort) (mask : ℕ) (asked : NodeRecord) (port : SubnetPort) → asks mask 1 ≡ true → (port.lid == asked.lid) ≡ false
    → is_reported own mask asked port ≡ false
unfolding node_record_selected
node_out own mask asked port named other = rw (named, other) refl

-- where no path to a port agrees, there are few of them indeed
none_to : (mask : ℕ) (asked : PathRecord) (own other : SubnetPort) → ((key : ℕ) → path_record_selected mask (path_record_of (under own other key)) asked ≡ false)
    → (keys : List ℕ) → paths_selected mask asked (paths_under keys own other) ≡ []
none_to mask asked own other differ [] = refl
none_to mask asked own other differ (key ∷ keys) = rw (differ key) (none_to mask asked own other differ keys)

none_few : (most : Option ℕ) (paths : List Path) → paths ≡ [] → at_most most paths ≡ []
none_few None paths none = none
none_few (Some zero) paths none = ap (take zero) none
none_few (Some (suc n)) paths none = ap (take (suc n)) none

abbrev pub BringsNone : Option ℕ → ℕ → PathRecord → SubnetPort → SubnetPort → Type 0
BringsNone most mask asked own other = few_paths most mask asked own other ≡ []

pub gids_differ : (guid gid other : ℕ) → guid_in gid ≡ Some guid → (other == guid) ≡ false → (gid_of other == gid) ≡ false
gids_differ guid gid other h differ = elim (cases_Bool (gid / 2 ^ 64 == gid_prefix)) [
  | inl ours ↦
      let e : Some (gid % 2 ^ 64) ≡ Some guid = rw ours at h in
      let low : gid % 2 ^ 64 ≡ guid = cc in
      let high : gid / 2 ^ 64 ≡ gid_prefix = eqb-true (gid / 2 ^ 64) gid_prefix ours in
      let apart = eqb-false other guid differ in
      ne_eqb (gid_of other) gid (λ same. apart (omega arith))
  | inr foreign ↦ absurd (let nothing : Option ℕ = None in let e : nothing ≡ Some guid = rw foreign at h in cc)
]

pub guid_out : (most : Option ℕ) (mask : ℕ) (asked : PathRecord) (own other : SubnetPort) (guid : ℕ) → asks mask 4 ≡ true
    → guid_in asked.dgid ≡ Some guid → (other.guid == guid) ≡ false → BringsNone most mask asked own other
unfolding path_record_selected
guid_out most mask asked own other guid named is differ =
    let apart = gids_differ guid asked.dgid other.guid is differ in
    none_few most (paths_selected mask asked (paths_under (keys_to own other) own other))
    (none_to mask asked own other (λ key. rw (named, apart) refl) (keys_to own other))

and_third : (a b : Bool) → (a && (b && false)) ≡ false
and_third true true = refl
and_third true false = refl
and_third false b = refl

lid_fails : (mask : ℕ) (shown asked : PathRecord) → asks mask 16 ≡ true → (shown.dlid == asked.dlid) ≡ false → path_record_selected mask shown asked ≡ false
unfolding path_record_selected
lid_fails mask shown asked named differ = rw (named, differ) (and_third _ _)

pub lid_out : (most : Option ℕ) (mask : ℕ) (asked : PathRecord) (own other : SubnetPort) → asks mask 16 ≡ true
    → (other.lid == asked.dlid) ≡ false → BringsNone most mask asked own other
lid_out most mask asked own other named differ =
    none_few most (paths_selected mask asked (paths_under (keys_to own other) own other))
    (none_to mask asked own other (λ key. lid_fails mask (path_record_of (under own other key)) asked named differ) (keys_to own other))
