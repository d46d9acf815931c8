-- The lines of shares as they are found: by the bases of the first port's keys.
use Rattle.std.specs.Prelude.{ℕ, ◌≡◌, Bool, ◌==◌, ◌&&◌, List, [], ◌∷◌, ◌++◌, Option, if◌then◌else◌}
use Rattle.std.specs.List.{flat_map, list_any}
use Rattle.std.specs.List.Sorted.{IsStrictlyIncreasing}
use Rattle.pkey_rules.specs.KeyTable.{shares_base}
use Rattle.pkey_rules.specs.PKey.{base_of, matches}
use Rattle.partition_reports.specs.Shares.{Share, is_asked, pair_shares, share_line}
use Rattle.subnet_model.specs.declared.subnet_port.SubnetPort.{SubnetPort}

-- the bases of these keys, each once, rising
pub record AreBases (keys bases : List ℕ) : Type 0 where
  pub rising : IsStrictlyIncreasing bases
  pub same : (base : ℕ) → list_any (λ one. one == base) bases ≡ list_any (λ key. base_of key == base) keys

-- some key of this base matches
abbrev pub has_match : ℕ → ℕ → List ℕ → Bool
has_match base key keys = list_any (λ held. (base_of held == base) && matches held key) keys

abbrev pub share_of : SubnetPort → SubnetPort → ℕ → Share
share_of p q base = record { first = p; second = q; base = base }

-- the line of two ports for this base, if they may talk there
abbrev pub base_text : SubnetPort → SubnetPort → ℕ → List ℕ
base_text p q base = if shares_base base p.keys q.keys then share_line (share_of p q base) else []

-- their lines for all bases
abbrev pub pair_text : SubnetPort → SubnetPort → List ℕ
pair_text p q = flat_map share_line (pair_shares p q)

abbrev pub asked_text : Option ℕ → SubnetPort → SubnetPort → List ℕ
asked_text asked p q = if is_asked asked p q then pair_text p q else []

abbrev pub found_text : Option ℕ → List SubnetPort → List ℕ
found_text asked [] = []
found_text asked (p ∷ ports) = flat_map (asked_text asked p) ports ++ found_text asked ports
