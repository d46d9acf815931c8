-- GUIDs that are looked up.
use Rattle.std.proofs.Common.{◌≡◌, ℕ, false, nat_eq, List, [], ◌∷◌, ◌++◌, refl}
use Rattle.indexmap.specs.IndexSet.{insert_key}
use Rattle.netdiscover_file.specs.Port.{is_reported}

-- a new GUID goes last
pub goes_last : (guid : ℕ) (keys reported : List ℕ) → keys ≡ reported → is_reported guid reported ≡ false → insert_key nat_eq keys guid ≡ reported ++ guid ∷ []
goes_last guid keys reported same new = rw (same, new) refl
