-- Switches and their GUIDs, which stand in the same order.
use Rattle.std.proofs.Common.{◌≡◌, ℕ, false, not, ◌==◌, ◌∙◌, refl, List, [], ◌∷◌, ◌++◌, map, position, None}
use Rattle.std.specs.List.{list_any, prefix_len}
use Rattle.std.proofs.lemmas.List.{length-map, map_push}
use Rattle.indexmap.specs.IndexSet.{insert_key}
use Rattle.step_results.proofs.PlaceLemmas.{not_there}
use Rattle.step_results.proofs.TestLemmas.{same_either_way}
use Rattle.sweep.specs.declared.graph.GraphSwitch.{GraphSwitch}

first_of : (guid : ℕ) (switches : List GraphSwitch)
    → prefix_len (λ key. not (guid == key)) (map (λ switch. switch.guid) switches) ≡ prefix_len (λ switch. not (switch.guid == guid)) switches
first_of guid [] = refl
first_of guid (switch ∷ switches) = rw (same_either_way guid switch.guid, first_of guid switches) refl

pub place_by_guid : (guid : ℕ) (switches : List GraphSwitch)
    → position (λ key. guid == key) (map (λ switch. switch.guid) switches) ≡ position (λ switch. switch.guid == guid) switches
place_by_guid guid switches = rw (first_of guid switches, length-map switches (λ switch. switch.guid)) refl

pub any_by_guid : (guid : ℕ) (switches : List GraphSwitch)
    → list_any (λ key. guid == key) (map (λ switch. switch.guid) switches) ≡ list_any (λ switch. switch.guid == guid) switches
any_by_guid guid [] = refl
any_by_guid guid (switch ∷ switches) = rw (same_either_way guid switch.guid, any_by_guid guid switches) refl

-- a new GUID goes last, as its switch does
pub guids_grow : (switch : GraphSwitch) (switches : List GraphSwitch) → position (λ known. known.guid == switch.guid) switches ≡ None
    → insert_key (λ a b. a == b) (map (λ one. one.guid) switches) switch.guid ≡ map (λ one. one.guid) (switches ++ switch ∷ [])
guids_grow switch switches new =
    let absent : list_any (λ key. switch.guid == key) (map (λ one. one.guid) switches) ≡ false =
    any_by_guid switch.guid switches ∙ not_there (λ known. known.guid == switch.guid) switches new in
    rw (absent, map_push (λ one. one.guid) switches switch) refl
