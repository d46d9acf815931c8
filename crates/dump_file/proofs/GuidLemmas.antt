-- The GUIDs of tables of different switches, kept beside them.
use Rattle.std.proofs.Common.{◌≡◌, ◌∙◌, ap, refl, subst, sym, ℕ, ◌+◌, ◌<◌, Bool, false, ◌==◌, ◌||◌, List, [], ◌∷◌, ◌++◌, drop, get_or, length, map, take, if◌then◌else◌, arith}
use Rattle.std.specs.List.{IsDistinct, list_any}
use Rattle.std.proofs.lemmas.Bool.{or_parts}
use Rattle.std.proofs.lemmas.Bool.Decides.{nat_tests}
use Rattle.std.proofs.lemmas.List.{drop_more, map_push, take-append-drop, take_more}
use Rattle.std.proofs.lemmas.List.Folds.{list_any-append}
use Rattle.std.proofs.lemmas.Map.Keys.{IsDistinct-tail}
use Rattle.step_results.proofs.DistinctLemmas.{none_shares}
use Rattle.step_results.proofs.ListLemmas.{any_map}
use Rattle.dump_file.specs.declared.table.Table.{Table}
use Rattle.dump_file.specs.Sound.{shares_switch}

-- a table is of another switch than each before it
pub is_new : (before rest : List Table) (table : Table) → IsDistinct shares_switch (before ++ table ∷ rest) → list_any (λ one. table.guid == one.guid) before ≡ false
is_new [] rest table own = refl
is_new (first ∷ before) rest table own =
    let none = none_shares shares_switch first (before ++ table ∷ rest) own in
    let parts = or_parts (list_any (shares_switch first) before) _ (sym (list_any-append (shares_switch first) before (table ∷ rest)) ∙ none) in
    let other = (or_parts (first.guid == table.guid) _ parts.1).0 in
    let apart : (table.guid == first.guid) ≡ false = grind (arith, nat_tests, other) in
    ap (λ (b : Bool). b || list_any (λ one. table.guid == one.guid) before) apart ∙ is_new before rest table (IsDistinct-tail shares_switch first (before ++ table ∷ rest) own)

pub guids_more : (keys : List ℕ) (tables : List Table) (index : ℕ) (table none : Table) → IsDistinct shares_switch tables → index < length tables → get_or tables index none ≡ table
    → keys ≡ map (λ one. one.guid) (take index tables)
    → (if list_any (λ key. table.guid == key) keys then keys else keys ++ table.guid ∷ []) ≡ map (λ one. one.guid) (take (index + 1) tables)
guids_more keys tables index table none own within here known =
    let parts : tables ≡ take index tables ++ table ∷ drop (index + 1) tables =
    sym (take-append-drop index tables) ∙ ap (λ (rest : List Table). take index tables ++ rest) (drop_more tables index none within)
    ∙ ap (λ (one : Table). take index tables ++ one ∷ drop (index + 1) tables) here in
    let new : list_any (λ key. table.guid == key) keys ≡ false =
    ap (list_any (λ key. table.guid == key)) known ∙ any_map (λ key. table.guid == key) (λ (one : Table). one.guid) (take index tables)
    ∙ is_new (take index tables) (drop (index + 1) tables) table (subst (IsDistinct shares_switch) parts own) in
    ap (λ (b : Bool). if b then keys else keys ++ table.guid ∷ []) new ∙ ap (λ (some : List ℕ). some ++ table.guid ∷ []) known
    ∙ sym (map_push (λ (one : Table). one.guid) (take index tables) table)
    ∙ ap (λ (one : Table). map (λ (x : Table). x.guid) (take index tables ++ one ∷ [])) (sym here)
    ∙ ap (map (λ (x : Table). x.guid)) (sym (take_more tables index none within))
