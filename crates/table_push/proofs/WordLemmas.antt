-- Keys as the words of a table.
use Rattle.std.proofs.Common.{ℕ, ◌≡◌, ◌-◌, ◌∙◌, ap, sym, Bool, List, ◌++◌, length, take, drop, map, replicate, arith}
use Rattle.std.proofs.lemmas.List.{drop-replicate, take-append-drop, take_all}
use Rattle.pkey_rules.specs.declared.key_table.TheConstants.{PARTITIONS}
use Rattle.table_push.specs.Keys.{held_as, key_table}

pub words_end : (full : Bool) (keys words : List ℕ) (place : ℕ) → place ≡ length keys → take place words ≡ map (held_as full) (take place keys)
    → drop place words ≡ drop place (replicate PARTITIONS 0) → words ≡ key_table full keys
words_end full keys words place all done rest =
    let whole : take place keys ≡ keys = take_all place keys (omega (arith, all)) in
    let empty : drop place (replicate PARTITIONS 0) ≡ replicate (PARTITIONS - length keys) 0 =
    drop-replicate place PARTITIONS 0 ∙ ap (λ (n : ℕ). replicate (PARTITIONS - n) 0) all in
    sym (take-append-drop place words) ∙ ap (λ (some : List ℕ). some ++ drop place words) (done ∙ ap (map (held_as full)) whole)
    ∙ ap (λ (some : List ℕ). map (held_as full) keys ++ some) (rest ∙ empty)
