-- A port that is found in a word.
use Rattle.std.proofs.Common.{◌≡◌, ℕ, ◌+◌, ◌-◌, ◌<◌, true, List, length, take, drop, Some, refl, sym, ap, subst, ◌∙◌, arith}
use Rattle.std.specs.List.{list_any, before_first, after_first, position_or_len}
use Rattle.std.proofs.lemmas.Bool.{lt-ltb}
use Rattle.std.proofs.lemmas.List.{take_all, length-drop}
use Rattle.text_words.specs.Number.{number_in}
use Rattle.text_words.specs.Words.{is_name, is_slash, port_in}
use Rattle.step_results.proofs.PlaceLemmas.{list_any_place}

pub port_found : (word : List ℕ) (slash n : ℕ) → slash ≡ position_or_len is_slash word → slash < length word → is_name (take slash word) ≡ true
    → number_in (take (length word - (slash + 1)) (drop (slash + 1) word)) ≡ Some n → Some (record { name = take slash word; number = n }) ≡ port_in word
port_found word slash n place within named number =
    let slashed : list_any is_slash word ≡ true = list_any_place is_slash word ∙ lt-ltb _ _ (subst (λ (k : ℕ). k < length word) place within) in
    let whole : take (length word - (slash + 1)) (drop (slash + 1) word) ≡ drop (slash + 1) word = take_all _ _ (omega (arith, length-drop (slash + 1) word)) in
    let before : is_name (before_first is_slash word) ≡ true = subst (λ (k : ℕ). is_name (take k word) ≡ true) place named in
    let after : number_in (after_first is_slash word) ≡ Some n = subst (λ (k : ℕ). number_in (drop (k + 1) word) ≡ Some n) place (sym (ap number_in whole) ∙ number) in
    let found : port_in word ≡ Some (record { name = before_first is_slash word; number = n }) = rw (slashed, before, after) refl in
    ap (λ (k : ℕ). Some (record { name = take k word; number = n })) place ∙ sym found
