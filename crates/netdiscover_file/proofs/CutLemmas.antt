-- The last byte of a text that passes a test.
use Rattle.std.proofs.Common.{◌≡◌, ℕ, zero, suc, ◌+◌, ◌<◌, Bool, true, false, List, [], ◌∷◌, length, take, drop, slice_index, Some, None, refl, arith}
use Rattle.std.proofs.lemmas.Bool.{false_from_ne_true}
use Rattle.memchr.specs.Find.{NoneAfter, Nowhere, Passes}
use Rattle.netdiscover_file.specs.Cut.{cut_at_last}

-- none passes
pub none_last : (test : ℕ → Bool) (text : List ℕ) → ((k : ℕ) → k < length text → test (slice_index text k) ≡ false) → cut_at_last test text ≡ None
none_last test [] fails = refl
none_last test (byte ∷ rest) fails =
    let here : test byte ≡ false = fails 0 (omega arith) in
    let later : cut_at_last test rest ≡ None = none_last test rest (λ k within. fails (suc k) (omega (arith, within))) in
    rw (later, here) refl

-- this one passes, and none behind it
pub cut_last : (test : ℕ → Bool) (text : List ℕ) (place : ℕ) → place < length text → test (slice_index text place) ≡ true
    → ((k : ℕ) → place < k → k < length text → test (slice_index text k) ≡ false)
    → cut_at_last test text ≡ Some (take place text, drop (suc place) text)
cut_last test [] place within here fails = absurd (omega (arith, within))
cut_last test (byte ∷ rest) zero within here fails =
    let later : cut_at_last test rest ≡ None = none_last test rest (λ k inside. fails (suc k) (omega arith) (omega (arith, inside))) in
    rw (later, here) refl
cut_last test (byte ∷ rest) (suc place) within here fails =
    let later : cut_at_last test rest ≡ Some (take place rest, drop (suc place) rest) =
    cut_last test rest place (omega (arith, within)) here (λ k past inside. fails (suc k) (omega (arith, past)) (omega (arith, inside))) in
    rw later refl

-- ---- the same, of what a search from the end finds
pub found_last : (test : ℕ → Bool) (text : List ℕ) (place : ℕ) → NoneAfter (Passes test text) 0 (length text) place → Passes test text place
    → cut_at_last test text ≡ Some (take place text, drop (place + 1) text)
found_last test text place none at =
    let next : place + 1 ≡ suc place = omega arith in
    rw next (cut_last test text place none.high at (λ k past inside. false_from_ne_true _ (none.after k (omega (arith, past)) inside)))

pub found_nowhere : (test : ℕ → Bool) (text : List ℕ) → Nowhere (Passes test text) 0 (length text) → cut_at_last test text ≡ None
found_nowhere test text nowhere = none_last test text (λ k inside. false_from_ne_true _ (nowhere k (omega arith) inside))
