-- A record whose fields fit, with a value that fits in place of one.
use Rattle.std.proofs.Common.{◌≡◌, ℕ, Bool, true, false, not, ◌==◌, ◌||◌, ◌^◌, ◌<◌, nat_lt, if◌then◌else◌, List, [], ◌∷◌, map, sym, subst, inl, inr, Some}
use Rattle.std.specs.List.{find, list_all}
use Rattle.std.specs.Str.{bytes_eq}
use Rattle.std.proofs.lemmas.Bool.{and_parts, cases_Bool, eqb-true, ltb-true}
use Rattle.mad_layout.specs.Layout.{Field, Fits, at}
use Rattle.sa_records.specs.Asked.{Asked, asked_by, if_wide_enough, with_value}

-- each place at which the field stands is as wide as the field
unfoldable pub is_as_wide : List Field → Asked → Bool
is_as_wide layout one = list_all (λ p. not (p.off == one.off) || (p.len == one.len)) layout

one_fits : (same : Bool) (p : Field) (value len : ℕ) → (not same || (p.len == len)) ≡ true → value < 2 ^ len → p.value < 2 ^ p.len
    → (if same then at p.off p.len value else p).value < 2 ^ (if same then at p.off p.len value else p).len
one_fits true p value len wide narrow fits =
    let P : ℕ → Type 0 = λ n. value < 2 ^ n in
    subst P (sym (eqb-true p.len len wide)) narrow
one_fits false p value len wide narrow fits = fits

fits_put : (value : ℕ) (one : Asked) (layout : List Field) → value < 2 ^ one.len → is_as_wide layout one ≡ true → Fits layout
    → Fits (map (λ p. if p.off == one.off then at p.off p.len value else p) layout)
unfolding is_as_wide
fits_put value one [] narrow wide fits = tt
fits_put value one (p ∷ ps) narrow wide fits =
    let parts = and_parts (not (p.off == one.off) || (p.len == one.len)) _ wide in
    (one_fits (p.off == one.off) p value one.len parts.0 narrow fits.0, fits_put value one ps narrow parts.1 fits.1)

pub fits_with_value : (name : List ℕ) (value : ℕ) (fields : List Asked) (layout : List Field) → list_all (is_as_wide layout) fields ≡ true
    → Fits layout → Fits (with_value value (asked_by name value fields) layout)
unfolding asked_by
fits_with_value name value fields layout wide fits = over fields wide
  where
    one_found : (one : Asked) → is_as_wide layout one ≡ true → Fits (with_value value (if_wide_enough value (Some one)) layout)
    one_found one is_wide = elim (cases_Bool (nat_lt value (2 ^ one.len))) [
      | inl narrow ↦ rw narrow (fits_put value one layout (ltb-true value (2 ^ one.len) narrow) is_wide fits)
      | inr too_wide ↦ rw too_wide fits
    ]

    over : (asked : List Asked) → list_all (is_as_wide layout) asked ≡ true
        → Fits (with_value value (if_wide_enough value (find (λ one. bytes_eq name one.name) asked)) layout)
    over [] all = fits
    over (one ∷ rest) all =
        let parts = and_parts (is_as_wide layout one) _ all in
        elim (cases_Bool (bytes_eq name one.name)) [
          | inl this ↦ rw this (one_found one parts.0)
          | inr other ↦ rw other (over rest parts.1)
        ]
