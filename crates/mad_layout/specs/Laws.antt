-- What holds of every field and every layout, in the terms of Bits and Layout.
use Rattle.std.specs.Prelude.{ℕ, ◌≡◌, ◌+◌, ◌*◌, ◌^◌, ◌<◌, ◌≤◌, ◌⊎◌, true, List, length, replicate, slice_range, slice_index, slice_set}
use Rattle.std.specs.Int.Digits.{AllBelowBase}
use Rattle.mad_layout.specs.Bits.{field, put_field}
use Rattle.mad_layout.specs.Layout.{Field, Holds, Fits, put_all, is_layout, Encodes, Sets}

-- a field that is set reads as the value
abbrev pub PutReadsBack : Type 0
PutReadsBack =
    (bytes : List ℕ) (off len value : ℕ) → off + len ≤ 8 * length bytes → value < 2 ^ len
    → field (put_field bytes off len value) off len ≡ value

-- a field that has no bit in common with it stays
abbrev pub PutLeavesOthers : Type 0
PutLeavesOthers =
    (bytes : List ℕ) (off len value off2 len2 : ℕ) → off + len ≤ 8 * length bytes → off2 + len2 ≤ 8 * length bytes
    → value < 2 ^ len → (off2 + len2 ≤ off) ⊎ (off + len ≤ off2)
    → field (put_field bytes off len value) off2 len2 ≡ field bytes off2 len2

-- a field of a part of the bytes is a field of the whole
abbrev pub PartsHaveFields : Type 0
PartsHaveFields =
    (bytes : List ℕ) (first last off len : ℕ) → AllBelowBase 256 bytes → first ≤ last → last ≤ length bytes
    → off + len ≤ 8 * length (slice_range bytes first last)
    → field (slice_range bytes first last) off len ≡ field bytes (8 * first + off) len

-- a byte is the field of its 8 bits
abbrev pub BytesAreFields : Type 0
BytesAreFields =
    (bytes : List ℕ) (place : ℕ) → AllBelowBase 256 bytes → place < length bytes
    → slice_index bytes place ≡ field bytes (8 * place) 8

-- to write a byte is to set that field
abbrev pub BytesAreSet : Type 0
BytesAreSet =
    (bytes : List ℕ) (place value : ℕ) → AllBelowBase 256 bytes → place < length bytes → value < 256
    → slice_set bytes place value ≡ put_field bytes (8 * place) 8 value

-- a layout written over bytes is set there
abbrev pub LayoutsSet : Type 0
LayoutsSet =
    (layout : List Field) (old : List ℕ) → is_layout (8 * length old) layout ≡ true → Fits layout
    → Sets old (put_all old layout) layout

-- a layout written over zero bytes is encoded there
abbrev pub LayoutsEncode : Type 0
LayoutsEncode =
    (layout : List Field) (size : ℕ) → is_layout (8 * size) layout ≡ true → Fits layout
    → Encodes (put_all (replicate size 0) layout) layout

-- what bytes hold is narrow enough to be written
abbrev pub WhatIsHeldFits : Type 0
WhatIsHeldFits = (bytes : List ℕ) (layout : List Field) → Holds bytes layout → Fits layout
