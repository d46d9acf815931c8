-- Tables that are written block by block.
use Rattle.std.proofs.Common.{ℕ, ◌≡◌, ◌+◌, ◌*◌, ◌<◌, ◌≤◌, ◌∙◌, ap, sym, true, List, ◌++◌, length, take, drop, arith, length-take-le}
use Rattle.std.proofs.lemmas.List.{append_assoc, drop_at, take_at}
use Rattle.std.proofs.lemmas.Slice.{drop-append-drop}
use Rattle.std.proofs.Math.Seq.{take-add}
use Rattle.attr_tables.specs.Blocks.{block_of, has_block, with_block}
use Rattle.agent_rules.proofs.TableLemmas.{block_within}

-- what is written in a block is read there
pub block_back : (size block : ℕ) (entries table : List ℕ) → 0 < size → length entries ≡ size → has_block size block table ≡ true
    → block_of size block (with_block size block entries table) ≡ entries
unfolding block_of with_block
block_back size block entries table some long there =
    let within = block_within size block table some there in
    let front : length (take (size * block) table) ≡ size * block = length-take-le (size * block) table (omega (arith, within)) in
    ap (take size) (drop_at (take (size * block) table) (entries ++ drop (size * block + size) table) (size * block) front)
    ∙ take_at entries (drop (size * block + size) table) size long

-- the next block of a table, behind those that are written
pub blocks_join : (size block : ℕ) (table old : List ℕ) → size * block ≤ length table
    → with_block size block (block_of size block table) (take (size * block) table ++ drop (size * block) old)
    ≡ take (size * block + size) table ++ drop (size * block + size) old
unfolding block_of with_block
blocks_join size block table old within =
    let first = size * block in
    let front : length (take first table) ≡ first = length-take-le first table within in
    let begins : take first (take first table ++ drop first old) ≡ take first table = take_at (take first table) (drop first old) first front in
    let ends : drop (first + size) (take first table ++ drop first old) ≡ drop (first + size) old =
    drop-append-drop first old (take first table) (first + size) (omega arith) front in
    rw (begins, ends) (sym (append_assoc (take first table) (take size (drop first table)) (drop (first + size) old))
    ∙ ap (λ (some : List ℕ). some ++ drop (first + size) old) (sym (take-add first size table)))
