-- What is wrong with the wrong rules for what is printed: a name is longer than what they print.
use Rattle.std.proofs.Common.{◌≡◌, ◌∙◌, ap, refl, sym, ℕ, ◌+◌, ◌≤◌, Bool, true, false, List, [], ◌∷◌, ◌++◌, codes, length, replicate, slice_get, Option, Some, None, arith}
use Rattle.std.specs.Fmt.{digits}
use Rattle.audit_plan.proofs.SubsliceLemmas.{no_longer, stands_behind, stands_itself, stands_longer}
use Rattle.audit_ports.specs.Names.{key_word, port_text}
use Rattle.fabric_parts.specs.Cable.{port}
use Rattle.fabric_parts.specs.declared.node_type.NodeType.TheVariants as node_type
use Rattle.topo_file.specs.declared.node.Node.{Node}
use Rattle.audit_ports.specs.declared.port.AuditedPort.{AuditedPort}
use Rattle.audit_ports.specs.declared.port.TrunkLack.{TrunkLack}
use Rattle.audit_keys.specs.declared.differences.Difference.{Difference}
use Rattle.audit_keys.specs.declared.differences.DifferenceKind.TheVariants.{Missing}
use Rattle.audit_keys.specs.Differences.{bases_with, differences_with, enforced_by}
use Rattle.audit_keys.specs.Examples.{with_table, holding}
use Rattle.audit_keys.specs.Text.{bases_line, counts_of, difference_line, half_part, keys_line, off_part, read_part, trunk_line, unread_line, unread_lines, unread_part}
use Rattle.audit_keys.specs.WrongRules.{DifferencesArePrinted, TrunksArePrinted, UnreadPortsArePrinted}

-- the adapters a/1, and another with a name of 400 letters
abbrev node : List ℕ → Node
node name = record { name = name; node_type = node_type.ChannelAdapter; guid = 32; ports = 1 }

abbrev nodes : List Node
nodes = node (codes "a") ∷ node (replicate 400 65) ∷ []

abbrev second : AuditedPort → AuditedPort
second one = record one { port = port 1 1 }

pub differences_are_printed : DifferencesArePrinted
unfolding bases_line bases_with counts_of difference_line differences_with digits enforced_by half_part keys_line off_part read_part unread_part
differences_are_printed law =
    let lacking = second (with_table (holding [])) in
    let missing : Difference = record { kind = Missing; port = port 1 1; key = 0x8001; is_opensms = false } in
    let line : List ℕ = difference_line nodes missing in
    let word : List ℕ = port_text nodes (port 1 1) in
    let long : 402 ≤ length line =
    no_longer line word
    (stands_longer word (10 ∷ []) (stands_longer word [] (stands_longer word (key_word 0x8001) (stands_behind word (codes "missing ") (stands_itself word))))) in
    let most : length line ≤ 200 = no_longer _ line ((law nodes false (lacking ∷ []) [] 0 lacking refl).keys 0 missing refl) in
    absurd (omega (arith, long, most))

pub unread_ports_are_printed : UnreadPortsArePrinted
unfolding bases_line bases_with counts_of difference_line differences_with digits enforced_by half_part keys_line off_part read_part unread_part
unread_ports_are_printed law =
    let unread = second (with_table None) in
    let most : 410 ≤ 224 = no_longer _ (unread_line nodes (port 1 1)) ((law nodes false (unread ∷ []) [] 0 unread refl).unread refl) in
    absurd (omega (arith, most))

pub trunks_are_printed : TrunksArePrinted
unfolding bases_line bases_with counts_of difference_line differences_with digits enforced_by half_part keys_line off_part read_part trunk_line unread_lines unread_part
trunks_are_printed law =
    let lack : TrunkLack = record { port = port 1 1; base = 1 } in
    let lacking = record (second (with_table (holding (0x8001 ∷ [])))) { lacks = lack ∷ [] } in
    let line : List ℕ = trunk_line nodes lack in
    let word : List ℕ = port_text nodes (port 1 1) in
    let long : 402 ≤ length line =
    no_longer line word
    (stands_longer word (10 ∷ []) (stands_longer word (key_word 1) (stands_longer word (codes " lacks") (stands_behind word (codes "trunk ") (stands_itself word))))) in
    let most : length line ≤ 200 = no_longer _ line ((law nodes false (lacking ∷ []) [] 0 lacking refl).trunks 0 lack refl) in
    absurd (omega (arith, long, most))
