use Rattle.std.proofs.Common.{◌≡◌, None, sym, ap, ◌∙◌}
use Rattle.partition_file.specs.Cases.{fault_of}
use Rattle.partition_file.specs.ScanState.{ScanState}
use Rattle.partition_file.specs.Tokens.{token_of}
use Rattle.partition_file.proofs.CaseLemmas.{MayEnd, as_before, may_end, still_sound}
use Rattle.partition_file.proofs.scan.Scan.go_on.Goals as goal

pub invariant_of-self : goal.invariant_of-self
invariant_of-self c =
    let inside = c.self.inside in
    as_before (record { at = inside.part; current = inside.current; done = inside.done }) c.take_piece.new.self c.self.invariant
    c.in_err-take_piece.ensures.err_base c.in_err-take_piece.ensures.err_flags

pub push-requires : goal.push-requires
push-requires c =
    let inside = c.self.inside in
    let s : ScanState = record { at = inside.part; current = inside.current; done = inside.done } in
    let piece = c.args.piece.items in
    let token = c.args.token in
    let says : token ≡ token_of inside.part piece = c.requires.says ∙ sym (ap (λ (s : ScanState). token_of s.at piece) c.self.view_is) in
    let none : fault_of s c.args.delimiter token ≡ None = ap (λ (s : ScanState). fault_of s c.args.delimiter token) c.self.view_is ∙ c.requires.clean in
    let whole : MayEnd inside.done c.replace-whole.result =
    may_end s c.args.delimiter token piece c.replace-whole.result c.self.invariant says none
    (c.replace-whole.ensures.value ∙ c.in_ok-take_piece.ensures.ok) (sym c.is_semicolon.ensures ∙ c.if-is_semicolon.true) in
    record { valid = whole.valid; flags = whole.flags; room = whole.room }

pub invariant_of-self-else-is_semicolon : goal.invariant_of-self-else-is_semicolon
invariant_of-self-else-is_semicolon c =
    let inside = c.self.inside in
    let s : ScanState = record { at = inside.part; current = inside.current; done = inside.done } in
    let piece = c.args.piece.items in
    let token = c.args.token in
    let says : token ≡ token_of inside.part piece = c.requires.says ∙ sym (ap (λ (s : ScanState). token_of s.at piece) c.self.view_is) in
    let none : fault_of s c.args.delimiter token ≡ None = ap (λ (s : ScanState). fault_of s c.args.delimiter token) c.self.view_is ∙ c.requires.clean in
    rw c.after-after.ensures
    (still_sound s c.args.delimiter token piece c.take_piece.new.self c.self.invariant says none c.in_ok-take_piece.ensures.ok)
