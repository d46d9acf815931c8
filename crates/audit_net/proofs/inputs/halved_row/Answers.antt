use Rattle.std.proofs.Common.{◌≡◌, ap, refl, sym, ◌∙◌, arith, true, false, Some, ◌==◌, slice_get}
use Rattle.std.specs.Option.{option_copied}
use Rattle.std.proofs.lemmas.Bool.{eq-eqb}
use Rattle.std.proofs.lemmas.Bool.Decides.{nat_tests}
use Rattle.std.proofs.lemmas.Option.{slice_get-get_or, slice_get_past}
use Rattle.dump_file.specs.declared.row.Row.{Row}
use Rattle.audit_net.proofs.NetLemmas.{halved, if_its, rows_sorted}
use Rattle.audit_net.proofs.inputs.halved_row.Goals as goal

pub count_below-place-requires : goal.count_below-place-requires
count_below-place-requires c = rows_sorted 0 c.args.top c.args.rows.now c.requires

pub returns : goal.returns
returns c =
    let rows = c.args.rows.now in
    let place = c.count_below-place.result in
    let row = c.in_ok-row.row.now in
    let parts = c.count_below-place.ensures in
    let found = c.in_ok-row.ensures.lookup in
    let whole = halved c.args.lid place 0 c.args.top rows c.requires (λ k d less within. parts.0 k d (omega arith) less) (λ d within. parts.1 place d (omega arith) within) in
    let there : slice_get rows place ≡ Some row = slice_get-get_or rows place row found.3.0 ∙ ap (λ (r : Row). Some r) (sym found.1) in
    let its : (row.lid == c.args.lid) ≡ true = eq-eqb row.lid c.args.lid c.if-row-lid.false in
    sym (whole ∙ ap (if_its c.args.lid) there ∙ (rw its refl))

pub returns-in_err-row : goal.returns-in_err-row
returns-in_err-row c =
    let rows = c.args.rows.now in
    let place = c.count_below-place.result in
    let parts = c.count_below-place.ensures in
    let past = c.in_err-row.ensures.lookup in
    let whole = halved c.args.lid place 0 c.args.top rows c.requires (λ k d less within. parts.0 k d (omega arith) less) (λ d within. parts.1 place d (omega arith) within) in
    ap option_copied c.from_residual.ensures ∙ sym (whole ∙ ap (if_its c.args.lid) (slice_get_past rows place past.3))

pub returns-then-row-lid : goal.returns-then-row-lid
returns-then-row-lid c =
    let rows = c.args.rows.now in
    let place = c.count_below-place.result in
    let row = c.in_ok-row.row.now in
    let parts = c.count_below-place.ensures in
    let found = c.in_ok-row.ensures.lookup in
    let whole = halved c.args.lid place 0 c.args.top rows c.requires (λ k d less within. parts.0 k d (omega arith) less) (λ d within. parts.1 place d (omega arith) within) in
    let there : slice_get rows place ≡ Some row = slice_get-get_or rows place row found.3.0 ∙ ap (λ (r : Row). Some r) (sym found.1) in
    let other : (row.lid == c.args.lid) ≡ false = grind (arith, nat_tests) in
    sym (whole ∙ ap (if_its c.args.lid) there ∙ (rw other refl))
