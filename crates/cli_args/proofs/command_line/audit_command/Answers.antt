use Rattle.cli_args.proofs.command_line.audit_command.Goals as goal

pub returns-clause-words : goal.returns-clause-words
returns-clause-words c =
    let found = c.with_arg-found.ensures _ _ c.new.ensures.app c.wanted_fabric.ensures.rule in
    let files = c.with_arg-files.ensures _ _ found c.wanted_dump.ensures.rule in
    let masks = c.with_arg-masks.ensures _ _ files c.mfts_option.ensures.rule in
    let lanes = c.with_arg.ensures _ _ masks c.lanes_option.ensures.rule in
    c.described.ensures.words _ (c.with_arg-command.ensures _ _ lanes c.all_lines_flag.ensures.rule)
