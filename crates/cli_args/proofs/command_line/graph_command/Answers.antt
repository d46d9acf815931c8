use Rattle.cli_args.proofs.command_line.graph_command.Goals as goal

pub returns-clause-words : goal.returns-clause-words
returns-clause-words c =
    let drawn = c.with_arg-drawn.ensures _ _ c.subnet_command.ensures c.optional_script.ensures.rule in
    let cuts = c.with_arg-cuts.ensures _ _ drawn c.cuts_flag.ensures.rule in
    let loads = c.with_arg-loads.ensures _ _ cuts c.load_flag.ensures.rule in
    let pairs = c.with_arg-pairs.ensures _ _ loads c.all_pairs_flag.ensures.rule in
    c.described.ensures.words _ (c.with_arg-command.ensures _ _ pairs c.balanced_flag.ensures.rule)
