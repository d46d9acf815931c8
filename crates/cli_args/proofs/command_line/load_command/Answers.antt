use Rattle.cli_args.proofs.command_line.load_command.Goals as goal

pub returns-clause-words : goal.returns-clause-words
returns-clause-words c =
    let found = c.with_arg-found.ensures _ _ c.new.ensures.app c.wanted_fabric.ensures.rule in
    let files = c.with_arg-files.ensures _ _ found c.optional_partitions.ensures.rule in
    let runs = c.with_arg-runs.ensures _ _ files c.optional_script.ensures.rule in
    let dumps = c.with_arg.ensures _ _ runs c.dump_option.ensures.rule in
    let pairs = c.with_arg-pairs.ensures _ _ dumps c.all_pairs_flag.ensures.rule in
    c.described.ensures.words _ (c.with_arg-command.ensures _ _ pairs c.balanced_flag.ensures.rule)
