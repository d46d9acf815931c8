use Rattle.cli_args.proofs.command_line.tables_command.Goals as goal

pub returns-clause-words : goal.returns-clause-words
returns-clause-words c =
    let scripts = c.with_arg-scripts.ensures _ _ c.subnet_command.ensures c.optional_script.ensures.rule in
    c.described.ensures.words _ (c.with_arg-command.ensures _ _ scripts c.balanced_flag.ensures.rule)
