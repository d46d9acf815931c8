use Rattle.cli_args.proofs.command_line.cuts_command.Goals as goal

pub returns-clause-words : goal.returns-clause-words
returns-clause-words c =
    let first = c.with_arg-first.ensures _ _ c.subnet_command.ensures c.optional_first_end.ensures.rule in
    let ends = c.with_arg-ends.ensures _ _ first c.optional_second_end.ensures.rule in
    c.described.ensures.words _ (c.with_arg-command.ensures _ _ ends c.balanced_flag.ensures.rule)
