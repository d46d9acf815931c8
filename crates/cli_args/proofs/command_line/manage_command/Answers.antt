use Rattle.cli_args.proofs.command_line.manage_command.Goals as goal

pub returns-clause-words : goal.returns-clause-words
returns-clause-words c =
    let replies = c.with_arg-replies.ensures _ _ c.subnet_command.ensures c.wanted_replies.ensures.rule in
    c.described.ensures.words _ (c.with_arg-command.ensures _ _ replies c.least_port_flag.ensures.rule)
