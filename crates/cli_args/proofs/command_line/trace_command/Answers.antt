use Rattle.cli_args.proofs.command_line.trace_command.Goals as goal

pub returns-clause-words : goal.returns-clause-words
returns-clause-words c =
    let sent = c.with_arg-sent.ensures _ _ c.subnet_command.ensures c.wanted_port.ensures.rule in
    let dlid = c.with_arg.ensures _ _ sent c.wanted_dlid.ensures.rule in
    let packet = c.with_arg-packet.ensures _ _ dlid c.wanted_key.ensures.rule in
    let scripts = c.with_arg-scripts.ensures _ _ packet c.optional_script.ensures.rule in
    c.described.ensures.words _ (c.with_arg-command.ensures _ _ scripts c.balanced_flag.ensures.rule)
