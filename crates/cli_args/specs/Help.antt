-- The program's own texts in help, where a contract can see them: what clap makes of them is clap's.
use Rattle.std.specs.Prelude.{List, ℕ, ◌++◌, codes, Option, option_map}
use Rattle.std.specs.Borrow.{Bor}

-- a text that was set, if it was
abbrev pub text_in : Option (Bor (List ℕ)) → Option (List ℕ)
text_in given = option_map (λ text. text.now) given

-- the program's name in usage and help, whatever name its file has
abbrev pub program_name : List ℕ
program_name = codes "fabric"

abbrev pub program_version : List ℕ
program_version = codes "1.0.0"

-- what is printed of the version: `fabric 1.0.0` and LF
abbrev pub version_line : List ℕ
version_line = program_name ++ (codes " " ++ (program_version ++ codes "\n"))

abbrev pub about_program : List ℕ
about_program = codes "An InfiniBand subnet manager over a simulated fabric"

abbrev pub about_check : List ℕ
about_check = codes "Lists the ports of a subnet by LID, and the members of each partition with their P_Keys"

abbrev pub about_shares : List ℕ
about_shares = codes "Lists which ports may talk to each other, and in which partitions"

abbrev pub about_diff : List ℕ
about_diff = codes "Lists what changes if another partition file replaces the first"

abbrev pub about_tables : List ℕ
about_tables = codes "Prints the LFTs and MFTs of a subnet's switches, as dump_fts and dump_mfts do"

abbrev pub about_keys : List ℕ
about_keys = codes "Prints the P_Key tables of a subnet's ports"

abbrev pub about_trace : List ℕ
about_trace = codes "Prints the path of one packet, and why it ends"

abbrev pub about_graph : List ℕ
about_graph = codes "Draws a subnet's fabric, as input for Graphviz"

abbrev pub about_run : List ℕ
about_run = codes "Runs a script in a subnet, and prints what its ports receive"

abbrev pub about_smp : List ℕ
about_smp = codes "Answers SMPs at the SM port of a subnet, one after the other"

abbrev pub about_manage : List ℕ
about_manage = codes "Brings up a fabric by the SMPs that it prints, and reads their replies"

abbrev pub about_compare : List ℕ
about_compare = codes "Checks whether two scripts agree for a port, and whether its events are equal"

abbrev pub about_cuts : List ℕ
about_cuts = codes "Prints what the loss of each cable between switches would do, before it is cut"

abbrev pub about_import : List ℕ
about_import = codes "Makes a topology from what ibnetdiscover printed of a real fabric"

abbrev pub about_audit : List ℕ
about_audit = codes "Judges the LFTs of a real fabric: whether its routes are safe"

abbrev pub about_load : List ℕ
about_load = codes "Prints how many pairs go over each cable between two switches"

abbrev pub about_audit_keys : List ℕ
about_audit_keys = codes "Compares the P_Key tables of a real fabric with a partition file"

abbrev pub about_explain : List ℕ
about_explain = codes "Explains the code of an error or a refusal, or lists all codes"

abbrev pub help_of_topology : List ℕ
help_of_topology = codes "The topology file: switches, adapters, cables and the SM port"

abbrev pub help_of_partitions : List ℕ
help_of_partitions = codes "The partition file, or `-` for the default partition alone"

abbrev pub help_of_port : List ℕ
help_of_port = codes "An end port as `check` lists it: `h1/1`, or `A/0` for port 0 of switch A"

abbrev pub help_of_sender : List ℕ
help_of_sender = codes "The CA port that sends: `h1/1`"

abbrev pub help_of_dlid : List ℕ
help_of_dlid = codes "The LID that it is sent to: a number of 16 bits, as `5` or `0x0005`"

abbrev pub help_of_key : List ℕ
help_of_key = codes "The P_Key that it is sent with: a number of 16 bits, as `0x8001`"

abbrev pub help_of_second_partitions : List ℕ
help_of_second_partitions = codes "The partition file in its place, or `-` for the default partition alone"

abbrev pub help_of_code : List ℕ
help_of_code = codes "A code as it is printed: `PF2`, or `memory`"

abbrev pub help_of_script : List ℕ
help_of_script = codes "The script: what ports send and ask, and which cables are cut; `-` for standard input"

abbrev pub help_of_script_before : List ℕ
help_of_script_before = codes "A script that is run before"

abbrev pub help_of_replies : List ℕ
help_of_replies = codes "The replies, one on a line: `256:HEX` or `none`; `-` for standard input"

abbrev pub help_of_smps : List ℕ
help_of_smps = codes "The SMPs, one on a line: `256:HEX`; `-` for standard input"

abbrev pub help_of_first_script : List ℕ
help_of_first_script = codes "The first script"

abbrev pub help_of_second_script : List ℕ
help_of_second_script = codes "The second script"

abbrev pub help_of_compared : List ℕ
help_of_compared = codes "A CA port: `h1/1`; it may be the SM port"

abbrev pub help_of_first_end : List ℕ
help_of_first_end = codes "A switch port at one end of a cable: `A/3`"

abbrev pub help_of_second_end : List ℕ
help_of_second_end = codes "The switch port at its other end"

abbrev pub help_of_cuts : List ℕ
help_of_cuts = codes "Draws in red the cables that the fabric cannot do without"

abbrev pub help_of_load : List ℕ
help_of_load = codes "Draws cables in the width and colour of their loads"

abbrev pub help_of_fabric : List ℕ
help_of_fabric = codes "What ibnetdiscover printed of the fabric, or its topology"

abbrev pub help_of_all : List ℕ
help_of_all = codes "Lists each pair of ports, however many a partition has"

abbrev pub help_of_all_lines : List ℕ
help_of_all_lines = codes "Prints each line by switch and LID, which are counted otherwise"

abbrev pub help_of_all_pairs : List ℕ
help_of_all_pairs = codes "Counts all pairs, also those that may not talk"

abbrev pub help_of_balanced : List ℕ
help_of_balanced = codes "Spreads routes over the ports that lead equally far; without it the least is taken"

abbrev pub help_of_least_port : List ℕ
help_of_least_port = codes "Of the ports that lead equally far the least is taken; without it routes spread over them"

abbrev pub help_of_netdiscover : List ℕ
help_of_netdiscover = codes "What ibnetdiscover printed of the fabric"

abbrev pub help_of_pkeys : List ℕ
help_of_pkeys = codes "What tools/collect-keys printed: answers of smpquery"

abbrev pub help_of_manager : List ℕ
help_of_manager = codes "The GUID of the SM port: a number of 64 bits, as `0x101`"

abbrev pub help_of_roots : List ℕ
help_of_roots = codes "With `auto` the switches that are farthest from CAs become roots"

abbrev pub help_of_dump : List ℕ
help_of_dump = codes "The LFTs, as dump_fts prints them"

abbrev pub help_of_mfts : List ℕ
help_of_mfts = codes "The MFTs, as dump_fts -M prints them: multicast is judged too"

abbrev pub help_of_lanes : List ℕ
help_of_lanes = codes "What smpquery sl2vl and saquery PR print: routes are judged by virtual lanes"

-- ---- for arguments that the program itself refuses
abbrev pub not_text_line : List ℕ
not_text_line = codes "error: an argument is not UTF-8\n"
