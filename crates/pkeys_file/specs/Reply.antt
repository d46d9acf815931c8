-- What the fields and rows behind a query make: a whole answer, or none.
use Rattle.std.specs.Prelude.{ℕ, Bool, List, take, Option, Some, None}
use Rattle.pkeys_file.specs.declared.answer.Reply.{Reply}
use Rattle.pkeys_file.specs.declared.answer.Reply.TheVariants.{Unread, Node, Switch, Keys, Port}
use Rattle.pkeys_file.specs.declared.fields.Fields.{Fields}
use Rattle.pkeys_file.specs.declared.query.QueryKind.{QueryKind}
use Rattle.pkeys_file.specs.declared.query.QueryKind.TheVariants as kinds

abbrev pub node_by : Option ℕ → Option ℕ → Option ℕ → Reply
node_by (Some guid) (Some port) (Some capacity) = Node (record { guid = guid; port_guid = port; capacity = capacity })
node_by _ _ _ = Unread

abbrev pub node_reply : Fields → Reply
node_reply fields = node_by fields.guid fields.port_guid fields.capacity

abbrev pub switch_by : Option ℕ → Reply
switch_by (Some capacity) = Switch capacity
switch_by None = Unread

abbrev pub switch_reply : Fields → Reply
switch_reply fields = switch_by fields.capacity

-- the places past the capacity are none
abbrev pub keys_by : Option ℕ → List ℕ → Reply
keys_by (Some capacity) words = Keys (take capacity words)
keys_by None words = Unread

abbrev pub keys_reply : Fields → List ℕ → Reply
keys_reply fields words = keys_by fields.capacity words

abbrev pub port_by : Option Bool → Option Bool → Reply
port_by (Some inbound) (Some outbound) = Port inbound outbound
port_by _ _ = Unread

abbrev pub port_reply : Fields → Reply
port_reply fields = port_by fields.inbound fields.outbound

abbrev pub reply_by : QueryKind → Fields → List ℕ → Reply
reply_by kinds.NodeInfo fields words = node_reply fields
reply_by kinds.SwitchInfo fields words = switch_reply fields
reply_by kinds.Keys fields words = keys_reply fields words
reply_by kinds.PortInfo fields words = port_reply fields
