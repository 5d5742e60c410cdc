use Rattle.std.proofs.Common.{map, take}
use Rattle.pg_json.specs.Telling.{HasNamed}
use Rattle.pg_meaning.specs.Scopes.{column_names, return_column}
use Rattle.pg_syntax_tree.specs.View.{item_view}
use Rattle.pg_run.proofs.reply_writer.ReplyWriter.begin_items.Given as goal

abbrev pub invariant-loop-item : goal.invariant-loop-item
invariant-loop-item l = HasNamed l.head (column_names (map return_column (map item_view (take l.item-index l.items.items))))
