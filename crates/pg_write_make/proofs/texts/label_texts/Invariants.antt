use Rattle.std.proofs.Common.{◌≡◌, ◌++◌, drop}
use Rattle.pg_meaning.specs.Patterns.{texts_of as meant_texts}
use Rattle.pg_store.specs.Stores.{texts_of}
use Rattle.pg_syntax_tree.specs.View.{names_view}
use Rattle.pg_write_make.proofs.texts.label_texts.Given as goal

abbrev pub invariant-loop-label : goal.invariant-loop-label
invariant-loop-label l = meant_texts (names_view l.labels.items) ≡ texts_of l.texts.items ++ meant_texts (names_view (drop l.label-index l.labels.items))
