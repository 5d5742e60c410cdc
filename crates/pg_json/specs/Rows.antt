-- A query's reply with all its rows.
use Rattle.std.specs.Prelude.{ℕ, List, [], ◌∷◌}
use Rattle.serde_json.specs.Data.{Items, no_items, item, array}
use Rattle.serde_json.specs.Written.{compact_text}
use Rattle.pg_json.specs.Replies.{query_data}

-- the rows, and what follows them
abbrev pub rows_before : List Items → Items → Items
rows_before [] ds = ds
rows_before (row ∷ rows) ds = item (array row) (rows_before rows ds)

abbrev pub rows_data : List Items → Items
rows_data rows = rows_before rows no_items

-- {"code":0,"columns":[..],"rows":[[..],..],"steps":n}
unfoldable pub rows_text : Items → List Items → ℕ → List ℕ
rows_text columns rows steps = compact_text (query_data columns (rows_data rows) steps)
