use Rattle.std.proofs.Common.{◌≡◌, ◌+◌, ◌-◌, ◌<◌, ◌∷◌, length, Some, string_bytes, to_z, of_z, w64, sym, ap, subst, ◌∙◌, arith, rules}
use Rattle.json.specs.Reads.{token_of}
use Rattle.json.specs.Json.{parse_map, after_end_array, read_key, items, members, value}
use Rattle.json.proofs.Grammar.{read_key-shorter}
use Rattle.serde_json.specs.Data.{put}
use Rattle.serde_json.specs.Read.{of_items, of_members, converted}
use Rattle.pg_meaning.specs.Value.{null, boolean, integer, text}
use Rattle.pg_json.specs.Added.{BeginsWith, AddsItem}
use Rattle.pg_json.specs.Given.{data_giving, items_giving, members_giving, AreGiven, EntriesAreGiven}
use Rattle.pg_json.proofs.Added.{item_put, entry_put, null_begins, boolean_begins, number_begins, text_begins, list_begins, mapping_begins, begun_goes_on}
use Rattle.pg_json.proofs.Given.{members_giving-put, given_put}
use Rattle.pg_json.proofs.Reading.{item_read, items_over, member_read, members_over, items_before, items_before-no_items, one_more_item, given_push}
use Rattle.pg_value_core.specs.View.{view, values_view, entries_view}
use Rattle.pg_value_core.specs.declared.value.Value.{Null, Bool, Int, the_lemmas}
use Rattle.pg_json.proofs.parameters.+read.Goals as goal

pub other_value-returns-in-Null-clause-ok : goal.other_value-returns-in-Null-clause-ok
other_value-returns-in-Null-clause-ok t c =
    let seen : view Null ≡ null = search (rules, the_lemmas) in
    rw (c.in-Null.is, seen) (null_begins c.args.room (omega arith) c.args.reader.now)

pub other_value-returns-in-Bool-clause-ok : goal.other_value-returns-in-Bool-clause-ok
other_value-returns-in-Bool-clause-ok t c =
    let seen : view (Bool c.in-Bool.b) ≡ boolean c.in-Bool.b = search (rules, the_lemmas) in
    rw (c.in-Bool.is, seen) (boolean_begins c.args.room (omega arith) c.args.reader.now c.in-Bool.b)

pub add_entry-returns-in-Some-clause-ok : goal.add_entry-returns-in-Some-clause-ok
add_entry-returns-in-Some-clause-ok t c =
    let room = c.args.room in
    let rest = c.args.reader.now in
    let z = to_z w64 (of_z w64 c.in-Some.number) in
    let same : to_z w64 (of_z w64 c.in-Some.number) ≡ c.in-Some.number = search rules in
    let seen : view (Int z) ≡ integer z = search (rules, the_lemmas) in
    let begun : BeginsWith room (token_of c.args.token ∷ rest) (view (Int z)) rest =
    rw (c.in-Number.is, seen, same) (number_begins room (omega arith) rest c.in-Number.text.now c.in-Some.number c.in-Some.ensures.read c.in-Some.ensures.fits) in
    entry_put room (token_of c.args.token ∷ rest) rest c.put_value.result (Int z) (string_bytes c.args.key) (entries_view c.args.entries.now.entries) _ begun c.put_value.ensures

pub add_entry-returns-in_ok-text-in-String-clause-ok : goal.add_entry-returns-in_ok-text-in-String-clause-ok
add_entry-returns-in_ok-text-in-String-clause-ok t c =
    let room = c.args.room in
    let rest = c.args.reader.now in
    let v = c.in_ok-text-in-String.field-0 in
    let seen : view v ≡ text c.in-String.text.now = c.in_ok-text-in-String.ensures in
    let begun : BeginsWith room (token_of c.args.token ∷ rest) (view v) rest = rw (c.in-String.is, seen) (text_begins room (omega arith) rest c.in-String.text.now) in
    entry_put room (token_of c.args.token ∷ rest) rest c.put_value-in-String.result v (string_bytes c.args.key) (entries_view c.args.entries.now.entries) _ begun c.put_value-in-String.ensures

pub add_item-returns-in-Some-clause-ok : goal.add_item-returns-in-Some-clause-ok
add_item-returns-in-Some-clause-ok t c =
    let room = c.args.room in
    let rest = c.args.reader.now in
    let z = to_z w64 (of_z w64 c.in-Some.number) in
    let same : to_z w64 (of_z w64 c.in-Some.number) ≡ c.in-Some.number = search rules in
    let seen : view (Int z) ≡ integer z = search (rules, the_lemmas) in
    let begun : BeginsWith room (token_of c.args.token ∷ rest) (view (Int z)) rest =
    rw (c.in-Number.is, seen, same) (number_begins room (omega arith) rest c.in-Number.text.now c.in-Some.number c.in-Some.ensures.read c.in-Some.ensures.fits) in
    item_put room (token_of c.args.token ∷ rest) rest c.put_item.result (Int z) c.args.items.now.items _ begun c.put_item.ensures

pub add_item-returns-in_ok-text-in-String-clause-ok : goal.add_item-returns-in_ok-text-in-String-clause-ok
add_item-returns-in_ok-text-in-String-clause-ok t c =
    let room = c.args.room in
    let rest = c.args.reader.now in
    let v = c.in_ok-text-in-String.field-0 in
    let seen : view v ≡ text c.in-String.text.now = c.in_ok-text-in-String.ensures in
    let begun : BeginsWith room (token_of c.args.token ∷ rest) (view v) rest = rw (c.in-String.is, seen) (text_begins room (omega arith) rest c.in-String.text.now) in
    item_put room (token_of c.args.token ∷ rest) rest c.put_item-in-String.result v c.args.items.now.items _ begun c.put_item-in-String.ensures

pub read_list-returns-in-Some-EndArray-clause-ok : goal.read_list-returns-in-Some-EndArray-clause-ok
read_list-returns-in-Some-EndArray-clause-ok t c =
    let l = c.items in
    let n = l.invariant.0 in
    let r = c.next.new.self in
    let p = value (c.args.room + 61) in
    let over : after_end_array l.reader ≡ Some r = grind arith in
    let listed : parse_map (items_before l.found.items) (converted of_items (items p n l.reader)) ≡ Some (items_giving (values_view l.found.items), r) =
    ap (parse_map (items_before l.found.items)) (items_over p n l.reader r l.invariant.1 over) ∙ ap (λ ds. Some (ds, r)) (items_before-no_items l.found.items) in
    let all : converted of_items (items p (length c.args.reader.now) c.args.reader.now) ≡ Some (items_giving (values_view l.found.items), r) = l.invariant.2 ∙ listed in
    rw c.in_ok-list-in-Some-EndArray.ensures (list_begins c.args.room c.args.reader.now r (values_view l.found.items) all l.invariant.4)

pub read_list-items-preserved : goal.read_list-items-preserved
read_list-items-preserved t c =
    let room = c.args.room in
    let p = value (room + 61) in
    let l = c.items in
    let n = l.invariant.0 in
    let done : AddsItem room (token_of c.in-Some.token ∷ c.next.new.self) c.add_item.new.reader l.found.items c.add_item.new.items.items = c.in_ok-add_item-in-Some.ensures.ok in
    let v = done.added in
    let r = c.add_item.new.reader in
    let is : l.reader ≡ token_of c.in-Some.token ∷ c.next.new.self = grind arith in
    let begun : BeginsWith room l.reader (view v) r = rw is done.begins in
    let less : length r < length l.reader = rw is (omega (arith, c.in_ok-add_item-in-Some.ensures.shorter)) in
    let turn = item_read p n l.reader r (data_giving (view v)) (omega (arith, l.invariant.1)) (begun_goes_on room l.reader (view v) r begun) begun.read in (
      n - 1,
      omega (arith, l.invariant.1),
      l.invariant.2 ∙ ap (parse_map (items_before l.found.items)) turn ∙ one_more_item l.found.items v _
          ∙ ap (λ vs. parse_map (items_before vs) (converted of_items (items p (n - 1) r))) (sym done.behind),
      omega (arith, l.invariant.3),
      subst (λ vs. AreGiven room (values_view vs)) (sym done.behind) (given_push room l.found.items v l.invariant.4 begun.given),
    )

pub read_map-returns-clause-ok : goal.read_map-returns-clause-ok
read_map-returns-clause-ok t c =
    let es = entries_view c.in_ok-entries.entries.entries in
    let done = c.in_ok-entries.ensures in
    rw c.in_ok-map.ensures (mapping_begins c.args.room c.args.reader.now c.read_members.new.reader es done.ok done.given)

pub read_members-returns-in-Ok-None-clause-ok : goal.read_members-returns-in-Ok-None-clause-ok
read_members-returns-in-Ok-None-clause-ok t c =
    let p = value (c.args.room + 61) in
    let l = c.members in
    let n = l.invariant.0 in
    let old = members_giving (entries_view l.found.entries) in
    l.invariant.2 ∙ members_over p old n l.reader c.next_key.new.self l.invariant.1 (grind arith)

pub read_members-members-preserved : goal.read_members-members-preserved
read_members-members-preserved t c =
    let room = c.args.room in
    let p = value (room + 61) in
    let l = c.members in
    let n = l.invariant.0 in
    let es = entries_view l.found.entries in
    let old = members_giving es in
    let k = c.in-Ok-Some.name.now in
    let s = c.next_key.new.self in
    let named : read_key l.reader ≡ Some (Some k, s) = grind arith in
    let less = read_key-shorter l.reader (Some k) s named in
    let copied : string_bytes c.in_ok-key.key ≡ k = search rules in
    let done = c.in_ok-add_entry.ensures.ok in
    let v = done.added in
    let r = c.add_entry.new.reader in
    let is : s ≡ token_of c.in-Some.token ∷ c.next.new.self = grind arith in
    let begun : BeginsWith room s v r = rw is done.begins in
    let lesser : length r < length s = rw is (omega (arith, c.in_ok-add_entry.ensures.shorter)) in
    let inserted : members_giving (entries_view c.add_entry.new.entries.entries) ≡ put k (data_giving v) old =
    ap members_giving done.at_key ∙ members_giving-put (string_bytes c.in_ok-key.key) v es ∙ ap (λ name. put name (data_giving v) old) copied in (
      n - 1,
      omega (arith, l.invariant.1),
      l.invariant.2 ∙ member_read p old n k l.reader s r (data_giving v) (omega (arith, l.invariant.1)) named begun.read
          ∙ ap (λ found. converted (λ ms. of_members ms found) (members p (n - 1) r)) (sym inserted),
      omega (arith, l.invariant.3),
      subst (EntriesAreGiven room) (sym done.at_key) (given_put room (string_bytes c.in_ok-key.key) v es begun.given l.invariant.4),
    )
