use Rattle.std.proofs.Common.{◌≤◌, [], ◌++◌, length, sym, subst, append-nil}
use Rattle.pg_project.proofs.KeyColumns.{one_more}
use Rattle.pg_project.proofs.Turns.{none_left}
use Rattle.pg_project.specs.Alike.{ReadEach}
use Rattle.pg_project.specs.ReadyItems.{keys_of}
use Rattle.pg_project.proofs.alike.key_columns.Goals as goal

pub loop-key-init : goal.loop-key-init
loop-key-init c = λ rest h. subst (λ cs. ReadEach c.args.names.now (keys_of c.args.names.now c.args.keys.now.items) (cs ++ rest)) (sym c.new-columns.ensures.items) h

pub loop-key-preserved : goal.loop-key-preserved
loop-key-preserved c =
    let l = c.loop-key in
    one_more c.args.names.now c.args.keys.now.items l.key-index l.columns.items l.invariant c.deref-key-items.result.now c.deref-key-items.ensures.value c.key-item.result c.loop-key-test.true c.key-item.is
    c.in-Some.column c.in-Some.ensures c.push.new.self.items c.in_ok-push.ensures.items

pub returns : goal.returns
returns c =
    let names = c.args.names.now in
    let keys = c.args.keys.now.items in
    let l = c.loop-key in
    subst (λ cs. ReadEach names (keys_of names keys) cs) (append-nil l.columns.items)
    (l.invariant [] (subst (λ ks. ReadEach names (keys_of names ks) []) (sym (none_left keys l.key-index (subst (λ ks. length ks ≤ l.key-index) c.deref-key-items.ensures.value c.loop-key-test.false))) tt))
